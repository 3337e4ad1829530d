-- The chunk of stripes, and the stripe of a chunk: there is one, and there is no other.
use Rattle.std.proofs.Common.{◌≡◌, ℕ, zero, suc, ◌+◌, ◌*◌, ◌/◌, ◌%◌, ◌^◌, ◌<◌, ◌≤◌, List, [], ◌∷◌, length, map, slice_index, sym, ap, subst, ◌∙◌, arith, lit<}
use Rattle.std.specs.List.{range_with_len}
use Rattle.std.proofs.lemmas.List.{length-map, get_or-map}
use Rattle.std.proofs.lemmas.List.FromFn.{length-range_with_len, length-map-range_with_len, get_or-map-range_with_len}
use Rattle.std.proofs.lemmas.Nat.{div-mul-add, mod-mul-add}
use Rattle.std.proofs.Math.Nat.{mul_comm, div-lt_iff_lt-mul, div-add-mod, mul-div_cancel_left}
use Rattle.std.proofs.lemmas.Grind.{same_number_lists}
use Rattle.lr_field.specs.Polynomial.{AreBytes, IsDistinct, IsOnPolynomial, value_at}
use Rattle.lr_field.proofs.Public.{AreBytes_from, any_values, values_fix, is_field}
use Rattle.lr_stripe.specs.Code.{points, column, part_of, AreStripes, StripesAreOfOneChunk, ChunkHasOneStripe}
use Rattle.lr_stripe.proofs.Columns.{length-column, get_or-column, get_or-part_of, length-part_of, part_within, AreBytes-points, IsDistinct-points, column_is_on_polynomial}
use Rattle.lr_stripe.proofs.Rebuilt.{stripe_at, some_at}

-- an element of a list of bytes is a byte
pub byte_at : (xs : List ℕ) (i : ℕ) → AreBytes xs → slice_index xs i < 2 ^ 8
byte_at [] zero h = lit< tt
byte_at [] (suc i) h = lit< tt
byte_at (x ∷ xs) zero h = h.0
byte_at (x ∷ xs) (suc i) h = byte_at xs i h.1

-- a value of a polynomial at a byte is a byte
value_is_byte : (cs : List ℕ) (x : ℕ) → AreBytes cs → x < 2 ^ 8 → value_at cs x < 2 ^ 8
unfolding value_at
value_is_byte [] x h lx = lit< tt
value_is_byte (c ∷ cs) x h lx = is_field.sum_closed c _ h.0 (is_field.closed x (value_at cs x) lx (value_is_byte cs x h.1 lx))

-- the bytes of the stripes at a place lie on a polynomial
through : (k len : ℕ) (indices stripes : List ℕ) → AreBytes indices → IsDistinct indices → length indices ≡ k → AreBytes stripes → (t : ℕ)
    → IsOnPolynomial k indices (column k len t stripes)
through k len indices stripes bytes apart count small t =
    let here : AreBytes (column k len t stripes) =
    AreBytes_from (column k len t stripes) (λ i lt. let within : i < k = omega (arith, length-column k len t stripes) in
    subst (λ (x : ℕ). x < 2 ^ 8) (sym (get_or-column k len t stripes i within)) (byte_at stripes (len * i + t) small)) in
    subst (λ (n : ℕ). IsOnPolynomial n indices (column k len t stripes)) count
    (any_values indices (column k len t stripes) bytes here apart (length-column k len t stripes ∙ sym count))

-- the chunk whose bytes at a place are the values of a polynomial of this place
abbrev pub made_of : ℕ → ℕ → (ℕ → List ℕ) → List ℕ
made_of k len cs = map (λ n. value_at (cs (n % len)) (n / len)) (range_with_len 0 (k * len))

made_at : (k len : ℕ) (cs : ℕ → List ℕ) (j t : ℕ) → j < k → t < len → slice_index (made_of k len cs) (len * j + t) ≡ value_at (cs t) j
made_at k len cs j t lj lt =
    let within : len * j + len ≤ k * len = part_within k j len lj in
    let swap : len * j ≡ j * len = mul_comm len j in
    let place : len * j + t ≡ j * len + t = ap (λ (n : ℕ). n + t) swap in
    get_or-map-range_with_len (λ n. value_at (cs (n % len)) (n / len)) 0 (k * len) (len * j + t) (j * len + t) 0 (omega arith) (omega arith)
    ∙ ap (λ (n : ℕ). value_at (cs n) ((j * len + t) / len)) (mod-mul-add j len t lt) ∙ ap (value_at (cs t)) (div-mul-add j len t lt)

made_is_bytes : (k len : ℕ) (cs : ℕ → List ℕ) → k ≤ 32 → 0 < len → ((t : ℕ) → AreBytes (cs t)) → AreBytes (made_of k len cs)
made_is_bytes k len cs le some bytes =
    AreBytes_from (made_of k len cs) (λ n lt.
    let within : n < k * len = omega (arith, length-map-range_with_len (λ (i : ℕ). value_at (cs (i % len)) (i / len)) 0 (k * len)) in
    let part : n / len < 2 ^ 8 = let below : n / len < k = (div-lt_iff_lt-mul {k = len} {x = n} {y = k} some).1 within in omega arith in
    subst (λ (x : ℕ). x < 2 ^ 8) (sym (get_or-map-range_with_len (λ (i : ℕ). value_at (cs (i % len)) (i / len)) 0 (k * len) n n 0 within (omega arith)))
    (value_is_byte (cs (n % len)) (n / len) (bytes (n % len)) part))

-- the values of the polynomial at the points are the column
made_column : (k len : ℕ) (cs : ℕ → List ℕ) (t : ℕ) → t < len → column k len t (made_of k len cs) ≡ map (value_at (cs t)) (points k)
made_column k len cs t lt =
    same_number_lists (column k len t (made_of k len cs)) (map (value_at (cs t)) (points k))
    (length-column k len t (made_of k len cs) ∙ sym (length-map-range_with_len (value_at (cs t)) 0 k))
    (λ j lj. let within : j < k = omega (arith, length-column k len t (made_of k len cs)) in
    get_or-column k len t (made_of k len cs) j within ∙ made_at k len cs j t within lt ∙ sym (get_or-map-range_with_len (value_at (cs t)) 0 k j j 0 within (omega arith)))

-- the polynomials through the stripes make their chunk
made_are : (k len : ℕ) (indices stripes : List ℕ) (cs : ℕ → List ℕ) → 0 < k → k ≤ 32 → 0 < len → AreBytes indices → length indices ≡ k → length stripes ≡ k * len
    → ((t : ℕ) → AreBytes (cs t)) → ((t : ℕ) → length (cs t) ≡ k) → ((t : ℕ) → column k len t stripes ≡ map (value_at (cs t)) indices)
    → AreStripes k len (made_of k len cs) indices stripes
made_are k len indices stripes cs one le some bytes count whole small long values =
    let made : List ℕ = made_of k len cs in
    let made_small : AreBytes made = made_is_bytes k len cs le some small in
    record {
      bytes = made_small;
      each = λ i li.
          let part : List ℕ = part_of len i stripes in
          let n : length part ≡ len = length-part_of stripes k len i whole li in
          let x : ℕ = slice_index indices i in
          record {
            parts = length-map-range_with_len (λ (m : ℕ). value_at (cs (m % len)) (m / len)) 0 (k * len) ∙ ap (λ (m : ℕ). k * m) (sym n);
            some = λ t lt. column_is_on_polynomial k (length part) t made le (λ m. byte_at made m made_small);
            each = λ t lt ds ds_small ds_long e.
                let within : t < len = omega arith in
                let there : column k len t made ≡ map (value_at ds) (points k) = subst (λ (m : ℕ). column k m t made ≡ map (value_at ds) (points k)) n e in
                let same : map (value_at (cs t)) (points k) ≡ map (value_at ds) (points k) = sym (made_column k len cs t within) ∙ there in
                let points_long : length (points k) ≡ k = length-range_with_len 0 k in
                let inside : i < length indices = omega arith in
                get_or-part_of stripes len i t within ∙ sym (get_or-column k len t stripes i li) ∙ ap (λ (l : List ℕ). slice_index l i) (values t)
                ∙ get_or-map (value_at (cs t)) indices i 0 0 inside
                ∙ values_fix (points k) (cs t) ds (AreBytes-points k le) (IsDistinct-points k) (small t) ds_small (long t ∙ sym points_long) (ds_long ∙ sym points_long) same x (byte_at indices i bytes);
          };
    }

-- two chunks of the same stripes are the same
pub same_chunk : (k len : ℕ) (indices stripes a b : List ℕ) → 0 < k → k ≤ 32 → 0 < len → AreBytes indices → IsDistinct indices → length indices ≡ k → length stripes ≡ k * len
    → AreStripes k len a indices stripes → AreStripes k len b indices stripes → a ≡ b
same_chunk k len indices stripes a b one le some bytes apart count whole ra rb =
    let part_long : (i : ℕ) → i < k → length (part_of len i stripes) ≡ len = λ i li. length-part_of stripes k len i whole li in
    let long_a : length a ≡ k * len = (ra.each 0 one).parts ∙ ap (λ (n : ℕ). k * n) (part_long 0 one) in
    let long_b : length b ≡ k * len = (rb.each 0 one).parts ∙ ap (λ (n : ℕ). k * n) (part_long 0 one) in
    same_number_lists a b (long_a ∙ sym long_b) (λ n lt.
    let j : ℕ = n / len in
    let t : ℕ = n % len in
    let lj : j < k = (div-lt_iff_lt-mul {k = len} {x = n} {y = k} some).1 (omega arith) in
    let within : t < len = omega arith in
    let place : len * j + t ≡ n = div-add-mod n len in
    let p = some_at k (slice_index indices 0) len a (part_of len 0 stripes) (ra.each 0 one) (part_long 0 one) t within in
    let q = some_at k (slice_index indices 0) len b (part_of len 0 stripes) (rb.each 0 one) (part_long 0 one) t within in
    let same : map (value_at p.0) indices ≡ map (value_at q.0) indices =
    same_number_lists (map (value_at p.0) indices) (map (value_at q.0) indices) (length-map indices (value_at p.0) ∙ sym (length-map indices (value_at q.0)))
    (λ i li. let inside : i < length indices = omega (arith, length-map indices (value_at p.0)) in
    let below : i < k = omega arith in
    get_or-map (value_at p.0) indices i 0 0 inside
    ∙ sym (stripe_at k (slice_index indices i) len a (part_of len i stripes) (ra.each i below) (part_long i below) t within p.0 p.1.0 p.1.1 p.1.2)
    ∙ stripe_at k (slice_index indices i) len b (part_of len i stripes) (rb.each i below) (part_long i below) t within q.0 q.1.0 q.1.1 q.1.2
    ∙ sym (get_or-map (value_at q.0) indices i 0 0 inside)) in
    let here : slice_index a (len * j + t) ≡ value_at p.0 j =
    sym (get_or-column k len t a j lj) ∙ ap (λ (l : List ℕ). slice_index l j) p.1.2 ∙ get_or-map-range_with_len (value_at p.0) 0 k j j 0 lj (omega arith) in
    let there : slice_index b (len * j + t) ≡ value_at q.0 j =
    sym (get_or-column k len t b j lj) ∙ ap (λ (l : List ℕ). slice_index l j) q.1.2 ∙ get_or-map-range_with_len (value_at q.0) 0 k j j 0 lj (omega arith) in
    ap (slice_index a) (sym place) ∙ here
    ∙ values_fix indices p.0 q.0 bytes apart p.1.0 q.1.0 (p.1.1 ∙ sym count) (q.1.1 ∙ sym count) same j (omega arith)
    ∙ sym there ∙ ap (slice_index b) place)

pub one_chunk : StripesAreOfOneChunk
one_chunk k len indices stripes one le some bytes apart count small whole =
    let p : (t : ℕ) → IsOnPolynomial k indices (column k len t stripes) = through k len indices stripes bytes apart count small in
    let cs : ℕ → List ℕ = λ t. (p t).0 in
    let are : AreStripes k len (made_of k len cs) indices stripes =
    made_are k len indices stripes cs one le some bytes count whole (λ t. (p t).1.0) (λ t. (p t).1.1) (λ t. (p t).1.2) in
    (made_of k len cs, (are, λ other others. same_chunk k len indices stripes other (made_of k len cs) one le some bytes apart count whole others are))

pub one_stripe : ChunkHasOneStripe
one_stripe k chunk j a b some ra rb =
    let twice : k * length a ≡ k * length b = sym ra.parts ∙ rb.parts in
    let long : length a ≡ length b = sym (mul-div_cancel_left (length a) {n = k} some) ∙ ap (λ (n : ℕ). n / k) twice ∙ mul-div_cancel_left (length b) {n = k} some in
    same_number_lists a b long (λ t lt.
    let p = ra.some t lt in
    ra.each t lt p.0 p.1.0 p.1.1 p.1.2
    ∙ sym (rb.each t (omega arith) p.0 p.1.0 p.1.1 (subst (λ (n : ℕ). column k n t chunk ≡ map (value_at p.0) (points k)) long p.1.2)))

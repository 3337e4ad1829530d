-- A chunk from stripes of it.
use Rattle.std.proofs.Common.{◌≡◌, ℕ, ◌+◌, ◌-◌, ◌*◌, ◌^◌, ◌<◌, ◌≤◌, List, [], ◌++◌, inl, inr, take, length-take-le, length, map, slice_index, slice_index_or, sym, ap, subst, ◌∙◌, arith}
use Rattle.std.proofs.lemmas.List.{length-map, get_or-map, get_or-take, get_or_append_left, get_or-append_right}
use Rattle.std.proofs.lemmas.Bool.{cases_lt}
use borrow.Rule.Slice.PartMut.{put_mid, post_of}
use Rattle.std.proofs.lemmas.List.FromFn.{length-range_with_len, get_or-map-range_with_len}
use Rattle.std.proofs.lemmas.Grind.{same_number_lists}
use Rattle.lr_field.specs.Polynomial.{AreBytes, IsOnPolynomial, GivesValue, weighted, value_at}
use Rattle.lr_stripe.specs.Code.{points, column, part_of, IsStripe, AreStripes, StripesAreCodeword}
use Rattle.lr_stripe.proofs.Columns.{length-column, get_or-column, get_or-part_of, length-part_of, column_is_on_polynomial}

-- a stripe's byte is the value of the polynomial through the bytes of the parts
pub stripe_at : (k x len : ℕ) (chunk stripe : List ℕ) → IsStripe k chunk x stripe → length stripe ≡ len → (t : ℕ) → t < len → (cs : List ℕ) → AreBytes cs → length cs ≡ k
    → column k len t chunk ≡ map (value_at cs) (points k) → slice_index stripe t ≡ value_at cs x
stripe_at k x len chunk stripe s e t lt cs bytes count values =
    s.each t (omega arith) cs bytes count (ap (λ (n : ℕ). column k n t chunk) e ∙ values)

pub some_at : (k x len : ℕ) (chunk stripe : List ℕ) → IsStripe k chunk x stripe → length stripe ≡ len → (t : ℕ) → t < len → IsOnPolynomial k (points k) (column k len t chunk)
some_at k x len chunk stripe s e t lt = subst (λ (n : ℕ). IsOnPolynomial k (points k) (column k n t chunk)) e (s.some t (omega arith))

-- the weighted sum of the stripes' bytes is the chunk's byte
pub rebuilt_at : (k len j : ℕ) (ws indices stripes chunk : List ℕ) → 0 < k → AreStripes k len chunk indices stripes → length indices ≡ k → j < k → length stripes ≡ k * len
    → GivesValue ws indices j → (t : ℕ) → t < len → weighted ws (column k len t stripes) ≡ slice_index chunk (len * j + t)
rebuilt_at k len j ws indices stripes chunk some are count lj long gives t lt =
    let part_long : (i : ℕ) → i < k → length (part_of len i stripes) ≡ len = λ i li. length-part_of stripes k len i long li in
    let p = some_at k (slice_index indices 0) len chunk (part_of len 0 stripes) (are.each 0 some) (part_long 0 some) t lt in
    let cs : List ℕ = p.0 in
    let here : (i : ℕ) → i < k → slice_index stripes (len * i + t) ≡ value_at cs (slice_index indices i) = λ i li.
    sym (get_or-part_of stripes len i t lt) ∙ stripe_at k (slice_index indices i) len chunk (part_of len i stripes) (are.each i li) (part_long i li) t lt cs p.1.0 p.1.1 p.1.2 in
    let same : column k len t stripes ≡ map (value_at cs) indices =
    same_number_lists (column k len t stripes) (map (value_at cs) indices) (length-column k len t stripes ∙ sym count ∙ sym (length-map indices (value_at cs)))
    (λ i li. let within : i < k = omega (arith, length-column k len t stripes) in
    let inside : i < length indices = omega arith in
    get_or-column k len t stripes i within ∙ here i within ∙ sym (get_or-map (value_at cs) indices i 0 0 inside)) in
    let there : slice_index chunk (len * j + t) ≡ value_at cs j =
    sym (get_or-column k len t chunk j lj) ∙ ap (λ (l : List ℕ). slice_index l j) p.1.2 ∙ get_or-map-range_with_len (value_at cs) 0 k j j 0 lj (omega arith) in
    ap (weighted ws) same ∙ gives cs p.1.0 (p.1.1 ∙ sym count) ∙ sym there

-- an element of a list of which a part was written
pub put_mid_at : (a k : ℕ) (xs ys : List ℕ) (i v : ℕ) → a ≤ length xs → length ys ≡ k → (i < a → slice_index xs i ≡ v) → (a ≤ i → slice_index ys (i - a) ≡ v) → i < a + k
    → slice_index (put_mid a k xs ys) i ≡ v
put_mid_at a k xs ys i v le len before inside lt = elim (cases_lt i a) [
  | inl low ↦
      get_or_append_left (take a xs) (ys ++ post_of a k xs) 0 i (omega (arith, length-take-le a xs le)) ∙ get_or-take a xs i 0 low ∙ before low
  | inr high ↦
      get_or-append_right (take a xs) (ys ++ post_of a k xs) a i 0 (length-take-le a xs le) high
      ∙ get_or_append_left ys (post_of a k xs) 0 (i - a) (omega arith) ∙ inside high
]

-- the stripes of a chunk are a codeword
pub codeword : StripesAreCodeword
codeword k len chunk stripes some are t lt =
    let first = are 0 some in
    let p = some_at k 0 len chunk (slice_index_or stripes 0 []) first.1 first.0 t lt in
    let cs : List ℕ = p.0 in
    let bytes_at : List ℕ → ℕ = λ s. slice_index s t in
    let n : length (map bytes_at stripes) ≡ length stripes = length-map stripes bytes_at in (
      cs,
      (
        p.1.0,
        p.1.1,
        same_number_lists (map bytes_at stripes) (map (value_at cs) (points (length (map bytes_at stripes))))
            (sym (length-map (points (length (map bytes_at stripes))) (value_at cs) ∙ length-range_with_len 0 (length (map bytes_at stripes))))
            (λ j lj.
            let within : j < length stripes = omega arith in
            let s = are j within in
            get_or-map bytes_at stripes j [] 0 within ∙ stripe_at k j len chunk (slice_index_or stripes j []) s.1 s.0 t lt cs p.1.0 p.1.1 p.1.2
            ∙ sym (get_or-map-range_with_len (value_at cs) 0 (length (map bytes_at stripes)) j j 0 lj (omega arith))),
      ),
    )

-- part j of a chunk is its stripe j
pub part_is_stripe : (k j : ℕ) (chunk out : List ℕ) → k ≤ 32 → j < k → length chunk ≡ k * length out → ((i : ℕ) → slice_index chunk i < 2 ^ 8) → out ≡ part_of (length out) j chunk → IsStripe k chunk j out
part_is_stripe k j chunk out le lj parts small is = record {
  parts = parts;
  some = λ t lt. column_is_on_polynomial k (length out) t chunk le small;
  each = λ t lt cs bytes count e.
      ap (λ (l : List ℕ). slice_index l t) is ∙ get_or-part_of chunk (length out) j t lt ∙ sym (get_or-column k (length out) t chunk j lj)
      ∙ ap (λ (l : List ℕ). slice_index l j) e ∙ get_or-map-range_with_len (value_at cs) 0 k j j 0 lj (omega arith);
}

-- a stripe among the first ones is the chunk's part
pub given_at : (k len i j : ℕ) (indices stripes chunk : List ℕ) → AreStripes k len chunk indices stripes → i < k → slice_index indices i ≡ j → j < k → length stripes ≡ k * len
    → (t : ℕ) → t < len → slice_index stripes (len * i + t) ≡ slice_index chunk (len * j + t)
given_at k len i j indices stripes chunk are li there lj long t lt =
    let part_long : length (part_of len i stripes) ≡ len = length-part_of stripes k len i long li in
    let is : IsStripe k chunk j (part_of len i stripes) = subst (λ (x : ℕ). IsStripe k chunk x (part_of len i stripes)) there (are.each i li) in
    let p = some_at k j len chunk (part_of len i stripes) is part_long t lt in
    sym (get_or-part_of stripes len i t lt) ∙ stripe_at k j len chunk (part_of len i stripes) is part_long t lt p.0 p.1.0 p.1.1 p.1.2
    ∙ sym (sym (get_or-column k len t chunk j lj) ∙ ap (λ (l : List ℕ). slice_index l j) p.1.2 ∙ get_or-map-range_with_len (value_at p.0) 0 k j j 0 lj (omega arith))

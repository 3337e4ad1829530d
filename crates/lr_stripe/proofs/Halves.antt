-- Products by the two halves of a byte, and sums that are stored 16 bytes at a time.
use Rattle.std.proofs.Common.{◌≡◌, ℕ, suc, ◌+◌, ◌-◌, ◌*◌, ◌/◌, ◌%◌, ◌^◌, ◌<◌, ◌≤◌, ◌||◌, false, cond, T, ltb, leb, List, [], ◌∷◌, map, length, slice_index, get_or, bit_xor, refl, sym, ap, subst, ◌∙◌, arith, inl, inr, w8, Fits, lt-ltb}
use Rattle.std.proofs.lemmas.Bool.{or_right, cases_lt, lt-leb}
use Rattle.std.proofs.lemmas.Simd.{swz_l, SwzOk, SwzOk-from_Each1, Each1-weaker, map-map, zip2_of_maps, length-zip2, get_or-zip2, length-chunk, get_or-chunk, length-put_chunk, get_or-put_chunk_below, get_or-put_chunk_at, get_or-put_chunk_above}
use Rattle.std.proofs.lemmas.List.{get_or-map}
use Rattle.std.specs.Simd.Lanes.{Each1, zip2, chunk, put_chunk}
use lib.Bits.{xor_shifted}
use Rattle.lr_field.specs.Field.{product}
use Rattle.lr_field.proofs.Public.{is_field}
use Rattle.lr_stripe.specs.Lanes.{IsPlace, entry, HaveProducts, IsAdded, IsSummed}

-- ---- one look-up

place_read : (j : ℕ) → IsPlace j → T (leb 128 j || ltb j 16)
place_read j lt = subst T (sym (or_right (leb 128 j) (ltb j 16) (lt-ltb j 16 lt))) tt

pub may_read : (js : List ℕ) → length js ≡ 16 → Each1 IsPlace js → SwzOk w8 16 16 0 js
may_read js len places =
    SwzOk-from_Each1 w8 16 1 16 0 js refl (omega arith) (Each1-weaker IsPlace (λ j. T (leb 128 j || ltb j 16)) place_read js places)

pub read_by : (table : List ℕ) (i : ℕ) (js : List ℕ) → i + length js ≤ 16 → Each1 IsPlace js → swz_l w8 16 table i js ≡ map (entry table) js
read_by table i [] le places = refl
read_by table i (j ∷ js) le places =
    let here : 16 * (i / 16) + j ≡ j = omega arith in
    let low : leb 128 j ≡ false = lt-leb 128 j (omega (arith, places.0)) in
    let first : cond (leb 128 j) 0 (get_or table (16 * (i / 16) + j) 0) ≡ entry table j = rw low (ap (λ (n : ℕ). get_or table n 0) here) in
    let others : swz_l w8 16 table (suc i) js ≡ map (entry table) js = read_by table (suc i) js (omega arith) places.1 in
    λ k. first k ∷ others k

each_place : (g : ℕ → ℕ) → ((b : ℕ) → b < 256 → IsPlace (g b)) → (x : List ℕ) → Each1 (Fits w8) x → Each1 IsPlace (map g x)
each_place g h [] fits = tt
each_place g h (b ∷ x) fits = (h b fits.0.fits, each_place g h x fits.1)

pub places_are : (g : ℕ → ℕ) → ((b : ℕ) → b < 256 → IsPlace (g b)) → (x v : List ℕ) → Each1 (Fits w8) x → v ≡ map g x → Each1 IsPlace v
places_are g h x v fits e = subst (Each1 IsPlace) (sym e) (each_place g h x fits)

-- ---- products

-- a byte is the sum of its halves
halves : (b : ℕ) → bit_xor (16 * (b / 16)) (b % 16) ≡ b
halves b =
    let sum : bit_xor (b / 16 * 2 ^ 4) (b % 16) ≡ b / 16 * 2 ^ 4 + b % 16 = xor_shifted (b / 16) 4 (b % 16) (omega arith) in
    let swap : 16 * (b / 16) ≡ b / 16 * 2 ^ 4 = omega arith in
    ap (λ (x : ℕ). bit_xor x (b % 16)) swap ∙ sum ∙ omega arith

-- the product with a byte is the sum of those with its halves
by_halves : (weight : ℕ) (low high : List ℕ) → HaveProducts weight low high → (b : ℕ) → b < 256
    → bit_xor (entry low (b % 16)) (entry high (b / 16)) ≡ product weight b
by_halves weight low high have b lb =
    (λ i. bit_xor (have.by_low (b % 16) (omega arith) i) (have.by_high (b / 16) (omega arith) i))
    ∙ is_field.sum_commutative (product weight (b % 16)) (product weight (16 * (b / 16)))
    ∙ sym (is_field.distributive weight (16 * (b / 16)) (b % 16))
    ∙ ap (product weight) (halves b)

same_lanes : (f g : ℕ → ℕ) → ((b : ℕ) → b < 256 → f b ≡ g b) → (x : List ℕ) → Each1 (Fits w8) x → map f x ≡ map g x
same_lanes f g h [] fits = refl
same_lanes f g h (b ∷ x) fits = λ i. h b fits.0.fits i ∷ same_lanes f g h x fits.1 i

looked_up : (table : List ℕ) (g : ℕ → ℕ) (x v r : List ℕ) → r ≡ map (entry table) v → v ≡ map g x → r ≡ map (λ b. entry table (g b)) x
looked_up table g x v r e h = e ∙ ap (map (entry table)) h ∙ map-map (entry table) g x

pub times_is : (weight : ℕ) (low high x lows highs a b : List ℕ) → HaveProducts weight low high → Each1 (Fits w8) x
    → lows ≡ map (λ b. b % 16) x → highs ≡ map (λ b. b / 16) x → a ≡ map (entry low) lows → b ≡ map (entry high) highs
    → zip2 bit_xor a b ≡ map (product weight) x
times_is weight low high x lows highs a b have fits el eh ea eb =
    zip2_of_maps bit_xor (λ c. entry low (c % 16)) (λ c. entry high (c / 16)) x (looked_up low (λ c. c % 16) x lows a ea el) (looked_up high (λ c. c / 16) x highs b eb eh)
    ∙ same_lanes (λ c. bit_xor (entry low (c % 16)) (entry high (c / 16))) (product weight) (by_halves weight low high have) x fits

-- ---- sums in place

-- lanes that are stored
pub stored : (at : ℕ) (out lanes : List ℕ) → at + 16 ≤ length out → length lanes ≡ 16 → IsAdded at lanes out (put_chunk at out (zip2 bit_xor (chunk at 16 out) lanes))
stored at out lanes le len =
    let old : List ℕ = chunk at 16 out in
    let old_len : length old ≡ 16 = length-chunk at 16 out le in
    let sum : List ℕ = zip2 bit_xor old lanes in
    let sum_len : length sum ≡ 16 = length-zip2 bit_xor old lanes (old_len ∙ sym len) ∙ old_len in
    record {
      len = length-put_chunk at out sum;
      added = λ k lk.
          get_or-put_chunk_at at out sum k 0 (omega arith) (omega arith)
          ∙ get_or-zip2 bit_xor old lanes k 0 0 0 (omega arith) (omega arith)
          ∙ ap (λ (x : ℕ). bit_xor x (slice_index lanes k)) (get_or-chunk at 16 out k 0 lk);
      others = λ k h. elim h [
        | inl lt ↦ get_or-put_chunk_below at out sum k 0 lt
        | inr le ↦ get_or-put_chunk_above at out sum k 0 (omega arith)
      ];
    }

-- a group more
pub group_more : (f : ℕ → ℕ) (part old out new lanes : List ℕ) (group : ℕ) → length part ≡ length old → 16 * group + 16 ≤ length old
    → IsSummed f part old (16 * group) out → lanes ≡ map f (chunk (16 * group) 16 part) → IsAdded (16 * group) lanes out new
    → IsSummed f part old (16 * (group + 1)) new
group_more f part old out new lanes group long le s is added =
    let at : ℕ = 16 * group in
    let here : (m : ℕ) → m < 16 → slice_index new (at + m) ≡ bit_xor (slice_index old (at + m)) (f (slice_index part (at + m))) = λ m lm.
    let lane : slice_index lanes m ≡ f (slice_index part (at + m)) =
    ap (λ (l : List ℕ). slice_index l m) is ∙ get_or-map f (chunk at 16 part) m 0 0 (omega (arith, length-chunk at 16 part (omega arith)))
    ∙ ap f (get_or-chunk at 16 part m 0 lm) in
    added.added m lm ∙ (λ i. bit_xor (s.left (at + m) (omega arith) i) (lane i)) in
    record {
      len = added.len ∙ s.len;
      summed = λ k lk. elim (cases_lt k at) [
        | inl low ↦ added.others k (inl low) ∙ s.summed k low
        | inr high ↦
            let place : at + (k - at) ≡ k = omega arith in
            subst (λ (n : ℕ). slice_index new n ≡ bit_xor (slice_index old n) (f (slice_index part n))) place (here (k - at) (omega arith))
      ];
      left = λ k le. added.others k (inr (omega arith)) ∙ s.left k (omega arith);
    }

-- all bytes
pub all_summed : (f : ℕ → ℕ) (part old new : List ℕ) → IsSummed f part old (length old) new
    → (t : ℕ) → t < length new → slice_index new t ≡ bit_xor (slice_index old t) (f (slice_index part t))
all_summed f part old new s t lt = s.summed t (omega (arith, s.len))

pub as_it_is : (x : List ℕ) → x ≡ map (λ b. b) x
as_it_is [] = refl
as_it_is (b ∷ x) = ap (λ (l : List ℕ). b ∷ l) (as_it_is x)

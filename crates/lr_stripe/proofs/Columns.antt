-- Columns of bytes that lie in parts, and weighted sums over them.
use Rattle.std.proofs.Common.{◌≡◌, ℕ, ◌+◌, ◌*◌, ◌^◌, ◌<◌, ◌≤◌, bit_xor, List, [], ◌∷◌, ◌++◌, length, slice_index, take, drop, refl, sym, ap, subst, ◌∙◌, arith, length-take-le, length-drop}
use Rattle.std.proofs.lemmas.List.{get_or-take, get_or-drop, take_more}
use Rattle.std.proofs.lemmas.List.FromFn.{length-range_with_len, get_or-range_with_len, length-map-range_with_len, get_or-map-range_with_len, map-range_with_len_more}
use Rattle.std.proofs.lemmas.Nat.{rows}
use Rattle.lr_field.specs.Field.{product}
use Rattle.lr_field.specs.Polynomial.{AreBytes, IsDistinct, IsOnPolynomial, GivesValue, weighted}
use Rattle.lr_field.proofs.Public.{AreBytes_from, any_values, weighted_push}
use Rattle.lr_stripe.specs.Code.{points, column, part_of, IsStripe}

pub length-column : (n len t : ℕ) (b : List ℕ) → length (column n len t b) ≡ n
length-column n len t b = length-map-range_with_len (λ i. slice_index b (len * i + t)) 0 n

pub get_or-column : (n len t : ℕ) (b : List ℕ) (i : ℕ) → i < n → slice_index (column n len t b) i ≡ slice_index b (len * i + t)
get_or-column n len t b i lt = get_or-map-range_with_len (λ k. slice_index b (len * k + t)) 0 n i i 0 lt (omega arith)

-- no part, no sum
pub weighted-none : (ws : List ℕ) → weighted (take 0 ws) [] ≡ 0
unfolding weighted
weighted-none ws = refl

-- one part more
pub weighted-more : (ws b : List ℕ) (i len t : ℕ) → i < length ws
    → weighted (take (i + 1) ws) (column (i + 1) len t b) ≡ bit_xor (weighted (take i ws) (column i len t b)) (product (slice_index ws i) (slice_index b (len * i + t)))
weighted-more ws b i len t lt =
    let f : ℕ → ℕ = λ k. slice_index b (len * k + t) in
    let front : take (i + 1) ws ≡ take i ws ++ slice_index ws i ∷ [] = take_more ws i 0 lt in
    let back : column (i + 1) len t b ≡ column i len t b ++ f i ∷ [] = map-range_with_len_more f 0 i i (omega arith) in
    let long : length (take i ws) ≡ length (column i len t b) = length-take-le i ws (omega arith) ∙ sym (length-column i len t b) in
    ap (λ (l : List ℕ). weighted l (column (i + 1) len t b)) front ∙ ap (weighted (take i ws ++ slice_index ws i ∷ [])) back
    ∙ weighted_push (take i ws) (column i len t b) (slice_index ws i) (f i) long

-- a byte of a part
pub get_or-part_of : (b : List ℕ) (len i t : ℕ) → t < len → slice_index (part_of len i b) t ≡ slice_index b (len * i + t)
get_or-part_of b len i t lt = get_or-take len (drop (len * i) b) t 0 lt ∙ get_or-drop (len * i) b t 0

-- a part ends within the parts
pub part_within : (n i len : ℕ) → i < n → len * i + len ≤ n * len
part_within n i len lt = grind (arith, rows)

pub length-part_of : (b : List ℕ) (n len i : ℕ) → length b ≡ n * len → i < n → length (part_of len i b) ≡ len
length-part_of b n len i e lt = length-take-le len (drop (len * i) b) (omega (arith, length-drop (len * i) b, part_within n i len lt))

pub AreBytes-points : (k : ℕ) → k ≤ 32 → AreBytes (points k)
AreBytes-points k le = AreBytes_from (points k) (λ i lt. omega (arith, get_or-range_with_len 0 k i 0 (omega (arith, length-range_with_len 0 k)), length-range_with_len 0 k))

pub IsDistinct-points : (k : ℕ) → IsDistinct (points k)
IsDistinct-points k i j lt within e =
    let long : length (points k) ≡ k = length-range_with_len 0 k in
    let at_i : slice_index (points k) i ≡ 0 + i = get_or-range_with_len 0 k i 0 (omega arith) in
    let at_j : slice_index (points k) j ≡ 0 + j = get_or-range_with_len 0 k j 0 (omega arith) in
    omega arith

-- the bytes of the parts at a place lie on a polynomial
pub column_is_on_polynomial : (k len t : ℕ) (chunk : List ℕ) → k ≤ 32 → ((i : ℕ) → slice_index chunk i < 2 ^ 8) → IsOnPolynomial k (points k) (column k len t chunk)
column_is_on_polynomial k len t chunk le small =
    let long : length (points k) ≡ k = length-range_with_len 0 k in
    let bytes : AreBytes (column k len t chunk) =
    AreBytes_from (column k len t chunk) (λ i lt. let within : i < k = omega (arith, length-column k len t chunk) in subst (λ (x : ℕ). x < 2 ^ 8) (sym (get_or-column k len t chunk i within)) (small (len * i + t))) in
    subst (λ (n : ℕ). IsOnPolynomial n (points k) (column k len t chunk)) long
    (any_values (points k) (column k len t chunk) (AreBytes-points k le) bytes (IsDistinct-points k) (length-column k len t chunk ∙ sym long))

-- weighted sums of the columns are a stripe
pub is_stripe : (k j : ℕ) (ws chunk out : List ℕ) → k ≤ 32 → length chunk ≡ k * length out → ((i : ℕ) → slice_index chunk i < 2 ^ 8) → GivesValue ws (points k) j
    → ((t : ℕ) → t < length out → slice_index out t ≡ weighted ws (column k (length out) t chunk)) → IsStripe k chunk j out
is_stripe k j ws chunk out le parts small gives sums = record {
  parts = parts;
  some = λ t lt. column_is_on_polynomial k (length out) t chunk le small;
  each = λ t lt cs bytes count e. sums t lt ∙ ap (weighted ws) e ∙ gives cs bytes (count ∙ sym (length-range_with_len 0 k));
}

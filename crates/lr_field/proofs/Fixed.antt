-- A polynomial by its values: there is one through any values, and no second one.
use Rattle.std.proofs.Common.{◌≡◌, ℕ, suc, bit_xor, List, [], ◌∷◌, length, map, slice_index, drop, refl, sym, ap, ◌∙◌, arith}
use Rattle.std.proofs.lemmas.Nat.{xor_comm, xor_lt}
use lib.Bits.{xor_assoc, xor_zero_r, xor_self}
use Rattle.lr_field.specs.Field.{product, inverse}
use Rattle.lr_field.specs.Polynomial.{AreBytes, IsDistinct, value_at}
use Rattle.lr_field.specs.Laws.{IsField, AnyValuesAreOnPolynomial, ValuesFixPolynomial}
use Rattle.lr_field.proofs.FieldLaws.{product-lt, one-product, product_comm, product_assoc, product-xor_r, inverse_law}
use Rattle.lr_field.proofs.Polynomials.{IsByte, value_at-lt, tails, length-tails, AreBytes-tails, division, Apart, AllApart, Apart_from, through, through-values}

pub AllApart_from : (ps : List ℕ) → IsDistinct ps → AllApart ps
unfolding AllApart
AllApart_from [] h = tt
AllApart_from (p ∷ ps) h = (
  Apart_from p ps (λ j lt e. h 0 (suc j) (omega arith) (omega arith) (sym e)),
  AllApart_from ps (λ i j below lt. h (suc i) (suc j) (omega arith) (omega arith)),
)

-- f + (f + x) = x
again : (f x : ℕ) → bit_xor f (bit_xor f x) ≡ x
again f x = sym (xor_assoc f f x) ∙ ap (λ (u : ℕ). bit_xor u x) (xor_self f) ∙ xor_comm 0 x ∙ xor_zero_r x

same_part : (f x y : ℕ) → bit_xor f x ≡ bit_xor f y → x ≡ y
same_part f x y e = sym (again f x) ∙ ap (bit_xor f) e ∙ again f y

-- u * (a * t) = t where a * u = 1
divided : (a u t : ℕ) → IsByte a → IsByte u → IsByte t → product a u ≡ 1 → product u (product a t) ≡ t
divided a u t la lu lt e =
    sym (product_assoc u a t lu la lt) ∙ ap (λ (k : ℕ). product k t) (product_comm u a lu la ∙ e) ∙ one-product t lt

-- two polynomials that agree at p and at the points qs: what is left of them by division agrees at qs
tails_agree : (c d p : ℕ) (cs ds qs : List ℕ) → IsByte c → IsByte d → IsByte p → AreBytes cs → AreBytes ds → AreBytes qs → Apart p qs
    → value_at (c ∷ cs) p ≡ value_at (d ∷ ds) p → map (value_at (c ∷ cs)) qs ≡ map (value_at (d ∷ ds)) qs
    → map (value_at (tails p cs)) qs ≡ map (value_at (tails p ds)) qs
unfolding Apart
tails_agree c d p cs ds [] lc ld lp hc hd hq apart e es = refl
tails_agree c d p cs ds (q ∷ qs) lc ld lp hc hd hq apart e es =
    let a : ℕ = bit_xor q p in
    let la : IsByte a = xor_lt 8 q p hq.0 lp in
    let u = inverse_law a apart.0 la in
    let s : ℕ = value_at (tails p cs) q in
    let t : ℕ = value_at (tails p ds) q in
    let ls : IsByte s = value_at-lt (tails p cs) q (AreBytes-tails p cs lp hc) hq.0 in
    let lt : IsByte t = value_at-lt (tails p ds) q (AreBytes-tails p ds lp hd) hq.0 in
    let first : value_at (c ∷ cs) q ≡ value_at (d ∷ ds) q = ap (λ (l : List ℕ). slice_index l 0) es in
    let others : map (value_at (c ∷ cs)) qs ≡ map (value_at (d ∷ ds)) qs = ap (λ (l : List ℕ). drop 1 l) es in
    let sums : bit_xor (value_at (d ∷ ds) p) (product a s) ≡ bit_xor (value_at (d ∷ ds) p) (product a t) =
    ap (λ (f : ℕ). bit_xor f (product a s)) (sym e) ∙ sym (division c cs p q lc hc lp hq.0) ∙ first ∙ division d ds p q ld hd lp hq.0 in
    let here : s ≡ t =
    sym (divided a (inverse a) s la u.0 ls u.1) ∙ ap (product (inverse a)) (same_part (value_at (d ∷ ds) p) (product a s) (product a t) sums)
    ∙ divided a (inverse a) t la u.0 lt u.1 in
    let rest : map (value_at (tails p cs)) qs ≡ map (value_at (tails p ds)) qs = tails_agree c d p cs ds qs lc ld lp hc hd hq.1 apart.1 e others in
    λ i. here i ∷ rest i

fixed : (ps cs ds : List ℕ) (x : ℕ) → AreBytes ps → AllApart ps → AreBytes cs → AreBytes ds → length cs ≡ length ps → length ds ≡ length ps
    → map (value_at cs) ps ≡ map (value_at ds) ps → IsByte x → value_at cs x ≡ value_at ds x
unfolding AllApart
fixed [] [] [] x hp apart hc hd nc nd e lx = refl
fixed [] [] (d ∷ ds) x hp apart hc hd nc nd e lx = absurd (omega arith)
fixed [] (c ∷ cs) ds x hp apart hc hd nc nd e lx = absurd (omega arith)
fixed (p ∷ ps) [] ds x hp apart hc hd nc nd e lx = absurd (omega arith)
fixed (p ∷ ps) (c ∷ cs) [] x hp apart hc hd nc nd e lx = absurd (omega arith)
fixed (p ∷ ps) (c ∷ cs) (d ∷ ds) x hp apart hc hd nc nd e lx =
    let first : value_at (c ∷ cs) p ≡ value_at (d ∷ ds) p = ap (λ (l : List ℕ). slice_index l 0) e in
    let others : map (value_at (c ∷ cs)) ps ≡ map (value_at (d ∷ ds)) ps = ap (λ (l : List ℕ). drop 1 l) e in
    let ec : length (tails p cs) ≡ length ps = length-tails p cs ∙ (let n : length cs ≡ length ps = omega arith in n) in
    let ed : length (tails p ds) ≡ length ps = length-tails p ds ∙ (let n : length ds ≡ length ps = omega arith in n) in
    let left : value_at (tails p cs) x ≡ value_at (tails p ds) x =
    fixed ps (tails p cs) (tails p ds) x hp.1 apart.1 (AreBytes-tails p cs hp.0 hc.1) (AreBytes-tails p ds hp.0 hd.1) ec ed
    (tails_agree c d p cs ds ps hc.0 hd.0 hp.0 hc.1 hd.1 hp.1 apart.0 first others) lx in
    division c cs p x hc.0 hc.1 hp.0 lx
    ∙ (λ i. bit_xor (first i) (product (bit_xor x p) (left i)))
    ∙ sym (division d ds p x hd.0 hd.1 hp.0 lx)

pub values_fix : ValuesFixPolynomial
values_fix ps cs ds hp apart hc hd nc nd e x lx = fixed ps cs ds x hp (AllApart_from ps apart) hc hd nc nd e lx

pub any_values : AnyValuesAreOnPolynomial
any_values ps vs hp hv apart len =
    let t = through-values inverse inverse_law ps vs hp hv (AllApart_from ps apart) len in
    (through inverse ps vs, (t.bytes, t.count, sym t.values))

pub is_field : IsField
is_field = record { sum_closed = xor_lt 8; sum_zero = xor_zero_r; sum_opposite = xor_self; sum_commutative = xor_comm; sum_associative = xor_assoc; closed = product-lt; one = one-product; inverse = inverse_law; commutative = product_comm; associative = product_assoc; distributive = product-xor_r }

-- Interpolation over the field.
use Rattle.std.proofs.Common.{◌≡◌, ◌≢◌, ℕ, zero, suc, ◌+◌, ◌^◌, ◌<◌, bit_xor, inl, inr, take, set, List, [], ◌∷◌, ◌++◌, length, map, slice_index, drop, refl, sym, ap, subst, ◌∙◌, arith, lit<, length-append, length-drop, length-take-le, take_all}
use Rattle.std.proofs.lemmas.List.{length-map, map-append, take_more_set, take_more, take-append-le, get_or-take}
use Rattle.std.proofs.lemmas.Bool.{cases_lt}
use Rattle.std.proofs.lemmas.Nat.{xor_comm, xor_lt}
use Rattle.std.proofs.lemmas.Grind.{same_number_lists}
use lib.Bits.{xor_assoc, xor_zero_r, xor_self}
use Rattle.lr_field.specs.Field.{product}
use Rattle.lr_field.specs.Polynomial.{AreBytes, value_at, weighted, GivesValue}
use Rattle.lr_field.specs.Weights.{scaled, xor_sum}
use Rattle.lr_field.proofs.Linear.{xor_swap}
use Rattle.lr_field.proofs.FieldLaws.{product-xor_l, product-xor_r, product_comm, product_assoc, product-lt, one-product, zero-product, product-zero}

abbrev pub IsByte : ℕ → Type 0
IsByte x = x < 2 ^ 8

pub value_at-lt : (cs : List ℕ) (x : ℕ) → AreBytes cs → IsByte x → IsByte (value_at cs x)
unfolding value_at
value_at-lt [] x h lx = lit< tt
value_at-lt (c ∷ cs) x h lx = xor_lt 8 c (product x (value_at cs x)) h.0 (product-lt x (value_at cs x) lx (value_at-lt cs x h.1 lx))

-- what is left of a polynomial by synthetic division by the monomial with the root p
unfoldable pub tails : ℕ → List ℕ → List ℕ
tails p [] = []
tails p (c ∷ cs) = value_at (c ∷ cs) p ∷ tails p cs

pub length-tails : (p : ℕ) (cs : List ℕ) → length (tails p cs) ≡ length cs
unfolding tails
length-tails p [] = refl
length-tails p (c ∷ cs) = ap suc (length-tails p cs)

pub AreBytes-tails : (p : ℕ) (cs : List ℕ) → IsByte p → AreBytes cs → AreBytes (tails p cs)
unfolding tails
AreBytes-tails p [] lp h = tt
AreBytes-tails p (c ∷ cs) lp h = (value_at-lt (c ∷ cs) p h lp, AreBytes-tails p cs lp h.1)

-- x * (y * z) = y * (x * z)
pub product_swap : (x y z : ℕ) → IsByte x → IsByte y → IsByte z → product x (product y z) ≡ product y (product x z)
product_swap x y z lx ly lz =
    sym (product_assoc x y z lx ly lz) ∙ ap (λ (u : ℕ). product u z) (product_comm x y lx ly) ∙ product_assoc y x z ly lx lz

-- p * f + (x + p) * f = x * f
root_step : (x p f : ℕ) → bit_xor (product p f) (product (bit_xor x p) f) ≡ product x f
root_step x p f =
    ap (bit_xor (product p f)) (product-xor_l x p f ∙ xor_comm (product x f) (product p f))
    ∙ sym (xor_assoc (product p f) (product p f) (product x f))
    ∙ ap (λ (u : ℕ). bit_xor u (product x f)) (xor_self (product p f))

-- f x = f p + (x + p) * (f / (x + p)) x
pub division : (c : ℕ) (cs : List ℕ) (p x : ℕ) → IsByte c → AreBytes cs → IsByte p → IsByte x
    → value_at (c ∷ cs) x ≡ bit_xor (value_at (c ∷ cs) p) (product (bit_xor x p) (value_at (tails p cs) x))
unfolding value_at tails
division c [] p x lc h lp lx =
    ap (bit_xor c) (product-zero x ∙ sym (product-zero p)) ∙ sym (xor_zero_r (bit_xor c (product p 0)))
    ∙ ap (bit_xor (bit_xor c (product p 0))) (sym (product-zero (bit_xor x p)))
division c (d ∷ ds) p x lc h lp lx =
    let fx : ℕ = value_at (d ∷ ds) x in
    let fp : ℕ = value_at (d ∷ ds) p in
    let t : ℕ = value_at (tails p ds) x in
    let m : ℕ = bit_xor x p in
    let lm : IsByte m = xor_lt 8 x p lx lp in
    let lt : IsByte t = value_at-lt (tails p ds) x (AreBytes-tails p ds lp h.1) lx in
    let inner : fx ≡ bit_xor fp (product m t) = division d ds p x h.0 h.1 lp lx in
    let left : product x fx ≡ bit_xor (product x fp) (product x (product m t)) = ap (product x) inner ∙ product-xor_r x fp (product m t) in
    let right : bit_xor (product p fp) (product m (bit_xor fp (product x t))) ≡ bit_xor (product x fp) (product x (product m t)) =
    ap (bit_xor (product p fp)) (product-xor_r m fp (product x t))
    ∙ sym (xor_assoc (product p fp) (product m fp) (product m (product x t)))
    ∙ ap (λ (u : ℕ). bit_xor u (product m (product x t))) (root_step x p fp)
    ∙ ap (bit_xor (product x fp)) (product_swap m x t lm lx lt) in
    ap (bit_xor c) (left ∙ sym right) ∙ sym (xor_assoc c (product p fp) (product m (bit_xor fp (product x t))))

-- ---- one more point

abbrev pub IsInverse : (ℕ → ℕ) → Type 0
IsInverse inverse = (a : ℕ) → 0 < a → a < 2 ^ 8 → (inverse a < 2 ^ 8) × (product a (inverse a) ≡ 1)

-- p is none of the points
unfoldable pub Apart : ℕ → List ℕ → Type 0
Apart p [] = Unit {0}
Apart p (q ∷ qs) = (0 < bit_xor q p) × Apart p qs

-- one weight's part: w' * f q = w' * f p + m * (w * t)
one_part : (w m u a fp t : ℕ) → IsByte w → IsByte m → IsByte u → IsByte a → IsByte fp → IsByte t → product a u ≡ 1
    → product (product w (product m u)) (bit_xor fp (product a t)) ≡ bit_xor (product (product w (product m u)) fp) (product m (product w t))
one_part w m u a fp t lw lm lu la lf lt e =
    let v : ℕ = product w (product m u) in
    let lv : IsByte v = product-lt w (product m u) lw (product-lt m u lm lu) in
    let at : IsByte (product a t) = product-lt a t la lt in
    let cancel : product u (product a t) ≡ t =
    sym (product_assoc u a t lu la lt) ∙ ap (λ (k : ℕ). product k t) (product_comm u a lu la ∙ e) ∙ one-product t lt in
    let part : product v (product a t) ≡ product m (product w t) =
    product_assoc w (product m u) (product a t) lw (product-lt m u lm lu) at
    ∙ ap (product w) (product_assoc m u (product a t) lm lu at ∙ ap (product m) cancel)
    ∙ product_swap w m t lw lm lt in
    product-xor_r v fp (product a t) ∙ ap (bit_xor (product v fp)) part

pub scaled_sum : (inverse : ℕ → ℕ) → IsInverse inverse → (x p c : ℕ) (cs qs ws : List ℕ) → IsByte x → IsByte p → IsByte c → AreBytes cs
    → AreBytes qs → AreBytes ws → Apart p qs → length ws ≡ length qs
    → weighted (scaled inverse x p qs ws) (map (value_at (c ∷ cs)) qs)
    ≡ bit_xor (product (xor_sum (scaled inverse x p qs ws)) (value_at (c ∷ cs) p)) (product (bit_xor x p) (weighted ws (map (value_at (tails p cs)) qs)))
unfolding weighted scaled xor_sum Apart
scaled_sum inverse iv x p c cs [] [] lx lp lc hc hq hw apart len =
    sym (ap (λ (u : ℕ). bit_xor u (product (bit_xor x p) 0)) (zero-product (value_at (c ∷ cs) p)) ∙ product-zero (bit_xor x p))
scaled_sum inverse iv x p c cs [] (w ∷ ws) lx lp lc hc hq hw apart len = absurd (omega arith)
scaled_sum inverse iv x p c cs (q ∷ qs) [] lx lp lc hc hq hw apart len = absurd (omega arith)
scaled_sum inverse iv x p c cs (q ∷ qs) (w ∷ ws) lx lp lc hc hq hw apart len =
    let m : ℕ = bit_xor x p in
    let a : ℕ = bit_xor q p in
    let lm : IsByte m = xor_lt 8 x p lx lp in
    let la : IsByte a = xor_lt 8 q p hq.0 lp in
    let u = iv a apart.0 la in
    let v : ℕ = product w (product m (inverse a)) in
    let fp : ℕ = value_at (c ∷ cs) p in
    let t : ℕ = value_at (tails p cs) q in
    let rest : ℕ = xor_sum (scaled inverse x p qs ws) in
    let tail : ℕ = weighted ws (map (value_at (tails p cs)) qs) in
    let lf : IsByte fp = value_at-lt (c ∷ cs) p (lc, hc) lp in
    let lt : IsByte t = value_at-lt (tails p cs) q (AreBytes-tails p cs lp hc) hq.0 in
    let ih = scaled_sum inverse iv x p c cs qs ws lx lp lc hc hq.1 hw.1 apart.1 (omega arith) in
    let head : product v (value_at (c ∷ cs) q) ≡ bit_xor (product v fp) (product m (product w t)) =
    ap (product v) (division c cs p q lc hc lp hq.0) ∙ one_part w m (inverse a) a fp t hw.0 lm u.0 la lf lt u.1 in
    ap (λ (k : ℕ). bit_xor k (weighted (scaled inverse x p qs ws) (map (value_at (c ∷ cs)) qs))) head
    ∙ ap (bit_xor (bit_xor (product v fp) (product m (product w t)))) ih
    ∙ xor_swap (product v fp) (product m (product w t)) (product rest fp) (product m tail)
    ∙ ap (λ (k : ℕ). bit_xor k (bit_xor (product m (product w t)) (product m tail))) (sym (product-xor_l v rest fp))
    ∙ ap (bit_xor (product (bit_xor v rest) fp)) (sym (product-xor_r m (product w t) tail))

pub weighted_push : (ws vs : List ℕ) (w v : ℕ) → length ws ≡ length vs → weighted (ws ++ w ∷ []) (vs ++ v ∷ []) ≡ bit_xor (weighted ws vs) (product w v)
unfolding weighted
weighted_push [] [] w v e = xor_zero_r (product w v)
weighted_push [] (y ∷ vs) w v e = absurd (omega arith)
weighted_push (x ∷ ws) [] w v e = absurd (omega arith)
weighted_push (x ∷ ws) (y ∷ vs) w v e =
    ap (bit_xor (product x y)) (weighted_push ws vs w v (omega arith)) ∙ sym (xor_assoc (product x y) (weighted ws vs) (product w v))

length-scaled : (inverse : ℕ → ℕ) (x p : ℕ) (qs ws : List ℕ) → length ws ≡ length qs → length (scaled inverse x p qs ws) ≡ length qs
unfolding scaled
length-scaled inverse x p [] ws e = refl
length-scaled inverse x p (q ∷ qs) [] e = absurd (omega arith)
length-scaled inverse x p (q ∷ qs) (w ∷ ws) e = ap suc (length-scaled inverse x p qs ws (omega arith))

-- s * f + m * t + (1 + s) * f = f + m * t
sum_step : (s f n : ℕ) → IsByte f → bit_xor (bit_xor (product s f) n) (product (bit_xor 1 s) f) ≡ bit_xor f n
sum_step s f n lf =
    ap (bit_xor (bit_xor (product s f) n)) (product-xor_l 1 s f ∙ ap (λ (k : ℕ). bit_xor k (product s f)) (one-product f lf) ∙ xor_comm f (product s f))
    ∙ xor_swap (product s f) n (product s f) f
    ∙ ap (λ (k : ℕ). bit_xor k (bit_xor n f)) (xor_self (product s f))
    ∙ xor_comm n f

-- the weights for one more point
abbrev pub extended : (ℕ → ℕ) → ℕ → ℕ → List ℕ → List ℕ → List ℕ
extended inverse x p qs ws = scaled inverse x p qs ws ++ bit_xor 1 (xor_sum (scaled inverse x p qs ws)) ∷ []

pub GivesValue-more : (inverse : ℕ → ℕ) → IsInverse inverse → (x p : ℕ) (qs ws : List ℕ) → IsByte x → IsByte p → AreBytes qs → AreBytes ws
    → Apart p qs → length ws ≡ length qs → GivesValue ws qs x → GivesValue (extended inverse x p qs ws) (qs ++ p ∷ []) x
GivesValue-more inverse iv x p qs ws lx lp hq hw apart len gives [] hc e = absurd (omega (arith, length-append qs (p ∷ [])))
GivesValue-more inverse iv x p qs ws lx lp hq hw apart len gives (c ∷ cs) hc e =
    let f : ℕ → ℕ = value_at (c ∷ cs) in
    let s : List ℕ = scaled inverse x p qs ws in
    let n : length s ≡ length (map f qs) = length-scaled inverse x p qs ws len ∙ sym (length-map qs f) in
    let m : ℕ = bit_xor x p in
    let k : length cs ≡ length qs = omega (arith, length-append qs (p ∷ [])) in
    let t : weighted ws (map (value_at (tails p cs)) qs) ≡ value_at (tails p cs) x =
    gives (tails p cs) (AreBytes-tails p cs lp hc.1) (length-tails p cs ∙ k) in
    ap (weighted (extended inverse x p qs ws)) (map-append f qs (p ∷ []))
    ∙ weighted_push s (map f qs) (bit_xor 1 (xor_sum s)) (f p) n
    ∙ ap (λ (u : ℕ). bit_xor u (product (bit_xor 1 (xor_sum s)) (f p)))
    (scaled_sum inverse iv x p c cs qs ws lx lp hc.0 hc.1 hq hw apart len
    ∙ ap (λ (u : ℕ). bit_xor (product (xor_sum s) (f p)) (product m u)) t)
    ∙ sum_step (xor_sum s) (f p) (product m (value_at (tails p cs) x)) (value_at-lt (c ∷ cs) p hc lp)
    ∙ sym (division c cs p x hc.0 hc.1 lp lx)

-- ---- a polynomial through given values

-- cs * (x + p) + v, as coefficients: v + p * c0, c0 + p * c1, ..
unfoldable pub raised : ℕ → ℕ → List ℕ → List ℕ
raised p v [] = v ∷ []
raised p v (c ∷ cs) = bit_xor v (product p c) ∷ raised p c cs

pub value_at-raised : (p v x : ℕ) (cs : List ℕ) → IsByte p → IsByte x → AreBytes cs → value_at (raised p v cs) x ≡ bit_xor v (product (bit_xor x p) (value_at cs x))
unfolding raised value_at
value_at-raised p v x [] lp lx h = ap (bit_xor v) (product-zero x ∙ sym (product-zero (bit_xor x p)))
value_at-raised p v x (c ∷ cs) lp lx h =
    let t : ℕ = value_at cs x in
    let m : ℕ = bit_xor x p in
    let lt : IsByte t = value_at-lt cs x h.1 lx in
    let lm : IsByte m = xor_lt 8 x p lx lp in
    let down : product x (value_at (raised p c cs) x) ≡ bit_xor (product x c) (product m (product x t)) =
    ap (product x) (value_at-raised p c x cs lp lx h.1) ∙ product-xor_r x c (product m t) ∙ ap (bit_xor (product x c)) (product_swap x m t lx lm lt) in
    ap (bit_xor (bit_xor v (product p c))) down
    ∙ xor_assoc v (product p c) (bit_xor (product x c) (product m (product x t)))
    ∙ ap (bit_xor v) (sym (xor_assoc (product p c) (product x c) (product m (product x t)))
    ∙ ap (λ (u : ℕ). bit_xor u (product m (product x t))) (xor_comm (product p c) (product x c) ∙ sym (product-xor_l x p c))
    ∙ sym (product-xor_r m c (product x t)))

-- ---- a polynomial through any values

-- the values less v, over the points less p
unfoldable pub quotients : (ℕ → ℕ) → ℕ → ℕ → List ℕ → List ℕ → List ℕ
quotients inverse p v [] ws = []
quotients inverse p v (q ∷ qs) [] = []
quotients inverse p v (q ∷ qs) (w ∷ ws) = product (bit_xor w v) (inverse (bit_xor q p)) ∷ quotients inverse p v qs ws

unfoldable pub through : (ℕ → ℕ) → List ℕ → List ℕ → List ℕ
through inverse [] vs = []
through inverse (p ∷ ps) [] = []
through inverse (p ∷ ps) (v ∷ vs) = raised p v (through inverse ps (quotients inverse p v ps vs))

-- each point is none of the later ones
unfoldable pub AllApart : List ℕ → Type 0
AllApart [] = Unit {0}
AllApart (p ∷ ps) = Apart p ps × AllApart ps

length-raised : (p v : ℕ) (cs : List ℕ) → length (raised p v cs) ≡ suc (length cs)
unfolding raised
length-raised p v [] = refl
length-raised p v (c ∷ cs) = ap suc (length-raised p c cs)

AreBytes-raised : (p v : ℕ) (cs : List ℕ) → IsByte p → IsByte v → AreBytes cs → AreBytes (raised p v cs)
unfolding raised
AreBytes-raised p v [] lp lv h = (lv, tt)
AreBytes-raised p v (c ∷ cs) lp lv h = (xor_lt 8 v (product p c) lv (product-lt p c lp h.0), AreBytes-raised p c cs lp h.0 h.1)

length-quotients : (inverse : ℕ → ℕ) (p v : ℕ) (qs ws : List ℕ) → length ws ≡ length qs → length (quotients inverse p v qs ws) ≡ length qs
unfolding quotients
length-quotients inverse p v [] ws e = refl
length-quotients inverse p v (q ∷ qs) [] e = absurd (omega arith)
length-quotients inverse p v (q ∷ qs) (w ∷ ws) e = ap suc (length-quotients inverse p v qs ws (omega arith))

AreBytes-quotients : (inverse : ℕ → ℕ) → IsInverse inverse → (p v : ℕ) (qs ws : List ℕ) → IsByte p → IsByte v → AreBytes qs → AreBytes ws → Apart p qs
    → AreBytes (quotients inverse p v qs ws)
unfolding quotients Apart
AreBytes-quotients inverse iv p v [] ws lp lv hq hw apart = tt
AreBytes-quotients inverse iv p v (q ∷ qs) [] lp lv hq hw apart = tt
AreBytes-quotients inverse iv p v (q ∷ qs) (w ∷ ws) lp lv hq hw apart = (
  product-lt (bit_xor w v) (inverse (bit_xor q p)) (xor_lt 8 w v hw.0 lv) (iv (bit_xor q p) apart.0 (xor_lt 8 q p hq.0 lp)).0,
  AreBytes-quotients inverse iv p v qs ws lp lv hq.1 hw.1 apart.1,
)

-- a point's value comes back: v + a * ((w + v) * u) = w
back : (v w a u : ℕ) → IsByte v → IsByte w → IsByte a → IsByte u → product a u ≡ 1 → bit_xor v (product a (product (bit_xor w v) u)) ≡ w
back v w a u lv lw la lu e =
    let d : ℕ = bit_xor w v in
    let ld : IsByte d = xor_lt 8 w v lw lv in
    ap (bit_xor v) (product_swap a d u la ld lu ∙ ap (product d) e ∙ product_comm d 1 ld (lit< tt) ∙ one-product d ld)
    ∙ xor_comm v d ∙ xor_assoc w v v ∙ ap (bit_xor w) (xor_self v) ∙ xor_zero_r w

lifted : (inverse : ℕ → ℕ) → IsInverse inverse → (p v : ℕ) (t qs ws : List ℕ) → IsByte p → IsByte v → AreBytes t → AreBytes qs → AreBytes ws
    → Apart p qs → length ws ≡ length qs → map (value_at t) qs ≡ quotients inverse p v qs ws → map (value_at (raised p v t)) qs ≡ ws
unfolding quotients Apart
lifted inverse iv p v t [] [] lp lv ht hq hw apart len e = refl
lifted inverse iv p v t [] (w ∷ ws) lp lv ht hq hw apart len e = absurd (omega arith)
lifted inverse iv p v t (q ∷ qs) [] lp lv ht hq hw apart len e = absurd (omega arith)
lifted inverse iv p v t (q ∷ qs) (w ∷ ws) lp lv ht hq hw apart len e =
    let a : ℕ = bit_xor q p in
    let la : IsByte a = xor_lt 8 q p hq.0 lp in
    let u = iv a apart.0 la in
    let first : value_at t q ≡ product (bit_xor w v) (inverse a) = ap (λ (l : List ℕ). slice_index l 0) e in
    let others : map (value_at t) qs ≡ quotients inverse p v qs ws = ap (λ (l : List ℕ). drop 1 l) e in
    let head : value_at (raised p v t) q ≡ w =
    value_at-raised p v q t lp hq.0 ht ∙ ap (λ (k : ℕ). bit_xor v (product a k)) first ∙ back v w a (inverse a) lv hw.0 la u.0 u.1 in
    ap (λ (k : ℕ). k ∷ map (value_at (raised p v t)) qs) head
    ∙ ap (λ (l : List ℕ). w ∷ l) (lifted inverse iv p v t qs ws lp lv ht hq.1 hw.1 apart.1 (omega arith) others)

-- through any values at distinct points there is a polynomial
pub record IsThrough (cs ps vs : List ℕ) : Type 0 where
  pub bytes : AreBytes cs
  pub count : length cs ≡ length ps
  pub values : map (value_at cs) ps ≡ vs

pub through-values : (inverse : ℕ → ℕ) → IsInverse inverse → (ps vs : List ℕ) → AreBytes ps → AreBytes vs → AllApart ps → length vs ≡ length ps
    → IsThrough (through inverse ps vs) ps vs
unfolding through AllApart
through-values inverse iv [] [] hp hv apart len = record { bytes = tt; count = refl; values = refl }
through-values inverse iv [] (v ∷ vs) hp hv apart len = absurd (omega arith)
through-values inverse iv (p ∷ ps) [] hp hv apart len = absurd (omega arith)
through-values inverse iv (p ∷ ps) (v ∷ vs) hp hv apart len =
    let qs : List ℕ = quotients inverse p v ps vs in
    let t : List ℕ = through inverse ps qs in
    let e : length vs ≡ length ps = omega arith in
    let ih = through-values inverse iv ps qs hp.1 (AreBytes-quotients inverse iv p v ps vs hp.0 hv.0 hp.1 hv.1 apart.0) apart.1 (length-quotients inverse p v ps vs e) in
    let here : value_at (raised p v t) p ≡ v =
    value_at-raised p v p t hp.0 hp.0 ih.bytes ∙ ap (λ (k : ℕ). bit_xor v (product k (value_at t p))) (xor_self p)
    ∙ ap (bit_xor v) (zero-product (value_at t p)) ∙ xor_zero_r v in
    record {
      bytes = AreBytes-raised p v t hp.0 hv.0 ih.bytes;
      count = length-raised p v t ∙ ap suc ih.count;
      values = ap (λ (k : ℕ). k ∷ map (value_at (raised p v t)) ps) here
          ∙ ap (λ (l : List ℕ). v ∷ l) (lifted inverse iv p v t ps vs hp.0 hv.0 ih.bytes hp.1 hv.1 apart.0 e ih.values);
    }

-- ---- the code's loop

pub get_or-scaled : (inverse : ℕ → ℕ) (x p : ℕ) (qs ws : List ℕ) (k : ℕ) → k < length qs → length ws ≡ length qs
    → slice_index (scaled inverse x p qs ws) k ≡ product (slice_index ws k) (product (bit_xor x p) (inverse (bit_xor (slice_index qs k) p)))
unfolding scaled
get_or-scaled inverse x p [] ws k lt e = absurd (omega arith)
get_or-scaled inverse x p (q ∷ qs) [] k lt e = absurd (omega arith)
get_or-scaled inverse x p (q ∷ qs) (w ∷ ws) zero lt e = refl
get_or-scaled inverse x p (q ∷ qs) (w ∷ ws) (suc k) lt e = get_or-scaled inverse x p qs ws k (omega arith) (omega arith)

pub scaled_from : (inverse : ℕ → ℕ) (x p : ℕ) (qs ws vs : List ℕ) → length ws ≡ length qs → length vs ≡ length qs
    → ((k : ℕ) → k < length qs → slice_index vs k ≡ product (slice_index ws k) (product (bit_xor x p) (inverse (bit_xor (slice_index qs k) p))))
    → vs ≡ scaled inverse x p qs ws
scaled_from inverse x p qs ws vs e f h =
    same_number_lists vs (scaled inverse x p qs ws) (f ∙ sym (length-scaled inverse x p qs ws e))
    (λ k lt. let at : k < length qs = omega arith in h k at ∙ sym (get_or-scaled inverse x p qs ws k at e))

pub xor_sum_push : (xs : List ℕ) (v : ℕ) → xor_sum (xs ++ v ∷ []) ≡ bit_xor (xor_sum xs) v
unfolding xor_sum
xor_sum_push [] v = xor_zero_r v
xor_sum_push (x ∷ xs) v = ap (bit_xor x) (xor_sum_push xs v) ∙ sym (xor_assoc x (xor_sum xs) v)

pub AreBytes_from : (xs : List ℕ) → ((k : ℕ) → k < length xs → slice_index xs k < 2 ^ 8) → AreBytes xs
AreBytes_from [] h = tt
AreBytes_from (x ∷ xs) h = (h 0 (omega arith), AreBytes_from xs (λ k lt. h (suc k) (omega arith)))

pub AreBytes-scaled : (inverse : ℕ → ℕ) → IsInverse inverse → (x p : ℕ) (qs ws : List ℕ) → IsByte x → IsByte p → AreBytes qs → AreBytes ws → Apart p qs
    → AreBytes (scaled inverse x p qs ws)
unfolding scaled Apart
AreBytes-scaled inverse iv x p [] ws lx lp hq hw apart = tt
AreBytes-scaled inverse iv x p (q ∷ qs) [] lx lp hq hw apart = tt
AreBytes-scaled inverse iv x p (q ∷ qs) (w ∷ ws) lx lp hq hw apart = (
  product-lt w (product (bit_xor x p) (inverse (bit_xor q p))) hw.0
      (product-lt (bit_xor x p) (inverse (bit_xor q p)) (xor_lt 8 x p lx lp) (iv (bit_xor q p) apart.0 (xor_lt 8 q p hq.0 lp)).0),
  AreBytes-scaled inverse iv x p qs ws lx lp hq.1 hw.1 apart.1,
)

xor-pos : (q p : ℕ) → q ≢ p → 0 < bit_xor q p
xor-pos q p ne = elim (cases_lt 0 (bit_xor q p)) [
  | inl pos ↦ pos
  | inr none ↦
      let zero_is : bit_xor q p ≡ 0 = omega arith in
      absurd (ne (sym (xor_zero_r q) ∙ ap (bit_xor q) (sym (xor_self p)) ∙ sym (xor_assoc q p p) ∙ ap (λ (x : ℕ). bit_xor x p) zero_is))
]

pub Apart_from : (p : ℕ) (qs : List ℕ) → ((j : ℕ) → j < length qs → slice_index qs j ≢ p) → Apart p qs
unfolding Apart
Apart_from p [] h = tt
Apart_from p (q ∷ qs) h = (xor-pos q p (h 0 (omega arith)), Apart_from p qs (λ j lt. h (suc j) (omega arith)))

pub GivesValue_none : (x : ℕ) → GivesValue [] [] x
unfolding weighted value_at
GivesValue_none x [] hc e = refl
GivesValue_none x (c ∷ cs) hc e = absurd (omega arith)

-- one turn of the loop over the points
pub record Turned (inverse : ℕ → ℕ) (x k last : ℕ) (ps w s : List ℕ) : Type 0 where
  pub gives : GivesValue (take (k + 1) (set (s ++ drop k w) k last)) (take (k + 1) ps) x
  pub bytes : AreBytes (take (k + 1) (set (s ++ drop k w) k last))

AreBytes_push : (xs : List ℕ) (x : ℕ) → AreBytes xs → IsByte x → AreBytes (xs ++ x ∷ [])
AreBytes_push [] x h lx = (lx, tt)
AreBytes_push (y ∷ xs) x h lx = (h.0, AreBytes_push xs x h.1 lx)

xor_sum-lt : (xs : List ℕ) → AreBytes xs → IsByte (xor_sum xs)
unfolding xor_sum
xor_sum-lt [] h = lit< tt
xor_sum-lt (x ∷ xs) h = xor_lt 8 x (xor_sum xs) h.0 (xor_sum-lt xs h.1)

pub weights_more : (inverse : ℕ → ℕ) → IsInverse inverse → (x k last : ℕ) (ps w s : List ℕ) → k < length ps → length w ≡ length ps
    → IsByte x → ((j : ℕ) → j < length ps → slice_index ps j < 2 ^ 8) → ((i j : ℕ) → i < j → j < length ps → slice_index ps i ≢ slice_index ps j)
    → AreBytes (take k w) → GivesValue (take k w) (take k ps) x
    → s ≡ scaled inverse x (slice_index ps k) (take k ps) (take k w) → last ≡ bit_xor 1 (xor_sum s)
    → Turned inverse x k last ps w s
weights_more inverse iv x k last ps w s lt len lx hp apart hw gives es el =
    let p : ℕ = slice_index ps k in
    let qs : List ℕ = take k ps in
    let ws : List ℕ = take k w in
    let nq : length qs ≡ k = length-take-le k ps (omega arith) in
    let nw : length ws ≡ k = length-take-le k w (omega arith) in
    let at : (j : ℕ) → j < length qs → slice_index qs j ≡ slice_index ps j = λ j lj. let lk : j < k = omega arith in get_or-take k ps j 0 lk in
    let hq : AreBytes qs = AreBytes_from qs (λ j lj. subst (λ (u : ℕ). u < 2 ^ 8) (sym (at j lj)) (hp j (omega arith))) in
    let ap_q : Apart p qs = Apart_from p qs (λ j lj e. apart j k (omega arith) lt (sym (at j lj) ∙ e)) in
    let base : GivesValue (extended inverse x p qs ws) (qs ++ p ∷ []) x =
    GivesValue-more inverse iv x p qs ws lx (hp k lt) hq hw ap_q (nw ∙ sym nq) gives in
    let ns : length s ≡ k = ap length es ∙ length-scaled inverse x p qs ws (nw ∙ sym nq) ∙ nq in
    let e1 : take (k + 1) ps ≡ qs ++ p ∷ [] = take_more ps k 0 lt in
    let room : k < length (s ++ drop k w) = omega (arith, length-append s (drop k w), length-drop k w) in
    let e2 : take (k + 1) (set (s ++ drop k w) k last) ≡ s ++ last ∷ [] =
    take_more_set (s ++ drop k w) k last room ∙ ap (λ (l : List ℕ). l ++ last ∷ []) (take-append-le k s (drop k w) (omega arith) ∙ take_all k s (omega arith)) in
    let e3 : s ++ last ∷ [] ≡ extended inverse x p qs ws =
    ap (λ (u : ℕ). s ++ u ∷ []) el ∙ ap (λ (l : List ℕ). l ++ bit_xor 1 (xor_sum l) ∷ []) es in
    let hs : AreBytes s = subst AreBytes (sym es) (AreBytes-scaled inverse iv x p qs ws lx (hp k lt) hq hw ap_q) in
    let hl : IsByte last = subst (λ (u : ℕ). u < 2 ^ 8) (sym el) (xor_lt 8 1 (xor_sum s) (lit< tt) (xor_sum-lt s hs)) in
    record {
      gives = subst (λ (l : List ℕ). GivesValue l (take (k + 1) ps) x) (sym (e2 ∙ e3)) (subst (λ (l : List ℕ). GivesValue (extended inverse x p qs ws) l x) (sym e1) base);
      bytes = subst AreBytes (sym e2) (AreBytes_push s last hs hl);
    }

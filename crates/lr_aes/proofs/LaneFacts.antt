-- S by lanes, tested by the checker.
use Rattle.std.proofs.Common.{◌≡◌, ℕ, suc, ◌+◌, ◌*◌, ◌/◌, ◌%◌, ◌<◌, ◌≤◌, ◌==◌, ◌||◌, Bool, true, false, cond, T, ltb, leb, List, [], ◌∷◌, map, length, get_or, bit_xor, nat_lt, nat_le, refl, sym, ap, subst, ◌∙◌, arith, inl, inr, w8, Fits, lt-ltb, le-leb}
use Rattle.std.proofs.lemmas.Bool.{eqb-true, ltb-true, leb-true, or_cases, or_left, or_right}
use Rattle.std.proofs.lemmas.Simd.{swz_l, SwzOk, SwzOk-from_Each1, Each1-weaker, map-map}
use Rattle.std.specs.Simd.Lanes.{Each1, zip2}
use Rattle.std.specs.Int.{bit_at}
use Rattle.lr_field.specs.Field.{product, polynomial_product, remainder, inverse, inverse_below}
use Rattle.lr_field.proofs.Linear.{bit_gate, xor_swap}
use Rattle.lr_field.proofs.AllBelow.{all_below, all_below-at}
use Rattle.lr_aes.specs.Cipher.{sub_byte}
use Rattle.lr_aes.specs.Lanes.{sum_at_bits, standard, IsPlace, entry, upper_place, lower_place, read_at}
use Rattle.lr_aes.specs.declared.tables.TheConstants.{BASIS_LOW, BASIS_HIGH, INVERSES, QUOTIENTS, ONCE_UPPER, ONCE_LOWER, TWICE_UPPER, TWICE_LOWER, LAST_UPPER, LAST_LOWER}

-- ---- sums

sum-xor : (cs : List ℕ) (i a b : ℕ) → sum_at_bits cs i (bit_xor a b) ≡ bit_xor (sum_at_bits cs i a) (sum_at_bits cs i b)
unfolding sum_at_bits
sum-xor [] i a b = refl
sum-xor (c ∷ cs) i a b =
    (λ k. bit_xor (bit_gate a b i c k) (sum-xor cs (suc i) a b k))
    ∙ xor_swap (bit_at a i * c) (bit_at b i * c) (sum_at_bits cs (suc i) a) (sum_at_bits cs (suc i) b)

pub standard-xor : (a b : ℕ) → standard (bit_xor a b) ≡ bit_xor (standard a) (standard b)
unfolding standard
standard-xor a b = sum-xor (0x60 ∷ 0xb6 ∷ 0x29 ∷ 0x08 ∷ 0xec ∷ 0xbc ∷ 0x51 ∷ 0xe0 ∷ []) 0 a b

pub standard_sum : (xs ys : List ℕ) → map standard (zip2 bit_xor xs ys) ≡ zip2 bit_xor (map standard xs) (map standard ys)
standard_sum [] ys = refl
standard_sum (x ∷ xs) [] = refl
standard_sum (x ∷ xs) (y ∷ ys) = λ i. standard-xor x y i ∷ standard_sum xs ys i

-- ---- lanes that are computed from lanes

pub same_lanes : (f g : ℕ → ℕ) → ((b : ℕ) → b < 256 → f b ≡ g b) → (x : List ℕ) → Each1 (Fits w8) x → map f x ≡ map g x
same_lanes f g h [] fits = refl
same_lanes f g h (b ∷ x) fits = λ i. h b fits.0.fits i ∷ same_lanes f g h x fits.1 i

pub as_it_is : (x : List ℕ) → map (λ b. b) x ≡ x
as_it_is [] = refl
as_it_is (b ∷ x) = ap (λ (l : List ℕ). b ∷ l) (as_it_is x)

each_place : (g : ℕ → ℕ) → ((b : ℕ) → b < 256 → IsPlace (g b)) → (x : List ℕ) → Each1 (Fits w8) x → Each1 IsPlace (map g x)
each_place g h [] fits = tt
each_place g h (b ∷ x) fits = (h b fits.0.fits, each_place g h x fits.1)

pub places_are : (g : ℕ → ℕ) → ((b : ℕ) → b < 256 → IsPlace (g b)) → (x v : List ℕ) → Each1 (Fits w8) x → v ≡ map g x → Each1 IsPlace v
places_are g h x v fits e = subst (Each1 IsPlace) (sym e) (each_place g h x fits)

-- a look-up at such places
pub looked_up : (table : List ℕ) (g : ℕ → ℕ) (x v r : List ℕ) → r ≡ map (entry table) v → v ≡ map g x → r ≡ map (λ b. entry table (g b)) x
looked_up table g x v r e h = e ∙ ap (map (entry table)) h ∙ map-map (entry table) g x

-- ---- one look-up

true_is : (b : Bool) → b ≡ true → T b
true_is true e = tt
true_is false e = subst T (sym e) tt

place_read : (j : ℕ) → IsPlace j → T (leb 128 j || ltb j 16)
place_read j (inl lt) = true_is _ (or_right _ _ (lt-ltb j 16 lt))
place_read j (inr le) = true_is _ (or_left _ _ (le-leb 128 j le))

pub may_read : (js : List ℕ) → length js ≡ 16 → Each1 IsPlace js → SwzOk w8 16 16 0 js
may_read js len places =
    SwzOk-from_Each1 w8 16 1 16 0 js refl (omega arith) (Each1-weaker IsPlace (λ j. T (leb 128 j || ltb j 16)) place_read js places)

pub read_by : (table : List ℕ) (i : ℕ) (js : List ℕ) → i + length js ≤ 16 → swz_l w8 16 table i js ≡ map (entry table) js
read_by table i [] le = refl
read_by table i (j ∷ js) le =
    let here : 16 * (i / 16) + j ≡ j = omega arith in
    let first : cond (leb 128 j) 0 (get_or table (16 * (i / 16) + j) 0) ≡ entry table j = ap (λ (n : ℕ). cond (leb 128 j) 0 (get_or table n 0)) here in
    let others : swz_l w8 16 table (suc i) js ≡ map (entry table) js = read_by table (suc i) js (omega arith) in
    λ k. first k ∷ others k

-- ---- the tables

abbrev basis_ok : ℕ → Bool
basis_ok b = standard (bit_xor (entry BASIS_LOW (b % 16)) (entry BASIS_HIGH (b / 16))) == b

basis_test : all_below basis_ok 256 ≡ true
unfolding all_below standard sum_at_bits
basis_test = refl

pub basis_at : (b : ℕ) → b < 256 → standard (bit_xor (entry BASIS_LOW (b % 16)) (entry BASIS_HIGH (b / 16))) ≡ b
basis_at b lb = eqb-true _ _ (all_below-at basis_ok 256 b basis_test lb)

abbrev is_place : ℕ → Bool
is_place i = nat_lt i 16 || nat_le 128 i

place_at : (g : ℕ → ℕ) → all_below (λ b. is_place (g b)) 256 ≡ true → (b : ℕ) → b < 256 → IsPlace (g b)
place_at g test b lb =
    elim (or_cases (nat_lt (g b) 16) _ (all_below-at (λ b. is_place (g b)) 256 b test lb)) [
      | inl lt ↦ inl (ltb-true _ _ lt)
      | inr le ↦ inr (leb-true _ _ le)
    ]

pub low_place : (b : ℕ) → b < 256 → IsPlace (b % 16)
low_place b lb = inl (omega arith)

pub high_place : (b : ℕ) → b < 256 → IsPlace (b / 16)
high_place b lb = inl (omega arith)

abbrev pub sum_of : ℕ → ℕ
sum_of y = bit_xor (y / 16) (y % 16)

abbrev pub upper_before : ℕ → ℕ
upper_before y = bit_xor (entry INVERSES (y / 16)) (entry QUOTIENTS (y % 16))

abbrev pub lower_before : ℕ → ℕ
lower_before y = bit_xor (entry INVERSES (sum_of y)) (entry QUOTIENTS (y % 16))

sum_test : all_below (λ y. is_place (sum_of y)) 256 ≡ true
unfolding all_below
sum_test = refl

upper_before_test : all_below (λ y. is_place (upper_before y)) 256 ≡ true
unfolding all_below
upper_before_test = refl

lower_before_test : all_below (λ y. is_place (lower_before y)) 256 ≡ true
unfolding all_below
lower_before_test = refl

upper_test : all_below (λ y. is_place (upper_place y)) 256 ≡ true
unfolding all_below upper_place
upper_test = refl

lower_test : all_below (λ y. is_place (lower_place y)) 256 ≡ true
unfolding all_below lower_place
lower_test = refl

pub sum_place : (y : ℕ) → y < 256 → IsPlace (sum_of y)
sum_place = place_at sum_of sum_test

pub upper_before_place : (y : ℕ) → y < 256 → IsPlace (upper_before y)
upper_before_place = place_at upper_before upper_before_test

pub lower_before_place : (y : ℕ) → y < 256 → IsPlace (lower_before y)
lower_before_place = place_at lower_before lower_before_test

pub upper_place_at : (y : ℕ) → y < 256 → IsPlace (upper_place y)
upper_place_at = place_at upper_place upper_test

pub lower_place_at : (y : ℕ) → y < 256 → IsPlace (lower_place y)
lower_place_at = place_at lower_place lower_test

pub upper_is : (y : ℕ) → bit_xor (entry INVERSES (upper_before y)) (sum_of y) ≡ upper_place y
unfolding upper_place
upper_is y = refl

pub lower_is : (y : ℕ) → bit_xor (entry INVERSES (lower_before y)) (y / 16) ≡ lower_place y
unfolding lower_place
lower_is y = refl

-- ---- S

abbrev once_ok : ℕ → Bool
once_ok y = standard (read_at ONCE_UPPER ONCE_LOWER 0x5b y) == sub_byte (standard y)

once_test : all_below once_ok 256 ≡ true
unfolding all_below standard sum_at_bits upper_place lower_place product polynomial_product remainder inverse inverse_below sub_byte
once_test = refl

pub once_at : (y : ℕ) → y < 256 → standard (read_at ONCE_UPPER ONCE_LOWER 0x5b y) ≡ sub_byte (standard y)
once_at y ly = eqb-true _ _ (all_below-at once_ok 256 y once_test ly)

abbrev twice_ok : ℕ → Bool
twice_ok y = standard (read_at TWICE_UPPER TWICE_LOWER 0x4e y) == product 2 (sub_byte (standard y))

twice_test : all_below twice_ok 256 ≡ true
unfolding all_below standard sum_at_bits upper_place lower_place product polynomial_product remainder inverse inverse_below sub_byte
twice_test = refl

pub twice_at : (y : ℕ) → y < 256 → standard (read_at TWICE_UPPER TWICE_LOWER 0x4e y) ≡ product 2 (sub_byte (standard y))
twice_at y ly = eqb-true _ _ (all_below-at twice_ok 256 y twice_test ly)

abbrev last_ok : ℕ → Bool
last_ok y = read_at LAST_UPPER LAST_LOWER 0x63 y == sub_byte (standard y)

last_test : all_below last_ok 256 ≡ true
unfolding all_below standard sum_at_bits upper_place lower_place product polynomial_product remainder inverse inverse_below sub_byte
last_test = refl

pub last_at : (y : ℕ) → y < 256 → read_at LAST_UPPER LAST_LOWER 0x63 y ≡ sub_byte (standard y)
last_at y ly = eqb-true _ _ (all_below-at last_ok 256 y last_test ly)

-- ---- three times

abbrev three_ok : ℕ → Bool
three_ok y = product 3 (standard y) == bit_xor (standard y) (product 2 (standard y))

three_test : all_below three_ok 256 ≡ true
unfolding all_below standard sum_at_bits product polynomial_product remainder
three_test = refl

pub three_at : (y : ℕ) → y < 256 → product 3 (standard y) ≡ bit_xor (standard y) (product 2 (standard y))
three_at y ly = eqb-true _ _ (all_below-at three_ok 256 y three_test ly)

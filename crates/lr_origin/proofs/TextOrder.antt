-- The order of kinds is the byte order of their texts.
use Rattle.std.proofs.Common.{◌≡◌, ◌≤◌, ◌<◌, ◌+◌, ◌*◌, ◌/◌, ◌%◌, ℕ, zero, suc, List, [], ◌∷◌, ◌++◌, refl, sym, ap, ◌∙◌, inl, inr, arith}
use mathlib.Core.Logic.{◌⊎◌}
use Rattle.std.specs.declared.cmp.Ordering.{Ordering}
use Rattle.std.specs.declared.cmp.Ordering.TheVariants.{Less, Equal, Greater}
use Rattle.std.specs.Ordering.{nat_cmp, ordering_then}
use Rattle.std.specs.Cmp.{nat_cmp_is}
use Rattle.std.specs.Cmp.Lexicographic.{slice_cmp}
use Rattle.std.proofs.lemmas.Bool.Decides.{nat_tests}
use Rattle.std.specs.Prelude.{slice_index, true, false, Bool}
use Rattle.hex.specs.Hex.{lower_digits, encode_lower, encode_with, IsBytes}
use Rattle.lr_text.specs.Words.{hex_digit, IsKey, key_word}
use Rattle.lr_origin.specs.Kind.{kind_cmp}
use Rattle.lr_origin.specs.Text.{key_text, root_text, IsKind, IsRoot}
use Rattle.lr_origin.specs.declared.key.KeyKind.{KeyKind}
use Rattle.lr_origin.specs.declared.key.KeyKind.TheVariants.{Root, Expired, Deleted, Chunk, Manifest, Withdrawn}

tri : (a b : ℕ) → (a < b) ⊎ ((a ≡ b) ⊎ (b < a))
tri a b = grind arith

abbrev cmp : List ℕ → List ℕ → Ordering
cmp = slice_cmp nat_cmp

is_less : (a b : ℕ) → a < b → nat_cmp a b ≡ Less
is_less a b h = sym (nat_cmp_is a b Less h)

is_same : (a b : ℕ) → a ≡ b → nat_cmp a b ≡ Equal
is_same a b h = sym (nat_cmp_is a b Equal h)

is_more : (a b : ℕ) → b < a → nat_cmp a b ≡ Greater
is_more a b h = sym (nat_cmp_is a b Greater h)

module _ (a b : ℕ) (xs ys : List ℕ) where
  first_less : a < b → cmp (a ∷ xs) (b ∷ ys) ≡ Less
  first_less h = ap (λ o. ordering_then o (cmp xs ys)) (is_less a b h)

  first_same : a ≡ b → cmp (a ∷ xs) (b ∷ ys) ≡ cmp xs ys
  first_same h = ap (λ o. ordering_then o (cmp xs ys)) (is_same a b h)

  first_more : b < a → cmp (a ∷ xs) (b ∷ ys) ≡ Greater
  first_more h = ap (λ o. ordering_then o (cmp xs ys)) (is_more a b h)

-- four digits in a row
module _ (a b c d e f g h : ℕ) (xs ys : List ℕ) where
  abbrev l4 : List ℕ
  l4 = 47 ∷ xs

  abbrev l3 : List ℕ
  l3 = (48 + d) ∷ 47 ∷ xs

  abbrev l2 : List ℕ
  l2 = (48 + c) ∷ (48 + d) ∷ 47 ∷ xs

  abbrev l1 : List ℕ
  l1 = (48 + b) ∷ (48 + c) ∷ (48 + d) ∷ 47 ∷ xs

  abbrev r4 : List ℕ
  r4 = 47 ∷ ys

  abbrev r3 : List ℕ
  r3 = (48 + h) ∷ 47 ∷ ys

  abbrev r2 : List ℕ
  r2 = (48 + g) ∷ (48 + h) ∷ 47 ∷ ys

  abbrev r1 : List ℕ
  r1 = (48 + f) ∷ (48 + g) ∷ (48 + h) ∷ 47 ∷ ys

  abbrev left : List ℕ
  left = (48 + a) ∷ (48 + b) ∷ (48 + c) ∷ (48 + d) ∷ 47 ∷ xs

  abbrev right : List ℕ
  right = (48 + e) ∷ (48 + f) ∷ (48 + g) ∷ (48 + h) ∷ 47 ∷ ys

  four_same : a ≡ e → b ≡ f → c ≡ g → d ≡ h → cmp left right ≡ cmp xs ys
  four_same i j k l = first_same (48 + a) (48 + e) l1 r1 (ap (λ n. 48 + n) i) ∙ first_same (48 + b) (48 + f) l2 r2 (ap (λ n. 48 + n) j) ∙ first_same (48 + c) (48 + g) l3 r3 (ap (λ n. 48 + n) k) ∙ first_same (48 + d) (48 + h) l4 r4 (ap (λ n. 48 + n) l)

  four_more : b ≤ 9 → c ≤ 9 → d ≤ 9 → f ≤ 9 → g ≤ 9 → h ≤ 9 → 1000 * e + 100 * f + 10 * g + h < 1000 * a + 100 * b + 10 * c + d → cmp left right ≡ Greater
  four_more b9 c9 d9 f9 g9 h9 less = one (tri a e)
    where
      three : a ≡ e → b ≡ f → (c < g) ⊎ ((c ≡ g) ⊎ (g < c)) → cmp ((48 + c) ∷ (48 + d) ∷ 47 ∷ xs) ((48 + g) ∷ (48 + h) ∷ 47 ∷ ys) ≡ Greater
      three i j (inr (inr m)) = first_more (48 + c) (48 + g) l3 r3 (omega (arith, m))
      three i j (inr (inl k)) = first_same (48 + c) (48 + g) l3 r3 (ap (λ n. 48 + n) k) ∙ first_more (48 + d) (48 + h) l4 r4 (omega (arith, i, j, k, less))
      three i j (inl m) = absurd (omega (arith, i, j, m, less, d9, h9))

      two : a ≡ e → (b < f) ⊎ ((b ≡ f) ⊎ (f < b)) → cmp ((48 + b) ∷ (48 + c) ∷ (48 + d) ∷ 47 ∷ xs) ((48 + f) ∷ (48 + g) ∷ (48 + h) ∷ 47 ∷ ys) ≡ Greater
      two i (inr (inr m)) = first_more (48 + b) (48 + f) l2 r2 (omega (arith, m))
      two i (inr (inl j)) = first_same (48 + b) (48 + f) l2 r2 (ap (λ n. 48 + n) j) ∙ three i j (tri c g)
      two i (inl m) = absurd (omega (arith, i, m, less, c9, d9, g9, h9))

      one : (a < e) ⊎ ((a ≡ e) ⊎ (e < a)) → cmp left right ≡ Greater
      one (inr (inr m)) = first_more (48 + a) (48 + e) l1 r1 (omega (arith, m))
      one (inr (inl i)) = first_same (48 + a) (48 + e) l1 r1 (ap (λ n. 48 + n) i) ∙ two i (tri b f)
      one (inl m) = absurd (omega (arith, m, less, b9, c9, d9, f9, g9, h9))

  four_less : b ≤ 9 → c ≤ 9 → d ≤ 9 → f ≤ 9 → g ≤ 9 → h ≤ 9 → 1000 * a + 100 * b + 10 * c + d < 1000 * e + 100 * f + 10 * g + h → cmp left right ≡ Less
  four_less b9 c9 d9 f9 g9 h9 less = one (tri a e)
    where
      three : a ≡ e → b ≡ f → (c < g) ⊎ ((c ≡ g) ⊎ (g < c)) → cmp ((48 + c) ∷ (48 + d) ∷ 47 ∷ xs) ((48 + g) ∷ (48 + h) ∷ 47 ∷ ys) ≡ Less
      three i j (inl m) = first_less (48 + c) (48 + g) l3 r3 (omega (arith, m))
      three i j (inr (inl k)) = first_same (48 + c) (48 + g) l3 r3 (ap (λ n. 48 + n) k) ∙ first_less (48 + d) (48 + h) l4 r4 (omega (arith, i, j, k, less))
      three i j (inr (inr m)) = absurd (omega (arith, i, j, m, less, d9, h9))

      two : a ≡ e → (b < f) ⊎ ((b ≡ f) ⊎ (f < b)) → cmp ((48 + b) ∷ (48 + c) ∷ (48 + d) ∷ 47 ∷ xs) ((48 + f) ∷ (48 + g) ∷ (48 + h) ∷ 47 ∷ ys) ≡ Less
      two i (inl m) = first_less (48 + b) (48 + f) l2 r2 (omega (arith, m))
      two i (inr (inl j)) = first_same (48 + b) (48 + f) l2 r2 (ap (λ n. 48 + n) j) ∙ three i j (tri c g)
      two i (inr (inr m)) = absurd (omega (arith, i, m, less, c9, d9, g9, h9))

      one : (a < e) ⊎ ((a ≡ e) ⊎ (e < a)) → cmp left right ≡ Less
      one (inl m) = first_less (48 + a) (48 + e) l1 r1 (omega (arith, m))
      one (inr (inl i)) = first_same (48 + a) (48 + e) l1 r1 (ap (λ n. 48 + n) i) ∙ two i (tri b f)
      one (inr (inr m)) = absurd (omega (arith, m, less, b9, c9, d9, f9, g9, h9))

digits : (r : ℕ) → r ≤ 1000 → 1000 * (r / 1000) + 100 * (r / 100 % 10) + 10 * (r / 10 % 10) + r % 10 ≡ r
digits r h = omega arith

digit : (r : ℕ) → r % 10 ≤ 9
digit r = omega arith

-- below a root
root_text_less : (q r : ℕ) (xs ys : List ℕ) → q ≤ 1000 → r ≤ 1000 → q < r → cmp (root_text q ++ xs) (root_text r ++ ys) ≡ Less
root_text_less q r xs ys a b less = four_less (q / 1000) (q / 100 % 10) (q / 10 % 10) (q % 10) (r / 1000) (r / 100 % 10) (r / 10 % 10) (r % 10) xs ys (digit (q / 100)) (digit (q / 10)) (digit q) (digit (r / 100)) (digit (r / 10)) (digit r) (omega (arith, digits q a, digits r b, less))

root_text_same : (q r : ℕ) (xs ys : List ℕ) → q ≡ r → cmp (root_text q ++ xs) (root_text r ++ ys) ≡ cmp xs ys
root_text_same q r xs ys e = four_same (q / 1000) (q / 100 % 10) (q / 10 % 10) (q % 10) (r / 1000) (r / 100 % 10) (r / 10 % 10) (r % 10) xs ys (ap (λ n. n / 1000) e) (ap (λ n. n / 100 % 10) e) (ap (λ n. n / 10 % 10) e) (ap (λ n. n % 10) e)

root_text_more : (q r : ℕ) (xs ys : List ℕ) → q ≤ 1000 → r ≤ 1000 → r < q → cmp (root_text q ++ xs) (root_text r ++ ys) ≡ Greater
root_text_more q r xs ys a b less = four_more (q / 1000) (q / 100 % 10) (q / 10 % 10) (q % 10) (r / 1000) (r / 100 % 10) (r / 10 % 10) (r % 10) xs ys (digit (q / 100)) (digit (q / 10)) (digit q) (digit (r / 100)) (digit (r / 10)) (digit r) (omega (arith, digits q a, digits r b, less))

root_text_cmp : (q r : ℕ) (xs ys : List ℕ) → IsRoot q → IsRoot r → cmp (root_text q ++ xs) (root_text r ++ ys) ≡ cmp (q ∷ xs) (r ∷ ys)
root_text_cmp q r xs ys a b = by (tri q r)
  where
    by : (q < r) ⊎ ((q ≡ r) ⊎ (r < q)) → cmp (root_text q ++ xs) (root_text r ++ ys) ≡ cmp (q ∷ xs) (r ∷ ys)
    by (inl l) = root_text_less q r xs ys a.1 b.1 l ∙ sym (first_less q r xs ys l)
    by (inr (inl e)) = root_text_same q r xs ys e ∙ sym (first_same q r xs ys e)
    by (inr (inr m)) = root_text_more q r xs ys a.1 b.1 m ∙ sym (first_more q r xs ys m)

-- a digit of the alphabet
dig : ℕ → ℕ
dig d = slice_index lower_digits d

dig_is : (d : ℕ) → d < 16 → dig d ≡ hex_digit d
unfolding dig
dig_is zero h = refl
dig_is (suc zero) h = refl
dig_is (suc (suc zero)) h = refl
dig_is (suc (suc (suc zero))) h = refl
dig_is (suc (suc (suc (suc zero)))) h = refl
dig_is (suc (suc (suc (suc (suc zero))))) h = refl
dig_is (suc (suc (suc (suc (suc (suc zero)))))) h = refl
dig_is (suc (suc (suc (suc (suc (suc (suc zero))))))) h = refl
dig_is (suc (suc (suc (suc (suc (suc (suc (suc zero)))))))) h = refl
dig_is (suc (suc (suc (suc (suc (suc (suc (suc (suc zero))))))))) h = refl
dig_is (suc (suc (suc (suc (suc (suc (suc (suc (suc (suc zero)))))))))) h = refl
dig_is (suc (suc (suc (suc (suc (suc (suc (suc (suc (suc (suc zero))))))))))) h = refl
dig_is (suc (suc (suc (suc (suc (suc (suc (suc (suc (suc (suc (suc zero)))))))))))) h = refl
dig_is (suc (suc (suc (suc (suc (suc (suc (suc (suc (suc (suc (suc (suc zero))))))))))))) h = refl
dig_is (suc (suc (suc (suc (suc (suc (suc (suc (suc (suc (suc (suc (suc (suc zero)))))))))))))) h = refl
dig_is (suc (suc (suc (suc (suc (suc (suc (suc (suc (suc (suc (suc (suc (suc (suc zero))))))))))))))) h = refl
dig_is (suc (suc (suc (suc (suc (suc (suc (suc (suc (suc (suc (suc (suc (suc (suc (suc d)))))))))))))))) h = absurd (omega arith)

hex_digit_less : (x y : ℕ) → x < y → hex_digit x < hex_digit y
hex_digit_less x y h = grind (arith, nat_tests)

digit_less : (x y : ℕ) → x < y → y < 16 → dig x < dig y
digit_less x y h k = rw (dig_is x (omega arith), dig_is y k) (hex_digit_less x y h)

-- hexadecimal digits keep the order of bytes
hex_cmp : (xs ys : List ℕ) → IsBytes xs → IsBytes ys → cmp (encode_lower xs) (encode_lower ys) ≡ cmp xs ys
unfolding encode_with dig
hex_cmp [] [] a b = refl
hex_cmp [] (y ∷ ys) a b = refl
hex_cmp (x ∷ xs) [] a b = refl
hex_cmp (x ∷ xs) (y ∷ ys) a b = by (hex_cmp xs ys (λ i. a (suc i)) (λ i. b (suc i))) (tri x y) (tri (x / 16) (y / 16))
  where
    x_fits : x < 256
    x_fits = a 0

    y_fits : y < 256
    y_fits = b 0

    by : cmp (encode_lower xs) (encode_lower ys) ≡ cmp xs ys → (x < y) ⊎ ((x ≡ y) ⊎ (y < x)) → (x / 16 < y / 16) ⊎ ((x / 16 ≡ y / 16) ⊎ (y / 16 < x / 16)) → cmp (encode_lower (x ∷ xs)) (encode_lower (y ∷ ys)) ≡ cmp (x ∷ xs) (y ∷ ys)
    by rest (inl l) (inl m) = first_less (dig (x / 16)) (dig (y / 16)) (dig (x % 16) ∷ encode_lower xs) (dig (y % 16) ∷ encode_lower ys) (digit_less _ _ m (omega (arith, y_fits))) ∙ sym (first_less x y xs ys l)
    by rest (inl l) (inr (inl m)) = first_same (dig (x / 16)) (dig (y / 16)) (dig (x % 16) ∷ encode_lower xs) (dig (y % 16) ∷ encode_lower ys) (ap dig m) ∙ first_less (dig (x % 16)) (dig (y % 16)) (encode_lower xs) (encode_lower ys) (digit_less _ _ (omega (arith, l, m)) (omega arith)) ∙ sym (first_less x y xs ys l)
    by rest (inl l) (inr (inr m)) = absurd (omega (arith, l, m))
    by rest (inr (inl e)) k = first_same (dig (x / 16)) (dig (y / 16)) (dig (x % 16) ∷ encode_lower xs) (dig (y % 16) ∷ encode_lower ys) (ap (λ n. dig (n / 16)) e) ∙ first_same (dig (x % 16)) (dig (y % 16)) (encode_lower xs) (encode_lower ys) (ap (λ n. dig (n % 16)) e) ∙ rest ∙ sym (first_same x y xs ys e)
    by rest (inr (inr l)) (inr (inr m)) = first_more (dig (x / 16)) (dig (y / 16)) (dig (x % 16) ∷ encode_lower xs) (dig (y % 16) ∷ encode_lower ys) (digit_less _ _ m (omega (arith, x_fits))) ∙ sym (first_more x y xs ys l)
    by rest (inr (inr l)) (inr (inl m)) = first_same (dig (x / 16)) (dig (y / 16)) (dig (x % 16) ∷ encode_lower xs) (dig (y % 16) ∷ encode_lower ys) (ap dig m) ∙ first_more (dig (x % 16)) (dig (y % 16)) (encode_lower xs) (encode_lower ys) (digit_less _ _ (omega (arith, l, m)) (omega arith)) ∙ sym (first_more x y xs ys l)
    by rest (inr (inr l)) (inl m) = absurd (omega (arith, l, m))

-- what stands behind a root, in a text and in the numbers of a kind
module _ (q r : ℕ) (a : IsRoot q) (b : IsRoot r) where
  both : (xs ys us vs : List ℕ) → cmp xs ys ≡ cmp us vs → cmp (root_text q ++ xs) (root_text r ++ ys) ≡ cmp (0 ∷ q ∷ us) (0 ∷ r ∷ vs)
  both xs ys us vs e = root_text_cmp q r xs ys a b ∙ ap (ordering_then (nat_cmp q r)) e

-- the order of kinds is the byte order of their texts
pub order_is_text : (j k : KeyKind) → IsKind j → IsKind k → slice_cmp nat_cmp (key_text j) (key_text k) ≡ kind_cmp j k
unfolding key_text
order_is_text (Root q) (Root r) a b = both q r a b (97 ∷ []) (97 ∷ []) (97 ∷ []) (97 ∷ []) refl
order_is_text (Root q) (Expired r) a b = both q r a b (97 ∷ []) (101 ∷ []) (97 ∷ []) (101 ∷ []) refl
order_is_text (Root q) (Deleted r) a b = both q r a b (97 ∷ []) (100 ∷ []) (97 ∷ []) (100 ∷ []) refl
order_is_text (Root q) (Chunk r h2) a b = both q r a b.0 (97 ∷ []) (99 ∷ 47 ∷ key_word h2) (97 ∷ []) (99 ∷ h2) refl
order_is_text (Root q) (Manifest r n2) a b = both q r a b.0 (97 ∷ []) (109 ∷ 47 ∷ n2) (97 ∷ []) (109 ∷ n2) refl
order_is_text (Root q) (Withdrawn n2) a b = refl
order_is_text (Expired q) (Root r) a b = both q r a b (101 ∷ []) (97 ∷ []) (101 ∷ []) (97 ∷ []) refl
order_is_text (Expired q) (Expired r) a b = both q r a b (101 ∷ []) (101 ∷ []) (101 ∷ []) (101 ∷ []) refl
order_is_text (Expired q) (Deleted r) a b = both q r a b (101 ∷ []) (100 ∷ []) (101 ∷ []) (100 ∷ []) refl
order_is_text (Expired q) (Chunk r h2) a b = both q r a b.0 (101 ∷ []) (99 ∷ 47 ∷ key_word h2) (101 ∷ []) (99 ∷ h2) refl
order_is_text (Expired q) (Manifest r n2) a b = both q r a b.0 (101 ∷ []) (109 ∷ 47 ∷ n2) (101 ∷ []) (109 ∷ n2) refl
order_is_text (Expired q) (Withdrawn n2) a b = refl
order_is_text (Deleted q) (Root r) a b = both q r a b (100 ∷ []) (97 ∷ []) (100 ∷ []) (97 ∷ []) refl
order_is_text (Deleted q) (Expired r) a b = both q r a b (100 ∷ []) (101 ∷ []) (100 ∷ []) (101 ∷ []) refl
order_is_text (Deleted q) (Deleted r) a b = both q r a b (100 ∷ []) (100 ∷ []) (100 ∷ []) (100 ∷ []) refl
order_is_text (Deleted q) (Chunk r h2) a b = both q r a b.0 (100 ∷ []) (99 ∷ 47 ∷ key_word h2) (100 ∷ []) (99 ∷ h2) refl
order_is_text (Deleted q) (Manifest r n2) a b = both q r a b.0 (100 ∷ []) (109 ∷ 47 ∷ n2) (100 ∷ []) (109 ∷ n2) refl
order_is_text (Deleted q) (Withdrawn n2) a b = refl
order_is_text (Chunk q h1) (Root r) a b = both q r a.0 b (99 ∷ 47 ∷ key_word h1) (97 ∷ []) (99 ∷ h1) (97 ∷ []) refl
order_is_text (Chunk q h1) (Expired r) a b = both q r a.0 b (99 ∷ 47 ∷ key_word h1) (101 ∷ []) (99 ∷ h1) (101 ∷ []) refl
order_is_text (Chunk q h1) (Deleted r) a b = both q r a.0 b (99 ∷ 47 ∷ key_word h1) (100 ∷ []) (99 ∷ h1) (100 ∷ []) refl
order_is_text (Chunk q h1) (Chunk r h2) a b = both q r a.0 b.0 (99 ∷ 47 ∷ key_word h1) (99 ∷ 47 ∷ key_word h2) (99 ∷ h1) (99 ∷ h2) (hex_cmp h1 h2 a.1.bytes b.1.bytes)
order_is_text (Chunk q h1) (Manifest r n2) a b = both q r a.0 b.0 (99 ∷ 47 ∷ key_word h1) (109 ∷ 47 ∷ n2) (99 ∷ h1) (109 ∷ n2) refl
order_is_text (Chunk q h1) (Withdrawn n2) a b = refl
order_is_text (Manifest q n1) (Root r) a b = both q r a.0 b (109 ∷ 47 ∷ n1) (97 ∷ []) (109 ∷ n1) (97 ∷ []) refl
order_is_text (Manifest q n1) (Expired r) a b = both q r a.0 b (109 ∷ 47 ∷ n1) (101 ∷ []) (109 ∷ n1) (101 ∷ []) refl
order_is_text (Manifest q n1) (Deleted r) a b = both q r a.0 b (109 ∷ 47 ∷ n1) (100 ∷ []) (109 ∷ n1) (100 ∷ []) refl
order_is_text (Manifest q n1) (Chunk r h2) a b = both q r a.0 b.0 (109 ∷ 47 ∷ n1) (99 ∷ 47 ∷ key_word h2) (109 ∷ n1) (99 ∷ h2) refl
order_is_text (Manifest q n1) (Manifest r n2) a b = both q r a.0 b.0 (109 ∷ 47 ∷ n1) (109 ∷ 47 ∷ n2) (109 ∷ n1) (109 ∷ n2) refl
order_is_text (Manifest q n1) (Withdrawn n2) a b = refl
order_is_text (Withdrawn n1) (Root r) a b = refl
order_is_text (Withdrawn n1) (Expired r) a b = refl
order_is_text (Withdrawn n1) (Deleted r) a b = refl
order_is_text (Withdrawn n1) (Chunk r h2) a b = refl
order_is_text (Withdrawn n1) (Manifest r n2) a b = refl
order_is_text (Withdrawn n1) (Withdrawn n2) a b = refl

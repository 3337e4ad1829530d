-- The tables of GHASH, by linearity.
use Rattle.std.proofs.Common.{◌≡◌, ◌==◌, Bool, true, ℕ, zero, suc, ◌+◌, ◌-◌, ◌*◌, ◌/◌, ◌%◌, ◌^◌, ◌<◌, ◌≤◌, List, [], ◌∷◌, ◌++◌, length, map, slice_index, bit_xor, refl, sym, ap, subst, ◌∙◌, arith, lit<, zero-mul, one-mul}
use Rattle.std.proofs.lemmas.Bool.{eqb-true}
use Rattle.std.proofs.lemmas.Nat.{xor_shr, xor_mod, xor_comm, xor_lt, pow-add}
use Rattle.std.proofs.Math.Nat.{div-div-eq-div-mul}
use Rattle.std.specs.List.{range_with_len}
use lib.Bits.{xor_assoc, xor_zero_r, xor_shifted}
use Rattle.lr_field.proofs.Linear.{Additive, additive-zero, additive-same, xor_shl, xor_swap}
use Rattle.lr_field.proofs.AllBelow.{all_below, all_below-at}
use Rattle.lr_aes.specs.Ghash.{times_x, shifted, partial_product, block_product, power, ghash}
use Rattle.lr_aes.specs.Products.{running}
use Rattle.lr_aes.proofs.Blocks.{shifted-xor, shifted-lt, product-xor_l, block_product-xor_l, block_product-lt, pow_after, turn_shifted, running_is_ghash}
use Rattle.lr_aes.specs.declared.tables.TheConstants.{CARRIED}
use Rattle.lr_aes.specs.Products.{HasProducts, gathered}

-- ---- eight turns

carried_test : all_below (λ b. slice_index CARRIED b * 2 ^ 112 == shifted b 8) 256 ≡ true
unfolding all_below shifted times_x
carried_test = refl

pub carried_at : (b : ℕ) → b < 256 → slice_index CARRIED b * 2 ^ 112 ≡ shifted b 8
carried_at b lb = eqb-true _ _ (all_below-at (λ b. slice_index CARRIED b * 2 ^ 112 == shifted b 8) 256 b carried_test lb)

whole_test : all_below (λ k. shifted (2 ^ k * 2 ^ 8) 8 == 2 ^ k) 128 ≡ true
unfolding all_below shifted times_x
whole_test = refl

whole_turned : (q : ℕ) → q < 2 ^ 128 → shifted (q * 2 ^ 8) 8 ≡ q
whole_turned q lq =
    additive-same (λ q. shifted (q * 2 ^ 8) 8) (λ q. q)
    (λ a b. ap (λ (x : ℕ). shifted x 8) (xor_shl a b 8) ∙ shifted-xor (a * 2 ^ 8) (b * 2 ^ 8) 8) (λ a b. refl) 128
    (λ k lk. eqb-true _ _ (all_below-at (λ k. shifted (2 ^ k * 2 ^ 8) 8 == 2 ^ k) 128 k whole_test lk)) q lq

pub eight : (z : ℕ) → z < 2 ^ 128 → shifted z 8 ≡ bit_xor (z / 256) (slice_index CARRIED (z % 256) * 2 ^ 112)
eight z lz =
    let parts : z ≡ z / 256 * 2 ^ 8 + z % 256 = omega arith in
    let joined : bit_xor (z / 256 * 2 ^ 8) (z % 256) ≡ z / 256 * 2 ^ 8 + z % 256 = xor_shifted (z / 256) 8 (z % 256) (omega arith) in
    ap (λ (x : ℕ). shifted x 8) (parts ∙ sym joined) ∙ shifted-xor (z / 256 * 2 ^ 8) (z % 256) 8
    ∙ (λ i. bit_xor (whole_turned (z / 256) (omega arith) i) (sym (carried_at (z % 256) (omega arith)) i))

-- ---- the product of a byte

pow_test : all_below (λ k. 2 ^ k * 2 ^ 120 == 2 ^ (120 + k)) 8 ≡ true
unfolding all_below
pow_test = refl

pub front_product : (b h : ℕ) → b < 256 → block_product (b * 2 ^ 120) h ≡ partial_product (b * 2 ^ 120) h 8
unfolding block_product
front_product b h lb =
    additive-same (λ b. partial_product (b * 2 ^ 120) h 128) (λ b. partial_product (b * 2 ^ 120) h 8)
    (λ a c. ap (λ (x : ℕ). partial_product x h 128) (xor_shl a c 120) ∙ product-xor_l (a * 2 ^ 120) (c * 2 ^ 120) h 128)
    (λ a c. ap (λ (x : ℕ). partial_product x h 8) (xor_shl a c 120) ∙ product-xor_l (a * 2 ^ 120) (c * 2 ^ 120) h 8) 8
    (λ k lk.
    let at : 2 ^ k * 2 ^ 120 ≡ 2 ^ (120 + k) = eqb-true _ _ (all_below-at (λ k. 2 ^ k * 2 ^ 120 == 2 ^ (120 + k)) 8 k pow_test lk) in
    ap (λ (x : ℕ). partial_product x h 128) at
    ∙ pow_after (120 + k) h 128 (omega arith) (omega arith) (omega arith)
    ∙ sym (pow_after (120 + k) h 8 (omega arith) (omega arith) (omega arith))
    ∙ ap (λ (x : ℕ). partial_product x h 8) (sym at)) b lb

-- ---- a block from its bytes

gathered-xor : (a b n : ℕ) → gathered (bit_xor a b) n ≡ bit_xor (gathered a n) (gathered b n)
unfolding gathered
gathered-xor a b zero = refl
gathered-xor a b (suc n) =
    let byte : bit_xor a b / 2 ^ (8 * n) % 2 ^ 8 * 2 ^ 120 ≡ bit_xor (a / 2 ^ (8 * n) % 2 ^ 8 * 2 ^ 120) (b / 2 ^ (8 * n) % 2 ^ 8 * 2 ^ 120) =
    ap (λ (x : ℕ). x % 2 ^ 8 * 2 ^ 120) (xor_shr a b (8 * n)) ∙ ap (λ (x : ℕ). x * 2 ^ 120) (xor_mod (a / 2 ^ (8 * n)) (b / 2 ^ (8 * n)) 8)
    ∙ xor_shl (a / 2 ^ (8 * n) % 2 ^ 8) (b / 2 ^ (8 * n) % 2 ^ 8) 120 in
    (λ i. bit_xor ((ap (λ (x : ℕ). shifted x 8) (gathered-xor a b n) ∙ shifted-xor (gathered a n) (gathered b n) 8) i) (byte i))
    ∙ xor_swap (shifted (gathered a n) 8) (shifted (gathered b n) 8) (a / 2 ^ (8 * n) % 2 ^ 8 * 2 ^ 120) (b / 2 ^ (8 * n) % 2 ^ 8 * 2 ^ 120)

gathered_test : all_below (λ k. gathered (2 ^ k) 16 == 2 ^ k) 128 ≡ true
unfolding all_below gathered shifted times_x
gathered_test = refl

pub gathered_all : (x : ℕ) → x < 2 ^ 128 → gathered x 16 ≡ x
gathered_all x lx =
    additive-same (λ x. gathered x 16) (λ x. x) (λ a b. gathered-xor a b 16) (λ a b. refl) 128
    (λ k lk. eqb-true _ _ (all_below-at (λ k. gathered (2 ^ k) 16 == 2 ^ k) 128 k gathered_test lk)) x lx

pub gathered-lt : (x n : ℕ) → gathered x n < 2 ^ 128
unfolding gathered
gathered-lt x zero = lit< tt
gathered-lt x (suc n) = xor_lt 128 (shifted (gathered x n) 8) (x / 2 ^ (8 * n) % 2 ^ 8 * 2 ^ 120) (shifted-lt (gathered x n) 8 (gathered-lt x n)) (omega arith)

-- one byte more
pub product_step : (h x n z rest : ℕ) (table : List ℕ) → HasProducts h table → h < 2 ^ 128 → z ≡ block_product (gathered x n) h → rest ≡ x / 2 ^ (8 * n)
    → bit_xor (shifted z 8) (slice_index table (rest % 256)) ≡ block_product (gathered x (n + 1)) h
unfolding gathered
product_step h x n z rest table has lh ez er =
    let up : suc n ≡ n + 1 = omega arith in
    (λ i. bit_xor ((ap (λ (u : ℕ). shifted u 8) ez ∙ sym (turn_shifted (gathered x n) h 8 (gathered-lt x n) lh)) i)
    ((has.1 (rest % 256) (omega arith) ∙ ap (λ (u : ℕ). block_product (u % 256 * 2 ^ 120) h) er) i))
    ∙ sym (block_product-xor_l (shifted (gathered x n) 8) (x / 2 ^ (8 * n) % 2 ^ 8 * 2 ^ 120) h)
    ∙ ap (λ (k : ℕ). block_product (gathered x k) h) up

pub rest_step : (x n rest : ℕ) → rest ≡ x / 2 ^ (8 * n) → rest / 256 ≡ x / 2 ^ (8 * (n + 1))
rest_step x n rest e =
    let more : 8 * (n + 1) ≡ 8 * n + 8 = omega arith in
    ap (λ (u : ℕ). u / 256) e ∙ div-div-eq-div-mul x (2 ^ (8 * n)) 256 ∙ ap (λ (u : ℕ). x / u) (sym (pow-add 2 (8 * n) 8) ∙ ap (λ (k : ℕ). 2 ^ k) (sym more))

-- ---- the running product

pub running-append : (h y : ℕ) (xs zs : List ℕ) → running h y (xs ++ zs) ≡ running h (running h y xs) zs
unfolding running
running-append h y [] zs = refl
running-append h y (x ∷ xs) zs = running-append h (block_product (bit_xor y x) h) xs zs

pub running-more : (h y x : ℕ) (xs : List ℕ) → running h y (xs ++ x ∷ []) ≡ block_product (bit_xor (running h y xs) x) h
unfolding running
running-more h y x xs = running-append h y xs (x ∷ [])

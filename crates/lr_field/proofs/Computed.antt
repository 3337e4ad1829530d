-- Tests that the checker computes.
use Rattle.std.proofs.Common.{◌≡◌, ℕ, suc, ◌^◌, ◌<◌, ◌==◌, ◌&&◌, Bool, true, refl, slice_index, nat_lt}
use Rattle.std.proofs.lemmas.Bool.{and_parts, eqb-true, ltb-true}
use Rattle.lr_field.specs.Field.{product, polynomial_product, remainder, inverse, inverse_below}
use Rattle.lr_field.proofs.AllBelow.{all_below, all_below-at}
use Rattle.lr_field.specs.declared.tables.TheConstants.{EXPONENTIALS, LOGARITHMS, INVERSES}

basis_comm : all_below (λ i. all_below (λ j. product (2 ^ i) (2 ^ j) == product (2 ^ j) (2 ^ i)) 8) 8 ≡ true
unfolding all_below product polynomial_product remainder
basis_comm = refl

basis_assoc : all_below (λ i. all_below (λ j. all_below (λ k. product (product (2 ^ i) (2 ^ j)) (2 ^ k) == product (2 ^ i) (product (2 ^ j) (2 ^ k))) 8) 8) 8 ≡ true
unfolding all_below product polynomial_product remainder
basis_assoc = refl

basis_lt : all_below (λ i. all_below (λ j. nat_lt (product (2 ^ i) (2 ^ j)) 256) 8) 8 ≡ true
unfolding all_below product polynomial_product remainder
basis_lt = refl

basis_one : all_below (λ i. product 1 (2 ^ i) == 2 ^ i) 8 ≡ true
unfolding all_below product polynomial_product remainder
basis_one = refl

inverses : all_below (λ a. product (suc a) (slice_index INVERSES (suc a)) == 1) 255 ≡ true
unfolding all_below product polynomial_product remainder
inverses = refl

inverses_lt : all_below (λ a. nat_lt (slice_index INVERSES a) 256) 256 ≡ true
unfolding all_below
inverses_lt = refl

exps : all_below (λ i. slice_index EXPONENTIALS (suc i) == product (slice_index EXPONENTIALS i) 3) 509 ≡ true
unfolding all_below product polynomial_product remainder
exps = refl

logs : all_below (λ a. (slice_index EXPONENTIALS (slice_index LOGARITHMS (suc a)) == suc a) && nat_lt (slice_index LOGARITHMS (suc a)) 255) 255 ≡ true
unfolding all_below
logs = refl

exps_lt : all_below (λ i. nat_lt (slice_index EXPONENTIALS i) 256) 510 ≡ true
unfolding all_below
exps_lt = refl

pub exp_lt : (i : ℕ) → i < 510 → slice_index EXPONENTIALS i < 256
exp_lt i li = ltb-true _ _ (all_below-at (λ i. nat_lt (slice_index EXPONENTIALS i) 256) 510 i exps_lt li)

pub comm_at : (i j : ℕ) → i < 8 → j < 8 → product (2 ^ i) (2 ^ j) ≡ product (2 ^ j) (2 ^ i)
comm_at i j li lj = eqb-true _ _ (all_below-at (λ j. product (2 ^ i) (2 ^ j) == product (2 ^ j) (2 ^ i)) 8 j (all_below-at (λ i. all_below (λ j. product (2 ^ i) (2 ^ j) == product (2 ^ j) (2 ^ i)) 8) 8 i basis_comm li) lj)

pub assoc_at : (i j k : ℕ) → i < 8 → j < 8 → k < 8 → product (product (2 ^ i) (2 ^ j)) (2 ^ k) ≡ product (2 ^ i) (product (2 ^ j) (2 ^ k))
assoc_at i j k li lj lk =
    let p : ℕ → ℕ → ℕ → Bool = λ i j k. product (product (2 ^ i) (2 ^ j)) (2 ^ k) == product (2 ^ i) (product (2 ^ j) (2 ^ k)) in
    let row = all_below-at (λ i. all_below (λ j. all_below (p i j) 8) 8) 8 i basis_assoc li in
    eqb-true _ _ (all_below-at (p i j) 8 k (all_below-at (λ j. all_below (p i j) 8) 8 j row lj) lk)

pub lt_at : (i j : ℕ) → i < 8 → j < 8 → product (2 ^ i) (2 ^ j) < 256
lt_at i j li lj = ltb-true _ _ (all_below-at (λ j. nat_lt (product (2 ^ i) (2 ^ j)) 256) 8 j (all_below-at (λ i. all_below (λ j. nat_lt (product (2 ^ i) (2 ^ j)) 256) 8) 8 i basis_lt li) lj)

pub one_at : (i : ℕ) → i < 8 → product 1 (2 ^ i) ≡ 2 ^ i
one_at i li = eqb-true _ _ (all_below-at (λ i. product 1 (2 ^ i) == 2 ^ i) 8 i basis_one li)

pub inverse_at : (a : ℕ) → a < 255 → product (suc a) (slice_index INVERSES (suc a)) ≡ 1
inverse_at a la = eqb-true _ _ (all_below-at (λ a. product (suc a) (slice_index INVERSES (suc a)) == 1) 255 a inverses la)

pub inverse_lt : (a : ℕ) → a < 256 → slice_index INVERSES a < 256
inverse_lt a la = ltb-true _ _ (all_below-at (λ a. nat_lt (slice_index INVERSES a) 256) 256 a inverses_lt la)

pub exp_at : (i : ℕ) → i < 509 → slice_index EXPONENTIALS (suc i) ≡ product (slice_index EXPONENTIALS i) 3
exp_at i li = eqb-true _ _ (all_below-at (λ i. slice_index EXPONENTIALS (suc i) == product (slice_index EXPONENTIALS i) 3) 509 i exps li)

pub log_at : (a : ℕ) → a < 255 → (slice_index EXPONENTIALS (slice_index LOGARITHMS (suc a)) ≡ suc a) × (slice_index LOGARITHMS (suc a) < 255)
log_at a la =
    let both = and_parts _ _ (all_below-at (λ a. (slice_index EXPONENTIALS (slice_index LOGARITHMS (suc a)) == suc a) && nat_lt (slice_index LOGARITHMS (suc a)) 255) 255 a logs la) in
    (eqb-true _ _ both.0, ltb-true _ _ both.1)

-- the table has the inverses
inverse_table : all_below (λ a. inverse a == slice_index INVERSES a) 256 ≡ true
unfolding all_below product polynomial_product remainder inverse inverse_below
inverse_table = refl

pub inverse_is : (a : ℕ) → a < 256 → inverse a ≡ slice_index INVERSES a
inverse_is a la = eqb-true _ _ (all_below-at (λ a. inverse a == slice_index INVERSES a) 256 a inverse_table la)

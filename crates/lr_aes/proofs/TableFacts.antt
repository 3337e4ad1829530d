-- The tables, tested by the checker.
use Rattle.std.proofs.Common.{◌≡◌, ℕ, ◌^◌, ◌<◌, ◌==◌, ◌&&◌, Bool, true, refl, slice_index, nat_lt, arith}
use Rattle.std.proofs.lemmas.Bool.{and_parts, eqb-true, ltb-true}
use Rattle.lr_field.specs.Field.{product, polynomial_product, remainder, inverse, inverse_below}
use Rattle.lr_field.proofs.AllBelow.{all_below, all_below-at}
use Rattle.lr_aes.specs.Cipher.{sub_byte, round_constant}
use Rattle.lr_aes.specs.declared.schedule.TheConstants.{ROUND_CONSTANTS}
use Rattle.lr_aes.specs.declared.tables.TheConstants.{SBOX}

abbrev sbox_ok : ℕ → Bool
sbox_ok b = (sub_byte b == slice_index SBOX b) && nat_lt (slice_index SBOX b) 256

sbox_test : all_below sbox_ok 256 ≡ true
unfolding all_below product polynomial_product remainder inverse inverse_below sub_byte
sbox_test = refl

pub sbox_at : (b : ℕ) → b < 256 → (sub_byte b ≡ slice_index SBOX b) × (sub_byte b < 2 ^ 8)
sbox_at b lb =
    let both = and_parts (sub_byte b == slice_index SBOX b) (nat_lt (slice_index SBOX b) 256) (all_below-at sbox_ok 256 b sbox_test lb) in
    let same : sub_byte b ≡ slice_index SBOX b = eqb-true _ _ both.0 in
    (same, omega (arith, same, ltb-true (slice_index SBOX b) 256 both.1))

constants : all_below (λ n. slice_index ROUND_CONSTANTS n == round_constant n) 10 ≡ true
unfolding all_below product polynomial_product remainder round_constant
constants = refl

pub constant_at : (n : ℕ) → n < 10 → slice_index ROUND_CONSTANTS n ≡ round_constant n
constant_at n ln = eqb-true _ _ (all_below-at (λ n. slice_index ROUND_CONSTANTS n == round_constant n) 10 n constants ln)

-- Good stripes of the code of 4 of 5.
use Rattle.std.specs.Prelude.{◌≡◌, ℕ, length}
use Rattle.sha2.specs.Sha256.{sha256}
use Rattle.lr_manifest.specs.declared.name.Name.{Name}
use Rattle.lr_stripe.specs.declared.stripe.Stripe.{Stripe}

-- The stripe is of this name and index, it has 131072 bytes, and its digest is theirs (SHA-256, FIPS 180-4).
pub record IsGood (s : Stripe) (name : Name) (index : ℕ) : Type 0 where
  pub its_name : s.name.bytes ≡ name.bytes
  pub its_index : s.index ≡ index
  pub long : length s.bytes ≡ 131072
  pub its_digest : s.digest ≡ sha256 s.bytes

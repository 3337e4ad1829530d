-- Stripes of a chunk, of the code of 4 of 5: which are good, what they are rebuilt to, and which a chunk has.
use Rattle.std.specs.Prelude.{◌≡◌, ◌<◌, ℕ, ◌+◌, ◌%◌, List, [], ◌∷◌, length, map, Bool, ◌&&◌, ◌==◌}
use Rattle.std.specs.List.{flat_map, AllByRecursion, AllZip}
use Rattle.std.specs.Int.{w16, from_be_bytes}
use Rattle.std.specs.Str.{bytes_eq}
use Rattle.sha2.specs.Sha256.{sha256}
use Rattle.lr_field.specs.Polynomial.{IsDistinct}
use Rattle.lr_manifest.specs.declared.name.Name.{Name}
use Rattle.lr_stripe.specs.declared.stripe.Stripe.{Stripe}
use Rattle.lr_stripe.specs.Code.{IsStripe, AreStripes}
use Rattle.lr_stripe.specs.Good.{IsGood}

-- the node that a stripe of a name stands on: the first two bytes of the name as a number, big-endian, plus the index, modulo the nodes
abbrev pub node_at : Name → ℕ → ℕ → ℕ
node_at name index nodes = (from_be_bytes w16 name.bytes + index) % nodes

-- whether a stripe is good for this name and index: it is of them, has 131072 bytes, and its digest is theirs
abbrev pub is_good : Name → ℕ → Stripe → Bool
is_good name index s = bytes_eq s.name.bytes name.bytes && (s.index == index && (length s.bytes == 131072 && bytes_eq s.digest (sha256 s.bytes)))

abbrev pub indices_of : List Stripe → List ℕ
indices_of stripes = map (λ (s : Stripe). s.index) stripes

-- the bytes of stripes, one after another
abbrev pub joined : List Stripe → List ℕ
joined stripes = flat_map (λ (s : Stripe). s.bytes) stripes

-- Four stripes of 131072 bytes, of different indices, are those of this chunk: it is what they are rebuilt to.
pub record IsRebuilt (held : List Stripe) (chunk : List ℕ) : Type 0 where
  pub four : length held ≡ 4
  pub each : AllByRecursion (λ (s : Stripe). (s.index < 5) × (length s.bytes ≡ 131072)) held
  pub apart : IsDistinct (indices_of held)
  pub stripes : AreStripes 4 131072 chunk (indices_of held) (joined held)

-- the stripe is this one of the chunk
pub record IsStripeOf (chunk : List ℕ) (index : ℕ) (s : Stripe) : Type 0 where
  pub good : IsGood s s.name index
  pub name : s.name.bytes ≡ sha256 chunk
  pub bytes : IsStripe 4 chunk index s.bytes

-- all five stripes of the chunk, in order
abbrev pub AreStripesOf : List ℕ → List Stripe → Type 0
AreStripesOf chunk stripes = AllZip (IsStripeOf chunk) (0 ∷ 1 ∷ 2 ∷ 3 ∷ 4 ∷ []) stripes

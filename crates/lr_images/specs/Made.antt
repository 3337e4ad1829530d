-- What the creation of an image leaves in the store.
use Rattle.std.specs.Prelude.{◌≡◌, ◌++◌, ℕ, List, [], ◌∷◌, length, map as each, Option, Some}
use Rattle.std.specs.List.{Contains}
use Rattle.std.specs.FinMap as map
use Rattle.lr_layout.specs.Padded.{padded}
use Rattle.lr_manifest.specs.Manifest.{ManifestFields, spelling}
use Rattle.lr_convergent.specs.Sealed.{sealed_bytes}
use Rattle.lr_seal.specs.Denotation.{denotation}
use Rattle.lr_seal.specs.Made.{HaveDistinctDigests}
use Rattle.lr_origin.specs.Objects.{Objects}
use Rattle.lr_origin.specs.Text.{key_text}
use Rattle.lr_origin.specs.declared.key.KeyKind.TheVariants as kind
use Rattle.lr_rules.specs.State.{State}
use Rattle.lr_rules.specs.Calls.{MayOpen}
use Rattle.lr_opening.specs.Store.{HasChunks}
use Rattle.lr_depot.specs.Begun.{Start}
use Rattle.lr_depot.specs.Machine.{LogEntry}
use Rattle.lr_depot.specs.Depot.{LedTo, state}
use Rattle.lr_walk.specs.Depot.{Step, step, began, begins}
use Rattle.lr_creator.specs.Creation.{with_root, piece, last, Creates}
use Rattle.lr_images.specs.Drive.{GoesOn, joined}
use Rattle.lr_images.specs.Cat.{bodies, Denotes}

-- The store has a manifest of the image in the root. Over the bodies of the root, and where digests tell the strings apart, among which these bodies
-- and the sealed pieces are, it denotes the padded bytes of the pieces.
pub record IsMade (s : State) (objects : Objects) (image tenant : List ℕ) (root : ℕ) (pieces : List (List ℕ)) (steps : List Step) : Type 0 where
  pub session : ℕ
  pub salt : List ℕ
  pub number : ℕ
  pub tail : List Step
  pub begun : steps ≡ step (begins image) (began session root salt number) ∷ tail
  pub manifest : ManifestFields
  pub stored : map.get objects (key_text (kind.Manifest root image)) ≡ Some (spelling manifest)
  pub raw_len : manifest.raw_len ≡ length (joined pieces)
  pub denotes : (strings : List (List ℕ)) → HaveDistinctDigests strings → ((x : List ℕ) → Contains (each (sealed_bytes salt) pieces) x → Contains strings x)
      → ((name body : List ℕ) → bodies objects root name ≡ Some body → Contains strings body) → denotation manifest tenant (bodies objects root) ≡ Some (padded (joined pieces))
  -- Where the image is read at this state, over the same strings, the bytes of the pieces come back.
  pub read : (home : ℕ) (m : ManifestFields) (bytes : List ℕ) → MayOpen s image home m → Denotes m tenant (bodies objects home) bytes
      → (strings : List (List ℕ)) → HaveDistinctDigests strings → ((x : List ℕ) → Contains (each (sealed_bytes salt) pieces) x → Contains strings x)
      → ((name body : List ℕ) → bodies objects home name ≡ Some body → Contains strings body) → bytes ≡ joined pieces

-- A creation that ends with a root leaves its manifest there, in a store that was sound.
abbrev pub CreationsAreMade : Type 0
CreationsAreMade =
    (start : Start) (m n : Objects) (before log : List LogEntry) (image tenant : List ℕ) (pieces : List (List ℕ)) (steps : List Step) (root : ℕ)
    → LedTo start m log n → HasChunks m → GoesOn before log steps → Creates image tenant (each piece pieces ++ last ∷ []) steps (with_root root)
    → IsMade (state start log) n image tenant root pieces steps

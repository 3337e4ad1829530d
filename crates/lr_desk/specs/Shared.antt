-- Equal chunks of images in one root are one object.
use Rattle.std.specs.Prelude.{◌≡◌, ℕ, List, ◌∷◌}
use Rattle.std.specs.FinMap as map
use Rattle.lr_convergent.specs.Sealed.{filled, sealed_name}
use Rattle.lr_origin.specs.declared.key.KeyKind.{KeyKind}
use Rattle.lr_origin.specs.declared.key.KeyKind.TheVariants as kind
use Rattle.lr_depot.specs.Machine.{LogEntry}
use Rattle.lr_depot.specs.Store.{IsRun}
use Rattle.lr_depot.specs.Depot.{first_state}
use Rattle.lr_walk.specs.Depot.{Step, step, begins, began}
use Rattle.lr_desk.specs.declared.outcome.Outcome.{Outcome}
use Rattle.lr_desk.specs.Ends.{Setting, Made}

-- the key of a piece in a root, sealed under a salt
abbrev pub piece_key : ℕ → List ℕ → List ℕ → KeyKind
piece_key root salt plain = kind.Chunk root (sealed_name salt plain)

-- A creation that began in this root, and seals under this salt.
pub record CreatesIn (s : Setting) (log : List LogEntry) (root : ℕ) (salt : List ℕ) : Type 0 where
  pub image : List ℕ
  pub tenant : List ℕ
  pub outcome : Outcome
  pub text : List ℕ
  pub made : Made image tenant s log outcome text
  pub session : ℕ
  pub number : ℕ
  pub tail : List Step
  pub begun : made.steps ≡ step (begins image) (began session root salt number) ∷ tail
  pub legal : IsRun (first_state s.start) log

-- Two creations, of whichever images and tenants, in a root that has the same object for both: pieces that are equal once they are
-- filled have one key.
abbrev pub EqualChunksShareAKey : Type 0
EqualChunksShareAKey =
    (s t : Setting) (log more : List LogEntry) (root : ℕ) (salt other : List ℕ) → CreatesIn s log root salt → CreatesIn t more root other
    → map.get s.start.view (kind.Root root) ≡ map.get t.start.view (kind.Root root)
    → (one two : List ℕ) → filled 524288 one ≡ filled 524288 two → piece_key root salt one ≡ piece_key root other two

-- A creation under way, as contracts see it.
use Rattle.std.specs.Prelude.{◌≡◌, ℕ, List, [], ◌∷◌, ◌++◌, Bool, true, false, ⊤}
use Rattle.lr_manifest.specs.declared.name.Name.{Name}
use Rattle.lr_manifest.specs.Manifest.{ManifestFields}
use Rattle.lr_walk.specs.Walk.{Walks, Ends}
use Rattle.lr_walk.specs.Stands.{Given, StandsFor, IsPrefix}
use Rattle.lr_walk.specs.Depot.{Call, Step, step, Reply, began, kept, made, memory, begins, puts_chunk, puts_manifest, abandons, Answers}
use Rattle.lr_creator.specs.declared.create.Place.{Place}
use Rattle.lr_creator.specs.Creation.{Ending, with_root, with_reply, with_memory, with_stop, Input, Parts, no_parts, with_piece, Leaves, Finishes, PutsOne, Puts, Creates, place_of}

-- what a creation needs next
pub data Need : Type 0 where
  beginning : (image : List ℕ) → Need
  wanting : (place : Place) (parts : Parts) → Need
  putting : (place : Place) (parts : Parts) (name : Name) → Need
  finishing : (place : Place) (fields : ManifestFields) → Need
  leaving : (session : ℕ) (end : Ending) → Need
  ended : (end : Ending) → Need

pub record Progress : Type 0 where
  pub image : List ℕ
  pub tenant : List ℕ
  pub need : Need
  pub ready : Bool  -- a call is prepared, or the end

abbrev pub start : List ℕ → List ℕ → Progress
start image tenant = record { image = image; tenant = tenant; need = beginning image; ready = true }

-- what may still come
abbrev pub Rest : List ℕ → Need → Given Input Step Ending
Rest tenant (beginning image) more = Creates image tenant more
Rest tenant (wanting place parts) more = Puts tenant place parts more
Rest tenant (putting place parts name) more = PutsOne place name (Puts tenant place parts more)
Rest tenant (finishing place fields) more = Finishes place fields
Rest tenant (leaving session end) more = Leaves session end
Rest tenant (ended end) more = Ends end

-- The creation stands for what it was given and for these steps.
abbrev pub Stands : Progress → List Input → List Step → Type 0
Stands p given steps = StandsFor (Creates p.image p.tenant) (Rest p.tenant) p.need given steps

-- A walk of bytes that begin with what was given, or the front of one.
abbrev pub IsFront : Progress → List Input → List Step → Type 0
IsFront p given steps = IsPrefix (Creates p.image p.tenant) given steps

-- Whatever else were given, the steps are a walk.
abbrev pub IsDone : Progress → List Input → List Step → Ending → Type 0
IsDone p given steps end = (more : List Input) → Creates p.image p.tenant (given ++ more) steps end

-- the call of a need, the ending, or none where the owner is asked for more
pub data Asked : Type 0 where
  a_call : (call : Call) → Asked
  an_end : (end : Ending) → Asked
  no_call : Asked

abbrev pub asked : Need → Asked
asked (beginning image) = a_call (begins image)
asked (wanting place parts) = no_call
asked (putting place parts name) = a_call (puts_chunk place.session name.bytes)
asked (finishing place fields) = a_call (puts_manifest place.session fields)
asked (leaving session end) = a_call (abandons session)
asked (ended end) = an_end end

abbrev pub AnswersAsked : Asked → Reply → Type 0
AnswersAsked (a_call call) reply = Answers call reply
AnswersAsked a reply = ⊥

-- the reply is one that `take` admits: one that the depot may give to the call handed out
abbrev pub Admits : Progress → Reply → Type 0
Admits p reply = AnswersAsked (asked p.need) reply

-- the steps with the call asked and its reply
abbrev pub with_step : List Step → Asked → Reply → List Step
with_step steps (a_call call) reply = steps ++ step call reply ∷ []
with_step steps a reply = steps

-- what a creation needs after a reply
abbrev pub advanced : Need → Reply → Need
advanced (beginning image) (began session root salt number) = wanting (place_of session root salt number) no_parts
advanced (beginning image) memory = ended with_memory
advanced (beginning image) reply = ended (with_reply reply)
advanced (wanting place parts) reply = wanting place parts
advanced (putting place parts name) kept = wanting place parts
advanced (putting place parts name) memory = leaving place.session with_memory
advanced (putting place parts name) reply = leaving place.session (with_reply reply)
advanced (finishing place fields) (made root) = ended (with_root root)
advanced (finishing place fields) memory = leaving place.session with_memory
advanced (finishing place fields) reply = leaving place.session (with_reply reply)
advanced (leaving session end) reply = ended end
advanced (ended end) reply = ended end

abbrev pub is_wanting : Need → Bool
is_wanting (wanting place parts) = true
is_wanting need = false

-- how many bytes were given
abbrev pub raw_len_of : Need → ℕ
raw_len_of (wanting place parts) = parts.raw_len
raw_len_of need = 0

-- A migration under way, as contracts see it.
use Rattle.std.specs.Prelude.{◌≡◌, ℕ, zero, suc, ◌+◌, List, [], ◌∷◌, ◌++◌, length, Bool, true}
use Rattle.lr_manifest.specs.Manifest.{ManifestFields}
use Rattle.lr_walk.specs.Walk.{Walks, Ends}
use Rattle.lr_walk.specs.Stands as machines
use Rattle.lr_walk.specs.Depot.{Call, Step, step, Reply, moving, copied, kept, moved, memory, begins_move, copies, puts_chunk, finishes_move, abandons, Answers}
use Rattle.lr_migrator.specs.Migration.{Ending, with_roots, with_reply, with_memory, Leaves, Finishes, PutsOne, CopiesOne, Copies, Migrates}

-- What a migration needs next. The chunk of the index is copied, and so many more after it.
pub data Need : Type 0 where
  beginning : Need
  copying : (session index left : ℕ) → Need
  putting : (session index left : ℕ) (name : List ℕ) → Need
  finishing : (session : ℕ) → Need
  leaving : (session : ℕ) (end : Ending) → Need
  ended : (end : Ending) → Need

pub record Progress : Type 0 where
  pub image : List ℕ
  pub need : Need
  pub ready : Bool  -- a call is prepared, or the end

abbrev pub start : List ℕ → Progress
start image = record { image = image; need = beginning; ready = true }

-- what may still come
abbrev pub Rest : List ℕ → Need → Walks Step Ending
Rest image beginning = Migrates image
Rest image (copying session index left) = CopiesOne session index (Copies session (suc index) left)
Rest image (putting session index left name) = PutsOne session name (Copies session (suc index) left)
Rest image (finishing session) = Finishes session
Rest image (leaving session end) = Leaves session end
Rest image (ended end) = Ends end

-- The migration stands for these steps.
abbrev pub Stands : Progress → List Step → Type 0
Stands p steps = machines.Stands (Migrates p.image) (Rest p.image) p.need steps

-- a walk, or the front of one
abbrev pub IsFront : Progress → List Step → Type 0
IsFront p steps = machines.IsFront (Migrates p.image) steps

-- the call of a need, or the ending
pub data Asked : Type 0 where
  a_call : (call : Call) → Asked
  an_end : (end : Ending) → Asked

abbrev pub asked : List ℕ → Need → Asked
asked image beginning = a_call (begins_move image)
asked image (copying session index left) = a_call (copies session index)
asked image (putting session index left name) = a_call (puts_chunk session name)
asked image (finishing session) = a_call (finishes_move session)
asked image (leaving session end) = a_call (abandons session)
asked image (ended end) = an_end end

abbrev pub AnswersAsked : Asked → Reply → Type 0
AnswersAsked (a_call call) reply = Answers call reply
AnswersAsked (an_end end) reply = ⊥

-- the reply is one that `take` admits: one that the depot may give to the call handed out
abbrev pub Admits : Progress → Reply → Type 0
Admits p reply = AnswersAsked (asked p.image p.need) reply

-- the steps with the call asked and its reply
abbrev pub with_step : List Step → Asked → Reply → List Step
with_step steps (a_call call) reply = steps ++ step call reply ∷ []
with_step steps (an_end end) reply = steps

-- from this index on so many chunks are left
abbrev pub copying_on : ℕ → ℕ → ℕ → Need
copying_on session index zero = finishing session
copying_on session index (suc left) = copying session index left

-- what a migration needs after a reply
abbrev pub advanced : Need → Reply → Need
advanced beginning (moving session from to fields) = copying_on session 0 (length fields.names)
advanced beginning memory = ended with_memory
advanced beginning reply = ended (with_reply reply)
advanced (copying session index left) (copied name) = putting session index left name
advanced (copying session index left) memory = leaving session with_memory
advanced (copying session index left) reply = leaving session (with_reply reply)
advanced (putting session index left name) kept = copying_on session (suc index) left
advanced (putting session index left name) memory = leaving session with_memory
advanced (putting session index left name) reply = leaving session (with_reply reply)
advanced (finishing session) (moved from to) = ended (with_roots from to)
advanced (finishing session) memory = leaving session with_memory
advanced (finishing session) reply = leaving session (with_reply reply)
advanced (leaving session end) reply = ended end
advanced (ended end) reply = ended end

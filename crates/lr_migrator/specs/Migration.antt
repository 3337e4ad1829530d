-- The walk of a migration: which lists of depot calls it may make, and what it then ends with.
use Rattle.std.specs.Prelude.{ℕ, zero, suc, List, length}
use Rattle.lr_manifest.specs.Manifest.{ManifestFields}
use Rattle.lr_walk.specs.Walk.{Walks, Ends}
use Rattle.lr_walk.specs.Depot.{Step, Reply, moving, copied, kept, moved, memory, begins_move, copies, puts_chunk, finishes_move, abandons, Asks}

-- what a migration ends with
pub data Ending : Type 0 where
  with_roots : (from to : ℕ) → Ending
  with_reply : (reply : Reply) → Ending
  with_memory : Ending

-- the session is left, and the migration ends so
abbrev pub Leaves : ℕ → Ending → Walks Step Ending
Leaves session end = Asks (abandons session) (λ _. Ends end)

abbrev pub after_finish : ℕ → Reply → Walks Step Ending
after_finish session (moved from to) = Ends (with_roots from to)
after_finish session memory = Leaves session with_memory
after_finish session reply = Leaves session (with_reply reply)

-- the image is moved
abbrev pub Finishes : ℕ → Walks Step Ending
Finishes session = Asks (finishes_move session) (after_finish session)

abbrev pub after_put : ℕ → Walks Step Ending → Reply → Walks Step Ending
after_put session more kept = more
after_put session more memory = Leaves session with_memory
after_put session more reply = Leaves session (with_reply reply)

-- the chunk of this name is put, and then comes more
abbrev pub PutsOne : ℕ → List ℕ → Walks Step Ending → Walks Step Ending
PutsOne session name more = Asks (puts_chunk session name) (after_put session more)

abbrev pub after_copy : ℕ → Walks Step Ending → Reply → Walks Step Ending
after_copy session more (copied name) = PutsOne session name more
after_copy session more memory = Leaves session with_memory
after_copy session more reply = Leaves session (with_reply reply)

-- the chunk of this index is read and put, and then comes more
abbrev pub CopiesOne : ℕ → ℕ → Walks Step Ending → Walks Step Ending
CopiesOne session index more = Asks (copies session index) (after_copy session more)

-- From this index on so many chunks are copied, in order, and then the image is moved.
abbrev pub Copies : ℕ → ℕ → ℕ → Walks Step Ending
Copies session index zero = Finishes session
Copies session index (suc left) = CopiesOne session index (Copies session (suc index) left)

-- each index of the manifest's names is copied
abbrev pub after_begin : Reply → Walks Step Ending
after_begin (moving session from to fields) = Copies session 0 (length fields.names)
after_begin memory = Ends with_memory
after_begin reply = Ends (with_reply reply)

-- the migration of an image
abbrev pub Migrates : List ℕ → Walks Step Ending
Migrates image = Asks (begins_move image) after_begin

-- A migration as a job.
use Rattle.std.specs.Prelude.{ℕ, List}
use Rattle.lr_walk.specs.declared.trail.Answer.{Answer}
use Rattle.lr_walk.specs.declared.trail.Answer.TheVariants.{Moved, Memory}
use Rattle.lr_walk.specs.Walk.{Walks}
use Rattle.lr_walk.specs.Stands as stands
use Rattle.lr_walk.specs.Steps.{on_depot, Reply, by_depot, Step}
use Rattle.lr_migrator.specs.Migration.{Ending, with_roots, with_reply, with_memory, Migrates}
use Rattle.lr_migrator.specs.Progress as migrations
use Rattle.lr_actors.specs.Asked.{Asked, a_call, an_end}
use Rattle.lr_actors.specs.Lifted.{OfDepot, Lifted, answer_to}

-- the answer of an ending
abbrev pub migrated : Ending → Answer
migrated (with_roots from to) = Moved from to
migrated (with_reply reply) = answer_to reply
migrated with_memory = Memory

-- the walk of the job
abbrev pub Migrating : List ℕ → Walks Step Answer
Migrating image = OfDepot migrated (Migrates image)

-- the job stands for these steps
abbrev pub StandsFor : migrations.Progress → List Step → Type 0
StandsFor p steps = Lifted (migrations.Stands p) steps

abbrev pub IsFront : List ℕ → List Step → Type 0
IsFront image steps = stands.IsFront (Migrating image) steps

-- a migration's call or end, as the job's
abbrev pub asked_by : migrations.Asked → Asked
asked_by (migrations.a_call call) = a_call (on_depot call)
asked_by (migrations.an_end end) = an_end (migrated end)

abbrev pub asked : migrations.Progress → Asked
asked p = asked_by (migrations.asked p.image p.need)

-- the replies that `take` admits: those that the depot gives by its table
abbrev pub Admits : migrations.Progress → Reply → Type 0
Admits p (by_depot reply) = migrations.Admits p reply
Admits p reply = ⊥

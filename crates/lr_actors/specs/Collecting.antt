-- A collection as a job.
use Rattle.std.specs.Prelude.{◌≡◌, ℕ, List}
use Rattle.std.specs.List.{AllByRecursion}
use Rattle.lr_origin.specs.declared.key.KeyKind.{KeyKind}
use Rattle.lr_walk.specs.declared.trail.Answer.{Answer}
use Rattle.lr_walk.specs.declared.trail.Answer.TheVariants.{Swept, Memory}
use Rattle.lr_walk.specs.Walk.{Walks, Or}
use Rattle.lr_walk.specs.Stands as stands
use Rattle.lr_walk.specs.Steps.{on_depot, Reply, by_depot, Step, step}
use Rattle.lr_walk.specs.Depot as depots
use Rattle.lr_collector.specs.declared.collect.CollectJob.{CollectJob}
use Rattle.lr_collector.specs.declared.collect.CollectJob.TheVariants as collect
use Rattle.lr_collector.specs.Collection.{Ending, with_reply, with_count, with_memory, Collects}
use Rattle.lr_collector.specs.Progress as collections
use Rattle.lr_actors.specs.Asked.{Asked, a_call, an_end}
use Rattle.lr_actors.specs.Lifted.{OfDepot, Lifted, answer_to}

-- the answer of an ending
abbrev pub collected : Ending → Answer
collected (with_reply reply) = answer_to reply
collected (with_count count) = Swept count
collected with_memory = Memory

-- a key was removed by the sweep of this root
abbrev pub IsRemoval : ℕ → Step → Type 0
IsRemoval root s = (key : KeyKind) × (s ≡ step (on_depot (depots.sweeps root)) (by_depot (depots.removed key)))

-- After removals the actor itself finds no memory for a further call of the sweep.
abbrev pub Stops : CollectJob → Walks Step Answer
Stops (collect.Sweep root) steps answer = AllByRecursion (IsRemoval root) steps × (answer ≡ Memory)
Stops job steps answer = ⊥

-- the walk of the job
abbrev pub Collecting : CollectJob → Walks Step Answer
Collecting job = Or (OfDepot collected (Collects job)) (Stops job)

-- the job stands for these steps
abbrev pub StandsFor : collections.Progress → List Step → Type 0
StandsFor p steps = Lifted (collections.Stands p) steps

abbrev pub IsFront : CollectJob → List Step → Type 0
IsFront job steps = stands.IsFront (Collecting job) steps

-- a collection's call or end, as the job's
abbrev pub asked_by : collections.Asked → Asked
asked_by (collections.a_call call) = a_call (on_depot call)
asked_by (collections.an_end end) = an_end (collected end)

abbrev pub asked : collections.Progress → Asked
asked p = asked_by (collections.asked p.job p.need)

-- the replies that `take` admits: those that the depot gives by its table
abbrev pub Admits : collections.Progress → Reply → Type 0
Admits p (by_depot reply) = collections.Admits p reply
Admits p reply = ⊥

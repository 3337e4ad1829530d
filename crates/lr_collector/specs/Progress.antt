-- A collection under way, as contracts see it.
use Rattle.std.specs.Prelude.{ℕ, List, [], ◌∷◌, ◌++◌, Bool, true}
use Rattle.lr_spec.specs.Rose.{next_count}
use Rattle.lr_walk.specs.Walk.{Walks, Ends}
use Rattle.lr_walk.specs.Stands as machines
use Rattle.lr_walk.specs.Depot.{Call, Step, step, Reply, removed, Answers}
use Rattle.lr_collector.specs.declared.collect.CollectJob.{CollectJob}
use Rattle.lr_collector.specs.declared.collect.CollectJob.TheVariants as job
use Rattle.lr_collector.specs.Collection.{Ending, call_of, end_of, sweep_end, Sweeps, Collects}

-- What a collection needs next: its call, after so many keys that a sweep removed, or nothing more.
pub data Need : Type 0 where
  asking : (count : ℕ) → Need
  ended : (end : Ending) → Need

pub record Progress : Type 0 where
  pub job : CollectJob
  pub need : Need
  pub ready : Bool  -- a call is prepared, or the end

abbrev pub start : CollectJob → Progress
start job = record { job = job; need = asking 0; ready = true }

-- what may still come
abbrev pub Rest : CollectJob → Need → Walks Step Ending
Rest (job.Sweep root) (asking count) = Sweeps root count
Rest j (asking count) = Collects j
Rest j (ended end) = Ends end

-- The collection stands for these steps.
abbrev pub Stands : Progress → List Step → Type 0
Stands p steps = machines.Stands (Collects p.job) (Rest p.job) p.need steps

-- a walk, or the front of one
abbrev pub IsFront : Progress → List Step → Type 0
IsFront p steps = machines.IsFront (Collects p.job) steps

-- the call of a need, or the ending
pub data Asked : Type 0 where
  a_call : (call : Call) → Asked
  an_end : (end : Ending) → Asked

abbrev pub asked : CollectJob → Need → Asked
asked j (asking count) = a_call (call_of j)
asked j (ended end) = an_end end

abbrev pub AnswersAsked : Asked → Reply → Type 0
AnswersAsked (a_call call) reply = Answers call reply
AnswersAsked (an_end end) reply = ⊥

-- the reply is one that `take` admits: one that the depot may give to the call handed out
abbrev pub Admits : Progress → Reply → Type 0
Admits p reply = AnswersAsked (asked p.job p.need) reply

-- the steps with the call asked and its reply
abbrev pub with_step : List Step → Asked → Reply → List Step
with_step steps (a_call call) reply = steps ++ step call reply ∷ []
with_step steps (an_end end) reply = steps

-- what a collection needs after a reply
abbrev pub advanced : CollectJob → Need → Reply → Need
advanced (job.Sweep root) (asking count) (removed key) = asking (next_count count)
advanced (job.Sweep root) (asking count) reply = ended (sweep_end count reply)
advanced j (asking count) reply = ended (end_of reply)
advanced j (ended end) reply = ended end

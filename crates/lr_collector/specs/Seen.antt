-- The program's calls, ends and stages, as plain data.
use Rattle.std.specs.Prelude.{◌≡◌, Option, Some, None, ⊤}
use Rattle.lr_walk.specs.Depot.{Reply, seen_call, seen_reply}
use Rattle.lr_collector.specs.declared.collect.CollectJob.{CollectJob}
use Rattle.lr_collector.specs.declared.collect.CollectEnd.{CollectEnd}
use Rattle.lr_collector.specs.declared.collect.CollectEnd.TheVariants as an
use Rattle.lr_collector.specs.declared.collect.CollectAction.{CollectAction}
use Rattle.lr_collector.specs.declared.collect.CollectAction.TheVariants as action
use Rattle.lr_collector.specs.declared.stage.Stage.{Stage}
use Rattle.lr_collector.specs.declared.stage.Stage.TheVariants as stage
use Rattle.lr_collector.specs.declared.stage.Turn.{Turn}
use Rattle.lr_collector.specs.Collection.{Ending, with_reply, with_count, with_memory}
use Rattle.lr_collector.specs.Progress.{Need, asking, ended, Asked, a_call, an_end, asked}

abbrev pub seen_end : CollectEnd → Ending
seen_end (an.Answered reply) = with_reply (seen_reply reply)
seen_end (an.Swept count) = with_count count
seen_end an.Memory = with_memory

abbrev pub seen_action : CollectAction → Asked
seen_action (action.Depot call) = a_call (seen_call call)
seen_action (action.End end) = an_end (seen_end end)

abbrev pub need_of : Stage → Need
need_of (stage.Asks count) = asking count
need_of (stage.Ends end) = ended (seen_end end.value)

-- what is prepared is what is asked
abbrev pub IsPrepared : CollectJob → Stage → Option CollectAction → Type 0
IsPrepared j stage (Some action) = seen_action action ≡ asked j (need_of stage)
IsPrepared j stage None = ⊤

-- the turn of a job needs this, with its call prepared
pub record Prepares (j : CollectJob) (need : Need) (turn : Turn) : Type 0 where
  pub needs : need_of turn.stage ≡ need
  pub prepared : seen_action turn.ready ≡ asked j need

-- a stage that may have a call out
abbrev pub MayTake : Stage → Type 0
MayTake (stage.Asks count) = ⊤
MayTake (stage.Ends end) = ⊥

use Rattle.lr_loader.specs.Seen as loader
use Rattle.lr_actors.specs.Stages.{work_of, seen_left, seen_chunk}
use Rattle.lr_actors.proofs.LoadTurns.{ends_well, went_end}
use Rattle.lr_actors.proofs.turns.load_turn.Goals as goal

pub load_ended-requires-clause-well : goal.load_ended-requires-clause-well
load_ended-requires-clause-well c =
    ends_well c.step_load-action.new.load.place c.step_load-action.new.load.need (loader.seen_end c.in-End.end) c.in-End.ensures.asked c.step_load-action.ensures.well

pub returns-in-End-clause-next : goal.returns-in-End-clause-next
returns-in-End-clause-next c = (
  c.step_load-action.new.load.need,
  c.step_load-action.ensures.next,
  went_end (work_of c.args.setting.now) (seen_chunk c.args.fetching) (seen_left c.args.waiting) c.step_load-action.new.load.place c.step_load-action.new.load.need (loader.seen_end c.in-End.end) _ c.in-End.ensures.asked
      (c.load_ended.ensures.next c.args.fetching.load.place c.requires.fetching.index),
)

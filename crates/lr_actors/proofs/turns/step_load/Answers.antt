use Rattle.std.proofs.Common.{sym, subst}
use Rattle.lr_walk.specs.Steps.{Reply}
use Rattle.lr_loader.specs.Progress as loads
use Rattle.lr_actors.specs.Asked.{seen_reply}
use Rattle.lr_loader.specs.Seen as loader
use Rattle.lr_actors.specs.Serving.{HasLease}
use Rattle.lr_actors.specs.Stages.{GoesWell}
use Rattle.lr_actors.proofs.Loads.{goes_well}
use Rattle.lr_actors.proofs.LoadTurns.{of_load}
use Rattle.lr_actors.proofs.turns.step_load.Goals as goal

pub load_reply-requires : goal.load_reply-requires
load_reply-requires c = of_load c.args.load.now.place c.args.load.now.need (seen_reply c.args.reply) c.requires.admitted

pub take-requires-clause-admitted : goal.take-requires-clause-admitted
take-requires-clause-admitted c = subst (λ (r : Reply). loads.Admits c.args.load.now.place c.args.load.now.need r) (sym c.load_reply.ensures.same) c.requires.admitted

pub returns-clause-well : goal.returns-clause-well
returns-clause-well c =
    subst GoesWell (sym c.next.ensures.need)
    (goes_well c.args.load.now.place c.args.load.now.need (loader.seen_reply c.load_reply.result) (loader.fetched_chunk c.load_reply.result) c.take.new.self.need
    (subst (λ (r : Reply). loads.Admits c.args.load.now.place c.args.load.now.need r) (sym c.load_reply.ensures.same) c.requires.admitted)
    (subst HasLease (sym c.load_reply.ensures.same) c.requires.lease) c.requires.well c.take.ensures.next)

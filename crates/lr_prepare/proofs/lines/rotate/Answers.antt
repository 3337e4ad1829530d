use Rattle.std.proofs.Common.{◌≡◌, [], ◌∷◌}
use Rattle.lr_depot.specs.declared.call.DepotCall.TheVariants.{Rotate}
use Rattle.lr_depot.specs.declared.call.DepotReply.TheVariants.{Rotated}
use Rattle.lr_depot.specs.Depot.{state}
use Rattle.lr_walk.specs.Depot.{step, rotates, rotated, seen_reply}
use Rattle.lr_images.proofs.Calling.{calls_one}
use Rattle.lr_prepare.specs.declared.error.SetupError.TheVariants as error
use Rattle.lr_prepare.proofs.Stopping.{rotation_stops, stopped_fault}
use Rattle.lr_prepare.proofs.lines.rotate.Goals as goal

pub returns-in-Rotated-clause-calls : goal.returns-in-Rotated-clause-calls
returns-in-Rotated-clause-calls g c = (
  step (rotates c.args.salt) (rotated c.in-Rotated.root) ∷ [],
  calls_one g.O.Origin.faults c.args.depot.now c.apply.new.self (Rotate c.args.salt) (Rotated c.in-Rotated.root) c.in-Rotated.ensures.fixed c.in-Rotated.ensures.answers c.in-Rotated.ensures.logged c.in-Rotated.ensures.never_falls,
  tt,
)

pub returns-in_default : goal.returns-in_default
returns-in_default g c = record {
  done = tt;
  calls = (
    step (rotates c.args.salt) (seen_reply c.apply.result) ∷ [],
    calls_one g.O.Origin.faults c.args.depot.now c.apply.new.self (Rotate c.args.salt) c.apply.result c.apply.ensures.fixed c.apply.ensures.answers c.apply.ensures.logged c.apply.ensures.never_falls,
    rotation_stops (state c.args.depot.now.start c.args.depot.now.log) c.args.line c.args.salt c.apply.result c.error_of.result c.apply.ensures.answers c.in_default.not-Rotated c.error_of.ensures,
  );
  fault = λ e. let same : c.error_of.result ≡ error.Fault = cc in c.apply.ensures.cause (stopped_fault c.args.line c.apply.result c.error_of.result c.error_of.ensures same);
}

use Rattle.std.proofs.Common.{◌≡◌, [], ◌∷◌}
use Rattle.std.specs.Arc.{arc_value}
use Rattle.std.proofs.lemmas.Result.{on_ok_weaker, IfErr-weaker}
use Rattle.lr_depot.specs.declared.call.DepotCall.TheVariants.{OpenImage}
use Rattle.lr_depot.specs.declared.call.DepotReply.TheVariants.{Opened}
use Rattle.lr_depot.specs.Depot.{state}
use Rattle.lr_walk.specs.Depot.{step, opens, opened, seen_reply}
use Rattle.lr_images.proofs.Calling.{calls_one}
use Rattle.lr_prepare.specs.declared.error.SetupError.TheVariants as error
use Rattle.lr_prepare.proofs.Opening.{opened_line}
use Rattle.lr_prepare.proofs.Stopping.{opening_stops, opened_stops, stopped_fault}
use Rattle.lr_prepare.proofs.lines.open_device.Goals as goal

pub returns-in-Opened-clause-done : goal.returns-in-Opened-clause-done
returns-in-Opened-clause-done g c =
    on_ok_weaker c.add_opened.result
    (λ h. opened_line c.args.depot.now c.apply.new.self c.args.image c.args.tenant c.args.host c.in-Opened.lease c.in-Opened.manifest c.args.draft.now c.add_opened.new.draft c.in-Opened.ensures.answers c.in-Opened.ensures.logged h.0 (λ d at. (h.1 d at).1))
    c.add_opened.ensures.more

pub returns-in-Opened-clause-calls : goal.returns-in-Opened-clause-calls
returns-in-Opened-clause-calls g c = (
  step (opens c.args.image) (opened c.in-Opened.lease (arc_value c.in-Opened.manifest)) ∷ [],
  calls_one g.O.Origin.faults c.args.depot.now c.apply.new.self (OpenImage c.args.image) (Opened c.in-Opened.lease c.in-Opened.manifest) c.in-Opened.ensures.fixed c.in-Opened.ensures.answers c.in-Opened.ensures.logged c.in-Opened.ensures.never_falls,
  IfErr-weaker c.add_opened.result _ _ (λ e stops. opened_stops c.args.line c.args.host c.in-Opened.lease c.args.image c.args.tenant c.in-Opened.manifest e stops) c.add_opened.ensures.stopped,
)

pub returns-in_default : goal.returns-in_default
returns-in_default g c = record {
  done = tt;
  calls = (
    step (opens c.args.image) (seen_reply c.apply.result) ∷ [],
    calls_one g.O.Origin.faults c.args.depot.now c.apply.new.self (OpenImage c.args.image) c.apply.result c.apply.ensures.fixed c.apply.ensures.answers c.apply.ensures.logged c.apply.ensures.never_falls,
    opening_stops (state c.args.depot.now.start c.args.depot.now.log) c.args.line c.args.host c.args.image c.args.tenant c.apply.result c.error_of.result c.apply.ensures.answers c.in_default.not-Opened c.error_of.ensures,
  );
  fault = λ e. let same : c.error_of.result ≡ error.Fault = cc in c.apply.ensures.cause (stopped_fault c.args.line c.apply.result c.error_of.result c.error_of.ensures same);
}

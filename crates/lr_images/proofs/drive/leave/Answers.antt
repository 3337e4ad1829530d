use Rattle.lr_images.proofs.Driving.{kept_stopped, stopped_closed, stop_drives}
use Rattle.lr_images.proofs.drive.leave.Goals as goal

pub returns : goal.returns
returns g c = record {
  drives = λ base given d.
      stop_drives g.O.Origin.faults c.run_on-end.result base c.run_on-end.new.depot c.args.machine.now c.stop.new.self c.run_on-end.new.machine given c.stop.ensures.same
      (λ e. stopped_closed c.args.machine.now.need c.stop.new.self.need c.run_on-end.new.machine.need c.stop.ensures.stopped (λ n h. c.run_on-end.ensures.given e n h) (c.run_on-end.ensures.wants e))
      c.stop.ensures.stopped c.run_on-end.ensures.may
      (c.run_on-end.ensures.drives base given (kept_stopped g.O.Origin.faults base c.args.depot.now c.args.machine.now c.stop.new.self given c.stop.ensures.stopped c.stop.ensures.stands d));
}

use Rattle.lr_world.specs.World.{seen, cast_of, numbers_of}
use Rattle.lr_script.specs.Seen.{schedule_seen}
use Rattle.lr_world.proofs.Leaving.{runs_leave}
use Rattle.lr_world.proofs.Scheduled.{scheduled_run, have_let_go, are_counted}
use Rattle.lr_world.proofs.Bounding.{stays_within, are_bounded}
use Rattle.lr_world.proofs.world.World.run.Goals as goal

pub returns-clause-ran : goal.returns-clause-ran
returns-clause-ran g c =
    let r = c.run_all.ensures.ran in
    (r.0, r.1, scheduled_run g.O.Origin.objects g.O.Origin.faults (numbers_of (cast_of (seen c.args.self.now))) (schedule_seen c.args.schedule.now) (seen c.args.self.now) (seen c.run_all.new.self) r.0 r.1)

pub returns-clause-left : goal.returns-clause-left
returns-clause-left g c =
    let r = c.run_all.ensures.ran in
    runs_leave c.laws.ensures g.O.Origin.objects g.O.Origin.faults (seen c.args.self.now) (seen c.run_all.new.self) r.0
    (scheduled_run g.O.Origin.objects g.O.Origin.faults (numbers_of (cast_of (seen c.args.self.now))) (schedule_seen c.args.schedule.now) (seen c.args.self.now) (seen c.run_all.new.self) r.0 r.1)

pub returns-clause-counted : goal.returns-clause-counted
returns-clause-counted g c =
    let r = c.run_all.ensures.ran in
    are_counted c.laws.ensures g.O.Origin.objects g.O.Origin.faults c.requires.world.0 c.requires.world.1 (numbers_of (cast_of (seen c.args.self.now))) (schedule_seen c.args.schedule.now) (seen c.args.self.now) (seen c.run_all.new.self) r.0 c.requires.world.2 r.1

pub returns-clause-within : goal.returns-clause-within
returns-clause-within g c =
    let r = c.run_all.ensures.ran in
    stays_within c.laws.ensures g.O.Origin.objects g.O.Origin.faults c.requires.world.0 c.requires.world.1 (seen c.args.self.now) (seen c.run_all.new.self) r.0 c.requires.world.2
    (scheduled_run g.O.Origin.objects g.O.Origin.faults (numbers_of (cast_of (seen c.args.self.now))) (schedule_seen c.args.schedule.now) (seen c.args.self.now) (seen c.run_all.new.self) r.0 r.1)

pub returns-clause-bounded : goal.returns-clause-bounded
returns-clause-bounded g c = are_bounded (seen c.args.self.now) (seen c.run_all.new.self) (returns-clause-within g c)

pub returns-clause-freed : goal.returns-clause-freed
returns-clause-freed g c =
    have_let_go c.requires.world.0 c.requires.world.1 (schedule_seen c.args.schedule.now) (seen c.run_all.new.self) (c.run_all.ensures.is c.requires.world.0 c.requires.world.1 c.requires.world.2) c.run_all.ensures.ends

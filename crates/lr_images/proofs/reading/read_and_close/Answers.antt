use Rattle.std.proofs.Common.{[], ◌∷◌, ◌++◌}
use Rattle.lr_depot.specs.declared.call.DepotCall.TheVariants.{Close}
use Rattle.lr_depot.specs.Depot.{state}
use Rattle.lr_walk.specs.Depot.{step, closes, seen_reply}
use Rattle.lr_images.specs.Cat.{end_of}
use Rattle.lr_images.proofs.Calling.{calls_one, calls_on, rose_later}
use Rattle.lr_images.proofs.Readings.{close_after, close_store, if_err}
use Rattle.lr_images.proofs.reading.read_and_close.Goals as goal

pub returns-clause-walk : goal.returns-clause-walk
returns-clause-walk g c = (
  c.read_leased-read.ensures.walk.0 ++ step (closes c.args.lease) (seen_reply c.apply-closed.result) ∷ [],
  calls_on g.O.Origin.faults c.args.depot.now c.read_leased-read.new.depot c.apply-closed.new.self c.read_leased-read.ensures.walk.0 (step (closes c.args.lease) (seen_reply c.apply-closed.result) ∷ []) c.read_leased-read.ensures.walk.1
      (calls_one g.O.Origin.faults c.read_leased-read.new.depot c.apply-closed.new.self (Close c.args.lease) c.apply-closed.result c.apply-closed.ensures.fixed c.apply-closed.ensures.answers c.apply-closed.ensures.logged c.apply-closed.ensures.never_falls),
  close_after c.args.tenant.now.bytes c.args.lease c.args.manifest.now c.read_leased-read.ensures.walk.0 (end_of c.read_leased-read.result) (state c.read_leased-read.new.depot.start c.read_leased-read.new.depot.log) c.apply-closed.result c.apply-closed.ensures.answers c.read_leased-read.ensures.walk.2,
)

pub returns-clause-kept : goal.returns-clause-kept
returns-clause-kept g c = λ m told.
    close_store (state c.read_leased-read.new.depot.start c.read_leased-read.new.depot.log) c.args.lease c.apply-closed.result m (g.O.Origin.objects c.apply-closed.new.self.origin) (c.apply-closed.ensures.store m (c.read_leased-read.ensures.keeps.same_objects m told))

pub returns-clause-fault : goal.returns-clause-fault
returns-clause-fault g c = if_err _ _ c.read_leased-read.result
    (λ e f h. rose_later (g.O.Origin.faults c.args.depot.now.origin) (g.O.Origin.faults c.read_leased-read.new.depot.origin) (g.O.Origin.faults c.apply-closed.new.self.origin) (f h) c.apply-closed.ensures.never_falls)
    c.read_leased-read.ensures.fault

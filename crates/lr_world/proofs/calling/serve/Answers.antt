use Rattle.std.proofs.Common.{refl}
use Rattle.lr_depot.specs.Machine.{is_logged, Enters, IsShared, IsSharedEntry}
use Rattle.lr_world.proofs.Places.{logs_by}
use Rattle.lr_world.proofs.calling.serve.Goals as goal

pub returns-in-Depot-clause-called : goal.returns-in-Depot-clause-called
returns-in-Depot-clause-called g c =
    rw c.in-Depot.is (record {
      replies = c.apply.ensures.answers;
      start = c.apply.ensures.fixed;
      logs = logs_by (is_logged c.apply.result) (λ e. Enters c.in-Depot.call c.apply.result e) (λ e. IsShared c.in-Depot.call → IsSharedEntry e.call) c.args.caller c.args.parts.now.depot.log c.apply.new.self.log c.apply.ensures.logged;
      others = (refl, refl, refl);
    })

pub returns-in-Depot-clause-depot : goal.returns-in-Depot-clause-depot
returns-in-Depot-clause-depot g c = rw c.in-Depot.is (record {
  fixed = c.apply.ensures.fixed;
  answers = c.apply.ensures.answers;
  logged = c.apply.ensures.logged;
  unlogged = c.apply.ensures.unlogged;
  store = c.apply.ensures.store;
  never_falls = c.apply.ensures.never_falls;
  cause = c.apply.ensures.cause;
  unasked = c.apply.ensures.unasked;
})

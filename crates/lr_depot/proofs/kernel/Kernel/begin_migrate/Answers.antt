use Rattle.std.proofs.Common.{refl, sym, subst}
use Rattle.lr_roots.specs.Roots.{IsTop}
use Rattle.lr_rules.proofs.Outcomes.{is_none}
use Rattle.lr_depot.specs.declared.call.DepotCall.TheVariants as call
use Rattle.lr_depot.specs.declared.call.DepotNoted.TheVariants as noted
use Rattle.lr_depot.specs.declared.call.DepotReply.TheVariants as reply
use Rattle.lr_depot.specs.declared.call.DepotTold.TheVariants as told
use Rattle.lr_depot.specs.Kernel.{state_of}
use Rattle.lr_depot.proofs.Ready.{is_not, moves_logged, top_active}
use Rattle.lr_depot.proofs.kernel.Kernel.begin_migrate.Goals as goal

pub returns-then-home-to : goal.returns-then-home-to
returns-then-home-to c =
    let top : IsTop c.args.self.now.catalog.view c.in-Some.home = subst (λ n. IsTop c.args.self.now.catalog.view n) (sym c.if-home-to.true) c.roots-to.ensures in
    record {
      served = λ makers own. moves_logged (state_of c.args.self.now makers) c.args.self.now c.args.caller (call.BeginMigrate c.args.image) (noted.BeginMigrate c.args.image) c.logged-then-home-to.result
          (reply.NotRetiredHome c.in-Some.home) (told.NotRetiredHome c.in-Some.home) c.logged-then-home-to.ensures
          (is_none _ (is_not c.withdrawn.ensures c.if-withdrawn.false), c.in-Some.ensures, top_active c.args.self.now c.requires.ready c.args.image c.in-Some.home c.in-Some.ensures top) refl refl
          (record { aside = c.requires.ready.aside; view = refl; doubts = refl; leases = refl; sessions = refl; next_lease = refl; next_session = refl; next_number = refl; makers = own });
    }

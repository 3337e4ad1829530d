use Rattle.std.proofs.Common.{◌+◌, refl, sym, ap, ◌∙◌}
use Rattle.std.specs.FinMap as map
use Rattle.lr_rules.specs.State.{Moves}
use Rattle.lr_depot.specs.declared.call.DepotCall.TheVariants as call
use Rattle.lr_depot.specs.declared.call.DepotNoted.TheVariants as noted
use Rattle.lr_depot.specs.declared.call.DepotReply.TheVariants as reply
use Rattle.lr_depot.specs.declared.call.DepotTold.TheVariants as told
use Rattle.lr_depot.specs.Kernel.{state_of}
use Rattle.lr_depot.proofs.Ready.{ready_fits, ready_roots, moves_logged}
use Rattle.lr_depot.proofs.Served.{below}
use Rattle.lr_depot.proofs.kernel.Kernel.begin_move.Goals as goal

pub handles-requires-clause-fits : goal.handles-requires-clause-fits
handles-requires-clause-fits c = ready_fits c.args.self.now c.requires.ready

pub returns : goal.returns
returns c = record {
  served = λ makers own. moves_logged (state_of c.args.self.now makers)
      (record { catalog = c.args.self.now.catalog; doubts = c.args.self.now.doubts; makers = c.args.self.now.makers; leases = c.args.self.now.leases; sessions = c.insert.new.self; next_lease = c.args.self.now.next_lease; next_session = c.args.self.now.next_session + 1; next_number = c.args.self.now.next_number })
      c.args.caller (call.BeginMigrate c.args.image) (noted.BeginMigrate c.args.image) c.logged.result
      (reply.Moving c.args.self.now.next_session c.args.from c.args.to c.in-Ok.manifest)
      (told.Moving c.args.self.now.next_session c.args.from c.args.to c.in-Ok.told) c.logged.ensures (
        record { home = c.requires.home; kept = c.requires.kept; listed = c.in-Ok.ensures.0; roots = ready_roots c.args.self.now c.requires.ready c.args.to c.requires.top; retired = below c.args.from c.args.to (c.requires.top.0 c.args.from c.requires.home.live.0) c.requires.other },
        refl,
      ) refl (refl, refl, refl, c.in-Ok.ensures.1)
      (record {
        aside = c.requires.ready.aside;
        view = refl;
        doubts = refl;
        leases = refl;
        sessions = c.in-Ok-insert.ensures.ok ∙ ap (λ m. map.insert c.args.self.now.sessions c.args.self.now.next_session (record { caller = c.args.caller; job = Moves c.args.image c.args.from c.args.to m })) (c.in-Ok.ensures.2 ∙ sym c.in-Ok.ensures.1);
        next_lease = refl;
        next_session = refl;
        next_number = refl;
        makers = own;
      });
}

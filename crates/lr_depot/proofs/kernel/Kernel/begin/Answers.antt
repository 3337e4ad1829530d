use Rattle.std.proofs.Common.{◌+◌, refl, arith}
use Rattle.lr_depot.specs.declared.call.DepotCall.TheVariants as call
use Rattle.lr_depot.specs.declared.call.DepotNoted.TheVariants as noted
use Rattle.lr_depot.specs.declared.call.DepotReply.TheVariants as reply
use Rattle.lr_depot.specs.declared.call.DepotTold.TheVariants as told
use Rattle.lr_depot.specs.Kernel.{state_of}
use Rattle.lr_depot.proofs.Ready.{ready_fits, moves_logged}
use Rattle.lr_depot.proofs.kernel.Kernel.begin.Goals as goal

pub salt_of-salt-requires-clause-there : goal.salt_of-salt-requires-clause-there
salt_of-salt-requires-clause-there c =
    let b = c.requires.begins c.requires.ready.makers in
    b.roots.0 c.args.root b.some (omega arith)

pub salt_of-salt-requires-clause-fits : goal.salt_of-salt-requires-clause-fits
salt_of-salt-requires-clause-fits c = ready_fits c.args.self.now c.requires.ready

pub returns : goal.returns
returns c = record {
  served = λ makers own. moves_logged (state_of c.args.self.now makers)
      (record { catalog = c.args.self.now.catalog; doubts = c.args.self.now.doubts; makers = c.args.self.now.makers; leases = c.args.self.now.leases; sessions = c.insert.new.self; next_lease = c.args.self.now.next_lease; next_session = c.args.self.now.next_session + 1; next_number = c.args.self.now.next_number + 1 })
      c.args.caller (call.BeginCreate c.args.image) (noted.BeginCreate c.args.image) c.logged.result
      (reply.Began c.args.self.now.next_session c.args.root c.salt_of-salt.result c.args.self.now.next_number)
      (told.Began c.args.self.now.next_session c.args.root c.salt_of-salt.result c.args.self.now.next_number) c.logged.ensures
      (c.requires.begins makers, refl, refl, c.salt_of-salt.ensures) refl refl
      (record { aside = c.requires.ready.aside; view = refl; doubts = refl; leases = refl; sessions = c.in-Ok.ensures.ok; next_lease = refl; next_session = refl; next_number = refl; makers = own });
}

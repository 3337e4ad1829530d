use Rattle.std.proofs.Common.{refl}
use Rattle.lr_nodes.specs.declared.call.NodeReply.TheVariants.{Absent}
use Rattle.lr_nodes.proofs.node.Node.absent.Goals as goal

pub returns-clause-kept : goal.returns-clause-kept
returns-clause-kept c = record {
  fixed = rw (← c.self.view_is) refl;
  logged = rw (← c.self.view_is) (record { caller = c.args.caller; call = c.args.call; reply = Absent }, (cc), refl, record { logged = refl; noted = refl; told = refl }, λ u. u);
  unlogged = tt;
}

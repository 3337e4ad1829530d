use Rattle.std.proofs.Common.{refl}
use Rattle.lr_nodes.specs.declared.call.NodeCall.TheVariants.{Drop}
use Rattle.lr_nodes.specs.declared.call.NodeReply.TheVariants.{Dropped}
use Rattle.lr_nodes.proofs.node.Node.drop_stripe.Goals as goal

pub returns-clause-kept : goal.returns-clause-kept
returns-clause-kept c = record {
  fixed = rw (← c.self.view_is) refl;
  logged = rw (← c.self.view_is) (record { caller = c.args.caller; call = Drop c.args.name c.args.index; reply = Dropped }, (cc), refl, record { logged = refl; noted = refl; told = refl }, λ u. u);
  unlogged = tt;
}

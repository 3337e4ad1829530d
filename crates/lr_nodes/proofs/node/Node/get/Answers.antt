use Rattle.std.proofs.Common.{refl}
use Rattle.lr_nodes.specs.declared.call.NodeCall.TheVariants.{Get}
use Rattle.lr_nodes.specs.declared.call.NodeReply.TheVariants.{Found}
use Rattle.lr_nodes.proofs.node.Node.get.Goals as goal

pub returns-clause-kept : goal.returns-clause-kept
returns-clause-kept c = record {
  fixed = rw (← c.self.view_is) refl;
  logged = rw (← c.self.view_is) (record { caller = c.args.caller; call = Get c.args.name c.args.index; reply = Found c.in-Ok-owner_of.kept }, (cc), refl, record { logged = refl; noted = refl; told = (cc (c.in-Ok.ensures, c.in-Ok-owner_of.ensures)) }, λ u. u);
  unlogged = tt;
}

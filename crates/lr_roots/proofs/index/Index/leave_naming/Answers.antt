use Rattle.std.specs.Ordering.{nat_cmp}
use Rattle.lr_origin.specs.declared.key.KeyKind.TheVariants.{Root}
use Rattle.lr_roots.specs.Index.{naming_cmp, naming_key}
use Rattle.lr_roots.proofs.Indexes.{namings_exact, gone, gone_beside, root_not_naming}
use Rattle.lr_roots.proofs.index.Index.leave_naming.Goals as goal

pub returns : goal.returns
returns c = λ v h. record {
  roots = gone_beside nat_cmp Root v c.args.self.now.roots (naming_key c.args.naming) (root_not_naming c.args.naming) h.roots;
  namings = gone naming_cmp naming_key namings_exact v c.args.self.now.namings c.remove.new.self c.args.naming c.remove.ensures.updates h.namings;
}

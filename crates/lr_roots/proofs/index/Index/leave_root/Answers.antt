use Rattle.std.specs.Ordering.{nat_cmp}
use Rattle.lr_origin.specs.declared.key.KeyKind.TheVariants.{Root}
use Rattle.lr_roots.specs.Index.{naming_cmp, naming_key}
use Rattle.lr_roots.proofs.Indexes.{roots_exact, gone, gone_beside, naming_not_root}
use Rattle.lr_roots.proofs.index.Index.leave_root.Goals as goal

pub returns : goal.returns
returns c = λ v h. record {
  roots = gone nat_cmp Root roots_exact v c.args.self.now.roots c.remove.new.self c.args.root c.remove.ensures.updates h.roots;
  namings = gone_beside naming_cmp naming_key v c.args.self.now.namings (Root c.args.root) (naming_not_root c.args.root) h.namings;
}

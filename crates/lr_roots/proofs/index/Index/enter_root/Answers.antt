use Rattle.std.specs.Ordering.{nat_cmp}
use Rattle.lr_origin.specs.declared.key.KeyKind.TheVariants.{Root}
use Rattle.lr_roots.specs.Index.{naming_cmp, naming_key}
use Rattle.lr_roots.proofs.Indexes.{roots_exact, entered, entered_beside, naming_not_root}
use Rattle.lr_roots.proofs.index.Index.enter_root.Goals as goal

pub returns-clause-ok : goal.returns-clause-ok
returns-clause-ok c = λ v held h. record {
  roots = entered nat_cmp Root roots_exact v c.args.self.now.roots c.insert.new.self c.args.root held c.in_ok-insert.ensures.updates h.roots;
  namings = entered_beside naming_cmp naming_key v c.args.self.now.namings (Root c.args.root) held (naming_not_root c.args.root) h.namings;
}

use Rattle.std.specs.Ordering.{nat_cmp}
use Rattle.lr_origin.specs.declared.key.KeyKind.TheVariants.{Root}
use Rattle.lr_roots.specs.Index.{naming_cmp, naming_key}
use Rattle.lr_roots.proofs.Indexes.{namings_exact, entered, entered_beside, root_not_naming}
use Rattle.lr_roots.proofs.index.Index.enter_naming.Goals as goal

pub returns-clause-ok : goal.returns-clause-ok
returns-clause-ok c = λ v held h. record {
  roots = entered_beside nat_cmp Root v c.args.self.now.roots (naming_key c.args.naming) held (root_not_naming c.args.naming) h.roots;
  namings = entered naming_cmp naming_key namings_exact v c.args.self.now.namings c.insert.new.self c.args.naming held c.in_ok-insert.ensures.updates h.namings;
}

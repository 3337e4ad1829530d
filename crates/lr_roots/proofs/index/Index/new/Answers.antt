use Rattle.std.proofs.Common.{Bool, false, refl, ap, ◌≡◌, List, []}
use Rattle.std.specs.Ordering.{nat_cmp}
use Rattle.std.specs.BTreeSet.{contains}
use Rattle.std.specs.List.{list_any}
use Rattle.std.specs.BTreeMap.{is_at}
use Rattle.lr_origin.specs.declared.key.KeyKind.TheVariants.{Root}
use Rattle.lr_roots.specs.Index.{naming_cmp, naming_key}
use Rattle.lr_roots.proofs.Indexes.{empty_keys}
use Rattle.lr_roots.proofs.index.Index.new.Goals as goal

pub returns : goal.returns
returns c = record {
  roots = empty_keys nat_cmp Root c.new.result (λ q. ap (list_any (is_at (nat_cmp q))) c.new.ensures.empty);
  namings = empty_keys naming_cmp naming_key c.new-2.result (λ q. ap (list_any (is_at (naming_cmp q))) c.new-2.ensures.empty);
}

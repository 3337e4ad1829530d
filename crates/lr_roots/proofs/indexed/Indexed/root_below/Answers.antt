use Rattle.std.proofs.Common.{sym, subst, ◌∙◌, IsTrue}
use Rattle.std.specs.Ordering.{nat_cmp}
use Rattle.std.specs.BTreeSet.{contains}
use Rattle.lr_origin.specs.declared.key.KeyKind.TheVariants as kind
use Rattle.lr_roots.specs.View.{View, Has}
use Rattle.lr_roots.specs.Index.{IsLastBelow}
use Rattle.lr_roots.proofs.Indexes.{last_by}
use Rattle.lr_roots.proofs.indexed.Indexed.root_below.Goals as goal

pub returns : goal.returns
returns c =
    let h = c.self.invariant.roots in
    subst (λ (v : View). IsLastBelow (λ q. Has v (kind.Root q)) c.args.bound c.root_below.result) c.self.view_is
    (last_by (λ q. IsTrue (contains nat_cmp c.self.inside.index.roots q)) (λ q. Has c.self.inside.keys (kind.Root q)) c.args.bound c.root_below.result (λ q there. sym (h q) ∙ there) (λ q there. h q ∙ there) c.root_below.ensures)

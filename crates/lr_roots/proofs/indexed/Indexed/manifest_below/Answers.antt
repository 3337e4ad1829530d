use Rattle.std.proofs.Common.{Some, sym, subst, ◌∙◌}
use Rattle.lr_origin.specs.declared.key.KeyKind.TheVariants as kind
use Rattle.lr_roots.specs.View.{View, Has}
use Rattle.lr_roots.specs.Index.{IsLastBelow, IsNamedIn}
use Rattle.lr_roots.proofs.Indexes.{last_by}
use Rattle.lr_roots.proofs.indexed.Indexed.manifest_below.Goals as goal

pub returns : goal.returns
returns c =
    let image = c.args.image.now in
    subst (λ (v : View). IsLastBelow (λ q. Has v (kind.Manifest q image)) c.args.bound c.manifest_below.result) c.self.view_is
    (last_by (IsNamedIn c.self.inside.index.namings image) (λ q. Has c.self.inside.keys (kind.Manifest q image)) c.args.bound c.manifest_below.result (λ q there. sym (c.self.invariant.namings (record { image = image; root = Some q })) ∙ there) (λ q there. c.self.invariant.namings (record { image = image; root = Some q }) ∙ there) c.manifest_below.ensures)

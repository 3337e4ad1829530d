use Rattle.std.proofs.Common.{Some, sym, subst, ◌∙◌}
use Rattle.lr_origin.specs.declared.key.KeyKind.TheVariants as kind
use Rattle.lr_roots.specs.View.{View, Has}
use Rattle.lr_roots.specs.Index.{IsFirstFrom, IsNamedIn}
use Rattle.lr_roots.proofs.Indexes.{first_by}
use Rattle.lr_roots.proofs.indexed.Indexed.manifest_from.Goals as goal

pub returns : goal.returns
returns c =
    let image = c.args.image.now in
    subst (λ (v : View). IsFirstFrom (λ q. Has v (kind.Manifest q image)) c.args.bound c.manifest_from.result) c.self.view_is
    (first_by (IsNamedIn c.self.inside.index.namings image) (λ q. Has c.self.inside.keys (kind.Manifest q image)) c.args.bound c.manifest_from.result (λ q there. sym (c.self.invariant.namings (record { image = image; root = Some q })) ∙ there) (λ q there. c.self.invariant.namings (record { image = image; root = Some q }) ∙ there) c.manifest_from.ensures)

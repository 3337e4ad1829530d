use Rattle.std.proofs.Common.{◌≡◌, ◌++◌, ℕ, List, Some, ap, sym, subst, ◌∙◌, append-nil}
use Rattle.std.specs.Result.{OnOk}
use Rattle.lr_roots.specs.Roots.{IsRootState}
use Rattle.lr_rootlines.proofs.Lines.{not_there, there}
use Rattle.lr_rootlines.proofs.part.put_root.Goals as goal

pub returns-in_default : goal.returns-in_default
returns-in_default c =
    let out : List ℕ = c.args.out.now.items in
    sym (append-nil out) ∙ ap (λ (t : List ℕ). out ++ t) (sym (not_there c.args.catalog.now.view c.args.root (subst (IsRootState c.args.catalog.now.view c.args.root) c.in_default.is c.state.ensures)))

pub returns : goal.returns
returns c =
    let v = c.args.catalog.now.view in
    let is : IsRootState v c.args.root (Some c.in-Some.state) = subst (IsRootState v c.args.root) c.in-Some.is c.state.ensures in
    subst (λ (t : List ℕ). OnOk c.put_root_line.result (c.put_root_line.new.out.items ≡ c.args.out.now.items ++ t))
    (sym (there v c.args.root c.in-Some.state c.counts-images.result.0 c.counts-images.result.1 is c.counts-images.ensures.manifests c.counts-images.ensures.chunks))
    c.put_root_line.ensures

use Rattle.std.proofs.Common.{None, ap, sym, ◌∙◌}
use Rattle.lr_roots.specs.Catalog.{Seen, with_key}
use Rattle.lr_roots.proofs.Aside.{taken_in}
use Rattle.lr_roots.proofs.catalog.Catalog.accept.Goals as goal

pub returns : goal.returns
returns c =
    let kept = taken_in c.self.inside.aside c.self.inside.keys c.self.invariant.1 in
    ap (λ v. record { view = v; aside = None }) (sym kept ∙ ap (λ (s : Seen). with_key s.aside s.view) c.self.view_is)

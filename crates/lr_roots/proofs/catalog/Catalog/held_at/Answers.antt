use Rattle.std.proofs.Common.{◌≢◌, Some, ap, sym, ◌∙◌}
use Rattle.std.proofs.lemmas.Bool.{false≢true}
use Rattle.std.specs.FinMap as map
use Rattle.lr_roots.specs.Catalog.{Seen}
use Rattle.lr_roots.proofs.Aside.{get_visible, get_hidden}
use Rattle.lr_roots.proofs.catalog.Catalog.held_at.Goals as goal

pub returns-then-is_aside : goal.returns-then-is_aside
returns-then-is_aside c =
    sym (get_hidden c.self.inside.aside c.self.inside.keys c.args.key.now (c.is_aside.ensures.0 c.if-is_aside.true))
    ∙ ap (λ (s : Seen). map.get s.view c.args.key.now) c.self.view_is

pub returns : goal.returns
returns c =
    let other : c.self.inside.aside ≢ Some c.args.key.now = λ e. false≢true (sym c.if-is_aside.false ∙ c.is_aside.ensures.1 e) in
    c.get.ensures
    ∙ sym (get_visible c.self.inside.aside c.self.inside.keys c.args.key.now other)
    ∙ ap (λ (s : Seen). map.get s.view c.args.key.now) c.self.view_is

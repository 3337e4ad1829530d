use Rattle.std.proofs.Common.{◌≡◌, ◌≢◌, ◌^◌, Some, IsSome, sym, ap, subst, ◌∙◌}
use Rattle.std.proofs.lemmas.Bool.{false≢true}
use Rattle.std.specs.FinMap as map
use Rattle.lr_roots.specs.View.{View, Has}
use Rattle.lr_roots.specs.Names.{AreFewer, IsNamed}
use Rattle.lr_roots.specs.Catalog.{Seen, IsWhole, without, aside_of}
use Rattle.lr_roots.proofs.Aside.{whole_removed, few_removed, hidden_gone, removed_beside, get_kept}
use Rattle.lr_roots.proofs.catalog.Catalog.remove.Goals as goal

pub returns-then-is_aside : goal.returns-then-is_aside
returns-then-is_aside c =
    let key = c.args.key.now in
    let gone : map.remove c.args.self.now.view key ≡ c.args.self.now.view =
    subst (λ (s : Seen). map.remove s.view key ≡ s.view) c.self.view_is (hidden_gone c.self.inside.aside c.self.inside.keys key (c.is_aside.ensures.0 c.if-is_aside.true)) in
    λ i. record { view = sym gone i; aside = c.args.self.now.aside }

pub invariant_of-self : goal.invariant_of-self
invariant_of-self c = (
  subst IsWhole (sym c.remove.ensures) (whole_removed c.self.inside.keys c.args.key.now c.self.invariant.0),
  λ key e. subst (λ (v : View). Has v key) (sym c.remove.ensures) (subst IsSome (sym (get_kept c.self.inside.keys c.args.key.now key (λ same. false≢true (sym c.if-is_aside.false ∙ c.is_aside.ensures.1 (e ∙ ap Some same))))) (c.self.invariant.1 key e)),
  subst (λ (v : View). AreFewer (IsNamed v) (2 ^ 32)) (sym c.remove.ensures) (few_removed c.self.inside.keys c.args.key.now c.self.invariant.2),
)

pub returns : goal.returns
returns c =
    let other : c.self.inside.aside ≢ Some c.args.key.now = λ e. false≢true (sym c.if-is_aside.false ∙ c.is_aside.ensures.1 e) in
    ap (λ (v : View). record { view = without c.self.inside.aside v; aside = aside_of c.self.inside.aside v }) c.remove.ensures
    ∙ removed_beside c.self.inside.aside c.self.inside.keys c.args.key.now other
    ∙ ap (λ (s : Seen). record { view = map.remove s.view c.args.key.now; aside = s.aside }) c.self.view_is

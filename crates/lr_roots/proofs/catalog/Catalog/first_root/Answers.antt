use Rattle.std.proofs.Common.{◌≡◌, ◌<◌, ◌≤◌, ◌+◌, ◌-◌, ℕ, sym, ◌∙◌, arith}
use Rattle.std.proofs.lemmas.Bool.{false≢true}
use Rattle.lr_origin.specs.declared.key.KeyKind.TheVariants as kind
use Rattle.lr_roots.specs.View.{Has}
use Rattle.lr_roots.proofs.Aside.{is_none, has_seen}
use Rattle.lr_roots.proofs.Downward.{none_under, one_up, none_on}
use Rattle.lr_roots.proofs.catalog.Catalog.first_root.Goals as goal

pub loop-root-preserved : goal.loop-root-preserved
loop-root-preserved c =
    one_up (λ q. Has c.args.self.now.view (kind.Manifest q c.args.image.now)) (λ q. Has c.self.inside.keys (kind.Manifest q c.args.image.now)) (λ q has. has_seen c.self.inside.aside c.self.inside.keys c.args.self.now (kind.Manifest q c.args.image.now) c.self.view_is has)
    c.loop-root.bound c.in-Some.root c.loop-root.invariant c.in-Some.ensures (λ has. false≢true (sym c.if-has_kind.false ∙ c.has_kind.ensures.1 has))

pub returns-then-has_kind : goal.returns-then-has_kind
returns-then-has_kind c = (
  c.has_kind.ensures.0 c.if-has_kind.true,
  λ q below. is_none _ (none_under (λ q. Has c.args.self.now.view (kind.Manifest q c.args.image.now)) (λ q. Has c.self.inside.keys (kind.Manifest q c.args.image.now)) (λ q has. has_seen c.self.inside.aside c.self.inside.keys c.args.self.now (kind.Manifest q c.args.image.now) c.self.view_is has)
      c.loop-root.bound c.in-Some.root c.loop-root.invariant c.in-Some.ensures q below),
)

pub returns : goal.returns
returns c = λ q. is_none _
    (none_on (λ q. Has c.args.self.now.view (kind.Manifest q c.args.image.now)) (λ q. Has c.self.inside.keys (kind.Manifest q c.args.image.now)) (λ q has. has_seen c.self.inside.aside c.self.inside.keys c.args.self.now (kind.Manifest q c.args.image.now) c.self.view_is has)
    c.loop-root.bound c.loop-root.invariant c.in_default.ensures q)

fewer : (bound r : ℕ) → bound ≤ r → r ≤ 1000 → 1001 - (r + 1) < 1001 - bound
fewer bound r le most = omega (arith, le, most)

pub loop-root-smaller : goal.loop-root-smaller
loop-root-smaller c = fewer c.loop-root.bound c.in-Some.root c.in-Some.ensures.0 (c.self.invariant.0.kinds (kind.Manifest c.in-Some.root c.args.image.now) c.in-Some.ensures.1).0.1

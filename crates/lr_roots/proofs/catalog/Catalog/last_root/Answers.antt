use Rattle.std.proofs.Common.{◌≡◌, ◌<◌, ◌≤◌, ℕ, List, IsSome, None, sym, subst, ◌∙◌, arith}
use Rattle.std.proofs.lemmas.Bool.{false≢true}
use Rattle.lr_origin.specs.declared.key.KeyKind.TheVariants as kind
use Rattle.lr_roots.specs.View.{View, Held, Has, Lacks}
use Rattle.lr_roots.specs.Catalog.{Seen}
use Rattle.lr_roots.proofs.Aside.{is_none, lacks_manifest, has_seen}
use Rattle.lr_roots.proofs.Downward.{none_above, one_down, none_left}
use Rattle.lr_roots.proofs.catalog.Catalog.last_root.Goals as goal

gone : (v : View) (q : ℕ) (image : List ℕ) → Lacks v (kind.Manifest q image) → Has v (kind.Manifest q image) → ⊥
gone v q image lacks has = let h : IsSome {T = Held} None = subst IsSome lacks has in cc

pub loop-root-init : goal.loop-root-init
loop-root-init c = λ q le.
    gone c.args.self.now.view q c.args.image.now (subst (λ (s : Seen). Lacks s.view (kind.Manifest q c.args.image.now)) c.self.view_is (lacks_manifest c.self.inside.aside c.self.inside.keys q c.args.image.now c.self.invariant.0 (omega (arith, le))))

pub loop-root-preserved : goal.loop-root-preserved
loop-root-preserved c =
    one_down (λ q. Has c.args.self.now.view (kind.Manifest q c.args.image.now)) (λ q. Has c.self.inside.keys (kind.Manifest q c.args.image.now)) (λ q has. has_seen c.self.inside.aside c.self.inside.keys c.args.self.now (kind.Manifest q c.args.image.now) c.self.view_is has)
    c.loop-root.bound c.in-Some.root c.loop-root.invariant c.in-Some.ensures (λ has. false≢true (sym c.if-has_kind.false ∙ c.has_kind.ensures.1 has))

pub returns-then-has_kind : goal.returns-then-has_kind
returns-then-has_kind c = (
  c.has_kind.ensures.0 c.if-has_kind.true,
  λ q above. is_none _ (none_above (λ q. Has c.args.self.now.view (kind.Manifest q c.args.image.now)) (λ q. Has c.self.inside.keys (kind.Manifest q c.args.image.now)) (λ q has. has_seen c.self.inside.aside c.self.inside.keys c.args.self.now (kind.Manifest q c.args.image.now) c.self.view_is has)
      c.loop-root.bound c.in-Some.root c.loop-root.invariant c.in-Some.ensures q above),
)

pub returns : goal.returns
returns c = λ q. is_none _
    (none_left (λ q. Has c.args.self.now.view (kind.Manifest q c.args.image.now)) (λ q. Has c.self.inside.keys (kind.Manifest q c.args.image.now)) (λ q has. has_seen c.self.inside.aside c.self.inside.keys c.args.self.now (kind.Manifest q c.args.image.now) c.self.view_is has)
    c.loop-root.bound c.loop-root.invariant c.in_default.ensures q)

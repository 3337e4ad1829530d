use Rattle.std.proofs.Common.{◌≡◌, ◌<◌, ◌≤◌, ℕ, List, IsSome, None, sym, subst, ◌∙◌, arith}
use Rattle.std.proofs.lemmas.Bool.{false≢true}
use Rattle.lr_origin.specs.declared.key.KeyKind.TheVariants as kind
use Rattle.lr_roots.specs.View.{View, Held, Has, Lacks}
use Rattle.lr_roots.specs.Roots.{IsLive}
use Rattle.lr_roots.specs.Catalog.{Seen}
use Rattle.lr_roots.proofs.Aside.{is_none, lacks_above, has_seen}
use Rattle.lr_roots.proofs.Downward.{none_above, one_down, none_left}
use Rattle.lr_roots.proofs.catalog.Catalog.home.Goals as goal

gone : (v : View) (q : ℕ) → Lacks v (kind.Root q) → Has v (kind.Root q) → ⊥
gone v q lacks has = let h : IsSome {T = Held} None = subst IsSome lacks has in cc

pub loop-root-init : goal.loop-root-init
loop-root-init c = λ q le p.
    gone c.args.self.now.view q (subst (λ (s : Seen). Lacks s.view (kind.Root q)) c.self.view_is (lacks_above c.self.inside.aside c.self.inside.keys q c.self.invariant.0 (omega (arith, le)))) p.0.0

pub loop-root-preserved : goal.loop-root-preserved
loop-root-preserved c =
    one_down (λ q. IsLive c.args.self.now.view q × Has c.args.self.now.view (kind.Manifest q c.args.image.now)) (λ q. Has c.self.inside.keys (kind.Manifest q c.args.image.now)) (λ q p. has_seen c.self.inside.aside c.self.inside.keys c.args.self.now (kind.Manifest q c.args.image.now) c.self.view_is p.1)
    c.loop-root.bound c.in-Some.root c.loop-root.invariant c.in-Some.ensures (λ p. false≢true (sym c.if-lists.false ∙ c.lists.ensures.1 p))

pub returns-then-lists : goal.returns-then-lists
returns-then-lists c =
    let h = c.lists.ensures.0 c.if-lists.true in
    record {
      live = h.0;
      listed = h.1;
      greatest = λ q above live. is_none _ (λ has.
          none_above (λ q. IsLive c.args.self.now.view q × Has c.args.self.now.view (kind.Manifest q c.args.image.now)) (λ q. Has c.self.inside.keys (kind.Manifest q c.args.image.now)) (λ q p. has_seen c.self.inside.aside c.self.inside.keys c.args.self.now (kind.Manifest q c.args.image.now) c.self.view_is p.1)
          c.loop-root.bound c.in-Some.root c.loop-root.invariant c.in-Some.ensures q above (live, has));
    }

pub returns : goal.returns
returns c = λ q live. is_none _ (λ has.
    none_left (λ q. IsLive c.args.self.now.view q × Has c.args.self.now.view (kind.Manifest q c.args.image.now)) (λ q. Has c.self.inside.keys (kind.Manifest q c.args.image.now)) (λ q p. has_seen c.self.inside.aside c.self.inside.keys c.args.self.now (kind.Manifest q c.args.image.now) c.self.view_is p.1)
    c.loop-root.bound c.loop-root.invariant c.in_default.ensures q (live, has))

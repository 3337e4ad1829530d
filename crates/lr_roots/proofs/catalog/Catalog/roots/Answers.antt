use Rattle.std.proofs.Common.{◌≡◌, ◌<◌, ◌≤◌, ℕ, IsSome, None, sym, subst, ◌∙◌, inl, inr, arith}
use mathlib.Core.Logic.{◌⊎◌}
use Rattle.std.proofs.lemmas.Bool.{false≢true}
use Rattle.lr_origin.specs.declared.key.KeyKind.TheVariants as kind
use Rattle.lr_roots.specs.View.{View, Held, Has, Lacks}
use Rattle.lr_roots.specs.Catalog.{Seen}
use Rattle.lr_roots.proofs.Aside.{lacks_above, has_seen}
use Rattle.lr_roots.proofs.Downward.{none_above, one_down, none_left}
use Rattle.lr_roots.proofs.catalog.Catalog.roots.Goals as goal

gone : (v : View) (q : ℕ) → Lacks v (kind.Root q) → Has v (kind.Root q) → ⊥
gone v q lacks has = let h : IsSome {T = Held} None = subst IsSome lacks has in cc

pub loop-root-init : goal.loop-root-init
loop-root-init c = λ q le.
    gone c.args.self.now.view q (subst (λ (s : Seen). Lacks s.view (kind.Root q)) c.self.view_is (lacks_above c.self.inside.aside c.self.inside.keys q c.self.invariant.0 (omega (arith, le))))

pub loop-root-preserved : goal.loop-root-preserved
loop-root-preserved c =
    one_down (λ q. Has c.args.self.now.view (kind.Root q)) (λ q. Has c.self.inside.keys (kind.Root q)) (λ q has. has_seen c.self.inside.aside c.self.inside.keys c.args.self.now (kind.Root q) c.self.view_is has)
    c.loop-root.bound c.in-Some.root c.loop-root.invariant c.in-Some.ensures (λ has. false≢true (sym c.if-has_kind.false ∙ c.has_kind.ensures.1 has))

up_to : (P : ℕ → Type 0) (r q : ℕ) → ((x : ℕ) → r < x → P x → ⊥) → P q → q ≤ r
up_to P r q none p = by split
  where
    split : (r < q) ⊎ (q ≤ r)
    split = grind arith

    by : (r < q) ⊎ (q ≤ r) → q ≤ r
    by (inl above) = absurd (none q above p)
    by (inr le) = le

pub returns-then-has_kind : goal.returns-then-has_kind
returns-then-has_kind c =
    let P : ℕ → Type 0 = λ q. Has c.args.self.now.view (kind.Root q) in (
      λ q has. up_to P c.in-Some.root q (none_above P (λ q. Has c.self.inside.keys (kind.Root q)) (λ q has. has_seen c.self.inside.aside c.self.inside.keys c.args.self.now (kind.Root q) c.self.view_is has) c.loop-root.bound c.in-Some.root c.loop-root.invariant c.in-Some.ensures) has,
      λ _. c.has_kind.ensures.0 c.if-has_kind.true,
    )

pub returns : goal.returns
returns c =
    let P : ℕ → Type 0 = λ q. Has c.args.self.now.view (kind.Root q) in (
      λ q has. absurd (none_left P (λ q. Has c.self.inside.keys (kind.Root q)) (λ q has. has_seen c.self.inside.aside c.self.inside.keys c.args.self.now (kind.Root q) c.self.view_is has) c.loop-root.bound c.loop-root.invariant c.in_default.ensures q has),
      λ less. absurd (omega (arith, less)),
    )

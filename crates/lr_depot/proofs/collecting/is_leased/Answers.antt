use Rattle.std.proofs.Common.{◌≡◌, ℕ, List, Some, sym, ap, ◌∙◌, refl}
use Rattle.std.proofs.lemmas.Bool.{false≢true}
use Rattle.std.specs.Cmp.Lexicographic.{bytes_decides}
use Rattle.lr_manifest.specs.Manifest.{ManifestFields}
use Rattle.lr_depot.proofs.Numbers.{left_start, left_step, left_first, left_end}
use Rattle.lr_depot.proofs.collecting.is_leased.Goals as goal

pub loop-lease-init : goal.loop-lease-init
loop-lease-init c =
    left_start c.args.leases.now (λ e. e.0 ≡ c.args.image.now) _ (c.into_iter-lease-iterator.ensures.into_iter_gives ∙ c.iter-lease-items.ensures.list) c.iter-lease-items.ensures.ordered

pub loop-lease-preserved : goal.loop-lease-preserved
loop-lease-preserved c =
    left_step c.args.leases.now (λ e. e.0 ≡ c.args.image.now) _ _ c.in-Some.field-0-0.now c.in-Some.lease.now c.in-Some.ensures.steps c.loop-lease.invariant
    (λ h. false≢true (sym c.if-eq.false ∙ c.eq.ensures ∙ (bytes_decides c.lease.inside.image c.args.image.now).1 (ap (λ (p : List ℕ × ManifestFields). p.0) c.lease.view_is ∙ h)))

pub returns-then-eq : goal.returns-then-eq
returns-then-eq c =
    let same : c.in-Some.lease.now.0 ≡ c.args.image.now = sym (ap (λ (p : List ℕ × ManifestFields). p.0) c.lease.view_is) ∙ (bytes_decides c.lease.inside.image c.args.image.now).0 (sym c.eq.ensures ∙ c.if-eq.true) in (
      λ _. (
        c.in-Some.field-0-0.now,
        c.in-Some.lease.now.1,
        left_first c.args.leases.now (λ e. e.0 ≡ c.args.image.now) _ _ c.in-Some.field-0-0.now c.in-Some.lease.now c.in-Some.ensures.steps c.loop-lease.invariant
            ∙ (λ i. Some (same i, c.in-Some.lease.now.1)),
      ),
      λ _. refl,
    )

pub returns : goal.returns
returns c = (
  λ t. cc,
  λ h. absurd (left_end c.args.leases.now (λ e. e.0 ≡ c.args.image.now) _ c.in-None.ensures.steps.0 c.loop-lease.invariant h.0 (c.args.image.now, h.1) h.2 refl),
)

use Rattle.std.proofs.Common.{◌≡◌, ◌≤◌, ℕ, max, refl, ap, sym, subst, ◌∙◌, inl, inr, arith}
use mathlib.Core.Logic.{◌⊎◌}
use Rattle.lr_manifest.specs.Manifest.{ManifestFields}
use Rattle.lr_origin.specs.declared.key.KeyKind.{KeyKind}
use Rattle.lr_roots.specs.View.{View}
use Rattle.lr_roots.specs.Names.{HasNumber, IsManifestAt, number_of}
use Rattle.lr_roots.specs.Catalog.{Seen}
use Rattle.lr_roots.proofs.Ordered.{AreGreaterLeft, listed, greater_start, greater_step, greater_end}
use Rattle.lr_roots.proofs.catalog.Catalog.greatest_number.Goals as goal

pub loop-key-init : goal.loop-key-init
loop-key-init c = (greater_start c.args.self.now.view _ (λ q has. listed c.self.inside.aside c.self.inside.keys c.args.self.now.view _ (ap (λ (s : Seen). s.view) c.self.view_is) (c.into_iter-key-iterator.ensures.into_iter_gives ∙ c.iter-key-items.ensures.list) q has), inr refl)

-- one of the two is the greater
had : (P : ℕ → Type 0) (a b : ℕ) → P a ⊎ (a ≡ 0) → P b ⊎ (b ≡ 0) → P (max a b) ⊎ (max a b ≡ 0)
had P a b p q = by split
  where
    split : (max a b ≡ a) ⊎ (max a b ≡ b)
    split = grind arith

    by : (max a b ≡ a) ⊎ (max a b ≡ b) → P (max a b) ⊎ (max a b ≡ 0)
    by (inl e) = subst (λ n. P n ⊎ (n ≡ 0)) (sym e) p
    by (inr e) = subst (λ n. P n ⊎ (n ≡ 0)) (sym e) q

grows : (a b : ℕ) → a ≤ max a b
grows a b = omega arith

pub loop-key-preserved : goal.loop-key-preserved
loop-key-preserved c =
    let v : View = c.args.self.now.view in
    let n = c.loop-key.greatest in
    let x = c.number_at.result in
    let key : KeyKind = c.in-Some.key.now in
    let own : (m : ManifestFields) → IsManifestAt v key m → number_of m ≤ max n x =
    λ m at. within (number_of m) n x (c.number_at.ensures.same m (subst (λ k. IsManifestAt v k m) (sym c.kind.ensures.same) at)) in
    let both : AreGreaterLeft v (max n x) c.next.new.self × (HasNumber v (max n x) ⊎ (max n x ≡ 0)) = (
      greater_step v _ _ key n (max n x) c.in-Some.ensures.steps (grows n x) own c.loop-key.invariant.0,
      had (HasNumber v) n x c.loop-key.invariant.1 c.number_at.ensures.had,
    ) in
    subst (λ k. AreGreaterLeft v k c.next.new.self × (HasNumber v k ⊎ (k ≡ 0))) (sym c.max-greatest.ensures) both
  where
    within : (m n x : ℕ) → m ≡ x → m ≤ max n x
    within m n x e = omega (arith, e)

pub returns : goal.returns
returns c =
    record {
      above = λ q h. subst (λ k. k ≤ c.loop-key.greatest) h.3 (greater_end c.args.self.now.view _ c.loop-key.greatest c.in-None.ensures.steps.0 c.loop-key.invariant.0 h.0 h.1 h.2);
      had = c.loop-key.invariant.1;
    }

-- What holds of the doubts and the view together holds after each answer to a put or a deletion.
use Rattle.std.proofs.Common.{◌≡◌, ◌≢◌, ℕ, List, Option, Some, None, IsSome, refl, sym, ap, subst, ◌∙◌, inl, inr}
use mathlib.Core.Logic.{◌⊎◌}
use Rattle.std.specs.FinMap as fin
use Rattle.lr_manifest.specs.Manifest.{ManifestFields}
use Rattle.lr_origin.specs.declared.key.KeyKind.{KeyKind}
use Rattle.lr_origin.specs.declared.key.KeyKind.TheVariants.{Deleted, Manifest, Withdrawn}
use Rattle.lr_roots.specs.View.{Held, manifest, Has, Lacks}
use Rattle.lr_roots.specs.Roots.{IsHomed, IsComplete}
use Rattle.lr_roots.specs.Sound.{IsSound}
use Rattle.lr_rules.specs.Known.{Known, Always, Agrees, Serves, IsItemOf, accepted, doubting, removed, dismissed}
use Rattle.lr_rules.proofs.Keys.{cases_key, at_key, at_other, gone_key, gone_other, was_there}
use Rattle.lr_rules.proofs.Outcomes.{not_both, view_settles}
use Rattle.lr_rules.proofs.Sound.{stays, lacked, all_stay, homed_left, whole_left}

pub same_some : {X : Type 0} (a b : X) → Some a ≡ Some b → a ≡ b
same_some a b e = cc

-- a manifest in doubt is in a root that serves, and its chunks are there
abbrev pub AreWhole : Known → Type 0
AreWhole s = (r : ℕ) (image : List ℕ) (m : ManifestFields) → fin.get s.doubts (Manifest r image) ≡ Some (manifest m) → Lacks s.view (Manifest r image) → Always s (λ v. Serves v r) × IsComplete s.view r m

-- an image whose withdrawal is in doubt has a manifest
abbrev pub AreListed : Known → Type 0
AreListed s = (image : List ℕ) → IsSome (fin.get s.doubts (Withdrawn image)) → (q : ℕ) × Has s.view (Manifest q image)

-- a root that serves, and has a manifest in doubt, serves in the other state too
abbrev pub KeepsServing : Known → Known → Type 0
KeepsServing s t = (r : ℕ) (image : List ℕ) (m : ManifestFields) → fin.get s.doubts (Manifest r image) ≡ Some (manifest m) → Always s (λ v. Serves v r) → Always t (λ v. Serves v r)

module _ (s : Known) (k : KeyKind) (x : Held) where
  -- a doubt that is left was there
  still_doubted : (q : KeyKind) (y : Held) → fin.get (fin.remove s.doubts k) q ≡ Some y → (q ≢ k) × (fin.get s.doubts q ≡ Some y)
  still_doubted q y some = elim (cases_key q k) [
    | inl e ↦ absurd (not_both _ y (ap (fin.get (fin.remove s.doubts k)) e ∙ gone_key s.doubts k) some)
    | inr ne ↦ (ne, sym (gone_other s.doubts k q ne) ∙ some)
  ]

  pub still_unsure : (q : KeyKind) → IsSome (fin.get (fin.remove s.doubts k) q) → IsSome (fin.get s.doubts q)
  still_unsure q = was_there s.doubts k q

  -- a doubt is the new one or was there
  new_doubted : (q : KeyKind) (y : Held) → fin.get (fin.insert s.doubts k x) q ≡ Some y → ((q ≡ k) × (x ≡ y)) ⊎ ((q ≢ k) × (fin.get s.doubts q ≡ Some y))
  new_doubted q y some = elim (cases_key q k) [
    | inl e ↦ inl (e, same_some x y (sym (at_key s.doubts k x) ∙ ap (fin.get (fin.insert s.doubts k x)) (sym e) ∙ some))
    | inr ne ↦ inr (ne, sym (at_other s.doubts k x q ne) ∙ some)
  ]

  module _ (agrees : Agrees s) where
    pub accepted_agrees : Agrees (accepted s k x)
    accepted_agrees q y some =
        let old : (q ≢ k) × (fin.get s.doubts q ≡ Some y) = still_doubted q y some in
        elim (agrees q y old.1) [
          | inl away ↦ inl (at_other s.view k x q old.0 ∙ away)
          | inr p ↦ inr (at_other s.view k x q old.0 ∙ p.0, (p.1.0, p.1.1, stays s.view k x (Deleted p.1.0) p.1.2))
        ]

    pub doubting_agrees : Lacks s.view k ⊎ ((fin.get s.view k ≡ Some x) × ((r : ℕ) × IsItemOf r k × Has s.view (Deleted r))) → Agrees (doubting s k x)
    doubting_agrees own q y some = by (new_doubted q y some)
      where
        by : ((q ≡ k) × (x ≡ y)) ⊎ ((q ≢ k) × (fin.get s.doubts q ≡ Some y)) → Lacks s.view q ⊎ ((fin.get s.view q ≡ Some y) × ((r : ℕ) × IsItemOf r q × Has s.view (Deleted r)))
        by (inl e) = subst (λ q. Lacks s.view q ⊎ ((fin.get s.view q ≡ Some y) × ((r : ℕ) × IsItemOf r q × Has s.view (Deleted r)))) (sym e.0) (subst (λ y. Lacks s.view k ⊎ ((fin.get s.view k ≡ Some y) × ((r : ℕ) × IsItemOf r k × Has s.view (Deleted r)))) e.1 own)
        by (inr old) = agrees q y old.1

    pub dismissed_agrees : Agrees (dismissed s k)
    dismissed_agrees q y some = agrees q y (still_doubted q y some).1

    pub removed_agrees : (r : ℕ) → IsItemOf r k → Agrees (removed s k)
    removed_agrees r item q y some =
        let old : (q ≢ k) × (fin.get s.doubts q ≡ Some y) = still_doubted q y some in
        elim (agrees q y old.1) [
          | inl away ↦ inl (gone_other s.view k q old.0 ∙ away)
          | inr p ↦ inr (gone_other s.view k q old.0 ∙ p.0, (p.1.0, p.1.1, subst IsSome (sym (gone_other s.view k (Deleted p.1.0) (λ e. subst (IsItemOf r) (sym e) item))) p.1.2))
        ]

  module _ (whole : AreWhole s) where
    pub accepted_whole : KeepsServing s (accepted s k x) → AreWhole (accepted s k x)
    accepted_whole serving r image m some away =
        let old : (Manifest r image ≢ k) × (fin.get s.doubts (Manifest r image) ≡ Some (manifest m)) = still_doubted (Manifest r image) (manifest m) some in
        let was : Always s (λ v. Serves v r) × IsComplete s.view r m = whole r image m old.1 (lacked s.view k x (Manifest r image) away) in
        (serving r image m old.1 was.0, all_stay s.view k x r m was.1)

    pub doubting_whole : KeepsServing s (doubting s k x) → ((r : ℕ) (image : List ℕ) (m : ManifestFields) → Manifest r image ≡ k → x ≡ manifest m → Lacks s.view (Manifest r image) → Always (doubting s k x) (λ v. Serves v r) × IsComplete s.view r m) → AreWhole (doubting s k x)
    doubting_whole serving own r image m some away = by (new_doubted (Manifest r image) (manifest m) some)
      where
        by : ((Manifest r image ≡ k) × (x ≡ manifest m)) ⊎ ((Manifest r image ≢ k) × (fin.get s.doubts (Manifest r image) ≡ Some (manifest m))) → Always (doubting s k x) (λ v. Serves v r) × IsComplete s.view r m
        by (inl e) = own r image m e.0 e.1 away
        by (inr old) = let was : Always s (λ v. Serves v r) × IsComplete s.view r m = whole r image m old.1 away in (serving r image m old.1 was.0, was.1)

    pub dismissed_whole : KeepsServing s (dismissed s k) → AreWhole (dismissed s k)
    dismissed_whole serving r image m some away =
        let old : (Manifest r image ≢ k) × (fin.get s.doubts (Manifest r image) ≡ Some (manifest m)) = still_doubted (Manifest r image) (manifest m) some in
        let was : Always s (λ v. Serves v r) × IsComplete s.view r m = whole r image m old.1 away in
        (serving r image m old.1 was.0, was.1)

    pub removed_whole : Agrees s → IsSound s.view → (p : ℕ) → IsItemOf p k → Has s.view (Deleted p) → KeepsServing s (removed s k) → AreWhole (removed s k)
    removed_whole agrees sound p item dead serving r image m some away =
        let old : (Manifest r image ≢ k) × (fin.get s.doubts (Manifest r image) ≡ Some (manifest m)) = still_doubted (Manifest r image) (manifest m) some in
        let was : Always s (λ v. Serves v r) × IsComplete s.view r m = whole r image m old.1 (sym (gone_other s.view k (Manifest r image) old.0) ∙ away) in
        let now : Serves s.view r = was.0 s.view (view_settles s agrees) in
        (serving r image m old.1 was.0, whole_left s.view k p sound item dead r m (now.0, now.1) was.1)

  module _ (listed : AreListed s) where
    pub accepted_listed : AreListed (accepted s k x)
    accepted_listed image some = let was : (q : ℕ) × Has s.view (Manifest q image) = listed image (still_unsure (Withdrawn image) some) in (was.0, stays s.view k x (Manifest was.0 image) was.1)

    pub doubting_listed : ((image : List ℕ) → Withdrawn image ≡ k → (q : ℕ) × Has s.view (Manifest q image)) → AreListed (doubting s k x)
    doubting_listed own image some = elim (cases_key (Withdrawn image) k) [
      | inl e ↦ own image e
      | inr ne ↦ listed image (subst IsSome (at_other s.doubts k x (Withdrawn image) ne) some)
    ]

    pub dismissed_listed : AreListed (dismissed s k)
    dismissed_listed image some = listed image (still_unsure (Withdrawn image) some)

    -- the manifest in the image's home stays
    pub removed_listed : Agrees s → IsSound s.view → (p : ℕ) → IsItemOf p k → Has s.view (Deleted p) → AreListed (removed s k)
    removed_listed agrees sound p item dead image some =
        let was : (q : ℕ) × Has s.view (Manifest q image) = listed image (still_unsure (Withdrawn image) some) in
        let homed : IsHomed (fin.remove s.view k) image = homed_left s.view k p sound item dead image (sound.homed image was.0 was.1 (kept (fin.get s.doubts (Withdrawn image)) refl (still_unsure (Withdrawn image) some))) in
        (homed.0, homed.1.listed)
      where
        kept : (o : Option Held) → fin.get s.doubts (Withdrawn image) ≡ o → IsSome o → Lacks s.view (Withdrawn image)
        kept None e has = absurd cc
        kept (Some y) e has = elim (agrees (Withdrawn image) y e) [ inl away ↦ away | inr there ↦ absurd there.1.1 ]

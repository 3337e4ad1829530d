-- An image that is known keeps its manifest while it isn't withdrawn, and has its home where the manifest is.
use Rattle.std.proofs.Common.{◌≡◌, ◌+◌, ℕ, List, Option, Some, None, IsSome, refl, sym, ap, subst, ◌∙◌, inl, inr}
use mathlib.Core.Logic.{◌⊎◌}
use Rattle.std.specs.FinMap as fin
use Rattle.lr_manifest.specs.Manifest.{ManifestFields}
use Rattle.lr_origin.specs.declared.key.KeyKind.{KeyKind}
use Rattle.lr_origin.specs.declared.key.KeyKind.TheVariants.{Root, Expired, Deleted, Chunk, Manifest, Withdrawn}
use Rattle.lr_roots.specs.View.{View, Held, salt, manifest, bare, Lacks}
use Rattle.lr_roots.specs.Roots.{IsHome, IsHomed}
use Rattle.lr_roots.specs.Sound.{IsSound}
use Rattle.lr_rules.specs.Known.{Known, Settles, IsItemOf, accepted, doubting, removed, dismissed}
use Rattle.lr_rules.specs.State.{State, target}
use Rattle.lr_rules.specs.Safe.{IsSafe, Keeps}
use Rattle.lr_rules.specs.Calls.{knows, MaySweep, made, settled_there}
use Rattle.lr_rules.specs.Steps as steps
use Rattle.lr_rules.specs.Steps.{Steps}
use Rattle.lr_rules.proofs.Keys.{cases_key, at_key, at_other, gone_other}
use Rattle.lr_rules.proofs.Outcomes.{not_both, is_some, view_settles}
use Rattle.lr_rules.proofs.Sound.{lacked, homed_left, had_so}
use Rattle.lr_rules.proofs.Facts.{kept_known, manifest_certain}
use Rattle.lr_rules.proofs.Calls.{view_good}
use Rattle.lr_rules.proofs.Manifests.{none_yet}

-- in a sound view all manifests of an image are the one
pub only_manifest : (v : View) (image : List ℕ) (m : ManifestFields) → IsSound v → (a : ℕ) → fin.get v (Manifest a image) ≡ Some (manifest m) → (p : ℕ) → IsSome (fin.get v (Manifest p image)) → fin.get v (Manifest p image) ≡ Some (manifest m)
only_manifest v image m sound a e p has = by (fin.get v (Manifest p image)) refl has
  where
    by : (o : Option Held) → fin.get v (Manifest p image) ≡ o → IsSome o → fin.get v (Manifest p image) ≡ Some (manifest m)
    by None f some = absurd cc
    by (Some y) f some = f ∙ ap Some (sound.one_manifest image p a y (manifest m) f e)

-- what a settled doubt that was there leaves known
pub found_known : (s : State) (k : KeyKind) (x : Held) → (settled_there s k x).known ≡ accepted s.known k x
found_known s (Manifest r image) (manifest m) = refl
found_known s (Manifest r image) (salt b) = refl
found_known s (Manifest r image) bare = refl
found_known s (Root r) x = refl
found_known s (Expired r) x = refl
found_known s (Deleted r) x = refl
found_known s (Chunk r n) x = refl
found_known s (Withdrawn n) x = refl

pub made_keeps : (s : State) (n : ℕ) (image : List ℕ) (r : ℕ) (m : ManifestFields) → Keeps (made s n image r m) image m
made_keeps s n image r m kept = (r, at_key s.known.view (Manifest r image) (manifest m))

pub found_keeps : (s : State) (r : ℕ) (image : List ℕ) (m : ManifestFields) → Keeps (settled_there s (Manifest r image) (manifest m)) image m
found_keeps s r image m kept = (r, at_key s.known.view (Manifest r image) (manifest m))

module _ (s : State) (h : IsSafe s) (image : List ℕ) (m : ManifestFields) (keeps : Keeps s image m) where
  -- In each way out of the doubts, an image that isn't withdrawn has a home that serves, and there is its manifest.
  pub home_of_known : (v : View) → Settles s.known v → Lacks v (Withdrawn image) → (r : ℕ) × IsHome v image r × Lacks v (Expired r) × (fin.get v (Manifest r image) ≡ Some (manifest m))
  home_of_known v t kept =
      let known : Lacks s.known.view (Withdrawn image) = kept_known s.known h.agrees v t image kept in
      let a : (q : ℕ) × (fin.get s.known.view (Manifest q image) ≡ Some (manifest m)) = keeps known in
      let p : IsHomed s.known.view image = (view_good s h).sound.homed image a.0 (is_some _ (manifest m) a.1) known in
      let same : fin.get v (Manifest p.0 image) ≡ fin.get s.known.view (Manifest p.0 image) = t.known (Manifest p.0 image) (manifest_certain s.known h.agrees p.0 image p.1.listed p.1.live.1) in
      let here : fin.get v (Manifest p.0 image) ≡ Some (manifest m) = same ∙ only_manifest s.known.view image m (view_good s h).sound a.0 a.1 p.0 p.1.listed in
      let home : IsHomed v image = (h.good v t).sound.homed image p.0 (is_some _ (manifest m) here) kept in
      (home.0, home.1, home.2, only_manifest v image m (h.good v t).sound p.0 here home.0 home.1.listed)

  pub known_is_homed : Lacks s.known.view (Withdrawn image) → (r : ℕ) × IsHome s.known.view image r × Lacks s.known.view (Expired r) × (fin.get s.known.view (Manifest r image) ≡ Some (manifest m))
  known_is_homed = home_of_known s.known.view (view_settles s.known h.agrees)

  -- a put of a key that wasn't known
  put_keeps : (k : KeyKind) (x : Held) → ((q : ℕ) → Manifest q image ≡ k → Lacks s.known.view k) → (t : State) → t.known.view ≡ fin.insert s.known.view k x → Keeps t image m
  put_keeps k x new t e = subst (λ v. Lacks v (Withdrawn image) → (q : ℕ) × (fin.get v (Manifest q image) ≡ Some (manifest m))) (sym e) by
    where
      by : Lacks (fin.insert s.known.view k x) (Withdrawn image) → (q : ℕ) × (fin.get (fin.insert s.known.view k x) (Manifest q image) ≡ Some (manifest m))
      by kept =
          let a : (q : ℕ) × (fin.get s.known.view (Manifest q image) ≡ Some (manifest m)) = keeps (lacked s.known.view k x (Withdrawn image) kept) in
          elim (cases_key (Manifest a.0 image) k) [
            | inl f ↦ absurd (not_both _ (manifest m) (ap (fin.get s.known.view) f ∙ new a.0 f) a.1)
            | inr ne ↦ (a.0, at_other s.known.view k x (Manifest a.0 image) ne ∙ a.1)
          ]

  same_keeps : (t : State) → t.known.view ≡ s.known.view → Keeps t image m
  same_keeps t e = subst (λ v. Lacks v (Withdrawn image) → (q : ℕ) × (fin.get v (Manifest q image) ≡ Some (manifest m))) (sym e) keeps

  -- of a sweep the manifest in the image's home stays
  swept_keeps : (r : ℕ) (k : KeyKind) (x : Held) → MaySweep s r k x → Lacks (fin.remove s.known.view k) (Withdrawn image) → (q : ℕ) × (fin.get (fin.remove s.known.view k) (Manifest q image) ≡ Some (manifest m))
  swept_keeps r k x may kept =
      let sound : IsSound s.known.view = (view_good s h).sound in
      let known : Lacks s.known.view (Withdrawn image) = sym (gone_other s.known.view k (Withdrawn image) (λ f. subst (IsItemOf r) (sym f) may.item)) ∙ kept in
      let a : (q : ℕ) × (fin.get s.known.view (Manifest q image) ≡ Some (manifest m)) = keeps known in
      let home : IsHomed (fin.remove s.known.view k) image = homed_left s.known.view k r sound may.item may.dead image (sound.homed image a.0 (is_some _ (manifest m) a.1) known) in
      (home.0, left home.0 a.0 a.1 (fin.get (fin.remove s.known.view k) (Manifest home.0 image)) refl home.1.listed)
    where
      left : (p a : ℕ) → fin.get s.known.view (Manifest a image) ≡ Some (manifest m) → (o : Option Held) → fin.get (fin.remove s.known.view k) (Manifest p image) ≡ o → IsSome o → fin.get (fin.remove s.known.view k) (Manifest p image) ≡ Some (manifest m)
      left p a e None f has = absurd cc
      left p a e (Some y) f has = f ∙ ap Some ((view_good s h).sound.one_manifest image p a y (manifest m) (had_so s.known.view k r (view_good s h).sound may.item may.dead (Manifest p image) y f) e)

  either : (t a b : State) → Keeps a image m → Keeps b image m → (t ≡ a) ⊎ (t ≡ b) → Keeps t image m
  either t a b x y (inl e) = subst (λ t. Keeps t image m) (sym e) x
  either t a b x y (inr e) = subst (λ t. Keeps t image m) (sym e) y

  -- a put of a key that wasn't known, or its doubt
  added : (k : KeyKind) (x : Held) → ((q : ℕ) → Manifest q image ≡ k → Lacks s.known.view k) → (t a b : State) → a.known.view ≡ fin.insert s.known.view k x → b.known.view ≡ s.known.view → (t ≡ a) ⊎ (t ≡ b) → Keeps t image m
  added k x new t a b e f = either t a b (put_keeps k x new a e) (same_keeps b f)

  stepped : (t : State) → Steps s t → Keeps t image m
  stepped t (steps.Rotates n bytes may e) = added (Root (n + 1)) (salt bytes) (λ q f. absurd cc) t _ _ refl refl e
  stepped t (steps.PutsChunk n c j name may e) = added (Chunk (target j) name) bare (λ q f. absurd cc) t _ _ refl refl e
  stepped t (steps.Makes n c i r d p may e) = added (Manifest r i) (manifest p) (λ q f. h.fresh n c i r d may.session) t _ _ refl refl e
  stepped t (steps.FinishesMove n c i from to p may e) = added (Manifest to i) (manifest p) (λ q f. none_yet s h n c i from to p may) t _ _ refl refl e
  stepped t (steps.Withdraws i may e) = added (Withdrawn i) bare (λ q f. absurd cc) t _ _ refl refl e
  stepped t (steps.Expires r may e) = added (Expired r) bare (λ q f. absurd cc) t _ _ refl refl e
  stepped t (steps.Deletes r may e) = added (Deleted r) bare (λ q f. absurd cc) t _ _ refl refl e
  stepped t (steps.Sweeps r k x may e) = either t (knows s (removed s.known k)) (knows s (doubting s.known k x)) (swept_keeps r k x may) (same_keeps (knows s (doubting s.known k x)) refl) e
  stepped t (steps.Settles k x may e) = added k x (λ q f. may.absent) t (settled_there s k x) (knows s (dismissed s.known k)) (ap (λ (a : Known). a.view) (found_known s k x)) refl e
  stepped t (steps.Opens i r p may e) = same_keeps t (ap (λ (a : State). a.known.view) e)
  stepped t (steps.BeginsCreate c i r may e) = same_keeps t (ap (λ (a : State). a.known.view) e)
  stepped t (steps.BeginsMove c i from to p may e) = same_keeps t (ap (λ (a : State). a.known.view) e)
  stepped t (steps.Ends d less e) = same_keeps t (ap (λ (a : State). a.known.view) e)

pub step_keeps : (s : State) → IsSafe s → (t : State) → Steps s t → (image : List ℕ) (m : ManifestFields) → Keeps s image m → Keeps t image m
step_keeps s h t step image m keeps = stepped s h image m keeps t step

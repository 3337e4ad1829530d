-- A safe depot has each part of its promise, in its view.
use Rattle.std.proofs.Common.{◌≡◌, ◌≢◌, ◌<◌, ℕ, List, Option, Some, None, IsSome, refl, sym, ap, subst, ◌∙◌, inl, inr}
use mathlib.Core.Logic.{◌⊎◌}
use Rattle.std.specs.FinMap as fin
use Rattle.lr_manifest.specs.Manifest.{ManifestFields}
use Rattle.lr_origin.specs.declared.key.KeyKind.{KeyKind}
use Rattle.lr_origin.specs.declared.key.KeyKind.TheVariants.{Expired, Deleted, Manifest}
use Rattle.lr_roots.specs.View.{View, Held, salt, manifest, bare, Has, Lacks}
use Rattle.lr_roots.specs.Roots.{IsHome, IsHomed}
use Rattle.lr_roots.specs.Names.{number_of}
use Rattle.lr_rules.specs.Known.{Settles, Serves, IsItemOf}
use Rattle.lr_rules.specs.State.{Job, Creates, Moves, State, IsRootOf}
use Rattle.lr_rules.specs.Safe.{Works, IsGood, IsSafe}
use Rattle.lr_rules.specs.Parts.{IsOwedInView, IsFree, HasParts}
use Rattle.lr_rules.proofs.Keys.{no_some, cases_key, at_key, at_other}
use Rattle.lr_rules.proofs.Outcomes.{not_both, view_settles, with_settles, one_settles}
use Rattle.lr_rules.proofs.Sound.{there, home_stays}
use Rattle.lr_rules.proofs.Facts.{home_unique, home_serves}
use Rattle.lr_rules.proofs.Doubts.{same_some}
use Rattle.lr_rules.proofs.Calls.{all_sound, view_good}
use Rattle.lr_rules.proofs.Manifests.{doubt_suits}

-- a session's roots serve
root_serves : (v : View) (j : Job) (r : ℕ) → Works v j → IsRootOf j r → Serves v r
root_serves v (Creates image q d) r w e = subst (Serves v) e w.0
root_serves v (Moves image from to m) r w (inl e) = subst (Serves v) e w.0
root_serves v (Moves image from to m) r w (inr e) = subst (Serves v) e w.1

some_of : {X : Type 0} (o : Option X) → IsSome o → (x : X) × (o ≡ Some x)
some_of None some = absurd cc
some_of (Some x) some = (x, refl)

module _ (s : State) (h : IsSafe s) where
  -- a root that is expired in one way out
  module _ (r : ℕ) (x : Held) (here : fin.get s.known.doubts (Expired r) ≡ Some x) where
    abbrev gone : View
    gone = fin.insert s.known.view (Expired r) x

    gone_settles : Settles s.known gone
    gone_settles = one_settles s.known (Expired r) x h.agrees here

    gone_good : IsGood s.desk gone
    gone_good = h.good gone gone_settles

    gone_serves : Serves gone r → ⊥
    gone_serves w = no_some _ w.2 (there s.known.view (Expired r) x)

    unsure : (image : List ℕ) (y : Held) → fin.get s.known.doubts (Manifest r image) ≡ Some y → Lacks s.known.view (Manifest r image) → ⊥
    unsure image (manifest m) e away = gone_serves ((h.doubted r image m e away).0 gone gone_settles)
    unsure image (salt b) e away = doubt_suits s h (Manifest r image) (salt b) e
    unsure image bare e away = doubt_suits s h (Manifest r image) bare e

    unowed : (image : List ℕ) → IsOwedInView s image → IsHome s.known.view image r → ⊥
    unowed image (inl o) home = gone_serves (home_serves s.known h.agrees (all_sound s h) image r home o.0 gone gone_settles)
    unowed image (inr o) home =
        let moved : IsHome gone image r = home_stays s.known.view (Expired r) x (view_good s h).sound image r (λ e. cc) (λ q more e. cc) home in
        let homed : IsHomed gone image = (gone_good.leased o.0 image o.1 o.2).0 in
        no_some _ homed.2 (subst (λ q. Has gone (Expired q)) (sym (home_unique gone image homed.0 r homed.1 moved)) (there s.known.view (Expired r) x))

    free : IsFree s r
    free = record {
      unused = λ n j e of. gone_serves (root_serves gone j.job r (gone_good.works n j e) of);
      sure = λ image some away. let y : (y : Held) × (fin.get s.known.doubts (Manifest r image) ≡ Some y) = some_of _ some in unsure image y.0 y.1 away;
      unowed = unowed;
    }

  homed : (image : List ℕ) → IsOwedInView s image → IsHomed s.known.view image
  homed image (inl o) = (view_good s h).sound.homed image o.1.0 o.1.1 o.0
  homed image (inr o) = ((view_good s h).leased o.0 image o.1 o.2).0

  deletions : (k : KeyKind) (y : Held) → fin.get s.known.doubts k ≡ Some y → Has s.known.view k → (r : ℕ) × IsItemOf r k × Has s.known.view (Deleted r)
  deletions k y e has = elim (h.agrees k y e) [ inl away ↦ absurd (no_some _ away has) | inr there ↦ there.1 ]

  -- what is known of a key and what is in doubt of it is the same
  same_doubted : (k : KeyKind) (x y : Held) → fin.get s.known.view k ≡ Some x → fin.get s.known.doubts k ≡ Some y → x ≡ y
  same_doubted k x y a b = elim (h.agrees k y b) [ inl away ↦ absurd (not_both _ x away a) | inr there ↦ same_some x y (sym a ∙ there.0) ]

  -- a way out that has the one, and the other in doubt
  one_more : (v : View) → Settles s.known v → (image : List ℕ) (q r : ℕ) (x y : Held) → fin.get v (Manifest q image) ≡ Some x → fin.get s.known.doubts (Manifest r image) ≡ Some y → Manifest q image ≢ Manifest r image → x ≡ y
  one_more v t image q r x y a b ne =
      (all_sound s h _ (with_settles s.known v (Manifest r image) y b t)).one_manifest image q r x y (at_other v (Manifest r image) y (Manifest q image) ne ∙ a) (at_key v (Manifest r image) y)

  known_doubted : (image : List ℕ) (q r : ℕ) (x y : Held) → fin.get s.known.view (Manifest q image) ≡ Some x → fin.get s.known.doubts (Manifest r image) ≡ Some y → x ≡ y
  known_doubted image q r x y a b = elim (cases_key (Manifest q image) (Manifest r image)) [
    | inl e ↦ same_doubted (Manifest r image) x y (ap (fin.get s.known.view) (sym e) ∙ a) b
    | inr ne ↦ one_more s.known.view (view_settles s.known h.agrees) image q r x y a b ne
  ]

  both_doubted : (image : List ℕ) (q r : ℕ) (x y : Held) → fin.get s.known.doubts (Manifest q image) ≡ Some x → fin.get s.known.doubts (Manifest r image) ≡ Some y → x ≡ y
  both_doubted image q r x y a b = elim (cases_key (Manifest q image) (Manifest r image)) [
    | inl e ↦ same_some x y (sym a ∙ ap (fin.get s.known.doubts) e ∙ b)
    | inr ne ↦ one_more (fin.insert s.known.view (Manifest q image) x) (one_settles s.known (Manifest q image) x h.agrees a) image q r x y (at_key s.known.view (Manifest q image) x) b ne
  ]

  equal : (image : List ℕ) (q r : ℕ) (x y : Held) → (fin.get s.known.view (Manifest q image) ≡ Some x) ⊎ (fin.get s.known.doubts (Manifest q image) ≡ Some x) → (fin.get s.known.view (Manifest r image) ≡ Some y) ⊎ (fin.get s.known.doubts (Manifest r image) ≡ Some y) → x ≡ y
  equal image q r x y (inl a) (inl b) = (view_good s h).sound.one_manifest image q r x y a b
  equal image q r x y (inl a) (inr b) = known_doubted image q r x y a b
  equal image q r x y (inr a) (inl b) = sym (known_doubted image r q y x b a)
  equal image q r x y (inr a) (inr b) = both_doubted image q r x y a b

  numbers : (r : ℕ) (image : List ℕ) (m : ManifestFields) → (fin.get s.known.view (Manifest r image) ≡ Some (manifest m)) ⊎ (fin.get s.known.doubts (Manifest r image) ≡ Some (manifest m)) → number_of m < s.desk.next_number
  numbers r image m (inl e) = (view_good s h).numbered r image m e
  numbers r image m (inr e) = (h.good _ (one_settles s.known (Manifest r image) (manifest m) h.agrees e)).numbered r image m (at_key s.known.view (Manifest r image) (manifest m))

  pub safe_parts : HasParts s
  safe_parts = record {
    sound = (view_good s h).sound;
    homed = homed;
    sessions = λ n j r e of. root_serves s.known.view j.job r ((view_good s h).works n j e) of;
    manifests = λ r image m e away. let w = h.doubted r image m e away in (w.0 s.known.view (view_settles s.known h.agrees), w.1);
    expiring = λ r some. let y : (y : Held) × (fin.get s.known.doubts (Expired r) ≡ Some y) = some_of _ some in free r y.0 y.1;
    deletions = λ k some has. let y : (y : Held) × (fin.get s.known.doubts k ≡ Some y) = some_of _ some in deletions k y.0 y.1 has;
    equal = equal;
    numbers = numbers;
    drawn = λ n c image r d j. (h.drawn n c image r d j).1;
  }

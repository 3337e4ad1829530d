-- Each put that the depot makes keeps one way out of the doubts good, and each deletion does.
use Rattle.std.proofs.Common.{◌≡◌, ◌≢◌, ◌<◌, ◌+◌, ℕ, List, Option, Some, None, IsSome, refl, sym, ap, subst, ◌∙◌, inl, inr}
use mathlib.Core.Logic.{◌⊎◌}
use Rattle.std.specs.FinMap as fin
use Rattle.lr_manifest.specs.Manifest.{ManifestFields}
use Rattle.lr_origin.specs.Text.{IsKind}
use Rattle.lr_origin.specs.declared.key.KeyKind.{KeyKind}
use Rattle.lr_origin.specs.declared.key.KeyKind.TheVariants.{Root, Expired, Deleted, Chunk, Manifest, Withdrawn}
use Rattle.lr_roots.specs.View.{View, Held, salt, manifest, bare, Has, Lacks}
use Rattle.lr_roots.specs.Roots.{RootsAre, IsHome, IsHomed, IsComplete}
use Rattle.lr_roots.specs.Names.{number_of}
use Rattle.lr_roots.specs.Sound.{Suits, IsSound}
use Rattle.lr_rules.specs.Known.{Serves, IsItemOf}
use Rattle.lr_rules.specs.State.{Job, Creates, Moves, Session, Desk, Less, IsRootOf}
use Rattle.lr_rules.specs.Safe.{Works, IsLeased, IsGood}
use Rattle.lr_rules.proofs.Keys.{no_some, cases_key, at_key, at_other, gone_other}
use Rattle.lr_rules.proofs.Sound.{split, got, still_serves, homed_stays, root_sound, chunk_sound, withdrawn_sound, deleted_sound, expired_sound, manifest_sound, keeps_homed, removed_sound, homed_left, had, had_so, serves_left}

-- fewer leases and sessions
pub less_good : (d e : Desk) (v : View) → Less d e → IsGood d v → IsGood e v
less_good d e v l g = record {
  sound = g.sound;
  leased = λ n image m h. g.leased n image m (l.leases n (image, m) h);
  works = λ n j h. g.works n j (l.sessions n j h);
  numbered = λ r image m h. subst (λ a. number_of m < a) (sym l.next_number) (g.numbered r image m h);
}

-- a put of a key that is no manifest
module _ (d : Desk) (v : View) (k : KeyKind) (x : Held) (g : IsGood d v) (sound : IsSound (fin.insert v k x)) (none : (r : ℕ) (n : List ℕ) → Manifest r n ≢ k)
    (away : (n : ℕ) (image : List ℕ) (m : ManifestFields) → fin.get d.leases n ≡ Some (image, m) → (h : IsHomed v image) → (Deleted h.0 ≢ k) × (Expired h.0 ≢ k))
    (free : (n : ℕ) (j : Session) (r : ℕ) → fin.get d.sessions n ≡ Some j → IsRootOf j.job r → Serves v r → (Deleted r ≢ k) × (Expired r ≢ k)) where
  same_manifest : (r : ℕ) (i : List ℕ) → fin.get (fin.insert v k x) (Manifest r i) ≡ fin.get v (Manifest r i)
  same_manifest r i = at_other v k x (Manifest r i) (none r i)

  pub plain_good : IsGood d (fin.insert v k x)
  plain_good = record {
    sound = sound;
    leased = λ n image m h.
        let old : IsLeased v image m = g.leased n image m h in
        let a : (Deleted old.0.0 ≢ k) × (Expired old.0.0 ≢ k) = away n image m h old.0 in
        (homed_stays v k x g.sound image old.0 a.0 a.1 (λ q more. none q image), λ q y e. old.1 q y (sym (same_manifest q image) ∙ e));
    works = λ n j h. works n j h j.job refl (g.works n j h);
    numbered = λ r image m h. g.numbered r image m (sym (same_manifest r image) ∙ h);
  }
    where
      one : (n : ℕ) (j : Session) → fin.get d.sessions n ≡ Some j → (r : ℕ) → IsRootOf j.job r → Serves v r → Serves (fin.insert v k x) r
      one n j h r of s = let f : (Deleted r ≢ k) × (Expired r ≢ k) = free n j r h of s in still_serves v k x r f.0 f.1 s

      works : (n : ℕ) (j : Session) → fin.get d.sessions n ≡ Some j → (b : Job) → j.job ≡ b → Works v b → Works (fin.insert v k x) b
      works n j h (Creates image r c) e w = (one n j h r (subst (λ b. IsRootOf b r) (sym e) refl) w.0, λ q has. w.1 q (subst IsSome (same_manifest q image) has))
      works n j h (Moves image from to m) e w = (one n j h from (subst (λ b. IsRootOf b from) (sym e) (inl refl)) w.0, one n j h to (subst (λ b. IsRootOf b to) (sym e) (inr refl)) w.1, same_manifest from image ∙ w.2, w.3)

module _ (d : Desk) (v : View) (g : IsGood d v) where
  pub root_good : (n : ℕ) (bytes : List ℕ) → Suits (Root (n + 1)) (salt bytes) → n < 1000 → RootsAre v n → IsGood d (fin.insert v (Root (n + 1)) (salt bytes))
  root_good n bytes fits few roots = plain_good d v (Root (n + 1)) (salt bytes) g (root_sound v n bytes fits few g.sound roots) (λ r i e. cc) (λ n i m h a. (λ e. cc, λ e. cc)) (λ n j r h of s. (λ e. cc, λ e. cc))

  pub chunk_good : (r : ℕ) (name : List ℕ) → IsKind (Chunk r name) → Has v (Root r) → IsGood d (fin.insert v (Chunk r name) bare)
  chunk_good r name kind root = plain_good d v (Chunk r name) bare g (chunk_sound v r name kind g.sound root) (λ r i e. cc) (λ n i m h a. (λ e. cc, λ e. cc)) (λ n j r h of s. (λ e. cc, λ e. cc))

  pub withdrawn_good : (image : List ℕ) → IsKind (Withdrawn image) → IsGood d (fin.insert v (Withdrawn image) bare)
  withdrawn_good image kind = plain_good d v (Withdrawn image) bare g (withdrawn_sound v image kind g.sound) (λ r i e. cc) (λ n i m h a. (λ e. cc, λ e. cc)) (λ n j r h of s. (λ e. cc, λ e. cc))

  pub deleted_good : (r : ℕ) → Has v (Root r) → Has v (Expired r) → IsGood d (fin.insert v (Deleted r) bare)
  deleted_good r root expired = plain_good d v (Deleted r) bare g (deleted_sound v r g.sound root expired) (λ r i e. cc)
      (λ n i m h a. (λ e. clash a.0 a.2 cc, λ e. cc)) (λ n j q h of s. (λ e. clash q s.2 cc, λ e. cc))
    where
      clash : (q : ℕ) → Lacks v (Expired q) → q ≡ r → ⊥
      clash q none e = no_some _ none (subst (λ q. Has v (Expired q)) (sym e) expired)

  -- no image that isn't withdrawn, and no leased one, has its home there, and no session rests on it
  pub expired_good : (r : ℕ) → Has v (Root r) → Has v (Root (r + 1)) → ((image : List ℕ) → Lacks v (Withdrawn image) → IsHome v image r → ⊥)
      → ((n : ℕ) (image : List ℕ) (m : ManifestFields) → fin.get d.leases n ≡ Some (image, m) → IsHome v image r → ⊥)
      → ((n : ℕ) (j : Session) → fin.get d.sessions n ≡ Some j → IsRootOf j.job r → ⊥)
      → IsGood d (fin.insert v (Expired r) bare)
  expired_good r root next free leases sessions = plain_good d v (Expired r) bare g (expired_sound v r g.sound root next free) (λ r i e. cc)
      (λ n i m h a. (λ e. cc, λ e. let f : a.0 ≡ r = cc in leases n i m h (subst (IsHome v i) f a.1)))
      (λ n j q h of s. (λ e. cc, λ e. let f : q ≡ r = cc in sessions n j h (subst (IsRootOf j.job) f of)))

  -- a manifest
  pub manifest_good : (r : ℕ) (image : List ℕ) (m : ManifestFields) → IsKind (Manifest r image) → Serves v r → IsComplete v r m → ((q : ℕ) (y : Held) → fin.get v (Manifest q image) ≡ Some y → y ≡ manifest m)
      → Suits (Manifest r image) (manifest m) → number_of m < d.next_number
      → ((q : ℕ) → Has v (Manifest q image) → ⊥) ⊎ ((q : ℕ) × Has v (Manifest q image))
      → ((n c : ℕ) (q e : ℕ) → fin.get d.sessions n ≡ Some (record { caller = c; job = Creates image q e }) → q ≡ r)
      → IsGood d (fin.insert v (Manifest r image) (manifest m))
  manifest_good r image m kind serves whole same fits below old own = record {
    sound = manifest_sound v r image m g.sound serves whole same kind fits old;
    leased = λ n i p h.
        let l : IsLeased v i p = g.leased n i p h in (
          keeps_homed v r image m g.sound serves whole same i l.0,
          λ q y e. elim (got v (Manifest r image) (manifest m) (Manifest q i) y e) [
            | inl f ↦ sym f.1 ∙ lent i p l f.0
            | inr o ↦ l.1 q y o
          ],
        );
    works = λ n j h. works n j h j.caller j.job refl (g.works n j h);
    numbered = λ q i p h. elim (got v (Manifest r image) (manifest m) (Manifest q i) (manifest p) h) [ inl f ↦ let e : m ≡ p = same_fields m p f.1 in subst (λ p. number_of p < d.next_number) e below | inr o ↦ g.numbered q i p o ];
  }
    where
      same_fields : (m p : ManifestFields) → manifest m ≡ manifest p → m ≡ p
      same_fields m p e = cc

      lent : {q : ℕ} (i : List ℕ) (p : ManifestFields) → IsLeased v i p → Manifest q i ≡ Manifest r image → manifest m ≡ manifest p
      lent i p l e = by (fin.get v (Manifest l.0.0 i)) refl l.0.1.listed
        where
          by : (o : Option Held) → fin.get v (Manifest l.0.0 i) ≡ o → IsSome o → manifest m ≡ manifest p
          by None f has = absurd cc
          by (Some y) f has = let g : i ≡ image = cc in sym (same l.0.0 y (subst (λ i. fin.get v (Manifest l.0.0 i) ≡ Some y) g f)) ∙ l.1 l.0.0 y f

      one : (q : ℕ) → Serves v q → Serves (fin.insert v (Manifest r image) (manifest m)) q
      one q s = still_serves v (Manifest r image) (manifest m) q (λ e. cc) (λ e. cc) s

      works : (n : ℕ) (j : Session) → fin.get d.sessions n ≡ Some j → (c : ℕ) (b : Job) → j ≡ record { caller = j.caller; job = b } → Works v b → Works (fin.insert v (Manifest r image) (manifest m)) b
      works n j h c (Creates i q a) e w = (
        one q w.0,
        λ p has. elim (split v (Manifest r image) (manifest m) (Manifest p i) has) [
          | inl f ↦ let g : i ≡ image = cc in let k : p ≡ r = cc in k ∙ sym (own n j.caller q a (h ∙ ap Some e ∙ ap (λ i. Some (record { caller = j.caller; job = Creates i q a })) g))
          | inr o ↦ w.1 p o
        ],
      )
      works n j h c (Moves i from to p) e w = (one from w.0, one to w.1, moved (cases_key (Manifest from i) (Manifest r image)), w.3)
        where
          moved : (Manifest from i ≡ Manifest r image) ⊎ (Manifest from i ≢ Manifest r image) → fin.get (fin.insert v (Manifest r image) (manifest m)) (Manifest from i) ≡ Some (manifest p)
          moved (inl f) = let g : i ≡ image = cc in ap (fin.get (fin.insert v (Manifest r image) (manifest m))) f ∙ at_key v (Manifest r image) (manifest m) ∙ ap Some (sym (same from (manifest p) (subst (λ i. fin.get v (Manifest from i) ≡ Some (manifest p)) g w.2)))
          moved (inr ne) = at_other v (Manifest r image) (manifest m) (Manifest from i) ne ∙ w.2

  -- a chunk or a manifest of a deleted root goes
  pub removed_good : (k : KeyKind) (r : ℕ) → IsItemOf r k → Has v (Deleted r) → IsGood d (fin.remove v k)
  removed_good k r item dead = record {
    sound = removed_sound v k r g.sound item dead;
    leased = λ n i m h. let l : IsLeased v i m = g.leased n i m h in (homed_left v k r g.sound item dead i l.0, λ q y e. l.1 q y (had_so v k r g.sound item dead (Manifest q i) y e));
    works = λ n j h. works j.job (g.works n j h);
    numbered = λ q i m h. g.numbered q i m (had_so v k r g.sound item dead (Manifest q i) (manifest m) h);
  }
    where
      one : (q : ℕ) → Serves v q → Serves (fin.remove v k) q
      one = serves_left v k r g.sound item dead

      works : (b : Job) → Works v b → Works (fin.remove v k) b
      works (Creates i q a) w = (one q w.0, λ p has. w.1 p (had v k r g.sound item dead (Manifest p i) has))
      works (Moves i from to p) w = (one from w.0, one to w.1, gone_other v k (Manifest from i) (kept k item) ∙ w.2, w.3)
        where
          kept : (k : KeyKind) → IsItemOf r k → Manifest from i ≢ k
          kept k item e = let f : from ≡ r = subst (IsItemOf r) (sym e) item in no_some _ w.0.1 (subst (λ q. Has v (Deleted q)) (sym f) dead)

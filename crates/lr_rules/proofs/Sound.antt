-- Each put that the depot makes keeps a view sound, and each deletion does.
use Rattle.std.proofs.Common.{◌≡◌, ◌≢◌, ◌≤◌, ◌<◌, ◌+◌, ℕ, List, Option, Some, None, IsSome, refl, sym, ap, subst, ◌∙◌, inl, inr, arith, get_or}
use mathlib.Core.Logic.{◌⊎◌}
use Rattle.std.specs.FinMap as fin
use Rattle.lr_manifest.specs.Manifest.{ManifestFields}
use Rattle.lr_origin.specs.Text.{IsKind}
use Rattle.lr_origin.specs.declared.key.KeyKind.{KeyKind}
use Rattle.lr_origin.specs.declared.key.KeyKind.TheVariants.{Root, Expired, Deleted, Chunk, Manifest, Withdrawn}
use Rattle.lr_roots.specs.View.{View, Held, salt, manifest, bare, Has, Lacks}
use Rattle.lr_roots.specs.Roots.{RootsAre, IsLive, IsHome, IsHomed, IsComplete}
use Rattle.lr_roots.specs.Sound.{Suits, IsSound, root_of}
use Rattle.lr_rules.specs.Known.{Serves, IsItemOf}
use Rattle.lr_rules.proofs.Keys.{no_some, cases_key, cases_image, at_key, at_other, gone_key, gone_other}
use Rattle.lr_rules.proofs.Outcomes.{is_none, not_both, is_some}

-- a manifest is under a root that is there
pub under_root : (v : View) → IsSound v → (k : KeyKind) (r : ℕ) → Has v k → root_of k ≡ Some r → 1 ≤ r → Has v (Root r)
under_root v s k r h e low = s.no_gaps k r r h e low (omega arith)

pub from_one : (v : View) → IsSound v → (r : ℕ) (n : List ℕ) → Has v (Manifest r n) → 1 ≤ r
from_one v s r n h = let k : IsKind (Manifest r n) = s.keys (Manifest r n) h in k.0.0

pub listed_root : (v : View) → IsSound v → (r : ℕ) (n : List ℕ) → Has v (Manifest r n) → Has v (Root r)
listed_root v s r n h = under_root v s (Manifest r n) r h refl (from_one v s r n h)

pub lacks_if : (v : View) (k : KeyKind) → (Has v k → ⊥) → Lacks v k
lacks_if v k none = is_none (fin.get v k) none

pub lacks_or_has : (v : View) (k : KeyKind) → Lacks v k ⊎ Has v k
lacks_or_has v k = by (fin.get v k)
  where
    by : (o : Option Held) → (o ≡ None) ⊎ IsSome o
    by None = inl refl
    by (Some x) = inr refl

module _ (v : View) (k : KeyKind) (x : Held) where
  pub there : Has (fin.insert v k x) k
  there = subst IsSome (sym (at_key v k x)) refl

  -- what was there is there
  pub stays : (q : KeyKind) → Has v q → Has (fin.insert v k x) q
  stays q h = elim (cases_key q k) [ inl e ↦ subst (Has (fin.insert v k x)) (sym e) there | inr ne ↦ subst IsSome (sym (at_other v k x q ne)) h ]

  pub split : (q : KeyKind) → Has (fin.insert v k x) q → (q ≡ k) ⊎ Has v q
  split q h = elim (cases_key q k) [ inl e ↦ inl e | inr ne ↦ inr (subst IsSome (at_other v k x q ne) h) ]

  -- what isn't there wasn't there
  pub lacked : (q : KeyKind) → Lacks (fin.insert v k x) q → Lacks v q
  lacked q h = elim (cases_key q k) [ inl e ↦ absurd (no_some _ h (subst (Has (fin.insert v k x)) (sym e) there)) | inr ne ↦ sym (at_other v k x q ne) ∙ h ]

  pub lacks : (q : KeyKind) → q ≢ k → Lacks v q → Lacks (fin.insert v k x) q
  lacks q ne h = at_other v k x q ne ∙ h

  pub got : (q : KeyKind) (y : Held) → fin.get (fin.insert v k x) q ≡ Some y → ((q ≡ k) × (x ≡ y)) ⊎ (fin.get v q ≡ Some y)
  got q y h = elim (cases_key q k) [ inl e ↦ let f : Some x ≡ Some y = sym (at_key v k x) ∙ ap (fin.get (fin.insert v k x)) (sym e) ∙ h in inl (e, cc) | inr ne ↦ inr (sym (at_other v k x q ne) ∙ h) ]

  pub was_live : (r : ℕ) → Has v (Root r) → IsLive (fin.insert v k x) r → IsLive v r
  was_live r root h = (root, lacked (Deleted r) h.1)

  pub still_live : (r : ℕ) → Deleted r ≢ k → IsLive v r → IsLive (fin.insert v k x) r
  still_live r ne h = (stays (Root r) h.0, lacks (Deleted r) ne h.1)

  pub still_serves : (r : ℕ) → Deleted r ≢ k → Expired r ≢ k → Serves v r → Serves (fin.insert v k x) r
  still_serves r ne me h = (stays (Root r) h.0, lacks (Deleted r) ne h.1, lacks (Expired r) me h.2)

  pub all_stay : (r : ℕ) (m : ManifestFields) → IsComplete v r m → IsComplete (fin.insert v k x) r m
  all_stay r m all = λ i d below. stays (Chunk r (get_or m.names i d).bytes) (all i d below)

-- What a put has to meet.
pub record MayAdd (v : View) (k : KeyKind) (x : Held) : Type 0 where
  pub key : IsKind k
  pub fits : Suits k x
  pub below : (r q : ℕ) → root_of k ≡ Some r → 1 ≤ q → q ≤ r → Has (fin.insert v k x) (Root q)
  pub deleted : (r : ℕ) → Deleted r ≡ k → Has v (Expired r)
  pub expired : (r : ℕ) → Expired r ≡ k → Has v (Root (r + 1))
  pub listed : (r : ℕ) (n : List ℕ) → Manifest r n ≡ k → ((m : ManifestFields) → x ≡ manifest m → IsComplete v r m) × ((q : ℕ) (y : Held) → fin.get v (Manifest q n) ≡ Some y → y ≡ x)

module _ (v : View) (k : KeyKind) (x : Held) (s : IsSound v) where
  -- the home stays
  pub home_stays : (image : List ℕ) (r : ℕ) → Deleted r ≢ k → ((q : ℕ) → r < q → Manifest q image ≢ k) → IsHome v image r → IsHome (fin.insert v k x) image r
  home_stays image r mark above h = record {
    live = still_live v k x r mark h.live;
    listed = stays v k x (Manifest r image) h.listed;
    greatest = λ q more live. lacks_if (fin.insert v k x) (Manifest q image) (λ listed. elim (split v k x (Manifest q image) listed) [
      | inl e ↦ above q more e
      | inr old ↦ no_some _ (h.greatest q more (was_live v k x q (listed_root v s q image old) live)) old
    ]);
  }

  pub homed_stays : (image : List ℕ) (h : IsHomed v image) → Deleted h.0 ≢ k → Expired h.0 ≢ k → ((q : ℕ) → h.0 < q → Manifest q image ≢ k) → IsHomed (fin.insert v k x) image
  homed_stays image h d e above = (h.0, home_stays image h.0 d above h.1, lacks v k x (Expired h.0) e h.2)

  pub put_sound : MayAdd v k x → ((image : List ℕ) (r : ℕ) → Has (fin.insert v k x) (Manifest r image) → Lacks v (Withdrawn image) → IsHomed (fin.insert v k x) image) → IsSound (fin.insert v k x)
  put_sound may homes = record {
    keys = λ q h. elim (split v k x q h) [ inl e ↦ subst IsKind (sym e) may.key | inr old ↦ s.keys q old ];
    fits = λ q y h. elim (got v k x q y h) [ inl e ↦ subst (λ q. Suits q y) (sym e.0) (subst (Suits k) e.1 may.fits) | inr old ↦ s.fits q y old ];
    no_gaps = λ p r q h of low high. elim (split v k x p h) [ inl e ↦ may.below r q (ap root_of (sym e) ∙ of) low high | inr old ↦ stays v k x (Root q) (s.no_gaps p r q old of low high) ];
    expired_first = λ r h. stays v k x (Expired r) (elim (split v k x (Deleted r) h) [ inl e ↦ may.deleted r e | inr old ↦ s.expired_first r old ]);
    never_active = λ r h. stays v k x (Root (r + 1)) (elim (split v k x (Expired r) h) [ inl e ↦ may.expired r e | inr old ↦ s.never_active r old ]);
    one_manifest = λ image q r y z a b. one image q r y z (got v k x (Manifest q image) y a) (got v k x (Manifest r image) z b);
    complete = λ image r m live listed. all_stay v k x r m (whole image r m live (got v k x (Manifest r image) (manifest m) listed));
    homed = λ image r listed kept. homes image r listed (lacked v k x (Withdrawn image) kept);
  }
    where
      one : (image : List ℕ) (q r : ℕ) (y z : Held) → ((Manifest q image ≡ k) × (x ≡ y)) ⊎ (fin.get v (Manifest q image) ≡ Some y) → ((Manifest r image ≡ k) × (x ≡ z)) ⊎ (fin.get v (Manifest r image) ≡ Some z) → y ≡ z
      one image q r y z (inl a) (inl b) = sym a.1 ∙ b.1
      one image q r y z (inl a) (inr b) = sym a.1 ∙ sym ((may.listed q image a.0).1 r z b)
      one image q r y z (inr a) (inl b) = (may.listed r image b.0).1 q y a ∙ b.1
      one image q r y z (inr a) (inr b) = s.one_manifest image q r y z a b

      whole : (image : List ℕ) (r : ℕ) (m : ManifestFields) → IsLive (fin.insert v k x) r → ((Manifest r image ≡ k) × (x ≡ manifest m)) ⊎ (fin.get v (Manifest r image) ≡ Some (manifest m)) → IsComplete v r m
      whole image r m live (inl a) = (may.listed r image a.0).0 m a.1
      whole image r m live (inr b) = s.complete image r m (was_live v k x r (listed_root v s r image (is_some _ (manifest m) b)) live) b

  -- a put of a key that is no manifest and moves no home
  pub plain_sound : MayAdd v k x → ((r : ℕ) (n : List ℕ) → Manifest r n ≢ k) → ((image : List ℕ) (r : ℕ) → Has v (Manifest r image) → Lacks v (Withdrawn image) → (h : IsHomed v image) → (Deleted h.0 ≢ k) × (Expired h.0 ≢ k)) → IsSound (fin.insert v k x)
  plain_sound may none away = put_sound may (λ image r listed kept. by image r (split v k x (Manifest r image) listed) kept)
    where
      by : (image : List ℕ) (r : ℕ) → (Manifest r image ≡ k) ⊎ Has v (Manifest r image) → Lacks v (Withdrawn image) → IsHomed (fin.insert v k x) image
      by image r (inl e) kept = absurd (none r image e)
      by image r (inr old) kept =
          let h : IsHomed v image = s.homed image r old kept in
          let a : (Deleted h.0 ≢ k) × (Expired h.0 ≢ k) = away image r old kept h in
          homed_stays image h a.0 a.1 (λ q more. none q image)

-- under a root that is there
below_there : (v : View) (k : KeyKind) (x : Held) → IsSound v → (r : ℕ) → root_of k ≡ Some r → Has v (Root r) → (p q : ℕ) → root_of k ≡ Some p → 1 ≤ q → q ≤ p → Has (fin.insert v k x) (Root q)
below_there v k x s r e root p q f low high = let g : Some r ≡ Some p = sym e ∙ f in let i : r ≡ p = cc in stays v k x (Root q) (s.no_gaps (Root r) r q root refl low (omega (arith, i, high)))

-- a new root
pub root_sound : (v : View) (n : ℕ) (bytes : List ℕ) → Suits (Root (n + 1)) (salt bytes) → n < 1000 → IsSound v → RootsAre v n → IsSound (fin.insert v (Root (n + 1)) (salt bytes))
root_sound v n bytes fits few s roots = plain_sound v (Root (n + 1)) (salt bytes) s (record {
  key = (omega arith, omega arith);
  fits = fits;
  below = λ r q e low high. let f : n + 1 ≡ r = cc in by q low (omega (arith, f, high)) (cases q (omega (arith, f, high)));
  deleted = λ r e. absurd (cc);
  expired = λ r e. absurd (cc);
  listed = λ r m e. absurd (cc);
}) (λ r m e. cc) (λ image r h kept home. (λ e. cc, λ e. cc))
  where
    cases : (q : ℕ) → q ≤ n + 1 → (q ≡ n + 1) ⊎ (q ≤ n)
    cases q h = grind arith

    by : (q : ℕ) → 1 ≤ q → q ≤ n + 1 → (q ≡ n + 1) ⊎ (q ≤ n) → Has (fin.insert v (Root (n + 1)) (salt bytes)) (Root q)
    by q low high (inl e) = subst (λ q. Has (fin.insert v (Root (n + 1)) (salt bytes)) (Root q)) (sym e) (there v (Root (n + 1)) (salt bytes))
    by q low high (inr h) = stays v (Root (n + 1)) (salt bytes) (Root q) (roots.0 q low h)

-- a new chunk
pub chunk_sound : (v : View) (r : ℕ) (name : List ℕ) → IsKind (Chunk r name) → IsSound v → Has v (Root r) → IsSound (fin.insert v (Chunk r name) bare)
chunk_sound v r name kind s root = plain_sound v (Chunk r name) bare s (record {
  key = kind;
  fits = tt;
  below = below_there v (Chunk r name) bare s r refl root;
  deleted = λ q e. absurd (cc);
  expired = λ q e. absurd (cc);
  listed = λ q m e. absurd (cc);
}) (λ q m e. cc) (λ image q h kept home. (λ e. cc, λ e. cc))

-- a withdrawal
pub withdrawn_sound : (v : View) (image : List ℕ) → IsKind (Withdrawn image) → IsSound v → IsSound (fin.insert v (Withdrawn image) bare)
withdrawn_sound v image kind s = plain_sound v (Withdrawn image) bare s (record {
  key = kind;
  fits = tt;
  below = λ r q e low high. absurd (cc);
  deleted = λ q e. absurd (cc);
  expired = λ q e. absurd (cc);
  listed = λ q m e. absurd (cc);
}) (λ q m e. cc) (λ i q h kept home. (λ e. cc, λ e. cc))

-- an expired root is deleted
pub deleted_sound : (v : View) (r : ℕ) → IsSound v → Has v (Root r) → Has v (Expired r) → IsSound (fin.insert v (Deleted r) bare)
deleted_sound v r s root expired = plain_sound v (Deleted r) bare s (record {
  key = s.keys (Root r) root;
  fits = tt;
  below = below_there v (Deleted r) bare s r refl root;
  deleted = λ q e. let f : q ≡ r = cc in subst (λ q. Has v (Expired q)) (sym f) expired;
  expired = λ q e. absurd (cc);
  listed = λ q m e. absurd (cc);
}) (λ q m e. cc) (λ i q h kept home. (λ e. let f : home.0 ≡ r = cc in no_some _ home.2 (subst (λ q. Has v (Expired q)) (sym f) expired), λ e. cc))

-- a retired root that is no home of an image that isn't withdrawn expires
pub expired_sound : (v : View) (r : ℕ) → IsSound v → Has v (Root r) → Has v (Root (r + 1)) → ((image : List ℕ) → Lacks v (Withdrawn image) → IsHome v image r → ⊥) → IsSound (fin.insert v (Expired r) bare)
expired_sound v r s root next free = plain_sound v (Expired r) bare s (record {
  key = s.keys (Root r) root;
  fits = tt;
  below = below_there v (Expired r) bare s r refl root;
  deleted = λ q e. absurd (cc);
  expired = λ q e. let f : q ≡ r = cc in subst (λ q. Has v (Root (q + 1))) (sym f) next;
  listed = λ q m e. absurd (cc);
}) (λ q m e. cc) (λ i q h kept home. (λ e. cc, λ e. let f : home.0 ≡ r = cc in free i kept (subst (IsHome v i) f home.1)))

-- a manifest under a root that serves: its chunks are there, and the image's other manifests are the same
module _ (v : View) (r : ℕ) (image : List ℕ) (m : ManifestFields) (s : IsSound v) (serves : Serves v r)
    (whole : IsComplete v r m) (same : (q : ℕ) (y : Held) → fin.get v (Manifest q image) ≡ Some y → y ≡ manifest m) where
  other_homed : (i : List ℕ) → i ≢ image → IsHomed v i → IsHomed (fin.insert v (Manifest r image) (manifest m)) i
  other_homed i ne h = homed_stays v (Manifest r image) (manifest m) s i h (λ e. cc) (λ e. cc) (λ q more e. ne cc)

  -- where the image was homed, it is
  pub own_homed : IsHomed v image → IsHomed (fin.insert v (Manifest r image) (manifest m)) image
  own_homed h = by (cases h.0)
    where
      cases : (p : ℕ) → (p < r) ⊎ (r ≤ p)
      cases p = grind arith

      by : (h.0 < r) ⊎ (r ≤ h.0) → IsHomed (fin.insert v (Manifest r image) (manifest m)) image
      by (inr above) = homed_stays v (Manifest r image) (manifest m) s image h (λ e. cc) (λ e. cc) (λ q more e. let f : q ≡ r = cc in omega (arith, f, more, above))
      by (inl below) = (
        r,
        record {
          live = still_live v (Manifest r image) (manifest m) r (λ e. cc) (serves.0, serves.1);
          listed = there v (Manifest r image) (manifest m);
          greatest = λ q more live. lacks_if (fin.insert v (Manifest r image) (manifest m)) (Manifest q image) (λ listed. elim (split v (Manifest r image) (manifest m) (Manifest q image) listed) [
            | inl e ↦ let f : q ≡ r = cc in omega (arith, f, more)
            | inr old ↦ no_some _ (h.1.greatest q (omega (arith, below, more)) (was_live v (Manifest r image) (manifest m) q (listed_root v s q image old) live)) old
          ]);
        },
        lacks v (Manifest r image) (manifest m) (Expired r) (λ e. cc) serves.2,
      )

  -- where it had no manifest, this root is its home
  pub first_homed : ((q : ℕ) → Has v (Manifest q image) → ⊥) → IsHomed (fin.insert v (Manifest r image) (manifest m)) image
  first_homed none = (
    r,
    record {
      live = still_live v (Manifest r image) (manifest m) r (λ e. cc) (serves.0, serves.1);
      listed = there v (Manifest r image) (manifest m);
      greatest = λ q more live. lacks_if (fin.insert v (Manifest r image) (manifest m)) (Manifest q image) (λ listed. elim (split v (Manifest r image) (manifest m) (Manifest q image) listed) [
        | inl e ↦ let f : q ≡ r = cc in omega (arith, f, more)
        | inr old ↦ none q old
      ]);
    },
    lacks v (Manifest r image) (manifest m) (Expired r) (λ e. cc) serves.2,
  )

  -- an image that was homed is homed
  pub keeps_homed : (i : List ℕ) → IsHomed v i → IsHomed (fin.insert v (Manifest r image) (manifest m)) i
  keeps_homed i h = elim (cases_image i image) [ inl e ↦ subst (IsHomed (fin.insert v (Manifest r image) (manifest m))) (sym e) (own_homed (subst (IsHomed v) e h)) | inr ne ↦ other_homed i ne h ]

  pub manifest_sound : IsKind (Manifest r image) → Suits (Manifest r image) (manifest m) → ((q : ℕ) → Has v (Manifest q image) → ⊥) ⊎ ((q : ℕ) × Has v (Manifest q image)) → IsSound (fin.insert v (Manifest r image) (manifest m))
  manifest_sound kind fits old = put_sound v (Manifest r image) (manifest m) s (record {
    key = kind;
    fits = fits;
    below = below_there v (Manifest r image) (manifest m) s r refl serves.0;
    deleted = λ q e. absurd (cc);
    expired = λ q e. absurd (cc);
    listed = λ q i e. let f : q ≡ r = cc in let g : i ≡ image = cc in (λ p own. subst (λ q. IsComplete v q p) (sym f) (subst (IsComplete v r) (same_fields p own) whole), λ p y h. same p y (subst (λ i. fin.get v (Manifest p i) ≡ Some y) g h));
  }) (λ i q listed kept. by i q (cases_image i image) listed kept)
    where
      same_fields : (p : ManifestFields) → manifest m ≡ manifest p → m ≡ p
      same_fields p e = cc

      own : Lacks v (Withdrawn image) → ((q : ℕ) → Has v (Manifest q image) → ⊥) ⊎ ((q : ℕ) × Has v (Manifest q image)) → IsHomed (fin.insert v (Manifest r image) (manifest m)) image
      own kept (inl none) = first_homed none
      own kept (inr some) = own_homed (s.homed image some.0 some.1 kept)

      by : (i : List ℕ) (q : ℕ) → (i ≡ image) ⊎ (i ≢ image) → Has (fin.insert v (Manifest r image) (manifest m)) (Manifest q i) → Lacks v (Withdrawn i) → IsHomed (fin.insert v (Manifest r image) (manifest m)) i
      by i q (inl e) listed kept = subst (IsHomed (fin.insert v (Manifest r image) (manifest m))) (sym e) (own (subst (λ i. Lacks v (Withdrawn i)) e kept) old)
      by i q (inr ne) listed kept = elim (split v (Manifest r image) (manifest m) (Manifest q i) listed) [ inl f ↦ absurd (ne cc) | inr there ↦ other_homed i ne (s.homed i q there kept) ]

-- A chunk or a manifest of a deleted root goes.
module _ (v : View) (k : KeyKind) (r : ℕ) (s : IsSound v) (item : IsItemOf r k) (dead : Has v (Deleted r)) where
  pub no_item : (q : KeyKind) → ((p : ℕ) → IsItemOf p q → ⊥) → q ≢ k
  no_item q none e = none r (subst (IsItemOf r) (sym e) item)

  pub had : (q : KeyKind) → Has (fin.remove v k) q → Has v q
  had q h = elim (cases_key q k) [ inl e ↦ absurd (no_some _ (ap (fin.get (fin.remove v k)) e ∙ gone_key v k) h) | inr ne ↦ subst IsSome (gone_other v k q ne) h ]

  pub had_so : (q : KeyKind) (y : Held) → fin.get (fin.remove v k) q ≡ Some y → fin.get v q ≡ Some y
  had_so q y h = elim (cases_key q k) [ inl e ↦ absurd (not_both _ y (ap (fin.get (fin.remove v k)) e ∙ gone_key v k) h) | inr ne ↦ sym (gone_other v k q ne) ∙ h ]

  pub left : (q : KeyKind) → q ≢ k → Has v q → Has (fin.remove v k) q
  left q ne h = subst IsSome (sym (gone_other v k q ne)) h

  pub left_out : (q : KeyKind) → Lacks v q → Lacks (fin.remove v k) q
  left_out q h = elim (cases_key q k) [ inl e ↦ ap (fin.get (fin.remove v k)) e ∙ gone_key v k | inr ne ↦ gone_other v k q ne ∙ h ]

  was_out : (q : KeyKind) → q ≢ k → Lacks (fin.remove v k) q → Lacks v q
  was_out q ne h = sym (gone_other v k q ne) ∙ h

  -- under a live root nothing goes
  not_live : (q : ℕ) → IsLive v q → (j : KeyKind) → IsItemOf q j → j ≢ k
  not_live q live j of e = no_some _ live.1 (subst (λ p. Has v (Deleted p)) (one j k e of item) dead)
    where
      one : (j k : KeyKind) → j ≡ k → IsItemOf q j → IsItemOf r k → r ≡ q
      one j k e a b = same k (subst (IsItemOf q) e a) b
        where
          same : (k : KeyKind) → IsItemOf q k → IsItemOf r k → r ≡ q
          same (Chunk p h) a b = sym b ∙ a
          same (Manifest p n) a b = sym b ∙ a
          same (Root p) a b = absurd a
          same (Expired p) a b = absurd a
          same (Deleted p) a b = absurd a
          same (Withdrawn n) a b = absurd a

  pub then_live : (q : ℕ) → IsLive v q → IsLive (fin.remove v k) q
  then_live q h = (left (Root q) (no_item (Root q) (λ p i. i)) h.0, left_out (Deleted q) h.1)

  pub before_live : (q : ℕ) → IsLive (fin.remove v k) q → IsLive v q
  before_live q h = (had (Root q) h.0, was_out (Deleted q) (no_item (Deleted q) (λ p i. i)) h.1)

  pub homed_left : (image : List ℕ) → IsHomed v image → IsHomed (fin.remove v k) image
  homed_left image h = (
    h.0,
    record {
      live = then_live h.0 h.1.live;
      listed = left (Manifest h.0 image) (not_live h.0 h.1.live (Manifest h.0 image) refl) h.1.listed;
      greatest = λ q more live. left_out (Manifest q image) (h.1.greatest q more (before_live q live));
    },
    left_out (Expired h.0) h.2,
  )

  pub whole_left : (q : ℕ) (m : ManifestFields) → IsLive v q → IsComplete v q m → IsComplete (fin.remove v k) q m
  whole_left q m live all = λ i d below. left (Chunk q (get_or m.names i d).bytes) (not_live q live (Chunk q (get_or m.names i d).bytes) refl) (all i d below)

  pub serves_left : (q : ℕ) → Serves v q → Serves (fin.remove v k) q
  serves_left q h = (left (Root q) (no_item (Root q) (λ p i. i)) h.0, left_out (Deleted q) h.1, left_out (Expired q) h.2)

  pub removed_sound : IsSound (fin.remove v k)
  removed_sound = record {
    keys = λ q h. s.keys q (had q h);
    fits = λ q y h. s.fits q y (had_so q y h);
    no_gaps = λ p a q h of low high. left (Root q) (no_item (Root q) (λ p i. i)) (s.no_gaps p a q (had p h) of low high);
    expired_first = λ q h. left (Expired q) (no_item (Expired q) (λ p i. i)) (s.expired_first q (had (Deleted q) h));
    never_active = λ q h. left (Root (q + 1)) (no_item (Root (q + 1)) (λ p i. i)) (s.never_active q (had (Expired q) h));
    one_manifest = λ image q p y z a b. s.one_manifest image q p y z (had_so _ y a) (had_so _ z b);
    complete = λ image q m live listed. let old : IsLive v q = before_live q live in whole_left q m old (s.complete image q m old (had_so _ (manifest m) listed));
    homed = λ image q listed kept. homed_left image (s.homed image q (had _ listed) (was_out (Withdrawn image) (no_item (Withdrawn image) (λ p i. i)) kept));
  }

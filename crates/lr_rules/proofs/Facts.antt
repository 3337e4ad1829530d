-- What is known of each way out of the doubts, from the view and the doubts alone.
use Rattle.std.proofs.Common.{◌≡◌, ◌≢◌, ◌≤◌, ◌<◌, ◌+◌, ℕ, List, Option, Some, None, IsSome, refl, sym, subst, ◌∙◌, inl, inr, arith, get_or}
use mathlib.Core.Logic.{◌⊎◌}
use Rattle.std.specs.FinMap as fin
use Rattle.lr_manifest.specs.Manifest.{ManifestFields}
use Rattle.lr_origin.specs.declared.key.KeyKind.{KeyKind}
use Rattle.lr_origin.specs.declared.key.KeyKind.TheVariants.{Root, Expired, Deleted, Chunk, Manifest, Withdrawn}
use Rattle.lr_roots.specs.View.{View, Held, Has, Lacks}
use Rattle.lr_roots.specs.Roots.{RootsAre, IsHome, IsHomed, IsComplete}
use Rattle.lr_roots.specs.Sound.{IsSound}
use Rattle.lr_rules.specs.Known.{Known, Settles, Always, Agrees, Serves, IsItemOf}
use Rattle.lr_rules.proofs.Keys.{no_some, at_other, gone_key, gone_other}
use Rattle.lr_rules.proofs.Outcomes.{view_settles, one_settles, settles_but}
use Rattle.lr_rules.proofs.Sound.{there, split, lacks_or_has, home_stays}

pub home_unique : (v : View) (i : List ℕ) (p q : ℕ) → IsHome v i p → IsHome v i q → p ≡ q
home_unique v i p q a b = by (cases p q)
  where
    cases : (p q : ℕ) → (p ≡ q) ⊎ ((p < q) ⊎ (q < p))
    cases p q = grind arith

    by : (p ≡ q) ⊎ ((p < q) ⊎ (q < p)) → p ≡ q
    by (inl e) = e
    by (inr (inl less)) = absurd (no_some _ (a.greatest q less b.live) b.listed)
    by (inr (inr more)) = absurd (no_some _ (b.greatest p more a.live) a.listed)

-- a home doesn't see withdrawals
pub same_homed : (v w : View) (i : List ℕ) → ((k : KeyKind) → k ≢ Withdrawn i → fin.get w k ≡ fin.get v k) → IsHomed v i → IsHomed w i
same_homed v w i same h = (
  h.0,
  record {
    live = (subst IsSome (sym (same (Root h.0) (λ e. cc))) h.1.live.0, same (Deleted h.0) (λ e. cc) ∙ h.1.live.1);
    listed = subst IsSome (sym (same (Manifest h.0 i) (λ e. cc))) h.1.listed;
    greatest = λ q more live. same (Manifest q i) (λ e. cc) ∙ h.1.greatest q more (subst IsSome (same (Root q) (λ e. cc)) live.0, sym (same (Deleted q) (λ e. cc)) ∙ live.1);
  },
  same (Expired h.0) (λ e. cc) ∙ h.2,
)

module _ (s : Known) (agrees : Agrees s) where
  -- what is known to be there is there, if it isn't an item of a deleted root
  pub certain : (k : KeyKind) → Has s.view k → ((r : ℕ) → IsItemOf r k → Has s.view (Deleted r) → ⊥) → fin.get s.doubts k ≡ None
  certain k h safe = by (fin.get s.doubts k) refl
    where
      by : (o : Option Held) → fin.get s.doubts k ≡ o → fin.get s.doubts k ≡ None
      by None e = e
      by (Some x) e = elim (agrees k x e) [ inl away ↦ absurd (no_some _ away h) | inr p ↦ absurd (safe p.1.0 p.1.1 p.1.2) ]

  pub root_certain : (r : ℕ) → Has s.view (Root r) → fin.get s.doubts (Root r) ≡ None
  root_certain r h = certain (Root r) h (λ q i d. i)

  pub mark_certain : (n : List ℕ) → Has s.view (Withdrawn n) → fin.get s.doubts (Withdrawn n) ≡ None
  mark_certain n h = certain (Withdrawn n) h (λ q i d. i)

  pub expired_certain : (r : ℕ) → Has s.view (Expired r) → fin.get s.doubts (Expired r) ≡ None
  expired_certain r h = certain (Expired r) h (λ q i d. i)

  pub manifest_certain : (r : ℕ) (n : List ℕ) → Has s.view (Manifest r n) → Lacks s.view (Deleted r) → fin.get s.doubts (Manifest r n) ≡ None
  manifest_certain r n h live = certain (Manifest r n) h (λ q i d. no_some _ live (subst (λ q. Has s.view (Deleted q)) (sym i) d))

  pub chunk_certain : (r : ℕ) (n : List ℕ) → Has s.view (Chunk r n) → Lacks s.view (Deleted r) → fin.get s.doubts (Chunk r n) ≡ None
  chunk_certain r n h live = certain (Chunk r n) h (λ q i d. no_some _ live (subst (λ q. Has s.view (Deleted q)) (sym i) d))

  -- what isn't known to be there and is there in one way out was put in doubt
  pub doubted_put : (v : View) → Settles s v → (k : KeyKind) → Lacks s.view k → Has v k → (x : Held) × (fin.get s.doubts k ≡ Some x)
  doubted_put v t k away h = by (fin.get s.doubts k) refl
    where
      by : (o : Option Held) → fin.get s.doubts k ≡ o → (x : Held) × (fin.get s.doubts k ≡ Some x)
      by None e = absurd (no_some _ (t.known k e ∙ away) h)
      by (Some x) e = (x, e)

  module _ (v : View) (t : Settles s v) where
    pub root_there : (r : ℕ) → Has s.view (Root r) → Has v (Root r)
    root_there r h = subst IsSome (sym (t.known (Root r) (root_certain r h))) h

    pub expired_there : (r : ℕ) → Has s.view (Expired r) → Has v (Expired r)
    expired_there r h = subst IsSome (sym (t.known (Expired r) (expired_certain r h))) h

    pub kept_known : (n : List ℕ) → Lacks v (Withdrawn n) → Lacks s.view (Withdrawn n)
    kept_known n h = elim (lacks_or_has s.view (Withdrawn n)) [ inl away ↦ away | inr here ↦ absurd (no_some _ h (subst IsSome (sym (t.known (Withdrawn n) (mark_certain n here))) here)) ]

    pub whole_there : (r : ℕ) (m : ManifestFields) → Lacks s.view (Deleted r) → IsComplete s.view r m → IsComplete v r m
    whole_there r m live all = λ i d below. let h : Has s.view (Chunk r (get_or m.names i d).bytes) = all i d below in subst IsSome (sym (t.known (Chunk r (get_or m.names i d).bytes) (chunk_certain r (get_or m.names i d).bytes h live))) h

  module _ (all : Always s IsSound) where
    view_sound : IsSound s.view
    view_sound = all s.view (view_settles s agrees)

    -- a deleted root is known to be expired
    pub known_expired : (v : View) → Settles s v → (r : ℕ) → Has v (Deleted r) → Has s.view (Expired r)
    known_expired v t r h = by (lacks_or_has s.view (Deleted r))
      where
        by : Lacks s.view (Deleted r) ⊎ Has s.view (Deleted r) → Has s.view (Expired r)
        by (inr here) = view_sound.expired_first r here
        by (inl away) =
            let d : (x : Held) × (fin.get s.doubts (Deleted r) ≡ Some x) = doubted_put v t (Deleted r) away h in
            let one : IsSound (fin.insert s.view (Deleted r) d.0) = all _ (one_settles s (Deleted r) d.0 agrees d.1) in
            elim (split s.view (Deleted r) d.0 (Expired r) (one.expired_first r (there s.view (Deleted r) d.0))) [ inl e ↦ absurd cc | inr old ↦ old ]

    -- the greatest root serves in each way out
    pub active_serves : (n : ℕ) → 1 ≤ n → RootsAre s.view n → (v : View) → Settles s v → Serves v n
    active_serves n low roots v t = (root_there v t n (roots.0 n low (omega arith)), elim (lacks_or_has v (Deleted n)) [ inl away ↦ away | inr d ↦ absurd (no_next (view_sound.never_active n (known_expired v t n d))) ], elim (lacks_or_has v (Expired n)) [ inl away ↦ away | inr e ↦ absurd (not_expired (lacks_or_has s.view (Expired n)) e) ])
      where
        no_next : Has s.view (Root (n + 1)) → ⊥
        no_next h = omega (arith, (roots.1 (n + 1) h).1)

        not_expired : Lacks s.view (Expired n) ⊎ Has s.view (Expired n) → Has v (Expired n) → ⊥
        not_expired (inr here) h = no_next (view_sound.never_active n here)
        not_expired (inl away) h =
            let d : (x : Held) × (fin.get s.doubts (Expired n) ≡ Some x) = doubted_put v t (Expired n) away h in
            let one : IsSound (fin.insert s.view (Expired n) d.0) = all _ (one_settles s (Expired n) d.0 agrees d.1) in
            elim (split s.view (Expired n) d.0 (Root (n + 1)) (one.never_active n (there s.view (Expired n) d.0))) [ inl e ↦ cc | inr old ↦ no_next old ]

    -- the home of an image that isn't withdrawn serves in each way out
    pub home_serves : (i : List ℕ) (p : ℕ) → IsHome s.view i p → Lacks s.view (Withdrawn i) → (v : View) → Settles s v → Serves v p
    home_serves i p home kept v t = (root_there v t p home.live.0, elim (lacks_or_has v (Deleted p)) [ inl away ↦ away | inr d ↦ absurd (no_some _ known (known_expired v t p d)) ], elim (lacks_or_has v (Expired p)) [ inl away ↦ away | inr e ↦ absurd (not_expired e) ])
      where
        known : Lacks s.view (Expired p)
        known = let h : IsHomed s.view i = view_sound.homed i p home.listed kept in subst (λ p. Lacks s.view (Expired p)) (home_unique s.view i h.0 p h.1 home) h.2

        not_expired : Has v (Expired p) → ⊥
        not_expired h =
            let d : (x : Held) × (fin.get s.doubts (Expired p) ≡ Some x) = doubted_put v t (Expired p) known h in
            let one : IsSound (fin.insert s.view (Expired p) d.0) = all _ (one_settles s (Expired p) d.0 agrees d.1) in
            let moved : IsHome (fin.insert s.view (Expired p) d.0) i p = home_stays s.view (Expired p) d.0 view_sound i p (λ e. cc) (λ q more e. cc) home in
            let homed : IsHomed (fin.insert s.view (Expired p) d.0) i = one.homed i p moved.listed (at_other s.view (Expired p) d.0 (Withdrawn i) (λ e. cc) ∙ kept) in
            no_some _ homed.2 (subst (λ q. Has (fin.insert s.view (Expired p) d.0) (Expired q)) (sym (home_unique _ i homed.0 p homed.1 moved)) (there s.view (Expired p) d.0))

    -- an image that isn't withdrawn is homed in each way out, though its withdrawal may be in doubt
    pub homed_always : (i : List ℕ) (p : ℕ) → Has s.view (Manifest p i) → Lacks s.view (Deleted p) → Lacks s.view (Withdrawn i) → (v : View) → Settles s v → IsHomed v i
    homed_always i p listed live kept v t =
        let away : View = fin.remove v (Withdrawn i) in
        let old : Settles s away = settles_but s s (Withdrawn i) v away (λ q ne. refl) (λ q ne. refl) (gone_other v (Withdrawn i)) (λ none. gone_key v (Withdrawn i) ∙ sym kept) (λ y some. inl (gone_key v (Withdrawn i))) t in
        let has : Has away (Manifest p i) = subst IsSome (sym (old.known (Manifest p i) (manifest_certain p i listed live))) listed in
        same_homed away v i (λ k ne. sym (gone_other v (Withdrawn i) k ne)) ((all away old).homed i p has (gone_key v (Withdrawn i)))

    -- A root that is no known home of an image, though it has its manifest, is its home in no way out.
    pub never_home : (i : List ℕ) (r : ℕ) → Has s.view (Root r) → Lacks s.view (Deleted r) → fin.get s.doubts (Manifest r i) ≡ None → IsHomed s.view i → (IsHome s.view i r → ⊥) → (v : View) → Settles s v → IsHome v i r → ⊥
    never_home i r root live sure homed never v t h = by (cases r homed.0)
      where
        cases : (r p : ℕ) → (p ≡ r) ⊎ ((p < r) ⊎ (r < p))
        cases r p = grind arith

        listed : Has s.view (Manifest r i)
        listed = subst IsSome (t.known (Manifest r i) sure) h.listed

        by : (homed.0 ≡ r) ⊎ ((homed.0 < r) ⊎ (r < homed.0)) → ⊥
        by (inl e) = never (subst (IsHome s.view i) e homed.1)
        by (inr (inl less)) = no_some _ (homed.1.greatest r less (root, live)) listed
        by (inr (inr more)) = no_some _ (h.greatest homed.0 more (root_there v t homed.0 homed.1.live.0, elim (lacks_or_has v (Deleted homed.0)) [ inl away ↦ away | inr d ↦ absurd (no_some _ homed.2 (known_expired v t homed.0 d)) ]))
            (subst IsSome (sym (t.known (Manifest homed.0 i) (manifest_certain homed.0 i homed.1.listed homed.1.live.1))) homed.1.listed)

    -- the roots are the same in each way out, where the next one isn't in doubt
    pub settled_roots : (n : ℕ) → RootsAre s.view n → fin.get s.doubts (Root (n + 1)) ≡ None → (v : View) → Settles s v → RootsAre v n
    settled_roots n roots sure v t = (λ r low high. root_there v t r (roots.0 r low high), λ r h. (low r h, few r h))
      where
        low : (r : ℕ) → Has v (Root r) → 1 ≤ r
        low r h = let k : (1 ≤ r) × (r ≤ 1000) = (all v t).keys (Root r) h in k.0

        few : (r : ℕ) → Has v (Root r) → r ≤ n
        few r h = grind (arith, past)
          where
            past : n < r → ⊥
            past above =
                let next : Has v (Root (n + 1)) = (all v t).no_gaps (Root r) r (n + 1) h refl (omega arith) (omega arith) in
                let bound : n + 1 ≤ n = (roots.1 (n + 1) (subst IsSome (t.known (Root (n + 1)) sure) next)).1 in omega (arith, bound)

-- A view in which no key is foreign is sound, and in a sound view none is.
use Rattle.std.proofs.Common.{◌≡◌, ◌<◌, ◌≤◌, ◌+◌, ℕ, arith, List, Some, refl, sym, ap, subst, ◌∙◌, inl, inr}
use mathlib.Core.Logic.{◌⊎◌}
use Rattle.std.specs.FinMap as map
use Rattle.lr_manifest.specs.Manifest.{ManifestFields, IsManifest, spelling}
use Rattle.lr_manifest.proofs.Public.{unique}
use Rattle.lr_origin.specs.Text.{IsKind}
use Rattle.lr_origin.specs.declared.key.KeyKind.{KeyKind}
use Rattle.lr_origin.specs.declared.key.KeyKind.TheVariants.{Root, Expired, Deleted, Chunk, Manifest, Withdrawn}
use Rattle.lr_roots.specs.View.{View, Held, salt, manifest, bare, Has, Lacks}
use Rattle.lr_roots.specs.Roots.{IsLive, IsHome, IsHomed, IsComplete}
use Rattle.lr_roots.specs.Foreign.{IsGap, LacksRoot, IsOutOfOrder, IsFirstRoot, DiffersFromFirst, LacksChunk, LacksHome, Breaks, IsForeign}
use Rattle.lr_roots.specs.Sound.{Suits, root_of, IsSound}
use Rattle.lr_opening.proofs.Decided.{Decided, some_of, is_some, one_inside, has_or_lacks, has_not_lacks, is_there, isnt_there, same_list, greatest, least, all_stable}

module _ (v : View) (keys : (k : KeyKind) → Has v k → IsKind k) (fits : (k : KeyKind) (x : Held) → map.get v k ≡ Some x → Suits k x) (none : (k : KeyKind) → IsForeign v k → ⊥) where
  no_gap : (k : KeyKind) (r : ℕ) → Has v k → root_of k ≡ Some r → IsGap v r → ⊥
  no_gap (Root q) r has e gap = none (Root q) (has, inl (subst (IsGap v) (sym (one_inside q r e)) gap))
  no_gap (Expired q) r has e gap = none (Expired q) (has, inl (subst (IsGap v) (sym (one_inside q r e)) gap))
  no_gap (Deleted q) r has e gap = none (Deleted q) (has, inl (subst (IsGap v) (sym (one_inside q r e)) gap))
  no_gap (Chunk q name) r has e gap = none (Chunk q name) (has, inl (subst (IsGap v) (sym (one_inside q r e)) gap))
  no_gap (Manifest q image) r has e gap = none (Manifest q image) (has, inl (subst (IsGap v) (sym (one_inside q r e)) gap))
  no_gap (Withdrawn image) r has e gap = absurd cc

  all_roots : (k : KeyKind) (r q : ℕ) → Has v k → root_of k ≡ Some r → 1 ≤ q → q ≤ r → Has v (Root q)
  all_roots k r q has e first most = is_there v (Root q) (λ lacks. no_gap k r has e (q, first, most, lacks))

  next_there : (r : ℕ) → Has v (Expired r) → Has v (Root (r + 1))
  next_there r has = is_there v (Root (r + 1)) (λ lacks. none (Expired r) (has, inr (inl (own, λ q there. last q there lacks))))
    where
      within : (1 ≤ r) × (r ≤ 1000)
      within = keys (Expired r) has

      own : Has v (Root r)
      own = all_roots (Expired r) r r has refl within.0 (omega arith)

      last : (q : ℕ) → Has v (Root q) → Lacks v (Root (r + 1)) → q ≤ r
      last q there lacks = by (grind arith)
        where
          by : (q ≤ r) ⊎ (r + 1 ≤ q) → q ≤ r
          by (inl le) = le
          by (inr more) = absurd (has_not_lacks v (Root (r + 1)) lacks (all_roots (Root q) q (r + 1) there refl (omega arith) more))

  -- what a manifest's key keeps
  a_manifest : (r : ℕ) (image : List ℕ) (x : Held) → map.get v (Manifest r image) ≡ Some x → (m : ManifestFields) × (x ≡ manifest m) × IsManifest m
  a_manifest r image x e = by x (fits (Manifest r image) x e)
    where
      by : (x : Held) → Suits (Manifest r image) x → (m : ManifestFields) × (x ≡ manifest m) × IsManifest m
      by (manifest m) s = (m, refl, s.0)
      by (salt bytes) s = absurd s
      by bare s = absurd s

  first_root : (image : List ℕ) (r : ℕ) → Has v (Manifest r image) → (q : ℕ) × IsFirstRoot v image q
  first_root image r has = by (least (λ q. Has v (Manifest q image)) (λ q. elim (has_or_lacks v (Manifest q image)) [ inl h ↦ inl h | inr l ↦ inr (λ h. has_not_lacks v (Manifest q image) l h) ]) (r + 1))
    where
      by : ((q : ℕ) × (q < r + 1) × Has v (Manifest q image) × ((p : ℕ) → p < q → Has v (Manifest p image) → ⊥)) ⊎ ((q : ℕ) → q < r + 1 → Has v (Manifest q image) → ⊥) → (q : ℕ) × IsFirstRoot v image q
      by (inl h) = (h.0, (h.2, λ p less. isnt_there v (Manifest p image) (h.3 p less)))
      by (inr nowhere) = absurd (nowhere r (omega arith) has)

  -- each manifest of the image is the one in the first root
  as_first : (image : List ℕ) (q r : ℕ) (first x : Held) → IsFirstRoot v image q → map.get v (Manifest q image) ≡ Some first → map.get v (Manifest r image) ≡ Some x → x ≡ first
  as_first image q r first x is there here =
      let f = a_manifest q image first there in
      let o = a_manifest r image x here in
      by f.0 o.0 f.1 o.1 f.2 o.2 (same_list (spelling o.0) (spelling f.0))
    where
      by : (f o : ManifestFields) → first ≡ manifest f → x ≡ manifest o → IsManifest f → IsManifest o → Decided (spelling o ≡ spelling f) → x ≡ first
      by f o a b i j (inl e) = b ∙ ap manifest (unique (spelling o) o f (j, refl) (i, e)) ∙ sym a
      by f o a b i j (inr not) =
          absurd (none (Manifest r image) (is_some (map.get v (Manifest r image)) x here, inr (inr (inl (q, f, o, is, there ∙ ap Some a, here ∙ ap Some b, λ e. not (ap spelling e))))))

  same_manifest : (image : List ℕ) (q r : ℕ) (x y : Held) → map.get v (Manifest q image) ≡ Some x → map.get v (Manifest r image) ≡ Some y → x ≡ y
  same_manifest image q r x y a b =
      let f = first_root image q (is_some (map.get v (Manifest q image)) x a) in
      let s = some_of (map.get v (Manifest f.0 image)) f.1.0 in
      as_first image f.0 q s.0 x f.1 s.1 a ∙ sym (as_first image f.0 r s.0 y f.1 s.1 b)

  decide_has : (k : KeyKind) → Decided (Has v k)
  decide_has k = elim (has_or_lacks v k) [ inl h ↦ inl h | inr l ↦ inr (λ h. has_not_lacks v k l h) ]

  all_chunks : (image : List ℕ) (r : ℕ) (m : ManifestFields) → IsLive v r → map.get v (Manifest r image) ≡ Some (manifest m) → IsComplete v r m
  all_chunks image r m live e = all_stable (λ name. Has v (Chunk r name.bytes)) (λ name. decide_has (Chunk r name.bytes)) m.names
      (λ not. none (Manifest r image) (is_some (map.get v (Manifest r image)) (manifest m) e, inr (inr (inr (inl (live, (m, e, not)))))))

  decide_listed : (image : List ℕ) (r : ℕ) → Decided (IsLive v r × Has v (Manifest r image))
  decide_listed image r = by (has_or_lacks v (Root r)) (has_or_lacks v (Deleted r)) (has_or_lacks v (Manifest r image))
    where
      by : Has v (Root r) ⊎ Lacks v (Root r) → Has v (Deleted r) ⊎ Lacks v (Deleted r) → Has v (Manifest r image) ⊎ Lacks v (Manifest r image) → Decided (IsLive v r × Has v (Manifest r image))
      by (inl root) (inr live) (inl has) = inl ((root, live), has)
      by (inr lacks) d m = inr (λ h. has_not_lacks v (Root r) lacks h.0.0)
      by (inl root) (inl deleted) m = inr (λ h. has_not_lacks v (Deleted r) h.0.1 deleted)
      by (inl root) (inr live) (inr lacks) = inr (λ h. has_not_lacks v (Manifest r image) lacks h.1)

  within_limit : (image : List ℕ) (r : ℕ) → Has v (Manifest r image) → r ≤ 1000
  within_limit image r has = let i : IsKind (Manifest r image) = keys (Manifest r image) has in i.0.1

  -- a home that isn't expired, or that there is none
  decide_homed : (image : List ℕ) → Decided (IsHomed v image)
  decide_homed image = by (greatest (λ r. IsLive v r × Has v (Manifest r image)) (decide_listed image) 1000)
    where
      by : ((r : ℕ) × (r ≤ 1000) × (IsLive v r × Has v (Manifest r image)) × ((q : ℕ) → r < q → q ≤ 1000 → IsLive v q × Has v (Manifest q image) → ⊥)) ⊎ ((q : ℕ) → q ≤ 1000 → IsLive v q × Has v (Manifest q image) → ⊥) → Decided (IsHomed v image)
      by (inr nowhere) = inr (λ h. nowhere h.0 (within_limit image h.0 h.1.listed) (h.1.live, h.1.listed))
      by (inl h) = state (has_or_lacks v (Expired h.0))
        where
          home : IsHome v image h.0
          home = record {
            live = h.2.0;
            listed = h.2.1;
            greatest = λ q more live. isnt_there v (Manifest q image) (λ has. h.3 q more (within_limit image q has) (live, has));
          }

          one_home : (q : ℕ) → IsHome v image q → q ≡ h.0
          one_home q other = at (grind arith)
            where
              at : (q < h.0) ⊎ ((h.0 < q) ⊎ (q ≡ h.0)) → q ≡ h.0
              at (inl less) = absurd (has_not_lacks v (Manifest h.0 image) (other.greatest h.0 less h.2.0) h.2.1)
              at (inr (inl more)) = absurd (has_not_lacks v (Manifest q image) (home.greatest q more other.live) other.listed)
              at (inr (inr e)) = e

          state : Has v (Expired h.0) ⊎ Lacks v (Expired h.0) → Decided (IsHomed v image)
          state (inr lacks) = inl (h.0, home, lacks)
          state (inl has) = inr (λ o. has_not_lacks v (Expired o.0) o.2 (subst (λ q. Has v (Expired q)) (sym (one_home o.0 o.1)) has))

  all_homed : (image : List ℕ) (r : ℕ) → Has v (Manifest r image) → Lacks v (Withdrawn image) → IsHomed v image
  all_homed image r has there = by (decide_homed image) (greatest (λ q. Has v (Manifest q image)) (λ q. decide_has (Manifest q image)) 1000)
    where
      by : Decided (IsHomed v image) → ((q : ℕ) × (q ≤ 1000) × Has v (Manifest q image) × ((p : ℕ) → q < p → p ≤ 1000 → Has v (Manifest p image) → ⊥)) ⊎ ((q : ℕ) → q ≤ 1000 → Has v (Manifest q image) → ⊥) → IsHomed v image
      by (inl homed) last = homed
      by (inr not) (inr nowhere) = absurd (nowhere r (within_limit image r has) has)
      by (inr not) (inl g) = absurd (none (Manifest g.0 image) (g.2, inr (inr (inr (inr (there, λ p more. isnt_there v (Manifest p image) (λ h. g.3 p more (within_limit image p h) h), not))))))

  pub none_foreign_is_sound : IsSound v
  none_foreign_is_sound = record {
    keys = keys;
    fits = fits;
    no_gaps = all_roots;
    expired_first = λ r has. is_there v (Expired r) (λ lacks. none (Deleted r) (has, inr (inl lacks)));
    never_active = next_there;
    one_manifest = same_manifest;
    complete = all_chunks;
    homed = all_homed;
  }

module _ (v : View) (sound : IsSound v) where
  has_roots : (k : KeyKind) (r : ℕ) → Has v k → root_of k ≡ Some r → IsGap v r → ⊥
  has_roots k r has e gap = has_not_lacks v (Root gap.0) gap.3 (sound.no_gaps k r gap.0 has e gap.1 gap.2)

  no_root_lacks : (k : KeyKind) → Has v k → LacksRoot v k → ⊥
  no_root_lacks (Root r) has gap = has_roots (Root r) r has refl gap
  no_root_lacks (Expired r) has gap = has_roots (Expired r) r has refl gap
  no_root_lacks (Deleted r) has gap = has_roots (Deleted r) r has refl gap
  no_root_lacks (Chunk r name) has gap = has_roots (Chunk r name) r has refl gap
  no_root_lacks (Manifest r image) has gap = has_roots (Manifest r image) r has refl gap
  no_root_lacks (Withdrawn image) has gap = absurd gap

  in_order : (k : KeyKind) → Has v k → IsOutOfOrder v k → ⊥
  in_order (Deleted r) has lacks = has_not_lacks v (Expired r) lacks (sound.expired_first r has)
  in_order (Expired r) has last = let more : r + 1 ≤ r = last.1 (r + 1) (sound.never_active r has) in omega (arith, more)
  in_order (Root r) has h = absurd h
  in_order (Chunk r name) has h = absurd h
  in_order (Manifest r image) has h = absurd h
  in_order (Withdrawn image) has h = absurd h

  held_inside : (x y : ManifestFields) → manifest x ≡ manifest y → x ≡ y
  held_inside x y e = cc

  no_difference : (k : KeyKind) → DiffersFromFirst v k → ⊥
  no_difference (Manifest r image) h = h.6 (held_inside h.2 h.1 (sym (sound.one_manifest image h.0 r (manifest h.1) (manifest h.2) h.4 h.5)))
  no_difference (Root r) h = absurd h
  no_difference (Expired r) h = absurd h
  no_difference (Deleted r) h = absurd h
  no_difference (Chunk r name) h = absurd h
  no_difference (Withdrawn image) h = absurd h

  no_chunk_lacks : (k : KeyKind) → LacksChunk v k → ⊥
  no_chunk_lacks (Manifest r image) h = h.1.2 (sound.complete image r h.1.0 h.0 h.1.1)
  no_chunk_lacks (Root r) h = absurd h
  no_chunk_lacks (Expired r) h = absurd h
  no_chunk_lacks (Deleted r) h = absurd h
  no_chunk_lacks (Chunk r name) h = absurd h
  no_chunk_lacks (Withdrawn image) h = absurd h

  no_home_lacks : (k : KeyKind) → Has v k → LacksHome v k → ⊥
  no_home_lacks (Manifest r image) has h = h.2 (sound.homed image r has h.0)
  no_home_lacks (Root r) has h = absurd h
  no_home_lacks (Expired r) has h = absurd h
  no_home_lacks (Deleted r) has h = absurd h
  no_home_lacks (Chunk r name) has h = absurd h
  no_home_lacks (Withdrawn image) has h = absurd h

  pub sound_has_none_foreign : (k : KeyKind) → IsForeign v k → ⊥
  sound_has_none_foreign k foreign = by foreign.1
    where
      by : Breaks v k → ⊥
      by (inl gap) = no_root_lacks k foreign.0 gap
      by (inr (inl order)) = in_order k foreign.0 order
      by (inr (inr (inl differs))) = no_difference k differs
      by (inr (inr (inr (inl chunk)))) = no_chunk_lacks k chunk
      by (inr (inr (inr (inr home)))) = no_home_lacks k foreign.0 home

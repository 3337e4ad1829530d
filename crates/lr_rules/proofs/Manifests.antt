-- The calls that put manifests keep the depot safe, whichever way the put came out, and so do settled doubts.
use Rattle.std.proofs.Common.{◌≡◌, ◌≢◌, ◌≤◌, ◌<◌, ℕ, List, Option, Some, None, IsSome, refl, sym, ap, subst, ◌∙◌, inl, inr, arith}
use mathlib.Core.Logic.{◌⊎◌}
use Rattle.std.specs.FinMap as fin
use Rattle.std.specs.FinMap.{FinMap}
use Rattle.std.specs.Ordering.{nat_cmp}
use Rattle.lr_manifest.specs.Manifest.{ManifestFields, IsManifest}
use Rattle.lr_origin.specs.Text.{IsKind}
use Rattle.lr_origin.specs.declared.key.KeyKind.{KeyKind}
use Rattle.lr_origin.specs.declared.key.KeyKind.TheVariants.{Root, Expired, Deleted, Chunk, Manifest, Withdrawn}
use Rattle.lr_roots.specs.View.{View, Held, salt, manifest, bare, Has, Lacks}
use Rattle.lr_roots.specs.Roots.{IsComplete}
use Rattle.lr_roots.specs.Names.{number_of}
use Rattle.lr_roots.specs.Sound.{maker_of, IsNumbered, Suits}
use Rattle.lr_rules.specs.Known.{Settles, Always, Serves, accepted, doubting, dismissed}
use Rattle.lr_rules.specs.State.{Creates, Moves, Session, Desk, State, Holds, Less}
use Rattle.lr_rules.specs.Safe.{Works, IsGood, IsSafe}
use Rattle.lr_rules.specs.Calls.{knows, MayMake, MayMove, MaySettle, made, making, settled_there, ended}
use Rattle.lr_rules.proofs.Keys.{no_some, cases_key, cases_n, at_key, at_other, gone_n, gone_other_n}
use Rattle.lr_rules.proofs.Outcomes.{not_both, is_some, view_settles, one_settles, put_accepted, put_doubting, again_accepted, settled_absent}
use Rattle.lr_rules.proofs.Sound.{still_serves}
use Rattle.lr_rules.proofs.Good.{less_good, manifest_good}
use Rattle.lr_rules.proofs.Facts.{whole_there}
use Rattle.lr_rules.proofs.Doubts.{same_some, KeepsServing, still_unsure, accepted_agrees, doubting_agrees, dismissed_agrees, accepted_whole, doubting_whole, dismissed_whole, accepted_listed, doubting_listed, dismissed_listed}
use Rattle.lr_rules.proofs.Calls.{all_sound, view_good, knows_safe, again_safe}

pub same_fields : (m p : ManifestFields) → manifest m ≡ manifest p → m ≡ p
same_fields m p e = cc

same_root : (b c : ℕ) (i : List ℕ) (q r e d : ℕ) → ◌≡◌ {A = Option Session} (Some (record { caller = b; job = Creates i q e })) (Some (record { caller = c; job = Creates i r d })) → q ≡ r
same_root b c i q r e d f = let g : Creates i q e ≡ Creates i r d = ap (λ x. x.job) (same_some (record { caller = b; job = Creates i q e }) (record { caller = c; job = Creates i r d }) f) in cc

-- one session fewer
pub fewer : (sessions : FinMap nat_cmp Session) (n m : ℕ) (j : Session) → fin.get (fin.remove sessions n) m ≡ Some j → (m ≢ n) × (fin.get sessions m ≡ Some j)
fewer sessions n m j e = by (cases_n m n)
  where
    by : (m ≡ n) ⊎ (m ≢ n) → (m ≢ n) × (fin.get sessions m ≡ Some j)
    by (inl f) = absurd (not_both _ j (ap (fin.get (fin.remove sessions n)) f ∙ gone_n sessions n) e)
    by (inr ne) = (ne, sym (gone_other_n sessions n m ne) ∙ e)

pub ended_fewer : (sessions : FinMap nat_cmp Session) (o : Option ℕ) (k : ℕ) (j : Session) → fin.get (ended sessions o) k ≡ Some j → fin.get sessions k ≡ Some j
ended_fewer sessions None k j e = e
ended_fewer sessions (Some n) k j e = (fewer sessions n k j e).1

module _ (s : State) (h : IsSafe s) where
  -- a manifest leaves roots as they are
  serve_listed : (r : ℕ) (image : List ℕ) (m : ManifestFields) (q : ℕ) (v : View) → Settles s.known v → Serves v q → Serves (fin.insert v (Manifest r image) (manifest m)) q
  serve_listed r image m q v t = still_serves v (Manifest r image) (manifest m) q (λ e. cc) (λ e. cc)

  -- A manifest is acknowledged or found there, and the sessions that remain make no manifest of its key.
  module _ (r : ℕ) (image : List ℕ) (m : ManifestFields) (sessions : FinMap nat_cmp Session)
      (good : Always (accepted s.known (Manifest r image) (manifest m)) (IsGood s.desk))
      (serving : KeepsServing s.known (accepted s.known (Manifest r image) (manifest m)))
      (sub : (n : ℕ) (j : Session) → fin.get sessions n ≡ Some j → fin.get s.desk.sessions n ≡ Some j)
      (none : (n c d : ℕ) → fin.get sessions n ≡ Some (record { caller = c; job = Creates image r d }) → ⊥) where
    abbrev desk : Desk
    desk = record s.desk { sessions = sessions }

    less : Less s.desk desk
    less = record { leases = λ n l e. e; sessions = sub; makers = refl; next_lease = refl; next_session = refl; next_number = refl }

    fresh : (n c : ℕ) (i : List ℕ) (q d : ℕ) → fin.get sessions n ≡ Some (record { caller = c; job = Creates i q d }) → (Manifest q i ≡ Manifest r image) ⊎ (Manifest q i ≢ Manifest r image) → Lacks (fin.insert s.known.view (Manifest r image) (manifest m)) (Manifest q i)
    fresh n c i q d j (inl e) = let f : q ≡ r = cc in let g : i ≡ image = cc in absurd (none n c d (subst (λ i. fin.get sessions n ≡ Some (record { caller = c; job = Creates i r d })) g (subst (λ q. fin.get sessions n ≡ Some (record { caller = c; job = Creates i q d })) f j)))
    fresh n c i q d j (inr ne) = at_other s.known.view (Manifest r image) (manifest m) (Manifest q i) ne ∙ h.fresh n c i q d (sub n _ j)

    session : (n : ℕ) (o : Option Session) → fin.get sessions n ≡ o → IsSome o → IsSome (fin.get s.desk.sessions n)
    session n None f has = absurd cc
    session n (Some x) f has = is_some _ x (sub n x f)

    manifest_known : IsSafe (record { known = accepted s.known (Manifest r image) (manifest m); desk = record s.desk { sessions = sessions } })
    manifest_known = record {
      good = λ v t. less_good s.desk desk v less (good v t);
      agrees = accepted_agrees s.known (Manifest r image) (manifest m) h.agrees;
      doubted = accepted_whole s.known (Manifest r image) (manifest m) h.doubted serving;
      withdrawing = accepted_listed s.known (Manifest r image) (manifest m) h.withdrawing;
      named = λ n c i q d j. h.named n c i q d (sub n _ j);
      fresh = λ n c i q d j. fresh n c i q d j (cases_key (Manifest q i) (Manifest r image));
      alone = λ n k b c i q p d a x y. h.alone n k b c i q p d a (sub n _ x) (sub k _ y);
      lease_numbers = h.lease_numbers;
      few = h.few;
      first_lease = h.first_lease;
      first_session = h.first_session;
      first_number = h.first_number;
      session_numbers = λ n some. h.session_numbers n (session n (fin.get sessions n) refl some);
      drawn = λ n c i q d j. h.drawn n c i q d (sub n _ j);
      made = λ n c i q d j some. h.made n c i q d (sub n _ j) (still_unsure s.known (Manifest r image) (manifest m) (Manifest q i) some);
    }

  -- A manifest's put failed: the session is its maker, and it makes no manifest of another root in doubt.
  module _ (n : ℕ) (image : List ℕ) (r : ℕ) (m : ManifestFields) (away : Lacks s.known.view (Manifest r image)) (sure : fin.get s.known.doubts (Manifest r image) ≡ None)
      (step : (v : View) → Settles s.known v → IsGood s.desk v → IsGood s.desk (fin.insert v (Manifest r image) (manifest m)))
      (serves : (v : View) → Settles s.known v → Serves v r) (whole : IsComplete s.known.view r m)
      (own : (k b e : ℕ) → Holds s k b (Creates image r e) → k ≡ n) where
    serve_doubting : KeepsServing s.known (doubting s.known (Manifest r image) (manifest m))
    serve_doubting q i p e all = put_doubting s.known (Manifest r image) (manifest m) away sure (λ v. Serves v q) (λ v. Serves v q) all (λ v t g. g) (serve_listed r image m q)

    serve_own : Always (doubting s.known (Manifest r image) (manifest m)) (λ v. Serves v r)
    serve_own = put_doubting s.known (Manifest r image) (manifest m) away sure (λ v. Serves v r) (λ v. Serves v r) serves (λ v t g. g) (serve_listed r image m r)

    maker : (k b : ℕ) (i : List ℕ) (q e : ℕ) → Holds s k b (Creates i q e) → IsSome (fin.get (fin.insert s.known.doubts (Manifest r image) (manifest m)) (Manifest q i)) → (Manifest q i ≡ Manifest r image) ⊎ (Manifest q i ≢ Manifest r image) → fin.get (fin.insert s.desk.makers (Manifest r image) n) (Manifest q i) ≡ Some k
    maker k b i q e j some (inl f) =
        let x : i ≡ image = cc in let y : q ≡ r = cc in
        let same : k ≡ n = own k b e (subst (λ i. Holds s k b (Creates i r e)) x (subst (λ q. Holds s k b (Creates i q e)) y j)) in
        ap (fin.get (fin.insert s.desk.makers (Manifest r image) n)) f ∙ at_key s.desk.makers (Manifest r image) n ∙ ap Some (sym same)
    maker k b i q e j some (inr ne) = at_other s.desk.makers (Manifest r image) n (Manifest q i) ne ∙ h.made k b i q e j (subst IsSome (at_other s.known.doubts (Manifest r image) (manifest m) (Manifest q i) ne) some)

    manifest_doubted : IsSafe (making s n image r m)
    manifest_doubted = record {
      good = λ v t. let g : IsGood s.desk v = put_doubting s.known (Manifest r image) (manifest m) away sure (IsGood s.desk) (IsGood s.desk) h.good (λ v t g. g) step v t in record { sound = g.sound; leased = g.leased; works = g.works; numbered = g.numbered };
      agrees = doubting_agrees s.known (Manifest r image) (manifest m) h.agrees (inl away);
      doubted = doubting_whole s.known (Manifest r image) (manifest m) h.doubted serve_doubting (λ q i p e f lacks.
          let x : q ≡ r = cc in let y : m ≡ p = same_fields m p f in
          subst (λ q. Always (doubting s.known (Manifest r image) (manifest m)) (λ v. Serves v q) × IsComplete s.known.view q p) (sym x) (serve_own, subst (IsComplete s.known.view r) y whole));
      withdrawing = doubting_listed s.known (Manifest r image) (manifest m) h.withdrawing (λ i e. absurd cc);
      named = h.named;
      fresh = h.fresh;
      alone = h.alone;
      lease_numbers = h.lease_numbers;
      session_numbers = h.session_numbers;
      few = h.few;
      first_lease = h.first_lease;
      first_session = h.first_session;
      first_number = h.first_number;
      drawn = h.drawn;
      made = λ k b i q e j some. maker k b i q e j some (cases_key (Manifest q i) (Manifest r image));
    }

  -- the manifest of a creation
  module _ (n c : ℕ) (image : List ℕ) (r d : ℕ) (m : ManifestFields) (may : MayMake s n c image r d m) where
    own_works : (v : View) → Settles s.known v → Works v (Creates image r d)
    own_works v t = (h.good v t).works n _ may.session

    view_works : Works s.known.view (Creates image r d)
    view_works = own_works s.known.view (view_settles s.known h.agrees)

    away : Lacks s.known.view (Manifest r image)
    away = h.fresh n c image r d may.session

    none_there : (v : View) → Settles s.known v → (q : ℕ) → Has v (Manifest q image) → ⊥
    none_there v t q has = no_some _ (t.known (Manifest r image) may.sure ∙ away) (subst (λ q. Has v (Manifest q image)) ((own_works v t).1 q has) has)

    root_kind : (1 ≤ r) × (r ≤ 1000)
    root_kind = (view_good s h).sound.keys (Root r) view_works.0.0

    numbers : IsNumbered r m
    numbers =
        let e : maker_of m ≡ r = may.root in let f : number_of m ≡ d = may.number in
        let b : (1 ≤ d) × (d < s.desk.next_number) = h.drawn n c image r d may.session in
        let most : s.desk.next_number ≤ 9223372036854775808 = h.few in
        record { first = omega (arith, e, root_kind.0); own = omega (arith, e); least = omega (arith, f, b.0); most = omega (arith, f, b.1, most) }

    only_one : (k b : ℕ) (q e : ℕ) → fin.get s.desk.sessions k ≡ Some (record { caller = b; job = Creates image q e }) → q ≡ r
    only_one k b q e j =
        let f : k ≡ n = h.alone k n b c image q r e d j may.session in
        same_root b c image q r e d (sym j ∙ ap (fin.get s.desk.sessions) f ∙ may.session)

    make_step : (v : View) → Settles s.known v → IsGood s.desk v → IsGood s.desk (fin.insert v (Manifest r image) (manifest m))
    make_step v t g = manifest_good s.desk v g r image m (root_kind, h.named n c image r d may.session) (own_works v t).0
        (whole_there s.known h.agrees v t r m view_works.0.1 may.whole)
        (λ q y e. absurd (none_there v t q (is_some _ y e)))
        (may.kind, numbers) (subst (λ a. a < s.desk.next_number) (sym may.number) (h.drawn n c image r d may.session).1)
        (inl (none_there v t)) only_one

    pub make_safe : IsSafe (made s n image r m)
    make_safe = manifest_known r image m (fin.remove s.desk.sessions n)
        (put_accepted s.known (Manifest r image) (manifest m) away may.sure (IsGood s.desk) (IsGood s.desk) h.good make_step)
        (λ q i p e all. put_accepted s.known (Manifest r image) (manifest m) away may.sure (λ v. Serves v q) (λ v. Serves v q) all (serve_listed r image m q))
        (λ k j e. (fewer s.desk.sessions n k j e).1)
        (λ k b e j. let f : (k ≢ n) × (fin.get s.desk.sessions k ≡ Some (record { caller = b; job = Creates image r e })) = fewer s.desk.sessions n k _ j in f.0 (h.alone k n b c image r r e d f.1 may.session))

    pub making_safe : IsSafe (making s n image r m)
    making_safe = manifest_doubted n image r m away may.sure make_step (λ v t. (own_works v t).0) may.whole (λ k b e j. h.alone k n b c image r r e d j may.session)

  -- the manifest of a move
  module _ (n c : ℕ) (image : List ℕ) (from to : ℕ) (m : ManifestFields) (may : MayMove s n c image from to m) where
    moves : (v : View) → Settles s.known v → Works v (Moves image from to m)
    moves v t = (h.good v t).works n _ may.session

    known : Works s.known.view (Moves image from to m)
    known = moves s.known.view (view_settles s.known h.agrees)

    pub none_yet : Lacks s.known.view (Manifest to image)
    none_yet = may.home.greatest to known.3 (known.1.0, known.1.1)

    all_same : (v : View) → Settles s.known v → (q : ℕ) (y : Held) → fin.get v (Manifest q image) ≡ Some y → y ≡ manifest m
    all_same v t q y e = (h.good v t).sound.one_manifest image q from y (manifest m) e (moves v t).2

    -- no creation has the image
    no_creation : (k b q e : ℕ) → fin.get s.desk.sessions k ≡ Some (record { caller = b; job = Creates image q e }) → ⊥
    no_creation k b q e j =
        let w : Works s.known.view (Creates image q e) = (view_good s h).works k _ j in
        let f : from ≡ q = w.1 from (is_some _ (manifest m) known.2) in
        not_both _ (manifest m) (h.fresh k b image q e j) (subst (λ q. fin.get s.known.view (Manifest q image) ≡ Some (manifest m)) f known.2)

    to_kind : IsKind (Manifest to image)
    to_kind =
        let k : IsKind (Manifest from image) = (view_good s h).sound.keys (Manifest from image) (is_some _ (manifest m) known.2) in
        let r : (1 ≤ to) × (to ≤ 1000) = (view_good s h).sound.keys (Root to) known.1.0 in
        (r, k.1)

    move_step : (v : View) → Settles s.known v → IsGood s.desk v → IsGood s.desk (fin.insert v (Manifest to image) (manifest m))
    move_step v t g =
        let w : Works v (Moves image from to m) = moves v t in
        let f : IsManifest m × IsNumbered from m = g.sound.fits (Manifest from image) (manifest m) w.2 in
        let b : IsNumbered from m = f.1 in
        manifest_good s.desk v g to image m to_kind w.1
        (whole_there s.known h.agrees v t to m known.1.1 may.whole)
        (all_same v t)
        (f.0, record { first = b.first; own = omega (arith, b.own, w.3); least = b.least; most = b.most })
        (g.numbered from image m w.2)
        (inr (from, is_some _ (manifest m) w.2))
        (λ k b q e j. absurd (no_creation k b q e j))

    pub move_safe : IsSafe (made s n image to m)
    move_safe = manifest_known to image m (fin.remove s.desk.sessions n)
        (put_accepted s.known (Manifest to image) (manifest m) none_yet may.sure (IsGood s.desk) (IsGood s.desk) h.good move_step)
        (λ q i p e all. put_accepted s.known (Manifest to image) (manifest m) none_yet may.sure (λ v. Serves v q) (λ v. Serves v q) all (serve_listed to image m q))
        (λ k j e. (fewer s.desk.sessions n k j e).1)
        (λ k b e j. no_creation k b to e (fewer s.desk.sessions n k _ j).1)

    pub moving_safe : IsSafe (making s n image to m)
    moving_safe = manifest_doubted n image to m none_yet may.sure move_step (λ v t. (moves v t).1) may.whole (λ k b e j. absurd (no_creation k b to e j))

  -- a settled manifest was there
  there_manifest : (r : ℕ) (image : List ℕ) (m : ManifestFields) → MaySettle s (Manifest r image) (manifest m) → IsSafe (settled_there s (Manifest r image) (manifest m))
  there_manifest r image m may = manifest_known r image m (ended s.desk.sessions (fin.get s.desk.makers (Manifest r image)))
      (again_accepted s.known (Manifest r image) (manifest m) may.here (IsGood s.desk) h.good)
      (λ q i p e. again_accepted s.known (Manifest r image) (manifest m) may.here (λ v. Serves v q))
      (ended_fewer s.desk.sessions (fin.get s.desk.makers (Manifest r image)))
      (λ k b e j. none (fin.get s.desk.makers (Manifest r image)) refl k b e j)
    where
      none : (o : Option ℕ) → fin.get s.desk.makers (Manifest r image) ≡ o → (k c d : ℕ) → fin.get (ended s.desk.sessions o) k ≡ Some (record { caller = c; job = Creates image r d }) → ⊥
      none None f k c d e = not_both _ k f (h.made k c image r d e (is_some _ (manifest m) may.here))
      none (Some n) f k c d e =
          let g : (k ≢ n) × (fin.get s.desk.sessions k ≡ Some (record { caller = c; job = Creates image r d })) = fewer s.desk.sessions n k _ e in
          g.0 (same_some k n (sym (h.made k c image r d g.1 (is_some _ (manifest m) may.here)) ∙ f))

  -- what is in doubt is of its key's kind
  pub doubt_suits : (k : KeyKind) (x : Held) → fin.get s.known.doubts k ≡ Some x → Suits k x
  doubt_suits k x here = (all_sound s h _ (one_settles s.known k x h.agrees here)).fits k x (at_key s.known.view k x)

  pub there_safe : (k : KeyKind) (x : Held) → MaySettle s k x → IsSafe (settled_there s k x)
  there_safe (Manifest r image) (manifest m) may = there_manifest r image m may
  there_safe (Manifest r image) (salt b) may = absurd (doubt_suits (Manifest r image) (salt b) may.here)
  there_safe (Manifest r image) bare may = absurd (doubt_suits (Manifest r image) bare may.here)
  there_safe (Root r) x may = again_safe s h (Root r) x (λ q n e. cc) may.here
  there_safe (Expired r) x may = again_safe s h (Expired r) x (λ q n e. cc) may.here
  there_safe (Deleted r) x may = again_safe s h (Deleted r) x (λ q n e. cc) may.here
  there_safe (Chunk r n) x may = again_safe s h (Chunk r n) x (λ q n e. cc) may.here
  there_safe (Withdrawn n) x may = again_safe s h (Withdrawn n) x (λ q n e. cc) may.here

  -- a settled doubt wasn't there
  pub absent_safe : (k : KeyKind) (x : Held) → MaySettle s k x → IsSafe (knows s (dismissed s.known k))
  absent_safe k x may = knows_safe s h (dismissed s.known k)
      (settled_absent s.known k x may.here (IsGood s.desk) may.absent h.good)
      (dismissed_agrees s.known k x h.agrees)
      (dismissed_whole s.known k x h.doubted (λ r i m e. settled_absent s.known k x may.here (λ v. Serves v r) may.absent))
      (dismissed_listed s.known k x h.withdrawing)
      (λ n c i r d j. (h.fresh n c i r d j, still_unsure s.known k x (Manifest r i)))

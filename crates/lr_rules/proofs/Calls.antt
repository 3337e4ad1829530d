-- Each call that leaves leases and sessions keeps the depot safe, whichever way its put or deletion came out.
use Rattle.std.proofs.Common.{◌≡◌, ◌≢◌, ◌+◌, ℕ, List, Some, None, IsSome, sym, ap, subst, ◌∙◌, inl, inr, arith}
use Rattle.std.specs.FinMap as fin
use Rattle.lr_origin.specs.Text.{IsKind}
use Rattle.lr_origin.specs.declared.key.KeyKind.{KeyKind}
use Rattle.lr_origin.specs.declared.key.KeyKind.TheVariants.{Root, Expired, Deleted, Chunk, Manifest, Withdrawn}
use Rattle.lr_roots.specs.View.{View, Held, salt, bare, Has, Lacks}
use Rattle.lr_roots.specs.Roots.{IsHome, IsHomed}
use Rattle.lr_roots.specs.Sound.{IsSound}
use Rattle.lr_rules.specs.Known.{Known, Settles, Always, Agrees, Serves, IsItemOf, accepted, doubting, removed}
use Rattle.lr_rules.specs.State.{Job, Creates, Moves, State, Holds, target}
use Rattle.lr_rules.specs.Safe.{Works, IsGood, IsSafe}
use Rattle.lr_rules.specs.Calls.{knows, IsNew, MayRotate, MayPut, MayWithdraw, MayExpire, MayDelete, MaySweep}
use Rattle.lr_rules.proofs.Keys.{no_some, cases_key, at_other}
use Rattle.lr_rules.proofs.Outcomes.{not_both, is_some, view_settles, put_accepted, put_doubting, again_accepted, deleted_away, deleted_doubting}
use Rattle.lr_rules.proofs.Sound.{lacks_or_has, still_serves, serves_left, left_out}
use Rattle.lr_rules.proofs.Good.{root_good, chunk_good, withdrawn_good, deleted_good, expired_good, removed_good}
use Rattle.lr_rules.proofs.Facts.{certain, root_there, expired_there, kept_known, never_home, settled_roots}
use Rattle.lr_rules.proofs.Doubts.{AreWhole, AreListed, KeepsServing, still_unsure, accepted_agrees, doubting_agrees, removed_agrees, accepted_whole, doubting_whole, removed_whole, accepted_listed, doubting_listed, removed_listed}

module _ (s : State) (h : IsSafe s) where
  pub all_sound : Always s.known IsSound
  all_sound v t = (h.good v t).sound

  pub view_good : IsGood s.desk s.known.view
  view_good = h.good s.known.view (view_settles s.known h.agrees)

  -- other knowledge, under the same leases and sessions
  pub knows_safe : (t : Known) → Always t (IsGood s.desk) → Agrees t → AreWhole t → AreListed t
      → ((n c : ℕ) (i : List ℕ) (r d : ℕ) → Holds s n c (Creates i r d) → Lacks t.view (Manifest r i) × (IsSome (fin.get t.doubts (Manifest r i)) → IsSome (fin.get s.known.doubts (Manifest r i))))
      → IsSafe (knows s t)
  knows_safe t good agrees whole listed own = record {
    good = good;
    agrees = agrees;
    doubted = whole;
    withdrawing = listed;
    named = h.named;
    fresh = λ n c i r d j. (own n c i r d j).0;
    alone = h.alone;
    lease_numbers = h.lease_numbers;
    session_numbers = h.session_numbers;
    few = h.few;
    first_lease = h.first_lease;
    first_session = h.first_session;
    first_number = h.first_number;
    drawn = h.drawn;
    made = λ n c i r d j some. h.made n c i r d j ((own n c i r d j).1 some);
  }

  -- A put of a key that is no manifest: known, in doubt, and tried again
  module _ (k : KeyKind) (x : Held) (none : (r : ℕ) (i : List ℕ) → Manifest r i ≢ k) where
    known_safe : Always (accepted s.known k x) (IsGood s.desk) → KeepsServing s.known (accepted s.known k x) → IsSafe (knows s (accepted s.known k x))
    known_safe good serving = knows_safe (accepted s.known k x) good (accepted_agrees s.known k x h.agrees) (accepted_whole s.known k x h.doubted serving) (accepted_listed s.known k x h.withdrawing)
        (λ n c i r d j. (at_other s.known.view k x (Manifest r i) (none r i) ∙ h.fresh n c i r d j, still_unsure s.known k x (Manifest r i)))

    pub again_safe : fin.get s.known.doubts k ≡ Some x → IsSafe (knows s (accepted s.known k x))
    again_safe here = known_safe (again_accepted s.known k x here (IsGood s.desk) h.good) (λ r i m e. again_accepted s.known k x here (λ v. Serves v r))

    module _ (new : IsNew s k)
        (step : (v : View) → Settles s.known v → IsGood s.desk v → IsGood s.desk (fin.insert v k x))
        (serve : (r : ℕ) (i : List ℕ) → IsSome (fin.get s.known.doubts (Manifest r i)) → (v : View) → Settles s.known v → Serves v r → Serves (fin.insert v k x) r)
        (mark : (i : List ℕ) → Withdrawn i ≡ k → (q : ℕ) × Has s.known.view (Manifest q i)) where
      pub accepted_safe : IsSafe (knows s (accepted s.known k x))
      accepted_safe = known_safe (put_accepted s.known k x new.absent new.sure (IsGood s.desk) (IsGood s.desk) h.good step)
          (λ r i m e all. put_accepted s.known k x new.absent new.sure (λ v. Serves v r) (λ v. Serves v r) all (serve r i (is_some _ _ e)))

      pub doubting_safe : IsSafe (knows s (doubting s.known k x))
      doubting_safe = knows_safe (doubting s.known k x)
          (put_doubting s.known k x new.absent new.sure (IsGood s.desk) (IsGood s.desk) h.good (λ v t g. g) step)
          (doubting_agrees s.known k x h.agrees (inl new.absent))
          (doubting_whole s.known k x h.doubted
          (λ r i m e all. put_doubting s.known k x new.absent new.sure (λ v. Serves v r) (λ v. Serves v r) all (λ v t g. g) (serve r i (is_some _ _ e)))
          (λ r i m e f away. absurd (none r i e)))
          (doubting_listed s.known k x h.withdrawing mark)
          (λ n c i r d j. (h.fresh n c i r d j, λ some. subst IsSome (at_other s.known.doubts k x (Manifest r i) (none r i)) some))

      pub both_safe : IsSafe (knows s (accepted s.known k x)) × IsSafe (knows s (doubting s.known k x))
      both_safe = (accepted_safe, doubting_safe)

  -- a new root
  module _ (n : ℕ) (bytes : List ℕ) (may : MayRotate s n bytes) where
    next_new : IsNew s (Root (n + 1))
    next_new = record { absent = elim (lacks_or_has s.known.view (Root (n + 1))) [ inl away ↦ away | inr here ↦ absurd (omega (arith, (may.roots.1 (n + 1) here).1)) ]; sure = may.sure }

    rotate_step : (v : View) → Settles s.known v → IsGood s.desk v → IsGood s.desk (fin.insert v (Root (n + 1)) (salt bytes))
    rotate_step v t g = root_good s.desk v g n bytes may.suits may.few (settled_roots s.known h.agrees all_sound n may.roots may.sure v t)

    pub rotate_safe : IsSafe (knows s (accepted s.known (Root (n + 1)) (salt bytes))) × IsSafe (knows s (doubting s.known (Root (n + 1)) (salt bytes)))
    rotate_safe = both_safe (Root (n + 1)) (salt bytes) (λ r i e. cc) next_new rotate_step (λ r i some v t. still_serves v (Root (n + 1)) (salt bytes) r (λ e. cc) (λ e. cc)) (λ i e. absurd cc)

  -- a chunk of a session
  module _ (n c : ℕ) (j : Job) (name : List ℕ) (may : MayPut s n c j (Chunk (target j) name)) where
    target_there : (v : View) → Works v j → Has v (Root (target j))
    target_there v w = by j w
      where
        by : (j : Job) → Works v j → Has v (Root (target j))
        by (Creates i r d) w = w.0.0
        by (Moves i from to m) w = w.1.0

    chunk_step : (v : View) → Settles s.known v → IsGood s.desk v → IsGood s.desk (fin.insert v (Chunk (target j) name) bare)
    chunk_step v t g = chunk_good s.desk v g (target j) name may.kind (target_there v (g.works n _ may.session))

    pub chunk_safe : fin.get s.known.doubts (Chunk (target j) name) ≡ None → IsSafe (knows s (accepted s.known (Chunk (target j) name) bare)) × IsSafe (knows s (doubting s.known (Chunk (target j) name) bare))
    chunk_safe sure = both_safe (Chunk (target j) name) bare (λ r i e. cc) (record { absent = may.absent; sure = sure }) chunk_step (λ r i some v t. still_serves v (Chunk (target j) name) bare r (λ e. cc) (λ e. cc)) (λ i e. absurd cc)

  -- a withdrawal
  module _ (image : List ℕ) (may : MayWithdraw s image) where
    listed_kind : IsKind (Withdrawn image)
    listed_kind = let k : IsKind (Manifest may.listed.0 image) = view_good.sound.keys (Manifest may.listed.0 image) may.listed.2 in k.1

    listed_image : (i : List ℕ) → Withdrawn i ≡ Withdrawn image → (q : ℕ) × Has s.known.view (Manifest q i)
    listed_image i e = let f : i ≡ image = cc in (may.listed.0, subst (λ i. Has s.known.view (Manifest may.listed.0 i)) (sym f) may.listed.2)

    pub withdraw_safe : fin.get s.known.doubts (Withdrawn image) ≡ None → IsSafe (knows s (accepted s.known (Withdrawn image) bare)) × IsSafe (knows s (doubting s.known (Withdrawn image) bare))
    withdraw_safe sure = both_safe (Withdrawn image) bare (λ r i e. cc) (record { absent = may.kept; sure = sure }) (λ v t g. withdrawn_good s.desk v g image listed_kind) (λ r i some v t. still_serves v (Withdrawn image) bare r (λ e. cc) (λ e. cc)) listed_image

  -- an expired root is deleted
  module _ (r : ℕ) (may : MayDelete s r) where
    delete_step : (v : View) → Settles s.known v → IsGood s.desk v → IsGood s.desk (fin.insert v (Deleted r) bare)
    delete_step v t g = deleted_good s.desk v g r (root_there s.known h.agrees v t r may.root) (expired_there s.known h.agrees v t r may.expired)

    serve_deleted : (q : ℕ) (v : View) → Settles s.known v → Serves v q → Serves (fin.insert v (Deleted r) bare) q
    serve_deleted q v t w = still_serves v (Deleted r) bare q (λ e. let f : q ≡ r = cc in no_some _ w.2 (subst (λ q. Has v (Expired q)) (sym f) (expired_there s.known h.agrees v t r may.expired))) (λ e. cc) w

    pub delete_safe : fin.get s.known.doubts (Deleted r) ≡ None → IsSafe (knows s (accepted s.known (Deleted r) bare)) × IsSafe (knows s (doubting s.known (Deleted r) bare))
    delete_safe sure = both_safe (Deleted r) bare (λ r i e. cc) (record { absent = may.live; sure = sure }) delete_step (λ q i some. serve_deleted q) (λ i e. absurd cc)

  -- a root expires
  module _ (r : ℕ) (may : MayExpire s r) where
    image_homed : (image : List ℕ) (v : View) → Settles s.known v → IsHome v image r → Lacks s.known.view (Withdrawn image) → IsHomed s.known.view image
    image_homed image v t home kept = view_good.sound.homed image r (subst IsSome (t.known (Manifest r image) (may.sure image)) home.listed) kept

    expire_step : (v : View) → Settles s.known v → IsGood s.desk v → IsGood s.desk (fin.insert v (Expired r) bare)
    expire_step v t g = expired_good s.desk v g r (root_there s.known h.agrees v t r may.root) (root_there s.known h.agrees v t (r + 1) may.next)
        (λ i kept home. let known : Lacks s.known.view (Withdrawn i) = kept_known s.known h.agrees v t i kept in
        never_home s.known h.agrees all_sound i r may.root may.live (may.sure i) (image_homed i v t home known) (may.unserved i known) v t home)
        (λ n i m lease home. never_home s.known h.agrees all_sound i r may.root may.live (may.sure i) (view_good.leased n i m lease).0 (may.unleased n i m lease) v t home)
        may.free

    serve_expired : (q : ℕ) (i : List ℕ) → IsSome (fin.get s.known.doubts (Manifest q i)) → (v : View) → Settles s.known v → Serves v q → Serves (fin.insert v (Expired r) bare) q
    serve_expired q i some v t = still_serves v (Expired r) bare q (λ e. cc) (λ e. let f : q ≡ r = cc in no_some _ (may.sure i) (subst (λ q. IsSome (fin.get s.known.doubts (Manifest q i))) f some))

    pub expire_safe : fin.get s.known.doubts (Expired r) ≡ None → IsSafe (knows s (accepted s.known (Expired r) bare)) × IsSafe (knows s (doubting s.known (Expired r) bare))
    expire_safe sure = both_safe (Expired r) bare (λ r i e. cc) (record { absent = may.serving; sure = sure }) expire_step serve_expired (λ i e. absurd cc)

  -- a chunk or a manifest of a deleted root goes
  module _ (r : ℕ) (k : KeyKind) (x : Held) (may : MaySweep s r k x) where
    dead_there : (v : View) → Settles s.known v → Has v (Deleted r)
    dead_there v t = subst IsSome (sym (t.known (Deleted r) (certain s.known h.agrees (Deleted r) may.dead (λ q i d. i)))) may.dead

    sweep_step : (v : View) → Settles s.known v → IsGood s.desk v → IsGood s.desk (fin.remove v k)
    sweep_step v t g = removed_good s.desk v g k r may.item (dead_there v t)

    serve_swept : (q : ℕ) (v : View) → Settles s.known v → Serves v q → Serves (fin.remove v k) q
    serve_swept q v t = serves_left v k r (all_sound v t) may.item (dead_there v t) q

    pub sweep_safe : IsSafe (knows s (removed s.known k))
    sweep_safe = knows_safe (removed s.known k)
        (deleted_away s.known k x may.here h.agrees (IsGood s.desk) h.good sweep_step)
        (removed_agrees s.known k x h.agrees r may.item)
        (removed_whole s.known k x h.doubted h.agrees view_good.sound r may.item may.dead (λ q i m e all. deleted_away s.known k x may.here h.agrees (λ v. Serves v q) all (serve_swept q)))
        (removed_listed s.known k x h.withdrawing h.agrees view_good.sound r may.item may.dead)
        (λ n c i q d j. (left_out s.known.view k r view_good.sound may.item may.dead (Manifest q i) (h.fresh n c i q d j), still_unsure s.known k x (Manifest q i)))

    pub sweep_doubt_safe : IsSafe (knows s (doubting s.known k x))
    sweep_doubt_safe = knows_safe (doubting s.known k x)
        (deleted_doubting s.known k x may.here h.agrees (IsGood s.desk) h.good sweep_step)
        (doubting_agrees s.known k x h.agrees (inr (may.here, (r, may.item, may.dead))))
        (doubting_whole s.known k x h.doubted
        (λ q i m e all. deleted_doubting s.known k x may.here h.agrees (λ v. Serves v q) all (serve_swept q))
        (λ q i m e f away. absurd (not_both _ x (ap (fin.get s.known.view) (sym e) ∙ away) may.here)))
        (doubting_listed s.known k x h.withdrawing (λ i e. absurd (subst (IsItemOf r) (sym e) may.item)))
        (λ n c i q d j. (
          h.fresh n c i q d j,
          λ some. elim (cases_key (Manifest q i) k) [
            | inl e ↦ absurd (not_both _ x (h.fresh n c i q d j) (ap (fin.get s.known.view) e ∙ may.here))
            | inr ne ↦ subst IsSome (at_other s.known.doubts k x (Manifest q i) ne) some
          ],
        ))

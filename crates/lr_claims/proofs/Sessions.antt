-- A caller's sessions rest on its own entries.
use Rattle.std.proofs.Common.{◌≡◌, ◌≢◌, ◌<◌, ℕ, ◌+◌, List, [], ◌∷◌, Bool, true, false, not, cond, fold, Option, Some, None, refl, sym, ap, subst, ◌∙◌, inl, inr, arith, eqb-true, eq-eqb}
use Rattle.std.specs.Prelude.{◌==◌, ⊤}
use mathlib.Core.Logic.{◌⊎◌}
use Rattle.std.specs.Arc.{arc_value}
use Rattle.std.specs.Ordering.{nat_cmp}
use Rattle.std.specs.FinMap as map
use Rattle.std.specs.FinMap.{FinMap, get-empty}
use Rattle.lr_object.specs.Own.{own_entries}
use Rattle.lr_origin.specs.Kind.{kind_cmp}
use Rattle.lr_origin.specs.declared.key.KeyKind.{KeyKind}
use Rattle.lr_origin.specs.declared.key.KeyKind.TheVariants as kind
use Rattle.lr_manifest.specs.declared.name.Name.{Name}
use Rattle.lr_roots.specs.View.{Held}
use Rattle.lr_rules.specs.State.{Job, Creates, Moves, Session, State, Holds, target}
use Rattle.lr_rules.specs.Safe.{IsSafe}
use Rattle.lr_rules.proofs.Keys.{at_n, other_n, gone_n, gone_other_n}
use Rattle.lr_rules.proofs.Outcomes.{not_both, is_some}
use Rattle.lr_rules.proofs.Start.{start_safe}
use Rattle.lr_depot.specs.declared.call.DepotNoted.{DepotNoted}
use Rattle.lr_depot.specs.declared.call.DepotNoted.TheVariants as noted
use Rattle.lr_depot.specs.declared.call.DepotTold.{DepotTold}
use Rattle.lr_depot.specs.declared.call.DepotTold.TheVariants as told
use Rattle.lr_depot.specs.Machine.{LogEntry, state_after, after_entry, run}
use Rattle.lr_depot.specs.Store.{IsRun}
use Rattle.lr_depot.specs.Begun.{Start}
use Rattle.lr_depot.specs.Depot.{first_state, state}
use Rattle.lr_depot.specs.Lasting.{DoubtsSession}
use Rattle.lr_depot.specs.Sessions.{is_another, without_caller}
use Rattle.lr_depot.proofs.Begun.{other_kept}
use Rattle.lr_depot.proofs.Cases.{IsStill, IsCalm, OfEach, of_each}
use Rattle.lr_depot.proofs.Drawing.{AreDrawnMakers, IsMaking, making_of}
use Rattle.lr_depot.proofs.Found.{found_sessions, found_stays}
use Rattle.lr_depot.proofs.Moved.{others_in, entry_safe}
use Rattle.lr_depot.proofs.Numbers.{get_retained}
use Rattle.lr_claims.specs.Sessions.{Standing, no_session, held, unsure, doubted, standing_after, standing_then, IsStanding, SessionsAreOnesOwn, Has, NoSessionIsOnesOwn}

abbrev Sessions : Type 0
Sessions = FinMap nat_cmp Session

-- the caller has the session, for this job
abbrev In : Sessions → ℕ → ℕ → Job → Type 0
In m n c job = map.get m n ≡ Some (record { caller = c; job = job })

abbrev IsUnsure : Standing → Type 0
IsUnsure (unsure job) = ⊤
IsUnsure st = ⊥

-- ---- one caller of a session

some_of : {X : Type 0} (x y : X) → Some x ≡ Some y → x ≡ y
some_of x y e = cc

one_caller : (m : Sessions) (n b c : ℕ) (i j : Job) → In m n b i → In m n c j → b ≡ c
one_caller m n b c i j h k = ap (λ (s : Session). s.caller) (some_of (record { caller = b; job = i }) (record { caller = c; job = j }) (sym h ∙ k))

one_job : (m : Sessions) (n c : ℕ) (i j : Job) → In m n c i → In m n c j → i ≡ j
one_job m n c i j h k = ap (λ (s : Session). s.job) (some_of (record { caller = c; job = i }) (record { caller = c; job = j }) (sym h ∙ k))

-- ---- standings that stay

keep : (m p : Sessions) (n c : ℕ) (st : Standing) → IsStanding m n c st → ((j : Job) → In p n c j → In m n c j) → ((j : Job) → st ≡ held j → In m n c j → In p n c j) → IsStanding p n c st
keep m p n c no_session k down up = λ j there. k j (down j there)
keep m p n c (held job) k down up = up job refl k
keep m p n c (unsure job) k down up = λ j there. k j (down j there)

doubt_keep : (m : Sessions) (n c : ℕ) (st : Standing) → IsStanding m n c st → IsStanding m n c (doubted st)
doubt_keep m n c no_session k = k
doubt_keep m n c (held job) k = λ j there. one_job m n c j job there k
doubt_keep m n c (unsure job) k = k

doubt_unsure : (st : Standing) → IsUnsure st → IsUnsure (doubted st)
doubt_unsure no_session u = absurd u
doubt_unsure (held job) u = absurd u
doubt_unsure (unsure job) u = u

-- a doubted session that is there is unsure
there_unsure : (m : Sessions) (n c : ℕ) (j : Job) (st : Standing) → IsStanding m n c (doubted st) → In m n c j → IsUnsure (doubted st)
there_unsure m n c j no_session k there = absurd (k j there)
there_unsure m n c j (held job) k there = tt
there_unsure m n c j (unsure job) k there = tt

-- ---- entries that begin or end no session

abbrev IsTame : DepotNoted → DepotTold → Type 0
IsTame (noted.BeginCreate image) (told.Began session root bytes number) = ⊥
IsTame (noted.BeginMigrate image) (told.Moving session from to m) = ⊥
IsTame (noted.PutManifest k m) (told.Made r) = ⊥
IsTame (noted.FinishMigrate k) (told.Moved from to) = ⊥
IsTame (noted.Abandon k) told.Abandoned = ⊥
IsTame noted.Reap told.Reaped = ⊥
IsTame call reply = ⊤

chosen : {X : Type 0} (P : X → Type 0) (b : Bool) (x y : X) → P x → P y → P (cond b x y)
chosen P true x y p q = p
chosen P false x y p q = q

tame : (i : DepotNoted) (t : DepotTold) → IsTame i t → (P : Standing → Type 0) (st : Standing) → P st → P (doubted st) → (n : ℕ) → P (standing_after n st i t)
tame (noted.BeginCreate image) (told.Began session root bytes number) h P st p d n = absurd h
tame (noted.BeginMigrate image) (told.Moving session from to m) h P st p d n = absurd h
tame (noted.PutManifest k m) (told.Made r) h P st p d n = absurd h
tame (noted.PutManifest k m) (told.Fault key) h P st p d n = chosen P (n == k) (doubted st) st d p
tame (noted.FinishMigrate k) (told.Moved from to) h P st p d n = absurd h
tame (noted.FinishMigrate k) (told.Fault key) h P st p d n = chosen P (n == k) (doubted st) st d p
tame (noted.Abandon k) told.Abandoned h P st p d n = absurd h
tame noted.Reap told.Reaped h P st p d n = absurd h
tame i t h P st p d n = p

tame_still : (i : DepotNoted) (t : DepotTold) → IsStill t → IsTame i t
tame_still (noted.BeginCreate image) (told.Began session root bytes number) q = absurd q
tame_still (noted.BeginMigrate image) (told.Moving session from to m) q = absurd q
tame_still (noted.PutManifest k m) (told.Made r) q = absurd q
tame_still (noted.FinishMigrate k) (told.Moved from to) q = absurd q
tame_still (noted.Abandon k) told.Abandoned q = absurd q
tame_still noted.Reap told.Reaped q = absurd q
tame_still i t q = tt

tame_calm : (i : DepotNoted) (t : DepotTold) → IsCalm t → IsTame i t
tame_calm (noted.BeginCreate image) (told.Began session root bytes number) q = absurd q
tame_calm (noted.BeginMigrate image) (told.Moving session from to m) q = absurd q
tame_calm (noted.PutManifest k m) (told.Made r) q = absurd q
tame_calm (noted.FinishMigrate k) (told.Moved from to) q = absurd q
tame_calm (noted.Abandon k) told.Abandoned q = absurd q
tame_calm noted.Reap told.Reaped q = absurd q
tame_calm i t q = tt

tame_fault : (i : DepotNoted) (k : KeyKind) → IsTame i (told.Fault k)
tame_fault (noted.BeginCreate image) k = tt
tame_fault (noted.BeginMigrate image) k = tt
tame_fault (noted.PutManifest n m) k = tt
tame_fault (noted.FinishMigrate n) k = tt
tame_fault (noted.Abandon n) k = tt
tame_fault noted.Reap k = tt
tame_fault i k = tt

-- ---- one entry

module _ (s : State) (b : ℕ) (h : IsSafe s) (st : ℕ → ℕ → Standing) (is : (c n : ℕ) → IsStanding s.desk.sessions n c (st c n))
    (made : (q : KeyKind) (n : ℕ) → map.get s.desk.makers q ≡ Some n → (c : ℕ) (j : Job) → Holds s n c j → IsUnsure (st c n)) where
  abbrev now : Sessions
  now = s.desk.sessions

  -- each caller's standing after the entry
  abbrev next : DepotNoted → DepotTold → ℕ → ℕ → Standing
  next i t c n = cond (b == c) (standing_after n (st c n) i t) (st c n)

  -- A standing is right, and that of a session that was unsure and is still there is unsure.
  abbrev Good : Sessions → ℕ → ℕ → Standing → Type 0
  Good p c n after = IsStanding p n c after × (IsUnsure (st c n) → (j k : Job) → In now n c j → In p n c k → IsUnsure after)

  abbrev AllGood : DepotNoted → DepotTold → Type 0
  AllGood i t = (c n : ℕ) → Good (state_after s b i t).desk.sessions c n (next i t c n)

  -- where the sessions stay
  same_good : (i : DepotNoted) (t : DepotTold) → IsTame i t → (c n : ℕ) → Good now c n (next i t c n)
  same_good i t k c n =
      let p : Good now c n (st c n) = (is c n, λ u x y old new. u) in
      let d : Good now c n (doubted (st c n)) = (doubt_keep now n c (st c n) (is c n), λ u x y old new. doubt_unsure (st c n) u) in
      chosen (Good now c n) (b == c) (standing_after n (st c n) i t) (st c n) (tame i t k (Good now c n) (st c n) p d n) p

  same_at : (i : DepotNoted) (t : DepotTold) → IsTame i t → (state_after s b i t).desk.sessions ≡ now → AllGood i t
  same_at i t k e c n = subst (λ (m : Sessions). Good m c n (next i t c n)) (sym e) (same_good i t k c n)

  -- a standing that stays, over sessions that are changed elsewhere
  stays : (p : Sessions) (c n : ℕ) → ((j : Job) → In p n c j → In now n c j) → ((j : Job) → st c n ≡ held j → In now n c j → In p n c j) → Good p c n (st c n)
  stays p c n down up = (keep now p n c (st c n) (is c n) down up, λ u x y old new. u)

  -- a session begins
  begins : (job : Job) (c n : ℕ) → Good (map.insert now s.desk.next_session (record { caller = b; job = job })) c n (cond (b == c) (cond (n == s.desk.next_session) (held job) (st c n)) (st c n))
  begins job c n = by (b == c) (n == s.desk.next_session) refl refl
    where
      p : Sessions
      p = map.insert now s.desk.next_session (record { caller = b; job = job })

      fresh : (j : Job) → n ≡ s.desk.next_session → In now n c j → ⊥
      fresh j e there = let f : n < s.desk.next_session = (h.session_numbers n (is_some _ _ there)).1 in absurd (omega (arith, e, f))

      new : n ≡ s.desk.next_session → map.get p n ≡ Some (record { caller = b; job = job })
      new e = ap (map.get p) e ∙ at_n now s.desk.next_session (record { caller = b; job = job })

      beside : n ≢ s.desk.next_session → Good p c n (st c n)
      beside ne =
          let e : map.get p n ≡ map.get now n = other_n now s.desk.next_session (record { caller = b; job = job }) n ne in
          stays p c n (λ j there. sym e ∙ there) (λ j k there. e ∙ there)

      apart : (x : Bool) → (n == s.desk.next_session) ≡ x → x ≡ false → n ≢ s.desk.next_session
      apart x e f same = absurd (cc (eq-eqb n s.desk.next_session same, e, f))

      by : (x y : Bool) → (b == c) ≡ x → (n == s.desk.next_session) ≡ y → Good p c n (cond x (cond y (held job) (st c n)) (st c n))
      by true true e f =
          (subst (λ k. In p n k job) (eqb-true b c e) (new (eqb-true n s.desk.next_session f)), λ u x y old there. absurd (fresh x (eqb-true n s.desk.next_session f) old))
      by true false e f = beside (apart false f refl)
      by false true e f =
          let same : n ≡ s.desk.next_session = eqb-true n s.desk.next_session f in
          stays p c n (λ j there. absurd (cc (eq-eqb b c (one_caller p n b c job j (new same) there), e))) (λ j k there. absurd (fresh j same there))
      by false false e f = beside (apart false f refl)

  -- the caller's session of this number ends
  ends : (k : ℕ) (i : Job) → Holds s k b i → (c n : ℕ) → Good (map.remove now k) c n (cond (b == c) (cond (n == k) no_session (st c n)) (st c n))
  ends k i own c n = by (b == c) (n == k) refl refl
    where
      p : Sessions
      p = map.remove now k

      gone : n ≡ k → (j : Job) → In p n c j → ⊥
      gone e j there = not_both (map.get p n) _ (ap (map.get p) e ∙ gone_n now k) there

      beside : n ≢ k → Good p c n (st c n)
      beside ne =
          let e : map.get p n ≡ map.get now n = gone_other_n now k n ne in
          stays p c n (λ j there. sym e ∙ there) (λ j q there. e ∙ there)

      apart : (n == k) ≡ false → n ≢ k
      apart f same = absurd (cc (eq-eqb n k same, f))

      by : (x y : Bool) → (b == c) ≡ x → (n == k) ≡ y → Good p c n (cond x (cond y no_session (st c n)) (st c n))
      by true true e f = ((λ j there. gone (eqb-true n k f) j there), λ u x y old there. absurd (gone (eqb-true n k f) y there))
      by true false e f = beside (apart f)
      by false true e f =
          let same : n ≡ k = eqb-true n k f in
          stays p c n (λ j there. absurd (gone same j there))
          (λ j q there. absurd (cc (eq-eqb b c (one_caller now n b c i j (ap (map.get now) same ∙ own) there), e)))
      by false false e f = beside (apart f)

  -- all sessions of the caller end
  all_end : (c n : ℕ) → Good (without_caller b now) c n (cond (b == c) no_session (st c n))
  all_end c n = by (b == c) refl
    where
      p : Sessions
      p = without_caller b now

      none_left : (j : Job) → In p n b j → ⊥
      none_left j there =
          let old : In now n b j = others_in b now n (record { caller = b; job = j }) there in
          let test : is_another b (map.get now n) ≡ false = ap (is_another b) old ∙ ap not (eq-eqb b b refl) in
          not_both (map.get p n) _ (get_retained now (λ k. is_another b (map.get now k)) n ∙ ap (λ (x : Bool). cond x (map.get now n) None) test) there

      by : (x : Bool) → (b == c) ≡ x → Good p c n (cond x no_session (st c n))
      by true e =
          let same : b ≡ c = eqb-true b c e in
          ((λ j there. none_left j (subst (λ k. In p n k j) (sym same) there)), λ u x y old there. absurd (none_left y (subst (λ k. In p n k y) (sym same) there)))
      by false e =
          stays p c n (λ j there. others_in b now n (record { caller = c; job = j }) there)
          (λ j k there. other_kept b now n (record { caller = c; job = j }) there (λ same. absurd (cc (eq-eqb b c (sym same), e))))

  -- a doubt is settled: a session whose manifest's put failed may end
  found_good : (k : KeyKind) (p : Sessions) → ((n : ℕ) (j : Session) → map.get p n ≡ Some j → map.get now n ≡ Some j)
      → ((n : ℕ) (j : Session) → map.get now n ≡ Some j → (map.get s.desk.makers k ≡ Some n → ⊥) → map.get p n ≡ Some j) → (c n : ℕ) → Good p c n (st c n)
  found_good k p fewer kept c n =
      stays p c n (λ j there. fewer n (record { caller = c; job = j }) there)
      (λ j sure there. kept n (record { caller = c; job = j }) there (λ maker. absurd (subst IsUnsure sure (made k n maker c j there))))

  -- the same standing, whoever the caller is
  either : (p : Sessions) (c n : ℕ) → Good p c n (st c n) → Good p c n (cond (b == c) (st c n) (st c n))
  either p c n g = chosen (Good p c n) (b == c) (st c n) (st c n) g g

  chunk_same : (n : ℕ) (name : Name) (j : Job) → Holds s n b j → (state_after s b (noted.PutChunk n name) told.Kept).desk.sessions ≡ now
  chunk_same n name j own = by (map.get s.known.view (kind.Chunk (target j) name.bytes)) refl
    where
      by : (o : Option Held) → map.get s.known.view (kind.Chunk (target j) name.bytes) ≡ o → (state_after s b (noted.PutChunk n name) told.Kept).desk.sessions ≡ now
      by None e = rw own (rw e refl)
      by (Some x) e = rw own (rw e refl)

  pub good : OfEach s b (λ call reply i t. AllGood i t)
  good = record {
    quiet = λ call reply i t q. same_at i t (elim q.plain [ inl still ↦ tame_still i t still | inr fault ↦ subst (IsTame i) (sym fault.1) (tame_fault i fault.0) ]) (ap (λ (a : State). a.desk.sessions) q.state);
    opened = λ image m p r may. same_at (noted.OpenImage image) (told.Opened s.desk.next_lease p) tt refl;
    closed = λ lease out. same_at (noted.Close lease) told.Closed tt refl;
    began = λ image root bytes may salted. begins (Creates image root s.desk.next_number);
    chunk = λ n chunk name j own e. same_at (noted.PutChunk n name) told.Kept tt (chunk_same n name j own);
    chunk_doubted = λ n chunk name k e put away. same_at (noted.PutChunk n name) (told.Fault k) tt refl;
    made = λ n m p r image d e may. rw may.session (ends n (Creates image r d) may.session);
    making = λ n m p r image d e may. same_at (noted.PutManifest n p) (told.Fault (kind.Manifest r image)) tt refl;
    abandoned = λ n j own. ends n j own;
    rotated = λ i bytes may. same_at (noted.Rotate bytes) (told.Rotated (i + 1)) tt refl;
    rotating = λ i bytes may. same_at (noted.Rotate bytes) (told.Fault (kind.Root (i + 1))) tt refl;
    moving = λ image from to m p may. begins (Moves image from to (arc_value p));
    moved = λ n image from to m may. rw may.session (ends n (Moves image from to m) may.session);
    move_doubted = λ n image from to m may. same_at (noted.FinishMigrate n) (told.Fault (kind.Manifest to image)) tt (rw may.session refl);
    bare_put = λ call reply i t k q. same_at i t (tame_calm i t q.calm) (ap (λ (a : State). a.desk.sessions) q.state);
    bare_doubted = λ call i k q. same_at i (told.Fault k) (tame_fault i k) (ap (λ (a : State). a.desk.sessions) q.state);
    removed = λ r k item. same_at (noted.Sweep r) (told.Removed k) tt refl;
    removing = λ r k item. same_at (noted.Sweep r) (told.Fault k) tt (rw item.may.here refl);
    found = λ k x may c n. rw may.here (either _ c n (found_good k _ (λ i j. found_sessions s k x i j) (λ i j. found_stays s k x i j) c n));
    missed = λ k x may. same_at (noted.Settle k) told.Absent tt refl;
    reaped = λ n j there own. all_end;
  }

  -- a standing after a doubt of this very session
  doubted_by : (c n : ℕ) (j : Job) (p : Sessions) (x y : Bool) → x ≡ true → y ≡ true → IsStanding p n c (cond x (cond y (doubted (st c n)) (st c n)) (st c n)) → In p n c j
      → IsUnsure (cond x (cond y (doubted (st c n)) (st c n)) (st c n))
  doubted_by c n j p true true e f k there = there_unsure p n c j (st c n) k there
  doubted_by c n j p true false e f k there = absurd (cc f)
  doubted_by c n j p false y e f k there = absurd (cc e)

  -- an entry of the caller's own that doubts a session
  doubts : (i : DepotNoted) (t : DepotTold) (c n : ℕ) (j : Job) → b ≡ c → DoubtsSession n i t → AllGood i t → In (state_after s b i t).desk.sessions n c j → IsUnsure (next i t c n)
  doubts (noted.PutManifest k m) (told.Fault key) c n j e d g there =
      doubted_by c n j (state_after s b (noted.PutManifest k m) (told.Fault key)).desk.sessions (b == c) (n == k) (eq-eqb b c e) (eq-eqb n k (sym d)) (g c n).0 there
  doubts (noted.FinishMigrate k) (told.Fault key) c n j e d g there =
      doubted_by c n j (state_after s b (noted.FinishMigrate k) (told.Fault key)).desk.sessions (b == c) (n == k) (eq-eqb b c e) (eq-eqb n k (sym d)) (g c n).0 there
  doubts i t c n j e d g there = absurd d

  -- the sessions that made puts in doubt are unsure
  makers : (i : DepotNoted) (t : DepotTold) → IsMaking s b i t → AllGood i t → (q : KeyKind) (n : ℕ) → map.get (state_after s b i t).desk.makers q ≡ Some n
      → (c : ℕ) (j : Job) → Holds (state_after s b i t) n c j → IsUnsure (next i t c n)
  makers i t m g q n e c j there = by ((m q n e).1 c j there)
    where
      by : ((p : KeyKind) × (map.get s.desk.makers p ≡ Some n) × Holds s n c j) ⊎ ((b ≡ c) × DoubtsSession n i t) → IsUnsure (next i t c n)
      by (inl old) = (g c n).1 (made old.0 n old.1 c j old.2) j j old.2 there
      by (inr doubt) = doubts i t c n j doubt.0 doubt.1 g there

-- ---- a log

from_standing : (log : List LogEntry) (s : State) → IsSafe s → AreDrawnMakers s → IsRun s log → (st : ℕ → ℕ → Standing) → ((c n : ℕ) → IsStanding s.desk.sessions n c (st c n))
    → ((q : KeyKind) (n : ℕ) → map.get s.desk.makers q ≡ Some n → (c : ℕ) (j : Job) → Holds s n c j → IsUnsure (st c n))
    → (c n : ℕ) → IsStanding (run s log).desk.sessions n c (fold (standing_then n) (st c n) (own_entries c log))
from_standing [] s h drawn r st is made c n = is c n
from_standing (e ∷ log) s h drawn r st is made c n =
    by (e.caller == c)
    (from_standing log (after_entry s e) (entry_safe s h e r.0 r.1 r.2 r.3) (λ q k m. (maker q k m).0) r.4 (λ a k. next s e.caller h st is made e.call e.reply a k) (λ a k. (all a k).0)
    (makers s e.caller h st is made e.call e.reply maker all) c n)
  where
    all : AllGood s e.caller h st is made e.call e.reply
    all = of_each s e.caller (λ call reply i t. AllGood s e.caller h st is made i t) (good s e.caller h st is made) r.0 r.1 e.call e.reply r.2 r.3.noted r.3.told

    maker : IsMaking s e.caller e.call e.reply
    maker = of_each s e.caller (λ call reply i t. IsMaking s e.caller i t) (making_of s e.caller h drawn) r.0 r.1 e.call e.reply r.2 r.3.noted r.3.told

    by : (x : Bool) → IsStanding (run (after_entry s e) log).desk.sessions n c (fold (standing_then n) (cond x (standing_after n (st c n) e.call e.reply) (st c n)) (own_entries c log))
        → IsStanding (run (after_entry s e) log).desk.sessions n c (fold (standing_then n) (st c n) (cond x (e ∷ own_entries c log) (own_entries c log)))
    by true k = k
    by false k = k

pub ones_own : SessionsAreOnesOwn
ones_own start log begun is c n =
    from_standing log (first_state start) (start_safe start.view start.number begun.may) (λ q k e. absurd (not_both _ k (get-empty kind_cmp q) e)) is
    (λ c n. no_session) (λ c n j there. not_both _ _ (get-empty nat_cmp n) there) (λ q k e. absurd (not_both _ k (get-empty kind_cmp q) e)) c n

-- ---- the refusals

its : (start : Start) (log : List LogEntry) (c n : ℕ) (job : Job) → Has start log c n job → Holds (state start log) n c job
its start log c n job h = subst (IsStanding (state start log).desk.sessions n c) h.2 (ones_own start log h.0 h.1 c n)

pub refused_own : NoSessionIsOnesOwn
refused_own = record {
  chunk = λ start log c n job h chunk s. s job (its start log c n job h);
  manifest = λ start log c n image r d h m s. s image r d (its start log c n (Creates image r d) h);
  copy = λ start log c n image from to m h index s. s image from to m (its start log c n (Moves image from to m) h);
  finish = λ start log c n image from to m h s. s image from to m (its start log c n (Moves image from to m) h);
  abandon = λ start log c n job h s. s job (its start log c n job h);
  memory = λ start log c n job h s. s job (its start log c n job h);
  reap = λ start log c n job h s. s n (record { caller = c; job = job }) (its start log c n job h) refl;
}

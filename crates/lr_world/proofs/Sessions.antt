-- What a call leaves of the sessions that a depot holds.
use Rattle.std.proofs.Common.{◌≡◌, ℕ, ◌+◌, List, [], ◌∷◌, ◌++◌, Bool, true, false, cond, not, Option, Some, None, refl, ap, sym, subst, ◌∙◌, inl, inr, eq-eqb}
use Rattle.std.specs.Prelude.{◌≢◌, ◌⊎◌, ⊤}
use Rattle.std.specs.Arc.{arc_value}
use Rattle.std.specs.Ordering.{nat_cmp}
use Rattle.std.specs.FinMap as map
use Rattle.std.specs.FinMap.{FinMap}
use Rattle.std.proofs.lemmas.List.Sums.{fold-append}
use Rattle.lr_manifest.specs.declared.name.Name.{Name}
use Rattle.lr_origin.specs.declared.key.KeyKind.TheVariants as kind
use Rattle.lr_roots.specs.View.{Held}
use Rattle.lr_rules.specs.State.{Job, Creates, Moves, Session, State, Holds, target}
use Rattle.lr_rules.specs.Calls.{settled_there}
use Rattle.lr_rules.proofs.Keys.{cases_n, at_n, other_n, gone_n, gone_other_n}
use Rattle.lr_depot.specs.Begun.{Start}
use Rattle.lr_depot.specs.declared.call.DepotCall.{DepotCall}
use Rattle.lr_depot.specs.declared.call.DepotCall.TheVariants.{OpenImage, Close, BeginCreate, PutChunk, PutManifest, Abandon, Rotate, BeginMigrate, FinishMigrate, Sweep, Settle, Reap}
use Rattle.lr_depot.specs.declared.call.DepotNoted.{DepotNoted}
use Rattle.lr_depot.specs.declared.call.DepotNoted.TheVariants as noted
use Rattle.lr_depot.specs.declared.call.DepotReply.{DepotReply}
use Rattle.lr_depot.specs.declared.call.DepotReply.TheVariants.{Opened, Closed, Began, NoSession, Kept, Made, Abandoned, Rotated, Moving, Moved, Removed, There, Absent, Reaped, Nothing, Fault, OutOfMemory}
use Rattle.lr_depot.specs.declared.call.DepotTold.{DepotTold}
use Rattle.lr_depot.specs.declared.call.DepotTold.TheVariants as told
use Rattle.lr_depot.specs.Depot.{first_state, state}
use Rattle.lr_depot.specs.Machine.{LogEntry, DepotStep, Enters, IsTold, is_logged, state_after, after_entry}
use Rattle.lr_depot.specs.Sessions.{is_another, without_caller}
use Rattle.lr_depot.proofs.Cases.{IsStill, IsCalm, OfEach, of_each}
use Rattle.lr_depot.proofs.Found.{found_sessions}
use Rattle.lr_depot.proofs.Moved.{others_in}
use Rattle.lr_depot.proofs.Numbers.{get_retained}
use Rattle.lr_walk.specs.Steps.{Call, on_depot, by_depot}
use Rattle.lr_walk.specs.Depot as depots
use Rattle.lr_actors.specs.declared.action.ActorCall.{ActorCall}
use Rattle.lr_actors.specs.declared.action.ActorCall.TheVariants as call
use Rattle.lr_actors.specs.declared.action.ActorReply.{ActorReply}
use Rattle.lr_actors.specs.declared.action.ActorReply.TheVariants as by
use Rattle.lr_replies.specs.Objects.{Objects, Logs, Calls}
use Rattle.lr_world.specs.World.{session_by}

some_is : {X : Type 0} (x y : X) → Some x ≡ Some y → x ≡ y
some_is x y e = cc

none_is : {X Y : Type 0} (o : Option X) (x : X) → o ≡ None → o ≡ Some x → Y
none_is o x e f = absurd (cc)

-- ---- replies that end a session, and that begin one

abbrev pub Ends : ℕ → DepotReply → DepotCall → Type 0
Ends n (Made r) (PutManifest k m) = k ≡ n
Ends n (Moved from to) (FinishMigrate k) = k ≡ n
Ends n Abandoned (Abandon k) = k ≡ n
Ends n Reaped Reap = ⊤
Ends n reply asked = ⊥

abbrev pub Gives : ℕ → DepotReply → DepotCall → Type 0
Gives n (Began session root bytes number) (BeginCreate image) = session ≡ n
Gives n (Moving session from to m) (BeginMigrate image) = session ≡ n
Gives n reply asked = ⊥

no_end : (Q : DepotTold → Type 0) → ((r : ℕ) → Q (told.Made r) → ⊥) → ((f t : ℕ) → Q (told.Moved f t) → ⊥) → (Q told.Abandoned → ⊥) → (Q told.Reaped → ⊥)
    → (n : ℕ) (reply : DepotReply) (asked : DepotCall) (t : DepotTold) → IsTold reply t → Q t → Ends n reply asked → ⊥
no_end Q made moved left reaped n (Made r) (PutManifest k m) t e q x = made r (subst Q e q)
no_end Q made moved left reaped n (Moved from to) (FinishMigrate k) t e q x = moved from to (subst Q e q)
no_end Q made moved left reaped n Abandoned (Abandon k) t e q x = left (subst Q e q)
no_end Q made moved left reaped n Reaped Reap t e q x = reaped (subst Q e q)
no_end Q made moved left reaped n reply asked t e q x = absurd x

still_end : (n : ℕ) (reply : DepotReply) (asked : DepotCall) (t : DepotTold) → IsTold reply t → IsStill t → Ends n reply asked → ⊥
still_end = no_end IsStill (λ r q. q) (λ f t q. q) (λ q. q) (λ q. q)

calm_end : (n : ℕ) (reply : DepotReply) (asked : DepotCall) (t : DepotTold) → IsTold reply t → IsCalm t → Ends n reply asked → ⊥
calm_end = no_end IsCalm (λ r q. q) (λ f t q. q) (λ q. q) (λ q. q)

fault_end : (k : _) (n : ℕ) (reply : DepotReply) (asked : DepotCall) (t : DepotTold) → IsTold reply t → t ≡ told.Fault k → Ends n reply asked → ⊥
fault_end k = no_end (λ t. t ≡ told.Fault k) (λ r q. cc) (λ f t q. cc) (λ q. cc) (λ q. cc)

unlogged_end : (n : ℕ) (reply : DepotReply) (asked : DepotCall) → is_logged reply ≡ false → Ends n reply asked → ⊥
unlogged_end n (Made r) asked e x = absurd (cc)
unlogged_end n (Moved from to) asked e x = absurd (cc)
unlogged_end n Abandoned asked e x = absurd (cc)
unlogged_end n Reaped asked e x = absurd (cc)
unlogged_end n reply asked e x = absurd x

-- ---- one entry

-- A session that is held was there before, and if it is the caller's the call didn't end it; or the call began it, for the caller.
abbrev pub Came : State → ℕ → DepotCall → DepotReply → ℕ → Session → Type 0
Came s c asked reply n j = ((map.get s.desk.sessions n ≡ Some j) × (j.caller ≡ c → Ends n reply asked → ⊥)) ⊎ ((j.caller ≡ c) × Gives n reply asked)

module _ (s : State) (c : ℕ) where
  abbrev now : FinMap nat_cmp Session
  now = s.desk.sessions

  abbrev AllCame : DepotCall → DepotReply → FinMap nat_cmp Session → Type 0
  AllCame asked reply sessions = (n : ℕ) (j : Session) → map.get sessions n ≡ Some j → Came s c asked reply n j

  abbrev Entry : DepotCall → DepotReply → DepotNoted → DepotTold → Type 0
  Entry asked reply i t = IsTold reply t → AllCame asked reply (state_after s c i t).desk.sessions

  stay : (asked : DepotCall) (reply : DepotReply) (i : DepotNoted) (t : DepotTold) → (state_after s c i t).desk.sessions ≡ now → ((n : ℕ) → Ends n reply asked → ⊥) → Entry asked reply i t
  stay asked reply i t e none tells n j there = inl (ap (λ (m : FinMap nat_cmp Session). map.get m n) (sym e) ∙ there, λ own. none n)

  begun_by : (asked : DepotCall) (reply : DepotReply) (i : DepotNoted) (t : DepotTold) (new : Session) → new.caller ≡ c → (state_after s c i t).desk.sessions ≡ map.insert now s.desk.next_session new
      → Gives s.desk.next_session reply asked → ((n : ℕ) → Ends n reply asked → ⊥) → Entry asked reply i t
  begun_by asked reply i t new own e gives none tells n j there = by (cases_n n s.desk.next_session)
    where
      held : map.get (map.insert now s.desk.next_session new) n ≡ Some j
      held = ap (λ (m : FinMap nat_cmp Session). map.get m n) (sym e) ∙ there

      by : (n ≡ s.desk.next_session) ⊎ (n ≢ s.desk.next_session) → Came s c asked reply n j
      by (inl f) =
          let is : new ≡ j = some_is new j (sym (at_n now s.desk.next_session new) ∙ ap (map.get (map.insert now s.desk.next_session new)) (sym f) ∙ held) in
          inr (ap (λ (x : Session). x.caller) (sym is) ∙ own, subst (λ (k : ℕ). Gives k reply asked) (sym f) gives)
      by (inr ne) = inl (sym (other_n now s.desk.next_session new n ne) ∙ held, λ own. none n)

  ended_by : (asked : DepotCall) (reply : DepotReply) (i : DepotNoted) (t : DepotTold) (k : ℕ) → (state_after s c i t).desk.sessions ≡ map.remove now k → ((n : ℕ) → Ends n reply asked → k ≡ n) → Entry asked reply i t
  ended_by asked reply i t k e only tells n j there = by (cases_n n k)
    where
      held : map.get (map.remove now k) n ≡ Some j
      held = ap (λ (m : FinMap nat_cmp Session). map.get m n) (sym e) ∙ there

      by : (n ≡ k) ⊎ (n ≢ k) → Came s c asked reply n j
      by (inl f) = none_is (map.get (map.remove now k) n) j (ap (map.get (map.remove now k)) f ∙ gone_n now k) held
      by (inr ne) = inl (sym (gone_other_n now k n ne) ∙ held, λ own x. ne (sym (only n x)))

  gone : (n : ℕ) (j : Session) → map.get (without_caller c now) n ≡ Some j → j.caller ≡ c → ⊥
  gone n j there own =
      let test : is_another c (map.get now n) ≡ false = ap (is_another c) (others_in c now n j there) ∙ ap not (eq-eqb j.caller c own) in
      none_is (map.get (without_caller c now) n) j (get_retained now (λ k. is_another c (map.get now k)) n ∙ ap (λ (b : Bool). cond b (map.get now n) None) test) there

  reap : Entry Reap Reaped noted.Reap told.Reaped
  reap tells n j there = inl (others_in c now n j there, λ own x. gone n j there own)

  find : (k : _) (x : Held) → ((n : ℕ) (j : Session) → map.get (settled_there s k x).desk.sessions n ≡ Some j → Came s c (Settle k) There n j)
  find k x n j there = inl (found_sessions s k x n j there, λ own y. y)

  chunk_same : (n : ℕ) (name : Name) (j : Job) → Holds s n c j → (state_after s c (noted.PutChunk n name) told.Kept).desk.sessions ≡ now
  chunk_same n name j own = by (map.get s.known.view (kind.Chunk (target j) name.bytes)) refl
    where
      by : (o : Option Held) → map.get s.known.view (kind.Chunk (target j) name.bytes) ≡ o → (state_after s c (noted.PutChunk n name) told.Kept).desk.sessions ≡ now
      by None e = rw own (rw e refl)
      by (Some x) e = rw own (rw e refl)

  each : OfEach s c Entry
  each = record {
    quiet = λ asked reply i t q tells. stay asked reply i t (ap (λ (a : State). a.desk.sessions) q.state)
        (λ n. elim q.plain [ inl still ↦ still_end n reply asked t tells still | inr fault ↦ fault_end fault.0 n reply asked t tells fault.1 ]) tells;
    opened = λ image m p r may. stay (OpenImage image) (Opened s.desk.next_lease m) (noted.OpenImage image) (told.Opened s.desk.next_lease p) refl (λ n x. x);
    closed = λ lease out. stay (Close lease) Closed (noted.Close lease) told.Closed refl (λ n x. x);
    began = λ image root bytes may salted. begun_by (BeginCreate image) (Began s.desk.next_session root bytes s.desk.next_number) (noted.BeginCreate image) (told.Began s.desk.next_session root bytes s.desk.next_number)
        (record { caller = c; job = Creates image root s.desk.next_number }) refl refl refl (λ n x. x);
    chunk = λ n chunk name j own e. stay (PutChunk n chunk) Kept (noted.PutChunk n name) told.Kept (chunk_same n name j own) (λ n x. x);
    chunk_doubted = λ n chunk name k e put away. stay (PutChunk n chunk) (Fault k) (noted.PutChunk n name) (told.Fault k) refl (λ n x. x);
    made = λ n m p r image d e may. ended_by (PutManifest n m) (Made r) (noted.PutManifest n p) (told.Made r) n (rw may.session refl) (λ k x. x);
    making = λ n m p r image d e may. stay (PutManifest n m) (Fault (kind.Manifest r image)) (noted.PutManifest n p) (told.Fault (kind.Manifest r image)) refl (λ n x. x);
    abandoned = λ n j own. ended_by (Abandon n) Abandoned (noted.Abandon n) told.Abandoned n refl (λ k x. x);
    rotated = λ i bytes may. stay (Rotate bytes) (Rotated (i + 1)) (noted.Rotate bytes) (told.Rotated (i + 1)) refl (λ n x. x);
    rotating = λ i bytes may. stay (Rotate bytes) (Fault (kind.Root (i + 1))) (noted.Rotate bytes) (told.Fault (kind.Root (i + 1))) refl (λ n x. x);
    moving = λ image from to m p may. begun_by (BeginMigrate image) (Moving s.desk.next_session from to m) (noted.BeginMigrate image) (told.Moving s.desk.next_session from to p)
        (record { caller = c; job = Moves image from to (arc_value p) }) refl refl refl (λ n x. x);
    moved = λ n image from to m may. ended_by (FinishMigrate n) (Moved from to) (noted.FinishMigrate n) (told.Moved from to) n (rw may.session refl) (λ k x. x);
    move_doubted = λ n image from to m may. stay (FinishMigrate n) (Fault (kind.Manifest to image)) (noted.FinishMigrate n) (told.Fault (kind.Manifest to image)) (rw may.session refl) (λ n x. x);
    bare_put = λ asked reply i t k q tells. stay asked reply i t (ap (λ (a : State). a.desk.sessions) q.state) (λ n. calm_end n reply asked t tells q.calm) tells;
    bare_doubted = λ asked i k q. stay asked (Fault k) i (told.Fault k) (ap (λ (a : State). a.desk.sessions) q.state) (λ n x. x);
    removed = λ r k item. stay (Sweep r) (Removed k) (noted.Sweep r) (told.Removed k) refl (λ n x. x);
    removing = λ r k item. stay (Sweep r) (Fault k) (noted.Sweep r) (told.Fault k) (rw item.may.here refl) (λ n x. x);
    found = λ k x may. rw may.here (λ tells. find k x);
    missed = λ k x may. stay (Settle k) Absent (noted.Settle k) told.Absent refl (λ n x. x);
    reaped = λ n j there own. reap;
  }

-- ---- one call

-- the state after one entry more
state_more : (start : Start) (log : List LogEntry) (e : LogEntry) → state start (log ++ e ∷ []) ≡ after_entry (state start log) e
state_more start log e = fold-append after_entry (first_state start) log (e ∷ [])

came_log : (start : Start) (c : ℕ) (asked : DepotCall) (reply : DepotReply) (old new : List LogEntry) (b : Bool) → is_logged reply ≡ b → DepotStep (state start old) c asked reply → Logs b (λ e. Enters asked reply e) c old new
    → (n : ℕ) (j : Session) → map.get (state start new).desk.sessions n ≡ Some j → Came (state start old) c asked reply n j
came_log start c asked reply old new true l step logs n j there =
    let e : LogEntry = logs.0 in
    let after : State = state_after (state start old) c e.call e.reply in
    let is : state start new ≡ after = ap (state start) logs.1 ∙ state_more start old e ∙ ap (λ (k : ℕ). state_after (state start old) k e.call e.reply) logs.2 in
    of_each (state start old) c (Entry (state start old) c) (each (state start old) c) asked reply e.call e.reply step logs.3.noted logs.3.told logs.3.told n j
    (ap (λ (a : State). map.get a.desk.sessions n) (sym is) ∙ there)
came_log start c asked reply old new false l step logs n j there =
    inl (ap (λ (log : List LogEntry). map.get (state start log).desk.sessions n) (sym logs) ∙ there, λ own. unlogged_end n reply asked l)

-- what a call on the depot leaves of the sessions
pub depot_came : (c : ℕ) (asked : DepotCall) (reply : DepotReply) (old new : Objects) → Calls c (call.Depot asked) (by.Depot reply) old new
    → (n : ℕ) (j : Session) → map.get (state new.start new.depot).desk.sessions n ≡ Some j → Came (state old.start old.depot) c asked reply n j
depot_came c asked reply old new made n j there =
    came_log old.start c asked reply old.depot new.depot (is_logged reply) refl made.replies made.logs n j
    (subst (λ (start : Start). map.get (state start new.depot).desk.sessions n ≡ Some j) made.start there)

-- the depot as it was
abbrev IsKept : Objects → Objects → Type 0
IsKept old new = state new.start new.depot ≡ state old.start old.depot

kept : (old new : Objects) → new.start ≡ old.start → new.depot ≡ old.depot → IsKept old new
kept old new e f = λ i. state (e i) (f i)

pub other_kept : (c : ℕ) (asked : ActorCall) (reply : ActorReply) (old new : Objects) → Calls c asked reply old new → ((d : DepotCall) (r : DepotReply) → asked ≡ call.Depot d → reply ≡ by.Depot r → ⊥) → IsKept old new
other_kept c (call.Device h asked) (by.Device r) old new made none = kept old new made.start made.others.2
other_kept c (call.Cache h asked) (by.Cache r) old new made none = kept old new made.start made.others.2
other_kept c (call.Node h asked) (by.Node r) old new made none = kept old new made.start made.others.2
other_kept c (call.Depot asked) (by.Depot r) old new made none = absurd (none asked r refl refl)
other_kept c asked reply old new made none = absurd made.replies

-- a call of another one begins no session of this caller
pub stays_held : (c other : ℕ) (asked : ActorCall) (reply : ActorReply) (old new : Objects) → other ≢ c → Calls c asked reply old new → (n : ℕ) (job : Job)
    → Holds (state new.start new.depot) n other job → Holds (state old.start old.depot) n other job
stays_held c other (call.Device h asked) (by.Device r) old new ne made n job there = subst (λ (s : State). Holds s n other job) (kept old new made.start made.others.2) there
stays_held c other (call.Cache h asked) (by.Cache r) old new ne made n job there = subst (λ (s : State). Holds s n other job) (kept old new made.start made.others.2) there
stays_held c other (call.Node h asked) (by.Node r) old new ne made n job there = subst (λ (s : State). Holds s n other job) (kept old new made.start made.others.2) there
stays_held c other (call.Depot asked) (by.Depot r) old new ne made n job there = by (depot_came c asked r old new made n (record { caller = other; job = job }) there)
  where
    by : Came (state old.start old.depot) c asked r n (record { caller = other; job = job }) → Holds (state old.start old.depot) n other job
    by (inl h) = h.0
    by (inr h) = absurd (ne h.0)
stays_held c other asked reply old new ne made n job there = absurd made.replies

-- ---- the session that a job has, after its call

-- the call fits the session
abbrev pub FitsSession : Option ℕ → Call → Type 0
FitsSession session (on_depot (depots.begins image)) = session ≡ None
FitsSession session (on_depot (depots.begins_move image)) = session ≡ None
FitsSession session (on_depot (depots.abandons n)) = session ≡ Some n
FitsSession session asked = ⊤

module _ (s : State) (c : ℕ) (session : Option ℕ) (only : (n : ℕ) (job : Job) → Holds s n c job → session ≡ Some n) where
  one_number : (k n : ℕ) → session ≡ Some k → session ≡ Some n → k ≡ n
  one_number k n e f = some_is k n (sym e ∙ f)

  abbrev After : DepotCall → DepotReply → ℕ → Type 0
  After asked reply n = session_by session (by_depot (depots.seen_reply reply)) (on_depot (depots.seen_call asked)) ≡ Some n

  pub call_after : (asked : DepotCall) (reply : DepotReply) → DepotStep s c asked reply → FitsSession session (on_depot (depots.seen_call asked)) → (n : ℕ) (job : Job) → Came s c asked reply n (record { caller = c; job = job }) → After asked reply n
  call_after (BeginCreate image) (Began k root bytes number) step fits n job (inl h) = none_is session n fits (only n job h.0)
  call_after (BeginCreate image) (Began k root bytes number) step fits n job (inr h) = ap Some h.1
  call_after (BeginMigrate image) (Moving k from to m) step fits n job (inl h) = none_is session n fits (only n job h.0)
  call_after (BeginMigrate image) (Moving k from to m) step fits n job (inr h) = ap Some h.1
  call_after (PutManifest k m) (Made r) step fits n job (inl h) = absurd (h.1 refl (one_number k n (only k (Creates step.0 r step.1) step.2.session) (only n job h.0)))
  call_after (PutManifest k m) (Made r) step fits n job (inr h) = absurd h.1
  call_after (FinishMigrate k) (Moved from to) step fits n job (inl h) = absurd (h.1 refl (one_number k n (only k (Moves step.0 from to step.1) step.2.session) (only n job h.0)))
  call_after (FinishMigrate k) (Moved from to) step fits n job (inr h) = absurd h.1
  call_after (Abandon k) Abandoned step fits n job (inl h) = absurd (h.1 refl (one_number k n fits (only n job h.0)))
  call_after (Abandon k) Abandoned step fits n job (inr h) = absurd h.1
  call_after (Abandon k) NoSession step fits n job (inl h) = absurd (step job (subst (λ (m : ℕ). Holds s m c job) (sym (one_number k n fits (only n job h.0))) h.0))
  call_after (Abandon k) NoSession step fits n job (inr h) = absurd h.1
  call_after (Abandon k) OutOfMemory step fits n job (inl h) = absurd (step job (subst (λ (m : ℕ). Holds s m c job) (sym (one_number k n fits (only n job h.0))) h.0))
  call_after (Abandon k) OutOfMemory step fits n job (inr h) = absurd h.1
  call_after (Abandon k) reply step fits n job came = absurd step
  call_after asked (Began k root bytes number) step fits n job came = absurd step
  call_after asked (Moving k from to m) step fits n job came = absurd step
  call_after asked (Made r) step fits n job came = absurd step
  call_after asked (Moved from to) step fits n job came = absurd step
  call_after asked reply step fits n job (inl h) = only n job h.0
  call_after asked reply step fits n job (inr h) = absurd h.1

-- ---- the reap of the depot

-- after it the caller has no session
pub depot_reaped : (c : ℕ) (reply : DepotReply) (old new : Objects) → Calls c (call.Depot Reap) (by.Depot reply) old new → (n : ℕ) (job : Job) → Holds (state new.start new.depot) n c job → ⊥
depot_reaped c reply old new made n job there = by reply made.replies (depot_came c Reap reply old new made n (record { caller = c; job = job }) there)
  where
    by : (r : DepotReply) → DepotStep (state old.start old.depot) c Reap r → Came (state old.start old.depot) c Reap r n (record { caller = c; job = job }) → ⊥
    by Reaped step (inl h) = h.1 refl tt
    by Reaped step (inr h) = h.1
    by Nothing step (inl h) = step n (record { caller = c; job = job }) h.0 refl
    by Nothing step (inr h) = h.1
    by r step came = step

-- What a call does to a whole depot.
use Rattle.std.proofs.Common.{◌≡◌, ◌≤◌, ◌<◌, ◌+◌, ℕ, Bool, true, false, List, [], ◌∷◌, ◌++◌, Option, Some, None, IsSome, refl, sym, ap, subst, ◌∙◌, inl, inr, arith, length, length-append, MatchBool, vec_len, vec_capacity}
use mathlib.Core.Logic.{◌⊎◌}
use Rattle.std.specs.Bool.{OnFalse}
use Rattle.lr_spec.specs.Rose.{Rose}
use Rattle.lr_spec.specs.Told.{Told}
use Rattle.lr_origin.specs.Objects.{Objects}
use Rattle.std.specs.FinMap as map
use Rattle.lr_rules.specs.State.{Job, State, Holds}
use Rattle.lr_rules.specs.Safe.{IsSafe}
use Rattle.lr_rules.specs.Names.{HasRoom}
use Rattle.lr_rules.proofs.Outcomes.{is_none}
use Rattle.lr_rules.proofs.Start.{start_safe}
use Rattle.lr_rules.proofs.Room.{start_room}
use Rattle.lr_depot.specs.declared.call.DepotCall.{DepotCall}
use Rattle.lr_depot.specs.declared.call.DepotCall.TheVariants.{OpenImage, Fetch, Close, BeginCreate, PutChunk, PutManifest, Abandon, Rotate, BeginMigrate, CopyRead, FinishMigrate, Withdraw, Expire, Delete, Sweep, Settle, Reap}
use Rattle.lr_depot.specs.declared.call.DepotNoted.{DepotNoted}
use Rattle.lr_depot.specs.declared.call.DepotReply.{DepotReply}
use Rattle.lr_depot.specs.declared.call.DepotReply.TheVariants.{Opened, Fetched, Moving, Copied, Nothing, Fault, OutOfMemory}
use Rattle.lr_depot.specs.declared.call.DepotTold.{DepotTold}
use Rattle.lr_depot.specs.declared.call.DepotTold.TheVariants as told
use Rattle.lr_depot.specs.declared.depot.Body.{Body}
use Rattle.lr_depot.specs.declared.kernel.Kernel.{Kernel}
use Rattle.lr_depot.specs.declared.kernel.Answer.{Answer}
use Rattle.lr_depot.specs.Begun.{Start}
use Rattle.lr_depot.specs.Machine.{LogEntry, HasNone, DepotStep, Enters, IsNoted, IsTold, IsShared, IsSharedEntry, state_after, is_logged}
use Rattle.lr_depot.specs.Store.{StoreStep, IsRun, LeadsTo, IsFault, IsUnasked, is_fault, tells_fault, Covers}
use Rattle.lr_depot.specs.Kernel.{IsOf, IsReady, HasOwnPlace, Replies, RepliesBy, IsServed, state_of, places}
use Rattle.lr_depot.specs.Depot.{IsWhole, HasPlace, Did, first_state, state, grown}
use Rattle.lr_depot.proofs.Logged.{run_more, is_run_more, leads_more, store_tells, covers_fault, covers_more}
use Rattle.lr_depot.proofs.Moved.{run_safe, run_room}
use Rattle.lr_depot.proofs.NextNumbers.{next_more}
use Rattle.lr_depot.proofs.Whole.{of_state, ready_of, of_places}
use Rattle.lr_depot.proofs.Places.{places_more, EndsOwn, ending}

match_true : (b : Bool) (P Q : Type 0) → b ≡ true → P → MatchBool b P Q
match_true b P Q e p = subst (λ b. MatchBool b P Q) (sym e) p

match_false : (b : Bool) (P Q : Type 0) → b ≡ false → Q → MatchBool b P Q
match_false b P Q e q = subst (λ b. MatchBool b P Q) (sym e) q

-- a reply that the log doesn't keep
quiet : (reply : DepotReply) → is_logged reply ≡ false → (reply ≡ Nothing) ⊎ (reply ≡ OutOfMemory)
quiet Nothing e = inl refl
quiet OutOfMemory e = inr refl
quiet reply e = absurd cc

-- it leaves the objects
quiet_nothing : (s : State) (c : ℕ) (call : DepotCall) (m : Objects) (n : Option Objects) → StoreStep s c call Nothing m n → n ≡ Some m
quiet_nothing s c (Fetch a b) m n h = h
quiet_nothing s c (PutChunk a b) m n h = h
quiet_nothing s c (PutManifest a b) m n h = h
quiet_nothing s c (Rotate a) m n h = h
quiet_nothing s c (CopyRead a b) m n h = h
quiet_nothing s c (FinishMigrate a) m n h = h
quiet_nothing s c (Withdraw a) m n h = h
quiet_nothing s c (Expire a) m n h = h
quiet_nothing s c (Delete a) m n h = h
quiet_nothing s c (Sweep a) m n h = h
quiet_nothing s c (Settle a) m n h = h
quiet_nothing s c call m n h = h

quiet_memory : (s : State) (c : ℕ) (call : DepotCall) (m : Objects) (n : Option Objects) → StoreStep s c call OutOfMemory m n → n ≡ Some m
quiet_memory s c (Fetch a b) m n h = h
quiet_memory s c (PutChunk a b) m n h = h
quiet_memory s c (PutManifest a b) m n h = h
quiet_memory s c (Rotate a) m n h = h
quiet_memory s c (CopyRead a b) m n h = h
quiet_memory s c (FinishMigrate a) m n h = h
quiet_memory s c (Withdraw a) m n h = h
quiet_memory s c (Expire a) m n h = h
quiet_memory s c (Delete a) m n h = h
quiet_memory s c (Sweep a) m n h = h
quiet_memory s c (Settle a) m n h = h
quiet_memory s c call m n h = h

quiet_store : (s : State) (c : ℕ) (call : DepotCall) (reply : DepotReply) (m : Objects) (n : Option Objects) → is_logged reply ≡ false → StoreStep s c call reply m n → n ≡ Some m
quiet_store s c call reply m n e h = elim (quiet reply e) [
  | inl f ↦ quiet_nothing s c call m n (subst (λ r. StoreStep s c call r m n) f h)
  | inr f ↦ quiet_memory s c call m n (subst (λ r. StoreStep s c call r m n) f h)
]

-- a reply that the log doesn't keep is no fault
quiet_no_fault : (reply : DepotReply) → is_logged reply ≡ false → IsFault reply → ⊥
quiet_no_fault reply e f = elim (quiet reply e) [ inl g ↦ subst IsFault g f | inr g ↦ subst IsFault g f ]

-- want of memory leaves the objects
memory_stores : (s : State) (c : ℕ) (call : DepotCall) (m : Objects) (n : Option Objects) → n ≡ Some m → StoreStep s c call OutOfMemory m n
memory_stores s c (Fetch a b) m n h = h
memory_stores s c (PutChunk a b) m n h = h
memory_stores s c (PutManifest a b) m n h = h
memory_stores s c (Rotate a) m n h = h
memory_stores s c (CopyRead a b) m n h = h
memory_stores s c (FinishMigrate a) m n h = h
memory_stores s c (Withdraw a) m n h = h
memory_stores s c (Expire a) m n h = h
memory_stores s c (Delete a) m n h = h
memory_stores s c (Sweep a) m n h = h
memory_stores s c (Settle a) m n h = h
memory_stores s c call m n h = h

-- what is told as a fault was one
fault_told : (reply : DepotReply) (t : DepotTold) → IsTold reply t → tells_fault t ≡ true → IsFault reply
fault_told (Fault k) t is f = tt
fault_told (Opened l m) (told.Fault k) is f = absurd is
fault_told (Fetched k) (told.Fault j) is f = absurd is
fault_told (Moving session from to m) (told.Fault k) is f = absurd is
fault_told (Copied k) (told.Fault j) is f = absurd is
fault_told Nothing t is f = absurd is
fault_told OutOfMemory t is f = absurd is
fault_told reply (told.Fault k) is f = absurd cc
fault_told reply t is f = absurd cc

module _ {O : Type 0} (objects : O → Option Objects) (faults : O → ℕ) (start : Start) where
  -- a whole depot holds a safe state
  pub whole_safe : (body : Body O) → IsWhole objects faults start body → IsSafe (state start body.log.items)
  whole_safe body w = run_safe (first_state start) body.log.items (start_safe start.view start.number w.begun.may) w.legal

  pub whole_room : (body : Body O) → IsWhole objects faults start body → HasRoom (state start body.log.items)
  whole_room body w = run_room (first_state start) body.log.items (start_safe start.view start.number w.begun.may) (start_room start.view start.number w.begun.few) w.legal

  pub whole_ready : (body : Body O) → IsWhole objects faults start body → IsReady body.kernel
  whole_ready body w = ready_of body.kernel (state start body.log.items) w.held (whole_safe body w) (whole_room body w)

  -- a call that serves the kernel moves the state
  pub whole_moves : (body : Body O) (new : Kernel) (c : ℕ) (call : DepotCall) (noted : DepotNoted) (answer : Answer) → IsWhole objects faults start body → IsServed body.kernel new c call noted answer → Replies (state start body.log.items) new c call noted answer
  whole_moves body new c call noted answer w serves =
      subst (λ s. Replies s new c call noted answer) (of_state body.kernel (state start body.log.items) w.held) (serves (state start body.log.items).desk.makers w.held.makers)

  module _ (old new : Body O) (c : ℕ) (call : DepotCall) (noted : DepotNoted) (reply : DepotReply) (w : IsWhole objects faults start old)
      (store : Told (objects old.origin) (λ m. StoreStep (state start old.log.items) c call reply m (objects new.origin)))
      (falls : faults old.origin ≤ faults new.origin) (capacity : vec_capacity new.log ≡ vec_capacity old.log)
      (fit : (e : LogEntry) → HasPlace start old c call reply e) (unasked : IsUnasked (state start old.log.items) c call reply → new.origin ≡ old.origin) where
    -- a reply that the log doesn't keep
    did_unlogged : DepotStep (state start old.log.items) c call reply → is_logged reply ≡ false → IsOf new.kernel (state start old.log.items) → new.log.items ≡ old.log.items → Did objects faults start old new c call reply
    did_unlogged step off hold same = record {
      answers = step;
      logged = match_false (is_logged reply) _ _ off same;
      unlogged = match_false (is_logged reply) _ _ off (λ m t. quiet_store (state start old.log.items) c call reply m (objects new.origin) off (store m t));
      stored = store;
      never_falls = falls;
      cause = λ f. absurd (quiet_no_fault reply off f);
      unasked = unasked;
      whole = record {
        begun = w.begun;
        held = subst (λ l. IsOf new.kernel (state start l)) (sym same) hold;
        legal = subst (IsRun (first_state start)) (sym same) w.legal;
        leads = λ m t.
            let l = w.leads m t in
            (l.0, quiet_store (state start old.log.items) c call reply l.0 (objects new.origin) off (store l.0 l.1), subst (λ k. LeadsTo (first_state start) m k l.0) (sym same) l.2);
        counted = covers_same new.log.items (subst (λ l. Covers start.faults l (faults old.origin)) (sym same) w.counted);
        rising = omega (arith, w.rising, falls);
        leases = subst (λ l. (state start l).desk.next_lease ≤ vec_len new.log + 1) (sym same) (omega (arith, w.leases, lens));
        sessions = subst (λ l. (state start l).desk.next_session ≤ vec_len new.log + 1) (sym same) (omega (arith, w.sessions, lens));
        places = omega (arith, w.places, capacity, lens, of_places new.kernel (state start old.log.items) hold, of_places old.kernel (state start old.log.items) w.held);
      };
    }
      where
        lens : vec_len new.log ≡ vec_len old.log
        lens = new.log.ok.0 ∙ ap length same ∙ sym old.log.ok.0

        covers_same : (l : List LogEntry) → Covers start.faults l (faults old.origin) → Covers start.faults l (faults new.origin)
        covers_same l (inl h) = inl (omega (arith, h, falls))
        covers_same l (inr h) = inr (omega (arith, h, falls))

    -- a reply that the log keeps
    did_logged : (t : DepotTold) → DepotStep (state start old.log.items) c call reply → is_logged reply ≡ true → IsTold reply t → IsNoted call noted → (IsShared call → IsSharedEntry noted)
        → (IsFault reply → Rose (faults old.origin) (faults new.origin))
        → IsOf new.kernel (state_after (state start old.log.items) c noted t) → new.log.items ≡ grown old.log.items c noted (Some t) → Did objects faults start old new c call reply
    did_logged t step on tells notes shares cause hold same = record {
      answers = step;
      logged = match_true (is_logged reply) _ _ on (e, same, refl, enters, shares);
      unlogged = match_true (is_logged reply) _ _ on tt;
      stored = store;
      never_falls = falls;
      cause = cause;
      unasked = unasked;
      whole = record {
        begun = w.begun;
        held = subst (IsOf new.kernel) (sym after) hold;
        legal = subst (IsRun (first_state start)) (sym same) (is_run_more (first_state start) old.log.items e call reply w.legal step enters);
        leads = λ m told.
            let l = w.leads m told in
            let k = store_tells (state start old.log.items) c call reply l.0 (objects new.origin) (store l.0 l.1) in (
              k.0,
              k.1,
              subst (λ log. LeadsTo (first_state start) m log k.0) (sym same)
                  (leads_more (first_state start) m old.log.items l.0 e call reply k.0 l.2 step enters (subst (StoreStep (state start old.log.items) c call reply l.0) k.1 (store l.0 l.1))),
            );
        counted = subst (λ l. Covers start.faults l (faults new.origin)) (sym same) (counted (is_fault e) refl);
        rising = omega (arith, w.rising, falls);
        leases = subst (λ s. s.desk.next_lease ≤ vec_len new.log + 1) (sym after) (omega (arith, next.0, w.leases, lens));
        sessions = subst (λ s. s.desk.next_session ≤ vec_len new.log + 1) (sym after) (omega (arith, next.1, w.sessions, lens));
        places = omega (arith, fit e refl step enters, capacity, lens, of_places new.kernel (state_after (state start old.log.items) c noted t) hold);
      };
    }
      where
        e : LogEntry
        e = record { caller = c; call = noted; reply = t }

        enters : Enters call reply e
        enters = record { logged = on; noted = notes; told = tells }

        after : state start new.log.items ≡ state_after (state start old.log.items) c noted t
        after = ap (state start) same ∙ run_more (first_state start) old.log.items e

        next : ((state_after (state start old.log.items) c noted t).desk.next_lease ≤ (state start old.log.items).desk.next_lease + 1) × ((state_after (state start old.log.items) c noted t).desk.next_session ≤ (state start old.log.items).desk.next_session + 1)
        next = next_more (state start old.log.items) e

        lens : vec_len new.log ≡ vec_len old.log + 1
        lens = new.log.ok.0 ∙ ap length same ∙ length-append old.log.items (e ∷ []) ∙ ap (λ n. n + 1) (sym old.log.ok.0)

        counted : (b : Bool) → is_fault e ≡ b → Covers start.faults (old.log.items ++ e ∷ []) (faults new.origin)
        counted true f = covers_fault start.faults old.log.items (faults old.origin) (faults new.origin) e f (cause (fault_told reply t tells f)) w.counted
        counted false f = covers_more start.faults old.log.items (faults old.origin) (faults new.origin) e f falls w.counted

    pub did : (answer : Answer) → Replies (state start old.log.items) new.kernel c call noted answer → reply ≡ answer.reply → IsNoted call noted → (IsShared call → IsSharedEntry noted)
        → (IsFault reply → Rose (faults old.origin) (faults new.origin)) → new.log.items ≡ grown old.log.items c noted answer.told → Did objects faults start old new c call reply
    did answer moves is notes shares cause same = by answer.told (subst (λ r. RepliesBy (state start old.log.items) new.kernel c call noted r answer.told) (sym is) moves) same
      where
        by : (o : Option DepotTold) → RepliesBy (state start old.log.items) new.kernel c call noted reply o → new.log.items ≡ grown old.log.items c noted o → Did objects faults start old new c call reply
        by None h same = did_unlogged h.0 h.1 h.2 same
        by (Some t) h same = did_logged t h.0 h.1 h.2 notes shares cause h.3 same

  module _ (old mid : Body O) (w : IsWhole objects faults start old) (origin : mid.origin ≡ old.origin) (kernel : mid.kernel ≡ old.kernel)
      (items : mid.log.items ≡ old.log.items) (len : vec_len mid.log ≡ vec_len old.log) (grew : vec_capacity old.log ≤ vec_capacity mid.log) where
    -- with more places in its log a depot stays whole
    pub taken_whole : IsWhole objects faults start mid
    taken_whole = record {
      begun = w.begun;
      held = subst (λ k. IsOf k (state start mid.log.items)) (sym kernel) (subst (λ l. IsOf old.kernel (state start l)) (sym items) w.held);
      legal = subst (IsRun (first_state start)) (sym items) w.legal;
      leads = λ m told. let l = w.leads m told in (l.0, ap objects origin ∙ l.1, subst (λ k. LeadsTo (first_state start) m k l.0) (sym items) l.2);
      counted = subst (λ l. Covers start.faults l (faults mid.origin)) (sym items) (subst (λ o. Covers start.faults old.log.items (faults o)) (sym origin) w.counted);
      rising = subst (λ o. start.faults ≤ faults o) (sym origin) w.rising;
      leases = subst (λ l. (state start l).desk.next_lease ≤ vec_len mid.log + 1) (sym items) (omega (arith, w.leases, len));
      sessions = subst (λ l. (state start l).desk.next_session ≤ vec_len mid.log + 1) (sym items) (omega (arith, w.sessions, len));
      places = omega (arith, w.places, ap places kernel, len, grew);
    }

    -- what a call does afterwards, it does to the depot
    pub did_back : (new : Body O) (c : ℕ) (call : DepotCall) (reply : DepotReply) → Did objects faults start mid new c call reply → Did objects faults start old new c call reply
    did_back new c call reply d = record {
      answers = subst (λ l. DepotStep (state start l) c call reply) items d.answers;
      logged = subst (λ l. MatchBool (is_logged reply) ((e : LogEntry) × (new.log.items ≡ l ++ e ∷ []) × (e.caller ≡ c) × Enters call reply e × (IsShared call → IsSharedEntry e.call)) (new.log.items ≡ l)) items d.logged;
      unlogged = subst (λ o. OnFalse (is_logged reply) (Told (objects o) (λ m. objects new.origin ≡ Some m))) origin d.unlogged;
      stored = subst (λ o. Told (objects o) (λ m. StoreStep (state start old.log.items) c call reply m (objects new.origin))) origin (subst (λ l. Told (objects mid.origin) (λ m. StoreStep (state start l) c call reply m (objects new.origin))) items d.stored);
      never_falls = subst (λ o. faults o ≤ faults new.origin) origin d.never_falls;
      cause = subst (λ o. IsFault reply → Rose (faults o) (faults new.origin)) origin d.cause;
      unasked = λ u. d.unasked (subst (λ l. IsUnasked (state start l) c call reply) (sym items) u) ∙ origin;
      whole = d.whole;
    }

    -- no memory was found for a call that takes some
    pub did_none : (c : ℕ) (call : DepotCall) → DepotStep (state start old.log.items) c call OutOfMemory → Did objects faults start old mid c call OutOfMemory
    did_none c call step = record {
      answers = step;
      logged = items;
      unlogged = λ m told. ap objects origin ∙ told;
      stored = λ m told. memory_stores (state start old.log.items) c call m (objects mid.origin) (ap objects origin ∙ told);
      never_falls = omega (arith, ap faults origin);
      cause = λ f. absurd f;
      unasked = λ u. origin;
      whole = taken_whole;
    }

    -- a call that is served
    pub did_served : (new : Body O) (c : ℕ) (call : DepotCall) (noted : DepotNoted) (reply : DepotReply) (answer : Answer)
        → vec_capacity new.log ≡ vec_capacity mid.log → ((e : LogEntry) → HasPlace start mid c call reply e)
        → IsServed mid.kernel new.kernel c call noted answer → reply ≡ answer.reply
        → ((makers : _) → Told (objects mid.origin) (λ m. StoreStep (state_of mid.kernel makers) c call answer.reply m (objects new.origin)))
        → faults mid.origin ≤ faults new.origin → (IsFault answer.reply → Rose (faults mid.origin) (faults new.origin))
        → ((makers : _) → IsUnasked (state_of mid.kernel makers) c call answer.reply → new.origin ≡ mid.origin)
        → IsNoted call noted → (IsShared call → IsSharedEntry noted) → new.log.items ≡ grown mid.log.items c noted answer.told → Did objects faults start old new c call reply
    did_served new c call noted reply answer capacity fit serves is store falls cause unasked notes shares same =
        did_back new c call reply (did mid new c call noted reply taken_whole
        (λ m told. as_state (λ s. StoreStep s c call reply m (objects new.origin)) (subst (λ r. StoreStep (state_of mid.kernel (state start mid.log.items).desk.makers) c call r m (objects new.origin)) (sym is) (store (state start mid.log.items).desk.makers m told)))
        falls capacity fit
        (λ u. unasked (state start mid.log.items).desk.makers (subst (IsUnasked (state_of mid.kernel (state start mid.log.items).desk.makers) c call) is (back (λ s. IsUnasked s c call reply) u)))
        answer (whole_moves mid new.kernel c call noted answer taken_whole serves) is notes shares (λ f. cause (subst IsFault is f)) same)
      where
        of : state_of mid.kernel (state start mid.log.items).desk.makers ≡ state start mid.log.items
        of = of_state mid.kernel (state start mid.log.items) taken_whole.held

        as_state : (P : State → Type 0) → P (state_of mid.kernel (state start mid.log.items).desk.makers) → P (state start mid.log.items)
        as_state P p = subst P of p

        back : (P : State → Type 0) → P (state start mid.log.items) → P (state_of mid.kernel (state start mid.log.items).desk.makers)
        back P p = subst P (sym of) p

  -- what is held is out in the state
  module _ (body : Body O) (w : IsWhole objects faults start body) (c : ℕ) where
    lease_out : (lease : ℕ) → IsSome (map.get body.kernel.leases lease) → IsSome (map.get (state start body.log.items).desk.leases lease)
    lease_out lease out = subst (λ m. IsSome (map.get m lease)) w.held.leases out

    no_lease : (lease : ℕ) → ¬ (IsSome (map.get body.kernel.leases lease)) → map.get (state start body.log.items).desk.leases lease ≡ None
    no_lease lease away = is_none _ (λ out. away (subst (λ m. IsSome (map.get m lease)) (sym w.held.leases) out))

    session_out : (n : ℕ) → (j : Job) × (map.get body.kernel.sessions n ≡ Some (record { caller = c; job = j })) → (j : Job) × Holds (state start body.log.items) n c j
    session_out n out = (out.0, subst (λ m. map.get m n ≡ Some (record { caller = c; job = out.0 })) w.held.sessions out.1)

    no_session : (n : ℕ) → ¬ ((j : Job) × (map.get body.kernel.sessions n ≡ Some (record { caller = c; job = j }))) → HasNone (state start body.log.items) n c
    no_session n away = λ j holds. away (j, subst (λ m. map.get m n ≡ Some (record { caller = c; job = j })) (sym w.held.sessions) holds)

    own_ends : (call : DepotCall) → HasOwnPlace body.kernel c call → EndsOwn (state start body.log.items) c call
    own_ends (Close lease) own = lease_out lease own
    own_ends (Abandon n) own = session_out n own
    own_ends Reap own = tt
    own_ends call own = absurd own

    -- a call that has its own place finds one
    pub own_place : (call : DepotCall) → HasOwnPlace body.kernel c call → (reply : DepotReply) (e : LogEntry) → HasPlace start body c call reply e
    own_place call own reply e is step enters =
        let less = ending (state start body.log.items) e call reply (subst (λ c. EndsOwn (state start body.log.items) c call) (sym is) (own_ends call own)) step enters in
        omega (arith, less, w.places, of_places body.kernel (state start body.log.items) w.held)

    -- another call may find no memory
    pub no_place : (call : DepotCall) → ¬ (HasOwnPlace body.kernel c call) → DepotStep (state start body.log.items) c call OutOfMemory
    no_place (Close lease) none = no_lease lease none
    no_place (Abandon n) none = no_session n none
    no_place Reap none = absurd (none tt)
    no_place (OpenImage image) none = tt
    no_place (Fetch lease index) none = tt
    no_place (BeginCreate image) none = tt
    no_place (PutChunk n chunk) none = tt
    no_place (PutManifest n m) none = tt
    no_place (Rotate bytes) none = tt
    no_place (BeginMigrate image) none = tt
    no_place (CopyRead n index) none = tt
    no_place (FinishMigrate n) none = tt
    no_place (Withdraw image) none = tt
    no_place (Expire r) none = tt
    no_place (Delete r) none = tt
    no_place (Sweep r) none = tt
    no_place (Settle k) none = tt

  -- a place that was taken serves any call
  pub taken_place : (body : Body O) → IsWhole objects faults start body → vec_len body.log + places body.kernel + 2 ≤ vec_capacity body.log → (c : ℕ) (call : DepotCall) (reply : DepotReply) (e : LogEntry) → HasPlace start body c call reply e
  taken_place body w taken c call reply e is step enters = omega (arith, taken, places_more (state start body.log.items) e, of_places body.kernel (state start body.log.items) w.held)

  -- what is kept of the answer has a place
  pub room_of : (body : Body O) (new : Kernel) (c : ℕ) (call : DepotCall) (noted : DepotNoted) (answer : Answer) → IsWhole objects faults start body
      → ((reply : DepotReply) (e : LogEntry) → HasPlace start body c call reply e) → IsServed body.kernel new c call noted answer → IsNoted call noted → IsSome answer.told → vec_len body.log < vec_capacity body.log
  room_of body new c call noted answer w fit serves notes some = by answer.told some (whole_moves body new c call noted answer w serves)
    where
      by : (o : Option DepotTold) → IsSome o → RepliesBy (state start body.log.items) new c call noted answer.reply o → vec_len body.log < vec_capacity body.log
      by None some h = absurd cc
      by (Some t) some h =
          let place = fit answer.reply (record { caller = c; call = noted; reply = t }) refl h.0 (record { logged = h.1; noted = notes; told = h.2 }) in
          omega (arith, place)

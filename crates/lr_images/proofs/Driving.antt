-- a creation driven over a depot
use Rattle.std.proofs.Common.{◌≡◌, inl, inr, length, ℕ, ◌+◌, ◌≤◌, arith, List, [], ◌∷◌, ◌++◌, Bool, true, false, refl, ap, subst, sym, ◌∙◌, append_assoc}
use Rattle.std.specs.Prelude.{MatchBool, MatchOption, IfSome, Option, Some, None, ◌⊎◌}
use Rattle.lr_spec.specs.Rose.{Rose}
use Rattle.lr_rules.specs.State.{State}
use Rattle.lr_creator.specs.declared.create.CreateEnd.{CreateEnd}
use Rattle.lr_depot.specs.declared.call.DepotCall.{DepotCall}
use Rattle.lr_depot.specs.declared.call.DepotReply.{DepotReply}
use Rattle.lr_depot.specs.declared.call.DepotReply.TheVariants.{Fault}
use Rattle.lr_depot.specs.Machine.{LogEntry, DepotStep, Enters, is_logged}
use Rattle.lr_depot.specs.Depot.{Seen, state}
use Rattle.lr_depot.specs.Store.{IsFault}
use Rattle.lr_walk.specs.Depot.{Step, step, Reply, began, kept, made, memory, seen_call, seen_reply}
use Rattle.lr_walk.proofs.Depot.{answers_by_table}
use Rattle.lr_walk.specs.Stands.{StandsFor}
use Rattle.lr_creator.specs.Creation.{Ending, with_root, with_reply, with_memory, with_stop, Input, piece, last, Creates}
use Rattle.lr_creator.specs.Progress.{Need, beginning, wanting, putting, finishing, leaving, ended, Progress, Rest, Stands, a_call, an_end, no_call, Asked, asked, AnswersAsked, with_step, advanced, is_wanting, raw_len_of, IsDone}
use Rattle.lr_creator.specs.Seen.{IsSame, is_call, LeftShort, FinishedAt, Finished, Stopped, Gave, seen_end}
use Rattle.lr_images.specs.Drive.{Calls, Drives, Ended, IsFaultEnd, IsFaultNeed, left_of, HasGiven, IsEarly, IsUnstopped, MayEnd}
use Rattle.lr_images.proofs.Calling.{Logs, calls_one, calls_on, rose_later, rose_before}

pub admits : (s : State) (call : DepotCall) (reply : DepotReply) (a : Asked) → a_call (seen_call call) ≡ a → DepotStep s 0 call reply → AnswersAsked a (seen_reply reply)
admits s call reply a e d = subst (λ q. AnswersAsked q (seen_reply reply)) e (answers_by_table s 0 call reply d)

-- ---- faults

told_fault : (reply : DepotReply) → IsFaultEnd (with_reply (seen_reply reply)) → IsFault reply
told_fault (Fault k) h = tt
told_fault reply h = absurd h

fault_from : (need : Need) (reply : Reply) → IsFaultNeed (advanced need reply) → IsFaultNeed need ⊎ IsFaultEnd (with_reply reply)
fault_from (beginning image) (began session root bytes number) h = absurd h
fault_from (beginning image) memory h = absurd h
fault_from (beginning image) reply h = inr h
fault_from (wanting place parts) reply h = absurd h
fault_from (putting place parts name) kept h = absurd h
fault_from (putting place parts name) memory h = absurd h
fault_from (putting place parts name) reply h = inr h
fault_from (finishing place fields) (made root) h = absurd h
fault_from (finishing place fields) memory h = absurd h
fault_from (finishing place fields) reply h = inr h
fault_from (leaving session end) reply h = inl h
fault_from (ended end) reply h = inl h

fault_more : {O : Type 0} (faults : O → ℕ) (base before after : Seen O) (old new : Need) (reply : DepotReply) → new ≡ advanced old (seen_reply reply)
    → faults base.origin ≤ faults before.origin → faults before.origin ≤ faults after.origin
    → (IsFault reply → Rose (faults before.origin) (faults after.origin)) → (IsFaultNeed old → Rose (faults base.origin) (faults before.origin))
    → IsFaultNeed new → Rose (faults base.origin) (faults after.origin)
fault_more faults base before after old new reply n first second rose was h = by (fault_from old (seen_reply reply) (subst IsFaultNeed n h))
  where
    by : IsFaultNeed old ⊎ IsFaultEnd (with_reply (seen_reply reply)) → Rose (faults base.origin) (faults after.origin)
    by (inl q) = rose_later (faults base.origin) (faults before.origin) (faults after.origin) (was q) second
    by (inr q) = rose_before (faults base.origin) (faults before.origin) (faults after.origin) first (rose (told_fault reply q))

-- ---- one call

pub drives_more : {O : Type 0} (faults : O → ℕ) (base before after : Seen O) (old new : Progress) (given : List Input) (call : DepotCall) (reply : DepotReply)
    → a_call (seen_call call) ≡ asked old.need → after.start ≡ before.start → DepotStep (state before.start before.log) 0 call reply → Logs (is_logged reply) call reply before.log after.log
    → faults before.origin ≤ faults after.origin → (IsFault reply → Rose (faults before.origin) (faults after.origin))
    → new.need ≡ advanced old.need (seen_reply reply)
    → ((given : List Input) (steps : List Step) → Stands old given steps → Stands new given (with_step steps (asked old.need) (seen_reply reply)))
    → Drives faults base old given before → Drives faults base new given after
drives_more faults base before after old new given call reply e start answers grew never rose n takes d =
    record {
      steps = d.steps ++ step (seen_call call) (seen_reply reply) ∷ [];
      stands = subst (λ q. Stands new given (with_step d.steps q (seen_reply reply))) (sym e) (takes given d.steps d.stands);
      calls = calls_on faults base before after d.steps (step (seen_call call) (seen_reply reply) ∷ []) d.calls (calls_one faults before after call reply start answers grew never);
      cause = fault_more faults base before after old.need new.need reply n d.calls.never_falls never rose d.cause;
    }

falls_one : (need : Need) (reply : Reply) → AnswersAsked (asked need) reply → left_of (advanced need reply) + 1 ≤ left_of need
falls_one (beginning image) (began session root bytes number) a = omega arith
falls_one (beginning image) memory a = omega arith
falls_one (beginning image) reply a = omega arith
falls_one (wanting place parts) reply a = absurd a
falls_one (putting place parts name) kept a = omega arith
falls_one (putting place parts name) memory a = omega arith
falls_one (putting place parts name) reply a = omega arith
falls_one (finishing place fields) (made root) a = omega arith
falls_one (finishing place fields) memory a = omega arith
falls_one (finishing place fields) reply a = omega arith
falls_one (leaving session end) reply a = omega arith
falls_one (ended end) reply a = absurd a

pub falls : (old mid new : Need) (reply : Reply) → mid ≡ old → new ≡ advanced mid reply → AnswersAsked (asked mid) reply → left_of new + 1 ≤ left_of old
falls old mid new reply e n a = subst (λ q. left_of new + 1 ≤ left_of q) e (subst (λ q. left_of q + 1 ≤ left_of mid) (sym n) (falls_one mid reply a))

given_one : (need : Need) (reply : Reply) (n : ℕ) → AnswersAsked (asked need) reply → HasGiven need n → HasGiven (advanced need reply) n
given_one (beginning image) (began session root bytes number) n a h = sym h
given_one (beginning image) memory n a h = tt
given_one (beginning image) reply n a h = tt
given_one (wanting place parts) reply n a h = absurd a
given_one (putting place parts name) kept n a h = h
given_one (putting place parts name) memory n a h = tt
given_one (putting place parts name) reply n a h = tt
given_one (finishing place fields) (made root) n a h = tt
given_one (finishing place fields) memory n a h = tt
given_one (finishing place fields) reply n a h = tt
given_one (leaving session end) reply n a h = tt
given_one (ended end) reply n a h = absurd a

pub gives_on : (old mid new : Need) (reply : Reply) → mid ≡ old → new ≡ advanced mid reply → AnswersAsked (asked mid) reply → (n : ℕ) → HasGiven old n → HasGiven new n
gives_on old mid new reply e f a n h = subst (λ q. HasGiven q n) (sym f) (given_one mid reply n a (subst (λ q. HasGiven q n) (sym e) h))

may_one : (need : Need) (reply : Reply) → (end : Ending) → MayEnd (advanced need reply) end → MayEnd need end
may_one (beginning image) (began session root bytes number) end m = absurd m
may_one (beginning image) memory end m = subst IsEarly m tt
may_one (beginning image) reply end m = subst IsEarly m tt
may_one (wanting place parts) reply end m = absurd m
may_one (putting place parts name) kept end m = absurd m
may_one (putting place parts name) memory end m = subst IsEarly m tt
may_one (putting place parts name) reply end m = subst IsEarly m tt
may_one (finishing place fields) (made root) end m = subst IsUnstopped m tt
may_one (finishing place fields) memory end m = subst IsUnstopped m tt
may_one (finishing place fields) reply end m = subst IsUnstopped m tt
may_one (leaving session e) reply end m = m
may_one (ended e) reply end m = m

pub may_on : (old mid new : Need) (reply : Reply) → mid ≡ old → new ≡ advanced mid reply → (end : Ending) → MayEnd new end → MayEnd old end
may_on old mid new reply e f end m = subst (λ q. MayEnd q end) e (may_one mid reply end (subst (λ q. MayEnd q end) f m))

pub may_end : (need : Need) (end : Ending) → an_end end ≡ asked need → MayEnd need end
may_end (ended e) end q = cc
may_end (beginning image) end q = absurd (cc)
may_end (wanting place parts) end q = absurd (cc)
may_end (putting place parts name) end q = absurd (cc)
may_end (finishing place fields) end q = absurd (cc)
may_end (leaving session e) end q = absurd (cc)

fault_end : (need : Need) (end : Ending) → an_end end ≡ asked need → IsFaultEnd end → IsFaultNeed need
fault_end (ended e) end q h = let same : end ≡ e = cc in subst IsFaultEnd same h
fault_end (beginning image) end q h = absurd (cc)
fault_end (wanting place parts) end q h = absurd (cc)
fault_end (putting place parts name) end q h = absurd (cc)
fault_end (finishing place fields) end q h = absurd (cc)
fault_end (leaving session e) end q h = absurd (cc)

pub ended_at : {O : Type 0} (faults : O → ℕ) (base d : Seen O) (p : Progress) (given : List Input) (end : Ending) → an_end end ≡ asked p.need
    → ((given : List Input) (steps : List Step) (end : Ending) → asked p.need ≡ an_end end → Stands p given steps → IsDone p given steps end)
    → Drives faults base p given d → Ended faults base p given d end
ended_at faults base d p given end e walk h =
    record { steps = h.steps; done = walk given h.steps end (sym e) h.stands; calls = h.calls; cause = λ f. h.cause (fault_end p.need end e f) }

pub drives_same : {O : Type 0} (faults : O → ℕ) (base d : Seen O) (old new : Progress) (given : List Input) → IsSame old new → new.need ≡ old.need → Drives faults base old given d → Drives faults base new given d
drives_same faults base d old new given same need h =
    record {
      steps = h.steps;
      stands = subst (λ (q : List ℕ × List ℕ). StandsFor (Creates q.0 q.1) (Rest q.1) new.need given h.steps) (λ i. (sym same.0 i, sym same.1 i))
          (subst (λ q. StandsFor (Creates old.image old.tenant) (Rest old.tenant) q given h.steps) (sym need) h.stands);
      calls = h.calls;
      cause = λ f. h.cause (subst IsFaultNeed need f);
    }

-- ---- many turns

calls_more : (need : Need) → is_wanting need ≡ false → is_call (asked need) ≡ true
calls_more (wanting place parts) e = absurd (cc)
calls_more (beginning image) e = refl
calls_more (putting place parts name) e = refl
calls_more (finishing place fields) e = refl
calls_more (leaving session end) e = refl
calls_more (ended end) e = refl

pub ready_on : (need : Need) (ready : Bool) → ready ≡ is_call (asked need) → is_wanting need ≡ false → ready ≡ true
ready_on need ready e w = e ∙ calls_more need w

pub same_on : (old mid new : Progress) → IsSame old mid → IsSame mid new → IsSame old new
same_on old mid new a b = (b.0 ∙ a.0, b.1 ∙ a.1)

pub ended_on : {O : Type 0} (faults : O → ℕ) (base d : Seen O) (old new : Progress) (given : List Input) (end : Ending) → IsSame old new → Ended faults base new given d end → Ended faults base old given d end
ended_on faults base d old new given end same h =
    record {
      steps = h.steps;
      done = subst (λ (q : List ℕ × List ℕ). (more : List Input) → Creates q.0 q.1 (given ++ more) h.steps end) (λ i. (same.0 i, same.1 i)) h.done;
      calls = h.calls;
      cause = h.cause;
    }

-- ---- what the owner gives

-- what was done whatever else were given, was done with one piece more
done_more : (p : Progress) (given : List Input) (steps : List Step) (end : Ending) (x : Input) → IsDone p given steps end → IsDone p (given ++ x ∷ []) steps end
done_more p given steps end x d = λ more. subst (λ l. Creates p.image p.tenant l steps end) (sym (append_assoc given (x ∷ []) more)) (d (x ∷ more))

ended_more : {O : Type 0} (faults : O → ℕ) (base d : Seen O) (p : Progress) (given : List Input) (end : Ending) (x : Input) → Ended faults base p given d end → Ended faults base p (given ++ x ∷ []) d end
ended_more faults base d p given end x h = record { steps = h.steps; done = done_more p given h.steps end x h.done; calls = h.calls; cause = h.cause }

gave_fault : (old new : Need) (plain : List ℕ) → Gave old plain new → IsFaultNeed new → ⊥
gave_fault (wanting place parts) new plain (name, named, e) h = subst IsFaultNeed e h
gave_fault need new plain g h = absurd g

short_fault : (old new : Need) → LeftShort old new → IsFaultNeed new → ⊥
short_fault (wanting place parts) new e h = subst IsFaultNeed e h
short_fault need new e h = absurd e

finished_fault : (tenant : List ℕ) (old new : Need) → FinishedAt tenant old new → IsFaultNeed new → ⊥
finished_fault tenant (wanting place parts) new (inl e) h = subst IsFaultNeed e h
finished_fault tenant (wanting place parts) new (inr e) h = subst IsFaultNeed e h
finished_fault tenant need new e h = absurd e

stopped_fault : (old new : Need) → Stopped old new → IsFaultNeed new → ⊥
stopped_fault (wanting place parts) new e h = subst IsFaultNeed e h
stopped_fault need new e h = absurd e

taken_in : {O : Type 0} (faults : O → ℕ) (base d : Seen O) (old new : Progress) (given after : List Input)
    → ((steps : List Step) → Stands old given steps → Stands new after steps) → (IsFaultNeed new.need → ⊥) → Drives faults base old given d → Drives faults base new after d
taken_in faults base d old new given after s none h = record { steps = h.steps; stands = s h.steps h.stands; calls = h.calls; cause = λ f. absurd (none f) }

pub gave_more : {O : Type 0} (faults : O → ℕ) (base d : Seen O) (old new : Progress) (given : List Input) (plain : List ℕ) → Gave old.need plain new.need
    → ((given : List Input) (steps : List Step) → Stands old given steps → Stands new (given ++ piece plain ∷ []) steps) → Drives faults base old given d → Drives faults base new (given ++ piece plain ∷ []) d
gave_more faults base d old new given plain gave s h = taken_in faults base d old new given (given ++ piece plain ∷ []) (s given) (gave_fault old.need new.need plain gave) h

pub kept_short : {O : Type 0} (faults : O → ℕ) (base d : Seen O) (old new : Progress) (given : List Input) → LeftShort old.need new.need
    → ((given : List Input) (steps : List Step) → Stands old given steps → Stands new given steps) → Drives faults base old given d → Drives faults base new given d
kept_short faults base d old new given short s h = taken_in faults base d old new given given (s given) (short_fault old.need new.need short) h

pub gave_last : {O : Type 0} (faults : O → ℕ) (base d : Seen O) (old new : Progress) (given : List Input) → Finished old new.need
    → ((given : List Input) (steps : List Step) → Stands old given steps → Stands new (given ++ last ∷ []) steps) → Drives faults base old given d → Drives faults base new (given ++ last ∷ []) d
gave_last faults base d old new given finished s h = taken_in faults base d old new given (given ++ last ∷ []) (s given) (finished_fault old.tenant old.need new.need finished) h

pub kept_stopped : {O : Type 0} (faults : O → ℕ) (base d : Seen O) (old new : Progress) (given : List Input) → Stopped old.need new.need
    → ((given : List Input) (steps : List Step) → Stands old given steps → Stands new given steps) → Drives faults base old given d → Drives faults base new given d
kept_stopped faults base d old new given stopped s h = taken_in faults base d old new given given (s given) (stopped_fault old.need new.need stopped) h

-- one that closes wants nothing more
closed : (need : Need) → ((n : ℕ) → HasGiven need n) → is_wanting need ≡ true → ⊥
closed (wanting place parts) h w = let a : parts.raw_len ≡ 0 = h 0 in let b : parts.raw_len ≡ 1 = h 1 in absurd (omega (arith, a, b))
closed (beginning image) h w = absurd (cc)
closed (putting place parts name) h w = absurd (cc)
closed (finishing place fields) h w = absurd (cc)
closed (leaving session end) h w = absurd (cc)
closed (ended end) h w = absurd (cc)

short_given : (old new : Need) → LeftShort old new → (n : ℕ) → HasGiven new n
short_given (wanting place parts) new e n = subst (λ q. HasGiven q n) (sym e) tt
short_given need new e n = absurd e

pub short_closed : (old mid new : Need) → LeftShort old mid → ((n : ℕ) → HasGiven mid n → HasGiven new n) → is_wanting new ≡ true → ⊥
short_closed old mid new short on w = closed new (λ n. on n (short_given old mid short n)) w

finished_given : (tenant : List ℕ) (old new : Need) → FinishedAt tenant old new → (n : ℕ) → HasGiven new n
finished_given tenant (wanting place parts) new (inl e) n = subst (λ q. HasGiven q n) (sym e) tt
finished_given tenant (wanting place parts) new (inr e) n = subst (λ q. HasGiven q n) (sym e) tt
finished_given tenant need new e n = absurd e

pub finished_closed : (old : Progress) (mid new : Need) → Finished old mid → ((n : ℕ) → HasGiven mid n → HasGiven new n) → is_wanting new ≡ true → ⊥
finished_closed old mid new f on w = closed new (λ n. on n (finished_given old.tenant old.need mid f n)) w

stopped_given : (old new : Need) → Stopped old new → (n : ℕ) → HasGiven new n
stopped_given (wanting place parts) new e n = subst (λ q. HasGiven q n) (sym e) tt
stopped_given need new e n = absurd e

pub stopped_closed : (old mid new : Need) → Stopped old mid → ((n : ℕ) → HasGiven mid n → HasGiven new n) → is_wanting new ≡ true → ⊥
stopped_closed old mid new stopped on w = closed new (λ n. on n (stopped_given old mid stopped n)) w

gave_given : (old mid : Need) (plain : List ℕ) → Gave old plain mid → HasGiven mid (raw_len_of old + length plain)
gave_given (wanting place parts) mid plain (name, named, e) = subst (λ q. HasGiven q (parts.raw_len + length plain)) (sym e) refl
gave_given need mid plain g = absurd g

wanting_given : (need : Need) (n : ℕ) → is_wanting need ≡ true → HasGiven need n → raw_len_of need ≡ n
wanting_given (wanting place parts) n w h = h
wanting_given (beginning image) n w h = absurd (cc)
wanting_given (putting place parts name) n w h = absurd (cc)
wanting_given (finishing place fields) n w h = absurd (cc)
wanting_given (leaving session end) n w h = absurd (cc)
wanting_given (ended end) n w h = absurd (cc)

pub gave_raw : (old mid new : Need) (plain : List ℕ) → Gave old plain mid → ((n : ℕ) → HasGiven mid n → HasGiven new n) → is_wanting new ≡ true → raw_len_of new ≡ raw_len_of old + length plain
gave_raw old mid new plain gave on w = wanting_given new (raw_len_of old + length plain) w (on (raw_len_of old + length plain) (gave_given old mid plain gave))

pub begun_raw : (need : Need) → is_wanting need ≡ true → HasGiven need 0 → raw_len_of need ≡ 0
begun_raw need w h = wanting_given need 0 w h

-- ---- how they end

gave_early : (old mid : Need) (plain : List ℕ) (end : Ending) → Gave old plain mid → MayEnd mid end → IsEarly end
gave_early (wanting place parts) mid plain end (name, named, e) m = subst (λ q. MayEnd q end) e m
gave_early need mid plain end g m = absurd g

pub some_gave : (o : Option CreateEnd) (old mid : Need) (plain : List ℕ) → Gave old plain mid → IfSome o (λ end. MayEnd mid (seen_end end)) → IfSome o (λ end. IsEarly (seen_end end))
some_gave None old mid plain g m = m
some_gave (Some end) old mid plain g m = gave_early old mid plain (seen_end end) g m

short_early : (old mid : Need) (end : Ending) → LeftShort old mid → MayEnd mid end → IsEarly end
short_early (wanting place parts) mid end e m = let is : with_memory ≡ end = subst (λ q. MayEnd q end) e m in subst IsEarly is tt
short_early need mid end e m = absurd e

pub some_short : (o : Option CreateEnd) (old mid : Need) → LeftShort old mid → IfSome o (λ end. MayEnd mid (seen_end end)) → IfSome o (λ end. IsEarly (seen_end end))
some_short None old mid s m = m
some_short (Some end) old mid s m = short_early old mid (seen_end end) s m

finished_unstopped : (tenant : List ℕ) (old mid : Need) (end : Ending) → FinishedAt tenant old mid → MayEnd mid end → IsUnstopped end
finished_unstopped tenant (wanting place parts) mid end (inl e) m = subst (λ q. MayEnd q end) e m
finished_unstopped tenant (wanting place parts) mid end (inr e) m = let is : with_memory ≡ end = subst (λ q. MayEnd q end) e m in subst IsUnstopped is tt
finished_unstopped tenant need mid end e m = absurd e

pub last_unstopped : (old : Progress) (mid : Need) (end : Ending) → Finished old mid → MayEnd mid end → IsUnstopped end
last_unstopped old mid end f m = finished_unstopped old.tenant old.need mid end f m

stopped_end : (old mid : Need) (end : Ending) → Stopped old mid → MayEnd mid end → with_stop ≡ end
stopped_end (wanting place parts) mid end e m = subst (λ q. MayEnd q end) e m
stopped_end need mid end e m = absurd e

-- ---- what drove on

pub ok_drives : {O : Type 0} (faults : O → ℕ) (o : Option CreateEnd) (base d : Seen O) (old mid new : Progress) (given : List Input) → IsSame old mid
    → MatchOption o (Drives faults base new given d) (λ e. Ended faults base mid given d (seen_end e)) → MatchOption o (Drives faults base new given d) (λ e. Ended faults base old given d (seen_end e))
ok_drives faults None base d old mid new given same h = h
ok_drives faults (Some end) base d old mid new given same h = ended_on faults base d old mid given (seen_end end) same h

pub err_drives : {O : Type 0} (faults : O → ℕ) (o : Option CreateEnd) (base d : Seen O) (old mid new : Progress) (given : List Input) (x : Input) → IsSame old mid → (o ≡ None → ⊥)
    → MatchOption o (Drives faults base new given d) (λ e. Ended faults base mid given d (seen_end e)) → MatchOption o (Drives faults base new (given ++ x ∷ []) d) (λ e. Ended faults base old (given ++ x ∷ []) d (seen_end e))
err_drives faults None base d old mid new given x same never h = absurd (never refl)
err_drives faults (Some end) base d old mid new given x same never h = ended_more faults base d old given (seen_end end) x (ended_on faults base d old mid given (seen_end end) same h)

pub stop_drives : {O : Type 0} (faults : O → ℕ) (o : Option CreateEnd) (base d : Seen O) (old mid new : Progress) (given : List Input) → IsSame old mid → (o ≡ None → ⊥)
    → Stopped old.need mid.need → IfSome o (λ end. MayEnd mid.need (seen_end end))
    → MatchOption o (Drives faults base new given d) (λ e. Ended faults base mid given d (seen_end e)) → Ended faults base old given d with_stop
stop_drives faults None base d old mid new given same never s m h = absurd (never refl)
stop_drives faults (Some end) base d old mid new given same never s m h =
    subst (λ q. Ended faults base old given d q) (sym (stopped_end old.need mid.need (seen_end end) s m)) (ended_on faults base d old mid given (seen_end end) same h)

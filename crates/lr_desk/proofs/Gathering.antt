-- collections over a depot
use Rattle.std.proofs.Common.{◌≡◌, ◌+◌, ◌≤◌, ℕ, List, [], ◌∷◌, ◌++◌, Bool, true, refl, ap, subst, sym, ◌∙◌, arith}
use Rattle.std.specs.Prelude.{MatchBool}
use Rattle.std.specs.FinMap as fin
use Rattle.lr_spec.specs.Rose.{next_count}
use Rattle.lr_origin.specs.declared.key.KeyKind.{KeyKind}
use Rattle.lr_rules.specs.State.{State}
use Rattle.lr_depot.specs.declared.call.DepotCall.{DepotCall}
use Rattle.lr_depot.specs.declared.call.DepotCall.TheVariants.{OpenImage, Fetch, Close, BeginCreate, PutChunk, PutManifest, Abandon, Rotate, BeginMigrate, CopyRead, FinishMigrate, Withdraw, Expire, Delete, Sweep, Settle, Reap}
use Rattle.lr_depot.specs.declared.call.DepotReply.{DepotReply}
use Rattle.lr_depot.specs.declared.call.DepotReply.TheVariants.{Removed}
use Rattle.lr_depot.specs.Begun.{Start}
use Rattle.lr_depot.specs.Machine.{LogEntry, DepotStep, Enters, is_logged, IsShared, IsSharedEntry, state_after, IsNextItem}
use Rattle.lr_depot.specs.Depot.{first_state, state}
use Rattle.lr_depot.specs.Store.{IsFault}
use Rattle.lr_depot.proofs.Logged.{run_more}
use Rattle.lr_walk.specs.Depot.{Step, step, Reply, sweeps, removed, swept, memory, seen_call, seen_reply}
use Rattle.lr_walk.specs.Stands as machines
use Rattle.lr_walk.proofs.Depot.{answers_by_table}
use Rattle.lr_collector.specs.declared.collect.CollectJob.{CollectJob}
use Rattle.lr_collector.specs.declared.collect.CollectJob.TheVariants as job
use Rattle.lr_collector.specs.Collection.{Ending, end_of, Collects}
use Rattle.lr_collector.specs.Progress.{Need, asking, ended, Progress, start as first, Rest, Stands, Asked, a_call, an_end, asked, AnswersAsked, with_step, advanced}
use Rattle.lr_desk.specs.Drive.{GoesOn, IsFaultReply, Drives, HasCollected, IsFaultEnd, IsFaultNeed, turns_left}
use Rattle.lr_desk.proofs.Logs.{goes_more, goes_none, seen_fault, one_less}

pub admits : (s : State) (call : DepotCall) (reply : DepotReply) (a : Asked) → a_call (seen_call call) ≡ a → DepotStep s 0 call reply → AnswersAsked a (seen_reply reply)
admits s call reply a e d = subst (λ q. AnswersAsked q (seen_reply reply)) e (answers_by_table s 0 call reply d)

pub drives_more : (base log after : List LogEntry) (old new : Progress) (call : DepotCall) (reply : DepotReply)
    → a_call (seen_call call) ≡ asked old.job old.need
    → MatchBool (is_logged reply) ((e : LogEntry) × (after ≡ log ++ e ∷ []) × (e.caller ≡ 0) × Enters call reply e × (IsShared call → IsSharedEntry e.call)) (after ≡ log)
    → ((steps : List Step) → Stands old steps → Stands new (with_step steps (asked old.job old.need) (seen_reply reply)))
    → Drives base old log → Drives base new after
drives_more base log after old new call reply e grew takes d =
    record {
      steps = d.steps ++ step (seen_call call) (seen_reply reply) ∷ [];
      stands = subst (λ q. Stands new (with_step d.steps q (seen_reply reply))) (sym e) (takes d.steps d.stands);
      goes_on = goes_more call reply base log after d.steps grew d.goes_on;
    }

pub drives_same : (base log : List LogEntry) (old new : Progress) → new.job ≡ old.job → new.need ≡ old.need → Drives base old log → Drives base new log
drives_same base log old new job need d =
    record {
      steps = d.steps;
      stands = subst (λ j. machines.Stands (Collects j) (Rest j) new.need d.steps) (sym job) (subst (λ n. machines.Stands (Collects old.job) (Rest old.job) n d.steps) (sym need) d.stands);
      goes_on = d.goes_on;
    }

pub has_collected : (base log : List LogEntry) (p : Progress) (end : Ending) → an_end end ≡ asked p.job p.need
    → ((steps : List Step) (end : Ending) → asked p.job p.need ≡ an_end end → Stands p steps → Collects p.job steps end)
    → Drives base p log → HasCollected base p.job log end
has_collected base log p end e walk d = record { steps = d.steps; walk = walk d.steps end (sym e) d.stands; goes_on = d.goes_on }

-- ---- faults

fault_end : (r : Reply) → IsFaultEnd (end_of r) → IsFaultReply r
fault_end memory h = absurd h
fault_end r h = h

fault_sweep : (root count : ℕ) (r : Reply) → IsFaultNeed (advanced (job.Sweep root) (asking count) r) → IsFaultReply r
fault_sweep root count (removed k) h = absurd h
fault_sweep root count swept h = absurd h
fault_sweep root count memory h = absurd h
fault_sweep root count r h = h

fault_advanced : (j : CollectJob) (count : ℕ) (r : Reply) → IsFaultNeed (advanced j (asking count) r) → IsFaultReply r
fault_advanced (job.Rotate bytes) count r h = fault_end r h
fault_advanced (job.Withdraw image) count r h = fault_end r h
fault_advanced (job.Expire root) count r h = fault_end r h
fault_advanced (job.Delete root) count r h = fault_end r h
fault_advanced (job.Sweep root) count r h = fault_sweep root count r h
fault_advanced (job.Settle key) count r h = fault_end r h

fault_cause : (j : CollectJob) (need : Need) (call : DepotCall) (reply : DepotReply) → a_call (seen_call call) ≡ asked j need
    → IsFaultNeed (advanced j need (seen_reply reply)) → IsFault reply
fault_cause j (asking count) call reply e h = seen_fault reply (fault_advanced j count (seen_reply reply) h)
fault_cause j (ended end) call reply e h = absurd (cc)

pub fault_made : (j : CollectJob) (need new : Need) (call : DepotCall) (reply : DepotReply) → a_call (seen_call call) ≡ asked j need
    → new ≡ advanced j need (seen_reply reply) → IsFaultNeed new → IsFault reply
fault_made j need new call reply e n h = fault_cause j need call reply e (subst IsFaultNeed n h)

pub fault_at_end : (j : CollectJob) (need : Need) (end : Ending) → an_end end ≡ asked j need → IsFaultEnd end → IsFaultNeed need
fault_at_end j (asking count) end e h = absurd (cc)
fault_at_end j (ended other) end e h = let s : end ≡ other = cc in subst IsFaultEnd s h

-- ---- the measure

sweep_of : (call : DepotCall) (root : ℕ) → a_call (seen_call call) ≡ a_call (sweeps root) → call ≡ Sweep root
sweep_of (Sweep r) root e = cc
sweep_of call root e = absurd (cc)

Grows : DepotCall → DepotReply → List LogEntry → List LogEntry → Type 0
Grows call reply log after =
    MatchBool (is_logged reply) ((e : LogEntry) × (after ≡ log ++ e ∷ []) × (e.caller ≡ 0) × Enters call reply e × (IsShared call → IsSharedEntry e.call)) (after ≡ log)

-- a removal takes a key out of the view
removal : (start : Start) (log after : List LogEntry) (root : ℕ) (k : KeyKind) → IsNextItem (state start log) root k → Grows (Sweep root) (Removed k) log after
    → fin.len (state start after).known.view + 1 ≡ fin.len (state start log).known.view
unfolding Grows
removal start log after root k item (e, grew, caller, enters, shared) =
    let view : (state start after).known.view ≡ fin.remove (state start log).known.view k =
    ap (λ (l : List LogEntry). (state start l).known.view) grew
    ∙ (ap (λ (s : State). s.known.view) (run_more (first_state start) log e) ∙ (λ i. (state_after (state start log) e.caller (enters.noted i) (enters.told i)).known.view))
    in ap (λ v. fin.len v + 1) view ∙ one_less (state start log).known.view k item.held item.may.here

sweep_falls : (start : Start) (log after : List LogEntry) (root count : ℕ) (call : DepotCall) (reply : DepotReply) → call ≡ Sweep root
    → DepotStep (state start log) 0 call reply → Grows call reply log after
    → turns_left (advanced (job.Sweep root) (asking count) (seen_reply reply)) (fin.len (state start after).known.view) + 1 ≤ fin.len (state start log).known.view + 2
sweep_falls start log after root count call (Removed k) e d grew =
    let less = removal start log after root k (subst (λ q. DepotStep (state start log) 0 q (Removed k)) e d) (subst (λ q. Grows q (Removed k) log after) e grew) in
    omega (arith, less)
sweep_falls start log after root count call reply e d grew = omega arith

falls_at : (start : Start) (log after : List LogEntry) (j : CollectJob) (need : Need) (call : DepotCall) (reply : DepotReply) → a_call (seen_call call) ≡ asked j need
    → DepotStep (state start log) 0 call reply → Grows call reply log after
    → turns_left (advanced j need (seen_reply reply)) (fin.len (state start after).known.view) + 1 ≤ turns_left need (fin.len (state start log).known.view)
falls_at start log after j (ended end) call reply e d grew = absurd (cc)
falls_at start log after (job.Rotate bytes) (asking count) call reply e d grew = omega arith
falls_at start log after (job.Withdraw image) (asking count) call reply e d grew = omega arith
falls_at start log after (job.Expire root) (asking count) call reply e d grew = omega arith
falls_at start log after (job.Delete root) (asking count) call reply e d grew = omega arith
falls_at start log after (job.Sweep root) (asking count) call reply e d grew = sweep_falls start log after root count call reply (sweep_of call root e) d grew
falls_at start log after (job.Settle key) (asking count) call reply e d grew = omega arith

pub falls : (start new_start : Start) (log after : List LogEntry) (j : CollectJob) (need new : Need) (call : DepotCall) (reply : DepotReply) → new_start ≡ start
    → a_call (seen_call call) ≡ asked j need → new ≡ advanced j need (seen_reply reply) → DepotStep (state start log) 0 call reply
    → MatchBool (is_logged reply) ((e : LogEntry) × (after ≡ log ++ e ∷ []) × (e.caller ≡ 0) × Enters call reply e × (IsShared call → IsSharedEntry e.call)) (after ≡ log)
    → turns_left new (fin.len (state new_start after).known.view) + 1 ≤ turns_left need (fin.len (state start log).known.view)
unfolding Grows
falls start new_start log after j need new call reply s e n d grew =
    subst (λ (q : Start). turns_left new (fin.len (state q after).known.view) + 1 ≤ turns_left need (fin.len (state start log).known.view)) (sym s)
    (subst (λ q. turns_left q (fin.len (state start after).known.view) + 1 ≤ turns_left need (fin.len (state start log).known.view)) (sym n) (falls_at start log after j need call reply e d grew))

-- ---- the whole collection

pub drives_start : (base : List LogEntry) (j : CollectJob) (p : Progress) → Stands p [] → Drives base p base
drives_start base j p stands = record { steps = []; stands = stands; goes_on = goes_none base }

pub no_fault : (j : CollectJob) (p : Progress) → p ≡ first j → IsFaultNeed p.need → ⊥
no_fault j p e h = subst (λ (q : Progress). IsFaultNeed q.need) e h

pub collected_of : (base log : List LogEntry) (j k : CollectJob) (end : Ending) → k ≡ j → HasCollected base k log end → HasCollected base j log end
collected_of base log j k end e h = subst (λ q. HasCollected base q log end) e h

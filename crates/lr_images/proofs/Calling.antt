-- calls on a depot, one after another
use Rattle.std.proofs.Common.{◌≡◌, inl, inr, ℕ, ◌<◌, ◌≤◌, arith, List, [], ◌∷◌, ◌++◌, map, Bool, true, false, refl, ap, sym, subst, ◌∙◌, append-nil, append_assoc}
use Rattle.std.specs.Prelude.{MatchBool, ◌⊎◌}
use Rattle.std.specs.List.{AllByRecursion}
use Rattle.std.proofs.lemmas.List.{map-append}
use Rattle.lr_spec.specs.Rose.{Rose, last_count}
use Rattle.lr_depot.specs.declared.call.DepotCall.{DepotCall}
use Rattle.lr_depot.specs.declared.call.DepotReply.{DepotReply}
use Rattle.lr_depot.specs.declared.call.DepotReply.TheVariants.{Nothing, OutOfMemory}
use Rattle.lr_rules.specs.State.{State}
use Rattle.lr_depot.specs.Machine.{LogEntry, DepotStep, Enters, is_logged, IsShared, IsSharedEntry, after_entry, run}
use Rattle.lr_depot.specs.Begun.{Start}
use Rattle.lr_depot.specs.Depot.{Seen, first_state, state}
use Rattle.lr_depot.specs.Store.{IsRun}
use Rattle.lr_walk.specs.Depot.{Step, step, step_of, logged, with_logged, Reply, memory, nothing, seen_call, seen_reply}
use Rattle.lr_walk.proofs.Depot.{entry_step}
use Rattle.lr_images.specs.Drive.{GoesOn, Calls}

with_one : (r : Reply) (s : Step) (xs ys : List Step) → with_logged r s (xs ++ ys) ≡ with_logged r s xs ++ ys
with_one memory s xs ys = refl
with_one nothing s xs ys = refl
with_one r s xs ys = refl

logged_append : (xs ys : List Step) → logged (xs ++ ys) ≡ logged xs ++ logged ys
logged_append [] ys = refl
logged_append (x ∷ xs) ys = ap (with_logged x.reply x) (logged_append xs ys) ∙ with_one x.reply x (logged xs) (logged ys)

kept_if : (reply : DepotReply) (s : Step) → is_logged reply ≡ true → with_logged (seen_reply reply) s [] ≡ s ∷ []
kept_if Nothing s e = absurd (cc)
kept_if OutOfMemory s e = absurd (cc)
kept_if reply s e = refl

left_if : (reply : DepotReply) (s : Step) → is_logged reply ≡ false → with_logged (seen_reply reply) s [] ≡ []
left_if Nothing s e = refl
left_if OutOfMemory s e = refl
left_if reply s e = absurd (cc)

all_append : (xs ys : List LogEntry) → AllByRecursion (λ e. e.caller ≡ 0) xs → AllByRecursion (λ e. e.caller ≡ 0) ys → AllByRecursion (λ e. e.caller ≡ 0) (xs ++ ys)
all_append [] ys h k = k
all_append (x ∷ xs) ys h k = (h.0, all_append xs ys h.1 k)

-- the log after a call of caller 0
abbrev pub Logs : Bool → DepotCall → DepotReply → List LogEntry → List LogEntry → Type 0
Logs b call reply log after =
    MatchBool b ((e : LogEntry) × (after ≡ log ++ e ∷ []) × (e.caller ≡ 0) × Enters call reply e × (IsShared call → IsSharedEntry e.call)) (after ≡ log)

goes_one : (b : Bool) (call : DepotCall) (reply : DepotReply) (log after : List LogEntry) → is_logged reply ≡ b → Logs b call reply log after → GoesOn log after (step (seen_call call) (seen_reply reply) ∷ [])
goes_one true call reply log after e (entry, grew, caller, enters, shared) =
    record {
      own = entry ∷ [];
      after = grew;
      steps_of = ap (λ s. s ∷ []) (entry_step call reply entry enters) ∙ sym (kept_if reply (step (seen_call call) (seen_reply reply)) e);
      callers = (caller, tt);
    }
goes_one false call reply log after e same =
    record {
      own = [];
      after = same ∙ sym (append-nil log);
      steps_of = sym (left_if reply (step (seen_call call) (seen_reply reply)) e);
      callers = tt;
    }

goes_on : (a b c : List LogEntry) (s t : List Step) → GoesOn a b s → GoesOn b c t → GoesOn a c (s ++ t)
goes_on a b c s t g h =
    record {
      own = g.own ++ h.own;
      after = h.after ∙ (ap (λ l. l ++ h.own) g.after ∙ append_assoc a g.own h.own);
      steps_of = map-append step_of g.own h.own ∙ ((λ i. g.steps_of i ++ h.steps_of i) ∙ sym (logged_append s t));
      callers = all_append g.own h.own g.callers h.callers;
    }

-- a log of the machine, with an entry more
run_push : (s : State) (log : List LogEntry) (call : DepotCall) (reply : DepotReply) (e : LogEntry) → DepotStep (run s log) e.caller call reply → Enters call reply e → IsRun s log → IsRun s (log ++ e ∷ [])
run_push s [] call reply e answers enters is = (call, reply, answers, enters, tt)
run_push s (x ∷ log) call reply e answers enters is = (is.0, is.1, is.2, is.3, run_push (after_entry s x) log call reply e answers enters is.4)

runs_one : (b : Bool) (s : State) (call : DepotCall) (reply : DepotReply) (log after : List LogEntry) → DepotStep (run s log) 0 call reply → Logs b call reply log after → IsRun s log → IsRun s after
runs_one true s call reply log after answers (e, grew, caller, enters, shared) is =
    subst (IsRun s) (sym grew) (run_push s log call reply e (subst (λ (c : ℕ). DepotStep (run s log) c call reply) (sym caller) answers) enters is)
runs_one false s call reply log after answers same is = subst (IsRun s) (sym same) is

pub calls_none : {O : Type 0} (faults : O → ℕ) (d : Seen O) → Calls faults d d []
calls_none faults d = record { start = refl; log = record { own = []; after = sym (append-nil d.log); steps_of = refl; callers = tt }; runs = λ is. is; never_falls = omega arith }

pub calls_one : {O : Type 0} (faults : O → ℕ) (old new : Seen O) (call : DepotCall) (reply : DepotReply) → new.start ≡ old.start → DepotStep (state old.start old.log) 0 call reply → Logs (is_logged reply) call reply old.log new.log
    → faults old.origin ≤ faults new.origin → Calls faults old new (step (seen_call call) (seen_reply reply) ∷ [])
calls_one faults old new call reply start answers grew never = record {
  start = start;
  log = goes_one (is_logged reply) call reply old.log new.log refl grew;
  runs = λ is. subst (λ (s : Start). IsRun (first_state s) new.log) (sym start) (runs_one (is_logged reply) (first_state old.start) call reply old.log new.log answers grew is);
  never_falls = never;
}

pub calls_on : {O : Type 0} (faults : O → ℕ) (a b c : Seen O) (s t : List Step) → Calls faults a b s → Calls faults b c t → Calls faults a c (s ++ t)
calls_on faults a b c s t g h =
    record { start = h.start ∙ g.start; log = goes_on a.log b.log c.log s t g.log h.log; runs = λ is. h.runs (g.runs is); never_falls = omega (arith, g.never_falls, h.never_falls) }

pub rose_later : (a b c : ℕ) → Rose a b → b ≤ c → Rose a c
rose_later a b c (inl less) le = inl (omega (arith, less, le))
rose_later a b c (inr most) le = inr (omega (arith, most, le))

pub rose_before : (a b c : ℕ) → a ≤ b → Rose b c → Rose a c
rose_before a b c le (inl less) = inl (omega (arith, less, le))
rose_before a b c le (inr most) = inr most

-- a log that goes on by steps
use Rattle.std.proofs.Common.{◌≡◌, ◌+◌, ◌≤◌, ℕ, List, [], ◌∷◌, ◌++◌, map, Bool, true, false, cond, Option, Some, refl, ap, subst, sym, ◌∙◌, append-nil, append_assoc, inl, inr, arith}
use Rattle.std.specs.Prelude.{MatchBool, is_some}
use Rattle.std.specs.List.{AllByRecursion}
use Rattle.std.specs.FinMap as fin
use Rattle.lr_spec.specs.Rose.{Rose}
use Rattle.lr_origin.specs.Kind.{kind_cmp, kind_total}
use Rattle.lr_origin.specs.declared.key.KeyKind.{KeyKind}
use Rattle.lr_roots.specs.View.{View, Held}
use Rattle.lr_rules.proofs.Keys.{put_back, gone_key}
use Rattle.lr_depot.specs.declared.call.DepotCall.{DepotCall}
use Rattle.lr_depot.specs.declared.call.DepotReply.{DepotReply}
use Rattle.lr_depot.specs.declared.call.DepotReply.TheVariants.{Fault, Nothing, OutOfMemory}
use Rattle.lr_depot.specs.Machine.{LogEntry, Enters, is_logged, IsShared, IsSharedEntry}
use Rattle.lr_depot.specs.Store.{IsFault}
use Rattle.lr_walk.specs.Depot.{Step, step, step_of, logged, with_logged, Reply, memory, nothing, seen_call, seen_reply}
use Rattle.lr_walk.proofs.Depot.{entry_step}
use Rattle.lr_desk.specs.Drive.{GoesOn, IsFaultReply}

with_one : (r : Reply) (s : Step) (xs ys : List Step) → with_logged r s (xs ++ ys) ≡ with_logged r s xs ++ ys
with_one memory s xs ys = refl
with_one nothing s xs ys = refl
with_one r s xs ys = refl

logged_more : (steps : List Step) (s : Step) → logged (steps ++ s ∷ []) ≡ logged steps ++ with_logged s.reply s []
logged_more [] s = refl
logged_more (t ∷ steps) s = ap (with_logged t.reply t) (logged_more steps s) ∙ with_one t.reply t (logged steps) (with_logged s.reply s [])

kept_if : (reply : DepotReply) (s : Step) → is_logged reply ≡ true → with_logged (seen_reply reply) s [] ≡ s ∷ []
kept_if Nothing s e = absurd (cc)
kept_if OutOfMemory s e = absurd (cc)
kept_if reply s e = refl

left_if : (reply : DepotReply) (s : Step) → is_logged reply ≡ false → with_logged (seen_reply reply) s [] ≡ []
left_if Nothing s e = refl
left_if OutOfMemory s e = refl
left_if reply s e = absurd (cc)

map_more : (xs : List LogEntry) (e : LogEntry) → map step_of (xs ++ e ∷ []) ≡ map step_of xs ++ step_of e ∷ []
map_more [] e = refl
map_more (x ∷ xs) e = ap (λ l. step_of x ∷ l) (map_more xs e)

all_more : (xs : List LogEntry) (e : LogEntry) → AllByRecursion (λ e. e.caller ≡ 0) xs → e.caller ≡ 0 → AllByRecursion (λ e. e.caller ≡ 0) (xs ++ e ∷ [])
all_more [] e h k = (k, tt)
all_more (x ∷ xs) e h k = (h.0, all_more xs e h.1 k)

-- the log after a call of caller 0 with this reply
pub Logs : Bool → DepotCall → DepotReply → List LogEntry → List LogEntry → Type 0
Logs b call reply log after =
    MatchBool b ((e : LogEntry) × (after ≡ log ++ e ∷ []) × (e.caller ≡ 0) × Enters call reply e × (IsShared call → IsSharedEntry e.call)) (after ≡ log)

goes_more_at : (b : Bool) (call : DepotCall) (reply : DepotReply) (base log after : List LogEntry) (steps : List Step) → is_logged reply ≡ b → Logs b call reply log after
    → GoesOn base log steps → GoesOn base after (steps ++ step (seen_call call) (seen_reply reply) ∷ [])
unfolding Logs
goes_more_at true call reply base log after steps e (entry, grew, caller, enters, shared) g =
    record {
      own = g.own ++ entry ∷ [];
      after = grew ∙ (ap (λ l. l ++ entry ∷ []) g.after ∙ append_assoc base g.own (entry ∷ []));
      steps_of = map_more g.own entry ∙ ((λ i. g.steps_of i ++ entry_step call reply entry enters i ∷ [])
          ∙ (ap (λ l. logged steps ++ l) (sym (kept_if reply (step (seen_call call) (seen_reply reply)) e)) ∙ sym (logged_more steps (step (seen_call call) (seen_reply reply)))));
      callers = all_more g.own entry g.callers caller;
    }
goes_more_at false call reply base log after steps e same g =
    record {
      own = g.own;
      after = same ∙ g.after;
      steps_of = g.steps_of ∙ (sym (append-nil (logged steps))
          ∙ (ap (λ l. logged steps ++ l) (sym (left_if reply (step (seen_call call) (seen_reply reply)) e)) ∙ sym (logged_more steps (step (seen_call call) (seen_reply reply)))));
      callers = g.callers;
    }

-- a call of caller 0 is one step more
pub goes_more : (call : DepotCall) (reply : DepotReply) (base log after : List LogEntry) (steps : List Step)
    → MatchBool (is_logged reply) ((e : LogEntry) × (after ≡ log ++ e ∷ []) × (e.caller ≡ 0) × Enters call reply e × (IsShared call → IsSharedEntry e.call)) (after ≡ log)
    → GoesOn base log steps → GoesOn base after (steps ++ step (seen_call call) (seen_reply reply) ∷ [])
unfolding Logs
goes_more call reply base log after steps grew g = goes_more_at (is_logged reply) call reply base log after steps refl grew g

pub goes_none : (base : List LogEntry) → GoesOn base base []
goes_none base = record { own = []; after = sym (append-nil base); steps_of = refl; callers = tt }

-- a reply that is seen as a fault is one
pub seen_fault : (reply : DepotReply) → IsFaultReply (seen_reply reply) → IsFault reply
seen_fault (Fault k) h = tt
seen_fault reply h = absurd h

-- a count that rose since later rose since earlier
pub rose_from : (a b c : ℕ) → a ≤ b → Rose b c → Rose a c
rose_from a b c less (inl more) = inl (omega (arith, less, more))
rose_from a b c less (inr last) = inr last

-- .. and it rose until later
pub rose_to : (a b c : ℕ) → b ≤ c → Rose a b → Rose a c
rose_to a b c less (inl more) = inl (omega (arith, less, more))
rose_to a b c less (inr last) = inr (omega (arith, less, last))

-- a view without one of its keys has one less
pub one_less : (v : View) (k : KeyKind) (x : Held) → fin.get v k ≡ Some x → fin.len (fin.remove v k) + 1 ≡ fin.len v
one_less v k x e =
    sym (ap fin.len (put_back v k x e) ∙ (fin.len-insert kind_total (fin.remove v k) k x
    ∙ ap (λ (o : Option Held). cond (is_some o) (fin.len (fin.remove v k)) (fin.len (fin.remove v k) + 1)) (gone_key v k)))

-- A device's log against the own lists of its callers.
use Rattle.std.proofs.Common.{◌≡◌, ℕ, zero, suc, ◌<◌, List, [], ◌∷◌, ◌++◌, length, map, Some, None, get_or, cond, Bool, true, false, refl, sym, ap, ◌∙◌, eq-eqb, arith}
use Rattle.std.specs.Prelude.{◌==◌}
use Rattle.std.specs.List.{AllByRecursion, Contains, flat_map}
use Rattle.std.proofs.lemmas.List.{map-append}
use Rattle.std.proofs.lemmas.List.Elements.{filter-append}
use Rattle.lr_object.specs.Own.{own_entries}
use Rattle.lr_object.specs.declared.entry.Entry.{Entry}
use Rattle.lr_device.specs.declared.step.DeviceNoted.{DeviceNoted}
use Rattle.lr_device.specs.declared.step.DeviceNoted.TheVariants.{Commit}
use Rattle.lr_device.specs.declared.step.DeviceAnswer.{DeviceAnswer}
use Rattle.lr_device.specs.declared.step.DeviceAnswer.TheVariants.{Committed}
use Rattle.lr_device.specs.PlainDevice.{Answered}
use Rattle.lr_device.specs.Machine.{LogEntry, answered, history}
use Rattle.lr_walk.specs.Device.{seen_piece, seen_noted, seen_reply}
use Rattle.lr_walk.specs.Steps.{on_device, by_device}
use Rattle.lr_history.specs.Run.{ActorSeen}
use Rattle.lr_history.specs.Premises.{numbers}
use Rattle.lr_history.specs.Strings.{used_by, used_pieces}
use Rattle.lr_history.specs.Lists.{device_entry}
use Rattle.lr_history.specs.Answered.{outcome_of, committed_by, committed_in}
use Rattle.lr_history.specs.Histories.{own_answered}
use Rattle.lr_history.proofs.Facts.{used_of, used_in, all_append, all_front, all_back}

-- ---- one entry

none_either : {X : Type 0} (b : Bool) → ◌≡◌ {A = List X} [] (cond b [] [])
none_either true = refl
none_either false = refl

answered_own : (n caller : ℕ) (call : DeviceNoted) (reply : DeviceAnswer)
    → own_answered n (answered caller call reply) ≡ cond (caller == n) (answered caller call reply) []
answered_own n caller (Commit (Some call) used) (Committed reply) = refl
answered_own n caller call reply = none_either (caller == n)

committed_entry : (device caller : ℕ) (call : DeviceNoted) (reply : DeviceAnswer)
    → committed_by device (on_device device (seen_noted call)) (by_device (seen_reply reply)) ≡ map outcome_of (answered caller call reply)
committed_entry device caller (Commit (Some call) used) (Committed reply) = rw (eq-eqb device device refl) refl
committed_entry device caller (Commit (Some call) used) reply = refl
committed_entry device caller (Commit None used) reply = refl
committed_entry device caller call reply = refl

used_entry : (device : ℕ) (call : DeviceNoted) (reply : DeviceAnswer)
    → used_of device (on_device device (seen_noted call)) (by_device (seen_reply reply)) ≡ map seen_piece (used_by call reply)
used_entry device (Commit (Some call) used) (Committed reply) = rw (eq-eqb device device refl) refl
used_entry device (Commit (Some call) used) reply = refl
used_entry device (Commit None used) reply = refl
used_entry device call reply = refl

-- ---- a caller's own list

own_outcomes : (b : Bool) (e : LogEntry) (own : List LogEntry) (past : List Answered) (device : ℕ)
    → committed_in device (map (device_entry device) own) ≡ map outcome_of past
    → committed_in device (map (device_entry device) (cond b (e ∷ own) own)) ≡ map outcome_of (cond b (answered e.caller e.call e.reply) [] ++ past)
own_outcomes true e own past device h =
    let here : committed_by device (on_device device (seen_noted e.call)) (by_device (seen_reply e.reply)) ≡ map outcome_of (answered e.caller e.call e.reply) = committed_entry device e.caller e.call e.reply in
    (λ i. here i ++ h i) ∙ sym (map-append outcome_of (answered e.caller e.call e.reply) past)
own_outcomes false e own past device h = h

-- what a caller's own list commits is its part of the history
pub own_history : (n device : ℕ) (log : List LogEntry)
    → committed_in device (map (device_entry device) (own_entries n log)) ≡ map outcome_of (own_answered n (history log))
own_history n device [] = refl
own_history n device (e ∷ log) =
    own_outcomes (e.caller == n) e (own_entries n log) (own_answered n (history log)) device (own_history n device log)
    ∙ ap (map outcome_of) (sym (filter-append (λ (a : Answered). a.caller == n) (answered e.caller e.call e.reply) (history log) ∙ ap (λ (l : List Answered). l ++ own_answered n (history log)) (answered_own n e.caller e.call e.reply)))

pub own_used : (device : ℕ) (entries : List LogEntry) → used_in device (map (device_entry device) entries) ≡ map seen_piece (used_pieces entries)
own_used device [] = refl
own_used device (e ∷ entries) =
    let here : used_of device (on_device device (seen_noted e.call)) (by_device (seen_reply e.reply)) ≡ map seen_piece (used_by e.call e.reply) = used_entry device e.call e.reply in
    (λ i. here i ++ own_used device entries i) ∙ sym (map-append seen_piece (used_by e.call e.reply) (used_pieces entries))

-- ---- all callers

-- what holds of all that each caller's own entries tell holds of all that the log tells
pub by_callers : {X C R : Type 0} (U : Entry C R → List X) (P : X → Type 0) (K : ℕ → Type 0) (log : List (Entry C R)) → AllByRecursion (λ (e : Entry C R). K e.caller) log
    → ((n : ℕ) → K n → AllByRecursion P (flat_map U (own_entries n log))) → AllByRecursion P (flat_map U log)
by_callers {C = C} {R = R} U P K [] c h = tt
by_callers {C = C} {R = R} U P K (e ∷ log) c h =
    all_append P (U e) (flat_map U log) first (by_callers U P K log c.1 (λ n m. later n (e.caller == n) (h n m)))
  where
    own : List (Entry C R)
    own = own_entries e.caller log

    first_of : (b : Bool) → b ≡ true → AllByRecursion P (flat_map U (cond b (e ∷ own) own)) → AllByRecursion P (U e)
    first_of true t k = all_front P (U e) (flat_map U own) k
    first_of false t k = absurd (cc)

    first : AllByRecursion P (U e)
    first = first_of (e.caller == e.caller) (eq-eqb e.caller e.caller refl) (h e.caller c.0)

    later : (n : ℕ) (b : Bool) → AllByRecursion P (flat_map U (cond b (e ∷ own_entries n log) (own_entries n log))) → AllByRecursion P (flat_map U (own_entries n log))
    later n true k = all_back P (U e) (flat_map U (own_entries n log)) k
    later n false k = k

pub caller_of : (P : ActorSeen → Type 0) (actors : List ActorSeen) (n : ℕ) → Contains (numbers actors) n → AllByRecursion P actors
    → (a : ActorSeen) × (a.number ≡ n) × P a
caller_of P [] n c h = absurd (omega (arith, c.1))
caller_of P (a ∷ actors) n c h = by (caller_of P actors n) c.0 c.1 c.2
  where
    by : (Contains (numbers actors) n → AllByRecursion P actors → (b : ActorSeen) × (b.number ≡ n) × P b) → (k : ℕ) → k < length (numbers (a ∷ actors)) → get_or (numbers (a ∷ actors)) k n ≡ n → (b : ActorSeen) × (b.number ≡ n) × P b
    by more zero l e = (a, e, h.0)
    by more (suc k) l e = more (k, omega arith, e) h.1

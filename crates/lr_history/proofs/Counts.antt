-- How many answered calls there are, over all callers.
use Rattle.std.proofs.Common.{◌≡◌, ◌≢◌, ◌<◌, ℕ, zero, suc, ◌+◌, List, [], ◌∷◌, length, map, Some, get_or, cond, Bool, true, false, refl, sym, ap, subst, ◌∙◌, arith, eqb-true, eq-eqb}
use Rattle.std.specs.Prelude.{◌==◌}
use Rattle.std.specs.List.{AllByRecursion, Contains}
use Rattle.std.proofs.lemmas.List.{length-map}
use Rattle.lr_device.specs.declared.step.DeviceNoted.{DeviceNoted}
use Rattle.lr_device.specs.declared.step.DeviceNoted.TheVariants.{Commit}
use Rattle.lr_device.specs.declared.step.DeviceAnswer.{DeviceAnswer}
use Rattle.lr_device.specs.declared.step.DeviceAnswer.TheVariants.{Committed}
use Rattle.lr_device.specs.PlainDevice.{Answered}
use Rattle.lr_device.specs.Machine.{LogEntry, answered, history}
use Rattle.lr_history.specs.Run.{ActorSeen, Run}
use Rattle.lr_history.specs.Answered.{outcome_of, answered_jobs}
use Rattle.lr_history.specs.Premises.{numbers, IsRun}
use Rattle.lr_history.specs.Histories.{own_answered, HaveOwnNumbers, total, CallsAreCounted}
use Rattle.lr_history.proofs.Facts.{all_append}
use Rattle.lr_history.proofs.Whole.{answered_once}

abbrev one_if : Bool → ℕ
one_if b = cond b 1 0

total_none : (c : ℕ) (actors : List ActorSeen) → AllByRecursion (λ (b : ActorSeen). b.number ≢ c) actors → total (λ (a : ActorSeen). one_if (c == a.number)) actors ≡ 0
total_none c [] h = refl
total_none c (a ∷ actors) h = by (c == a.number) refl (total_none c actors h.1)
  where
    by : (b : Bool) → (c == a.number) ≡ b → total (λ (a : ActorSeen). one_if (c == a.number)) actors ≡ 0 → one_if b + total (λ (a : ActorSeen). one_if (c == a.number)) actors ≡ 0
    by true t e = absurd (h.0 (sym (eqb-true c a.number t)))
    by false t e = omega arith

-- a caller is one of the actors
total_one : (c : ℕ) (actors : List ActorSeen) → Contains (numbers actors) c → HaveOwnNumbers actors → total (λ (a : ActorSeen). one_if (c == a.number)) actors ≡ 1
total_one c [] k own = absurd (omega (arith, k.1))
total_one c (a ∷ actors) k own = by (total_one c actors) (c == a.number) refl
  where
    rest : (n : ℕ) → n < length (numbers (a ∷ actors)) → get_or (numbers (a ∷ actors)) n c ≡ c → (c == a.number) ≡ false → Contains (numbers actors) c
    rest zero l e f =
        let same : (c == a.number) ≡ true = eq-eqb c a.number (sym e) in
        absurd (cc)
    rest (suc n) l e f = (n, omega arith, e)

    by : (Contains (numbers actors) c → HaveOwnNumbers actors → total (λ (a : ActorSeen). one_if (c == a.number)) actors ≡ 1)
        → (b : Bool) → (c == a.number) ≡ b → one_if b + total (λ (a : ActorSeen). one_if (c == a.number)) actors ≡ 1
    by more true t =
        let same : c ≡ a.number = eqb-true c a.number t in
        let none : total (λ (a : ActorSeen). one_if (c == a.number)) actors ≡ 0 = total_none c actors (subst (λ (n : ℕ). AllByRecursion (λ (b : ActorSeen). b.number ≢ n) actors) (sym same) own.0) in
        omega arith
    by more false t =
        let one : total (λ (a : ActorSeen). one_if (c == a.number)) actors ≡ 1 = more (rest k.0 k.1 k.2 t) own.1 in
        omega arith

total_zero : (actors : List ActorSeen) → total (λ (a : ActorSeen). 0) actors ≡ 0
total_zero [] = refl
total_zero (a ∷ actors) = let e = total_zero actors in omega arith

own_count : (b : Bool) (e : Answered) (own : List Answered) → length (cond b (e ∷ own) own) ≡ one_if b + length own
own_count true e own = omega arith
own_count false e own = omega arith

total_more : (e : Answered) (past : List Answered) (actors : List ActorSeen)
    → total (λ (a : ActorSeen). length (own_answered a.number (e ∷ past))) actors ≡ total (λ (a : ActorSeen). one_if (e.caller == a.number)) actors + total (λ (a : ActorSeen). length (own_answered a.number past)) actors
total_more e past [] = refl
total_more e past (a ∷ actors) =
    let here : length (own_answered a.number (e ∷ past)) ≡ one_if (e.caller == a.number) + length (own_answered a.number past) = own_count (e.caller == a.number) e (own_answered a.number past) in
    let more = total_more e past actors in
    omega arith

by_number : (actors : List ActorSeen) → HaveOwnNumbers actors → (past : List Answered) → AllByRecursion (λ (e : Answered). Contains (numbers actors) e.caller) past
    → length past ≡ total (λ (a : ActorSeen). length (own_answered a.number past)) actors
by_number actors own [] c = sym (total_zero actors)
by_number actors own (e ∷ past) c =
    let one = total_one e.caller actors c.0 own in
    let more = by_number actors own past c.1 in
    let all = total_more e past actors in
    omega arith

answered_callers : (C : ℕ → Type 0) (caller : ℕ) (call : DeviceNoted) (answer : DeviceAnswer) → C caller → AllByRecursion (λ (e : Answered). C e.caller) (answered caller call answer)
answered_callers C caller (Commit (Some call) used) (Committed reply) h = (h, tt)
answered_callers C caller call answer h = tt

history_callers : (C : ℕ → Type 0) (log : List LogEntry) → AllByRecursion (λ (e : LogEntry). C e.caller) log → AllByRecursion (λ (e : Answered). C e.caller) (history log)
history_callers C [] h = tt
history_callers C (e ∷ log) h =
    all_append (λ (a : Answered). C a.caller) (answered e.caller e.call e.reply) (history log) (answered_callers C e.caller e.call e.reply h.0) (history_callers C log h.1)

same_total : (f g : ActorSeen → ℕ) (actors : List ActorSeen) → AllByRecursion (λ (a : ActorSeen). f a ≡ g a) actors → total f actors ≡ total g actors
same_total f g [] h = refl
same_total f g (a ∷ actors) h = let here = h.0 in let more = same_total f g actors h.1 in omega arith

all_lengths : (i : ℕ) (past : List Answered) (actors : List ActorSeen) → AllByRecursion (λ (a : ActorSeen). map outcome_of (own_answered a.number past) ≡ answered_jobs i a.jobs a.results) actors
    → AllByRecursion (λ (a : ActorSeen). length (own_answered a.number past) ≡ length (answered_jobs i a.jobs a.results)) actors
all_lengths i past [] h = tt
all_lengths i past (a ∷ actors) h = (sym (length-map (own_answered a.number past) outcome_of) ∙ ap length h.0, all_lengths i past actors h.1)

pub counted : (run : Run) → IsRun run → HaveOwnNumbers run.actors → CallsAreCounted run
counted run is own i d at =
    by_number run.actors own (history d.log) (history_callers (Contains (numbers run.actors)) d.log (is.callers i d at))
    ∙ same_total (λ (a : ActorSeen). length (own_answered a.number (history d.log))) (λ (a : ActorSeen). length (answered_jobs i a.jobs a.results)) run.actors
    (all_lengths i (history d.log) run.actors (answered_once run is i d at))

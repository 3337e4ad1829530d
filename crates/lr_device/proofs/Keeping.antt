-- What a device holds, one entry more.
use Rattle.std.proofs.Common.{◌≡◌, ℕ, suc, zero, ◌*◌, ◌<◌, List, [], ◌∷◌, ◌++◌, length, map, take, drop, get_or, Bool, false, Option, Some, None, find, refl, ap, sym, ◌∙◌, subst, arith, replicate}
use Rattle.std.specs.Prelude.{All, remove}
use Rattle.std.specs.Option.{is_some}
use Rattle.std.specs.Prelude.{Result, Ok, Err, OnOk, is_err}
use Rattle.std.specs.Arc.{arc_value}
use Rattle.std.specs.declared.sync.Arc.{Arc}
use Rattle.std.proofs.Common.{Global}
use Rattle.std.proofs.lemmas.List.{map_push, length-map, get_or-map, length-replicate, length-drop, take-append-drop, nil_from_length}
use Rattle.std.proofs.lemmas.List.Elements.{All-push, All-append, All-take, All-drop, All-weaker, All-get_or, All-nil}
use Rattle.lr_object.specs.Finds.{IsFirst, FindsAt, without_first}
use Rattle.lr_object.proofs.Found.{map-remove, found_there}
use Rattle.lr_overlay.specs.Pages.{KeepsPlaces, Pages, is_written, over}
use Rattle.lr_device.specs.declared.held.HeldPlan.{HeldPlan}
use Rattle.lr_device.specs.declared.held.Refusal.{Refusal}
use Rattle.lr_device.specs.declared.held.Refusal.TheVariants as Why
use Rattle.lr_device.specs.declared.step.DeviceNoted.{DeviceNoted}
use Rattle.lr_device.specs.declared.step.DeviceNoted.TheVariants.{Plan, Commit, Drop, Reap}
use Rattle.lr_device.specs.declared.call.DeviceCall.{DeviceCall}
use Rattle.lr_device.specs.declared.step.DeviceAnswer.TheVariants.{Planned}
use Rattle.lr_device.specs.PlainDevice.{Answered, IsLegal, bytes_after}
use Rattle.lr_device.specs.Base.{Agrees}
use Rattle.lr_device.specs.Machine.{LogEntry, State, run, after_entry, state_after, answered, history, used_by, AgreesWith, is_of, plan_of, plan_gone}
use Rattle.lr_device.specs.Held.{Holds, IsReady, HasPlace, plan_seen, refused}
use Rattle.lr_device.proofs.Histories.{bytes_after-append, IsLegal-append, history_push, AgreesWith_push, run_push}

pub all_remove : {X : Type 0} (P : X → Type 0) (xs : List X) (i : ℕ) → All P xs → All P (remove xs i)
all_remove P xs i h = All-append P (take i xs) (drop (suc i) xs) (All-take P i xs h) (All-drop P (suc i) xs h)

-- one entry more, whatever it is
pub holds_more : (size : ℕ) (pages new : Pages) (held now : List HeldPlan) (log : List LogEntry) (e : LogEntry) → Holds size pages held log
    → length new ≡ length pages
    → is_written new ≡ (after_entry size (run size log) e).written
    → map plan_seen now ≡ (after_entry size (run size log) e).plans
    → All (IsReady size (is_written new)) now
    → ((base : List ℕ) → length base ≡ size → AgreesWith base log → Agrees base (used_by e.call) → over 4096 pages base ≡ bytes_after base (history log)
    → IsLegal (bytes_after base (history log)) (answered e.caller e.call e.reply) × (over 4096 new base ≡ bytes_after (bytes_after base (history log)) (answered e.caller e.call e.reply)))
    → Holds size new now (log ++ e ∷ [])
holds_more size pages new held now log e h same marks plans ready next = record {
  fits = ap (λ n. 4096 * n) same ∙ h.fits;
  written = marks ∙ sym (ap (λ (st : State). st.written) (run_push size log e));
  plans = plans ∙ sym (ap (λ (st : State). st.plans) (run_push size log e));
  ready = ready;
  legal = λ base long agrees.
      let parts = AgreesWith_push base log e agrees in
      let after = next base long parts.0 parts.1 (h.shows base long parts.0) in
      subst (λ l. IsLegal base l) (sym (history_push log e)) (IsLegal-append base (history log) (answered e.caller e.call e.reply) (h.legal base long parts.0) after.0);
  shows = λ base long agrees.
      let parts = AgreesWith_push base log e agrees in
      let after = next base long parts.0 parts.1 (h.shows base long parts.0) in
      after.1 ∙ sym (ap (bytes_after base) (history_push log e) ∙ bytes_after-append base (history log) (answered e.caller e.call e.reply));
}

-- an entry that answers no call of the plain device
pub holds_aside : (size : ℕ) (pages : Pages) (held now : List HeldPlan) (log : List LogEntry) (e : LogEntry) → Holds size pages held log
    → (after_entry size (run size log) e).written ≡ (run size log).written
    → map plan_seen now ≡ (after_entry size (run size log) e).plans
    → All (IsReady size (is_written pages)) now
    → answered e.caller e.call e.reply ≡ []
    → Holds size pages now (log ++ e ∷ [])
holds_aside size pages held now log e h marks plans ready none =
    holds_more size pages pages held now log e h refl (h.written ∙ sym marks) plans ready
    (λ base long agrees used shown. subst (λ (l : List Answered). IsLegal (bytes_after base (history log)) l × (over 4096 pages base ≡ bytes_after (bytes_after base (history log)) l)) (sym none) (tt, shown))

-- a refusal changes nothing and answers nothing
refusal_stays : (size : ℕ) (st : State) (caller : ℕ) (noted : DeviceNoted) (why : Refusal) → state_after size st caller noted (refused why) ≡ st
refusal_stays size st caller (Plan call) Why.NoPlan = refl
refusal_stays size st caller (Plan call) (Why.Lacking i) = refl
refusal_stays size st caller (Plan call) Why.Small = refl
refusal_stays size st caller (Commit None used) Why.NoPlan = refl
refusal_stays size st caller (Commit None used) (Why.Lacking i) = refl
refusal_stays size st caller (Commit None used) Why.Small = refl
refusal_stays size st caller (Commit (Some call) used) Why.NoPlan = refl
refusal_stays size st caller (Commit (Some call) used) (Why.Lacking i) = refl
refusal_stays size st caller (Commit (Some call) used) Why.Small = refl
refusal_stays size st caller Drop Why.NoPlan = refl
refusal_stays size st caller Drop (Why.Lacking i) = refl
refusal_stays size st caller Drop Why.Small = refl
refusal_stays size st caller Reap Why.NoPlan = refl
refusal_stays size st caller Reap (Why.Lacking i) = refl
refusal_stays size st caller Reap Why.Small = refl

refusal_silent : (caller : ℕ) (noted : DeviceNoted) (why : Refusal) → answered caller noted (refused why) ≡ []
refusal_silent caller (Plan call) Why.NoPlan = refl
refusal_silent caller (Plan call) (Why.Lacking i) = refl
refusal_silent caller (Plan call) Why.Small = refl
refusal_silent caller (Commit None used) Why.NoPlan = refl
refusal_silent caller (Commit None used) (Why.Lacking i) = refl
refusal_silent caller (Commit None used) Why.Small = refl
refusal_silent caller (Commit (Some call) used) Why.NoPlan = refl
refusal_silent caller (Commit (Some call) used) (Why.Lacking i) = refl
refusal_silent caller (Commit (Some call) used) Why.Small = refl
refusal_silent caller Drop Why.NoPlan = refl
refusal_silent caller Drop (Why.Lacking i) = refl
refusal_silent caller Drop Why.Small = refl
refusal_silent caller Reap Why.NoPlan = refl
refusal_silent caller Reap (Why.Lacking i) = refl
refusal_silent caller Reap Why.Small = refl

-- a refused call
pub holds_refused : (size : ℕ) (pages : Pages) (held : List HeldPlan) (log : List LogEntry) (caller : ℕ) (noted : DeviceNoted) (why : Refusal) → Holds size pages held log
    → Holds size pages held (log ++ record { caller = caller; call = noted; reply = refused why } ∷ [])
holds_refused size pages held log caller noted why h =
    let stays = refusal_stays size (run size log) caller noted why in
    holds_aside size pages held held log (record { caller = caller; call = noted; reply = refused why }) h
    (ap (λ (st : State). st.written) stays) (h.plans ∙ sym (ap (λ (st : State). st.plans) stays)) h.ready (refusal_silent caller noted why)

-- a plan that ended stood first of its caller's
pub plans_left : (size : ℕ) (pages : Pages) (held : List HeldPlan) (log : List LogEntry) (caller at : ℕ) → Holds size pages held log → IsFirst (is_of caller) (map plan_seen held) at
    → map plan_seen (remove held at) ≡ without_first (is_of caller) (run size log).plans
plans_left size pages held log caller at h first = map-remove plan_seen held at ∙ first.rest ∙ ap (without_first (is_of caller)) h.plans

-- no plan is found, so the caller has none
none_by : {X : Type 0} (p : X → Bool) (xs : List X) (place : Option ℕ) → FindsAt p xs place → is_some place ≡ false → find p xs ≡ None
none_by p xs None h e = h
none_by p xs (Some i) h e = absurd (cc e)

pub no_plan : (size : ℕ) (pages : Pages) (held : List HeldPlan) (log : List LogEntry) (caller : ℕ) (place : Option ℕ) → Holds size pages held log → FindsAt (is_of caller) (map plan_seen held) place → is_some place ≡ false
    → plan_of caller (run size log) ≡ None
no_plan size pages held log caller place h found e = ap (find (is_of caller)) (sym h.plans) ∙ none_by (is_of caller) (map plan_seen held) place found e

-- a plan more
pub holds_plan : (size : ℕ) (pages : Pages) (held : List HeldPlan) (log : List LogEntry) (caller count : ℕ) (call : Arc DeviceCall Global) (needs : List ℕ) (new : HeldPlan) → Holds size pages held log
    → plan_seen new ≡ record { caller = caller; call = arc_value call; pages = count } → IsReady size (is_written pages) new
    → Holds size pages (held ++ new ∷ []) (log ++ record { caller = caller; call = Plan call; reply = Planned needs count } ∷ [])
holds_plan size pages held log caller count call needs new h same ready =
    holds_aside size pages held (held ++ new ∷ []) log (record { caller = caller; call = Plan call; reply = Planned needs count }) h
    refl
    (map_push plan_seen held new ∙ (λ i. h.plans i ++ same i ∷ []))
    (All-push (IsReady size (is_written pages)) held new h.ready ready)
    refl

-- the caller's plan, read at the place found
pub plan_found : (size : ℕ) (pages : Pages) (held : List HeldPlan) (log : List LogEntry) (caller at : ℕ) (plan : HeldPlan) → Holds size pages held log → IsFirst (is_of caller) (map plan_seen held) at → plan ≡ get_or held at plan
    → plan_of caller (run size log) ≡ Some (plan_seen plan)
plan_found size pages held log caller at plan h first read =
    let within : at < length held = rw length-map at first.within in
    ap (find (is_of caller)) (sym h.plans) ∙ found_there first (ap plan_seen read ∙ sym (get_or-map plan_seen held at plan (plan_seen plan) within))

-- a plan that ends without a call
pub holds_ended : (size : ℕ) (pages : Pages) (held : List HeldPlan) (log : List LogEntry) (caller at : ℕ) (e : LogEntry) → Holds size pages held log → IsFirst (is_of caller) (map plan_seen held) at
    → after_entry size (run size log) e ≡ plan_gone caller (run size log) → answered e.caller e.call e.reply ≡ []
    → Holds size pages (remove held at) (log ++ e ∷ [])
holds_ended size pages held log caller at e h first gone none =
    holds_aside size pages held (remove held at) log e h
    (ap (λ (st : State). st.written) gone)
    (plans_left size pages held log caller at h first ∙ sym (ap (λ (st : State). st.plans) gone))
    (all_remove (IsReady size (is_written pages)) held at h.ready)
    none

-- a plan that is out is ready
pub ready_at : (size : ℕ) (pages : Pages) (held : List HeldPlan) (log : List LogEntry) (caller at : ℕ) (plan : HeldPlan) → Holds size pages held log → IsFirst (is_of caller) (map plan_seen held) at → plan ≡ get_or held at plan
    → IsReady size (is_written pages) plan
ready_at size pages held log caller at plan h first read =
    let within : at < length held = rw length-map at first.within in
    subst (λ p. IsReady size (is_written pages) p) (sym read) (All-get_or (IsReady size (is_written pages)) held at plan within h.ready)

none_at : (n p : ℕ) → get_or {A = Option (List ℕ)} (replicate n None) p None ≡ None
none_at zero p = refl
none_at (suc n) zero = refl
none_at (suc n) (suc p) = none_at n p

-- where no page is written, the base is shown
over_blank : (size n : ℕ) (base : List ℕ) → length base ≡ size * n → over size (replicate n None) base ≡ base
over_blank size zero base h = sym (nil_from_length base (omega arith))
over_blank size (suc n) base h =
    let rest : length (drop size base) ≡ size * n = rw length-drop (omega arith) in
    ap (λ l. take size base ++ l) (over_blank size n (drop size base) rest) ∙ take-append-drop size base

-- a new device
pub holds_blank : (size n : ℕ) → 4096 * n ≡ size → Holds size (replicate n None) [] []
holds_blank size n e = record {
  fits = ap (λ k. 4096 * k) (length-replicate n None) ∙ e;
  written = λ i page. is_some (none_at n page i);
  plans = refl;
  ready = All-nil (IsReady size (is_written (replicate n None)));
  legal = λ base long agrees. tt;
  shows = λ base long agrees. over_blank 4096 n base (long ∙ sym e);
}

pub placed_at : (size : ℕ) (room : List ℕ) (held : List HeldPlan) (caller at : ℕ) (plan : HeldPlan) → IsFirst (is_of caller) (map plan_seen held) at → plan ≡ get_or held at plan → All (HasPlace size room) held → HasPlace size room plan
placed_at size room held caller at plan first read h =
    let within : at < length held = rw length-map at first.within in
    subst (λ p. HasPlace size room p) (sym read) (All-get_or (HasPlace size room) held at plan within h)

-- where the table grew, the places stay
pub places_stay : (size : ℕ) (room now : List ℕ) (held : List HeldPlan) → KeepsPlaces room now → All (HasPlace size room) held → All (HasPlace size now) held
places_stay size room now held h all = All-weaker (HasPlace size room) (HasPlace size now) (λ plan p. record { within = λ inside change page low high. h page (p.within inside change page low high) }) held all

-- what holds on success, where there was no error
pub on_success : {T E P : Type 0} (r : Result T E) → is_err r ≡ false → OnOk r P → P
on_success (Ok x) e h = h
on_success (Err x) e h = absurd (cc e)

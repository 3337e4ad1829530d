-- The plan that a device has of a caller is what the answer to the caller's last Plan told: its call, its page buffers, and a
-- demand that has only shrunk since.
use Rattle.std.proofs.Common.{◌≡◌, ℕ, List, [], ◌∷◌, ◌++◌, map, Bool, true, false, not, cond, fold, Option, Some, None, find, refl, sym, ap, subst, ◌∙◌, append_assoc}
use Rattle.std.specs.Prelude.{◌==◌, ◌||◌, ⊤}
use Rattle.std.specs.Arc.{arc_value}
use Rattle.std.specs.Option.{is_some, option_or}
use Rattle.std.proofs.lemmas.Bool.{eqb-true, eq-eqb}
use Rattle.std.proofs.lemmas.List.Folds.{find-append}
use Rattle.std.proofs.lemmas.List.Sums.{fold-append}
use Rattle.lr_object.specs.Grown.{Grown, same, more}
use Rattle.lr_convergent.specs.declared.piece.KeptPiece.{KeptPiece}
use Rattle.lr_device.specs.declared.call.DeviceCall.{DeviceCall}
use Rattle.lr_device.specs.declared.step.DeviceStep.{DeviceStep}
use Rattle.lr_device.specs.declared.step.DeviceStep.TheVariants as Step
use Rattle.lr_device.specs.declared.step.DeviceNoted.{DeviceNoted}
use Rattle.lr_device.specs.declared.step.DeviceNoted.TheVariants as Noted
use Rattle.lr_device.specs.declared.step.DeviceAnswer.{DeviceAnswer}
use Rattle.lr_device.specs.declared.step.DeviceAnswer.TheVariants.{Planned, Committed, Dropped, Reaped}
use Rattle.lr_device.specs.Base.{is_at}
use Rattle.lr_device.specs.Demand.{demand}
use Rattle.lr_device.specs.Machine.{LogEntry, OpenPlan, State, run, state_after, changes, plan_of, is_of, plan_gone}
use Rattle.lr_device.specs.Answers.{Answers, lacking}
use Rattle.lr_device.specs.Enters.{Enters, Notes}
use Rattle.lr_device.proofs.Histories.{run_push}
use Rattle.lr_device.proofs.Plans.{others, begun, is_none}
use Rattle.lr_device.proofs.Exact.{still_served}

-- what the answer to a Plan told
pub record Told : Type 0 where
  pub call : DeviceCall
  pub needs : List ℕ
  pub pages : ℕ

abbrev pub told_after : Option Told → DeviceNoted → DeviceAnswer → Option Told
told_after plan (Noted.Plan call) (Planned needs pages) = Some (record { call = arc_value call; needs = needs; pages = pages })
told_after plan (Noted.Commit (Some call) used) (Committed reply) = None
told_after plan Noted.Drop Dropped = None
told_after plan Noted.Reap Reaped = None
told_after plan noted answer = plan

abbrev pub told_then : ℕ → Option Told → LogEntry → Option Told
told_then caller plan e = cond (e.caller == caller) (told_after plan e.call e.reply) plan

abbrev pub told_in : ℕ → List LogEntry → Option Told
told_in caller log = fold (told_then caller) None log

-- The machine has this plan of the caller. The demand was that of fewer pages.
pub record HasTold (size caller : ℕ) (st : State) (t : Told) : Type 0 where
  pub was : ℕ → Bool
  pub plan : plan_of caller st ≡ Some (record { caller = caller; call = t.call; pages = t.pages })
  pub needs : t.needs ≡ demand size was t.call
  pub fewer : (page : ℕ) → was page ≡ true → st.written page ≡ true

abbrev pub Holds : ℕ → ℕ → State → Option Told → Type 0
Holds size caller st None = ⊤
Holds size caller st (Some t) = HasTold size caller st t

-- the plan is found, and no page is less written
holds_still : (size caller : ℕ) (old new : State) (t : Option Told) → ((x : OpenPlan) → plan_of caller old ≡ Some x → plan_of caller new ≡ Some x)
    → ((page : ℕ) → old.written page ≡ true → new.written page ≡ true) → Holds size caller old t → Holds size caller new t
holds_still size caller old new None found stays h = tt
holds_still size caller old new (Some t) found stays h =
    record { was = h.was; plan = found _ h.plan; needs = h.needs; fewer = λ page e. stays page (h.fewer page e) }

-- the caller's own plan ended, or another's
holds_gone : (size who caller : ℕ) (old new : State) (t : Option Told) (b : Bool) → (caller == who) ≡ b → ((page : ℕ) → old.written page ≡ true → new.written page ≡ true)
    → new.plans ≡ (plan_gone caller old).plans → Holds size who old t → Holds size who new (cond b None t)
holds_gone size who caller old new t true e stays gone h = tt
holds_gone size who caller old new t false e stays gone h =
    holds_still size who old new t (λ x f. ap (find (is_of who)) gone ∙ others old caller who (λ d. absurd (cc (eq-eqb caller who (sym d), e))) ∙ f) stays h

holds_quiet : (size who : ℕ) (st : State) (t : Option Told) (b : Bool) → Holds size who st t → Holds size who st (cond b t t)
holds_quiet size who st t true h = h
holds_quiet size who st t false h = h

written_or : (a b : Bool) → a ≡ true → (a || b) ≡ true
written_or true b e = refl
written_or false b e = absurd (cc)

found_before : (who : ℕ) (plans later : List OpenPlan) (x : OpenPlan) → find (is_of who) plans ≡ Some x → find (is_of who) (plans ++ later) ≡ Some x
found_before who plans later x e = find-append (is_of who) plans later ∙ ap (λ (o : Option OpenPlan). option_or o (find (is_of who) later)) e

module _ (size : ℕ) (log : List LogEntry) (who : ℕ) where
  abbrev st : State
  st = run size log

  -- a plan that is made
  made_by : (caller : ℕ) (call : DeviceCall) (needs : List ℕ) (pages : ℕ) (t : Option Told) (b : Bool) → (caller == who) ≡ b → plan_of caller st ≡ None → needs ≡ demand size st.written call
      → Holds size who st t → Holds size who (record { written = st.written; plans = st.plans ++ record { caller = caller; call = call; pages = pages } ∷ [] }) (cond b (Some (record { call = call; needs = needs; pages = pages })) t)
  made_by caller call needs pages t true e none is h =
      let at : caller ≡ who = eqb-true caller who e in
      let plan : OpenPlan = record { caller = caller; call = call; pages = pages } in
      record {
        was = st.written;
        plan = subst (λ (c : ℕ). find (is_of c) (st.plans ++ plan ∷ []) ≡ Some (record { caller = c; call = call; pages = pages })) at (begun st.plans plan none);
        needs = is;
        fewer = λ page f. f;
      }
  made_by caller call needs pages t false e none is h =
      holds_still size who st _ t (λ x f. found_before who st.plans _ x f) (λ page f. f) h

  entry_holds : (t : Option Told) (caller : ℕ) (noted : DeviceNoted) (answer : DeviceAnswer) (step : DeviceStep) → Answers size log caller step answer → Notes size st caller step answer noted → (b : Bool) → (caller == who) ≡ b
      → Holds size who st t → Holds size who (state_after size st caller noted answer) (cond b (told_after t noted answer) t)
  entry_holds t caller (Noted.Plan kept) (Planned needs pages) (Step.Plan call) a n b e h =
      made_by caller (arc_value kept) needs pages t b e (is_none (plan_of caller st) a.0) (a.1 ∙ ap (λ c. demand size st.written (arc_value c)) (sym n)) h
  entry_holds t caller (Noted.Plan kept) (Planned needs pages) (Step.Commit pieces room) a n b e h = absurd a
  entry_holds t caller (Noted.Plan kept) (Planned needs pages) Step.Drop a n b e h = absurd a
  entry_holds t caller (Noted.Plan kept) (Planned needs pages) Step.Reap a n b e h = absurd a
  entry_holds t caller (Noted.Commit (Some call) used) (Committed reply) step a n b e h =
      holds_gone size who caller st _ t b e (λ page f. written_or (st.written page) (changes size (arc_value call) page) f) refl h
  entry_holds t caller Noted.Drop Dropped step a n b e h = holds_gone size who caller st _ t b e (λ page f. f) refl h
  entry_holds t caller Noted.Reap Reaped step a n b e h = holds_gone size who caller st _ t b e (λ page f. f) refl h
  entry_holds t caller noted answer step a n b e h = holds_quiet size who st t b h

told_push : (who : ℕ) (log : List LogEntry) (e : LogEntry) → told_in who (log ++ e ∷ []) ≡ told_then who (told_in who log) e
told_push who log e = fold-append (told_then who) None log (e ∷ [])

pub told_holds : (size : ℕ) (log : List LogEntry) → Grown Answers Enters size [] log → (who : ℕ) → Holds size who (run size log) (told_in who log)
told_holds size log same who = tt
told_holds size log (more {log = before} g step answer e a n) who =
    let one : Holds size who (state_after size (run size before) e.caller e.call answer) (cond (e.caller == who) (told_after (told_in who before) e.call answer) (told_in who before)) =
    entry_holds size before who (told_in who before) e.caller e.call answer step a n.noted (e.caller == who) refl (told_holds size before g who) in
    let answered : Holds size who (state_after size (run size before) e.caller e.call e.reply) (cond (e.caller == who) (told_after (told_in who before) e.call e.reply) (told_in who before)) =
    subst (λ (r : DeviceAnswer). Holds size who (state_after size (run size before) e.caller e.call r) (cond (e.caller == who) (told_after (told_in who before) e.call r) (told_in who before))) (sym n.told) one in
    subst (λ (s : State). Holds size who s (told_in who (before ++ e ∷ []))) (sym (run_push size before e))
    (subst (λ (t : Option Told). Holds size who (state_after size (run size before) e.caller e.call e.reply) t) (sym (told_push who before e)) answered)

-- ---- pieces of all that a plan needs

found_mid : (front back : List KeptPiece) (p : KeptPiece) → is_some (find (is_at p.index) (front ++ p ∷ back)) ≡ true
found_mid [] back p = rw (eq-eqb p.index p.index refl) refl
found_mid (q ∷ front) back p = by (is_at p.index q) (found_mid front back p)
  where
    by : (b : Bool) → is_some (find (is_at p.index) (front ++ p ∷ back)) ≡ true → is_some (cond b (Some q) (find (is_at p.index) (front ++ p ∷ back))) ≡ true
    by true e = refl
    by false e = e

abbrev index_of : KeptPiece → ℕ
index_of p = p.index

lacks_none : (front back : List KeptPiece) → lacking (map index_of back) (front ++ back) ≡ None
lacks_none front [] = refl
lacks_none front (p ∷ back) =
    let rest : lacking (map index_of back) (front ++ p ∷ back) ≡ None =
    subst (λ (l : List KeptPiece). lacking (map index_of back) l ≡ None) (append_assoc front (p ∷ []) back) (lacks_none (front ++ p ∷ []) back) in
    by (is_some (find (is_at p.index) (front ++ p ∷ back))) (found_mid front back p) rest
  where
    by : (b : Bool) → b ≡ true → lacking (map index_of back) (front ++ p ∷ back) ≡ None → cond (not b) (Some p.index) (lacking (map index_of back) (front ++ p ∷ back)) ≡ None
    by true e rest = rest
    by false e rest = absurd (cc)

-- the pieces that were needed still serve
pub serves_now : (size caller : ℕ) (st : State) (t : Told) (pieces : List KeptPiece) → HasTold size caller st t → t.needs ≡ map index_of pieces → lacking (demand size st.written t.call) pieces ≡ None
serves_now size caller st t pieces h e =
    still_served size h.was st.written t.call pieces h.fewer (subst (λ (needs : List ℕ). lacking needs pieces ≡ None) (sym e ∙ h.needs) (lacks_none [] pieces))

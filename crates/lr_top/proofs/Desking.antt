-- the record of a command
use Rattle.std.proofs.Common.{◌≡◌, [], Bool, true, false, IsTrue, refl, sym, ap, ◌∙◌, subst}
use Rattle.std.specs.Prelude.{⊤}
use Rattle.lr_report.specs.declared.run.Run.{Run}
use Rattle.lr_depot.specs.Left.{Left}
use Rattle.lr_top.specs.declared.outcome.RunRecord.{RunRecord}
use Rattle.lr_top.specs.declared.outcome.RunRecord.TheVariants as record_of
use Rattle.lr_top.specs.Top.{MatchRun, IfCommand, log_of}

-- a record of no run says of runs whatever
pub no_run : (r : RunRecord) (A B : Type 0) (P : Run → Type 0) → (A → B) → MatchRun r A (λ _. ⊥) → MatchRun r B P
no_run record_of.Nothing A B P f h = f h
no_run (record_of.Command left) A B P f h = tt
no_run (record_of.Run run) A B P f h = absurd h

pub log_same : (b : Bool) (r : RunRecord) (left : Left) → (IsTrue b → r ≡ record_of.Command left) → (b ≡ false → r ≡ record_of.Nothing) → (b ≡ false → left.log ≡ []) → log_of r ≡ left.log
log_same true r left t n e = ap log_of (t refl)
log_same false r left t n e = ap log_of (n refl) ∙ sym (e refl)

pub if_command : (b : Bool) (r : RunRecord) (left : Left) (P : Left → Type 0) → (IsTrue b → r ≡ record_of.Command left) → (b ≡ false → r ≡ record_of.Nothing) → (IsTrue b → P left) → IfCommand r P
if_command true r left P t n p = subst (λ q. IfCommand q P) (sym (t refl)) (p refl)
if_command false r left P t n p = subst (λ q. IfCommand q P) (sym (n refl)) tt

pub if_nothing : (b : Bool) (r : RunRecord) (left : Left) (A : Type 0) → (IsTrue b → r ≡ record_of.Command left) → (b ≡ false → r ≡ record_of.Nothing) → (b ≡ false → A) → MatchRun r A (λ _. ⊥)
if_nothing true r left A t n p = subst (λ q. MatchRun q A (λ _. ⊥)) (sym (t refl)) tt
if_nothing false r left A t n p = subst (λ q. MatchRun q A (λ _. ⊥)) (sym (n refl)) (p refl)

pub run_or : (b : Bool) (r : RunRecord) (left : Left) (A : Type 0) → (IsTrue b → r ≡ record_of.Command left) → (b ≡ false → r ≡ record_of.Nothing) → (b ≡ false → A) → MatchRun r A (λ _. ⊤)
run_or true r left A t n p = subst (λ q. MatchRun q A (λ _. ⊤)) (sym (t refl)) tt
run_or false r left A t n p = subst (λ q. MatchRun q A (λ _. ⊤)) (sym (n refl)) (p refl)

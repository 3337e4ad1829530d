-- What a play leaves of a depot that was started.
use Rattle.std.specs.Prelude.{◌≡◌, ℕ, List, Option}
use Rattle.lr_spec.specs.Rose.{Rose}
use Rattle.lr_origin.specs.Objects.{Objects}
use Rattle.lr_depot.specs.Depot.{Seen}
use Rattle.lr_script.specs.Seen.{ScriptSeen}
use Rattle.lr_desk.specs.declared.outcome.Outcome.{Outcome}
use Rattle.lr_desk.specs.declared.outcome.Outcome.TheVariants.{WriteFault}
use Rattle.lr_desk.specs.Ends.{IsWritten}
use Rattle.lr_report.specs.Report.{report_text}
use Rattle.lr_top.specs.declared.outcome.RunRecord.{RunRecord}
use Rattle.lr_top.specs.declared.outcome.RunRecord.TheVariants as record_of
use Rattle.lr_top.specs.declared.ends.PlayEnd.{PlayEnd}
use Rattle.lr_top.specs.declared.ends.PlayEnd.TheVariants.{By}
use Rattle.lr_top.specs.Ends.{status_of, line_of}
use Rattle.lr_top.specs.Top.{StoppedFrom}
use Rattle.lr_top.specs.Played.{PlayedFrom}

-- what a sink was given, and its count of faults, before and after
pub record Sunk : Type 0 where
  pub written_before : Option (List ℕ)
  pub written_after : Option (List ℕ)
  pub faults_before : ℕ
  pub faults_after : ℕ

-- The play stopped, and nothing was written; or the actors played, and the report was written, or a front of it and why.
abbrev pub ActsFrom : {O : Type 0} → (O → Option Objects) → (O → ℕ) → Seen O → ScriptSeen → Sunk → O → RunRecord → PlayEnd → Type 0
ActsFrom objects faults first script sunk after record_of.Nothing end = ⊥
ActsFrom objects faults first script sunk after (record_of.Command left) end = StoppedFrom objects faults first script after left end × (sunk.written_after ≡ sunk.written_before)
ActsFrom objects faults first script sunk after (record_of.Run run) end =
    PlayedFrom objects faults first after run × (run.script ≡ script)
    × ((outcome : Outcome) × (end ≡ By outcome) × IsWritten sunk.written_before (report_text run) sunk.written_after outcome × (outcome ≡ WriteFault → Rose sunk.faults_before sunk.faults_after))

-- .. with the status and the line of its end
abbrev pub EndsFrom : {O : Type 0} → (O → Option Objects) → (O → ℕ) → Seen O → ScriptSeen → Sunk → O → RunRecord → ℕ → List ℕ → Type 0
EndsFrom objects faults first script sunk after left status line =
    (end : PlayEnd) × (status ≡ status_of end) × (line ≡ line_of end) × ActsFrom objects faults first script sunk after left end

-- What the top call gives back: of a play, and of another command.
use Rattle.std.specs.Prelude.{◌≡◌, ◌≢◌, ◌⊎◌, ◌+◌, ℕ, List, Option, ⊤}
use Rattle.lr_spec.specs.Told.{Told}
use Rattle.lr_io.specs.Streams.{Appends, AppendsFront}
use Rattle.lr_origin.specs.Objects.{Objects}
use Rattle.lr_script.specs.Limits.{bytes_most}
use Rattle.lr_script.specs.Seen.{ScriptSeen}
use Rattle.lr_script.specs.Grammar.{FirstOutside}
use Rattle.lr_desk.specs.Words.{AreWords}
use Rattle.lr_desk.specs.Causes.{IsUnstarted, IsAnswered, HasCommanded}
use Rattle.lr_report.specs.Report.{report_text}
use Rattle.lr_top.specs.declared.outcome.RunRecord.{RunRecord}
use Rattle.lr_top.specs.Played.{HasPlayed, Headline}
use Rattle.lr_top.specs.Top.{IsReadAs, TakesUpTo, MatchRun, IfRun, IfCommand, log_of, IsPlayedAs}
use Rattle.lr_top.specs.Acts.{Sunk}

-- what was left in a source, and its count of faults, and the same of a sink, before and after
pub record Streams : Type 0 where
  pub left_before : Option (List ℕ)
  pub left_after : Option (List ℕ)
  pub failed_before : ℕ
  pub failed_after : ℕ
  pub sunk : Sunk

abbrev pub streams : {I W : Type 0} → (I → Option (List ℕ)) → (I → ℕ) → (W → Option (List ℕ)) → (W → ℕ) → I → I → W → W → Streams
streams left failed written faults source source_after sink sink_after = record {
  left_before = left source;
  left_after = left source_after;
  failed_before = failed source;
  failed_after = failed source_after;
  sunk = record { written_before = written sink; written_after = written sink_after; faults_before = faults sink; faults_after = faults sink_after };
}

-- neither done nor cut short by the sink: nothing was written
abbrev pub WritesNothing : Sunk → ℕ → Type 0
WritesNothing sunk status = (status ≢ 0) × (status ≢ 5) × (sunk.written_after ≡ sunk.written_before)

-- A script was read, and the status is neither that of a line outside nor that of a source that failed.
pub record ScriptWasRead (s : Streams) (status : ℕ) : Type 0 where
  pub script : ScriptSeen
  pub read : IsReadAs s.left_before script s.left_after
  pub inside : status ≢ 3
  pub whole : status ≢ 4

-- A play over a store, with what it left there, its record, status and line.
--
-- How it ended and why, and the first line outside the grammar exactly where there is one. Where the actors were begun, the record is the
-- run of the script that was read, the run has the headline, and its report was written, or a front of it. Else nothing was written, and
-- without a depot the store's objects are as they were. Where no script was read the store itself is as it was; of a text that is refused at
-- most one byte past the limit of a script was taken.
pub record Plays {O : Type 0} (objects : O → Option Objects) (faults : O → ℕ) (before after : O) (s : Streams) (left : RunRecord) (status : ℕ) (line : List ℕ) : Type 0 where
  pub answered : IsPlayedAs objects faults before after (λ script. IsReadAs s.left_before script s.left_after)
      (record { objects = objects before; source = s.left_before; origin_before = faults before; origin_after = faults after; source_before = s.failed_before; source_after = s.failed_after; sink_before = s.sunk.faults_before; sink_after = s.sunk.faults_after })
      left status line
  pub only : Told s.left_before (λ xs. (n : ℕ) → FirstOutside xs n → (status ≡ 3) ⊎ ((status ≡ 4) ⊎ (status ≡ 7)))
  pub script : IfRun left (λ run. IsReadAs s.left_before run.script s.left_after)
  pub served : IfRun left (λ run. (p : HasPlayed objects faults before after run) × Headline objects faults before after run p)
  pub reported : IfRun left (λ run. status ≡ 0 → Appends s.sunk.written_before (report_text run) s.sunk.written_after)
  pub front : IfRun left (λ run. AppendsFront s.sunk.written_before (report_text run) s.sunk.written_after)
  pub unstarted : MatchRun left (WritesNothing s.sunk status) (λ _. ⊤)
  pub stopped : IfCommand left (λ _. WritesNothing s.sunk status)
  pub kept : MatchRun left (objects after ≡ objects before) (λ _. ⊤)
  pub untouched : (after ≡ before) ⊎ ScriptWasRead s status
  pub bounded : status ≡ 3 → TakesUpTo s.left_before (bytes_most + 1) s.left_after

-- A command other than a play over a store. It has no run; the record is the depot's log where one was started. Without a depot the words
-- are no command's, or the store wasn't opened, and its objects are as they were. Words that are no command's leave the store itself.
pub record Commands {O : Type 0} (objects : O → Option Objects) (faults : O → ℕ) (before after : O) (s : Streams) (words : List (List ℕ)) (left : RunRecord) (status : ℕ) (line : List ℕ) : Type 0 where
  pub answered : IsAnswered
      (record { words = words; objects = objects before; source = s.left_before; origin_before = faults before; origin_after = faults after; source_before = s.failed_before; source_after = s.failed_after; sink_before = s.sunk.faults_before; sink_after = s.sunk.faults_after; log = log_of left })
      status line
  pub commanded : IfCommand left (λ of_depot. HasCommanded objects faults words before s.left_before s.left_after s.sunk.written_before after s.sunk.written_after of_depot status)
  pub recorded : MatchRun left (WritesNothing s.sunk status) (λ _. ⊥)
  pub why : MatchRun left (IsUnstarted words (objects before) (faults before) (faults after) status) (λ _. ⊤)
  pub kept : MatchRun left (objects after ≡ objects before) (λ _. ⊤)
  pub untouched : ¬ (AreWords words) → after ≡ before

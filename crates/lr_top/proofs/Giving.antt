-- what the top call gives back, put together
use Rattle.std.proofs.Common.{◌≡◌, ◌≢◌, ◌+◌, ℕ, List, Option, sym, subst, inr, arith}
use Rattle.std.specs.Prelude.{◌⊎◌, ⊤}
use Rattle.lr_spec.specs.Told.{Told}
use Rattle.lr_io.specs.Streams.{Appends, AppendsFront}
use Rattle.lr_origin.specs.Objects.{Objects}
use Rattle.lr_opening.specs.declared.cause.StartCause.{StartCause}
use Rattle.lr_opening.specs.declared.cause.StartCause.TheVariants as cause
use Rattle.lr_depot.specs.Depot.{Seen, IsStarted}
use Rattle.lr_images.specs.Answered.{SoundStoresAreUnspoiled}
use Rattle.lr_script.specs.Limits.{bytes_most}
use Rattle.lr_script.specs.Seen.{ScriptSeen}
use Rattle.lr_script.specs.Grammar.{FirstOutside}
use Rattle.lr_desk.specs.Causes.{cause_of}
use Rattle.lr_report.specs.Report.{report_text}
use Rattle.lr_report.specs.declared.run.Run.{Run}
use Rattle.lr_top.specs.declared.outcome.RunRecord.{RunRecord}
use Rattle.lr_top.specs.declared.outcome.RunRecord.TheVariants as record_of
use Rattle.lr_top.specs.declared.ends.PlayEnd.TheVariants.{By}
use Rattle.lr_top.specs.Ends.{status_of}
use Rattle.lr_top.specs.Top.{IsReadAs, TakesUpTo, HasNoLineOutside, MatchRun, IfRun, IfCommand, Met, IsPlayedAs}
use Rattle.lr_top.specs.Played.{HasPlayed, Headline}
use Rattle.lr_top.specs.Acts.{EndsFrom}
use Rattle.lr_top.specs.Gives.{Streams, WritesNothing, ScriptWasRead, Plays}
use Rattle.lr_top.proofs.Acting.{ends_played, ends_script, ends_served, ends_reported, ends_front, ends_started, ends_stopped, ends_other}

-- a store that wasn't opened ends a command neither with status 0 nor with 5
pub cause_status : (c : StartCause) → (status_of (By (cause_of c)) ≢ 0) × (status_of (By (cause_of c)) ≢ 5)
cause_status (cause.Fault key) = ((λ e. absurd (omega (arith, e))), (λ e. absurd (omega (arith, e))))
cause_status (cause.Spoiled key) = ((λ e. absurd (omega (arith, e))), (λ e. absurd (omega (arith, e))))
cause_status (cause.Foreign key) = ((λ e. absurd (omega (arith, e))), (λ e. absurd (omega (arith, e))))
cause_status cause.TooMany = ((λ e. absurd (omega (arith, e))), (λ e. absurd (omega (arith, e))))
cause_status cause.OutOfMemory = ((λ e. absurd (omega (arith, e))), (λ e. absurd (omega (arith, e))))

module _ {O : Type 0} (objects : O → Option Objects) (faults : O → ℕ) (before after : O) (s : Streams) (left : RunRecord) (status : ℕ) (line : List ℕ) where
  abbrev pub met : Met
  met = record {
    objects = objects before;
    source = s.left_before;
    origin_before = faults before;
    origin_after = faults after;
    source_before = s.failed_before;
    source_after = s.failed_after;
    sink_before = s.sunk.faults_before;
    sink_after = s.sunk.faults_after;
  }

  -- no depot was started
  module _ (none : left ≡ record_of.Nothing) where
    if_run : (P : Run → Type 0) → IfRun left P
    if_run P = subst (λ (q : RunRecord). IfRun q P) (sym none) tt

    if_command : (P : _) → IfCommand left P
    if_command P = subst (λ (q : RunRecord). IfCommand q P) (sym none) tt

    pub nothing_plays : IsPlayedAs objects faults before after (λ script. IsReadAs s.left_before script s.left_after) met left status line → Told s.left_before (λ xs. (n : ℕ) → FirstOutside xs n → (status ≡ 3) ⊎ ((status ≡ 4) ⊎ (status ≡ 7)))
        → WritesNothing s.sunk status → objects after ≡ objects before → (after ≡ before) ⊎ ScriptWasRead s status → (status ≡ 3 → TakesUpTo s.left_before (bytes_most + 1) s.left_after) → Plays objects faults before after s left status line
    nothing_plays answered only nothing same untouched bounded = record {
      answered = answered;
      only = only;
      script = if_run (λ run. IsReadAs s.left_before run.script s.left_after);
      served = if_run (λ run. (p : HasPlayed objects faults before after run) × Headline objects faults before after run p);
      reported = if_run (λ run. status ≡ 0 → Appends s.sunk.written_before (report_text run) s.sunk.written_after);
      front = if_run (λ run. AppendsFront s.sunk.written_before (report_text run) s.sunk.written_after);
      unstarted = subst (λ (q : RunRecord). MatchRun q (WritesNothing s.sunk status) (λ _. ⊤)) (sym none) nothing;
      stopped = if_command (λ _. WritesNothing s.sunk status);
      kept = subst (λ (q : RunRecord). MatchRun q (objects after ≡ objects before) (λ _. ⊤)) (sym none) same;
      untouched = untouched;
      bounded = bounded;
    }

  -- a depot was started, and its script was read
  pub begun_plays : (first : Seen O) (script : ScriptSeen) → IsStarted objects faults before first → IsReadAs s.left_before script s.left_after → HasNoLineOutside s.left_before → SoundStoresAreUnspoiled
      → ((run : Run) (p : HasPlayed objects faults before after run) → Headline objects faults before after run p) → EndsFrom objects faults first script s.sunk after left status line → Plays objects faults before after s left status line
  begun_plays first script started read none unspoiled law ends = record {
    answered = ends_played objects faults first script s.sunk after before s.left_before s.failed_before s.failed_after started (λ q. IsReadAs s.left_before q s.left_after) read left status line unspoiled ends;
    only = λ xs told n outside. absurd (none xs told n outside);
    script = ends_script objects faults first script s.sunk after before s.left_before s.failed_before s.failed_after started (λ q. IsReadAs s.left_before q s.left_after) read left status line ends;
    served = ends_served objects faults first script s.sunk after before s.left_before s.failed_before s.failed_after started left status line law ends;
    reported = ends_reported objects faults first script s.sunk after left status line ends;
    front = ends_front objects faults first script s.sunk after left status line ends;
    unstarted = ends_started objects faults first script s.sunk after left status line (WritesNothing s.sunk status) ends;
    stopped = ends_stopped objects faults first script s.sunk after left status line ends;
    kept = ends_started objects faults first script s.sunk after left status line (objects after ≡ objects before) ends;
    untouched = let other = ends_other objects faults first script s.sunk after left status line ends in inr (record { script = script; read = read; inside = other.0; whole = other.1 });
    bounded = λ three. absurd ((ends_other objects faults first script s.sunk after left status line ends).0 three);
  }

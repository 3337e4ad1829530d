-- what a play leaves, and what it answers
use Rattle.std.proofs.Common.{◌≡◌, ◌≢◌, ◌^◌, ℕ, List, Option, Some, refl, sym, ap, subst, ◌∙◌, inl, inr, arith}
use Rattle.std.specs.Prelude.{⊤}
use Rattle.lr_spec.specs.Rose.{Rose}
use Rattle.lr_spec.specs.Told.{Told}
use Rattle.lr_io.specs.Streams.{Appends, AppendsFront}
use Rattle.lr_origin.specs.Objects.{Objects}
use Rattle.lr_roots.specs.Catalog.{Seen as Catalog}
use Rattle.lr_opening.specs.declared.cause.StartCause.{StartCause}
use Rattle.lr_opening.specs.Cause.{IsCause}
use Rattle.lr_opening.specs.Store.{HasChunks}
use Rattle.lr_opening.proofs.Bounded.{fewer_not_many}
use Rattle.lr_opening.proofs.Views.{sound_store_is_not_foreign}
use Rattle.lr_depot.specs.Begun.{Start}
use Rattle.lr_depot.specs.Left.{Left}
use Rattle.lr_depot.specs.Machine.{LogEntry}
use Rattle.lr_depot.specs.Store.{Covers, LeadsTo}
use Rattle.lr_depot.specs.Depot.{Seen, IsStarted, IsEnded, LedTo, first_state}
use Rattle.lr_images.specs.Answered.{SoundStoresAreUnspoiled}
use Rattle.lr_script.specs.Seen.{ScriptSeen}
use Rattle.lr_desk.specs.declared.outcome.Outcome.{Outcome}
use Rattle.lr_desk.specs.declared.outcome.Outcome.TheVariants.{Done, Usage, ReadFault, WriteFault, OriginFault, Memory, Refused, Foreign, Spoiled, TooMany}
use Rattle.lr_desk.specs.Causes.{cause_of}
use Rattle.lr_desk.specs.Ends.{IsWritten}
use Rattle.lr_prepare.specs.declared.error.SetupError.{SetupError}
use Rattle.lr_prepare.specs.Stopped.{IsLeft}
use Rattle.lr_prepare.specs.Told.{ErrorsAreTold, ToldErrorsCome}
use Rattle.lr_report.specs.Report.{report_text}
use Rattle.lr_report.specs.declared.run.Run.{Run}
use Rattle.lr_top.specs.declared.input.InputError.{InputError}
use Rattle.lr_top.specs.declared.input.InputError.TheVariants as input
use Rattle.lr_top.specs.declared.outcome.RunRecord.{RunRecord}
use Rattle.lr_top.specs.declared.outcome.RunRecord.TheVariants as record_of
use Rattle.lr_top.specs.declared.ends.PlayEnd.{PlayEnd}
use Rattle.lr_top.specs.declared.ends.PlayEnd.TheVariants.{By}
use Rattle.lr_top.specs.Ends.{status_of, line_of}
use Rattle.lr_top.specs.Input.{IfOutside}
use Rattle.lr_top.specs.Top.{IsOutsideAt, MatchRun, IfRun, IfCommand, Met, unread_end, end_of, Comes, StoppedFrom, IsPlayEnd, Leaves, IsUnspoiledEnd, IsComplete, Completes, IsExact, IsPlayedAs}
use Rattle.lr_top.specs.Played.{PlayedFrom, HasPlayed, Headline}
use Rattle.lr_top.specs.Acts.{Sunk, ActsFrom, EndsFrom}
use Rattle.lr_top.proofs.Meeting.{unread_comes, unread_exact, unread_unbegun, cause_comes, cause_exact, cause_unbegun, stopped_comes, stopped_unspoiled, stopped_complete, stopped_status, IsOther, is_other, stopped_other}
use Rattle.lr_top.proofs.Reported.{whole_front}

-- ---- no depot was started

module _ {O : Type 0} (objects : O → Option Objects) (faults : O → ℕ) (before after : O) (reads : ScriptSeen → Type 0) (m : Met) (r : RunRecord) (status : ℕ) (line : List ℕ) (none : r ≡ record_of.Nothing) where
  pub unread_played : (e : InputError) → status ≡ status_of (unread_end e) → line ≡ line_of (unread_end e) → IfOutside e (λ n. IsOutsideAt m.source n) → (e ≡ input.Failed → Rose m.source_before m.source_after)
      → IsPlayedAs objects faults before after reads m r status line
  unread_played e gave says outside rose = record {
    end = unread_end e;
    gave = gave;
    says = says;
    comes = unread_comes m e outside rose;
    leaves = subst (λ (q : RunRecord). Leaves objects faults before after reads q (unread_end e)) (sym none) (unread_unbegun m (objects before) e);
    exact = unread_exact m e outside rose;
  }

  pub cause_played : (c : StartCause) → m.objects ≡ objects before → status ≡ status_of (By (cause_of c)) → line ≡ line_of (By (cause_of c)) → IsCause m.objects m.origin_before m.origin_after c
      → IsPlayedAs objects faults before after reads m r status line
  cause_played c same gave says is = record {
    end = By (cause_of c);
    gave = gave;
    says = says;
    comes = cause_comes m c is;
    leaves = subst (λ (q : RunRecord). Leaves objects faults before after reads q (By (cause_of c))) (sym none) (cause_unbegun (record m { objects = objects before }) c (subst (λ (o : Option Objects). IsCause o m.origin_before m.origin_after c) same is));
    exact = cause_exact m c is;
  }

-- ---- a depot was started

-- how a report was written
abbrev Written : Sunk → Outcome → List ℕ → Type 0
Written sunk outcome text = IsWritten sunk.written_before text sunk.written_after outcome

written_ends : (sunk : Sunk) (o : Outcome) (text : List ℕ) → Written sunk o text → IsPlayEnd (By o)
written_ends sunk Done text w = inl refl
written_ends sunk WriteFault text w = inr (inl refl)
written_ends sunk Memory text w = inr (inr refl)
written_ends sunk Usage text w = absurd w
written_ends sunk ReadFault text w = absurd w
written_ends sunk OriginFault text w = absurd w
written_ends sunk (Refused why) text w = absurd w
written_ends sunk (Foreign key) text w = absurd w
written_ends sunk (Spoiled key) text w = absurd w
written_ends sunk TooMany text w = absurd w

written_other : (sunk : Sunk) (o : Outcome) (text : List ℕ) → Written sunk o text → IsOther (status_of (By o))
written_other sunk Done text w = ((λ e. absurd (omega (arith, e))), (λ e. absurd (omega (arith, e))))
written_other sunk WriteFault text w = ((λ e. absurd (omega (arith, e))), (λ e. absurd (omega (arith, e))))
written_other sunk Memory text w = ((λ e. absurd (omega (arith, e))), (λ e. absurd (omega (arith, e))))
written_other sunk o text w = absurd w

written_all : (sunk : Sunk) (o : Outcome) (text : List ℕ) → Written sunk o text → status_of (By o) ≡ 0 → Appends sunk.written_before text sunk.written_after
written_all sunk Done text w z = w
written_all sunk WriteFault text w z = absurd (omega (arith, z))
written_all sunk Memory text w z = absurd (omega (arith, z))
written_all sunk o text w z = absurd w

written_front : (sunk : Sunk) (o : Outcome) (text : List ℕ) → Written sunk o text → AppendsFront sunk.written_before text sunk.written_after
written_front sunk Done text w = whole_front sunk.written_before sunk.written_after text text refl w
written_front sunk WriteFault text w = w
written_front sunk Memory text w = w
written_front sunk o text w = absurd w

written_comes : (m : Met) (sunk : Sunk) (o : Outcome) (text : List ℕ) → Written sunk o text → (o ≡ WriteFault → Rose m.sink_before m.sink_after) → Comes m (By o)
written_comes m sunk Done text w rose = tt
written_comes m sunk WriteFault text w rose = rose refl
written_comes m sunk Memory text w rose = tt
written_comes m sunk o text w rose = absurd w

written_complete : (m : Met) (sunk : Sunk) (o : Outcome) (text : List ℕ) → Written sunk o text → (o ≡ WriteFault → Rose m.sink_before m.sink_after) → ¬ (Rose m.sink_before m.sink_after) → IsComplete (By o)
written_complete m sunk Done text w rose quiet = tt
written_complete m sunk WriteFault text w rose quiet = absurd (quiet (rose refl))
written_complete m sunk Memory text w rose quiet = tt
written_complete m sunk o text w rose quiet = absurd w

written_unspoiled : (sunk : Sunk) (o : Outcome) (text : List ℕ) → Written sunk o text → IsUnspoiledEnd (By o)
written_unspoiled sunk (Spoiled key) text w = w
written_unspoiled sunk o text w = tt

module _ {O : Type 0} (objects : O → Option Objects) (faults : O → ℕ) (first : Seen O) (script : ScriptSeen) (sunk : Sunk) (after : O) where
  pub stopped_from : (last : Seen O) (error : SetupError) (r : RunRecord) (status : ℕ) (line : List ℕ) → last.start ≡ first.start → IsLeft first.start script.setup last.log error → status ≡ status_of (end_of error) → line ≡ line_of (end_of error)
      → IfCommand r (λ left. (catalog : Catalog) × IsEnded objects faults last after left catalog) → MatchRun r ⊥ (λ _. ⊥) → sunk.written_after ≡ sunk.written_before → ErrorsAreTold → ToldErrorsCome → EndsFrom objects faults first script sunk after r status line
  stopped_from last error record_of.Nothing status line same is gave says ended none kept told only = absurd none
  stopped_from last error (record_of.Command left) status line same is gave says ended none kept told only =
      let here : IsLeft first.start script.setup left.log error = subst (λ (l : List LogEntry). IsLeft first.start script.setup l error) (sym ended.1.log) is in
      (end_of error, gave, says, (record { last = last; catalog = ended.0; same = same; ended = ended.1; error = error; stopped = here; told = told first.start script.setup left.log error here; only = only first.start script.setup left.log error here; tells = refl }, kept))
  stopped_from last error (record_of.Run run) status line same is gave says ended none kept told only = absurd none

  pub ran_from : (r : RunRecord) (run : Run) (status : ℕ) (line : List ℕ) → r ≡ record_of.Run run → PlayedFrom objects faults first after run → run.script ≡ script
      → (end : Outcome) × (status ≡ status_of (By end)) × (line ≡ line_of (By end)) × Written sunk end (report_text run) × (end ≡ WriteFault → Rose sunk.faults_before sunk.faults_after) → EndsFrom objects faults first script sunk after r status line
  ran_from r run status line is played same (end, gave, says, written, rose) =
      (By end, gave, says, subst (λ (q : RunRecord). ActsFrom objects faults first script sunk after q (By end)) (sym is) (played, same, (end, refl, written, rose)))

  module _ (before : O) (source : Option (List ℕ)) (source_before source_after : ℕ) (started : IsStarted objects faults before first) where
    abbrev met : Met
    met = record { objects = objects before; source = source; origin_before = faults before; origin_after = faults after; source_before = source_before; source_after = source_after; sink_before = sunk.faults_before; sink_after = sunk.faults_after }

    module _ (left : Left) (end : PlayEnd) (s : StoppedFrom objects faults first script after left end) where
      covers_left : Covers (faults before) left.log (faults after)
      covers_left =
          subst (λ (n : ℕ). Covers n left.log (faults after)) (ap (λ (q : Start). q.faults) s.same ∙ started.failed)
          (subst (λ (l : List LogEntry). Covers s.last.start.faults l (faults after)) (sym s.ended.log) (subst (λ (o : O). Covers s.last.start.faults s.last.log (faults o)) (sym s.ended.store) s.ended.counted))

      led_left : Told (objects before) (λ os. (n : Objects) × LedTo first.start os left.log n)
      led_left os t =
          let told : first.start.objects ≡ Some os = started.told ∙ t in
          let l = s.ended.leads os (ap (λ (q : Start). q.objects) s.same ∙ told) in (
            l.0,
            record {
              begun = started.start;
              mirrors = started.start.mirrors os told;
              leads = subst (λ (q : Start). LeadsTo (first_state q) os left.log l.0) s.same (subst (λ (g : List LogEntry). LeadsTo (first_state s.last.start) os g l.0) (sym s.ended.log) l.2);
            },
          )

      left_comes : Comes met end
      left_comes = subst (Comes met) (sym s.tells) (stopped_comes met left.log covers_left s.error s.told)

      left_complete : SoundStoresAreUnspoiled → Completes met end
      left_complete unspoiled still unread quiet xs told script spells os t sound few =
          let l = led_left os t in
          subst IsComplete (sym s.tells) (stopped_complete met left.log covers_left s.error s.told still (unspoiled first.start os l.0 left.log l.1 sound.1))

      left_unspoiled : SoundStoresAreUnspoiled → Told (objects before) (λ os. HasChunks os → IsUnspoiledEnd end)
      left_unspoiled unspoiled os t chunks =
          let l = led_left os t in
          subst IsUnspoiledEnd (sym s.tells) (stopped_unspoiled met left.log covers_left s.error s.told (unspoiled first.start os l.0 left.log l.1 chunks))

    acts_comes : (r : RunRecord) (end : PlayEnd) → ActsFrom objects faults first script sunk after r end → Comes met end
    acts_comes record_of.Nothing end h = absurd h
    acts_comes (record_of.Command left) end h = left_comes left end h.0
    acts_comes (record_of.Run run) end (played, same, (outcome, is, written, rose)) = subst (Comes met) (sym is) (written_comes met sunk outcome (report_text run) written rose)

    acts_complete : (r : RunRecord) (end : PlayEnd) → SoundStoresAreUnspoiled → ActsFrom objects faults first script sunk after r end → Completes met end
    acts_complete record_of.Nothing end unspoiled h still unread quiet xs told script spells os t sound few = absurd h
    acts_complete (record_of.Command left) end unspoiled h still unread quiet xs told script spells os t sound few = left_complete left end h.0 unspoiled still unread quiet xs told script spells os t sound few
    acts_complete (record_of.Run run) end unspoiled (played, same, (outcome, is, written, rose)) still unread quiet xs told script spells os t sound few = subst IsComplete (sym is) (written_complete met sunk outcome (report_text run) written rose quiet)

    acts_unspoiled : (r : RunRecord) (end : PlayEnd) → SoundStoresAreUnspoiled → ActsFrom objects faults first script sunk after r end → Told (objects before) (λ os. HasChunks os → IsUnspoiledEnd end)
    acts_unspoiled record_of.Nothing end unspoiled h os t chunks = absurd h
    acts_unspoiled (record_of.Command left) end unspoiled h os t chunks = left_unspoiled left end h.0 unspoiled os t chunks
    acts_unspoiled (record_of.Run run) end unspoiled (played, same, (outcome, is, written, rose)) os t chunks = subst IsUnspoiledEnd (sym is) (written_unspoiled sunk outcome (report_text run) written)

    acts_exact : (r : RunRecord) (end : PlayEnd) → SoundStoresAreUnspoiled → ActsFrom objects faults first script sunk after r end → IsExact met end
    acts_exact r end unspoiled h = record {
      foreign = λ os t key foreign few. absurd (sound_store_is_not_foreign os first.start.view (started.start.mirrors os (started.told ∙ t)) started.start.may.sound key foreign);
      many = λ os t many. absurd (fewer_not_many os (2 ^ 32) (started.few os t) many);
      complete = acts_complete r end unspoiled h;
      unspoiled = acts_unspoiled r end unspoiled h;
    }

    module _ (reads : ScriptSeen → Type 0) (read : reads script) where
      acts_leaves : (r : RunRecord) (end : PlayEnd) → ActsFrom objects faults first script sunk after r end → Leaves objects faults before after reads r end
      acts_leaves record_of.Nothing end h = absurd h
      acts_leaves (record_of.Command left) end h = record { first = first; started = started; script = script; read = read; from = h.0 }
      acts_leaves (record_of.Run run) end (played, same, (outcome, is, written, rose)) = subst IsPlayEnd (sym is) (written_ends sunk outcome (report_text run) written)

      pub ends_played : (r : RunRecord) (status : ℕ) (line : List ℕ) → SoundStoresAreUnspoiled → EndsFrom objects faults first script sunk after r status line → IsPlayedAs objects faults before after reads met r status line
      ends_played r status line unspoiled (end, gave, says, acts) = record {
        end = end;
        gave = gave;
        says = says;
        comes = acts_comes r end acts;
        leaves = acts_leaves r end acts;
        exact = acts_exact r end unspoiled acts;
      }

      pub ends_script : (r : RunRecord) (status : ℕ) (line : List ℕ) → EndsFrom objects faults first script sunk after r status line → IfRun r (λ run. reads run.script)
      ends_script record_of.Nothing status line e = absurd e.3
      ends_script (record_of.Command left) status line e = tt
      ends_script (record_of.Run run) status line (end, gave, says, (played, same, more)) = subst reads (sym same) read

    pub ends_served : (r : RunRecord) (status : ℕ) (line : List ℕ) → ((run : Run) (p : HasPlayed objects faults before after run) → Headline objects faults before after run p) → EndsFrom objects faults first script sunk after r status line
        → IfRun r (λ run. (p : HasPlayed objects faults before after run) × Headline objects faults before after run p)
    ends_served record_of.Nothing status line law e = absurd e.3
    ends_served (record_of.Command left) status line law e = tt
    ends_served (record_of.Run run) status line law (end, gave, says, (played, same, more)) =
        let p : HasPlayed objects faults before after run = record { first = first; started = started; from = played } in (p, law run p)

  pub ends_reported : (r : RunRecord) (status : ℕ) (line : List ℕ) → EndsFrom objects faults first script sunk after r status line → IfRun r (λ run. status ≡ 0 → Appends sunk.written_before (report_text run) sunk.written_after)
  ends_reported record_of.Nothing status line e = absurd e.3
  ends_reported (record_of.Command left) status line e = tt
  ends_reported (record_of.Run run) status line (end, gave, says, (played, same, (outcome, is, written, rose))) =
      λ z. written_all sunk outcome (report_text run) written (ap status_of (sym is) ∙ (sym gave ∙ z))

  pub ends_front : (r : RunRecord) (status : ℕ) (line : List ℕ) → EndsFrom objects faults first script sunk after r status line → IfRun r (λ run. AppendsFront sunk.written_before (report_text run) sunk.written_after)
  ends_front record_of.Nothing status line e = absurd e.3
  ends_front (record_of.Command left) status line e = tt
  ends_front (record_of.Run run) status line (end, gave, says, (played, same, (outcome, is, written, rose))) = written_front sunk outcome (report_text run) written

  -- a depot that was started leaves a log or a run
  pub ends_started : (r : RunRecord) (status : ℕ) (line : List ℕ) (A : Type 0) → EndsFrom objects faults first script sunk after r status line → MatchRun r A (λ _. ⊤)
  ends_started record_of.Nothing status line A e = absurd e.3
  ends_started (record_of.Command left) status line A e = tt
  ends_started (record_of.Run run) status line A e = tt

  pub ends_stopped : (r : RunRecord) (status : ℕ) (line : List ℕ) → EndsFrom objects faults first script sunk after r status line → IfCommand r (λ _. (status ≢ 0) × (status ≢ 5) × (sunk.written_after ≡ sunk.written_before))
  ends_stopped record_of.Nothing status line e = tt
  ends_stopped (record_of.Command left) status line (end, gave, says, (s, kept)) =
      let n = stopped_status left.log s.error s.told in
      let is : status ≡ status_of (end_of s.error) = gave ∙ ap status_of s.tells in
      ((λ z. n.0 (sym is ∙ z)), (λ z. n.1 (sym is ∙ z)), kept)
  ends_stopped (record_of.Run run) status line e = tt

  -- and its script was read
  pub ends_other : (r : RunRecord) (status : ℕ) (line : List ℕ) → EndsFrom objects faults first script sunk after r status line → IsOther status
  ends_other record_of.Nothing status line e = absurd e.3
  ends_other (record_of.Command left) status line (end, gave, says, (s, kept)) =
      is_other status (status_of (end_of s.error)) (gave ∙ ap status_of s.tells) (stopped_other left.log s.error s.told)
  ends_other (record_of.Run run) status line (end, gave, says, (played, same, (outcome, is, written, rose))) =
      is_other status (status_of (By outcome)) (gave ∙ ap status_of is) (written_other sunk outcome (report_text run) written)

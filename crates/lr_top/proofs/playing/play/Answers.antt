use Rattle.std.proofs.Common.{◌≡◌, ◌⊎◌, ◌+◌, Err, ℕ, refl, sym, ap, subst, inl, inr, ◌∙◌}
use Rattle.lr_opening.specs.Cause.{IsCause}
use Rattle.lr_script.specs.Limits.{bytes_most}
use Rattle.lr_top.specs.Ends.{status_of, line_of}
use Rattle.lr_top.specs.Top.{IsReadAs, TakesUpTo}
use Rattle.lr_top.specs.Gives.{Streams, streams}
use Rattle.lr_top.proofs.Acting.{unread_played, cause_played}
use Rattle.lr_top.proofs.Meeting.{unread_status, unread_known, cause_other, of_outside}
use Rattle.lr_top.proofs.Giving.{met, cause_status, nothing_plays, begun_plays}
use Rattle.lr_top.proofs.playing.play.Goals as goal

pub returns-in-Err-clause-plays : goal.returns-in-Err-clause-plays
returns-in-Err-clause-plays g c =
    let s : Streams = streams g.I.Source.left g.I.Source.faults g.W.Sink.written g.W.Sink.faults c.args.source.now c.read_script.new.source c.args.sink.now c.args.sink.now in
    let status = c.ends.ensures.status ∙ ap status_of c.of_input.ensures in
    let other = unread_status c.in-Err.error in
    nothing_plays g.O.Origin.objects g.O.Origin.faults c.args.origin c.ends.result.origin s c.ends.result.run c.ends.result.status c.ends.result.line c.ends.ensures.run
    (unread_played g.O.Origin.objects g.O.Origin.faults c.args.origin c.ends.result.origin (λ script. IsReadAs s.left_before script s.left_after)
    (met g.O.Origin.objects g.O.Origin.faults c.args.origin c.ends.result.origin s c.ends.result.run c.ends.result.status c.ends.result.line)
    c.ends.result.run c.ends.result.status c.ends.result.line c.ends.ensures.run c.in-Err.error status (c.ends.ensures.line ∙ ap line_of c.of_input.ensures) c.in-Err.ensures.outside
    (λ is. c.in-Err.ensures.cause (ap (λ e. Err e) is)))
    (λ xs told n outside. subst (λ (k : ℕ). (k ≡ 3) ⊎ ((k ≡ 4) ⊎ (k ≡ 7))) (sym status) (unread_known c.in-Err.error))
    ((λ z. other.0 (sym status ∙ z)), (λ z. other.1 (sym status ∙ z)), refl)
    (ap g.O.Origin.objects c.ends.ensures.origin) (inl c.ends.ensures.origin)
    (λ three. of_outside c.in-Err.error (TakesUpTo s.left_before (bytes_most + 1) s.left_after) c.in-Err.ensures.bounded (sym status ∙ three))

pub returns-in-Err-start-clause-plays : goal.returns-in-Err-start-clause-plays
returns-in-Err-start-clause-plays g c =
    let s : Streams = streams g.I.Source.left g.I.Source.faults g.W.Sink.written g.W.Sink.faults c.args.source.now c.read_script.new.source c.args.sink.now c.args.sink.now in
    let e = c.in-Err-start.error in
    let other = cause_status e.cause in
    let unread = cause_other e.cause in
    nothing_plays g.O.Origin.objects g.O.Origin.faults c.args.origin c.unstarted.result.origin s c.unstarted.result.run c.unstarted.result.status c.unstarted.result.line c.unstarted.ensures.run
    (cause_played g.O.Origin.objects g.O.Origin.faults c.args.origin c.unstarted.result.origin (λ script. IsReadAs s.left_before script s.left_after)
    (met g.O.Origin.objects g.O.Origin.faults c.args.origin c.unstarted.result.origin s c.unstarted.result.run c.unstarted.result.status c.unstarted.result.line)
    c.unstarted.result.run c.unstarted.result.status c.unstarted.result.line c.unstarted.ensures.run e.cause refl c.unstarted.ensures.status c.unstarted.ensures.line
    (subst (λ o. IsCause (g.O.Origin.objects c.args.origin) (g.O.Origin.faults c.args.origin) (g.O.Origin.faults o) e.cause) (sym c.unstarted.ensures.origin) c.in-Err-start.ensures.cause))
    (λ xs told n outside. absurd (c.in-Ok.ensures.only xs told n outside))
    ((λ z. other.0 (sym c.unstarted.ensures.status ∙ z)), (λ z. other.1 (sym c.unstarted.ensures.status ∙ z)), refl)
    (ap g.O.Origin.objects c.unstarted.ensures.origin ∙ c.in-Err-start.ensures.back.0)
    (inr (record { script = c.in-Ok.script; read = c.in-Ok.ensures.script; inside = λ z. unread.0 (sym c.unstarted.ensures.status ∙ z); whole = λ z. unread.1 (sym c.unstarted.ensures.status ∙ z) }))
    (λ three. absurd (unread.0 (sym c.unstarted.ensures.status ∙ three)))

pub returns-in-Ok-start-clause-plays : goal.returns-in-Ok-start-clause-plays
returns-in-Ok-start-clause-plays g c =
    let s : Streams = streams g.I.Source.left g.I.Source.faults g.W.Sink.written g.W.Sink.faults c.args.source.now c.read_script.new.source c.args.sink.now c.begin.new.sink in
    begun_plays g.O.Origin.objects g.O.Origin.faults c.args.origin c.begin.result.origin s c.begin.result.run c.begin.result.status c.begin.result.line
    c.in-Ok-start.depot c.in-Ok.script c.in-Ok-start.ensures.started c.in-Ok.ensures.script c.in-Ok.ensures.only c.answers_are_told.ensures.unspoiled
    (λ run p. c.plays_have_the_headline.ensures c.args.origin c.begin.result.origin run p) c.begin.ensures.begun

use Rattle.std.proofs.Common.{◌≡◌, ◌≢◌, ℕ, Global, map, refl, ap, sym, subst, ◌∙◌, inl, inr, arith}
use Rattle.std.specs.String.{string_bytes}
use Rattle.lr_opening.specs.Cause.{IsCause}
use Rattle.lr_desk.proofs.Answering.{cause_status, answered_usage, answered_by_cause, answered_started, has_commanded, none_alone, commanded_alone}
use Rattle.lr_desk.proofs.running.commands.Goals as goal

pub returns-in_default-clause-answered : goal.returns-in_default-clause-answered
returns-in_default-clause-answered g c =
    answered_usage (record {
      words = map (string_bytes {Z = Global}) c.args.words.now;
      objects = g.O.Origin.objects c.args.origin;
      source = g.I.Source.left c.args.source.now;
      origin_before = g.O.Origin.faults c.args.origin;
      origin_after = g.O.Origin.faults c.unstarted.result.origin;
      source_before = g.I.Source.faults c.args.source.now;
      source_after = g.I.Source.faults c.args.source.now;
      sink_before = g.W.Sink.faults c.args.sink.now;
      sink_after = g.W.Sink.faults c.args.sink.now;
      log = c.unstarted.result.log.log;
    }) c.unstarted.result.status c.unstarted.result.line c.unstarted.ensures.log c.in_default.ensures.only c.unstarted.ensures.status c.unstarted.ensures.line

pub returns-in-Err-clause-answered : goal.returns-in-Err-clause-answered
returns-in-Err-clause-answered g c =
    answered_by_cause (record {
      words = map (string_bytes {Z = Global}) c.args.words.now;
      objects = g.O.Origin.objects c.args.origin;
      source = g.I.Source.left c.args.source.now;
      origin_before = g.O.Origin.faults c.args.origin;
      origin_after = g.O.Origin.faults c.failed.result.origin;
      source_before = g.I.Source.faults c.args.source.now;
      source_after = g.I.Source.faults c.args.source.now;
      sink_before = g.W.Sink.faults c.args.sink.now;
      sink_after = g.W.Sink.faults c.args.sink.now;
      log = c.failed.result.log.log;
    }) c.in-Err.error.cause
    (subst (λ n. IsCause (g.O.Origin.objects c.args.origin) (g.O.Origin.faults c.args.origin) n c.in-Err.error.cause) (sym (ap g.O.Origin.faults c.failed.ensures.origin)) c.in-Err.ensures.cause)
    c.failed.result.status c.failed.result.line c.failed.ensures.log (c.in-Some.command, c.in-Some.ensures.found.0, c.in-Some.ensures.found.1) c.failed.ensures.status c.failed.ensures.line

pub returns-clause-answered : goal.returns-clause-answered
returns-clause-answered g c =
    answered_started g.O.Origin.objects g.O.Origin.faults c.args.origin c.end-origin.result.0 c.in-Ok.depot c.run-outcome.new.depot c.end-origin.result.1 c.end-origin.result.2
    (map (string_bytes {Z = Global}) c.args.words.now) (g.I.Source.faults c.args.source.now) (g.I.Source.faults c.run-outcome.new.source) (g.W.Sink.faults c.args.sink.now) (g.W.Sink.faults c.run-outcome.new.sink) c.in-Some.command
    (g.I.Source.left c.args.source.now) (g.I.Source.left c.run-outcome.new.source) (g.W.Sink.written c.args.sink.now) (g.W.Sink.written c.run-outcome.new.sink)
    c.run-outcome.result c.status.result c.line.result c.in-Ok.ensures.started c.run-outcome.ensures.start c.end-origin.ensures.ended c.in-Some.ensures.found.0 c.in-Some.ensures.found.1 c.run-outcome.ensures.ran
    c.run-outcome.ensures.read_fault c.run-outcome.ensures.write_fault c.status.ensures c.line.ensures

pub returns-clause-commanded : goal.returns-clause-commanded
returns-clause-commanded g c = λ _.
    has_commanded g.O.Origin.objects g.O.Origin.faults c.args.origin c.end-origin.result.0 c.in-Ok.depot c.run-outcome.new.depot c.end-origin.result.1 c.end-origin.result.2
    (map (string_bytes {Z = Global}) c.args.words.now) (g.I.Source.faults c.args.source.now) (g.I.Source.faults c.run-outcome.new.source) (g.W.Sink.faults c.args.sink.now) (g.W.Sink.faults c.run-outcome.new.sink) c.in-Some.command
    (g.I.Source.left c.args.source.now) (g.I.Source.left c.run-outcome.new.source) (g.W.Sink.written c.args.sink.now) (g.W.Sink.written c.run-outcome.new.sink)
    c.run-outcome.result c.status.result c.line.result c.in-Ok.ensures.started c.run-outcome.ensures.start c.end-origin.ensures.ended c.in-Some.ensures.found.0 c.in-Some.ensures.found.1 c.run-outcome.ensures.ran
    c.done_images.ensures.made c.status.ensures

pub returns-clause-alone : goal.returns-clause-alone
returns-clause-alone g c = commanded_alone (returns-clause-commanded g c refl) c.commands_come_alone.ensures.alone

pub returns-in_default-clause-alone : goal.returns-in_default-clause-alone
returns-in_default-clause-alone g c = none_alone c.unstarted.result.log.log c.unstarted.ensures.log

pub returns-in-Err-clause-alone : goal.returns-in-Err-clause-alone
returns-in-Err-clause-alone g c = none_alone c.failed.result.log.log c.failed.ensures.log

pub returns-in_default-clause-unstarted : goal.returns-in_default-clause-unstarted
returns-in_default-clause-unstarted g c = λ _.
    (c.unstarted.ensures.log, ap g.O.Origin.objects c.unstarted.ensures.origin, refl, refl, λ e. absurd (omega (arith, e, c.unstarted.ensures.status)), λ e. absurd (omega (arith, e, c.unstarted.ensures.status)))

pub returns-in-Err-clause-unstarted : goal.returns-in-Err-clause-unstarted
returns-in-Err-clause-unstarted g c = λ _.
    let status = cause_status c.in-Err.error.cause in
    (c.failed.ensures.log, ap g.O.Origin.objects c.failed.ensures.origin ∙ c.in-Err.ensures.back.0, refl, refl, λ e. status.0 (sym c.failed.ensures.status ∙ e), λ e. status.1 (sym c.failed.ensures.status ∙ e))

pub returns-in_default-clause-why : goal.returns-in_default-clause-why
returns-in_default-clause-why g c = λ _. inl c.in_default.ensures.only

pub returns-in-Err-clause-why : goal.returns-in-Err-clause-why
returns-in-Err-clause-why g c = λ _.
    inr (c.in-Err.error.cause, subst (λ n. IsCause (g.O.Origin.objects c.args.origin) (g.O.Origin.faults c.args.origin) n c.in-Err.error.cause) (sym (ap g.O.Origin.faults c.failed.ensures.origin)) c.in-Err.ensures.cause, c.failed.ensures.status)

pub returns-clause-unread : goal.returns-clause-unread
returns-clause-unread g c = λ other. c.run-outcome.ensures.unread (λ are. other (are.0, are.1, c.in-Some.ensures.found.1 ∙ are.2))

pub returns-in_default-clause-untouched : goal.returns-in_default-clause-untouched
returns-in_default-clause-untouched g c = λ wrong. c.unstarted.ensures.origin

pub returns-in-Err-clause-untouched : goal.returns-in-Err-clause-untouched
returns-in-Err-clause-untouched g c = λ wrong. absurd (wrong (c.in-Some.command, c.in-Some.ensures.found.0, c.in-Some.ensures.found.1))

pub returns-clause-untouched : goal.returns-clause-untouched
returns-clause-untouched g c = λ wrong. absurd (wrong (c.in-Some.command, c.in-Some.ensures.found.0, c.in-Some.ensures.found.1))

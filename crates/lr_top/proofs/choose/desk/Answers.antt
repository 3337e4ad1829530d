use Rattle.std.proofs.Common.{Global, map, ap, sym, subst, List}
use Rattle.std.specs.String.{string_bytes}
use Rattle.lr_depot.specs.Machine.{LogEntry}
use Rattle.lr_desk.specs.Causes.{IsAnswered, HasCommanded}
use Rattle.lr_top.proofs.Desking.{log_same, if_command, if_nothing, run_or}
use Rattle.lr_top.proofs.choose.desk.Goals as goal

pub returns-clause-commands : goal.returns-clause-commands
returns-clause-commands g c =
    let d = c.commands-done in
    record {
      answered = subst (λ (l : List LogEntry). IsAnswered (record {
        words = map (string_bytes {Z = Global}) c.args.words.now;
        objects = g.O.Origin.objects c.args.origin;
        source = g.I.Source.left c.args.source.now;
        origin_before = g.O.Origin.faults c.args.origin;
        origin_after = g.O.Origin.faults d.result.origin;
        source_before = g.I.Source.faults c.args.source.now;
        source_after = g.I.Source.faults d.new.source;
        sink_before = g.W.Sink.faults c.args.sink.now;
        sink_after = g.W.Sink.faults d.new.sink;
        log = l;
      }) d.result.status d.result.line) (sym (log_same d.result.started c.recorded-run.result d.result.log c.recorded-run.ensures.started c.recorded-run.ensures.nothing (λ e. (d.ensures.unstarted e).0))) d.ensures.answered;
      commanded = if_command d.result.started c.recorded-run.result d.result.log
          (λ left. HasCommanded g.O.Origin.objects g.O.Origin.faults (map (string_bytes {Z = Global}) c.args.words.now) c.args.origin (g.I.Source.left c.args.source.now) (g.I.Source.left d.new.source) (g.W.Sink.written c.args.sink.now) d.result.origin (g.W.Sink.written d.new.sink) left d.result.status)
          c.recorded-run.ensures.started c.recorded-run.ensures.nothing d.ensures.commanded;
      recorded = if_nothing d.result.started c.recorded-run.result d.result.log _ c.recorded-run.ensures.started c.recorded-run.ensures.nothing
          (λ e. let u = d.ensures.unstarted e in (u.4, u.5, ap g.W.Sink.written u.2));
      why = run_or d.result.started c.recorded-run.result d.result.log _ c.recorded-run.ensures.started c.recorded-run.ensures.nothing d.ensures.why;
      kept = run_or d.result.started c.recorded-run.result d.result.log _ c.recorded-run.ensures.started c.recorded-run.ensures.nothing (λ e. (d.ensures.unstarted e).1);
      untouched = d.ensures.untouched;
    }

pub returns-clause-kept : goal.returns-clause-kept
returns-clause-kept g c = c.sound_stores_are_kept.ensures.commands _ _ _ _ _ _ _ (returns-clause-commands g c)

pub returns-clause-read : goal.returns-clause-read
returns-clause-read g c = c.commands_read_again.ensures _ _ _ _ _ _ _ (returns-clause-commands g c)

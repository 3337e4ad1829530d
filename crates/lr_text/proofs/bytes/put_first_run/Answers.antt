use Rattle.std.proofs.Common.{◌≡◌, ◌<◌, length, rules, tests, sym}
use Rattle.std.proofs.lemmas.Bool.{eqb-true}
use Rattle.lr_text.specs.Bytes.{maximal_runs}
use Rattle.lr_text.proofs.MaximalRuns.{last_run, run_and_space}
use Rattle.lr_text.proofs.bytes.put_first_run.Goals as goal

pub returns-then-is_empty-clause-text : goal.returns-then-is_empty-clause-text
returns-then-is_empty-clause-text c =
    let rest = c.first_run-n.result.1.now in
    let none : length rest ≡ 0 = eqb-true (length rest) 0 (sym c.if-is_empty.ensures) in
    last_run c.args.out.now.items c.put_run.new.out.items rest (maximal_runs c.args.bytes.now) _ c.first_run-n.ensures.runs c.in_ok-put_run.ensures.added none

pub returns-clause-text : goal.returns-clause-text
returns-clause-text c =
    let rest = c.first_run-n.result.1.now in
    let more : 0 < length rest = search (rules, tests) in
    run_and_space c.args.out.now.items c.put_run.new.out.items c.push.new.self.items rest (maximal_runs c.args.bytes.now) _ c.first_run-n.ensures.runs c.in_ok-put_run.ensures.added c.in_ok-push.ensures.items more

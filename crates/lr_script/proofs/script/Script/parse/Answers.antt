use Rattle.std.proofs.Common.{◌≡◌, ℕ, ◌+◌, ◌<◌, ap, length, rules, tests, arith, sym, ◌∙◌}
use Rattle.lr_script.proofs.Fronts.{at_start, reached_more, next_outside, end_outside, spells}
use Rattle.lr_script.proofs.script.Script.parse.Goals as goal

pub loop-line-init : goal.loop-line-init
loop-line-init c = at_start c.args.bytes.now c.new-reading.result c.new-reading.ensures

pub loop-line-preserved : goal.loop-line-preserved
loop-line-preserved c = reached_more c.args.bytes.now c.loop-line.rest.now c.loop-line.reading c.in-Some.line.now c.in-Some.behind.now c.step.new.reading c.loop-line.invariant c.in-Some.ensures.cut.0 (c.in_ok-step.ensures.read c.if-not-branch.false)

pub returns-then-not-branch-clause-outside : goal.returns-then-not-branch-clause-outside
returns-then-not-branch-clause-outside c =
    let n : c.lines-number.result + 1 ≡ c.loop-line.reading.lines + 1 = ap (λ (n : ℕ). n + 1) c.lines-number.ensures.same in
    next_outside c.args.bytes.now c.loop-line.rest.now c.loop-line.reading (c.lines-number.result + 1) c.in-Some.line.now c.in-Some.behind.now c.loop-line.invariant n c.in-Some.ensures.cut.0 c.in-Some.ensures.cut.1 (c.in_ok-step.ensures.only c.if-not-branch.true)

pub returns-then-not-is_empty-clause-outside : goal.returns-then-not-is_empty-clause-outside
returns-then-not-is_empty-clause-outside c =
    let n : c.lines-number-2.result + 1 ≡ c.loop-line.reading.lines + 1 = ap (λ (n : ℕ). n + 1) c.lines-number-2.ensures.same in
    end_outside c.args.bytes.now c.loop-line.rest.now c.loop-line.reading (c.lines-number-2.result + 1) c.loop-line.invariant n c.in_default.ensures.none (λ e. let some : 0 < length c.loop-line.rest.now = search (rules, tests) in absurd (omega (arith, ap length e)))

pub returns-then-not-has_begun-clause-outside : goal.returns-then-not-has_begun-clause-outside
returns-then-not-has_begun-clause-outside c =
    let n : c.lines-number-2.result + 1 ≡ c.loop-line.reading.lines + 1 = ap (λ (n : ℕ). n + 1) c.lines-number-2.ensures.same in
    end_outside c.args.bytes.now c.loop-line.rest.now c.loop-line.reading (c.lines-number-2.result + 1) c.loop-line.invariant n c.in_default.ensures.none (λ e. sym c.has_begun.ensures ∙ c.if-not-has_begun.true)

pub returns-clause-spelled : goal.returns-clause-spelled
returns-clause-spelled c = spells c.args.bytes.now c.loop-line.rest.now c.loop-line.reading c.into_script.result c.loop-line.invariant (search (rules, tests)) (sym c.has_begun.ensures ∙ c.if-not-has_begun.false) c.into_script.ensures

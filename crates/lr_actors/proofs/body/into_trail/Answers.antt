use Rattle.std.proofs.Common.{◌≡◌, ◌∙◌, length, vec_len, sym, arith}
use Rattle.lr_actors.proofs.Whole.{trail_full, trail_filled, is_unfinished, whole_has}
use Rattle.lr_actors.proofs.body.into_trail.Goals as goal

pub fill-requires : goal.fill-requires
fill-requires c =
    let b = c.args.body in
    let some : length b.book.trail.results.items ≡ vec_len b.setting.jobs → ⊥ = λ e. c.if-len.false (c.len.ensures ∙ (b.book.trail.results.ok.0 ∙ (e ∙ sym c.len-2.ensures))) in
    let has = whole_has b.setting b.book b.stage c.requires (is_unfinished b.setting b.book b.stage c.requires some) in
    record { has = has; more = omega (arith, has.few, some) }

pub returns : goal.returns
returns c =
    let b = c.args.body in
    let some : length b.book.trail.results.items ≡ vec_len b.setting.jobs → ⊥ = λ e. c.if-len.false (c.len.ensures ∙ (b.book.trail.results.ok.0 ∙ (e ∙ sym c.len-2.ensures))) in
    trail_filled b.setting b.book c.fill.new.book b.stage c.requires (is_unfinished b.setting b.book b.stage c.requires some) c.fill.ensures

pub returns-then-len : goal.returns-then-len
returns-then-len c =
    let b = c.args.body in
    trail_full b.setting b.book b.stage c.requires (sym b.book.trail.results.ok.0 ∙ (sym c.len.ensures ∙ (c.if-len.true ∙ c.len-2.ensures)))

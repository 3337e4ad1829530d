use Rattle.std.proofs.Common.{◌≡◌, rules, tests, map, IfOk}
use Rattle.std.specs.Vec.{vec_items}
use Rattle.std.proofs.lemmas.Iterator.Splits.{YieldsList-from_slice_split}
use Rattle.std.proofs.lemmas.Iterator.Consumers.{map_from_collect}
use Rattle.lr_text.specs.Words.{split_at_byte}
use Rattle.lr_text.proofs.lines.parts.Goals as goal

pub returns : goal.returns
returns c =
    let collected : IfOk c.collect.result (λ v. map (λ x. x.now) (vec_items v) ≡ split_at_byte c.args.at c.args.bytes.now) =
    map_from_collect _ c.collect.ensures.ran (YieldsList-from_slice_split _ _ c.args.bytes.now c.split.ensures.rest c.split.ensures.done c.split.ensures.closure (λ x r q k. search (rules, tests))) in
    rw c.in_ok-collect.was at collected

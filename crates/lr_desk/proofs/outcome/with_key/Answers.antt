use Rattle.std.proofs.Common.{◌≡◌, ◌+◌, ◌≤◌, ℕ, List, length, map, take, min, ap, ◌∙◌, arith, length-append}
use Rattle.std.proofs.lemmas.List.{length-map, length-take}
use Rattle.lr_desk.specs.Outcome.{shown, printed}
use Rattle.lr_desk.proofs.outcome.with_key.Goals as goal

shown_short : (key : List ℕ) → length (shown key) ≤ 128
shown_short key = let e : length (shown key) ≡ min 128 (length key) = length-map (take 128 key) printed ∙ length-take 128 key in omega (arith, e)

pub returns-clause-short : goal.returns-clause-short
returns-clause-short c =
    let line = ap length c.push_shown.ensures ∙ length-append c.of-line.result (shown c.args.key.now) in
    omega (arith, line, ap length c.of-line.ensures, shown_short c.args.key.now)

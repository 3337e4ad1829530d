use Rattle.std.proofs.Common.{◌≡◌, length, sym}
use Rattle.std.proofs.lemmas.Bool.{eqb-true}
use Rattle.lr_text.proofs.MaximalRuns.{no_text}
use Rattle.lr_text.proofs.bytes.put_runs.Goals as goal

pub returns-clause-text : goal.returns-clause-text
returns-clause-text c =
    let rest = c.loop-rest.rest.now in
    let none : length rest ≡ 0 = eqb-true (length rest) 0 (sym c.loop-rest-test.ensures) in
    no_text c.loop-rest.out.items rest _ none c.loop-rest.invariant.text

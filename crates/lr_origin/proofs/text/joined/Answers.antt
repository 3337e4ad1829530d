use Rattle.std.proofs.Common.{◌≡◌, ◌+◌, ◌++◌, ℕ, List, [], length, refl, ap, ◌∙◌, append_assoc, length-append, sym}
use Rattle.lr_text.specs.Name.{padded}
use Rattle.lr_origin.proofs.text.joined.Goals as goal

pub returns-clause-text : goal.returns-clause-text
returns-clause-text c =
    let head = c.args.head.now in
    let letters = c.args.letters.now in
    let tail = c.args.tail.now in
    let first = c.put_part.ensures [] refl refl in
    let second = c.put_part-2.ensures head refl first in
    let third = c.put_part-3.ensures (head ++ letters) (length-append head letters) second in
    third ∙ ap (padded 79) (append_assoc head letters tail)

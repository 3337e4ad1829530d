use Rattle.std.proofs.Common.{Bool, List, ℕ, Option, sym, subst}
use Rattle.lr_origin.specs.Objects.{found}
use Rattle.lr_opening.specs.Reading.{WhenRead, ReadsOn}
use Rattle.lr_opening.proofs.Readings.{reads_well, reads_malformed}
use Rattle.lr_opening.proofs.reading.read_next.Goals as goal

pub returns-then-branch-clause-read : goal.returns-then-branch-clause-read
returns-then-branch-clause-read g c = λ m told.
    let v = c.args.catalog.now.view in
    let w = c.read_key.new.catalog.view in
    reads_well m c.args.text.now v w (found c.args.malformed.now) (λ there. subst (λ (b : Bool). WhenRead m c.args.text.now v w b) c.if-branch.true (c.in_ok-read_key.ensures.read m told there))

pub returns-clause-read : goal.returns-clause-read
returns-clause-read g c = λ m told.
    let v = c.args.catalog.now.view in
    let w = c.read_key.new.catalog.view in
    let f = found c.args.malformed.now in
    subst (λ (h : Option (List ℕ)). ReadsOn m c.args.text.now v f w h) (sym c.in_ok-remember.ensures)
    (reads_malformed m c.args.text.now v w f (λ there. subst (λ (b : Bool). WhenRead m c.args.text.now v w b) c.if-branch.false (c.in_ok-read_key.ensures.read m told there)))

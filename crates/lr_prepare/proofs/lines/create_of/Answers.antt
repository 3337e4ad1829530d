use Rattle.std.proofs.Common.{ap, Some}
use Rattle.lr_io.specs.Memory.{SourceInMemory}
use Rattle.lr_prepare.proofs.Creating.{created_line}
use Rattle.lr_prepare.proofs.lines.create_of.Goals as goal

pub returns-in-Root-clause-done : goal.returns-in-Root-clause-done
returns-in-Root-clause-done g c =
    created_line c.args.depot.now c.create.new.depot c.args.image c.args.tenant g.O.Origin.faults c.args.raw.items (Some c.new-source.result.left) (Some c.create.new.source.left) c.in-Root.field-0
    (ap (λ (s : SourceInMemory). Some s.left) c.new-source.ensures) c.in-Root.ensures.created

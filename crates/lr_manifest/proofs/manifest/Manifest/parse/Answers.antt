use Rattle.lr_manifest.proofs.Unique.{unique}
use Rattle.lr_manifest.proofs.manifest.Manifest.parse.Goals as goal

pub returns-clause-only : goal.returns-clause-only
returns-clause-only c = λ m h. unique c.args.bytes.now c.in_ok-fields_of.field-0 m c.in_ok-fields_of.ensures h

use Rattle.std.proofs.Common.{rules, subst, sym}
use Rattle.lr_migrator.specs.Seen.{Prepares}
use Rattle.lr_migrator.proofs.Migrations.{copying_first}
use Rattle.lr_migrator.proofs.stage.from_first.Goals as goal

pub returns-else-left-eq0 : goal.returns-else-left-eq0
returns-else-left-eq0 c =
    subst (λ n. Prepares n c.to_copy.result) (sym (copying_first c.args.session 0 c.args.left (search rules))) c.to_copy.ensures

use Rattle.std.proofs.Common.{sym, ap, ◌∙◌}
use Rattle.std.specs.FinMap as map
use Rattle.std.specs.Option.{option_copied}
use Rattle.lr_origin.specs.declared.key.KeyKind.TheVariants.{Root}
use Rattle.lr_depot.proofs.Ready.{has_salt}
use Rattle.lr_depot.proofs.kernel.salt_of.Goals as goal

pub unreachable-requires : goal.unreachable-requires
unreachable-requires c =
    has_salt c.args.root (map.get c.args.catalog.now.view (Root c.args.root)) c.requires.there (c.requires.fits (Root c.args.root)) (sym c.salt.ensures ∙ ap option_copied c.in-None.is)

use Rattle.lr_origin.specs.declared.key.KeyKind.TheVariants.{Root}
use Rattle.lr_depot.proofs.asking.home_key.Goals as goal

pub of-requires : goal.of-requires
of-requires c = record { root = c.requires.sound.keys (Root c.in-Some.home) c.in-Some.ensures.live.0 }

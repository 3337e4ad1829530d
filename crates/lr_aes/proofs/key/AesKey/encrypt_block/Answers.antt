use Rattle.std.proofs.Common.{◌≡◌, sym, ◌∙◌}
use Rattle.lr_aes.proofs.KeyFacts.{cipher_is}
use Rattle.lr_aes.proofs.key.AesKey.encrypt_block.Goals as goal

pub returns : goal.returns
returns c = c.encrypt_in_place.ensures ∙ cipher_is c.self.inside.words c.self.inside.keys c.args.self.now c.args.block.now (sym c.self.view_is) c.self.invariant

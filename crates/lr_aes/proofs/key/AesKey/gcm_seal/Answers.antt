use Rattle.std.proofs.Common.{◌≡◌, ℕ, List, ap, ◌∙◌}
use Rattle.lr_aes.specs.Key.{encrypted}
use Rattle.lr_aes.specs.Gcm.{gcm_text}
use Rattle.lr_aes.proofs.Twice.{gcm_twice}
use Rattle.lr_aes.proofs.key.AesKey.gcm_seal.Goals as goal

pub returns-clause-restores : goal.returns-clause-restores
returns-clause-restores c =
    ap (gcm_text (encrypted c.args.self.now) c.args.nonce.now) c.turn_text.ensures ∙ gcm_twice (encrypted c.args.self.now) c.args.nonce.now c.args.buffer.now

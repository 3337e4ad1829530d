use Rattle.std.proofs.Common.{◌≡◌, ℕ, List, ◌∙◌, ap}
use Rattle.lr_aes.specs.Key.{encrypted}
use Rattle.lr_aes.specs.Counter.{counter_mode}
use Rattle.lr_aes.proofs.Count.{gcm_is_count}
use Rattle.lr_aes.proofs.gcm.turn_text.Goals as goal

pub returns : goal.returns
returns c =
    c.ctr_xor.ensures.text ∙ ap (λ (first : List ℕ). counter_mode (encrypted c.args.key.now) first c.args.buffer.now) c.counter_block.ensures
    ∙ gcm_is_count (encrypted c.args.key.now) c.args.nonce.now c.args.buffer.now c.told-nonce c.fits-nonce c.requires

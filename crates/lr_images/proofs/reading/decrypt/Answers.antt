use Rattle.std.proofs.Common.{ℕ, List, replicate, ap, ◌∙◌}
use Rattle.lr_aes.specs.Key.{encrypted}
use Rattle.lr_aes.specs.Counter.{counter_mode}
use Rattle.lr_convergent.specs.Sealed.{chunk_text}
use Rattle.lr_images.proofs.reading.decrypt.Goals as goal

pub returns : goal.returns
unfolding chunk_text
returns c = c.ctr_xor.ensures.text ∙ ap (λ (key : List ℕ). counter_mode (encrypted key) (replicate 16 0) c.args.text.now) c.new256.ensures

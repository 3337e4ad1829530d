use Rattle.std.proofs.Common.{◌≡◌, ◌+◌, ◌-◌, sym, ap, ◌∙◌}
use Rattle.lr_aes.specs.Cipher.{cipher}
use Rattle.lr_aes.specs.Key.{encrypted}
use Rattle.lr_aes.specs.Counter.{counter_mode}
use Rattle.lr_aes.proofs.KeyFacts.{cipher_is, counter_is}
use Rattle.lr_aes.proofs.Twice.{counter_twice}
use Rattle.lr_aes.proofs.key.AesKey.ctr_xor.Goals as goal

pub returns-clause-text : goal.returns-clause-text
returns-clause-text c =
    counter_is (cipher (c.self.inside.words + 6 - 1) c.self.inside.keys) (encrypted c.args.self.now) c.args.first.now c.args.buffer.now c.ctr_in_place.new.buffer
    (λ s. cipher_is c.self.inside.words c.self.inside.keys c.args.self.now s (sym c.self.view_is) c.self.invariant) c.ctr_in_place.ensures

pub returns-clause-twice : goal.returns-clause-twice
returns-clause-twice c =
    ap (counter_mode (encrypted c.args.self.now) c.args.first.now) (returns-clause-text c) ∙ counter_twice (encrypted c.args.self.now) c.args.first.now c.args.buffer.now

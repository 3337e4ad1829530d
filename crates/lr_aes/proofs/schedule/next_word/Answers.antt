use Rattle.std.proofs.Common.{◌≡◌, ℕ, ◌+◌, ◌-◌, ◌*◌, List, slice_index, sym, ap, ◌∙◌, arith}
use Rattle.lr_aes.specs.Cipher.{next_word, add_words, word_of, scheduled}
use Rattle.lr_aes.proofs.KeyWords.{four_of}
use Rattle.lr_aes.proofs.schedule.next_word.Goals as goal

pub returns : goal.returns
unfolding next_word
returns c =
    ap (add_words (word_of c.args.w.now (c.args.i - c.args.words))) (four_of c.scheduled.result (omega arith) ∙ c.scheduled.ensures)

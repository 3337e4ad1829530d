use Rattle.std.proofs.Common.{◌≡◌, ℕ, ◌<◌, ◌+◌, ◌*◌, ◌/◌, slice_index}
use Rattle.lr_gen.specs.Bytes.{started_at, after_words, seed_byte}
use Rattle.lr_gen.proofs.fill_words.Given as goal

abbrev pub invariant-words : goal.invariant-words
invariant-words l = (l.words ≡ after_words (l.offset / 4 + l.i) (started_at l.seed 2))
    × ((k : ℕ) → k < 4 * l.i → slice_index l.buffer k ≡ seed_byte l.seed (l.offset + k))

use Rattle.std.proofs.Common.{◌≡◌, ◌+◌, ◌*◌, ◌/◌, ◌≤◌, ◌<◌, ℕ, length, slice_index, ap, ◌∙◌, arith, refl}
use Rattle.std.specs.Int.{w32, to_le_bytes}
use Rattle.rand_pcg.specs.Lcg.{Lcg, next}
use Rattle.rand_pcg.specs.Pcg.{multiplier_64, pcg32}
use Rattle.lr_gen.specs.Bytes.{started_at, word_at, seed_byte, after_words}
use Rattle.lr_gen.proofs.Steps.{step_after, byte_in_word, four_more}
use Rattle.lr_gen.proofs.fill_words.Goals as goal

pub words-preserved : goal.words-preserved
words-preserved c =
    let g : Lcg = started_at c.args.seed 2 in
    let o : ℕ = c.args.offset in
    let i : ℕ = c.words.i in
    let at = c.words.invariant.0 in
    let drawn = c.next_word.ensures in
    let word : c.next_word.result ≡ word_at g (o / 4 + i) = ap (λ p. p.0) drawn ∙ ap (λ h. (pcg32 h).0) at in
    let after : c.next_word.new.self ≡ after_words (o / 4 + i + 1) g = ap (λ p. p.1) drawn ∙ ap (next 64 multiplier_64) at ∙ step_after (o / 4 + i) g in
    let piece : c.to_le_bytes-piece.result ≡ to_le_bytes w32 (word_at g (o / 4 + i)) = c.to_le_bytes-piece.ensures ∙ ap (to_le_bytes w32) word in
    let byte : (j k : ℕ) → j < 4 → k ≡ 4 * i + j → slice_index c.to_le_bytes-piece.result j ≡ seed_byte c.args.seed (o + k) =
    λ j k h e. ap (λ p. slice_index p j) piece ∙ byte_in_word g o i j k c.requires h e in
    let room : 4 * i + 4 ≤ length c.words.buffer = omega arith in (
      after ∙ ap (λ n. after_words n g) (omega arith),
      four_more (λ k. seed_byte c.args.seed (o + k)) c.words.buffer i _ _ _ _ room c.words.invariant.1
          (byte 0 (4 * i) (omega arith) (omega arith)) (byte 1 (4 * i + 1) (omega arith) refl) (byte 2 (4 * i + 2) (omega arith) refl) (byte 3 (4 * i + 3) (omega arith) refl),
    )

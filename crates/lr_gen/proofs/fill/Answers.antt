use Rattle.std.proofs.Common.{◌≡◌, ◌+◌, ◌/◌, ℕ, length, ap, sym, ◌∙◌, arith}
use Rattle.rand_pcg.specs.Pcg.{pcg32}
use Rattle.lr_gen.specs.Bytes.{started_at, word_at}
use Rattle.lr_gen.proofs.Steps.{filled}
use Rattle.lr_gen.proofs.fill.Goals as goal

pub returns : goal.returns
returns c =
    let n : ℕ = length c.fill_words-words.new.buffer in
    let same : n ≡ length c.args.buffer.now = c.fill_words-words.auto.buffer in
    let last : length c.fill_rest.new.buffer ≡ n = c.fill_rest.auto.buffer in
    let word : c.next_word.result ≡ word_at (started_at c.args.seed 2) (c.args.offset / 4 + length c.args.buffer.now / 4) = ap (λ p. p.0) c.next_word.ensures ∙ ap (λ h. (pcg32 h).0) c.fill_words-words.ensures.after in
    let here : c.next_word.result ≡ word_at (started_at c.args.seed 2) (c.args.offset / 4 + n / 4) = word ∙ ap (λ (m : ℕ). word_at (started_at c.args.seed 2) (c.args.offset / 4 + m / 4)) (sym same) in
    λ k lt. filled c.fill_words-words.new.buffer c.fill_rest.new.buffer c.args.seed c.args.offset n c.next_word.result c.requires
    (λ j below. c.fill_words-words.ensures.words j (omega arith)) c.fill_rest.ensures.kept c.fill_rest.ensures.rest here k (omega arith)

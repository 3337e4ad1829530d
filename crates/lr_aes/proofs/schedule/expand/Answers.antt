use Rattle.std.proofs.Common.{◌≡◌, ℕ, ◌+◌, ◌-◌, ◌*◌, ◌/◌, ◌<◌, ◌≤◌, List, [], ◌∷◌, ◌++◌, length, take, replicate, length-append, length-set, slice_index, sym, ap, ◌∙◌, arith}
use Rattle.std.proofs.lemmas.List.{length-replicate}
use Rattle.std.proofs.Math.Seq.{take-append_seam}
use Rattle.lr_aes.specs.Cipher.{next_word, schedule}
use Rattle.lr_aes.specs.Key.{expanded}
use Rattle.lr_aes.proofs.KeyWords.{four_written, four_of, word_more, few}
use Rattle.lr_aes.proofs.schedule.expand.Goals as goal

pub next_word-requires-clause-few : goal.next_word-requires-clause-few
next_word-requires-clause-few c = few c.args.words c.loop-i.i (omega arith) (omega arith) (omega arith)

pub loop-i-init : goal.loop-i-init
unfolding schedule
loop-i-init c =
    let key : List ℕ = c.args.key.now in
    let zeros : List ℕ = replicate (240 - length key) 0 in
    let n : c.args.words - c.args.words ≡ 0 = omega arith in (
      ap (take (4 * c.args.words)) c.with_zeros-w.ensures ∙ ap (λ (m : ℕ). take m (key ++ zeros)) (sym c.requires.key) ∙ take-append_seam key zeros
          ∙ sym (ap (schedule c.args.words key) n),
      ap (λ (l : List ℕ). length l) c.with_zeros-w.ensures ∙ length-append key zeros ∙ omega (arith, length-replicate {A = ℕ} (240 - length key) 0, c.requires.key),
    )

pub loop-i-preserved : goal.loop-i-preserved
loop-i-preserved c =
    let r = c.next_word.result in
    let i = c.loop-i.i in
    let w = c.loop-i.w in
    let m : 4 * (i + 1) ≡ 4 * i + 4 = omega arith in (
      rw m (four_written w (4 * i) (slice_index r 0) (slice_index r 1) (slice_index r 2) (slice_index r 3) (omega (arith, c.loop-i.invariant.1))
          ∙ ap (λ (l : List ℕ). take (4 * i) w ++ l) (four_of r (omega arith) ∙ c.next_word.ensures)
          ∙ word_more c.args.words c.args.key.now w i (omega arith) (omega arith) c.loop-i.invariant.0),
      simp length-set c.loop-i.invariant.1,
    )

is_expanded : (key : List ℕ) (words : ℕ) → length key ≡ 4 * words → schedule words key (3 * words + 28) ≡ expanded key
unfolding expanded
is_expanded key words len = let e : words ≡ length key / 4 = omega arith in ap (λ (n : ℕ). schedule n key (3 * n + 28)) e

pub returns : goal.returns
returns c =
    let words = c.args.words in
    let all : 16 * (words + 7) ≡ 4 * c.loop-i.i = omega arith in
    let n : c.loop-i.i - words ≡ 3 * words + 28 = omega arith in
    record {
      words = ap (λ (m : ℕ). take m c.loop-i.w) all ∙ c.loop-i.invariant.0 ∙ ap (schedule words c.args.key.now) n
          ∙ is_expanded c.args.key.now words c.requires.key;
      long = c.loop-i.invariant.1;
    }

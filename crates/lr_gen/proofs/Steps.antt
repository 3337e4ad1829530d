-- Words of a generator after a jump.
use Rattle.std.proofs.Common.{◌≡◌, ℕ, zero, suc, ◌+◌, ◌*◌, ◌-◌, ◌⊎◌, inl, inr, ◌/◌, ◌%◌, ◌<◌, ◌≤◌, List, length, slice_index, slice_set, refl, sym, ap, ◌∙◌, arith, add-one}
use Rattle.std.proofs.lemmas.List.{length-set}
use Rattle.std.proofs.lemmas.List.Edits.{fill_by_more}
use Rattle.std.specs.Int.{w32, to_le_bytes}
use Rattle.rand_pcg.specs.Lcg.{Lcg, next}
use Rattle.rand_pcg.specs.Pcg.{multiplier_64}
use Rattle.rand_pcg.proofs.LcgLemmas.{advance_zero, advance_more}
use Rattle.std.proofs.lemmas.Bool.{cases_lt}
use Rattle.lr_gen.specs.Bytes.{started_at, after_words, word_at, byte_at, seed_byte}

-- one step
pub one_step : (g : Lcg) → next 64 multiplier_64 g ≡ after_words 1 g
one_step g = sym (advance_zero 64 multiplier_64 (next 64 multiplier_64 g)) ∙ advance_more 64 multiplier_64 0 g

-- a step after n words
pub step_after : (n : ℕ) (g : Lcg) → next 64 multiplier_64 (after_words n g) ≡ after_words (n + 1) g
step_after zero g = ap (next 64 multiplier_64) (advance_zero 64 multiplier_64 g) ∙ one_step g
step_after (suc n) g =
    let more : (k : ℕ) → after_words k (next 64 multiplier_64 g) ≡ after_words (suc k) g = λ k. rw add-one at (advance_more 64 multiplier_64 k g) in
    ap (next 64 multiplier_64) (sym (more n)) ∙ step_after n (next 64 multiplier_64 g) ∙ more (n + 1) ∙ ap (λ k. after_words k g) (omega arith)

-- byte j of word i after an offset in whole words
pub byte_in_word : (g : Lcg) (o i j k : ℕ) → o % 4 ≡ 0 → j < 4 → k ≡ 4 * i + j
    → slice_index (to_le_bytes w32 (word_at g (o / 4 + i))) j ≡ byte_at g (o + k)
unfolding byte_at
byte_in_word g o i j k a b e =
    let q : (o + k) / 4 ≡ o / 4 + i = omega arith in
    let r : (o + k) % 4 ≡ j = omega arith in
    rw (q, r) refl

-- one more place
pub set_more : (f : ℕ → ℕ) (xs : List ℕ) (i v : ℕ) → i < length xs → ((k : ℕ) → k < i → slice_index xs k ≡ f k) → v ≡ f i
    → (k : ℕ) → k < i + 1 → slice_index (slice_set xs i v) k ≡ f k
set_more f xs i v h before e = rw e (fill_by_more f xs i 0 h before)

-- four more places
pub four_more : (f : ℕ → ℕ) (xs : List ℕ) (i a b c d : ℕ) → 4 * i + 4 ≤ length xs → ((k : ℕ) → k < 4 * i → slice_index xs k ≡ f k)
    → a ≡ f (4 * i) → b ≡ f (4 * i + 1) → c ≡ f (4 * i + 2) → d ≡ f (4 * i + 3)
    → (k : ℕ) → k < 4 * (i + 1) → slice_index (slice_set (slice_set (slice_set (slice_set xs (4 * i) a) (4 * i + 1) b) (4 * i + 2) c) (4 * i + 3) d) k ≡ f k
four_more f xs i a b c d room before ea eb ec ed k h =
    let xs1 : List ℕ = slice_set xs (4 * i) a in
    let xs2 : List ℕ = slice_set xs1 (4 * i + 1) b in
    let xs3 : List ℕ = slice_set xs2 (4 * i + 2) c in
    let l1 : length xs1 ≡ length xs = length-set xs (4 * i) a in
    let l2 : length xs2 ≡ length xs1 = length-set xs1 (4 * i + 1) b in
    let l3 : length xs3 ≡ length xs2 = length-set xs2 (4 * i + 2) c in
    let s1 = set_more f xs (4 * i) a (omega (arith, room)) before ea in
    let s2 = set_more f xs1 (4 * i + 1) b (omega (arith, room, l1)) s1 eb in
    let s3 = set_more f xs2 (4 * i + 2) c (omega (arith, room, l1, l2)) (λ j g. s2 j (omega (arith, g))) ec in
    let s4 = set_more f xs3 (4 * i + 3) d (omega (arith, room, l1, l2, l3)) (λ j g. s3 j (omega (arith, g))) ed in
    s4 k (omega (arith, h))

-- whole words, and the front of one more behind them
pub filled : (mid new : List ℕ) (seed o n word : ℕ) → o % 4 ≡ 0 → ((k : ℕ) → k < 4 * (n / 4) → slice_index mid k ≡ seed_byte seed (o + k))
    → ((k : ℕ) → k < n / 4 * 4 → slice_index new k ≡ slice_index mid k)
    → ((k : ℕ) → n / 4 * 4 ≤ k → k < n → slice_index new k ≡ slice_index (to_le_bytes w32 word) (k - n / 4 * 4))
    → word ≡ word_at (started_at seed 2) (o / 4 + n / 4) → (k : ℕ) → k < n → slice_index new k ≡ seed_byte seed (o + k)
filled mid new seed o n word whole words kept rest is k lt = by_place (cases_lt k (n / 4 * 4)) where
  by_place : (k < n / 4 * 4) ⊎ (n / 4 * 4 ≤ k) → slice_index new k ≡ seed_byte seed (o + k)
  by_place (inl below) = kept k below ∙ words k (omega arith)
  by_place (inr above) = rest k above lt ∙ ap (λ (w : ℕ). slice_index (to_le_bytes w32 w) (k - n / 4 * 4)) is ∙ byte_in_word (started_at seed 2) o (n / 4) (k - n / 4 * 4) k whole (omega arith) (omega arith)

-- A block more in counter mode.
use Rattle.std.proofs.Common.{◌≡◌, ℕ, ◌+◌, ◌-◌, ◌*◌, ◌/◌, ◌%◌, ◌^◌, ◌<◌, ◌≤◌, List, length, slice_index, bit_xor, sym, ap, subst, ◌∙◌, arith, inl, inr}
use Rattle.std.proofs.lemmas.Bool.{cases_lt}
use Rattle.std.proofs.lemmas.Simd.{length-zip2, get_or-zip2, length-chunk, get_or-chunk, length-put_chunk, get_or-put_chunk_below, get_or-put_chunk_at, get_or-put_chunk_above}
use Rattle.std.specs.Simd.Lanes.{zip2, chunk, put_chunk}
use Rattle.lr_aes.specs.Counter.{counter_at, stream_byte}
use Rattle.lr_aes.specs.Lanes.{IsAdded}

pub wraps : (f q c : ℕ) → c ≡ (f + q) % 2 ^ 128 → (c + 1) % 2 ^ 128 ≡ (f + (q + 1)) % 2 ^ 128
wraps f q c h = omega arith

-- a vector that is stored
pub stored : (at : ℕ) (out block : List ℕ) → at + 16 ≤ length out → length block ≡ 16 → IsAdded at block out (put_chunk at out (zip2 bit_xor (chunk at 16 out) block))
stored at out block le len =
    let old : List ℕ = chunk at 16 out in
    let old_len : length old ≡ 16 = length-chunk at 16 out le in
    let sum : List ℕ = zip2 bit_xor old block in
    let sum_len : length sum ≡ 16 = length-zip2 bit_xor old block (old_len ∙ sym len) ∙ old_len in
    record {
      len = length-put_chunk at out sum;
      added = λ k lk lt.
          get_or-put_chunk_at at out sum k 0 (omega arith) (omega arith)
          ∙ get_or-zip2 bit_xor old block k 0 0 0 (omega arith) (omega arith)
          ∙ ap (λ (x : ℕ). bit_xor x (slice_index block k)) (get_or-chunk at 16 out k 0 lk);
      others = λ k h. elim h [
        | inl lt ↦ get_or-put_chunk_below at out sum k 0 lt
        | inr le ↦ get_or-put_chunk_above at out sum k 0 (omega arith)
      ];
    }

-- the first n bytes are in counter mode, and the others are the text's
pub record Begun (e : List ℕ → List ℕ) (first text : List ℕ) (n : ℕ) (out : List ℕ) : Type 0 where
  pub len : length out ≡ length text
  pub done : (k : ℕ) → k < n → k < length text → slice_index out k ≡ bit_xor (slice_index text k) (stream_byte e first k)
  pub left : (k : ℕ) → n ≤ k → slice_index out k ≡ slice_index text k

module _ (e : List ℕ → List ℕ) (first text out new block : List ℕ) (at j : ℕ) (place : at ≡ 16 * j) (begun : Begun e first text at out)
    (is : block ≡ e (counter_at first j)) (added : IsAdded at block out new) where
  at_block : (m : ℕ) → m < 16 → at + m < length text → slice_index new (at + m) ≡ bit_xor (slice_index text (at + m)) (stream_byte e first (at + m))
  at_block m lm lt =
      let len : length out ≡ length text = begun.len in
      let q : j ≡ (at + m) / 16 = omega arith in
      let r : m ≡ (at + m) % 16 = omega arith in
      added.added m lm (omega arith)
      ∙ ap (λ (x : ℕ). bit_xor x (slice_index block m)) (begun.left (at + m) (omega arith))
      ∙ ap (bit_xor (slice_index text (at + m))) (ap (λ (b : List ℕ). slice_index b m) is ∙ (λ i. slice_index (e (counter_at first (q i))) (r i)))

  pub block_more : Begun e first text (at + 16) new
  block_more = record {
    len = added.len ∙ begun.len;
    done = λ k lk lt. elim (cases_lt k at) [
      | inl below ↦ added.others k (inl below) ∙ begun.done k below lt
      | inr le ↦
          let here : at + (k - at) ≡ k = omega arith in
          subst (λ (x : ℕ). slice_index new x ≡ bit_xor (slice_index text x) (stream_byte e first x)) here (at_block (k - at) (omega arith) (omega arith))
    ];
    left = λ k le. added.others k (inr le) ∙ begun.left k (omega arith);
  }

-- GCM of SP 800-38D for nonces of 12 bytes and tags of 16, over a cipher e of blocks.
use Rattle.std.specs.Prelude.{ℕ, zero, suc, ◌+◌, ◌*◌, ◌/◌, ◌%◌, ◌^◌, List, [], ◌∷◌, ◌++◌, length, map, take, drop, replicate, slice_index, bit_xor}
use Rattle.std.specs.Int.{w32, w128, from_be_bytes, to_be_bytes}
use Rattle.std.specs.List.{range_with_len}
use Rattle.lr_aes.specs.Counter.{with_stream}
use Rattle.lr_aes.specs.Ghash.{ghash}

-- ---- what is hashed (section 7.1, steps 4 and 5)

-- block i of the bytes, which are filled with zeros to whole blocks
abbrev pub block_at : List ℕ → ℕ → ℕ
block_at bytes i = from_be_bytes w128 (take 16 (drop (16 * i) bytes ++ replicate 16 0))

-- the blocks of the bytes
abbrev pub blocks : List ℕ → List ℕ
blocks bytes = map (block_at bytes) (range_with_len 0 ((length bytes + 15) / 16))

-- the two lengths in bits, 64 bits each
abbrev pub lengths_block : ℕ → ℕ → ℕ
lengths_block aad text = 8 * aad * 2 ^ 64 + 8 * text

-- the blocks of the additional data, those of the cipher text, and the block of the lengths
abbrev pub hash_input : List ℕ → List ℕ → List ℕ
hash_input aad text = blocks aad ++ (blocks text ++ lengths_block (length aad) (length text) ∷ [])

-- ---- the counter (sections 6.2 and 6.5)

-- inc32: the last 32 bits plus 1, modulo 2^32 (section 6.2)
unfoldable pub inc32 : List ℕ → List ℕ
inc32 block = take 12 block ++ to_be_bytes w32 ((from_be_bytes w32 (drop 12 block) + 1) % 2 ^ 32)

-- the same n times
unfoldable pub inc32_by : ℕ → List ℕ → List ℕ
inc32_by zero block = block
inc32_by (suc n) block = inc32 (inc32_by n block)

-- GCTR: the text plus the cipher of the counter blocks from the first one on (section 6.5)
abbrev pub gctr : (List ℕ → List ℕ) → List ℕ → List ℕ → List ℕ
gctr e first text = with_stream (λ t. slice_index (e (inc32_by (t / 16) first)) (t % 16)) 0 text

-- ---- sealing (section 7.1)

-- J0: the nonce, 31 zero bits and a one bit (step 2)
abbrev pub first_counter : List ℕ → List ℕ
first_counter nonce = nonce ++ (0 ∷ 0 ∷ 0 ∷ 1 ∷ [])

-- the cipher text of a plain text, and the plain text of a cipher text (step 3; section 7.2)
abbrev pub gcm_text : (List ℕ → List ℕ) → List ℕ → List ℕ → List ℕ
gcm_text e nonce text = gctr e (inc32 (first_counter nonce)) text

-- the tag of a cipher text and its additional data (step 6): the cipher of J0 plus GHASH under the cipher of zeros
abbrev pub gcm_tag : (List ℕ → List ℕ) → List ℕ → List ℕ → List ℕ → List ℕ
gcm_tag e nonce aad text = to_be_bytes w128 (bit_xor (from_be_bytes w128 (e (first_counter nonce)))
    (ghash (from_be_bytes w128 (e (replicate 16 0))) (hash_input aad text)))

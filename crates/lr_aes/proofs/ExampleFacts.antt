-- The examples, computed. The tag goes in steps: a definition that reads a block byte by byte computes it again for each byte.
use Rattle.std.proofs.Common.{◌≡◌, ℕ, List, [], replicate, bit_xor, refl, ap, ◌∙◌}
use Rattle.std.specs.Int.{w128, from_be_bytes, to_be_bytes}
use Rattle.std.specs.List.{range_with_len}
use Rattle.lr_field.specs.Field.{product, polynomial_product, remainder, inverse, inverse_below}
use Rattle.lr_aes.specs.Cipher.{sub_byte, round, last_round, rounds, round_constant, next_word, schedule}
use Rattle.lr_aes.specs.Key.{encrypted, expanded}
use Rattle.lr_aes.specs.Ghash.{times_x, shifted, partial_product, block_product, power, ghash}
use Rattle.lr_aes.specs.Gcm.{gcm_tag, hash_input, first_counter}
use Rattle.lr_aes.specs.Counter.{counter_at}
use Rattle.lr_aes.specs.Examples.{block_of, counter_key, MeetsExamples}

field : product 0x57 0x83 ≡ 0xc1
unfolding product polynomial_product remainder
field = refl

replaced : sub_byte 0x53 ≡ 0xed
unfolding product polynomial_product remainder inverse inverse_below sub_byte
replaced = refl

aes_128 : encrypted (range_with_len 0 16) (block_of 0x00112233445566778899aabbccddeeff) ≡ block_of 0x69c4e0d86a7b0430d8cdb78070b4c55a
unfolding product polynomial_product remainder inverse inverse_below sub_byte round last_round rounds round_constant next_word schedule encrypted expanded
aes_128 = refl

aes_256 : encrypted (range_with_len 0 32) (block_of 0x00112233445566778899aabbccddeeff) ≡ block_of 0x8ea2b7ca516745bfeafc49904b496089
unfolding product polynomial_product remainder inverse inverse_below sub_byte round last_round rounds round_constant next_word schedule encrypted expanded
aes_256 = refl

counter : encrypted counter_key (block_of 0xf0f1f2f3f4f5f6f7f8f9fafbfcfdfeff)
    ≡ block_of (bit_xor 0x6bc1bee22e409f96e93d7e117393172a 0x601ec313775789a5b7a7f504bbf3d228)
unfolding product polynomial_product remainder inverse inverse_below sub_byte round last_round rounds round_constant next_word schedule encrypted expanded
counter = refl

wrap : counter_at (replicate 16 255) 1 ≡ replicate 16 0
wrap = refl

-- ---- the tag

abbrev sealed : List ℕ
sealed = block_of 0xcea7403d4d606b6e074ec5d3baf39d18

hash_key : encrypted (replicate 32 0) (replicate 16 0) ≡ to_be_bytes w128 0xdc95c078a2408989ad48a21492842087
unfolding product polynomial_product remainder inverse inverse_below sub_byte round last_round rounds round_constant next_word schedule encrypted expanded
hash_key = refl

mask : encrypted (replicate 32 0) (first_counter (replicate 12 0)) ≡ to_be_bytes w128 0x530f8afbc74536b9a963b4f1c4cb738b
unfolding product polynomial_product remainder inverse inverse_below sub_byte round last_round rounds round_constant next_word schedule encrypted expanded
mask = refl

hashed : ghash 0xdc95c078a2408989ad48a21492842087 (hash_input [] sealed) ≡ bit_xor 0x530f8afbc74536b9a963b4f1c4cb738b 0xd0d1c8a799996bf0265b98b5d48ab919
unfolding times_x shifted partial_product block_product power ghash
hashed = refl

tag_from : (h j : ℕ) → h ≡ 0xdc95c078a2408989ad48a21492842087 → j ≡ 0x530f8afbc74536b9a963b4f1c4cb738b → bit_xor j (ghash h (hash_input [] sealed)) ≡ 0xd0d1c8a799996bf0265b98b5d48ab919
tag_from h j eh ej = (λ i. bit_xor (ej i) (ghash (eh i) (hash_input [] sealed))) ∙ ap (bit_xor 0x530f8afbc74536b9a963b4f1c4cb738b) hashed

tag : gcm_tag (encrypted (replicate 32 0)) (replicate 12 0) [] sealed ≡ to_be_bytes w128 0xd0d1c8a799996bf0265b98b5d48ab919
tag = ap (to_be_bytes w128) (tag_from (from_be_bytes w128 (encrypted (replicate 32 0) (replicate 16 0))) (from_be_bytes w128 (encrypted (replicate 32 0) (first_counter (replicate 12 0))))
    (ap (from_be_bytes w128) hash_key) (ap (from_be_bytes w128) mask))

pub meets : MeetsExamples
meets = record { field = field; replaced = replaced; aes_128 = aes_128; aes_256 = aes_256; counter = counter; wrap = wrap; tag = tag }

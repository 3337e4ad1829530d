-- Examples: what FIPS 197, SP 800-38A and the submission of GCM print, and one that no standard prints.
use Rattle.std.specs.Prelude.{◌≡◌, ℕ, List, [], ◌++◌, replicate, bit_xor}
use Rattle.std.specs.Int.{w128, to_be_bytes}
use Rattle.std.specs.List.{range_with_len}
use Rattle.lr_field.specs.Field.{product}
use Rattle.lr_aes.specs.Cipher.{sub_byte}
use Rattle.lr_aes.specs.Key.{encrypted}
use Rattle.lr_aes.specs.Counter.{counter_at}
use Rattle.lr_aes.specs.Gcm.{gcm_tag}

-- 16 bytes
abbrev pub block_of : ℕ → List ℕ
block_of n = to_be_bytes w128 n

-- the key of SP 800-38A, appendix F.5.5
abbrev pub counter_key : List ℕ
counter_key = block_of 0x603deb1015ca71be2b73aef0857d7781 ++ block_of 0x1f352c073b6108d72d9810a30914dff4

-- The definitions give these examples.
pub record MeetsExamples : Type 0 where
  -- FIPS 197, sections 4.2 and 5.1.1
  pub field : product 0x57 0x83 ≡ 0xc1
  pub replaced : sub_byte 0x53 ≡ 0xed
  -- FIPS 197, appendices C.1 and C.3
  pub aes_128 : encrypted (range_with_len 0 16) (block_of 0x00112233445566778899aabbccddeeff) ≡ block_of 0x69c4e0d86a7b0430d8cdb78070b4c55a
  pub aes_256 : encrypted (range_with_len 0 32) (block_of 0x00112233445566778899aabbccddeeff) ≡ block_of 0x8ea2b7ca516745bfeafc49904b496089
  -- SP 800-38A, appendix F.5.5: the first block of plain text and cipher text differ by the cipher of the first counter
  pub counter : encrypted counter_key (block_of 0xf0f1f2f3f4f5f6f7f8f9fafbfcfdfeff)
      ≡ block_of (bit_xor 0x6bc1bee22e409f96e93d7e117393172a 0x601ec313775789a5b7a7f504bbf3d228)
  -- of no standard, by SP 800-38A's rule: the counter after 2^128 - 1 is 0
  pub wrap : counter_at (replicate 16 255) 1 ≡ replicate 16 0
  -- test case 14 of the submission of GCM: AES-256 with a key, a nonce and a block of zeros
  pub tag : gcm_tag (encrypted (replicate 32 0)) (replicate 12 0) [] (block_of 0xcea7403d4d606b6e074ec5d3baf39d18)
      ≡ block_of 0xd0d1c8a799996bf0265b98b5d48ab919

-- Counter mode of SP 800-38A, section 6.5. The counter is the whole block, as a big-endian number modulo 2^128.
use Rattle.std.specs.Prelude.{◌≡◌, ℕ, suc, ◌+◌, ◌/◌, ◌%◌, ◌^◌, ◌<◌, List, [], ◌∷◌, length, slice_index, bit_xor}
use Rattle.std.specs.Int.{w128, from_be_bytes, to_be_bytes}

-- the counter block j places after the first one
abbrev pub counter_at : List ℕ → ℕ → List ℕ
counter_at first j = to_be_bytes w128 ((from_be_bytes w128 first + j) % 2 ^ 128)

-- byte t of the key stream under the cipher e: byte t mod 16 of the cipher at the counter t div 16
abbrev pub stream_byte : (List ℕ → List ℕ) → List ℕ → ℕ → ℕ
stream_byte e first t = slice_index (e (counter_at first (t / 16))) (t % 16)

-- Each byte of out is the text's byte plus that of the key stream.
abbrev pub IsCounterMode : (List ℕ → List ℕ) → List ℕ → List ℕ → List ℕ → Type 0
IsCounterMode e first text out = (length out ≡ length text)
    × ((t : ℕ) → t < length text → slice_index out t ≡ bit_xor (slice_index text t) (stream_byte e first t))

-- the sum of the text and a stream, from byte t of the stream on
unfoldable pub with_stream : (ℕ → ℕ) → ℕ → List ℕ → List ℕ
with_stream stream t [] = []
with_stream stream t (x ∷ text) = bit_xor x (stream t) ∷ with_stream stream (suc t) text

-- the text in counter mode under the cipher e
abbrev pub counter_mode : (List ℕ → List ℕ) → List ℕ → List ℕ → List ℕ
counter_mode e first text = with_stream (stream_byte e first) 0 text

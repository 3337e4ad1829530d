-- A stream added twice restores the text.
use Rattle.std.proofs.Common.{◌≡◌, ℕ, suc, List, [], ◌∷◌, length, bit_xor, refl, ap, ◌∙◌}
use lib.Bits.{xor_assoc, xor_zero_r, xor_self}
use Rattle.lr_aes.specs.Counter.{with_stream, counter_mode, stream_byte}
use Rattle.lr_aes.specs.Gcm.{gcm_text}

pub stream_twice : (stream : ℕ → ℕ) (t : ℕ) (text : List ℕ) → with_stream stream t (with_stream stream t text) ≡ text
unfolding with_stream
stream_twice stream t [] = refl
stream_twice stream t (x ∷ text) =
    let first : bit_xor (bit_xor x (stream t)) (stream t) ≡ x = xor_assoc x (stream t) (stream t) ∙ ap (bit_xor x) (xor_self (stream t)) ∙ xor_zero_r x in
    let others : with_stream stream (suc t) (with_stream stream (suc t) text) ≡ text = stream_twice stream (suc t) text in
    λ i. first i ∷ others i

pub counter_twice : (e : List ℕ → List ℕ) (first text : List ℕ) → counter_mode e first (counter_mode e first text) ≡ text
counter_twice e first text = stream_twice (stream_byte e first) 0 text

pub gcm_twice : (e : List ℕ → List ℕ) (nonce text : List ℕ) → gcm_text e nonce (gcm_text e nonce text) ≡ text
gcm_twice e nonce text = stream_twice _ 0 text

pub length-with_stream : (stream : ℕ → ℕ) (t : ℕ) (text : List ℕ) → length (with_stream stream t text) ≡ length text
unfolding with_stream
length-with_stream stream t [] = refl
length-with_stream stream t (x ∷ text) = ap suc (length-with_stream stream (suc t) text)

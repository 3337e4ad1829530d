use Rattle.std.proofs.Common.{◌≡◌, ◌+◌, ◌-◌, ◌*◌, ℕ, List, length, take, drop, sym, ap, ◌∙◌, arith}
use Rattle.std.specs.Int.{w128, to_be_bytes}
use Rattle.lr_aes.specs.Key.{encrypted}
use Rattle.lr_aes.specs.Counter.{counter_mode}
use Rattle.lr_convergent.proofs.Ranges.{range_text}
use Rattle.lr_convergent.proofs.range.decrypt_range.Goals as goal

pub returns : goal.returns
returns c =
    let count : 16 * c.args.block + length c.args.into.now - 16 * c.args.block ≡ length c.args.into.now = omega arith in
    let part : c.copy_from_slice.new.self ≡ take (length c.args.into.now) (drop (16 * c.args.block) c.args.chunk.now) = c.copy_from_slice.ensures.after ∙ ap (λ (n : ℕ). take n (drop (16 * c.args.block) c.bytes.result.now)) count ∙ ap (λ (l : List ℕ). take (length c.args.into.now) (drop (16 * c.args.block) l)) c.bytes.ensures.bytes in
    let first : c.to_be_bytes.result ≡ to_be_bytes w128 c.args.block = c.to_be_bytes.ensures in
    c.ctr_xor.ensures.text
    ∙ (λ i. counter_mode (encrypted c.args.key.now) (first i) (part i))
    ∙ sym (range_text c.args.key.now c.args.chunk.now c.args.block (length c.args.into.now) (omega arith))

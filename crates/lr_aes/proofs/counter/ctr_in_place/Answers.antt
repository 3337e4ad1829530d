use Rattle.std.proofs.Common.{◌≡◌, ℕ, ◌+◌, ◌-◌, ◌*◌, List, ap, subst, ◌∙◌, arith}
use Rattle.lr_aes.specs.Cipher.{cipher}
use Rattle.lr_aes.proofs.CounterFacts.{Begun, block_more}
use Rattle.lr_aes.proofs.counter.ctr_in_place.Goals as goal

pub loop-i-preserved : goal.loop-i-preserved
loop-i-preserved c =
    let e : List ℕ → List ℕ = cipher (c.args.rounds - 1) c.args.keys.now in
    let first : List ℕ = c.args.first.now in
    let text : List ℕ = c.args.buffer.now in
    let i : ℕ = c.loop-i.i in
    let middle : List ℕ = c.add_block.new.buffer in
    let last : List ℕ = c.add_block-in-loop-i.new.buffer in
    let one = c.encrypt_pair-stream.ensures.first ∙ ap e c.counters-blocks.ensures.first in
    let other = c.encrypt_pair-stream.ensures.second ∙ ap e c.counters-blocks.ensures.second in
    let half : Begun e first text (32 * i + 16) middle =
    block_more e first text c.loop-i.buffer middle c.encrypt_pair-stream.result.first (32 * i) (2 * i) (omega arith) c.loop-i.invariant one c.add_block.ensures in
    let whole : Begun e first text (32 * i + 16 + 16) last =
    block_more e first text middle last c.encrypt_pair-stream.result.second (32 * i + 16) (2 * i + 1) (omega arith) half other c.add_block-in-loop-i.ensures in
    let next : 32 * i + 16 + 16 ≡ 32 * (i + 1) = omega arith in
    subst (λ (n : ℕ). Begun e first text n last) next whole

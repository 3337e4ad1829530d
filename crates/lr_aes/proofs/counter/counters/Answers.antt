use Rattle.std.proofs.Common.{ℕ, ◌+◌, ◌*◌, ◌%◌, ◌^◌, ap, ◌∙◌}
use Rattle.std.specs.Int.{w128, to_be_bytes, from_be_bytes}
use Rattle.lr_aes.proofs.CounterFacts.{wraps}
use Rattle.lr_aes.proofs.counter.counters.Goals as goal

pub returns-clause-second : goal.returns-clause-second
returns-clause-second c =
    let q : ℕ = 2 * c.args.i in
    let here = ap (λ (n : ℕ). (n + q) % 2 ^ 128) c.from_be_bytes-start.ensures in
    c.block_from-2.ensures ∙ ap (to_be_bytes w128) (wraps (from_be_bytes w128 c.args.first.now) q ((c.from_be_bytes-start.result + q) % 2 ^ 128) here)

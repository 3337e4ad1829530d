use Rattle.std.proofs.Common.{◌≡◌, ◌≤◌, replicate, [], vec_len, vec_capacity}
use Rattle.lr_overlay.proofs.directory.Given as goal

abbrev pub invariant-loop : goal.invariant-loop
invariant-loop l = (l.chunks.items ≡ replicate l.counter []) × (vec_len l.chunks ≡ l.counter) × (l.count ≤ vec_capacity l.chunks)

use Rattle.std.proofs.Common.{◌≡◌, ◌<◌, ◌*◌, ℕ, List, slice_index}
use Rattle.lr_stripe.specs.Code.{AreStripes}
use Rattle.lr_stripe.proofs.code.Code.rebuild.Given as goal

abbrev pub invariant-loop-j : goal.invariant-loop-j
invariant-loop-j g l = (chunk : List ℕ) → AreStripes g.row.K l.len chunk l.indices l.stripes → (i : ℕ) → i < l.len * l.j → slice_index l.out i ≡ slice_index chunk i

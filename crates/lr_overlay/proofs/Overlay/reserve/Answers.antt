use Rattle.std.proofs.Common.{◌+◌, ◌≤◌, arith}
use Rattle.lr_overlay.proofs.Places.{pages_count}
use Rattle.lr_overlay.proofs.Overlay.reserve.Goals as goal

pub add_leaves-requires : goal.add_leaves-requires
add_leaves-requires c =
    let n : c.args.first + c.args.pages ≤ c.self.inside.count = rw (← c.self.view_is, pages_count) at c.requires in
    let end = rw c.from.ensures at c.div_ceil-end.ensures in
    omega (arith, n, c.self.invariant.0, end)

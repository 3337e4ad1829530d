use Rattle.std.proofs.Common.{◌≡◌, ◌*◌, length, take}
use Rattle.std.specs.List.{flat_map, AllByRecursion}
use Rattle.lr_manifest.proofs.row.cut_rows.Given as goal

abbrev pub invariant-loop-i : goal.invariant-loop-i
invariant-loop-i g l =
    (flat_map g.T.Row.row_bytes l.rows.items ≡ take (32 * l.i) l.bytes) × (length l.rows.items ≡ l.i) × AllByRecursion (λ x. length (g.T.Row.row_bytes x) ≡ 32) l.rows.items

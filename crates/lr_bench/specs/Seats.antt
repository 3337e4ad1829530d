-- Passes on four nodes.
use Rattle.std.specs.Prelude.{◌≡◌, ℕ}
use Rattle.lr_bench.specs.declared.turn.Passes.{Passes}
use Rattle.lr_bench.specs.declared.turn.Nodes.{Nodes}

-- each pass is one on the node of its letter
abbrev pub Sits : Nodes → Passes → Type 0
Sits nodes x =
    (x.a.place.table_id ≡ nodes.a.table.shared.table_id) × (x.b.place.table_id ≡ nodes.b.table.shared.table_id)
    × (x.c.place.table_id ≡ nodes.c.table.shared.table_id) × (x.d.place.table_id ≡ nodes.d.table.shared.table_id)

-- each pass is the first one there, and the greatest number that it gave out is this
abbrev pub Leads : Nodes → ℕ → Passes → Type 0
Leads nodes n x =
    Sits nodes x × (x.a.number ≡ 0) × (x.b.number ≡ 0) × (x.c.number ≡ 0) × (x.d.number ≡ 0)
    × (x.a.place.me.0.top ≡ n) × (x.b.place.me.0.top ≡ n) × (x.c.place.me.0.top ≡ n) × (x.d.place.me.0.top ≡ n)

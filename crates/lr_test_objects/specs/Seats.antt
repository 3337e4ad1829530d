-- Passes on four caches.
use Rattle.std.specs.Prelude.{◌≡◌, ℕ}
use Rattle.lr_test_objects.specs.declared.cross.Runner.{Runner}
use Rattle.lr_test_objects.specs.declared.cross.Four.{Four}
use Rattle.lr_test_objects.specs.declared.cross.Firsts.{Firsts}

-- each pass of the runner is one on the cache of its letter
abbrev pub Sits : Four → Runner → Type 0
Sits four x =
    (x.a.place.table_id ≡ four.a.table.shared.table_id) × (x.b.place.table_id ≡ four.b.table.shared.table_id)
    × (x.c.place.table_id ≡ four.c.table.shared.table_id) × (x.d.place.table_id ≡ four.d.table.shared.table_id)

-- each pass is the first on the cache of its letter, and the greatest number that it gave out is this
abbrev pub Leads : Four → ℕ → Firsts → Type 0
Leads four n x =
    (x.a.place.table_id ≡ four.a.table.shared.table_id) × (x.b.place.table_id ≡ four.b.table.shared.table_id)
    × (x.c.place.table_id ≡ four.c.table.shared.table_id) × (x.d.place.table_id ≡ four.d.table.shared.table_id)
    × (x.a.number ≡ 0) × (x.b.number ≡ 0) × (x.c.number ≡ 0) × (x.d.number ≡ 0)
    × (x.a.place.me.0.top ≡ n) × (x.b.place.me.0.top ≡ n) × (x.c.place.me.0.top ≡ n) × (x.d.place.me.0.top ≡ n)

-- each pass of the second runner is on the table of the first's, with its number
abbrev pub SameSeats : Runner → Runner → Type 0
SameSeats x y =
    (y.a.place.table_id ≡ x.a.place.table_id) × (y.b.place.table_id ≡ x.b.place.table_id) × (y.c.place.table_id ≡ x.c.place.table_id) ×
    (y.d.place.table_id ≡ x.d.place.table_id)
    × (y.a.number ≡ x.a.number) × (y.b.number ≡ x.b.number) × (y.c.number ≡ x.c.number) × (y.d.number ≡ x.d.number)

-- What contracts read of a shared object and of a pass.
use Rattle.atomic_table.specs.Seated.{TableId}
use Rattle.lr_turn.specs.declared.view.View.{View}
use Rattle.lr_turn.specs.declared.pass.PassOf.{PassOf}
use Rattle.lr_turn.specs.declared.shared.Shared.{Shared}

-- the table that the pass has its seat on
abbrev pub seat_of : {S C R F : Type 0} → PassOf S C R F → TableId
seat_of p = p.place.table_id

-- what the pass knows
abbrev pub known_by : {S C R F : Type 0} → PassOf S C R F → View C R F
known_by p = p.place.me.0

-- the table that the object lies in
abbrev pub table_of : {S Call C Reply R F : Type 0} → Shared S Call C Reply R F → TableId
table_of s = s.table.shared.table_id

-- the object as it was when it was first shared
abbrev pub first_of : {S Call C Reply R F : Type 0} → Shared S Call C Reply R F → S
first_of s = s.table.shared.key.value

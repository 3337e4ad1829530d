-- A count of faults, which stands still at the last value of its type.
use Rattle.std.specs.Prelude.{ℕ, ◌+◌, ◌<◌, ◌≤◌, ◌⊎◌, nat_lt, if◌then◌else◌}

-- the last value of a count
abbrev pub last_count : ℕ
last_count = 18446744073709551615

-- the count after one more, which stands still at the last value
abbrev pub next_count : ℕ → ℕ
next_count n = if nat_lt n last_count then n + 1 else n

-- The count rose: it is greater than before, or it stands at its last value.
abbrev pub Rose : ℕ → ℕ → Type 0
Rose before now = (before < now) ⊎ (last_count ≤ now)

-- Of which jobs the laws on walks speak.
use Rattle.std.specs.Prelude.{◌≡◌, ℕ, Some, slice_get}
use Rattle.lr_walk.specs.Calls.{DevicePlace}
use Rattle.lr_walk.specs.Jobs.{Context}
use Rattle.lr_actors.specs.Jobs.{Job, drops_stripe, flips_stripe, forges}

-- the device of this number stands here
abbrev pub IsAt : Context → ℕ → DevicePlace → Type 0
IsAt context device place = slice_get context.devices device ≡ Some place

-- damage to this chunk of this device
abbrev pub IsDamage : ℕ → ℕ → Job → Type 0
IsDamage device chunk (drops_stripe index d c) = (d ≡ device) × (c ≡ chunk)
IsDamage device chunk (flips_stripe index d c at) = (d ≡ device) × (c ≡ chunk)
IsDamage device chunk (forges d c) = (d ≡ device) × (c ≡ chunk)
IsDamage device chunk job = ⊥

-- Claims by their caller and by their name.
use Rattle.std.specs.Prelude.{ℕ, Bool, nat_eq}
use Rattle.std.specs.Str.{bytes_eq}
use Rattle.lr_manifest.specs.declared.name.Name.{Name}
use Rattle.lr_cache.specs.declared.call.Claim.{Claim}

-- whether the claim is this caller's
abbrev pub is_of : ℕ → Claim → Bool
is_of caller claim = nat_eq claim.caller caller

-- whether the claim is on this name
abbrev pub is_on : Name → Claim → Bool
is_on name claim = bytes_eq claim.name.bytes name.bytes

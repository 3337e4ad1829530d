-- What a call does to a cache.
use Rattle.std.specs.Prelude.{ℕ}
use Rattle.lr_object.specs.Kept.{Sized, Keeps}
use Rattle.lr_cache.specs.declared.call.CacheCall.{CacheCall}
use Rattle.lr_cache.specs.declared.call.CacheReply.{CacheReply}
use Rattle.lr_cache.specs.declared.call.CacheReply.TheVariants.{NoClaim, OutOfMemory}
use Rattle.lr_cache.specs.Machine.{State, is_logged, CacheStep, Enters}

-- a cache, as contracts see it
abbrev pub Seen : Type 0
Seen = Sized CacheCall CacheReply

-- The log has one entry more where the reply is logged, and the cache is else as it was, as far as callers can tell.
abbrev pub Serves : Seen → Seen → ℕ → CacheCall → CacheReply → Type 0
Serves old new caller call reply = Keeps (is_logged reply) (Enters call reply) old new caller

-- The call of a caller that has no claim for it.
abbrev pub Refuses : State → ℕ → CacheCall → Type 0
Refuses st caller call = CacheStep st caller call NoClaim × CacheStep st caller call OutOfMemory

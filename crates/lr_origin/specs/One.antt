-- A store that fails one call.
use Rattle.std.specs.Prelude.{◌≡◌, ◌+◌, ℕ, Bool, MatchBool, min}
use Rattle.lr_spec.specs.Rose.{last_count}

-- As contracts see it: the store inside, how many calls pass before the one that fails, whether that one has its effect, and how many calls it
-- has failed itself, at most one.
pub record One (O : Type 0) : Type 0 where
  pub inner : O
  pub calls : ℕ
  pub done : Bool
  pub own : ℕ

-- all its faults, up to the last value of a count: those of the store inside, and its own
abbrev pub one_faults : {O : Type 0} → (O → ℕ) → One O → ℕ
one_faults faults f = min (faults f.inner + f.own) last_count

-- The next call is the one that fails.
abbrev pub FailsNext : {O : Type 0} → One O → Type 0
FailsNext f = (f.calls ≡ 0) × (f.own ≡ 0)

-- It passes a call, and counts it where the failing call is still to come.
abbrev pub PassesOne : {O : Type 0} → One O → One O → Type 0
PassesOne old new = (new.own ≡ old.own) × (new.done ≡ old.done) × (old.own ≡ 0 → new.calls + 1 ≡ old.calls)

-- It has failed the call, and passes every later one.
abbrev pub HasFailed : {O : Type 0} → One O → One O → Type 0
HasFailed old new = (new.own ≡ 1) × (new.done ≡ old.done)

-- It fails a put or a deletion: the store inside makes it where it is to have its effect, else that store is as it was.
abbrev pub FailsOne : {O : Type 0} → (O → O → Type 0) → One O → One O → Type 0
FailsOne Made old new = HasFailed old new × MatchBool old.done (Made old.inner new.inner) (new.inner ≡ old.inner)

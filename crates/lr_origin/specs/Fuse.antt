-- A store that stops after some calls.
use Rattle.std.specs.Prelude.{◌≡◌, ◌+◌, ℕ, Bool, false, MatchBool, min}
use Rattle.lr_spec.specs.Rose.{last_count}

-- A fuse, as contracts see it: the store inside, how many calls it still passes, whether an effect is still to be
-- had of a call that it fails, and how many calls it has failed itself.
pub record Fuse (O : Type 0) : Type 0 where
  pub inner : O
  pub calls : ℕ
  pub done : Bool
  pub own : ℕ

-- all its faults, up to the last value of a count: those of the store inside, and its own
abbrev pub fuse_faults : {O : Type 0} → (O → ℕ) → Fuse O → ℕ
fuse_faults faults f = min (faults f.inner + f.own) last_count

-- It passes a call.
abbrev pub Passes : {O : Type 0} → Fuse O → Fuse O → Type 0
Passes old new = (new.calls + 1 ≡ old.calls) × (new.done ≡ old.done) × (new.own ≡ old.own)

-- It fails a call that changes nothing.
abbrev pub FailsReading : {O : Type 0} → Fuse O → Fuse O → Type 0
FailsReading old new = (new.calls ≡ 0) × (new.done ≡ old.done) × (new.inner ≡ old.inner)

-- It fails a put or a deletion. Where an effect is still to be had, the store inside makes the call, and no later
-- one has an effect. Else the store inside is as it was.
abbrev pub FailsChange : {O : Type 0} → (O → O → Type 0) → Fuse O → Fuse O → Type 0
FailsChange Made old new =
    (new.calls ≡ 0) × (new.done ≡ false) × MatchBool old.done (Made old.inner new.inner) (new.inner ≡ old.inner)

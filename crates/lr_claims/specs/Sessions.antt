-- The sessions that a caller has on a depot, by its own entries.
use Rattle.std.specs.Prelude.{◌≡◌, ◌==◌, ℕ, List, fold, cond, Some}
use Rattle.std.specs.Arc.{arc_value}
use Rattle.std.specs.Ordering.{nat_cmp}
use Rattle.std.specs.FinMap as map
use Rattle.std.specs.FinMap.{FinMap}
use Rattle.lr_manifest.specs.Manifest.{ManifestFields}
use Rattle.lr_object.specs.Own.{own_entries}
use Rattle.lr_rules.specs.State.{Job, Creates, Moves, Session}
use Rattle.lr_depot.specs.declared.call.DepotCall.TheVariants.{PutChunk, PutManifest, Abandon, CopyRead, FinishMigrate, Reap}
use Rattle.lr_depot.specs.declared.call.DepotNoted.{DepotNoted}
use Rattle.lr_depot.specs.declared.call.DepotNoted.TheVariants as noted
use Rattle.lr_depot.specs.declared.call.DepotReply.TheVariants.{NoSession, Nothing, OutOfMemory}
use Rattle.lr_depot.specs.declared.call.DepotTold.{DepotTold}
use Rattle.lr_depot.specs.declared.call.DepotTold.TheVariants as told
use Rattle.lr_depot.specs.Machine.{LogEntry, DepotStep}
use Rattle.lr_depot.specs.Store.{IsRun}
use Rattle.lr_depot.specs.Begun.{Start}
use Rattle.lr_depot.specs.Depot.{IsStart, first_state, state}

-- What a caller's own entries tell of the session of a number.
pub data Standing : Type 0 where
  no_session : Standing  -- the caller doesn't have it
  held : (job : Job) → Standing  -- the caller has it, and it is for this job
  unsure : (job : Job) → Standing  -- the put of its manifest failed: a look at the store, by whichever caller, may have ended it

-- the put of the session's manifest failed
abbrev pub doubted : Standing → Standing
doubted (held job) = unsure job
doubted standing = standing

-- after an entry of the caller's own
abbrev pub standing_after : ℕ → Standing → DepotNoted → DepotTold → Standing
standing_after n st (noted.BeginCreate image) (told.Began session root bytes number) = cond (n == session) (held (Creates image root number)) st
standing_after n st (noted.BeginMigrate image) (told.Moving session from to m) = cond (n == session) (held (Moves image from to (arc_value m))) st
standing_after n st (noted.PutManifest k m) (told.Made r) = cond (n == k) no_session st
standing_after n st (noted.PutManifest k m) (told.Fault key) = cond (n == k) (doubted st) st
standing_after n st (noted.FinishMigrate k) (told.Moved from to) = cond (n == k) no_session st
standing_after n st (noted.FinishMigrate k) (told.Fault key) = cond (n == k) (doubted st) st
standing_after n st (noted.Abandon k) told.Abandoned = cond (n == k) no_session st
standing_after n st noted.Reap told.Reaped = no_session
standing_after n st call reply = st

abbrev pub standing_then : ℕ → Standing → LogEntry → Standing
standing_then n st e = standing_after n st e.call e.reply

-- .. by all its own entries
abbrev pub standing : ℕ → List LogEntry → Standing
standing n own = fold (standing_then n) no_session own

-- The caller's session of this number is as its standing says.
abbrev pub IsStanding : FinMap nat_cmp Session → ℕ → ℕ → Standing → Type 0
IsStanding sessions n c no_session = (job : Job) → ¬ (map.get sessions n ≡ Some (record { caller = c; job = job }))
IsStanding sessions n c (held job) = map.get sessions n ≡ Some (record { caller = c; job = job })
IsStanding sessions n c (unsure job) = (other : Job) → map.get sessions n ≡ Some (record { caller = c; job = other }) → other ≡ job

-- Whether and for what a caller has a session is what its own entries tell.
abbrev pub SessionsAreOnesOwn : Type 0
SessionsAreOnesOwn =
    (start : Start) (log : List LogEntry) → IsStart start → IsRun (first_state start) log → (caller n : ℕ)
    → IsStanding (state start log).desk.sessions n caller (standing n (own_entries caller log))

-- the caller's own entries tell that it has the session, for this job
abbrev pub Has : Start → List LogEntry → ℕ → ℕ → Job → Type 0
Has start log caller n job = IsStart start × IsRun (first_state start) log × (standing n (own_entries caller log) ≡ held job)

-- To the caller whose own entries tell of the session, NoSession never comes, Nothing never to its Reap, and its Abandon wants no memory.
pub record NoSessionIsOnesOwn : Type 0 where
  pub chunk : (start : Start) (log : List LogEntry) (caller n : ℕ) (job : Job) → Has start log caller n job → (chunk : _) → DepotStep (state start log) caller (PutChunk n chunk) NoSession → ⊥
  pub manifest : (start : Start) (log : List LogEntry) (caller n : ℕ) (image : List ℕ) (r d : ℕ) → Has start log caller n (Creates image r d) → (m : _) → DepotStep (state start log) caller (PutManifest n m) NoSession → ⊥
  pub copy : (start : Start) (log : List LogEntry) (caller n : ℕ) (image : List ℕ) (from to : ℕ) (m : ManifestFields) → Has start log caller n (Moves image from to m)
      → (index : ℕ) → DepotStep (state start log) caller (CopyRead n index) NoSession → ⊥
  pub finish : (start : Start) (log : List LogEntry) (caller n : ℕ) (image : List ℕ) (from to : ℕ) (m : ManifestFields) → Has start log caller n (Moves image from to m)
      → DepotStep (state start log) caller (FinishMigrate n) NoSession → ⊥
  pub abandon : (start : Start) (log : List LogEntry) (caller n : ℕ) (job : Job) → Has start log caller n job → DepotStep (state start log) caller (Abandon n) NoSession → ⊥
  pub memory : (start : Start) (log : List LogEntry) (caller n : ℕ) (job : Job) → Has start log caller n job → DepotStep (state start log) caller (Abandon n) OutOfMemory → ⊥
  pub reap : (start : Start) (log : List LogEntry) (caller n : ℕ) (job : Job) → Has start log caller n job → DepotStep (state start log) caller Reap Nothing → ⊥

-- How many steps actors make at most.
use Rattle.std.specs.Prelude.{◌≡◌, ◌≤◌, ◌+◌, ℕ, List, length, drop, Bool, Option, Some, slice_get}
use Rattle.std.specs.List.{count_by}
use Rattle.lr_object.specs.declared.id.ObjectId.TheVariants.{Depot}
use Rattle.lr_walk.specs.Steps.{Step}
use Rattle.lr_walk.specs.Jobs.{Context}
use Rattle.lr_walk.specs.Trails.{Lists}
use Rattle.lr_actors.specs.Jobs.{Job}
use Rattle.lr_actors.specs.Body.{is_removal}
use Rattle.lr_actors.specs.Running.{steps_left}
use Rattle.lr_actors.specs.Actor as actor
use Rattle.lr_actors.specs.Actor.{Now, works, idles, reaps, over, bounds_of, steps_made, IsNew}
use Rattle.lr_replies.specs.Objects.{own_lists}
use Rattle.lr_world.specs.World.{Seen, objects_of}

-- a key was removed
abbrev pub removes : Step → Bool
removes s = is_removal s.reply

-- how many keys a caller's sweeps removed, by its own list
abbrev pub removals : Lists → ℕ
removals lists = count_by removes (lists Depot)

-- The steps of its jobs that an actor may still make, Busy and the removals of its sweeps not counted: those of the job under way, and the
-- bounds of the jobs behind.
abbrev pub jobs_left : Now → actor.Seen → ℕ
jobs_left (works r) a = steps_left r + bounds_of (drop (length a.account.results + 1) a.jobs)
jobs_left idles a = bounds_of (drop (length a.account.results) a.jobs)
jobs_left (reaps made) a = 0
jobs_left over a = 0

-- The steps of an actor's paths and those that it may still make of its jobs come to no more than they did, but for one for each key that its
-- sweeps removed since.
abbrev pub StaysWithin : {O : Type 0} → Seen O → Seen O → Type 0
StaysWithin old new =
    (i : ℕ) (a b : actor.Seen) → slice_get old.actors i ≡ Some a → slice_get new.actors i ≡ Some b
    → steps_made b + jobs_left b.now b + removals (own_lists (objects_of old) a.number) ≤ steps_made a + jobs_left a.now a + removals (own_lists (objects_of new) a.number)

-- So a new actor makes at most the sum of the bounds of its jobs, and one step for each key that its sweeps removed: a sweep of k keys
-- makes k + 1. Steps answered Busy aren't counted.
abbrev pub AreBounded : {O : Type 0} → Seen O → Seen O → Type 0
AreBounded old new =
    (i number : ℕ) (context : Context) (hosts : ℕ) (jobs : List Job) (crash : Option ℕ) (a b : actor.Seen) → slice_get old.actors i ≡ Some a → slice_get new.actors i ≡ Some b
    → IsNew number context hosts jobs crash a → steps_made b ≤ bounds_of jobs + removals (own_lists (objects_of new) number)

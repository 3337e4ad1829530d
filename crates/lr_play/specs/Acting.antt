-- New actors of players, and what they leave when they have acted.
use Rattle.std.specs.Prelude.{◌≡◌, ◌++◌, ℕ, List}
use Rattle.std.specs.List.{AllByRecursion, AllZip}
use Rattle.lr_walk.specs.Jobs.{Context}
use Rattle.lr_script.specs.Seen.{ScheduleSeen}
use Rattle.lr_actors.specs.declared.place.Parts.{Parts}
use Rattle.lr_actors.specs.declared.trail.Trail.{Trail}
use Rattle.lr_actors.specs.Actor as actor
use Rattle.lr_actors.specs.Actor.{MayBeGiven, IsNew}
use Rattle.lr_actors.specs.Trailed.{IsTrailOf}
use Rattle.lr_world.specs.Calling.{objects_in}
use Rattle.lr_world.specs.World.{Seen, objects_of, MayBegin, IsWorld}
use Rattle.lr_world.specs.Runs.{Ends, AreCounted, Left}
use Rattle.lr_world.specs.Bounded.{AreBounded}
use Rattle.lr_play.specs.Players.{Player}

-- each player's jobs may be given to an actor
abbrev pub AreGiven : Context → ℕ → List Player → Type 0
AreGiven context hosts players = AllByRecursion (λ (p : Player). AllByRecursion (MayBeGiven context hosts) p.jobs) players

-- a new actor for each player
abbrev pub AreNew : Context → ℕ → List Player → List actor.Seen → Type 0
AreNew context hosts players actors = AllZip (λ (p : Player) (a : actor.Seen). IsNew p.number context hosts p.jobs p.crash a) players actors

-- New actors played over these objects in the order of the schedule: the parts and the trails that they left.
pub record HaveActed {O : Type 0} (schedule : ScheduleSeen) (old : Seen O) (parts : Parts O) (told : List Trail) : Type 0 where
  pub new : Seen O
  pub objects : objects_in parts ≡ objects_of new
  pub is : (context : Context) (hosts : ℕ) → MayBegin context hosts old → IsWorld context hosts new
  pub left : Left old new
  pub ends : Ends schedule new
  pub counted : AreCounted schedule old new
  pub bounded : AreBounded old new
  pub trails : AllZip IsTrailOf new.actors told

-- .. behind those trails that were there
pub record Adds {O : Type 0} (schedule : ScheduleSeen) (old : Seen O) (parts : Parts O) (before after : List Trail) : Type 0 where
  pub more : List Trail
  pub added : after ≡ before ++ more
  pub acted : HaveActed schedule old parts more

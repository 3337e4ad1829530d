-- What holds of replies, whatever the others do.
use Rattle.std.specs.Prelude.{◌≡◌}
use Rattle.lr_object.specs.declared.id.ObjectId.{ObjectId}
use Rattle.lr_claims.specs.Logs.{CacheLogsAreLegal}
use Rattle.lr_walk.specs.Trails.{Lists}
use Rattle.lr_history.specs.Ready.{FitIsPlanned, BusyWaitsForAnother}
use Rattle.lr_actors.specs.declared.trail.ActorState.TheVariants.{Ended}
use Rattle.lr_actors.specs.Actor as actor
use Rattle.lr_actors.specs.Actor.{IsActor, StandsFor, over}
use Rattle.lr_replies.specs.Replies.{RepliesAreAdmitted, ListsGain, LogsStayMade, LeasesStayOut, LooksHoldNone}
use Rattle.lr_world.specs.World.{HasNoneOut}

-- An actor of whose jobs all have ended has nothing out.
abbrev pub EndedHoldsNone : Type 0
EndedHoldsNone = (a : actor.Seen) (lists : Lists) → IsActor a → a.state ≡ Ended → a.now ≡ over → StandsFor a lists → (o : ObjectId) → HasNoneOut lists o

pub record Laws : Type 0 where
  pub admitted : RepliesAreAdmitted
  pub gain : ListsGain
  pub made : LogsStayMade
  pub leases : LeasesStayOut
  pub looks : LooksHoldNone
  pub ended : EndedHoldsNone
  pub busy : BusyWaitsForAnother
  pub planned : FitIsPlanned
  pub legal : CacheLogsAreLegal

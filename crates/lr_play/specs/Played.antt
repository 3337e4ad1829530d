-- What a script's play leaves.
use Rattle.std.specs.Prelude.{◌≡◌, ◌≢◌, ◌≤◌, ◌+◌, ℕ, List, [], ◌∷◌, ◌++◌, map, false, ⊤}
use Rattle.std.specs.List.{AllByRecursion, AllZip}
use Rattle.lr_walk.specs.Jobs.{Context}
use Rattle.lr_setup.specs.Setup.{SetupLine}
use Rattle.lr_script.specs.Seen.{ScriptSeen, ScheduleSeen, Serial, Pairs}
use Rattle.lr_actors.specs.declared.place.Parts.{Parts}
use Rattle.lr_actors.specs.declared.place.Context.{Context as Kept}
use Rattle.lr_actors.specs.declared.trail.Trail.{Trail}
use Rattle.lr_actors.specs.declared.trail.ActorState.{ActorState}
use Rattle.lr_actors.specs.declared.trail.ActorState.TheVariants.{Ended, Unfinished}
use Rattle.lr_actors.specs.Jobs.{seen_context}
use Rattle.lr_actors.specs.Actor.{AreEnded, AreCutOnce, FitsCrash, steps_in, bounds_of}
use Rattle.lr_actors.specs.Records.{HasTrail}
use Rattle.lr_replies.specs.Objects.{Objects, own_lists}
use Rattle.lr_world.specs.Calling.{objects_in}
use Rattle.lr_world.specs.World.{Part, HoldsNothing}
use Rattle.lr_world.specs.Runs.{Grew, steps_for}
use Rattle.lr_world.specs.Bounded.{removals}
use Rattle.lr_headline.specs.Closing.{Left, Closing, IsClosing}
use Rattle.lr_play.specs.Players.{Player, actors_of, after_of, players_of}

-- an ended caller has ended all its jobs
abbrev pub FitsAnswers : ActorState → Trail → Type 0
FitsAnswers Ended t = AreEnded t.results.items
FitsAnswers state t = AreCutOnce t.results.items

-- The trail of a player: each job's result has its walk over the player's own lists; a crash comes after exactly the steps of its line, and
-- after a job that was cut or not begun none was begun. Its paths have at most as many steps as the bounds of its jobs allow, and one more
-- for each key that its sweeps removed.
pub record IsTrail (context : Context) (w : Objects) (p : Player) (t : Trail) : Type 0 where
  pub trail : HasTrail context (own_lists w p.number) p.jobs t.results.items
  pub answers : FitsAnswers t.state t
  pub crash : FitsCrash p.crash t.state (steps_in t.results.items)
  pub bound : steps_in t.results.items ≤ bounds_of p.jobs + removals (own_lists w p.number)

-- Only where a schedule of pairs stops is a player unfinished, and then it made just the steps that the pairs give it.
abbrev pub FitsSchedule : ScheduleSeen → Player → Trail → Type 0
FitsSchedule (Pairs pairs false) p t = t.state ≡ Unfinished → t.steps ≡ steps_for p.number pairs
FitsSchedule schedule p t = t.state ≢ Unfinished

-- Where the schedule goes on until all have ended, a player has no plan, claim or session out.
abbrev pub LetsGo : ScheduleSeen → Objects → Player → Type 0
LetsGo (Pairs pairs false) w p = ⊤
LetsGo schedule w p = HoldsNothing w p.number

-- who has left, with the results
abbrev pub left_by : List Player → List Trail → List Left
left_by [] trails = []
left_by (p ∷ players) [] = []
left_by (p ∷ players) (t ∷ trails) = record { number = p.number; jobs = p.jobs; results = t.results.items } ∷ left_by players trails

abbrev pub closing_of : {O : Type 0} → ScriptSeen → List SetupLine → Kept → Parts O → List Trail → Closing
closing_of script lines context parts trails = record {
  lines = lines;
  context = seen_context context;
  hosts = context.hosts;
  objects = objects_in parts;
  creations = [];
  actors = left_by (players_of script) trails;
}

-- the callers, as the world sees them
abbrev pub part_of : Context → ℕ → Player → Part
part_of context hosts p = record { number = p.number; context = context; hosts = hosts; jobs = p.jobs; crash = p.crash }

-- The actors played, and then the after part alone, over the parts that the setup lines gave. Each log has only entries of theirs more,
-- each has its trail, and what is left is what a run leaves.
pub record IsPlayed {O : Type 0} (script : ScriptSeen) (lines : List SetupLine) (context : Kept) (old new : Parts O) (told : List Trail) : Type 0 where
  pub grew : Grew (map (part_of (seen_context context) context.hosts) (players_of script)) (objects_in old) (objects_in new)
  -- first each log has entries of the actors more, and then of the after part
  pub mid : Objects
  pub first : Grew (map (part_of (seen_context context) context.hosts) (actors_of script)) (objects_in old) mid
  pub second : Grew (map (part_of (seen_context context) context.hosts) (after_of script)) mid (objects_in new)
  pub trails : AllZip (IsTrail (seen_context context) (objects_in new)) (players_of script) told
  pub front : List Trail
  pub last : List Trail
  pub parts : told ≡ front ++ last
  pub actors : AllZip (FitsSchedule script.schedule) (actors_of script) front
  pub after : AllZip (FitsSchedule Serial) (after_of script) last
  pub free : AllByRecursion (LetsGo script.schedule (objects_in new)) (actors_of script)
  pub after_free : AllByRecursion (LetsGo Serial (objects_in new)) (after_of script)
  pub closing : IsClosing (closing_of script lines context new told)

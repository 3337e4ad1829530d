-- A job under way, of any kind, as contracts see it.
use Rattle.std.specs.Prelude.{◌≡◌, ◌≤◌, ◌+◌, ℕ, List, ◌++◌, Bool, true, false, Some, slice_get, ⊤}
use Rattle.lr_collector.specs.declared.collect.CollectJob.{CollectJob}
use Rattle.lr_walk.specs.declared.trail.Answer.{Answer}
use Rattle.lr_walk.specs.Walk.{Walks}
use Rattle.lr_walk.specs.Stands.{IsFront}
use Rattle.lr_walk.specs.Steps.{Reply, by_cache, by_depot, Step}
use Rattle.lr_walk.specs.Cache as caches
use Rattle.lr_walk.specs.Depot as depots
use Rattle.lr_walk.specs.Jobs.{Context}
use Rattle.lr_actors.specs.declared.single.Single.{Single}
use Rattle.lr_actors.specs.declared.running.Running.{Running}
use Rattle.lr_actors.specs.declared.running.Running.TheVariants as running
use Rattle.lr_actors.specs.declared.running.JobTurn.{JobTurn}
use Rattle.lr_actors.specs.declared.running.JobTurn.TheVariants as turn
use Rattle.lr_actors.specs.Asked.{Asked, HandsCall, MayCall, Adds}
use Rattle.lr_actors.specs.Serving as serving
use Rattle.lr_actors.specs.Singles as singles
use Rattle.lr_actors.specs.Forging as forging
use Rattle.lr_actors.specs.Collecting as collecting
use Rattle.lr_actors.specs.Migrating as migrating
use Rattle.lr_actors.specs.Creating as creating
use Rattle.lr_actors.specs.Bounds.{moves_ahead, collects_left}
use Rattle.lr_actors.specs.Bounds.{steps_left as puts_ahead}

-- what a job under way is of
pub data Task : Type 0 where
  serves : (work : serving.Work) → Task
  makes : (single : Single) → Task
  forges : (target : forging.Target) → Task
  collects : (job : CollectJob) → Task
  migrates : (image : List ℕ) → Task
  creates : (image tenant raw : List ℕ) → Task

-- the walk of a task
abbrev pub Walk : Task → Walks Step Answer
Walk (serves work) = serving.Serves work
Walk (makes single) = singles.MakesOne single
Walk (forges target) = forging.Forging target
Walk (collects job) = collecting.Collecting job
Walk (migrates image) = migrating.Migrating image
Walk (creates image tenant raw) = creating.Creating image tenant raw

abbrev pub task_of : Running → Task
task_of (running.Serves device p) = serves p.work
task_of (running.Makes p) = makes p.single
task_of (running.Forges p) = forges p.target
task_of (running.Collects p) = collects p.job
task_of (running.Migrates p) = migrates p.image
task_of (running.Creates p) = creates p.create.image p.create.tenant p.raw

abbrev pub asked : Running → Asked
asked (running.Serves device p) = serving.asked p.work p.need
asked (running.Makes p) = singles.asked p.single p.need
asked (running.Forges p) = forging.asked p.target p.need
asked (running.Collects p) = collecting.asked p
asked (running.Migrates p) = migrating.asked p
asked (running.Creates p) = creating.asked p

-- its call is prepared, or its end
abbrev pub is_ready : Running → Bool
is_ready (running.Serves device p) = p.ready
is_ready (running.Makes p) = p.ready
is_ready (running.Forges p) = p.ready
is_ready (running.Collects p) = p.ready
is_ready (running.Migrates p) = p.ready
is_ready (running.Creates p) = p.create.ready

-- the replies that it takes
abbrev pub Admits : Running → Reply → Type 0
Admits (running.Serves device p) reply = serving.Admits p.work p.need reply
Admits (running.Makes p) reply = singles.Admits p.single p.need reply
Admits (running.Forges p) reply = forging.Admits p.need reply
Admits (running.Collects p) reply = collecting.Admits p reply
Admits (running.Migrates p) reply = migrating.Admits p reply
Admits (running.Creates p) reply = creating.Admits p reply

-- it stands for these steps
abbrev pub StandsFor : Running → List Step → Type 0
StandsFor (running.Serves device p) steps = serving.StandsFor p steps
StandsFor (running.Makes p) steps = singles.StandsFor p steps
StandsFor (running.Forges p) steps = forging.StandsFor p steps
StandsFor (running.Collects p) steps = collecting.StandsFor p steps
StandsFor (running.Migrates p) steps = migrating.StandsFor p steps
StandsFor (running.Creates p) steps = creating.StandsFor p steps

-- a device call is on the device of its number, and loads its chunks
abbrev pub IsAtHome : Context → Running → Type 0
IsAtHome context (running.Serves device p) = (slice_get context.devices device ≡ Some p.work.place) × serving.IsAtPlace p.work p.need
IsAtHome context job = ⊤

-- what is known of the steps that it stands for
abbrev pub Knows : Running → List Step → Type 0
Knows (running.Serves device p) steps = serving.Knows p.work p.need steps
Knows job steps = ⊤

-- how many steps it may still make, Busy and the removals of a sweep not counted
abbrev pub steps_left : Running → ℕ
steps_left (running.Serves device p) = serving.steps_left p.need
steps_left (running.Makes p) = singles.steps_left p.need
steps_left (running.Forges p) = forging.steps_left p.need
steps_left (running.Collects p) = collects_left p.need
steps_left (running.Migrates p) = moves_ahead p.need
steps_left (running.Creates p) = puts_ahead p

-- Each reply brings it nearer to its end, but Busy and a removal.
abbrev pub Nears : Reply → Running → Running → Type 0
Nears (by_cache (caches.busy holder)) old new = steps_left new ≤ steps_left old
Nears (by_depot (depots.removed key)) old new = steps_left new ≤ steps_left old
Nears reply old new = steps_left new + 1 ≤ steps_left old

-- A job took a reply.
pub record Went (old : Running) (reply : Reply) (new : Running) : Type 0 where
  pub task : task_of new ≡ task_of old
  pub home : (context : Context) → IsAtHome context old → IsAtHome context new
  pub ready : is_ready new ≡ true
  pub stands : (steps more : List Step) → Adds (asked old) reply more → StandsFor old steps → StandsFor new (steps ++ more)
  pub knows : (steps more : List Step) → Adds (asked old) reply more → Knows old steps → Knows new (steps ++ more)
  pub nears : Nears reply old new

-- The same job, whose call was handed out. With that call and any reply to it, what it stands for is a walk or the front of one.
pub record IsOut (old new : Running) : Type 0 where
  pub task : task_of new ≡ task_of old
  pub home : (context : Context) → IsAtHome context old → IsAtHome context new
  pub call : asked new ≡ asked old
  pub out : is_ready new ≡ false
  pub stands : (steps : List Step) → StandsFor old steps → StandsFor new steps
  pub stood : (steps : List Step) → StandsFor new steps → StandsFor old steps
  pub admits : (reply : Reply) → Admits new reply → Admits old reply
  pub knows : (steps : List Step) → Knows old steps → Knows new steps
  pub left : steps_left new ≡ steps_left old
  pub front : (steps more : List Step) (reply : Reply) → Admits old reply → Adds (asked old) reply more → StandsFor old steps → IsFront (Walk (task_of old)) (steps ++ more)

-- A job hands out its call, or it has ended with a walk.
abbrev pub HandsOut : Running → JobTurn → Type 0
HandsOut old (turn.Goes new call) = IsOut old new × HandsCall call (asked old) × MayCall call
HandsOut old (turn.Ends answer) = (steps : List Step) → StandsFor old steps → Walk (task_of old) steps answer

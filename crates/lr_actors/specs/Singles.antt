-- Jobs of one call: what each asks, which walk it is, and what contracts see of one under way.
use Rattle.std.specs.Prelude.{◌≡◌, ◌<◌, ℕ, List, [], Bool, ⊤}
use Rattle.lr_walk.specs.declared.trail.Answer.{Answer}
use Rattle.lr_walk.specs.declared.trail.Answer.TheVariants.{Evicted, Dropped, Flipped, Lost, NoStripe, Closed, Memory}
use Rattle.lr_walk.specs.Walk.{Walks}
use Rattle.lr_walk.specs.Stands as stands
use Rattle.lr_walk.specs.Steps.{Call, on_cache, on_node, on_depot, Reply, by_cache, by_node, by_depot, Step, Answers, Asks}
use Rattle.lr_walk.specs.Damage.{Evicts, Loses, after_damage}
use Rattle.lr_walk.specs.Jobs.{AsksDepot}
use Rattle.lr_walk.specs.Depot as depots
use Rattle.lr_walk.specs.Cache as caches
use Rattle.lr_walk.specs.Node as nodes
use Rattle.lr_actors.specs.declared.single.Single.{Single}
use Rattle.lr_actors.specs.declared.single.Single.TheVariants as one
use Rattle.lr_actors.specs.Asked.{Asked, a_call, an_end}

-- a flip names a place within a stripe
abbrev pub IsSingle : Single → Type 0
IsSingle (one.Flip node name index at) = at < 131072
IsSingle single = ⊤

abbrev pub call_of : Single → Call
call_of (one.Evict host) = on_cache host caches.evicts
call_of (one.Drop node name index) = on_node node (nodes.drops name index)
call_of (one.Flip node name index at) = on_node node (nodes.flips name index at)
call_of (one.Lose node) = on_node node nodes.loses
call_of (one.Close lease) = on_depot (depots.closes lease)

-- the walk of the job
abbrev pub MakesOne : Single → Walks Step Answer
MakesOne (one.Evict host) = Evicts host
MakesOne (one.Drop node name index) = Asks (on_node node (nodes.drops name index)) (after_damage Dropped)
MakesOne (one.Flip node name index at) = Asks (on_node node (nodes.flips name index at)) (after_damage Flipped)
MakesOne (one.Lose node) = Loses node
MakesOne (one.Close lease) = AsksDepot (depots.closes lease)

-- the answer of the job, by the reply
abbrev pub answer_of : Reply → Answer
answer_of (by_cache (caches.evicted n)) = Evicted n
answer_of (by_node nodes.dropped) = Dropped
answer_of (by_node nodes.flipped) = Flipped
answer_of (by_node (nodes.lost n)) = Lost n
answer_of (by_node nodes.absent) = NoStripe
answer_of (by_depot depots.closed) = Closed
answer_of reply = Memory

pub data Need : Type 0 where
  asking : Need
  ended : (answer : Answer) → Need

pub record Progress : Type 0 where
  pub single : Single
  pub need : Need
  pub ready : Bool  -- the call is prepared, or the end

-- The job stands for these steps: none, or its walk.
abbrev pub Stands : Single → Need → List Step → Type 0
Stands single asking steps = steps ≡ []
Stands single (ended answer) steps = MakesOne single steps answer

abbrev pub StandsFor : Progress → List Step → Type 0
StandsFor p steps = Stands p.single p.need steps

abbrev pub IsFront : Single → List Step → Type 0
IsFront single steps = stands.IsFront (MakesOne single) steps

abbrev pub asked : Single → Need → Asked
asked single asking = a_call (call_of single)
asked single (ended answer) = an_end answer

-- the lease is out
abbrev pub AdmitsOne : Single → Reply → Type 0
AdmitsOne (one.Close lease) (by_depot depots.no_lease) = ⊥
AdmitsOne single reply = Answers (call_of single) reply

-- The replies that `take` admits: those that the called object gives by its table, while the lease is out.
abbrev pub Admits : Single → Need → Reply → Type 0
Admits single asking reply = AdmitsOne single reply
Admits single (ended answer) reply = ⊥

-- what the job needs after a reply
abbrev pub advanced : Reply → Need
advanced reply = ended (answer_of reply)

abbrev pub steps_left : Need → ℕ
steps_left asking = 1
steps_left (ended answer) = 0

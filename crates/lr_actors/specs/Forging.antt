-- A forging under way, as contracts see it.
use Rattle.std.specs.Prelude.{◌≡◌, ◌⊎◌, ◌+◌, ℕ, List, [], ◌∷◌, length, map, Bool, Option, ⊤}
use Rattle.std.specs.Arc.{arc_value}
use Rattle.std.specs.List.{AllByRecursion, AllZip}
use Rattle.lr_manifest.specs.declared.name.Name.{Name}
use Rattle.lr_stripe.specs.declared.stripe.Stripe.{Stripe}
use Rattle.lr_walk.specs.declared.trail.Answer.{Answer}
use Rattle.lr_walk.specs.declared.trail.Answer.TheVariants.{Forged, Memory}
use Rattle.lr_walk.specs.Walk.{Walks, Ends}
use Rattle.lr_walk.specs.Stands as stands
use Rattle.lr_walk.specs.Steps.{Call, on_node, Reply, by_node, Step}
use Rattle.lr_walk.specs.Stripes.{node_at}
use Rattle.lr_walk.specs.Damage.{IsForged, forged_so_far, PutsForged, Forges}
use Rattle.lr_walk.specs.Node as nodes
use Rattle.lr_actors.specs.declared.action.JobAction.{JobAction}
use Rattle.lr_actors.specs.declared.forge.ForgeStage.{ForgeStage}
use Rattle.lr_actors.specs.declared.forge.ForgeStage.TheVariants as stage
use Rattle.lr_actors.specs.declared.forge.ForgeTurn.{ForgeTurn}
use Rattle.lr_actors.specs.Asked.{Asked, a_call, an_end, Hands, MayBeMade}
use Rattle.lr_actors.specs.Kept.{IsPrepared}

-- the bytes are those of a chunk, and all zeros
pub record AreZeros (bytes : List ℕ) : Type 0 where
  pub zeros : AllByRecursion (λ (b : ℕ). b ≡ 0) bytes
  pub long : length bytes ≡ 524288

-- among so many nodes, under the name of a chunk
pub record Target : Type 0 where
  pub nodes : ℕ
  pub name : Name

-- What a forging needs next: this stripe put, with the answer that the puts so far make; or nothing more.
pub data Need : Type 0 where
  putting : (stripe : Stripe) (more : List Stripe) (answer : Answer) → Need
  ended : (answer : Answer) → Need

pub record Progress : Type 0 where
  pub target : Target
  pub need : Need
  pub ready : Bool  -- a call is prepared, or the end

abbrev pub Forging : Target → Walks Step Answer
Forging t = Forges t.nodes t.name

-- what may still come
abbrev pub Rest : Target → Need → Walks Step Answer
Rest t (putting stripe more answer) = PutsForged t.nodes t.name (stripe ∷ more) answer
Rest t (ended answer) = Ends answer

-- The forging stands for these steps: with what may still come they are a walk.
abbrev pub StandsFor : Progress → List Step → Type 0
StandsFor p steps = stands.Stands (Forging p.target) (Rest p.target) p.need steps

abbrev pub IsFront : Target → List Step → Type 0
IsFront t steps = stands.IsFront (Forging t) steps

abbrev pub put_of : Target → Stripe → Call
put_of t stripe = on_node (node_at t.name stripe.index t.nodes) (nodes.puts stripe)

abbrev pub asked : Target → Need → Asked
asked t (putting stripe more answer) = a_call (put_of t stripe)
asked t (ended answer) = an_end answer

-- the replies that `take` admits: those of a node to a put
abbrev pub Admits : Need → Reply → Type 0
Admits (putting stripe more answer) (by_node nodes.kept) = ⊤
Admits (putting stripe more answer) (by_node nodes.memory) = ⊤
Admits need reply = ⊥

-- what a forging needs after a reply
abbrev pub advanced : Need → Reply → Need
advanced (putting stripe [] answer) reply = ended (forged_so_far answer reply)
advanced (putting stripe (following ∷ more) answer) reply = putting following more (forged_so_far answer reply)
advanced (ended answer) reply = ended answer

abbrev pub steps_left : Need → ℕ
steps_left (putting stripe more answer) = length more + 1
steps_left (ended answer) = 0

-- the first of five forged stripes is put, or no memory is found
abbrev pub Begins : Target → Need → Type 0
Begins t need =
    ((stripe : Stripe) × (more : List Stripe) × AllZip (IsForged t.name) (0 ∷ 1 ∷ 2 ∷ 3 ∷ 4 ∷ []) (stripe ∷ more) × (need ≡ putting stripe more Forged))
    ⊎ (need ≡ ended Memory)

-- ---- what the machine keeps

abbrev pub need_of : ForgeStage → Need
need_of (stage.Puts stripe more answer) = putting stripe.value (map arc_value more.items) answer
need_of (stage.Ends answer) = ended answer.value

-- a stage with its call prepared
pub record IsTurn (t : Target) (turn : ForgeTurn) : Type 0 where
  pub prepared : Hands turn.ready (asked t (need_of turn.stage))
  pub may : MayBeMade turn.ready

abbrev pub IsReady : Target → ForgeStage → Option JobAction → Type 0
IsReady t s ready = IsPrepared (asked t (need_of s)) ready

-- A load under way, as contracts see it.
use Rattle.std.specs.Prelude.{◌≡◌, ◌⊎◌, ◌≤◌, ℕ, zero, suc, ◌+◌, ◌-◌, List, [], ◌∷◌, ◌++◌, length, Bool, true, MatchBool, ⊤}
use Rattle.lr_manifest.specs.Chunk.{is_named}
use Rattle.lr_stripe.specs.declared.stripe.Stripe.{Stripe}
use Rattle.lr_walk.specs.declared.place.LoadPlace.{LoadPlace}
use Rattle.lr_walk.specs.Walk.{Walks, Ends}
use Rattle.lr_walk.specs.Stands.{Stands}
use Rattle.lr_walk.specs.Stands as stands
use Rattle.lr_walk.specs.Steps.{Call, on_cache, Reply, by_cache, by_node, by_depot, Step, step, Answers}
use Rattle.lr_walk.specs.Stripes.{IsRebuilt, AreStripesOf}
use Rattle.lr_walk.specs.Load.{Ending, with_chunk, with_reply, with_memory, look_of, get_of, fetch_of, put_of, fill_of, give_up_of, Gives, Fills, Puts, Fetches, IsNotRebuilt, held_after, is_enough, Gets, Loads}
use Rattle.lr_walk.specs.Depot as depots
use Rattle.lr_walk.specs.Cache as caches
use Rattle.lr_walk.specs.Node as nodes

-- what a load needs next
pub data Need : Type 0 where
  looking : Need
  asking : (left : ℕ) (held : List Stripe) → Need  -- so many more after this one
  fetching : Need
  putting : (chunk : List ℕ) (stripe : Stripe) (more : List Stripe) → Need
  filling : (chunk : List ℕ) → Need
  giving : (end : Ending) → Need
  ended : (end : Ending) → Need

pub record Progress : Type 0 where
  pub place : LoadPlace
  pub need : Need
  pub ready : Bool  -- a call is prepared, or the end

-- a new load
abbrev pub start : LoadPlace → Progress
start place = record { place = place; need = looking; ready = true }

-- what may still come
abbrev pub Rest : LoadPlace → Need → Walks Step Ending
Rest place looking = Loads place
Rest place (asking left held) = Gets place (suc left) held
Rest place fetching = Fetches place
Rest place (putting chunk stripe more) = Puts place chunk (stripe ∷ more)
Rest place (filling chunk) = Fills place chunk
Rest place (giving end) = Gives place end
Rest place (ended end) = Ends end

-- The load stands for these steps: with what may still come they are a walk.
abbrev pub StandsFor : Progress → List Step → Type 0
StandsFor p steps = Stands (Loads p.place) (Rest p.place) p.need steps

-- the steps are a walk of the load, or the front of one
abbrev pub IsFront : LoadPlace → List Step → Type 0
IsFront place steps = stands.IsFront (Loads place) steps

-- the call of a need, or what the load ends with
pub data Asked : Type 0 where
  a_call : (call : Call) → Asked
  an_end : (end : Ending) → Asked

abbrev pub asked : LoadPlace → Need → Asked
asked place looking = a_call (look_of place)
asked place (asking left held) = a_call (get_of place (4 - left))
asked place fetching = a_call (fetch_of place)
asked place (putting chunk stripe more) = a_call (put_of place stripe)
asked place (filling chunk) = a_call (fill_of place chunk)
asked place (giving end) = a_call (give_up_of place)
asked place (ended end) = an_end end

-- ---- which replies are taken

abbrev pub AnswersAsked : Asked → Reply → Type 0
AnswersAsked (a_call call) reply = Answers call reply
AnswersAsked (an_end end) reply = ⊥

-- The claim that the load speaks of is out, and no other one: and so its end takes no memory.
abbrev pub HasClaim : Need → Reply → Type 0
HasClaim need (by_cache caches.held) = ⊥
HasClaim need (by_cache caches.no_claim) = ⊥
HasClaim (giving end) (by_cache caches.memory) = ⊥
HasClaim need reply = ⊤

-- a chunk that is fetched is of the name asked for
abbrev pub HasName : LoadPlace → Reply → Type 0
HasName place (by_depot (depots.fetched name)) = name ≡ place.name.bytes
HasName place reply = ⊤

-- the replies that `take` admits: those that the called object gives by its table, while the load has its claim
pub record Admits (place : LoadPlace) (need : Need) (reply : Reply) : Type 0 where
  pub answers : AnswersAsked (asked place need) reply
  pub claim : HasClaim need reply
  pub named : HasName place reply

-- ---- what a load needs after a reply

-- it found no memory itself, and gives its claim up
abbrev pub IsShort : Need → Type 0
IsShort new = new ≡ giving with_memory

-- All were asked, or four good ones are in hand: the chunk that they are rebuilt to is put into the cache where it has the name, else the depot is asked.
abbrev pub Rebuilt : LoadPlace → List Stripe → Need → Type 0
Rebuilt place held new =
    ((chunk : List ℕ) × IsRebuilt held chunk × (is_named place.name chunk ≡ true) × (new ≡ filling chunk))
    ⊎ ((IsNotRebuilt place held × (new ≡ fetching)) ⊎ IsShort new)

-- after a Get with so many left
abbrev pub AfterGet : LoadPlace → ℕ → List Stripe → Need → Type 0
AfterGet place zero held new = Rebuilt place held new
AfterGet place (suc left) held new = MatchBool (is_enough held) (Rebuilt place held new) (new ≡ asking left held)

-- the first of all stripes of the chunk is put back next
abbrev pub PutsFirst : List ℕ → Need → Type 0
PutsFirst chunk new = (stripe : Stripe) × (more : List Stripe) × AreStripesOf chunk (stripe ∷ more) × (new ≡ putting chunk stripe more)

-- What the load needs after a reply; of a fetched chunk its bytes are given too. Busy leaves the need.
abbrev pub Next : LoadPlace → Need → Reply → List ℕ → Need → Type 0
Next place looking (by_cache (caches.hit chunk)) fetched new = new ≡ ended (with_chunk chunk)
Next place looking (by_cache caches.lead) fetched new = (new ≡ asking 4 []) ⊎ IsShort new
Next place looking (by_cache (caches.busy holder)) fetched new = new ≡ looking
Next place looking reply fetched new = new ≡ ended with_memory
Next place (asking left held) reply fetched new = AfterGet place left (held_after place (4 - left) reply held) new
Next place fetching (by_depot (depots.fetched name)) fetched new = PutsFirst fetched new ⊎ IsShort new
Next place fetching (by_depot depots.memory) fetched new = new ≡ giving with_memory
Next place fetching (by_depot reply) fetched new = new ≡ giving (with_reply reply)
Next place fetching reply fetched new = new ≡ giving with_memory
Next place (putting chunk stripe []) reply fetched new = new ≡ filling chunk
Next place (putting chunk stripe (following ∷ more)) reply fetched new = new ≡ putting chunk following more
Next place (filling chunk) (by_cache caches.filled) fetched new = new ≡ ended (with_chunk chunk)
Next place (filling chunk) reply fetched new = new ≡ giving (with_chunk chunk)
Next place (giving end) reply fetched new = new ≡ ended end
Next place (ended end) reply fetched new = ⊥

-- the steps with the call asked and its reply; Busy adds nothing
abbrev pub with_step : List Step → Asked → Reply → List Step
with_step steps a (by_cache (caches.busy holder)) = steps
with_step steps (a_call call) reply = steps ++ step call reply ∷ []
with_step steps (an_end end) reply = steps

-- ---- how many steps may still come

abbrev pub steps_left : Need → ℕ
steps_left looking = 14
steps_left (asking left held) = left + 9
steps_left fetching = 8
steps_left (putting chunk stripe more) = length more + 3
steps_left (filling chunk) = 2
steps_left (giving end) = 1
steps_left (ended end) = 0

-- each step brings the load nearer to its end, but Busy
abbrev pub Nears : Reply → Need → Need → Type 0
Nears (by_cache (caches.busy holder)) old new = steps_left new ≤ steps_left old
Nears reply old new = steps_left new + 1 ≤ steps_left old

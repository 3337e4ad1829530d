-- The walk of a load: which finished lists of calls with their replies it may make, and what it then ends with.
use Rattle.std.specs.Prelude.{◌≡◌, ℕ, zero, suc, ◌-◌, List, [], ◌∷◌, ◌++◌, length, Bool, true, false, cond, nat_le}
use Rattle.sha2.specs.Sha256.{sha256}
use Rattle.lr_manifest.specs.Chunk.{is_named}
use Rattle.lr_stripe.specs.declared.stripe.Stripe.{Stripe}
use Rattle.lr_walk.specs.declared.place.LoadPlace.{LoadPlace}
use Rattle.lr_walk.specs.Walk.{Walks, Ends, Never, Or, Choose}
use Rattle.lr_walk.specs.Steps.{Call, on_cache, on_node, on_depot, Reply, by_cache, by_node, by_depot, Step, Asks}
use Rattle.lr_walk.specs.Stripes.{node_at, is_good, IsRebuilt, AreStripesOf}
use Rattle.lr_walk.specs.Depot as depots
use Rattle.lr_walk.specs.Cache as caches
use Rattle.lr_walk.specs.Node as nodes

-- what a load ends with: its chunk, the depot's answer that ended it, or want of memory
pub data Ending : Type 0 where
  with_chunk : (chunk : List ℕ) → Ending
  with_reply : (reply : depots.Reply) → Ending
  with_memory : Ending

-- ---- the calls

-- the node that a stripe of the name stands on
abbrev pub node_of : LoadPlace → ℕ → ℕ
node_of place index = node_at place.name index place.nodes

abbrev pub look_of : LoadPlace → Call
look_of place = on_cache place.host (caches.looks place.name)

abbrev pub get_of : LoadPlace → ℕ → Call
get_of place index = on_node (node_of place index) (nodes.gets place.name index)

abbrev pub fetch_of : LoadPlace → Call
fetch_of place = on_depot (depots.fetches place.lease place.index)

abbrev pub put_of : LoadPlace → Stripe → Call
put_of place s = on_node (node_of place s.index) (nodes.puts s)

abbrev pub fill_of : LoadPlace → List ℕ → Call
fill_of place chunk = on_cache place.host (caches.fills chunk)

abbrev pub give_up_of : LoadPlace → Call
give_up_of place = on_cache place.host caches.gives_up

-- ---- the walk, from its end

-- the claim is given up, and the load ends so
abbrev pub after_give_up : Ending → Reply → Walks Step Ending
after_give_up end (by_cache caches.given) = Ends end
after_give_up end reply = Never

abbrev pub Gives : LoadPlace → Ending → Walks Step Ending
Gives place end = Asks (give_up_of place) (after_give_up end)

-- The chunk is put into the cache. Where the cache finds no memory the claim is given up, and the load still ends with the chunk.
abbrev pub after_fill : LoadPlace → List ℕ → Reply → Walks Step Ending
after_fill place chunk (by_cache caches.filled) = Ends (with_chunk chunk)
after_fill place chunk (by_cache caches.memory) = Gives place (with_chunk chunk)
after_fill place chunk reply = Never

abbrev pub Fills : LoadPlace → List ℕ → Walks Step Ending
Fills place chunk = Asks (fill_of place chunk) (after_fill place chunk)

-- these stripes are put back, whether or not their nodes find memory, and then the chunk is put into the cache
abbrev pub Puts : LoadPlace → List ℕ → List Stripe → Walks Step Ending
Puts place chunk [] = Fills place chunk
Puts place chunk (s ∷ more) = Asks (put_of place s) (λ _. Puts place chunk more)

-- all five stripes of some chunk of the name told are put back
abbrev pub PutsBack : LoadPlace → List ℕ → Walks Step Ending
PutsBack place name steps ending =
    (chunk : List ℕ) × (stripes : List Stripe) × (name ≡ place.name.bytes) × (sha256 chunk ≡ name) × AreStripesOf chunk stripes × Puts place chunk stripes steps ending

-- The depot was asked. Where the load itself then finds no memory it gives up its claim; after another answer than a chunk it finds none to want.
abbrev pub after_fetch : LoadPlace → Reply → Walks Step Ending
after_fetch place (by_depot (depots.fetched name)) = Or (PutsBack place name) (Gives place with_memory)
after_fetch place (by_depot depots.memory) = Gives place with_memory
after_fetch place (by_depot reply) = Gives place (with_reply reply)
after_fetch place reply = Never

abbrev pub Fetches : LoadPlace → Walks Step Ending
Fetches place = Asks (fetch_of place) (after_fetch place)

-- the stripes in hand are rebuilt to a chunk of the name, which is put into the cache
abbrev pub FillsRebuilt : LoadPlace → List Stripe → Walks Step Ending
FillsRebuilt place held steps ending = (chunk : List ℕ) × IsRebuilt held chunk × (is_named place.name chunk ≡ true) × Fills place chunk steps ending

-- they aren't rebuilt to a chunk of the name: they are fewer than four, or those of another chunk
abbrev pub IsNotRebuilt : LoadPlace → List Stripe → Type 0
IsNotRebuilt place held = (chunk : List ℕ) → IsRebuilt held chunk → is_named place.name chunk ≡ false

-- and the depot is asked
abbrev pub FetchesInstead : LoadPlace → List Stripe → Walks Step Ending
FetchesInstead place held steps ending = IsNotRebuilt place held × Fetches place steps ending

abbrev pub Rebuilds : LoadPlace → List Stripe → Walks Step Ending
Rebuilds place held = Or (FillsRebuilt place held) (Or (FetchesInstead place held) (Gives place with_memory))

-- the good stripes in hand after a reply
abbrev pub held_after : LoadPlace → ℕ → Reply → List Stripe → List Stripe
held_after place index (by_node (nodes.found s)) held = cond (is_good place.name index s) (held ++ s ∷ []) held
held_after place index reply held = held

-- four are in hand
abbrev pub is_enough : List Stripe → Bool
is_enough held = nat_le 4 (length held)

-- The stripes 5 - left, 6 - left, .. are asked of their nodes, until four good ones are in hand or all five were asked.
abbrev pub Gets : LoadPlace → ℕ → List Stripe → Walks Step Ending
Gets place zero held = Rebuilds place held
Gets place (suc left) held =
    Asks (get_of place (4 - left)) (λ reply. let now = held_after place (4 - left) reply held in Choose (is_enough now) (Rebuilds place now) (Gets place left now))

-- The cache was asked. With the claim the load asks the nodes; where it finds no memory to do so it gives the claim up.
abbrev pub after_look : LoadPlace → Reply → Walks Step Ending
after_look place (by_cache (caches.hit chunk)) = Ends (with_chunk chunk)
after_look place (by_cache caches.lead) = Or (Gets place 5 []) (Gives place with_memory)
after_look place (by_cache caches.memory) = Ends with_memory
after_look place reply = Never

-- a load
abbrev pub Loads : LoadPlace → Walks Step Ending
Loads place = Asks (look_of place) (after_look place)

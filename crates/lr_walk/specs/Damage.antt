-- The walks of jobs that evict a cache or damage stripes.
use Rattle.std.specs.Prelude.{◌≡◌, ℕ, List, [], ◌∷◌, Some, None, slice_get, length}
use Rattle.std.specs.List.{AllByRecursion, AllZip}
use Rattle.sha2.specs.Sha256.{sha256}
use Rattle.lr_manifest.specs.declared.name.Name.{Name}
use Rattle.lr_stripe.specs.declared.stripe.Stripe.{Stripe}
use Rattle.lr_stripe.specs.Code.{IsStripe}
use Rattle.lr_walk.specs.declared.trail.Answer.{Answer}
use Rattle.lr_walk.specs.declared.trail.Answer.TheVariants.{Evicted, Dropped, Flipped, Forged, Lost, NoStripe, NoChunk, Memory}
use Rattle.lr_walk.specs.Walk.{Walks, Ends, Never, Or}
use Rattle.lr_walk.specs.Steps.{Call, on_cache, on_node, Reply, by_cache, by_node, Step, Asks}
use Rattle.lr_walk.specs.Stripes.{node_at}
use Rattle.lr_walk.specs.Calls.{DevicePlace}
use Rattle.lr_walk.specs.Cache as caches
use Rattle.lr_walk.specs.Node as nodes

-- one call, with the answer of its reply
abbrev pub after_evict : Reply → Walks Step Answer
after_evict (by_cache (caches.evicted n)) = Ends (Evicted n)
after_evict (by_cache caches.memory) = Ends Memory
after_evict reply = Never

-- a host's cache is emptied
abbrev pub Evicts : ℕ → Walks Step Answer
Evicts host = Asks (on_cache host caches.evicts) after_evict

abbrev pub after_loss : Reply → Walks Step Answer
after_loss (by_node (nodes.lost n)) = Ends (Lost n)
after_loss (by_node nodes.memory) = Ends Memory
after_loss reply = Never

-- a node loses its stripes
abbrev pub Loses : ℕ → Walks Step Answer
Loses node = Asks (on_node node nodes.loses) after_loss

-- Damage to a chunk of a device, by its number: past the device's chunks nothing is done.
abbrev pub Damages : DevicePlace → ℕ → (Name → Walks Step Answer) → Walks Step Answer
Damages place i more steps answer =
    ((name : Name) → slice_get place.names i ≡ Some name → more name steps answer) × (slice_get place.names i ≡ None → Ends {S = Step} NoChunk steps answer)

abbrev pub after_damage : Answer → Reply → Walks Step Answer
after_damage answer (by_node nodes.dropped) = Ends answer
after_damage answer (by_node nodes.flipped) = Ends answer
after_damage answer (by_node nodes.absent) = Ends NoStripe
after_damage answer (by_node nodes.memory) = Ends Memory
after_damage answer reply = Never

-- a stripe of a chunk is dropped
abbrev pub DropsStripe : ℕ → ℕ → Name → Walks Step Answer
DropsStripe count index name = Asks (on_node (node_at name index count) (nodes.drops name index)) (after_damage Dropped)

-- a bit of a stripe is changed
abbrev pub FlipsStripe : ℕ → ℕ → ℕ → Name → Walks Step Answer
FlipsStripe count index at name = Asks (on_node (node_at name index count) (nodes.flips name index at)) (after_damage Flipped)

-- The stripe has this name and index, and else is that of a chunk of zeros; its digest is that of its bytes.
pub record IsForged (name : Name) (index : ℕ) (s : Stripe) : Type 0 where
  pub its_name : s.name ≡ name
  pub its_index : s.index ≡ index
  pub long : length s.bytes ≡ 131072
  pub its_digest : s.digest ≡ sha256 s.bytes
  pub bytes : (zeros : List ℕ) → length zeros ≡ 524288 → AllByRecursion (λ (b : ℕ). b ≡ 0) zeros → IsStripe 4 zeros index s.bytes

-- the answer of a forging, after one more reply
abbrev pub forged_so_far : Answer → Reply → Answer
forged_so_far answer (by_node nodes.kept) = answer
forged_so_far answer reply = Memory

-- these stripes are put, whether or not their nodes find memory
abbrev pub PutsForged : ℕ → Name → List Stripe → Answer → Walks Step Answer
PutsForged count name [] answer = Ends answer
PutsForged count name (s ∷ more) answer =
    Asks (on_node (node_at name s.index count) (nodes.puts s)) (λ reply. PutsForged count name more (forged_so_far answer reply))

abbrev pub PutsAll : ℕ → Name → Walks Step Answer
PutsAll count name steps answer =
    (stripes : List Stripe) × AllZip (IsForged name) (0 ∷ 1 ∷ 2 ∷ 3 ∷ 4 ∷ []) stripes × PutsForged count name stripes Forged steps answer

-- Five forged stripes are put under a chunk's name. Where the actor itself finds no memory it makes no step.
abbrev pub Forges : ℕ → Name → Walks Step Answer
Forges count name = Or (PutsAll count name) (Ends Memory)

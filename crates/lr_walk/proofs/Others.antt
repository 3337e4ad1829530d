-- the replies of caches and nodes as plain data
use Rattle.std.proofs.Common.{◌≡◌, ℕ, List, [], ◌∷◌, true, false, Bool, refl, ap, ◌∙◌, sym, find, Option, Some, cond}
use Rattle.std.specs.Arc.{arc_value}
use Rattle.std.proofs.lemmas.Slice.Eq.{bytes_eq-Decides}
use Rattle.std.proofs.lemmas.Option.{none-some}
use Rattle.sha2.specs.Sha256.{sha256}
use Rattle.lr_manifest.specs.Chunk.{is_named}
use Rattle.lr_cache.specs.declared.call.CacheCall.{CacheCall}
use Rattle.lr_cache.specs.declared.call.CacheCall.TheVariants.{Look, Fill, GiveUp, Evict, Reap}
use Rattle.lr_cache.specs.declared.call.CacheReply.{CacheReply}
use Rattle.lr_cache.specs.declared.call.CacheReply.TheVariants.{Held, Hit, Busy, Lead, NoClaim, Filled, Given, Evicted, Reaped, Nothing, OutOfMemory}
use Rattle.lr_cache.specs.Machine as cache
use Rattle.lr_stripe.specs.declared.stripe.Stripe.{Stripe}
use Rattle.lr_nodes.specs.declared.call.NodeCall.{NodeCall}
use Rattle.lr_nodes.specs.declared.call.NodeCall.TheVariants as asked
use Rattle.lr_nodes.specs.declared.call.NodeReply.{NodeReply}
use Rattle.lr_nodes.specs.declared.call.NodeReply.TheVariants as by
use Rattle.lr_nodes.specs.Machine as node
use Rattle.lr_nodes.specs.Stripes.{is_at}
use Rattle.lr_walk.specs.Cache as caches
use Rattle.lr_walk.specs.Node as nodes

some_of : {X : Type 0} (x y : X) → Some x ≡ Some y → x ≡ y
some_of x y e = cc

-- what is found passes
found_first : {X : Type 0} (p : X → Bool) (y x : X) (rest : Option X) (b : Bool) → p y ≡ b → (rest ≡ Some x → p x ≡ true) → cond b (Some y) rest ≡ Some x → p x ≡ true
found_first p y x rest true h on e = ap p (some_of x y (sym e)) ∙ h
found_first p y x rest false h on e = on e

found_passes : {X : Type 0} (p : X → Bool) (xs : List X) (x : X) → find p xs ≡ Some x → p x ≡ true
found_passes p [] x e = absurd (none-some x e)
found_passes p (y ∷ xs) x e = found_first p y x (find p xs) (p y) refl (found_passes p xs x) e

pub cache_answers : (st : cache.State) (c : ℕ) (call : CacheCall) (reply : CacheReply) → cache.CacheStep st c call reply → caches.Answers (caches.seen_call call) (caches.seen_reply reply)
cache_answers st c (Look name) Held d = tt
cache_answers st c (Look name) (Hit chunk) d =
    (bytes_eq-Decides (sha256 (arc_value chunk)) name.bytes).0 (found_passes (is_named name) st.chunks (arc_value chunk) d.1)
cache_answers st c (Look name) (Busy holder) d = tt
cache_answers st c (Look name) Lead d = tt
cache_answers st c (Look name) OutOfMemory d = tt
cache_answers st c (Look name) reply d = absurd d
cache_answers st c (Fill chunk) NoClaim d = tt
cache_answers st c (Fill chunk) Filled d = tt
cache_answers st c (Fill chunk) OutOfMemory d = tt
cache_answers st c (Fill chunk) reply d = absurd d
cache_answers st c GiveUp NoClaim d = tt
cache_answers st c GiveUp Given d = tt
cache_answers st c GiveUp OutOfMemory d = tt
cache_answers st c GiveUp reply d = absurd d
cache_answers st c Evict (Evicted n) d = tt
cache_answers st c Evict OutOfMemory d = tt
cache_answers st c Evict reply d = absurd d
cache_answers st c Reap Reaped d = tt
cache_answers st c Reap Nothing d = tt
cache_answers st c Reap OutOfMemory d = tt
cache_answers st c Reap reply d = absurd d

cache_told : (reply told : CacheReply) → cache.SameReply told reply → caches.seen_reply told ≡ caches.seen_reply reply
cache_told (Hit a) (Hit b) h = ap caches.hit h
cache_told reply (Hit b) h = absurd h
cache_told reply told h = ap caches.seen_reply h

pub cache_step : (call : CacheCall) (reply : CacheReply) (e : cache.LogEntry) → cache.Enters call reply e → caches.step_of e ≡ caches.step (caches.seen_call call) (caches.seen_reply reply)
cache_step call reply e enters = λ i. caches.step (caches.seen_call (enters.noted i)) (cache_told reply e.reply enters.told i)

pub node_answers : (stripes : List Stripe) (call : NodeCall) (reply : NodeReply) → node.NodeStep stripes call reply → nodes.Answers (nodes.seen_call call) (nodes.seen_reply reply)
node_answers stripes (asked.Get name index) (by.Found s) d = found_passes (is_at name index) stripes (arc_value s) d
node_answers stripes (asked.Get name index) by.Absent d = tt
node_answers stripes (asked.Get name index) by.OutOfMemory d = tt
node_answers stripes (asked.Get name index) reply d = absurd d
node_answers stripes (asked.Put s) by.Kept d = tt
node_answers stripes (asked.Put s) by.OutOfMemory d = tt
node_answers stripes (asked.Put s) reply d = absurd d
node_answers stripes (asked.Drop name index) by.Dropped d = tt
node_answers stripes (asked.Drop name index) by.Absent d = tt
node_answers stripes (asked.Drop name index) by.OutOfMemory d = tt
node_answers stripes (asked.Drop name index) reply d = absurd d
node_answers stripes (asked.Flip name index at) by.Flipped d = tt
node_answers stripes (asked.Flip name index at) by.Absent d = tt
node_answers stripes (asked.Flip name index at) by.OutOfMemory d = tt
node_answers stripes (asked.Flip name index at) reply d = absurd d
node_answers stripes asked.Lose (by.Lost n) d = tt
node_answers stripes asked.Lose by.OutOfMemory d = tt
node_answers stripes asked.Lose reply d = absurd d

node_told : (reply told : NodeReply) → node.SameReply told reply → nodes.seen_reply told ≡ nodes.seen_reply reply
node_told (by.Found a) (by.Found b) h = ap nodes.found h
node_told reply (by.Found b) h = absurd h
node_told reply told h = ap nodes.seen_reply h

pub node_step : (call : NodeCall) (reply : NodeReply) (e : node.LogEntry) → node.Enters call reply e → nodes.step_of e ≡ nodes.step (nodes.seen_call call) (nodes.seen_reply reply)
node_step call reply e enters = λ i. nodes.step (nodes.seen_call (enters.noted i)) (node_told reply e.reply enters.told i)

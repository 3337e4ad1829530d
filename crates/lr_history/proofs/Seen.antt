-- Trails over a table of jobs are trails over what is seen of them.
use Rattle.std.proofs.Common.{◌≡◌, ℕ, List, [], ◌∷◌, ◌++◌, map, Some, None, slice_get, Option, refl, sym, subst, inl, inr}
use Rattle.std.specs.List.{AllZip}
use Rattle.lr_manifest.specs.declared.name.Name.{Name}
use Rattle.lr_stripe.specs.declared.stripe.Stripe.{Stripe}
use Rattle.lr_walk.specs.declared.trail.Answer.{Answer}
use Rattle.lr_walk.specs.declared.trail.Answer.TheVariants.{Cut, Unbegun, Forged, Dropped, Flipped}
use Rattle.lr_walk.specs.declared.trail.JobResult.{JobResult}
use Rattle.lr_walk.specs.Walk.{Walks, Ends}
use Rattle.lr_walk.specs.Steps.{Call, on_cache, on_node, on_depot, Reply, by_cache, by_node, by_depot, Step, Asks}
use Rattle.lr_walk.specs.Stripes.{node_at}
use Rattle.lr_walk.specs.Cache as caches
use Rattle.lr_walk.specs.Node as nodes
use Rattle.lr_walk.specs.Depot as depots
use Rattle.lr_walk.specs.Calls.{DevicePlace}
use Rattle.lr_walk.specs.Damage.{after_evict, after_loss, Damages, after_damage, DropsStripe, FlipsStripe, forged_so_far, PutsForged, Forges}
use Rattle.lr_walk.specs.Jobs.{Context, Job, after_depot, AsksDepot, WalksJob, IsWalk}
use Rattle.lr_walk.specs.Jobs as table
use Rattle.lr_walk.specs.Trails.{Lists, Reads}
use Rattle.lr_history.specs.Jobs.{JobSeen, IsApart, IsAnother, StaysApart, WalksSeen, OrCut, HasTrailOf, HasTrailSeen, IsSeenAs, job_seen, OwnTrailIsSeen}
use Rattle.lr_history.proofs.Facts.{asked}

-- ---- any table

module _ {J : Type 0} (walks : J → Walks Step Answer) (context : Context) (seen : J → JobSeen) (is : IsSeenAs walks context seen) where
  one_seen : (job : J) (steps : List Step) (answer : Answer) → OrCut walks job steps answer → OrCut (WalksSeen context) (seen job) steps answer
  one_seen job steps Cut w = (w.0, w.1, w.2, w.3, w.4, w.5, is job (steps ++ w.2 ∷ w.3) w.4 w.6)
  one_seen job steps Unbegun w = w
  one_seen job steps answer w = is job steps answer w

  walks_seen : (lists : Lists) (jobs : List J) (results : List JobResult)
      → AllZip (λ (job : J) (r : JobResult). (steps : List Step) × Reads lists r.path.items steps × OrCut walks job steps r.answer) jobs results
      → AllZip (λ (job : JobSeen) (r : JobResult). (steps : List Step) × Reads lists r.path.items steps × OrCut (WalksSeen context) job steps r.answer) (map seen jobs) results
  walks_seen lists [] [] h = tt
  walks_seen lists [] (r ∷ results) h = absurd h
  walks_seen lists (job ∷ jobs) [] h = absurd h
  walks_seen lists (job ∷ jobs) (r ∷ results) h =
      ((h.0.0, h.0.1, one_seen job h.0.0 r.answer h.0.2), walks_seen lists jobs results h.1)

  pub trail_seen : (lists : Lists) (jobs : List J) (results : List JobResult) → HasTrailOf (OrCut walks) lists jobs results → HasTrailSeen context lists (map seen jobs) results
  trail_seen lists jobs results h = record { walks = walks_seen lists jobs results h.walks; counted = h.counted; beyond = h.beyond }

-- ---- the table of calls of devices, damage, rotations and closings

-- one step that stays apart, and then the end
one_step : (call : Call) (after : Reply → Walks Step Answer) (steps : List Step) (answer : Answer) → IsApart call
    → ((reply : Reply) (tail : List Step) → after reply tail answer → (tail ≡ []) × IsAnother answer) → Asks call after steps answer → StaysApart steps answer
one_step call after steps answer h ends g =
    let w = asked call after steps answer g in
    let e = ends w.0 w.1 w.4 in
    (rw (w.2, e.0) (h, tt), e.1)

ended : (a answer : Answer) (tail : List Step) → IsAnother a → Ends {S = Step} a tail answer → (tail ≡ []) × IsAnother answer
ended a answer tail h e = (e.0, subst IsAnother (sym e.1) h)

evict_ends : (answer : Answer) (reply : Reply) (tail : List Step) → after_evict reply tail answer → (tail ≡ []) × IsAnother answer
evict_ends answer (by_cache (caches.evicted n)) tail r = ended _ answer tail tt r
evict_ends answer (by_cache caches.memory) tail r = ended _ answer tail tt r
evict_ends answer reply tail r = absurd r

loss_ends : (answer : Answer) (reply : Reply) (tail : List Step) → after_loss reply tail answer → (tail ≡ []) × IsAnother answer
loss_ends answer (by_node (nodes.lost n)) tail r = ended _ answer tail tt r
loss_ends answer (by_node nodes.memory) tail r = ended _ answer tail tt r
loss_ends answer reply tail r = absurd r

damage_ends : (a answer : Answer) → IsAnother a → (reply : Reply) (tail : List Step) → after_damage a reply tail answer → (tail ≡ []) × IsAnother answer
damage_ends a answer h (by_node nodes.dropped) tail r = ended a answer tail h r
damage_ends a answer h (by_node nodes.flipped) tail r = ended a answer tail h r
damage_ends a answer h (by_node nodes.absent) tail r = ended _ answer tail tt r
damage_ends a answer h (by_node nodes.memory) tail r = ended _ answer tail tt r
damage_ends a answer h reply tail r = absurd r

depot_ends : (answer : Answer) (reply : Reply) (tail : List Step) → after_depot reply tail answer → (tail ≡ []) × IsAnother answer
depot_ends answer (by_depot (depots.rotated root)) tail r = ended _ answer tail tt r
depot_ends answer (by_depot depots.roots_end) tail r = ended _ answer tail tt r
depot_ends answer (by_depot depots.closed) tail r = ended _ answer tail tt r
depot_ends answer (by_depot (depots.doubt key)) tail r = ended _ answer tail tt r
depot_ends answer (by_depot (depots.fault key)) tail r = ended _ answer tail tt r
depot_ends answer (by_depot (depots.spoiled key)) tail r = ended _ answer tail tt r
depot_ends answer (by_depot depots.memory) tail r = ended _ answer tail tt r
depot_ends answer reply tail r = absurd r

-- damage to a chunk: past the device's chunks nothing is done
damages : (place : DevicePlace) (i : ℕ) (more : Name → Walks Step Answer) (steps : List Step) (answer : Answer)
    → ((name : Name) → more name steps answer → StaysApart steps answer) → Damages place i more steps answer → StaysApart steps answer
damages place i more steps answer each w = by (slice_get place.names i) refl
  where
    by : (o : Option Name) → slice_get place.names i ≡ o → StaysApart steps answer
    by None e = let r = w.1 e in rw (r.0, r.1) (tt, tt)
    by (Some name) e = each name (w.0 name e)

forged_another : (answer : Answer) (reply : Reply) → IsAnother answer → IsAnother (forged_so_far answer reply)
forged_another answer (by_node nodes.kept) h = h
forged_another answer reply h = tt

forged : (count : ℕ) (name : Name) (stripes : List Stripe) (a : Answer) (steps : List Step) (answer : Answer) → IsAnother a → PutsForged count name stripes a steps answer → StaysApart steps answer
forged count name [] a steps answer h w = rw (w.0, w.1) (tt, h)
forged count name (s ∷ stripes) a steps answer h g =
    let w = asked (on_node (node_at name s.index count) (nodes.puts s)) (λ reply. PutsForged count name stripes (forged_so_far a reply)) steps answer g in
    let r = forged count name stripes (forged_so_far a w.0) w.1 answer (forged_another a w.0 h) w.4 in
    (rw w.2 (tt, r.0), r.1)

forges : (count : ℕ) (name : Name) (steps : List Step) (answer : Answer) → Forges count name steps answer → StaysApart steps answer
forges count name steps answer (inl w) = forged count name w.0 Forged steps answer tt w.2
forges count name steps answer (inr w) = rw (w.0, w.1) (tt, tt)

closes_apart : (place : DevicePlace) (steps : List Step) (answer : Answer) → AsksDepot (depots.closes place.lease) steps answer → StaysApart steps answer
closes_apart place steps answer w = one_step (on_depot (depots.closes place.lease)) after_depot steps answer tt (depot_ends answer) w

pub own_seen : (context : Context) → IsSeenAs (WalksJob context) context job_seen
own_seen context (table.calls device call) steps answer w = w
own_seen context (table.rotates salt) steps answer w = one_step (on_depot (depots.rotates salt)) after_depot steps answer tt (depot_ends answer) w
own_seen context (table.closes device) steps answer w = closes_apart w.0 steps answer w.2
own_seen context (table.evicts host) steps answer w = one_step (on_cache host caches.evicts) after_evict steps answer tt (evict_ends answer) w
own_seen context (table.drops_stripe index device chunk) steps answer w =
    damages w.0 chunk (DropsStripe context.nodes index) steps answer (λ name. one_step (on_node (node_at name index context.nodes) (nodes.drops name index)) (after_damage Dropped) steps answer tt (damage_ends Dropped answer tt)) w.2
own_seen context (table.flips_stripe index device chunk at) steps answer w =
    damages w.0 chunk (FlipsStripe context.nodes index at) steps answer (λ name. one_step (on_node (node_at name index context.nodes) (nodes.flips name index at)) (after_damage Flipped) steps answer tt (damage_ends Flipped answer tt)) w.2
own_seen context (table.forges device chunk) steps answer w = damages w.0 chunk (Forges context.nodes) steps answer (λ name. forges context.nodes name steps answer) w.2
own_seen context (table.loses node) steps answer w = one_step (on_node node nodes.loses) after_loss steps answer tt (loss_ends answer) w

-- ---- the trail of that table

or_cut : (context : Context) (job : Job) (steps : List Step) (answer : Answer) → IsWalk context job steps answer → OrCut (WalksJob context) job steps answer
or_cut context job steps Cut w = w
or_cut context job steps Unbegun w = w
or_cut context job steps answer w = w

each_or_cut : (context : Context) (lists : Lists) (jobs : List Job) (results : List JobResult)
    → AllZip (λ (job : Job) (r : JobResult). (steps : List Step) × Reads lists r.path.items steps × IsWalk context job steps r.answer) jobs results
    → AllZip (λ (job : Job) (r : JobResult). (steps : List Step) × Reads lists r.path.items steps × OrCut (WalksJob context) job steps r.answer) jobs results
each_or_cut context lists [] [] h = tt
each_or_cut context lists [] (r ∷ results) h = absurd h
each_or_cut context lists (job ∷ jobs) [] h = absurd h
each_or_cut context lists (job ∷ jobs) (r ∷ results) h =
    ((h.0.0, h.0.1, or_cut context job h.0.0 r.answer h.0.2), each_or_cut context lists jobs results h.1)

pub own_trail_seen : OwnTrailIsSeen
own_trail_seen context lists jobs results h =
    trail_seen (WalksJob context) context job_seen (own_seen context) lists jobs results
    (record { walks = each_or_cut context lists jobs results h.walks; counted = h.counted; beyond = h.beyond })

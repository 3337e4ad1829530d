-- How often the depot is asked for a name by the devices of a host.
use Rattle.std.specs.Prelude.{◌≡◌, ◌≢◌, ◌≤◌, ◌<◌, ℕ, ◌+◌, ◌/◌, List, length, filter, find, Bool, true, false, ◌&&◌, nat_eq, Option, Some, None, slice_get, ⊤}
use Rattle.std.specs.List.{AllByRecursion, Contains}
use Rattle.std.specs.Str.{bytes_eq}
use Rattle.lr_manifest.specs.declared.name.Name.{Name}
use Rattle.lr_object.specs.declared.id.ObjectId.TheVariants.{Cache, Depot}
use Rattle.lr_device.specs.declared.call.DeviceCall.{DeviceCall}
use Rattle.lr_device.specs.PlainDevice.{is_in_range}
use Rattle.lr_device.specs.Demand.{first_page, page_count}
use Rattle.lr_walk.specs.Steps.{by_cache, Step}
use Rattle.lr_walk.specs.Cache as caches
use Rattle.lr_walk.specs.Calls.{DevicePlace}
use Rattle.lr_walk.specs.Jobs.{Context}
use Rattle.lr_cache.specs.declared.call.CacheReply.{CacheReply}
use Rattle.lr_cache.specs.declared.call.CacheReply.TheVariants.{Evicted}
use Rattle.lr_cache.specs.Machine.{LogEntry, empty}
use Rattle.lr_claims.specs.Leads.{Keeps, givens}
use Rattle.lr_history.specs.Jobs.{calls}
use Rattle.lr_history.specs.Run.{DeviceSeen, CacheSeen, ActorSeen, Run}
use Rattle.lr_history.specs.Lists.{own, context_of}
use Rattle.lr_history.specs.Premises.{IsRun, AreDeviceLogs, AreCacheLogs, size_of}
use Rattle.lr_history.specs.Histories.{HaveOwnNumbers, total}
use Rattle.lr_history.specs.Told.{Fetched, fetched_in}

-- ---- fetches of a name by a host's devices

abbrev pub is_name_of : List ℕ → Option Name → Bool
is_name_of x None = false
is_name_of x (Some name) = bytes_eq name.bytes x

abbrev pub is_place_for : ℕ → List ℕ → ℕ → Option DevicePlace → Bool
is_place_for host x index None = false
is_place_for host x index (Some place) = nat_eq place.host host && is_name_of x (slice_get place.names index)

-- whether the fetch is under the lease of a device of the host, of a chunk of this name
abbrev pub is_fetch_for : Context → ℕ → List ℕ → Fetched → Bool
is_fetch_for context host x f = is_place_for host x f.index (find (λ (p : DevicePlace). nat_eq p.lease f.lease) context.devices)

-- how many fetches of this name an actor made for devices of the host
abbrev pub fetches_for : Run → ℕ → List ℕ → ActorSeen → ℕ
fetches_for run host x a = length (filter (is_fetch_for (context_of run) host x) (fetched_in (own run a.number Depot)))

-- ---- premises

-- No two devices have one lease.
abbrev pub HaveOwnLeases : Context → Type 0
HaveOwnLeases context =
    (i j : ℕ) (p q : DevicePlace) → slice_get context.devices i ≡ Some p → slice_get context.devices j ≡ Some q → p.lease ≡ q.lease → p ≡ q

-- a page of the chunk is in the range of the call, which is within the device
pub record IsMet (size : ℕ) (call : DeviceCall) (chunk : ℕ) : Type 0 where
  pub within : is_in_range size call ≡ true
  pub page : ℕ
  pub there : page / 128 ≡ chunk
  pub low : first_page call ≤ page
  pub high : page < first_page call + page_count call

-- The name is that of a chunk which a call of some actor on a device of the host meets.
pub record IsMetName (run : Run) (host : ℕ) (x : List ℕ) : Type 0 where
  pub device : ℕ
  pub seen : DeviceSeen
  pub actor : ActorSeen
  pub call : DeviceCall
  pub chunk : ℕ
  pub name : Name
  pub at : slice_get run.devices device ≡ Some seen
  pub hosted : seen.line.host ≡ host
  pub acts : Contains run.actors actor
  pub called : Contains actor.jobs (calls device call)
  pub met : IsMet (size_of seen) call chunk
  pub named : slice_get seen.line.manifest.names chunk ≡ Some name
  pub is : name.bytes ≡ x

-- the actor has a call of a device of the host
pub record HasCallsOn (run : Run) (host : ℕ) (a : ActorSeen) : Type 0 where
  pub device : ℕ
  pub seen : DeviceSeen
  pub call : DeviceCall
  pub at : slice_get run.devices device ≡ Some seen
  pub hosted : seen.line.host ≡ host
  pub called : Contains a.jobs (calls device call)

-- No actor with calls on the host crashed: its own list in the host's cache has no end of a claim at a crash.
abbrev pub NobodyCrashed : Run → ℕ → Type 0
NobodyCrashed run host =
    (a : ActorSeen) → Contains run.actors a → HasCallsOn run host a → AllByRecursion (λ (s : Step). s.reply ≢ by_cache caches.reaped) (own run a.number (Cache host))

-- no eviction
abbrev pub IsNoEvict : CacheReply → Type 0
IsNoEvict (Evicted n) = ⊥
IsNoEvict reply = ⊤

-- What the bound on fetches for a host rests on: among these names is each one that the calls on the host's devices meet, and
-- the host's cache has room for so many chunks.
pub record HasRoom (run : Run) (host : ℕ) (c : CacheSeen) (names : List (List ℕ)) : Type 0 where
  pub at : slice_get run.caches host ≡ Some c
  pub met : (x : List ℕ) → IsMetName run host x → Contains names x
  pub enough : length names ≤ c.capacity

-- no two actors have one number, and no two devices one lease
pub record AreApart (run : Run) : Type 0 where
  pub numbers : HaveOwnNumbers run.actors
  pub leases : HaveOwnLeases (context_of run)

-- Where the capacity is at least the number of distinct names that the calls on the host's devices meet, nobody evicts and no
-- crash ends a claim, the fetches of a name for the host are at most one more than the Given entries for it.
abbrev pub FetchesAreFew : Type 0
FetchesAreFew =
    (run : Run) (host : ℕ) (c : CacheSeen) (names : List (List ℕ))
    → IsRun run → AreDeviceLogs run → AreCacheLogs run → AreApart run → HasRoom run host c names
    → AllByRecursion (λ (e : LogEntry). Keeps e.reply) c.log
    → (x : List ℕ) → total (fetches_for run host x) run.actors ≤ 1 + givens c.capacity x empty c.log

-- .. where no actor evicts it, and no actor with calls on it crashes. (Another that crashes has no claim there to end.)
abbrev pub FetchesAreFewUncrashed : Type 0
FetchesAreFewUncrashed =
    (run : Run) (host : ℕ) (c : CacheSeen) (names : List (List ℕ))
    → IsRun run → AreDeviceLogs run → AreCacheLogs run → AreApart run → HasRoom run host c names
    → AllByRecursion (λ (e : LogEntry). IsNoEvict e.reply) c.log → NobodyCrashed run host
    → (x : List ℕ) → total (fetches_for run host x) run.actors ≤ 1 + givens c.capacity x empty c.log

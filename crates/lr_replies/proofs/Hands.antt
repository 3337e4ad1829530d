-- Which call stands for what is asked.
use Rattle.std.proofs.Common.{◌≡◌, ℕ, List, map, ap}
use Rattle.std.specs.Arc.{arc_value}
use Rattle.std.specs.declared.sync.Arc.{Arc}
use Rattle.std.specs.declared.alloc.Global.{Global}
use Rattle.lr_manifest.specs.declared.name.Name.{Name}
use Rattle.lr_device.specs.declared.call.DeviceCall.{DeviceCall}
use Rattle.lr_device.specs.declared.step.DeviceStep.TheVariants as asks
use Rattle.lr_device.specs.Room.{Suits}
use Rattle.lr_cache.specs.declared.call.CacheCall.TheVariants as cached
use Rattle.lr_depot.specs.declared.call.DepotCall.TheVariants as depot
use Rattle.lr_walk.specs.Steps.{on_device, on_cache, on_depot}
use Rattle.lr_walk.specs.Depot as depots
use Rattle.lr_walk.specs.Cache as caches
use Rattle.lr_walk.specs.Device as devices
use Rattle.lr_actors.specs.declared.action.ActorCall.{ActorCall}
use Rattle.lr_actors.specs.declared.action.ActorCall.TheVariants as call
use Rattle.lr_actors.specs.Asked.{a_call, a_commit, HandsCall}

pub the_close : (asked : ActorCall) (lease : ℕ) → HandsCall asked (a_call (on_depot (depots.closes lease))) → asked ≡ call.Depot (depot.Close lease)
the_close (call.Depot (depot.Close l)) lease h = cc
the_close (call.Device n (asks.Commit pieces room)) lease h = absurd h
the_close (call.Device n (asks.Plan c)) lease h = absurd (cc)
the_close asked lease h = absurd (cc)

pub the_fetch : (asked : ActorCall) (lease index : ℕ) → HandsCall asked (a_call (on_depot (depots.fetches lease index))) → asked ≡ call.Depot (depot.Fetch lease index)
the_fetch (call.Depot (depot.Fetch l i)) lease index h = cc
the_fetch (call.Device n (asks.Commit pieces room)) lease index h = absurd h
the_fetch (call.Device n (asks.Plan c)) lease index h = absurd (cc)
the_fetch asked lease index h = absurd (cc)

pub the_look : (asked : ActorCall) (host : ℕ) (name : Name) → HandsCall asked (a_call (on_cache host (caches.looks name))) → asked ≡ call.Cache host (cached.Look name)
the_look (call.Cache n (cached.Look k)) host name h = cc
the_look (call.Device n (asks.Commit pieces room)) host name h = absurd h
the_look (call.Device n (asks.Plan c)) host name h = absurd (cc)
the_look asked host name h = absurd (cc)

pub the_fill : (asked : ActorCall) (host : ℕ) (chunk : List ℕ) → HandsCall asked (a_call (on_cache host (caches.fills chunk))) → (c : Arc (List ℕ) Global) × (asked ≡ call.Cache host (cached.Fill c)) × (arc_value c ≡ chunk)
the_fill (call.Cache n (cached.Fill c)) host chunk h = (c, same h, bytes h)
  where
    same : a_call (on_cache n (caches.fills (arc_value c))) ≡ a_call (on_cache host (caches.fills chunk)) → call.Cache n (cached.Fill c) ≡ call.Cache host (cached.Fill c)
    same e = cc

    bytes : a_call (on_cache n (caches.fills (arc_value c))) ≡ a_call (on_cache host (caches.fills chunk)) → arc_value c ≡ chunk
    bytes e = cc
the_fill (call.Device n (asks.Commit pieces room)) host chunk h = absurd h
the_fill (call.Device n (asks.Plan c)) host chunk h = absurd (cc)
the_fill asked host chunk h = absurd (cc)

pub the_give_up : (asked : ActorCall) (host : ℕ) → HandsCall asked (a_call (on_cache host caches.gives_up)) → asked ≡ call.Cache host cached.GiveUp
the_give_up (call.Cache n cached.GiveUp) host h = cc
the_give_up (call.Device n (asks.Commit pieces room)) host h = absurd h
the_give_up (call.Device n (asks.Plan c)) host h = absurd (cc)
the_give_up asked host h = absurd (cc)

pub the_plan : (asked : ActorCall) (n : ℕ) (planned : DeviceCall) → HandsCall asked (a_call (on_device n (devices.plans planned))) → (c : Arc DeviceCall Global) × (asked ≡ call.Device n (asks.Plan c)) × (arc_value c ≡ planned)
the_plan (call.Device k (asks.Plan c)) n planned h = (c, same h, is h)
  where
    same : a_call (on_device k (devices.plans (arc_value c))) ≡ a_call (on_device n (devices.plans planned)) → call.Device k (asks.Plan c) ≡ call.Device n (asks.Plan c)
    same e = cc

    is : a_call (on_device k (devices.plans (arc_value c))) ≡ a_call (on_device n (devices.plans planned)) → arc_value c ≡ planned
    is e = cc
the_plan (call.Device k (asks.Commit pieces room)) n planned h = absurd h
the_plan asked n planned h = absurd (cc)

pub the_drop : (asked : ActorCall) (n : ℕ) → HandsCall asked (a_call (on_device n devices.drops)) → asked ≡ call.Device n asks.Drop
the_drop (call.Device k asks.Drop) n h = cc
the_drop (call.Device k (asks.Commit pieces room)) n h = absurd h
the_drop asked n h = absurd (cc)

-- a commit, with what it hands in and its room
pub record IsCommit (asked : ActorCall) (n : ℕ) (planned : DeviceCall) (pages : ℕ) (handed : List devices.Piece) : Type 0 where
  pub pieces : _
  pub room : _
  pub is : asked ≡ call.Device n (asks.Commit pieces room)
  pub handed_in : map devices.seen_piece pieces.items ≡ handed
  pub suits : Suits planned pages room

pub the_commit : (asked : ActorCall) (n : ℕ) (planned : DeviceCall) (pages : ℕ) (handed : List devices.Piece) → HandsCall asked (a_commit n planned pages handed) → IsCommit asked n planned pages handed
the_commit (call.Device k (asks.Commit pieces room)) n planned pages handed h =
    record { pieces = pieces; room = room; is = ap (λ (i : ℕ). call.Device i (asks.Commit pieces room)) h.0; handed_in = h.1; suits = h.2 }
the_commit (call.Device k (asks.Plan c)) n planned pages handed h = absurd (cc)
the_commit asked n planned pages handed h = absurd (cc)

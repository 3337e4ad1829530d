-- What steps tell of loads: fetches, claims and needs.
use Rattle.std.specs.Prelude.{ℕ, List, [], ◌∷◌, map, cond, nat_eq}
use Rattle.std.specs.List.{flat_map}
use Rattle.lr_manifest.specs.declared.name.Name.{Name}
use Rattle.lr_device.specs.declared.call.DeviceCall.{DeviceCall}
use Rattle.lr_walk.specs.Steps.{Call, on_device, on_cache, on_depot, Reply, by_device, by_cache, Step, is_memory}
use Rattle.lr_walk.specs.Device as devices
use Rattle.lr_walk.specs.Cache as caches
use Rattle.lr_walk.specs.Depot as depots

-- a fetch that was logged
pub record Fetched : Type 0 where
  pub lease : ℕ
  pub index : ℕ

abbrev pub fetched_by : Call → Reply → List Fetched
fetched_by (on_depot (depots.fetches lease index)) reply = cond (is_memory reply) [] (record { lease = lease; index = index } ∷ [])
fetched_by call reply = []

abbrev pub fetched_in : List Step → List Fetched
fetched_in steps = flat_map (λ (s : Step). fetched_by s.call s.reply) steps

-- the names claimed in a host's cache
abbrev pub led_by : ℕ → Call → Reply → List Name
led_by host (on_cache h (caches.looks name)) (by_cache caches.lead) = cond (nat_eq h host) (name ∷ []) []
led_by host call reply = []

abbrev pub led_in : ℕ → List Step → List Name
led_in host steps = flat_map (λ (s : Step). led_by host s.call s.reply) steps

-- a chunk that the plan of a call needs
pub record Need : Type 0 where
  pub call : DeviceCall
  pub index : ℕ

abbrev pub need : DeviceCall → ℕ → Need
need call index = record { call = call; index = index }

abbrev pub needed_by : ℕ → Call → Reply → List Need
needed_by device (on_device d (devices.plans call)) (by_device (devices.planned needs pages)) = cond (nat_eq d device) (map (need call) needs) []
needed_by device call reply = []

abbrev pub needed_in : ℕ → List Step → List Need
needed_in device steps = flat_map (λ (s : Step). needed_by device s.call s.reply) steps

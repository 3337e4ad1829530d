-- What holds of each script: its places are declared, and its numbers are within the limits.
use Rattle.std.specs.Prelude.{◌≡◌, ◌<◌, ◌≤◌, ℕ, List, [], ◌∷◌, length, Option, Some, None, slice_get, sum_by, ⊤}
use Rattle.std.specs.List.{AllByRecursion}
use Rattle.lr_text.specs.Words.{run_sum}
use Rattle.lr_script.specs.Limits.{hosts_most, devices_most, actors_most, cache_most, nodes_least, nodes_most, node_most, image_most, call_most, roots_most, chunk_last, stripe_last, byte_last, crash_most, counts_most}
use Rattle.lr_script.specs.Lines.{FitsBody}
use Rattle.lr_script.specs.Seen.{SetupSeen, Host, Root, Image, Device, JobSeen, Read, Zero, Write, Create, Migrate, Withdraw, Rotate, Expire, Delete, Sweep, Settle, Evict, Drop, Flip, Forge, Lose, Close, ScheduleSeen, Serial, Rounds, Pairs, ScriptSeen}

-- ---- what setup lines declare

abbrev pub host_count : SetupSeen → ℕ
host_count (Host name cap) = 1
host_count line = 0

abbrev pub device_count : SetupSeen → ℕ
device_count (Device name host image tenant) = 1
device_count line = 0

abbrev pub hosts_in : List (ℕ × SetupSeen) → ℕ
hosts_in setup = sum_by (λ p. host_count p.1) setup

abbrev pub devices_in : List (ℕ × SetupSeen) → ℕ
devices_in setup = sum_by (λ p. device_count p.1) setup

-- ---- lines and jobs

-- among so many hosts
abbrev pub IsSetupWithin : ℕ → SetupSeen → Type 0
IsSetupWithin hosts (Host name cap) = (1 ≤ cap) × (cap ≤ cache_most)
IsSetupWithin hosts (Root salt) = ⊤
IsSetupWithin hosts (Image name tenant len body) = (len ≤ image_most) × FitsBody body len
IsSetupWithin hosts (Device name host image tenant) = host < hosts

-- The places are among so many hosts, devices and nodes, and the numbers are within the limits.
abbrev pub IsJobWithin : ℕ → ℕ → ℕ → JobSeen → Type 0
IsJobWithin hosts devices nodes (Read device offset len) = (device < devices) × (len ≤ call_most)
IsJobWithin hosts devices nodes (Zero device offset len) = (device < devices) × (len ≤ call_most)
IsJobWithin hosts devices nodes (Write device offset runs) = (device < devices) × (run_sum runs ≤ call_most)
IsJobWithin hosts devices nodes (Create name tenant len body) = (len ≤ image_most) × FitsBody body len
IsJobWithin hosts devices nodes (Migrate image) = ⊤
IsJobWithin hosts devices nodes (Withdraw image) = ⊤
IsJobWithin hosts devices nodes (Rotate salt) = ⊤
IsJobWithin hosts devices nodes (Expire root) = (1 ≤ root) × (root ≤ roots_most)
IsJobWithin hosts devices nodes (Delete root) = (1 ≤ root) × (root ≤ roots_most)
IsJobWithin hosts devices nodes (Sweep root) = (1 ≤ root) × (root ≤ roots_most)
IsJobWithin hosts devices nodes (Settle key) = ⊤
IsJobWithin hosts devices nodes (Evict host) = host < hosts
IsJobWithin hosts devices nodes (Drop stripe device index) = (stripe ≤ stripe_last) × (device < devices) × (index ≤ chunk_last)
IsJobWithin hosts devices nodes (Flip stripe device index at) = (stripe ≤ stripe_last) × (device < devices) × (index ≤ chunk_last) × (at ≤ byte_last)
IsJobWithin hosts devices nodes (Forge device index) = (device < devices) × (index ≤ chunk_last)
IsJobWithin hosts devices nodes (Lose node) = node < nodes
IsJobWithin hosts devices nodes (Close device) = device < devices

-- a job of an actor: any but a close
abbrev pub IsOfActor : JobSeen → Type 0
IsOfActor (Close device) = ⊥
IsOfActor job = ⊤

-- a job of the after part
abbrev pub IsOfAfter : JobSeen → Type 0
IsOfAfter (Migrate image) = ⊤
IsOfAfter (Withdraw image) = ⊤
IsOfAfter (Rotate salt) = ⊤
IsOfAfter (Expire root) = ⊤
IsOfAfter (Delete root) = ⊤
IsOfAfter (Sweep root) = ⊤
IsOfAfter (Settle key) = ⊤
IsOfAfter (Close device) = ⊤
IsOfAfter job = ⊥

abbrev pub ActorJob : ScriptSeen → JobSeen → Type 0
ActorJob script job = IsJobWithin (hosts_in script.setup) (devices_in script.setup) script.nodes job × IsOfActor job

abbrev pub AfterJob : ScriptSeen → JobSeen → Type 0
AfterJob script job = IsJobWithin (hosts_in script.setup) (devices_in script.setup) script.nodes job × IsOfAfter job

-- each device is closed at most once
abbrev pub AreClosedOnce : List JobSeen → Type 0
AreClosedOnce jobs = (i j device : ℕ) → slice_get jobs i ≡ Some (Close device) → slice_get jobs j ≡ Some (Close device) → i ≡ j

abbrev pub AfterWithin : ScriptSeen → Option (List JobSeen) → Type 0
AfterWithin script None = ⊤
AfterWithin script (Some jobs) = AllByRecursion (AfterJob script) jobs × AreClosedOnce jobs

-- ---- crash lines and the schedule

-- the number is an actor's
abbrev pub IsActor : ScriptSeen → ℕ → Type 0
IsActor script number = (1 ≤ number) × (number ≤ length script.actors)

-- each actor crashes at most once
abbrev pub CrashOnce : List (ℕ × ℕ) → Type 0
CrashOnce crashes = (i j number a b : ℕ) → slice_get crashes i ≡ Some (number, a) → slice_get crashes j ≡ Some (number, b) → i ≡ j

abbrev pub ScheduleWithin : ScriptSeen → ScheduleSeen → Type 0
ScheduleWithin script Serial = ⊤
ScheduleWithin script Rounds = ⊤
ScheduleWithin script (Pairs pairs rounds) = AllByRecursion (λ (p : ℕ × ℕ). IsActor script p.0 × (1 ≤ p.1)) pairs × (sum_by (λ (p : ℕ × ℕ). p.1) pairs ≤ counts_most)

-- What holds of each script that was read.
pub record IsWithin (script : ScriptSeen) : Type 0 where
  pub some_nodes : nodes_least ≤ script.nodes
  pub most_nodes : script.nodes ≤ nodes_most
  pub some_cap : 1 ≤ script.cap
  pub most_cap : script.cap ≤ node_most
  pub hosts : hosts_in script.setup ≤ hosts_most
  pub devices : devices_in script.setup ≤ devices_most
  pub actors_few : length script.actors ≤ actors_most
  pub setup : AllByRecursion (λ (p : ℕ × SetupSeen). IsSetupWithin (hosts_in script.setup) p.1) script.setup
  pub actors : AllByRecursion (λ (a : List ℕ × List JobSeen). AllByRecursion (ActorJob script) a.1) script.actors
  pub after : AfterWithin script script.after
  pub crashes : AllByRecursion (λ (c : ℕ × ℕ). IsActor script c.0 × (c.1 ≤ crash_most)) script.crashes
  pub once : CrashOnce script.crashes
  pub schedule : ScheduleWithin script script.schedule

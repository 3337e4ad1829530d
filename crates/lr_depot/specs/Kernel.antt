-- What a call does to what the depot holds, its log apart.
use Rattle.std.specs.Prelude.{◌≡◌, ◌+◌, ℕ, List, true, false, Option, Some, None, IsSome, ⊤}
use Rattle.std.specs.FinMap as map
use Rattle.std.specs.FinMap.{FinMap}
use Rattle.lr_origin.specs.Kind.{kind_cmp}
use Rattle.lr_rules.specs.State.{Job, State}
use Rattle.lr_rules.specs.Safe.{IsSafe}
use Rattle.lr_rules.specs.Names.{HasRoom}
use Rattle.lr_depot.specs.declared.call.DepotCall.{DepotCall}
use Rattle.lr_depot.specs.declared.call.DepotCall.TheVariants.{Close, Abandon, Reap}
use Rattle.lr_depot.specs.declared.call.DepotNoted.{DepotNoted}
use Rattle.lr_depot.specs.declared.call.DepotReply.{DepotReply}
use Rattle.lr_depot.specs.declared.call.DepotTold.{DepotTold}
use Rattle.lr_depot.specs.declared.kernel.Kernel.{Kernel}
use Rattle.lr_depot.specs.declared.kernel.Answer.{Answer}
use Rattle.lr_origin.specs.declared.key.KeyKind.TheVariants.{Chunk, Manifest}
use Rattle.lr_roots.specs.View.{Lacks}
use Rattle.lr_depot.specs.declared.asking.Place.{Place}
use Rattle.lr_depot.specs.Machine.{IsFetch, IsCopy, DepotStep, state_after, is_logged, IsTold}

-- the sessions that made the puts of manifests that are in doubt
abbrev pub Makers : Type 0
Makers = FinMap kind_cmp ℕ

-- of each manifest whose put is in doubt, the session that made the put is the one of this table
abbrev pub HasMakers : Kernel → Makers → Type 0
HasMakers kernel makers =
    (r : ℕ) (image : List ℕ) → IsSome (map.get kernel.doubts (Manifest r image)) → Lacks kernel.catalog.view (Manifest r image)
    → map.get kernel.makers (Manifest r image) ≡ map.get makers (Manifest r image)

-- the state of which this is held, with these makers
abbrev pub state_of : Kernel → Makers → State
state_of kernel makers = record {
  known = record { view = kernel.catalog.view; doubts = kernel.doubts };
  desk = record { leases = kernel.leases; sessions = kernel.sessions; makers = makers; next_lease = kernel.next_lease; next_session = kernel.next_session; next_number = kernel.next_number };
}

-- All that is held is that of the state, and no key stands aside.
pub record IsOf (kernel : Kernel) (s : State) : Type 0 where
  pub aside : kernel.catalog.aside ≡ None
  pub view : kernel.catalog.view ≡ s.known.view
  pub doubts : kernel.doubts ≡ s.known.doubts
  pub leases : kernel.leases ≡ s.desk.leases
  pub sessions : kernel.sessions ≡ s.desk.sessions
  pub next_lease : kernel.next_lease ≡ s.desk.next_lease
  pub next_session : kernel.next_session ≡ s.desk.next_session
  pub next_number : kernel.next_number ≡ s.desk.next_number
  pub makers : HasMakers kernel s.desk.makers

-- so many leases and sessions are out
abbrev pub held : State → ℕ
held s = map.len s.desk.leases + map.len s.desk.sessions

abbrev pub places : Kernel → ℕ
places kernel = map.len kernel.leases + map.len kernel.sessions

-- What is held may be had after a run: it is safe with some makers.
pub record IsReady (kernel : Kernel) : Type 0 where
  pub makers : Makers
  pub own : HasMakers kernel makers
  pub aside : kernel.catalog.aside ≡ None
  pub safe : IsSafe (state_of kernel makers)
  pub room : HasRoom (state_of kernel makers)

-- the place is that of the chunk of the copied manifest at this index
pub record IsCopyPlace (kernel : Kernel) (n c index : ℕ) (place : Place) : Type 0 where
  pub copy : (makers : Makers) → IsCopy (state_of kernel makers) n c index place.key
  pub chunk : (r : ℕ) × (place.key ≡ Chunk r place.name.bytes)

-- the place is that of the chunk of the lease at this index
pub record IsPlace (kernel : Kernel) (lease index : ℕ) (place : Place) : Type 0 where
  pub fetch : (makers : Makers) → IsFetch (state_of kernel makers) lease index place.key
  pub chunk : (r : ℕ) × (place.key ≡ Chunk r place.name.bytes)

-- The caller's call ends something that is out, and so has its place in the log; a reaping may take none.
abbrev pub HasOwnPlace : Kernel → ℕ → DepotCall → Type 0
HasOwnPlace kernel c (Close lease) = IsSome (map.get kernel.leases lease)
HasOwnPlace kernel c (Abandon n) = (j : Job) × (map.get kernel.sessions n ≡ Some (record { caller = c; job = j }))
HasOwnPlace kernel c Reap = ⊤
HasOwnPlace kernel c call = ⊥

-- The depot answers so, and holds what the machine leaves. What the log is to keep of the reply is told with it.
abbrev pub RepliesBy : State → Kernel → ℕ → DepotCall → DepotNoted → DepotReply → Option DepotTold → Type 0
RepliesBy s new c call noted reply None = DepotStep s c call reply × (is_logged reply ≡ false) × IsOf new s
RepliesBy s new c call noted reply (Some told) =
    DepotStep s c call reply × (is_logged reply ≡ true) × IsTold reply told × IsOf new (state_after s c noted told)

abbrev pub Replies : State → Kernel → ℕ → DepotCall → DepotNoted → Answer → Type 0
Replies s new c call noted answer = RepliesBy s new c call noted answer.reply answer.told

-- A call moves what is held, whatever the makers of sure manifests are.
abbrev pub IsServed : Kernel → Kernel → ℕ → DepotCall → DepotNoted → Answer → Type 0
IsServed old new c call noted answer = (makers : Makers) → HasMakers old makers → Replies (state_of old makers) new c call noted answer

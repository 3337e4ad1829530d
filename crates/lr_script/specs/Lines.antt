-- Each kind of line: the words behind the first, what they ask of the state, and the state after.
use Rattle.std.specs.Prelude.{◌≡◌, ◌≢◌, ℕ, ◌+◌, ◌*◌, ◌<◌, ◌≤◌, ◌^◌, List, [], ◌∷◌, ◌++◌, length, map, Bool, true, false, Some, None, IsTrue, codes, decimal, ◌==◌, sum_by}
use Rattle.std.specs.List.{list_any}
use Rattle.lr_text.specs.Name.{is_name, place_of}
use Rattle.lr_text.specs.Words.{IsKey, AreRuns, run_word, run_sum, key_word}
use Rattle.lr_origin.specs.declared.key.KeyKind.{KeyKind}
use Rattle.lr_origin.specs.Text.{key_text, IsKind}
use Rattle.lr_script.specs.declared.kind.Part.TheVariants as part
use Rattle.lr_script.specs.declared.kind.Kind.{Kind}
use Rattle.lr_script.specs.declared.kind.Kind.TheVariants as kind
use Rattle.lr_script.specs.Limits.{hosts_most, devices_most, actors_most, cache_most, caches_most, nodes_least, nodes_most, node_most, all_nodes_most, image_most, images_most, call_most, calls_most, jobs_most, runs_most, seed_most, roots_most, chunk_last, stripe_last, byte_last, crash_most, pairs_most, counts_most}
use Rattle.lr_script.specs.Seen.{BodySeen, Runs, Seed, Host, Root, Image, Device, Read, Zero, Write, Create, Migrate, Withdraw, Rotate, Expire, Delete, Sweep, Settle, Evict, Drop, Flip, Forge, Lose, Close, ScheduleSeen, Serial, Rounds, Pairs}
use Rattle.lr_script.specs.State.{State, with_setup, with_job, actor_names}

-- `script 1`
pub record ScriptLine (s : State) (words : List (List ℕ)) (after : State) : Type 0 where
  pub spelled : words ≡ codes "1" ∷ []
  pub result : after ≡ record s { part = part.Setup }

-- Setup lines.

-- `nodes M CAP`
pub record NodesLine (s : State) (words : List (List ℕ)) (after : State) : Type 0 where
  pub nodes : ℕ
  pub cap : ℕ
  pub spelled : words ≡ decimal nodes ∷ decimal cap ∷ []
  pub once : s.sized ≡ false
  pub early : s.devices ≡ []
  pub some_nodes : nodes_least ≤ nodes
  pub most_nodes : nodes ≤ nodes_most
  pub some_cap : 1 ≤ cap
  pub most_cap : cap ≤ node_most
  pub all : nodes * cap ≤ all_nodes_most
  pub result : after ≡ record s { sized = true; script = record s.script { nodes = nodes; cap = cap } }

-- `host NAME CAP`
pub record HostLine (s : State) (words : List (List ℕ)) (after : State) : Type 0 where
  pub name : List ℕ
  pub cap : ℕ
  pub spelled : words ≡ name ∷ decimal cap ∷ []
  pub named : IsTrue (is_name name)
  pub fresh : place_of s.hosts name ≡ None
  pub room : length s.hosts < hosts_most
  pub some : 1 ≤ cap
  pub most : cap ≤ cache_most
  pub all : s.chunks + cap ≤ caches_most
  pub result : after ≡ with_setup (record s { hosts = s.hosts ++ name ∷ []; chunks = s.chunks + cap }) (Host name cap)

-- `root SALT`
pub record RootLine (s : State) (words : List (List ℕ)) (after : State) : Type 0 where
  pub salt : List ℕ
  pub spelled : words ≡ key_word salt ∷ []
  pub key : IsKey salt
  pub result : after ≡ with_setup s (Root salt)

-- BODY: `bytes` and 0 to 64 runs, or `seed NUMBER`
abbrev pub body_words : BodySeen → List (List ℕ)
body_words (Runs rs) = codes "bytes" ∷ map run_word rs
body_words (Seed n) = codes "seed" ∷ decimal n ∷ []

-- the runs' sum is at most the length
abbrev pub FitsBody : BodySeen → ℕ → Type 0
FitsBody (Runs rs) len = (length rs ≤ runs_most) × AreRuns rs len
FitsBody (Seed n) len = n ≤ seed_most

-- `NAME TENANT LENGTH BODY`
pub record IsImage (words : List (List ℕ)) (name tenant : List ℕ) (len : ℕ) (body : BodySeen) : Type 0 where
  pub spelled : words ≡ name ∷ key_word tenant ∷ decimal len ∷ body_words body
  pub named : IsTrue (is_name name)
  pub key : IsKey tenant
  pub most : len ≤ image_most
  pub fits : FitsBody body len

-- `image NAME TENANT LENGTH BODY`
pub record ImageLine (s : State) (words : List (List ℕ)) (after : State) : Type 0 where
  pub name : List ℕ
  pub tenant : List ℕ
  pub len : ℕ
  pub body : BodySeen
  pub image : IsImage words name tenant len body
  pub all : s.raw + len ≤ images_most
  pub result : after ≡ with_setup (record s { raw = s.raw + len }) (Image name tenant len body)

-- `device NAME HOST IMAGE TENANT`
pub record DeviceLine (s : State) (words : List (List ℕ)) (after : State) : Type 0 where
  pub name : List ℕ
  pub host : ℕ
  pub host_name : List ℕ
  pub image : List ℕ
  pub tenant : List ℕ
  pub spelled : words ≡ name ∷ host_name ∷ image ∷ key_word tenant ∷ []
  pub named : IsTrue (is_name name)
  pub fresh : place_of s.devices name ≡ None
  pub room : length s.devices < devices_most
  pub declared_host : place_of s.hosts host_name ≡ Some host
  pub image_named : IsTrue (is_name image)
  pub key : IsKey tenant
  pub result : after ≡ with_setup (record s { devices = s.devices ++ name ∷ [] }) (Device name host image tenant)

-- `actor NAME`
pub record ActorLine (s : State) (words : List (List ℕ)) (after : State) : Type 0 where
  pub name : List ℕ
  pub spelled : words ≡ name ∷ []
  pub named : IsTrue (is_name name)
  pub not_after : name ≢ codes "after"
  pub not_serial : name ≢ codes "serial"
  pub not_rounds : name ≢ codes "rounds"
  pub fresh : place_of (actor_names s) name ≡ None
  pub room : length s.script.actors < actors_most
  pub result : after ≡ record s { part = part.Actors; script = record s.script { actors = s.script.actors ++ (name, []) ∷ [] } }

-- Jobs.

-- `DEVICE OFFSET LENGTH`
pub record IsRange (s : State) (words : List (List ℕ)) (device offset len : ℕ) : Type 0 where
  pub name : List ℕ
  pub spelled : words ≡ name ∷ decimal offset ∷ decimal len ∷ []
  pub declared : place_of s.devices name ≡ Some device
  pub fits : offset < 2 ^ 64
  pub most : len ≤ call_most
  pub all : s.called + len ≤ calls_most
  pub room : s.jobs < jobs_most

-- `read DEVICE OFFSET LENGTH`
pub record ReadLine (s : State) (words : List (List ℕ)) (after : State) : Type 0 where
  pub device : ℕ
  pub offset : ℕ
  pub len : ℕ
  pub range : IsRange s words device offset len
  pub result : after ≡ with_job (record s { called = s.called + len }) (Read device offset len)

-- `zero DEVICE OFFSET LENGTH`
pub record ZeroLine (s : State) (words : List (List ℕ)) (after : State) : Type 0 where
  pub device : ℕ
  pub offset : ℕ
  pub len : ℕ
  pub range : IsRange s words device offset len
  pub result : after ≡ with_job (record s { called = s.called + len }) (Zero device offset len)

-- `write DEVICE OFFSET RUN ..`
pub record WriteLine (s : State) (words : List (List ℕ)) (after : State) : Type 0 where
  pub device : ℕ
  pub name : List ℕ
  pub offset : ℕ
  pub runs : List (ℕ × ℕ)
  pub spelled : words ≡ name ∷ decimal offset ∷ map run_word runs
  pub declared : place_of s.devices name ≡ Some device
  pub fits : offset < 2 ^ 64
  pub some : 1 ≤ length runs
  pub few : length runs ≤ runs_most
  pub are : AreRuns runs call_most
  pub all : s.called + run_sum runs ≤ calls_most
  pub room : s.jobs < jobs_most
  pub result : after ≡ with_job (record s { called = s.called + run_sum runs }) (Write device offset runs)

-- `create NAME TENANT LENGTH BODY`
pub record CreateLine (s : State) (words : List (List ℕ)) (after : State) : Type 0 where
  pub name : List ℕ
  pub tenant : List ℕ
  pub len : ℕ
  pub body : BodySeen
  pub image : IsImage words name tenant len body
  pub all : s.raw + len ≤ images_most
  pub room : s.jobs < jobs_most
  pub result : after ≡ with_job (record s { raw = s.raw + len }) (Create name tenant len body)

-- `migrate IMAGE`
pub record MigrateLine (s : State) (words : List (List ℕ)) (after : State) : Type 0 where
  pub image : List ℕ
  pub spelled : words ≡ image ∷ []
  pub named : IsTrue (is_name image)
  pub room : s.jobs < jobs_most
  pub result : after ≡ with_job s (Migrate image)

-- `withdraw IMAGE`
pub record WithdrawLine (s : State) (words : List (List ℕ)) (after : State) : Type 0 where
  pub image : List ℕ
  pub spelled : words ≡ image ∷ []
  pub named : IsTrue (is_name image)
  pub room : s.jobs < jobs_most
  pub result : after ≡ with_job s (Withdraw image)

-- `rotate SALT`
pub record RotateLine (s : State) (words : List (List ℕ)) (after : State) : Type 0 where
  pub salt : List ℕ
  pub spelled : words ≡ key_word salt ∷ []
  pub key : IsKey salt
  pub room : s.jobs < jobs_most
  pub result : after ≡ with_job s (Rotate salt)

-- ROOT, a number from 1 to 1,000
pub record IsRootWord (words : List (List ℕ)) (root : ℕ) : Type 0 where
  pub spelled : words ≡ decimal root ∷ []
  pub some : 1 ≤ root
  pub most : root ≤ roots_most

-- `expire ROOT`
pub record ExpireLine (s : State) (words : List (List ℕ)) (after : State) : Type 0 where
  pub root : ℕ
  pub is : IsRootWord words root
  pub room : s.jobs < jobs_most
  pub result : after ≡ with_job s (Expire root)

-- `delete ROOT`
pub record DeleteLine (s : State) (words : List (List ℕ)) (after : State) : Type 0 where
  pub root : ℕ
  pub is : IsRootWord words root
  pub room : s.jobs < jobs_most
  pub result : after ≡ with_job s (Delete root)

-- `sweep ROOT`
pub record SweepLine (s : State) (words : List (List ℕ)) (after : State) : Type 0 where
  pub root : ℕ
  pub is : IsRootWord words root
  pub room : s.jobs < jobs_most
  pub result : after ≡ with_job s (Sweep root)

-- `settle KEY`
pub record SettleLine (s : State) (words : List (List ℕ)) (after : State) : Type 0 where
  pub key : KeyKind
  pub spelled : words ≡ key_text key ∷ []
  pub is : IsKind key
  pub room : s.jobs < jobs_most
  pub result : after ≡ with_job s (Settle key)

-- `evict HOST`
pub record EvictLine (s : State) (words : List (List ℕ)) (after : State) : Type 0 where
  pub host : ℕ
  pub name : List ℕ
  pub spelled : words ≡ name ∷ []
  pub declared : place_of s.hosts name ≡ Some host
  pub room : s.jobs < jobs_most
  pub result : after ≡ with_job s (Evict host)

-- `drop J DEVICE INDEX`
pub record DropLine (s : State) (words : List (List ℕ)) (after : State) : Type 0 where
  pub stripe : ℕ
  pub device : ℕ
  pub name : List ℕ
  pub index : ℕ
  pub spelled : words ≡ decimal stripe ∷ name ∷ decimal index ∷ []
  pub declared : place_of s.devices name ≡ Some device
  pub most_stripe : stripe ≤ stripe_last
  pub most_index : index ≤ chunk_last
  pub room : s.jobs < jobs_most
  pub result : after ≡ with_job s (Drop stripe device index)

-- `flip J DEVICE INDEX AT`
pub record FlipLine (s : State) (words : List (List ℕ)) (after : State) : Type 0 where
  pub stripe : ℕ
  pub device : ℕ
  pub name : List ℕ
  pub index : ℕ
  pub at : ℕ
  pub spelled : words ≡ decimal stripe ∷ name ∷ decimal index ∷ decimal at ∷ []
  pub declared : place_of s.devices name ≡ Some device
  pub most_stripe : stripe ≤ stripe_last
  pub most_index : index ≤ chunk_last
  pub most_at : at ≤ byte_last
  pub room : s.jobs < jobs_most
  pub result : after ≡ with_job s (Flip stripe device index at)

-- `forge DEVICE INDEX`
pub record ForgeLine (s : State) (words : List (List ℕ)) (after : State) : Type 0 where
  pub device : ℕ
  pub name : List ℕ
  pub index : ℕ
  pub spelled : words ≡ name ∷ decimal index ∷ []
  pub declared : place_of s.devices name ≡ Some device
  pub most : index ≤ chunk_last
  pub room : s.jobs < jobs_most
  pub result : after ≡ with_job s (Forge device index)

-- `lose NODE`
pub record LoseLine (s : State) (words : List (List ℕ)) (after : State) : Type 0 where
  pub node : ℕ
  pub spelled : words ≡ decimal node ∷ []
  pub fits : node < 2 ^ 64
  pub below : node < s.script.nodes
  pub room : s.jobs < jobs_most
  pub result : after ≡ with_job s (Lose node)

-- The parts behind the actors.

-- `after`
pub record AfterLine (s : State) (words : List (List ℕ)) (after : State) : Type 0 where
  pub spelled : words ≡ []
  pub result : after ≡ record s { part = part.After; script = record s.script { after = Some [] } }

-- `close DEVICE`, a job of the after part
pub record CloseLine (s : State) (words : List (List ℕ)) (after : State) : Type 0 where
  pub device : ℕ
  pub name : List ℕ
  pub spelled : words ≡ name ∷ []
  pub declared : place_of s.devices name ≡ Some device
  pub once : list_any (λ d. d == device) s.closed ≡ false
  pub room : s.jobs < jobs_most
  pub result : after ≡ with_job (record s { closed = s.closed ++ device ∷ [] }) (Close device)

-- `crash ACTOR STEPS`, of an actor's number
pub record CrashLine (s : State) (words : List (List ℕ)) (after : State) : Type 0 where
  pub actor : ℕ
  pub name : List ℕ
  pub steps : ℕ
  pub spelled : words ≡ name ∷ decimal steps ∷ []
  pub declared : place_of (actor_names s) name ≡ Some actor
  pub once : list_any (λ c. c.0 == actor + 1) s.script.crashes ≡ false
  pub most : steps ≤ crash_most
  pub result : after ≡ record s { part = part.Crashes; script = record s.script { crashes = s.script.crashes ++ (actor + 1, steps) ∷ [] } }

-- `ACTOR COUNT`: an actor's number, and how many steps
pub record IsPair (names : List (List ℕ)) (name count : List ℕ) (p : ℕ × ℕ) : Type 0 where
  pub actor : ℕ
  pub declared : place_of names name ≡ Some actor
  pub number : p.0 ≡ actor + 1
  pub spelled : count ≡ decimal p.1
  pub some : 1 ≤ p.1

-- pairs, and then perhaps `rounds`
abbrev pub PairWords : List (List ℕ) → List (List ℕ) → List (ℕ × ℕ) → Bool → Type 0
PairWords names [] pairs rounds = (pairs ≡ []) × (rounds ≡ false)
PairWords names (word ∷ []) pairs rounds = (word ≡ codes "rounds") × (pairs ≡ []) × (rounds ≡ true)
PairWords names (name ∷ count ∷ words) [] rounds = ⊥
PairWords names (name ∷ count ∷ words) (p ∷ pairs) rounds =
    IsPair names name count p × PairWords names words pairs rounds

-- `serial`, `rounds`, or 1 to 64 pairs with or without `rounds`
abbrev pub ScheduleWords : List (List ℕ) → List (List ℕ) → ScheduleSeen → Type 0
ScheduleWords names words Serial = words ≡ codes "serial" ∷ []
ScheduleWords names words Rounds = words ≡ codes "rounds" ∷ []
ScheduleWords names words (Pairs pairs rounds) =
    (1 ≤ length pairs) × (length pairs ≤ pairs_most) × (sum_by (λ p. p.1) pairs ≤ counts_most) × PairWords names words pairs rounds

-- `schedule serial`, `schedule rounds`, `schedule ACTOR COUNT ..`
pub record ScheduleLine (s : State) (words : List (List ℕ)) (after : State) : Type 0 where
  pub schedule : ScheduleSeen
  pub spelled : ScheduleWords (actor_names s) words schedule
  pub result : after ≡ record s { part = part.End; script = record s.script { schedule = schedule } }

-- a line of this kind
abbrev pub KindLine : Kind → State → List (List ℕ) → State → Type 0
KindLine kind.Script = ScriptLine
KindLine kind.Nodes = NodesLine
KindLine kind.Host = HostLine
KindLine kind.Root = RootLine
KindLine kind.Image = ImageLine
KindLine kind.Device = DeviceLine
KindLine kind.Actor = ActorLine
KindLine kind.Read = ReadLine
KindLine kind.Zero = ZeroLine
KindLine kind.Write = WriteLine
KindLine kind.Create = CreateLine
KindLine kind.Migrate = MigrateLine
KindLine kind.Withdraw = WithdrawLine
KindLine kind.Rotate = RotateLine
KindLine kind.Expire = ExpireLine
KindLine kind.Delete = DeleteLine
KindLine kind.Sweep = SweepLine
KindLine kind.Settle = SettleLine
KindLine kind.Evict = EvictLine
KindLine kind.Drop = DropLine
KindLine kind.Flip = FlipLine
KindLine kind.Forge = ForgeLine
KindLine kind.Lose = LoseLine
KindLine kind.After = AfterLine
KindLine kind.Close = CloseLine
KindLine kind.Crash = CrashLine
KindLine kind.Schedule = ScheduleLine
KindLine kind.Other = λ s words after. ⊥

-- What contracts see of a script: its numbers and lists.
use Rattle.std.specs.Prelude.{ℕ, List, Bool, Option, map, Vec}
use Rattle.std.specs.Global.{Global}
use Rattle.lr_origin.specs.declared.key.KeyKind.{KeyKind}
use Rattle.lr_script.specs.declared.script.Body.{Body}
use Rattle.lr_script.specs.declared.script.Body.TheVariants as body
use Rattle.lr_script.specs.declared.script.Setup.{Setup}
use Rattle.lr_script.specs.declared.script.Setup.TheVariants as setup
use Rattle.lr_script.specs.declared.script.Job.{Job}
use Rattle.lr_script.specs.declared.script.Job.TheVariants as job
use Rattle.lr_script.specs.declared.script.Schedule.{Schedule}
use Rattle.lr_script.specs.declared.script.Schedule.TheVariants as schedule

pub data BodySeen : Type 0 where
  Runs : (runs : List (ℕ × ℕ)) → BodySeen
  Seed : (number : ℕ) → BodySeen

pub data SetupSeen : Type 0 where
  Host : (name : List ℕ) (cap : ℕ) → SetupSeen
  Root : (salt : List ℕ) → SetupSeen
  Image : (name tenant : List ℕ) (len : ℕ) (body : BodySeen) → SetupSeen
  Device : (name : List ℕ) (host : ℕ) (image tenant : List ℕ) → SetupSeen

pub data JobSeen : Type 0 where
  Read : (device offset len : ℕ) → JobSeen
  Zero : (device offset len : ℕ) → JobSeen
  Write : (device offset : ℕ) (runs : List (ℕ × ℕ)) → JobSeen
  Create : (name tenant : List ℕ) (len : ℕ) (body : BodySeen) → JobSeen
  Migrate : (image : List ℕ) → JobSeen
  Withdraw : (image : List ℕ) → JobSeen
  Rotate : (salt : List ℕ) → JobSeen
  Expire : (root : ℕ) → JobSeen
  Delete : (root : ℕ) → JobSeen
  Sweep : (root : ℕ) → JobSeen
  Settle : (key : KeyKind) → JobSeen
  Evict : (host : ℕ) → JobSeen
  Drop : (stripe device index : ℕ) → JobSeen
  Flip : (stripe device index at : ℕ) → JobSeen
  Forge : (device index : ℕ) → JobSeen
  Lose : (node : ℕ) → JobSeen
  Close : (device : ℕ) → JobSeen

pub data ScheduleSeen : Type 0 where
  Serial : ScheduleSeen
  Rounds : ScheduleSeen
  Pairs : (pairs : List (ℕ × ℕ)) (rounds : Bool) → ScheduleSeen

abbrev pub body_seen : Body → BodySeen
body_seen (body.Runs v) = Runs v.items
body_seen (body.Seed n) = Seed n

abbrev pub setup_seen : Setup → SetupSeen
setup_seen (setup.Host name cap) = Host name cap
setup_seen (setup.Root salt) = Root salt
setup_seen (setup.Image name tenant len b) = Image name tenant len (body_seen b)
setup_seen (setup.Device name host image tenant) = Device name host image tenant

abbrev pub job_seen : Job → JobSeen
job_seen (job.Read device offset len) = Read device offset len
job_seen (job.Zero device offset len) = Zero device offset len
job_seen (job.Write device offset runs) = Write device offset runs.items
job_seen (job.Create name tenant len b) = Create name tenant len (body_seen b)
job_seen (job.Migrate image) = Migrate image
job_seen (job.Withdraw image) = Withdraw image
job_seen (job.Rotate salt) = Rotate salt
job_seen (job.Expire root) = Expire root
job_seen (job.Delete root) = Delete root
job_seen (job.Sweep root) = Sweep root
job_seen (job.Settle key) = Settle key
job_seen (job.Evict host) = Evict host
job_seen (job.Drop stripe device index) = Drop stripe device index
job_seen (job.Flip stripe device index at) = Flip stripe device index at
job_seen (job.Forge device index) = Forge device index
job_seen (job.Lose node) = Lose node
job_seen (job.Close device) = Close device

abbrev pub jobs_seen : List Job → List JobSeen
jobs_seen jobs = map job_seen jobs

abbrev pub actors_seen : List (List ℕ × Vec Job Global) → List (List ℕ × List JobSeen)
actors_seen actors = map (λ p. (p.0, jobs_seen p.1.items)) actors

abbrev pub schedule_seen : Schedule → ScheduleSeen
schedule_seen schedule.Serial = Serial
schedule_seen schedule.Rounds = Rounds
schedule_seen (schedule.Pairs v rounds) = Pairs v.items rounds

pub record ScriptSeen : Type 0 where
  pub nodes : ℕ
  pub cap : ℕ  -- stripes of each node
  pub setup : List (ℕ × SetupSeen)  -- setup lines but `nodes`, each with its line number
  pub actors : List (List ℕ × List JobSeen)
  pub after : Option (List JobSeen)
  pub crashes : List (ℕ × ℕ)  -- an actor's number, from 1, and its steps
  pub schedule : ScheduleSeen

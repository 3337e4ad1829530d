-- What a front of a script comes to.
use Rattle.std.specs.Prelude.{ℕ, ◌+◌, List, [], ◌∷◌, ◌++◌, Bool, false, Option, Some, None, map, length}
use Rattle.lr_script.specs.declared.kind.Part.{Part}
use Rattle.lr_script.specs.declared.kind.Part.TheVariants as part
use Rattle.lr_script.specs.Limits.{nodes_default, node_default}
use Rattle.lr_script.specs.Seen.{ScriptSeen, SetupSeen, JobSeen, Serial}

pub record State : Type 0 where
  pub lines : ℕ  -- how many lines
  pub bytes : ℕ  -- their bytes, each with its LF
  pub part : Part  -- the part that was reached
  pub sized : Bool  -- whether a `nodes` line came
  pub hosts : List (List ℕ)  -- the names declared
  pub devices : List (List ℕ)
  pub chunks : ℕ  -- chunks of all caches
  pub raw : ℕ  -- raw bytes of all images
  pub jobs : ℕ  -- how many jobs
  pub called : ℕ  -- bytes of all device calls
  pub closed : List ℕ  -- the devices closed
  pub script : ScriptSeen  -- what was read

-- before the first line
abbrev pub start : State
start = record {
  lines = 0;
  bytes = 0;
  part = part.Start;
  sized = false;
  hosts = [];
  devices = [];
  chunks = 0;
  raw = 0;
  jobs = 0;
  called = 0;
  closed = [];
  script = record { nodes = nodes_default; cap = node_default; setup = []; actors = []; after = None; crashes = []; schedule = Serial };
}

-- one line more
abbrev pub counted : State → List ℕ → State
counted s line = record s { lines = s.lines + 1; bytes = s.bytes + length line + 1 }

-- a setup line more, with its number
abbrev pub with_setup : State → SetupSeen → State
with_setup s entry = record s { script = record s.script { setup = s.script.setup ++ (s.lines, entry) ∷ [] } }

-- a job more of the last actor
abbrev pub onto_last : JobSeen → List (List ℕ × List JobSeen) → List (List ℕ × List JobSeen)
onto_last job [] = []
onto_last job (a ∷ []) = (a.0, a.1 ++ job ∷ []) ∷ []
onto_last job (a ∷ b ∷ rest) = a ∷ onto_last job (b ∷ rest)

-- a job more of the last actor, or of the after part where it began
abbrev pub add_job : Option (List JobSeen) → ScriptSeen → JobSeen → ScriptSeen
add_job None script job = record script { actors = onto_last job script.actors }
add_job (Some jobs) script job = record script { after = Some (jobs ++ job ∷ []) }

abbrev pub with_job : State → JobSeen → State
with_job s job = record s { jobs = s.jobs + 1; script = add_job s.script.after s.script job }

-- names in the order of declaration: an actor's number is its place and 1
abbrev pub actor_names : State → List (List ℕ)
actor_names s = map (λ a. a.0) s.script.actors

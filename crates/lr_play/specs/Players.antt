-- Who plays a script.
use Rattle.std.specs.Prelude.{◌==◌, ◌+◌, ℕ, List, [], ◌∷◌, ◌++◌, length, map, find, Option, Some, None, option_map}
use Rattle.lr_script.specs.Seen.{JobSeen, ScriptSeen}
use Rattle.lr_actors.specs.Jobs.{Job, job_of}

-- a caller with its jobs, and the steps after which it crashes
pub record Player : Type 0 where
  pub number : ℕ
  pub jobs : List Job
  pub crash : Option ℕ

-- after how many steps the actor of this number crashes
abbrev pub crash_of : List (ℕ × ℕ) → ℕ → Option ℕ
crash_of crashes number = option_map (λ (c : ℕ × ℕ). c.1) (find (λ (c : ℕ × ℕ). c.0 == number) crashes)

-- the actors, counted from this number on
abbrev pub actors_from : List (ℕ × ℕ) → ℕ → List (List ℕ × List JobSeen) → List Player
actors_from crashes number [] = []
actors_from crashes number (a ∷ actors) = record { number = number; jobs = map job_of a.1; crash = crash_of crashes number } ∷ actors_from crashes (number + 1) actors

abbrev pub actors_of : ScriptSeen → List Player
actors_of script = actors_from script.crashes 1 script.actors

-- the after part, where there is one, is the next caller
abbrev pub after_by : ℕ → Option (List JobSeen) → List Player
after_by number None = []
after_by number (Some jobs) = record { number = number; jobs = map job_of jobs; crash = None } ∷ []

abbrev pub after_of : ScriptSeen → List Player
after_of script = after_by (length script.actors + 1) script.after

-- The actors in the script's order, and then the after part.
abbrev pub players_of : ScriptSeen → List Player
players_of script = actors_of script ++ after_of script

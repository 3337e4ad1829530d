-- The names in a report: those that the lines of the script declare.
use Rattle.std.specs.Prelude.{ℕ, List, [], ◌∷◌, ◌++◌, Option, Some, None, map, codes, slice_index_or}
use Rattle.std.specs.List.{flat_map}
use Rattle.lr_script.specs.Seen.{ScriptSeen, SetupSeen, JobSeen, Host, Root, Image, Device}

-- the name of a `device` line
abbrev pub device_name : SetupSeen → List (List ℕ)
device_name (Host name cap) = []
device_name (Root salt) = []
device_name (Image name tenant len body) = []
device_name (Device name host image tenant) = name ∷ []

-- the devices in the order of their lines
unfoldable pub device_names : ScriptSeen → List (List ℕ)
device_names s = flat_map (λ line. device_name line.1) s.setup

-- the name of the after part, where there is one
abbrev pub after_name : Option (List JobSeen) → List (List ℕ)
after_name None = []
after_name (Some jobs) = codes "after" ∷ []

-- the callers 1, 2 and so on: the actors in the order of their lines, then the after part
unfoldable pub caller_names : ScriptSeen → List (List ℕ)
caller_names s = map (λ a. a.0) s.actors ++ after_name s.after

-- the name of the caller with this number, counted from 1; nothing where the number is none of theirs
unfoldable pub name_of : List (List ℕ) → ℕ → List ℕ
name_of names caller = slice_index_or ([] ∷ names) caller []

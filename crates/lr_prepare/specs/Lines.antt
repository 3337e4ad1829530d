-- The setup lines of a script, as lines that call the depot.
use Rattle.std.specs.Prelude.{◌≡◌, ℕ, List, [], ◌∷◌, ◌++◌, map}
use Rattle.lr_script.specs.declared.script.Setup.{Setup}
use Rattle.lr_script.specs.Seen.{SetupSeen, Host, Root, Image, Device, setup_seen}
use Rattle.lr_actors.specs.Creating.{raw_of}
use Rattle.lr_history.specs.Run.{ImageLine, DeviceLine}
use Rattle.lr_setup.specs.Setup.{SetupLine, rotates, creates, opens}

-- setup lines with their numbers, as contracts see them
abbrev pub seen_lines : List (ℕ × Setup) → List (ℕ × SetupSeen)
seen_lines setup = map (λ (p : ℕ × Setup). (p.0, setup_seen p.1)) setup

-- .. and without them
abbrev pub unnumbered : List (ℕ × SetupSeen) → List SetupSeen
unnumbered setup = map (λ (p : ℕ × SetupSeen). p.1) setup

-- the capacities of the host lines, in order
abbrev pub capacities : List SetupSeen → List ℕ
capacities [] = []
capacities (Host name cap ∷ setup) = cap ∷ capacities setup
capacities (Root salt ∷ setup) = capacities setup
capacities (Image name tenant len body ∷ setup) = capacities setup
capacities (Device name host image tenant ∷ setup) = capacities setup

-- What a setup line is to the depot, with its words: a host is nothing. An image's raw bytes are those of its body.
abbrev pub IsDoneAs : SetupSeen → List SetupLine → Type 0
IsDoneAs (Host name cap) lines = lines ≡ []
IsDoneAs (Root salt) lines = lines ≡ rotates salt ∷ []
IsDoneAs (Image name tenant len body) lines = (line : ImageLine) × (lines ≡ creates line ∷ []) × (line.image ≡ name) × (line.tenant ≡ tenant) × (line.raw ≡ raw_of len body)
IsDoneAs (Device name host image tenant) lines = (line : DeviceLine) × (lines ≡ opens line ∷ []) × (line.image ≡ image) × (line.tenant ≡ tenant) × (line.host ≡ host)

-- .. and what these are, in order
abbrev pub AreDoneAs : List SetupSeen → List SetupLine → Type 0
AreDoneAs [] lines = lines ≡ []
AreDoneAs (setup ∷ more) lines = (front : List SetupLine) × (rest : List SetupLine) × (lines ≡ front ++ rest) × IsDoneAs setup front × AreDoneAs more rest

-- The depot's log of the setup lines: what each line logs, where none is refused and none fails.
use Rattle.std.specs.Prelude.{◌≡◌, ℕ, List, [], ◌∷◌, ◌++◌, length, map}
use Rattle.std.specs.List.{AllZip}
use Rattle.std.specs.Arc.{arc_value}
use Rattle.std.specs.declared.sync.Arc.{Arc}
use Rattle.std.specs.declared.alloc.Global.{Global}
use Rattle.lr_layout.specs.Chunks.{chunks_of}
use Rattle.lr_convergent.specs.Sealed.{sealed_name}
use Rattle.lr_manifest.specs.declared.name.Name.{Name}
use Rattle.lr_manifest.specs.Manifest.{ManifestFields}
use Rattle.lr_seal.specs.Table.{HasTag, key_list}
use Rattle.lr_seal.specs.Made.{IsMadeOf}
use Rattle.lr_roots.specs.Roots.{IsHome}
use Rattle.lr_rules.specs.State.{State}
use Rattle.lr_depot.specs.declared.call.DepotNoted.{DepotNoted}
use Rattle.lr_depot.specs.declared.call.DepotNoted.TheVariants as noted
use Rattle.lr_depot.specs.declared.call.DepotTold.{DepotTold}
use Rattle.lr_depot.specs.declared.call.DepotTold.TheVariants as told
use Rattle.lr_depot.specs.Machine.{LogEntry, after_entry, run}
use Rattle.lr_history.specs.Run.{ImageLine, DeviceLine}

-- a setup line that calls the depot
pub data SetupLine : Type 0 where
  rotates : (salt : List ℕ) → SetupLine
  creates : (line : ImageLine) → SetupLine
  opens : (line : DeviceLine) → SetupLine

-- the image lines, and the device lines
abbrev pub images_of : List SetupLine → List ImageLine
images_of [] = []
images_of (creates line ∷ lines) = line ∷ images_of lines
images_of (rotates salt ∷ lines) = images_of lines
images_of (opens line ∷ lines) = images_of lines

abbrev pub devices_of : List SetupLine → List DeviceLine
devices_of [] = []
devices_of (opens line ∷ lines) = line ∷ devices_of lines
devices_of (rotates salt ∷ lines) = devices_of lines
devices_of (creates line ∷ lines) = devices_of lines

-- an entry of the setup
abbrev pub entry : DepotNoted → DepotTold → LogEntry
entry call reply = record { caller = 0; call = call; reply = reply }

-- a chunk of this name was put for the session
abbrev pub IsKept : ℕ → LogEntry → List ℕ → Type 0
IsKept session e name = (n : Name) × (e ≡ entry (noted.PutChunk session n) told.Kept) × (n.bytes ≡ name)

-- The log of these lines from a state on, where these image lines came before. An image line begins a creation, puts its
-- sealed chunks, and its manifest is made. A device line opens its image, at whose home of this moment its root is, and its
-- keys are those of the manifest under its tenant's key.
abbrev pub IsSetup : State → List ImageLine → List SetupLine → List LogEntry → Type 0
IsSetup s before [] log = log ≡ []
IsSetup s before (rotates salt ∷ lines) log =
    (r : ℕ) × (rest : List LogEntry) × (log ≡ entry (noted.Rotate salt) (told.Rotated r) ∷ rest)
    × IsSetup (after_entry s (entry (noted.Rotate salt) (told.Rotated r))) before lines rest
IsSetup s before (creates line ∷ lines) log =
    (session : ℕ) × (number : ℕ) × (puts : List LogEntry) × (m : Arc ManifestFields Global) × (rest : List LogEntry)
    × (log ≡ entry (noted.BeginCreate line.image) (told.Began session line.root line.salt number) ∷ (puts ++ entry (noted.PutManifest session m) (told.Made line.root) ∷ rest))
    × AllZip (IsKept session) puts (map (sealed_name line.salt) (chunks_of line.raw))
    × IsMadeOf line.salt line.tenant line.raw (arc_value m)
    × IsSetup (after_entry (run (after_entry s (entry (noted.BeginCreate line.image) (told.Began session line.root line.salt number))) puts) (entry (noted.PutManifest session m) (told.Made line.root)))
    (before ++ line ∷ []) lines rest
IsSetup s before (opens d ∷ lines) log =
    (m : Arc ManifestFields Global) × (rest : List LogEntry) × (log ≡ entry (noted.OpenImage d.image) (told.Opened d.lease m) ∷ rest)
    × (d.manifest ≡ arc_value m) × (d.before ≡ length before) × IsHome s.known.view d.image d.root
    × HasTag d.manifest d.tenant × (d.keys ≡ key_list d.manifest d.tenant)
    × IsSetup (after_entry s (entry (noted.OpenImage d.image) (told.Opened d.lease m))) before lines rest

-- The images that a depot owes to its callers.
use Rattle.std.specs.Prelude.{◌≡◌, ◌⊎◌, ℕ, List, [], ◌∷◌, Some}
use Rattle.std.specs.FinMap as map
use Rattle.std.specs.Arc.{arc_value}
use Rattle.std.specs.declared.sync.Arc.{Arc}
use Rattle.std.specs.declared.alloc.Global.{Global}
use Rattle.lr_manifest.specs.Manifest.{ManifestFields}
use Rattle.lr_origin.specs.declared.key.KeyKind.TheVariants.{Manifest, Withdrawn}
use Rattle.lr_roots.specs.View.{manifest, Lacks}
use Rattle.lr_roots.specs.Roots.{IsLive}
use Rattle.lr_rules.specs.State.{Creates, State, Holds}
use Rattle.lr_depot.specs.declared.call.DepotNoted.TheVariants.{PutManifest, Settle}
use Rattle.lr_depot.specs.declared.call.DepotTold.TheVariants.{Made, There}
use Rattle.lr_depot.specs.Machine.{LogEntry, after_entry, run}

-- the manifest of a creation was put
abbrev pub MakesImage : State → LogEntry → List ℕ → ManifestFields → Type 0
MakesImage s e image m =
    (n : ℕ) × (r : ℕ) × (d : ℕ) × (p : Arc ManifestFields Global) × (e.call ≡ PutManifest n p) × (e.reply ≡ Made r)
    × Holds s n e.caller (Creates image r d) × (arc_value p ≡ m)

-- the manifest of the image, whose put was in doubt, was found there
abbrev pub FindsImage : State → LogEntry → List ℕ → ManifestFields → Type 0
FindsImage s e image m =
    (r : ℕ) × (e.call ≡ Settle (Manifest r image)) × (e.reply ≡ There) × (map.get s.known.doubts (Manifest r image) ≡ Some (manifest m))

-- In this state the entry acknowledges the creation of an image with this manifest.
abbrev pub Acknowledges : State → LogEntry → List ℕ → ManifestFields → Type 0
Acknowledges s e image m = MakesImage s e image m ⊎ FindsImage s e image m

-- an entry of the log acknowledges it
abbrev pub IsMade : State → List LogEntry → List ℕ → ManifestFields → Type 0
IsMade s [] image m = ⊥
IsMade s (e ∷ es) image m = Acknowledges s e image m ⊎ IsMade (after_entry s e) es image m

-- A known image: at the start a live root had its manifest, or its creation was acknowledged.
abbrev pub IsKnown : State → List LogEntry → List ℕ → ManifestFields → Type 0
IsKnown start log image m =
    ((r : ℕ) × IsLive start.known.view r × (map.get start.known.view (Manifest r image) ≡ Some (manifest m)))
    ⊎ IsMade start log image m

-- An owed image: it is known and isn't withdrawn, or it has a lease.
abbrev pub IsOwed : State → List LogEntry → List ℕ → Type 0
IsOwed start log image =
    (((m : ManifestFields) × IsKnown start log image m) × Lacks (run start log).known.view (Withdrawn image))
    ⊎ ((n : ℕ) × (m : ManifestFields) × (map.get (run start log).desk.leases n ≡ Some (image, m)))

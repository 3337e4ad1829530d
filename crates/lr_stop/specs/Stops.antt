-- What a store keeps wherever a program over it stops, and what opening it again finds.
use Rattle.std.specs.Prelude.{◌≡◌, ◌⊎◌, ◌^◌, ℕ, List, [], ◌∷◌, ◌++◌, Option, Some, IsTrue}
use Rattle.std.specs.List.{Contains}
use Rattle.std.specs.Arc.{arc_value}
use Rattle.std.specs.declared.sync.Arc.{Arc}
use Rattle.std.specs.declared.alloc.Global.{Global}
use Rattle.std.specs.FinMap as map
use Rattle.lr_spec.specs.Rose.{Rose}
use Rattle.lr_spec.specs.Told.{Told}
use Rattle.lr_text.specs.Name.{is_name}
use Rattle.lr_layout.specs.Padded.{padded}
use Rattle.lr_manifest.specs.Manifest.{ManifestFields}
use Rattle.lr_seal.specs.Denotation.{denotation}
use Rattle.lr_seal.specs.Made.{HaveDistinctDigests, sealed_chunks, IsMadeOf}
use Rattle.lr_origin.specs.Objects.{Objects}
use Rattle.lr_origin.specs.declared.key.KeyKind.TheVariants.{Manifest}
use Rattle.lr_roots.specs.View.{manifest}
use Rattle.lr_roots.specs.Roots.{IsHome}
use Rattle.lr_opening.specs.Listing.{HasFewer}
use Rattle.lr_opening.specs.Store.{HasChunks, IsSoundStore}
use Rattle.lr_opening.specs.Cause.{IsCause}
use Rattle.lr_opening.specs.declared.cause.StartCause.{StartCause}
use Rattle.lr_opening.specs.declared.cause.StartCause.TheVariants.{OutOfMemory}
use Rattle.lr_rules.specs.State.{State, Creates, Holds}
use Rattle.lr_rules.specs.Calls.{MayOpen}
use Rattle.lr_depot.specs.declared.call.DepotNoted.{DepotNoted}
use Rattle.lr_depot.specs.declared.call.DepotNoted.TheVariants.{PutManifest}
use Rattle.lr_depot.specs.declared.call.DepotTold.{DepotTold}
use Rattle.lr_depot.specs.declared.call.DepotTold.TheVariants.{Made, Fault}
use Rattle.lr_depot.specs.Begun.{Start}
use Rattle.lr_depot.specs.Machine.{LogEntry, after_entry}
use Rattle.lr_depot.specs.Store.{IsRun}
use Rattle.lr_depot.specs.Owed.{IsKnown}
use Rattle.lr_depot.specs.Depot.{IsStart, LedTo, first_state}
use Rattle.lr_stop.specs.Images.{bodies, HasImage, IsKept, ReadsBack, AreAmong}

-- Each known image that nobody withdrew is in the store, with the manifest by which it is known.
abbrev pub KnownImagesStay : Type 0
KnownImagesStay =
    (start : Start) (m n : Objects) (log : List LogEntry) (image : List ℕ) (fields : ManifestFields)
    → LedTo start m log n → HasChunks m → IsKnown (first_state start) log image fields → IsKept n image → HasImage n image fields

-- An image of the store at the start denotes in the end what it denoted then, under each tenant's key.
abbrev pub OpenedImagesStay : Type 0
OpenedImagesStay =
    (start : Start) (m n : Objects) (log : List LogEntry) (image : List ℕ) (fields : ManifestFields) (r : ℕ) (strings : List (List ℕ))
    → LedTo start m log n → HasChunks m → IsHome start.view image r → map.get start.view (Manifest r image) ≡ Some (manifest fields) → IsKept n image
    → HaveDistinctDigests strings → AreAmong strings m → AreAmong strings n
    → (has : HasImage n image fields) × ((tenant : List ℕ) → denotation fields tenant (bodies n has.home) ≡ denotation fields tenant (bodies m r))

-- An image that is known by the manifest of a creation denotes the padded bytes of that creation.
abbrev pub CreatedImagesStay : Type 0
CreatedImagesStay =
    (start : Start) (m n : Objects) (log : List LogEntry) (image salt tenant raw : List ℕ) (fields : ManifestFields) (strings : List (List ℕ))
    → LedTo start m log n → HasChunks m → IsKnown (first_state start) log image fields → IsMadeOf salt tenant raw fields → IsKept n image
    → HaveDistinctDigests strings → ((x : List ℕ) → Contains (sealed_chunks salt raw) x → Contains strings x) → AreAmong strings n
    → ReadsBack n image tenant (padded raw)

-- What reads back over one store reads back over the other, unless somebody withdrew it. It speaks of the two stores alone, so it goes through any
-- number of programs and stops.
abbrev pub KeepsImages : Objects → Objects → Type 0
KeepsImages m n = (image tenant bytes : List ℕ) → ReadsBack m image tenant bytes → IsKept n image → ReadsBack n image tenant bytes

-- What is left of a store that was sound: it is sound, and it keeps its images, where digests tell the bodies of both apart.
abbrev pub KeepsSound : Option Objects → Option Objects → Type 0
KeepsSound told told_after = Told told (λ m. IsSoundStore m → (n : Objects) × (told_after ≡ Some n) × IsSoundStore n
    × ((strings : List (List ℕ)) → HaveDistinctDigests strings → AreAmong strings m → AreAmong strings n → KeepsImages m n))

-- A depot's calls keep the images of its store.
abbrev pub StoresKeepImages : Type 0
StoresKeepImages =
    (start : Start) (m n : Objects) (log : List LogEntry) (strings : List (List ℕ))
    → LedTo start m log n → HasChunks m → HaveDistinctDigests strings → AreAmong strings m → AreAmong strings n → KeepsImages m n

-- A withdrawal stays.
abbrev pub WithdrawalsStay : Type 0
WithdrawalsStay = (start : Start) (m n : Objects) (log : List LogEntry) (image : List ℕ) → LedTo start m log n → IsTrue (is_name image) → IsKept n image → IsKept m image

-- ---- where known manifests come from

-- A creation of the image puts this manifest: the put is acknowledged, or it failed and is in doubt.
abbrev pub PutsImage : State → ℕ → DepotNoted → DepotTold → List ℕ → ManifestFields → Type 0
PutsImage s c call reply image fields =
    (n : ℕ) × (r : ℕ) × (d : ℕ) × (p : Arc ManifestFields Global) × (call ≡ PutManifest n p) × ((reply ≡ Made r) ⊎ (reply ≡ Fault (Manifest r image)))
    × Holds s n c (Creates image r d) × (arc_value p ≡ fields)

-- an entry of the log is such a put
abbrev pub WasPut : State → List LogEntry → List ℕ → ManifestFields → Type 0
WasPut s [] image fields = ⊥
WasPut s (e ∷ es) image fields = PutsImage s e.caller e.call e.reply image fields ⊎ WasPut (after_entry s e) es image fields

-- The manifest of each known image was in the store at the start, or a creation of this log put it.
abbrev pub KnownImagesWerePut : Type 0
KnownImagesWerePut =
    (start : Start) (log : List LogEntry) (image : List ℕ) (fields : ManifestFields) → IsStart start → IsRun (first_state start) log → IsKnown (first_state start) log image fields
    → ((r : ℕ) × (map.get start.view (Manifest r image) ≡ Some (manifest fields))) ⊎ WasPut (first_state start) log image fields

-- ---- opening again

-- A sound store of fewer than 2^32 keys that doesn't fail while it is opened is opened, or memory wants.
abbrev pub SoundStoresStart : Type 0
SoundStoresStart = (n : Objects) (before after : ℕ) (c : StartCause) → IsSoundStore n → HasFewer n (2 ^ 32) → ¬ (Rose before after) → IsCause (Some n) before after c → c ≡ OutOfMemory

-- A depot that starts over a store that has an image may open it at its home, with its manifest.
abbrev pub ImagesAreFoundAgain : Type 0
ImagesAreFoundAgain =
    (start : Start) (n : Objects) (image : List ℕ) (fields : ManifestFields) → IsStart start → start.objects ≡ Some n
    → (has : HasImage n image fields) → IsKept n image → MayOpen (first_state start) image has.home fields × (start.view ≡ has.view)

-- What a play did, from the start of the depot to its end, and the headline.
use Rattle.std.specs.Prelude.{◌≡◌, ℕ, List, [], ◌++◌, length, Option, Some, slice_get}
use Rattle.std.specs.Arc.{arc_value}
use Rattle.lr_spec.specs.Told.{Told}
use Rattle.lr_layout.specs.Padded.{padded_length}
use Rattle.lr_origin.specs.Objects.{Objects}
use Rattle.lr_opening.specs.Store.{HasChunks}
use Rattle.lr_roots.specs.Roots.{IsHomed}
use Rattle.lr_rules.specs.Parts.{HasParts}
use Rattle.lr_depot.specs.Machine.{LogEntry}
use Rattle.lr_depot.specs.Owed.{IsOwed}
use Rattle.lr_depot.specs.Depot.{Seen, IsStarted, IsEnded, LedTo, KeepsStore, first_state, state}
use Rattle.lr_depot.specs.Store.{LeadsTo}
use Rattle.lr_images.specs.Answered.{IsUnspoiled}
use Rattle.lr_seal.specs.Made.{HaveDistinctDigests}
use Rattle.lr_history.specs.Run.{DeviceLine}
use Rattle.lr_history.specs.Strings.{strings_of}
use Rattle.lr_setup.specs.Setup.{devices_of}
use Rattle.lr_setup.specs.Whole.{Serves}
use Rattle.lr_actors.specs.declared.place.Parts.{Parts}
use Rattle.lr_actors.specs.declared.place.Context.{Context}
use Rattle.lr_prepare.specs.Prepared.{IsPrepared}
use Rattle.lr_headline.specs.Closing.{Closing, run_of}
use Rattle.lr_headline.specs.Headline.{bare, Follows, FindNothingSpoiled}
use Rattle.lr_play.specs.Played.{closing_of, IsPlayed}
use Rattle.lr_report.specs.declared.run.Run.{Run}
use Rattle.lr_report.specs.declared.run.OpenDevice.{OpenDevice}

-- what a device line opened: its image, its padded bytes, and its manifest, which names its chunks
pub record IsOpened (line : DeviceLine) (o : OpenDevice) : Type 0 where
  pub image : o.image ≡ line.image
  pub length : o.length ≡ padded_length line.manifest.raw_len
  pub manifest : arc_value o.manifest ≡ line.manifest

-- .. for each device line
pub record AreOpened (lines : List DeviceLine) (opened : List OpenDevice) : Type 0 where
  pub many : length opened ≡ length lines
  pub each : (i : ℕ) (o : OpenDevice) → slice_get opened i ≡ Some o → (line : DeviceLine) × (slice_get lines i ≡ Some line) × IsOpened line o

-- A play over a depot that was started: the script's setup lines were done, in order, as caller 0, and gave the parts; the actors played
-- over them, and then the after part; the depot ended with what is handed back, and so did the other objects.
pub record PlayedFrom {O : Type 0} (objects : O → Option Objects) (faults : O → ℕ) (first : Seen O) (after : O) (run : Run) : Type 0 where
  pub parts : Parts O
  pub context : Context
  pub prepared : IsPrepared run.script first parts context
  pub left : Parts O
  pub played : IsPlayed run.script prepared.lines context parts left run.trails.items
  pub ended : IsEnded objects faults left.depot after run.depot run.catalog
  pub devices : run.devices.items ≡ left.devices.items
  pub caches : run.caches.items ≡ left.caches.items
  pub nodes : run.nodes.items ≡ left.nodes.items
  pub opening : AreOpened (devices_of prepared.lines) run.opening.devices.items
  pub joined : run.joined.items ≡ []

-- .. and the depot started over the store
pub record HasPlayed {O : Type 0} (objects : O → Option Objects) (faults : O → ℕ) (before after : O) (run : Run) : Type 0 where
  pub first : Seen O
  pub started : IsStarted objects faults before first
  pub from : PlayedFrom objects faults first after run

-- what the run left
abbrev pub left_of : {O : Type 0} → (objects : O → Option Objects) → (faults : O → ℕ) → (before after : O) → (run : Run) → HasPlayed objects faults before after run → Closing
left_of objects faults before after run p = closing_of run.script p.from.prepared.lines p.from.context p.from.left run.trails.items

-- The headline. Where the store told its objects, and each of its chunks had its length and digest at the start: each device's answered
-- calls form one legal history of a plain block device opened on its image's bytes, each call once and in the order of its caller, and a
-- call fails only with a failed fetch of its own, if digests tell the strings of the run apart. Whatever the store holds: the same on every
-- base that agrees with the pieces used; chunks are fetched on demand. After each call of the depot, by its view and in the store where it
-- told its objects, every live root is complete and every owed image has a home.
pub record Headline {O : Type 0} (objects : O → Option Objects) (faults : O → ℕ) (before after : O) (run : Run) (p : HasPlayed objects faults before after run) : Type 0 where
  pub served : Told (objects before) (λ m. HasChunks m → (n : Objects) × (objects after ≡ Some n)
      × (HaveDistinctDigests (strings_of (run_of (left_of objects faults before after run p) m n)) → Serves (run_of (left_of objects faults before after run p) m n)))
  pub follows : Follows (bare (left_of objects faults before after run p))
  pub complete : (front rest : List LogEntry) → run.depot.log ≡ front ++ rest
      → HasParts (state p.first.start front) × ((image : List ℕ) → IsOwed (first_state p.first.start) front image → IsHomed (state p.first.start front).known.view image)
  -- so it is in the store: the log leads through objects that are one way out of the doubts of that moment
  pub stored : Told (objects before) (λ m. (front rest : List LogEntry) → run.depot.log ≡ front ++ rest
      → (k : Objects) × (n : Objects) × LedTo p.first.start m front k × LeadsTo (state p.first.start front) k rest n × (objects after ≡ Some n) × KeepsStore p.first.start front k)
  -- no call of the depot, whosever it is, finds a key spoiled in a store that was sound, and no job ends with one
  pub unspoiled : Told (objects before) (λ m. HasChunks m → IsUnspoiled run.depot.log × FindNothingSpoiled (left_of objects faults before after run p))

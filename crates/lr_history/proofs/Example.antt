-- A run that meets all premises.
use Rattle.std.proofs.Common.{◌≡◌, ◌<◌, ℕ, zero, suc, List, [], ◌∷◌, length, map, drop, replicate, Some, None, slice_get, true, false, nat_eq, refl, sym, ap, subst, ◌∙◌, inl, arith}
use Rattle.std.specs.Prelude.{Vec, find}
use Rattle.std.specs.declared.sync.Arc.{Arc}
use Rattle.std.specs.declared.alloc.Global.{Global}
use denote.RawPtr.{null_ptr}
use Rattle.std.specs.List.{Contains}
use Rattle.std.specs.Str.{bytes_eq}
use Rattle.std.proofs.lemmas.Slice.Eq.{bytes_eq-Decides}
use Rattle.std.specs.FinMap as finmap
use Rattle.std.specs.FinMap.{get-from_sorted, entries-from_sorted}
use Rattle.lr_layout.specs.Chunks.{chunks_of}
use Rattle.lr_aes.specs.Counter.{with_stream}
use Rattle.lr_manifest.specs.Manifest.{ManifestFields, IsManifest}
use Rattle.lr_convergent.specs.declared.piece.KeptPiece.{KeptPiece}
use Rattle.lr_seal.specs.Table.{HasTag, key_list, rows_of, made}
use Rattle.lr_seal.specs.Made.{IsMadeOf, HaveDistinctDigests}
use Rattle.lr_origin.specs.Objects.{Objects, key_cmp}
use Rattle.lr_origin.specs.Text.{key_text}
use Rattle.lr_origin.specs.declared.key.KeyKind.TheVariants.{Chunk}
use Rattle.lr_opening.specs.Store.{HasChunks}
use Rattle.lr_object.specs.Grown.{Grown, same, more}
use Rattle.lr_object.specs.declared.id.ObjectId.{ObjectId}
use Rattle.lr_object.specs.declared.id.ObjectId.TheVariants.{Device, Cache, Node, Depot}
use Rattle.lr_device.specs.declared.call.DeviceCall.{DeviceCall}
use Rattle.lr_device.specs.declared.call.DeviceCall.TheVariants.{Read}
use Rattle.lr_device.specs.declared.call.DeviceReply.TheVariants as reply
use Rattle.lr_device.specs.declared.step.DeviceStep.TheVariants as asks
use Rattle.lr_device.specs.declared.step.DeviceNoted.TheVariants.{Plan, Commit}
use Rattle.lr_device.specs.declared.step.DeviceAnswer.TheVariants.{Planned, Committed}
use Rattle.lr_device.specs.Demand.{demand, buffers}
use Rattle.lr_device.specs.Room.{RoomSeen}
use Rattle.lr_device.specs.Machine.{LogEntry}
use Rattle.lr_device.specs.Answers.{Answers}
use Rattle.lr_device.specs.Enters.{Enters}
use Rattle.lr_walk.specs.declared.trail.Answer.TheVariants.{Range}
use Rattle.lr_walk.specs.declared.trail.Did.{Did}
use Rattle.lr_walk.specs.Steps.{on_device, by_device, Step, step}
use Rattle.lr_walk.specs.Device as devices
use Rattle.lr_walk.specs.Trails.{places, AreCounted, AreReaps}
use Rattle.lr_history.specs.Jobs.{calls, HasTrailSeen}
use Rattle.lr_history.specs.Run.{ImageLine, DeviceLine, DeviceSeen, ActorSeen, Run}
use Rattle.lr_history.specs.Strings.{strings_of}
use Rattle.lr_history.specs.Opened.{is_line_of}
use Rattle.lr_history.specs.Lists.{own, place_of, context_of}
use Rattle.lr_history.specs.Premises.{IsOpened, IsRun, AreCallers, AreDeviceLogs, AreCacheLogs, size_of}
use Rattle.lr_history.specs.Claims.{HaveOwnLeases, AreApart}
use Rattle.lr_history.specs.Example.{Worked}
use Rattle.lr_history.proofs.Among.{first}

-- ---- values of shared and owned types

abbrev pub arc : {X : Type 0} → X → Arc X Global
arc x = record { ptr = null_ptr; value = x }

abbrev pub no_pieces : Global → Vec KeptPiece Global
no_pieces heap = record { ptr = null_ptr; len = 0; cap = 0; alloc = heap; items = []; ok = (refl, omega arith); small = omega arith }

abbrev pub path_of : Global → (l : List Did) → length l < 100 → Vec Did Global
path_of heap l h = record { ptr = null_ptr; len = length l; cap = length l; alloc = heap; items = l; ok = (refl, omega arith); small = omega arith }

abbrev past_the_end : DeviceCall
past_the_end = Read 0 512

-- an empty store
abbrev nothing : Objects
nothing = finmap.from_sorted []

no_entries : finmap.entries nothing ≡ []
no_entries = entries-from_sorted key_cmp [] tt

pub zero_apart : (i : ℕ) → nat_eq 0 (suc i) ≡ false
zero_apart i = grind arith

pub itself_true : (a : List ℕ) → bytes_eq a a ≡ true
itself_true a = (bytes_eq-Decides a a).1 refl

module _ (heap : Global) (salt tenant : List ℕ) where
  abbrev nonce : List ℕ
  nonce = replicate 12 0

  abbrev its_manifest : ManifestFields
  its_manifest = made 0 [] [] nonce tenant

  abbrev image_line : ImageLine
  image_line = record { image = 97 ∷ []; tenant = tenant; raw = []; root = 1; salt = salt }

  abbrev line : DeviceLine
  line = record { image = 97 ∷ []; tenant = tenant; before = 1; root = 1; host = 0; lease = 1; manifest = its_manifest; keys = key_list its_manifest tenant }

  abbrev plan_entry : LogEntry
  plan_entry = record { caller = 1; call = Plan (arc past_the_end); reply = Planned [] 0 }

  abbrev commit_entry : LogEntry
  commit_entry = record { caller = 1; call = Commit (Some (arc past_the_end)) (no_pieces heap); reply = Committed reply.Range }

  abbrev device : DeviceSeen
  device = record { line = line; log = plan_entry ∷ commit_entry ∷ [] }

  abbrev path : List Did
  path = record { object = Device 0; place = 0; memory = false } ∷ record { object = Device 0; place = 1; memory = false } ∷ []

  abbrev actor : ActorSeen
  actor = record { number = 1; jobs = calls 0 past_the_end ∷ []; results = record { answer = Range; path = path_of heap path (omega arith) } ∷ [] }

  abbrev run : Run
  run = record {
    opening = nothing;
    closing = nothing;
    images = image_line ∷ [];
    creations = [];
    devices = device ∷ [];
    caches = [];
    nodes = [];
    depot = [];
    actors = actor ∷ [];
  }

  -- ---- the setup

  no_chunks : chunks_of [] ≡ []
  unfolding chunks_of
  no_chunks = refl

  no_keys : key_list its_manifest tenant ≡ []
  unfolding key_list made rows_of
  no_keys = refl

  tagged : HasTag its_manifest tenant
  unfolding HasTag made rows_of with_stream
  tagged = refl

  is_made : IsMadeOf salt tenant [] its_manifest
  unfolding made
  is_made = record { raw_len = refl; names = ap (map _) (sym no_chunks); tag = tagged; keys = no_keys ∙ ap (map _) (sym no_chunks) }

  is_manifest : IsManifest its_manifest
  unfolding made rows_of
  is_manifest = record { raw_len = omega arith; count = omega arith; keys = refl; keys32 = tt; nonce12 = refl; tag16 = omega arith }

  its_line : (l : ImageLine) → find (is_line_of line) (image_line ∷ []) ≡ Some l → image_line ≡ l
  its_line l e =
      let is : find (is_line_of line) (image_line ∷ []) ≡ Some image_line = rw (itself_true tenant) refl in
      cc

  opened : (i : ℕ) (d : DeviceSeen) → slice_get run.devices i ≡ Some d → IsOpened run.opening run.images d.line
  unfolding made
  opened zero d e =
      let is : device ≡ d = cc in
      subst (λ (x : DeviceSeen). IsOpened run.opening run.images x.line) is
      (record {
        manifest = is_manifest;
        tag = tagged;
        keys = refl;
        lined = λ l f. subst (λ (x : ImageLine). IsMadeOf x.salt x.tenant x.raw its_manifest) (its_line l f) is_made;
        kinds = tt;
        there = tt;
      })
  opened (suc i) d e = absurd (cc)

  chunks : HasChunks run.opening
  chunks r name body kind e =
      let none : finmap.get nothing (key_text (Chunk r name)) ≡ None = get-from_sorted key_cmp [] (key_text (Chunk r name)) tt in
      absurd (cc (none, e))

  no_strings : strings_of run ≡ []
  no_strings = rw (no_chunks, no_entries) refl

  digests : HaveDistinctDigests (strings_of run)
  digests x y c k e =
      let none : Contains [] x = subst (λ (l : List (List ℕ)). Contains l x) no_strings c in
      absurd (omega (arith, none.1))

  -- ---- the device's log

  nothing_needed : demand 0 (λ page. false) past_the_end ≡ []
  unfolding demand
  nothing_needed = refl

  nothing_kept : buffers 0 (λ page. false) past_the_end ≡ 0
  unfolding buffers
  nothing_kept = refl

  room : RoomSeen
  room = record { pages = 0; told = 0; kept = 0 }

  no_size : size_of device ≡ 0
  unfolding made
  no_size = refl

  planned : Grown Answers Enters 0 [] (plan_entry ∷ [])
  planned = more same (asks.Plan (arc past_the_end)) (Planned [] 0) plan_entry (refl, sym nothing_needed, sym nothing_kept) (record { logged = refl; noted = refl; told = refl })

  committed : Grown Answers Enters 0 [] (plan_entry ∷ commit_entry ∷ [])
  committed =
      more planned (asks.Commit (no_pieces heap) (record { pages = 0; told = 0; kept = 0 })) (Committed reply.Range) commit_entry (
        record { caller = 1; call = past_the_end; pages = 0 },
        refl,
        record {
          whole = rw nothing_needed refl;
          enough = refl;
          ranged = refl;
          sized = refl;
          plain = λ base long agrees used. rw long refl;
        },
      )
      (record { logged = refl; noted = (refl, rw nothing_needed refl); told = refl })

  logs : AreDeviceLogs run
  logs zero d e = let is : device ≡ d = cc in subst (λ (x : DeviceSeen). Grown Answers Enters (size_of x) [] x.log) is (subst (λ (n : ℕ). Grown Answers Enters n [] (plan_entry ∷ commit_entry ∷ [])) (sym no_size) committed)
  logs (suc i) d e = absurd (cc)

  caches : AreCacheLogs run
  caches = record { grown = λ host c e. absurd (cc); callers = λ host c e. absurd (cc) }

  -- ---- the actor

  callers : (i : ℕ) (d : DeviceSeen) → slice_get run.devices i ≡ Some d → AreCallers run.actors d.log
  callers zero d e =
      let is : device ≡ d = cc in
      let one_caller : Contains (1 ∷ []) 1 = first 1 [] in
      subst (λ (x : DeviceSeen). AreCallers run.actors x.log) is (one_caller, (one_caller, tt))
  callers (suc i) d e = absurd (cc)

  counted : (o : ObjectId) → AreCounted (places o actor.results)
  counted (Device zero) = refl
  counted (Device (suc i)) = rw (zero_apart i) refl
  counted (Cache i) = refl
  counted (Node i) = refl
  counted Depot = refl

  beyond : (o : ObjectId) → AreReaps (drop (length (places o actor.results)) (own run 1 o))
  beyond (Device zero) = (tt, omega arith)
  beyond (Device (suc i)) = rw (zero_apart i) (tt, omega arith)
  beyond (Cache i) = (tt, omega arith)
  beyond (Node i) = (tt, omega arith)
  beyond Depot = (tt, omega arith)

  abbrev plan_step : Step
  plan_step = step (on_device 0 (devices.plans past_the_end)) (by_device (devices.planned [] 0))

  abbrev made_step : Step
  made_step = step (on_device 0 (devices.commits (Some past_the_end) [])) (by_device (devices.committed reply.Range))

  trail : HasTrailSeen (context_of run) (own run 1) actor.jobs actor.results
  trail = record {
    walks = (
      (
        plan_step ∷ made_step ∷ [],
        ((refl, refl), ((refl, refl), tt)),
        (place_of device, refl, inl (by_device (devices.planned [] 0), plan_step, made_step ∷ [], refl, (refl, tt), inl ([], reply.Range, refl, tt, refl))),
      ),
      tt,
    );
    counted = counted;
    beyond = beyond;
  }

  is_run : IsRun run
  is_run = record { callers = callers; trails = (trail, tt) }

  leases : HaveOwnLeases (context_of run)
  leases zero zero p q e f equal = cc
  leases zero (suc j) p q e f equal = absurd (cc)
  leases (suc i) j p q e f equal = absurd (cc)

  apart : AreApart run
  apart = record { numbers = (tt, tt); leases = leases }

pub worked : Global → Worked
worked heap =
    let salt : List ℕ = replicate 32 17 in
    let tenant : List ℕ = replicate 32 170 in
    record {
      run = run heap salt tenant;
      is_run = is_run heap salt tenant;
      logs = logs heap salt tenant;
      caches = caches heap salt tenant;
      set_up = record { chunks = chunks heap salt tenant; opened = opened heap salt tenant };
      digests = digests heap salt tenant;
      apart = apart heap salt tenant;
      device = device heap salt tenant;
      one = refl;
      its_base = refl;
      answered = refl;
    }

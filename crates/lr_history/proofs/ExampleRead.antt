-- A run whose device reads a chunk of an image that the store had. Nothing of a chunk's length is computed, nor any digest.
use Rattle.std.proofs.Common.{◌≡◌, ℕ, zero, suc, List, [], ◌∷◌, length, take, drop, map, filter, replicate, Some, None, slice_get, cond, Bool, true, false, refl, sym, ap, subst, ◌∙◌, inl, arith}
use Rattle.std.specs.Prelude.{Vec}
use Rattle.std.specs.declared.alloc.Global.{Global}
use denote.RawPtr.{null_ptr}
use Rattle.std.specs.List.{AllByRecursion, Contains}
use Rattle.std.specs.FinMap as finmap
use Rattle.std.specs.FinMap.{get-from_sorted, entries-from_sorted, slice_cmp-IsAntisymmetric, nat_cmp-IsAntisymmetric}
use Rattle.std.specs.Ordering.{is_eq, eq_by_cmp}
use Rattle.std.proofs.lemmas.List.{take_all, take-take, length-take}
use Rattle.std.proofs.lemmas.List.Elements.{All-contains, All-from_recursion}
use Rattle.sha2.specs.Sha256.{sha256}
use Rattle.sha2.proofs.Facts256.{length-sha256}
use Rattle.lr_aes.specs.Key.{encrypted}
use Rattle.lr_aes.specs.Gcm.{gcm_text, gcm_tag}
use Rattle.lr_manifest.specs.declared.name.Name.{Name}
use Rattle.lr_manifest.specs.declared.name.ChunkKey.{ChunkKey}
use Rattle.lr_manifest.specs.Manifest.{ManifestFields, IsManifest, clear_text}
use Rattle.lr_convergent.specs.Sealed.{chunk_text}
use Rattle.lr_convergent.specs.declared.piece.KeptPiece.{KeptPiece}
use Rattle.lr_seal.specs.Table.{HasTag, key_list, rows_of, joined_keys}
use Rattle.lr_seal.specs.Made.{HaveDistinctDigests}
use Rattle.lr_origin.specs.Objects.{Objects, key_cmp}
use Rattle.lr_origin.specs.Text.{key_text, IsKind}
use Rattle.lr_origin.specs.declared.key.KeyKind.{KeyKind}
use Rattle.lr_origin.specs.declared.key.KeyKind.TheVariants.{Chunk}
use Rattle.lr_opening.specs.Store.{HasChunks}
use Rattle.lr_opening.proofs.Views.{text_itself, key_text_injective}
use Rattle.lr_depot.proofs.Digests.{digest_kind}
use Rattle.lr_object.specs.Grown.{Grown, same, more}
use Rattle.lr_object.specs.declared.id.ObjectId.{ObjectId}
use Rattle.lr_object.specs.declared.id.ObjectId.TheVariants.{Device, Cache, Node, Depot}
use Rattle.lr_device.specs.declared.call.DeviceCall.{DeviceCall}
use Rattle.lr_device.specs.declared.call.DeviceCall.TheVariants.{Read}
use Rattle.lr_device.specs.declared.call.DeviceReply.TheVariants as reply
use Rattle.lr_device.specs.declared.step.DeviceStep.TheVariants as asks
use Rattle.lr_device.specs.declared.step.DeviceNoted.TheVariants.{Plan, Commit}
use Rattle.lr_device.specs.declared.step.DeviceAnswer.TheVariants.{Planned, Committed}
use Rattle.lr_device.specs.Base.{part_of, HasPiece, Agrees}
use Rattle.lr_device.specs.Demand.{demand, buffers}
use Rattle.lr_device.specs.Machine.{LogEntry}
use Rattle.lr_device.specs.Answers.{Answers, used_of}
use Rattle.lr_device.specs.Enters.{Enters}
use Rattle.lr_cache.specs.declared.call.CacheCall.TheVariants.{Look, Fill}
use Rattle.lr_cache.specs.declared.call.CacheReply.TheVariants.{Lead, Filled, Hit}
use Rattle.lr_walk.specs.declared.trail.Answer.TheVariants.{Done}
use Rattle.lr_walk.specs.declared.trail.Did.{Did}
use Rattle.lr_walk.specs.Steps.{on_device, on_cache, by_device, by_cache, Step, step}
use Rattle.lr_walk.specs.Device.{Piece}
use Rattle.lr_walk.specs.Device as devices
use Rattle.lr_walk.specs.Cache as caches
use Rattle.lr_walk.specs.Load.{with_chunk}
use Rattle.lr_walk.specs.Trails.{places, AreCounted, AreReaps}
use Rattle.lr_history.specs.Jobs.{calls, HasTrailSeen}
use Rattle.lr_history.specs.Run.{DeviceLine, DeviceSeen, CacheSeen, ActorSeen, Run}
use Rattle.lr_history.specs.Strings.{is_chunk_key, chunk_bodies, strings_of}
use Rattle.lr_history.specs.Lists.{own, place_of, context_of}
use Rattle.lr_history.specs.Premises.{IsOpened, AreCallers, AreDeviceLogs, size_of}
use Rattle.lr_history.specs.Claims.{HaveOwnLeases}
use Rattle.lr_history.specs.Example.{WorkedRead}
use Rattle.lr_history.proofs.Among.{first, chunk_key, is_equal}
use Rattle.lr_history.proofs.Bases.{length-with_stream, length-chunk_text}
use Rattle.lr_history.proofs.Example.{arc, path_of, zero_apart}

abbrev one_piece : Global → KeptPiece → Vec KeptPiece Global
one_piece heap p = record { ptr = null_ptr; len = 1; cap = 1; alloc = heap; items = p ∷ []; ok = (refl, omega arith); small = omega arith }

abbrev first_sector : DeviceCall
first_sector = Read 0 512

one_name : (q r : ℕ) (m n : List ℕ) → Chunk q m ≡ Chunk r n → m ≡ n
one_name q r m n e = cc

one_key : (a b : List ℕ) → eq_by_cmp key_cmp a b ≡ true → a ≡ b
one_key a b t = slice_cmp-IsAntisymmetric nat_cmp-IsAntisymmetric a b (is_equal (key_cmp a b) t)

tied_itself : (a : List ℕ) → eq_by_cmp key_cmp a a ≡ true
tied_itself a = ap is_eq (text_itself a)

-- a chunk, and a tenant's key
module _ (heap : Global) (body tenant : List ℕ) (long : length body ≡ 524288) where
  abbrev nonce : List ℕ
  nonce = replicate 12 0

  abbrev sealed_key : List ℕ
  sealed_key = replicate 32 0

  abbrev its_name : Name
  its_name = record { bytes = sha256 body; long = length-sha256 body }

  abbrev manifest : ManifestFields
  manifest = record {
    raw_len = 4096;
    names = its_name ∷ [];
    nonce = nonce;
    sealed = sealed_key ∷ [];
    tag = gcm_tag (encrypted tenant) nonce (clear_text 4096 (its_name ∷ [])) (joined_keys (sealed_key ∷ []));
  }

  -- the sealed key, opened
  abbrev opened_key : List ℕ
  opened_key = take 32 (gcm_text (encrypted tenant) nonce (joined_keys (sealed_key ∷ [])))

  opened_long : length opened_key ≡ 32
  opened_long = let e : length (gcm_text (encrypted tenant) nonce (joined_keys (sealed_key ∷ []))) ≡ 32 = length-with_stream _ 0 (joined_keys (sealed_key ∷ [])) in simp length-take (omega arith)

  abbrev its_key : ChunkKey
  its_key = record { bytes = opened_key; long = opened_long }

  keys_are : key_list manifest tenant ≡ opened_key ∷ []
  unfolding key_list rows_of
  keys_are = refl

  tagged : HasTag manifest tenant
  unfolding HasTag
  tagged = refl

  is_manifest : IsManifest manifest
  is_manifest = record { raw_len = omega arith; count = refl; keys = refl; keys32 = (refl, tt); nonce12 = refl; tag16 = omega arith }

  abbrev kind : KeyKind
  kind = Chunk 1 (sha256 body)

  abbrev store : Objects
  store = finmap.from_sorted ((key_text kind, body) ∷ [])

  abbrev line : DeviceLine
  line = record { image = 98 ∷ []; tenant = tenant; before = 0; root = 1; host = 0; lease = 1; manifest = manifest; keys = key_list manifest tenant }

  abbrev kept : KeptPiece
  kept = record { index = 0; chunk = arc body; key = its_key }

  abbrev got : List ℕ
  got = take 512 (chunk_text opened_key body)

  abbrev plan_entry : LogEntry
  plan_entry = record { caller = 1; call = Plan (arc first_sector); reply = Planned (0 ∷ []) 0 }

  abbrev commit_entry : LogEntry
  commit_entry = record { caller = 1; call = Commit (Some (arc first_sector)) (one_piece heap kept); reply = Committed (reply.Got got) }

  abbrev device : DeviceSeen
  device = record { line = line; log = plan_entry ∷ commit_entry ∷ [] }

  abbrev cache_seen : CacheSeen
  cache_seen = record {
    capacity = 1;
    log = record { caller = 2; call = Look its_name; reply = Lead }
        ∷ record { caller = 2; call = Fill (arc body); reply = Filled }
        ∷ record { caller = 1; call = Look its_name; reply = Hit (arc body) } ∷ [];
  }

  abbrev path : List Did
  path = record { object = Device 0; place = 0; memory = false } ∷ record { object = Cache 0; place = 0; memory = false } ∷ record { object = Device 0; place = 1; memory = false } ∷ []

  abbrev actor : ActorSeen
  actor = record { number = 1; jobs = calls 0 first_sector ∷ []; results = record { answer = Done; path = path_of heap path (omega arith) } ∷ [] }

  abbrev run : Run
  run = record {
    opening = store;
    closing = store;
    images = [];
    creations = [];
    devices = device ∷ [];
    caches = cache_seen ∷ [];
    nodes = [];
    depot = [];
    actors = actor ∷ [];
  }

  -- ---- the store

  get_is : (q : List ℕ) → finmap.get store q ≡ cond (eq_by_cmp key_cmp q (key_text kind)) (Some body) None
  get_is q = get-from_sorted key_cmp ((key_text kind, body) ∷ []) q tt

  its_kind : IsKind kind
  its_kind = digest_kind 1 body (omega arith, omega arith)

  chunks : HasChunks store
  chunks r name b k e = by (eq_by_cmp key_cmp (key_text (Chunk r name)) (key_text kind)) refl (sym (get_is (key_text (Chunk r name))) ∙ e)
    where
      by : (t : Bool) → eq_by_cmp key_cmp (key_text (Chunk r name)) (key_text kind) ≡ t → cond t (Some body) None ≡ Some b → (length b ≡ 524288) × (sha256 b ≡ name)
      by true t s =
          let kinds : Chunk r name ≡ kind = key_text_injective (Chunk r name) kind k its_kind (one_key (key_text (Chunk r name)) (key_text kind) t) in
          let names : name ≡ sha256 body = one_name r 1 name (sha256 body) kinds in
          let is : body ≡ b = cc in
          (ap length (sym is) ∙ long, ap sha256 (sym is) ∙ sym names)
      by false t s = absurd (cc)

  bodies_are : chunk_bodies store ≡ body ∷ []
  bodies_are =
      ap (λ (es : List (List ℕ × List ℕ)). map (λ (e : List ℕ × List ℕ). e.1) (filter (λ (e : List ℕ × List ℕ). is_chunk_key e.0) es)) (entries-from_sorted key_cmp ((key_text kind, body) ∷ []) tt)
      ∙ rw (chunk_key 1 (sha256 body)) refl

  all_strings : AllByRecursion (λ (x : List ℕ). x ≡ body) (strings_of run)
  all_strings = rw bodies_are (refl, (refl, (refl, tt)))

  digests : HaveDistinctDigests (strings_of run)
  digests x y cx cy e =
      let all = All-from_recursion (λ (z : List ℕ). z ≡ body) (strings_of run) all_strings in
      All-contains (λ (z : List ℕ). z ≡ body) (strings_of run) x all cx ∙ sym (All-contains (λ (z : List ℕ). z ≡ body) (strings_of run) y all cy)

  opened : (i : ℕ) (d : DeviceSeen) → slice_get run.devices i ≡ Some d → IsOpened run.opening run.images d.line
  opened zero d e =
      let is : device ≡ d = cc in
      let found : finmap.get store (key_text kind) ≡ Some body = get_is (key_text kind) ∙ ap (λ (b : Bool). cond b (Some body) None) (tied_itself (key_text kind)) in
      subst (λ (x : DeviceSeen). IsOpened store [] x.line) is
      (record { manifest = is_manifest; tag = tagged; keys = refl; lined = λ l f. absurd (cc); kinds = (its_kind, tt); there = (rw found refl, tt) })
  opened (suc i) d e = absurd (cc)

  -- ---- the device's log

  its_demand : demand 4096 (λ page. false) first_sector ≡ 0 ∷ []
  unfolding demand
  its_demand = refl

  no_buffers : buffers 4096 (λ page. false) first_sector ≡ 0
  unfolding buffers
  no_buffers = refl

  got_long : length got ≡ 512
  got_long = let e : length (chunk_text opened_key body) ≡ 524288 = length-chunk_text opened_key body ∙ long in simp length-take (omega arith)

  -- what a base that agrees with the piece begins with
  begins : (base : List ℕ) → length base ≡ 4096 → HasPiece base kept → take 512 base ≡ got
  begins base wide part =
      let all : part_of base 0 ≡ base = take_all 524288 base (omega arith) in
      let is : base ≡ take 4096 (chunk_text opened_key body) = sym all ∙ part ∙ ap (λ (l : List ℕ). take (length l) (chunk_text opened_key body)) all ∙ ap (λ (n : ℕ). take n (chunk_text opened_key body)) wide in
      ap (take 512) is ∙ take-take 512 4096 (chunk_text opened_key body) (omega arith)

  planned : Grown Answers Enters 4096 [] (plan_entry ∷ [])
  planned = more same (asks.Plan (arc first_sector)) (Planned (0 ∷ []) 0) plan_entry (refl, sym its_demand, sym no_buffers) (record { logged = refl; noted = refl; told = refl })

  first_piece : (base : List ℕ) → Agrees base (used_of (demand 4096 (λ page. false) first_sector) (kept ∷ [])) → HasPiece base kept
  first_piece base used = (subst (λ (l : List ℕ). Agrees base (used_of l (kept ∷ []))) its_demand used).0

  committed : Grown Answers Enters 4096 [] (plan_entry ∷ commit_entry ∷ [])
  committed =
      more planned (asks.Commit (one_piece heap kept) (record { pages = 0; told = 512; kept = 512 })) (Committed (reply.Got got)) commit_entry (
        record { caller = 1; call = first_sector; pages = 0 },
        refl,
        record {
          whole = rw its_demand refl;
          enough = refl;
          ranged = refl;
          sized = got_long;
          plain = λ base wide agrees used. rw wide (ap reply.Got (sym (begins base wide (first_piece base used))));
        },
      )
      (record { logged = refl; noted = (refl, rw its_demand refl); told = refl })

  logs : AreDeviceLogs run
  logs zero d e = let is : device ≡ d = cc in subst (λ (x : DeviceSeen). Grown Answers Enters (size_of x) [] x.log) is committed
  logs (suc i) d e = absurd (cc)

  -- ---- the actor

  callers : (i : ℕ) (d : DeviceSeen) → slice_get run.devices i ≡ Some d → AreCallers run.actors d.log
  callers zero d e =
      let is : device ≡ d = cc in
      let one_caller : Contains (1 ∷ []) 1 = first 1 [] in
      subst (λ (x : DeviceSeen). AreCallers run.actors x.log) is (one_caller, (one_caller, tt))
  callers (suc i) d e = absurd (cc)

  counted : (o : ObjectId) → AreCounted (places o actor.results)
  counted (Device zero) = refl
  counted (Device (suc i)) = rw (zero_apart i) refl
  counted (Cache zero) = refl
  counted (Cache (suc i)) = rw (zero_apart i) refl
  counted (Node i) = refl
  counted Depot = refl

  beyond : (o : ObjectId) → AreReaps (drop (length (places o actor.results)) (own run 1 o))
  beyond (Device zero) = (tt, omega arith)
  beyond (Device (suc i)) = rw (zero_apart i) (tt, omega arith)
  beyond (Cache zero) = (tt, omega arith)
  beyond (Cache (suc i)) = rw (zero_apart i) (tt, omega arith)
  beyond (Node i) = (tt, omega arith)
  beyond Depot = (tt, omega arith)

  abbrev piece : Piece
  piece = record { index = 0; chunk = body; key = opened_key }

  abbrev plan_step : Step
  plan_step = step (on_device 0 (devices.plans first_sector)) (by_device (devices.planned (0 ∷ []) 0))

  abbrev hit_step : Step
  hit_step = step (on_cache 0 (caches.looks its_name)) (by_cache (caches.hit body))

  abbrev made_step : Step
  made_step = step (on_device 0 (devices.commits (Some first_sector) (piece ∷ []))) (by_device (devices.committed (reply.Got got)))

  trail : HasTrailSeen (context_of run) (own run 1) actor.jobs actor.results
  trail = record {
    walks = (
      (
        plan_step ∷ hit_step ∷ made_step ∷ [],
        ((refl, refl), ((refl, refl), ((refl, refl), tt))),
        (
          place_of device,
          refl,
          inl (
            by_device (devices.planned (0 ∷ []) 0),
            plan_step,
            hit_step ∷ made_step ∷ [],
            refl,
            (refl, tt),
            inl (
              its_name,
              opened_key,
              refl,
              ap (λ (l : List (List ℕ)). slice_get l 0) keys_are,
              (
                hit_step ∷ [],
                made_step ∷ [],
                with_chunk body,
                refl,
                (by_cache (caches.hit body), hit_step, [], refl, (refl, refl), (refl, refl)),
                inl (piece ∷ [], reply.Got got, refl, (first piece [], tt), refl),
              ),
            ),
          ),
        ),
      ),
      tt,
    );
    counted = counted;
    beyond = beyond;
  }

  leases : HaveOwnLeases (context_of run)
  leases zero zero p q e f equal = cc
  leases zero (suc j) p q e f equal = absurd (cc)
  leases (suc i) j p q e f equal = absurd (cc)

some_bytes : (n : ℕ) → (b : List ℕ) × (length b ≡ n)
some_bytes zero = ([], refl)
some_bytes (suc n) = let (b, e) = some_bytes n in (0 ∷ b, ap suc e)

worked_of : (heap : Global) (tenant : List ℕ) (some : (b : List ℕ) × (length b ≡ 524288)) → WorkedRead
worked_of heap tenant (body, long) = record {
  run = run heap body tenant long;
  is_run = record { callers = callers heap body tenant long; trails = (trail heap body tenant long, tt) };
  logs = logs heap body tenant long;
  set_up = record { chunks = chunks heap body tenant long; opened = opened heap body tenant long };
  digests = digests heap body tenant long;
  apart = record { numbers = (tt, tt); leases = leases heap body tenant long };
  device = device heap body tenant long;
  one = refl;
  no_line = refl;
  answered = refl;
  used = refl;
}

pub worked_read : Global → WorkedRead
worked_read heap = worked_of heap (replicate 32 170) (some_bytes 524288)

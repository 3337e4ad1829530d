-- What the setup lines gave, as a play begins with it.
use Rattle.std.proofs.Common.{◌≡◌, ◌≢◌, ◌≤◌, ◌<◌, ◌+◌, ◌*◌, ℕ, zero, suc, List, [], ◌∷◌, ◌++◌, length, length-append, map, Bool, true, false, Option, Some, None, nat_eq, slice_get, replicate, refl, sym, ap, subst, ◌∙◌, arith}
use Rattle.std.specs.List.{AllByRecursion, AllZip}
use Rattle.std.specs.FinMap as finmap
use Rattle.std.proofs.lemmas.List.{length-map, length-replicate}
use Rattle.std.proofs.lemmas.List.Sums.{sum_by-cons}
use Rattle.std.proofs.lemmas.Bool.{eqb-true}
use Rattle.lr_layout.specs.Padded.{padded_length}
use Rattle.lr_manifest.specs.Manifest.{ManifestFields, IsManifest, chunk_count}
use Rattle.lr_object.specs.declared.entry.Entry.{Entry}
use Rattle.lr_object.specs.declared.id.ObjectId.{ObjectId}
use Rattle.lr_object.specs.declared.id.ObjectId.TheVariants.{Device, Cache, Node, Depot}
use Rattle.lr_object.specs.Kept.{Sized}
use Rattle.lr_object.specs.Own.{own_entries}
use Rattle.lr_object.specs.Grown as grown
use Rattle.lr_object.specs.Grown.{Grown}
use Rattle.lr_device.specs.declared.step.DeviceNoted.{DeviceNoted}
use Rattle.lr_device.specs.declared.step.DeviceAnswer.{DeviceAnswer}
use Rattle.lr_device.specs.Answers.{Answers}
use Rattle.lr_device.specs.Enters.{Enters}
use Rattle.lr_cache.specs.declared.call.CacheCall.{CacheCall}
use Rattle.lr_cache.specs.declared.call.CacheReply.{CacheReply}
use Rattle.lr_cache.specs.Orderly.{IsCacheLog}
use Rattle.lr_nodes.specs.Orderly.{IsNodeLog}
use Rattle.lr_nodes.specs.declared.call.NodeCall.{NodeCall}
use Rattle.lr_nodes.specs.declared.call.NodeReply.{NodeReply}
use Rattle.lr_depot.specs.Begun.{Start}
use Rattle.lr_depot.specs.Depot.{Seen, IsStart, first_state, state}
use Rattle.lr_depot.specs.Machine.{LogEntry}
use Rattle.lr_depot.specs.Store.{IsRun}
use Rattle.lr_rules.specs.State.{State}
use Rattle.lr_walk.specs.Calls.{DevicePlace}
use Rattle.lr_walk.specs.Jobs.{Context}
use Rattle.lr_history.specs.Run.{ImageLine, DeviceLine}
use Rattle.lr_history.specs.Lists.{device_entry, cache_entry, node_entry, depot_entry}
use Rattle.lr_history.specs.Ready.{claim_by, out_after}
use Rattle.lr_setup.specs.Setup.{SetupLine, rotates, creates, opens, devices_of, IsKept, IsSetup}
use Rattle.lr_script.specs.Seen.{SetupSeen, Host, Root, Image, ScriptSeen}
use Rattle.lr_script.specs.Seen as script
use Rattle.lr_script.specs.Within.{IsWithin, host_count, device_count, hosts_in, devices_in, IsSetupWithin}
use Rattle.lr_actors.specs.declared.place.Parts.{Parts}
use Rattle.lr_actors.specs.declared.place.Context.{Context as Kept}
use Rattle.lr_actors.specs.Places.{IsPlace}
use Rattle.lr_actors.specs.Jobs.{seen_context}
use Rattle.lr_actors.specs.Begun.{IsContext}
use Rattle.lr_actors.specs.Actor.{AreHosted}
use Rattle.lr_replies.specs.Objects.{Objects, log_of, own_lists}
use Rattle.lr_replies.specs.Replies.{AreMade, IsOut}
use Rattle.lr_world.specs.Calling.{objects_in}
use Rattle.lr_world.specs.World.{HasNoClaims}
use Rattle.lr_prepare.specs.Lines.{unnumbered, capacities, IsDoneAs, AreDoneAs}
use Rattle.lr_prepare.specs.New.{new_device, new_cache, new_node, place_at}
use Rattle.lr_prepare.specs.Prepared.{IsPrepared}
use Rattle.lr_play.specs.Given.{IsOfScript}
use Rattle.lr_play.proofs.Lists.{all_append, all_at, map_at}
use Rattle.lr_play.proofs.Opened.{AreApart, setup_leased}

-- ---- how many hosts and devices the lines make

devices_both : (front rest : List SetupLine) → devices_of (front ++ rest) ≡ devices_of front ++ devices_of rest
devices_both [] rest = refl
devices_both (rotates salt ∷ front) rest = devices_both front rest
devices_both (creates line ∷ front) rest = devices_both front rest
devices_both (opens d ∷ front) rest = ap (λ (ds : List DeviceLine). d ∷ ds) (devices_both front rest)

hosts_are : (setup : List (ℕ × SetupSeen)) → hosts_in setup ≡ length (capacities (unnumbered setup))
hosts_are [] = refl
hosts_are ((n, Host name cap) ∷ setup) = sum_by-cons (λ (p : ℕ × SetupSeen). host_count p.1) (n, Host name cap) setup ∙ (let k : 1 + hosts_in setup ≡ suc (hosts_in setup) = omega arith in k ∙ ap suc (hosts_are setup))
hosts_are ((n, Root salt) ∷ setup) = sum_by-cons (λ (p : ℕ × SetupSeen). host_count p.1) (n, Root salt) setup ∙ (let k : 0 + hosts_in setup ≡ hosts_in setup = omega arith in k ∙ hosts_are setup)
hosts_are ((n, Image name tenant len body) ∷ setup) = sum_by-cons (λ (p : ℕ × SetupSeen). host_count p.1) (n, Image name tenant len body) setup ∙ (let k : 0 + hosts_in setup ≡ hosts_in setup = omega arith in k ∙ hosts_are setup)
hosts_are ((n, script.Device name host image tenant) ∷ setup) = sum_by-cons (λ (p : ℕ × SetupSeen). host_count p.1) (n, script.Device name host image tenant) setup ∙ (let k : 0 + hosts_in setup ≡ hosts_in setup = omega arith in k ∙ hosts_are setup)

-- so many devices, each on one of so many hosts
record AreOn (hosts many : ℕ) (lines : List DeviceLine) : Type 0 where
  many_are : length lines ≡ many
  hosted : AllByRecursion (λ (d : DeviceLine). d.host < hosts) lines

on_one : (hosts : ℕ) (setup : SetupSeen) (front : List SetupLine) → IsDoneAs setup front → IsSetupWithin hosts setup → AreOn hosts (device_count setup) (devices_of front)
on_one hosts (Host name cap) front e w = subst (λ (ls : List SetupLine). AreOn hosts 0 (devices_of ls)) (sym e) (record { many_are = refl; hosted = tt })
on_one hosts (Root salt) front e w = subst (λ (ls : List SetupLine). AreOn hosts 0 (devices_of ls)) (sym e) (record { many_are = refl; hosted = tt })
on_one hosts (Image name tenant len body) front e w = subst (λ (ls : List SetupLine). AreOn hosts 0 (devices_of ls)) (sym e.1) (record { many_are = refl; hosted = tt })
on_one hosts (script.Device name host image tenant) front e w =
    let on : e.0.host < hosts = subst (λ (h : ℕ). h < hosts) (sym e.4) w in
    subst (λ (ls : List SetupLine). AreOn hosts 1 (devices_of ls)) (sym e.1) (record { many_are = refl; hosted = (on, tt) })

on_both : (hosts one more : ℕ) (front rest : List DeviceLine) → AreOn hosts one front → AreOn hosts more rest → AreOn hosts (one + more) (front ++ rest)
on_both hosts one more front rest a b = record {
  many_are = let p = a.many_are in let q = b.many_are in let k = length-append front rest in omega (arith, k, p, q);
  hosted = all_append (λ (d : DeviceLine). d.host < hosts) front rest a.hosted b.hosted;
}

on_all : (hosts : ℕ) (setup : List (ℕ × SetupSeen)) (lines : List SetupLine) → AreDoneAs (unnumbered setup) lines → AllByRecursion (λ (p : ℕ × SetupSeen). IsSetupWithin hosts p.1) setup
    → AreOn hosts (devices_in setup) (devices_of lines)
on_all hosts [] lines e w = subst (λ (ls : List SetupLine). AreOn hosts 0 (devices_of ls)) (sym e) (record { many_are = refl; hosted = tt })
on_all hosts (p ∷ setup) lines e w =
    let both = on_both hosts (device_count p.1) (devices_in setup) (devices_of e.0) (devices_of e.1) (on_one hosts p.1 e.0 e.3 w.0) (on_all hosts setup e.1 e.4 w.1) in
    subst (λ (n : ℕ). AreOn hosts n (devices_of lines)) (sym (sum_by-cons (λ (q : ℕ × SetupSeen). device_count q.1) p setup))
    (subst (AreOn hosts (device_count p.1 + devices_in setup)) (sym (ap devices_of e.2 ∙ devices_both e.0 e.1)) both)

-- ---- logs of the setup

abbrev IsOfSetup : LogEntry → Type 0
IsOfSetup e = e.caller ≡ 0

puts_of : (session : ℕ) (puts : List LogEntry) (names : List (List ℕ)) (rest : List LogEntry) → AllZip (IsKept session) puts names → AllByRecursion IsOfSetup rest → AllByRecursion IsOfSetup (puts ++ rest)
puts_of session [] [] rest z h = h
puts_of session [] (n ∷ names) rest z h = absurd z
puts_of session (e ∷ puts) [] rest z h = absurd z
puts_of session (e ∷ puts) (name ∷ names) rest z h = (ap (λ (x : LogEntry). x.caller) z.0.1, puts_of session puts names rest z.1 h)

of_setup : (lines : List SetupLine) (before : List ImageLine) (s : State) (log : List LogEntry) → IsSetup s before lines log → AllByRecursion IsOfSetup log
of_setup [] before s log w = subst (AllByRecursion IsOfSetup) (sym w) tt
of_setup (rotates salt ∷ lines) before s log w = subst (AllByRecursion IsOfSetup) (sym w.2) (refl, of_setup lines before _ w.1 w.3)
of_setup (creates line ∷ lines) before s log w =
    subst (AllByRecursion IsOfSetup) (sym w.5) (refl, puts_of w.0 w.2 _ _ w.6 (refl, of_setup lines (before ++ line ∷ []) _ w.4 w.8))
of_setup (opens d ∷ lines) before s log w = subst (AllByRecursion IsOfSetup) (sym w.2) (refl, of_setup lines before _ w.1 w.8)

none_own : (number : ℕ) → 1 ≤ number → (log : List LogEntry) → AllByRecursion IsOfSetup log → own_entries number log ≡ []
none_own number one [] h = refl
none_own number one (e ∷ log) h = by (none_own number one log h.1) (nat_eq e.caller number) refl
  where
    by : own_entries number log ≡ [] → (b : Bool) → nat_eq e.caller number ≡ b → own_entries number (e ∷ log) ≡ []
    by more true is = let same : e.caller ≡ number = eqb-true e.caller number is in let zero_is : e.caller ≡ 0 = h.0 in absurd (omega (arith, same, zero_is))
    by more false is = rw is more

-- ---- objects as new

empty_log : {N T : Type 0} (xs : List (Sized N T)) (n : ℕ) → ((s : Sized N T) → slice_get xs n ≡ Some s → s.log ≡ []) → log_of (slice_get xs n) ≡ []
empty_log {N} {T} xs n f = by (slice_get xs n) refl
  where
    by : (o : Option (Sized N T)) → slice_get xs n ≡ o → log_of (slice_get xs n) ≡ []
    by None e = rw e refl
    by (Some s) e = rw e (f s e)

repeated : {X : Type 0} (many : ℕ) (x y : X) (n : ℕ) → slice_get (replicate many x) n ≡ Some y → x ≡ y
repeated zero x y n e = absurd (cc)
repeated (suc many) x y zero e = cc
repeated (suc many) x y (suc n) e = repeated many x y n e

padded_fits : (m : ManifestFields) → IsManifest m → padded_length m.raw_len ≤ 524288 * length m.names
padded_fits m is = let count : length m.names ≡ chunk_count m.raw_len = is.count in omega (arith, count)

one_lease : (ds : List DeviceLine) (lease : ℕ) → AllByRecursion (λ (x : DeviceLine). x.lease ≢ lease) ds → (j : ℕ) (q : DevicePlace) → slice_get (map place_at ds) j ≡ Some q → q.lease ≢ lease
one_lease [] lease h j q e = absurd (cc)
one_lease (d ∷ ds) lease h zero q e = let same : place_at d ≡ q = cc in subst (λ (p : DevicePlace). p.lease ≢ lease) same h.0
one_lease (d ∷ ds) lease h (suc j) q e = one_lease ds lease h.1 j q e

one_place : (ds : List DeviceLine) → AreApart ds → (i j : ℕ) (p q : DevicePlace) → slice_get (map place_at ds) i ≡ Some p → slice_get (map place_at ds) j ≡ Some q → p.lease ≡ q.lease → i ≡ j
one_place [] h i j p q e f same = absurd (cc)
one_place (d ∷ ds) h zero zero p q e f same = refl
one_place (d ∷ ds) h zero (suc j) p q e f same =
    let first : place_at d ≡ p = cc in absurd (one_lease ds d.lease h.0 j q f (sym same ∙ ap (λ (x : DevicePlace). x.lease) (sym first)))
one_place (d ∷ ds) h (suc i) zero p q e f same =
    let first : place_at d ≡ q = cc in absurd (one_lease ds d.lease h.0 i p e (same ∙ ap (λ (x : DevicePlace). x.lease) (sym first)))
one_place (d ∷ ds) h (suc i) (suc j) p q e f same = ap suc (one_place ds h.1 i j p q e f same)

-- ---- what a play begins with

pub record IsFresh (script : ScriptSeen) (context : Context) (hosts : ℕ) (w : Objects) : Type 0 where
  pub many : IsOfScript script context hosts
  pub is : IsContext context
  pub hosted : AreHosted context hosts
  pub made : AreMade w context hosts
  -- no actor has an entry
  pub own : (number : ℕ) → 1 ≤ number → (o : ObjectId) → own_lists w number o ≡ []
  pub unclaimed : HasNoClaims w
  pub out : (device : ℕ) (place : DevicePlace) → slice_get context.devices device ≡ Some place → IsOut w place
  pub leases : (i j : ℕ) (p q : DevicePlace) → slice_get context.devices i ≡ Some p → slice_get context.devices j ≡ Some q → p.lease ≡ q.lease → i ≡ j

abbrev pub LeasesAreOut : Type 0
LeasesAreOut = (start : Start) (lines : List SetupLine) (log : List LogEntry) → IsStart start → IsRun (first_state start) log → IsSetup (first_state start) [] lines log
    → AllByRecursion (λ (d : DeviceLine). finmap.get (state start log).desk.leases d.lease ≡ Some (d.image, d.manifest)) (devices_of lines)

module _ {O : Type 0} (seen : ScriptSeen) (within : IsWithin seen) (parts : Parts O) (kept : Kept) (started : IsStart parts.depot.start) (out_law : LeasesAreOut) (depot : Seen O) (p : IsPrepared seen depot parts kept) where
  abbrev ds : List DeviceLine
  ds = devices_of p.lines

  abbrev w : Objects
  w = objects_in parts

  on : AreOn kept.hosts (devices_in seen.setup) ds
  on =
      let same : kept.hosts ≡ hosts_in seen.setup = p.hosts ∙ sym (hosts_are seen.setup) in
      subst (λ (h : ℕ). AreOn h (devices_in seen.setup) ds) (sym same) (on_all (hosts_in seen.setup) seen.setup p.lines p.are within.setup)

  runs : IsRun (first_state parts.depot.start) parts.depot.log
  runs = subst (λ (s : Start). IsRun (first_state s) parts.depot.log) (sym p.start) p.legal

  ran : IsSetup (first_state parts.depot.start) [] p.lines parts.depot.log
  ran = subst (λ (s : Start). IsSetup (first_state s) [] p.lines parts.depot.log) (sym p.start) p.ran

  leased : AreApart ds × AllByRecursion (λ (d : DeviceLine). IsManifest d.manifest) ds
  leased = setup_leased parts.depot.start p.lines parts.depot.log started runs ran

  abbrev places : List DevicePlace
  places = map place_at ds

  placed : (seen_context kept).devices ≡ places
  placed = ap (λ (c : Context). c.devices) p.shared

  new_at : (n : ℕ) (d : Sized DeviceNoted DeviceAnswer) → slice_get parts.devices.items n ≡ Some d → (x : DeviceLine) × (slice_get ds n ≡ Some x) × (new_device x ≡ d)
  new_at n d e = map_at new_device ds n d (ap (λ (xs : List (Sized DeviceNoted DeviceAnswer)). slice_get xs n) (sym p.devices) ∙ e)

  cache_at : (n : ℕ) (c : Sized CacheCall CacheReply) → slice_get parts.caches.items n ≡ Some c → (x : ℕ) × (new_cache x ≡ c)
  cache_at n c e = let m = map_at new_cache (capacities (unnumbered seen.setup)) n c (ap (λ (xs : List (Sized CacheCall CacheReply)). slice_get xs n) (sym p.caches) ∙ e) in (m.0, m.2)

  place_of_at : (n : ℕ) (q : DevicePlace) → slice_get (seen_context kept).devices n ≡ Some q → (x : DeviceLine) × (slice_get ds n ≡ Some x) × (place_at x ≡ q)
  place_of_at n q e = map_at place_at ds n q (ap (λ (xs : List DevicePlace). slice_get xs n) (sym placed) ∙ e)

  context : IsContext (seen_context kept)
  context = record {
    nodes = let n : (seen_context kept).nodes ≡ seen.nodes = ap (λ (c : Context). c.nodes) p.shared in let some = within.some_nodes in omega (arith, n, some);
    keys = λ device q e. let a = place_of_at device q e in subst IsPlace a.2 (all_at (λ (d : DeviceLine). IsPlace (place_at d)) ds device a.0 p.keys a.1);
  }

  hosted_places : (xs : List DeviceLine) → AllByRecursion (λ (d : DeviceLine). d.host < kept.hosts) xs → AllByRecursion (λ (q : DevicePlace). q.host < kept.hosts) (map place_at xs)
  hosted_places [] h = tt
  hosted_places (x ∷ xs) h = (h.0, hosted_places xs h.1)

  made : AreMade w (seen_context kept) kept.hosts
  made = record {
    devices = λ n d e. let a = new_at n d e in subst (λ (s : Sized DeviceNoted DeviceAnswer). Grown Answers Enters s.capacity [] s.log) a.2 grown.same;
    sizes = λ n d q e f. sized n d q (new_at n d e) (place_of_at n q f);
    caches = λ n c e. let a = cache_at n c e in subst (λ (s : Sized CacheCall CacheReply). IsCacheLog s.capacity s.log) a.1 grown.same;
    nodes = λ n s e. subst (λ (x : Sized NodeCall NodeReply). IsNodeLog x.capacity x.log) (repeated seen.nodes (new_node seen.cap) s n (ap (λ (xs : List (Sized NodeCall NodeReply)). slice_get xs n) (sym p.nodes) ∙ e)) grown.same;
    start = started;
    depot = runs;
    many = (
      ap length p.devices ∙ (length-map ds new_device ∙ (sym (length-map ds place_at) ∙ sym (ap length placed))),
      ap length p.caches ∙ (length-map (capacities (unnumbered seen.setup)) new_cache ∙ sym p.hosts),
      ap length p.nodes ∙ (length-replicate seen.nodes (new_node seen.cap) ∙ sym (ap (λ (c : Context). c.nodes) p.shared)),
    );
  }
    where
      sized : (n : ℕ) (d : Sized DeviceNoted DeviceAnswer) (q : DevicePlace) → (x : DeviceLine) × (slice_get ds n ≡ Some x) × (new_device x ≡ d) → (y : DeviceLine) × (slice_get ds n ≡ Some y) × (place_at y ≡ q)
          → d.capacity ≤ 524288 * length q.names
      sized n d q a b =
          let one : b.0 ≡ a.0 = cc (a.1, b.1) in
          let fits : padded_length a.0.manifest.raw_len ≤ 524288 * length a.0.manifest.names = padded_fits a.0.manifest (all_at (λ (x : DeviceLine). IsManifest x.manifest) ds n a.0 leased.1 a.1) in
          subst (λ (s : Sized DeviceNoted DeviceAnswer). s.capacity ≤ 524288 * length q.names) a.2
          (subst (λ (s : DevicePlace). padded_length a.0.manifest.raw_len ≤ 524288 * length s.names) (ap place_at (sym one) ∙ b.2) fits)

  none : (number : ℕ) → 1 ≤ number → (o : ObjectId) → own_lists w number o ≡ []
  none number one (Device n) = ap (λ (log : List (Entry DeviceNoted DeviceAnswer)). map (device_entry n) (own_entries number log)) (empty_log parts.devices.items n (λ s e. sym (ap (λ (d : Sized DeviceNoted DeviceAnswer). d.log) (new_at n s e).2)))
  none number one (Cache n) = ap (λ (log : List (Entry CacheCall CacheReply)). map (cache_entry n) (own_entries number log)) (empty_log parts.caches.items n (λ s e. sym (ap (λ (d : Sized CacheCall CacheReply). d.log) (cache_at n s e).1)))
  none number one (Node n) = ap (λ (log : List (Entry NodeCall NodeReply)). map (node_entry n) (own_entries number log)) (empty_log parts.nodes.items n (λ s e. sym (ap (λ (d : Sized NodeCall NodeReply). d.log)
      (repeated seen.nodes (new_node seen.cap) s n (ap (λ (xs : List (Sized NodeCall NodeReply)). slice_get xs n) (sym p.nodes) ∙ e)))))
  none number one Depot = ap (map depot_entry) (none_own number one parts.depot.log (of_setup p.lines [] (first_state parts.depot.start) parts.depot.log ran))

  unclaimed : HasNoClaims w
  unclaimed caller host =
      let empty : own_lists w caller (Cache host) ≡ [] = ap (λ (log : List (Entry CacheCall CacheReply)). map (cache_entry host) (own_entries caller log)) (empty_log parts.caches.items host (λ s e. sym (ap (λ (d : Sized CacheCall CacheReply). d.log) (cache_at host s e).1))) in
      ap (λ (steps : List _). out_after (claim_by host) None steps) empty

  out : (device : ℕ) (place : DevicePlace) → slice_get (seen_context kept).devices device ≡ Some place → IsOut w place
  out device place e =
      let a = place_of_at device place e in
      let there = all_at (λ (d : DeviceLine). finmap.get (state parts.depot.start parts.depot.log).desk.leases d.lease ≡ Some (d.image, d.manifest)) ds device a.0 (out_law parts.depot.start p.lines parts.depot.log started runs ran) a.1 in
      subst (IsOut w) a.2 (a.0.image, a.0.manifest, there, refl)

  pub fresh : IsFresh seen (seen_context kept) kept.hosts w
  fresh = record {
    many = record {
      hosts = p.hosts ∙ sym (hosts_are seen.setup);
      devices = ap length placed ∙ (length-map ds place_at ∙ on.many_are);
      nodes = ap (λ (c : Context). c.nodes) p.shared;
    };
    is = context;
    hosted = subst (AllByRecursion (λ (q : DevicePlace). q.host < kept.hosts)) (sym placed) (hosted_places ds on.hosted);
    made = made;
    own = none;
    unclaimed = unclaimed;
    out = out;
    leases = λ i j q r e f same. one_place ds leased.0 i j q r (ap (λ (xs : List DevicePlace). slice_get xs i) (sym placed) ∙ e) (ap (λ (xs : List DevicePlace). slice_get xs j) (sym placed) ∙ f) same;
  }

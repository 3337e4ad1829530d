-- What a play leaves, as its history takes it.
use Rattle.std.proofs.Common.{◌≡◌, ◌≢◌, ◌<◌, ◌≤◌, ◌+◌, ℕ, zero, suc, List, [], ◌∷◌, ◌++◌, length, map, Option, Some, None, slice_get, refl, sym, ap, subst, ◌∙◌, arith}
use Rattle.std.specs.Prelude.{⊤}
use Rattle.std.specs.List.{AllByRecursion, AllZip, Contains}
use Rattle.std.proofs.lemmas.List.{length-map}
use Rattle.lr_object.specs.declared.entry.Entry.{Entry}
use Rattle.lr_object.specs.Kept.{Sized}
use Rattle.lr_device.specs.declared.step.DeviceNoted.{DeviceNoted}
use Rattle.lr_device.specs.declared.step.DeviceAnswer.{DeviceAnswer}
use Rattle.lr_cache.specs.declared.call.CacheCall.{CacheCall}
use Rattle.lr_cache.specs.declared.call.CacheReply.{CacheReply}
use Rattle.lr_depot.specs.Begun.{Start}
use Rattle.lr_depot.specs.Depot.{Seen, first_state}
use Rattle.lr_walk.specs.Jobs.{Context}
use Rattle.lr_history.specs.Run.{DeviceLine, ActorSeen}
use Rattle.lr_history.specs.Histories.{HaveOwnNumbers}
use Rattle.lr_history.specs.Claims.{HaveOwnLeases}
use Rattle.lr_setup.specs.Setup.{devices_of, IsSetup}
use Rattle.lr_script.specs.Seen.{ScriptSeen, JobSeen}
use Rattle.lr_actors.specs.declared.place.Parts.{Parts}
use Rattle.lr_actors.specs.declared.place.Context.{Context as Kept}
use Rattle.lr_actors.specs.declared.trail.Trail.{Trail}
use Rattle.lr_actors.specs.Jobs.{seen_context}
use Rattle.lr_actors.specs.Actor.{MayBeGiven}
use Rattle.lr_actors.specs.Records.{HasTrail}
use Rattle.lr_replies.specs.Objects.{Objects, own_lists}
use Rattle.lr_replies.specs.Replies.{AreMade}
use Rattle.lr_world.specs.Calling.{objects_in}
use Rattle.lr_world.specs.World.{Part, IsNumber}
use Rattle.lr_world.specs.Runs.{HaveGained, Grew}
use Rattle.lr_headline.specs.Closing.{Left, numbers_of, actor_seen, AreOf, size_of, IsClosing}
use Rattle.lr_prepare.specs.Lines.{unnumbered, capacities}
use Rattle.lr_prepare.specs.New.{new_device, new_cache}
use Rattle.lr_prepare.specs.Prepared.{IsPrepared}
use Rattle.lr_play.specs.Players.{Player, actors_from, after_by, after_of, players_of}
use Rattle.lr_play.specs.Acting.{AreGiven}
use Rattle.lr_play.specs.Played.{IsTrail, left_by, closing_of, part_of}
use Rattle.lr_play.proofs.Lists.{all_by, map_at, at_map, there, within}

-- ---- who has left

given_left : (context : Context) (hosts : ℕ) (players : List Player) (told : List Trail) → AreGiven context hosts players → AllByRecursion (λ (a : Left). AllByRecursion (MayBeGiven context hosts) a.jobs) (left_by players told)
given_left context hosts [] told h = tt
given_left context hosts (p ∷ players) [] h = tt
given_left context hosts (p ∷ players) (t ∷ told) h = (h.0, given_left context hosts players told h.1)

trails_left : (context : Context) (w : Objects) (players : List Player) (told : List Trail) → AllZip (IsTrail context w) players told → AllByRecursion (λ (a : Left). HasTrail context (own_lists w a.number) a.jobs a.results) (left_by players told)
trails_left context w [] told h = tt
trails_left context w (p ∷ players) [] h = tt
trails_left context w (p ∷ players) (t ∷ told) h = (h.0.trail, trails_left context w players told h.1)

number_left : (R : Player → Trail → Type 0) (players : List Player) (told : List Trail) → AllZip R players told → (i n : ℕ) (p : Player) → slice_get players i ≡ Some p → p.number ≡ n → Contains (numbers_of (left_by players told)) n
number_left R [] [] h i n p e is = absurd (cc)
number_left R [] (t ∷ told) h i n p e is = absurd h
number_left R (q ∷ players) [] h i n p e is = absurd h
number_left R (q ∷ players) (t ∷ told) h zero n p e is = let same : q ≡ p = cc in (0, omega arith, ap (λ (x : Player). x.number) same ∙ is)
number_left R (q ∷ players) (t ∷ told) h (suc i) n p e is =
    let more = number_left R players told h.1 i n p e is in
    let l : more.0 < length (numbers_of (left_by players told)) = more.1 in
    (suc more.0, omega (arith, l), more.2)

-- the numbers of players ascend, so no two who have left have one
abbrev Ascend : ℕ → List Player → Type 0
Ascend n [] = ⊤
Ascend n (p ∷ players) = (n ≤ p.number) × Ascend (p.number + 1) players

above : (n : ℕ) (players : List Player) (told : List Trail) → Ascend (n + 1) players → AllByRecursion (λ (b : ActorSeen). b.number ≢ n) (map actor_seen (left_by players told))
above n [] told h = tt
above n (p ∷ players) [] h = tt
above n (p ∷ players) (t ∷ told) h =
    let low : n + 1 ≤ p.number = h.0 in
    ((λ (same : p.number ≡ n). absurd (omega (arith, low, same))), above n players told (lower (p.number + 1) (n + 1) players (omega (arith, low)) h.1))
  where
    lower : (m k : ℕ) (ps : List Player) → k ≤ m → Ascend m ps → Ascend k ps
    lower m k [] l a = tt
    lower m k (q ∷ ps) l a = let x : m ≤ q.number = a.0 in (omega (arith, l, x), a.1)

own_numbers : (n : ℕ) (players : List Player) (told : List Trail) → Ascend n players → HaveOwnNumbers (map actor_seen (left_by players told))
own_numbers n [] told h = tt
own_numbers n (p ∷ players) [] h = tt
own_numbers n (p ∷ players) (t ∷ told) h = (above p.number players told h.1, own_numbers (p.number + 1) players told h.1)

after_ascends : (n number : ℕ) (after : Option (List JobSeen)) → n ≤ number → Ascend n (after_by number after)
after_ascends n number None l = tt
after_ascends n number (Some jobs) l = (l, tt)

ascends : (crashes : List (ℕ × ℕ)) (number : ℕ) (actors : List (List ℕ × List JobSeen)) (rest : List Player) → Ascend (number + length actors) rest → Ascend number (actors_from crashes number actors ++ rest)
ascends crashes number [] rest h = let e : number + 0 ≡ number = omega arith in subst (λ (n : ℕ). Ascend n rest) e h
ascends crashes number (a ∷ actors) rest h =
    let e : number + suc (length actors) ≡ (number + 1) + length actors = omega arith in
    (omega arith, ascends crashes (number + 1) actors rest (subst (λ (n : ℕ). Ascend n rest) e h))

players_ascend : (script : ScriptSeen) → Ascend 1 (players_of script)
players_ascend script = ascends script.crashes 1 script.actors (after_of script) (after_ascends (1 + length script.actors) (length script.actors + 1) script.after (omega arith))

-- ---- objects

map_along : {X Y Z : Type 0} (f : X → Z) (g : Y → Z) (xs : List X) (ys : List Y) → length xs ≡ length ys → ((i : ℕ) (x : X) (y : Y) → slice_get xs i ≡ Some x → slice_get ys i ≡ Some y → f x ≡ g y) → map f xs ≡ map g ys
map_along f g [] [] e h = refl
map_along f g [] (y ∷ ys) e h = absurd (cc)
map_along f g (x ∷ xs) [] e h = absurd (cc)
map_along f g (x ∷ xs) (y ∷ ys) e h = λ i. h 0 x y refl refl i ∷ map_along f g xs ys (omega (arith, e)) (λ k a b p q. h (suc k) a b p q) i

-- Objects that were new have only entries of these players.
of_players : {N T : Type 0} (parts : List Part) (actors : List Left) (old new : List (Sized N T)) → ((n : ℕ) (s : Sized N T) → slice_get old n ≡ Some s → s.log ≡ []) → ((n : ℕ) → IsNumber parts n → Contains (numbers_of actors) n)
    → HaveGained (IsNumber parts) old new → AreOf actors new
of_players {N} {T} parts actors old new fresh contains h = all_by (λ (s : Sized N T). AllByRecursion (λ (e : Entry N T). Contains (numbers_of actors) e.caller) s.log) new (λ n s e. by n s e (there old n (let l : n < length new = within new n s e in let m : length new ≡ length old = h.many in omega (arith, l, m))))
  where
    each : (later : List (Entry N T)) → AllByRecursion (λ (e : Entry N T). IsNumber parts e.caller) later → AllByRecursion (λ (e : Entry N T). Contains (numbers_of actors) e.caller) later
    each [] a = tt
    each (x ∷ later) a = (contains x.caller a.0, each later a.1)

    by : (n : ℕ) (s : Sized N T) → slice_get new n ≡ Some s → (o : Sized N T) × (slice_get old n ≡ Some o) → AllByRecursion (λ (e : Entry N T). Contains (numbers_of actors) e.caller) s.log
    by n s e o =
        let x = h.each n o.0 o.1 in
        let same : x.0 ≡ s = cc (x.1, e) in
        let log : x.0.log ≡ x.3.0 = x.3.1 ∙ ap (λ (l : List (Entry N T)). l ++ x.3.0) (fresh n o.0 o.1) in
        subst (λ (z : Sized N T). AllByRecursion (λ (e : Entry N T). Contains (numbers_of actors) e.caller) z.log) same
        (subst (AllByRecursion (λ (e : Entry N T). Contains (numbers_of actors) e.caller)) (sym log) (each x.3.0 x.3.2))

module _ {O : Type 0} (script : ScriptSeen) (depot : Seen O) (old new : Parts O) (kept : Kept) (p : IsPrepared script depot old kept) (told : List Trail)
    (grew : Grew (map (part_of (seen_context kept) kept.hosts) (players_of script)) (objects_in old) (objects_in new))
    (trails : AllZip (IsTrail (seen_context kept) (objects_in new)) (players_of script) told)
    (given : AreGiven (seen_context kept) kept.hosts (players_of script)) (made : AreMade (objects_in new) (seen_context kept) kept.hosts)
    (own_leases : HaveOwnLeases (seen_context kept)) where
  abbrev players : List Player
  players = players_of script

  abbrev ds : List DeviceLine
  ds = devices_of p.lines

  contains : (n : ℕ) → IsNumber (map (part_of (seen_context kept) kept.hosts) players) n → Contains (numbers_of (left_by players told)) n
  contains n (i, part, at, is) =
      let a = map_at (part_of (seen_context kept) kept.hosts) players i part at in
      number_left (IsTrail (seen_context kept) (objects_in new)) players told trails i n a.0 a.1 (ap (λ (q : Part). q.number) a.2 ∙ is)

  sized : map (λ (d : Sized DeviceNoted DeviceAnswer). d.capacity) new.devices.items ≡ map size_of ds
  sized = map_along (λ (d : Sized DeviceNoted DeviceAnswer). d.capacity) size_of new.devices.items ds (grew.devices.many ∙ (ap length p.devices ∙ length-map ds new_device)) (λ i s d e f. by i s d e f)
    where
      by : (i : ℕ) (s : Sized DeviceNoted DeviceAnswer) (d : DeviceLine) → slice_get new.devices.items i ≡ Some s → slice_get ds i ≡ Some d → s.capacity ≡ size_of d
      by i s d e f =
          let x = grew.devices.each i (new_device d) (ap (λ (xs : List (Sized DeviceNoted DeviceAnswer)). slice_get xs i) p.devices ∙ at_map new_device ds i d f) in
          let same : s ≡ x.0 = cc (x.1, e) in
          ap (λ (z : Sized DeviceNoted DeviceAnswer). z.capacity) same ∙ x.2

  new_device_log : (n : ℕ) (s : Sized DeviceNoted DeviceAnswer) → slice_get old.devices.items n ≡ Some s → s.log ≡ []
  new_device_log n s e =
      let a = map_at new_device ds n s (ap (λ (xs : List (Sized DeviceNoted DeviceAnswer)). slice_get xs n) (sym p.devices) ∙ e) in sym (ap (λ (z : Sized DeviceNoted DeviceAnswer). z.log) a.2)

  new_cache_log : (n : ℕ) (s : Sized CacheCall CacheReply) → slice_get old.caches.items n ≡ Some s → s.log ≡ []
  new_cache_log n s e =
      let a = map_at new_cache (capacities (unnumbered script.setup)) n s (ap (λ (xs : List (Sized CacheCall CacheReply)). slice_get xs n) (sym p.caches) ∙ e) in sym (ap (λ (z : Sized CacheCall CacheReply). z.log) a.2)

  pub closed : IsClosing (closing_of script p.lines kept new told)
  closed = record {
    setup = (old.depot.log, grew.depot.0, grew.depot.1, subst (λ (s : Start). IsSetup (first_state s) [] p.lines old.depot.log) (sym (grew.start ∙ p.start)) p.ran);
    places = ap (λ (c : Context). c.devices) p.shared;
    sizes = sized;
    made = made;
    devices = of_players (map (part_of (seen_context kept) kept.hosts) players) (left_by players told) old.devices.items new.devices.items new_device_log contains grew.devices;
    caches = of_players (map (part_of (seen_context kept) kept.hosts) players) (left_by players told) old.caches.items new.caches.items new_cache_log contains grew.caches;
    given = given_left (seen_context kept) kept.hosts players told given;
    trails = trails_left (seen_context kept) (objects_in new) players told trails;
    numbers = own_numbers 1 players told (players_ascend script);
    leases = own_leases;
  }

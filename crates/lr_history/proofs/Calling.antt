-- What each beginning of a device call tells: its needs, and then loads of these, in order.
use Rattle.std.proofs.Common.{◌≡◌, inl, inr, ℕ, List, [], ◌∷◌, ◌++◌, map, Bool, true, false, cond, nat_eq, Some, slice_get, refl, sym, ap, subst, ◌∙◌, append-nil}
use Rattle.std.specs.Prelude.{◌⊎◌}
use Rattle.std.specs.List.{AllByRecursion, flat_map}
use Rattle.std.proofs.lemmas.List.Concat.{flat_map-append}
use Rattle.lr_manifest.specs.declared.name.Name.{Name}
use Rattle.lr_device.specs.declared.call.DeviceCall.{DeviceCall}
use Rattle.lr_walk.specs.declared.trail.Answer.{Answer}
use Rattle.lr_walk.specs.declared.trail.Answer.TheVariants.{Fault, Spoiled, Memory}
use Rattle.lr_walk.specs.Steps.{on_device, Reply, by_device, Step, step}
use Rattle.lr_walk.specs.Device.{Piece}
use Rattle.lr_walk.specs.Device as devices
use Rattle.lr_walk.specs.Depot as depots
use Rattle.lr_walk.specs.Load.{Ending, with_chunk, with_reply, with_memory}
use Rattle.lr_walk.specs.Calls.{DevicePlace, after_drop, Drops, Commits, load_place, after_load, LoadsAll, after_plan, CallsDevice}
use Rattle.lr_history.specs.Told.{fetched_by, fetched_in, led_by, led_in, Need, need, needed_by, needed_in}
use Rattle.lr_history.specs.OnDemand.{LoadMade, IsLoadOf, fetch_of, lead_of}
use Rattle.lr_history.proofs.Facts.{asked}
use Rattle.lr_history.proofs.Calls.{commit_step}
use Rattle.lr_history.proofs.Parts.{Part, part_none, part_more, part_weaker, split, Still, still_none, still_first}
use Rattle.lr_history.proofs.Loading.{Loading, load_part}

abbrev pub index_of : LoadMade → ℕ
index_of l = l.index

-- what the loads of these needs tell
pub record LoadsTell (place : DevicePlace) (needs : List ℕ) (steps : List Step) : Type 0 where
  pub loads : List LoadMade
  pub unmade : List ℕ
  pub each : AllByRecursion (IsLoadOf place) loads
  pub needs_are : needs ≡ map index_of loads ++ unmade
  pub fetched : fetched_in steps ≡ flat_map (fetch_of place) loads
  pub led : (host : ℕ) → led_in host steps ≡ flat_map (lead_of host place) loads
  pub needed : (device : ℕ) → needed_in device steps ≡ []

pub record CallTells (device : ℕ) (place : DevicePlace) (call : DeviceCall) (steps : List Step) : Type 0 where
  pub loads : List LoadMade
  pub unmade : List ℕ
  pub each : AllByRecursion (IsLoadOf place) loads
  pub needed : (d : ℕ) → needed_in d steps ≡ cond (nat_eq device d) (map (need call) (map index_of loads ++ unmade)) []
  pub fetched : fetched_in steps ≡ flat_map (fetch_of place) loads
  pub led : (host : ℕ) → led_in host steps ≡ flat_map (lead_of host place) loads

module _ (place : DevicePlace) (device : ℕ) (call : DeviceCall) where
  drops_part : (end : Answer) (steps : List Step) (answer : Answer) → Drops device end steps answer → Part Still steps
  drops_part end steps answer g =
      let w = asked (on_device device devices.drops) (after_drop end) steps answer g in
      still_first (step (on_device device devices.drops) w.0) w.1 steps w.2 (record { fetched = refl; led = λ h. refl; needed = λ d. refl }) (part_none Still w.1 (by w.0 w.1 w.4) still_none)
    where
      by : (reply : Reply) (tail : List Step) → after_drop end reply tail answer → tail ≡ []
      by (by_device devices.dropped) tail r = r.0
      by reply tail r = absurd r

  commits_part : (pieces : List Piece) (steps : List Step) (answer : Answer) → Commits device call pieces steps answer → Part Still steps
  commits_part pieces steps answer w =
      still_first (commit_step device call w.0 w.1) [] steps w.2 (record { fetched = refl; led = λ h. refl; needed = λ d. refl }) (part_none Still [] refl still_none)

  still_loads : (needs : List ℕ) (steps : List Step) → Still steps → LoadsTell place needs steps
  still_loads needs steps h = record { loads = []; unmade = needs; each = tt; needs_are = refl; fetched = h.fetched; led = h.led; needed = h.needed }

  abbrev made : (nodes i : ℕ) (name : Name) (steps : List Step) → Loading (load_place nodes place i name) steps → LoadMade
  made nodes i name steps h = record { index = i; name = name; led = h.claim; fetched = h.did }

  -- a load alone
  load_alone : (nodes i : ℕ) (needs : List ℕ) (name : Name) (steps : List Step) → slice_get place.names i ≡ Some name → Loading (load_place nodes place i name) steps → LoadsTell place (i ∷ needs) steps
  load_alone nodes i needs name steps at h = record {
    loads = made nodes i name steps h ∷ [];
    unmade = needs;
    each = (record { named = at; claimed = h.claimed }, tt);
    needs_are = refl;
    fetched = h.fetched ∙ sym (append-nil (fetch_of place (made nodes i name steps h)));
    led = λ host. h.led host ∙ sym (append-nil (lead_of host place (made nodes i name steps h)));
    needed = h.needed;
  }

  -- a load, and then others
  load_then : (nodes i : ℕ) (needs : List ℕ) (name : Name) (first q : List Step) → slice_get place.names i ≡ Some name
      → Loading (load_place nodes place i name) first → LoadsTell place needs q → LoadsTell place (i ∷ needs) (first ++ q)
  load_then nodes i needs name first q at h k = record {
    loads = made nodes i name first h ∷ k.loads;
    unmade = k.unmade;
    each = (record { named = at; claimed = h.claimed }, k.each);
    needs_are = ap (λ (l : List ℕ). i ∷ l) k.needs_are;
    fetched = flat_map-append (λ (s : Step). fetched_by s.call s.reply) first q ∙ (λ j. h.fetched j ++ k.fetched j);
    led = λ host. flat_map-append (λ (s : Step). led_by host s.call s.reply) first q ∙ (λ j. h.led host j ++ k.led host j);
    needed = λ d. flat_map-append (λ (s : Step). needed_by d s.call s.reply) first q ∙ (λ j. h.needed d j ++ k.needed d j);
  }

  after_part : (needs : List ℕ) (more : List ℕ → List Step → Answer → Type 0) (end : Ending) (last : List Step) (answer : Answer)
      → ((chunk : List ℕ) → more chunk last answer → Part (LoadsTell place needs) last) → after_load device more end last answer → Part (LoadsTell place needs) last
  after_part needs more (with_chunk chunk) last answer go w = go chunk w
  after_part needs more (with_reply (depots.fault key)) last answer go w = part_weaker Still (LoadsTell place needs) last (still_loads needs) (drops_part (Fault key) last answer w)
  after_part needs more (with_reply (depots.spoiled key)) last answer go w = part_weaker Still (LoadsTell place needs) last (still_loads needs) (drops_part (Spoiled key) last answer w)
  after_part needs more with_memory last answer go w = part_weaker Still (LoadsTell place needs) last (still_loads needs) (drops_part Memory last answer w)
  after_part needs more end last answer go w = absurd w

  one_part : (nodes i : ℕ) (needs : List ℕ) (name : Name) (first last steps : List Step) (end : Ending) → slice_get place.names i ≡ Some name
      → steps ≡ first ++ last → Part (Loading (load_place nodes place i name)) first → Part (LoadsTell place needs) last → Part (LoadsTell place (i ∷ needs)) steps
  one_part nodes i needs name first last steps end at e h k p later f = by (split p later first last (f ∙ e))
    where
      by : ((x : List Step) × (p ++ x ≡ first)) ⊎ ((q : List Step) × (p ≡ first ++ q) × (q ++ later ≡ last)) → LoadsTell place (i ∷ needs) p
      by (inl l) = load_alone nodes i needs name p at (h p l.0 l.1)
      by (inr r) = subst (LoadsTell place (i ∷ needs)) (sym r.1) (load_then nodes i needs name first r.0 at (h first [] (append-nil first)) (k r.0 later r.2))

  loads_part : (nodes : ℕ) (needs : List ℕ) (pieces : List Piece) (steps : List Step) (answer : Answer) → LoadsAll nodes device place call needs pieces steps answer → Part (LoadsTell place needs) steps
  loads_part nodes [] pieces steps answer (inl w) = part_weaker Still (LoadsTell place []) steps (still_loads []) (commits_part pieces steps answer w)
  loads_part nodes [] pieces steps answer (inr w) = part_weaker Still (LoadsTell place []) steps (still_loads []) (drops_part Memory steps answer w)
  loads_part nodes (i ∷ needs) pieces steps answer (inr w) = part_weaker Still (LoadsTell place (i ∷ needs)) steps (still_loads (i ∷ needs)) (drops_part Memory steps answer w)
  loads_part nodes (i ∷ needs) pieces steps answer (inl w) =
      one_part nodes i needs w.0 w.4.0 w.4.1 steps w.4.2 w.2 w.4.3
      (load_part (load_place nodes place i w.0) w.4.0 w.4.2 w.4.4)
      (after_part needs (λ (chunk : List ℕ). LoadsAll nodes device place call needs (pieces ++ record { index = i; chunk = chunk; key = w.1 } ∷ [])) w.4.2 w.4.1 answer
      (λ chunk go. loads_part nodes needs (pieces ++ record { index = i; chunk = chunk; key = w.1 } ∷ []) w.4.1 answer go)
      w.4.5)

  none_either : (b : Bool) → ◌≡◌ {A = List Need} [] (cond b [] [])
  none_either true = refl
  none_either false = refl

  still_call : (steps : List Step) → Still steps → CallTells device place call steps
  still_call steps h = record { loads = []; unmade = []; each = tt; needed = λ d. h.needed d ∙ none_either (nat_eq device d); fetched = h.fetched; led = h.led }

  planned_call : (needs : List ℕ) (pages : ℕ) (p : List Step) → LoadsTell place needs p → CallTells device place call (step (on_device device (devices.plans call)) (by_device (devices.planned needs pages)) ∷ p)
  planned_call needs pages p h = record {
    loads = h.loads;
    unmade = h.unmade;
    each = h.each;
    needed = λ d. (λ i. cond (nat_eq device d) (map (need call) needs) [] ++ h.needed d i) ∙ append-nil (cond (nat_eq device d) (map (need call) needs) [])
        ∙ ap (λ (l : List ℕ). cond (nat_eq device d) (map (need call) l) []) h.needs_are;
    fetched = h.fetched;
    led = h.led;
  }

  pub call_part : (nodes : ℕ) (steps : List Step) (answer : Answer) → CallsDevice nodes device place call steps answer → Part (CallTells device place call) steps
  call_part nodes steps answer (inr w) = part_weaker Still (CallTells device place call) steps still_call (part_none Still steps w.0 still_none)
  call_part nodes steps answer (inl g) =
      let w = asked (on_device device (devices.plans call)) (after_plan nodes device place call) steps answer g in
      by w.0 w.1 w.2 w.4
    where
      by : (reply : Reply) (tail : List Step) → steps ≡ step (on_device device (devices.plans call)) reply ∷ tail → after_plan nodes device place call reply tail answer → Part (CallTells device place call) steps
      by (by_device (devices.planned needs pages)) tail e r =
          part_more (CallTells device place call) (LoadsTell place needs) (step (on_device device (devices.plans call)) (by_device (devices.planned needs pages))) tail steps e (still_call [] still_none) (planned_call needs pages) (loads_part nodes needs [] tail answer r)
      by (by_device devices.memory) tail e r =
          part_weaker Still (CallTells device place call) steps still_call
          (still_first (step (on_device device (devices.plans call)) (by_device devices.memory)) tail steps e (record { fetched = refl; led = λ h. refl; needed = λ d. refl }) (part_none Still tail r.0 still_none))
      by reply tail e r = absurd r

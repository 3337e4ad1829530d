-- The calls of walks fit what is out.
use Rattle.std.proofs.Common.{◌≡◌, inl, inr, ℕ, zero, suc, ◌-◌, List, [], ◌∷◌, ◌++◌, Bool, true, false, cond, nat_eq, Option, Some, None, refl, sym, subst, ◌∙◌}
use Rattle.std.specs.Prelude.{⊤}
use Rattle.std.specs.List.{AllByRecursion}
use Rattle.std.proofs.lemmas.Slice.Eq.{bytes_eq-Decides}
use Rattle.sha2.specs.Sha256.{sha256}
use Rattle.lr_manifest.specs.declared.name.Name.{Name}
use Rattle.lr_stripe.specs.declared.stripe.Stripe.{Stripe}
use Rattle.lr_device.specs.declared.call.DeviceCall.{DeviceCall}
use Rattle.lr_walk.specs.declared.place.LoadPlace.{LoadPlace}
use Rattle.lr_walk.specs.declared.trail.Answer.{Answer}
use Rattle.lr_walk.specs.declared.trail.Answer.TheVariants.{Fault, Spoiled, Memory}
use Rattle.lr_walk.specs.Walk.{Choose}
use Rattle.lr_walk.specs.Steps.{Call, on_device, on_cache, Reply, by_device, by_cache, by_depot, Step, step}
use Rattle.lr_walk.specs.Device.{Piece}
use Rattle.lr_walk.specs.Device as devices
use Rattle.lr_walk.specs.Cache as caches
use Rattle.lr_walk.specs.Depot as depots
use Rattle.lr_walk.specs.Load.{Ending, with_chunk, with_reply, with_memory, look_of, get_of, fetch_of, put_of, fill_of, give_up_of, after_give_up, Gives, after_fill, Fills, Puts, after_fetch, Fetches, Rebuilds, held_after, is_enough, Gets, after_look, Loads}
use Rattle.lr_walk.specs.Calls.{DevicePlace, after_drop, Drops, load_place, after_load, LoadsAll, after_plan, CallsDevice}
use Rattle.lr_walk.specs.Jobs.{Context}
use Rattle.lr_history.specs.Jobs.{JobSeen, calls, another, IsApart, WalksSeen}
use Rattle.lr_history.specs.Ready.{claim_by, FitsClaim, plan_by, FitsPlan, out_after, Fit, WalksFit, NextFits}
use Rattle.lr_history.proofs.Facts.{asked, all_weaker}
use Rattle.lr_history.proofs.Calls.{commit_step}

-- ---- lists of steps that fit

module _ {S : Type 0} (after : S → Call → Reply → S) (fits : S → Call → Type 0) where
  pub fit_both : (a b c : S) (xs ys : List Step) → Fit after fits a xs b → Fit after fits b ys c → Fit after fits a (xs ++ ys) c
  fit_both a b c [] ys h k = subst (λ (z : S). Fit after fits z ys c) (sym h) k
  fit_both a b c (s ∷ xs) ys h k = (h.0, fit_both (after a s.call s.reply) b c xs ys h.1 k)

  pub fit_next : (a b : S) (xs : List Step) (n : Step) (later : List Step) → Fit after fits a (xs ++ n ∷ later) b → fits (out_after after a xs) n.call
  fit_next a b [] n later h = h.0
  fit_next a b (s ∷ xs) n later h = fit_next (after a s.call s.reply) b xs n later h.1

  pub fit_end : (a b : S) (xs : List Step) → Fit after fits a xs b → out_after after a xs ≡ b
  fit_end a b [] h = h
  fit_end a b (s ∷ xs) h = fit_end (after a s.call s.reply) b xs h.1

  pub fit_as : (a b : S) (steps rest : List Step) → steps ≡ rest → Fit after fits a rest b → Fit after fits a steps b
  fit_as a b steps rest e h = subst (λ (l : List Step). Fit after fits a l b) (sym e) h

  -- steps that fit anything and leave it
  pub record Passes (s : Step) : Type 0 where
    pub fits_all : (a : S) → fits a s.call
    pub leaves : (a : S) → after a s.call s.reply ≡ a

  pub fit_pass : (s : Step) → Passes s → (a b : S) (tail steps : List Step) → steps ≡ s ∷ tail → Fit after fits a tail b → Fit after fits a steps b
  fit_pass s p a b tail steps e h =
      fit_as a b steps (s ∷ tail) e (p.fits_all a, subst (λ (z : S). Fit after fits z tail b) (sym (p.leaves a)) h)

  pub all_pass : (steps : List Step) → AllByRecursion Passes steps → (a : S) → Fit after fits a steps a
  all_pass [] h a = refl
  all_pass (s ∷ steps) h a = fit_pass s h.0 a a steps (s ∷ steps) refl (all_pass steps h.1 a)

-- ---- claims

module _ (host : ℕ) where
  abbrev FitC : Option Name → List Step → Option Name → Type 0
  FitC a steps b = Fit (claim_by host) (FitsClaim host) a steps b

  abbrev PassC : Step → Type 0
  PassC s = Passes (claim_by host) (FitsClaim host) s

  -- the claim of a load, where it is on this host
  abbrev held : LoadPlace → Option Name
  held place = cond (nat_eq place.host host) (Some place.name) None

  its : (place : LoadPlace) → nat_eq place.host host ≡ true → held place ≡ Some place.name
  its place e = rw e refl

  none_left : (place : LoadPlace) → cond (nat_eq place.host host) None (held place) ≡ None
  none_left place = by (nat_eq place.host host)
    where
      by : (b : Bool) → cond b None (cond b (Some place.name) None) ≡ None
      by true = refl
      by false = refl

  gives_fit : (place : LoadPlace) (end : Ending) (steps : List Step) (ending : Ending) → Gives place end steps ending → FitC (held place) steps None
  gives_fit place end steps ending g =
      let w = asked (give_up_of place) (after_give_up end) steps ending g in
      fit_as (claim_by host) (FitsClaim host) (held place) None steps (step (give_up_of place) w.0 ∷ w.1) w.2 ((λ e. (place.name, its place e)), by w.0 w.1 w.4)
    where
      by : (reply : Reply) (tail : List Step) → after_give_up end reply tail ending → FitC (claim_by host (held place) (give_up_of place) reply) tail None
      by (by_cache caches.given) tail r = fit_as (claim_by host) (FitsClaim host) _ None tail [] r.0 (none_left place)
      by reply tail r = absurd r

  fills_fit : (place : LoadPlace) (chunk : List ℕ) → sha256 chunk ≡ place.name.bytes → (steps : List Step) (ending : Ending) → Fills place chunk steps ending → FitC (held place) steps None
  fills_fit place chunk n steps ending g =
      let w = asked (fill_of place chunk) (after_fill place chunk) steps ending g in
      fit_as (claim_by host) (FitsClaim host) (held place) None steps (step (fill_of place chunk) w.0 ∷ w.1) w.2
      ((λ e. (place.name, its place e, n)), by w.0 w.1 w.4)
    where
      by : (reply : Reply) (tail : List Step) → after_fill place chunk reply tail ending → FitC (claim_by host (held place) (fill_of place chunk) reply) tail None
      by (by_cache caches.filled) tail r = fit_as (claim_by host) (FitsClaim host) _ None tail [] r.0 (none_left place)
      by (by_cache caches.memory) tail r = gives_fit place (with_chunk chunk) tail ending r
      by reply tail r = absurd r

  puts_fit : (place : LoadPlace) (chunk : List ℕ) → sha256 chunk ≡ place.name.bytes → (stripes : List Stripe) (steps : List Step) (ending : Ending) → Puts place chunk stripes steps ending → FitC (held place) steps None
  puts_fit place chunk n [] steps ending g = fills_fit place chunk n steps ending g
  puts_fit place chunk n (s ∷ stripes) steps ending g =
      let w = asked (put_of place s) (λ _. Puts place chunk stripes) steps ending g in
      fit_pass (claim_by host) (FitsClaim host) (step (put_of place s) w.0) (record { fits_all = λ a. tt; leaves = λ a. refl }) (held place) None w.1 steps w.2 (puts_fit place chunk n stripes w.1 ending w.4)

  fetches_fit : (place : LoadPlace) (steps : List Step) (ending : Ending) → Fetches place steps ending → FitC (held place) steps None
  fetches_fit place steps ending g =
      let w = asked (fetch_of place) (after_fetch place) steps ending g in
      fit_pass (claim_by host) (FitsClaim host) (step (fetch_of place) w.0) (record { fits_all = λ a. tt; leaves = λ a. refl }) (held place) None w.1 steps w.2 (by w.0 w.1 w.4)
    where
      by : (reply : Reply) (tail : List Step) → after_fetch place reply tail ending → FitC (held place) tail None
      by (by_depot (depots.fetched name)) tail (inl r) = puts_fit place r.0 (r.3 ∙ r.2) r.1 tail ending r.5
      by (by_depot (depots.fetched name)) tail (inr r) = gives_fit place with_memory tail ending r
      by (by_depot depots.memory) tail r = gives_fit place with_memory tail ending r
      by (by_depot reply) tail r = gives_fit place (with_reply reply) tail ending r
      by reply tail r = absurd r

  rebuilds_fit : (place : LoadPlace) (all : List Stripe) (steps : List Step) (ending : Ending) → Rebuilds place all steps ending → FitC (held place) steps None
  rebuilds_fit place all steps ending (inl w) = fills_fit place w.0 ((bytes_eq-Decides (sha256 w.0) place.name.bytes).0 w.2) steps ending w.3
  rebuilds_fit place all steps ending (inr (inl w)) = fetches_fit place steps ending w.1
  rebuilds_fit place all steps ending (inr (inr w)) = gives_fit place with_memory steps ending w

  gets_fit : (place : LoadPlace) (left : ℕ) (all : List Stripe) (steps : List Step) (ending : Ending) → Gets place left all steps ending → FitC (held place) steps None
  gets_fit place zero all steps ending g = rebuilds_fit place all steps ending g
  gets_fit place (suc left) all steps ending g =
      let w = asked (get_of place (4 - left)) (λ reply. let now = held_after place (4 - left) reply all in Choose (is_enough now) (Rebuilds place now) (Gets place left now)) steps ending g in
      fit_pass (claim_by host) (FitsClaim host) (step (get_of place (4 - left)) w.0) (record { fits_all = λ a. tt; leaves = λ a. refl }) (held place) None w.1 steps w.2
      (by (held_after place (4 - left) w.0 all) w.1 (λ (now : List Stripe). gets_fit place left now w.1 ending) (is_enough (held_after place (4 - left) w.0 all)) w.4)
    where
      by : (now : List Stripe) (tail : List Step) → ((now : List Stripe) → Gets place left now tail ending → FitC (held place) tail None) → (b : Bool) → Choose b (Rebuilds place now) (Gets place left now) tail ending → FitC (held place) tail None
      by now tail more true r = rebuilds_fit place now tail ending r
      by now tail more false r = more now r

  load_fit : (place : LoadPlace) (steps : List Step) (ending : Ending) → Loads place steps ending → FitC None steps None
  load_fit place steps ending g =
      let w = asked (look_of place) (after_look place) steps ending g in
      fit_as (claim_by host) (FitsClaim host) None None steps (step (look_of place) w.0 ∷ w.1) w.2 (refl, by w.0 w.1 w.4)
    where
      by : (reply : Reply) (tail : List Step) → after_look place reply tail ending → FitC (claim_by host None (look_of place) reply) tail None
      by (by_cache (caches.hit chunk)) tail r = fit_as (claim_by host) (FitsClaim host) None None tail [] r.0 refl
      by (by_cache caches.memory) tail r = fit_as (claim_by host) (FitsClaim host) None None tail [] r.0 refl
      by (by_cache caches.lead) tail (inl r) = gets_fit place 5 [] tail ending r
      by (by_cache caches.lead) tail (inr r) = gives_fit place with_memory tail ending r
      by reply tail r = absurd r

  -- ---- a device call, which begins and ends with no claim

  module _ (place : DevicePlace) (device : ℕ) (call : DeviceCall) where
    drops_claim : (end : Answer) (steps : List Step) (answer : Answer) → Drops device end steps answer → FitC None steps None
    drops_claim end steps answer g =
        let w = asked (on_device device devices.drops) (after_drop end) steps answer g in
        fit_pass (claim_by host) (FitsClaim host) (step (on_device device devices.drops) w.0) (record { fits_all = λ a. tt; leaves = λ a. refl }) None None w.1 steps w.2 (by w.0 w.1 w.4)
      where
        by : (reply : Reply) (tail : List Step) → after_drop end reply tail answer → FitC None tail None
        by (by_device devices.dropped) tail r = fit_as (claim_by host) (FitsClaim host) None None tail [] r.0 refl
        by reply tail r = absurd r

    after_claim : (more : List ℕ → List Step → Answer → Type 0) (end : Ending) (last : List Step) (answer : Answer)
        → ((chunk : List ℕ) → more chunk last answer → FitC None last None) → after_load device more end last answer → FitC None last None
    after_claim more (with_chunk chunk) last answer go w = go chunk w
    after_claim more (with_reply (depots.fault key)) last answer go w = drops_claim (Fault key) last answer w
    after_claim more (with_reply (depots.spoiled key)) last answer go w = drops_claim (Spoiled key) last answer w
    after_claim more with_memory last answer go w = drops_claim Memory last answer w
    after_claim more end last answer go w = absurd w

    loads_claim : (nodes : ℕ) (needs : List ℕ) (pieces : List Piece) (steps : List Step) (answer : Answer) → LoadsAll nodes device place call needs pieces steps answer → FitC None steps None
    loads_claim nodes [] pieces steps answer (inl w) =
        fit_pass (claim_by host) (FitsClaim host) (commit_step device call w.0 w.1) (record { fits_all = λ a. tt; leaves = λ a. refl }) None None [] steps w.2 refl
    loads_claim nodes [] pieces steps answer (inr w) = drops_claim Memory steps answer w
    loads_claim nodes (i ∷ needs) pieces steps answer (inr w) = drops_claim Memory steps answer w
    loads_claim nodes (i ∷ needs) pieces steps answer (inl w) =
        fit_as (claim_by host) (FitsClaim host) None None steps (w.4.0 ++ w.4.1) w.4.3
        (fit_both (claim_by host) (FitsClaim host) None None None w.4.0 w.4.1 (load_fit (load_place nodes place i w.0) w.4.0 w.4.2 w.4.4)
        (after_claim (λ (chunk : List ℕ). LoadsAll nodes device place call needs (pieces ++ record { index = i; chunk = chunk; key = w.1 } ∷ [])) w.4.2 w.4.1 answer
        (λ chunk go. loads_claim nodes needs (pieces ++ record { index = i; chunk = chunk; key = w.1 } ∷ []) w.4.1 answer go) w.4.5))

    call_claim : (nodes : ℕ) (steps : List Step) (answer : Answer) → CallsDevice nodes device place call steps answer → FitC None steps None
    call_claim nodes steps answer (inr w) = fit_as (claim_by host) (FitsClaim host) None None steps [] w.0 refl
    call_claim nodes steps answer (inl g) =
        let w = asked (on_device device (devices.plans call)) (after_plan nodes device place call) steps answer g in
        fit_pass (claim_by host) (FitsClaim host) (step (on_device device (devices.plans call)) w.0) (record { fits_all = λ a. tt; leaves = λ a. refl }) None None w.1 steps w.2 (by w.0 w.1 w.4)
      where
        by : (reply : Reply) (tail : List Step) → after_plan nodes device place call reply tail answer → FitC None tail None
        by (by_device (devices.planned needs pages)) tail r = loads_claim nodes needs [] tail answer r
        by (by_device devices.memory) tail r = fit_as (claim_by host) (FitsClaim host) None None tail [] r.0 refl
        by reply tail r = absurd r

  other_passes : (call : Call) (reply : Reply) → IsApart call → PassC (step call reply)
  other_passes (on_device d call) reply l = absurd l
  other_passes (on_cache h (caches.looks name)) reply l = absurd l
  other_passes (on_cache h (caches.fills chunk)) reply l = absurd l
  other_passes (on_cache h caches.gives_up) reply l = absurd l
  other_passes (on_cache h caches.reaps) reply l = absurd l
  other_passes call reply l = record { fits_all = λ a. tt; leaves = λ a. refl }

  pub walk_claim : (context : Context) (job : JobSeen) (steps : List Step) (answer : Answer) → WalksSeen context job steps answer → FitC None steps None
  walk_claim context (calls device call) steps answer w = call_claim w.0 device call context.nodes steps answer w.2
  walk_claim context another steps answer w =
      all_pass (claim_by host) (FitsClaim host) steps (all_weaker (λ (s : Step). IsApart s.call) PassC (λ s. other_passes s.call s.reply) steps w.0) None

-- ---- what holds of each step of a load

-- a step on no device
abbrev pub IsNoDevice : Call → Type 0
IsNoDevice (on_device d call) = ⊥
IsNoDevice call = ⊤

module _ (P : Step → Type 0) (on : (call : Call) (reply : Reply) → IsNoDevice call → P (step call reply)) where
  abbrev All : List Step → Type 0
  All steps = AllByRecursion P steps

  one_of : (s : Step) (tail steps : List Step) → steps ≡ s ∷ tail → P s → All tail → All steps
  one_of s tail steps e p h = subst All (sym e) (p, h)

  none_of : (steps : List Step) → steps ≡ [] → All steps
  none_of steps e = subst All (sym e) tt

  gives_all : (place : LoadPlace) (end : Ending) (steps : List Step) (ending : Ending) → Gives place end steps ending → All steps
  gives_all place end steps ending g =
      let w = asked (give_up_of place) (after_give_up end) steps ending g in
      one_of (step (give_up_of place) w.0) w.1 steps w.2 (on (give_up_of place) w.0 tt) (by w.0 w.1 w.4)
    where
      by : (reply : Reply) (tail : List Step) → after_give_up end reply tail ending → All tail
      by (by_cache caches.given) tail r = none_of tail r.0
      by reply tail r = absurd r

  fills_all : (place : LoadPlace) (chunk : List ℕ) (steps : List Step) (ending : Ending) → Fills place chunk steps ending → All steps
  fills_all place chunk steps ending g =
      let w = asked (fill_of place chunk) (after_fill place chunk) steps ending g in
      one_of (step (fill_of place chunk) w.0) w.1 steps w.2 (on (fill_of place chunk) w.0 tt) (by w.0 w.1 w.4)
    where
      by : (reply : Reply) (tail : List Step) → after_fill place chunk reply tail ending → All tail
      by (by_cache caches.filled) tail r = none_of tail r.0
      by (by_cache caches.memory) tail r = gives_all place (with_chunk chunk) tail ending r
      by reply tail r = absurd r

  puts_all : (place : LoadPlace) (chunk : List ℕ) (stripes : List Stripe) (steps : List Step) (ending : Ending) → Puts place chunk stripes steps ending → All steps
  puts_all place chunk [] steps ending g = fills_all place chunk steps ending g
  puts_all place chunk (s ∷ stripes) steps ending g =
      let w = asked (put_of place s) (λ _. Puts place chunk stripes) steps ending g in
      one_of (step (put_of place s) w.0) w.1 steps w.2 (on (put_of place s) w.0 tt) (puts_all place chunk stripes w.1 ending w.4)

  fetches_all : (place : LoadPlace) (steps : List Step) (ending : Ending) → Fetches place steps ending → All steps
  fetches_all place steps ending g =
      let w = asked (fetch_of place) (after_fetch place) steps ending g in
      one_of (step (fetch_of place) w.0) w.1 steps w.2 (on (fetch_of place) w.0 tt) (by w.0 w.1 w.4)
    where
      by : (reply : Reply) (tail : List Step) → after_fetch place reply tail ending → All tail
      by (by_depot (depots.fetched name)) tail (inl r) = puts_all place r.0 r.1 tail ending r.5
      by (by_depot (depots.fetched name)) tail (inr r) = gives_all place with_memory tail ending r
      by (by_depot depots.memory) tail r = gives_all place with_memory tail ending r
      by (by_depot reply) tail r = gives_all place (with_reply reply) tail ending r
      by reply tail r = absurd r

  rebuilds_all : (place : LoadPlace) (held : List Stripe) (steps : List Step) (ending : Ending) → Rebuilds place held steps ending → All steps
  rebuilds_all place held steps ending (inl w) = fills_all place w.0 steps ending w.3
  rebuilds_all place held steps ending (inr (inl w)) = fetches_all place steps ending w.1
  rebuilds_all place held steps ending (inr (inr w)) = gives_all place with_memory steps ending w

  gets_all : (place : LoadPlace) (left : ℕ) (held : List Stripe) (steps : List Step) (ending : Ending) → Gets place left held steps ending → All steps
  gets_all place zero held steps ending g = rebuilds_all place held steps ending g
  gets_all place (suc left) held steps ending g =
      let w = asked (get_of place (4 - left)) (λ reply. let now = held_after place (4 - left) reply held in Choose (is_enough now) (Rebuilds place now) (Gets place left now)) steps ending g in
      one_of (step (get_of place (4 - left)) w.0) w.1 steps w.2 (on (get_of place (4 - left)) w.0 tt)
      (by (held_after place (4 - left) w.0 held) w.1 (λ (now : List Stripe). gets_all place left now w.1 ending) (is_enough (held_after place (4 - left) w.0 held)) w.4)
    where
      by : (now : List Stripe) (tail : List Step) → ((now : List Stripe) → Gets place left now tail ending → All tail) → (b : Bool) → Choose b (Rebuilds place now) (Gets place left now) tail ending → All tail
      by now tail more true r = rebuilds_all place now tail ending r
      by now tail more false r = more now r

  pub load_all : (place : LoadPlace) (steps : List Step) (ending : Ending) → Loads place steps ending → All steps
  load_all place steps ending g =
      let w = asked (look_of place) (after_look place) steps ending g in
      one_of (step (look_of place) w.0) w.1 steps w.2 (on (look_of place) w.0 tt) (by w.0 w.1 w.4)
    where
      by : (reply : Reply) (tail : List Step) → after_look place reply tail ending → All tail
      by (by_cache (caches.hit chunk)) tail r = none_of tail r.0
      by (by_cache caches.lead) tail (inl r) = gets_all place 5 [] tail ending r
      by (by_cache caches.lead) tail (inr r) = gives_all place with_memory tail ending r
      by (by_cache caches.memory) tail r = none_of tail r.0
      by reply tail r = absurd r

-- ---- plans

module _ (d : ℕ) where
  abbrev FitP : Option DeviceCall → List Step → Option DeviceCall → Type 0
  FitP a steps b = Fit (plan_by d) (FitsPlan d) a steps b

  abbrev PassP : Step → Type 0
  PassP s = Passes (plan_by d) (FitsPlan d) s

  passes_elsewhere : (call : Call) (reply : Reply) → IsNoDevice call → PassP (step call reply)
  passes_elsewhere (on_device k call) reply n = absurd n
  passes_elsewhere call reply n = record { fits_all = λ a. tt; leaves = λ a. refl }

  load_passes : (place : LoadPlace) (steps : List Step) (ending : Ending) → Loads place steps ending → AllByRecursion PassP steps
  load_passes = load_all PassP passes_elsewhere

  module _ (place : DevicePlace) (device : ℕ) (call : DeviceCall) where
    -- the plan of the call, where it is on this device
    abbrev out : Option DeviceCall
    out = cond (nat_eq device d) (Some call) None

    is_out : nat_eq device d ≡ true → out ≡ Some call
    is_out e = rw e refl

    none_out : cond (nat_eq device d) None out ≡ None
    none_out = by (nat_eq device d)
      where
        by : (b : Bool) → cond b None (cond b (Some call) None) ≡ None
        by true = refl
        by false = refl

    drops_plan : (end : Answer) (steps : List Step) (answer : Answer) → Drops device end steps answer → FitP out steps None
    drops_plan end steps answer g =
        let w = asked (on_device device devices.drops) (after_drop end) steps answer g in
        fit_as (plan_by d) (FitsPlan d) out None steps (step (on_device device devices.drops) w.0 ∷ w.1) w.2 ((λ e. (call, is_out e)), by w.0 w.1 w.4)
      where
        by : (reply : Reply) (tail : List Step) → after_drop end reply tail answer → FitP (plan_by d out (on_device device devices.drops) reply) tail None
        by (by_device devices.dropped) tail r = fit_as (plan_by d) (FitsPlan d) _ None tail [] r.0 none_out
        by reply tail r = absurd r

    after_plans : (more : List ℕ → List Step → Answer → Type 0) (end : Ending) (last : List Step) (answer : Answer)
        → ((chunk : List ℕ) → more chunk last answer → FitP out last None) → after_load device more end last answer → FitP out last None
    after_plans more (with_chunk chunk) last answer go w = go chunk w
    after_plans more (with_reply (depots.fault key)) last answer go w = drops_plan (Fault key) last answer w
    after_plans more (with_reply (depots.spoiled key)) last answer go w = drops_plan (Spoiled key) last answer w
    after_plans more with_memory last answer go w = drops_plan Memory last answer w
    after_plans more end last answer go w = absurd w

    loads_plan : (nodes : ℕ) (needs : List ℕ) (pieces : List Piece) (steps : List Step) (answer : Answer) → LoadsAll nodes device place call needs pieces steps answer → FitP out steps None
    loads_plan nodes [] pieces steps answer (inl w) =
        fit_as (plan_by d) (FitsPlan d) out None steps (commit_step device call w.0 w.1 ∷ []) w.2 ((λ e. (call, is_out e, refl)), none_out)
    loads_plan nodes [] pieces steps answer (inr w) = drops_plan Memory steps answer w
    loads_plan nodes (i ∷ needs) pieces steps answer (inr w) = drops_plan Memory steps answer w
    loads_plan nodes (i ∷ needs) pieces steps answer (inl w) =
        fit_as (plan_by d) (FitsPlan d) out None steps (w.4.0 ++ w.4.1) w.4.3
        (fit_both (plan_by d) (FitsPlan d) out out None w.4.0 w.4.1
        (all_pass (plan_by d) (FitsPlan d) w.4.0 (load_passes (load_place nodes place i w.0) w.4.0 w.4.2 w.4.4) out)
        (after_plans (λ (chunk : List ℕ). LoadsAll nodes device place call needs (pieces ++ record { index = i; chunk = chunk; key = w.1 } ∷ [])) w.4.2 w.4.1 answer
        (λ chunk go. loads_plan nodes needs (pieces ++ record { index = i; chunk = chunk; key = w.1 } ∷ []) w.4.1 answer go) w.4.5))

    call_plan : (nodes : ℕ) (steps : List Step) (answer : Answer) → CallsDevice nodes device place call steps answer → FitP None steps None
    call_plan nodes steps answer (inr w) = fit_as (plan_by d) (FitsPlan d) None None steps [] w.0 refl
    call_plan nodes steps answer (inl g) =
        let w = asked (on_device device (devices.plans call)) (after_plan nodes device place call) steps answer g in
        fit_as (plan_by d) (FitsPlan d) None None steps (step (on_device device (devices.plans call)) w.0 ∷ w.1) w.2 ((λ e. refl), by w.0 w.1 w.4)
      where
        by : (reply : Reply) (tail : List Step) → after_plan nodes device place call reply tail answer → FitP (plan_by d None (on_device device (devices.plans call)) reply) tail None
        by (by_device (devices.planned needs pages)) tail r = loads_plan nodes needs [] tail answer r
        by (by_device devices.memory) tail r = fit_as (plan_by d) (FitsPlan d) None None tail [] r.0 refl
        by reply tail r = absurd r

  apart_plan : (call : Call) (reply : Reply) → IsApart call → PassP (step call reply)
  apart_plan (on_device k call) reply n = absurd n
  apart_plan call reply n = record { fits_all = λ a. tt; leaves = λ a. refl }

  pub walk_plan : (context : Context) (job : JobSeen) (steps : List Step) (answer : Answer) → WalksSeen context job steps answer → FitP None steps None
  walk_plan context (calls device call) steps answer w = call_plan w.0 device call context.nodes steps answer w.2
  walk_plan context another steps answer w =
      all_pass (plan_by d) (FitsPlan d) steps (all_weaker (λ (s : Step). IsApart s.call) PassP (λ s. apart_plan s.call s.reply) steps w.0) None

pub walks_fit : WalksFit
walks_fit = record {
  claims = λ context job steps answer w host. walk_claim host context job steps answer w;
  plans = λ context job steps answer w device. walk_plan device context job steps answer w;
}

pub next_fits : NextFits
next_fits = record {
  claim = λ context job steps next later answer w host. fit_next (claim_by host) (FitsClaim host) None None steps next later (walk_claim host context job (steps ++ next ∷ later) answer w);
  plan = λ context job steps next later answer w device. fit_next (plan_by device) (FitsPlan device) None None steps next later (walk_plan device context job (steps ++ next ∷ later) answer w);
}

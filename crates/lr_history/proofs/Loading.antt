-- What each beginning of a load tells: at most one fetch, and that with its own claim.
use Rattle.std.proofs.Common.{◌≡◌, inl, inr, ℕ, zero, suc, ◌-◌, List, [], ◌∷◌, ◌++◌, Bool, true, false, cond, nat_eq, refl, ◌∙◌, append-nil}
use Rattle.std.specs.Prelude.{◌&&◌}
use Rattle.lr_stripe.specs.declared.stripe.Stripe.{Stripe}
use Rattle.lr_walk.specs.declared.place.LoadPlace.{LoadPlace}
use Rattle.lr_walk.specs.Walk.{Choose}
use Rattle.lr_walk.specs.Steps.{Reply, by_cache, by_depot, Step, step, Answers}
use Rattle.lr_walk.specs.Cache as caches
use Rattle.lr_walk.specs.Depot as depots
use Rattle.lr_walk.specs.Load.{Ending, with_chunk, with_reply, with_memory, look_of, get_of, fetch_of, put_of, fill_of, give_up_of, after_give_up, Gives, after_fill, Fills, Puts, after_fetch, Fetches, Rebuilds, held_after, is_enough, Gets, after_look, Loads}
use Rattle.lr_history.specs.Told.{fetched_by, fetched_in, led_in, needed_in}
use Rattle.lr_history.proofs.Facts.{asked}
use Rattle.lr_history.proofs.Parts.{Part, part_none, part_more, part_weaker, IsStill, Still, still_none, still_more, still_first}

gives_part : (place : LoadPlace) (end : Ending) (steps : List Step) (ending : Ending) → Gives place end steps ending → Part Still steps
gives_part place end steps ending g =
    let w = asked (give_up_of place) (after_give_up end) steps ending g in
    still_first (step (give_up_of place) w.0) w.1 steps w.2 (record { fetched = refl; led = λ h. refl; needed = λ d. refl }) (part_none Still w.1 (by w.0 w.1 w.4) still_none)
  where
    by : (reply : Reply) (tail : List Step) → after_give_up end reply tail ending → tail ≡ []
    by (by_cache caches.given) tail r = r.0
    by reply tail r = absurd r

fills_part : (place : LoadPlace) (chunk : List ℕ) (steps : List Step) (ending : Ending) → Fills place chunk steps ending → Part Still steps
fills_part place chunk steps ending g =
    let w = asked (fill_of place chunk) (after_fill place chunk) steps ending g in
    still_first (step (fill_of place chunk) w.0) w.1 steps w.2 (record { fetched = refl; led = λ h. refl; needed = λ d. refl }) (by w.0 w.1 w.4)
  where
    by : (reply : Reply) (tail : List Step) → after_fill place chunk reply tail ending → Part Still tail
    by (by_cache caches.filled) tail r = part_none Still tail r.0 still_none
    by (by_cache caches.memory) tail r = gives_part place (with_chunk chunk) tail ending r
    by reply tail r = absurd r

puts_part : (place : LoadPlace) (chunk : List ℕ) (stripes : List Stripe) (steps : List Step) (ending : Ending) → Puts place chunk stripes steps ending → Part Still steps
puts_part place chunk [] steps ending g = fills_part place chunk steps ending g
puts_part place chunk (s ∷ stripes) steps ending g =
    let w = asked (put_of place s) (λ _. Puts place chunk stripes) steps ending g in
    still_first (step (put_of place s) w.0) w.1 steps w.2 (record { fetched = refl; led = λ h. refl; needed = λ d. refl }) (puts_part place chunk stripes w.1 ending w.4)

-- ---- at most one fetch

pub record Fetching (place : LoadPlace) (steps : List Step) : Type 0 where
  pub did : Bool
  pub fetched : fetched_in steps ≡ cond did (record { lease = place.lease; index = place.index } ∷ []) []
  pub led : (host : ℕ) → led_in host steps ≡ []
  pub needed : (device : ℕ) → needed_in device steps ≡ []

still_fetching : (place : LoadPlace) (steps : List Step) → Still steps → Fetching place steps
still_fetching place steps h = record { did = false; fetched = h.fetched; led = h.led; needed = h.needed }

none_fetching : (place : LoadPlace) → Fetching place []
none_fetching place = still_fetching place [] still_none

more_fetching : (place : LoadPlace) (s : Step) → IsStill s → (p : List Step) → Fetching place p → Fetching place (s ∷ p)
more_fetching place s h p k = record {
  did = k.did;
  fetched = (λ i. h.fetched i ++ fetched_in p) ∙ k.fetched;
  led = λ host i. h.led host i ++ k.led host i;
  needed = λ device i. h.needed device i ++ k.needed device i;
}

fetch_first : (place : LoadPlace) (reply : Reply) (p : List Step) → fetched_by (fetch_of place) reply ≡ record { lease = place.lease; index = place.index } ∷ []
    → Still p → Fetching place (step (fetch_of place) reply ∷ p)
fetch_first place reply p f k = record {
  did = true;
  fetched = λ i. f i ++ k.fetched i;
  led = λ host. k.led host;
  needed = λ device. k.needed device;
}

fetches_part : (place : LoadPlace) (steps : List Step) (ending : Ending) → Fetches place steps ending → Part (Fetching place) steps
fetches_part place steps ending g =
    let w = asked (fetch_of place) (after_fetch place) steps ending g in
    by w.0 w.1 w.2 w.3 w.4
  where
    told : (reply : Reply) (tail : List Step) → steps ≡ step (fetch_of place) reply ∷ tail → fetched_by (fetch_of place) reply ≡ record { lease = place.lease; index = place.index } ∷ []
        → Part Still tail → Part (Fetching place) steps
    told reply tail e f k = part_more (Fetching place) Still (step (fetch_of place) reply) tail steps e (none_fetching place) (λ p q. fetch_first place reply p f q) k

    by : (reply : Reply) (tail : List Step) → steps ≡ step (fetch_of place) reply ∷ tail → Answers (fetch_of place) reply → after_fetch place reply tail ending → Part (Fetching place) steps
    by (by_depot (depots.fetched name)) tail e a (inl r) = told (by_depot (depots.fetched name)) tail e refl (puts_part place r.0 r.1 tail ending r.5)
    by (by_depot (depots.fetched name)) tail e a (inr r) = told (by_depot (depots.fetched name)) tail e refl (gives_part place with_memory tail ending r)
    by (by_depot depots.memory) tail e a r =
        part_more (Fetching place) Still (step (fetch_of place) (by_depot depots.memory)) tail steps e (none_fetching place)
        (λ p q. still_fetching place _ (still_more (step (fetch_of place) (by_depot depots.memory)) (record { fetched = refl; led = λ h. refl; needed = λ d. refl }) p q))
        (gives_part place with_memory tail ending r)
    by (by_depot reply) tail e a r = told (by_depot reply) tail e refl (gives_part place (with_reply reply) tail ending r)
    by reply tail e a r = absurd a

rebuilds_part : (place : LoadPlace) (held : List Stripe) (steps : List Step) (ending : Ending) → Rebuilds place held steps ending → Part (Fetching place) steps
rebuilds_part place held steps ending (inl w) = part_weaker Still (Fetching place) steps (still_fetching place) (fills_part place w.0 steps ending w.3)
rebuilds_part place held steps ending (inr (inl w)) = fetches_part place steps ending w.1
rebuilds_part place held steps ending (inr (inr w)) = part_weaker Still (Fetching place) steps (still_fetching place) (gives_part place with_memory steps ending w)

gets_part : (place : LoadPlace) (left : ℕ) (held : List Stripe) (steps : List Step) (ending : Ending) → Gets place left held steps ending → Part (Fetching place) steps
gets_part place zero held steps ending g = rebuilds_part place held steps ending g
gets_part place (suc left) held steps ending g =
    let w = asked (get_of place (4 - left)) (λ reply. let now = held_after place (4 - left) reply held in Choose (is_enough now) (Rebuilds place now) (Gets place left now)) steps ending g in
    part_more (Fetching place) (Fetching place) (step (get_of place (4 - left)) w.0) w.1 steps w.2 (none_fetching place)
    (λ p q. more_fetching place (step (get_of place (4 - left)) w.0) (record { fetched = refl; led = λ h. refl; needed = λ d. refl }) p q)
    (by (held_after place (4 - left) w.0 held) w.1 (λ (now : List Stripe). gets_part place left now w.1 ending) (is_enough (held_after place (4 - left) w.0 held)) w.4)
  where
    by : (now : List Stripe) (tail : List Step) → ((now : List Stripe) → Gets place left now tail ending → Part (Fetching place) tail) → (b : Bool) → Choose b (Rebuilds place now) (Gets place left now) tail ending → Part (Fetching place) tail
    by now tail more true r = rebuilds_part place now tail ending r
    by now tail more false r = more now r

-- ---- the claim first

pub record Loading (place : LoadPlace) (steps : List Step) : Type 0 where
  pub claim : Bool
  pub did : Bool
  pub claimed : did ≡ true → claim ≡ true
  pub fetched : fetched_in steps ≡ cond did (record { lease = place.lease; index = place.index } ∷ []) []
  pub led : (host : ℕ) → led_in host steps ≡ cond (claim && nat_eq place.host host) (place.name ∷ []) []
  pub needed : (device : ℕ) → needed_in device steps ≡ []

still_loading : (place : LoadPlace) (steps : List Step) → Still steps → Loading place steps
still_loading place steps h = record { claim = false; did = false; claimed = λ e. e; fetched = h.fetched; led = h.led; needed = h.needed }

led_first : (place : LoadPlace) (p : List Step) → Fetching place p → Loading place (step (look_of place) (by_cache caches.lead) ∷ p)
led_first place p q = record {
  claim = true;
  did = q.did;
  claimed = λ t. refl;
  fetched = q.fetched;
  led = λ host. (λ i. cond (nat_eq place.host host) (place.name ∷ []) [] ++ q.led host i) ∙ append-nil (cond (nat_eq place.host host) (place.name ∷ []) []);
  needed = λ device. q.needed device;
}

pub load_part : (place : LoadPlace) (steps : List Step) (ending : Ending) → Loads place steps ending → Part (Loading place) steps
load_part place steps ending g =
    let w = asked (look_of place) (after_look place) steps ending g in
    by w.0 w.1 w.2 w.4
  where
    ended : (reply : Reply) (tail : List Step) → steps ≡ step (look_of place) reply ∷ tail → IsStill (step (look_of place) reply) → tail ≡ [] → Part (Loading place) steps
    ended reply tail e h n =
        part_weaker Still (Loading place) steps (still_loading place)
        (still_first (step (look_of place) reply) tail steps e h (part_none Still tail n still_none))

    by : (reply : Reply) (tail : List Step) → steps ≡ step (look_of place) reply ∷ tail → after_look place reply tail ending → Part (Loading place) steps
    by (by_cache (caches.hit chunk)) tail e r = ended (by_cache (caches.hit chunk)) tail e (record { fetched = refl; led = λ h. refl; needed = λ d. refl }) r.0
    by (by_cache caches.memory) tail e r = ended (by_cache caches.memory) tail e (record { fetched = refl; led = λ h. refl; needed = λ d. refl }) r.0
    by (by_cache caches.lead) tail e (inl r) =
        part_more (Loading place) (Fetching place) (step (look_of place) (by_cache caches.lead)) tail steps e (still_loading place [] still_none) (led_first place) (gets_part place 5 [] tail ending r)
    by (by_cache caches.lead) tail e (inr r) =
        part_more (Loading place) Still (step (look_of place) (by_cache caches.lead)) tail steps e (still_loading place [] still_none)
        (λ p q. led_first place p (still_fetching place p q)) (gives_part place with_memory tail ending r)
    by reply tail e r = absurd r

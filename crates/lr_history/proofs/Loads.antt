-- What a load's walk says: it commits nothing, it ends with a chunk of its name, and what its fetch failed with.
use Rattle.std.proofs.Common.{◌≡◌, inl, inr, ℕ, zero, suc, ◌-◌, List, [], ◌∷◌, ◌++◌, Bool, true, false, refl, ◌∙◌, append-nil}
use Rattle.std.specs.Prelude.{⊤}
use Rattle.std.proofs.lemmas.Slice.Eq.{bytes_eq-Decides}
use Rattle.sha2.specs.Sha256.{sha256}
use Rattle.lr_stripe.specs.declared.stripe.Stripe.{Stripe}
use Rattle.lr_walk.specs.declared.place.LoadPlace.{LoadPlace}
use Rattle.lr_walk.specs.declared.trail.Answer.{Answer}
use Rattle.lr_walk.specs.declared.trail.Answer.TheVariants.{Fault, Spoiled}
use Rattle.lr_walk.specs.Walk.{Choose}
use Rattle.lr_walk.specs.Steps.{Reply, by_cache, by_depot, Step, step, Answers}
use Rattle.lr_walk.specs.Cache as caches
use Rattle.lr_walk.specs.Depot as depots
use Rattle.lr_walk.specs.Load.{Ending, with_chunk, with_reply, with_memory, look_of, get_of, fetch_of, put_of, fill_of, give_up_of, after_give_up, Gives, after_fill, Fills, Puts, after_fetch, Fetches, Rebuilds, held_after, is_enough, Gets, after_look, Loads}
use Rattle.lr_history.specs.Answered.{failed_by, failed_in}
use Rattle.lr_history.proofs.Facts.{asked, IsQuiet, Plain, quiet}

-- what an ending failed with
abbrev pub failures_at : Ending → List Answer
failures_at (with_reply (depots.fault key)) = Fault key ∷ []
failures_at (with_reply (depots.spoiled key)) = Spoiled key ∷ []
failures_at ending = []

-- a chunk that a load ends with has its name
abbrev pub IsNamed : LoadPlace → Ending → Type 0
IsNamed place (with_chunk chunk) = sha256 chunk ≡ place.name.bytes
IsNamed place ending = ⊤

-- what is left of a load, after these failures
pub record Facts (place : LoadPlace) (before : List Answer) (steps : List Step) (ending : Ending) : Type 0 where
  pub plain : Plain steps
  pub failed : before ++ failed_in steps ≡ failures_at ending
  pub its_name : IsNamed place ending

one_more : (place : LoadPlace) (before : List Answer) (steps : List Step) (s : Step) (tail : List Step) (ending : Ending)
    → steps ≡ s ∷ tail → IsQuiet s.call s.reply → failed_by s.call s.reply ≡ [] → Facts place before tail ending → Facts place before steps ending
one_more place before steps s tail ending e u f h =
    rw e (record { plain = (u, h.plain); failed = rw f h.failed; its_name = h.its_name })

gives : (place : LoadPlace) (end : Ending) (before : List Answer) (steps : List Step) (ending : Ending)
    → IsNamed place end → before ≡ failures_at end → Gives place end steps ending → Facts place before steps ending
gives place end before steps ending n f g =
    let w = asked (give_up_of place) (after_give_up end) steps ending g in
    rw w.2 (by w.0 w.1 w.3 w.4)
  where
    by : (reply : Reply) (tail : List Step) → Answers (give_up_of place) reply → after_give_up end reply tail ending → Facts place before (step (give_up_of place) reply ∷ tail) ending
    by (by_cache caches.given) tail a r =
        rw (r.0, r.1) (record { plain = (quiet (give_up_of place) (by_cache caches.given) tt, tt); failed = append-nil before ∙ f; its_name = n })
    by reply tail a r = absurd r

fills : (place : LoadPlace) (chunk : List ℕ) → sha256 chunk ≡ place.name.bytes → (steps : List Step) (ending : Ending)
    → Fills place chunk steps ending → Facts place [] steps ending
fills place chunk n steps ending g =
    let w = asked (fill_of place chunk) (after_fill place chunk) steps ending g in
    rw w.2 (by w.0 w.1 w.3 w.4)
  where
    by : (reply : Reply) (tail : List Step) → Answers (fill_of place chunk) reply → after_fill place chunk reply tail ending → Facts place [] (step (fill_of place chunk) reply ∷ tail) ending
    by (by_cache caches.filled) tail a r =
        rw (r.0, r.1) (record { plain = (quiet (fill_of place chunk) (by_cache caches.filled) tt, tt); failed = refl; its_name = n })
    by (by_cache caches.memory) tail a r =
        one_more place [] _ (step (fill_of place chunk) (by_cache caches.memory)) tail ending refl (quiet (fill_of place chunk) (by_cache caches.memory) tt) refl
        (gives place (with_chunk chunk) [] tail ending n refl r)
    by reply tail a r = absurd r

puts : (place : LoadPlace) (chunk : List ℕ) → sha256 chunk ≡ place.name.bytes → (stripes : List Stripe) (steps : List Step) (ending : Ending)
    → Puts place chunk stripes steps ending → Facts place [] steps ending
puts place chunk n [] steps ending g = fills place chunk n steps ending g
puts place chunk n (s ∷ stripes) steps ending g =
    let w = asked (put_of place s) (λ _. Puts place chunk stripes) steps ending g in
    one_more place [] steps (step (put_of place s) w.0) w.1 ending w.2 (quiet (put_of place s) w.0 tt) refl (puts place chunk n stripes w.1 ending w.4)

fetches : (place : LoadPlace) (steps : List Step) (ending : Ending) → Fetches place steps ending → Facts place [] steps ending
fetches place steps ending g =
    let w = asked (fetch_of place) (after_fetch place) steps ending g in
    rw w.2 (by w.0 w.1 w.3 w.4)
  where
    by : (reply : Reply) (tail : List Step) → Answers (fetch_of place) reply → after_fetch place reply tail ending → Facts place [] (step (fetch_of place) reply ∷ tail) ending
    by (by_depot (depots.fetched name)) tail a (inl r) =
        one_more place [] _ (step (fetch_of place) (by_depot (depots.fetched name))) tail ending refl (quiet (fetch_of place) (by_depot (depots.fetched name)) tt) refl
        (puts place r.0 (r.3 ∙ r.2) r.1 tail ending r.5)
    by (by_depot (depots.fetched name)) tail a (inr r) =
        one_more place [] _ (step (fetch_of place) (by_depot (depots.fetched name))) tail ending refl (quiet (fetch_of place) (by_depot (depots.fetched name)) tt) refl
        (gives place with_memory [] tail ending tt refl r)
    by (by_depot (depots.fault key)) tail a r =
        let h = gives place (with_reply (depots.fault key)) (Fault key ∷ []) tail ending tt refl r in
        record { plain = (quiet (fetch_of place) (by_depot (depots.fault key)) tt, h.plain); failed = h.failed; its_name = h.its_name }
    by (by_depot (depots.spoiled key)) tail a r =
        let h = gives place (with_reply (depots.spoiled key)) (Spoiled key ∷ []) tail ending tt refl r in
        record { plain = (quiet (fetch_of place) (by_depot (depots.spoiled key)) tt, h.plain); failed = h.failed; its_name = h.its_name }
    by (by_depot depots.memory) tail a r =
        one_more place [] _ (step (fetch_of place) (by_depot depots.memory)) tail ending refl (quiet (fetch_of place) (by_depot depots.memory) tt) refl
        (gives place with_memory [] tail ending tt refl r)
    by (by_depot reply) tail a r =
        one_more place [] _ (step (fetch_of place) (by_depot reply)) tail ending refl (quiet (fetch_of place) (by_depot reply) tt) refl
        (gives place (with_reply reply) [] tail ending tt refl r)
    by reply tail a r = absurd a

rebuilds : (place : LoadPlace) (held : List Stripe) (steps : List Step) (ending : Ending) → Rebuilds place held steps ending → Facts place [] steps ending
rebuilds place held steps ending (inl w) = fills place w.0 ((bytes_eq-Decides (sha256 w.0) place.name.bytes).0 w.2) steps ending w.3
rebuilds place held steps ending (inr (inl w)) = fetches place steps ending w.1
rebuilds place held steps ending (inr (inr w)) = gives place with_memory [] steps ending tt refl w

gets : (place : LoadPlace) (left : ℕ) (held : List Stripe) (steps : List Step) (ending : Ending) → Gets place left held steps ending → Facts place [] steps ending
gets place zero held steps ending g = rebuilds place held steps ending g
gets place (suc left) held steps ending g =
    let w = asked (get_of place (4 - left)) (λ reply. let now = held_after place (4 - left) reply held in Choose (is_enough now) (Rebuilds place now) (Gets place left now)) steps ending g in
    one_more place [] steps (step (get_of place (4 - left)) w.0) w.1 ending w.2 (quiet (get_of place (4 - left)) w.0 tt) refl
    (by (held_after place (4 - left) w.0 held) w.1 (λ (now : List Stripe). gets place left now w.1 ending) (is_enough (held_after place (4 - left) w.0 held)) w.4)
  where
    by : (now : List Stripe) (tail : List Step) → ((now : List Stripe) → Gets place left now tail ending → Facts place [] tail ending) → (b : Bool) → Choose b (Rebuilds place now) (Gets place left now) tail ending → Facts place [] tail ending
    by now tail more true r = rebuilds place now tail ending r
    by now tail more false r = more now r

pub load_facts : (place : LoadPlace) (steps : List Step) (ending : Ending) → Loads place steps ending → Facts place [] steps ending
load_facts place steps ending g =
    let w = asked (look_of place) (after_look place) steps ending g in
    rw w.2 (by w.0 w.1 w.3 w.4)
  where
    by : (reply : Reply) (tail : List Step) → Answers (look_of place) reply → after_look place reply tail ending → Facts place [] (step (look_of place) reply ∷ tail) ending
    by (by_cache (caches.hit chunk)) tail a r =
        rw (r.0, r.1) (record { plain = (quiet (look_of place) (by_cache (caches.hit chunk)) tt, tt); failed = refl; its_name = a })
    by (by_cache caches.lead) tail a (inl r) =
        one_more place [] _ (step (look_of place) (by_cache caches.lead)) tail ending refl (quiet (look_of place) (by_cache caches.lead) tt) refl (gets place 5 [] tail ending r)
    by (by_cache caches.lead) tail a (inr r) =
        one_more place [] _ (step (look_of place) (by_cache caches.lead)) tail ending refl (quiet (look_of place) (by_cache caches.lead) tt) refl (gives place with_memory [] tail ending tt refl r)
    by (by_cache caches.memory) tail a r =
        rw (r.0, r.1) (record { plain = (quiet (look_of place) (by_cache caches.memory) tt, tt); failed = refl; its_name = tt })
    by reply tail a r = absurd r

-- loads: from each need and after each reply the walk can be ended, and it ends well
use Rattle.std.proofs.Common.{◌≡◌, inl, inr, ℕ, zero, suc, ◌-◌, List, [], ◌∷◌, Bool, true, false, MatchBool, refl, sym, subst}
use Rattle.lr_stripe.specs.declared.stripe.Stripe.{Stripe}
use Rattle.lr_walk.specs.declared.place.LoadPlace.{LoadPlace}
use Rattle.lr_walk.specs.Walk.{Walks, Choose}
use Rattle.lr_walk.specs.Steps.{Call, Reply, by_cache, by_node, by_depot, Step, step, Answers, Asks}
use Rattle.lr_walk.specs.Load.{Ending, with_chunk, with_reply, with_memory, look_of, get_of, fetch_of, put_of, fill_of, give_up_of, after_give_up, after_fill, after_fetch, after_look, Gives, Fills, Puts, Rebuilds, held_after, is_enough, Gets}
use Rattle.lr_walk.specs.Depot as depots
use Rattle.lr_walk.specs.Cache as caches
use Rattle.lr_walk.specs.Node as nodes
use Rattle.lr_loader.specs.Progress.{Need, looking, asking, fetching, putting, filling, giving, ended, Rest, an_end, asked, Admits, Rebuilt, AfterGet, Next}
use Rattle.lr_loader.proofs.Walks.{before, IsTold, goes_on}
use Rattle.lr_actors.specs.Serving.{HasLease}
use Rattle.lr_actors.specs.Stages.{EndsWell, GoesWell, IsUnderWay, IsLoadCall}

asks : {E : Type 0} (call : Call) (reply : Reply) (after : Reply → Walks Step E) (tail : List Step) (ending : E) → Answers call reply → after reply tail ending
    → Asks call after (step call reply ∷ tail) ending
asks call reply after tail ending a r = (reply, step call reply, tail, refl, (refl, a), r)

-- ---- from each need

abbrev pub Completion : Walks Step Ending → Ending → Type 0
Completion p ending = (tail : List Step) × p tail ending

gives : (place : LoadPlace) (end : Ending) → Gives place end (step (give_up_of place) (by_cache caches.given) ∷ []) end
gives place end = asks (give_up_of place) (by_cache caches.given) (after_give_up end) [] end tt (refl, refl)

fills : (place : LoadPlace) (chunk : List ℕ) → Completion (Fills place chunk) (with_chunk chunk)
fills place chunk =
    (step (fill_of place chunk) (by_cache caches.filled) ∷ [], asks (fill_of place chunk) (by_cache caches.filled) (after_fill place chunk) [] (with_chunk chunk) tt (refl, refl))

puts : (place : LoadPlace) (chunk : List ℕ) (stripes : List Stripe) → Completion (Puts place chunk stripes) (with_chunk chunk)
puts place chunk [] = fills place chunk
puts place chunk (s ∷ more) =
    let c = puts place chunk more in
    (step (put_of place s) (by_node nodes.kept) ∷ c.0, asks (put_of place s) (by_node nodes.kept) (λ _. Puts place chunk more) c.0 (with_chunk chunk) tt c.1)

gives_instead : (place : LoadPlace) (held : List Stripe) → Completion (Rebuilds place held) with_memory
gives_instead place held = (step (give_up_of place) (by_cache caches.given) ∷ [], inr (inr (gives place with_memory)))

chooses : (b : Bool) (p q : Walks Step Ending) (ending : Ending) → Completion p ending → Completion q ending → Completion (Choose b p q) ending
chooses true p q ending c d = c
chooses false p q ending c d = d

gets : (place : LoadPlace) (left : ℕ) (held : List Stripe) → Completion (Gets place left held) with_memory
gets place zero held = gives_instead place held
gets place (suc left) held =
    let c = chooses (is_enough held) (Rebuilds place held) (Gets place left held) with_memory (gives_instead place held) (gets place left held) in (
      step (get_of place (4 - left)) (by_node nodes.memory) ∷ c.0,
      asks (get_of place (4 - left)) (by_node nodes.memory) (λ told. Choose (is_enough (held_after place (4 - left) told held)) (Rebuilds place (held_after place (4 - left) told held)) (Gets place left (held_after place (4 - left) told held)))
          c.0 with_memory tt c.1,
    )

-- an ending that may come from a need
abbrev pub end_from : Need → Ending
end_from (putting chunk stripe more) = with_chunk chunk
end_from (filling chunk) = with_chunk chunk
end_from (giving end) = end
end_from (ended end) = end
end_from need = with_memory

well_from : (need : Need) → GoesWell need → EndsWell (end_from need)
well_from (giving end) w = w
well_from (ended end) w = w
well_from need w = tt

completes : (place : LoadPlace) (need : Need) → Completion (Rest place need) (end_from need)
completes place looking =
    (step (look_of place) (by_cache caches.memory) ∷ [], asks (look_of place) (by_cache caches.memory) (after_look place) [] with_memory tt (refl, refl))
completes place (asking left held) = gets place (suc left) held
completes place fetching = (
  step (fetch_of place) (by_depot depots.memory) ∷ step (give_up_of place) (by_cache caches.given) ∷ [],
  asks (fetch_of place) (by_depot depots.memory) (after_fetch place) (step (give_up_of place) (by_cache caches.given) ∷ []) with_memory tt (gives place with_memory),
)
completes place (putting chunk stripe more) = puts place chunk (stripe ∷ more)
completes place (filling chunk) = fills place chunk
completes place (giving end) = (step (give_up_of place) (by_cache caches.given) ∷ [], gives place end)
completes place (ended end) = ([], (refl, refl))

-- ---- and after each reply

-- after the reply a load can end, and well
abbrev pub CanGo : LoadPlace → Need → Reply → Type 0
CanGo place need reply = (tail : List Step) × (ending : Ending) × EndsWell ending × Rest place need (before (asked place need) reply tail) ending

goes_to : (place : LoadPlace) (need : Need) (reply : Reply) (got : List ℕ) (new : Need) → IsTold reply got → Admits place need reply → Next place need reply got new → GoesWell new
    → CanGo place need reply
goes_to place need reply got new told a n w =
    let c = completes place new in (c.0, end_from new, well_from new w, goes_on place need reply got new told a n c.0 (end_from new) c.1)

some_chosen : (place : LoadPlace) (left : ℕ) (held : List Stripe) (b : Bool) → (new : Need) × MatchBool b (Rebuilt place held new) (new ≡ asking left held) × GoesWell new
some_chosen place left held true = (giving with_memory, inr (inr refl), tt)
some_chosen place left held false = (asking left held, refl, tt)

some_get : (place : LoadPlace) (left : ℕ) (held : List Stripe) → (new : Need) × AfterGet place left held new × GoesWell new
some_get place zero held = (giving with_memory, inr (inr refl), tt)
some_get place (suc left) held = some_chosen place left held (is_enough held)

pub can_go : (place : LoadPlace) (need : Need) (reply : Reply) → Admits place need reply → HasLease reply → GoesWell need → CanGo place need reply
can_go place looking (by_cache (caches.hit chunk)) a l w = goes_to place looking (by_cache (caches.hit chunk)) [] (ended (with_chunk chunk)) tt a refl tt
can_go place looking (by_cache caches.lead) a l w = goes_to place looking (by_cache caches.lead) [] (giving with_memory) tt a (inr refl) tt
can_go place looking (by_cache caches.memory) a l w = goes_to place looking (by_cache caches.memory) [] (ended with_memory) tt a refl tt
can_go place looking (by_cache (caches.busy holder)) a l w = goes_to place looking (by_cache (caches.busy holder)) [] looking tt a refl tt
can_go place looking (by_cache caches.held) a l w = absurd a.claim
can_go place looking reply a l w = absurd a.answers
can_go place (asking left held) (by_node reply) a l w =
    let n = some_get place left (held_after place (4 - left) (by_node reply) held) in goes_to place (asking left held) (by_node reply) [] n.0 tt a n.1 n.2
can_go place (asking left held) reply a l w = absurd a.answers
can_go place fetching (by_depot (depots.fetched name)) a l w = (
  step (give_up_of place) (by_cache caches.given) ∷ [],
  with_memory,
  tt,
  asks (fetch_of place) (by_depot (depots.fetched name)) (after_fetch place) (step (give_up_of place) (by_cache caches.given) ∷ []) with_memory a.answers (inr (gives place with_memory)),
)
can_go place fetching (by_depot depots.memory) a l w = goes_to place fetching (by_depot depots.memory) [] (giving with_memory) tt a refl tt
can_go place fetching (by_depot (depots.fault key)) a l w = goes_to place fetching (by_depot (depots.fault key)) [] (giving (with_reply (depots.fault key))) tt a refl tt
can_go place fetching (by_depot (depots.spoiled key)) a l w = goes_to place fetching (by_depot (depots.spoiled key)) [] (giving (with_reply (depots.spoiled key))) tt a refl tt
can_go place fetching (by_depot depots.no_lease) a l w = absurd l
can_go place fetching (by_depot depots.no_chunk) a l w = absurd l
can_go place fetching reply a l w = absurd a.answers
can_go place (putting chunk stripe []) (by_node reply) a l w = goes_to place (putting chunk stripe []) (by_node reply) [] (filling chunk) tt a refl tt
can_go place (putting chunk stripe (following ∷ more)) (by_node reply) a l w =
    goes_to place (putting chunk stripe (following ∷ more)) (by_node reply) [] (putting chunk following more) tt a refl tt
can_go place (putting chunk stripe more) reply a l w = absurd a.answers
can_go place (filling chunk) (by_cache caches.filled) a l w = goes_to place (filling chunk) (by_cache caches.filled) [] (ended (with_chunk chunk)) tt a refl tt
can_go place (filling chunk) (by_cache caches.memory) a l w = goes_to place (filling chunk) (by_cache caches.memory) [] (giving (with_chunk chunk)) tt a refl tt
can_go place (filling chunk) (by_cache caches.no_claim) a l w = absurd a.claim
can_go place (filling chunk) reply a l w = absurd a.answers
can_go place (giving end) (by_cache caches.given) a l w = goes_to place (giving end) (by_cache caches.given) [] (ended end) tt a refl w
can_go place (giving end) (by_cache caches.no_claim) a l w = absurd a.claim
can_go place (giving end) (by_cache caches.memory) a l w = absurd a.claim
can_go place (giving end) reply a l w = absurd a.answers
can_go place (ended end) reply a l w = absurd a.answers

-- ---- a load goes on well

well_at : (new wanted : Need) → new ≡ wanted → GoesWell wanted → GoesWell new
well_at new wanted e w = subst GoesWell (sym e) w

rebuilt_well : (place : LoadPlace) (held : List Stripe) (new : Need) → Rebuilt place held new → GoesWell new
rebuilt_well place held new (inl n) = well_at new (filling n.0) n.3 tt
rebuilt_well place held new (inr (inl n)) = well_at new fetching n.1 tt
rebuilt_well place held new (inr (inr n)) = well_at new (giving with_memory) n tt

chosen_well : (place : LoadPlace) (left : ℕ) (held : List Stripe) (new : Need) (b : Bool) → MatchBool b (Rebuilt place held new) (new ≡ asking left held) → GoesWell new
chosen_well place left held new true n = rebuilt_well place held new n
chosen_well place left held new false n = well_at new (asking left held) n tt

get_well : (place : LoadPlace) (left : ℕ) (held : List Stripe) (new : Need) → AfterGet place left held new → GoesWell new
get_well place zero held new n = rebuilt_well place held new n
get_well place (suc left) held new n = chosen_well place left held new (is_enough held) n

pub goes_well : (place : LoadPlace) (need : Need) (reply : Reply) (got : List ℕ) (new : Need) → Admits place need reply → HasLease reply → GoesWell need → Next place need reply got new
    → GoesWell new
goes_well place looking (by_cache (caches.hit chunk)) got new a l w n = well_at new (ended (with_chunk chunk)) n tt
goes_well place looking (by_cache caches.lead) got new a l w (inl n) = well_at new (asking 4 []) n tt
goes_well place looking (by_cache caches.lead) got new a l w (inr n) = well_at new (giving with_memory) n tt
goes_well place looking (by_cache caches.memory) got new a l w n = well_at new (ended with_memory) n tt
goes_well place looking (by_cache (caches.busy holder)) got new a l w n = well_at new looking n tt
goes_well place looking (by_cache caches.held) got new a l w n = absurd a.claim
goes_well place looking reply got new a l w n = absurd a.answers
goes_well place (asking left held) reply got new a l w n = get_well place left (held_after place (4 - left) reply held) new n
goes_well place fetching (by_depot (depots.fetched name)) got new a l w (inl n) = well_at new (putting got n.0 n.1) n.3 tt
goes_well place fetching (by_depot (depots.fetched name)) got new a l w (inr n) = well_at new (giving with_memory) n tt
goes_well place fetching (by_depot depots.memory) got new a l w n = well_at new (giving with_memory) n tt
goes_well place fetching (by_depot (depots.fault key)) got new a l w n = well_at new (giving (with_reply (depots.fault key))) n tt
goes_well place fetching (by_depot (depots.spoiled key)) got new a l w n = well_at new (giving (with_reply (depots.spoiled key))) n tt
goes_well place fetching (by_depot depots.no_lease) got new a l w n = absurd l
goes_well place fetching (by_depot depots.no_chunk) got new a l w n = absurd l
goes_well place fetching reply got new a l w n = absurd a.answers
goes_well place (putting chunk stripe []) reply got new a l w n = well_at new (filling chunk) n tt
goes_well place (putting chunk stripe (following ∷ more)) reply got new a l w n = well_at new (putting chunk following more) n tt
goes_well place (filling chunk) (by_cache caches.filled) got new a l w n = well_at new (ended (with_chunk chunk)) n tt
goes_well place (filling chunk) reply got new a l w n = well_at new (giving (with_chunk chunk)) n tt
goes_well place (giving end) reply got new a l w n = well_at new (ended end) n w
goes_well place (ended end) reply got new a l w n = absurd n

-- ---- a load whose call is prepared, and one that ended

pub under_way : (place : LoadPlace) (need : Need) → IsLoadCall (asked place need) → IsUnderWay need
under_way place (ended end) c = absurd c
under_way place need c = tt

pub ended_at : (place : LoadPlace) (need : Need) (end : Ending) → asked place need ≡ an_end end → need ≡ ended end
ended_at place (ended last) end e = cc
ended_at place looking end e = cc
ended_at place (asking left held) end e = cc
ended_at place fetching end e = cc
ended_at place (putting chunk stripe more) end e = cc
ended_at place (filling chunk) end e = cc
ended_at place (giving last) end e = cc

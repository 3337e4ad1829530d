-- a load's steps: with each one the walk goes on
use Rattle.std.proofs.Common.{◌≡◌, ◌⊎◌, inl, inr, ℕ, zero, suc, ◌+◌, ◌-◌, ◌≤◌, List, [], ◌∷◌, ◌++◌, length, Bool, true, false, MatchBool, arith, refl, sym, ap, subst, append-nil}
use Rattle.std.proofs.lemmas.List.{append_assoc}
use Rattle.std.specs.List.{AllZip}
use Rattle.sha2.specs.Sha256.{sha256}
use Rattle.lr_stripe.specs.declared.stripe.Stripe.{Stripe}
use Rattle.lr_walk.specs.declared.place.LoadPlace.{LoadPlace}
use Rattle.lr_walk.specs.Walk.{Walks, Choose}
use Rattle.lr_walk.specs.Steps.{Call, on_cache, Reply, by_cache, by_node, by_depot, Step, step, Answers, Asks}
use Rattle.lr_walk.specs.Stripes.{AreStripesOf, IsStripeOf}
use Rattle.lr_walk.specs.Load.{Ending, with_chunk, with_reply, with_memory, look_of, get_of, fetch_of, put_of, fill_of, give_up_of, after_give_up, after_fill, after_fetch, after_look, Gives, Fills, Puts, Fetches, Rebuilds, held_after, is_enough, Gets, Loads}
use Rattle.lr_walk.specs.Depot as depots
use Rattle.lr_walk.specs.Cache as caches
use Rattle.lr_walk.specs.Node as nodes
use Rattle.lr_walk.proofs.Stands.{made_front, made_walk}
use Rattle.lr_loader.specs.declared.action.LoadReply.{LoadReply}
use Rattle.lr_loader.specs.declared.action.LoadReply.TheVariants as by
use Rattle.lr_depot.specs.declared.call.DepotReply.TheVariants as depot
use Rattle.lr_loader.specs.Seen.{seen_reply, fetched_chunk}
use Rattle.lr_loader.specs.Progress.{Need, looking, asking, fetching, putting, filling, giving, ended, Progress, Rest, StandsFor, IsFront, Asked, a_call, an_end, asked, Admits, IsShort, Rebuilt, AfterGet, Next, with_step, steps_left, Nears}

-- the step asked, before the rest
abbrev pub before : Asked → Reply → List Step → List Step
before a (by_cache (caches.busy holder)) tail = tail
before (a_call call) reply tail = step call reply ∷ tail
before (an_end end) reply tail = tail

-- what comes after a step may come, with the step before it, before the step
abbrev pub Goes : LoadPlace → Need → Reply → Need → Type 0
Goes place need reply new = (tail : List Step) (ending : Ending) → Rest place new tail ending → Rest place need (before (asked place need) reply tail) ending

-- the chunk that was fetched has the name told
abbrev pub IsTold : Reply → List ℕ → Type 0
IsTold (by_depot (depots.fetched name)) got = sha256 got ≡ name
IsTold reply got = Unit {0}

is_told : (reply : LoadReply) → IsTold (seen_reply reply) (fetched_chunk reply)
is_told (by.Depot (depot.Fetched chunk)) = refl
is_told (by.Depot reply) = tt
is_told (by.Cache reply) = tt
is_told (by.Node reply) = tt

asks : {E : Type 0} (call : Call) (reply : Reply) (after : Reply → Walks Step E) (tail : List Step) (ending : E) → Answers call reply → after reply tail ending
    → Asks call after (step call reply ∷ tail) ending
asks call reply after tail ending a r = (reply, step call reply, tail, refl, (refl, a), r)

needs : (place : LoadPlace) (new wanted : Need) → new ≡ wanted → (tail : List Step) (ending : Ending) → Rest place new tail ending → Rest place wanted tail ending
needs place new wanted e tail ending r = subst (λ (q : Need). Rest place q tail ending) e r

rebuilds : (place : LoadPlace) (held : List Stripe) (new : Need) → Rebuilt place held new → (tail : List Step) (ending : Ending) → Rest place new tail ending → Rebuilds place held tail ending
rebuilds place held new (inl n) tail ending r = inl (n.0, n.1, n.2, needs place new (filling n.0) n.3 tail ending r)
rebuilds place held new (inr (inl n)) tail ending r = inr (inl (n.0, needs place new fetching n.1 tail ending r))
rebuilds place held new (inr (inr n)) tail ending r = inr (inr (needs place new (giving with_memory) n tail ending r))

chosen_both : (b : Bool) (p : Walks Step Ending) (tail : List Step) (ending : Ending) → p tail ending → Choose b p p tail ending
chosen_both true p tail ending r = r
chosen_both false p tail ending r = r

chosen : (place : LoadPlace) (left : ℕ) (held : List Stripe) (new : Need) (b : Bool) → MatchBool b (Rebuilt place held new) (new ≡ asking left held)
    → (tail : List Step) (ending : Ending) → Rest place new tail ending → Choose b (Rebuilds place held) (Gets place (suc left) held) tail ending
chosen place left held new true n tail ending r = rebuilds place held new n tail ending r
chosen place left held new false n tail ending r = needs place new (asking left held) n tail ending r

after_get : (place : LoadPlace) (left : ℕ) (held : List Stripe) (new : Need) → AfterGet place left held new → (tail : List Step) (ending : Ending) → Rest place new tail ending
    → Choose (is_enough held) (Rebuilds place held) (Gets place left held) tail ending
after_get place zero held new n tail ending r = chosen_both (is_enough held) (Rebuilds place held) tail ending (rebuilds place held new n tail ending r)
after_get place (suc left) held new n tail ending r = chosen place left held new (is_enough held) n tail ending r

looks_on : (place : LoadPlace) (reply : Reply) (got : List ℕ) (new : Need) → Admits place looking reply → Next place looking reply got new → Goes place looking reply new
looks_on place (by_cache (caches.hit chunk)) got new a n tail ending r =
    asks (look_of place) (by_cache (caches.hit chunk)) (after_look place) tail ending a.answers (needs place new (ended (with_chunk chunk)) n tail ending r)
looks_on place (by_cache caches.lead) got new a (inl n) tail ending r =
    asks (look_of place) (by_cache caches.lead) (after_look place) tail ending a.answers (inl (needs place new (asking 4 []) n tail ending r))
looks_on place (by_cache caches.lead) got new a (inr n) tail ending r =
    asks (look_of place) (by_cache caches.lead) (after_look place) tail ending a.answers (inr (needs place new (giving with_memory) n tail ending r))
looks_on place (by_cache caches.memory) got new a n tail ending r =
    asks (look_of place) (by_cache caches.memory) (after_look place) tail ending a.answers (needs place new (ended with_memory) n tail ending r)
looks_on place (by_cache (caches.busy holder)) got new a n tail ending r = needs place new looking n tail ending r
looks_on place (by_cache caches.held) got new a n tail ending r = absurd a.claim
looks_on place reply got new a n tail ending r = absurd a.answers

asks_on : (place : LoadPlace) (left : ℕ) (held : List Stripe) (reply : Reply) (got : List ℕ) (new : Need) → Admits place (asking left held) reply
    → Next place (asking left held) reply got new → Goes place (asking left held) reply new
asks_on place left held (by_node reply) got new a n tail ending r =
    asks (get_of place (4 - left)) (by_node reply) (λ told. Choose (is_enough (held_after place (4 - left) told held)) (Rebuilds place (held_after place (4 - left) told held)) (Gets place left (held_after place (4 - left) told held)))
    tail ending a.answers (after_get place left (held_after place (4 - left) (by_node reply) held) new n tail ending r)
asks_on place left held reply got new a n tail ending r = absurd a.answers

fetches_on : (place : LoadPlace) (reply : Reply) (got : List ℕ) (new : Need) → IsTold reply got → Admits place fetching reply → Next place fetching reply got new
    → Goes place fetching reply new
fetches_on place (by_depot (depots.fetched name)) got new told a (inl n) tail ending r =
    asks (fetch_of place) (by_depot (depots.fetched name)) (after_fetch place) tail ending a.answers
    (inl (got, n.0 ∷ n.1, a.named, told, n.2, needs place new (putting got n.0 n.1) n.3 tail ending r))
fetches_on place (by_depot (depots.fetched name)) got new told a (inr n) tail ending r =
    asks (fetch_of place) (by_depot (depots.fetched name)) (after_fetch place) tail ending a.answers (inr (needs place new (giving with_memory) n tail ending r))
fetches_on place (by_depot depots.memory) got new told a n tail ending r =
    asks (fetch_of place) (by_depot depots.memory) (after_fetch place) tail ending a.answers (needs place new (giving with_memory) n tail ending r)
fetches_on place (by_depot reply) got new told a n tail ending r =
    asks (fetch_of place) (by_depot reply) (after_fetch place) tail ending a.answers (needs place new (giving (with_reply reply)) n tail ending r)
fetches_on place reply got new told a n tail ending r = absurd a.answers

puts_on : (place : LoadPlace) (chunk : List ℕ) (stripe : Stripe) (more : List Stripe) (reply : Reply) (got : List ℕ) (new : Need)
    → Admits place (putting chunk stripe more) reply → Next place (putting chunk stripe more) reply got new → Goes place (putting chunk stripe more) reply new
puts_on place chunk stripe [] (by_node reply) got new a n tail ending r =
    asks (put_of place stripe) (by_node reply) (λ _. Puts place chunk []) tail ending a.answers (needs place new (filling chunk) n tail ending r)
puts_on place chunk stripe (following ∷ more) (by_node reply) got new a n tail ending r =
    asks (put_of place stripe) (by_node reply) (λ _. Puts place chunk (following ∷ more)) tail ending a.answers (needs place new (putting chunk following more) n tail ending r)
puts_on place chunk stripe more reply got new a n tail ending r = absurd a.answers

fills_on : (place : LoadPlace) (chunk : List ℕ) (reply : Reply) (got : List ℕ) (new : Need) → Admits place (filling chunk) reply → Next place (filling chunk) reply got new
    → Goes place (filling chunk) reply new
fills_on place chunk (by_cache caches.filled) got new a n tail ending r =
    asks (fill_of place chunk) (by_cache caches.filled) (after_fill place chunk) tail ending a.answers (needs place new (ended (with_chunk chunk)) n tail ending r)
fills_on place chunk (by_cache caches.memory) got new a n tail ending r =
    asks (fill_of place chunk) (by_cache caches.memory) (after_fill place chunk) tail ending a.answers (needs place new (giving (with_chunk chunk)) n tail ending r)
fills_on place chunk (by_cache caches.no_claim) got new a n tail ending r = absurd a.claim
fills_on place chunk reply got new a n tail ending r = absurd a.answers

gives_on : (place : LoadPlace) (end : Ending) (reply : Reply) (got : List ℕ) (new : Need) → Admits place (giving end) reply → Next place (giving end) reply got new
    → Goes place (giving end) reply new
gives_on place end (by_cache caches.given) got new a n tail ending r =
    asks (give_up_of place) (by_cache caches.given) (after_give_up end) tail ending a.answers (needs place new (ended end) n tail ending r)
gives_on place end (by_cache caches.no_claim) got new a n tail ending r = absurd a.claim
gives_on place end (by_cache caches.memory) got new a n tail ending r = absurd a.claim
gives_on place end reply got new a n tail ending r = absurd a.answers

pub goes_on : (place : LoadPlace) (need : Need) (reply : Reply) (got : List ℕ) (new : Need) → IsTold reply got → Admits place need reply → Next place need reply got new
    → Goes place need reply new
goes_on place looking reply got new told a n = looks_on place reply got new a n
goes_on place (asking left held) reply got new told a n = asks_on place left held reply got new a n
goes_on place fetching reply got new told a n = fetches_on place reply got new told a n
goes_on place (putting chunk stripe more) reply got new told a n = puts_on place chunk stripe more reply got new a n
goes_on place (filling chunk) reply got new told a n = fills_on place chunk reply got new a n
goes_on place (giving end) reply got new told a n = gives_on place end reply got new a n
goes_on place (ended end) reply got new told a n = absurd n

-- the steps with one more
step_before : (steps : List Step) (a : Asked) (reply : Reply) (tail : List Step) → with_step steps a reply ++ tail ≡ steps ++ before a reply tail
step_before steps a (by_cache (caches.busy holder)) tail = refl
step_before steps (a_call call) reply tail = append_assoc steps (step call reply ∷ []) tail
step_before steps (an_end end) reply tail = refl

stands_more : (old new : Progress) (reply : Reply) (got : List ℕ) (steps : List Step) → IsTold reply got → new.place ≡ old.place → Admits old.place old.need reply
    → Next old.place old.need reply got new.need → StandsFor old steps → StandsFor new (with_step steps (asked old.place old.need) reply)
stands_more old new reply got steps told p a n stands = λ tail ending r.
    subst (λ (q : LoadPlace). Loads q (with_step steps (asked old.place old.need) reply ++ tail) ending) (sym p)
    (subst (λ (l : List Step). Loads old.place l ending) (sym (step_before steps (asked old.place old.need) reply tail))
    (stands (before (asked old.place old.need) reply tail) ending (goes_on old.place old.need reply got new.need told a n tail ending (subst (λ (q : LoadPlace). Rest q new.need tail ending) p r))))

-- the same, of the program's reply
pub takes_more : (old new : Progress) (reply : LoadReply) (steps : List Step) → new.place ≡ old.place → Admits old.place old.need (seen_reply reply)
    → Next old.place old.need (seen_reply reply) (fetched_chunk reply) new.need → StandsFor old steps → StandsFor new (with_step steps (asked old.place old.need) (seen_reply reply))
takes_more old new reply steps p a n stands = stands_more old new (seen_reply reply) (fetched_chunk reply) steps (is_told reply) p a n stands

-- ---- from each need the walk can be ended

gives : (place : LoadPlace) (end : Ending) → Gives place end (step (give_up_of place) (by_cache caches.given) ∷ []) end
gives place end = asks (give_up_of place) (by_cache caches.given) (after_give_up end) [] end tt (refl, refl)

abbrev pub Completion : Walks Step Ending → Type 0
Completion p = (tail : List Step) × (ending : Ending) × p tail ending

fills : (place : LoadPlace) (chunk : List ℕ) → Completion (Fills place chunk)
fills place chunk =
    (step (fill_of place chunk) (by_cache caches.filled) ∷ [], with_chunk chunk, asks (fill_of place chunk) (by_cache caches.filled) (after_fill place chunk) [] (with_chunk chunk) tt (refl, refl))

puts : (place : LoadPlace) (chunk : List ℕ) (stripes : List Stripe) → Completion (Puts place chunk stripes)
puts place chunk [] = fills place chunk
puts place chunk (s ∷ more) =
    let c = puts place chunk more in
    (step (put_of place s) (by_node nodes.kept) ∷ c.0, c.1, asks (put_of place s) (by_node nodes.kept) (λ _. Puts place chunk more) c.0 c.1 tt c.2)

gives_instead : (place : LoadPlace) (held : List Stripe) → Completion (Rebuilds place held)
gives_instead place held = (step (give_up_of place) (by_cache caches.given) ∷ [], with_memory, inr (inr (gives place with_memory)))

chooses : (b : Bool) (p q : Walks Step Ending) → Completion p → Completion q → Completion (Choose b p q)
chooses true p q c d = c
chooses false p q c d = d

gets : (place : LoadPlace) (left : ℕ) (held : List Stripe) → Completion (Gets place left held)
gets place zero held = gives_instead place held
gets place (suc left) held =
    let c = chooses (is_enough held) (Rebuilds place held) (Gets place left held) (gives_instead place held) (gets place left held) in (
      step (get_of place (4 - left)) (by_node nodes.memory) ∷ c.0,
      c.1,
      asks (get_of place (4 - left)) (by_node nodes.memory) (λ told. Choose (is_enough (held_after place (4 - left) told held)) (Rebuilds place (held_after place (4 - left) told held)) (Gets place left (held_after place (4 - left) told held)))
          c.0 c.1 tt c.2,
    )

completes : (place : LoadPlace) (need : Need) → Completion (Rest place need)
completes place looking =
    (step (look_of place) (by_cache caches.memory) ∷ [], with_memory, asks (look_of place) (by_cache caches.memory) (after_look place) [] with_memory tt (refl, refl))
completes place (asking left held) = gets place (suc left) held
completes place fetching = (
  step (fetch_of place) (by_depot depots.memory) ∷ step (give_up_of place) (by_cache caches.given) ∷ [],
  with_memory,
  asks (fetch_of place) (by_depot depots.memory) (after_fetch place) (step (give_up_of place) (by_cache caches.given) ∷ []) with_memory tt (gives place with_memory),
)
completes place (putting chunk stripe more) = puts place chunk (stripe ∷ more)
completes place (filling chunk) = fills place chunk
completes place (giving end) = (step (give_up_of place) (by_cache caches.given) ∷ [], end, gives place end)
completes place (ended end) = ([], end, (refl, refl))

-- ---- and after each step

abbrev pub CanGo : LoadPlace → Need → Reply → Type 0
CanGo place need reply = (tail : List Step) × (ending : Ending) × Rest place need (before (asked place need) reply tail) ending

goes_to : (place : LoadPlace) (need : Need) (reply : Reply) (got : List ℕ) (new : Need) → IsTold reply got → Admits place need reply → Next place need reply got new
    → CanGo place need reply
goes_to place need reply got new told a n = let c = completes place new in (c.0, c.1, goes_on place need reply got new told a n c.0 c.1 c.2)

some_chosen : (place : LoadPlace) (left : ℕ) (held : List Stripe) (b : Bool) → (new : Need) × MatchBool b (Rebuilt place held new) (new ≡ asking left held)
some_chosen place left held true = (giving with_memory, inr (inr refl))
some_chosen place left held false = (asking left held, refl)

some_get : (place : LoadPlace) (left : ℕ) (held : List Stripe) → (new : Need) × AfterGet place left held new
some_get place zero held = (giving with_memory, inr (inr refl))
some_get place (suc left) held = some_chosen place left held (is_enough held)

can_go : (place : LoadPlace) (need : Need) (reply : Reply) → Admits place need reply → CanGo place need reply
can_go place looking (by_cache (caches.hit chunk)) a = goes_to place looking (by_cache (caches.hit chunk)) [] (ended (with_chunk chunk)) tt a refl
can_go place looking (by_cache caches.lead) a = goes_to place looking (by_cache caches.lead) [] (giving with_memory) tt a (inr refl)
can_go place looking (by_cache caches.memory) a = goes_to place looking (by_cache caches.memory) [] (ended with_memory) tt a refl
can_go place looking (by_cache (caches.busy holder)) a = goes_to place looking (by_cache (caches.busy holder)) [] looking tt a refl
can_go place looking (by_cache caches.held) a = absurd a.claim
can_go place looking reply a = absurd a.answers
can_go place (asking left held) (by_node reply) a =
    let n = some_get place left (held_after place (4 - left) (by_node reply) held) in goes_to place (asking left held) (by_node reply) [] n.0 tt a n.1
can_go place (asking left held) reply a = absurd a.answers
can_go place fetching (by_depot (depots.fetched name)) a = (
  step (give_up_of place) (by_cache caches.given) ∷ [],
  with_memory,
  asks (fetch_of place) (by_depot (depots.fetched name)) (after_fetch place) (step (give_up_of place) (by_cache caches.given) ∷ []) with_memory a.answers (inr (gives place with_memory)),
)
can_go place fetching (by_depot depots.memory) a = goes_to place fetching (by_depot depots.memory) [] (giving with_memory) tt a refl
can_go place fetching (by_depot reply) a = goes_to place fetching (by_depot reply) [] (giving (with_reply reply)) tt a refl
can_go place fetching reply a = absurd a.answers
can_go place (putting chunk stripe []) (by_node reply) a = goes_to place (putting chunk stripe []) (by_node reply) [] (filling chunk) tt a refl
can_go place (putting chunk stripe (following ∷ more)) (by_node reply) a =
    goes_to place (putting chunk stripe (following ∷ more)) (by_node reply) [] (putting chunk following more) tt a refl
can_go place (putting chunk stripe more) reply a = absurd a.answers
can_go place (filling chunk) (by_cache caches.filled) a = goes_to place (filling chunk) (by_cache caches.filled) [] (ended (with_chunk chunk)) tt a refl
can_go place (filling chunk) (by_cache caches.memory) a = goes_to place (filling chunk) (by_cache caches.memory) [] (giving (with_chunk chunk)) tt a refl
can_go place (filling chunk) (by_cache caches.no_claim) a = absurd a.claim
can_go place (filling chunk) reply a = absurd a.answers
can_go place (giving end) (by_cache caches.given) a = goes_to place (giving end) (by_cache caches.given) [] (ended end) tt a refl
can_go place (giving end) (by_cache caches.no_claim) a = absurd a.claim
can_go place (giving end) (by_cache caches.memory) a = absurd a.claim
can_go place (giving end) reply a = absurd a.answers
can_go place (ended end) reply a = absurd a.answers

-- what a load stands for, with the call asked and a reply to it, is a walk or the front of one
pub is_front : (p : Progress) (steps : List Step) (reply : Reply) → Admits p.place p.need reply → StandsFor p steps → IsFront p.place (with_step steps (asked p.place p.need) reply)
is_front p steps reply a stands =
    let c = can_go p.place p.need reply a in
    (c.0, c.1, subst (λ (l : List Step). Loads p.place l c.1) (sym (step_before steps (asked p.place p.need) reply c.0)) (stands (before (asked p.place p.need) reply c.0) c.1 c.2))

-- ---- what an ended load stands for

asked_end : (place : LoadPlace) (need : Need) (end : Ending) → asked place need ≡ an_end end → need ≡ ended end
asked_end place (ended last) end e = cc
asked_end place looking end e = cc
asked_end place (asking left held) end e = cc
asked_end place fetching end e = cc
asked_end place (putting chunk stripe more) end e = cc
asked_end place (filling chunk) end e = cc
asked_end place (giving last) end e = cc

pub is_walk : (p : Progress) (steps : List Step) (end : Ending) → asked p.place p.need ≡ an_end end → StandsFor p steps → Loads p.place steps end
is_walk p steps end e stands =
    made_walk (Loads p.place) (Rest p.place) p.need end (subst (λ (q : Need). Rest p.place q [] end) (sym (asked_end p.place p.need end e)) (refl, refl)) steps stands

-- ---- each step but Busy brings the load nearer to its end

length_zip : {A B : Type 0} (R : A → B → Type 0) (xs : List A) (ys : List B) → AllZip R xs ys → length ys ≡ length xs
length_zip R [] [] h = refl
length_zip R [] (y ∷ ys) h = absurd h
length_zip R (x ∷ xs) [] h = absurd h
length_zip R (x ∷ xs) (y ∷ ys) h = ap suc (length_zip R xs ys h.1)

left_at : (new wanted : Need) (n : ℕ) → new ≡ wanted → steps_left wanted ≤ n → steps_left new ≤ n
left_at new wanted n e h = subst (λ (q : Need). steps_left q ≤ n) (sym e) h

rebuilt_left : (place : LoadPlace) (held : List Stripe) (new : Need) → Rebuilt place held new → steps_left new ≤ 8
rebuilt_left place held new (inl n) = left_at new (filling n.0) 8 n.3 (omega arith)
rebuilt_left place held new (inr (inl n)) = left_at new fetching 8 n.1 (omega arith)
rebuilt_left place held new (inr (inr n)) = left_at new (giving with_memory) 8 n (omega arith)

chosen_left : (place : LoadPlace) (left : ℕ) (held : List Stripe) (new : Need) (b : Bool) → MatchBool b (Rebuilt place held new) (new ≡ asking left held) → steps_left new ≤ left + 9
chosen_left place left held new true n = let h = rebuilt_left place held new n in omega arith
chosen_left place left held new false n = left_at new (asking left held) (left + 9) n (omega arith)

get_left : (place : LoadPlace) (left : ℕ) (held : List Stripe) (new : Need) → AfterGet place left held new → steps_left new + 1 ≤ left + 9
get_left place zero held new n = let h = rebuilt_left place held new n in omega arith
get_left place (suc left) held new n = let h = chosen_left place left held new (is_enough held) n in omega arith

nears_at : (new wanted : Need) (n : ℕ) → new ≡ wanted → steps_left wanted + 1 ≤ n → steps_left new + 1 ≤ n
nears_at new wanted n e h = subst (λ (q : Need). steps_left q + 1 ≤ n) (sym e) h

first_left : (got : List ℕ) (stripe : Stripe) (more : List Stripe) → AreStripesOf got (stripe ∷ more) → length more ≡ 4
first_left got stripe more are = length_zip (IsStripeOf got) (1 ∷ 2 ∷ 3 ∷ 4 ∷ []) more are.1

pub nears : (place : LoadPlace) (need : Need) (reply : Reply) (got : List ℕ) (new : Need) → Admits place need reply → Next place need reply got new → Nears reply need new
nears place looking (by_cache (caches.hit chunk)) got new a n = nears_at new (ended (with_chunk chunk)) 14 n (omega arith)
nears place looking (by_cache caches.lead) got new a (inl n) = nears_at new (asking 4 []) 14 n (omega arith)
nears place looking (by_cache caches.lead) got new a (inr n) = nears_at new (giving with_memory) 14 n (omega arith)
nears place looking (by_cache caches.memory) got new a n = nears_at new (ended with_memory) 14 n (omega arith)
nears place looking (by_cache (caches.busy holder)) got new a n = left_at new looking 14 n (omega arith)
nears place looking (by_cache caches.held) got new a n = absurd a.claim
nears place looking reply got new a n = absurd a.answers
nears place (asking left held) (by_node reply) got new a n = get_left place left (held_after place (4 - left) (by_node reply) held) new n
nears place (asking left held) reply got new a n = absurd a.answers
nears place fetching (by_depot (depots.fetched name)) got new a (inl n) =
    let e = first_left got n.0 n.1 n.2 in nears_at new (putting got n.0 n.1) 8 n.3 (omega arith)
nears place fetching (by_depot (depots.fetched name)) got new a (inr n) = nears_at new (giving with_memory) 8 n (omega arith)
nears place fetching (by_depot depots.memory) got new a n = nears_at new (giving with_memory) 8 n (omega arith)
nears place fetching (by_depot reply) got new a n = nears_at new (giving (with_reply reply)) 8 n (omega arith)
nears place fetching reply got new a n = absurd a.answers
nears place (putting chunk stripe []) (by_node reply) got new a n = nears_at new (filling chunk) 3 n (omega arith)
nears place (putting chunk stripe (following ∷ more)) (by_node reply) got new a n =
    nears_at new (putting chunk following more) (length (following ∷ more) + 3) n (omega arith)
nears place (putting chunk stripe more) reply got new a n = absurd a.answers
nears place (filling chunk) (by_cache caches.filled) got new a n = nears_at new (ended (with_chunk chunk)) 2 n (omega arith)
nears place (filling chunk) (by_cache caches.memory) got new a n = nears_at new (giving (with_chunk chunk)) 2 n (omega arith)
nears place (filling chunk) (by_cache caches.no_claim) got new a n = absurd a.claim
nears place (filling chunk) reply got new a n = absurd a.answers
nears place (giving end) (by_cache caches.given) got new a n = nears_at new (ended end) 1 n (omega arith)
nears place (giving end) (by_cache caches.no_claim) got new a n = absurd a.claim
nears place (giving end) (by_cache caches.memory) got new a n = absurd a.claim
nears place (giving end) reply got new a n = absurd a.answers
nears place (ended end) reply got new a n = absurd n

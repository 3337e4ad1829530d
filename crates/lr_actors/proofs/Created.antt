-- a creation as a job: with each step the walk goes on
use Rattle.std.proofs.Common.{◌≡◌, inl, inr, ℕ, ◌+◌, ◌<◌, List, [], ◌∷◌, ◌++◌, length, map, take, drop, true, refl, sym, ap, subst, ◌∙◌, arith, append_assoc, append-nil, take-append-drop, take_all, ext_get_or}
use Rattle.std.proofs.lemmas.List.{map-append}
use Rattle.std.specs.Prelude.{slice_index}
use Rattle.std.specs.List.{range_with_len}
use Rattle.std.proofs.lemmas.List.FromFn.{length-map-range_with_len, get_or-map-range_with_len}
use Rattle.std.proofs.lemmas.Bool.{false≢true}
use Rattle.std.proofs.lemmas.List.Concat.{flat_map-append}
use Rattle.lr_walk.specs.declared.trail.Answer.{Answer}
use Rattle.lr_walk.specs.Stands as stands
use Rattle.lr_walk.specs.Steps.{Reply, by_depot, Step}
use Rattle.lr_walk.specs.Depot.{began, kept, made, memory, abandoned, begins, puts_chunk, puts_manifest, abandons}
use Rattle.lr_walk.specs.Depot as depots
use Rattle.lr_creator.specs.declared.create.Place.{Place}
use Rattle.lr_creator.specs.Creation.{Ending, with_memory, Input, piece, last, Parts, Leaves, Puts}
use Rattle.lr_creator.specs.Progress.{Need, beginning, wanting, putting, finishing, leaving, ended, Rest, Asked, a_call, an_end, no_call, with_step, advanced, AnswersAsked}
use Rattle.lr_creator.specs.Progress as creations
use Rattle.lr_creator.specs.Seen.{Finished, FinishedAt}
use Rattle.lr_creator.proofs.Creations as creation_walks
use Rattle.lr_actors.specs.Asked as job
use Rattle.lr_actors.specs.Creating.{created, joined, GivesAll, GivesSome, CreatesAll, EndsDone, Progress, WantsNoMore, Gives, Stands, StandsFor, Makes, IsFront, asked_by, asked, Admits}
use Rattle.lr_actors.proofs.Lifting.{lifted_walk, lifted_more, lifted_front}

-- ---- what is given can be made all

joined_more : (pieces : List (List ℕ)) (p : List ℕ) → joined (pieces ++ p ∷ []) ≡ joined pieces ++ p
joined_more pieces p = flat_map-append (λ (x : List ℕ). x) pieces (p ∷ []) ∙ ap (λ l. joined pieces ++ l) (append-nil p)

pieces_more : (pieces : List (List ℕ)) (p : List ℕ) → map piece (pieces ++ p ∷ []) ≡ map piece pieces ++ piece p ∷ []
pieces_more pieces p = map-append piece pieces (p ∷ [])

abbrev pub CanGive : List ℕ → List Input → Type 0
CanGive raw given = (more : List Input) × GivesAll raw (given ++ more)

gives_rest : (p : Progress) (given : List Input) → Gives p given → CanGive p.raw given
gives_rest p given (inl g) = (
  piece (drop p.given p.raw) ∷ last ∷ [],
  (
    g.0 ++ drop p.given p.raw ∷ [],
    joined_more g.0 (drop p.given p.raw) ∙ ap (λ l. l ++ drop p.given p.raw) g.1 ∙ take-append-drop p.given p.raw,
    ap (λ l. l ++ piece (drop p.given p.raw) ∷ last ∷ []) g.2 ∙ sym (append_assoc (map piece g.0) (piece (drop p.given p.raw) ∷ []) (last ∷ [])) ∙ ap (λ l. l ++ last ∷ []) (sym (pieces_more g.0 (drop p.given p.raw))),
  ),
)
gives_rest p given (inr g) = ([], subst (GivesAll p.raw) (sym (append-nil given)) g.0)

-- ---- what an ended job stands for

walk_at : (p : Progress) → EndsDone p.create → (a : Asked) → creations.asked p.create.need ≡ a → (steps : List Step) (answer : Answer) → asked_by a ≡ job.an_end answer → StandsFor p steps
    → Makes p steps answer
walk_at p ends (a_call call) e steps answer f l = absurd (cc)
walk_at p ends no_call e steps answer f l = absurd (cc)
walk_at p ends (an_end end) e steps answer f l =
    lifted_walk created (CreatesAll p.create.image p.create.tenant p.raw) (Stands p) end
    (λ own s. let r = gives_rest p s.0 s.1 in (s.0 ++ r.0, r.1, ends s.0 own end e s.2 r.0)) steps answer (cc) l

pub is_walk : (p : Progress) → EndsDone p.create → (steps : List Step) (answer : Answer) → asked p ≡ job.an_end answer → StandsFor p steps → Makes p steps answer
is_walk p ends steps answer e l = walk_at p ends (creations.asked p.create.need) refl steps answer e l

-- ---- from each need the walk can be ended, whatever is still given

abbrev pub CanEnd : List ℕ → Need → List Input → Type 0
CanEnd tenant need more = (tail : List depots.Step) × (ending : Ending) × Rest tenant need more tail ending

leaves : (session : ℕ) (end : Ending) → Leaves session end (depots.step (abandons session) abandoned ∷ []) end
leaves session end = (abandoned, depots.step (abandons session) abandoned, [], refl, (refl, tt), (refl, refl))

wants_end : (tenant : List ℕ) (place : Place) (parts : Parts) (more : List Input) → Puts tenant place parts more (depots.step (abandons place.session) abandoned ∷ []) with_memory
wants_end tenant place parts [] = inl (leaves place.session with_memory)
wants_end tenant place parts (last ∷ more) = inr (inl (leaves place.session with_memory))
wants_end tenant place parts (piece plain ∷ more) = inr (inl (leaves place.session with_memory))

can_end : (tenant : List ℕ) (need : Need) (more : List Input) → CanEnd tenant need more
can_end tenant (beginning image) more = (depots.step (begins image) memory ∷ [], with_memory, (memory, depots.step (begins image) memory, [], refl, (refl, tt), (refl, refl)))
can_end tenant (wanting place parts) more = (depots.step (abandons place.session) abandoned ∷ [], with_memory, wants_end tenant place parts more)
can_end tenant (putting place parts name) more = (
  depots.step (puts_chunk place.session name.bytes) memory ∷ depots.step (abandons place.session) abandoned ∷ [],
  with_memory,
  (memory, depots.step (puts_chunk place.session name.bytes) memory, depots.step (abandons place.session) abandoned ∷ [], refl, (refl, tt), leaves place.session with_memory),
)
can_end tenant (finishing place fields) more = (
  depots.step (puts_manifest place.session fields) memory ∷ depots.step (abandons place.session) abandoned ∷ [],
  with_memory,
  (memory, depots.step (puts_manifest place.session fields) memory, depots.step (abandons place.session) abandoned ∷ [], refl, (refl, tt), leaves place.session with_memory),
)
can_end tenant (leaving session end) more = (depots.step (abandons session) abandoned ∷ [], end, leaves session end)
can_end tenant (ended end) more = ([], end, (refl, refl))

-- ---- what another job stands for, with the call and a reply to it

-- the creation after a reply
abbrev pub after : creations.Progress → depots.Reply → creations.Progress
after c reply = record { image = c.image; tenant = c.tenant; need = advanced c.need reply; ready = true }

goes_front : (p : Progress) (reply : depots.Reply) → creations.Admits p.create reply → (own : List depots.Step) → Stands p own
    → stands.IsFront (CreatesAll p.create.image p.create.tenant p.raw) (with_step own (creations.asked p.create.need) reply)
goes_front p reply a own s =
    let r = gives_rest p s.0 s.1 in
    let e = can_end p.create.tenant (advanced p.create.need reply) r.0 in
    let st : creations.Stands (after p.create reply) s.0 (with_step own (creations.asked p.create.need) reply) = creation_walks.takes_more p.create (after p.create reply) reply (refl, refl) a refl s.0 own s.2 in
    (e.0, e.1, (s.0 ++ r.0, r.1, st r.0 e.0 e.1 e.2))

front_at : (p : Progress) (a : Asked) (reply : depots.Reply) → ((own : List depots.Step) → Stands p own → stands.IsFront (CreatesAll p.create.image p.create.tenant p.raw) (with_step own a reply))
    → (steps more : List Step) → job.Adds (asked_by a) (by_depot reply) more → StandsFor p steps → IsFront p (steps ++ more)
front_at p (a_call call) reply fronts steps more adds l =
    let lifted = lifted_more (Stands p) (stands.IsFront (CreatesAll p.create.image p.create.tenant p.raw)) (depots.step call reply) fronts steps more adds l in
    lifted_front created (CreatesAll p.create.image p.create.tenant p.raw) lifted.0 lifted.2 (steps ++ more) lifted.1
front_at p (an_end end) reply fronts steps more adds l = absurd adds
front_at p no_call reply fronts steps more adds l = absurd adds

pub is_front : (p : Progress) (steps more : List Step) (reply : Reply) → Admits p reply → job.Adds (asked p) reply more → StandsFor p steps → IsFront p (steps ++ more)
is_front p steps more (by_depot reply) a adds l = front_at p (creations.asked p.create.need) reply (goes_front p reply a) steps more adds l
is_front p steps more reply a adds l = absurd a

-- ---- steps and inputs

-- the creation takes a step
abbrev pub Takes : creations.Progress → creations.Progress → Reply → Type 0
Takes old new (by_depot reply) = (given : List Input) (own : List depots.Step) → creations.Stands old given own → creations.Stands new given (with_step own (creations.asked old.need) reply)
Takes old new reply = Unit {0}

-- and is then given what it wants
abbrev pub Feeds : Progress → Progress → Type 0
Feeds old new = (own : List depots.Step) → Stands old own → Stands new own

more_at : (old mid new : Progress) (a : Asked) (reply : depots.Reply) → ((own : List depots.Step) → Stands old own → Stands mid (with_step own a reply)) → Feeds mid new
    → (steps more : List Step) → job.Adds (asked_by a) (by_depot reply) more → StandsFor old steps → StandsFor new (steps ++ more)
more_at old mid new (a_call call) reply takes feeds steps more adds l =
    lifted_more (Stands old) (Stands new) (depots.step call reply) (λ own s. feeds (own ++ depots.step call reply ∷ []) (takes own s)) steps more adds l
more_at old mid new (an_end end) reply takes feeds steps more adds l = absurd adds
more_at old mid new no_call reply takes feeds steps more adds l = absurd adds

abbrev pub with_create : Progress → creations.Progress → Progress
with_create p c = record { create = c; raw = p.raw; given = p.given }

no_more_after : (need : Need) (reply : depots.Reply) → WantsNoMore need → WantsNoMore (advanced need reply)
no_more_after (finishing place fields) (made root) w = tt
no_more_after (finishing place fields) memory w = tt
no_more_after (finishing place fields) reply w = tt
no_more_after (leaving session end) reply w = tt
no_more_after (ended end) reply w = tt
no_more_after (beginning image) reply w = absurd w
no_more_after (wanting place parts) reply w = absurd w
no_more_after (putting place parts name) reply w = absurd w

-- what was given stays
stays : (p : Progress) (c : creations.Progress) (reply : depots.Reply) → c.need ≡ advanced p.create.need reply → (given : List Input) → Gives p given → Gives (with_create p c) given
stays p c reply e given (inl g) = inl g
stays p c reply e given (inr g) = inr (g.0, subst WantsNoMore (sym e) (no_more_after p.create.need reply g.1))

-- the creation needs what follows the reply
abbrev pub Follows : creations.Progress → creations.Progress → Reply → Type 0
Follows old new (by_depot reply) = new.need ≡ advanced old.need reply
Follows old new reply = Unit {0}

pub takes_more : (old new : Progress) (c : creations.Progress) (reply : Reply) → Admits old reply → Follows old.create c reply → Takes old.create c reply → Feeds (with_create old c) new
    → (steps more : List Step) → job.Adds (asked old) reply more → StandsFor old steps → StandsFor new (steps ++ more)
takes_more old new c (by_depot reply) a follows takes feeds steps more adds l =
    more_at old (with_create old c) new (creations.asked old.create.need) reply (λ own s. (s.0, stays old c reply follows s.0 s.1, takes s.0 own s.2)) feeds steps more adds l
takes_more old new c reply a follows takes feeds steps more adds l = absurd a

-- ---- what is given

wants_more : (need : Need) → creations.is_wanting need ≡ true → WantsNoMore need → ⊥
wants_more (wanting place parts) w enough = enough
wants_more (beginning image) w enough = enough
wants_more (putting place parts name) w enough = enough
wants_more (finishing place fields) w enough = absurd (false≢true w)
wants_more (leaving session end) w enough = absurd (false≢true w)
wants_more (ended end) w enough = absurd (false≢true w)

-- what was given to a creation that wants more
some_given : (p : Progress) → creations.is_wanting p.create.need ≡ true → (given : List Input) → Gives p given → GivesSome p.raw p.given given
some_given p w given (inl g) = g
some_given p w given (inr g) = absurd (wants_more p.create.need w g.1)

pub gave_piece : (old new : Progress) (plain : List ℕ) → new.raw ≡ old.raw → take old.given old.raw ++ plain ≡ take new.given old.raw
    → ((given : List Input) (own : List depots.Step) → creations.Stands old.create given own → creations.Stands new.create (given ++ piece plain ∷ []) own)
    → creations.is_wanting old.create.need ≡ true → Feeds old new
gave_piece old new plain same e gives w own s =
    let g = some_given old w s.0 s.1 in (
      s.0 ++ piece plain ∷ [],
      inl (g.0 ++ plain ∷ [], joined_more g.0 plain ∙ ap (λ l. l ++ plain) g.1 ∙ e ∙ ap (λ l. take new.given l) (sym same), ap (λ l. l ++ piece plain ∷ []) g.2 ∙ sym (pieces_more g.0 plain)),
      gives s.0 own s.2,
    )

-- nothing more was given
pub gave_none : (old new : Progress) → new.raw ≡ old.raw → new.given ≡ old.given
    → ((given : List Input) (own : List depots.Step) → creations.Stands old.create given own → creations.Stands new.create given own)
    → creations.is_wanting old.create.need ≡ true → Feeds old new
gave_none old new same n keeps w own s =
    let g = some_given old w s.0 s.1 in
    (s.0, inl (g.0, g.1 ∙ (λ i. take (sym n i) (sym same i)), g.2), keeps s.0 own s.2)

-- word of the end was given
pub gave_last : (old new : Progress) → new.raw ≡ old.raw → old.given ≡ length old.raw → WantsNoMore new.create.need
    → ((given : List Input) (own : List depots.Step) → creations.Stands old.create given own → creations.Stands new.create (given ++ last ∷ []) own)
    → creations.is_wanting old.create.need ≡ true → Feeds old new
gave_last old new same all enough gives w own s =
    let g = some_given old w s.0 s.1 in (
      s.0 ++ last ∷ [],
      inr ((g.0, g.1 ∙ take_all old.given old.raw (omega arith) ∙ sym same, ap (λ l. l ++ last ∷ []) g.2), enough),
      gives s.0 own s.2,
    )

-- the manifest is put, or the session is left: nothing more is wanted
pub no_more_finished : (old : creations.Progress) (new : Need) → Finished old new → WantsNoMore new
no_more_finished old new f = by old.tenant old.need new f
  where
    by : (tenant : List ℕ) (need new : Need) → FinishedAt tenant need new → WantsNoMore new
    by tenant (wanting place parts) new (inl e) = subst WantsNoMore (sym e) tt
    by tenant (wanting place parts) new (inr e) = subst WantsNoMore (sym e) tt
    by tenant need new f = absurd f

-- bytes that are known one by one
pub same_bytes : (xs : List ℕ) (f : ℕ → ℕ) (n : ℕ) → length xs ≡ n → ((k : ℕ) → k < n → slice_index xs k ≡ f (0 + k)) → xs ≡ map f (range_with_len 0 n)
same_bytes xs f n e h =
    ext_get_or 0 xs (map f (range_with_len 0 n)) (e ∙ sym (length-map-range_with_len f 0 n))
    (λ i lt. let less : i < n = omega arith in h i less ∙ sym (get_or-map-range_with_len f 0 n i (0 + i) 0 less refl))

-- a creation's steps: with each one the walk goes on
use Rattle.std.proofs.Common.{◌≡◌, inl, inr, ℕ, ◌+◌, length, List, [], ◌∷◌, ◌++◌, Bool, true, false, refl, ap, subst, sym, ◌∙◌, append-nil}
use Rattle.std.specs.Prelude.{◌⊎◌, Option, Some, None, OnOk, OnErr, MatchResult, Result}
use Rattle.std.specs.declared.result.Result.TheVariants.{Ok, Err}
use Rattle.lr_creator.specs.declared.create.CreateAction.{CreateAction}
use Rattle.lr_creator.specs.declared.stage.Turn.{Turn}
use Rattle.std.proofs.lemmas.Bool.{false≢true}
use Rattle.lr_manifest.specs.declared.name.Name.{Name}
use Rattle.lr_manifest.specs.Manifest.{ManifestFields}
use Rattle.lr_convergent.specs.Sealed.{sealed_key, sealed_name}
use Rattle.lr_walk.specs.Walk.{Walks}
use Rattle.lr_walk.specs.Stands.{Given, StandsFor, IsPrefix, Follows, TakesIn, LeadsOn, Completes}
use Rattle.lr_walk.specs.Depot.{Call, Step, step, Reply, began, kept, made, memory, abandoned, begins, puts_chunk, puts_manifest, abandons, Answers}
use Rattle.lr_walk.proofs.Stands.{stands_more, stands_given, stands_on, is_prefix, is_walk}
use Rattle.lr_creator.specs.declared.create.Place.{Place}
use Rattle.lr_creator.specs.Creation.{Ending, with_root, with_reply, with_memory, with_stop, Input, piece, last, Parts, with_piece, IsPiece, fields_of, Puts, Creates}
use Rattle.lr_creator.specs.Progress.{Need, beginning, wanting, putting, finishing, leaving, ended, Progress, Rest, Stands, IsFront, IsDone, Asked, a_call, an_end, no_call, asked, AnswersAsked, Admits, with_step, advanced, is_wanting, raw_len_of}
use Rattle.lr_creator.specs.Seen.{Gave, LeftShort, Finished, FinishedAt, Stopped, IsSame, Prepares, PreparesLast, PreparesPiece, PreparesLeave, IsKept, IsPrepared, need_of, seen_ready}

-- the step asked, before the rest
abbrev pub before : Asked → Reply → List Step → List Step
before (a_call call) reply tail = step call reply ∷ tail
before a reply tail = tail

-- after the call of a need, its reply and what comes then
advances : (tenant : List ℕ) (need : Need) (reply : Reply) → AnswersAsked (asked need) reply → (more : List Input) (tail : List Step) (ending : Ending)
    → Rest tenant (advanced need reply) more tail ending → Rest tenant need more (before (asked need) reply tail) ending
advances tenant (beginning image) (began session root salt number) a more tail ending r =
    (began session root salt number, step (begins image) (began session root salt number), tail, refl, (refl, a), r)
advances tenant (beginning image) memory a more tail ending r = (memory, step (begins image) memory, tail, refl, (refl, a), r)
advances tenant (beginning image) reply a more tail ending r = (reply, step (begins image) reply, tail, refl, (refl, a), r)
advances tenant (wanting place parts) reply a more tail ending r = absurd a
advances tenant (putting place parts name) kept a more tail ending r = (kept, step (puts_chunk place.session name.bytes) kept, tail, refl, (refl, a), r)
advances tenant (putting place parts name) memory a more tail ending r = (memory, step (puts_chunk place.session name.bytes) memory, tail, refl, (refl, a), r)
advances tenant (putting place parts name) reply a more tail ending r = (reply, step (puts_chunk place.session name.bytes) reply, tail, refl, (refl, a), r)
advances tenant (finishing place fields) (made root) a more tail ending r = (made root, step (puts_manifest place.session fields) (made root), tail, refl, (refl, a), r)
advances tenant (finishing place fields) memory a more tail ending r = (memory, step (puts_manifest place.session fields) memory, tail, refl, (refl, a), r)
advances tenant (finishing place fields) reply a more tail ending r = (reply, step (puts_manifest place.session fields) reply, tail, refl, (refl, a), r)
advances tenant (leaving session end) reply a more tail ending r = (reply, step (abandons session) reply, tail, refl, (refl, a), r)
advances tenant (ended end) reply a more tail ending r = absurd a

-- the machine finds no memory or is stopped while it wants more
leaves_early : (tenant : List ℕ) (place : Place) (parts : Parts) (end : Ending) → (end ≡ with_memory) ⊎ (end ≡ with_stop) → LeadsOn (Rest tenant) (wanting place parts) (leaving place.session end)
leaves_early tenant place parts end (inl e) [] tail ending r = inl (subst (λ x. Rest tenant (leaving place.session x) [] tail ending) e r)
leaves_early tenant place parts end (inr e) [] tail ending r = inr (subst (λ x. Rest tenant (leaving place.session x) [] tail ending) e r)
leaves_early tenant place parts end (inl e) (last ∷ more) tail ending r = inr (inl (subst (λ x. Rest tenant (leaving place.session x) [] tail ending) e r))
leaves_early tenant place parts end (inr e) (last ∷ more) tail ending r = inr (inr (subst (λ x. Rest tenant (leaving place.session x) [] tail ending) e r))
leaves_early tenant place parts end (inl e) (piece plain ∷ more) tail ending r = inr (inl (subst (λ x. Rest tenant (leaving place.session x) [] tail ending) e r))
leaves_early tenant place parts end (inr e) (piece plain ∷ more) tail ending r = inr (inr (subst (λ x. Rest tenant (leaving place.session x) [] tail ending) e r))

-- a piece is taken
pub gives : (old new : Progress) (plain : List ℕ) → IsSame old new → IsPiece (raw_len_of old.need) plain → Gave old.need plain new.need → (given : List Input) (steps : List Step)
    → Stands old given steps → Stands new (given ++ piece plain ∷ []) steps
gives old new plain same p gave given steps stands =
    subst (λ (q : List ℕ × List ℕ). StandsFor (Creates q.0 q.1) (Rest q.1) new.need (given ++ piece plain ∷ []) steps) (λ i. (sym same.0 i, sym same.1 i))
    (stands_given (Creates old.image old.tenant) (Rest old.tenant) old.need new.need (piece plain) (takes old.tenant old.need new.need p gave) given steps stands)
  where
    takes : (tenant : List ℕ) (need new : Need) → IsPiece (raw_len_of need) plain → Gave need plain new → TakesIn (Rest tenant) need (piece plain) new
    takes tenant (wanting place parts) new p (name, named, e) = λ more tail ending r. inl (p, (name, named, subst (λ n. Rest tenant n more tail ending) e r))
    takes tenant need new p gave = absurd gave

-- a need led on to another
moves : (old new : Progress) → IsSame old new → LeadsOn (Rest old.tenant) old.need new.need → (given : List Input) (steps : List Step) → Stands old given steps → Stands new given steps
moves old new same on given steps stands =
    subst (λ (q : List ℕ × List ℕ). StandsFor (Creates q.0 q.1) (Rest q.1) new.need given steps) (λ i. (sym same.0 i, sym same.1 i))
    (stands_on (Creates old.image old.tenant) (Rest old.tenant) old.need new.need on given steps stands)

short_on : (tenant : List ℕ) (need new : Need) → LeftShort need new → LeadsOn (Rest tenant) need new
short_on tenant (wanting place parts) new e = λ more tail ending r. leaves_early tenant place parts with_memory (inl refl) more tail ending (subst (λ n. Rest tenant n more tail ending) e r)
short_on tenant need new e = absurd e

pub falls_short : (old new : Progress) → IsSame old new → LeftShort old.need new.need → (given : List Input) (steps : List Step) → Stands old given steps → Stands new given steps
falls_short old new same left = moves old new same (short_on old.tenant old.need new.need left)

stop_on : (tenant : List ℕ) (need new : Need) → Stopped need new → LeadsOn (Rest tenant) need new
stop_on tenant (wanting place parts) new e = λ more tail ending r. leaves_early tenant place parts with_stop (inr refl) more tail ending (subst (λ n. Rest tenant n more tail ending) e r)
stop_on tenant need new e = absurd e

pub stops : (old new : Progress) → IsSame old new → Stopped old.need new.need → (given : List Input) (steps : List Step) → Stands old given steps → Stands new given steps
stops old new same left = moves old new same (stop_on old.tenant old.need new.need left)

last_in : (tenant : List ℕ) (need new : Need) → FinishedAt tenant need new → TakesIn (Rest tenant) need last new
last_in tenant (wanting place parts) new (inl e) = λ more tail ending r. inl (subst (λ n. Rest tenant n more tail ending) e r)
last_in tenant (wanting place parts) new (inr e) = λ more tail ending r. inr (inl (subst (λ n. Rest tenant n more tail ending) e r))
last_in tenant need new e = absurd e

pub finishes : (old new : Progress) → IsSame old new → Finished old new.need → (given : List Input) (steps : List Step) → Stands old given steps → Stands new (given ++ last ∷ []) steps
finishes old new same f given steps stands =
    subst (λ (q : List ℕ × List ℕ). StandsFor (Creates q.0 q.1) (Rest q.1) new.need (given ++ last ∷ []) steps) (λ i. (sym same.0 i, sym same.1 i))
    (stands_given (Creates old.image old.tenant) (Rest old.tenant) old.need new.need last (last_in old.tenant old.need new.need f) given steps stands)

-- a reply is taken
more_at : (image tenant : List ℕ) (need : Need) (a : Asked) (reply : Reply) (new : Need) → asked need ≡ a → AnswersAsked a reply → new ≡ advanced need reply → (given : List Input) (steps : List Step)
    → StandsFor (Creates image tenant) (Rest tenant) need given steps → StandsFor (Creates image tenant) (Rest tenant) new given (with_step steps a reply)
more_at image tenant need (a_call call) reply new e a n given steps stands =
    stands_more (Creates image tenant) (Rest tenant) need new (step call reply)
    (λ more tail ending r. subst (λ q. Rest tenant need more (before q reply tail) ending) e
    (advances tenant need reply (subst (λ q. AnswersAsked q reply) (sym e) a) more tail ending (subst (λ q. Rest tenant q more tail ending) n r)))
    given steps stands
more_at image tenant need a reply new e h n given steps stands = absurd h

pub takes_more : (old new : Progress) (reply : Reply) → IsSame old new → Admits old reply → new.need ≡ advanced old.need reply → (given : List Input) (steps : List Step)
    → Stands old given steps → Stands new given (with_step steps (asked old.need) reply)
takes_more old new reply same a n given steps stands =
    subst (λ (q : List ℕ × List ℕ). StandsFor (Creates q.0 q.1) (Rest q.1) new.need given (with_step steps (asked old.need) reply)) (λ i. (sym same.0 i, sym same.1 i))
    (more_at old.image old.tenant old.need (asked old.need) reply new.need refl a n given steps stands)

-- from each need the walk can be ended
pub completes : (tenant : List ℕ) (need : Need) → Completes (Rest tenant) need
completes tenant (beginning image) = ([], step (begins image) memory ∷ [], with_memory, (memory, step (begins image) memory, [], refl, (refl, tt), (refl, refl)))
completes tenant (wanting place parts) = ([], step (abandons place.session) abandoned ∷ [], with_memory, inl (leave place.session with_memory))
  where
    leave : (session : ℕ) (end : Ending) → Rest [] (leaving session end) [] (step (abandons session) abandoned ∷ []) end
    leave session end = (abandoned, step (abandons session) abandoned, [], refl, (refl, tt), (refl, refl))
completes tenant (putting place parts name) = (
  [],
  step (puts_chunk place.session name.bytes) memory ∷ step (abandons place.session) abandoned ∷ [],
  with_memory,
  (memory, step (puts_chunk place.session name.bytes) memory, step (abandons place.session) abandoned ∷ [], refl, (refl, tt), (abandoned, step (abandons place.session) abandoned, [], refl, (refl, tt), (refl, refl))),
)
completes tenant (finishing place fields) = (
  [],
  step (puts_manifest place.session fields) memory ∷ step (abandons place.session) abandoned ∷ [],
  with_memory,
  (memory, step (puts_manifest place.session fields) memory, step (abandons place.session) abandoned ∷ [], refl, (refl, tt), (abandoned, step (abandons place.session) abandoned, [], refl, (refl, tt), (refl, refl))),
)
completes tenant (leaving session end) = ([], step (abandons session) abandoned ∷ [], end, (abandoned, step (abandons session) abandoned, [], refl, (refl, tt), (refl, refl)))
completes tenant (ended end) = ([], [], end, (refl, refl))

pub step_is_front : (p : Progress) (given : List Input) (steps : List Step) (reply : Reply) → Admits p reply → Stands p given steps → IsFront p given (with_step steps (asked p.need) reply)
step_is_front p given steps reply a stands =
    is_prefix (Creates p.image p.tenant) (Rest p.tenant) (advanced p.need reply) (completes p.tenant (advanced p.need reply)) given (with_step steps (asked p.need) reply)
    (more_at p.image p.tenant p.need (asked p.need) reply (advanced p.need reply) refl a refl given steps stands)

-- the ending that is asked
ended_of : Asked → Need
ended_of (an_end end) = ended end
ended_of a = ended with_memory

abbrev is_end : Asked → Bool
is_end (an_end end) = true
is_end a = false

asked_end : (need : Need) (end : Ending) → asked need ≡ an_end end → need ≡ ended end
unfolding ended_of
asked_end (ended end') end e = ap ended_of e
asked_end need end e = absurd (false≢true (ap is_end e))

pub is_done : (p : Progress) (given : List Input) (steps : List Step) (end : Ending) → asked p.need ≡ an_end end → Stands p given steps → IsDone p given steps end
is_done p given steps end e stands = λ more.
    subst (λ l. Creates p.image p.tenant (given ++ more) l end) (append-nil steps) (stands more [] end (subst (λ n. Rest p.tenant n more [] end) (sym (asked_end p.need end e)) (refl, refl)))

-- ---- what is prepared

prepared_of : (need : Need) (turn : Turn) → Prepares need turn → (action : Option CreateAction) → turn.ready ≡ action → IsPrepared turn.stage action
prepared_of need turn p (Some action) e = ap seen_ready (sym e) ∙ (p.prepared ∙ ap asked (sym p.needs))
prepared_of need turn p None e = tt

pub whole_of : (need : Need) (turn : Turn) → Prepares need turn → IsKept turn.stage × IsPrepared turn.stage turn.ready
whole_of need turn p = (p.kept, prepared_of need turn p turn.ready refl)

pub last_whole : (tenant : List ℕ) (need : Need) (turn : Turn) → PreparesLast tenant need turn → IsKept turn.stage × IsPrepared turn.stage turn.ready
last_whole tenant (wanting place parts) turn (inl p) = whole_of _ turn p
last_whole tenant (wanting place parts) turn (inr p) = whole_of _ turn p
last_whole tenant need turn p = absurd p

finished_at : (tenant : List ℕ) (need : Need) (turn : Turn) → PreparesLast tenant need turn → FinishedAt tenant need (need_of turn.stage)
finished_at tenant (wanting place parts) turn (inl p) = inl p.needs
finished_at tenant (wanting place parts) turn (inr p) = inr p.needs
finished_at tenant need turn p = absurd p

pub finished_of : (tenant same : List ℕ) (need other : Need) (turn : Turn) → same ≡ tenant → other ≡ need → PreparesLast tenant need turn → FinishedAt same other (need_of turn.stage)
finished_of tenant same need other turn t e p = subst (λ (x : List ℕ × Need). FinishedAt x.0 x.1 (need_of turn.stage)) (λ i. (sym t i, sym e i)) (finished_at tenant need turn p)

pub left_whole : (need : Need) (end : Ending) (turn : Turn) → PreparesLeave need end turn → IsKept turn.stage × IsPrepared turn.stage turn.ready
left_whole (wanting place parts) end turn p = whole_of _ turn p
left_whole need end turn p = absurd p

piece_whole : (need : Need) (plain : List ℕ) (turn : Turn) → PreparesPiece need plain turn → IsKept turn.stage × IsPrepared turn.stage turn.ready
piece_whole (wanting place parts) plain turn (name, named, p) = whole_of _ turn p
piece_whole need plain turn p = absurd p

pub given_whole : {A E : Type 0} (need : Need) (plain : List ℕ) (turn : Turn) (r : Result A E) → MatchResult r (λ _. PreparesPiece need plain turn) (λ _. PreparesLeave need with_memory turn)
    → IsKept turn.stage × IsPrepared turn.stage turn.ready
given_whole need plain turn (Ok x) p = piece_whole need plain turn p
given_whole need plain turn (Err e) p = left_whole need with_memory turn p

gave_at : (need : Need) (plain : List ℕ) (turn : Turn) → PreparesPiece need plain turn → Gave need plain (need_of turn.stage)
gave_at (wanting place parts) plain turn (name, named, p) = (name, named, p.needs)
gave_at need plain turn p = absurd p

pub gave_of : (need other : Need) (plain : List ℕ) (turn : Turn) → other ≡ need → PreparesPiece need plain turn → Gave other plain (need_of turn.stage)
gave_of need other plain turn e p = subst (λ n. Gave n plain (need_of turn.stage)) (sym e) (gave_at need plain turn p)

pub ok_then : {A E P Q : Type 0} (r : Result A E) → (P → Q) → OnOk r P → OnOk r Q
ok_then (Ok x) f p = f p
ok_then (Err e) f p = p

pub err_then : {A E P Q : Type 0} (r : Result A E) → (P → Q) → OnErr r P → OnErr r Q
err_then (Ok x) f p = p
err_then (Err e) f p = f p

pub matched_ok : {A E : Type 0} (P Q : Type 0) (r : Result A E) → MatchResult r (λ _. P) (λ _. Q) → OnOk r P
matched_ok P Q (Ok x) p = p
matched_ok P Q (Err e) p = tt

pub piece_prepared : (place : Place) (old new : Parts) (name : Name) (key plain : List ℕ) (turn : Turn) → name.bytes ≡ sealed_name place.salt plain → key ≡ sealed_key place.salt plain
    → new ≡ record { raw_len = old.raw_len + length plain; names = old.names ++ name ∷ []; keys = old.keys ++ key ∷ [] } → Prepares (putting place new name) turn → PreparesPiece (wanting place old) plain turn
piece_prepared place old new name key plain turn n k e p =
    (name, n, subst (λ q. Prepares (putting place q name) turn) (e ∙ ap (λ q. record { raw_len = old.raw_len + length plain; names = old.names ++ name ∷ []; keys = old.keys ++ q ∷ [] }) k) p)

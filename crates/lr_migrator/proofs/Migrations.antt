-- a migration's steps: with each one the walk goes on
use Rattle.std.proofs.Common.{arith, ◌≡◌, ◌≤◌, ◌-◌, ℕ, zero, suc, List, [], ◌∷◌, length, refl, ap, subst, sym}
use Rattle.lr_walk.specs.Stands as machines
use Rattle.lr_walk.specs.Depot.{Call, Step, step, Reply, moving, copied, kept, moved, memory, abandoned, begins_move, copies, puts_chunk, finishes_move, abandons}
use Rattle.lr_walk.proofs.Stands.{made_more, made_front, made_walk}
use Rattle.lr_migrator.specs.Migration.{Ending, with_memory, Copies, Migrates}
use Rattle.lr_migrator.specs.Progress.{Need, beginning, copying, putting, finishing, leaving, ended, Progress, Rest, Stands, IsFront, Asked, a_call, an_end, asked, AnswersAsked, Admits, with_step, copying_on, advanced}

-- the step asked, before the rest
abbrev pub before : Asked → Reply → List Step → List Step
before (a_call call) reply tail = step call reply ∷ tail
before (an_end end) reply tail = tail

-- what may still come of so many chunks
copies_on : (image : List ℕ) (session index left : ℕ) (tail : List Step) (ending : Ending) → Rest image (copying_on session index left) tail ending → Copies session index left tail ending
copies_on image session index zero tail ending r = r
copies_on image session index (suc left) tail ending r = r

-- after the call of a need, its reply and what comes then
advances : (image : List ℕ) (need : Need) (reply : Reply) → AnswersAsked (asked image need) reply → (tail : List Step) (ending : Ending)
    → Rest image (advanced need reply) tail ending → Rest image need (before (asked image need) reply tail) ending
advances image beginning (moving session from to fields) a tail ending r =
    (moving session from to fields, step (begins_move image) (moving session from to fields), tail, refl, (refl, a), copies_on image session 0 (length fields.names) tail ending r)
advances image beginning memory a tail ending r = (memory, step (begins_move image) memory, tail, refl, (refl, a), r)
advances image beginning reply a tail ending r = (reply, step (begins_move image) reply, tail, refl, (refl, a), r)
advances image (copying session index left) (copied name) a tail ending r = (copied name, step (copies session index) (copied name), tail, refl, (refl, a), r)
advances image (copying session index left) memory a tail ending r = (memory, step (copies session index) memory, tail, refl, (refl, a), r)
advances image (copying session index left) reply a tail ending r = (reply, step (copies session index) reply, tail, refl, (refl, a), r)
advances image (putting session index left name) kept a tail ending r =
    (kept, step (puts_chunk session name) kept, tail, refl, (refl, a), copies_on image session (suc index) left tail ending r)
advances image (putting session index left name) memory a tail ending r = (memory, step (puts_chunk session name) memory, tail, refl, (refl, a), r)
advances image (putting session index left name) reply a tail ending r = (reply, step (puts_chunk session name) reply, tail, refl, (refl, a), r)
advances image (finishing session) (moved from to) a tail ending r = (moved from to, step (finishes_move session) (moved from to), tail, refl, (refl, a), r)
advances image (finishing session) memory a tail ending r = (memory, step (finishes_move session) memory, tail, refl, (refl, a), r)
advances image (finishing session) reply a tail ending r = (reply, step (finishes_move session) reply, tail, refl, (refl, a), r)
advances image (leaving session end) reply a tail ending r = (reply, step (abandons session) reply, tail, refl, (refl, a), r)
advances image (ended end) reply a tail ending r = absurd a

-- a reply is taken
more_at : (image : List ℕ) (need : Need) (a : Asked) (reply : Reply) (new : Need) → asked image need ≡ a → AnswersAsked a reply → new ≡ advanced need reply
    → (steps : List Step) → machines.Stands (Migrates image) (Rest image) need steps → machines.Stands (Migrates image) (Rest image) new (with_step steps a reply)
more_at image need (a_call call) reply new e a n steps stands =
    made_more (Migrates image) (Rest image) need new (step call reply)
    (λ tail ending r. subst (λ q. Rest image need (before q reply tail) ending) e
    (advances image need reply (subst (λ q. AnswersAsked q reply) (sym e) a) tail ending (subst (λ q. Rest image q tail ending) n r)))
    steps stands
more_at image need (an_end end) reply new e a n steps stands = absurd a

pub takes_more : (old new : Progress) (reply : Reply) → new.image ≡ old.image → Admits old reply → new.need ≡ advanced old.need reply → (steps : List Step)
    → Stands old steps → Stands new (with_step steps (asked old.image old.need) reply)
takes_more old new reply same a n steps stands =
    subst (λ j. machines.Stands (Migrates j) (Rest j) new.need (with_step steps (asked old.image old.need) reply)) (sym same)
    (more_at old.image old.need (asked old.image old.need) reply new.need refl a n steps stands)

-- from each need the walk can be ended
completes : (image : List ℕ) (need : Need) → (tail : List Step) × (end : Ending) × Rest image need tail end
completes image beginning = (step (begins_move image) memory ∷ [], with_memory, (memory, step (begins_move image) memory, [], refl, (refl, tt), (refl, refl)))
completes image (copying session index left) = (
  step (copies session index) memory ∷ step (abandons session) abandoned ∷ [],
  with_memory,
  (memory, step (copies session index) memory, step (abandons session) abandoned ∷ [], refl, (refl, tt), (abandoned, step (abandons session) abandoned, [], refl, (refl, tt), (refl, refl))),
)
completes image (putting session index left name) = (
  step (puts_chunk session name) memory ∷ step (abandons session) abandoned ∷ [],
  with_memory,
  (memory, step (puts_chunk session name) memory, step (abandons session) abandoned ∷ [], refl, (refl, tt), (abandoned, step (abandons session) abandoned, [], refl, (refl, tt), (refl, refl))),
)
completes image (finishing session) = (
  step (finishes_move session) memory ∷ step (abandons session) abandoned ∷ [],
  with_memory,
  (memory, step (finishes_move session) memory, step (abandons session) abandoned ∷ [], refl, (refl, tt), (abandoned, step (abandons session) abandoned, [], refl, (refl, tt), (refl, refl))),
)
completes image (leaving session end) = (step (abandons session) abandoned ∷ [], end, (abandoned, step (abandons session) abandoned, [], refl, (refl, tt), (refl, refl)))
completes image (ended end) = ([], end, (refl, refl))

pub step_is_front : (p : Progress) (steps : List Step) (reply : Reply) → Admits p reply → Stands p steps → IsFront p (with_step steps (asked p.image p.need) reply)
step_is_front p steps reply a stands =
    let c = completes p.image (advanced p.need reply) in
    made_front (Migrates p.image) (Rest p.image) (advanced p.need reply) c.0 c.1 c.2 (with_step steps (asked p.image p.need) reply)
    (more_at p.image p.need (asked p.image p.need) reply (advanced p.need reply) refl a refl steps stands)

-- the ending that is asked
ending_in : Asked → Ending
ending_in (an_end end) = end
ending_in (a_call call) = with_memory

rest_at : (image : List ℕ) (need : Need) (end : Ending) → asked image need ≡ an_end end → Rest image need [] end
unfolding ending_in
rest_at image beginning end e = absurd (cc)
rest_at image (copying session index left) end e = absurd (cc)
rest_at image (putting session index left name) end e = absurd (cc)
rest_at image (finishing session) end e = absurd (cc)
rest_at image (leaving session other) end e = absurd (cc)
rest_at image (ended other) end e = (refl, sym (ap ending_in e))

pub is_done : (p : Progress) (steps : List Step) (end : Ending) → asked p.image p.need ≡ an_end end → Stands p steps → Migrates p.image steps end
is_done p steps end e stands = made_walk (Migrates p.image) (Rest p.image) p.need end (rest_at p.image p.need end e) steps stands

-- where chunks are left, the first of them is copied
pub copying_first : (session index left : ℕ) → 1 ≤ left → copying_on session index left ≡ copying session index (left - 1)
copying_first session index zero h = absurd (omega (arith, h))
copying_first session index (suc left) h =
    let e : left ≡ suc left - 1 = omega arith in ap (λ n. copying session index n) e

-- a collection's steps: with each one the walk goes on
use Rattle.std.proofs.Common.{◌≡◌, zero, suc, List, [], ◌∷◌, refl, ap, subst, sym}
use Rattle.lr_walk.specs.Stands as machines
use Rattle.lr_walk.specs.Depot.{Call, Step, step, Reply, sweeps, removed, memory}
use Rattle.lr_walk.proofs.Stands.{made_more, made_front, made_walk}
use Rattle.lr_collector.specs.declared.collect.CollectJob.{CollectJob}
use Rattle.lr_collector.specs.declared.collect.CollectJob.TheVariants as job
use Rattle.lr_collector.specs.Collection.{Ending, with_memory, call_of, end_of, sweep_end, Collects}
use Rattle.lr_collector.specs.Progress.{Need, asking, ended, Progress, Rest, Stands, IsFront, Asked, a_call, an_end, asked, AnswersAsked, Admits, with_step, advanced}

-- the step asked, before the rest
abbrev pub before : Asked → Reply → List Step → List Step
before (a_call call) reply tail = step call reply ∷ tail
before (an_end end) reply tail = tail

advances : (job : CollectJob) (need : Need) (reply : Reply) → AnswersAsked (asked job need) reply → (tail : List Step) (ending : Ending)
    → Rest job (advanced job need reply) tail ending → Rest job need (before (asked job need) reply tail) ending
advances (job.Sweep root) (asking count) (removed key) a tail ending r =
    (suc r.0, (removed key, step (sweeps root) (removed key), tail, refl, (refl, a), r.1))
advances (job.Sweep root) (asking count) reply a tail ending r = (zero, (reply, step (sweeps root) reply, tail, refl, (refl, a), r))
advances j (asking count) reply a tail ending r = (reply, step (call_of j) reply, tail, refl, (refl, a), r)
advances j (ended end) reply a tail ending r = absurd a

more_at : (job : CollectJob) (need : Need) (a : Asked) (reply : Reply) (new : Need) → asked job need ≡ a → AnswersAsked a reply → new ≡ advanced job need reply
    → (steps : List Step) → machines.Stands (Collects job) (Rest job) need steps → machines.Stands (Collects job) (Rest job) new (with_step steps a reply)
more_at job need (a_call call) reply new e a n steps stands =
    made_more (Collects job) (Rest job) need new (step call reply)
    (λ tail ending r. subst (λ q. Rest job need (before q reply tail) ending) e
    (advances job need reply (subst (λ q. AnswersAsked q reply) (sym e) a) tail ending (subst (λ q. Rest job q tail ending) n r)))
    steps stands
more_at job need (an_end end) reply new e a n steps stands = absurd a

pub takes_more : (old new : Progress) (reply : Reply) → new.job ≡ old.job → Admits old reply → new.need ≡ advanced old.job old.need reply → (steps : List Step)
    → Stands old steps → Stands new (with_step steps (asked old.job old.need) reply)
takes_more old new reply same a n steps stands =
    subst (λ j. machines.Stands (Collects j) (Rest j) new.need (with_step steps (asked old.job old.need) reply)) (sym same)
    (more_at old.job old.need (asked old.job old.need) reply new.need refl a n steps stands)

-- from each need that a reply leaves the walk can be ended
completes : (job : CollectJob) (need : Need) (reply : Reply) → (tail : List Step) × (end : Ending) × Rest job (advanced job need reply) tail end
completes (job.Sweep root) (asking count) (removed key) =
    (step (sweeps root) memory ∷ [], with_memory, (zero, (memory, step (sweeps root) memory, [], refl, (refl, tt), (refl, refl))))
completes (job.Sweep root) (asking count) reply = ([], sweep_end count reply, (refl, refl))
completes j (asking count) reply = ([], end_of reply, (refl, refl))
completes j (ended end) reply = ([], end, (refl, refl))

pub step_is_front : (p : Progress) (steps : List Step) (reply : Reply) → Admits p reply → Stands p steps → IsFront p (with_step steps (asked p.job p.need) reply)
step_is_front p steps reply a stands =
    let c = completes p.job p.need reply in
    made_front (Collects p.job) (Rest p.job) (advanced p.job p.need reply) c.0 c.1 c.2 (with_step steps (asked p.job p.need) reply)
    (more_at p.job p.need (asked p.job p.need) reply (advanced p.job p.need reply) refl a refl steps stands)

-- the ending that is asked
ending_in : Asked → Ending
ending_in (an_end end) = end
ending_in (a_call call) = with_memory

rest_at : (job : CollectJob) (need : Need) (end : Ending) → asked job need ≡ an_end end → Rest job need [] end
unfolding ending_in
rest_at j (asking count) end e = absurd (cc)
rest_at j (ended other) end e = (refl, sym (ap ending_in e))

pub is_done : (p : Progress) (steps : List Step) (end : Ending) → asked p.job p.need ≡ an_end end → Stands p steps → Collects p.job steps end
is_done p steps end e stands = made_walk (Collects p.job) (Rest p.job) p.need end (rest_at p.job p.need end e) steps stands

-- a collection as a job: with each step the walk goes on
use Rattle.std.proofs.Common.{◌≡◌, inl, List, ◌++◌, refl}
use Rattle.lr_walk.specs.declared.trail.Answer.{Answer}
use Rattle.lr_walk.specs.Steps.{Reply, by_depot, Step}
use Rattle.lr_walk.specs.Stands as stands
use Rattle.lr_walk.specs.Depot as depots
use Rattle.lr_collector.specs.Collection.{Ending, Collects}
use Rattle.lr_collector.specs.Progress.{Progress, Stands, Asked, a_call, an_end}
use Rattle.lr_collector.specs.Progress as collections
use Rattle.lr_actors.specs.Asked as job
use Rattle.lr_actors.specs.Collecting.{collected, Collecting, StandsFor, IsFront, asked_by, asked, Admits}
use Rattle.lr_actors.proofs.Lifting.{lifted_walk, lifted_more, lifted_front}

-- of one that ended
abbrev pub Ends : Progress → Type 0
Ends p = (own : List depots.Step) (end : Ending) → collections.asked p.job p.need ≡ an_end end → Stands p own → Collects p.job own end

walk_at : (p : Progress) → Ends p → (a : Asked) → collections.asked p.job p.need ≡ a → (steps : List Step) (answer : Answer) → asked_by a ≡ job.an_end answer → StandsFor p steps
    → Collecting p.job steps answer
walk_at p ends (a_call call) e steps answer f l = absurd (cc)
walk_at p ends (an_end end) e steps answer f l =
    inl (lifted_walk collected (Collects p.job) (Stands p) end (λ own. ends own end e) steps answer (cc) l)

pub is_walk : (p : Progress) → Ends p → (steps : List Step) (answer : Answer) → asked p ≡ job.an_end answer → StandsFor p steps → Collecting p.job steps answer
is_walk p ends steps answer e l = walk_at p ends (collections.asked p.job p.need) refl steps answer e l

-- .. of its front
abbrev pub Fronts : Progress → Type 0
Fronts p = (own : List depots.Step) (reply : depots.Reply) → collections.Admits p reply → Stands p own → collections.IsFront p (collections.with_step own (collections.asked p.job p.need) reply)

front_at : (p : Progress) (a : Asked) (reply : depots.Reply) → collections.AnswersAsked a reply
    → ((own : List depots.Step) → Stands p own → stands.IsFront (Collects p.job) (collections.with_step own a reply))
    → (steps more : List Step) → job.Adds (asked_by a) (by_depot reply) more → StandsFor p steps → IsFront p.job (steps ++ more)
front_at p (a_call call) reply admitted fronts steps more adds l =
    let lifted = lifted_more (Stands p) (stands.IsFront (Collects p.job)) (depots.step call reply) fronts steps more adds l in
    let f = lifted_front collected (Collects p.job) lifted.0 lifted.2 (steps ++ more) lifted.1 in
    (f.0, f.1, inl f.2)
front_at p (an_end end) reply admitted fronts steps more adds l = absurd adds

pub is_front : (p : Progress) → Fronts p → (steps more : List Step) (reply : Reply) → Admits p reply → job.Adds (asked p) reply more → StandsFor p steps → IsFront p.job (steps ++ more)
is_front p fronts steps more (by_depot reply) a adds l =
    front_at p (collections.asked p.job p.need) reply a (λ own. fronts own reply a) steps more adds l
is_front p fronts steps more reply a adds l = absurd a

-- .. and of its next step
abbrev pub Takes : Progress → Progress → Reply → Type 0
Takes old new (by_depot reply) = (own : List depots.Step) → Stands old own → Stands new (collections.with_step own (collections.asked old.job old.need) reply)
Takes old new reply = Unit {0}

more_at : (old new : Progress) (a : Asked) (reply : depots.Reply) → ((own : List depots.Step) → Stands old own → Stands new (collections.with_step own a reply))
    → (steps more : List Step) → job.Adds (asked_by a) (by_depot reply) more → StandsFor old steps → StandsFor new (steps ++ more)
more_at old new (a_call call) reply takes steps more adds l = lifted_more (Stands old) (Stands new) (depots.step call reply) takes steps more adds l
more_at old new (an_end end) reply takes steps more adds l = absurd adds

pub takes_more : (old new : Progress) (reply : Reply) → Admits old reply → Takes old new reply → (steps more : List Step) → job.Adds (asked old) reply more → StandsFor old steps
    → StandsFor new (steps ++ more)
takes_more old new (by_depot reply) a takes steps more adds l = more_at old new (collections.asked old.job old.need) reply takes steps more adds l
takes_more old new reply a takes steps more adds l = absurd a

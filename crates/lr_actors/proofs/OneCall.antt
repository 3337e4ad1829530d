-- a job of one call: with its reply it is a walk
use Rattle.std.proofs.Common.{◌≡◌, List, [], ◌∷◌, ◌++◌, refl, sym, subst, append-nil}
use Rattle.lr_walk.specs.declared.trail.Answer.{Answer}
use Rattle.lr_walk.specs.Steps.{Reply, by_cache, by_node, by_depot, Step, step}
use Rattle.lr_walk.specs.Depot as depots
use Rattle.lr_walk.specs.Cache as caches
use Rattle.lr_walk.specs.Node as nodes
use Rattle.lr_actors.specs.declared.single.Single.{Single}
use Rattle.lr_actors.specs.declared.single.Single.TheVariants as one
use Rattle.lr_actors.specs.Asked.{a_call, an_end, Adds}
use Rattle.lr_actors.specs.Singles.{MakesOne, call_of, answer_of, Need, asking, ended, Progress, Stands, StandsFor, IsFront, asked, AdmitsOne, Admits, advanced}

one_step : (single : Single) (reply : Reply) → AdmitsOne single reply → MakesOne single (step (call_of single) reply ∷ []) (answer_of reply)
one_step (one.Evict host) (by_cache (caches.evicted n)) a = (by_cache (caches.evicted n), _, [], refl, (refl, tt), (refl, refl))
one_step (one.Evict host) (by_cache caches.memory) a = (by_cache caches.memory, _, [], refl, (refl, tt), (refl, refl))
one_step (one.Evict host) reply a = absurd a
one_step (one.Drop node name index) (by_node nodes.dropped) a = (by_node nodes.dropped, _, [], refl, (refl, tt), (refl, refl))
one_step (one.Drop node name index) (by_node nodes.absent) a = (by_node nodes.absent, _, [], refl, (refl, tt), (refl, refl))
one_step (one.Drop node name index) (by_node nodes.memory) a = (by_node nodes.memory, _, [], refl, (refl, tt), (refl, refl))
one_step (one.Drop node name index) reply a = absurd a
one_step (one.Flip node name index at) (by_node nodes.flipped) a = (by_node nodes.flipped, _, [], refl, (refl, tt), (refl, refl))
one_step (one.Flip node name index at) (by_node nodes.absent) a = (by_node nodes.absent, _, [], refl, (refl, tt), (refl, refl))
one_step (one.Flip node name index at) (by_node nodes.memory) a = (by_node nodes.memory, _, [], refl, (refl, tt), (refl, refl))
one_step (one.Flip node name index at) reply a = absurd a
one_step (one.Lose node) (by_node (nodes.lost n)) a = (by_node (nodes.lost n), _, [], refl, (refl, tt), (refl, refl))
one_step (one.Lose node) (by_node nodes.memory) a = (by_node nodes.memory, _, [], refl, (refl, tt), (refl, refl))
one_step (one.Lose node) reply a = absurd a
one_step (one.Close lease) (by_depot depots.closed) a = (by_depot depots.closed, _, [], refl, (refl, tt), (refl, refl))
one_step (one.Close lease) (by_depot depots.memory) a = (by_depot depots.memory, _, [], refl, (refl, tt), (refl, refl))
one_step (one.Close lease) reply a = absurd a

-- no call of these is answered Busy
adds_one : (single : Single) (reply : Reply) (more : List Step) → AdmitsOne single reply → Adds (a_call (call_of single)) reply more → more ≡ step (call_of single) reply ∷ []
adds_one (one.Evict host) (by_cache (caches.busy holder)) more a adds = absurd a
adds_one (one.Drop node name index) (by_cache (caches.busy holder)) more a adds = absurd a
adds_one (one.Flip node name index at) (by_cache (caches.busy holder)) more a adds = absurd a
adds_one (one.Lose node) (by_cache (caches.busy holder)) more a adds = absurd a
adds_one (one.Close lease) (by_cache (caches.busy holder)) more a adds = absurd a
adds_one single reply more a adds = adds

made : (single : Single) (reply : Reply) (steps more : List Step) → AdmitsOne single reply → Adds (a_call (call_of single)) reply more → steps ≡ []
    → MakesOne single (steps ++ more) (answer_of reply)
made single reply steps more a adds none =
    subst (λ (l : List Step). MakesOne single l (answer_of reply)) (sym (λ i. none i ++ adds_one single reply more a adds i)) (one_step single reply a)

moves : (single : Single) (need : Need) (reply : Reply) (steps more : List Step) → Admits single need reply → Adds (asked single need) reply more → Stands single need steps
    → MakesOne single (steps ++ more) (answer_of reply)
moves single asking reply steps more a adds stands = made single reply steps more a adds stands
moves single (ended answer) reply steps more a adds stands = absurd a

pub takes_more : (old new : Progress) (reply : Reply) (steps more : List Step) → new.single ≡ old.single → Admits old.single old.need reply → new.need ≡ advanced reply
    → Adds (asked old.single old.need) reply more → StandsFor old steps → StandsFor new (steps ++ more)
takes_more old new reply steps more same a next adds stands =
    subst (λ (q : Need). Stands new.single q (steps ++ more)) (sym next)
    (subst (λ (s : Single). MakesOne s (steps ++ more) (answer_of reply)) (sym same) (moves old.single old.need reply steps more a adds stands))

pub is_front : (p : Progress) (steps more : List Step) (reply : Reply) → Admits p.single p.need reply → Adds (asked p.single p.need) reply more → StandsFor p steps
    → IsFront p.single (steps ++ more)
is_front p steps more reply a adds stands =
    ([], answer_of reply, subst (λ (l : List Step). MakesOne p.single l (answer_of reply)) (sym (append-nil (steps ++ more))) (moves p.single p.need reply steps more a adds stands))

ends_at : (single : Single) (need : Need) (answer : Answer) → asked single need ≡ an_end answer → need ≡ ended answer
ends_at single (ended last) answer e = cc
ends_at single asking answer e = cc

pub is_walk : (p : Progress) (steps : List Step) (answer : Answer) → asked p.single p.need ≡ an_end answer → StandsFor p steps → MakesOne p.single steps answer
is_walk p steps answer e stands = subst (λ (q : Need). Stands p.single q steps) (ends_at p.single p.need answer e) stands

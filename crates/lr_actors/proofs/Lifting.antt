-- depot calls as a job's
use Rattle.std.proofs.Common.{◌≡◌, List, [], ◌∷◌, ◌++◌, map, refl, sym, ap, ◌∙◌}
use Rattle.std.proofs.lemmas.List.{map-append}
use Rattle.lr_walk.specs.declared.trail.Answer.{Answer}
use Rattle.lr_walk.specs.Walk.{Walks}
use Rattle.lr_walk.specs.Stands.{IsFront}
use Rattle.lr_walk.specs.Steps.{Step, depot_step}
use Rattle.lr_walk.specs.Depot as depots
use Rattle.lr_actors.specs.Lifted.{OfDepot, Lifted}

pub lifted_none : (passes : List depots.Step → Type 0) → passes [] → Lifted passes []
lifted_none passes p = ([], refl, p)

pub lifted_walk : {E : Type 0} (answer_of : E → Answer) (walk : Walks depots.Step E) (passes : List depots.Step → Type 0) (end : E) → ((own : List depots.Step) → passes own → walk own end)
    → (steps : List Step) (answer : Answer) → answer ≡ answer_of end → Lifted passes steps → OfDepot answer_of walk steps answer
lifted_walk answer_of walk passes end ends steps answer e l = (end, (l.0, l.1, ends l.0 l.2), e)

pub lifted_more : (old new : List depots.Step → Type 0) (s : depots.Step) → ((own : List depots.Step) → old own → new (own ++ s ∷ []))
    → (steps more : List Step) → more ≡ depot_step s ∷ [] → Lifted old steps → Lifted new (steps ++ more)
lifted_more old new s goes steps more e l =
    (l.0 ++ s ∷ [], (λ i. l.1 i ++ e i) ∙ sym (map-append depot_step l.0 (s ∷ [])), goes l.0 l.2)

pub lifted_front : {E : Type 0} (answer_of : E → Answer) (walk : Walks depots.Step E) (own : List depots.Step) → IsFront walk own → (steps : List Step) → steps ≡ map depot_step own
    → IsFront (OfDepot answer_of walk) steps
lifted_front answer_of walk own f steps e =
    (map depot_step f.0, answer_of f.1, (f.1, (own ++ f.0, ap (λ l. l ++ map depot_step f.0) e ∙ sym (map-append depot_step own f.0), f.2), refl))

-- What a machine under way stands for: lists of steps that it made and, where its owner gives it something, of what it was given.
-- Nothing of these is stored; they are those which, with all that may still come, make a walk.
use Rattle.std.specs.Prelude.{List, ◌∷◌, ◌++◌}
use Rattle.lr_walk.specs.Walk.{Walks}

-- `rest need` is what may still come at a need. With it, the steps made are a walk.
abbrev pub Stands : {S E N : Type 0} → Walks S E → (N → Walks S E) → N → List S → Type 0
Stands {S} {E} {N} walk rest need steps = (tail : List S) (ending : E) → rest need tail ending → walk (steps ++ tail) ending

-- a walk, or the front of one
abbrev pub IsFront : {S E : Type 0} → Walks S E → List S → Type 0
IsFront {S} {E} walk steps = (tail : List S) × (ending : E) × walk (steps ++ tail) ending

-- with this step first, what may come at the new need may come at the old one
abbrev pub Steps : {S E N : Type 0} → (N → Walks S E) → N → S → N → Type 0
Steps {S} {E} {N} rest old step new = (tail : List S) (ending : E) → rest new tail ending → rest old (step ∷ tail) ending

-- walks of what is given
abbrev pub Given : Type 0 → Type 0 → Type 0 → Type 1
Given P S E = List P → Walks S E

-- With all that may still be given and all that may still come, what was given and the steps made are a walk.
abbrev pub StandsFor : {P S E N : Type 0} → Given P S E → (N → Given P S E) → N → List P → List S → Type 0
StandsFor {P} {S} {E} {N} walk rest need given steps = (more : List P) → Stands (walk (given ++ more)) (λ (n : N). rest n more) need steps

-- a walk, or the front of one for what begins with what is given
abbrev pub IsPrefix : {P S E : Type 0} → Given P S E → List P → List S → Type 0
IsPrefix {P} {S} {E} walk given steps = (more : List P) × IsFront (walk (given ++ more)) steps

-- with this step first, what may come at the new need may come at the old one, whatever is still given
abbrev pub Follows : {P S E N : Type 0} → (N → Given P S E) → N → S → N → Type 0
Follows {P} {S} {E} {N} rest old step new = (more : List P) → Steps (λ (n : N). rest n more) old step new

-- with this piece first, what may come at the new need may come at the old one
abbrev pub TakesIn : {P S E N : Type 0} → (N → Given P S E) → N → P → N → Type 0
TakesIn {P} {S} {E} rest old piece new =
    (more : List P) (tail : List S) (ending : E) → rest new more tail ending → rest old (piece ∷ more) tail ending

-- what may come at the new need may come at the old one
abbrev pub LeadsOn : {P S E N : Type 0} → (N → Given P S E) → N → N → Type 0
LeadsOn {P} {S} {E} rest old new = (more : List P) (tail : List S) (ending : E) → rest new more tail ending → rest old more tail ending

-- from the need a walk can be ended
abbrev pub Completes : {P S E N : Type 0} → (N → Given P S E) → N → Type 0
Completes {P} {S} {E} rest need = (more : List P) × (tail : List S) × (ending : E) × rest need more tail ending

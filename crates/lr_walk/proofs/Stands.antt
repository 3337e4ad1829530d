-- what machines stand for
use Rattle.std.proofs.Common.{List, [], ◌∷◌, ◌++◌, refl, sym, ap, subst, append-nil}
use Rattle.std.proofs.lemmas.List.{append_assoc}
use Rattle.lr_walk.specs.Walk.{Walks, Then, Within}
use Rattle.lr_walk.specs.Stands.{Stands, IsFront, Steps, Given, StandsFor, IsPrefix, Follows, TakesIn, LeadsOn, Completes}

-- ---- machines that are given nothing

pub made_more : {S E N : Type 0} (walk : Walks S E) (rest : N → Walks S E) (old new : N) (s : S) → Steps rest old s new → (steps : List S)
    → Stands walk rest old steps → Stands walk rest new (steps ++ s ∷ [])
made_more walk rest old new s on steps stands =
    λ tail ending r. subst (λ l. walk l ending) (sym (append_assoc steps (s ∷ []) tail)) (stands (s ∷ tail) ending (on tail ending r))

pub made_front : {S E N : Type 0} (walk : Walks S E) (rest : N → Walks S E) (need : N) (tail : List S) (end : E) → rest need tail end → (steps : List S)
    → Stands walk rest need steps → IsFront walk steps
made_front walk rest need tail end r steps stands = (tail, end, stands tail end r)

pub made_walk : {S E N : Type 0} (walk : Walks S E) (rest : N → Walks S E) (need : N) (end : E) → rest need [] end → (steps : List S)
    → Stands walk rest need steps → walk steps end
made_walk walk rest need end r steps stands = subst (λ l. walk l end) (append-nil steps) (stands [] end r)

-- ---- machines that are given something

pub stands_more : {P S E N : Type 0} (walk : Given P S E) (rest : N → Given P S E) (old new : N) (s : S) → Follows rest old s new → (given : List P) (steps : List S)
    → StandsFor walk rest old given steps → StandsFor walk rest new given (steps ++ s ∷ [])
stands_more {P} {S} {E} {N} walk rest old new s follows given steps stands = λ more.
    made_more (walk (given ++ more)) (λ (n : N). rest n more) old new s (follows more) steps (stands more)

pub stands_given : {P S E N : Type 0} (walk : Given P S E) (rest : N → Given P S E) (old new : N) (p : P) → TakesIn rest old p new → (given : List P) (steps : List S)
    → StandsFor walk rest old given steps → StandsFor walk rest new (given ++ p ∷ []) steps
stands_given walk rest old new p takes given steps stands =
    λ more tail ending r. subst (λ l. walk l (steps ++ tail) ending) (sym (append_assoc given (p ∷ []) more)) (stands (p ∷ more) tail ending (takes more tail ending r))

pub stands_on : {P S E N : Type 0} (walk : Given P S E) (rest : N → Given P S E) (old new : N) → LeadsOn rest old new → (given : List P) (steps : List S)
    → StandsFor walk rest old given steps → StandsFor walk rest new given steps
stands_on walk rest old new leads given steps stands = λ more tail ending r. stands more tail ending (leads more tail ending r)

pub is_prefix : {P S E N : Type 0} (walk : Given P S E) (rest : N → Given P S E) (need : N) → Completes rest need → (given : List P) (steps : List S)
    → StandsFor walk rest need given steps → IsPrefix walk given steps
is_prefix walk rest need c given steps stands = (c.0, (c.1, c.2, stands c.0 c.1 c.2 c.3))

pub is_walk : {P S E N : Type 0} (walk : Given P S E) (rest : N → Given P S E) (need : N) (end : E) → rest need [] [] end → (given : List P) (steps : List S)
    → StandsFor walk rest need given steps → walk given steps end
is_walk walk rest need end r given steps stands =
    subst (λ l. walk l steps end) (append-nil given) (subst (λ l. walk (given ++ []) l end) (append-nil steps) (stands [] [] end r))

-- ---- one walk after another, and a walk among steps of more kinds

pub then_steps : {S E F N : Type 0} (rest : N → Walks S E) (q : E → Walks S F) (old new : N) (s : S) → Steps rest old s new
    → Steps (λ (n : N). Then (rest n) q) old s new
then_steps rest q old new s on = λ tail ending r.
    (s ∷ r.0, r.1, r.2, ap (λ l. s ∷ l) r.3, on r.0 r.2 r.4, r.5)

pub then_ends : {S E F : Type 0} (p : Walks S E) (q : E → Walks S F) (end : E) → p [] end → (steps : List S) (ending : F)
    → q end steps ending → Then p q steps ending
then_ends p q end ends steps ending r = ([], steps, end, refl, ends, r)

pub within_steps : {S T E N : Type 0} (kind : S → T) (rest : N → Walks S E) (old new : N) (s : S) → Steps rest old s new
    → Steps (λ (n : N). Within kind (rest n)) old (kind s) new
within_steps kind rest old new s on = λ tail ending r.
    (s ∷ r.0, ap (λ l. kind s ∷ l) r.1, on r.0 ending r.2)

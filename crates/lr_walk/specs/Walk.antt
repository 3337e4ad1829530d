-- Walks: which finished lists of steps may be made, and what each ends with. Of any kind of steps.
use Rattle.std.specs.Prelude.{◌≡◌, ◌⊎◌, List, [], ◌∷◌, ◌++◌, map, Bool, true, false}

-- a call with its reply
pub record Step (C R : Type 0) : Type 0 where
  pub call : C
  pub reply : R

abbrev pub step : {C R : Type 0} → C → R → Step C R
step call reply = record { call = call; reply = reply }

-- lists of steps, each with what it ends with
abbrev pub Walks : Type 0 → Type 0 → Type 1
Walks S E = List S → E → Type 0

-- no step, and this ending
abbrev pub Ends : {S E : Type 0} → E → Walks S E
Ends end steps ending = (steps ≡ []) × (ending ≡ end)

-- nothing may come
abbrev pub Never : {S E : Type 0} → Walks S E
Never steps ending = ⊥

-- first a step that tells of a reply, and after it what the reply asks for
abbrev pub Begins : {S E R : Type 0} → (R → S → Type 0) → (R → Walks S E) → Walks S E
Begins {S} {E} {R} Tells after steps ending =
    (reply : R) × (first : S) × (tail : List S) × (steps ≡ first ∷ tail) × Tells reply first × after reply tail ending

-- The step is this call with this reply, and the called object may give it.
abbrev pub IsStep : {C R : Type 0} → (C → R → Type 0) → C → R → Step C R → Type 0
IsStep Answers call reply s = (s ≡ step call reply) × Answers call reply

-- one of two
abbrev pub Or : {S E : Type 0} → Walks S E → Walks S E → Walks S E
Or p q steps ending = p steps ending ⊎ q steps ending

-- the one that the test says
abbrev pub Choose : {S E : Type 0} → Bool → Walks S E → Walks S E → Walks S E
Choose true p q = p
Choose false p q = q

-- first the one, and after it what its ending asks for
abbrev pub Then : {S E F : Type 0} → Walks S E → (E → Walks S F) → Walks S F
Then {S} {E} {F} p q steps ending =
    (front : List S) × (rest : List S) × (end : E) × (steps ≡ front ++ rest) × p front end × q end rest ending

-- a walk of steps of one kind, as steps of another kind that has them
abbrev pub Within : {S T E : Type 0} → (S → T) → Walks S E → Walks T E
Within {S} {T} {E} kind p steps ending = (own : List S) × (steps ≡ map kind own) × p own ending

-- What steps of a walk say to a history: which of them commit, which pieces they used, and what they loaded.
use Rattle.std.proofs.Common.{◌≡◌, ℕ, List, [], ◌∷◌, ◌++◌, Some, cond, nat_eq, refl, ap, ◌∙◌}
use Rattle.std.specs.Prelude.{⊤}
use Rattle.std.specs.List.{AllByRecursion, flat_map}
use Rattle.lr_walk.specs.Walk.{Walks}
use Rattle.lr_walk.specs.Steps.{Call, on_device, Reply, by_device, Step, step, Answers, Asks}
use Rattle.lr_walk.specs.Device.{Piece}
use Rattle.lr_walk.specs.Device as devices
use Rattle.lr_history.specs.Jobs.{IsApart}
use Rattle.lr_history.specs.Answered.{Outcome, committed_by, committed_in}

-- a step that is asked for, and what comes after it
pub asked : {E : Type 0} (call : Call) (after : Reply → Walks Step E) (steps : List Step) (ending : E) → Asks call after steps ending
    → (reply : Reply) × (tail : List Step) × (steps ≡ step call reply ∷ tail) × Answers call reply × after reply tail ending
asked call after steps ending w = (w.0, w.2, w.3 ∙ ap (λ (s : Step). s ∷ w.2) w.4.0, w.4.1, w.5)

-- the pieces that a step used of a device
abbrev pub used_of : ℕ → Call → Reply → List Piece
used_of device (on_device d (devices.commits (Some call) used)) (by_device (devices.committed reply)) = cond (nat_eq d device) used []
used_of device call reply = []

abbrev pub used_in : ℕ → List Step → List Piece
used_in device steps = flat_map (λ (s : Step). used_of device s.call s.reply) steps

-- a step that commits nothing, of whichever device
pub record IsQuiet (call : Call) (reply : Reply) : Type 0 where
  pub committed : (device : ℕ) → committed_by device call reply ≡ []
  pub used : (device : ℕ) → used_of device call reply ≡ []

abbrev pub Plain : List Step → Type 0
Plain steps = AllByRecursion (λ (s : Step). IsQuiet s.call s.reply) steps

-- ---- lists of which each element passes

pub all_append : {X : Type 0} (P : X → Type 0) (xs ys : List X) → AllByRecursion P xs → AllByRecursion P ys → AllByRecursion P (xs ++ ys)
all_append P [] ys h k = k
all_append P (x ∷ xs) ys h k = (h.0, all_append P xs ys h.1 k)

pub all_front : {X : Type 0} (P : X → Type 0) (xs ys : List X) → AllByRecursion P (xs ++ ys) → AllByRecursion P xs
all_front P [] ys h = tt
all_front P (x ∷ xs) ys h = (h.0, all_front P xs ys h.1)

pub all_back : {X : Type 0} (P : X → Type 0) (xs ys : List X) → AllByRecursion P (xs ++ ys) → AllByRecursion P ys
all_back P [] ys h = h
all_back P (x ∷ xs) ys h = all_back P xs ys h.1

pub all_weaker : {X : Type 0} (P Q : X → Type 0) → ((x : X) → P x → Q x) → (xs : List X) → AllByRecursion P xs → AllByRecursion Q xs
all_weaker P Q w [] h = tt
all_weaker P Q w (x ∷ xs) h = (w x h.0, all_weaker P Q w xs h.1)

pub all_every : {X : Type 0} (P : X → Type 0) → ((x : X) → P x) → (xs : List X) → AllByRecursion P xs
all_every P w [] = tt
all_every P w (x ∷ xs) = (w x, all_every P w xs)

-- ---- steps that commit nothing

abbrev pub IsNoCommit : Call → Type 0
IsNoCommit (on_device d (devices.commits plan used)) = ⊥
IsNoCommit call = ⊤

committed_none : (device : ℕ) (call : Call) (reply : Reply) → IsNoCommit call → committed_by device call reply ≡ []
committed_none device (on_device d (devices.commits plan used)) reply n = absurd n
committed_none device call reply n = refl

used_none : (device : ℕ) (call : Call) (reply : Reply) → IsNoCommit call → used_of device call reply ≡ []
used_none device (on_device d (devices.commits plan used)) reply n = absurd n
used_none device call reply n = refl

-- each step of a device call's walk but its commit
pub quiet : (call : Call) (reply : Reply) → IsNoCommit call → IsQuiet call reply
quiet call reply n = record {
  committed = λ device. committed_none device call reply n;
  used = λ device. used_none device call reply n;
}

apart_committed : (device : ℕ) (call : Call) (reply : Reply) → IsApart call → committed_by device call reply ≡ []
apart_committed device (on_device d call) reply h = absurd h
apart_committed device call reply h = refl

apart_used : (device : ℕ) (call : Call) (reply : Reply) → IsApart call → used_of device call reply ≡ []
apart_used device (on_device d call) reply h = absurd h
apart_used device call reply h = refl

-- each step of a job that calls no device
pub quiet_apart : (call : Call) (reply : Reply) → IsApart call → IsQuiet call reply
quiet_apart call reply h = record {
  committed = λ device. apart_committed device call reply h;
  used = λ device. apart_used device call reply h;
}

pub plain_committed : (device : ℕ) (steps : List Step) → Plain steps → committed_in device steps ≡ []
plain_committed device [] h = refl
plain_committed device (s ∷ steps) h =
    ap (λ (l : List Outcome). l ++ committed_in device steps) (h.0.committed device) ∙ plain_committed device steps h.1

pub plain_used : (device : ℕ) (steps : List Step) → Plain steps → used_in device steps ≡ []
plain_used device [] h = refl
plain_used device (s ∷ steps) h =
    ap (λ (l : List Piece). l ++ used_in device steps) (h.0.used device) ∙ plain_used device steps h.1

-- What holds of each beginning of a list of steps.
use Rattle.std.proofs.Common.{◌≡◌, ℕ, List, [], ◌∷◌, ◌++◌, refl, subst, inl, inr}
use Rattle.std.specs.Prelude.{◌⊎◌}
use Rattle.std.specs.List.{AllByRecursion}
use Rattle.lr_walk.specs.Steps.{Step}
use Rattle.lr_history.specs.Told.{fetched_by, fetched_in, led_by, led_in, needed_by, needed_in}

-- Each beginning passes.
abbrev pub Part : (List Step → Type 0) → List Step → Type 0
Part P steps = (p later : List Step) → p ++ later ≡ steps → P p

pub part_none : (P : List Step → Type 0) (steps : List Step) → steps ≡ [] → P [] → Part P steps
part_none P steps e n [] later f = n
part_none P steps e n (x ∷ p) later f = absurd (cc)

pub part_more : (P Q : List Step → Type 0) (s : Step) (tail steps : List Step) → steps ≡ s ∷ tail → P [] → ((p : List Step) → Q p → P (s ∷ p)) → Part Q tail → Part P steps
part_more P Q s tail steps e n m h [] later f = n
part_more P Q s tail steps e n m h (x ∷ p) later f =
    let same : s ≡ x = cc in
    let rest : p ++ later ≡ tail = cc in
    subst (λ (y : Step). P (y ∷ p)) same (m p (h p later rest))

pub part_weaker : (P Q : List Step → Type 0) (steps : List Step) → ((p : List Step) → P p → Q p) → Part P steps → Part Q steps
part_weaker P Q steps w h p later e = w p (h p later e)

-- a beginning of two lists is one of the first, or the first and a beginning of the last
pub split : (p later first last : List Step) → p ++ later ≡ first ++ last
    → ((x : List Step) × (p ++ x ≡ first)) ⊎ ((q : List Step) × (p ≡ first ++ q) × (q ++ later ≡ last))
split p later [] last e = inr (p, refl, e)
split [] later (y ∷ first) last e = inl (y ∷ first, refl)
split (x ∷ p) later (y ∷ first) last e =
    let same : x ≡ y = cc in
    let rest : p ++ later ≡ first ++ last = cc in
    by same (split p later first last rest)
  where
    by : x ≡ y → ((z : List Step) × (p ++ z ≡ first)) ⊎ ((q : List Step) × (p ≡ first ++ q) × (q ++ later ≡ last))
        → ((z : List Step) × (x ∷ p ++ z ≡ y ∷ first)) ⊎ ((q : List Step) × (x ∷ p ≡ y ∷ first ++ q) × (q ++ later ≡ last))
    by same (inl l) = inl (l.0, λ i. same i ∷ l.1 i)
    by same (inr r) = inr (r.0, (λ i. same i ∷ r.1 i), r.2)

-- ---- steps that tell nothing of loads

pub record IsStill (s : Step) : Type 0 where
  pub fetched : fetched_by s.call s.reply ≡ []
  pub led : (host : ℕ) → led_by host s.call s.reply ≡ []
  pub needed : (device : ℕ) → needed_by device s.call s.reply ≡ []

pub record Still (steps : List Step) : Type 0 where
  pub fetched : fetched_in steps ≡ []
  pub led : (host : ℕ) → led_in host steps ≡ []
  pub needed : (device : ℕ) → needed_in device steps ≡ []

pub still_none : Still []
still_none = record { fetched = refl; led = λ host. refl; needed = λ device. refl }

pub still_more : (s : Step) → IsStill s → (p : List Step) → Still p → Still (s ∷ p)
still_more s h p k = record {
  fetched = λ i. h.fetched i ++ k.fetched i;
  led = λ host i. h.led host i ++ k.led host i;
  needed = λ device i. h.needed device i ++ k.needed device i;
}

pub all_still : (steps : List Step) → AllByRecursion IsStill steps → Still steps
all_still [] h = still_none
all_still (s ∷ steps) h = still_more s h.0 steps (all_still steps h.1)

-- one still step, and then what each beginning passes
pub still_first : (s : Step) (tail steps : List Step) → steps ≡ s ∷ tail → IsStill s → Part Still tail → Part Still steps
still_first s tail steps e h k = part_more Still Still s tail steps e still_none (λ p q. still_more s h p q) k

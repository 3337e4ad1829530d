-- a sweep that asks for a further key made removals alone
use Rattle.std.proofs.Common.{◌≡◌, ℕ, zero, suc, List, [], ◌∷◌, ◌++◌, map, refl, sym, ap, subst, ◌∙◌}
use Rattle.std.specs.List.{AllByRecursion}
use Rattle.lr_spec.specs.Rose.{next_count}
use Rattle.lr_origin.specs.declared.key.KeyKind.{KeyKind}
use Rattle.lr_walk.specs.declared.trail.Answer.TheVariants.{Memory}
use Rattle.lr_walk.specs.Steps.{depot_step}
use Rattle.lr_walk.specs.Steps.{Step as JobStep}
use Rattle.lr_walk.specs.Depot.{Step, step, Reply, sweeps, removed, swept}
use Rattle.lr_collector.specs.declared.collect.CollectJob.{CollectJob}
use Rattle.lr_collector.specs.declared.collect.CollectJob.TheVariants.{Sweep}
use Rattle.lr_collector.specs.Collection.{Ending, with_count, after_removal, after_last, Removes, Collects}
use Rattle.lr_collector.specs.Progress.{Progress, Need, asking, Rest}
use Rattle.lr_actors.specs.Collecting.{IsRemoval, Stops, StandsFor}

head_of : (a b : Step) (xs ys : List Step) → a ∷ xs ≡ b ∷ ys → a ≡ b
head_of a b xs ys e = cc

tail_of : (a b : Step) (xs ys : List Step) → a ∷ xs ≡ b ∷ ys → xs ≡ ys
tail_of a b xs ys e = cc

abbrev IsGone : ℕ → Step → Type 0
IsGone root s = (key : KeyKind) × (s ≡ step (sweeps root) (removed key))

removal : (root : ℕ) (more : List Step → Ending → Type 0) (x : Step) (r : Reply) (tail : List Step) (end : Ending) → x ≡ step (sweeps root) r → after_removal more r tail end
    → IsGone root x × more tail end
removal root more x (removed key) tail end e w = ((key, e), w)
removal root more x r tail end e w = absurd w

last_none : (count : ℕ) (r : Reply) (tail : List Step) (end : Ending) → after_last count r tail end → tail ≡ []
last_none count (removed key) tail end w = absurd w
last_none count r tail end w = w.0

not_empty : (own : List Step) (s : Step) → own ++ s ∷ [] ≡ [] → ⊥
not_empty [] s e = cc
not_empty (x ∷ own) s e = cc

all_gone : (root count left : ℕ) (own : List Step) (end : Ending) → Removes root count left (own ++ step (sweeps root) swept ∷ []) end → AllByRecursion (IsGone root) own
all_gone root count zero [] end w = tt
all_gone root count zero (x ∷ own) end w =
    absurd (not_empty own (step (sweeps root) swept) (tail_of x w.1 (own ++ step (sweeps root) swept ∷ []) w.2 w.3 ∙ last_none count w.0 w.2 end w.5))
all_gone root count (suc left) [] end w = tt
all_gone root count (suc left) (x ∷ own) end w =
    let is : x ≡ step (sweeps root) w.0 = head_of x w.1 (own ++ step (sweeps root) swept ∷ []) w.2 w.3 ∙ w.4.0 in
    let rest : own ++ step (sweeps root) swept ∷ [] ≡ w.2 = tail_of x w.1 (own ++ step (sweeps root) swept ∷ []) w.2 w.3 in
    let both = removal root (Removes root (next_count count) left) x w.0 w.2 end is w.5 in
    (both.0, all_gone root (next_count count) left own end (subst (λ (l : List Step). Removes root (next_count count) left l end) (sym rest) both.1))

removals : (root : ℕ) (own : List Step) → AllByRecursion (IsGone root) own → AllByRecursion (IsRemoval root) (map depot_step own)
removals root [] a = tt
removals root (x ∷ own) a = ((a.0.0, ap depot_step a.0.1), removals root own a.1)

-- with the end of the keys as its next reply the sweep is a walk
swept_next : (root count : ℕ) → Rest (Sweep root) (asking count) (step (sweeps root) swept ∷ []) (with_count count)
swept_next root count = (zero, (swept, step (sweeps root) swept, [], refl, (refl, tt), (refl, refl)))

own_gone : (root count : ℕ) (own : List Step) → ((tail : List Step) (end : Ending) → Rest (Sweep root) (asking count) tail end → Collects (Sweep root) (own ++ tail) end) → AllByRecursion (IsGone root) own
own_gone root count own stands =
    let w = stands (step (sweeps root) swept ∷ []) (with_count count) (swept_next root count) in
    all_gone root 0 w.0 own (with_count count) w.1

pub may_stop : (p : Progress) (steps : List JobStep) (root count : ℕ) → StandsFor p steps → p.need ≡ asking count → p.job ≡ Sweep root → Stops p.job steps Memory
may_stop p steps root count l n j =
    let moves : (tail : List Step) (end : Ending) → Rest (Sweep root) (asking count) tail end → Collects (Sweep root) (l.0 ++ tail) end = λ tail end r.
    subst (λ (q : CollectJob). Collects q (l.0 ++ tail) end) j
    (l.2 tail end (subst (λ (q : CollectJob). Rest q p.need tail end) (sym j) (subst (λ (k : Need). Rest (Sweep root) k tail end) (sym n) r))) in
    let gone : AllByRecursion (IsRemoval root) steps =
    subst (λ (s : List JobStep). AllByRecursion (IsRemoval root) s) (sym l.1) (removals root l.0 (own_gone root count l.0 moves)) in
    subst (λ (q : CollectJob). Stops q steps Memory) (sym j) (gone, refl)

-- What the steps of each job tell of loads, finished, cut or not begun.
use Rattle.std.proofs.Common.{◌≡◌, ℕ, List, [], ◌∷◌, ◌++◌, Some, slice_get, refl, sym, subst, append-nil, inl, inr}
use Rattle.std.specs.Prelude.{◌⊎◌}
use Rattle.std.specs.List.{AllByRecursion}
use Rattle.lr_walk.specs.declared.trail.Answer.{Answer}
use Rattle.lr_walk.specs.declared.trail.Answer.TheVariants.{Cut, Unbegun}
use Rattle.lr_walk.specs.Steps.{Call, on_device, on_cache, on_depot, Reply, Step}
use Rattle.lr_walk.specs.Cache as caches
use Rattle.lr_walk.specs.Depot as depots
use Rattle.lr_walk.specs.Calls.{DevicePlace}
use Rattle.lr_walk.specs.Jobs.{Context}
use Rattle.lr_history.specs.Jobs.{JobSeen, calls, another, IsApart, WalksSeen, OrCut}
use Rattle.lr_history.specs.Told.{fetched_by, led_by, needed_by}
use Rattle.lr_history.proofs.Facts.{all_front, all_weaker}
use Rattle.lr_history.proofs.Parts.{Part, IsStill, Still, still_none, all_still}
use Rattle.lr_history.proofs.Calling.{CallTells, call_part}

-- what a job tells
abbrev pub JobTells : Context → JobSeen → List Step → Type 0
JobTells context (calls device call) steps =
    Still steps ⊎ ((place : DevicePlace) × (slice_get context.devices device ≡ Some place) × CallTells device place call steps)
JobTells context another steps = Still steps

no_fetch : (call : Call) (reply : Reply) → IsApart call → fetched_by call reply ≡ []
no_fetch (on_depot (depots.fetches lease index)) reply l = absurd l
no_fetch call reply l = refl

no_lead : (host : ℕ) (call : Call) (reply : Reply) → IsApart call → led_by host call reply ≡ []
no_lead host (on_cache h (caches.looks name)) reply l = absurd l
no_lead host call reply l = refl

no_need : (device : ℕ) (call : Call) (reply : Reply) → IsApart call → needed_by device call reply ≡ []
no_need device (on_device d call) reply n = absurd n
no_need device call reply n = refl

all_quiet : (steps : List Step) → AllByRecursion (λ (s : Step). IsApart s.call) steps → AllByRecursion IsStill steps
all_quiet steps h =
    all_weaker (λ (s : Step). IsApart s.call) IsStill
    (λ s l. record { fetched = no_fetch s.call s.reply l; led = λ h. no_lead h s.call s.reply l; needed = λ d. no_need d s.call s.reply l }) steps h

job_part : (context : Context) (job : JobSeen) (steps : List Step) (answer : Answer) → WalksSeen context job steps answer → Part (JobTells context job) steps
job_part context (calls device call) steps answer w = λ p later e. inr (w.0, w.1, call_part w.0 device call context.nodes steps answer w.2 p later e)
job_part context another steps answer w = λ p later e.
    all_still p (all_front IsStill p later (subst (AllByRecursion IsStill) (sym e) (all_quiet steps w.0)))

whole : (context : Context) (job : JobSeen) (steps : List Step) (answer : Answer) → WalksSeen context job steps answer → JobTells context job steps
whole context job steps answer w = job_part context job steps answer w steps [] (append-nil steps)

none_told : (context : Context) (job : JobSeen) → JobTells context job []
none_told context (calls device call) = inl still_none
none_told context another = still_none

pub walk_tells : (context : Context) (job : JobSeen) (steps : List Step) (answer : Answer) → OrCut (WalksSeen context) job steps answer → JobTells context job steps
walk_tells context job steps Cut w = job_part context job (steps ++ w.2 ∷ w.3) w.4 w.6 steps (w.2 ∷ w.3) refl
walk_tells context job steps Unbegun w = subst (JobTells context job) (sym w) (none_told context job)
walk_tells context job steps answer w = whole context job steps answer w

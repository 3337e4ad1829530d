-- Jobs that end with a spoiled key.
use Rattle.std.specs.Prelude.{◌≡◌, List, ⊤}
use Rattle.std.specs.List.{AllByRecursion}
use Rattle.lr_origin.specs.declared.key.KeyKind.{KeyKind}
use Rattle.lr_walk.specs.declared.trail.Answer.TheVariants.{Spoiled}
use Rattle.lr_walk.specs.Steps.{Reply, by_depot, Step}
use Rattle.lr_walk.specs.Depot as depots
use Rattle.lr_walk.specs.Jobs.{Context}
use Rattle.lr_history.specs.Jobs.{another}
use Rattle.lr_actors.specs.Jobs.{Job, WalksJob}
use Rattle.lr_replies.specs.Seen.{seen_job}

-- the depot doesn't tell of a spoiled key
abbrev pub IsClean : depots.Reply → Type 0
IsClean (depots.spoiled key) = ⊥
IsClean reply = ⊤

abbrev pub IsUnspoiled : Reply → Type 0
IsUnspoiled (by_depot reply) = IsClean reply
IsUnspoiled reply = ⊤

-- A job other than a device call that ends with a spoiled key was told so by the depot, in one of its steps.
abbrev pub SpoiledJobsWereTold : Type 0
SpoiledJobsWereTold =
    (context : Context) (job : Job) (steps : List Step) (key : KeyKind)
    → seen_job job ≡ another → WalksJob context job steps (Spoiled key) → ¬ (AllByRecursion (λ (s : Step). IsUnspoiled s.reply) steps)

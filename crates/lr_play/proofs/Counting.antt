-- The store's count of faults never falls in a run.
use Rattle.std.proofs.Common.{◌≡◌, ◌≤◌, ℕ, List, Option, ap, arith}
use Rattle.std.specs.Prelude.{⊤}
use Rattle.lr_origin.specs.Objects.{Objects as Stored}
use Rattle.lr_depot.specs.Depot as depots
use Rattle.lr_walk.specs.Steps.{Reply}
use Rattle.lr_actors.specs.declared.action.ActorCall.{ActorCall}
use Rattle.lr_actors.specs.declared.action.ActorCall.TheVariants as call
use Rattle.lr_actors.specs.declared.action.ActorReply.{ActorReply}
use Rattle.lr_actors.specs.declared.action.ActorReply.TheVariants as by
use Rattle.lr_actors.specs.Actor as actor
use Rattle.lr_actors.specs.Actor.{Now, works, idles, reaps, over}
use Rattle.lr_world.specs.World.{Seen, Keeps, StepsNow}
use Rattle.lr_world.specs.Runs.{Runs}

module _ {O : Type 0} (objects : O → Option Stored) (faults : O → ℕ) where
  same_count : (old new : depots.Seen O) → new ≡ old → faults old.origin ≤ faults new.origin
  same_count old new e = let k : faults new.origin ≡ faults old.origin = ap (λ (d : depots.Seen O). faults d.origin) e in omega (arith, k)

  call_rises : (asked : ActorCall) (reply : ActorReply) (caller : ℕ) (old new : depots.Seen O) → Keeps objects faults asked reply caller old new → faults old.origin ≤ faults new.origin
  call_rises (call.Depot c) (by.Depot r) caller old new k = k.never_falls
  call_rises (call.Depot c) (by.Device r) caller old new k = same_count old new k
  call_rises (call.Depot c) (by.Cache r) caller old new k = same_count old new k
  call_rises (call.Depot c) (by.Node r) caller old new k = same_count old new k
  call_rises (call.Device n c) reply caller old new k = same_count old new k
  call_rises (call.Cache n c) reply caller old new k = same_count old new k
  call_rises (call.Node n c) reply caller old new k = same_count old new k

  step_rises : (allows : Reply → Type 0) (now : Now) (old : Seen O) (i : ℕ) (a : actor.Seen) (new : Seen O) → StepsNow objects faults allows now old i a new → faults old.depot.origin ≤ faults new.depot.origin
  step_rises allows over old i a new e = same_count old.depot new.depot (ap (λ (w : Seen O). w.depot) e)
  step_rises allows idles old i a new d = same_count old.depot new.depot (ap (λ (w : Seen O). w.depot) d.kept)
  step_rises allows (works r) old i a new s = call_rises s.0 s.1 a.number old.depot new.depot s.2.depot
  step_rises allows (reaps made) old i a new s = call_rises s.0 s.1 a.number old.depot new.depot s.2.depot

  pub run_rises : (old : Seen O) (steps : List ℕ) (new : Seen O) → Runs objects faults old steps new → faults old.depot.origin ≤ faults new.depot.origin
  run_rises old steps new Runs.none = omega arith
  run_rises old steps new (Runs.more {mid = mid} runs number step) =
      let before : faults old.depot.origin ≤ faults mid.depot.origin = run_rises old _ mid runs in
      let here : faults mid.depot.origin ≤ faults new.depot.origin = step_rises (λ (reply : Reply). ⊤) step.1.now mid step.0 step.1 new step.4 in
      omega (arith, before, here)

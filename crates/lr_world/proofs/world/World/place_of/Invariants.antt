use Rattle.std.proofs.Common.{◌≡◌, ◌<◌, ℕ, slice_get, Some}
use Rattle.lr_actors.specs.Actor as actor
use Rattle.lr_world.proofs.world.World.place_of.Given as goal

abbrev pub invariant-loop-at : goal.invariant-loop-at
invariant-loop-at g l = (k : ℕ) (a : actor.Seen) → k < l.at → slice_get l.self.actors.items k ≡ Some a → a.number ≡ l.number → ⊥

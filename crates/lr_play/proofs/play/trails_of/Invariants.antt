use Rattle.std.proofs.Common.{◌≡◌, ◌≤◌, ◌+◌, ◌++◌, List, vec_len, vec_capacity}
use Rattle.std.specs.List.{AllZip}
use Rattle.lr_actors.specs.Actor as actor
use Rattle.lr_actors.specs.declared.trail.Trail.{Trail}
use Rattle.lr_actors.specs.Trailed.{IsTrailOf}
use Rattle.lr_play.proofs.play.trails_of.Given as goal

abbrev pub invariant-loop-actors : goal.invariant-loop-actors
invariant-loop-actors l = record {
  room : vec_len l.trails + vec_len l.actors ≤ vec_capacity l.trails;
  len : vec_len l.trails + vec_len l.actors ≡ vec_len l.fn.trails + vec_len l.fn.actors;
  capacity : vec_capacity l.trails ≡ vec_capacity l.fn.trails;
  told : (before : List actor.Seen) × (more : List Trail) × (l.fn.actors.items ≡ before ++ l.actors.items) × (l.trails.items ≡ l.fn.trails.items ++ more) × AllZip IsTrailOf before more;
}

abbrev pub decreases-loop-actors : goal.decreases-loop-actors
decreases-loop-actors l = goal.left-loop-actors l

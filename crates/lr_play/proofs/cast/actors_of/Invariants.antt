use Rattle.std.proofs.Common.{take}
use Rattle.std.specs.Arc.{arc_value}
use Rattle.lr_script.specs.Seen.{actors_seen}
use Rattle.lr_actors.specs.Jobs.{seen_context}
use Rattle.lr_play.specs.Players.{actors_from}
use Rattle.lr_play.specs.Acting.{AreNew}
use Rattle.lr_play.proofs.cast.actors_of.Given as goal

abbrev pub invariant-loop-place : goal.invariant-loop-place
invariant-loop-place l = AreNew (seen_context (arc_value l.context)) (arc_value l.context).hosts (actors_from l.crashes 1 (actors_seen (take l.place l.actors))) l.made.items

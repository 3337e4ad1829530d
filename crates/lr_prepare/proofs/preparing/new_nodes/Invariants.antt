use Rattle.std.proofs.Common.{◌≡◌, replicate}
use Rattle.lr_prepare.specs.New.{new_node}
use Rattle.lr_prepare.proofs.preparing.new_nodes.Given as goal

abbrev pub invariant-loop-made : goal.invariant-loop-made
invariant-loop-made l = l.nodes.items ≡ replicate l.made (new_node l.capacity)

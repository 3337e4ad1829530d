-- Who has ended holds nothing, object by object.
use Rattle.lr_object.specs.declared.id.ObjectId.TheVariants.{Device, Cache, Node, Depot}
use Rattle.lr_replies.specs.Replies.{EndedHoldNone}
use Rattle.lr_world.specs.Laws.{EndedHoldsNone}

pub ended_holds : EndedHoldNone → EndedHoldsNone
ended_holds e a lists is state now stands (Device n) = e.plan a lists is state now stands n
ended_holds e a lists is state now stands (Cache h) = e.claim a lists is state now stands h
ended_holds e a lists is state now stands (Node n) = tt
ended_holds e a lists is state now stands Depot = tt

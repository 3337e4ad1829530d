-- What the machines of small jobs keep.
use Rattle.std.specs.Prelude.{Option, Some, None, ⊤}
use Rattle.lr_actors.specs.declared.action.JobAction.{JobAction}
use Rattle.lr_actors.specs.declared.single.Single.{Single}
use Rattle.lr_actors.specs.declared.single.SingleStage.{SingleStage}
use Rattle.lr_actors.specs.declared.single.SingleStage.TheVariants as single_stage
use Rattle.lr_actors.specs.Asked.{Asked, Hands, MayBeMade}
use Rattle.lr_actors.specs.Singles as singles

-- the action prepared is the one asked
abbrev pub IsPrepared : Asked → Option JobAction → Type 0
IsPrepared a (Some action) = Hands action a × MayBeMade action
IsPrepared a None = ⊤

abbrev pub single_need : SingleStage → singles.Need
single_need single_stage.Asks = singles.asking
single_need (single_stage.Ends end) = singles.ended end.value

abbrev pub IsPreparedSingle : Single → SingleStage → Option JobAction → Type 0
IsPreparedSingle single stage ready = IsPrepared (singles.asked single (single_need stage)) ready

use Rattle.std.proofs.Common.{◌^◌}
use Rattle.lr_opening.proofs.Bounded.{fewer_not_many}
use Rattle.lr_opening.proofs.Ruled.{sound_has_none_foreign}
use Rattle.lr_opening.proofs.Views.{one_view, sound_store_is_not_foreign}
use Rattle.lr_opening.proofs.laws.sound_stores_open.Goals as goal

pub returns : goal.returns
returns c = record { one_view = one_view; rules = sound_has_none_foreign; keys = sound_store_is_not_foreign; few = λ m fewer many. fewer_not_many m (2 ^ 32) fewer many }

use Rattle.std.proofs.Common.{sym, subst}
use Rattle.lr_turn.specs.Called.{AllJoined}
use Rattle.lr_turn.proofs.shared.Shared.close.Goals as goal

pub finish-requires-clause-joined : goal.finish-requires-clause-joined
finish-requires-clause-joined g c = subst (λ m. AllJoined m.0) (sym c.remember-place.ensures.place.2) c.requires.joined

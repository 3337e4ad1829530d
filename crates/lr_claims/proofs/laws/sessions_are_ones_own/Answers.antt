use Rattle.lr_claims.proofs.Sessions.{ones_own, refused_own}
use Rattle.lr_claims.proofs.laws.sessions_are_ones_own.Goals as goal

pub returns : goal.returns
returns c = record { own = ones_own; refused = refused_own }

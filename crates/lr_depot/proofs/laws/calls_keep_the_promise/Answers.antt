use Rattle.lr_rules.proofs.Parts.{safe_parts}
use Rattle.lr_rules.proofs.Start.{start_safe}
use Rattle.lr_depot.specs.Depot.{first_state, state}
use Rattle.lr_depot.proofs.Moved.{run_safe}
use Rattle.lr_depot.proofs.Owing.{owed_is_homed}
use Rattle.lr_depot.proofs.laws.calls_keep_the_promise.Goals as goal

pub returns : goal.returns
returns c = record {
  parts = λ start log begun is. safe_parts (state start log) (run_safe (first_state start) log (start_safe start.view start.number begun.may) is);
  homed = λ start log begun is image owed. owed_is_homed start.view start.number log begun.may is image owed;
}

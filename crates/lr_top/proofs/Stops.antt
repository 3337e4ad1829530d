-- where no line stopped the setup
use Rattle.std.proofs.Common.{[], append-nil, refl, sym}
use Rattle.lr_depot.specs.Depot.{Seen}
use Rattle.lr_script.specs.Seen.{ScriptSeen}
use Rattle.lr_actors.specs.declared.place.Parts.{Parts}
use Rattle.lr_actors.specs.declared.place.Context.{Context}
use Rattle.lr_prepare.specs.declared.error.SetupError.TheVariants.{OutOfMemory}
use Rattle.lr_prepare.specs.Prepared.{IsPrepared}
use Rattle.lr_prepare.specs.Stopped.{IsLeft}

pub all_done : {O : Type 0} (script : ScriptSeen) (first : Seen O) (parts : Parts O) (context : Context) → IsPrepared script first parts context → IsLeft first.start script.setup parts.depot.log OutOfMemory
all_done script first parts context p = record {
  front = script.setup;
  rest = [];
  all = sym (append-nil script.setup);
  lines = p.lines;
  are = p.are;
  done = parts.depot.log;
  ran = p.ran;
  steps = [];
  goes_on = record { own = []; after = sym (append-nil parts.depot.log); steps_of = refl; callers = tt };
  legal = p.legal;
  stopped = (refl, refl);
}

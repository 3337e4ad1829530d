use Rattle.lr_rules.proofs.Start.{start_safe}
use Rattle.lr_depot.specs.Depot.{first_state, state}
use Rattle.lr_depot.proofs.Followed.{start_follows, leads_follows, closing_sound, never_spoiled}
use Rattle.lr_depot.proofs.Logged.{leads_run}
use Rattle.lr_depot.proofs.Closing.{keeps_store}
use Rattle.lr_depot.proofs.Moved.{run_safe}
use Rattle.lr_depot.proofs.laws.store_stays_sound.Goals as goal

pub returns : goal.returns
returns c = record {
  sound = λ start m n log led chunks. closing_sound start.view start.number m log n led.begun.may led.mirrors chunks led.leads;
  kept = λ start m n log led. keeps_store start m log n led;
  unspoiled = λ start m n log led chunks caller call k o step stores.
      let safe = start_safe start.view start.number led.begun.may in
      let ends = leads_follows (first_state start) m log n safe led.leads (start_follows start.view start.number m led.mirrors, chunks) in
      never_spoiled (state start log) (run_safe (first_state start) log safe (leads_run (first_state start) m log n led.leads)) caller call k n o ends.0 ends.1 step stores;
}

use Rattle.lr_depot.specs.declared.call.DepotNoted.TheVariants as noted
use Rattle.lr_depot.specs.declared.call.DepotTold.TheVariants as told
use Rattle.lr_depot.specs.Depot.{first_state}
use Rattle.lr_depot.proofs.Lasting.{last_begins, session_lasts}
use Rattle.lr_depot.proofs.laws.sessions_last.Goals as goal

pub returns : goal.returns
returns c = record {
  begun = λ start log e image session root bytes number is call reply. last_begins (first_state start) log e (noted.BeginCreate image) (told.Began session root bytes number) is call reply;
  moving = λ start log e image session from to m is call reply. last_begins (first_state start) log e (noted.BeginMigrate image) (told.Moving session from to m) is call reply;
  held = λ start log more n b j begun is holds leaves sure. session_lasts start.view start.number log more begun.may is n b j holds leaves sure;
}

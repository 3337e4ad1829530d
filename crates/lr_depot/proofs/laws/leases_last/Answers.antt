use Rattle.lr_depot.specs.declared.call.DepotNoted.TheVariants as noted
use Rattle.lr_depot.specs.declared.call.DepotTold.TheVariants as told
use Rattle.lr_depot.specs.Depot.{first_state}
use Rattle.lr_depot.proofs.Lasting.{last_begins, lease_lasts}
use Rattle.lr_depot.proofs.laws.leases_last.Goals as goal

pub returns : goal.returns
returns c = record {
  opened = λ start log e image lease m is call reply. last_begins (first_state start) log e (noted.OpenImage image) (told.Opened lease m) is call reply;
  out = λ start log more lease image m begun is out leaves. lease_lasts start.view start.number log more begun.may is lease (image, m) out leaves;
}

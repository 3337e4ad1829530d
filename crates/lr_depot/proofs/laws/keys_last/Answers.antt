use Rattle.lr_origin.specs.declared.key.KeyKind.TheVariants as kind
use Rattle.lr_depot.specs.declared.call.DepotNoted.TheVariants as noted
use Rattle.lr_depot.specs.declared.call.DepotTold.TheVariants as told
use Rattle.std.proofs.Common.{◌++◌, subst}
use Rattle.lr_roots.specs.View.{Lacks}
use Rattle.lr_depot.specs.Depot.{first_state, state}
use Rattle.lr_depot.proofs.Lasting.{last_begins, key_lasts, fault_told_of}
use Rattle.lr_depot.proofs.laws.keys_last.Goals as goal

pub returns : goal.returns
returns c = record {
  put = λ start log e n name j is call reply holds. last_begins (first_state start) log e (noted.PutChunk n name) told.Kept is call reply j holds;
  there = λ start log more r name begun is has live. key_lasts start.view start.number log more begun.may is (kind.Chunk r name) has (λ q item. subst (λ k. Lacks (state start (log ++ more)).known.view (kind.Deleted k)) item live);
  doubted = λ start log k is has. fault_told_of start.view start.number log k is has;
}

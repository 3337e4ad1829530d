use Rattle.lr_depot.specs.Depot.{first_state}
use Rattle.lr_depot.proofs.Owing.{numbers_apart, numbers_above}
use Rattle.lr_depot.proofs.laws.numbers_are_drawn_once.Goals as goal

pub returns : goal.returns
returns c = record {
  above = λ start log is i e a at tells. numbers_above (first_state start) log is i e a at tells;
  apart = λ start log is i j e f a b less at_i at_j tells_a tells_b. numbers_apart (first_state start) log is i j e f a b less at_i at_j tells_a tells_b;
}

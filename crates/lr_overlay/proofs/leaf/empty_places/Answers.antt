use Rattle.std.proofs.Common.{None, inl, inr, arith}
use Rattle.std.proofs.lemmas.Bool.{cases_lt}
use Rattle.std.proofs.lemmas.List.{get_or_past}
use Rattle.lr_overlay.proofs.leaf.empty_places.Goals as goal

pub returns-clause-empty : goal.returns-clause-empty
returns-clause-empty c = λ at. elim (cases_lt at 128) [
  | inl within ↦ c.default.ensures.at at None within
  | inr past ↦ get_or_past c.default.result at None (omega (arith, c.default.ensures.long, past))
]

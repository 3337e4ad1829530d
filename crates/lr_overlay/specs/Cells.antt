-- An element of an array that is lent.
use Rattle.std.specs.Prelude.{ℕ, slice_set}
use Rattle.std.specs.Borrow.{Lends, Fml, RattleType, MutBor}
use Rattle.lr_overlay.specs.contracts.cells.Cells.{the_row}

module _ (T N : RattleType) (cells : MutBor (the_row T N).Denot) where
  -- The array ends with the last value behind r at this index.
  abbrev pub lends_at : ℕ → MutBor T.Denot → Fml
  lends_at i r = Lends (the_row T N) T cells r (λ x. record { all = slice_set cells.now.all i x })

-- Bytes with zeros behind, and their front.
use Rattle.std.proofs.Common.{◌≡◌, ℕ, ◌-◌, List, length, take}
use Rattle.std.proofs.Math.Seq.{take-append_seam}
use lib.ListN.{replicate}
use Rattle.lr_text.specs.Name.{padded}

pub padded_take : (n : ℕ) (xs : List ℕ) → take (length xs) (padded n xs) ≡ xs
padded_take n xs = take-append_seam xs (replicate (n - length xs) 0)

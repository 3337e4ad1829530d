-- The chunks of raw bytes: the parts of the padded bytes, the last one as it is.
use Rattle.std.specs.Prelude.{ℕ, zero, suc, List, [], ◌∷◌, length, take, drop}
use Rattle.lr_layout.specs.Padded.{padded, count_of_chunks}

-- the first n parts of this size
abbrev pub parts : ℕ → ℕ → List ℕ → List (List ℕ)
parts size zero bytes = []
parts size (suc n) bytes = take size bytes ∷ parts size n (drop size bytes)

-- the chunks of raw bytes before they are filled and sealed
unfoldable pub chunks_of : List ℕ → List (List ℕ)
chunks_of raw = parts 524288 (count_of_chunks (length raw)) (padded raw)

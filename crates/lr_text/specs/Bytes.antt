-- Lists of bytes: the runs of equal bytes that they have, and how they print.
use Rattle.std.specs.Prelude.{◌≡◌, ◌≢◌, ℕ, suc, ◌==◌, ◌<◌, List, [], ◌∷◌, ◌++◌, codes, map, length, replicate, nat_le, if◌then◌else◌}
use Rattle.std.specs.List.{flat_map, join_with_byte, AllByRecursion}
use Rattle.sha2.specs.Sha256.{sha256}
use Rattle.lr_text.specs.Words.{run_word, key_word}

-- the bytes that runs stand for
abbrev pub bytes_of_runs : List (ℕ × ℕ) → List ℕ
bytes_of_runs rs = flat_map (λ r. replicate r.0 r.1) rs

-- a byte in front of runs: one more of the first run where that one is of this byte
abbrev pub onto_runs : ℕ → List (ℕ × ℕ) → List (ℕ × ℕ)
onto_runs b [] = (1, b) ∷ []
onto_runs b (r ∷ rs) = if r.1 == b then (suc r.0, b) ∷ rs else (1, b) ∷ r ∷ rs

-- the maximal runs of a list of bytes: how many, and of which byte
abbrev pub maximal_runs : List ℕ → List (ℕ × ℕ)
maximal_runs [] = []
maximal_runs (b ∷ bs) = onto_runs b (maximal_runs bs)

-- no run is followed by one of the same byte
abbrev pub DifferInTurn : List (ℕ × ℕ) → Type 0
DifferInTurn [] = Unit {0}
DifferInTurn (r ∷ []) = Unit {0}
DifferInTurn (r ∷ s ∷ rs) = (r.1 ≢ s.1) × DifferInTurn (s ∷ rs)

-- Runs that stand for these bytes, none of them empty, and none that could be longer.
pub record AreMaximal (runs : List (ℕ × ℕ)) (bytes : List ℕ) : Type 0 where
  pub spelled : bytes_of_runs runs ≡ bytes
  pub some : AllByRecursion (λ r. 0 < r.0) runs
  pub differ : DifferInTurn runs

-- runs as words with one space between two
unfoldable pub runs_text : List (ℕ × ℕ) → List ℕ
runs_text rs = join_with_byte 32 (map run_word rs)

-- `sha256 ` and the digest of FIPS 180-4 in 64 digits
abbrev pub digest_text : List ℕ → List ℕ
digest_text bytes = codes "sha256 " ++ key_word (sha256 bytes)

-- a list of bytes: its maximal runs where there are at most 64, else its digest
unfoldable pub bytes_text : List ℕ → List ℕ
bytes_text bytes =
    if nat_le (length (maximal_runs bytes)) 64 then runs_text (maximal_runs bytes) else digest_text bytes

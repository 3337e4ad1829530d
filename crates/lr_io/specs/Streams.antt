-- What a call does to the bytes that a source has left, and to the bytes that a sink was given.
use Rattle.std.specs.Prelude.{◌≡◌, ℕ, ◌≤◌, List, [], ◌++◌, length, take, Option, Some}
use Rattle.lr_spec.specs.Told.{Told}

-- No byte is left.
abbrev pub IsAtEnd : Option (List ℕ) → Type 0
IsAtEnd left = Told left (λ xs. xs ≡ [])

-- These bytes were taken from the front of what was left, and the rest is left.
abbrev pub Takes : Option (List ℕ) → List ℕ → Option (List ℕ) → Type 0
Takes left bytes left_after = Told left (λ xs. (rest : List ℕ) × (xs ≡ bytes ++ rest) × (left_after ≡ Some rest))

-- These bytes were all that was left, and none is left.
abbrev pub TakesAll : Option (List ℕ) → List ℕ → Option (List ℕ) → Type 0
TakesAll left bytes left_after = Told left (λ xs. (xs ≡ bytes) × (left_after ≡ Some []))

-- These bytes were added to what was written.
abbrev pub Appends : Option (List ℕ) → List ℕ → Option (List ℕ) → Type 0
Appends written bytes written_after = Told written (λ xs. written_after ≡ Some (xs ++ bytes))

-- What was written is as before.
abbrev pub Keeps : Option (List ℕ) → Option (List ℕ) → Type 0
Keeps written written_after = Told written (λ xs. written_after ≡ Some xs)

-- A front of these bytes was added to what was written.
abbrev pub AppendsFront : Option (List ℕ) → List ℕ → Option (List ℕ) → Type 0
AppendsFront written bytes written_after =
    Told written (λ xs. (k : ℕ) × (k ≤ length bytes) × (written_after ≡ Some (xs ++ take k bytes)))

-- Pages over a base.
use Rattle.std.specs.Prelude.{◌≡◌, ℕ, ◌+◌, ◌-◌, ◌/◌, ◌%◌, ◌<◌, ◌≤◌, replicate, List, [], ◌∷◌, ◌++◌, length, take, drop, Bool, true, nat_lt, Option, Some, None, unwrap_or, get_or, ⊤}
use Rattle.std.specs.Option.{is_some}

-- the pages of a device: written, with their bytes, or not
abbrev pub Pages : Type 0
Pages = List (Option (List ℕ))

-- an overlay, as contracts see it: its pages, and for how many pages each chunk has a place
pub record OverlaySeen : Type 0 where
  pub pages : Pages
  pub leaves : List ℕ

-- whether a page has a place
abbrev pub is_placed : List ℕ → ℕ → Bool
is_placed leaves page = nat_lt (page % 128) (get_or leaves (page / 128) 0)

-- So many pages from the first on have a place.
abbrev pub HasPlaces : List ℕ → ℕ → ℕ → Type 0
HasPlaces leaves first count = (page : ℕ) → first ≤ page → page < first + count → is_placed leaves page ≡ true

-- What had a place has it still.
abbrev pub KeepsPlaces : List ℕ → List ℕ → Type 0
KeepsPlaces was now = (page : ℕ) → is_placed was page ≡ true → is_placed now page ≡ true

-- A page that is written has this many bytes.
abbrev pub HasLength : ℕ → Option (List ℕ) → Type 0
HasLength size None = ⊤
HasLength size (Some bytes) = length bytes ≡ size

-- a list of this length: cut, or with zeros behind it
unfoldable pub fitted : ℕ → List ℕ → List ℕ
fitted size bytes = take size (bytes ++ replicate (size - length bytes) 0)

-- whether a page is written
abbrev pub is_written : Pages → ℕ → Bool
is_written pages page = is_some (get_or pages page None)

-- the list with these bytes from a place on
abbrev pub put : List ℕ → ℕ → List ℕ → List ℕ
put xs at bytes = take at xs ++ (bytes ++ drop (at + length bytes) xs)

-- the written pages over a base
abbrev pub over : ℕ → Pages → List ℕ → List ℕ
over size [] base = []
over size (page ∷ pages) base = unwrap_or page (take size base) ++ over size pages (drop size base)

-- The text of a key.
use Rattle.std.specs.Prelude.{ℕ, ◌+◌, ◌/◌, ◌%◌, ◌≤◌, ◌-◌, ◌*◌, slice_index, List, [], ◌∷◌, ◌++◌, codes, IsTrue}
use Rattle.lr_text.specs.Name.{is_name}
use Rattle.lr_text.specs.Words.{IsKey, key_word}
use Rattle.lr_origin.specs.declared.key.KeyKind.{KeyKind}
use Rattle.lr_origin.specs.declared.key.KeyKind.TheVariants.{Root, Expired, Deleted, Chunk, Manifest, Withdrawn}

-- `r/`, a root's number in ten decimal digits with leading zeros, and `/`
abbrev pub root_text : ℕ → List ℕ
root_text r =
    114 ∷ 47 ∷ 48 ∷ 48 ∷ 48 ∷ 48 ∷ 48 ∷ 48 ∷ (48 + r / 1000) ∷ (48 + r / 100 % 10) ∷ (48 + r / 10 % 10) ∷ (48 + r % 10) ∷ 47 ∷ []

-- the number that the last four of these digits spell
abbrev pub root_value : List ℕ → ℕ
root_value text =
    1000 * (slice_index text 8 - 48) + 100 * (slice_index text 9 - 48) + 10 * (slice_index text 10 - 48) + (slice_index text 11 - 48)

-- `r/<root>/a`, `r/<root>/e`, `r/<root>/d`, `r/<root>/c/<hex>`, `r/<root>/m/<image>`, `w/<image>`
unfoldable pub key_text : KeyKind → List ℕ
key_text (Root r) = root_text r ++ codes "a"
key_text (Expired r) = root_text r ++ codes "e"
key_text (Deleted r) = root_text r ++ codes "d"
key_text (Chunk r name) = root_text r ++ (codes "c/" ++ key_word name)
key_text (Manifest r image) = root_text r ++ (codes "m/" ++ image)
key_text (Withdrawn image) = codes "w/" ++ image

-- roots are numbered from 1 to 1,000
abbrev pub IsRoot : ℕ → Type 0
IsRoot r = (1 ≤ r) × (r ≤ 1000)

-- The root of this kind, if it has one, is within the limit.
abbrev pub HasRoot : KeyKind → Type 0
HasRoot (Root r) = IsRoot r
HasRoot (Expired r) = IsRoot r
HasRoot (Deleted r) = IsRoot r
HasRoot (Chunk r name) = IsRoot r
HasRoot (Manifest r image) = IsRoot r
HasRoot (Withdrawn image) = Unit {0}

-- A kind of the grammar: its root, its chunk's name of 32 bytes and its image's name are well formed.
abbrev pub IsKind : KeyKind → Type 0
IsKind (Root r) = IsRoot r
IsKind (Expired r) = IsRoot r
IsKind (Deleted r) = IsRoot r
IsKind (Chunk r name) = IsRoot r × IsKey name
IsKind (Manifest r image) = IsRoot r × IsTrue (is_name image)
IsKind (Withdrawn image) = IsTrue (is_name image)

-- The table of pages: a directory of chunks, each of them with the places of its pages or without any.
use Rattle.std.specs.Prelude.{ℕ, ◌/◌, ◌%◌, List, [], map, length, Option, None, get_or, option_map}
use Rattle.std.specs.List.{range_with_len}
use Rattle.lr_overlay.specs.Pages.{Pages, OverlaySeen, fitted}

-- the pages of each chunk that have places
abbrev pub Directory : Type 0
Directory = List Pages

-- what stands in the place of a page
abbrev pub place_of : Directory → ℕ → Option (List ℕ)
place_of chunks page = get_or (get_or chunks (page / 128) []) (page % 128) None

-- how many places each chunk has
abbrev pub leaves_of : Directory → List ℕ
leaves_of chunks = map length chunks

-- a page has its 4096 bytes by its type
abbrev pub shown : Option (List ℕ) → Option (List ℕ)
shown = option_map (fitted 4096)

-- the pages that a directory has, of so many
abbrev pub pages_of : Directory → ℕ → Pages
pages_of chunks count = map (λ page. shown (place_of chunks page)) (range_with_len 0 count)

-- a table of so many pages, as contracts see it
abbrev pub table : Directory → ℕ → OverlaySeen
table chunks count = record { pages = pages_of chunks count; leaves = leaves_of chunks }

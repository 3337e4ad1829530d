-- The lines of the roots of a view.
use Rattle.std.specs.Prelude.{ℕ, zero, suc, ◌==◌, nat_lt, List, [], ◌++◌, Bool, false, codes, decimal, count_by, if◌then◌else◌}
use Rattle.std.specs.List.{list_any}
use Rattle.std.specs.FinMap as map
use Rattle.lr_origin.specs.declared.key.KeyKind.{KeyKind}
use Rattle.lr_origin.specs.declared.key.KeyKind.TheVariants.{Root, Expired, Deleted, Chunk, Manifest, Withdrawn}
use Rattle.lr_roots.specs.View.{View}
use Rattle.lr_roots.specs.declared.state.RootState.{RootState}
use Rattle.lr_roots.specs.declared.state.RootState.TheVariants as state

-- a root's state in a word
abbrev pub state_word : RootState → List ℕ
state_word state.Active = codes "active"
state_word state.Retired = codes "retired"
state_word state.Expired = codes "expired"
state_word state.Deleted = codes "deleted"

-- `root N STATE`
abbrev pub root_head : ℕ → RootState → List ℕ
root_head r s = codes "root " ++ (decimal r ++ (codes " " ++ state_word s))

-- ` images I chunks C`
abbrev pub root_counts : ℕ → ℕ → List ℕ
root_counts images chunks = codes " images " ++ (decimal images ++ (codes " chunks " ++ (decimal chunks ++ codes "\n")))

-- `root N STATE images I chunks C`
unfoldable pub root_line : ℕ → RootState → ℕ → ℕ → List ℕ
root_line r s images chunks = root_head r s ++ root_counts images chunks

-- a manifest in the root
abbrev pub is_manifest_of : ℕ → KeyKind → Bool
is_manifest_of r (Manifest q image) = q == r
is_manifest_of r (Root q) = false
is_manifest_of r (Expired q) = false
is_manifest_of r (Deleted q) = false
is_manifest_of r (Chunk q name) = false
is_manifest_of r (Withdrawn image) = false

-- a chunk of the root
abbrev pub is_chunk_of : ℕ → KeyKind → Bool
is_chunk_of r (Chunk q name) = q == r
is_chunk_of r (Root q) = false
is_chunk_of r (Expired q) = false
is_chunk_of r (Deleted q) = false
is_chunk_of r (Manifest q image) = false
is_chunk_of r (Withdrawn image) = false

-- a root with a greater number
abbrev pub is_root_above : ℕ → KeyKind → Bool
is_root_above r (Root q) = nat_lt r q
is_root_above r (Expired q) = false
is_root_above r (Deleted q) = false
is_root_above r (Chunk q name) = false
is_root_above r (Manifest q image) = false
is_root_above r (Withdrawn image) = false

-- how many keys of the view pass
unfoldable pub keys_where : (KeyKind → Bool) → View → ℕ
keys_where test v = count_by test (map.keys v)

-- the state of a root of the view: deleted, else expired, else retired where a later root is there, else active
unfoldable pub state_in : View → ℕ → RootState
state_in v r =
    if map.contains_key v (Deleted r) then state.Deleted
    else if map.contains_key v (Expired r) then state.Expired
    else if list_any (is_root_above r) (map.keys v) then state.Retired
    else state.Active

-- the line of a root with the numbers of its manifest and chunk keys; nothing where it isn't in the view
unfoldable pub root_text : View → ℕ → List ℕ
root_text v r =
    if map.contains_key v (Root r) then root_line r (state_in v r) (keys_where (is_manifest_of r) v) (keys_where (is_chunk_of r) v) else []

-- the lines of the roots 1 to n that are in the view
unfoldable pub root_texts : View → ℕ → List ℕ
root_texts v zero = []
root_texts v (suc n) = root_texts v n ++ root_text v (suc n)

-- all roots in ascending order: they are numbered from 1 to 1,000
unfoldable pub roots_part : View → List ℕ
roots_part v = root_texts v 1000

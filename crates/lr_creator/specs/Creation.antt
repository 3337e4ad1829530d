-- The walk of a creation: which lists of depot calls it may make of an image's raw bytes, and what it then ends with.
use Rattle.std.specs.Prelude.{◌≡◌, ◌⊎◌, ◌≤◌, ◌+◌, ◌%◌, ℕ, List, [], ◌∷◌, ◌++◌, length}
use Rattle.std.specs.Int.{w32, w64, to_be_bytes}
use Rattle.std.specs.List.{flat_map}
use Rattle.lr_manifest.specs.declared.name.Name.{Name}
use Rattle.lr_manifest.specs.Manifest.{ManifestFields, itself}
use Rattle.lr_convergent.specs.Sealed.{sealed_key, sealed_name}
use Rattle.lr_seal.specs.Table.{made as manifest_made}
use Rattle.lr_walk.specs.Walk.{Walks, Ends, Or}
use Rattle.lr_walk.specs.Stands.{Given}
use Rattle.lr_walk.specs.Depot.{Step, Reply, began, kept, made, memory, begins, puts_chunk, puts_manifest, abandons, Asks}
use Rattle.lr_creator.specs.declared.create.Place.{Place}

-- what a creation ends with
pub data Ending : Type 0 where
  with_root : (root : ℕ) → Ending
  with_reply : (reply : Reply) → Ending
  with_memory : Ending
  with_stop : Ending

-- What a creation is given: a piece of the raw bytes, or word that the last one was given.
pub data Input : Type 0 where
  piece : (plain : List ℕ) → Input
  last : Input

-- the bytes of what is given
abbrev pub bytes_of : Input → List ℕ
bytes_of (piece plain) = plain
bytes_of last = []

-- what is known of the pieces so far: their bytes, their chunks' names, these chunks' keys
pub record Parts : Type 0 where
  pub raw_len : ℕ
  pub names : List Name
  pub keys : List (List ℕ)

abbrev pub no_parts : Parts
no_parts = record { raw_len = 0; names = []; keys = [] }

-- with one piece more, sealed under the salt
abbrev pub with_piece : Place → Name → List ℕ → Parts → Parts
with_piece place name plain parts =
    record { raw_len = parts.raw_len + length plain; names = parts.names ++ name ∷ []; keys = parts.keys ++ sealed_key place.salt plain ∷ [] }

-- A piece that may come after so many bytes: they are whole chunks, it has at most a chunk, and all are within the limit.
pub record IsPiece (raw_len : ℕ) (plain : List ℕ) : Type 0 where
  pub whole : raw_len % 524288 ≡ 0
  pub some : 1 ≤ length plain
  pub most : length plain ≤ 524288
  pub within : raw_len + length plain ≤ 10737418240

-- the nonce of a creation: its root and its number
abbrev pub nonce_of : Place → List ℕ
nonce_of place = to_be_bytes w32 place.root ++ to_be_bytes w64 place.number

-- the manifest of all pieces
abbrev pub fields_of : List ℕ → Place → Parts → ManifestFields
fields_of tenant place parts = manifest_made parts.raw_len parts.names parts.keys (nonce_of place) tenant

-- the session is left, and the creation ends so
abbrev pub Leaves : ℕ → Ending → Walks Step Ending
Leaves session end = Asks (abandons session) (λ _. Ends end)

-- the creator itself finds no memory, or its owner stops it
abbrev pub LeavesEarly : ℕ → Walks Step Ending
LeavesEarly session = Or (Leaves session with_memory) (Leaves session with_stop)

abbrev pub after_manifest : Place → Reply → Walks Step Ending
after_manifest place (made root) = Ends (with_root root)
after_manifest place memory = Leaves place.session with_memory
after_manifest place reply = Leaves place.session (with_reply reply)

-- the manifest is put
abbrev pub Finishes : Place → ManifestFields → Walks Step Ending
Finishes place fields = Asks (puts_manifest place.session fields) (after_manifest place)

abbrev pub after_chunk : Place → Walks Step Ending → Reply → Walks Step Ending
after_chunk place more kept = more
after_chunk place more memory = Leaves place.session with_memory
after_chunk place more reply = Leaves place.session (with_reply reply)

-- the chunk of this name is put, and then comes more
abbrev pub PutsOne : Place → Name → Walks Step Ending → Walks Step Ending
PutsOne place name more = Asks (puts_chunk place.session name.bytes) (after_chunk place more)

-- The chunk of each piece is put, in order, and after the last one the manifest of all.
abbrev pub Puts : List ℕ → Place → Parts → Given Input Step Ending
Puts tenant place parts [] = LeavesEarly place.session
Puts tenant place parts (last ∷ more) = Or (Finishes place (fields_of tenant place parts)) (LeavesEarly place.session)
Puts tenant place parts (piece plain ∷ more) =
    Or (λ steps ending. IsPiece parts.raw_len plain × ((name : Name) × (name.bytes ≡ sealed_name place.salt plain)
    × PutsOne place name (Puts tenant place (with_piece place name plain parts) more) steps ending)) (LeavesEarly place.session)

abbrev pub place_of : ℕ → ℕ → List ℕ → ℕ → Place
place_of session root salt number = record { session = session; root = root; salt = salt; number = number }

abbrev pub after_begin : List ℕ → Reply → Given Input Step Ending
after_begin tenant (began session root salt number) given = Puts tenant (place_of session root salt number) no_parts given
after_begin tenant memory given = Ends with_memory
after_begin tenant reply given = Ends (with_reply reply)

-- the creation of an image of what is given
abbrev pub Creates : List ℕ → List ℕ → Given Input Step Ending
Creates image tenant given = Asks (begins image) (λ reply. after_begin tenant reply given)

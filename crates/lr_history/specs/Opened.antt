-- The bytes under a device.
use Rattle.std.specs.Prelude.{ℕ, List, [], ◌∷◌, take, find, Bool, ◌&&◌, nat_eq, cond, Option, Some, None}
use Rattle.std.specs.Str.{bytes_eq}
use Rattle.std.specs.FinMap as finmap
use Rattle.sha2.specs.Sha256.{sha256}
use Rattle.lr_layout.specs.Padded.{padded}
use Rattle.lr_seal.specs.Denotation.{denotation}
use Rattle.lr_origin.specs.Objects.{Objects}
use Rattle.lr_origin.specs.Text.{key_text}
use Rattle.lr_origin.specs.declared.key.KeyKind.TheVariants.{Chunk}
use Rattle.lr_history.specs.Run.{ImageLine, creation_of, DeviceLine}
use Rattle.lr_history.specs.Strings.{chunks_made}

-- whether the image line is of the device's image under its tenant's key
abbrev pub is_line_of : DeviceLine → ImageLine → Bool
is_line_of d line = bytes_eq line.image d.image && bytes_eq line.tenant d.tenant

-- the first that is there
abbrev pub or_else : Option (List ℕ) → Option (List ℕ) → Option (List ℕ)
or_else None y = y
or_else (Some x) y = Some x

-- the sealed chunk of this name that the image lines put into the root
abbrev pub body_made : List ImageLine → ℕ → List ℕ → Option (List ℕ)
body_made [] root name = None
body_made (line ∷ lines) root name =
    cond (nat_eq line.root root)
    (or_else (find (λ (body : List ℕ). bytes_eq (sha256 body) name) (chunks_made (creation_of line))) (body_made lines root name))
    (body_made lines root name)

-- the body of the chunk of this name in the root: the store's, or else that which the image lines put there
abbrev pub body_of : Objects → List ImageLine → ℕ → List ℕ → Option (List ℕ)
body_of opening lines root name = or_else (finmap.get opening (key_text (Chunk root name))) (body_made lines root name)

-- The base of a device: the padded raw bytes of the image line of its image and key, where there is one. Else what its
-- manifest denotes over the store as it was, with the chunks that the image lines before the device put there.
abbrev pub base_by : Option ImageLine → Objects → List ImageLine → DeviceLine → Option (List ℕ)
base_by (Some line) opening lines d = Some (padded line.raw)
base_by None opening lines d = denotation d.manifest d.tenant (body_of opening (take d.before lines) d.root)

abbrev pub base_of : Objects → List ImageLine → DeviceLine → Option (List ℕ)
base_of opening lines d = base_by (find (is_line_of d) lines) opening lines d

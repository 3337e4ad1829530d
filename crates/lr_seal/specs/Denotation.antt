-- What bytes a manifest stands for: it knows nothing of how they are kept or moved.
use Rattle.std.specs.Prelude.{◌≡◌, ℕ, List, [], ◌∷◌, ◌++◌, map, take, Option, Some, None, if◌then◌else◌}
use Rattle.std.specs.List.{flat_map}
use Rattle.std.specs.Str.{bytes_eq}
use Rattle.lr_layout.specs.Padded.{padded_length}
use Rattle.lr_aes.specs.Key.{encrypted}
use Rattle.lr_aes.specs.Gcm.{gcm_tag}
use Rattle.lr_manifest.specs.declared.name.Name.{Name}
use Rattle.lr_manifest.specs.Manifest.{ManifestFields, clear_text}
use Rattle.lr_convergent.specs.Sealed.{chunk_text, filled, sealed_key, sealed_bytes}
use Rattle.lr_seal.specs.Table.{joined_keys, key_list, HasTag, made}

-- two that are there, joined
abbrev pub both : Option (List ℕ) → Option (List ℕ) → Option (List ℕ)
both None y = None
both (Some x) None = None
both (Some x) (Some y) = Some (x ++ y)

-- a chunk's body, decrypted, where it is there
abbrev pub opened : List ℕ → Option (List ℕ) → Option (List ℕ)
opened key None = None
opened key (Some body) = Some (chunk_text key body)

-- the front of what is there
abbrev pub cut : ℕ → Option (List ℕ) → Option (List ℕ)
cut n None = None
cut n (Some plain) = Some (take n plain)

-- The plaintexts of the chunks, each under its key, joined; nothing where a body isn't there. `body` gives the
-- body of a name.
unfoldable pub plain_of : (List ℕ → Option (List ℕ)) → List Name → List (List ℕ) → Option (List ℕ)
plain_of body [] keys = Some []
plain_of body (n ∷ names) [] = None
plain_of body (n ∷ names) (k ∷ keys) = both (opened k (body n.bytes)) (plain_of body names keys)

-- The denotation of a manifest under a tenant's key, over the bodies of a root: where the tag is right and all
-- chunks are there, their plaintexts, joined and cut to the padded length.
unfoldable pub denotation : ManifestFields → List ℕ → (List ℕ → Option (List ℕ)) → Option (List ℕ)
denotation m tenant body =
    if bytes_eq m.tag (gcm_tag (encrypted tenant) m.nonce (clear_text m.raw_len m.names) (joined_keys m.sealed))
    then cut (padded_length m.raw_len) (plain_of body m.names (key_list m tenant))
    else None

-- ---- laws

-- At a right tag the denotation is that of the keys that unsealing gives, and at a wrong one there is none.
pub record IsDenotedByTag : Type 0 where
  pub right : (m : ManifestFields) (tenant : List ℕ) (body : List ℕ → Option (List ℕ)) → HasTag m tenant
      → denotation m tenant body ≡ cut (padded_length m.raw_len) (plain_of body m.names (key_list m tenant))
  pub wrong : (m : ManifestFields) (tenant : List ℕ) (body : List ℕ → Option (List ℕ)) → (HasTag m tenant → ⊥) → denotation m tenant body ≡ None

-- The body of each name is the sealed chunk of its part, under one salt.
abbrev pub AreKept : List ℕ → (List ℕ → Option (List ℕ)) → List Name → List (List ℕ) → Type 0
AreKept salt body [] [] = Unit {0}
AreKept salt body [] (part ∷ parts) = ⊥
AreKept salt body (n ∷ names) [] = ⊥
AreKept salt body (n ∷ names) (part ∷ parts) = (body n.bytes ≡ Some (sealed_bytes salt part)) × AreKept salt body names parts

-- A manifest that is made of the keys of sealed parts denotes these parts, filled to whole chunks, joined and cut.
abbrev pub DenotesItsParts : Type 0
DenotesItsParts = (raw : ℕ) (names : List Name) (parts : List (List ℕ)) (salt nonce tenant : List ℕ) (body : List ℕ → Option (List ℕ))
    → AreKept salt body names parts
    → denotation (made raw names (map (sealed_key salt) parts) nonce tenant) tenant body
    ≡ Some (take (padded_length raw) (flat_map (filled 524288) parts))

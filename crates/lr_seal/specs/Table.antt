-- Tables of chunk keys, open and sealed for a tenant.
use Rattle.std.specs.Prelude.{◌≡◌, ℕ, zero, suc, List, [], ◌∷◌, ◌++◌, length, take, drop}
use Rattle.std.specs.List.{flat_map}
use Rattle.lr_aes.specs.Key.{encrypted}
use Rattle.lr_aes.specs.Gcm.{gcm_text, gcm_tag}
use Rattle.lr_manifest.specs.declared.name.Name.{Name}
use Rattle.lr_manifest.specs.declared.name.ChunkKey.{ChunkKey}
use Rattle.lr_manifest.specs.Manifest.{ManifestFields, clear_text, itself}

-- the bytes of a key
abbrev pub key_bytes : ChunkKey → List ℕ
key_bytes k = k.bytes

-- the first n pieces of 32 bytes
unfoldable pub rows_of : ℕ → List ℕ → List (List ℕ)
rows_of zero bytes = []
rows_of (suc n) bytes = take 32 bytes ∷ rows_of n (drop 32 bytes)

-- the keys, joined
abbrev pub joined_keys : List (List ℕ) → List ℕ
joined_keys keys = flat_map itself keys

-- The tag of a manifest is that of its sealed keys under the tenant's key and its nonce; everything before the
-- nonce is the additional data.
unfoldable pub HasTag : ManifestFields → List ℕ → Type 0
HasTag m tenant = m.tag ≡ gcm_tag (encrypted tenant) m.nonce (clear_text m.raw_len m.names) (joined_keys m.sealed)

-- the chunk keys of a manifest: its sealed keys, opened under the tenant's key
unfoldable pub key_list : ManifestFields → List ℕ → List (List ℕ)
key_list m tenant = rows_of (length m.sealed) (gcm_text (encrypted tenant) m.nonce (joined_keys m.sealed))

-- the manifest of these names, with these keys sealed under the tenant's key
unfoldable pub made : ℕ → List Name → List (List ℕ) → List ℕ → List ℕ → ManifestFields
made raw names keys nonce tenant =
    let sealed = gcm_text (encrypted tenant) nonce (joined_keys keys) in
    record {
      raw_len = raw;
      names = names;
      nonce = nonce;
      sealed = rows_of (length keys) sealed;
      tag = gcm_tag (encrypted tenant) nonce (clear_text raw names) sealed;
    }

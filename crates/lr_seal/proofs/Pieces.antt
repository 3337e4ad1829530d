-- Pieces of 32 bytes, and a table sealed and opened.
use Rattle.std.proofs.Common.{◌≡◌, ◌≤◌, ℕ, suc, zero, ◌+◌, ◌-◌, ◌*◌, ◌/◌, List, [], ◌∷◌, ◌++◌, length, length-append, length-take-le, length-drop, map, take, take_all, drop, slice_index, bit_xor, refl, sym, ap, subst, ◌∙◌, arith}
use Rattle.std.specs.List.{flat_map, AllByRecursion}
use Rattle.std.proofs.lemmas.List.{take-append-drop, length-map}
use Rattle.std.proofs.Math.Seq.{take-append_seam, drop-append_seam}
use Rattle.lr_aes.specs.Key.{encrypted}
use Rattle.lr_aes.specs.Counter.{with_stream}
use Rattle.lr_aes.specs.Gcm.{gcm_text, gcm_tag, inc32, inc32_by, first_counter}
use Rattle.lr_manifest.specs.declared.name.Name.{Name}
use Rattle.lr_manifest.specs.declared.name.ChunkKey.{ChunkKey}
use Rattle.lr_manifest.specs.Manifest.{ManifestFields, AreKeys, clear_text, itself, chunk_count, name_bytes}
use Rattle.lr_manifest.proofs.Public.{rows_long, long_names, count_small}
use Rattle.lr_aes.proofs.Public.{gcm_twice, length-with_stream}
use Rattle.lr_seal.specs.Table.{key_bytes, rows_of, joined_keys, HasTag, key_list, made}

pub length-rows_of : (n : ℕ) (b : List ℕ) → length (rows_of n b) ≡ n
unfolding rows_of
length-rows_of zero b = refl
length-rows_of (suc n) b = ap suc (length-rows_of n (drop 32 b))

pub joined_rows : (n : ℕ) (b : List ℕ) → length b ≡ 32 * n → joined_keys (rows_of n b) ≡ b
unfolding rows_of
joined_rows zero [] len = refl
joined_rows zero (x ∷ b) len = absurd (omega arith)
joined_rows (suc n) b len =
    ap (λ (r : List ℕ). take 32 b ++ r) (joined_rows n (drop 32 b) (omega (arith, length-drop 32 b))) ∙ take-append-drop 32 b

pub rows_joined : (keys : List (List ℕ)) → AreKeys keys → rows_of (length keys) (joined_keys keys) ≡ keys
unfolding rows_of
rows_joined [] h = refl
rows_joined (k ∷ keys) h =
    let front : take 32 (k ++ joined_keys keys) ≡ k = ap (λ (n : ℕ). take n (k ++ joined_keys keys)) (sym h.0) ∙ take-append_seam k (joined_keys keys) in
    let back : drop 32 (k ++ joined_keys keys) ≡ joined_keys keys = ap (λ (n : ℕ). drop n (k ++ joined_keys keys)) (sym h.0) ∙ drop-append_seam k (joined_keys keys) in
    λ i. front i ∷ ((ap (rows_of (length keys)) back ∙ rows_joined keys h.1) i)

pub AreKeys-rows_of : (n : ℕ) (b : List ℕ) → length b ≡ 32 * n → AreKeys (rows_of n b)
unfolding rows_of
AreKeys-rows_of zero b len = tt
AreKeys-rows_of (suc n) b len = (length-take-le 32 b (omega arith), AreKeys-rows_of n (drop 32 b) (omega (arith, length-drop 32 b)))

-- keys that are cut from these bytes
pub cut_is : (keys : List (List ℕ)) (n : ℕ) (b : List ℕ) → joined_keys keys ≡ b → length keys ≡ n → AreKeys keys → keys ≡ rows_of n b
cut_is keys n b joined count long = sym (rows_joined keys long) ∙ (λ i. rows_of (count i) (joined i))

pub length-joined : (keys : List (List ℕ)) → AreKeys keys → length (joined_keys keys) ≡ 32 * length keys
length-joined keys h = rows_long itself keys h

pub length-gcm_text : (e : List ℕ → List ℕ) (nonce text : List ℕ) → length (gcm_text e nonce text) ≡ length text
length-gcm_text e nonce text = length-with_stream _ 0 text

module _ (raw : ℕ) (names : List Name) (keys : List (List ℕ)) (nonce tenant : List ℕ) (rows : AreKeys keys) where
  abbrev sealed : List ℕ
  sealed = gcm_text (encrypted tenant) nonce (joined_keys keys)

  long : length sealed ≡ 32 * length keys
  long = length-gcm_text (encrypted tenant) nonce (joined_keys keys) ∙ length-joined keys rows

  pub made_tag : HasTag (made raw names keys nonce tenant) tenant
  unfolding HasTag made
  made_tag = ap (gcm_tag (encrypted tenant) nonce (clear_text raw names)) (sym (joined_rows (length keys) sealed long))

  pub made_keys : key_list (made raw names keys nonce tenant) tenant ≡ keys
  unfolding key_list made
  made_keys =
      (λ i. rows_of (length-rows_of (length keys) sealed i) (gcm_text (encrypted tenant) nonce (joined_rows (length keys) sealed long i)))
      ∙ ap (rows_of (length keys)) (gcm_twice (encrypted tenant) nonce (joined_keys keys)) ∙ rows_joined keys rows

-- the bytes of each key
pub keys_long : (keys : List ChunkKey) → AllByRecursion (λ k. length k.bytes ≡ 32) keys → AreKeys (map key_bytes keys)
keys_long [] h = tt
keys_long (k ∷ keys) h = (h.0, keys_long keys h.1)

pub joined_map : (keys : List ChunkKey) → flat_map key_bytes keys ≡ joined_keys (map key_bytes keys)
joined_map [] = refl
joined_map (k ∷ keys) = ap (λ (r : List ℕ). k.bytes ++ r) (joined_map keys)

pub clear_long : (raw : ℕ) (names : List Name) → raw ≤ 10737418240 → length names ≡ chunk_count raw → length (clear_text raw names) ≤ 4294967296
clear_long raw names le count =
    let head : length (clear_text raw names) ≡ 24 + length (flat_map name_bytes names) = omega arith in
    omega (arith, head, rows_long name_bytes names (long_names names), count, count_small raw le)

pub joined_long : (raw : ℕ) (keys : List (List ℕ)) → raw ≤ 10737418240 → length keys ≡ chunk_count raw → AreKeys keys → length (joined_keys keys) ≤ 4294967296
joined_long raw keys le count rows = omega (arith, length-joined keys rows, count, count_small raw le)

-- the table of keys that are cut from these bytes
pub keys_is : (keys : List ChunkKey) (n : ℕ) (b : List ℕ) → flat_map key_bytes keys ≡ b → length keys ≡ n → AllByRecursion (λ k. length k.bytes ≡ 32) keys → map key_bytes keys ≡ rows_of n b
keys_is keys n b joined count long = cut_is (map key_bytes keys) n b (sym (joined_map keys) ∙ joined) (length-map keys key_bytes ∙ count) (keys_long keys long)

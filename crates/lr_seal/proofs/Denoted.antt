-- What a manifest denotes, by its tag and by its parts.
use Rattle.std.proofs.Common.{◌≡◌, ℕ, Bool, true, false, List, [], ◌∷◌, ◌++◌, map, take, length, Option, Some, None, if◌then◌else◌, refl, sym, ap, ◌∙◌}
use Rattle.std.specs.Bool.{Decides}
use Rattle.std.specs.List.{flat_map}
use Rattle.std.specs.Str.{bytes_eq}
use Rattle.std.proofs.lemmas.Slice.Eq.{bytes_eq-Decides}
use Rattle.sha2.proofs.Facts256.{length-sha256}
use Rattle.lr_layout.specs.Padded.{padded_length}
use Rattle.lr_aes.specs.Key.{encrypted}
use Rattle.lr_aes.specs.Gcm.{gcm_tag}
use Rattle.lr_manifest.specs.declared.name.Name.{Name}
use Rattle.lr_manifest.specs.Manifest.{ManifestFields, AreKeys, clear_text}
use Rattle.lr_convergent.specs.Sealed.{filled, sealed_key}
use Rattle.lr_convergent.proofs.Public.{chunk_twice}
use Rattle.lr_seal.specs.Table.{joined_keys, key_list, HasTag, made}
use Rattle.lr_seal.specs.Denotation.{both, opened, cut, plain_of, denotation, IsDenotedByTag, AreKept, DenotesItsParts}
use Rattle.lr_seal.proofs.Pieces.{made_tag, made_keys}

by_lack : (b : Bool) (P : Type 0) → Decides b P → (P → ⊥) → b ≡ false
by_lack true P d never = absurd (never (d.0 refl))
by_lack false P d never = refl

pub denotation-right : (m : ManifestFields) (tenant : List ℕ) (body : List ℕ → Option (List ℕ)) → HasTag m tenant
    → denotation m tenant body ≡ cut (padded_length m.raw_len) (plain_of body m.names (key_list m tenant))
unfolding HasTag denotation
denotation-right m tenant body h =
    let tag : List ℕ = gcm_tag (encrypted tenant) m.nonce (clear_text m.raw_len m.names) (joined_keys m.sealed) in
    let is : bytes_eq m.tag tag ≡ true = (bytes_eq-Decides m.tag tag).1 h in
    ap (λ (b : Bool). if b then cut (padded_length m.raw_len) (plain_of body m.names (key_list m tenant)) else None) is

pub denotation-wrong : (m : ManifestFields) (tenant : List ℕ) (body : List ℕ → Option (List ℕ)) → (HasTag m tenant → ⊥) → denotation m tenant body ≡ None
unfolding HasTag denotation
denotation-wrong m tenant body h =
    let tag : List ℕ = gcm_tag (encrypted tenant) m.nonce (clear_text m.raw_len m.names) (joined_keys m.sealed) in
    let is : bytes_eq m.tag tag ≡ false = by_lack (bytes_eq m.tag tag) (m.tag ≡ tag) (bytes_eq-Decides m.tag tag) h in
    ap (λ (b : Bool). if b then cut (padded_length m.raw_len) (plain_of body m.names (key_list m tenant)) else None) is

pub by_tag : IsDenotedByTag
by_tag = record { right = denotation-right; wrong = denotation-wrong }

AreKeys-keys : (salt : List ℕ) (parts : List (List ℕ)) → AreKeys (map (sealed_key salt) parts)
AreKeys-keys salt [] = tt
AreKeys-keys salt (part ∷ parts) = (length-sha256 (salt ++ filled 524288 part), AreKeys-keys salt parts)

plain_of-kept : (salt : List ℕ) (body : List ℕ → Option (List ℕ)) (names : List Name) (parts : List (List ℕ)) → AreKept salt body names parts
    → plain_of body names (map (sealed_key salt) parts) ≡ Some (flat_map (filled 524288) parts)
unfolding plain_of
plain_of-kept salt body [] [] h = refl
plain_of-kept salt body [] (part ∷ parts) h = absurd h
plain_of-kept salt body (n ∷ names) [] h = absurd h
plain_of-kept salt body (n ∷ names) (part ∷ parts) h =
    let key : List ℕ = sealed_key salt part in
    let one : opened key (body n.bytes) ≡ Some (filled 524288 part) = ap (opened key) h.0 ∙ ap (λ (text : List ℕ). Some text) (chunk_twice key (filled 524288 part)) in
    λ i. both (one i) (plain_of-kept salt body names parts h.1 i)

pub denotes_parts : DenotesItsParts
unfolding made
denotes_parts raw names parts salt nonce tenant body h =
    let keys : List (List ℕ) = map (sealed_key salt) parts in
    let rows : AreKeys keys = AreKeys-keys salt parts in
    denotation-right (made raw names keys nonce tenant) tenant body (made_tag raw names keys nonce tenant rows)
    ∙ ap (λ (list : List (List ℕ)). cut (padded_length raw) (plain_of body names list)) (made_keys raw names keys nonce tenant rows)
    ∙ ap (cut (padded_length raw)) (plain_of-kept salt body names parts h)

-- What a manifest that a creation made denotes, over any bodies whose digests are its names.
use Rattle.std.proofs.Common.{◌≡◌, ◌≤◌, ◌<◌, inl, inr, ℕ, zero, suc, ◌+◌, ◌-◌, ◌*◌, List, [], ◌∷◌, ◌++◌, length, take, drop, map, replicate, Option, Some, None, refl, sym, ap, ◌∙◌, append_assoc, arith}
use Rattle.std.specs.Prelude.{◌⊎◌}
use Rattle.std.specs.List.{AllByRecursion, Contains, flat_map}
use Rattle.std.proofs.lemmas.Bool.{cases_lt}
use Rattle.std.proofs.lemmas.List.{take_at, take_all, take-append-drop, length-append, length-replicate, length-take, length-drop}
use Rattle.lr_layout.specs.Padded.{padded, padded_length, count_of_chunks}
use Rattle.lr_manifest.specs.declared.name.Name.{Name}
use Rattle.lr_manifest.specs.Manifest.{name_bytes}
use Rattle.lr_convergent.specs.Sealed.{filled, chunk_text, sealed_key, sealed_bytes, sealed_name}
use Rattle.lr_convergent.proofs.Public.{chunk_twice}
use Rattle.std.specs.Prelude.{if◌then◌else◌}
use Rattle.std.specs.Str.{bytes_eq}
use Rattle.lr_aes.specs.Key.{encrypted}
use Rattle.lr_aes.specs.Gcm.{gcm_tag}
use Rattle.lr_manifest.specs.Manifest.{clear_text}
use Rattle.lr_seal.specs.Table.{key_list, joined_keys}
use Rattle.lr_seal.specs.Denotation.{both, opened, cut, plain_of, denotation}
use Rattle.lr_seal.proofs.Denoted.{denotation-right}
use Rattle.lr_layout.specs.Chunks.{parts, chunks_of}
use Rattle.lr_seal.specs.Made.{HaveDistinctDigests, HasBody, MadeManifestsDenote, DenotationsAgree}

-- ---- membership

later : {X : Type 0} (y : X) (xs : List X) (x : X) → Contains xs x → Contains (y ∷ xs) x
later y xs x c = (suc c.0, omega (arith, c.1), c.2)

first : {X : Type 0} (x : X) (xs : List X) → Contains (x ∷ xs) x
first x xs = (0, omega arith, refl)

-- ---- parts, filled and joined again

-- a list cut after the front of a join
take_join : (xs ys : List ℕ) (n : ℕ) → take (length xs + n) (xs ++ ys) ≡ xs ++ take n ys
take_join [] ys n = let e : 0 + n ≡ n = omega arith in ap (λ (k : ℕ). take k ys) e
take_join (x ∷ xs) ys n =
    let e : suc (length xs) + n ≡ suc (length xs + n) = omega arith in
    ap (λ (k : ℕ). take k (x ∷ (xs ++ ys))) e ∙ ap (λ (l : List ℕ). x ∷ l) (take_join xs ys n)

filled_whole : (size : ℕ) (p : List ℕ) → length p ≡ size → filled size p ≡ p
unfolding filled
filled_whole size p e =
    let none : size - length p ≡ 0 = omega arith in
    ap (λ (k : ℕ). p ++ replicate k 0) none ∙ append-nil-of p
  where
    append-nil-of : (l : List ℕ) → l ++ [] ≡ l
    append-nil-of [] = refl
    append-nil-of (x ∷ l) = ap (λ (r : List ℕ). x ∷ r) (append-nil-of l)

filled_front : (size : ℕ) (p rest : List ℕ) → take (length p) (filled size p ++ rest) ≡ p
unfolding filled
filled_front size p rest = ap (take (length p)) (append_assoc p (replicate (size - length p) 0) rest) ∙ take_at p (replicate (size - length p) 0 ++ rest) (length p) refl

pub joined_parts : (size n : ℕ) (bytes : List ℕ) → length bytes ≤ n * size → take (length bytes) (flat_map (filled size) (parts size n bytes)) ≡ bytes
joined_parts size zero [] h = refl
joined_parts size zero (x ∷ bytes) h = absurd (omega arith)
joined_parts size (suc n) bytes h = by (joined_parts size n (drop size bytes)) (cases_lt (length bytes) size)
  where
    rest : List ℕ
    rest = flat_map (filled size) (parts size n (drop size bytes))

    by : (length (drop size bytes) ≤ n * size → take (length (drop size bytes)) rest ≡ drop size bytes) → (length bytes < size) ⊎ (size ≤ length bytes)
        → take (length bytes) (filled size (take size bytes) ++ rest) ≡ bytes
    by more (inl short) =
        let all : take size bytes ≡ bytes = take_all size bytes (omega arith) in
        ap (λ (p : List ℕ). take (length bytes) (filled size p ++ rest)) all ∙ filled_front size bytes rest
    by more (inr long) =
        let front : length (take size bytes) ≡ size = simp length-take (omega arith) in
        let back : length (drop size bytes) ≡ length bytes - size = length-drop size bytes in
        let count : length bytes ≡ length (take size bytes) + length (drop size bytes) = omega arith in
        let low : length (drop size bytes) ≤ n * size = omega (arith, h, back) in
        ap (λ (p : List ℕ). take (length bytes) (p ++ rest)) (filled_whole size (take size bytes) front)
        ∙ ap (λ (k : ℕ). take k (take size bytes ++ rest)) count
        ∙ take_join (take size bytes) rest (length (drop size bytes))
        ∙ ap (λ (l : List ℕ). take size bytes ++ l) (more low)
        ∙ take-append-drop size bytes

pub joined_chunks : (raw : List ℕ) → take (padded_length (length raw)) (flat_map (filled 524288) (chunks_of raw)) ≡ padded raw
unfolding chunks_of
joined_chunks raw =
    let long : length (padded raw) ≡ padded_length (length raw) = length-append raw _ ∙ simp length-replicate (omega arith) in
    let enough : length (padded raw) ≤ count_of_chunks (length raw) * 524288 = omega arith in
    ap (λ (k : ℕ). take k (flat_map (filled 524288) (chunks_of raw))) (sym long) ∙ joined_parts 524288 (count_of_chunks (length raw)) (padded raw) enough

-- ---- bodies

plain_made : (salt : List ℕ) (strings : List (List ℕ)) (body : List ℕ → Option (List ℕ)) → HaveDistinctDigests strings → (names : List Name) (chunks : List (List ℕ))
    → map name_bytes names ≡ map (sealed_name salt) chunks → ((x : List ℕ) → Contains (map (sealed_bytes salt) chunks) x → Contains strings x)
    → AllByRecursion (HasBody strings body) names → plain_of body names (map (sealed_key salt) chunks) ≡ Some (flat_map (filled 524288) chunks)
unfolding plain_of
plain_made salt strings body apart [] [] e among h = refl
plain_made salt strings body apart [] (p ∷ chunks) e among h = absurd (cc)
plain_made salt strings body apart (n ∷ names) [] e among h = absurd (cc)
plain_made salt strings body apart (n ∷ names) (p ∷ chunks) e among h =
    let name : n.bytes ≡ sealed_name salt p = cc in
    let rest : map name_bytes names ≡ map (sealed_name salt) chunks = cc in
    let same : h.0.0 ≡ sealed_bytes salt p =
    apart h.0.0 (sealed_bytes salt p) h.0.2 (among (sealed_bytes salt p) (first (sealed_bytes salt p) (map (sealed_bytes salt) chunks))) (h.0.3 ∙ name) in
    let key : List ℕ = sealed_key salt p in
    let one : opened key (body n.bytes) ≡ Some (filled 524288 p) =
    ap (opened key) h.0.1 ∙ ap (λ (b : List ℕ). Some (chunk_text key b)) same ∙ ap (λ (t : List ℕ). Some t) (chunk_twice key (filled 524288 p)) in
    let more = plain_made salt strings body apart names chunks rest (λ x c. among x (later (sealed_bytes salt p) (map (sealed_bytes salt) chunks) x c)) h.1 in
    λ i. both (one i) (more i)

pub made_denote : MadeManifestsDenote
made_denote salt tenant raw m strings body made apart among h =
    denotation-right m tenant body made.tag
    ∙ ap (λ (k : List (List ℕ)). cut (padded_length m.raw_len) (plain_of body m.names k)) made.keys
    ∙ ap (cut (padded_length m.raw_len)) (plain_made salt strings body apart m.names (chunks_of raw) made.names among h)
    ∙ ap (λ (n : ℕ). Some (take (padded_length n) (flat_map (filled 524288) (chunks_of raw)))) made.raw_len
    ∙ ap (λ (l : List ℕ). Some l) (joined_chunks raw)

-- ---- two stores

plain_agree : (strings : List (List ℕ)) (one two : List ℕ → Option (List ℕ)) → HaveDistinctDigests strings → (names : List Name) (keys : List (List ℕ))
    → AllByRecursion (HasBody strings one) names → AllByRecursion (HasBody strings two) names → plain_of one names keys ≡ plain_of two names keys
unfolding plain_of
plain_agree strings one two apart [] keys h k = refl
plain_agree strings one two apart (n ∷ names) [] h k = refl
plain_agree strings one two apart (n ∷ names) (key ∷ keys) h k =
    let same : h.0.0 ≡ k.0.0 = apart h.0.0 k.0.0 h.0.2 k.0.2 (h.0.3 ∙ sym k.0.3) in
    let body : one n.bytes ≡ two n.bytes = h.0.1 ∙ ap (λ (b : List ℕ). Some b) same ∙ sym k.0.1 in
    let more = plain_agree strings one two apart names keys h.1 k.1 in
    λ i. both (opened key (body i)) (more i)

pub denotations_agree : DenotationsAgree
unfolding denotation
denotations_agree m tenant strings one two apart h k =
    let same : plain_of one m.names (key_list m tenant) ≡ plain_of two m.names (key_list m tenant) = plain_agree strings one two apart m.names (key_list m tenant) h k in
    ap (λ (p : Option (List ℕ)). if bytes_eq m.tag (gcm_tag (encrypted tenant) m.nonce (clear_text m.raw_len m.names) (joined_keys m.sealed)) then cut (padded_length m.raw_len) p else None) same

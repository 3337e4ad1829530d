-- A spelling has no fault, and is that of one manifest alone.
use Rattle.std.proofs.Common.{◌≡◌, ◌≤◌, ◌<◌, ◌^◌, ℕ, suc, zero, ◌+◌, ◌-◌, ◌*◌, Bool, true, false, not, ◌||◌, ◌==◌, nat_lt, List, [], ◌∷◌, ◌++◌, length, length-append, take, drop, get_or, slice_index, Option, None, refl, sym, ap, subst, ◌∙◌, append_assoc, arith, lit<}
use Rattle.std.specs.Int.{w16, w32, w64, to_be_bytes, from_be_bytes}
use Rattle.std.specs.List.{flat_map, AllByRecursion}
use Rattle.std.specs.Coded.{Coded-set, coded_ℕ}
use Rattle.std.proofs.lemmas.Bool.{le-ltb}
use Rattle.std.proofs.lemmas.Nat.{from_be_bytes-to_be_bytes_4, from_be_bytes-to_be_bytes_8}
use Rattle.std.proofs.Math.Seq.{take-append_seam, drop-append_seam}
use Rattle.lr_manifest.specs.declared.name.Name.{Name}
use Rattle.lr_manifest.specs.Manifest.{ManifestFields, IsManifest, Spells, spelling, clear_text, head_text, chunk_count, first_fault, name_bytes, itself, is_short, lacks_magic, is_other_version, has_wrong_fields, has_other_length}
use Rattle.lr_manifest.proofs.Faults.{by_tests}

pub rows_long : {X : Type 0} (f : X → List ℕ) (xs : List X) → AllByRecursion (λ x. length (f x) ≡ 32) xs → length (flat_map f xs) ≡ 32 * length xs
rows_long f [] h = refl
rows_long f (x ∷ xs) h = length-append (f x) (flat_map f xs) ∙ omega (arith, h.0, rows_long f xs h.1)

same_split : (a b c d : List ℕ) → length a ≡ length c → a ++ b ≡ c ++ d → (a ≡ c) × (b ≡ d)
same_split a b c d len e = (
  sym (take-append_seam a b) ∙ ap (take (length a)) e ∙ ap (λ (n : ℕ). take n (c ++ d)) len ∙ take-append_seam c d,
  sym (drop-append_seam a b) ∙ ap (drop (length a)) e ∙ ap (λ (n : ℕ). drop n (c ++ d)) len ∙ drop-append_seam c d,
)

-- names of the same bytes are the same
name_of_bytes : (x y : Name) → x.bytes ≡ y.bytes → x ≡ y
name_of_bytes x y e =
    let P : List ℕ → Type 0 = λ b. (h : length b ≡ 32) → x ≡ record { bytes = b; long = h } in
    subst P e (λ h. ap (λ (q : length x.bytes ≡ 32). record { bytes = x.bytes; long = q }) (Coded-set coded_ℕ _ _ x.long h)) y.long

-- each name has 32 bytes
pub long_names : (names : List Name) → AllByRecursion (λ n. length n.bytes ≡ 32) names
long_names [] = tt
long_names (n ∷ names) = (n.long, long_names names)

pub same_rows : {X : Type 0} (f : X → List ℕ) → ((x y : X) → f x ≡ f y → x ≡ y) → (xs ys : List X) → AllByRecursion (λ x. length (f x) ≡ 32) xs
    → AllByRecursion (λ x. length (f x) ≡ 32) ys → length xs ≡ length ys → flat_map f xs ≡ flat_map f ys → xs ≡ ys
same_rows f inj [] [] h k len e = refl
same_rows f inj [] (y ∷ ys) h k len e = absurd (omega arith)
same_rows f inj (x ∷ xs) [] h k len e = absurd (omega arith)
same_rows f inj (x ∷ xs) (y ∷ ys) h k len e =
    let both = same_split (f x) (flat_map f xs) (f y) (flat_map f ys) (h.0 ∙ sym k.0) e in
    let first : x ≡ y = inj x y both.0 in
    let others : xs ≡ ys = same_rows f inj xs ys h.1 k.1 (omega arith) both.1 in
    λ i. first i ∷ others i

pub count_small : (raw : ℕ) → raw ≤ 10737418240 → chunk_count raw ≤ 20480
count_small raw le = omega arith

module _ (m : ManifestFields) (ok : IsManifest m) where
  raw_read : from_be_bytes w64 (drop 8 (spelling m)) ≡ m.raw_len
  raw_read = from_be_bytes-to_be_bytes_8 m.raw_len (omega (arith, ok.raw_len))

  few : length m.names < 2 ^ 32
  few = omega (arith, ok.count, count_small m.raw_len ok.raw_len)

  count_read : from_be_bytes w32 (drop 20 (spelling m)) ≡ length m.names
  count_read = from_be_bytes-to_be_bytes_4 (length m.names) few

  long_read : length (spelling m) ≡ 52 + 64 * length m.names
  long_read =
      let names : length (flat_map name_bytes m.names) ≡ 32 * length m.names = rows_long name_bytes m.names (long_names m.names) in
      let keys : length (flat_map itself m.sealed) ≡ 32 * length m.sealed = rows_long itself m.sealed ok.keys32 in
      let rest : List ℕ = m.nonce ++ (flat_map itself m.sealed ++ m.tag) in
      let l0 : length (clear_text m.raw_len m.names ++ rest) ≡ 24 + length (flat_map name_bytes m.names ++ rest) = omega arith in
      l0 ∙ omega (arith, length-append (flat_map name_bytes m.names) rest, length-append m.nonce (flat_map itself m.sealed ++ m.tag), length-append (flat_map itself m.sealed) m.tag, names, keys, ok.keys, ok.nonce12, ok.tag16)

  eq_true : (a b : ℕ) → a ≡ b → (a == b) ≡ true
  eq_true a b e = grind (arith, e)

  no_fault : first_fault (spelling m) ≡ None
  no_fault =
      let short : is_short (spelling m) ≡ false = le-ltb (length (spelling m)) 24 (omega (arith, long_read)) in
      let over : nat_lt 10737418240 (from_be_bytes w64 (drop 8 (spelling m))) ≡ false = le-ltb 10737418240 (from_be_bytes w64 (drop 8 (spelling m))) (omega (arith, raw_read, ok.raw_len)) in
      let count : (from_be_bytes w32 (drop 20 (spelling m)) == chunk_count (from_be_bytes w64 (drop 8 (spelling m)))) ≡ true =
      eq_true _ _ (count_read ∙ ok.count ∙ ap chunk_count (sym raw_read)) in
      let whole : (length (spelling m) == 52 + 64 * from_be_bytes w32 (drop 20 (spelling m))) ≡ true =
      eq_true _ _ (long_read ∙ ap (λ (n : ℕ). 52 + 64 * n) (sym count_read)) in
      by_tests (spelling m) false false false false false short refl refl (λ i. over i || not (count i)) (ap not whole)

pub complete : (b : List ℕ) (m : ManifestFields) → Spells b m → first_fault b ≡ None
complete b m h = ap first_fault h.1 ∙ no_fault m h.0

pub unique : (b : List ℕ) (m n : ManifestFields) → Spells b m → Spells b n → m ≡ n
unique b m n h k =
    let same : spelling m ≡ spelling n = sym h.1 ∙ k.1 in
    let raw : m.raw_len ≡ n.raw_len = sym (raw_read m h.0) ∙ ap (λ (x : List ℕ). from_be_bytes w64 (drop 8 x)) same ∙ raw_read n k.0 in
    let count : length m.names ≡ length n.names = h.0.count ∙ ap chunk_count raw ∙ sym k.0.count in
    let tails : flat_map name_bytes m.names ++ (m.nonce ++ (flat_map itself m.sealed ++ m.tag)) ≡ flat_map name_bytes n.names ++ (n.nonce ++ (flat_map itself n.sealed ++ n.tag)) =
    ap (drop 24) same in
    let s1 = same_split _ _ _ _ (rows_long name_bytes m.names (long_names m.names) ∙ ap (λ (x : ℕ). 32 * x) count ∙ sym (rows_long name_bytes n.names (long_names n.names))) tails in
    let s2 = same_split _ _ _ _ (h.0.nonce12 ∙ sym k.0.nonce12) s1.1 in
    let keys : length m.sealed ≡ length n.sealed = h.0.keys ∙ count ∙ sym k.0.keys in
    let s3 = same_split _ _ _ _ (rows_long itself m.sealed h.0.keys32 ∙ ap (λ (x : ℕ). 32 * x) keys ∙ sym (rows_long itself n.sealed k.0.keys32)) s2.1 in
    let names : m.names ≡ n.names = same_rows name_bytes name_of_bytes m.names n.names (long_names m.names) (long_names n.names) count s1.0 in
    let sealed : m.sealed ≡ n.sealed = same_rows itself (λ x y e. e) m.sealed n.sealed h.0.keys32 k.0.keys32 keys s3.0 in
    λ i. record { raw_len = raw i; names = names i; nonce = s2.0 i; sealed = sealed i; tag = s3.1 i }

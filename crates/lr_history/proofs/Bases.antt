-- Bases, and the pieces that agree with them.
use Rattle.std.proofs.Common.{◌≡◌, ◌≤◌, ℕ, zero, suc, ◌+◌, ◌-◌, ◌*◌, List, [], ◌∷◌, ◌++◌, length, take, drop, map, replicate, Option, Some, None, slice_get, refl, sym, ap, subst, ◌∙◌, arith, option_map}
use Rattle.std.specs.Prelude.{IsSome}
use Rattle.std.specs.List.{AllByRecursion, Contains}
use Rattle.std.proofs.lemmas.List.{take_at, drop_at, drop-drop, length-append, length-take}
use Rattle.std.proofs.lemmas.Option.{slice_get-map, slice_get_within, get_or_from_slice_get, same_Some}
use Rattle.sha2.specs.Sha256.{sha256}
use Rattle.lr_layout.specs.Padded.{padded, count_of_chunks}
use Rattle.lr_aes.specs.Key.{encrypted}
use Rattle.lr_aes.specs.Counter.{with_stream, stream_byte}
use Rattle.lr_manifest.specs.declared.name.Name.{Name}
use Rattle.lr_manifest.specs.Manifest.{name_bytes}
use Rattle.lr_convergent.specs.Sealed.{filled, chunk_text, sealed_key, sealed_bytes, sealed_name}
use Rattle.lr_convergent.proofs.Public.{chunk_twice}
use Rattle.lr_seal.specs.Denotation.{both, opened, plain_of}
use Rattle.std.specs.Arc.{arc_value}
use Rattle.lr_layout.specs.Chunks.{parts, chunks_of}
use Rattle.lr_convergent.specs.declared.piece.KeptPiece.{KeptPiece}
use Rattle.lr_seal.specs.Made.{HaveDistinctDigests}
use Rattle.lr_device.specs.Base.{part_of, HasPiece}
use Rattle.lr_history.specs.Loaded.{HasPart, IsOpenedBy}

-- ---- lists

option_of : {A B : Type 0} (f : A → B) (o : Option A) (y : B) → option_map f o ≡ Some y → (x : A) × (o ≡ Some x) × (f x ≡ y)
option_of f None y e = absurd (cc)
option_of f (Some x) y e = (x, refl, same_Some (f x) y e)

pub contains_at : {X : Type 0} (xs : List X) (i : ℕ) (x : X) → slice_get xs i ≡ Some x → Contains xs x
contains_at xs i x e = (i, slice_get_within xs i x e, get_or_from_slice_get xs i x x e)

pub contains_map : {X Y : Type 0} (f : X → Y) (xs : List X) (i : ℕ) (x : X) → slice_get xs i ≡ Some x → Contains (map f xs) (f x)
contains_map f xs i x e = contains_at (map f xs) i (f x) (slice_get-map f xs i ∙ ap (option_map f) e)

-- what is first in a list, cut twice, is first in it cut once
cut_first : (m k : ℕ) (ys : List ℕ) → take m (take k ys) ≡ take (length (take m (take k ys))) (take m ys)
cut_first zero k ys = refl
cut_first (suc m) zero ys = refl
cut_first (suc m) (suc k) [] = refl
cut_first (suc m) (suc k) (y ∷ ys) = ap (λ (l : List ℕ). y ∷ l) (cut_first m k ys)

drop_cut : (o n : ℕ) (xs : List ℕ) → drop o (take n xs) ≡ take (n - o) (drop o xs)
drop_cut zero n xs = let e : n ≡ n - 0 = omega arith in ap (λ (k : ℕ). take k xs) e
drop_cut (suc o) zero xs = let e : 0 ≡ 0 - suc o = omega arith in ap (λ (k : ℕ). take k (drop (suc o) xs)) e
drop_cut (suc o) (suc n) [] = by (suc n - suc o)
  where
    by : (k : ℕ) → ◌≡◌ {A = List ℕ} [] (take k [])
    by zero = refl
    by (suc k) = refl
drop_cut (suc o) (suc n) (x ∷ xs) =
    let e : n - o ≡ suc n - suc o = omega arith in
    drop_cut o n xs ∙ ap (λ (k : ℕ). take k (drop o xs)) e

-- A base that is cut has the chunks of what it was cut from.
pub cut_part : (n i : ℕ) (xs : List ℕ) → HasPart (take n xs) i (part_of xs i)
cut_part n i xs =
    let o : ℕ = 524288 * i in
    let is : part_of (take n xs) i ≡ take 524288 (take (n - o) (drop o xs)) = ap (take 524288) (drop_cut o n xs) in
    is ∙ cut_first 524288 (n - o) (drop o xs) ∙ ap (λ (l : List ℕ). take (length l) (take 524288 (drop o xs))) (sym is)

-- ---- parts

pub parts_are : (size n : ℕ) (bytes : List ℕ) (i : ℕ) (x : List ℕ) → slice_get (parts size n bytes) i ≡ Some x → x ≡ take size (drop (size * i) bytes)
parts_are size zero bytes i x e = absurd (cc)
parts_are size (suc n) bytes zero x e =
    let none : size * 0 ≡ 0 = omega arith in
    same_Some x (take size bytes) (sym e) ∙ ap (λ (k : ℕ). take size (drop k bytes)) (sym none)
parts_are size (suc n) bytes (suc i) x e =
    let next : size + size * i ≡ size * suc i = omega arith in
    parts_are size n (drop size bytes) i x e ∙ ap (take size) (drop-drop (size * i) size bytes) ∙ ap (λ (k : ℕ). take size (drop k bytes)) next

pub parts_short : (size n : ℕ) (bytes : List ℕ) → AllByRecursion (λ (p : List ℕ). length p ≤ size) (parts size n bytes)
parts_short size zero bytes = tt
parts_short size (suc n) bytes = (simp length-take (omega arith), parts_short size n (drop size bytes))

-- ---- what opens a base

-- A piece of a chunk with the name and the key of its number agrees with the base, since its chunk is the base's string.
pub piece_agrees : (strings : List (List ℕ)) (names : List Name) (keys : List (List ℕ)) (base : List ℕ) (p : KeptPiece) (name : Name)
    → HaveDistinctDigests strings → IsOpenedBy strings names keys base → Contains strings (arc_value p.chunk)
    → slice_get names p.index ≡ Some name → slice_get keys p.index ≡ Some p.key.bytes → sha256 (arc_value p.chunk) ≡ name.bytes → HasPiece base p
piece_agrees strings names keys base p name apart opens among named keyed digest =
    let o = opens p.index name p.key.bytes named keyed in
    let same : o.0 ≡ arc_value p.chunk = apart o.0 (arc_value p.chunk) o.1 among (o.2 ∙ sym digest) in
    subst (λ (c : List ℕ). HasPart base p.index (chunk_text p.key.bytes c)) same o.3

-- ---- the base of an image line

pub first_filled : (n : ℕ) (part : List ℕ) → part ≡ take (length part) (filled n part)
unfolding filled
first_filled n part = sym (take_at part (replicate (n - length part) 0) (length part) refl)

pub opened_by_line : (salt raw : List ℕ) (names : List Name) (keys strings : List (List ℕ))
    → map name_bytes names ≡ map (sealed_name salt) (chunks_of raw) → keys ≡ map (sealed_key salt) (chunks_of raw)
    → ((x : List ℕ) → Contains (map (sealed_bytes salt) (chunks_of raw)) x → Contains strings x)
    → IsOpenedBy strings names keys (padded raw)
unfolding chunks_of
opened_by_line salt raw names keys strings named keyed among i name key at kat =
    let chunks : List (List ℕ) = chunks_of raw in
    let n = option_of (sealed_name salt) (slice_get chunks i) name.bytes (sym (slice_get-map (sealed_name salt) chunks i) ∙ ap (λ (l : List (List ℕ)). slice_get l i) (sym named) ∙ slice_get-map name_bytes names i ∙ ap (option_map name_bytes) at) in
    let part : List ℕ = n.0 in
    let got : slice_get chunks i ≡ Some part = n.1 in
    let k : Some (sealed_key salt part) ≡ Some key = ap (option_map (sealed_key salt)) (sym got) ∙ sym (slice_get-map (sealed_key salt) chunks i) ∙ ap (λ (l : List (List ℕ)). slice_get l i) (sym keyed) ∙ kat in
    let key_is : sealed_key salt part ≡ key = same_Some (sealed_key salt part) key k in
    let part_is : part ≡ part_of (padded raw) i = parts_are 524288 (count_of_chunks (length raw)) (padded raw) i part got in
    let back : chunk_text (sealed_key salt part) (sealed_bytes salt part) ≡ filled 524288 part = chunk_twice (sealed_key salt part) (filled 524288 part) in
    let has : part ≡ take (length part) (chunk_text key (sealed_bytes salt part)) =
    first_filled 524288 part ∙ ap (take (length part)) (sym back) ∙ ap (λ (c : List ℕ). take (length part) (chunk_text c (sealed_bytes salt part))) key_is in (
      sealed_bytes salt part,
      among (sealed_bytes salt part) (contains_map (sealed_bytes salt) chunks i part got),
      n.2,
      subst (λ (q : List ℕ). q ≡ take (length q) (chunk_text key (sealed_bytes salt part))) part_is has,
    )

-- ---- the base that a manifest denotes

pub length-with_stream : (s : ℕ → ℕ) (t : ℕ) (text : List ℕ) → length (with_stream s t text) ≡ length text
unfolding with_stream
length-with_stream s t [] = refl
length-with_stream s t (x ∷ text) = ap suc (length-with_stream s (suc t) text)

pub length-chunk_text : (key text : List ℕ) → length (chunk_text key text) ≡ length text
unfolding chunk_text
length-chunk_text key text = length-with_stream (stream_byte (encrypted key) (replicate 16 0)) 0 text

-- what is joined of two parts
pub both_of : (key : List ℕ) (body rest : Option (List ℕ)) (joined : List ℕ) → both (opened key body) rest ≡ Some joined
    → (b : List ℕ) × (r : List ℕ) × (body ≡ Some b) × (rest ≡ Some r) × (chunk_text key b ++ r ≡ joined)
both_of key None rest joined e = absurd (cc)
both_of key (Some b) None joined e = absurd (cc)
both_of key (Some b) (Some r) joined e = (b, r, refl, refl, same_Some _ joined e)

-- Each part of what a manifest denotes is its chunk, decrypted.
pub plain_part : (body : List ℕ → Option (List ℕ)) (names : List Name) (keys : List (List ℕ)) (joined : List ℕ) → plain_of body names keys ≡ Some joined
    → AllByRecursion (λ (n : Name). (b : List ℕ) → body n.bytes ≡ Some b → length b ≡ 524288) names
    → (i : ℕ) (name : Name) (key : List ℕ) → slice_get names i ≡ Some name → slice_get keys i ≡ Some key
    → (b : List ℕ) × (body name.bytes ≡ Some b) × (part_of joined i ≡ chunk_text key b)
unfolding plain_of
plain_part body [] keys joined e long i name key at kat = absurd (cc)
plain_part body (n ∷ names) [] joined e long i name key at kat = absurd (cc)
plain_part body (n ∷ names) (k ∷ keys) joined e long zero name key at kat =
    let w = both_of k (body n.bytes) (plain_of body names keys) joined e in
    let same : n ≡ name = same_Some n name at in
    let ksame : k ≡ key = same_Some k key kat in
    let wide : length (chunk_text k w.0) ≡ 524288 = length-chunk_text k w.0 ∙ long.0 w.0 w.2 in (
      w.0,
      subst (λ (m : Name). body m.bytes ≡ Some w.0) same w.2,
      ap (λ (l : List ℕ). take 524288 l) (sym w.4) ∙ take_at (chunk_text k w.0) w.1 524288 wide ∙ ap (λ (c : List ℕ). chunk_text c w.0) ksame,
    )
plain_part body (n ∷ names) (k ∷ keys) joined e long (suc i) name key at kat =
    let w = both_of k (body n.bytes) (plain_of body names keys) joined e in
    let wide : length (chunk_text k w.0) ≡ 524288 = length-chunk_text k w.0 ∙ long.0 w.0 w.2 in
    let rest = plain_part body names keys w.1 w.3 long.1 i name key at kat in
    let next : 524288 * suc i ≡ 524288 + 524288 * i = omega arith in
    let back : drop (524288 * suc i) joined ≡ drop (524288 * i) w.1 =
    ap (λ (m : ℕ). drop m joined) next ∙ sym (drop-drop (524288 * i) 524288 joined)
    ∙ ap (λ (l : List ℕ). drop (524288 * i) (drop 524288 l)) (sym w.4) ∙ ap (drop (524288 * i)) (drop_at (chunk_text k w.0) w.1 524288 wide) in
    (rest.0, rest.1, ap (take 524288) back ∙ rest.2)

-- It is as long as its chunks together.
pub plain_long : (body : List ℕ → Option (List ℕ)) (names : List Name) (keys : List (List ℕ)) (joined : List ℕ) → plain_of body names keys ≡ Some joined
    → AllByRecursion (λ (n : Name). (b : List ℕ) → body n.bytes ≡ Some b → length b ≡ 524288) names → length joined ≡ 524288 * length names
unfolding plain_of
plain_long body [] keys joined e long = ap length (sym (same_Some [] joined e)) ∙ omega arith
plain_long body (n ∷ names) [] joined e long = absurd (cc)
plain_long body (n ∷ names) (k ∷ keys) joined e long =
    let w = both_of k (body n.bytes) (plain_of body names keys) joined e in
    let wide : length (chunk_text k w.0) ≡ 524288 = length-chunk_text k w.0 ∙ long.0 w.0 w.2 in
    let rest : length w.1 ≡ 524288 * length names = plain_long body names keys w.1 w.3 long.1 in
    ap length (sym w.4) ∙ length-append (chunk_text k w.0) w.1 ∙ omega arith

-- It is there where all bodies are there.
pub plain_there : (body : List ℕ → Option (List ℕ)) (names : List Name) (keys : List (List ℕ)) → AllByRecursion (λ (n : Name). IsSome (body n.bytes)) names
    → length keys ≡ length names → (joined : List ℕ) × (plain_of body names keys ≡ Some joined)
unfolding plain_of
plain_there body [] keys h e = ([], refl)
plain_there body (n ∷ names) [] h e = absurd (omega arith)
plain_there body (n ∷ names) (k ∷ keys) h e = by (body n.bytes) (plain_there body names keys h.1 (omega arith)) h.0
  where
    by : (o : Option (List ℕ)) → (joined : List ℕ) × (plain_of body names keys ≡ Some joined) → IsSome o → (joined : List ℕ) × (both (opened k o) (plain_of body names keys) ≡ Some joined)
    by None r s = absurd (cc)
    by (Some b) r s = (chunk_text k b ++ r.0, ap (both (Some (chunk_text k b))) r.1)

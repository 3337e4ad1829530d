-- pieces, filled to whole chunks
use Rattle.std.proofs.Common.{◌≡◌, ℕ, suc, ◌+◌, ◌-◌, ◌*◌, ◌/◌, ◌%◌, ◌≤◌, arith, List, [], ◌∷◌, ◌++◌, length, take, map, refl, sym, ap, subst, ◌∙◌, append-nil, append_assoc, length-append}
use Rattle.std.specs.Prelude.{replicate, Option, Some}
use Rattle.std.specs.List.{flat_map, AllByRecursion, Contains}
use Rattle.std.proofs.Math.Seq.{take-append-add}
use Rattle.std.proofs.lemmas.List.{take-replicate}
use Rattle.sha2.specs.Sha256.{sha256}
use Rattle.lr_manifest.specs.declared.name.Name.{Name}
use Rattle.lr_layout.specs.Padded.{padded, padded_length}
use Rattle.lr_convergent.specs.Sealed.{filled, sealed_bytes, sealed_name}
use Rattle.lr_seal.specs.Denotation.{AreKept}
use Rattle.lr_seal.specs.Made.{HaveDistinctDigests, HasBody}
use Rattle.lr_images.specs.Drive.{joined, ArePieces}

abbrev Filled : List (List ℕ) → Type 0
Filled pieces = (k : ℕ) × (flat_map (filled 524288) pieces ≡ joined pieces ++ replicate k 0) × ((length (joined pieces) + k) % 524288 ≡ 0)

filled_one : (p : List ℕ) → length p ≤ 524288 → Filled (p ∷ [])
unfolding filled
filled_one p most = (
  524288 - length p,
  append-nil (p ++ replicate (524288 - length p) 0) ∙ ap (λ (l : List ℕ). l ++ replicate (524288 - length p) 0) (sym (append-nil p)),
  (let e : length (p ++ []) ≡ length p = ap length (append-nil p) in omega (arith, e, most)),
)

filled_whole : (p : List ℕ) → length p ≡ 524288 → filled 524288 p ≡ p
unfolding filled
filled_whole p e = let none : 524288 - length p ≡ 0 = omega (arith, e) in ap (λ n. p ++ replicate n 0) none ∙ append-nil p

filled_more : (p : List ℕ) (pieces : List (List ℕ)) → length p ≡ 524288 → Filled pieces → Filled (p ∷ pieces)
filled_more p pieces e (k, same, whole) = (
  k,
  (λ i. filled_whole p e i ++ same i) ∙ sym (append_assoc p (joined pieces) (replicate k 0)),
  (let f : length (p ++ joined pieces) ≡ length p + length (joined pieces) = length-append p (joined pieces) in omega (arith, e, f, whole)),
)

is_filled : (len : ℕ) (pieces : List (List ℕ)) → ArePieces len pieces → Filled pieces
is_filled len [] are = none
  where
    none : Filled []
    none = (0, refl, refl)
is_filled len (p ∷ []) are = filled_one p are.2
is_filled len (p ∷ q ∷ pieces) are =
    let whole : length p ≡ 524288 = omega (arith, are.0, are.1, are.2, are.3.0) in
    filled_more p (q ∷ pieces) whole (is_filled (len + length p) (q ∷ pieces) are.3)

at_length : (raw : List ℕ) (k : ℕ) → (length raw + k) % 524288 ≡ 0 → take (padded_length (length raw)) (raw ++ replicate k 0) ≡ padded raw
at_length raw k whole =
    let more : ℕ = padded_length (length raw) - length raw in
    let sum : padded_length (length raw) ≡ length raw + more = omega arith in
    let least : more ≤ k = omega (arith, whole) in
    ap (λ n. take n (raw ++ replicate k 0)) sum ∙ (take-append-add raw (replicate k 0) more ∙ ap (λ (l : List ℕ). raw ++ l) (take-replicate more k 0 least))

-- pieces, filled and joined, begin with the padded bytes
pub filled_padded : (pieces : List (List ℕ)) → ArePieces 0 pieces → take (padded_length (length (joined pieces))) (flat_map (filled 524288) pieces) ≡ padded (joined pieces)
filled_padded pieces are = by (is_filled 0 pieces are)
  where
    by : Filled pieces → take (padded_length (length (joined pieces))) (flat_map (filled 524288) pieces) ≡ padded (joined pieces)
    by (k, same, whole) = ap (take (padded_length (length (joined pieces)))) same ∙ at_length (joined pieces) k whole

-- names of sealed pieces
abbrev pub AreNames : List ℕ → List Name → List (List ℕ) → Type 0
AreNames salt [] [] = Unit {0}
AreNames salt [] (p ∷ pieces) = ⊥
AreNames salt (n ∷ names) [] = ⊥
AreNames salt (n ∷ names) (p ∷ pieces) = (n.bytes ≡ sealed_name salt p) × AreNames salt names pieces

-- where digests tell the strings apart, the body of each name is the sealed piece
pub are_kept : (salt : List ℕ) (strings : List (List ℕ)) (body : List ℕ → Option (List ℕ)) (names : List Name) (pieces : List (List ℕ)) → HaveDistinctDigests strings
    → ((x : List ℕ) → Contains (map (sealed_bytes salt) pieces) x → Contains strings x) → AllByRecursion (HasBody strings body) names → AreNames salt names pieces → AreKept salt body names pieces
are_kept salt strings body [] [] apart all bodies named = tt
are_kept salt strings body [] (p ∷ pieces) apart all bodies named = absurd named
are_kept salt strings body (n ∷ names) [] apart all bodies named = absurd named
are_kept salt strings body (n ∷ names) (p ∷ pieces) apart all bodies named =
    let one = bodies.0 in
    let same : one.0 ≡ sealed_bytes salt p = apart one.0 (sealed_bytes salt p) one.2 (all (sealed_bytes salt p) (here (sealed_bytes salt p) (map (sealed_bytes salt) pieces))) (one.3 ∙ named.0) in
    (one.1 ∙ ap Some same, are_kept salt strings body names pieces apart (λ x c. all x (there x (sealed_bytes salt p) (map (sealed_bytes salt) pieces) c)) bodies.1 named.1)
  where
    here : (x : List ℕ) (xs : List (List ℕ)) → Contains (x ∷ xs) x
    here x xs = (0, omega arith, refl)

    there : (y x : List ℕ) (xs : List (List ℕ)) → Contains xs y → Contains (x ∷ xs) y
    there y x xs c = (suc c.0, omega (arith, c.1), c.2)

-- Bytes by their pieces.
use Rattle.std.proofs.Common.{◌≡◌, ◌≤◌, ◌<◌, ◌^◌, ℕ, suc, zero, ◌+◌, ◌-◌, ◌*◌, List, [], ◌∷◌, ◌++◌, length, length-append, length-take-le, length-drop, take, take_all, drop, get_or, slice_index, refl, sym, ap, subst, ◌∙◌, append_assoc, arith}
use Rattle.std.specs.Prelude.{codes}
use Rattle.std.specs.Int.{w16, w32, w64, to_be_bytes, from_be_bytes}
use Rattle.std.specs.List.{flat_map, AllByRecursion}
use Rattle.std.proofs.lemmas.List.{take-append-drop, drop-drop, get_or-take, append-nil}
use Rattle.std.proofs.lemmas.Nat.{be_bytes_2, be_bytes_4, be_bytes_8}
use Rattle.std.proofs.lemmas.Grind.{flat_map-append}
use Rattle.std.proofs.Math.Seq.{take-add}
use Rattle.lr_manifest.specs.declared.name.Name.{Name}
use Rattle.lr_manifest.specs.Manifest.{HasNoFault, head_text, IsManifest, Spells, ManifestFields, name_bytes, itself}

abbrev AreSmall : List ℕ → Type 0
AreSmall b = (i : ℕ) → get_or b i 0 < 256

small-drop : (n : ℕ) (b : List ℕ) → AreSmall b → AreSmall (drop n b)
small-drop zero b h = h
small-drop (suc n) [] h = h
small-drop (suc n) (x ∷ b) h = small-drop n b (λ i. h (suc i))

small-take : (n : ℕ) (b : List ℕ) → AreSmall b → AreSmall (take n b)
small-take zero b h i = omega arith
small-take (suc n) [] h i = h i
small-take (suc n) (x ∷ b) h zero = h zero
small-take (suc n) (x ∷ b) h (suc i) = small-take n b (λ j. h (suc j)) i

piece2 : (b : List ℕ) → 2 ≤ length b → AreSmall b → to_be_bytes w16 (from_be_bytes w16 b) ≡ take 2 b
piece2 b le h =
    let e : (k : ℕ) → k < 2 → get_or (take 2 b) k 0 ≡ get_or b k 0 = λ k lk. get_or-take 2 b k 0 lk in
    be_bytes_2 (take 2 b) (from_be_bytes w16 b) (length-take-le 2 b le) (small-take 2 b h) (omega (arith, e 0 (omega arith), e 1 (omega arith)))

piece4 : (b : List ℕ) → 4 ≤ length b → AreSmall b → to_be_bytes w32 (from_be_bytes w32 b) ≡ take 4 b
piece4 b le h =
    let e : (k : ℕ) → k < 4 → get_or (take 4 b) k 0 ≡ get_or b k 0 = λ k lk. get_or-take 4 b k 0 lk in
    be_bytes_4 (take 4 b) (from_be_bytes w32 b) (length-take-le 4 b le) (small-take 4 b h)
    (omega (arith, e 0 (omega arith), e 1 (omega arith), e 2 (omega arith), e 3 (omega arith)))

piece8 : (b : List ℕ) → 8 ≤ length b → AreSmall b → to_be_bytes w64 (from_be_bytes w64 b) ≡ take 8 b
piece8 b le h =
    let e : (k : ℕ) → k < 8 → get_or (take 8 b) k 0 ≡ get_or b k 0 = λ k lk. get_or-take 8 b k 0 lk in
    be_bytes_8 (take 8 b) (from_be_bytes w64 b) (length-take-le 8 b le) (small-take 8 b h)
    (omega (arith, e 0 (omega arith), e 1 (omega arith), e 2 (omega arith), e 3 (omega arith), e 4 (omega arith), e 5 (omega arith), e 6 (omega arith), e 7 (omega arith)))

-- the first n bytes of the rest from place k
cut : (k n : ℕ) (b : List ℕ) → drop k b ≡ take n (drop k b) ++ drop (k + n) b
cut k n b = sym (take-append-drop n (drop k b)) ∙ ap (λ (r : List ℕ). take n (drop k b) ++ r) (drop-drop n k b)

joined : (b a0 a4 a6 a8 a16 a20 d4 d6 d8 d16 d20 d24 : List ℕ) → b ≡ a0 ++ d4 → d4 ≡ a4 ++ d6 → d6 ≡ a6 ++ d8 → d8 ≡ a8 ++ d16 → d16 ≡ a16 ++ d20 → d20 ≡ a20 ++ d24
    → b ≡ (a0 ++ (a4 ++ (a6 ++ (a8 ++ (a16 ++ a20))))) ++ d24
joined b a0 a4 a6 a8 a16 a20 d4 d6 d8 d16 d20 d24 e0 e4 e6 e8 e16 e20 = rw (e0, e4, e6, e8, e16, e20) (simp append_assoc)

pub head_of : (b : List ℕ) (count : ℕ) → AreSmall b → HasNoFault b → from_be_bytes w32 (drop 20 b) ≡ count
    → b ≡ head_text (from_be_bytes w64 (drop 8 b)) count ++ drop 24 b
head_of b count h s ec =
    let p0 : b ≡ codes "LRMF" ++ drop 4 b = sym (take-append-drop 4 b) ∙ ap (λ (x : List ℕ). x ++ drop 4 b) s.magic in
    let p4 : drop 4 b ≡ to_be_bytes w16 1 ++ drop 6 b =
    cut 4 2 b ∙ ap (λ (x : List ℕ). x ++ drop 6 b) (sym (piece2 (drop 4 b) (omega (arith, length-drop 4 b, s.long)) (small-drop 4 b h)) ∙ ap (to_be_bytes w16) s.version) in
    let p6 : drop 6 b ≡ to_be_bytes w16 0 ++ drop 8 b =
    cut 6 2 b ∙ ap (λ (x : List ℕ). x ++ drop 8 b) (sym (piece2 (drop 6 b) (omega (arith, length-drop 6 b, s.long)) (small-drop 6 b h)) ∙ ap (to_be_bytes w16) s.reserved) in
    let p8 : drop 8 b ≡ to_be_bytes w64 (from_be_bytes w64 (drop 8 b)) ++ drop 16 b =
    cut 8 8 b ∙ ap (λ (x : List ℕ). x ++ drop 16 b) (sym (piece8 (drop 8 b) (omega (arith, length-drop 8 b, s.long)) (small-drop 8 b h))) in
    let p16 : drop 16 b ≡ to_be_bytes w32 524288 ++ drop 20 b =
    cut 16 4 b ∙ ap (λ (x : List ℕ). x ++ drop 20 b) (sym (piece4 (drop 16 b) (omega (arith, length-drop 16 b, s.long)) (small-drop 16 b h)) ∙ ap (to_be_bytes w32) s.size) in
    let p20 : drop 20 b ≡ to_be_bytes w32 count ++ drop 24 b =
    cut 20 4 b ∙ ap (λ (x : List ℕ). x ++ drop 24 b) (sym (piece4 (drop 20 b) (omega (arith, length-drop 20 b, s.long)) (small-drop 20 b h)) ∙ ap (to_be_bytes w32) ec) in
    joined b (codes "LRMF") (to_be_bytes w16 1) (to_be_bytes w16 0) (to_be_bytes w64 (from_be_bytes w64 (drop 8 b))) (to_be_bytes w32 524288) (to_be_bytes w32 count)
    (drop 4 b) (drop 6 b) (drop 8 b) (drop 16 b) (drop 20 b) (drop 24 b) p0 p4 p6 p8 p16 p20

-- one more row of 32 bytes
pub row_more : {X : Type 0} (f : X → List ℕ) (xs : List X) (x : X) (i : ℕ) (b : List ℕ) → flat_map f xs ≡ take (32 * i) b → f x ≡ take 32 (drop (32 * i) b)
    → flat_map f (xs ++ x ∷ []) ≡ take (32 * (i + 1)) b
row_more f xs x i b h e =
    let more : 32 * (i + 1) ≡ 32 * i + 32 = omega arith in
    flat_map-append f xs (x ∷ []) ∙ (λ k. h k ++ (append-nil (f x) ∙ e) k) ∙ sym (take-add (32 * i) 32 b) ∙ ap (λ (n : ℕ). take n b) (sym more)

pub all_more : {X : Type 0} (P : X → Type 0) (xs : List X) (x : X) → AllByRecursion P xs → P x → AllByRecursion P (xs ++ x ∷ [])
all_more P [] x h p = (p, tt)
all_more P (y ∷ xs) x h p = (h.0, all_more P xs x h.1 p)

-- the bytes from their pieces, after the head
pub tail_of : (b : List ℕ) (k : ℕ) → length b ≡ 52 + 64 * k → drop 24 b ≡
    take (32 * k) (drop 24 b) ++ (take 12 (drop (24 + 32 * k) b) ++ (take (32 * k) (drop 12 (drop (24 + 32 * k) b)) ++ take 16 (drop (32 * k) (drop 12 (drop (24 + 32 * k) b)))))
tail_of b k len =
    let r : List ℕ = drop (24 + 32 * k) b in
    let last : length (drop (32 * k) (drop 12 r)) ≡ 16 = omega (arith, length-drop (32 * k) (drop 12 r), length-drop 12 r, length-drop (24 + 32 * k) b) in
    cut 24 (32 * k) b ∙ ap (λ (x : List ℕ). take (32 * k) (drop 24 b) ++ x)
    (sym (take-append-drop 12 r) ∙ ap (λ (x : List ℕ). take 12 r ++ x)
    (sym (take-append-drop (32 * k) (drop 12 r)) ∙ ap (λ (x : List ℕ). take (32 * k) (drop 12 r) ++ x) (sym (take_all 16 (drop (32 * k) (drop 12 r)) (omega arith)))))

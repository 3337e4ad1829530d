-- pages over a base, and writes
use Rattle.std.proofs.Common.{◌≡◌, ℕ, suc, zero, ◌+◌, ◌*◌, ◌<◌, ◌≤◌, List, [], ◌∷◌, ◌++◌, length, take, drop, set, Option, Some, None, unwrap_or, refl, ap, sym, ◌∙◌, arith, All, get_or, map, replicate, ◌-◌, option_map, Box, Global, inl, ◌⊎◌, zero-add, slice_get, add_assoc, subst}
use Rattle.std.proofs.lemmas.List.{append_assoc, length-append, length-take, length-drop, length-replicate, drop-drop, take-append-drop, take-append-le, drop-append-le, take_at}
use Rattle.std.proofs.Math.Seq.{take-append_seam, take-append-add, drop-append-add, drop-append_seam}
use Rattle.std.proofs.lemmas.List.Elements.{All-head, All-tail, All-nil, All-cons, All-append, All-replicate}
use Rattle.std.proofs.lemmas.List.{length-map, length-set, map-set, get_or_append_left, get_or-map, get_or-append_right, get_or-replicate, set-append_left, map-append, replicate-append-replicate}
use Rattle.std.proofs.lemmas.Option.{slice_get-get_or}
use Rattle.std.specs.Box.{box_value}
use Rattle.lr_overlay.specs.Pages.{OverlaySeen, Pages, HasLength, put, over, fitted}

pub length-fitted : (size : ℕ) (bytes : List ℕ) → length (fitted size bytes) ≡ size
unfolding fitted
length-fitted size bytes = simp (length-take, length-append, length-replicate) (omega arith)

pub fitted_same : (size : ℕ) (bytes : List ℕ) → length bytes ≡ size → fitted size bytes ≡ bytes
unfolding fitted
fitted_same size bytes h = take_at bytes (replicate (size - length bytes) 0) size h

-- a write that begins where a part ends
pub put_seam : (l r b : List ℕ) (n : ℕ) → length l ≡ n → put (l ++ r) n b ≡ l ++ (b ++ drop (length b) r)
put_seam l r b n e = rw (← e, take-append_seam, drop-append-add) refl

pub put_right : (l r b : List ℕ) (i n : ℕ) → length l + i ≡ n → put (l ++ r) n b ≡ l ++ put r i b
put_right l r b i n e = rw (← e, take-append-add, add_assoc, drop-append-add, append_assoc) refl

pub put_first : (l r b : List ℕ) (n : ℕ) → n ≡ 0 → length b ≡ length l → put (l ++ r) n b ≡ b ++ r
put_first l r b n e h = rw (e, zero-add, h, drop-append_seam) refl

pub put_twice : (xs a b : List ℕ) (i : ℕ) → i + length a ≤ length xs → put xs i (a ++ b) ≡ put (put xs i a) (i + length a) b
put_twice xs a b i h =
    let seam : length (take i xs ++ a) ≡ i + length a = simp (length-append, length-take) (omega arith) in
    rw (← append_assoc (take i xs) a (drop (i + length a) xs), put_seam (take i xs ++ a) (drop (i + length a) xs) b (i + length a) seam)
    (simp (length-append, drop-drop, append_assoc, add_assoc) refl)

pub length-put : (xs b : List ℕ) (i : ℕ) → i + length b ≤ length xs → length (put xs i b) ≡ length xs
length-put xs b i h = simp (length-append, length-take, length-drop) (omega arith)

pub put_left : (l r b : List ℕ) (i : ℕ) → i + length b ≤ length l → put (l ++ r) i b ≡ put l i b ++ r
put_left l r b i h =
    let low : i ≤ length l = omega arith in
    rw (take-append-le i l r low, drop-append-le (i + length b) l r h) (simp append_assoc refl)

-- a write within a part of a list is a write of that part
pub put_part : (xs a : List ℕ) (s n i : ℕ) → i + length a ≤ n → s + n ≤ length xs → put xs s (put (take n (drop s xs)) i a) ≡ put xs (s + i) a
put_part xs a s n i h k =
    let T = take s xs in
    let P = take n (drop s xs) in
    let R = drop (s + n) xs in
    let long : length P ≡ n = simp (length-take, length-drop) (omega arith) in
    let first : length T ≡ s = simp length-take (omega arith) in
    let split : P ++ R ≡ drop s xs = rw (← drop-drop n s xs) (take-append-drop n (drop s xs)) in
    let whole : T ++ (P ++ R) ≡ xs = rw split (take-append-drop s xs) in
    let right : put xs (s + i) a ≡ T ++ (put P i a ++ R) =
    subst (λ (l : List ℕ). put l (s + i) a ≡ T ++ (put P i a ++ R)) whole (put_right T (P ++ R) a i (s + i) (omega arith) ∙ ap (λ r. T ++ r) (put_left P R a i (omega arith))) in
    let same : length (put P i a) ≡ n = length-put P a i (omega arith) ∙ long in
    ap (λ m. T ++ (put P i a ++ drop (s + m) xs)) same ∙ sym right

module _ (size : ℕ) where
  length-shown : (page : Option (List ℕ)) (base : List ℕ) → HasLength size page → size ≤ length base → length (unwrap_or page (take size base)) ≡ size
  length-shown None base h k = rw length-take (omega arith)
  length-shown (Some bytes) base h k = h

  -- a page that is written
  pub over-set : (pages : Pages) (base : List ℕ) (at : ℕ) (bytes : List ℕ) → at < length pages → length bytes ≡ size → All (HasLength size) pages → length base ≡ size * length pages → over size (set pages at (Some bytes)) base ≡ put (over size pages base) (size * at) bytes
  over-set [] base at bytes h e all fits = absurd (omega arith)
  over-set (page ∷ pages) base zero bytes h e all fits =
      let first : length (unwrap_or page (take size base)) ≡ size = length-shown page base (All-head (HasLength size) page pages all) (omega arith) in
      sym (put_first (unwrap_or page (take size base)) (over size pages (drop size base)) bytes (size * 0) (omega arith) (e ∙ sym first))
  over-set (page ∷ pages) base (suc at) bytes h e all fits =
      let first : length (unwrap_or page (take size base)) ≡ size = length-shown page base (All-head (HasLength size) page pages all) (omega arith) in
      let rest : length (drop size base) ≡ size * length pages = rw length-drop (omega arith) in
      ap (λ r. unwrap_or page (take size base) ++ r) (over-set pages (drop size base) at bytes (omega arith) e (All-tail (HasLength size) page pages all) rest)
      ∙ sym (put_right (unwrap_or page (take size base)) (over size pages (drop size base)) bytes (size * at) (size * suc at) (omega arith))

  pub length-over : (pages : Pages) (base : List ℕ) → All (HasLength size) pages → length base ≡ size * length pages → length (over size pages base) ≡ size * length pages
  length-over [] base all fits = omega arith
  length-over (page ∷ pages) base all fits =
      let first : length (unwrap_or page (take size base)) ≡ size = length-shown page base (All-head (HasLength size) page pages all) (omega arith) in
      let rest : length (drop size base) ≡ size * length pages = rw length-drop (omega arith) in
      let more : length (over size pages (drop size base)) ≡ size * length pages = length-over pages (drop size base) (All-tail (HasLength size) page pages all) rest in
      rw length-append (omega arith)

  -- a page that is read
  pub over_page : (pages : Pages) (base : List ℕ) (at : ℕ) → at < length pages → All (HasLength size) pages → length base ≡ size * length pages → take size (drop (size * at) (over size pages base)) ≡ unwrap_or (get_or pages at None) (take size (drop (size * at) base))
  over_page [] base at h all fits = absurd (omega arith)
  over_page (page ∷ pages) base zero h all fits =
      let first : length (unwrap_or page (take size base)) ≡ size = length-shown page base (All-head (HasLength size) page pages all) (omega arith) in
      let none : size * 0 ≡ 0 = omega arith in
      rw none (take_at (unwrap_or page (take size base)) (over size pages (drop size base)) size first)
  over_page (page ∷ pages) base (suc at) h all fits =
      let first : length (unwrap_or page (take size base)) ≡ size = length-shown page base (All-head (HasLength size) page pages all) (omega arith) in
      let rest : length (drop size base) ≡ size * length pages = rw length-drop (omega arith) in
      let past : size * suc at ≡ length (unwrap_or page (take size base)) + size * at = omega arith in
      let same : size + size * at ≡ size * suc at = omega arith in
      ap (λ n. take size (drop n (unwrap_or page (take size base) ++ over size pages (drop size base)))) past
      ∙ ap (λ l. take size l) (drop-append-add (unwrap_or page (take size base)) (over size pages (drop size base)) (size * at))
      ∙ over_page pages (drop size base) at (omega arith) (All-tail (HasLength size) page pages all) rest
      ∙ ap (λ l. unwrap_or (get_or pages at None) (take size l)) (drop-drop (size * at) size base ∙ ap (λ n. drop n base) same)

-- What the text of a key shows by position.
use Rattle.std.proofs.Common.{◌≡◌, ◌≢◌, ◌≤◌, ◌+◌, ◌*◌, ◌-◌, ◌/◌, ◌%◌, ℕ, List, [], ◌∷◌, ◌++◌, length, drop, Option, Some, None, refl, sym, ap, subst, ◌∙◌, inl, inr, arith, ◌<◌, IsTrue}
use mathlib.Core.Logic.{◌⊎◌}
use Rattle.std.specs.Prelude.{slice_index, codes, false, true}
use Rattle.std.proofs.lemmas.Bool.{false≢true}
use Rattle.lr_text.specs.Name.{is_name}
use Rattle.lr_text.specs.Words.{IsKey, key_word}
use Rattle.lr_text.proofs.Public.{one_key}
use Rattle.lr_origin.specs.Text.{key_text, root_text, root_value, IsKind, IsRoot}
use Rattle.lr_origin.specs.declared.key.KeyKind.{KeyKind}
use Rattle.lr_origin.specs.declared.key.KeyKind.TheVariants.{Root, Expired, Deleted, Chunk, Manifest, Withdrawn}

-- what stands where in the text of this kind
abbrev pub Shows : List ℕ → KeyKind → Type 0
Shows text (Root r) = (slice_index text 13 ≡ 97) × (root_value text ≡ r)
Shows text (Expired r) = (slice_index text 13 ≡ 101) × (root_value text ≡ r)
Shows text (Deleted r) = (slice_index text 13 ≡ 100) × (root_value text ≡ r)
Shows text (Chunk r name) = (slice_index text 13 ≡ 99) × (root_value text ≡ r) × (drop 15 text ≡ key_word name)
Shows text (Manifest r image) = (slice_index text 13 ≡ 109) × (root_value text ≡ r) × (drop 15 text ≡ image)
Shows text (Withdrawn image) = (slice_index text 0 ≡ 119) × (drop 2 text ≡ image)

value : (r : ℕ) → r ≤ 1000 → 1000 * (48 + r / 1000 - 48) + 100 * (48 + r / 100 % 10 - 48) + 10 * (48 + r / 10 % 10 - 48) + (48 + r % 10 - 48) ≡ r
value r h = omega arith

shown : (k : KeyKind) → IsKind k → Shows (key_text k) k
unfolding key_text
shown (Root r) h = (refl, value r h.1)
shown (Expired r) h = (refl, value r h.1)
shown (Deleted r) h = (refl, value r h.1)
shown (Chunk r name) h = (refl, value r h.0.1, refl)
shown (Manifest r image) h = (refl, value r h.0.1, refl)
shown (Withdrawn image) h = (refl, refl)

pub shows : (text : List ℕ) (k : KeyKind) → IsKind k → text ≡ key_text k → Shows text k
shows text k h e = subst (λ t. Shows t k) (sym e) (shown k h)

-- What is read at each letter.
module _ (text : List ℕ) (root : ℕ) (is : root ≡ root_value text) (other : slice_index text 0 ≢ 119) where
  pub read_Root : slice_index text 13 ≡ 97 → (k : KeyKind) → IsKind k → Shows text k → Some (Root root) ≡ Some k
  read_Root at (Root r) i s = ap (λ q. Some (Root q)) (is ∙ s.1)
  read_Root at (Expired r) i s = absurd (omega (arith, at, s.0))
  read_Root at (Deleted r) i s = absurd (omega (arith, at, s.0))
  read_Root at (Chunk r name) i s = absurd (omega (arith, at, s.0))
  read_Root at (Manifest r image) i s = absurd (omega (arith, at, s.0))
  read_Root at (Withdrawn image) i s = absurd (other s.0)

  pub read_Expired : slice_index text 13 ≡ 101 → (k : KeyKind) → IsKind k → Shows text k → Some (Expired root) ≡ Some k
  read_Expired at (Root r) i s = absurd (omega (arith, at, s.0))
  read_Expired at (Expired r) i s = ap (λ q. Some (Expired q)) (is ∙ s.1)
  read_Expired at (Deleted r) i s = absurd (omega (arith, at, s.0))
  read_Expired at (Chunk r name) i s = absurd (omega (arith, at, s.0))
  read_Expired at (Manifest r image) i s = absurd (omega (arith, at, s.0))
  read_Expired at (Withdrawn image) i s = absurd (other s.0)

  pub read_Deleted : slice_index text 13 ≡ 100 → (k : KeyKind) → IsKind k → Shows text k → Some (Deleted root) ≡ Some k
  read_Deleted at (Root r) i s = absurd (omega (arith, at, s.0))
  read_Deleted at (Expired r) i s = absurd (omega (arith, at, s.0))
  read_Deleted at (Deleted r) i s = ap (λ q. Some (Deleted q)) (is ∙ s.1)
  read_Deleted at (Chunk r name) i s = absurd (omega (arith, at, s.0))
  read_Deleted at (Manifest r image) i s = absurd (omega (arith, at, s.0))
  read_Deleted at (Withdrawn image) i s = absurd (other s.0)

  pub read_Chunk : slice_index text 13 ≡ 99 → (name : List ℕ) → IsKey name → drop 15 text ≡ key_word name → (k : KeyKind) → IsKind k → Shows text k → Some (Chunk root name) ≡ Some k
  read_Chunk at name key e (Root r) i s = absurd (omega (arith, at, s.0))
  read_Chunk at name key e (Expired r) i s = absurd (omega (arith, at, s.0))
  read_Chunk at name key e (Deleted r) i s = absurd (omega (arith, at, s.0))
  read_Chunk at name key e (Chunk r other_name) i s = λ j. Some (Chunk ((is ∙ s.1) j) (one_key name other_name key i.1 (sym e ∙ s.2) j))
  read_Chunk at name key e (Manifest r image) i s = absurd (omega (arith, at, s.0))
  read_Chunk at name key e (Withdrawn image) i s = absurd (other s.0)

  pub read_no_chunk : slice_index text 13 ≡ 99 → ((name : List ℕ) → IsKey name → drop 15 text ≢ key_word name) → (k : KeyKind) → IsKind k → Shows text k → None ≡ Some k
  read_no_chunk at none (Root r) i s = absurd (omega (arith, at, s.0))
  read_no_chunk at none (Expired r) i s = absurd (omega (arith, at, s.0))
  read_no_chunk at none (Deleted r) i s = absurd (omega (arith, at, s.0))
  read_no_chunk at none (Chunk r name) i s = absurd (none name i.1 s.2)
  read_no_chunk at none (Manifest r image) i s = absurd (omega (arith, at, s.0))
  read_no_chunk at none (Withdrawn image) i s = absurd (other s.0)

  pub read_Manifest : slice_index text 13 ≡ 109 → (image : List ℕ) → image ≡ drop 15 text → (k : KeyKind) → IsKind k → Shows text k → Some (Manifest root image) ≡ Some k
  read_Manifest at image e (Root r) i s = absurd (omega (arith, at, s.0))
  read_Manifest at image e (Expired r) i s = absurd (omega (arith, at, s.0))
  read_Manifest at image e (Deleted r) i s = absurd (omega (arith, at, s.0))
  read_Manifest at image e (Chunk r name) i s = absurd (omega (arith, at, s.0))
  read_Manifest at image e (Manifest r other_image) i s = λ j. Some (Manifest ((is ∙ s.1) j) ((e ∙ s.2) j))
  read_Manifest at image e (Withdrawn other_image) i s = absurd (other s.0)

  pub read_no_manifest : slice_index text 13 ≡ 109 → is_name (drop 15 text) ≡ false → (k : KeyKind) → IsKind k → Shows text k → None ≡ Some k
  read_no_manifest at none (Root r) i s = absurd (omega (arith, at, s.0))
  read_no_manifest at none (Expired r) i s = absurd (omega (arith, at, s.0))
  read_no_manifest at none (Deleted r) i s = absurd (omega (arith, at, s.0))
  read_no_manifest at none (Chunk r name) i s = absurd (omega (arith, at, s.0))
  read_no_manifest at none (Manifest r image) i s = absurd (false≢true (sym none ∙ ap is_name s.2 ∙ i.1))
  read_no_manifest at none (Withdrawn image) i s = absurd (other s.0)

  pub read_nothing : slice_index text 13 ≢ 97 → slice_index text 13 ≢ 101 → slice_index text 13 ≢ 100 → slice_index text 13 ≢ 99 → slice_index text 13 ≢ 109 → (k : KeyKind) → IsKind k → Shows text k → None ≡ Some k
  read_nothing a e d c m (Root r) i s = absurd (a s.0)
  read_nothing a e d c m (Expired r) i s = absurd (e s.0)
  read_nothing a e d c m (Deleted r) i s = absurd (d s.0)
  read_nothing a e d c m (Chunk r name) i s = absurd (c s.0)
  read_nothing a e d c m (Manifest r image) i s = absurd (m s.0)
  read_nothing a e d c m (Withdrawn image) i s = absurd (other s.0)

-- how a text begins
first_letter : (k : KeyKind) → IsKind k → (slice_index (key_text k) 0 ≡ 114) ⊎ ((image : List ℕ) × (k ≡ Withdrawn image) × IsTrue (is_name image))
unfolding key_text
first_letter (Root r) i = inl refl
first_letter (Expired r) i = inl refl
first_letter (Deleted r) i = inl refl
first_letter (Chunk r name) i = inl refl
first_letter (Manifest r image) i = inl refl
first_letter (Withdrawn image) i = inr (image, refl, i)

-- a text that names a root is long enough
long_root : (k : KeyKind) → IsKind k → slice_index (key_text k) 0 ≡ 114 → 14 ≤ length (key_text k)
unfolding key_text
long_root (Root r) i at = omega arith
long_root (Expired r) i at = omega arith
long_root (Deleted r) i at = omega arith
long_root (Chunk r name) i at = omega arith
long_root (Manifest r image) i at = omega arith
long_root (Withdrawn image) i at = absurd (omega (arith, at))

some_length : (image : List ℕ) → IsTrue (is_name image) → 1 ≤ length image
some_length [] i = absurd (false≢true i)
some_length (x ∷ xs) i = omega arith

long_withdrawn : (image : List ℕ) → IsTrue (is_name image) → 3 ≤ length (key_text (Withdrawn image))
unfolding key_text
long_withdrawn image i = let some : 1 ≤ length image = some_length image i in omega arith

-- What is read of a text that begins with `w`, and of one that is short.
module _ (text : List ℕ) (k : KeyKind) (i : IsKind k) (e : text ≡ key_text k) where
  pub not_short : length text < 3 → None ≡ Some k
  not_short short = by (first_letter k i)
    where
      by : (slice_index (key_text k) 0 ≡ 114) ⊎ ((image : List ℕ) × (k ≡ Withdrawn image) × IsTrue (is_name image)) → None ≡ Some k
      by (inl at) = let long : 14 ≤ length (key_text k) = long_root k i at in let same : length text ≡ length (key_text k) = ap length e in absurd (omega arith)
      by (inr w) =
          let long : 3 ≤ length (key_text (Withdrawn w.0)) = long_withdrawn w.0 w.2 in
          let same : length text ≡ length (key_text (Withdrawn w.0)) = ap length (e ∙ ap key_text w.1) in absurd (omega arith)

  pub not_short_root : length text < 14 → slice_index text 0 ≢ 119 → None ≡ Some k
  not_short_root short other = by (first_letter k i)
    where
      by : (slice_index (key_text k) 0 ≡ 114) ⊎ ((image : List ℕ) × (k ≡ Withdrawn image) × IsTrue (is_name image)) → None ≡ Some k
      by (inl at) = let long : 14 ≤ length (key_text k) = long_root k i at in let same : length text ≡ length (key_text k) = ap length e in absurd (omega arith)
      by (inr w) = absurd (other (subst (λ j. Shows text j) w.1 (shows text k i e)).0)

  pub read_withdrawn : slice_index text 0 ≡ 119 → (image : List ℕ) → image ≡ drop 2 text → Some (Withdrawn image) ≡ Some k
  read_withdrawn at image same = by (first_letter k i)
    where
      by : (slice_index (key_text k) 0 ≡ 114) ⊎ ((w : List ℕ) × (k ≡ Withdrawn w) × IsTrue (is_name w)) → Some (Withdrawn image) ≡ Some k
      by (inl r) = let there : slice_index text 0 ≡ slice_index (key_text k) 0 = ap (λ t. slice_index t 0) e in absurd (omega arith)
      by (inr w) =
          let here : drop 2 text ≡ w.0 = (subst (λ j. Shows text j) w.1 (shows text k i e)).1 in
          ap Some (ap Withdrawn (same ∙ here) ∙ sym w.1)

  pub read_no_withdrawn : slice_index text 0 ≡ 119 → is_name (drop 2 text) ≡ false → None ≡ Some k
  read_no_withdrawn at none = by (first_letter k i)
    where
      by : (slice_index (key_text k) 0 ≡ 114) ⊎ ((w : List ℕ) × (k ≡ Withdrawn w) × IsTrue (is_name w)) → None ≡ Some k
      by (inl r) = let there : slice_index text 0 ≡ slice_index (key_text k) 0 = ap (λ t. slice_index t 0) e in absurd (omega arith)
      by (inr w) =
          let here : drop 2 text ≡ w.0 = (subst (λ j. Shows text j) w.1 (shows text k i e)).1 in
          absurd (false≢true (sym none ∙ ap is_name here ∙ w.2))

-- The names of a view, each by the first key that names it.
use Rattle.std.proofs.Common.{◌≡◌, ◌<◌, ◌+◌, ℕ, zero, suc, arith, List, [], ◌∷◌, map, length, Option, Some, None, IsSome, refl, sym, ap, subst, ◌∙◌, inl, inr}
use mathlib.Core.Logic.{◌⊎◌}
use Rattle.std.proofs.lemmas.List.{length-map}
use Rattle.std.specs.FinMap as fin
use Rattle.lr_origin.specs.declared.key.KeyKind.{KeyKind}
use Rattle.lr_origin.specs.declared.key.KeyKind.TheVariants.{Root, Expired, Deleted, Chunk, Manifest, Withdrawn}
use Rattle.lr_roots.specs.declared.walks.Wanted.TheVariants as wanted
use Rattle.lr_roots.specs.View.{View, Held, Has, Lacks}
use Rattle.lr_roots.specs.Names.{IsOneOf, AreApart, AreMany, AreFewer, Names, IsNamed, IsManifestOf}
use Rattle.lr_roots.specs.Catalog.{IsWhole, without}
use Rattle.lr_roots.specs.Walks.{NamesFirst, IsWanted}
use Rattle.lr_roots.proofs.Aside.{has_all, lacks_manifest, fewer_named}

-- the name in a key
unfoldable pub name_in : KeyKind → List ℕ
name_in (Manifest r image) = image
name_in (Withdrawn image) = image
name_in (Root r) = []
name_in (Expired r) = []
name_in (Deleted r) = []
name_in (Chunk r name) = []

module _ {A B : Type 0} (f : A → B) where
  one_mapped : (xs : List A) (x : A) → IsOneOf xs x → IsOneOf (map f xs) (f x)
  one_mapped [] x i = i
  one_mapped (y ∷ xs) x (inl e) = inl (ap f e)
  one_mapped (y ∷ xs) x (inr i) = inr (one_mapped xs x i)

  one_before : (xs : List A) (y : B) → IsOneOf (map f xs) y → (x : A) × IsOneOf xs x × (y ≡ f x)
  one_before [] y i = absurd i
  one_before (x ∷ xs) y (inl e) = (x, inl refl, e)
  one_before (x ∷ xs) y (inr i) = let h = one_before xs y i in (h.0, inr h.1, h.2)

  apart_mapped : (xs : List A) → ((x y : A) → IsOneOf xs x → IsOneOf xs y → f x ≡ f y → x ≡ y) → AreApart xs → AreApart (map f xs)
  apart_mapped [] one apart = tt
  apart_mapped (x ∷ xs) one apart =
      (λ i. let h = one_before xs (f x) i in apart.0 (subst (IsOneOf xs) (sym (one x h.0 (inl refl) (inr h.1) h.2)) h.1), apart_mapped xs (λ a b i j e. one a b (inr i) (inr j) e) apart.1)

gone : (v : View) (key : KeyKind) → Lacks v key → Has v key → ⊥
gone v key lacks has = let h : IsSome {T = Held} None = subst IsSome lacks has in cc

-- the least root below a bound that has a manifest of the image, if any
LeastRoot : View → List ℕ → ℕ → Type 0
LeastRoot v image most = (r : ℕ) × (r < most) × Has v (Manifest r image) × ((q : ℕ) → q < r → Lacks v (Manifest q image))

least_root : (v : View) (image : List ℕ) (most : ℕ) → LeastRoot v image most ⊎ ((q : ℕ) → q < most → Lacks v (Manifest q image))
unfolding LeastRoot
least_root v image zero = inr (λ q less. absurd (omega (arith, less)))
least_root v image (suc n) = by (least_root v image n)
  where
    here : (o : Option Held) → fin.get v (Manifest n image) ≡ o → ((q : ℕ) → q < n → Lacks v (Manifest q image)) → LeastRoot v image (suc n) ⊎ ((q : ℕ) → q < suc n → Lacks v (Manifest q image))
    here (Some h) e none = inl (n, omega arith, subst IsSome (sym e) refl, none)
    here None e none = inr (λ q less. at q (grind (arith, less)))
      where
        at : (q : ℕ) → (q < n) ⊎ (q ≡ n) → Lacks v (Manifest q image)
        at q (inl l) = none q l
        at q (inr same) = subst (λ x. Lacks v (Manifest x image)) (sym same) e

    by : LeastRoot v image n ⊎ ((q : ℕ) → q < n → Lacks v (Manifest q image)) → LeastRoot v image (suc n) ⊎ ((q : ℕ) → q < suc n → Lacks v (Manifest q image))
    by (inl h) = let less : h.0 < n = h.1 in inl (h.0, omega (arith, less), h.2, h.3)
    by (inr none) = here (fin.get v (Manifest n image)) refl none

-- the first key that names the image
FirstOf : View → List ℕ → Type 0
FirstOf v image = (key : KeyKind) × IsWanted v wanted.Named key × (image ≡ name_in key)

module _ (aside : Option KeyKind) (all v : View) (whole : IsWhole all) (view : without aside all ≡ v) where
  none_above : (q : ℕ) (image : List ℕ) → 1000 < q → Lacks v (Manifest q image)
  none_above q image above = subst (λ w. Lacks w (Manifest q image)) view (lacks_manifest aside all q image whole above)

  first_of_least : (image : List ℕ) (most : ℕ) → LeastRoot v image most → FirstOf v image
  unfolding LeastRoot FirstOf name_in
  first_of_least image most h = (Manifest h.0 image, (h.2, h.3), refl)

  first_of : (image : List ℕ) → IsNamed v image → FirstOf v image
  unfolding FirstOf name_in
  first_of image (Manifest r own, has, e) = by (least_root v image (r + 1))
    where
      by : LeastRoot v image (r + 1) ⊎ ((q : ℕ) → q < r + 1 → Lacks v (Manifest q image)) → FirstOf v image
      by (inl h) = first_of_least image (r + 1) h
      by (inr none) = absurd (gone v (Manifest r image) (none r (omega arith)) (subst (λ x. Has v (Manifest r x)) e has))
  first_of image (Withdrawn own, has, e) = by (least_root v image 1001)
    where
      by : LeastRoot v image 1001 ⊎ ((q : ℕ) → q < 1001 → Lacks v (Manifest q image)) → FirstOf v image
      by (inl h) = first_of_least image 1001 h
      by (inr none) = (Withdrawn image, (subst (λ x. Has v (Withdrawn x)) e has, λ q. at q (grind arith)), refl)
        where
          at : (q : ℕ) → (q < 1001) ⊎ (1000 < q) → Lacks v (Manifest q image)
          at q (inl l) = none q l
          at q (inr l) = none_above q image l
  first_of image (Root r, has, e) = absurd e
  first_of image (Expired r, has, e) = absurd e
  first_of image (Deleted r, has, e) = absurd e
  first_of image (Chunk r name, has, e) = absurd e

  names_it : (key : KeyKind) → NamesFirst v key → Names key (name_in key)
  unfolding name_in
  names_it (Manifest r image) h = refl
  names_it (Withdrawn image) h = refl
  names_it (Root r) h = absurd h
  names_it (Expired r) h = absurd h
  names_it (Deleted r) h = absurd h
  names_it (Chunk r name) h = absurd h

  same_root : (r q : ℕ) (image : List ℕ) → Has v (Manifest r image) → Has v (Manifest q image) → NamesFirst v (Manifest r image) → NamesFirst v (Manifest q image) → r ≡ q
  same_root r q image hr hq first second = by (grind arith)
    where
      by : (r < q) ⊎ ((q < r) ⊎ (r ≡ q)) → r ≡ q
      by (inl l) = absurd (gone v (Manifest r image) (second r l) hr)
      by (inr (inl l)) = absurd (gone v (Manifest q image) (first q l) hq)
      by (inr (inr e)) = e

  one_key : (x y : KeyKind) → IsWanted v wanted.Named x → IsWanted v wanted.Named y → name_in x ≡ name_in y → x ≡ y
  unfolding name_in
  one_key (Manifest r i) (Manifest q j) a b e =
      let has : Has v (Manifest q i) = subst (λ x. Has v (Manifest q x)) (sym e) b.0 in
      let first : NamesFirst v (Manifest q i) = subst (λ x. NamesFirst v (Manifest q x)) (sym e) b.1 in
      let same : r ≡ q = same_root r q i a.0 has a.1 first in
      λ t. Manifest (same t) (e t)
  one_key (Manifest r i) (Withdrawn j) a b e = absurd (gone v (Manifest r i) (subst (λ x. Lacks v (Manifest r x)) (sym e) (b.1 r)) a.0)
  one_key (Withdrawn i) (Manifest r j) a b e = absurd (gone v (Manifest r j) (subst (λ x. Lacks v (Manifest r x)) e (a.1 r)) b.0)
  one_key (Withdrawn i) (Withdrawn j) a b e = ap Withdrawn e
  one_key (Root r) y a b e = absurd a.1
  one_key (Expired r) y a b e = absurd a.1
  one_key (Deleted r) y a b e = absurd a.1
  one_key (Chunk r n) y a b e = absurd a.1
  one_key (Manifest r i) (Root q) a b e = absurd b.1
  one_key (Manifest r i) (Expired q) a b e = absurd b.1
  one_key (Manifest r i) (Deleted q) a b e = absurd b.1
  one_key (Manifest r i) (Chunk q n) a b e = absurd b.1
  one_key (Withdrawn i) (Root q) a b e = absurd b.1
  one_key (Withdrawn i) (Expired q) a b e = absurd b.1
  one_key (Withdrawn i) (Deleted q) a b e = absurd b.1
  one_key (Withdrawn i) (Chunk q n) a b e = absurd b.1

  -- as many names as first keys
  pub many_names : (n : ℕ) → AreMany (IsWanted v wanted.Named) n → AreMany (IsNamed v) n
  unfolding FirstOf
  many_names n many = record {
    each = map name_in many.each;
    just = λ image. (into image, back image);
    apart = apart_mapped name_in many.each (λ x y i j e. one_key x y ((many.just x).0 i) ((many.just y).0 j) e) many.apart;
    long = length-map many.each name_in ∙ many.long;
  }
    where
      into : (image : List ℕ) → IsOneOf (map name_in many.each) image → IsNamed v image
      into image i =
          let h = one_before name_in many.each image i in
          let is : IsWanted v wanted.Named h.0 = (many.just h.0).0 h.1 in
          (h.0, is.0, subst (Names h.0) (sym h.2) (names_it h.0 is.1))

      back : (image : List ℕ) → IsNamed v image → IsOneOf (map name_in many.each) image
      back image named =
          let h = first_of image named in
          subst (IsOneOf (map name_in many.each)) (sym h.2) (one_mapped name_in many.each h.0 ((many.just h.0).1 h.1))

  few_view : (most : ℕ) → AreFewer (IsNamed all) most → AreFewer (IsNamed v) most
  few_view most few = fewer_named v all most (λ q has. has_all aside all q (subst (λ w. Has w q) (sym view) has)) few

  pub names_fit : (most n : ℕ) → AreFewer (IsNamed all) most → AreMany (IsWanted v wanted.Named) n → n < most
  names_fit most n few many =
      let names = many_names n many in
      let less : length names.each < most = few_view most few names.each (λ x i. (names.just x).0 i) names.apart in
      subst (λ k. k < most) names.long less

  manifest_names : (r : ℕ) (key : KeyKind) → IsManifestOf r key → Names key (name_in key)
  unfolding name_in
  manifest_names r (Manifest q image) h = refl
  manifest_names r (Withdrawn image) h = absurd h
  manifest_names r (Root q) h = absurd h
  manifest_names r (Expired q) h = absurd h
  manifest_names r (Deleted q) h = absurd h
  manifest_names r (Chunk q name) h = absurd h

  one_manifest : (r : ℕ) (x y : KeyKind) → IsManifestOf r x → IsManifestOf r y → name_in x ≡ name_in y → x ≡ y
  unfolding name_in
  one_manifest r (Manifest p i) (Manifest q j) a b e = λ t. Manifest ((a ∙ sym b) t) (e t)
  one_manifest r (Manifest p i) (Withdrawn j) a b e = absurd b
  one_manifest r (Manifest p i) (Root q) a b e = absurd b
  one_manifest r (Manifest p i) (Expired q) a b e = absurd b
  one_manifest r (Manifest p i) (Deleted q) a b e = absurd b
  one_manifest r (Manifest p i) (Chunk q n) a b e = absurd b
  one_manifest r (Withdrawn i) y a b e = absurd a
  one_manifest r (Root q) y a b e = absurd a
  one_manifest r (Expired q) y a b e = absurd a
  one_manifest r (Deleted q) y a b e = absurd a
  one_manifest r (Chunk q n) y a b e = absurd a

  pub manifests_fit : (most n r : ℕ) → AreFewer (IsNamed all) most → AreMany (IsWanted v (wanted.Manifests r)) n → n < most
  manifests_fit most n r few many =
      let apart = apart_mapped name_in many.each (λ x y i j e. one_manifest r x y ((many.just x).0 i).1 ((many.just y).0 j).1 e) many.apart in
      let less : length (map name_in many.each) < most = few_view most few (map name_in many.each) named apart in
      subst (λ k. k < most) (length-map many.each name_in ∙ many.long) less
    where
      named : (image : List ℕ) → IsOneOf (map name_in many.each) image → IsNamed v image
      named image i =
          let h = one_before name_in many.each image i in
          let is : IsWanted v (wanted.Manifests r) h.0 = (many.just h.0).0 h.1 in
          (h.0, is.0, subst (Names h.0) (sym h.2) (manifest_names r h.0 is.1))

-- the text of a view, line by line
use Rattle.std.proofs.Common.{◌≡◌, ◌≤◌, ◌<◌, ◌+◌, ℕ, zero, suc, List, [], ◌∷◌, ◌++◌, length, Option, Some, None, IsSome, refl, sym, ap, subst, ◌∙◌, inl, inr, arith, append-nil, append_assoc, add-one}
use mathlib.Core.Logic.{◌⊎◌}
use Rattle.std.specs.Prelude.{Result, Ok, Err, OnOk}
use denote.Ref.{Bor}
use Rattle.std.specs.Arc.{arc_value}
use Rattle.std.specs.declared.sync.Arc.{Arc}
use Rattle.std.specs.declared.alloc.Global.{Global}
use Rattle.std.specs.Option.{option_copied}
use Rattle.std.specs.FinMap as map
use Rattle.std.specs.FinMap.{IsAntisymmetric, slice_cmp-IsAntisymmetric, nat_cmp-IsAntisymmetric}
use Rattle.std.specs.declared.cmp.Ordering.{Ordering}
use Rattle.std.specs.declared.cmp.Ordering.TheVariants.{Less, Equal, Greater}
use Rattle.std.specs.Ordering.{ordering_reverse}
use Rattle.std.specs.Cmp.Lexicographic.{nat_list_cmp_total}
use Rattle.std.specs.List.{AllByRecursion}
use Rattle.std.specs.List.Sorted.{IsStrictlySortedBy}
use Rattle.lr_manifest.specs.Manifest.{ManifestFields}
use Rattle.lr_origin.specs.Objects.{key_cmp, IsAfter, pointed}
use Rattle.lr_origin.specs.declared.key.KeyKind.TheVariants.{Root, Manifest}
use Rattle.lr_roots.specs.declared.state.RootState.{RootState}
use Rattle.lr_roots.specs.View.{View, Held, salt, manifest, bare, Has}
use Rattle.lr_roots.specs.Roots.{IsTop, IsRootState, IsHome, IsHomeless}
use Rattle.lr_roots.specs.Names.{AreMany, IsOneOf, AreApart, AreFewer, IsNamed, IsNextImage, IsManifestOf, IsChunkOf}
use Rattle.lr_roots.specs.Catalog.{manifest_of, arc_of}
use Rattle.lr_roots.specs.Sound.{IsSound, Suits}
use Rattle.lr_rootlines.specs.RootLines.{root_line}
use Rattle.lr_desk.specs.Roots.{image_head, image_tail, image_line, IsRootLine, AreRootLines, IsRootsPart, IsServedWord, IsImageLine, IsInLive, AreImageLines, IsImagesPart, Adds}

no_some : {X : Type 0} (o : Option X) → o ≡ None → IsSome o → ⊥
no_some {X = X} o e h = let i : IsSome {T = X} None = subst IsSome e h in cc

-- ---- roots

pub root_there : (v : View) (n below next : ℕ) → next ≡ below + 1 → IsSound v → IsTop v n → below < n → Has v (Root next)
root_there v n below next e sound top less = sound.no_gaps (Root n) n next (top.1 (omega (arith, less))) refl (omega (arith, e)) (omega (arith, e, less))

pub state_there : (v : View) (r : ℕ) (o : Option RootState) → Has v (Root r) → IsRootState v r o → IsSome o
state_there v r None has is = absurd (no_some _ is has)
state_there v r (Some s) has is = refl

pub root_line_put : {E : Type 0} (v : View) (r : ℕ) (o : Option RootState) (state : RootState) (images chunks : ℕ) (old new : List ℕ) (result : Result (Unit {0}) E) → o ≡ Some state → IsRootState v r o
    → AreMany (λ key. Has v key × IsManifestOf r key) images → AreMany (λ key. Has v key × IsChunkOf r key) chunks
    → OnOk result (new ≡ old ++ root_line r state images chunks) → OnOk result (Adds (IsRootLine v r) old new)
root_line_put v r o state images chunks old new (Ok x) e is manifests bodies put = (
  root_line r state images chunks,
  record { state = state; images = images; chunks = chunks; is = subst (IsRootState v r) e is; manifests = manifests; bodies = bodies; text = refl },
  put,
)
root_line_put v r o state images chunks old new (Err x) e is manifests bodies put = put

pub no_roots : (v : View) (old : List ℕ) → Adds (AreRootLines v 0) old old
no_roots v old = ([], refl, sym (append-nil old))

pub one_root : (v : View) (n next : ℕ) (old mid new : List ℕ) → next ≡ n + 1 → Adds (AreRootLines v n) old mid → Adds (IsRootLine v next) mid new → Adds (AreRootLines v next) old new
one_root v n next old mid new e (front, lines, a) (line, is, b) =
    let s : next ≡ suc n = e ∙ add-one n in (
      front ++ line,
      subst (λ m. AreRootLines v m (front ++ line)) (sym s) (front, line, lines, subst (λ m. IsRootLine v m line) s is, refl),
      b ∙ ap (λ l. l ++ line) a ∙ append_assoc old front line,
    )

pub all_roots : (v : View) (n end : ℕ) (old new : List ℕ) → IsTop v n → end ≡ n → Adds (AreRootLines v end) old new → Adds (IsRootsPart v) old new
all_roots v n end old new top e (text, lines, a) = (text, (n, top, subst (λ m. AreRootLines v m text) e lines), a)

-- ---- one image

manifest_held : (o : Option Held) (m : ManifestFields) → manifest_of o ≡ Some m → o ≡ Some (manifest m)
manifest_held (Some (manifest n)) m e = cc
manifest_held (Some (salt s)) m e = absurd (cc)
manifest_held (Some bare) m e = absurd (cc)
manifest_held None m e = absurd (cc)

suits_manifest : (r : ℕ) (image : List ℕ) (held : Held) → Suits (Manifest r image) held → IsSome (manifest_of (Some held))
suits_manifest r image (manifest m) s = refl
suits_manifest r image (salt x) s = absurd s
suits_manifest r image bare s = absurd s

kept_manifest : (v : View) (r : ℕ) (image : List ℕ) (o : Option Held) → map.get v (Manifest r image) ≡ o → IsSound v → IsSome o → IsSome (manifest_of o)
kept_manifest v r image None e sound h = absurd (no_some {X = Held} None refl h)
kept_manifest v r image (Some held) e sound h = suits_manifest r image held (sound.fits (Manifest r image) held e)

of_arc : (o : Option (Bor (Arc ManifestFields Global))) → IsSome (arc_of o) → IsSome o
of_arc None h = absurd (no_some {X = ManifestFields} None refl h)
of_arc (Some a) h = refl

pub manifest_there : (v : View) (image : List ℕ) (home : ℕ) (o : Option (Bor (Arc ManifestFields Global))) → IsSound v → IsHome v image home
    → arc_of o ≡ manifest_of (map.get v (Manifest home image)) → IsSome o
manifest_there v image home o sound at e = of_arc o (subst IsSome (sym e) (kept_manifest v home image (map.get v (Manifest home image)) refl sound at.listed))

pub image_line_made : (v : View) (image : List ℕ) (home raw : ℕ) (word : List ℕ) (o : Option (Bor (Arc ManifestFields Global))) (a : Bor (Arc ManifestFields Global)) (old mid new : List ℕ)
    → IsHome v image home → arc_of o ≡ manifest_of (map.get v (Manifest home image)) → o ≡ Some a → raw ≡ (arc_value a.now).raw_len → IsServedWord v image word
    → mid ≡ old ++ image_head image home → new ≡ mid ++ image_tail raw word → Adds (IsImageLine v image) old new
unfolding image_line
image_line_made v image home raw word o a old mid new at e is len served p q = (
  image_head image home ++ image_tail raw word,
  record {
    home = home;
    fields = arc_value a.now;
    word = word;
    homed = at;
    listed = manifest_held (map.get v (Manifest home image)) (arc_value a.now) (sym e ∙ ap arc_of is);
    served = served;
    text = ap (λ n. image_head image home ++ image_tail n word) len;
  },
  q ∙ ap (λ l. l ++ image_tail raw word) p ∙ append_assoc old (image_head image home) (image_tail raw word),
)

-- ---- all images, in byte order

exact : IsAntisymmetric key_cmp
exact = slice_cmp-IsAntisymmetric nat_cmp-IsAntisymmetric

itself : (a : List ℕ) → key_cmp a a ≡ Less → ⊥
itself a less = by (key_cmp a a) less (nat_list_cmp_total.antisymm a a)
  where
    by : (o : Ordering) → o ≡ Less → o ≡ ordering_reverse o → ⊥
    by Less l e = cc
    by Equal l e = cc
    by Greater l e = cc

stand : (a b : List ℕ) → (key_cmp a b ≡ Less) ⊎ ((a ≡ b) ⊎ (key_cmp b a ≡ Less))
stand a b = by (key_cmp a b) refl
  where
    by : (o : Ordering) → key_cmp a b ≡ o → (key_cmp a b ≡ Less) ⊎ ((a ≡ b) ⊎ (key_cmp b a ≡ Less))
    by Less e = inl e
    by Equal e = inr (inl (exact a b e))
    by Greater e = inr (inr (nat_list_cmp_total.antisymm b a ∙ ap ordering_reverse e))

past : (after : Option (List ℕ)) (x : List ℕ) → IsAfter after x ⊎ ¬ (IsAfter after x)
past None x = inl tt
past (Some b) x = by (key_cmp b x) refl
  where
    by : (o : Ordering) → key_cmp b x ≡ o → (key_cmp b x ≡ Less) ⊎ ¬ (key_cmp b x ≡ Less)
    by Less e = inl e
    by Equal e = inr (λ f. cc)
    by Greater e = inr (λ f. cc)

further : (after : Option (List ℕ)) (image x : List ℕ) → IsAfter after image → key_cmp image x ≡ Less → IsAfter after x
further None image x a less = tt
further (Some b) image x a less = nat_list_cmp_total.trans b image x a less

-- what isn't past the bound stands below what is
before : (after : Option (List ℕ)) (image x : List ℕ) → IsAfter after image → ¬ (IsAfter after x) → key_cmp x image ≡ Less
before after image x a far = by (stand x image)
  where
    by : (key_cmp x image ≡ Less) ⊎ ((x ≡ image) ⊎ (key_cmp image x ≡ Less)) → key_cmp x image ≡ Less
    by (inl less) = less
    by (inr (inl same)) = absurd (far (subst (IsAfter after) (sym same) a))
    by (inr (inr more)) = absurd (far (further after image x a more))

-- what isn't past the next bound is that bound, or isn't past the old one, or stands between the two
up_to : (after : Option (List ℕ)) (image x : List ℕ) → ¬ (IsAfter (Some image) x) → (x ≡ image) ⊎ (((key_cmp x image ≡ Less) × IsAfter after x) ⊎ ¬ (IsAfter after x))
up_to after image x far = by (past after x) (stand x image)
  where
    by : IsAfter after x ⊎ ¬ (IsAfter after x) → (key_cmp x image ≡ Less) ⊎ ((x ≡ image) ⊎ (key_cmp image x ≡ Less)) → (x ≡ image) ⊎ (((key_cmp x image ≡ Less) × IsAfter after x) ⊎ ¬ (IsAfter after x))
    by (inr near) s = inr (inr near)
    by (inl a) (inl less) = inr (inl (less, a))
    by (inl a) (inr (inl same)) = inl same
    by (inl a) (inr (inr more)) = absurd (far more)

one_more : {A : Type 0} (xs : List A) (x y : A) → IsOneOf (xs ++ x ∷ []) y → (y ≡ x) ⊎ IsOneOf xs y
one_more [] x y (inl e) = inl e
one_more [] x y (inr none) = absurd none
one_more (z ∷ xs) x y (inl e) = inr (inl e)
one_more (z ∷ xs) x y (inr i) = elim (one_more xs x y i) [ inl e ↦ inl e | inr i ↦ inr (inr i) ]

at_end : {A : Type 0} (xs : List A) (x : A) → IsOneOf (xs ++ x ∷ []) x
at_end [] x = inl refl
at_end (z ∷ xs) x = inr (at_end xs x)

in_front : {A : Type 0} (xs : List A) (x y : A) → IsOneOf xs y → IsOneOf (xs ++ x ∷ []) y
in_front (z ∷ xs) x y (inl e) = inl e
in_front (z ∷ xs) x y (inr i) = inr (in_front xs x y i)
in_front [] x y none = absurd none

all_front : (x : List ℕ) (xs : List (List ℕ)) (k : List ℕ) → AllByRecursion (λ y. key_cmp x y ≡ Less) xs → key_cmp x k ≡ Less → AllByRecursion (λ y. key_cmp x y ≡ Less) (xs ++ k ∷ [])
all_front x [] k all less = (less, tt)
all_front x (y ∷ xs) k all less = (all.0, all_front x xs k all.1 less)

sorted_more : (xs : List (List ℕ)) (k : List ℕ) → IsStrictlySortedBy key_cmp xs → ((x : List ℕ) → IsOneOf xs x → key_cmp x k ≡ Less) → IsStrictlySortedBy key_cmp (xs ++ k ∷ [])
unfolding IsStrictlySortedBy
sorted_more [] k s below = (tt, tt)
sorted_more (x ∷ xs) k s below = (all_front x xs k s.0 (below x (inl refl)), sorted_more xs k s.1 (λ y i. below y (inr i)))

sorted_none : IsStrictlySortedBy key_cmp []
unfolding IsStrictlySortedBy
sorted_none = tt

lines_more : (v : View) (images : List (List ℕ)) (image text line : List ℕ) → AreImageLines v images text → IsImageLine v image line → AreImageLines v (images ++ image ∷ []) (text ++ line)
lines_more v [] image text line none is = (line, [], is, refl, ap (λ l. l ++ line) none ∙ sym (append-nil line))
lines_more v (x ∷ xs) image text line (first, rest, at, lines, e) is =
    (first, rest ++ line, at, lines_more v xs image rest line lines is, ap (λ l. l ++ line) e ∙ append_assoc first rest line)

module _ (v : View) where
  -- So many names were seen, all up to the bound, and those that have a home are listed, in order.
  pub record IsListing (after : Option (List ℕ)) (turn : ℕ) (old new : List ℕ) : Type 0 where
    pub seen : List (List ℕ)
    pub named : (x : List ℕ) → IsOneOf seen x → IsNamed v x
    pub below : (x : List ℕ) → IsOneOf seen x → ¬ (IsAfter after x)
    pub apart : AreApart seen
    pub long : length seen ≡ turn
    pub images : List (List ℕ)
    pub ascend : IsStrictlySortedBy key_cmp images
    pub homed : (x : List ℕ) → IsOneOf images x → IsInLive v x
    pub near : (x : List ℕ) → IsOneOf images x → ¬ (IsAfter after x)
    pub all : (x : List ℕ) → IsInLive v x → ¬ (IsAfter after x) → IsOneOf images x
    pub text : List ℕ
    pub lines : AreImageLines v images text
    pub adds : new ≡ old ++ text

  pub listing_start : (old : List ℕ) → IsListing None 0 old old
  listing_start old = record {
    seen = [];
    named = λ x i. absurd i;
    below = λ x i. absurd i;
    apart = tt;
    long = refl;
    images = [];
    ascend = sorted_none;
    homed = λ x i. absurd i;
    near = λ x i. absurd i;
    all = λ x h far. absurd (far tt);
    text = [];
    lines = refl;
    adds = sym (append-nil old);
  }

  in_live_named : (x : List ℕ) → IsInLive v x → IsNamed v x
  in_live_named x h = (Manifest h.0 x, h.2, refl)

  longer : (n turn next : ℕ) → next ≡ turn + 1 → n ≡ turn → suc n ≡ next
  longer n turn next e l = omega (arith, e, l)

  module _ (after : Option (List ℕ)) (turn next : ℕ) (image : List ℕ) (old mid new : List ℕ) (e : next ≡ turn + 1) (w : IsListing after turn old mid) (is : IsNextImage after v (Some image)) where
    seen_named : (x : List ℕ) → IsOneOf (image ∷ w.seen) x → IsNamed v x
    seen_named x (inl s) = subst (IsNamed v) (sym s) is.1
    seen_named x (inr i) = w.named x i

    -- none past the old bound is below the new one
    not_near : (xs : List (List ℕ)) → ((x : List ℕ) → IsOneOf xs x → ¬ (IsAfter after x)) → (x : List ℕ) → IsOneOf xs x → ¬ (IsAfter (Some image) x)
    not_near xs far x i less = far x i (further after image x is.0 less)

    seen_below : (x : List ℕ) → IsOneOf (image ∷ w.seen) x → ¬ (IsAfter (Some image) x)
    seen_below x (inl s) less = itself image (subst (λ y. key_cmp image y ≡ Less) s less)
    seen_below x (inr i) less = not_near w.seen w.below x i less

    listing_without : IsHomeless v image → new ≡ mid → IsListing (Some image) next old new
    listing_without none same = record {
      seen = image ∷ w.seen;
      named = seen_named;
      below = seen_below;
      apart = (λ i. w.below image i is.0, w.apart);
      long = longer (length w.seen) turn next e w.long;
      images = w.images;
      ascend = w.ascend;
      homed = w.homed;
      near = not_near w.images w.near;
      all = λ x h far. by x h (up_to after image x far);
      text = w.text;
      lines = w.lines;
      adds = same ∙ w.adds;
    }
      where
        by : (x : List ℕ) → IsInLive v x → (x ≡ image) ⊎ (((key_cmp x image ≡ Less) × IsAfter after x) ⊎ ¬ (IsAfter after x)) → IsOneOf w.images x
        by x h (inl s) = absurd (no_some _ (none h.0 h.1) (subst (λ y. Has v (Manifest h.0 y)) s h.2))
        by x h (inr (inl between)) = absurd (is.2 x between.1 between.0 (in_live_named x h))
        by x h (inr (inr close)) = w.all x h close

    listing_with : Adds (IsImageLine v image) mid new → IsListing (Some image) next old new
    listing_with (line, at, added) = record {
      seen = image ∷ w.seen;
      named = seen_named;
      below = seen_below;
      apart = (λ i. w.below image i is.0, w.apart);
      long = longer (length w.seen) turn next e w.long;
      images = w.images ++ image ∷ [];
      ascend = sorted_more w.images image w.ascend (λ x i. before after image x is.0 (w.near x i));
      homed = λ x i. homed x (one_more w.images image x i);
      near = λ x i. near x (one_more w.images image x i);
      all = λ x h far. by x h (up_to after image x far);
      text = w.text ++ line;
      lines = lines_more v w.images image w.text line w.lines at;
      adds = added ∙ ap (λ l. l ++ line) w.adds ∙ append_assoc old w.text line;
    }
      where
        homed : (x : List ℕ) → (x ≡ image) ⊎ IsOneOf w.images x → IsInLive v x
        homed x (inl s) = subst (IsInLive v) (sym s) (at.home, at.homed.live, at.homed.listed)
        homed x (inr i) = w.homed x i

        near : (x : List ℕ) → (x ≡ image) ⊎ IsOneOf w.images x → ¬ (IsAfter (Some image) x)
        near x (inl s) less = itself image (subst (λ y. key_cmp image y ≡ Less) s less)
        near x (inr i) less = not_near w.images w.near x i less

        by : (x : List ℕ) → IsInLive v x → (x ≡ image) ⊎ (((key_cmp x image ≡ Less) × IsAfter after x) ⊎ ¬ (IsAfter after x)) → IsOneOf (w.images ++ image ∷ []) x
        by x h (inl s) = subst (IsOneOf (w.images ++ image ∷ [])) (sym s) (at_end w.images image)
        by x h (inr (inl between)) = absurd (is.2 x between.1 between.0 (in_live_named x h))
        by x h (inr (inr close)) = in_front w.images image x (w.all x h close)

    pub listing_step : (IsHomeless v image × (new ≡ mid)) ⊎ Adds (IsImageLine v image) mid new → IsListing (Some image) next old new
    listing_step (inl without) = listing_without without.0 without.1
    listing_step (inr with_one) = listing_with with_one

  -- past the last name all are listed
  pub listing_end : (after : Option (List ℕ)) (turn : ℕ) (old new : List ℕ) → IsListing after turn old new → IsNextImage after v None → Adds (IsImagesPart v) old new
  listing_end after turn old new w is =
      (w.text, record { images = w.images; ascend = w.ascend; just = λ x. (w.homed x, λ h. by x h (past after x)); lines = w.lines }, w.adds)
    where
      by : (x : List ℕ) → IsInLive v x → IsAfter after x ⊎ ¬ (IsAfter after x) → IsOneOf w.images x
      by x h (inl a) = absurd (is x a (in_live_named x h))
      by x h (inr close) = w.all x h close

  -- there are not so many
  pub listing_all : (after : Option (List ℕ)) (turn most : ℕ) (old new : List ℕ) → IsListing after turn old new → most ≡ turn → AreFewer (IsNamed v) most → ⊥
  listing_all after turn most old new w e few = let less : length w.seen < most = few w.seen w.named w.apart in omega (arith, less, e, w.long)

pub pointed_copied : (r : Option (Bor (List ℕ))) → pointed r ≡ option_copied r
pointed_copied None = refl
pointed_copied (Some x) = refl

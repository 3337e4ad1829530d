-- One key more is read, and all are.
use Rattle.std.proofs.Common.{◌≡◌, ◌<◌, ◌≤◌, ◌+◌, ℕ, suc, List, [], ◌∷◌, ◌++◌, length, get_or, Option, Some, None, IsSome, true, false, Vec, refl, sym, ap, subst, ◌∙◌, inl, inr, arith, Contains, take}
use mathlib.Core.Logic.{◌⊎◌}
use Rattle.std.specs.FinMap as map
use Rattle.std.specs.FinMap.{get-empty}
use Rattle.std.specs.declared.cmp.Ordering.{Ordering}
use Rattle.std.specs.declared.cmp.Ordering.TheVariants.{Less, Equal}
use Rattle.std.specs.declared.alloc.Global.{Global}
use Rattle.std.proofs.lemmas.List.Elements.{Contains-append_left, Contains-append_right, Contains-append_cases}
use Rattle.lr_spec.specs.Rose.{Rose}
use Rattle.lr_origin.specs.Kind.{kind_cmp}
use Rattle.lr_origin.specs.Objects.{Objects, key_cmp}
use Rattle.lr_origin.specs.Text.{key_text, IsKind}
use Rattle.lr_origin.specs.declared.key.KeyKind.{KeyKind}
use Rattle.lr_roots.specs.View.{View, Held, Has, Lacks}
use Rattle.lr_roots.specs.Names.{IsFirst}
use Rattle.lr_roots.specs.Foreign.{IsForeign}
use Rattle.lr_origin.specs.declared.key.KeyKind.TheVariants.{Root, Expired, Deleted, Chunk, Manifest, Withdrawn}
use Rattle.lr_roots.specs.Sound.{Suits, IsSound}
use Rattle.lr_roots.proofs.Aside.{get_inserted, get_beside}
use Rattle.lr_opening.specs.declared.cause.StartCause.{StartCause}
use Rattle.lr_opening.specs.declared.cause.StartCause.TheVariants.{Fault, Spoiled, Foreign, TooMany, OutOfMemory}
use Rattle.lr_opening.specs.Store.{Mirrors, IsSame, IsBody, IsMalformed, IsForeignKey}
use Rattle.lr_opening.specs.Listing.{ListsAll, bytes_of}
use Rattle.lr_opening.specs.Reading.{HasBody, IsThere, AreListed, AreSuited, WhenRead, IsFirstMalformed, first_of, HaveRead, AreBelow, ReadsOn, IsForeignText}
use Rattle.lr_opening.specs.Cause.{IsRead, IsCause}
use Rattle.lr_opening.proofs.Decided.{Decided, is_some, not_none, not_both, one_inside, same_kind, isnt_there, some_of}
use Rattle.lr_opening.proofs.Ruled.{none_foreign_is_sound}
use Rattle.lr_opening.proofs.Views.{key_text_injective, text_itself}
use Rattle.lr_opening.proofs.Listed.{one, the_one, below_trans, taken_below, take_more, take_all, key_at, length_bytes}

not_below_itself : (q : List ℕ) → key_cmp q q ≡ Less → ⊥
not_below_itself q less = let h : ◌≡◌ {A = Ordering} Less Equal = sym less ∙ text_itself q in cc

-- a body that is one of the kind isn't malformed
well_formed : (m : Objects) (k : KeyKind) (x : Held) (body : List ℕ) → IsKind k → map.get m (key_text k) ≡ Some body → IsBody k x body → IsMalformed m (key_text k) → ⊥
well_formed m k x body i here is bad = bad.2 k x i refl (subst (IsBody k x) (one_inside body bad.0 (sym here ∙ bad.1)) is)

pub read_nothing : (m : Objects) → HaveRead m [] map.empty None
read_nothing m = record {
  within = λ k has. absurd (not_none (map.get map.empty k) (get-empty kind_cmp k) has);
  each = λ q c. absurd (omega (arith, c.1));
  first = λ q c. absurd (omega (arith, c.1));
}

module _ (m : Objects) (q : List ℕ) (ks : List (List ℕ)) where
  more : (p : List ℕ) → Contains ks p → Contains (ks ++ q ∷ []) p
  more p c = Contains-append_left ks (q ∷ []) p c

  last : (p : List ℕ) → p ≡ q → Contains (ks ++ q ∷ []) p
  last p e = Contains-append_right ks (q ∷ []) p (one q p e)

  before : (p : List ℕ) → Contains (ks ++ q ∷ []) p → Contains ks p ⊎ (p ≡ q)
  before p c = elim (Contains-append_cases ks (q ∷ []) p c) [ inl a ↦ inl a | inr b ↦ inr (the_one q p b) ]

  -- the first malformed key stays so, where one that is well formed comes
  first_stays : (f : Option (List ℕ)) → IsFirstMalformed m ks f → (IsMalformed m q → ⊥) → IsFirstMalformed m (ks ++ q ∷ []) f
  first_stays None h well = λ p c. elim (before p c) [ inl a ↦ h p a | inr e ↦ λ bad. well (subst (IsMalformed m) e bad) ]
  first_stays (Some first) h well =
      (more first h.0, h.1, λ p c less. elim (before p c) [ inl a ↦ h.2 p a less | inr e ↦ λ bad. well (subst (IsMalformed m) e bad) ])

  -- a malformed key comes
  first_comes : (f : Option (List ℕ)) → IsFirstMalformed m ks f → IsMalformed m q → AreBelow ks q → IsFirstMalformed m (ks ++ q ∷ []) (first_of f q)
  first_comes None h bad below =
      (last q refl, bad, λ p c less. elim (before p c) [ inl a ↦ h p a | inr e ↦ absurd (not_below_itself q (subst (λ p. key_cmp p q ≡ Less) e less)) ])
  first_comes (Some first) h bad below = (
    more first h.0,
    h.1,
    λ p c less. elim (before p c) [
      | inl a ↦ h.2 p a less
      | inr e ↦ absurd (not_below_itself q (below_trans q first q (subst (λ p. key_cmp p first ≡ Less) e less) (below first h.0)))
    ],
  )

  read_malformed : (v : View) (f : Option (List ℕ)) → HaveRead m ks v f → IsMalformed m q → AreBelow ks q → HaveRead m (ks ++ q ∷ []) v (first_of f q)
  read_malformed v f r bad below = record {
    within = λ k has. let h = r.within k has in (h.0, more (key_text k) h.1, h.2);
    each = λ p c. elim (before p c) [ inl a ↦ r.each p a | inr e ↦ inr (subst (IsMalformed m) (sym e) bad) ];
    first = first_comes f r.first bad below;
  }

  module _ (k : KeyKind) (is : IsKind k) (text : q ≡ key_text k) (v : View) (f : Option (List ℕ)) (r : HaveRead m ks v f) (below : AreBelow ks q) where
    -- a key that was read is below, so it isn't this one
    read_once : Has v k → ⊥
    read_once has = not_below_itself q (subst (λ p. key_cmp p q ≡ Less) (sym text) (below (key_text k) (r.within k has).1))

    module _ (x : Held) (body : List ℕ) (here : map.get m q ≡ Some body) (fits : IsBody k x body) where
      at_it : IsSame k (map.get m (key_text k)) (map.get (map.insert v k x) k)
      at_it = subst (λ o. IsSame k o (map.get (map.insert v k x) k)) (sym (ap (map.get m) (sym text) ∙ here)) (subst (IsSame k (Some body)) (sym (get_inserted v k x)) fits)

      -- what was there before is beside
      other : (j : KeyKind) → Has v j → j ≡ k → ⊥
      other j has e = read_once (subst (Has v) e has)

      IsIn : KeyKind → Type 0
      IsIn j = IsKind j × Contains (ks ++ q ∷ []) (key_text j) × IsSame j (map.get m (key_text j)) (map.get (map.insert v k x) j)

      within : (j : KeyKind) → Has (map.insert v k x) j → Decided (j ≡ k) → IsIn j
      unfolding IsIn
      within j has (inl e) = subst IsIn (sym e) (is, last (key_text k) (sym text), at_it)
      within j has (inr not) =
          let beside : map.get (map.insert v k x) j ≡ map.get v j = get_beside v k j x not in
          let h = r.within j (subst IsSome beside has) in
          (h.0, more (key_text j) h.1, subst (IsSame j (map.get m (key_text j))) (sym beside) h.2)

      still : (j : KeyKind) → Has v j → Has (map.insert v k x) j
      still j has = subst IsSome (sym (get_beside v k j x (other j has))) has

      read_inserted : HaveRead m (ks ++ q ∷ []) (map.insert v k x) f
      unfolding IsIn
      read_inserted = record {
        within = λ j has. within j has (same_kind j k);
        each = λ p c. elim (before p c) [
          | inl a ↦ elim (r.each p a) [ inl h ↦ inl (h.0, h.1, still h.0 h.2) | inr bad ↦ inr bad ]
          | inr e ↦ inl (k, e ∙ text, is_some (map.get (map.insert v k x) k) x (get_inserted v k x))
        ];
        first = first_stays f r.first (λ bad. well_formed m k x body is (ap (map.get m) (sym text) ∙ here) fits (subst (IsMalformed m) text bad));
      }

-- a key that is well formed
pub reads_well : (m : Objects) (q : List ℕ) (v w : View) (f : Option (List ℕ)) → (IsSome (map.get m q) → WhenRead m q v w true) → ReadsOn m q v f w f
reads_well m q v w f when ks r there below = by (when there)
  where
    by : WhenRead m q v w true → HaveRead m (ks ++ q ∷ []) w f
    by (k, is, text, inl again) = absurd (read_once m q ks k is text v f r below again.0)
    by (k, is, text, inr h) = subst (λ w. HaveRead m (ks ++ q ∷ []) w f) (sym h.4) (read_inserted m q ks k is text v f r below h.0 h.1 h.2 h.3)

-- a malformed key
pub reads_malformed : (m : Objects) (q : List ℕ) (v w : View) (f : Option (List ℕ)) → (IsSome (map.get m q) → WhenRead m q v w false) → ReadsOn m q v f w (first_of f q)
reads_malformed m q v w f when ks r there below =
    let h = when there in
    subst (λ w. HaveRead m (ks ++ q ∷ []) w (first_of f q)) (sym h.1) (read_malformed m q ks v f r h.0 below)

-- the next of the listed keys
pub reads_next : (m : Objects) (ks : List (Vec ℕ Global)) (i : ℕ) (k : Vec ℕ Global) (q : List ℕ) (v w : View) (f g : Option (List ℕ)) → i < length ks → k ≡ get_or ks i k → q ≡ k.items → ListsAll m (bytes_of ks) → HaveRead m (take i (bytes_of ks)) v f → ReadsOn m q v f w g → HaveRead m (take (i + 1) (bytes_of ks)) w g
reads_next m ks i k q v w f g less at text lists r next =
    let below : i < length (bytes_of ks) = omega (arith, less, length_bytes ks) in
    let here : q ≡ get_or (bytes_of ks) i q = text ∙ key_at ks i k k less at q in
    let one_more : i + 1 ≡ suc i = omega arith in
    let end : take (i + 1) (bytes_of ks) ≡ take i (bytes_of ks) ++ q ∷ [] = ap (λ n. take n (bytes_of ks)) one_more ∙ take_more (bytes_of ks) i q below ∙ ap (λ p. take i (bytes_of ks) ++ p ∷ []) (sym here) in
    subst (λ l. HaveRead m l w g) (sym end) (next (take i (bytes_of ks)) r (lists.each q (i, below, sym here)) (λ p c. subst (λ x. key_cmp p x ≡ Less) (sym here) (taken_below (bytes_of ks) i q p below lists.ascends c)))

-- the key that is read is one of the store
pub is_listed : (m : Objects) (ks : List (Vec ℕ Global)) (i : ℕ) (k : Vec ℕ Global) (q : List ℕ) → i < length ks → k ≡ get_or ks i k → q ≡ k.items → ListsAll m (bytes_of ks) → IsSome (map.get m q)
is_listed m ks i k q less at text lists =
    let below : i < length (bytes_of ks) = omega (arith, less, length_bytes ks) in
    lists.each q (i, below, sym (text ∙ key_at ks i k k less at q))

pub reads_to_end : (m : Objects) (ks : List (Vec ℕ Global)) (i : ℕ) (v : View) (f : Option (List ℕ)) → length ks ≡ i → HaveRead m (take i (bytes_of ks)) v f → HaveRead m (bytes_of ks) v f
reads_to_end m ks i v f e r = subst (λ l. HaveRead m l v f) (ap (λ n. take n (bytes_of ks)) (sym e ∙ sym (length_bytes ks)) ∙ take_all (bytes_of ks)) r

module _ (m : Objects) (ks : List (List ℕ)) (lists : ListsAll m ks) (v : View) where
  -- where no key is malformed, the view is that of the store
  pub read_mirrors : HaveRead m ks v None → Mirrors m v
  read_mirrors r = record {
    each = λ k is. each k is (map.get m (key_text k)) refl;
    kinds = λ k has. (r.within k has).0;
    only = λ q there. only q (lists.all q there);
  }
    where
      seen : (q : List ℕ) → Contains ks q → (k : KeyKind) × (q ≡ key_text k) × Has v k
      seen q c = elim (r.each q c) [ inl h ↦ h | inr bad ↦ absurd (r.first q c bad) ]

      each : (k : KeyKind) → IsKind k → (o : Option (List ℕ)) → map.get m (key_text k) ≡ o → IsSame k (map.get m (key_text k)) (map.get v k)
      each k is (Some body) e =
          let h = seen (key_text k) (lists.all (key_text k) (is_some (map.get m (key_text k)) body e)) in
          let j = r.within h.0 h.2 in
          let same : h.0 ≡ k = key_text_injective h.0 k j.0 is (sym h.1) in
          subst (λ k. IsSame k (map.get m (key_text k)) (map.get v k)) same j.2
      each k is None e =
          let lacks : Lacks v k = isnt_there v k (λ has. not_none (map.get m (key_text k)) e (lists.each (key_text k) (r.within k has).1)) in
          subst (λ o. IsSame k o (map.get v k)) (sym e) (subst (IsSame k None) (sym lacks) tt)

      only : (q : List ℕ) → Contains ks q → (k : KeyKind) × IsKind k × (q ≡ key_text k)
      only q c = let h = seen q c in (h.0, (r.within h.0 h.2).0, h.1)

  -- the first malformed key is the foreign one
  pub read_foreign : (p : List ℕ) → HaveRead m ks v (Some p) → IsForeignKey m p
  read_foreign p r = inl (r.first.1, λ q less bad. r.first.2 q (lists.all q (is_some (map.get m q) bad.0 bad.1)) less bad)

-- where none is malformed, it is the first that breaks a rule of the view
pub breaks_foreign : (m : Objects) (v : View) (text : List ℕ) → Mirrors m v → IsForeignText v (Some text) → IsForeignKey m text
breaks_foreign m v text of_v h = inr (v, of_v, (h.0, h.1, h.2))

-- a key more that is suited
pub suited_inserted : (v : View) (k : KeyKind) (x : Held) → IsKind k → Suits k x → AreSuited v → AreSuited (map.insert v k x)
suited_inserted v k x is fits all j y e = by (same_kind j k)
  where
    by : Decided (j ≡ k) → IsKind j × Suits j y
    by (inl same) =
        let inside : x ≡ y = one_inside x y (sym (get_inserted v k x) ∙ sym (ap (map.get (map.insert v k x)) same) ∙ e) in
        subst (λ j. IsKind j × Suits j y) (sym same) (is, subst (Suits k) inside fits)
    by (inr not) = all j y (sym (get_beside v k j x not) ∙ e)

pub suited_empty : AreSuited map.empty
suited_empty k x e = absurd (not_both (map.get map.empty k) x (get-empty kind_cmp k) e)

-- a count that rose after a later start rose after an earlier one
rose_sooner : (before middle after : ℕ) → before ≤ middle → Rose middle after → Rose before after
rose_sooner before middle after le (inl less) = inl (omega (arith, le, less))
rose_sooner before middle after le (inr end) = inr end

pub cause_sooner : (told : Option Objects) (before middle after : ℕ) (cause : StartCause) → before ≤ middle → IsCause told middle after cause → IsCause told before after cause
cause_sooner told before middle after (Fault None) le c = rose_sooner before middle after le c
cause_sooner told before middle after (Fault (Some k)) le c = (rose_sooner before middle after le c.0, c.1, c.2)
cause_sooner told before middle after (Spoiled k) le c = c
cause_sooner told before middle after (Foreign bytes) le c = c
cause_sooner told before middle after TooMany le c = c
cause_sooner told before middle after OutOfMemory le c = tt

-- a body that isn't one of its key's kind
pub body_malformed : (m : Objects) (q : List ℕ) (k : KeyKind) → IsKind k → q ≡ key_text k → HasBody m k None → IsMalformed m q
body_malformed m q k is text h =
    (h.0, ap (map.get m) text ∙ h.1, λ j held i e fits. h.2 held (subst (λ j. IsBody j held h.0) (key_text_injective j k i is (sym e ∙ text)) fits))

-- all that is read but a chunk
pub read_kind : (k : KeyKind) → ((r : ℕ) (name : List ℕ) → k ≡ Chunk r name → ⊥) → IsRead k
read_kind (Root r) other = tt
read_kind (Expired r) other = tt
read_kind (Deleted r) other = tt
read_kind (Manifest r image) other = tt
read_kind (Withdrawn image) other = tt
read_kind (Chunk r name) other = absurd (other r name refl)

-- the cause that a listed key gives, in the words of all
pub cause_of_key : (told now : Option Objects) (ks : List (Vec ℕ Global)) (i : ℕ) (k : Vec ℕ Global) (q : List ℕ) (before middle after : ℕ) (cause : StartCause) → i < length ks → k ≡ get_or ks i k → q ≡ k.items → now ≡ told → before ≤ middle
    → (IsThere now q → IsCause now middle after cause) → AreListed told (bytes_of ks) → IsCause told before after cause
cause_of_key told now ks i k q before middle after cause less at text same le h listed =
    cause_sooner told before middle after cause le (subst (λ o. IsCause o middle after cause) same (h (λ m e. is_listed m ks i k q less at text (listed m (sym same ∙ e)))))

-- and the cause that the reading of all keys gives
pub cause_of_reading : (told now : Option Objects) (ks : List (List ℕ)) (before middle after : ℕ) (cause : StartCause) → now ≡ told → before ≤ middle → (AreListed now ks → IsCause now middle after cause) → AreListed told ks → IsCause told before after cause
cause_of_reading told now ks before middle after cause same le h listed =
    cause_sooner told before middle after cause le (subst (λ o. IsCause o middle after cause) same (h (λ m e. listed m (sym same ∙ e))))

-- each key of the grammar, each body of its kind, and no foreign key
pub opened_sound : (v : View) → AreSuited v → IsFirst (IsForeign v) None → IsSound v
opened_sound v all none =
    none_foreign_is_sound v (λ k has. let s = some_of (map.get v k) has in (all k s.0 s.1).0) (λ k x e. (all k x e).1) none

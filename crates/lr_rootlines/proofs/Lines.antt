-- What the lines of roots are, from what a catalog says of its view.
use Rattle.std.proofs.Common.{◌≡◌, ◌≤◌, ◌<◌, ◌+◌, ℕ, List, [], ◌∷◌, ◌++◌, map, length, Some, None, Bool, true, false, ◌||◌, cond, ltb, refl, sym, ap, subst, ◌∙◌, inl, inr, arith, append_assoc, append-nil, add-one}
use Rattle.std.specs.Prelude.{T, ◌&&◌, is_some, filter}
use Rattle.std.specs.List.{list_any}
use Rattle.std.specs.Ordering.{eq_by_cmp, is_lt, is_eq}
use Rattle.std.specs.declared.cmp.Ordering.{Ordering}
use Rattle.std.specs.declared.cmp.Ordering.TheVariants.{Less, Equal, Greater}
use Rattle.std.specs.FinMap as fin
use Rattle.std.specs.FinMap.{entries_sorted, contains_key-keys}
use Rattle.std.specs.FinMap.Entries.{below_all, is_sorted}
use Rattle.std.proofs.lemmas.Bool.{false≢true}
use Rattle.std.proofs.lemmas.List.Sums.{length-filter}
use Rattle.lr_origin.specs.Kind.{kind_cmp}
use Rattle.lr_origin.specs.declared.key.KeyKind.{KeyKind}
use Rattle.lr_origin.specs.declared.key.KeyKind.TheVariants.{Root, Expired, Deleted, Chunk, Manifest, Withdrawn}
use Rattle.lr_roots.specs.View.{View, Held, Has, Lacks}
use Rattle.lr_roots.specs.declared.state.RootState.{RootState}
use Rattle.lr_roots.specs.declared.state.RootState.TheVariants as state
use Rattle.lr_roots.specs.Roots.{IsRootState}
use Rattle.lr_roots.specs.Names.{IsOneOf, AreApart, AreMany, IsManifestOf, IsChunkOf}
use Rattle.lr_roots.proofs.Aside.{itself}
use Rattle.lr_roots.proofs.Ordered.{listed}
use Rattle.lr_roots.proofs.Fewer.{not_longer}
use Rattle.lr_rootlines.specs.RootLines.{root_line, is_manifest_of, is_chunk_of, is_root_above, keys_where, state_in, root_text, root_texts, roots_part}

-- ---- the keys of a view

any_false : {A : Type 0} (test : A → Bool) (xs : List A) → ((x : A) → IsOneOf xs x → test x ≡ false) → list_any test xs ≡ false
any_false test [] none = refl
any_false test (x ∷ xs) none = by (test x) (none x (inl refl)) (any_false test xs (λ y i. none y (inr i)))
  where
    by : (b : Bool) → b ≡ false → list_any test xs ≡ false → b || list_any test xs ≡ false
    by true e rest = absurd (false≢true (sym e))
    by false e rest = rest

any_true : {A : Type 0} (test : A → Bool) (xs : List A) (x : A) → IsOneOf xs x → test x ≡ true → list_any test xs ≡ true
any_true test [] x i e = absurd i
any_true test (y ∷ ys) x (inl same) e = ap (λ b. b || list_any test ys) (ap test (sym same) ∙ e)
any_true test (y ∷ ys) x (inr i) e = by (test y) (any_true test ys x i e)
  where
    by : (b : Bool) → list_any test ys ≡ true → b || list_any test ys ≡ true
    by true rest = refl
    by false rest = rest

is_key : (v : View) (k : KeyKind) → Has v k → IsOneOf (fin.keys v) k
is_key v k has = listed None v v (fin.keys v) refl refl k has

key_has : (v : View) (k : KeyKind) → IsOneOf (fin.keys v) k → Has v k
key_has v k i = contains_key-keys v k ∙ any_true (eq_by_cmp kind_cmp k) (fin.keys v) k i (itself k)

-- ---- keys in order are apart

second : (a b : Bool) → T (a && b) → T b
second true b p = p
second false b p = absurd p

first : (a b : Bool) → T (a && b) → T a
first true b p = tt
first false b p = p

not_itself : (k : KeyKind) → T (is_lt (kind_cmp k k)) → ⊥
not_itself k less = by (kind_cmp k k) less (itself k)
  where
    by : (o : Ordering) → T (is_lt o) → is_eq o ≡ true → ⊥
    by Less h e = false≢true e
    by Equal h e = h
    by Greater h e = h

not_later : (k : KeyKind) (es : List (KeyKind × Held)) → T (below_all kind_cmp k es) → IsOneOf (map (λ e. e.0) es) k → ⊥
not_later k [] h i = i
not_later k (e ∷ es) h (inl same) = not_itself k (subst (λ x. T (is_lt (kind_cmp k x))) (sym same) (first _ _ h))
not_later k (e ∷ es) h (inr i) = not_later k es (second _ _ h) i

apart_sorted : (es : List (KeyKind × Held)) → T (is_sorted kind_cmp es) → AreApart (map (λ e. e.0) es)
apart_sorted [] h = tt
apart_sorted (e ∷ es) h = (not_later e.0 es (first _ _ h), apart_sorted es (second _ _ h))

-- ---- a filter of a list without repeats

module _ {A : Type 0} (test : A → Bool) where
  kept_one : (xs : List A) (x : A) → IsOneOf (filter test xs) x → IsOneOf xs x × (test x ≡ true)
  kept_one [] x i = absurd i
  kept_one (y ∷ ys) x i = by (test y) refl (kept_one ys x) i
    where
      by : (b : Bool) → test y ≡ b → (IsOneOf (filter test ys) x → IsOneOf ys x × (test x ≡ true)) → IsOneOf (cond b (y ∷ filter test ys) (filter test ys)) x → IsOneOf (y ∷ ys) x × (test x ≡ true)
      by true e more (inl same) = (inl same, ap test same ∙ e)
      by true e more (inr j) = (inr (more j).0, (more j).1)
      by false e more j = (inr (more j).0, (more j).1)

  one_kept : (xs : List A) (x : A) → IsOneOf xs x → test x ≡ true → IsOneOf (filter test xs) x
  one_kept [] x i e = i
  one_kept (y ∷ ys) x (inl same) e = subst (λ b. IsOneOf (cond b (y ∷ filter test ys) (filter test ys)) x) (sym (ap test (sym same) ∙ e)) (inl same)
  one_kept (y ∷ ys) x (inr i) e = by (test y) (one_kept ys x i e)
    where
      by : (b : Bool) → IsOneOf (filter test ys) x → IsOneOf (cond b (y ∷ filter test ys) (filter test ys)) x
      by true j = inr j
      by false j = j

  apart_kept : (xs : List A) → AreApart xs → AreApart (filter test xs)
  apart_kept [] h = tt
  apart_kept (y ∷ ys) h = by (test y) (apart_kept ys h.1)
    where
      by : (b : Bool) → AreApart (filter test ys) → AreApart (cond b (y ∷ filter test ys) (filter test ys))
      by true rest = (λ i. h.0 (kept_one ys y i).0, rest)
      by false rest = rest

-- ---- how many keys pass

same_many : {A : Type 0} (P : A → Type 0) (m n : ℕ) → AreMany P m → AreMany P n → m ≡ n
same_many P m n a b =
    let up : length a.each ≤ length b.each = not_longer a.each b.each a.apart (λ x i. (b.just x).1 ((a.just x).0 i)) in
    let down : length b.each ≤ length a.each = not_longer b.each a.each b.apart (λ x i. (a.just x).1 ((b.just x).0 i)) in
    omega (arith, a.long, b.long, up, down)

many_keys : (v : View) (test : KeyKind → Bool) (P : KeyKind → Type 0) → ((k : KeyKind) → test k ≡ true → P k) → ((k : KeyKind) → P k → test k ≡ true)
    → AreMany (λ key. Has v key × P key) (keys_where test v)
unfolding keys_where
many_keys v test P there back = record {
  each = filter test (fin.keys v);
  just = λ x. (into x, out x);
  apart = apart_kept test (fin.keys v) (apart_sorted (fin.entries v) (entries_sorted v));
  long = length-filter test (fin.keys v);
}
  where
    into : (x : KeyKind) → IsOneOf (filter test (fin.keys v)) x → Has v x × P x
    into x i = let r = kept_one test (fin.keys v) x i in (key_has v x r.0, there x r.1)

    out : (x : KeyKind) → Has v x × P x → IsOneOf (filter test (fin.keys v)) x
    out x h = one_kept test (fin.keys v) x (is_key v x h.0) (back x h.1)

is_manifest : (r : ℕ) (k : KeyKind) → is_manifest_of r k ≡ true → IsManifestOf r k
is_manifest r (Manifest q image) e = grind arith
is_manifest r (Root q) e = absurd (false≢true e)
is_manifest r (Expired q) e = absurd (false≢true e)
is_manifest r (Deleted q) e = absurd (false≢true e)
is_manifest r (Chunk q name) e = absurd (false≢true e)
is_manifest r (Withdrawn image) e = absurd (false≢true e)

manifest_is : (r : ℕ) (k : KeyKind) → IsManifestOf r k → is_manifest_of r k ≡ true
manifest_is r (Manifest q image) e = grind arith
manifest_is r (Root q) e = absurd e
manifest_is r (Expired q) e = absurd e
manifest_is r (Deleted q) e = absurd e
manifest_is r (Chunk q name) e = absurd e
manifest_is r (Withdrawn image) e = absurd e

is_chunk : (r : ℕ) (k : KeyKind) → is_chunk_of r k ≡ true → IsChunkOf r k
is_chunk r (Chunk q name) e = grind arith
is_chunk r (Root q) e = absurd (false≢true e)
is_chunk r (Expired q) e = absurd (false≢true e)
is_chunk r (Deleted q) e = absurd (false≢true e)
is_chunk r (Manifest q image) e = absurd (false≢true e)
is_chunk r (Withdrawn image) e = absurd (false≢true e)

chunk_is : (r : ℕ) (k : KeyKind) → IsChunkOf r k → is_chunk_of r k ≡ true
chunk_is r (Chunk q name) e = grind arith
chunk_is r (Root q) e = absurd e
chunk_is r (Expired q) e = absurd e
chunk_is r (Deleted q) e = absurd e
chunk_is r (Manifest q image) e = absurd e
chunk_is r (Withdrawn image) e = absurd e

-- ---- the state

none_above : (v : View) (r : ℕ) → ((q : ℕ) → Has v (Root q) → q ≤ r) → list_any (is_root_above r) (fin.keys v) ≡ false
none_above v r most = any_false (is_root_above r) (fin.keys v) (λ k i. by k (key_has v k i))
  where
    by : (k : KeyKind) → Has v k → is_root_above r k ≡ false
    by (Root q) has = let low : q ≤ r = most q has in grind (arith, low)
    by (Expired q) has = refl
    by (Deleted q) has = refl
    by (Chunk q name) has = refl
    by (Manifest q image) has = refl
    by (Withdrawn image) has = refl

one_above : (v : View) (r q : ℕ) → r < q → Has v (Root q) → list_any (is_root_above r) (fin.keys v) ≡ true
one_above v r q less has = any_true (is_root_above r) (fin.keys v) (Root q) (is_key v (Root q) has) (above less)
  where
    above : r < q → ltb r q ≡ true
    above h = grind arith

lacks : (v : View) (k : KeyKind) → Lacks v k → fin.contains_key v k ≡ false
lacks v k h = ap is_some h

abbrev chosen : Bool → Bool → Bool → RootState
chosen deleted expired above = cond deleted state.Deleted (cond expired state.Expired (cond above state.Retired state.Active))

-- what the state says of the three tests
abbrev Judged : Bool → Bool → Bool → RootState → Type 0
Judged d e a state.Deleted = d ≡ true
Judged d e a state.Expired = (d ≡ false) × (e ≡ true)
Judged d e a state.Retired = (d ≡ false) × (e ≡ false) × (a ≡ true)
Judged d e a state.Active = (d ≡ false) × (e ≡ false) × (a ≡ false)

parts : (v : View) (r : ℕ) (s : RootState) → IsRootState v r (Some s) → Judged (fin.contains_key v (Deleted r)) (fin.contains_key v (Expired r)) (list_any (is_root_above r) (fin.keys v)) s
parts v r state.Deleted h = h.1
parts v r state.Expired h = (lacks v (Deleted r) h.0.1, h.1)
parts v r state.Retired h = (lacks v (Deleted r) h.0.1, lacks v (Expired r) h.1, one_above v r h.2.0 h.2.1 h.2.2)
parts v r state.Active h = (lacks v (Deleted r) h.0.1, lacks v (Expired r) h.1, none_above v r h.2.1)

state_is : (v : View) (r : ℕ) (s : RootState) → IsRootState v r (Some s) → state_in v r ≡ s
unfolding state_in
state_is v r s h = by (fin.contains_key v (Deleted r)) (fin.contains_key v (Expired r)) (list_any (is_root_above r) (fin.keys v)) s (parts v r s h)
  where
    by : (d e a : Bool) (s : RootState) → Judged d e a s → chosen d e a ≡ s
    by d e a state.Deleted h = ap (λ b. chosen b e a) h
    by d e a state.Expired h = ap (λ b. chosen b e a) h.0 ∙ ap (λ b. chosen false b a) h.1
    by d e a state.Retired h = ap (λ b. chosen b e a) h.0 ∙ ap (λ b. chosen false b a) h.1 ∙ ap (λ b. chosen false false b) h.2
    by d e a state.Active h = ap (λ b. chosen b e a) h.0 ∙ ap (λ b. chosen false b a) h.1 ∙ ap (λ b. chosen false false b) h.2

root_has : (v : View) (r : ℕ) (s : RootState) → IsRootState v r (Some s) → Has v (Root r)
root_has v r state.Deleted h = h.0
root_has v r state.Expired h = h.0.0
root_has v r state.Active h = h.0.0
root_has v r state.Retired h = h.0.0

-- ---- the lines

pub not_there : (v : View) (r : ℕ) → IsRootState v r None → root_text v r ≡ []
unfolding root_text
not_there v r h =
    let line : List ℕ = root_line r (state_in v r) (keys_where (is_manifest_of r) v) (keys_where (is_chunk_of r) v) in
    ap (λ b. cond b line []) (lacks v (Root r) h)

pub there : (v : View) (r : ℕ) (s : RootState) (images chunks : ℕ) → IsRootState v r (Some s) → AreMany (λ key. Has v key × IsManifestOf r key) images → AreMany (λ key. Has v key × IsChunkOf r key) chunks
    → root_text v r ≡ root_line r s images chunks
unfolding root_text
there v r s images chunks is manifests bodies =
    let i : keys_where (is_manifest_of r) v ≡ images = same_many _ _ _ (many_keys v (is_manifest_of r) (IsManifestOf r) (is_manifest r) (manifest_is r)) manifests in
    let c : keys_where (is_chunk_of r) v ≡ chunks = same_many _ _ _ (many_keys v (is_chunk_of r) (IsChunkOf r) (is_chunk r) (chunk_is r)) bodies in
    let line : List ℕ = root_line r (state_in v r) (keys_where (is_manifest_of r) v) (keys_where (is_chunk_of r) v) in
    ap (λ b. cond b line []) (root_has v r s is) ∙ (λ j. root_line r (state_is v r s is j) (i j) (c j))

pub none_yet : (v : View) (out : List ℕ) → out ≡ out ++ root_texts v 0
unfolding root_texts
none_yet v out = sym (append-nil out)

pub one_more : (v : View) (n : ℕ) (before mid after : List ℕ) → mid ≡ before ++ root_texts v n → after ≡ mid ++ root_text v (n + 1) → after ≡ before ++ root_texts v (n + 1)
unfolding root_texts
one_more v n before mid after was put =
    put ∙ ap (λ (t : List ℕ). t ++ root_text v (n + 1)) was ∙ append_assoc before (root_texts v n) (root_text v (n + 1))
    ∙ ap (λ (t : List ℕ). before ++ (root_texts v n ++ t)) (ap (root_text v) (add-one n)) ∙ ap (λ (m : ℕ). before ++ root_texts v m) (sym (add-one n))

pub all_roots : (v : View) (n : ℕ) (before after : List ℕ) → n ≡ 1000 → after ≡ before ++ root_texts v n → after ≡ before ++ roots_part v
unfolding roots_part
all_roots v n before after e was = was ∙ ap (λ (m : ℕ). before ++ root_texts v m) e

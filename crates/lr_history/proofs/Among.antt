-- Which strings are among those of a run.
use Rattle.std.proofs.Common.{◌≡◌, ◌≤◌, ◌<◌, inl, inr, ℕ, zero, suc, ◌-◌, List, [], ◌∷◌, ◌++◌, length, take, map, filter, replicate, Option, Some, None, get_or, cond, nat_eq, Bool, true, false, refl, sym, ap, subst, ◌∙◌, arith}
use Rattle.std.specs.Prelude.{find, ◌⊎◌}
use Rattle.std.specs.Str.{bytes_eq}
use Rattle.std.proofs.lemmas.Slice.Eq.{bytes_eq-Decides}
use Rattle.std.specs.List.{AllByRecursion, Contains, flat_map}
use Rattle.std.proofs.lemmas.List.{length-append, length-replicate}
use Rattle.std.proofs.lemmas.List.Elements.{Contains-append_left, Contains-append_right, All-from_recursion, All-contains, All-map}
use Rattle.std.specs.declared.cmp.Ordering.{Ordering}
use Rattle.std.specs.declared.cmp.Ordering.TheVariants.{Less, Equal, Greater}
use Rattle.std.specs.Ordering.{is_eq, eq_by_cmp}
use Rattle.std.specs.FinMap.{slice_cmp-IsAntisymmetric, nat_cmp-IsAntisymmetric, get-entries}
use Rattle.std.specs.FinMap as finmap
use Rattle.sha2.specs.Sha256.{sha256}
use Rattle.lr_convergent.specs.Sealed.{filled, sealed_bytes}
use Rattle.lr_layout.specs.Padded.{padded, count_of_chunks}
use Rattle.lr_origin.specs.Objects.{Objects, key_cmp}
use Rattle.lr_origin.specs.Text.{key_text}
use Rattle.lr_origin.specs.declared.key.KeyKind.TheVariants.{Chunk}
use Rattle.std.specs.Arc.{arc_value}
use Rattle.lr_convergent.specs.declared.piece.KeptPiece.{KeptPiece}
use Rattle.lr_layout.specs.Chunks.{chunks_of}
use Rattle.lr_history.specs.Run.{ImageLine, Creation, creation_of, DeviceSeen, Run}
use Rattle.lr_history.specs.Strings.{chunks_made, is_chunk_key, chunk_bodies, used_pieces, used_chunks, strings_of}
use Rattle.lr_history.specs.Opened.{or_else, body_made}
use Rattle.lr_history.proofs.Bases.{parts_short, length-chunk_text}

-- ---- membership

pub later : {X : Type 0} (y : X) (xs : List X) (x : X) → Contains xs x → Contains (y ∷ xs) x
later y xs x c = (suc c.0, omega (arith, c.1), c.2)

pub first : {X : Type 0} (x : X) (xs : List X) → Contains (x ∷ xs) x
first x xs = (0, omega arith, refl)

-- x is the first, or one of the rest
cases_of : {X : Type 0} (y : X) (xs : List X) (x : X) → Contains (y ∷ xs) x → (y ≡ x) ⊎ Contains xs x
cases_of y xs x c = by c.0 c.1 c.2
  where
    by : (k : ℕ) → k < length (y ∷ xs) → get_or (y ∷ xs) k x ≡ x → (y ≡ x) ⊎ Contains xs x
    by zero l e = inl e
    by (suc k) l e = inr (k, omega arith, e)

pub contains_mapped : {X Y : Type 0} (f : X → Y) (xs : List X) (x : X) → Contains xs x → Contains (map f xs) (f x)
contains_mapped f [] x c = absurd (omega (arith, c.1))
contains_mapped f (y ∷ xs) x c = by (contains_mapped f xs x) (cases_of y xs x c)
  where
    by : (Contains xs x → Contains (map f xs) (f x)) → (y ≡ x) ⊎ Contains xs x → Contains (map f (y ∷ xs)) (f x)
    by more (inl e) = subst (λ (z : _). Contains (map f (y ∷ xs)) z) (ap f e) (first (f y) (map f xs))
    by more (inr r) = later (f y) (map f xs) (f x) (more r)

pub contains_flat : {X Y : Type 0} (f : X → List Y) (xs : List X) (x : X) (y : Y) → Contains xs x → Contains (f x) y → Contains (flat_map f xs) y
contains_flat f [] x y c k = absurd (omega (arith, c.1))
contains_flat f (z ∷ xs) x y c k = by (contains_flat f xs x y) (cases_of z xs x c)
  where
    by : (Contains xs x → Contains (f x) y → Contains (flat_map f xs) y) → (z ≡ x) ⊎ Contains xs x → Contains (flat_map f (z ∷ xs)) y
    by more (inl e) = Contains-append_left (f z) (flat_map f xs) y (subst (λ (w : _). Contains (f w) y) (sym e) k)
    by more (inr r) = Contains-append_right (f z) (flat_map f xs) y (more r k)

pub contains_taken : {X : Type 0} (n : ℕ) (xs : List X) (x : X) → Contains (take n xs) x → Contains xs x
contains_taken zero xs x c = absurd (omega (arith, c.1))
contains_taken (suc n) [] x c = c
contains_taken (suc n) (y ∷ xs) x c = by (contains_taken n xs x) (cases_of y (take n xs) x c)
  where
    by : (Contains (take n xs) x → Contains xs x) → (y ≡ x) ⊎ Contains (take n xs) x → Contains (y ∷ xs) x
    by more (inl e) = subst (λ (z : _). Contains (y ∷ xs) z) e (first y xs)
    by more (inr r) = later y xs x (more r)

-- what `find` finds is there and passes
pub find_passes : {X : Type 0} (p : X → Bool) (xs : List X) (x : X) → find p xs ≡ Some x → Contains xs x × (p x ≡ true)
find_passes p [] x e = absurd (cc)
find_passes p (y ∷ xs) x e = by (find_passes p xs x) (p y) refl e
  where
    by : (find p xs ≡ Some x → Contains xs x × (p x ≡ true)) → (b : Bool) → p y ≡ b → cond b (Some y) (find p xs) ≡ Some x → Contains (y ∷ xs) x × (p x ≡ true)
    by more true t e =
        let same : y ≡ x = cc in
        (subst (λ (z : _). Contains (y ∷ xs) z) same (first y xs), subst (λ (z : _). p z ≡ true) same t)
    by more false t e = let r = more e in (later y xs x r.0, r.1)

-- ---- chunks of a store

pub is_equal : (r : Ordering) → is_eq r ≡ true → r ≡ Equal
is_equal Less e = absurd (cc)
is_equal Equal e = refl
is_equal Greater e = absurd (cc)

abbrev chunk_entry : List ℕ × List ℕ → Bool
chunk_entry e = is_chunk_key e.0

abbrev body_of_entry : List ℕ × List ℕ → List ℕ
body_of_entry e = e.1

found_body : (key body : List ℕ) → is_chunk_key key ≡ true → (es : List (List ℕ × List ℕ)) → finmap.find key_cmp key es ≡ Some body
    → Contains (map body_of_entry (filter chunk_entry es)) body
found_body key body chunk [] f = absurd (cc)
found_body key body chunk (e ∷ es) f = by (found_body key body chunk es) (eq_by_cmp key_cmp key e.0) refl f
  where
    kept : (b : Bool) → Contains (map body_of_entry (filter chunk_entry es)) body → Contains (map body_of_entry (cond b (e ∷ filter chunk_entry es) (filter chunk_entry es))) body
    kept true c = later e.1 (map body_of_entry (filter chunk_entry es)) body c
    kept false c = c

    here : (b : Bool) → chunk_entry e ≡ b → b ≡ true → e.1 ≡ body → Contains (map body_of_entry (cond b (e ∷ filter chunk_entry es) (filter chunk_entry es))) body
    here true t is same = subst (λ (z : List ℕ). Contains (e.1 ∷ map body_of_entry (filter chunk_entry es)) z) same (first e.1 (map body_of_entry (filter chunk_entry es)))
    here false t is same = absurd (cc)

    by : (finmap.find key_cmp key es ≡ Some body → Contains (map body_of_entry (filter chunk_entry es)) body)
        → (b : Bool) → eq_by_cmp key_cmp key e.0 ≡ b → cond b (Some e.1) (finmap.find key_cmp key es) ≡ Some body
        → Contains (map body_of_entry (filter chunk_entry (e ∷ es))) body
    by more true t f =
        let same_key : key ≡ e.0 = slice_cmp-IsAntisymmetric nat_cmp-IsAntisymmetric key e.0 (is_equal (key_cmp key e.0) t) in
        let same : e.1 ≡ body = cc in
        here (chunk_entry e) refl (subst (λ (k : List ℕ). is_chunk_key k ≡ true) same_key chunk) same
    by more false t f = kept (chunk_entry e) (more f)

pub chunk_key : (root : ℕ) (name : List ℕ) → is_chunk_key (key_text (Chunk root name)) ≡ true
unfolding key_text
chunk_key root name = refl

-- the body of a chunk object is one of them
pub body_listed : (m : Objects) (root : ℕ) (name body : List ℕ) → finmap.get m (key_text (Chunk root name)) ≡ Some body → Contains (chunk_bodies m) body
body_listed m root name body e =
    found_body (key_text (Chunk root name)) body (chunk_key root name) (finmap.entries m) (sym (get-entries m (key_text (Chunk root name))) ∙ e)

-- ---- sealed chunks

length-filled : (n : ℕ) (part : List ℕ) → length part ≤ n → length (filled n part) ≡ n
unfolding filled
length-filled n part h = length-append part (replicate (n - length part) 0) ∙ simp length-replicate (omega arith)

pub sealed_long : (c : Creation) (body : List ℕ) → Contains (chunks_made c) body → length body ≡ 524288
unfolding chunks_of
sealed_long c body k =
    let short = parts_short 524288 (count_of_chunks (length c.raw)) (padded c.raw) in
    All-contains (λ (b : List ℕ). length b ≡ 524288) (chunks_made c) body
    (All-map (λ (b : List ℕ). length b ≡ 524288) (sealed_bytes c.salt) (chunks_of c.raw)
    (All-from_recursion (λ (p : List ℕ). length (sealed_bytes c.salt p) ≡ 524288) (chunks_of c.raw) (wide (chunks_of c.raw) short)))
    k
  where
    wide : (ps : List (List ℕ)) → AllByRecursion (λ (p : List ℕ). length p ≤ 524288) ps → AllByRecursion (λ (p : List ℕ). length (sealed_bytes c.salt p) ≡ 524288) ps
    wide [] h = tt
    wide (p ∷ ps) h = (length-chunk_text _ (filled 524288 p) ∙ length-filled 524288 p h.0, wide ps h.1)

-- the body that image lines put into a root
pub made_listed : (lines : List ImageLine) (root : ℕ) (name body : List ℕ) → body_made lines root name ≡ Some body
    → (line : ImageLine) × Contains lines line × Contains (chunks_made (creation_of line)) body × (sha256 body ≡ name)
made_listed [] root name body e = absurd (cc)
made_listed (line ∷ lines) root name body e = by (made_listed lines root name body) (nat_eq line.root root) e
  where
    test : List ℕ → Bool
    test b = bytes_eq (sha256 b) name

    more_of : (body_made lines root name ≡ Some body → (l : ImageLine) × Contains lines l × Contains (chunks_made (creation_of l)) body × (sha256 body ≡ name))
        → body_made lines root name ≡ Some body → (l : ImageLine) × Contains (line ∷ lines) l × Contains (chunks_made (creation_of l)) body × (sha256 body ≡ name)
    more_of more e = let r = more e in (r.0, later line lines r.0 r.1, r.2, r.3)

    here : (body_made lines root name ≡ Some body → (l : ImageLine) × Contains lines l × Contains (chunks_made (creation_of l)) body × (sha256 body ≡ name))
        → (o : Option (List ℕ)) → find (λ (b : List ℕ). bytes_eq (sha256 b) name) (chunks_made (creation_of line)) ≡ o → or_else o (body_made lines root name) ≡ Some body
        → (l : ImageLine) × Contains (line ∷ lines) l × Contains (chunks_made (creation_of l)) body × (sha256 body ≡ name)
    here more None f e = more_of more e
    here more (Some x) f e =
        let same : x ≡ body = cc in
        let p = find_passes (λ (b : List ℕ). bytes_eq (sha256 b) name) (chunks_made (creation_of line)) body (f ∙ ap Some same) in
        (line, first line lines, p.0, (bytes_eq-Decides (sha256 body) name).0 p.1)

    by : (body_made lines root name ≡ Some body → (l : ImageLine) × Contains lines l × Contains (chunks_made (creation_of l)) body × (sha256 body ≡ name))
        → (b : Bool) → cond b (or_else (find (λ (b : List ℕ). bytes_eq (sha256 b) name) (chunks_made (creation_of line))) (body_made lines root name)) (body_made lines root name) ≡ Some body
        → (l : ImageLine) × Contains (line ∷ lines) l × Contains (chunks_made (creation_of l)) body × (sha256 body ≡ name)
    by more true e = here more (find (λ (b : List ℕ). bytes_eq (sha256 b) name) (chunks_made (creation_of line))) refl e
    by more false e = more_of more e

-- ---- the strings of a run

pub among_opening : (run : Run) (x : List ℕ) → Contains (chunk_bodies run.opening) x → Contains (strings_of run) x
among_opening run x c = Contains-append_left (chunk_bodies run.opening) _ x c

abbrev made_strings : Run → List (List ℕ)
made_strings run = flat_map chunks_made (map creation_of run.images ++ run.creations)

pub among_images : (run : Run) (line : ImageLine) (x : List ℕ) → Contains run.images line → Contains (chunks_made (creation_of line)) x → Contains (strings_of run) x
among_images run line x c k =
    let creation : Contains (map creation_of run.images ++ run.creations) (creation_of line) =
    Contains-append_left (map creation_of run.images) run.creations (creation_of line) (contains_mapped creation_of run.images line c) in
    let made : Contains (made_strings run) x = contains_flat chunks_made (map creation_of run.images ++ run.creations) (creation_of line) x creation k in
    Contains-append_right (chunk_bodies run.opening) _ x
    (Contains-append_right (chunk_bodies run.closing) _ x (Contains-append_left (made_strings run) (flat_map used_chunks run.devices) x made))

pub among_used : (run : Run) (d : DeviceSeen) (p : KeptPiece) → Contains run.devices d → Contains (used_pieces d.log) p → Contains (strings_of run) (arc_value p.chunk)
among_used run d p c k =
    let used : Contains (flat_map used_chunks run.devices) (arc_value p.chunk) =
    contains_flat used_chunks run.devices d (arc_value p.chunk) c (contains_mapped (λ (q : KeptPiece). arc_value q.chunk) (used_pieces d.log) p k) in
    Contains-append_right (chunk_bodies run.opening) _ (arc_value p.chunk)
    (Contains-append_right (chunk_bodies run.closing) _ (arc_value p.chunk) (Contains-append_right (made_strings run) (flat_map used_chunks run.devices) (arc_value p.chunk) used))

-- The table of pages.
use Rattle.std.proofs.Common.{◌≡◌, ℕ, zero, suc, ◌+◌, ◌*◌, ◌/◌, ◌%◌, ◌<◌, ◌≤◌, List, [], ◌∷◌, ◌++◌, length, set, map, replicate, get_or, Bool, true, false, cond, Option, Some, None, option_map, Box, Global, All, refl, ap, sym, ◌∙◌, arith, inl, inr, ◌⊎◌, slice_get, subst, Bor, MutBor}
use Rattle.std.specs.Prelude.{◌==◌, nat_lt, IfSome}
use Rattle.std.specs.Option.{is_some}
use Rattle.std.specs.Box.{box_value}
use Rattle.std.specs.List.{range_with_len}
use Rattle.std.proofs.lemmas.Bool.{eqb-true, eq-eqb, ne_eqb, ltb-true, lt-ltb, cases_lt}
use Rattle.std.proofs.lemmas.List.{length-set, length-map, map-set, get_or-map, get_or-set_same, get_or-set_other, set-get_or, get_or_past}
use Rattle.std.proofs.lemmas.List.FromFn.{length-map-range_with_len, get_or-map-range_with_len, fill_by_all}
use Rattle.std.proofs.lemmas.List.Elements.{All-map}
use Rattle.std.proofs.lemmas.Option.{slice_get-get_or, get_or_from_slice_get}
use Rattle.lr_overlay.specs.Pages.{OverlaySeen, Pages, HasLength, fitted, is_placed, KeepsPlaces}
use Rattle.lr_overlay.specs.Directory.{Directory, place_of, leaves_of, shown, pages_of, table}
use Rattle.lr_overlay.proofs.Over.{length-fitted, fitted_same}

shown_has : (place : Option (List ℕ)) → HasLength 4096 (shown place)
shown_has None = tt
shown_has (Some page) = length-fitted 4096 page

-- a written page has its length
pub pages_have : (chunks : Directory) (count : ℕ) → All (HasLength 4096) (pages_of chunks count)
pages_have chunks count = All-map (HasLength 4096) (λ page. shown (place_of chunks page)) (range_with_len 0 count) (λ k d h. shown_has (place_of chunks _))

pub pages_count : (chunks : Directory) (count : ℕ) → length (pages_of chunks count) ≡ count
pages_count chunks count = length-map-range_with_len (λ page. shown (place_of chunks page)) 0 count

pub page_or : (chunks : Directory) (count page : ℕ) (d : Option (List ℕ)) → page < count → get_or (pages_of chunks count) page d ≡ shown (place_of chunks page)
page_or chunks count page d h = get_or-map-range_with_len (λ page. shown (place_of chunks page)) 0 count page page d h (omega arith)

-- the page at a place
pub page_is : (chunks : Directory) (count page : ℕ) → page < length (pages_of chunks count) → slice_get (pages_of chunks count) page ≡ Some (shown (place_of chunks page))
page_is chunks count page h =
    let n : page < count = rw pages_count at h in
    slice_get-get_or (pages_of chunks count) page None h ∙ ap Some (page_or chunks count page None n)

-- the same places show the same pages
pub pages_same : (old new : Directory) (count : ℕ) → ((page : ℕ) → place_of new page ≡ place_of old page) → pages_of new count ≡ pages_of old count
pages_same old new count h = λ i. map (λ page. shown (h page i)) (range_with_len 0 count)

-- one place has something else in it
pages_set : (old new : Directory) (count page : ℕ) (x : Option (List ℕ)) → ((other : ℕ) → place_of new other ≡ cond (other == page) x (place_of old other)) → pages_of new count ≡ set (pages_of old count) page (shown x)
pages_set old new count page x h = sym (fill_by_all (λ p. shown (place_of new p)) (set (pages_of old count) page (shown x)) count None long (λ k within. by k within (k == page) refl))
  where
    long : length (set (pages_of old count) page (shown x)) ≡ count
    long = length-set (pages_of old count) page (shown x) ∙ pages_count old count

    by : (k : ℕ) → k < count → (b : Bool) → (k == page) ≡ b → get_or (set (pages_of old count) page (shown x)) k None ≡ shown (place_of new k)
    by k within true t =
        let e : k ≡ page = eqb-true k page t in
        let n : page < length (pages_of old count) = rw (pages_count old count) (rw e at within) in
        ap (λ q. get_or (set (pages_of old count) page (shown x)) q None) e ∙ get_or-set_same (pages_of old count) page (shown x) None n
        ∙ sym (ap shown (h k ∙ ap (λ b. cond b x (place_of old k)) t))
    by k within false t =
        get_or-set_other (pages_of old count) page k (shown x) None (λ e. absurd (cc (eq-eqb k page e, t)))
        ∙ page_or old count k None within
        ∙ sym (ap shown (h k ∙ ap (λ b. cond b x (place_of old k)) t))

get_empty : (n k : ℕ) → get_or (replicate {A = Pages} n []) k [] ≡ []
get_empty zero k = refl
get_empty (suc n) zero = refl
get_empty (suc n) (suc k) = get_empty n k

place_empty : (count page : ℕ) → place_of (replicate count []) page ≡ None
place_empty count page = ap (λ (c : Pages). get_or c (page % 128) None) (get_empty count (page / 128))

leaves_none : (count : ℕ) → leaves_of (replicate count []) ≡ replicate count 0
leaves_none zero = refl
leaves_none (suc count) = ap (λ (l : List ℕ). 0 ∷ l) (leaves_none count)

same_each : (f : ℕ → Option (List ℕ)) → ((k : ℕ) → f k ≡ None) → (a n : ℕ) → map f (range_with_len a n) ≡ replicate n None
same_each f h a zero = refl
same_each f h a (suc n) = λ i. h a i ∷ same_each f h (a + 1) n i

-- a new table
pub table_new : (chunks : Directory) (leaves count : ℕ) → chunks ≡ replicate leaves [] → table chunks count ≡ record { pages = replicate count None; leaves = replicate leaves 0 }
table_new chunks leaves count e =
    let pages : pages_of (replicate leaves []) count ≡ replicate count None = same_each (λ page. shown (place_of (replicate leaves []) page)) (λ page. ap shown (place_empty leaves page)) 0 count in
    ap (λ c. table c count) e ∙ (λ i. record { pages = pages i; leaves = leaves_none leaves i })

-- a chunk whose pages stay: nothing else is shown
module _ (chunks : Directory) (chunk : ℕ) (was new : Pages) (within : chunk < length chunks) (read : get_or chunks chunk [] ≡ was) where
  kept_by : ((at : ℕ) → get_or new at None ≡ get_or was at None) → (page : ℕ) (b : Bool) → (page / 128 == chunk) ≡ b → place_of (set chunks chunk new) page ≡ place_of chunks page
  kept_by same page true t =
      let e : page / 128 ≡ chunk = eqb-true (page / 128) chunk t in
      let now : get_or (set chunks chunk new) (page / 128) [] ≡ new = ap (λ c. get_or (set chunks chunk new) c []) e ∙ get_or-set_same chunks chunk new [] within in
      let old : get_or chunks (page / 128) [] ≡ was = ap (λ c. get_or chunks c []) e ∙ read in
      ap (λ (l : Pages). get_or l (page % 128) None) now ∙ same (page % 128) ∙ sym (ap (λ (l : Pages). get_or l (page % 128) None) old)
  kept_by same page false t = ap (λ (l : Pages). get_or l (page % 128) None) (get_or-set_other chunks chunk (page / 128) new [] (λ e. absurd (cc (eq-eqb (page / 128) chunk e, t))))

  pub leaf_kept : ((at : ℕ) → get_or new at None ≡ get_or was at None) → (page : ℕ) → place_of (set chunks chunk new) page ≡ place_of chunks page
  leaf_kept same page = kept_by same page (page / 128 == chunk) refl

  leaves_set : leaves_of (set chunks chunk new) ≡ set (leaves_of chunks) chunk (length new)
  leaves_set = map-set length chunks chunk new

  inside : chunk < length (leaves_of chunks)
  inside = rw length-map within

  leaf_was : get_or (leaves_of chunks) chunk 0 ≡ length was
  leaf_was = get_or-map length chunks chunk [] 0 within ∙ ap length read

  -- how many places its pages have now
  leaf_now : (page : ℕ) → page / 128 ≡ chunk → get_or (leaves_of (set chunks chunk new)) (page / 128) 0 ≡ length new
  leaf_now page e = ap (λ (l : List ℕ). get_or l (page / 128) 0) leaves_set ∙ ap (λ c. get_or (set (leaves_of chunks) chunk (length new)) c 0) e ∙ get_or-set_same (leaves_of chunks) chunk (length new) 0 inside

  pub leaf_has : 128 ≤ length new → (page : ℕ) → page / 128 ≡ chunk → is_placed (leaves_of (set chunks chunk new)) page ≡ true
  leaf_has long page e = ap (λ n. nat_lt (page % 128) n) (leaf_now page e) ∙ lt-ltb (page % 128) (length new) (omega arith)

  grows_by : length was ≤ length new → (page : ℕ) (b : Bool) → (page / 128 == chunk) ≡ b → is_placed (leaves_of chunks) page ≡ true → is_placed (leaves_of (set chunks chunk new)) page ≡ true
  grows_by more page true t has =
      let e : page / 128 ≡ chunk = eqb-true (page / 128) chunk t in
      let n : get_or (leaves_of chunks) (page / 128) 0 ≡ length was = ap (λ c. get_or (leaves_of chunks) c 0) e ∙ leaf_was in
      let low : page % 128 < get_or (leaves_of chunks) (page / 128) 0 = ltb-true (page % 128) (get_or (leaves_of chunks) (page / 128) 0) has in
      ap (λ m. nat_lt (page % 128) m) (leaf_now page e) ∙ lt-ltb (page % 128) (length new) (omega arith)
  grows_by more page false t has =
      ap (λ (l : List ℕ). is_placed l page) leaves_set
      ∙ ap (λ m. nat_lt (page % 128) m) (get_or-set_other (leaves_of chunks) chunk (page / 128) (length new) 0 (λ e. absurd (cc (eq-eqb (page / 128) chunk e, t)))) ∙ has

  pub leaf_grows : length was ≤ length new → KeepsPlaces (leaves_of chunks) (leaves_of (set chunks chunk new))
  leaf_grows more page has = grows_by more page (page / 128 == chunk) refl has

  pub leaves_stay : length new ≡ length was → leaves_of (set chunks chunk new) ≡ leaves_of chunks
  leaves_stay same = leaves_set ∙ ap (λ n. set (leaves_of chunks) chunk n) (same ∙ sym leaf_was) ∙ set-get_or (leaves_of chunks) chunk 0

-- what stands in one place of a chunk is changed
module _ (chunks : Directory) (page : ℕ) (was : Pages) (x : Option (List ℕ)) (within : page / 128 < length chunks) (read : get_or chunks (page / 128) [] ≡ was) (small : page % 128 < length was) where
  inner : (other : ℕ) → other / 128 ≡ page / 128 → (b : Bool) → (other == page) ≡ b → get_or (set was (page % 128) x) (other % 128) None ≡ cond b x (get_or was (other % 128) None)
  inner other e true t =
      let o : other ≡ page = eqb-true other page t in
      ap (λ q. get_or (set was (page % 128) x) (q % 128) None) o ∙ get_or-set_same was (page % 128) x None small
  inner other e false t = get_or-set_other was (page % 128) (other % 128) x None (λ k. absurd (cc (eq-eqb other page (omega (arith, e, k)), t)))

  place_by : (other : ℕ) (b : Bool) → (other / 128 == page / 128) ≡ b → place_of (set chunks (page / 128) (set was (page % 128) x)) other ≡ cond (other == page) x (place_of chunks other)
  place_by other true t =
      let e : other / 128 ≡ page / 128 = eqb-true (other / 128) (page / 128) t in
      let new : Pages = set was (page % 128) x in
      let now : get_or (set chunks (page / 128) new) (other / 128) [] ≡ new = ap (λ c. get_or (set chunks (page / 128) new) c []) e ∙ get_or-set_same chunks (page / 128) new [] within in
      let old : get_or chunks (other / 128) [] ≡ was = ap (λ c. get_or chunks c []) e ∙ read in
      ap (λ (l : Pages). get_or l (other % 128) None) now ∙ inner other e (other == page) refl
      ∙ sym (ap (λ (l : Pages). cond (other == page) x (get_or l (other % 128) None)) old)
  place_by other false t =
      let apart : (other == page) ≡ false = ne_eqb other page (λ e. absurd (cc (eq-eqb (other / 128) (page / 128) (ap (λ q. q / 128) e), t))) in
      ap (λ (l : Pages). get_or l (other % 128) None) (get_or-set_other chunks (page / 128) (other / 128) (set was (page % 128) x) [] (λ e. absurd (cc (eq-eqb (other / 128) (page / 128) e, t))))
      ∙ sym (ap (λ b. cond b x (place_of chunks other)) apart)

  -- the table then
  pub table_put : (count : ℕ) → table (set chunks (page / 128) (set was (page % 128) x)) count ≡ record { pages = set (pages_of chunks count) page (shown x); leaves = leaves_of chunks }
  table_put count = λ i. record {
    pages = pages_set chunks (set chunks (page / 128) (set was (page % 128) x)) count page x (λ other. place_by other (other / 128 == page / 128) refl) i;
    leaves = leaves_stay chunks (page / 128) was (set was (page % 128) x) within read (length-set was (page % 128) x) i;
  }

-- the chunk of a page is in the directory
pub chunk_of_page : (chunks : Directory) (count page : ℕ) → page < length (pages_of chunks count) → count ≤ 128 * length chunks → page / 128 < length chunks
chunk_of_page chunks count page h k = let n = pages_count chunks count in omega arith

pub read_or : {X : Type 0} → (xs : List X) (i : ℕ) (x d : X) → i < length xs → x ≡ get_or xs i x → get_or xs i d ≡ x
read_or xs i x d h e = get_or_from_slice_get xs i x d (slice_get-get_or xs i x h ∙ ap Some (sym e))

-- a page that has a place: its chunk, and the place in it
pub placed_in : (chunks : Directory) (page : ℕ) → is_placed (leaves_of chunks) page ≡ true → (page / 128 < length chunks) × (page % 128 < length (get_or chunks (page / 128) []))
placed_in chunks page has = by (cases_lt (page / 128) (length chunks)) (ltb-true (page % 128) (get_or (leaves_of chunks) (page / 128) 0) has)
  where
    by : (page / 128 < length chunks) ⊎ (length chunks ≤ page / 128) → page % 128 < get_or (leaves_of chunks) (page / 128) 0 → (page / 128 < length chunks) × (page % 128 < length (get_or chunks (page / 128) []))
    by (inl low) h = (low, rw (get_or-map length chunks (page / 128) [] 0 low) at h)
    by (inr high) h =
        let past : length (leaves_of chunks) ≤ page / 128 = rw length-map high in
        let none : get_or (leaves_of chunks) (page / 128) 0 ≡ 0 = get_or_past (leaves_of chunks) (page / 128) 0 past in
        absurd (omega arith)

pub shown_same : (o : Option (List ℕ)) → HasLength 4096 o → shown o ≡ o
shown_same None h = refl
shown_same (Some l) h = ap (λ (m : List ℕ). Some m) (fitted_same 4096 l h)

pub fitted_twice : (l : List ℕ) → fitted 4096 (fitted 4096 l) ≡ fitted 4096 l
fitted_twice l = fitted_same 4096 (fitted 4096 l) (length-fitted 4096 l)

pub map_some : {X Y : Type 0} → (f : X → Y) (o : Option X) → is_some (option_map f o) ≡ is_some o
map_some f None = refl
map_some f (Some x) = refl

-- what stands in the place of a page, by what its chunk gives
pub shown_of : (chunks : Directory) (page : ℕ) (leaf : Pages) (o : Option (Bor (List ℕ))) → get_or chunks (page / 128) [] ≡ leaf → get_or leaf (page % 128) None ≡ option_map (λ b. b.now) o → IfSome o (λ b. length b.now ≡ 4096)
    → shown (place_of chunks page) ≡ option_map (λ b. b.now) o
shown_of chunks page leaf None read got long = ap (λ (l : Pages). shown (get_or l (page % 128) None)) read ∙ ap shown got
shown_of chunks page leaf (Some b) read got long = ap (λ (l : Pages). shown (get_or l (page % 128) None)) read ∙ ap shown got ∙ shown_same (Some b.now) long

pub shown_box : (chunks : Directory) (page : ℕ) (leaf : Pages) (o : Option (Box (List ℕ) Global)) → get_or chunks (page / 128) [] ≡ leaf → get_or leaf (page % 128) None ≡ option_map box_value o → IfSome o (λ b. length b.value ≡ 4096)
    → shown (place_of chunks page) ≡ option_map box_value o
shown_box chunks page leaf None read got long = ap (λ (l : Pages). shown (get_or l (page % 128) None)) read ∙ ap shown got
shown_box chunks page leaf (Some b) read got long = ap (λ (l : Pages). shown (get_or l (page % 128) None)) read ∙ ap shown got ∙ shown_same (Some b.value) long

pub shown_lent : (chunks : Directory) (page : ℕ) (leaf : Pages) (o : Option (MutBor (List ℕ))) → get_or chunks (page / 128) [] ≡ leaf → get_or leaf (page % 128) None ≡ option_map (λ b. fitted 4096 b.now) o
    → shown (place_of chunks page) ≡ option_map (λ b. fitted 4096 b.now) o
shown_lent chunks page leaf None read got = ap (λ (l : Pages). shown (get_or l (page % 128) None)) read ∙ ap shown got
shown_lent chunks page leaf (Some b) read got = ap (λ (l : Pages). shown (get_or l (page % 128) None)) read ∙ ap shown got ∙ ap (λ (l : List ℕ). Some l) (fitted_twice b.now)

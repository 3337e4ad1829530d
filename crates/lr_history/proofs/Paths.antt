-- What a trail's paths name of an object is its own list, in order.
use Rattle.std.proofs.Common.{◌≡◌, ℕ, zero, suc, ◌+◌, List, [], ◌∷◌, ◌++◌, length, take, drop, map, filter, Some, slice_get, cond, Bool, true, false, not, refl, sym, ap, subst, ◌∙◌, append-nil, eqb-true, add-one}
use Rattle.std.specs.Prelude.{◌&&◌}
use Rattle.std.specs.Option.{option_to_list}
use Rattle.std.specs.List.{AllByRecursion, flat_map, range_with_len}
use Rattle.std.proofs.lemmas.List.{take-append-drop}
use Rattle.std.proofs.lemmas.List.Concat.{flat_map-append}
use Rattle.lr_object.specs.declared.id.ObjectId.{ObjectId}
use Rattle.lr_object.specs.declared.id.ObjectId.TheVariants.{Device, Cache, Node, Depot}
use Rattle.lr_walk.specs.declared.trail.Answer.{Answer}
use Rattle.lr_walk.specs.declared.trail.Did.{Did}
use Rattle.lr_walk.specs.declared.trail.JobResult.{JobResult}
use Rattle.lr_walk.specs.Walk.{Walks}
use Rattle.lr_walk.specs.Steps.{Step, object_of, is_memory}
use Rattle.lr_walk.specs.Trails.{Lists, is_same, IsAt, Reads, is_entry_of, places_in, places, AreCounted, IsReap, AreReaps}
use Rattle.lr_history.specs.Jobs.{HasTrailOf}
use Rattle.lr_history.specs.Lists.{entries_in}

-- ---- lists read by their places

one_taken : {X : Type 0} (xs : List X) (k n : ℕ) → option_to_list (slice_get xs k) ++ take n (drop (suc k) xs) ≡ take (suc n) (drop k xs)
one_taken [] zero zero = refl
one_taken [] zero (suc n) = refl
one_taken [] (suc k) zero = refl
one_taken [] (suc k) (suc n) = refl
one_taken (x ∷ xs) zero n = refl
one_taken (x ∷ xs) (suc k) n = one_taken xs k n

abbrev read : {X : Type 0} → List X → ℕ → List X
read xs i = option_to_list (slice_get xs i)

ranged : {X : Type 0} (xs : List X) (k n : ℕ) → flat_map (read xs) (range_with_len k n) ≡ take n (drop k xs)
ranged xs k zero = refl
ranged xs k (suc n) =
    ap (λ (l : _). read xs k ++ l) (ranged xs (k + 1) n)
    ∙ ap (λ (i : ℕ). read xs k ++ take n (drop i xs)) (add-one k)
    ∙ one_taken xs k n

pub counted_read : {X : Type 0} (xs : List X) (numbers : List ℕ) → AreCounted numbers → flat_map (read xs) numbers ≡ take (length numbers) xs
counted_read xs numbers e = ap (λ (l : List ℕ). flat_map (read xs) l) e ∙ ranged xs 0 (length numbers)

pub same_is : (a b : ObjectId) → is_same a b ≡ true → a ≡ b
same_is (Device a) (Device b) e = ap Device (eqb-true a b e)
same_is (Cache a) (Cache b) e = ap Cache (eqb-true a b e)
same_is (Node a) (Node b) e = ap Node (eqb-true a b e)
same_is Depot Depot e = refl
same_is (Device a) (Cache b) e = absurd (cc)
same_is (Device a) (Node b) e = absurd (cc)
same_is (Device a) Depot e = absurd (cc)
same_is (Cache a) (Device b) e = absurd (cc)
same_is (Cache a) (Node b) e = absurd (cc)
same_is (Cache a) Depot e = absurd (cc)
same_is (Node a) (Device b) e = absurd (cc)
same_is (Node a) (Cache b) e = absurd (cc)
same_is (Node a) Depot e = absurd (cc)
same_is Depot (Device b) e = absurd (cc)
same_is Depot (Cache b) e = absurd (cc)
same_is Depot (Node b) e = absurd (cc)

-- What is told of steps on one object, and of nothing else: nothing of a call that found no memory, nor of the end of what
-- was out at a crash.
pub record IsOn {X : Type 0} (f : Step → List X) (o : ObjectId) : Type 0 where
  pub elsewhere : (s : Step) → is_same (object_of s.call) o ≡ false → f s ≡ []
  pub no_memory : (s : Step) → is_memory s.reply ≡ true → f s ≡ []
  pub no_reap : (s : Step) → IsReap s.call → f s ≡ []

module _ {X : Type 0} (f : Step → List X) (o : ObjectId) (on : IsOn f o) (lists : Lists) where
  -- one place of a path
  one_read : (d : Did) (s : Step) (path : List Did) (steps : List Step) (here open_memory : Bool) → is_same d.object o ≡ here → d.memory ≡ open_memory
      → object_of s.call ≡ d.object → IsAt open_memory (lists d.object) d.place s
      → flat_map f (entries_in lists o path) ≡ flat_map f steps
      → flat_map f (flat_map (read (lists o)) (map (λ (d : Did). d.place) (cond (not open_memory && here) (d ∷ filter (is_entry_of o) path) (filter (is_entry_of o) path)))) ≡ f s ++ flat_map f steps
  one_read d s path steps true false h m at there rest =
      let is : d.object ≡ o = same_is d.object o h in
      let got : slice_get (lists o) d.place ≡ Some s = subst (λ (x : ObjectId). slice_get (lists x) d.place ≡ Some s) is there in
      rw got (ap (λ (l : List X). f s ++ l) rest)
  one_read d s path steps true true h m at there rest = rw (on.no_memory s there) rest
  one_read d s path steps false true h m at there rest = rw (on.no_memory s there) rest
  one_read d s path steps false false h m at there rest =
      let off : is_same (object_of s.call) o ≡ false = subst (λ (x : ObjectId). is_same x o ≡ false) (sym at) h in
      rw (on.elsewhere s off) rest

  pub reads_all : (path : List Did) (steps : List Step) → Reads lists path steps → flat_map f (entries_in lists o path) ≡ flat_map f steps
  reads_all [] [] r = refl
  reads_all [] (s ∷ steps) r = absurd r
  reads_all (d ∷ path) [] r = absurd r
  reads_all (d ∷ path) (s ∷ steps) r =
      one_read d s path steps (is_same d.object o) d.memory refl refl r.0.0 r.0.1 (reads_all path steps r.1)

  -- what is told of the entries that the paths name, job by job
  abbrev told_by_jobs : List JobResult → List X
  told_by_jobs results = flat_map (λ (r : JobResult). flat_map f (entries_in lists o r.path.items)) results

  by_jobs : (results : List JobResult) → flat_map f (flat_map (read (lists o)) (places o results)) ≡ told_by_jobs results
  by_jobs [] = refl
  by_jobs (r ∷ results) =
      ap (flat_map f) (flat_map-append (read (lists o)) (places_in o r.path.items) (places o results))
      ∙ flat_map-append f (entries_in lists o r.path.items) (flat_map (read (lists o)) (places o results))
      ∙ ap (λ (l : List X). flat_map f (entries_in lists o r.path.items) ++ l) (by_jobs results)

  reaps_none : (steps : List Step) → AllByRecursion (λ (s : Step). IsReap s.call) steps → flat_map f steps ≡ []
  reaps_none [] h = refl
  reaps_none (s ∷ steps) h = ap (λ (l : List X). l ++ flat_map f steps) (on.no_reap s h.0) ∙ reaps_none steps h.1

  -- what is told of the whole list is told job by job
  pub list_by_jobs : (results : List JobResult) → AreCounted (places o results) → AreReaps (drop (length (places o results)) (lists o))
      → flat_map f (lists o) ≡ told_by_jobs results
  list_by_jobs results counted beyond =
      let n : ℕ = length (places o results) in
      ap (flat_map f) (sym (take-append-drop n (lists o)))
      ∙ flat_map-append f (take n (lists o)) (drop n (lists o))
      ∙ ap (λ (l : List X). flat_map f (take n (lists o)) ++ l) (reaps_none (drop n (lists o)) beyond.0)
      ∙ append-nil (flat_map f (take n (lists o)))
      ∙ ap (flat_map f) (sym (counted_read (lists o) (places o results) counted))
      ∙ by_jobs results

-- ---- a list is what the paths name, job by job

paths_joined : (lists : Lists) (o : ObjectId) (results : List JobResult) → flat_map (read (lists o)) (places o results) ≡ flat_map (λ (r : JobResult). entries_in lists o r.path.items) results
paths_joined lists o [] = refl
paths_joined lists o (r ∷ results) =
    flat_map-append (read (lists o)) (places_in o r.path.items) (places o results)
    ∙ ap (λ (l : List Step). entries_in lists o r.path.items ++ l) (paths_joined lists o results)

pub list_follows : {J : Type 0} (walks : J → Walks Step Answer) (lists : Lists) (jobs : List J) (results : List JobResult) → HasTrailOf walks lists jobs results → (o : ObjectId)
    → (rest : List Step) × (lists o ≡ flat_map (λ (r : JobResult). entries_in lists o r.path.items) results ++ rest) × AreReaps rest
list_follows walks lists jobs results h o =
    let n : ℕ = length (places o results) in (
      drop n (lists o),
      sym (take-append-drop n (lists o))
          ∙ ap (λ (l : List Step). l ++ drop n (lists o)) (sym (counted_read (lists o) (places o results) (h.counted o)) ∙ paths_joined lists o results),
      h.beyond o,
    )

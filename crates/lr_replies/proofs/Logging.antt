-- What a call does to the logs, and to callers' own lists.
use Rattle.std.proofs.Common.{◌≡◌, ◌≢◌, ℕ, List, [], ◌∷◌, ◌++◌, map, Bool, true, false, cond, nat_eq, Option, Some, slice_get, refl, sym, ap, ◌∙◌, subst, eqb-true, eq-eqb}
use Rattle.std.proofs.lemmas.List.{map-append}
use Rattle.std.proofs.lemmas.Bool.{false≢true}
use Rattle.lr_object.specs.declared.entry.Entry.{Entry}
use Rattle.lr_object.specs.Kept.{Sized}
use Rattle.lr_object.specs.Own.{own_entries}
use Rattle.lr_object.proofs.OwnEntries.{own_entries-own, own_entries-other}
use Rattle.lr_walk.specs.Steps.{Step}
use Rattle.lr_replies.specs.Objects.{log_of, Logs, IsReplaced, LogsAt}
use Rattle.lr_replies.proofs.Facts.{same_some}

pub differs : (n m : ℕ) → nat_eq n m ≡ false → m ≢ n
differs n m e f = false≢true (sym e ∙ eq-eqb n m (sym f))

module _ {N T : Type 0} (entry : ℕ → Entry N T → Step) where
  -- a caller's own list of the object of a number
  abbrev pub own_at : List (Sized N T) → ℕ → ℕ → List Step
  own_at objects caller m = map (entry m) (own_entries caller (log_of (slice_get objects m)))

  module _ (old new : List (Sized N T)) (n : ℕ) (enters : Sized N T → Entry N T → Type 0) (caller : ℕ) where
    at_same : (log : List (Entry N T)) (was : Sized N T) (other m : ℕ) → n ≡ m → IsReplaced old n (record { capacity = was.capacity; log = log }) new → own_at new other m ≡ map (entry m) (own_entries other log)
    at_same log was other m e r = ap (λ (o : Option (Sized N T)). map (entry m) (own_entries other (log_of o))) (ap (slice_get new) (sym e) ∙ r.here)

    was_same : (was : Sized N T) (other m : ℕ) → n ≡ m → slice_get old n ≡ Some was → own_at old other m ≡ map (entry m) (own_entries other was.log)
    was_same was other m e at = ap (λ (o : Option (Sized N T)). map (entry m) (own_entries other (log_of o))) (ap (slice_get old) (sym e) ∙ at)

    at_other : (x : Sized N T) (other m : ℕ) → m ≢ n → IsReplaced old n x new → own_at new other m ≡ own_at old other m
    at_other x other m ne r = ap (λ (o : Option (Sized N T)). map (entry m) (own_entries other (log_of o))) (r.others m ne)

    -- nothing was logged
    pub stays_at : (other : ℕ) → LogsAt old n false enters caller new → (m : ℕ) → own_at new other m ≡ own_at old other m
    stays_at other l m = by (nat_eq n m) refl
      where
        by : (b : Bool) → nat_eq n m ≡ b → own_at new other m ≡ own_at old other m
        by true e =
            let is : n ≡ m = eqb-true n m e in
            at_same l.1 l.0 other m is l.4 ∙ ap (λ (log : List (Entry N T)). map (entry m) (own_entries other log)) l.3 ∙ sym (was_same l.0 other m is l.2)
        by false e = at_other _ other m (differs n m e) l.4

    -- an entry of the caller was
    pub grows_at : (l : LogsAt old n true enters caller new) (m : ℕ) → own_at new caller m ≡ cond (nat_eq n m) (own_at old caller m ++ entry n l.3.0 ∷ []) (own_at old caller m)
    grows_at l m = by (nat_eq n m) refl
      where
        by : (b : Bool) → nat_eq n m ≡ b → own_at new caller m ≡ cond b (own_at old caller m ++ entry n l.3.0 ∷ []) (own_at old caller m)
        by true e =
            let is : n ≡ m = eqb-true n m e in
            at_same l.1 l.0 caller m is l.4
            ∙ ap (λ (log : List (Entry N T)). map (entry m) (own_entries caller log)) l.3.1
            ∙ ap (map (entry m)) (own_entries-own caller l.0.log l.3.0 l.3.2)
            ∙ map-append (entry m) (own_entries caller l.0.log) (l.3.0 ∷ [])
            ∙ ap (λ (i : ℕ). map (entry m) (own_entries caller l.0.log) ++ entry i l.3.0 ∷ []) (sym is)
            ∙ ap (λ (xs : List Step). xs ++ entry n l.3.0 ∷ []) (sym (was_same l.0 caller m is l.2))
        by false e = at_other _ caller m (differs n m e) l.4

    -- another caller's list stays
    pub others_at : (is_logged : Bool) (other : ℕ) → other ≢ caller → LogsAt old n is_logged enters caller new → (m : ℕ) → own_at new other m ≡ own_at old other m
    others_at false other ne l m = stays_at other l m
    others_at true other ne l m = by (nat_eq n m) refl
      where
        by : (b : Bool) → nat_eq n m ≡ b → own_at new other m ≡ own_at old other m
        by true e =
            let is : n ≡ m = eqb-true n m e in
            at_same l.1 l.0 other m is l.4
            ∙ ap (λ (log : List (Entry N T)). map (entry m) (own_entries other log)) l.3.1
            ∙ ap (map (entry m)) (own_entries-other other l.0.log l.3.0 (λ f. ne (sym f ∙ l.3.2)))
            ∙ sym (was_same l.0 other m is l.2)
        by false e = at_other _ other m (differs n m e) l.4

-- Of each object of the list holds still what held, if it does of the changed one.
pub each_at : {N T : Type 0} (old new : List (Sized N T)) (n : ℕ) (enters : Sized N T → Entry N T → Type 0) (caller : ℕ) (P : ℕ → Sized N T → Type 0) (is_logged : Bool)
    → ((m : ℕ) (x : Sized N T) → slice_get old m ≡ Some x → P m x) → (l : LogsAt old n is_logged enters caller new)
    → (P n l.0 → P n (record { capacity = l.0.capacity; log = l.1 })) → (m : ℕ) (x : Sized N T) → slice_get new m ≡ Some x → P m x
each_at {N} {T} old new n enters caller P is_logged all l one m x e = by (nat_eq n m) refl
  where
    by : (b : Bool) → nat_eq n m ≡ b → P m x
    by true f =
        let is : n ≡ m = eqb-true n m f in
        let now : Sized N T = record { capacity = l.0.capacity; log = l.1 } in
        let same : now ≡ x = same_some (slice_get new n) now x l.4.here (ap (slice_get new) is ∙ e) in
        subst (λ (i : ℕ). P i x) is (subst (P n) same (one (all n l.0 l.2)))
    by false f = all m x (sym (l.4.others m (differs n m f)) ∙ e)

-- ---- one log

pub stays_log : {N T : Type 0} (enters : Entry N T → Type 0) (caller : ℕ) (old new : List (Entry N T)) → Logs false enters caller old new → new ≡ old
stays_log enters caller old new l = l

-- another caller's entries stay
pub others_log : {N T : Type 0} (is_logged : Bool) (enters : Entry N T → Type 0) (caller other : ℕ) (old new : List (Entry N T)) → other ≢ caller → Logs is_logged enters caller old new → own_entries other new ≡ own_entries other old
others_log false enters caller other old new ne l = ap (own_entries other) l
others_log true enters caller other old new ne l = ap (own_entries other) l.1 ∙ own_entries-other other old l.0 (λ f. ne (sym f ∙ l.2))

-- What each step on the table tells its pass, and what a call does to the object in hand.
use Rattle.std.specs.Prelude.{◌≡◌, ◌≢◌, ℕ, ◌≤◌, List, [], ◌∷◌, ◌++◌, length, Some, Bool, MatchBool}
use Rattle.atomic_table.specs.Table.{Me, Step}
use Rattle.lr_object.specs.declared.entry.Entry.{Entry}
use Rattle.lr_turn.specs.declared.view.View.{View}
use Rattle.lr_turn.specs.Views.{taking, counting, leaving, knowing}
use Rattle.lr_turn.specs.Called.{Fits}

module _ {S C R F : Type 0} (log : S → List (Entry C R)) (fixed : S → F) where
  -- the entry that the object in hand has more than was seen was counted
  abbrev pub counts : Step S → Me S (View C R F) → ℕ → Me S (View C R F) → Type 0
  counts st m n m' = (m'.1 ≡ m.1) × ((y : S) (e : Entry C R) → m.1 ≡ (0, y) ∷ [] → log y ≡ m.0.seen ++ e ∷ [] → m'.0 ≡ counting m.0 e)

module _ {S C R F Call Reply : Type 0} (log : S → List (Entry C R)) (fixed : S → F) (shares : C → Type 0)
    (answers : F → List (Entry C R) → ℕ → Call → Reply → Type 0) (enters : F → List (Entry C R) → ℕ → Call → Reply → Entry C R → Type 0) where
  -- the turn was taken: the object is in hand, and its log fits
  abbrev pub Taken : Me S (View C R F) → Me S (View C R F) → Type 0
  Taken m m' = (y : S) × (m' ≡ (taking m.0 (log y), (0, y) ∷ [])) × (m.0.fixed ≡ Some (fixed y)) × Fits shares answers enters (fixed y) m.0 (log y)

  -- where word 1 was 0 the turn was taken, and else another pass has it
  abbrev pub takes : Step S → Me S (View C R F) → ℕ → Me S (View C R F) → Type 0
  takes st m n m' = (n ≡ 0 → Taken m m') × (n ≢ 0 → m' ≡ m)

-- the entry is of a call that the object answered so after the log that was seen
pub record MayCount {C R F Call Reply : Type 0} (answers : F → List (Entry C R) → ℕ → Call → Reply → Type 0)
    (enters : F → List (Entry C R) → ℕ → Call → Reply → Entry C R → Type 0) (v : View C R F) (e : Entry C R) : Type 0 where
  pub fixed : F
  pub call : Call
  pub reply : Reply
  pub fixed_is : v.fixed ≡ Some fixed
  pub answered : answers fixed v.seen e.caller call reply
  pub entered : enters fixed v.seen e.caller call reply e

-- the turn was given back, with the object
abbrev pub leaves : {S C R F : Type 0} → Step S → Me S (View C R F) → ℕ → Me S (View C R F) → Type 0
leaves st m n m' = m' ≡ (leaving m.0, [])

-- the number of entries was told
abbrev pub tells : {S C R F : Type 0} → Step S → Me S (View C R F) → ℕ → Me S (View C R F) → Type 0
tells st m n m' = (m' ≡ (knowing m.0 n, m.1)) × (length m.0.seen ≤ n) × (m.0.known ≤ n)

module _ {S C R F Call Reply : Type 0} (log : S → List (Entry C R)) (fixed : S → F) (opens : Call → Type 0) (shares : C → Type 0) (logged : Reply → Bool)
    (answers : F → List (Entry C R) → ℕ → Call → Reply → Type 0) (enters : F → List (Entry C R) → ℕ → Call → Reply → Entry C R → Type 0) where
  -- one entry more, or none
  abbrev pub Logs : F → List (Entry C R) → ℕ → Call → Reply → List (Entry C R) → Type 0
  Logs f l caller call reply l' =
      MatchBool (logged reply) ((e : Entry C R) × (l' ≡ l ++ e ∷ []) × (e.caller ≡ caller) × enters f l caller call reply e × (opens call → shares e.call)) (l' ≡ l)

  -- the object in hand answered a call; the lengths of its log before and after
  abbrev pub Applied : Me S (View C R F) → Me S (View C R F) → ℕ → Call → Reply → ℕ → ℕ → Type 0
  Applied m m' caller call reply before after =
      (y : S) × (y' : S) × (m.1 ≡ (0, y) ∷ []) × (m' ≡ (m.0, (0, y') ∷ [])) × (fixed y' ≡ fixed y) × answers (fixed y) (log y) caller call reply
      × Logs (fixed y) (log y) caller call reply (log y') × (before ≡ length (log y)) × (after ≡ length (log y'))

-- The rule of the table: one counted log, of which each pass knows a beginning.
use Rattle.std.specs.Prelude.{◌≡◌, ◌≢◌, ◌⊎◌, ℕ, ◌<◌, ◌≤◌, List, [], ◌∷◌, ◌++◌, length, Some, true, false, ◌==◌, All, Contains}
use Rattle.std.specs.List.{IsDistinct}
use mathlib.Core.Option.{some, none}
use mathlib.Core.Option as maybe
use mathlib.Core.List.{IsPrefix}
use lib.ListN.{get_elem?}
use Rattle.atomic_table.specs.Table.{State}
use Rattle.lr_object.specs.declared.entry.Entry.{Entry}
use Rattle.lr_object.specs.Own.{own_entries}
use Rattle.lr_object.specs.Grown.{Grown}
use Rattle.lr_turn.specs.declared.view.View.{View}
use Rattle.lr_turn.specs.declared.view.Own.{Own}
use Rattle.lr_turn.specs.Called.{numbers}

-- What the table has in its past: the object's fixed part, its log at the start and the entries that were counted since, the seat of each
-- number, word 1, the seat that took the turn last, and the numbers given out, with the greatest.
pub record Past (C R F : Type 0) : Type 0 where
  pub fixed : F
  pub start : List (Entry C R)
  pub since : List (Entry C R)
  pub seat : ℕ → maybe.Option ℕ
  pub lock : ℕ
  pub turn : ℕ
  pub top : ℕ
  pub given : List ℕ

-- the counted log
abbrev pub counted : {C R F : Type 0} → Past C R F → List (Entry C R)
counted p = p.start ++ p.since

-- a number is the first pass's, or it was given out
abbrev pub IsGiven : List ℕ → ℕ → Type 0
IsGiven given n = (n ≡ 0) ⊎ Contains given n

-- A pass that has ended: its list stands, what it has seen was counted, and its number has no seat.
pub record Ended {C R : Type 0} (seat : ℕ → maybe.Option ℕ) (start since : List (Entry C R)) (top : ℕ) (o : Own C R) : Type 0 where
  pub seat_is : seat o.number ≡ none
  pub below : o.number ≤ top
  pub seen_is : IsPrefix o.seen (start ++ since)
  pub mine_is : o.entries ≡ own_entries o.number since

-- What the view of a seat says. A seat that has the turn has seen all that was counted.
pub record Knows {C R F : Type 0} (p : Past C R F) (i : ℕ) (v : View C R F) : Type 0 where
  pub fixed_is : v.fixed ≡ Some p.fixed
  pub start_is : v.start ≡ p.start
  pub seat_is : p.seat v.number ≡ some i
  pub below : v.number ≤ p.top
  pub seen_is : IsPrefix v.seen (counted p)
  pub mine_is : v.mine ≡ own_entries v.number p.since
  pub known_is : v.known ≤ length (counted p)
  pub turn_is : v.out ≡ true → (p.lock ≢ 0) × (p.turn ≡ i) × (v.seen ≡ counted p)
  pub top_is : v.number ≡ 0 → (v.top ≡ p.top) × (v.given ≡ p.given) × All (Ended p.seat p.start p.since p.top) v.joined
      × IsDistinct (λ m n. m == n) (numbers v)

-- Word 0 is the length of the counted log. Word 1 is 0 while the object stands in the slot, with the counted log and the fixed part of the
-- first state; else one seat has the turn. Numbers not given out have neither seat nor entries. A spent view says nothing.
pub record Kept {S C R F Call Reply : Type 0} (log : S → List (Entry C R)) (fixed : S → F) (shares : C → Type 0)
    (answers : F → List (Entry C R) → ℕ → Call → Reply → Type 0) (enters : F → List (Entry C R) → ℕ → Call → Reply → Entry C R → Type 0) (f : F)
    (start : List (Entry C R)) (s : State S (View C R F)) : Type 0 where
  pub past : Past C R F
  pub fixed_past : past.fixed ≡ f
  pub start_past : past.start ≡ start
  pub words_are : s.words ≡ length (counted past) ∷ past.lock ∷ []
  pub free : past.lock ≡ 0 → (y : S) × (s.homes ≡ some y ∷ []) × (log y ≡ counted past) × (fixed y ≡ past.fixed)
  pub busy : past.lock ≢ 0 → (v : View C R F) × (get_elem? s.views past.turn ≡ some v) × (v.spent ≡ false) × (v.out ≡ true)
  pub fresh : (n : ℕ) → past.top < n → (past.seat n ≡ none) × (own_entries n past.since ≡ [])
  pub seated : (n i : ℕ) → past.seat n ≡ some i → IsGiven past.given n
  pub callers : All (λ e. IsGiven past.given e.caller) past.since
  pub shared : All (λ e. shares e.call) past.since
  -- each entry counted is of a call that the object answered so
  pub grown : Grown answers enters past.fixed past.start (counted past)
  pub each : (i : ℕ) (v : View C R F) → get_elem? s.views i ≡ some v → v.spent ≡ false → Knows past i v

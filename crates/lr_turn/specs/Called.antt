-- What calls promise of their pass, and what the closed log is.
use Rattle.std.specs.Prelude.{◌≡◌, ℕ, ◌≤◌, List, ◌++◌, length, map, Some, Bool, ◌==◌, MatchBool, All, Contains}
use Rattle.std.specs.List.{IsDistinct}
use mathlib.Core.List.{IsPrefix}
use Rattle.lr_object.specs.declared.entry.Entry.{Entry}
use Rattle.lr_object.specs.Own.{own_entries}
use Rattle.lr_object.specs.Grown.{Grown}
use Rattle.lr_turn.specs.declared.view.View.{View}
use Rattle.lr_turn.specs.Views.{seeing, counting, lists_of}

-- A log may be the object's now: it goes on from all that was seen and from the log at the start. Since then it has, of the pass's calls, just
-- those that the pass made, and no call that isn't made while others share the object; and each entry is of a call that the object answered so.
pub record Fits {C R F Call Reply : Type 0} (shares : C → Type 0) (answers : F → List (Entry C R) → ℕ → Call → Reply → Type 0)
    (enters : F → List (Entry C R) → ℕ → Call → Reply → Entry C R → Type 0) (fixed : F) (v : View C R F) (l : List (Entry C R)) : Type 0 where
  pub since : List (Entry C R)
  pub log_is : l ≡ v.start ++ since
  pub seen_is : IsPrefix v.seen l
  pub mine_is : own_entries v.number since ≡ v.mine
  pub shared : All (λ e. shares e.call) since
  pub grown : Grown answers enters fixed v.start l

-- What a call promises: on some log that fits, the object answered so. A logged call has one entry more behind that log, its own; after an
-- unlogged one the pass has seen that log.
pub record Called {C R F Call Reply : Type 0} (shares : C → Type 0) (logged : Reply → Bool) (answers : F → List (Entry C R) → ℕ → Call → Reply → Type 0)
    (enters : F → List (Entry C R) → ℕ → Call → Reply → Entry C R → Type 0) (v w : View C R F) (caller : ℕ) (call : Call) (reply : Reply) : Type 0 where
  pub fixed : F
  pub log : List (Entry C R)
  pub fixed_is : v.fixed ≡ Some fixed
  pub fits : Fits shares answers enters fixed v log
  pub answered : answers fixed log caller call reply
  pub kept : MatchBool (logged reply) ((e : Entry C R) × (w ≡ counting (seeing log v) e) × (e.caller ≡ caller) × enters fixed log caller call reply e
      × shares e.call) (w ≡ seeing log v)

-- the numbers of the first pass and of those that it joined
abbrev pub numbers : {C R F : Type 0} → View C R F → List ℕ
numbers v = map (λ o. o.number) (lists_of v)

-- each number given out has been joined
abbrev pub AllJoined : {C R F : Type 0} → View C R F → Type 0
AllJoined v = All (Contains (numbers v)) v.given

-- l is the log at the end: the log at the start, and then the entries of the passes. No two passes have one number. What each has seen is a
-- beginning of l, and each number has the entries that its pass made. Each entry is of one of these numbers and of a call that the object answered so.
pub record Closes {C R F Call Reply : Type 0} (shares : C → Type 0) (answers : F → List (Entry C R) → ℕ → Call → Reply → Type 0)
    (enters : F → List (Entry C R) → ℕ → Call → Reply → Entry C R → Type 0) (fixed : F) (v : View C R F) (l : List (Entry C R)) : Type 0 where
  pub since : List (Entry C R)
  pub log_is : l ≡ v.start ++ since
  pub known_is : v.known ≤ length l
  pub apart : IsDistinct (λ m n. m == n) (numbers v)
  pub seen : All (λ o. IsPrefix o.seen l) (lists_of v)
  pub lists : All (λ o. o.entries ≡ own_entries o.number since) (lists_of v)
  pub callers : All (λ e. Contains (numbers v) e.caller) since
  pub shared : All (λ e. shares e.call) since
  pub grown : Grown answers enters fixed v.start l

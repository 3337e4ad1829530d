-- How the view of a pass begins, and what each step makes of it.
use Rattle.std.specs.Prelude.{ℕ, List, [], ◌∷◌, ◌++◌, length, Some, None, true, false, ◌==◌, if◌then◌else◌, max}
use Rattle.lr_object.specs.declared.entry.Entry.{Entry}
use Rattle.lr_turn.specs.declared.view.View.{View}
use Rattle.lr_turn.specs.declared.view.Own.{Own}

-- the longer of two lists, and the first where they are as long
abbrev pub longer : {X : Type 0} → List X → List X → List X
longer xs ys = if length xs == max (length xs) (length ys) then xs else ys

module _ {C R F : Type 0} where
  -- the first pass, before any call
  abbrev pub first_view : F → List (Entry C R) → View C R F
  first_view f l = record {
    spent = false;
    out = false;
    number = 0;
    fixed = Some f;
    start = l;
    seen = [];
    mine = [];
    known = 0;
    top = 0;
    given = [];
    joined = [];
  }

  -- what a pass that was joined leaves behind
  abbrev pub spent_view : View C R F
  spent_view = record {
    spent = true;
    out = false;
    number = 0;
    fixed = None;
    start = [];
    seen = [];
    mine = [];
    known = 0;
    top = 0;
    given = [];
    joined = [];
  }

  -- a log was seen
  abbrev pub seeing : List (Entry C R) → View C R F → View C R F
  seeing l v = record v { seen = l }

  -- the turn was taken, and the object has this log
  abbrev pub taking : View C R F → List (Entry C R) → View C R F
  taking v l = record v { out = true; seen = l }

  -- an entry of its own was counted
  abbrev pub counting : View C R F → Entry C R → View C R F
  counting v e = record v { seen = v.seen ++ e ∷ []; mine = v.mine ++ e ∷ [] }

  -- the turn was given back
  abbrev pub leaving : View C R F → View C R F
  leaving v = record v { out = false }

  -- the number of entries was told
  abbrev pub knowing : View C R F → ℕ → View C R F
  knowing v n = record v { known = n }

  -- a number was given out
  abbrev pub giving : ℕ → View C R F → View C R F
  giving n v = record v { top = n; given = v.given ++ n ∷ [] }

  -- the pass that got the number
  abbrev pub newcomer : ℕ → View C R F → View C R F
  newcomer n v = record {
    spent = false;
    out = false;
    number = n;
    fixed = v.fixed;
    start = v.start;
    seen = v.seen;
    mine = [];
    known = 0;
    top = 0;
    given = [];
    joined = [];
  }

  -- a number with what its pass has seen and the entries that it made
  abbrev pub own_of : View C R F → Own C R
  own_of v = record { number = v.number; seen = v.seen; entries = v.mine }

  -- a pass was joined
  abbrev pub joining : View C R F → View C R F → View C R F
  joining v w = record v { seen = longer v.seen w.seen; known = max v.known w.known; joined = v.joined ++ own_of w ∷ [] }

  -- the lists of a pass and of those that it joined, each with its number
  abbrev pub lists_of : View C R F → List (Own C R)
  lists_of v = own_of v ∷ v.joined

  -- the same of the one view that there is
  abbrev pub lists_of_all : List (View C R F) → List (Own C R)
  lists_of_all [] = []
  lists_of_all (v ∷ vs) = lists_of v

-- The lists of the passes on an object.
use Rattle.std.specs.Prelude.{◌≡◌, ℕ, List, map, All}
use Rattle.lr_object.specs.declared.entry.Entry.{Entry}
use Rattle.lr_object.specs.Own.{own_entries}
use Rattle.lr_turn.specs.declared.view.Own.{Own}

-- of each list its number and its entries
abbrev pub made : {C R : Type 0} → List (Own C R) → List (ℕ × List (Entry C R))
made = map (λ o. (o.number, o.entries))

-- The lists are those of these numbers, and each has the log's entries of its number.
pub record AreOwn {C R : Type 0} (numbers : List ℕ) (log : List (Entry C R)) (lists : List (Own C R)) : Type 0 where
  pub numbers_are : map (λ (o : Own C R). o.number) lists ≡ numbers
  pub entries_are : All (λ (o : Own C R). o.entries ≡ own_entries o.number log) lists

-- A caller's own entries in a log that gains one.
use Rattle.std.proofs.Common.{◌≡◌, ◌≢◌, ℕ, List, [], ◌∷◌, ◌++◌, ap, ◌∙◌, arith}
use Rattle.std.specs.Prelude.{◌==◌, if◌then◌else◌}
use Rattle.std.proofs.lemmas.List.Elements.{filter-append}
use Rattle.std.proofs.lemmas.Grind.{common_steps}
use Rattle.lr_object.specs.declared.entry.Entry.{Entry}
use Rattle.lr_object.specs.Own.{own_entries}

module _ {C R : Type 0} where
  pub own_entries-append : (caller : ℕ) (xs ys : List (Entry C R)) → own_entries caller (xs ++ ys) ≡ own_entries caller xs ++ own_entries caller ys
  own_entries-append caller xs ys = filter-append (λ e. e.caller == caller) xs ys

  -- an entry of its own goes behind
  pub own_entries-own : (caller : ℕ) (log : List (Entry C R)) (e : Entry C R) → e.caller ≡ caller → own_entries caller (log ++ e ∷ []) ≡ own_entries caller log ++ e ∷ []
  own_entries-own caller log e by = rw own_entries-append (grind (arith, common_steps))

  -- another caller's entry changes nothing
  pub own_entries-other : (caller : ℕ) (log : List (Entry C R)) (e : Entry C R) → e.caller ≢ caller → own_entries caller (log ++ e ∷ []) ≡ own_entries caller log
  own_entries-other caller log e by = rw own_entries-append (grind (arith, common_steps))

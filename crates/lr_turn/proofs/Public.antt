-- What the crates above cite: passes that were joined in the order of their numbers, and the lists of a log that began empty.
use Rattle.std.proofs.Common.{◌≡◌, ℕ, List, [], ◌∷◌, ◌++◌, sym, ap, ◌∙◌, subst, map}
use Rattle.std.specs.Prelude.{All, Contains}
use Rattle.std.proofs.lemmas.List.Elements.{All-weaker, All-contains_itself, Contains-append_right}
use Rattle.lr_object.specs.declared.entry.Entry.{Entry}
use Rattle.lr_object.specs.Own.{own_entries}
use Rattle.lr_turn.specs.declared.view.View.{View}
use Rattle.lr_turn.specs.declared.view.Own.{Own}
use Rattle.lr_turn.specs.Views.{lists_of}
use Rattle.lr_turn.specs.Called.{AllJoined, Closes, numbers}

module _ {C R F : Type 0} where
  -- each number is joined where they were joined in their order
  pub joined_in_order : (v : View C R F) → map (λ (o : Own C R). o.number) v.joined ≡ v.given → AllJoined v
  joined_in_order v same = All-weaker (Contains v.given) (Contains (numbers v))
      (λ n h. Contains-append_right (v.number ∷ []) (map (λ (o : Own C R). o.number) v.joined) n (subst (λ (l : List ℕ). Contains l n) (sym same) h)) v.given
      (All-contains_itself v.given)

  -- each list has the log's entries of its number, where the log began empty
  pub lists_of_log : {Call Reply : Type 0} (shares : C → Type 0) (answers : F → List (Entry C R) → ℕ → Call → Reply → Type 0) (enters : F → List (Entry C R) → ℕ → Call → Reply → Entry C R → Type 0) (f : F) (v : View C R F) (l : List (Entry C R)) → v.start ≡ [] → Closes shares answers enters f v l
      → All (λ (o : Own C R). o.entries ≡ own_entries o.number l) (lists_of v)
  lists_of_log shares answers enters f v l start closes =
      let all : l ≡ closes.since = closes.log_is ∙ ap (λ (s : List (Entry C R)). s ++ closes.since) start in
      subst (λ (s : List (Entry C R)). All (λ (o : Own C R). o.entries ≡ own_entries o.number s) (lists_of v)) (sym all) closes.lists

  -- each entry is of one of the numbers, where the log began empty
  pub callers_of_log : {Call Reply : Type 0} (shares : C → Type 0) (answers : F → List (Entry C R) → ℕ → Call → Reply → Type 0) (enters : F → List (Entry C R) → ℕ → Call → Reply → Entry C R → Type 0) (f : F) (v : View C R F) (l : List (Entry C R)) → v.start ≡ [] → Closes shares answers enters f v l
      → All (λ (e : Entry C R). Contains (numbers v) e.caller) l
  callers_of_log shares answers enters f v l start closes =
      let all : l ≡ closes.since = closes.log_is ∙ ap (λ (s : List (Entry C R)). s ++ closes.since) start in
      subst (All (λ (e : Entry C R). Contains (numbers v) e.caller)) (sym all) closes.callers

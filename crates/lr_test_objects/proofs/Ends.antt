-- The lists of passes that were joined in order.
use Rattle.std.proofs.Common.{◌≡◌, ◌≢◌, ℕ, List, [], ◌∷◌, ◌++◌, length, sym, refl, ap, ◌∙◌, subst, arith, map, cond, Bool, eq-eqb, ne_eqb, zero, suc}
use Rattle.std.specs.Prelude.{All, Contains}
use Rattle.std.proofs.lemmas.List.Elements.{All-head, All-tail}
use Rattle.lr_object.specs.declared.entry.Entry.{Entry}
use Rattle.lr_object.specs.Own.{own_entries}
use Rattle.lr_turn.specs.declared.view.View.{View}
use Rattle.lr_turn.specs.declared.view.Own.{Own}
use Rattle.lr_turn.specs.Views.{first_view, giving, knowing, lists_of, own_of, joining}
use Rattle.lr_turn.specs.Called.{AllJoined, Closes, numbers}
use Rattle.lr_turn.proofs.Public.{joined_in_order, lists_of_log, callers_of_log}
use Rattle.lr_test_objects.specs.Lists.{AreOwn, made}

module _ {C R : Type 0} where
  -- an entry of the numbers 0 and 1
  abbrev Among : Entry C R → Type 0
  Among e = Contains (0 ∷ 1 ∷ []) e.caller

  keep_own : (n : ℕ) (x : Entry C R) (xs : List (Entry C R)) → x.caller ≡ n → own_entries n (x ∷ xs) ≡ x ∷ own_entries n xs
  keep_own n x xs is = ap (λ (b : Bool). cond b (x ∷ own_entries n xs) (own_entries n xs)) (eq-eqb x.caller n is)

  skip_other : (n : ℕ) (x : Entry C R) (xs : List (Entry C R)) → x.caller ≢ n → own_entries n (x ∷ xs) ≡ own_entries n xs
  skip_other n x xs ne = ap (λ (b : Bool). cond b (x ∷ own_entries n xs) (own_entries n xs)) (ne_eqb x.caller n ne)

  -- entries that are all of the numbers 0 and 1, and none of 0
  pub all_of_one : (xs : List (Entry C R)) → All Among xs → own_entries 0 xs ≡ [] → own_entries 1 xs ≡ xs
  all_of_one [] h none = refl
  all_of_one (x ∷ xs) h none = by (All-head Among x xs h) (λ rest. all_of_one xs (All-tail Among x xs h) rest)
    where
      by : Among x → (own_entries 0 xs ≡ [] → own_entries 1 xs ≡ xs) → own_entries 1 (x ∷ xs) ≡ x ∷ xs
      by (zero, lt, e) more =
          let none_there = ap (λ (l : List (Entry C R)). length l) (sym (keep_own 0 x xs (sym e)) ∙ none) in absurd (omega (arith, none_there))
      by (suc zero, lt, e) more =
          keep_own 1 x xs (sym e) ∙ ap (λ (l : List (Entry C R)). x ∷ l) (more (sym (skip_other 0 x xs (λ z. omega (arith, z, e))) ∙ none))
      by (suc (suc k), lt, e) more = absurd (omega (arith, lt))

module _ {C R F : Type 0} where
  joined_lists : (v0 v w1 w2 : View C R F) → v ≡ joining (joining v0 w1) w2 → v0.joined ≡ [] → v.joined ≡ own_of w1 ∷ own_of w2 ∷ []
  joined_lists v0 v w1 w2 is none = ap (λ (u : View C R F). u.joined) is ∙ ap (λ (j : List (Own C R)). (j ++ own_of w1 ∷ []) ++ own_of w2 ∷ []) none

  -- two passes that were joined in the order of their numbers
  pub two_joined : (v0 v w1 w2 : View C R F) (n1 n2 : ℕ) → v ≡ joining (joining v0 w1) w2 → v0.joined ≡ [] → v0.given ≡ n1 ∷ n2 ∷ [] → w1.number ≡ n1
      → w2.number ≡ n2 → AllJoined v
  two_joined v0 v w1 w2 n1 n2 is none given one two = joined_in_order v (
      ap (map (λ (o : Own C R). o.number)) (joined_lists v0 v w1 w2 is none) ∙ (λ i. one i ∷ two i ∷ [])
      ∙ sym (ap (λ (u : View C R F). u.given) is ∙ given))

module _ {C R F Call Reply : Type 0} (shares : C → Type 0) (answers : F → List (Entry C R) → ℕ → Call → Reply → Type 0)
    (enters : F → List (Entry C R) → ℕ → Call → Reply → Entry C R → Type 0) (f : F) where
  abbrev Ends : View C R F → List (Entry C R) → Type 0
  Ends = Closes shares answers enters f

  own_lists : (v : View C R F) (l : List (Entry C R)) (ns : List ℕ) → v.start ≡ [] → numbers v ≡ ns → Ends v l → AreOwn ns l (lists_of v)
  own_lists v l ns start same closes = record { numbers_are = same; entries_are = lists_of_log shares answers enters f v l start closes }

  -- the lists of two passes that were joined, and that of the first pass
  pub two_lists : (v0 v w1 w2 : View C R F) (l : List (Entry C R)) (n1 n2 : ℕ) → v ≡ joining (joining v0 w1) w2 → v0.joined ≡ []
      → v0.start ≡ [] → v0.number ≡ 0 → w1.number ≡ n1 → w2.number ≡ n2 → Ends v l → AreOwn (0 ∷ n1 ∷ n2 ∷ []) l (lists_of v)
  two_lists v0 v w1 w2 l n1 n2 is none start zeroth one two closes =
      let first : v.number ≡ 0 = ap (λ (u : View C R F). u.number) is ∙ zeroth in
      own_lists v l (0 ∷ n1 ∷ n2 ∷ []) (ap (λ (u : View C R F). u.start) is ∙ start)
      (ap (λ (j : List (Own C R)). v.number ∷ map (λ (o : Own C R). o.number) j) (joined_lists v0 v w1 w2 is none) ∙ (λ i. first i ∷ one i ∷ two i ∷ []))
      closes

  -- what the first pass made, which is nothing, and the one pass of number 1 that it joined
  pub one_list : (f0 : F) (l0 : List (Entry C R)) (n : ℕ) (v w : View C R F) (l : List (Entry C R)) → v ≡ joining (knowing (giving 1 (first_view f0 l0)) n) w → l0 ≡ []
      → w.number ≡ 1 → Ends v l → made (lists_of v) ≡ (0, []) ∷ (1, l) ∷ []
  one_list f0 l0 n v w l is start number closes =
      let IsOwn : Own C R → Type 0 = λ o. o.entries ≡ own_entries o.number l in
      let first : Own C R = own_of (joining (knowing (giving 1 (first_view f0 l0)) n) w) in
      let lists : lists_of v ≡ first ∷ own_of w ∷ [] = ap lists_of is in
      let begins : v.start ≡ [] = ap (λ (u : View C R F). u.start) is ∙ start in
      let both : All IsOwn (first ∷ own_of w ∷ []) = subst (All IsOwn) lists (lists_of_log shares answers enters f v l begins closes) in
      let among : numbers v ≡ 0 ∷ 1 ∷ [] = ap (map (λ (o : Own C R). o.number)) lists ∙ (λ i. 0 ∷ number i ∷ []) in
      let callers = subst (λ (ns : List ℕ). All (λ (e : Entry C R). Contains ns e.caller) l) among (callers_of_log shares answers enters f v l begins closes) in
      let none : own_entries 0 l ≡ [] = sym (All-head IsOwn first (own_of w ∷ []) both) in
      let all : w.mine ≡ l = All-head IsOwn (own_of w) [] (All-tail IsOwn first (own_of w ∷ []) both)
      ∙ ap (λ (k : ℕ). own_entries k l) number ∙ all_of_one l callers none in
      ap made lists ∙ (λ i. (0, []) ∷ (number i, all i) ∷ [])

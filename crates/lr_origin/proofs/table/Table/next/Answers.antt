use Rattle.std.proofs.Common.{◌≡◌, ℕ, List, [], ◌∷◌, length, Option, Some, None, IsSome, refl, sym, ap, subst, ◌∙◌, arith, ◌<◌}
use Rattle.std.specs.FinMap as map
use Rattle.lr_origin.specs.Objects.{Objects, IsNext, pointed, key_cmp, IsAfter}
use Rattle.lr_origin.proofs.Tables.{present, none_below, absent, vec_cmp, first_past, none_past, none_in_empty}
use Rattle.lr_origin.specs.Table.{objects_of}
use Rattle.std.proofs.lemmas.Bool.{false≢true}
use Rattle.std.specs.BTreeMap.{btree_map_len}
use Rattle.lr_origin.proofs.table.Table.next.Goals as goal

-- to read a fact of the table's view
at_view : (m n : Objects) → m ≡ n → (a : Option (List ℕ)) (k : Option (List ℕ)) → IsNext a m k → IsNext a n k
at_view m n e a k h = subst (λ o. IsNext a o k) e h

pub returns-in-Some-first_key_value : goal.returns-in-Some-first_key_value
returns-in-Some-first_key_value c =
    let k = c.in-Some-first_key_value.key.now in
    let m = c.self.inside.entries in
    subst (λ a. IsNext (pointed a) c.args.self.now (Some k.items)) (sym c.in-None.is)
    (at_view _ _ c.self.view_is None (Some k.items) (tt, present m k _ c.in-Some-first_key_value.ensures.value, λ q _ less. none_below m c.len-count.ensures.ordered k c.in-Some-first_key_value.ensures.least q less))

pub returns-in-None : goal.returns-in-None
returns-in-None c =
    let none : 0 < btree_map_len c.self.inside.entries → ⊥ = λ h. false≢true (c.in-None-first_key_value.ensures.variant.1 h) in
    λ q _. ap (λ o. map.get o q) (sym c.self.view_is) ∙ none_in_empty c.self.inside.entries none q

pub returns-in-Some-next : goal.returns-in-Some-next
returns-in-Some-next c =
    let k = c.in-Some-next.key.now in
    let h = first_past c.self.inside.entries c.range.ensures.ordered c.in_ok-start-in-Some.start k c.in-Some-next.field-0-1.now _ _ (c.range.ensures.in_range tt) c.in-Some-next.ensures.steps in
    let same = c.in_ok-start-in-Some.ensures.items_if_clones_equal (λ x y e. e) in
    subst (λ a. IsNext (pointed a) c.args.self.now (Some k.items)) (sym c.in-Some.is)
    (at_view _ _ c.self.view_is (Some c.in-Some.bytes.now) (Some k.items) (subst (λ b. IsNext (Some b) (objects_of c.self.inside.entries.entries) (Some k.items)) same h))

pub returns : goal.returns
returns c =
    let h = none_past c.self.inside.entries c.range.ensures.ordered c.in_ok-start-in-Some.start _ (c.range.ensures.in_range tt) c.in-None-next.ensures.steps.0 in
    let same = c.in_ok-start-in-Some.ensures.items_if_clones_equal (λ x y e. e) in
    subst (λ a. IsNext (pointed a) c.args.self.now None) (sym c.in-Some.is)
    (at_view _ _ c.self.view_is (Some c.in-Some.bytes.now) None (subst (λ b. IsNext (Some b) (objects_of c.self.inside.entries.entries) None) same h))

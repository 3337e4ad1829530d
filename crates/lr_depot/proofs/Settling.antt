-- The doubts of puts alone.
use Rattle.std.proofs.Common.{◌≡◌, ◌<◌, ◌-◌, true, false, cond, List, [], ◌∷◌, Option, Some, None, IsSome, not, refl, sym, ap, subst, ◌∙◌, inl, inr, arith, length}
use mathlib.Core.Logic.{◌⊎◌}
use Rattle.std.proofs.lemmas.Bool.{cases_Bool, cond-true, cond-false}
use Rattle.std.specs.Option.{is_none}
use Rattle.std.specs.Ordering.{eq_by_cmp}
use Rattle.std.specs.FinMap as fin
use Rattle.std.specs.FinMap.{get-remove, get-retain_keys, len-remove, len-entries, same_map, get-entries}
use Rattle.lr_origin.specs.Kind.{kind_cmp, kind_total, kind_exact}
use Rattle.lr_origin.specs.declared.key.KeyKind.{KeyKind}
use Rattle.lr_roots.specs.View.{View, Held, Has, Lacks}
use Rattle.lr_roots.proofs.Trees.{same_key}
use Rattle.lr_depot.specs.Doubts.{without_keys}

get_left : (v d : View) (q : KeyKind) → fin.get (without_keys v d) q ≡ cond (is_none (fin.get v q)) (fin.get d q) None
get_left v d q = get-retain_keys d (λ k. is_none (fin.get v k)) q (λ x t. ap (λ k. is_none (fin.get v k)) (sym (kind_exact q x t)))

there : (o : Option Held) → IsSome o → is_none o ≡ false
there o some = ap not some

-- a key of the view that is taken out wasn't left
pub left_removed : (v d : View) (k : KeyKind) → Has v k → without_keys v (fin.remove d k) ≡ without_keys v d
left_removed v d k has = same_map kind_total kind_exact _ _ (λ q. get_left v (fin.remove d k) q ∙ at q (cases_Bool (eq_by_cmp kind_cmp q k)) ∙ sym (get_left v d q))
  where
    at : (q : KeyKind) → (eq_by_cmp kind_cmp q k ≡ true) ⊎ (eq_by_cmp kind_cmp q k ≡ false) → cond (is_none (fin.get v q)) (fin.get (fin.remove d k) q) None ≡ cond (is_none (fin.get v q)) (fin.get d q) None
    at q (inl t) =
        let out : is_none (fin.get v q) ≡ false = there (fin.get v q) (subst (Has v) (sym (same_key q k t)) has) in
        cond-false _ _ None out ∙ sym (cond-false _ _ None out)
    at q (inr f) = ap (λ o. cond (is_none (fin.get v q)) o None) (get-remove kind_total d k q ∙ cond-false _ None _ f)

-- where the view has none of them, all are left
pub all_left : (v d : View) → ((k : KeyKind) → Has d k → Lacks v k) → without_keys v d ≡ d
all_left v d none = same_map kind_total kind_exact _ _ (λ q. get_left v d q ∙ at q (fin.get d q) refl)
  where
    at : (q : KeyKind) (o : Option Held) → fin.get d q ≡ o → cond (is_none (fin.get v q)) (fin.get d q) None ≡ fin.get d q
    at q (Some x) e = cond-true _ (fin.get d q) None (ap is_none (none q (subst IsSome (sym e) refl)))
    at q None e = by (cases_Bool (is_none (fin.get v q)))
      where
        by : (is_none (fin.get v q) ≡ true) ⊎ (is_none (fin.get v q) ≡ false) → cond (is_none (fin.get v q)) (fin.get d q) None ≡ fin.get d q
        by (inl t) = cond-true _ _ None t
        by (inr f) = cond-false _ _ None f ∙ sym e

none_found : (k : KeyKind) (o : Option Held) → None ≡ o → IsSome o → ⊥
none_found k None e h = cc
none_found k (Some x) e h = cc

some_there : (d : View) (k : KeyKind) → Has d k → 0 < fin.len d
some_there d k has = by (fin.entries d) (len-entries d) (sym (get-entries d k))
  where
    by : (es : List (KeyKind × Held)) → fin.len d ≡ length es → fin.find kind_cmp k es ≡ fin.get d k → 0 < fin.len d
    by [] e f = absurd (none_found k (fin.get d k) f has)
    by (x ∷ es) e f = omega (arith, e)

-- fewer are left
pub fewer_left : (d : View) (k : KeyKind) → Has d k → fin.len (fin.remove d k) < fin.len d
fewer_left d k has =
    let some : 0 < fin.len d = some_there d k has in
    let less : fin.len (fin.remove d k) ≡ fin.len d - 1 = len-remove kind_total d k ∙ cond-true _ (fin.len d - 1) (fin.len d) has in
    omega (arith, less, some)

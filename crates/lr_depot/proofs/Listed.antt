-- The keys of a view, in order.
use Rattle.std.proofs.Common.{◌≡◌, ◌||◌, Bool, true, false, List, [], ◌∷◌, Option, Some, None, refl, sym, ap, subst, ◌∙◌, inl, inr, option_map}
use denote.Ref.{Bor}
use Rattle.std.specs.FinMap as fin
use Rattle.std.specs.FinMap.{contains_key-keys}
use Rattle.std.specs.List.{list_any}
use Rattle.std.specs.Ordering.{eq_by_cmp}
use Rattle.lr_origin.specs.Kind.{kind_cmp}
use Rattle.lr_origin.specs.declared.key.KeyKind.{KeyKind}
use Rattle.lr_roots.specs.View.{View, Has}
use Rattle.lr_roots.specs.Keys.{key_of}
use Rattle.lr_roots.specs.Names.{IsOneOf}
use Rattle.lr_roots.proofs.Aside.{itself}

or_true : (a b : Bool) → b ≡ true → a || b ≡ true
or_true true b e = refl
or_true false b e = e

any_of : (ks : List KeyKind) (q : KeyKind) → IsOneOf ks q → list_any (eq_by_cmp kind_cmp q) ks ≡ true
any_of [] q i = absurd i
any_of (k ∷ ks) q (inl e) = ap (λ b. b || list_any (eq_by_cmp kind_cmp q) ks) (subst (λ x. eq_by_cmp kind_cmp q x ≡ true) e (itself q))
any_of (k ∷ ks) q (inr i) = or_true _ _ (any_of ks q i)

-- the view has each of its keys
pub has_listed : (v : View) (q : KeyKind) → IsOneOf (fin.keys v) q → Has v q
has_listed v q i = contains_key-keys v q ∙ any_of (fin.keys v) q i

-- each of the rest is a key of the view
abbrev pub AreKeys : View → List KeyKind → Type 0
AreKeys v rest = (q : KeyKind) → IsOneOf rest q → Has v q

pub keys_start : (v : View) (ks : List KeyKind) → ks ≡ fin.keys v → AreKeys v ks
keys_start v ks e q i = has_listed v q (subst (λ l. IsOneOf l q) e i)

pub keys_step : (v : View) (all rest : List KeyKind) (k : KeyKind) → all ≡ k ∷ rest → AreKeys v all → AreKeys v rest
keys_step v all rest k split h q i = h q (subst (λ l. IsOneOf l q) (sym split) (inr i))

pub first_key : (v : View) (all rest : List KeyKind) (k : KeyKind) → all ≡ k ∷ rest → AreKeys v all → Has v k
first_key v all rest k split h = h k (subst (λ l. IsOneOf l k) (sym split) (inl refl))

pub read_key : (r : Option (Bor KeyKind)) → key_of r ≡ option_map (λ x. x.now) r
read_key None = refl
read_key (Some x) = refl

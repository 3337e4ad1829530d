-- A view with one key aside.
use Rattle.std.proofs.Common.{◌≡◌, ◌≢◌, ◌<◌, ◌≤◌, ◌^◌, ℕ, arith, Bool, true, false, List, [], ◌∷◌, Option, Some, None, IsSome, unwrap_or, refl, sym, ap, subst, ◌∙◌, inl, inr}
use mathlib.Core.Logic.{◌⊎◌}
use Rattle.std.specs.Option.{option_map}
use Rattle.std.specs.Ordering.{eq_by_cmp}
use Rattle.std.proofs.lemmas.Cmp.{eq_by_cmp_equiv}
use Rattle.std.proofs.lemmas.Bool.{cases_Bool, cond-true, cond-false}
use Rattle.std.specs.FinMap as fin
use Rattle.std.specs.FinMap.{get-empty, get-insert, get-remove, same_map}
use Rattle.lr_origin.specs.declared.key.KeyKind.{KeyKind}
use Rattle.lr_origin.specs.declared.key.KeyKind.TheVariants.{Root, Expired, Deleted, Chunk, Manifest, Withdrawn}
use Rattle.lr_origin.specs.Kind.{kind_cmp, kind_total, kind_exact}
use Rattle.lr_origin.specs.Text.{IsKind, HasRoot}
use Rattle.lr_roots.specs.View.{View, Held, Has, Lacks, Fits}
use Rattle.lr_roots.specs.Names.{IsNamed, AreFewer}
use Rattle.lr_roots.specs.Catalog.{Seen, without, aside_of, with_key, IsWhole}
use Rattle.lr_roots.proofs.Trees.{same_key}

pub itself : (q : KeyKind) → eq_by_cmp kind_cmp q q ≡ true
itself q = (eq_by_cmp_equiv kind_total).refl q

-- a key that was removed isn't there
pub get_removed : (all : View) (key : KeyKind) → fin.get (fin.remove all key) key ≡ None
get_removed all key = get-remove kind_total all key key ∙ cond-true _ None _ (itself key)

-- another key stays
pub get_kept : (all : View) (key q : KeyKind) → q ≢ key → fin.get (fin.remove all key) q ≡ fin.get all q
get_kept all key q other = by (cases_Bool (eq_by_cmp kind_cmp q key))
  where
    by : (eq_by_cmp kind_cmp q key ≡ true) ⊎ (eq_by_cmp kind_cmp q key ≡ false) → fin.get (fin.remove all key) q ≡ fin.get all q
    by (inl e) = absurd (other (same_key q key e))
    by (inr e) = get-remove kind_total all key q ∙ cond-false _ None _ e

pub get_inserted : (all : View) (key : KeyKind) (held : Held) → fin.get (fin.insert all key held) key ≡ Some held
get_inserted all key held = get-insert kind_total all key held key ∙ cond-true _ (Some held) _ (itself key)

pub get_beside : (all : View) (key q : KeyKind) (held : Held) → q ≢ key → fin.get (fin.insert all key held) q ≡ fin.get all q
get_beside all key q held other = by (cases_Bool (eq_by_cmp kind_cmp q key))
  where
    by : (eq_by_cmp kind_cmp q key ≡ true) ⊎ (eq_by_cmp kind_cmp q key ≡ false) → fin.get (fin.insert all key held) q ≡ fin.get all q
    by (inl e) = absurd (other (same_key q key e))
    by (inr e) = get-insert kind_total all key held q ∙ cond-false _ (Some held) _ e

-- what was removed, put back
put_back : (all : View) (key : KeyKind) (held : Held) → fin.get all key ≡ Some held → fin.insert (fin.remove all key) key held ≡ all
put_back all key held there = same_map kind_total kind_exact _ _ (λ q. by q (cases_Bool (eq_by_cmp kind_cmp q key)))
  where
    by : (q : KeyKind) → (eq_by_cmp kind_cmp q key ≡ true) ⊎ (eq_by_cmp kind_cmp q key ≡ false) → fin.get (fin.insert (fin.remove all key) key held) q ≡ fin.get all q
    by q (inl e) = get-insert kind_total (fin.remove all key) key held q ∙ cond-true _ (Some held) _ e ∙ sym there ∙ ap (fin.get all) (sym (same_key q key e))
    by q (inr e) = get-insert kind_total (fin.remove all key) key held q ∙ cond-false _ (Some held) _ e ∙ get-remove kind_total all key q ∙ cond-false _ None _ e

-- the key aside goes into the view
pub taken_in : (aside : Option KeyKind) (all : View) → ((key : KeyKind) → aside ≡ Some key → Has all key) → with_key (aside_of aside all) (without aside all) ≡ all
taken_in None all there = refl
taken_in (Some key) all there = by (fin.get all key) refl
  where
    by : (o : Option Held) → fin.get all key ≡ o → with_key (option_map (λ held. (key, held)) (fin.get all key)) (fin.remove all key) ≡ all
    by None e = let h : IsSome {T = Held} None = subst IsSome e (there key refl) in cc
    by (Some held) e = ap (λ o. with_key (option_map (λ h. (key, h)) o) (fin.remove all key)) e ∙ put_back all key held e

root_of_kind : (key : KeyKind) → IsKind key → HasRoot key
root_of_kind (Root r) i = i
root_of_kind (Expired r) i = i
root_of_kind (Deleted r) i = i
root_of_kind (Chunk r name) i = i.0
root_of_kind (Manifest r image) i = i.0
root_of_kind (Withdrawn image) i = tt

pub is_none : (o : Option Held) → (IsSome o → ⊥) → o ≡ None
is_none None h = refl
is_none (Some x) h = absurd (h refl)

has_before : (all : View) (a key : KeyKind) → Has (fin.remove all a) key → Has all key
has_before all a key has = by (cases_Bool (eq_by_cmp kind_cmp key a))
  where
    by : (eq_by_cmp kind_cmp key a ≡ true) ⊎ (eq_by_cmp kind_cmp key a ≡ false) → Has all key
    by (inl e) = let h : IsSome {T = Held} None = subst IsSome (get-remove kind_total all a key ∙ cond-true _ None _ e) has in cc
    by (inr e) = subst IsSome (get-remove kind_total all a key ∙ cond-false _ None _ e) has

-- a kind outside the limits has no key
pub lacks_outside : (aside : Option KeyKind) (all : View) (key : KeyKind) → IsWhole all → (HasRoot key → ⊥) → Lacks (without aside all) key
lacks_outside None all key whole outside = is_none _ (λ has. outside (root_of_kind key (whole.kinds key has)))
lacks_outside (Some a) all key whole outside = is_none _ (λ has. outside (root_of_kind key (whole.kinds key (has_before all a key has))))

-- a key of the view is one of all keys
pub has_all : (aside : Option KeyKind) (all : View) (key : KeyKind) → Has (without aside all) key → Has all key
has_all None all key has = has
has_all (Some a) all key has = has_before all a key has

-- no root above the limit has a manifest
pub lacks_manifest : (aside : Option KeyKind) (all : View) (r : ℕ) (image : List ℕ) → IsWhole all → 1000 < r → Lacks (without aside all) (Manifest r image)
lacks_manifest aside all r image whole above = lacks_outside aside all (Manifest r image) whole (λ h. outside h)
  where
    outside : (1 ≤ r) × (r ≤ 1000) → ⊥
    outside h = let most : r ≤ 1000 = h.1 in omega (arith, above)

-- fewer keys name fewer images
pub fewer_named : (v w : View) (most : ℕ) → ((q : KeyKind) → Has v q → Has w q) → AreFewer (IsNamed w) most → AreFewer (IsNamed v) most
fewer_named v w most within few some each apart = few some (λ x i. let named : IsNamed v x = each x i in (named.0, within named.0 named.1, named.2)) apart

pub few_empty : AreFewer (IsNamed fin.empty) (2 ^ 32)
few_empty [] each apart = omega arith
few_empty (x ∷ xs) each apart =
    let named : IsNamed fin.empty x = each x (inl refl) in
    let h : IsSome {T = Held} None = subst IsSome (get-empty kind_cmp named.0) named.1 in cc

-- a key that was put makes all keys of the view and itself
pub has_any : (now v : View) (key : KeyKind) (held : Held) → fin.remove now key ≡ v → (q : KeyKind) → Has now q → Has (fin.insert v key held) q
has_any now v key held e q has = by (cases_Bool (eq_by_cmp kind_cmp q key))
  where
    by : (eq_by_cmp kind_cmp q key ≡ true) ⊎ (eq_by_cmp kind_cmp q key ≡ false) → Has (fin.insert v key held) q
    by (inl y) = subst IsSome (sym (get-insert kind_total v key held q ∙ cond-true _ (Some held) _ y)) refl
    by (inr n) = subst IsSome (sym (get-insert kind_total v key held q ∙ cond-false _ (Some held) _ n ∙ ap (λ w. fin.get w q) (sym e) ∙ get-remove kind_total now key q ∙ cond-false _ None _ n)) has

-- the names of a view with a key aside
pub few_prepared : (now v : View) (key : KeyKind) (held : Held) → fin.remove now key ≡ v → AreFewer (IsNamed (fin.insert v key held)) (2 ^ 32) → AreFewer (IsNamed now) (2 ^ 32)
few_prepared now v key held e few = fewer_named now (fin.insert v key held) (2 ^ 32) (has_any now v key held e) few

pub few_removed : (all : View) (key : KeyKind) → AreFewer (IsNamed all) (2 ^ 32) → AreFewer (IsNamed (fin.remove all key)) (2 ^ 32)
few_removed all key few = fewer_named (fin.remove all key) all (2 ^ 32) (has_before all key) few

-- what the view has at a key that isn't aside
pub get_visible : (aside : Option KeyKind) (all : View) (key : KeyKind) → aside ≢ Some key → fin.get (without aside all) key ≡ fin.get all key
get_visible None all key other = refl
get_visible (Some a) all key other = get_kept all a key (λ e. other (ap Some (sym e)))

-- and at the key aside
pub get_hidden : (aside : Option KeyKind) (all : View) (key : KeyKind) → aside ≡ Some key → fin.get (without aside all) key ≡ None
get_hidden aside all key e = ap (λ o. fin.get (without o all) key) e ∙ get_removed all key

pub whole_empty : IsWhole fin.empty
whole_empty = record {
  kinds = λ key has. let h : IsSome {T = Held} None = subst IsSome (get-empty kind_cmp key) has in cc;
  fits = λ key held e. let h : ◌≡◌ {A = Option Held} None (Some held) = sym (get-empty kind_cmp key) ∙ e in cc;
}

-- Fewer keys are still whole.
pub whole_removed : (all : View) (key : KeyKind) → IsWhole all → IsWhole (fin.remove all key)
whole_removed all key whole = record {
  kinds = λ q has. whole.kinds q (subst IsSome (there q has) has);
  fits = λ q held e. whole.fits q held (sym (there q (subst IsSome (sym e) refl)) ∙ e);
}
  where
    there : (q : KeyKind) → Has (fin.remove all key) q → fin.get (fin.remove all key) q ≡ fin.get all q
    there q has = by (cases_Bool (eq_by_cmp kind_cmp q key))
      where
        by : (eq_by_cmp kind_cmp q key ≡ true) ⊎ (eq_by_cmp kind_cmp q key ≡ false) → fin.get (fin.remove all key) q ≡ fin.get all q
        by (inl e) = let h : IsSome {T = Held} None = subst IsSome (get-remove kind_total all key q ∙ cond-true _ None _ e) has in cc
        by (inr e) = get-remove kind_total all key q ∙ cond-false _ None _ e

-- the key aside is in no view
pub hidden_gone : (aside : Option KeyKind) (all : View) (key : KeyKind) → aside ≡ Some key → fin.remove (without aside all) key ≡ without aside all
hidden_gone aside all key e = same_map kind_total kind_exact _ _ (λ q. by q (cases_Bool (eq_by_cmp kind_cmp q key)))
  where
    by : (q : KeyKind) → (eq_by_cmp kind_cmp q key ≡ true) ⊎ (eq_by_cmp kind_cmp q key ≡ false) → fin.get (fin.remove (without aside all) key) q ≡ fin.get (without aside all) q
    by q (inl same) = get-remove kind_total (without aside all) key q ∙ cond-true _ None _ same ∙ sym (get_hidden aside all q (e ∙ ap Some (sym (same_key q key same))))
    by q (inr other) = get-remove kind_total (without aside all) key q ∙ cond-false _ None _ other

removed_turns : (all : View) (a key : KeyKind) → fin.remove (fin.remove all key) a ≡ fin.remove (fin.remove all a) key
removed_turns all a key = same_map kind_total kind_exact _ _ (λ q. by q (cases_Bool (eq_by_cmp kind_cmp q key)) (cases_Bool (eq_by_cmp kind_cmp q a)))
  where
    by : (q : KeyKind) → (eq_by_cmp kind_cmp q key ≡ true) ⊎ (eq_by_cmp kind_cmp q key ≡ false) → (eq_by_cmp kind_cmp q a ≡ true) ⊎ (eq_by_cmp kind_cmp q a ≡ false) → fin.get (fin.remove (fin.remove all key) a) q ≡ fin.get (fin.remove (fin.remove all a) key) q
    by q (inl k) (inl h) = get-remove kind_total (fin.remove all key) a q ∙ cond-true _ None _ h ∙ sym (get-remove kind_total (fin.remove all a) key q ∙ cond-true _ None _ k)
    by q (inr k) (inl h) = get-remove kind_total (fin.remove all key) a q ∙ cond-true _ None _ h ∙ sym (get-remove kind_total (fin.remove all a) key q ∙ cond-false _ None _ k ∙ get-remove kind_total all a q ∙ cond-true _ None _ h)
    by q (inl k) (inr h) = get-remove kind_total (fin.remove all key) a q ∙ cond-false _ None _ h ∙ get-remove kind_total all key q ∙ cond-true _ None _ k ∙ sym (get-remove kind_total (fin.remove all a) key q ∙ cond-true _ None _ k)
    by q (inr k) (inr h) = get-remove kind_total (fin.remove all key) a q ∙ cond-false _ None _ h ∙ get-remove kind_total all key q ∙ cond-false _ None _ k ∙ sym (get-remove kind_total (fin.remove all a) key q ∙ cond-false _ None _ k ∙ get-remove kind_total all a q ∙ cond-false _ None _ h)

-- a key beside the one aside is removed
pub removed_beside : (aside : Option KeyKind) (all : View) (key : KeyKind) → aside ≢ Some key → ◌≡◌ {A = Seen} (record { view = without aside (fin.remove all key); aside = aside_of aside (fin.remove all key) }) (record { view = fin.remove (without aside all) key; aside = aside_of aside all })
removed_beside None all key other = refl
removed_beside (Some a) all key other = λ i. record {
  view = removed_turns all a key i;
  aside = option_map (λ held. (a, held)) (get_kept all key a (λ e. other (ap Some e)) i);
}

pub some_same : (x y : KeyKind) → ◌≡◌ {A = Option KeyKind} (Some x) (Some y) → x ≡ y
some_same x y e = ap (λ o. unwrap_or o x) e

-- what a test of the key aside tells
pub tested_aside : (b : Bool) (x key : KeyKind) (aside : Option KeyKind) → b ≡ eq_by_cmp kind_cmp x key → aside ≡ Some x → (b ≡ true → aside ≡ Some key) × (aside ≡ Some key → b ≡ true)
tested_aside b x key aside h e =
    (λ t. e ∙ ap Some (same_key x key (sym h ∙ t)), λ s. h ∙ ap (eq_by_cmp kind_cmp x) (sym (some_same x key (sym e ∙ s))) ∙ itself x)

-- no root is above the limit
pub lacks_above : (aside : Option KeyKind) (all : View) (r : ℕ) → IsWhole all → 1000 < r → Lacks (without aside all) (Root r)
lacks_above aside all r whole above = lacks_outside aside all (Root r) whole (λ h. outside h)
  where
    outside : (1 ≤ r) × (r ≤ 1000) → ⊥
    outside h = let most : r ≤ 1000 = h.1 in omega (arith, above)

-- and none is numbered 0
pub lacks_zero : (aside : Option KeyKind) (all : View) → IsWhole all → Lacks (without aside all) (Root 0)
lacks_zero aside all whole = lacks_outside aside all (Root 0) whole (λ h. outside h)
  where
    outside : (1 ≤ 0) × (0 ≤ 1000) → ⊥
    outside h = let least : 1 ≤ 0 = h.0 in omega (arith, least)

held_same : (x y : Held) → ◌≡◌ {A = Option Held} (Some x) (Some y) → x ≡ y
held_same x y e = ap (λ o. unwrap_or o x) e

-- One key more, of the grammar and with what fits it, is still whole.
pub whole_inserted : (all : View) (key : KeyKind) (held : Held) → IsWhole all → IsKind key → Fits key held → IsWhole (fin.insert all key held)
whole_inserted all key held whole is fits = record {
  kinds = λ q has. kind q has (cases_Bool (eq_by_cmp kind_cmp q key));
  fits = λ q h e. fit q h e (cases_Bool (eq_by_cmp kind_cmp q key));
}
  where
    beside : (q : KeyKind) → eq_by_cmp kind_cmp q key ≡ false → fin.get (fin.insert all key held) q ≡ fin.get all q
    beside q e = get-insert kind_total all key held q ∙ cond-false _ (Some held) _ e

    kind : (q : KeyKind) → Has (fin.insert all key held) q → (eq_by_cmp kind_cmp q key ≡ true) ⊎ (eq_by_cmp kind_cmp q key ≡ false) → IsKind q
    kind q has (inl e) = subst IsKind (sym (same_key q key e)) is
    kind q has (inr e) = whole.kinds q (subst IsSome (beside q e) has)

    fit : (q : KeyKind) (h : Held) → fin.get (fin.insert all key held) q ≡ Some h → (eq_by_cmp kind_cmp q key ≡ true) ⊎ (eq_by_cmp kind_cmp q key ≡ false) → Fits q h
    fit q h there (inl e) =
        let same : held ≡ h = held_same held h (sym (get-insert kind_total all key held q ∙ cond-true _ (Some held) _ e) ∙ there) in
        subst (λ x. Fits q x) same (subst (λ k. Fits k held) (sym (same_key q key e)) fits)
    fit q h there (inr e) = whole.fits q h (sym (beside q e) ∙ there)

-- a key that was put and removed
pub shadow : (all : View) (key : KeyKind) (held : Held) → fin.remove (fin.insert all key held) key ≡ fin.remove all key
shadow all key held = same_map kind_total kind_exact _ _ (λ q. by q (cases_Bool (eq_by_cmp kind_cmp q key)))
  where
    by : (q : KeyKind) → (eq_by_cmp kind_cmp q key ≡ true) ⊎ (eq_by_cmp kind_cmp q key ≡ false) → fin.get (fin.remove (fin.insert all key held) key) q ≡ fin.get (fin.remove all key) q
    by q (inl e) = get-remove kind_total (fin.insert all key held) key q ∙ cond-true _ None _ e ∙ sym (get-remove kind_total all key q ∙ cond-true _ None _ e)
    by q (inr e) = get-remove kind_total (fin.insert all key held) key q ∙ cond-false _ None _ e ∙ get-insert kind_total all key held q ∙ cond-false _ (Some held) _ e ∙ sym (get-remove kind_total all key q ∙ cond-false _ None _ e)

-- a key that isn't there is removed
pub nothing_gone : (v : View) (key : KeyKind) → Lacks v key → fin.remove v key ≡ v
nothing_gone v key lacks = same_map kind_total kind_exact _ _ (λ q. by q (cases_Bool (eq_by_cmp kind_cmp q key)))
  where
    by : (q : KeyKind) → (eq_by_cmp kind_cmp q key ≡ true) ⊎ (eq_by_cmp kind_cmp q key ≡ false) → fin.get (fin.remove v key) q ≡ fin.get v q
    by q (inl e) = get-remove kind_total v key q ∙ cond-true _ None _ e ∙ sym lacks ∙ ap (fin.get v) (sym (same_key q key e))
    by q (inr e) = get-remove kind_total v key q ∙ cond-false _ None _ e

-- What is seen with another key aside: where none was aside, where this one was, and where another was.
module _ (all : View) (key : KeyKind) (held : Held) where
  abbrev pub Prepared : View → View → Type 0
  Prepared now view = ◌≡◌ {A = Seen} (record { view = without (Some key) now; aside = aside_of (Some key) now }) (record { view = view; aside = Some (key, held) })

  aside_inserted : aside_of (Some key) (fin.insert all key held) ≡ Some (key, held)
  aside_inserted = ap (option_map (λ h. (key, h))) (get_inserted all key held)

  pub prepared_first : Lacks all key → Prepared (fin.insert all key held) all
  prepared_first lacks = λ i. record { view = (shadow all key held ∙ nothing_gone all key lacks) i; aside = aside_inserted i }

  pub prepared_again : Prepared (fin.insert all key held) (fin.remove all key)
  prepared_again = λ i. record { view = shadow all key held i; aside = aside_inserted i }

  pub prepared_other : (before : KeyKind) → before ≢ key → Lacks (fin.remove all before) key → Prepared (fin.remove (fin.insert all key held) before) (fin.remove all before)
  prepared_other before other lacks =
      let view : fin.remove (fin.remove (fin.insert all key held) before) key ≡ fin.remove all before =
      removed_turns (fin.insert all key held) key before ∙ ap (λ v. fin.remove v before) (shadow all key held) ∙ removed_turns all before key ∙ nothing_gone (fin.remove all before) key lacks in
      let aside : aside_of (Some key) (fin.remove (fin.insert all key held) before) ≡ Some (key, held) =
      ap (option_map (λ h. (key, h))) (get_kept (fin.insert all key held) before key (λ e. other (sym e)) ∙ get_inserted all key held) in
      λ i. record { view = view i; aside = aside i }

pub has_prepared : (now : View) (key : KeyKind) (aside : Option KeyKind) → aside ≡ Some key → Has now key → (q : KeyKind) → aside ≡ Some q → Has now q
has_prepared now key aside after here q e = subst (λ k. Has now k) (some_same key q (sym after ∙ e)) here

pub has_inserted : (all : View) (key : KeyKind) (held : Held) → Has (fin.insert all key held) key
has_inserted all key held = subst IsSome (sym (get_inserted all key held)) refl

pub has_kept : (all : View) (before key : KeyKind) → before ≢ key → Has all key → Has (fin.remove all before) key
has_kept all before key other here = subst IsSome (sym (get_kept all before key (λ e. other (sym e)))) here

-- a key of what is seen is one of all keys
pub has_seen : (aside : Option KeyKind) (all : View) (s : Seen) (q : KeyKind) → ◌≡◌ {A = Seen} (record { view = without aside all; aside = aside_of aside all }) s → Has s.view q → Has all q
has_seen aside all s q is has = has_all aside all q (subst (λ (t : Seen). Has t.view q) (sym is) has)

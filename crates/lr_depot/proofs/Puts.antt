-- What is known after one put, and what the store has.
use Rattle.std.proofs.Common.{◌≡◌, ◌⊎◌, true, false, cond, List, ℕ, Option, Some, None, IsSome, Result, Ok, Err, OnOk, is_err, refl, sym, ap, subst, ◌∙◌, inl, inr}
use Rattle.std.proofs.lemmas.Bool.{cases_Bool, cond-true, cond-false}
use Rattle.std.specs.FinMap as fin
use Rattle.std.specs.FinMap.{get-insert, get-remove, same_map}
use Rattle.std.specs.Ordering.{eq_by_cmp}
use Rattle.lr_origin.specs.Kind.{kind_cmp, kind_total, kind_exact}
use Rattle.lr_origin.specs.declared.key.KeyKind.{KeyKind}
use Rattle.lr_origin.specs.Objects.{Objects, Puts}
use Rattle.lr_origin.specs.declared.origin.Put.{Put}
use Rattle.lr_origin.specs.declared.origin.Put.TheVariants.{Stored, Present}
use Rattle.lr_origin.specs.declared.origin.OriginError.{OriginError}
use Rattle.lr_origin.specs.declared.origin.OriginError.TheVariants as error
use Rattle.lr_roots.specs.View.{View, Held}
use Rattle.lr_roots.specs.Catalog.{Seen, with_key}
use Rattle.lr_roots.proofs.Trees.{same_key}
use Rattle.lr_rules.specs.Known.{Known, accepted, doubting}

-- a clause on a result that isn't an error
pub ok_fact : {A E : Type 0} (r : Result A E) (P : Type 0) → false ≡ is_err r → OnOk r P → P
ok_fact (Ok x) P e h = h
ok_fact (Err x) P e h = cc

-- a key that was put in and taken out
pub taken_out : (d : View) (k : KeyKind) (x : Held) → fin.remove (fin.insert d k x) k ≡ fin.remove d k
taken_out d k x = same_map kind_total kind_exact _ _ (λ q. get-remove kind_total (fin.insert d k x) k q ∙ at q (cases_Bool (eq_by_cmp kind_cmp q k)) ∙ sym (get-remove kind_total d k q))
  where
    at : (q : KeyKind) → (eq_by_cmp kind_cmp q k ≡ true) ⊎ (eq_by_cmp kind_cmp q k ≡ false) → cond (eq_by_cmp kind_cmp q k) None (fin.get (fin.insert d k x) q) ≡ cond (eq_by_cmp kind_cmp q k) None (fin.get d q)
    at q (inl t) = cond-true _ None _ t ∙ sym (cond-true _ None _ t)
    at q (inr f) = ap (cond (eq_by_cmp kind_cmp q k) None) (get-insert kind_total d k x q ∙ cond-false _ (Some x) _ f)

taken_none : (d : View) (k : KeyKind) → fin.get d k ≡ None → fin.remove d k ≡ d
taken_none d k none = same_map kind_total kind_exact _ _ (λ q. get-remove kind_total d k q ∙ at q (cases_Bool (eq_by_cmp kind_cmp q k)))
  where
    at : (q : KeyKind) → (eq_by_cmp kind_cmp q k ≡ true) ⊎ (eq_by_cmp kind_cmp q k ≡ false) → cond (eq_by_cmp kind_cmp q k) None (fin.get d q) ≡ fin.get d q
    at q (inl t) = cond-true _ None _ t ∙ sym (ap (fin.get d) (same_key q k t) ∙ none)
    at q (inr f) = cond-false _ None _ f

put_again : (d : View) (k : KeyKind) (x : Held) → fin.get d k ≡ Some x → fin.insert d k x ≡ d
put_again d k x some = same_map kind_total kind_exact _ _ (λ q. get-insert kind_total d k x q ∙ at q (cases_Bool (eq_by_cmp kind_cmp q k)))
  where
    at : (q : KeyKind) → (eq_by_cmp kind_cmp q k ≡ true) ⊎ (eq_by_cmp kind_cmp q k ≡ false) → cond (eq_by_cmp kind_cmp q k) (Some x) (fin.get d q) ≡ fin.get d q
    at q (inl t) = cond-true _ (Some x) _ t ∙ sym (ap (fin.get d) (same_key q k t) ∙ some)
    at q (inr f) = cond-false _ (Some x) _ f

-- the one that is in doubt is what is put
pub again_same : (d : View) (k : KeyKind) (x : Held) → IsSome (fin.get d k) → ((y : Held) → fin.get d k ≡ Some y → y ≡ x) → fin.get d k ≡ Some x
again_same d k x has same = at (fin.get d k) refl has
  where
    at : (o : Option Held) → fin.get d k ≡ o → IsSome o → fin.get d k ≡ Some x
    at None e h = cc
    at (Some y) e h = e ∙ ap Some (same y e)

-- the key stands aside, and its put is noted as in doubt
module _ (old prepared : Seen) (doubts noted : View) (key : KeyKind) (held : Held) (aside : prepared ≡ record { view = old.view; aside = Some (key, held) }) (in_doubt : noted ≡ fin.insert doubts key held) where
  pub known_kept : (new : Seen) (left : View) → new ≡ record { view = with_key prepared.aside prepared.view; aside = None } → left ≡ fin.remove noted key
      → ◌≡◌ {A = Known} (record { view = new.view; doubts = left }) (accepted (record { view = old.view; doubts = doubts }) key held)
  known_kept new left is gone =
      let v : new.view ≡ fin.insert old.view key held = ap (λ (s : Seen). s.view) is ∙ ap (λ (s : Seen). with_key s.aside s.view) aside in
      let d : left ≡ fin.remove doubts key = gone ∙ ap (λ w. fin.remove w key) in_doubt ∙ taken_out doubts key held in
      λ i. record { view = v i; doubts = d i }

  pub known_spoiled : (new : Seen) (left : View) → new ≡ record { view = prepared.view; aside = None } → left ≡ fin.remove noted key → fin.get doubts key ≡ None
      → ◌≡◌ {A = Known} (record { view = new.view; doubts = left }) (record { view = old.view; doubts = doubts })
  known_spoiled new left is gone none =
      let v : new.view ≡ old.view = ap (λ (s : Seen). s.view) is ∙ ap (λ (s : Seen). s.view) aside in
      let d : left ≡ doubts = gone ∙ ap (λ w. fin.remove w key) in_doubt ∙ taken_out doubts key held ∙ taken_none doubts key none in
      λ i. record { view = v i; doubts = d i }

  pub known_again : (new : Seen) (left : View) → new ≡ record { view = prepared.view; aside = None } → left ≡ noted → fin.get doubts key ≡ Some held
      → ◌≡◌ {A = Known} (record { view = new.view; doubts = left }) (record { view = old.view; doubts = doubts })
  known_again new left is same some =
      let v : new.view ≡ old.view = ap (λ (s : Seen). s.view) is ∙ ap (λ (s : Seen). s.view) aside in
      let d : left ≡ doubts = same ∙ in_doubt ∙ put_again doubts key held some in
      λ i. record { view = v i; doubts = d i }

  pub known_doubted : (new : Seen) → new ≡ record { view = prepared.view; aside = None }
      → ◌≡◌ {A = Known} (record { view = new.view; doubts = noted }) (doubting (record { view = old.view; doubts = doubts }) key held)
  known_doubted new is =
      let v : new.view ≡ old.view = ap (λ (s : Seen). s.view) is ∙ ap (λ (s : Seen). s.view) aside in
      λ i. record { view = v i; doubts = in_doubt i }

module _ (key text body : List ℕ) (m : Objects) (n : Option Objects) (same : key ≡ text) where
  pub store_stored : (put : Put) → put ≡ Stored → Puts key body (Ok put) m n → (fin.get m text ≡ None) × (n ≡ Some (fin.insert m text body))
  store_stored Stored e h = subst (λ k. (fin.get m k ≡ None) × (n ≡ Some (fin.insert m k body))) same h
  store_stored Present e h = cc

  pub store_present : (put : Put) → put ≡ Present → Puts key body (Ok put) m n → IsSome (fin.get m text) × (n ≡ Some m)
  store_present Present e h = subst (λ k. IsSome (fin.get m k) × (n ≡ Some m)) same h
  store_present Stored e h = cc

  pub store_failed : (why : OriginError) → why ≡ error.Failed → Puts key body (Err why) m n → (n ≡ Some m) ⊎ ((fin.get m text ≡ None) × (n ≡ Some (fin.insert m text body)))
  store_failed error.Failed e h = subst (λ k. (n ≡ Some m) ⊎ ((fin.get m k ≡ None) × (n ≡ Some (fin.insert m k body)))) same h
  store_failed error.OutOfMemory e h = cc

  pub store_same : (why : OriginError) → why ≡ error.OutOfMemory → Puts key body (Err why) m n → n ≡ Some m
  store_same error.OutOfMemory e h = h
  store_same error.Failed e h = cc

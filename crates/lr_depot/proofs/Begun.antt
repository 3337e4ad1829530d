-- Sessions by their callers and images.
use Rattle.std.proofs.Common.{◌≡◌, ◌==◌, ℕ, List, Option, Some, None, Bool, true, false, cond, not, sym, ◌∙◌, ap, refl, inl, inr}
use mathlib.Core.Logic.{◌⊎◌}
use Rattle.std.proofs.lemmas.Bool.{cases_Bool, cond-true, cond-false, eq-eqb, eqb-true}
use Rattle.std.specs.FinMap as fin
use Rattle.std.specs.FinMap.{FinMap, same_map, nat_cmp-IsAntisymmetric}
use Rattle.std.specs.Ordering.{nat_cmp, eq_by_cmp}
use Rattle.std.specs.Cmp.{nat_cmp_total}
use Rattle.lr_rules.specs.State.{Session, Job, Creates as Creation, Moves}
use Rattle.lr_depot.specs.Sessions.{IsCreation, HasCreation, is_another, without_caller}
use Rattle.lr_depot.proofs.Numbers.{same_number, get_retained, retained_all, removed_at, removed_beside}

pub creates : (m : FinMap nat_cmp Session) (image : List ℕ) (n : ℕ) (s : Session) → fin.get m n ≡ Some s → IsCreation image s → HasCreation m image
creates m image n s is h = (n, h.0, h.1, h.2, is ∙ ap Some h.3)

pub created : (m : FinMap nat_cmp Session) (image : List ℕ) → HasCreation m image → (n : ℕ) × (s : Session) × (fin.get m n ≡ Some s) × IsCreation image s
created m image h = (h.0, record { caller = h.1; job = Creation image h.2 h.3 }, h.4, (h.1, h.2, h.3, λ i. record { caller = h.1; job = Creation image h.2 h.3 }))

-- the image of a job that creates one
image_in : List ℕ → Job → List ℕ
image_in other (Creation image r d) = image
image_in other (Moves image from to m) = other

pub same_image : (s : Session) (c r d : ℕ) (own image : List ℕ) → record { caller = c; job = Creation own r d } ≡ s → IsCreation image s → own ≡ image
unfolding image_in
same_image s c r d own image view h = ap (λ (t : Session). image_in own t.job) (view ∙ h.3)

another : (caller : ℕ) (o : Option Session) (s : Session) → o ≡ Some s → s.caller ≡ caller → is_another caller o ≡ false
another caller o s e same = ap (is_another caller) e ∙ ap not (eq-eqb s.caller caller same)

-- a session of the caller that is taken out isn't one of the others
pub without_removed : (caller : ℕ) (m : FinMap nat_cmp Session) (n : ℕ) (s : Session) → fin.get m n ≡ Some s → s.caller ≡ caller → without_caller caller (fin.remove m n) ≡ without_caller caller m
without_removed caller m n s is same =
    same_map nat_cmp_total nat_cmp-IsAntisymmetric _ _ (λ q. get_retained (fin.remove m n) (λ k. is_another caller (fin.get (fin.remove m n) k)) q ∙ at q (cases_Bool (eq_by_cmp nat_cmp q n)) ∙ sym (get_retained m (λ k. is_another caller (fin.get m k)) q))
  where
    at : (q : ℕ) → (eq_by_cmp nat_cmp q n ≡ true) ⊎ (eq_by_cmp nat_cmp q n ≡ false) → cond (is_another caller (fin.get (fin.remove m n) q)) (fin.get (fin.remove m n) q) None ≡ cond (is_another caller (fin.get m q)) (fin.get m q) None
    at q (inl t) =
        let e : q ≡ n = same_number q n t in
        let left : fin.get (fin.remove m n) q ≡ None = removed_at m n q (sym e) in
        let out : is_another caller (fin.get m q) ≡ false = another caller (fin.get m q) s (ap (fin.get m) e ∙ is) same in
        ap (λ o. cond (is_another caller o) o None) left ∙ sym (cond-false _ (fin.get m q) None out)
    at q (inr f) = ap (λ o. cond (is_another caller o) o None) (removed_beside m n q f)

-- where no session is the caller's, all are the others'
pub without_none : (caller : ℕ) (m : FinMap nat_cmp Session) → ((n : ℕ) (s : Session) → fin.get m n ≡ Some s → s.caller ≡ caller → ⊥) → without_caller caller m ≡ m
without_none caller m none = retained_all m (λ k. is_another caller (fin.get m k)) (λ n out. at n (fin.get m n) refl out)
  where
    was : (b : Bool) → not b ≡ false → b ≡ true
    was true e = refl
    was false e = sym e

    at : (n : ℕ) (o : Option Session) → fin.get m n ≡ o → is_another caller (fin.get m n) ≡ false → fin.get m n ≡ None
    at n None e out = e
    at n (Some s) e out = absurd (none n s e (eqb-true s.caller caller (was (s.caller == caller) (sym (ap (is_another caller) e) ∙ out))))

-- the sessions of the map whose images pass are the create sessions
pub creation_of : (m : FinMap nat_cmp Session) (image : List ℕ) → ((e : ℕ × Session) × (fin.get m e.0 ≡ Some e.1) × IsCreation image e.1) → HasCreation m image
creation_of m image h = creates m image h.0.0 h.0.1 h.1 h.2

pub of_creation : (m : FinMap nat_cmp Session) (image : List ℕ) → HasCreation m image → ((e : ℕ × Session) × (fin.get m e.0 ≡ Some e.1) × IsCreation image e.1)
of_creation m image h = let s = created m image h in ((s.0, s.1), s.2, s.3)

-- a session of another caller is one of the others
pub other_kept : (caller : ℕ) (m : FinMap nat_cmp Session) (n : ℕ) (s : Session) → fin.get m n ≡ Some s → (s.caller ≡ caller → ⊥) → fin.get (without_caller caller m) n ≡ Some s
other_kept caller m n s is other = get_retained m (λ k. is_another caller (fin.get m k)) n ∙ cond-true _ (fin.get m n) None (ap (is_another caller) is ∙ ap not (by (cases_Bool (s.caller == caller)))) ∙ is
  where
    by : (s.caller == caller ≡ true) ⊎ (s.caller == caller ≡ false) → s.caller == caller ≡ false
    by (inl t) = absurd (other (eqb-true s.caller caller t))
    by (inr f) = f

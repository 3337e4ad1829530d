-- What each answer to a put or a deletion makes of the ways in which the doubts can come out.
use Rattle.std.proofs.Common.{◌≡◌, ◌≢◌, Option, Some, None, IsSome, refl, sym, ap, subst, ◌∙◌, inl, inr}
use mathlib.Core.Logic.{◌⊎◌}
use Rattle.std.specs.FinMap as fin
use Rattle.lr_origin.specs.Kind.{kind_total, kind_exact}
use Rattle.lr_origin.specs.declared.key.KeyKind.{KeyKind}
use Rattle.lr_roots.specs.View.{View, Held, Lacks}
use Rattle.lr_rules.specs.Known.{Known, Settles, Always, Agrees, accepted, doubting, removed, dismissed}
use Rattle.lr_rules.proofs.Keys.{cases_key, at_key, at_other, gone_key, gone_other, put_back}

pub is_none : {X : Type 0} (o : Option X) → (IsSome o → ⊥) → o ≡ None
is_none None h = refl
is_none (Some x) h = absurd (h refl)

pub not_both : {X : Type 0} (o : Option X) (x : X) → o ≡ None → o ≡ Some x → ⊥
not_both o x e f = cc

pub is_some : {X : Type 0} (o : Option X) (x : X) → o ≡ Some x → IsSome o
is_some o x e = subst IsSome (sym e) refl

-- the view itself is one way out
pub view_settles : (s : Known) → Agrees s → Settles s s.view
view_settles s agrees = record {
  known = λ k none. refl;
  doubted = λ k x some. elim (agrees k x some) [ inl e ↦ inl e | inr p ↦ inr p.0 ];
}

-- Where a put is in doubt, each way out with it is a way out.
pub with_settles : (s : Known) (v : View) (k : KeyKind) (x : Held) → fin.get s.doubts k ≡ Some x → Settles s v → Settles s (fin.insert v k x)
with_settles s v k x here t = record {
  known = λ q none. at_other v k x q (λ e. not_both _ x (sym (ap (fin.get s.doubts) e) ∙ none) here) ∙ t.known q none;
  doubted = λ q y some. by q y some (cases_key q k);
}
  where
    by : (q : KeyKind) (y : Held) → fin.get s.doubts q ≡ Some y → (q ≡ k) ⊎ (q ≢ k) → (fin.get (fin.insert v k x) q ≡ None) ⊎ (fin.get (fin.insert v k x) q ≡ Some y)
    by q y some (inl e) = inr (ap (fin.get (fin.insert v k x)) e ∙ at_key v k x ∙ sym here ∙ ap (fin.get s.doubts) (sym e) ∙ some)
    by q y some (inr ne) = elim (t.doubted q y some) [ inl n ↦ inl (at_other v k x q ne ∙ n) | inr p ↦ inr (at_other v k x q ne ∙ p) ]

-- the view with one put that is in doubt
pub one_settles : (s : Known) (k : KeyKind) (x : Held) → Agrees s → fin.get s.doubts k ≡ Some x → Settles s (fin.insert s.view k x)
one_settles s k x agrees here = with_settles s s.view k x here (view_settles s agrees)

-- Two states that agree on all keys but one
module _ (s t : Known) (k : KeyKind) (v w : View)
    (same_doubts : (q : KeyKind) → q ≢ k → fin.get t.doubts q ≡ fin.get s.doubts q)
    (same_view : (q : KeyKind) → q ≢ k → fin.get t.view q ≡ fin.get s.view q)
    (same : (q : KeyKind) → q ≢ k → fin.get w q ≡ fin.get v q)
    (known : fin.get s.doubts k ≡ None → fin.get w k ≡ fin.get s.view k)
    (doubted : (x : Held) → fin.get s.doubts k ≡ Some x → (fin.get w k ≡ None) ⊎ (fin.get w k ≡ Some x))
    (h : Settles t v) where
  pub settles_but : Settles s w
  settles_but = record { known = λ q none. by_known q none (cases_key q k); doubted = λ q y some. by_doubted q y some (cases_key q k) }
    where
      by_known : (q : KeyKind) → fin.get s.doubts q ≡ None → (q ≡ k) ⊎ (q ≢ k) → fin.get w q ≡ fin.get s.view q
      by_known q none (inl e) = subst (λ l. fin.get w l ≡ fin.get s.view l) (sym e) (known (ap (fin.get s.doubts) (sym e) ∙ none))
      by_known q none (inr ne) = same q ne ∙ h.known q (same_doubts q ne ∙ none) ∙ same_view q ne

      by_doubted : (q : KeyKind) (y : Held) → fin.get s.doubts q ≡ Some y → (q ≡ k) ⊎ (q ≢ k) → (fin.get w q ≡ None) ⊎ (fin.get w q ≡ Some y)
      by_doubted q y some (inl e) = subst (λ l. (fin.get w l ≡ None) ⊎ (fin.get w l ≡ Some y)) (sym e) (doubted y (ap (fin.get s.doubts) (sym e) ∙ some))
      by_doubted q y some (inr ne) = elim (h.doubted q y (same_doubts q ne ∙ some)) [ inl n ↦ inl (same q ne ∙ n) | inr p ↦ inr (same q ne ∙ p) ]

-- A put of a key that is neither known nor in doubt
module _ (s : Known) (k : KeyKind) (x : Held) (absent : Lacks s.view k) (sure : fin.get s.doubts k ≡ None) where
  before : (t : Known) (v : View) → ((q : KeyKind) → q ≢ k → fin.get t.doubts q ≡ fin.get s.doubts q) → ((q : KeyKind) → q ≢ k → fin.get t.view q ≡ fin.get s.view q) → Settles t v → Settles s (fin.remove v k)
  before t v ds vs h = settles_but s t k v (fin.remove v k) ds vs (gone_other v k) (λ none. gone_key v k ∙ sym absent) (λ y some. absurd (not_both _ y sure some)) h

  pub put_accepted : (P Q : View → Type 0) → Always s P → ((v : View) → Settles s v → P v → Q (fin.insert v k x)) → Always (accepted s k x) Q
  put_accepted P Q all step v h =
      let old : Settles s (fin.remove v k) = before (accepted s k x) v (gone_other s.doubts k) (at_other s.view k x) h in
      subst Q (sym (put_back v k x (h.known k (gone_key s.doubts k) ∙ at_key s.view k x))) (step (fin.remove v k) old (all _ old))

  pub put_doubting : (P Q : View → Type 0) → Always s P → ((v : View) → Settles s v → P v → Q v) → ((v : View) → Settles s v → P v → Q (fin.insert v k x)) → Always (doubting s k x) Q
  put_doubting P Q all same step v h = by (h.doubted k x (at_key s.doubts k x))
    where
      by : (fin.get v k ≡ None) ⊎ (fin.get v k ≡ Some x) → Q v
      by (inr here) =
          let old : Settles s (fin.remove v k) = before (doubting s k x) v (at_other s.doubts k x) (λ q ne. refl) h in
          subst Q (sym (put_back v k x here)) (step (fin.remove v k) old (all _ old))
      by (inl away) =
          let old : Settles s v = settles_but s (doubting s k x) k v v (at_other s.doubts k x) (λ q ne. refl) (λ q ne. refl) (λ none. away ∙ sym absent) (λ y some. absurd (not_both _ y sure some)) h in
          same v old (all v old)

-- A put of a key whose put is in doubt, tried again or settled: there are fewer ways out
module _ (s : Known) (k : KeyKind) (x : Held) (here : fin.get s.doubts k ≡ Some x) where
  pub again_accepted : (P : View → Type 0) → Always s P → Always (accepted s k x) P
  again_accepted P all v h = all v (settles_but s (accepted s k x) k v v (gone_other s.doubts k) (at_other s.view k x) (λ q ne. refl)
      (λ none. absurd (not_both _ x none here))
      (λ y some. inr (h.known k (gone_key s.doubts k) ∙ at_key s.view k x ∙ sym here ∙ some)) h)

  pub settled_absent : (P : View → Type 0) → Lacks s.view k → Always s P → Always (dismissed s k) P
  settled_absent P away all v h = all v (settles_but s (dismissed s k) k v v (gone_other s.doubts k) (λ q ne. refl) (λ q ne. refl)
      (λ none. absurd (not_both _ x none here))
      (λ y some. inl (h.known k (gone_key s.doubts k) ∙ away)) h)

-- A deletion of a key that the view has
module _ (s : Known) (k : KeyKind) (x : Held) (here : fin.get s.view k ≡ Some x) (agrees : Agrees s) where
  known_so : fin.get s.doubts k ≡ None ⊎ (fin.get s.doubts k ≡ Some x)
  known_so = by (fin.get s.doubts k) refl
    where
      by : (o : Option Held) → fin.get s.doubts k ≡ o → fin.get s.doubts k ≡ None ⊎ (fin.get s.doubts k ≡ Some x)
      by None e = inl e
      by (Some y) e = elim (agrees k y e) [ inl away ↦ absurd (not_both _ x away here) | inr p ↦ inr (e ∙ sym p.0 ∙ here) ]

  -- the way out in which it is still there
  with_it : (t : Known) (v : View) → ((q : KeyKind) → q ≢ k → fin.get t.doubts q ≡ fin.get s.doubts q) → ((q : KeyKind) → q ≢ k → fin.get t.view q ≡ fin.get s.view q) → Settles t v → Settles s (fin.insert v k x)
  with_it t v ds vs h = settles_but s t k v (fin.insert v k x) ds vs (at_other v k x) (λ none. at_key v k x ∙ sym here)
      (λ y some. inr (at_key v k x ∙ elim known_so [ inl none ↦ absurd (not_both _ y none some) | inr e ↦ sym e ∙ some ])) h

  pub deleted_away : (P : View → Type 0) → Always s P → ((v : View) → Settles s v → P v → P (fin.remove v k)) → Always (removed s k) P
  deleted_away P all step v h =
      let old : Settles s (fin.insert v k x) = with_it (removed s k) v (gone_other s.doubts k) (gone_other s.view k) h in
      subst P (away v (h.known k (gone_key s.doubts k) ∙ gone_key s.view k)) (step _ old (all _ old))
    where
      away : (v : View) → fin.get v k ≡ None → fin.remove (fin.insert v k x) k ≡ v
      away v none = fin.same_map kind_total kind_exact _ _ (λ q. by q (cases_key q k))
        where
          by : (q : KeyKind) → (q ≡ k) ⊎ (q ≢ k) → fin.get (fin.remove (fin.insert v k x) k) q ≡ fin.get v q
          by q (inl e) = subst (λ l. fin.get (fin.remove (fin.insert v k x) k) l ≡ fin.get v l) (sym e) (gone_key _ k ∙ sym none)
          by q (inr ne) = gone_other _ k q ne ∙ at_other v k x q ne

  pub deleted_doubting : (P : View → Type 0) → Always s P → ((v : View) → Settles s v → P v → P (fin.remove v k)) → Always (doubting s k x) P
  deleted_doubting P all step v h = by (h.doubted k x (at_key s.doubts k x))
    where
      old : Settles s (fin.insert v k x)
      old = with_it (doubting s k x) v (at_other s.doubts k x) (λ q ne. refl) h

      same : fin.get v k ≡ Some x → fin.insert v k x ≡ v
      same e = fin.same_map kind_total kind_exact _ _ (λ q. go q (cases_key q k))
        where
          go : (q : KeyKind) → (q ≡ k) ⊎ (q ≢ k) → fin.get (fin.insert v k x) q ≡ fin.get v q
          go q (inl f) = subst (λ l. fin.get (fin.insert v k x) l ≡ fin.get v l) (sym f) (at_key v k x ∙ sym e)
          go q (inr ne) = at_other v k x q ne

      gone : fin.get v k ≡ None → fin.remove (fin.insert v k x) k ≡ v
      gone none = fin.same_map kind_total kind_exact _ _ (λ q. go q (cases_key q k))
        where
          go : (q : KeyKind) → (q ≡ k) ⊎ (q ≢ k) → fin.get (fin.remove (fin.insert v k x) k) q ≡ fin.get v q
          go q (inl e) = subst (λ l. fin.get (fin.remove (fin.insert v k x) k) l ≡ fin.get v l) (sym e) (gone_key _ k ∙ sym none)
          go q (inr ne) = gone_other _ k q ne ∙ at_other v k x q ne

      by : (fin.get v k ≡ None) ⊎ (fin.get v k ≡ Some x) → P v
      by (inl none) = subst P (gone none) (step _ old (all _ old))
      by (inr some) = subst P (same some) (all _ old)

-- Images beside those that the view names, and their count.
use Rattle.std.proofs.Common.{◌≡◌, ◌+◌, ◌++◌, ℕ, List, [], ◌∷◌, length, refl, sym, ap, subst, ◌∙◌, inl, inr, length-append}
use mathlib.Core.Logic.{◌⊎◌}
use Rattle.std.specs.FinMap.{FinMap}
use Rattle.std.specs.Ordering.{nat_cmp}
use Rattle.lr_origin.specs.declared.key.KeyKind.TheVariants.{Root, Expired, Deleted, Chunk, Manifest, Withdrawn}
use Rattle.lr_roots.specs.View.{View, Has}
use Rattle.lr_roots.specs.Names.{IsOneOf, AreApart, AreMany, IsNamed}
use Rattle.lr_rules.specs.State.{State, Session}
use Rattle.lr_rules.specs.Names.{IsImage}
use Rattle.lr_depot.specs.Sessions.{HasCreation}
use Rattle.lr_depot.specs.Others.{IsDoubted, AddsOthers}
use Rattle.lr_depot.proofs.Counted.{one_left, one_right, one_either, apart_joined}

pub adds_like : (v : View) (P Q : List ℕ → Type 0) (old new : List (List ℕ)) → ((i : List ℕ) → P i → Q i) → ((i : List ℕ) → Q i → P i) → AddsOthers v P old new → AddsOthers v Q old new
adds_like v P Q old new to from h = record {
  apart = h.apart;
  kept = h.kept;
  each = λ i one. by i (h.each i one);
  all = λ i q. h.all i (from i q);
}
  where
    by : (i : List ℕ) → IsOneOf old i ⊎ (P i × ¬ (IsNamed v i)) → IsOneOf old i ⊎ (Q i × ¬ (IsNamed v i))
    by i (inl o) = inl o
    by i (inr p) = inr (to i p.0, p.1)

-- an image that is named, or stands there already
pub adds_none : (v : View) (P : List ℕ → Type 0) (old new : List (List ℕ)) → new ≡ old → ((i : List ℕ) → P i → IsNamed v i ⊎ IsOneOf old i) → AddsOthers v P old new
adds_none v P old new e there = subst (AddsOthers v P old) (sym e) (record { apart = λ a. a; kept = λ i o. o; each = λ i o. inl o; all = there })

pub adds_one : (v : View) (image : List ℕ) (old new : List (List ℕ)) → new ≡ old ++ image ∷ [] → (IsNamed v image → ⊥) → (IsOneOf old image → ⊥) → AddsOthers v (λ i. i ≡ image) old new
adds_one v image old new e lacks not = subst (AddsOthers v (λ i. i ≡ image) old) (sym e) (record {
  apart = λ a. apart_joined old (image ∷ []) a (λ i. i, tt) (λ x i j. shared x i j);
  kept = λ i o. one_left old (image ∷ []) i o;
  each = λ i o. each i (one_either old (image ∷ []) i o);
  all = λ i is. inr (one_right old (image ∷ []) i (inl is));
})
  where
    shared : (x : List ℕ) → IsOneOf old x → IsOneOf (image ∷ []) x → ⊥
    shared x i (inl same) = not (subst (IsOneOf old) same i)
    shared x i (inr j) = j

    each : (i : List ℕ) → IsOneOf old i ⊎ IsOneOf (image ∷ []) i → IsOneOf old i ⊎ ((i ≡ image) × ¬ (IsNamed v i))
    each i (inl o) = inl o
    each i (inr (inl same)) = inr (same, λ named. lacks (subst (IsNamed v) same named))
    each i (inr (inr j)) = absurd j

module _ {X : Type 0} (v : View) (H : X → Type 0) (M : List ℕ → X → Type 0) where
  -- the images of all that stand in no rest were added
  pub record AreAdded (old new : List (List ℕ)) (rest : List X) : Type 0 where
    pub apart : AreApart old → AreApart new
    pub kept : (i : List ℕ) → IsOneOf old i → IsOneOf new i
    pub each : (i : List ℕ) → IsOneOf new i → IsOneOf old i ⊎ (((x : X) × H x × M i x) × ¬ (IsNamed v i))
    pub all : (i : List ℕ) (x : X) → H x → M i x → (IsNamed v i ⊎ IsOneOf new i) ⊎ IsOneOf rest x
    pub had : (x : X) → IsOneOf rest x → H x

  pub added_start : (old : List (List ℕ)) (xs : List X) → ((x : X) → H x → IsOneOf xs x) → ((x : X) → IsOneOf xs x → H x) → AreAdded old old xs
  added_start old xs to from = record {
    apart = λ a. a;
    kept = λ i o. o;
    each = λ i o. inl o;
    all = λ i x h m. inr (to x h);
    had = from;
  }

  pub added_step : (old mid new : List (List ℕ)) (xs rest : List X) (x : X) → xs ≡ x ∷ rest → AddsOthers v (λ i. M i x) mid new → AreAdded old mid xs → AreAdded old new rest
  added_step old mid new xs rest x split adds h = record {
    apart = λ a. adds.apart (h.apart a);
    kept = λ i o. adds.kept i (h.kept i o);
    each = λ i o. each i (adds.each i o);
    all = λ i y hy m. all i y m (h.all i y hy m);
    had = λ y i. h.had y (subst (λ l. IsOneOf l y) (sym split) (inr i));
  }
    where
      here : H x
      here = h.had x (subst (λ l. IsOneOf l x) (sym split) (inl refl))

      each : (i : List ℕ) → IsOneOf mid i ⊎ (M i x × ¬ (IsNamed v i)) → IsOneOf old i ⊎ (((y : X) × H y × M i y) × ¬ (IsNamed v i))
      each i (inl o) = h.each i o
      each i (inr p) = inr ((x, here, p.0), p.1)

      still : (i : List ℕ) → IsNamed v i ⊎ IsOneOf mid i → IsNamed v i ⊎ IsOneOf new i
      still i (inl named) = inl named
      still i (inr o) = inr (adds.kept i o)

      next : (i : List ℕ) (y : X) → M i y → IsOneOf (x ∷ rest) y → (IsNamed v i ⊎ IsOneOf new i) ⊎ IsOneOf rest y
      next i y m (inl same) = inl (adds.all i (subst (M i) same m))
      next i y m (inr o) = inr o

      all : (i : List ℕ) (y : X) → M i y → (IsNamed v i ⊎ IsOneOf mid i) ⊎ IsOneOf xs y → (IsNamed v i ⊎ IsOneOf new i) ⊎ IsOneOf rest y
      all i y m (inl done) = inl (still i done)
      all i y m (inr o) = next i y m (subst (λ l. IsOneOf l y) split o)

  pub added_end : (old new : List (List ℕ)) (rest : List X) → rest ≡ [] → AreAdded old new rest → AddsOthers v (λ i. (x : X) × H x × M i x) old new
  added_end old new rest e h = record {
    apart = h.apart;
    kept = h.kept;
    each = h.each;
    all = λ i p. by i p.0 (h.all i p.0 p.1 p.2);
  }
    where
      by : (i : List ℕ) (x : X) → (IsNamed v i ⊎ IsOneOf new i) ⊎ IsOneOf rest x → IsNamed v i ⊎ IsOneOf new i
      by i x (inl done) = done
      by i x (inr o) = absurd (subst (λ l. IsOneOf l x) e o)

doubted : (doubts : View) (i : List ℕ) → IsDoubted doubts i → (r : ℕ) × Has doubts (Manifest r i)
doubted doubts i (Manifest r image, has, same) = (r, subst (λ n. Has doubts (Manifest r n)) same has)
doubted doubts i (Root r, has, none) = absurd none
doubted doubts i (Expired r, has, none) = absurd none
doubted doubts i (Deleted r, has, none) = absurd none
doubted doubts i (Chunk r n, has, none) = absurd none
doubted doubts i (Withdrawn n, has, none) = absurd none

module _ (v doubts : View) (sessions : FinMap nat_cmp Session) (n : ℕ) (a b : List (List ℕ)) (many : AreMany (IsNamed v) n) (first : AddsOthers v (HasCreation sessions) [] a) (second : AddsOthers v (IsDoubted doubts) a b) where
  begun_of : (i : List ℕ) → IsOneOf a i → HasCreation sessions i × ¬ (IsNamed v i)
  begun_of i o = by (first.each i o)
    where
      by : IsOneOf [] i ⊎ (HasCreation sessions i × ¬ (IsNamed v i)) → HasCreation sessions i × ¬ (IsNamed v i)
      by (inl none) = absurd none
      by (inr p) = p

  other_of : (i : List ℕ) → IsOneOf b i → (IsDoubted doubts i ⊎ HasCreation sessions i) × ¬ (IsNamed v i)
  other_of i o = by (second.each i o)
    where
      by : IsOneOf a i ⊎ (IsDoubted doubts i × ¬ (IsNamed v i)) → (IsDoubted doubts i ⊎ HasCreation sessions i) × ¬ (IsNamed v i)
      by (inl o) = (inr (begun_of i o).0, (begun_of i o).1)
      by (inr p) = (inl p.0, p.1)

  pub count_images : (s : State) → s.known.view ≡ v → s.known.doubts ≡ doubts → s.desk.sessions ≡ sessions → AreMany (IsImage s) (n + length b)
  count_images s view in_doubt begun = record {
    each = many.each ++ b;
    just = λ i. (λ o. into i (one_either many.each b i o), back i);
    apart = apart_joined many.each b many.apart (second.apart (first.apart tt)) (λ i x y. (other_of i y).1 ((many.just i).0 x));
    long = length-append many.each b ∙ ap (λ k. k + length b) many.long;
  }
    where
      unsure : (i : List ℕ) → IsDoubted doubts i ⊎ HasCreation sessions i → IsImage s i
      unsure i (inl d) = let h = doubted doubts i d in inr (inl (h.0, subst (λ w. Has w (Manifest h.0 i)) (sym in_doubt) h.1))
      unsure i (inr c) = inr (inr (subst (λ m. HasCreation m i) (sym begun) c))

      into : (i : List ℕ) → IsOneOf many.each i ⊎ IsOneOf b i → IsImage s i
      into i (inl o) = inl (subst (λ w. IsNamed w i) (sym view) ((many.just i).0 o))
      into i (inr o) = unsure i (other_of i o).0

      named : (i : List ℕ) → IsNamed v i ⊎ IsOneOf b i → IsOneOf (many.each ++ b) i
      named i (inl h) = one_left many.each b i ((many.just i).1 h)
      named i (inr o) = one_right many.each b i o

      kept : (i : List ℕ) → IsNamed v i ⊎ IsOneOf a i → IsNamed v i ⊎ IsOneOf b i
      kept i (inl h) = inl h
      kept i (inr o) = inr (second.kept i o)

      back : (i : List ℕ) → IsImage s i → IsOneOf (many.each ++ b) i
      back i (inl h) = named i (inl (subst (λ w. IsNamed w i) view h))
      back i (inr (inl u)) = named i (second.all i (Manifest u.0 i, subst (λ w. Has w (Manifest u.0 i)) in_doubt u.1, refl))
      back i (inr (inr c)) = named i (kept i (first.all i (subst (λ m. HasCreation m i) begun c)))

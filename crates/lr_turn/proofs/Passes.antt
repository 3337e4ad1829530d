-- Splitting a pass and joining one keep the rule.
use Rattle.std.proofs.Common.{◌≡◌, ◌≢◌, ℕ, ◌<◌, ◌≤◌, List, [], ◌∷◌, ◌++◌, length, set, map, sym, refl, ap, ◌∙◌, subst, ⊎_elim, inl, inr, arith, false, length-set}
use Rattle.std.proofs.lemmas.List.{map-append}
use Rattle.std.specs.Prelude.{All, Contains}
use Rattle.std.proofs.lemmas.Bool.{false≢true}
use Rattle.std.proofs.lemmas.List.Elements.{All-push, All-cons, All-map, All-weaker, Contains-append_left, Contains-push}
use mathlib.Core.Logic.{dite}
use mathlib.Core.Option.{none, some, some-injective, some-ne-none}
use mathlib.Core.Option as maybe
use mathlib.Core.List.{IsPrefix}
use native.Mathlib.Decide.{ℕ_discrete}
use lib.ListN.{get_elem?}
use Rattle.atomic_table.specs.Table.{State, Splits, Joins}
use Rattle.atomic_table.proofs.Lists.{set_else, at_longer}
use Rattle.lr_object.specs.declared.entry.Entry.{Entry}
use Rattle.lr_object.specs.Own.{own_entries}
use Rattle.lr_turn.specs.declared.view.View.{View}
use Rattle.lr_turn.specs.declared.view.Own.{Own}
use Rattle.lr_turn.specs.Views.{giving, newcomer, joining, own_of, lists_of, spent_view}
use Rattle.lr_turn.specs.Kept.{Past, counted, IsGiven, Ended, Knows, Kept}
use Rattle.lr_turn.specs.Called.{numbers}
use Rattle.lr_turn.proofs.Lists.{Apart, apart_more, at_snoc_at, longer_is, put, put_here, put_else, put_none, put_some}
use Rattle.lr_turn.proofs.Rules.{each_set, each_but, busy_set}

-- a number that was given out stays so
given_more : (given : List ℕ) (n m : ℕ) → IsGiven given m → IsGiven (given ++ n ∷ []) m
given_more given n m h = ⊎_elim (λ z. inl z) (λ g. inr (Contains-append_left given (n ∷ []) m g)) h

module _ {S C R F Call Reply : Type 0} (log : S → List (Entry C R)) (fixed : S → F) (shares : C → Type 0)
    (answers : F → List (Entry C R) → ℕ → Call → Reply → Type 0) (enters : F → List (Entry C R) → ℕ → Call → Reply → Entry C R → Type 0) (f0 : F) (l0 : List (Entry C R)) where
  abbrev Rule : State S (View C R F) → Type 0
  Rule = Kept log fixed shares answers enters f0 l0

  pub does_split : (id n : ℕ) (v : View C R F) → v.spent ≡ false → v.number ≡ 0 → v.top < n → Splits Rule id v (giving n v) (newcomer n v)
  does_split id n v live zeroth above s r at =
      let k = r.each id v at live in
      let w = giving n v in
      let u = newcomer n v in
      let j = length s.views in
      let vs = set s.views id w in
      let size : length vs ≡ j = length-set s.views id w in
      let top_is = k.top_is zeroth in
      let beyond : r.past.top < n = subst (λ (m : ℕ). m < n) top_is.0 above in
      let seat : ℕ → maybe.Option ℕ = put r.past.seat n (some j) in
      let p : Past C R F = record r.past { seat = seat; top = n; given = r.past.given ++ n ∷ [] } in
      let stays : (m : ℕ) → m ≤ r.past.top → seat m ≡ r.past.seat m = λ m le. put_else r.past.seat n (some j) m (λ e. omega (arith, beyond, le, e)) in
      let ended : (o : Own C R) → Ended r.past.seat r.past.start r.past.since r.past.top o → Ended seat r.past.start r.past.since n o = λ o d. record {
        seat_is = stays o.number d.below ∙ d.seat_is;
        below = omega (arith, d.below, beyond);
        seen_is = d.seen_is;
        mine_is = d.mine_is;
      } in
      let old : (i : ℕ) (x : View C R F) → (x.number ≡ 0 → (x.top ≡ n) × (x.given ≡ p.given) × All (Ended seat r.past.start r.past.since n) x.joined × Apart (numbers x)) → (y : View C R F)
      → Knows r.past i y
      → (x.spent ≡ y.spent) × (x.fixed ≡ y.fixed) × (x.start ≡ y.start) × (x.number ≡ y.number) × (x.seen ≡ y.seen) × (x.mine ≡ y.mine) × (x.known ≡ y.known)
      × (x.out ≡ y.out) → Knows p i x = λ i x firsts y q same. record {
        fixed_is = same.1 ∙ q.fixed_is;
        start_is = same.2 ∙ q.start_is;
        seat_is = ap seat same.3 ∙ (stays y.number q.below ∙ q.seat_is);
        below = omega (arith, same.3, q.below, beyond);
        seen_is = subst (λ l. IsPrefix l (counted p)) (sym same.4) q.seen_is;
        mine_is = same.5 ∙ (q.mine_is ∙ ap (λ m. own_entries m r.past.since) (sym same.3));
        known_is = omega (arith, same.6, q.known_is);
        turn_is = λ o. let t = q.turn_is (sym same.7 ∙ o) in (t.0, t.1, same.4 ∙ t.2);
        top_is = firsts;
      } in record {
        past = p;
        fixed_past = r.fixed_past;
        start_past = r.start_past;
        words_are = r.words_are;
        free = r.free;
        busy = λ ne. let b = busy_set s.views id r.past.turn v w at (λ x y. (x, y)) (r.busy ne) in (b.0, at_longer vs (u ∷ []) r.past.turn b.0 b.1, b.2, b.3);
        fresh = λ m past_n. let h = r.fresh m (omega (arith, past_n, beyond)) in (put_else r.past.seat n (some j) m (λ e. omega (arith, past_n, e)) ∙ h.0, h.1);
        seated = λ m i is. dite (ℕ_discrete m n)
            (λ e. inr (subst (Contains (r.past.given ++ n ∷ [])) (sym e) (Contains-push r.past.given n)))
            (λ ne. given_more r.past.given n m (r.seated m i (sym (put_else r.past.seat n (some j) m ne) ∙ is)));
        callers = All-weaker _ _ (λ e h. given_more r.past.given n e.caller h) r.past.since r.callers;
        shared = r.shared;
        grown = r.grown;
        each = λ i x here alive. ⊎_elim
            (λ (h : get_elem? vs i ≡ some x). each_set p s.views id w
            (λ _. old id w (λ _. (refl, ap (λ l. l ++ n ∷ []) top_is.1, All-weaker _ _ ended v.joined top_is.2, top_is.3)) v k
            (refl, refl, refl, refl, refl, refl, refl, refl))
            (λ i' x' other there alive'. let q = r.each i' x' there alive' in
            old i' x' (λ z. absurd (other (some-injective i' id (sym q.seat_is ∙ (ap r.past.seat (z ∙ sym zeroth) ∙ k.seat_is))))) x' q
            (refl, refl, refl, refl, refl, refl, refl, refl))
            i x h alive)
            (λ (h : (i ≡ length vs) × (u ≡ x)). subst (λ (z : ℕ × View C R F). Knows p z.0 z.1) (λ c. (sym (h.0 ∙ size) c, h.1 c)) (record {
              fixed_is = k.fixed_is;
              start_is = k.start_is;
              seat_is = put_here r.past.seat n (some j) n refl;
              below = omega arith;
              seen_is = k.seen_is;
              mine_is = sym (r.fresh n beyond).1;
              known_is = omega arith;
              turn_is = λ o. absurd (false≢true o);
              top_is = λ z. absurd (omega (arith, z, beyond));
            }))
            (at_snoc_at vs u x i here);
      }

  pub does_join : (id other : ℕ) (v w : View C R F) → v.spent ≡ false → v.out ≡ false → v.number ≡ 0 → w.spent ≡ false → w.out ≡ false
      → Joins Rule id v other w (joining v w) spent_view
  does_join id other v w live idle zeroth w_live w_idle s r at apart at_w =
      let b = joining v w in
      let at_other : get_elem? s.views other ≡ some w = sym (set_else s.views id other b apart) ∙ at_w in
      let k = r.each id v at live in
      let kw = r.each other w at_other w_live in
      let top_is = k.top_is zeroth in
      let seat : ℕ → maybe.Option ℕ = put r.past.seat w.number none in
      let p : Past C R F = record r.past { seat = seat } in
      let keeps_seat : (m i : ℕ) → i ≢ other → r.past.seat m ≡ some i → seat m ≡ some i =
      λ m i ne is. put_else r.past.seat w.number none m (λ e. ne (some-injective i other (sym is ∙ (ap r.past.seat e ∙ kw.seat_is)))) ∙ is in
      let ended : (o : Own C R) → Ended r.past.seat r.past.start r.past.since r.past.top o → Ended seat r.past.start r.past.since r.past.top o = λ o d. record {
        seat_is = put_none r.past.seat w.number o.number d.seat_is;
        below = d.below;
        seen_is = d.seen_is;
        mine_is = d.mine_is;
      } in
      let ends : Ended seat r.past.start r.past.since r.past.top (own_of w) = record {
        seat_is = put_here r.past.seat w.number none w.number refl;
        below = kw.below;
        seen_is = kw.seen_is;
        mine_is = kw.mine_is;
      } in
      -- the number of the other has a seat of its own
      let not_first : w.number ≢ v.number = λ e. apart (sym (some-injective id other (sym k.seat_is ∙ (ap r.past.seat (sym e) ∙ kw.seat_is)))) in
      let not_ended : (o : Own C R) → Ended r.past.seat r.past.start r.past.since r.past.top o → w.number ≢ o.number =
      λ o d e. some-ne-none other (sym kw.seat_is ∙ (ap r.past.seat e ∙ d.seat_is)) in
      let differs : All (λ m. w.number ≢ m) (numbers v) = All-map (λ m. w.number ≢ m) (λ (o : Own C R). o.number) (lists_of v)
      (All-cons (λ (o : Own C R). w.number ≢ o.number) (own_of v) v.joined not_first
      (All-weaker (Ended r.past.seat r.past.start r.past.since r.past.top) (λ (o : Own C R). w.number ≢ o.number) not_ended v.joined top_is.2)) in
      let still_apart : Apart (numbers b) = subst (λ (ns : List ℕ). Apart (v.number ∷ ns)) (sym (map-append (λ (o : Own C R). o.number) v.joined (own_of w ∷ [])))
      (apart_more (numbers v) w.number top_is.3 differs) in
      let vs = set s.views id b in record {
        past = p;
        fixed_past = r.fixed_past;
        start_past = r.start_past;
        words_are = r.words_are;
        free = r.free;
        busy = λ ne. busy_set vs other r.past.turn w spent_view at_w (λ x y. absurd (false≢true (sym w_idle ∙ y)))
            (busy_set s.views id r.past.turn v b at (λ x y. (x, y)) (r.busy ne));
        fresh = λ m past_top. let h = r.fresh m past_top in (put_none r.past.seat w.number m h.0, h.1);
        seated = λ m i is. r.seated m i (put_some r.past.seat w.number m i is);
        callers = r.callers;
        shared = r.shared;
        grown = r.grown;
        each = λ i x here alive. each_set p vs other spent_view (λ sp. absurd (false≢true (sym sp))) (λ i x ne here alive. each_but p s.views id other b
            (λ _. record {
              fixed_is = k.fixed_is;
              start_is = k.start_is;
              seat_is = keeps_seat v.number id (λ e. apart (sym e)) k.seat_is;
              below = k.below;
              seen_is = ⊎_elim (λ e. subst (λ l. IsPrefix l (counted r.past)) (sym e) k.seen_is)
                  (λ e. subst (λ l. IsPrefix l (counted r.past)) (sym e) kw.seen_is) (longer_is v.seen w.seen);
              mine_is = k.mine_is;
              known_is = omega (arith, k.known_is, kw.known_is);
              turn_is = λ o. absurd (false≢true (sym idle ∙ o));
              top_is = λ _. (top_is.0, top_is.1, All-push (Ended seat r.past.start r.past.since r.past.top) v.joined (own_of w) (All-weaker _ _ ended v.joined top_is.2) ends, still_apart);
            })
            (λ i' x' away ne' there alive'. let q = r.each i' x' there alive' in record {
              fixed_is = q.fixed_is;
              start_is = q.start_is;
              seat_is = keeps_seat x'.number i' ne' q.seat_is;
              below = q.below;
              seen_is = q.seen_is;
              mine_is = q.mine_is;
              known_is = q.known_is;
              turn_is = q.turn_is;
              top_is = λ z. let h = q.top_is z in (h.0, h.1, All-weaker _ _ ended x'.joined h.2, h.3);
            }) i x ne here alive) i x here alive;
      }

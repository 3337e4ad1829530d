-- The rule holds at the start, and what it says at the end.
use Rattle.std.proofs.Common.{◌≡◌, ℕ, List, [], ◌∷◌, ◌++◌, length, sym, refl, ap, ◌∙◌, subst, ⊎_elim, inl, arith, Some, false, append-nil}
use Rattle.std.specs.Prelude.{Contains}
use Rattle.std.proofs.lemmas.Bool.{false≢true}
use Rattle.std.proofs.lemmas.List.Elements.{All-nil, All-cons, All-weaker, All-map, All-contains}
use mathlib.Core.Logic.{dite}
use mathlib.Core.Option.{none, some, some-ne-none, some-injective}
use mathlib.Core.Option as maybe
use mathlib.Core.List.{IsPrefix}
use native.Mathlib.Decide.{ℕ_discrete}
use lib.ListN.{get_elem?}
use Rattle.atomic_table.specs.Table.{State, opening, Final, Seen}
use Rattle.lr_object.specs.declared.entry.Entry.{Entry}
use Rattle.lr_object.specs.Own.{own_entries}
use Rattle.lr_object.specs.Grown.{Grown}
use Rattle.lr_object.specs.Grown as growing
use Rattle.lr_turn.specs.declared.view.View.{View}
use Rattle.lr_turn.specs.declared.view.Own.{Own}
use Rattle.lr_turn.specs.Views.{first_view, own_of, lists_of}
use Rattle.lr_turn.specs.Kept.{Past, counted, IsGiven, Ended, Knows, Kept}
use Rattle.lr_turn.specs.Called.{numbers, AllJoined, Closes}
use Rattle.lr_turn.proofs.Lists.{apart_one, at_one, put, put_here, put_else}

module _ {S C R F Call Reply : Type 0} (log : S → List (Entry C R)) (fixed : S → F) (shares : C → Type 0)
    (answers : F → List (Entry C R) → ℕ → Call → Reply → Type 0) (enters : F → List (Entry C R) → ℕ → Call → Reply → Entry C R → Type 0) (f0 : F) (l0 : List (Entry C R)) where
  abbrev Rule : State S (View C R F) → Type 0
  Rule = Kept log fixed shares answers enters f0 l0

  does_open : (y : S) → log y ≡ l0 → fixed y ≡ f0 → Rule (opening (length (log y) ∷ 0 ∷ []) (y ∷ []) (first_view f0 l0))
  does_open y l_is f_is =
      let p : Past C R F = record { fixed = f0; start = l0; since = []; seat = put (λ _. none) 0 (some 0); lock = 0; turn = 0; top = 0; given = [] } in
      let all : counted p ≡ log y = append-nil l0 ∙ sym l_is in record {
        past = p;
        fixed_past = refl;
        start_past = refl;
        words_are = ap (λ (l : List (Entry C R)). length l ∷ 0 ∷ []) (sym all);
        free = λ _. (y, refl, sym all, f_is);
        busy = λ ne. absurd (ne refl);
        fresh = λ m above. (put_else (λ _. none) 0 (some 0) m (λ e. omega (arith, above, e)), refl);
        seated = λ m i is. dite (ℕ_discrete m 0) (λ e. inl e) (λ ne. absurd (some-ne-none i (sym is ∙ put_else (λ _. none) 0 (some 0) m ne)));
        callers = All-nil _;
        shared = All-nil _;
        grown = subst (Grown answers enters f0 l0) (sym (append-nil l0)) growing.same;
        each = λ i v at live. let h = at_one (first_view f0 l0) v i at in subst (λ (z : ℕ × View C R F). Knows p z.0 z.1) (λ c. (sym h.0 c, h.1 c)) (record {
          fixed_is = refl;
          start_is = refl;
          seat_is = put_here (λ _. none) 0 (some 0) 0 refl;
          below = omega arith;
          seen_is = (l0 ++ [], refl);
          mine_is = refl;
          known_is = omega arith;
          turn_is = λ o. absurd (false≢true o);
          top_is = λ _. (refl, refl, All-nil _, apart_one);
        });
      }

  pub open_at : (y z : S) (n : ℕ) (xs : List S) → z ≡ y → n ≡ length (log y) → xs ≡ y ∷ [] → log y ≡ l0 → fixed y ≡ f0
      → Kept log fixed shares answers enters (fixed z) (log z) (opening (n ∷ 0 ∷ []) xs (first_view (fixed z) (log z)))
  open_at y z n xs same size one l_is f_is =
      subst (λ (t : S × ℕ × List S). Kept log fixed shares answers enters (fixed t.0) (log t.0) (opening (t.1 ∷ 0 ∷ []) t.2 (first_view (fixed t.0) (log t.0))))
      (λ i. (sym same i, sym size i, sym one i))
      (subst (λ (t : F × List (Entry C R)). Kept log fixed shares answers enters t.0 t.1 (opening (length (log y) ∷ 0 ∷ []) (y ∷ []) (first_view t.0 t.1)))
      (λ i. (sym f_is i, sym l_is i)) (does_open y l_is f_is))

  -- the number of a seat is one of the first pass or of a pass that was joined
  among : (v : View C R F) (n : ℕ) → v.number ≡ 0 → AllJoined v → IsGiven v.given n → Contains (numbers v) n
  among v n zeroth joined h = ⊎_elim (λ z. (0, omega arith, zeroth ∙ sym z)) (λ g. All-contains (Contains (numbers v)) v.given n joined g) h

  pub does_close : (id : ℕ) (v : View C R F) (ws : List ℕ) (xs : List S) → v.spent ≡ false → v.out ≡ false → v.number ≡ 0 → AllJoined v
      → Final (Seen Rule id v) ws xs
      → (y : S) → get_elem? xs 0 ≡ some y → (v.fixed ≡ Some (fixed y)) × (v.start ≡ l0) × (fixed y ≡ f0) × Closes shares answers enters (fixed y) v (log y)
  does_close id v ws xs live idle zeroth joined last y here =
      let s = last.0 in
      let r = last.1.0 in
      let k = r.each id v last.1.1 live in
      let top_is = k.top_is zeroth in
      let held : (n : ℕ) → IsGiven r.past.given n → Contains (numbers v) n = λ n h. among v n zeroth joined (subst (λ (g : List ℕ). IsGiven g n) (sym top_is.1) h) in
      -- a number of the lists has no seat but that of the first pass
      let Lone : ℕ → ℕ → Type 0 = λ i m. r.past.seat m ≡ some i → i ≡ id in
      let first_lone : (i : ℕ) → Lone i v.number = λ i is. some-injective i id (sym is ∙ k.seat_is) in
      let ended_lone : (i : ℕ) (o : Own C R) → Ended r.past.seat r.past.start r.past.since r.past.top o → Lone i o.number =
      λ i o d is. absurd (some-ne-none i (sym is ∙ d.seat_is)) in
      let lone : (n i : ℕ) → Contains (numbers v) n → Lone i n = λ n i c.
      All-contains (Lone i) (numbers v) n
      (All-map (Lone i) (λ (o : Own C R). o.number) (lists_of v)
      (All-cons (λ (o : Own C R). Lone i o.number) (own_of v) v.joined (first_lone i)
      (All-weaker (Ended r.past.seat r.past.start r.past.since r.past.top) (λ (o : Own C R). Lone i o.number) (ended_lone i) v.joined top_is.2))) c in
      let freed : r.past.lock ≡ 0 = dite (ℕ_discrete r.past.lock 0) (λ e. e) (λ ne.
      let b = r.busy ne in
      let u = r.each r.past.turn b.0 b.1 b.2 in
      let same : r.past.turn ≡ id = lone b.0.number r.past.turn (held b.0.number (r.seated b.0.number r.past.turn u.seat_is)) u.seat_is in
      let is : b.0 ≡ v = some-injective b.0 v (sym b.1 ∙ (ap (λ (i : ℕ). get_elem? s.views i) same ∙ last.1.1)) in
      absurd (false≢true (sym idle ∙ (ap (λ (x : View C R F). x.out) (sym is) ∙ b.3)))) in
      let f = r.free freed in
      let same : f.0 ≡ y = some-injective f.0 y (sym (last.4 0 f.0 (ap (λ (hs : List (maybe.Option S)). get_elem? hs 0) f.1)) ∙ here) in
      let l_is : log y ≡ counted r.past = ap log (sym same) ∙ f.2 in
      let f_is : fixed y ≡ r.past.fixed = ap fixed (sym same) ∙ f.3 in (
        k.fixed_is ∙ ap Some (sym f_is),
        k.start_is ∙ r.start_past,
        f_is ∙ r.fixed_past,
        record {
          since = r.past.since;
          log_is = l_is ∙ ap (λ l. l ++ r.past.since) (sym k.start_is);
          apart = top_is.3;
          seen = All-cons (λ (o : Own C R). IsPrefix o.seen (log y)) (own_of v) v.joined (subst (IsPrefix v.seen) (sym l_is) k.seen_is)
              (All-weaker (Ended r.past.seat r.past.start r.past.since r.past.top) (λ (o : Own C R). IsPrefix o.seen (log y))
              (λ o d. subst (IsPrefix o.seen) (sym l_is) d.seen_is) v.joined top_is.2);
          known_is = (let h = ap (λ (l : List (Entry C R)). length l) l_is in omega (arith, h, k.known_is));
          lists = All-cons (λ (o : Own C R). o.entries ≡ own_entries o.number r.past.since) (own_of v) v.joined k.mine_is
              (All-weaker (Ended r.past.seat r.past.start r.past.since r.past.top) (λ (o : Own C R). o.entries ≡ own_entries o.number r.past.since)
              (λ o d. d.mine_is) v.joined top_is.2);
          callers = All-weaker (λ (e : Entry C R). IsGiven r.past.given e.caller) (λ (e : Entry C R). Contains (numbers v) e.caller)
              (λ e h. held e.caller h) r.past.since r.callers;
          shared = r.shared;
          grown = subst (λ (z : F × List (Entry C R) × List (Entry C R)). Grown answers enters z.0 z.1 z.2) (λ i. (sym f_is i, sym k.start_is i, sym l_is i)) r.grown;
        },
      )

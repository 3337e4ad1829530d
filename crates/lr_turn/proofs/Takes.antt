-- The steps of a call keep the rule: the turn is taken or found taken, the entry is counted, the turn is given back. So does telling the count.
use Rattle.std.proofs.Common.{◌≡◌, ◌≢◌, ℕ, eqb, List, [], ◌∷◌, ◌++◌, length, get_or, set, sym, refl, ap, ◌∙◌, subst, arith, Some, true, false, length-append, append_assoc}
use Rattle.std.proofs.lemmas.Bool.{false≢true}
use Rattle.std.proofs.lemmas.List.Elements.{All-push, All-weaker}
use mathlib.Core.Logic.{dite}
use mathlib.Core.Option.{none, some, some-ne-none, some-injective}
use mathlib.Core.Option as maybe
use mathlib.Core.List.{IsPrefix}
use native.Mathlib.Decide.{ℕ_discrete}
use lib.ListN.{get_elem?}
use prog.Atomic.{either}
use Rattle.atomic_table.specs.Table.{State, Me, step, Act, keeps, gives, stepped, carried_after, Valid, Allows}
use Rattle.atomic_table.specs.Table as table
use Rattle.atomic_table.proofs.Lists.{set_here, set_again, exchanged}
use Rattle.lr_object.specs.declared.entry.Entry.{Entry}
use Rattle.lr_object.specs.Own.{own_entries}
use Rattle.lr_object.specs.Grown.{Grown}
use Rattle.lr_object.specs.Grown as growing
use Rattle.lr_object.proofs.OwnEntries.{own_entries-own, own_entries-other}
use Rattle.lr_turn.specs.declared.view.View.{View}
use Rattle.lr_turn.specs.declared.view.Own.{Own}
use Rattle.lr_turn.specs.Views.{taking, counting, leaving, knowing}
use Rattle.lr_turn.specs.Kept.{Past, counted, IsGiven, Ended, Kept}
use Rattle.lr_turn.specs.Steps.{takes, counts, leaves, tells, MayCount}
use Rattle.lr_turn.proofs.Lists.{at_below, Some_same, one_set, last_same, prefix_self, prefix_more, prefix_length}
use Rattle.lr_turn.proofs.Rules.{each_set, relocked, fits, busy_set}

module _ {S C R F Call Reply : Type 0} (log : S → List (Entry C R)) (fixed : S → F) (shares : C → Type 0)
    (answers : F → List (Entry C R) → ℕ → Call → Reply → Type 0) (enters : F → List (Entry C R) → ℕ → Call → Reply → Entry C R → Type 0) (f0 : F) (l0 : List (Entry C R)) where
  abbrev Rule : State S (View C R F) → Type 0
  Rule = Kept log fixed shares answers enters f0 l0

  -- the table may go on with this number in word 1, where it was n
  abbrev Goes : ℕ → View C R F → State S (View C R F) → ℕ → ℕ → Type 0
  Goes id v s n m = (w : View C R F) × (a : Act S) × Valid s.homes [] a × Rule (stepped s 1 m id [] w a) × takes log fixed shares answers enters (step 1 1 0 1 none)
      (v, []) n (w, carried_after [] a)

  take_free : (id m : ℕ) (v : View C R F) → m ≢ 0 → v.spent ≡ false → (s : State S (View C R F)) (r : Rule s) → get_elem? s.views id ≡ some v
      → r.past.lock ≡ 0 → Goes id v s 0 m
  take_free id m v some_m live s r at none_out =
      let f = r.free none_out in
      let k = r.each id v at live in
      let w = taking v (log f.0) in
      let p : Past C R F = record r.past { lock = m; turn = id } in (
        w,
        table.takes 0 f.0,
        ap (λ (hs : List (maybe.Option S)). get_elem? hs 0) f.1,
        record {
          past = p;
          fixed_past = r.fixed_past;
          start_past = r.start_past;
          words_are = ap (λ (ws : List ℕ). set ws 1 m) r.words_are;
          free = λ e. absurd (some_m e);
          busy = λ _. (w, set_here s.views id w (at_below s.views id v at), live, refl);
          fresh = r.fresh;
          seated = r.seated;
          callers = r.callers;
          shared = r.shared;
          grown = r.grown;
          each = each_set p s.views id w
              (λ _. record {
                fixed_is = k.fixed_is;
                start_is = k.start_is;
                seat_is = k.seat_is;
                below = k.below;
                seen_is = prefix_self (log f.0) (counted p) f.2;
                mine_is = k.mine_is;
                known_is = k.known_is;
                turn_is = λ _. (some_m, refl, f.2);
                top_is = k.top_is;
              })
              (λ i u other here alive. relocked r.past m id i u (λ o. absurd (((r.each i u here alive).turn_is o).0 none_out)) (r.each i u here alive));
        },
        ((λ _. (f.0, refl, k.fixed_is ∙ ap Some (sym f.3), fits shares answers enters r.past id v (fixed f.0) (log f.0) f.3 f.2 r.shared r.grown k)), (λ ne. absurd (ne refl))),
      )

  -- who finds the turn taken changes word 1 at most
  take_busy : (id m : ℕ) (v : View C R F) → m ≢ 0 → (s : State S (View C R F)) (r : Rule s) → get_elem? s.views id ≡ some v → r.past.lock ≢ 0
      → Goes id v s r.past.lock m
  take_busy id m v some_m s r at out =
      let p : Past C R F = record r.past { lock = m } in (
        v,
        keeps,
        tt,
        subst (λ (vs : List (View C R F)). Rule (record { words = set s.words 1 m; homes = s.homes; views = vs })) (sym (set_again s.views id v at)) (record {
          past = p;
          fixed_past = r.fixed_past;
          start_past = r.start_past;
          words_are = ap (λ (ws : List ℕ). set ws 1 m) r.words_are;
          free = λ e. absurd (some_m e);
          busy = λ _. r.busy out;
          fresh = r.fresh;
          seated = r.seated;
          callers = r.callers;
          shared = r.shared;
          grown = r.grown;
          each = λ i u here alive. let q = r.each i u here alive in relocked r.past m r.past.turn i u (λ o. (some_m, (q.turn_is o).1)) q;
        }),
        ((λ e. absurd (out e)), (λ _. refl)),
      )

  word_1 : (s : State S (View C R F)) (r : Rule s) → get_or s.words 1 0 ≡ r.past.lock
  word_1 s r = ap (λ (ws : List ℕ). get_or ws 1 0) r.words_are

  does_take : (id : ℕ) (v : View C R F) → v.spent ≡ false
      → Allows Rule 1 id (v, []) 1 (λ n. either (eqb n 0) 1 n) (takes log fixed shares answers enters (step 1 1 0 1 none) (v, []))
  does_take id v live s r len at small = subst (λ n. Goes id v s n (either (eqb n 0) 1 n)) (sym (word_1 s r)) (exchanged r.past.lock 0 1 (Goes id v s r.past.lock)
      (λ e. subst (λ n. Goes id v s n 1) (sym e) (take_free id 1 v (λ z. omega (arith, z)) live s r at e))
      (λ ne. take_busy id r.past.lock v ne s r at ne))

  does_claim : (id : ℕ) (v : View C R F) → v.spent ≡ false
      → Allows Rule 1 id (v, []) 1 (λ _. 2) (takes log fixed shares answers enters (step 1 1 2 0 none) (v, []))
  does_claim id v live s r len at small = subst (λ n. Goes id v s n 2) (sym (word_1 s r)) (dite (ℕ_discrete r.past.lock 0)
      (λ e. subst (λ n. Goes id v s n 2) (sym e) (take_free id 2 v (λ z. omega (arith, z)) live s r at e))
      (λ ne. take_busy id 2 v (λ z. omega (arith, z)) s r at ne))

  -- whoever has the turn counts its entry
  does_count : (id : ℕ) (v : View C R F) (y : S) (e : Entry C R) (n : ℕ) → v.spent ≡ false → v.out ≡ true → log y ≡ v.seen ++ e ∷ [] → e.caller ≡ v.number
      → shares e.call → n ≡ length (log y) → MayCount answers enters v e
      → Allows Rule 1 id (v, (0, y) ∷ []) 0 (λ _. n) (λ _. counts log fixed (step 1 0 n 0 none) (v, (0, y) ∷ []) n)
  does_count id v y e n live out new by may size told s r len at small =
      let k = r.each id v at live in
      let t = k.turn_is out in
      let w = counting v e in
      let p : Past C R F = record r.past { since = r.past.since ++ e ∷ [] } in
      let more : counted p ≡ counted r.past ++ e ∷ [] = sym (append_assoc r.past.start r.past.since (e ∷ [])) in
      let is_fixed : told.fixed ≡ r.past.fixed = Some_same told.fixed r.past.fixed (sym told.fixed_is ∙ k.fixed_is) in
      let longer_by : counted p ≡ v.seen ++ e ∷ [] = more ∙ ap (λ l. l ++ e ∷ []) (sym t.2) in
      let not_mine : (m i : ℕ) → i ≢ id → r.past.seat m ≡ some i → e.caller ≢ m =
      λ m i other at_i is. other (some-injective i id (sym at_i ∙ (ap r.past.seat (sym is ∙ by) ∙ k.seat_is))) in
      let not_none : (m : ℕ) → r.past.seat m ≡ none → e.caller ≢ m = λ m gone is. some-ne-none id (sym k.seat_is ∙ (ap r.past.seat (sym by ∙ is) ∙ gone)) in
      let others : (m : ℕ) → e.caller ≢ m → own_entries m p.since ≡ own_entries m r.past.since = λ m ne. own_entries-other m r.past.since e ne in
      let ended : (o : Own C R) → Ended r.past.seat r.past.start r.past.since r.past.top o → Ended r.past.seat r.past.start p.since r.past.top o = λ o d. record {
        seat_is = d.seat_is;
        below = d.below;
        seen_is = subst (IsPrefix o.seen) (sym more) (prefix_more o.seen (counted r.past) (e ∷ []) d.seen_is);
        mine_is = d.mine_is ∙ sym (others o.number (not_none o.number d.seat_is));
      } in (
        w,
        keeps,
        tt,
        record {
          past = p;
          fixed_past = r.fixed_past;
          start_past = r.start_past;
          words_are = ap (λ (ws : List ℕ). set ws 0 n) r.words_are ∙ ap (λ (m : ℕ). m ∷ r.past.lock ∷ [])
              (size ∙ ap (λ (l : List (Entry C R)). length l) (new ∙ sym longer_by));
          free = λ z. absurd (t.0 z);
          busy = λ _. (w, (ap (λ (i : ℕ). get_elem? (set s.views id w) i) t.1 ∙ set_here s.views id w (at_below s.views id v at)), live, out);
          fresh = λ m past_top. let h = r.fresh m past_top in (h.0, others m (not_none m h.0) ∙ h.1);
          seated = r.seated;
          callers = All-push (λ f. IsGiven r.past.given f.caller) r.past.since e r.callers (subst (IsGiven r.past.given) (sym by) (r.seated v.number id k.seat_is));
          shared = All-push (λ f. shares f.call) r.past.since e r.shared may;
          grown = subst (Grown answers enters r.past.fixed r.past.start) (sym more) (growing.more r.grown told.call told.reply e
              (subst (λ (z : F × List (Entry C R)). answers z.0 z.1 e.caller told.call told.reply) (λ i. (is_fixed i, t.2 i)) told.answered)
              (subst (λ (z : F × List (Entry C R)). enters z.0 z.1 e.caller told.call told.reply e) (λ i. (is_fixed i, t.2 i)) told.entered));
          each = each_set p s.views id w
              (λ _. record {
                fixed_is = k.fixed_is;
                start_is = k.start_is;
                seat_is = k.seat_is;
                below = k.below;
                seen_is = prefix_self (v.seen ++ e ∷ []) (counted p) (sym longer_by);
                mine_is = ap (λ l. l ++ e ∷ []) k.mine_is ∙ sym (own_entries-own v.number r.past.since e by);
                known_is = (let q = ap (λ (l : List (Entry C R)). length l) more in omega (arith, k.known_is, q, length-append (counted r.past) (e ∷ [])));
                turn_is = λ _. (t.0, t.1, sym longer_by);
                top_is = λ z. let h = k.top_is z in (h.0, h.1, All-weaker _ _ ended v.joined h.2, h.3);
              })
              (λ i u other here alive. let q = r.each i u here alive in record {
                fixed_is = q.fixed_is;
                start_is = q.start_is;
                seat_is = q.seat_is;
                below = q.below;
                seen_is = subst (IsPrefix u.seen) (sym more) (prefix_more u.seen (counted r.past) (e ∷ []) q.seen_is);
                mine_is = q.mine_is ∙ sym (others u.number (not_mine u.number i other q.seat_is));
                known_is = (let z = ap (λ (l : List (Entry C R)). length l) more in omega (arith, q.known_is, z, length-append (counted r.past) (e ∷ [])));
                turn_is = λ o. absurd (other (sym (q.turn_is o).1 ∙ t.1));
                top_is = λ z. let h = q.top_is z in (h.0, h.1, All-weaker _ _ ended u.joined h.2, h.3);
              });
        },
        (refl, λ y' e' held is. ap (counting v) (last_same v.seen e e' (sym new ∙ (ap (λ (c : List (ℕ × S)). log (get_or c 0 (0, y)).1) held ∙ is)))),
      )

  does_leave : (id : ℕ) (v : View C R F) (y : S) → v.spent ≡ false → v.out ≡ true → log y ≡ v.seen → v.fixed ≡ Some (fixed y)
      → Allows Rule 1 id (v, (0, y) ∷ []) 1 (λ _. 0) (leaves (step 1 1 0 0 none) (v, (0, y) ∷ []))
  does_leave id v y live out same stays s r len at small =
      let k = r.each id v at live in
      let t = k.turn_is out in
      let w = leaving v in
      let p : Past C R F = record r.past { lock = 0; turn = id } in (
        w,
        gives,
        tt,
        record {
          past = p;
          fixed_past = r.fixed_past;
          start_past = r.start_past;
          words_are = ap (λ (ws : List ℕ). set ws 1 0) r.words_are;
          free = λ _. (y, one_set s.homes (some y) len, same ∙ t.2, Some_same (fixed y) r.past.fixed (sym stays ∙ k.fixed_is));
          busy = λ ne. absurd (ne refl);
          fresh = r.fresh;
          seated = r.seated;
          callers = r.callers;
          shared = r.shared;
          grown = r.grown;
          each = each_set p s.views id w
              (λ _. record {
                fixed_is = k.fixed_is;
                start_is = k.start_is;
                seat_is = k.seat_is;
                below = k.below;
                seen_is = k.seen_is;
                mine_is = k.mine_is;
                known_is = k.known_is;
                turn_is = λ o. absurd (false≢true o);
                top_is = k.top_is;
              })
              (λ i u other here alive. let q = r.each i u here alive in relocked r.past 0 id i u (λ o. absurd (other (sym (q.turn_is o).1 ∙ t.1))) q);
        },
        refl,
      )

  does_tell : (id : ℕ) (v : View C R F) → v.spent ≡ false → Allows Rule 1 id (v, []) 0 (λ n. n) (tells (step 1 0 0 0 none) (v, []))
  does_tell id v live s r len at small =
      let k = r.each id v at live in
      let n = get_or s.words 0 0 in
      let n_is : n ≡ length (counted r.past) = ap (λ (ws : List ℕ). get_or ws 0 0) r.words_are in
      let w = knowing v n in (
        w,
        keeps,
        tt,
        record {
          past = r.past;
          fixed_past = r.fixed_past;
          start_past = r.start_past;
          words_are = ap (λ (ws : List ℕ). set ws 0 (get_or ws 0 0)) r.words_are;
          free = r.free;
          busy = λ ne. busy_set s.views id r.past.turn v w at (λ a b. (a, b)) (r.busy ne);
          fresh = r.fresh;
          seated = r.seated;
          callers = r.callers;
          shared = r.shared;
          grown = r.grown;
          each = each_set r.past s.views id w
              (λ _. record {
                fixed_is = k.fixed_is;
                start_is = k.start_is;
                seat_is = k.seat_is;
                below = k.below;
                seen_is = k.seen_is;
                mine_is = k.mine_is;
                known_is = omega (arith, n_is);
                turn_is = k.turn_is;
                top_is = k.top_is;
              })
              (λ i u other here alive. r.each i u here alive);
        },
        (refl, (let h = prefix_length v.seen (counted r.past) k.seen_is in omega (arith, h, n_is)), (let h = k.known_is in omega (arith, h, n_is))),
      )

  -- the same at a seat as the code has it
  pub take_at : (slots id : ℕ) (m : Me S (View C R F)) → slots ≡ 1 → m.1 ≡ [] → m.0.spent ≡ false
      → Allows Rule slots id m 1 (λ n. either (eqb n 0) 1 n) (takes log fixed shares answers enters (step slots 1 0 1 none) m)
  take_at slots id m one bare live = subst (λ (z : ℕ × List (ℕ × S)). Allows Rule z.0 id (m.0, z.1) 1 (λ n. either (eqb n 0) 1 n)
      (takes log fixed shares answers enters (step z.0 1 0 1 none) (m.0, z.1))) (λ i. (sym one i, sym bare i))
      (does_take id m.0 live)

  pub claim_at : (slots id : ℕ) (m : Me S (View C R F)) → slots ≡ 1 → m.1 ≡ [] → m.0.spent ≡ false
      → Allows Rule slots id m 1 (λ _. 2) (takes log fixed shares answers enters (step slots 1 2 0 none) m)
  claim_at slots id m one bare live = subst (λ (z : ℕ × List (ℕ × S)). Allows Rule z.0 id (m.0, z.1) 1 (λ _. 2)
      (takes log fixed shares answers enters (step z.0 1 2 0 none) (m.0, z.1))) (λ i. (sym one i, sym bare i))
      (does_claim id m.0 live)

  pub count_at : (slots id : ℕ) (m : Me S (View C R F)) (y : S) (e : Entry C R) (n : ℕ) → slots ≡ 1 → m.1 ≡ (0, y) ∷ [] → m.0.spent ≡ false → m.0.out ≡ true
      → log y ≡ m.0.seen ++ e ∷ [] → e.caller ≡ m.0.number → shares e.call
      → n ≡ length (log y) → MayCount answers enters m.0 e → Allows Rule slots id m 0 (λ _. n) (λ _. counts log fixed (step slots 0 n 0 none) m n)
  count_at slots id m y e n one held live out new by may size told = subst (λ (z : ℕ × List (ℕ × S)). Allows Rule z.0 id (m.0, z.1) 0 (λ _. n)
      (λ _. counts log fixed (step z.0 0 n 0 none) (m.0, z.1) n)) (λ i. (sym one i, sym held i))
      (does_count id m.0 y e n live out new by may size told)

  pub leave_at : (slots id : ℕ) (m : Me S (View C R F)) (y : S) → slots ≡ 1 → m.1 ≡ (0, y) ∷ [] → m.0.spent ≡ false → m.0.out ≡ true → log y ≡ m.0.seen
      → m.0.fixed ≡ Some (fixed y)
      → Allows Rule slots id m 1 (λ _. 0) (leaves (step slots 1 0 0 none) m)
  leave_at slots id m y one held live out same stays = subst (λ (z : ℕ × List (ℕ × S)). Allows Rule z.0 id (m.0, z.1) 1 (λ _. 0)
      (leaves (step z.0 1 0 0 none) (m.0, z.1))) (λ i. (sym one i, sym held i))
      (does_leave id m.0 y live out same stays)

  pub tell_at : (slots id : ℕ) (m : Me S (View C R F)) → slots ≡ 1 → m.1 ≡ [] → m.0.spent ≡ false
      → Allows Rule slots id m 0 (λ n. n) (tells (step slots 0 0 0 none) m)
  tell_at slots id m one bare live = subst (λ (z : ℕ × List (ℕ × S)). Allows Rule z.0 id (m.0, z.1) 0 (λ n. n) (tells (step z.0 0 0 0 none) (m.0, z.1)))
      (λ i. (sym one i, sym bare i)) (does_tell id m.0 live)

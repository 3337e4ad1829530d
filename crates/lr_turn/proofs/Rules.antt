-- The rule after one view changed.
use Rattle.std.proofs.Common.{◌≡◌, ◌≢◌, ℕ, List, ◌++◌, set, sym, ap, ◌∙◌, subst, ⊎_elim, true, false}
use mathlib.Core.Logic.{dite}
use mathlib.Core.Option.{some, some-injective}
use mathlib.Core.List.{IsPrefix}
use native.Mathlib.Decide.{ℕ_discrete}
use lib.ListN.{get_elem?}
use Rattle.atomic_table.proofs.Lists.{at_set, set_here, set_else}
use Rattle.std.specs.Prelude.{All}
use Rattle.lr_object.specs.declared.entry.Entry.{Entry}
use Rattle.lr_object.specs.Grown.{Grown}
use Rattle.lr_turn.specs.declared.view.View.{View}
use Rattle.lr_turn.specs.Kept.{Past, counted, Knows}
use Rattle.lr_turn.specs.Called.{Fits}
use Rattle.lr_turn.proofs.Lists.{at_below}

module _ {C R F : Type 0} where
  -- one view is another, and the others know what they knew
  pub each_set : (p : Past C R F) (views : List (View C R F)) (id : ℕ) (w : View C R F) → (w.spent ≡ false → Knows p id w)
      → ((i : ℕ) (v : View C R F) → i ≢ id → get_elem? views i ≡ some v → v.spent ≡ false → Knows p i v)
      → (i : ℕ) (v : View C R F) → get_elem? (set views id w) i ≡ some v → v.spent ≡ false → Knows p i v
  each_set p views id w mine others i v at live = ⊎_elim
      (λ (t : (i ≡ id) × (w ≡ v)). subst (λ (z : ℕ × View C R F). Knows p z.0 z.1) (λ k. (sym t.0 k, t.1 k)) (mine (ap (λ (u : View C R F). u.spent) t.1 ∙ live)))
      (λ (t : (i ≢ id) × (get_elem? views i ≡ some v)). others i v t.0 t.1 live) (at_set views id i w v at)

  -- the same past a seat that says nothing any more
  pub each_but : (p : Past C R F) (views : List (View C R F)) (id but : ℕ) (w : View C R F) → (w.spent ≡ false → Knows p id w)
      → ((i : ℕ) (v : View C R F) → i ≢ id → i ≢ but → get_elem? views i ≡ some v → v.spent ≡ false → Knows p i v)
      → (i : ℕ) (v : View C R F) → i ≢ but → get_elem? (set views id w) i ≡ some v → v.spent ≡ false → Knows p i v
  each_but p views id but w mine others i v ne at live = ⊎_elim
      (λ (t : (i ≡ id) × (w ≡ v)). subst (λ (z : ℕ × View C R F). Knows p z.0 z.1) (λ k. (sym t.0 k, t.1 k)) (mine (ap (λ (u : View C R F). u.spent) t.1 ∙ live)))
      (λ (t : (i ≢ id) × (get_elem? views i ≡ some v)). others i v t.0 ne t.1 live) (at_set views id i w v at)

  -- nothing was counted, and no other pass has or gets the turn
  pub relocked : (p : Past C R F) (lock turn i : ℕ) (v : View C R F) → (v.out ≡ true → (lock ≢ 0) × (turn ≡ i)) → Knows p i v
      → Knows (record p { lock = lock; turn = turn }) i v
  relocked p lock turn i v h k = record {
    fixed_is = k.fixed_is;
    start_is = k.start_is;
    seat_is = k.seat_is;
    below = k.below;
    seen_is = k.seen_is;
    mine_is = k.mine_is;
    known_is = k.known_is;
    turn_is = λ o. ((h o).0, (h o).1, (k.turn_is o).2);
    top_is = k.top_is;
  }

  -- the counted log fits each pass
  pub fits : {Call Reply : Type 0} (shares : C → Type 0) (answers : F → List (Entry C R) → ℕ → Call → Reply → Type 0) (enters : F → List (Entry C R) → ℕ → Call → Reply → Entry C R → Type 0)
      (p : Past C R F) (i : ℕ) (v : View C R F) (f : F) (l : List (Entry C R)) → f ≡ p.fixed → l ≡ counted p → All (λ e. shares e.call) p.since
      → Grown answers enters p.fixed p.start (counted p) → Knows p i v → Fits shares answers enters f v l
  fits shares answers enters p i v f l f_is e all g k = record {
    since = p.since;
    log_is = e ∙ ap (λ w. w ++ p.since) (sym k.start_is);
    seen_is = subst (IsPrefix v.seen) (sym e) k.seen_is;
    mine_is = sym k.mine_is;
    shared = all;
    grown = subst (λ (z : F × List (Entry C R) × List (Entry C R)). Grown answers enters z.0 z.1 z.2) (λ t. (sym f_is t, sym k.start_is t, sym e t)) g;
  }

  -- the seat at this place has the turn
  abbrev pub Busy : List (View C R F) → ℕ → Type 0
  Busy views turn = (u : View C R F) × (get_elem? views turn ≡ some u) × (u.spent ≡ false) × (u.out ≡ true)

  pub busy_set : (views : List (View C R F)) (id turn : ℕ) (v w : View C R F) → get_elem? views id ≡ some v
      → (v.spent ≡ false → v.out ≡ true → (w.spent ≡ false) × (w.out ≡ true)) → Busy views turn → Busy (set views id w) turn
  busy_set views id turn v w at h b = dite (ℕ_discrete turn id)
      (λ e.
      let same : b.0 ≡ v = some-injective b.0 v (sym b.1 ∙ (ap (λ (i : ℕ). get_elem? views i) e ∙ at)) in
      let g = h (ap (λ (u : View C R F). u.spent) (sym same) ∙ b.2) (ap (λ (u : View C R F). u.out) (sym same) ∙ b.3) in
      (w, ap (λ (i : ℕ). get_elem? (set views id w) i) e ∙ set_here views id w (at_below views id v at), g.0, g.1))
      (λ ne. (b.0, set_else views id turn w ne ∙ b.1, b.2, b.3))

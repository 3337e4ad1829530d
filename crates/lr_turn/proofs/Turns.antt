-- What one call through a pass came to.
use Rattle.std.proofs.Common.{◌≡◌, ℕ, ◌+◌, ◌<◌, ◌≤◌, ◌⊎◌, List, [], ◌∷◌, ◌++◌, length, get_or, sym, ap, ◌∙◌, subst, ⊎_elim, arith, Some, Bool, true, false, length-append, MatchBool}
use Rattle.atomic_table.specs.Table.{Me}
use Rattle.lr_object.specs.declared.entry.Entry.{Entry}
use Rattle.lr_turn.specs.declared.view.View.{View}
use Rattle.lr_turn.specs.Views.{seeing, taking, counting, leaving}
use Rattle.lr_turn.specs.Called.{Fits, Called}
use Rattle.lr_turn.specs.Steps.{Applied, MayCount}
use Rattle.lr_turn.proofs.Lists.{last_same}

module _ {S C R F Call Reply : Type 0} (log : S → List (Entry C R)) (fixed : S → F) (opens : Call → Type 0) (shares : C → Type 0) (logged : Reply → Bool)
    (answers : F → List (Entry C R) → ℕ → Call → Reply → Type 0) (enters : F → List (Entry C R) → ℕ → Call → Reply → Entry C R → Type 0) where
  in_hand : (x y : S) → ◌≡◌ {A = List (ℕ × S)} ((0, x) ∷ []) ((0, y) ∷ []) → x ≡ y
  in_hand x y e = ap (λ (c : List (ℕ × S)). (get_or c 0 (0, x)).1) e

  abbrev Grew : S → S → ℕ → Call → Reply → Type 0
  Grew y y' caller call reply =
      (e : Entry C R) × (log y' ≡ log y ++ e ∷ []) × (e.caller ≡ caller) × enters (fixed y) (log y) caller call reply e × (opens call → shares e.call)

  -- what is counted, after a call that grew the log
  pub noted : (v : View C R F) (y0 : S) (m m1 : Me S (View C R F)) (caller : ℕ) (call : Call) (reply : Reply) (before after : ℕ)
      → m ≡ (taking v (log y0), (0, y0) ∷ []) → v.fixed ≡ Some (fixed y0) → caller ≡ v.number → opens call
      → Applied log fixed opens shares logged answers enters m m1 caller call reply before after → before < after → (q : Bool) → logged reply ≡ q
      → (y : S) × (e : Entry C R) × (m1.1 ≡ (0, y) ∷ []) × (log y ≡ m1.0.seen ++ e ∷ []) × (e.caller ≡ m1.0.number) × shares e.call × (after ≡ length (log y))
      × MayCount answers enters m1.0 e
  noted v y0 m m1 caller call reply before after is stays mine granted did grew true q =
      let g = subst (λ (b : Bool). MatchBool b (Grew did.0 did.1 caller call reply) (log did.1 ≡ log did.0)) q did.6 in
      let same : did.0 ≡ y0 = in_hand did.0 y0 (sym did.2 ∙ ap (λ (n : Me S (View C R F)). n.1) is) in
      let view : m1.0 ≡ taking v (log y0) = ap (λ (n : Me S (View C R F)). n.0) did.3 ∙ ap (λ (n : Me S (View C R F)). n.0) is in (
        did.1,
        g.0,
        ap (λ (n : Me S (View C R F)). n.1) did.3,
        g.1 ∙ ap (λ (l : List (Entry C R)). l ++ g.0 ∷ []) (ap log same ∙ sym (ap (λ (u : View C R F). u.seen) view)),
        g.2 ∙ (mine ∙ sym (ap (λ (u : View C R F). u.number) view)),
        g.4 granted,
        did.8,
        subst (λ (u : View C R F). MayCount answers enters u g.0) (sym view) (record {
          fixed = fixed y0;
          call = call;
          reply = reply;
          fixed_is = stays;
          answered = subst (λ (z : S × ℕ). answers (fixed z.0) (log z.0) z.1 call reply) (λ i. (same i, sym g.2 i)) did.5;
          entered = subst (λ (z : S × ℕ). enters (fixed z.0) (log z.0) z.1 call reply g.0) (λ i. (same i, sym g.2 i)) g.3;
        }),
      )
  noted v y0 m m1 caller call reply before after is stays mine granted did grew false q =
      let g = subst (λ (b : Bool). MatchBool b (Grew did.0 did.1 caller call reply) (log did.1 ≡ log did.0)) q did.6 in
      let n = ap (λ (l : List (Entry C R)). length l) g in
      absurd (omega (arith, n, did.7, did.8, grew))

  -- how the view after the call comes from that under the turn: an entry was counted, or none
  abbrev Ways : View C R F → Me S (View C R F) → ℕ → ℕ → Type 0
  Ways w m1 before after =
      ((before < after) × ((y : S) × (e : Entry C R) × (m1.1 ≡ (0, y) ∷ []) × (log y ≡ m1.0.seen ++ e ∷ []) × (w ≡ leaving (counting m1.0 e))))
      ⊎ ((after ≤ before) × (w ≡ leaving m1.0))

  pub called : (v w : View C R F) (y0 : S) (m m1 : Me S (View C R F)) (caller : ℕ) (call : Call) (reply : Reply) (before after : ℕ)
      → m ≡ (taking v (log y0), (0, y0) ∷ []) → v.fixed ≡ Some (fixed y0) → Fits shares answers enters (fixed y0) v (log y0) → v.out ≡ false → opens call
      → Applied log fixed opens shares logged answers enters m m1 caller call reply before after → Ways w m1 before after
      → (q : Bool) → logged reply ≡ q → Called shares logged answers enters v w caller call reply
  called v w y0 m m1 caller call reply before after is stays fit idle granted did path true q =
      let g = subst (λ (b : Bool). MatchBool b (Grew did.0 did.1 caller call reply) (log did.1 ≡ log did.0)) q did.6 in
      let same : did.0 ≡ y0 = in_hand did.0 y0 (sym did.2 ∙ ap (λ (n : Me S (View C R F)). n.1) is) in
      let view : m1.0 ≡ taking v (log y0) = ap (λ (n : Me S (View C R F)). n.0) did.3 ∙ ap (λ (n : Me S (View C R F)). n.0) is in
      let grows : length (log did.1) ≡ length (log did.0) + 1 = ap (λ (l : List (Entry C R)). length l) g.1 ∙ length-append (log did.0) (g.0 ∷ []) in
      ⊎_elim
      (λ h. let k = h.1 in
      let same' : did.1 ≡ k.0 = in_hand did.1 k.0 (sym (ap (λ (n : Me S (View C R F)). n.1) did.3) ∙ k.2) in
      let entry : k.1 ≡ g.0 = last_same (log y0) k.1 g.0 (sym (k.3 ∙ ap (λ (u : View C R F). u.seen ++ k.1 ∷ []) view)
      ∙ (ap log (sym same') ∙ (g.1 ∙ ap (λ (y : S). log y ++ g.0 ∷ []) same))) in record {
        fixed = fixed y0;
        log = log y0;
        fixed_is = stays;
        fits = fit;
        answered = subst (λ (y : S). answers (fixed y) (log y) caller call reply) same did.5;
        kept = subst (λ (b : Bool). MatchBool b ((e : Entry C R) × (w ≡ counting (seeing (log y0) v) e) × (e.caller ≡ caller) × enters (fixed y0)
            (log y0) caller call reply e × shares e.call) (w ≡ seeing (log y0) v)) (sym q) (
              g.0,
              k.4 ∙ (ap (λ (u : View C R F). leaving (counting u k.1)) view ∙
                  (λ i. record (counting (seeing (log y0) v) (entry i)) { out = sym idle i })),
              g.2,
              subst
                  (λ (y : S). enters (fixed y) (log y) caller call reply g.0) same g.3,
              g.4 granted,
            );
      })
      (λ h. absurd (omega (arith, grows, did.7, did.8, h.0))) path
  called v w y0 m m1 caller call reply before after is stays fit idle granted did path false q =
      let g = subst (λ (b : Bool). MatchBool b (Grew did.0 did.1 caller call reply) (log did.1 ≡ log did.0)) q did.6 in
      let same : did.0 ≡ y0 = in_hand did.0 y0 (sym did.2 ∙ ap (λ (n : Me S (View C R F)). n.1) is) in
      let view : m1.0 ≡ taking v (log y0) = ap (λ (n : Me S (View C R F)). n.0) did.3 ∙ ap (λ (n : Me S (View C R F)). n.0) is in
      let n = ap (λ (l : List (Entry C R)). length l) g in
      ⊎_elim
      (λ h. absurd (omega (arith, n, did.7, did.8, h.0)))
      (λ h. record {
        fixed = fixed y0;
        log = log y0;
        fixed_is = stays;
        fits = fit;
        answered = subst (λ (y : S). answers (fixed y) (log y) caller call reply) same did.5;
        kept = subst (λ (b : Bool). MatchBool b ((e : Entry C R) × (w ≡ counting (seeing (log y0) v) e) × (e.caller ≡ caller) × enters (fixed y0)
            (log y0) caller call reply e × shares e.call) (w ≡ seeing (log y0) v)) (sym q)
            (h.1 ∙ (ap leaving view ∙ (λ i. record v { out = sym idle i; seen = log y0 })));
      }) path

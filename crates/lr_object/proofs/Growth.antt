-- Logs that grow by calls.
use Rattle.std.proofs.Common.{◌≡◌, ℕ, List, [], ◌∷◌, ◌++◌, Bool, true, false, sym, ap, subst, ◌∙◌, append_assoc, append-nil}
use Rattle.std.specs.Prelude.{MatchBool}
use Rattle.lr_object.specs.declared.entry.Entry.{Entry}
use Rattle.lr_object.specs.Grown.{Grown, same, more}

module _ {F N T C R : Type 0} {answers : F → List (Entry N T) → ℕ → C → R → Type 0} {enters : F → List (Entry N T) → ℕ → C → R → Entry N T → Type 0} where
  -- one growth after another
  pub grown_then : {fixed : F} {a b c : List (Entry N T)} → Grown answers enters fixed a b → Grown answers enters fixed b c → Grown answers enters fixed a c
  grown_then h same = h
  grown_then h (more g call reply e answered entered) = more (grown_then h g) call reply e answered entered

  -- one entry more
  grown_one : (fixed : F) (old : List (Entry N T)) (caller : ℕ) (call : C) (reply : R) (e : Entry N T) → e.caller ≡ caller → answers fixed old caller call reply → enters fixed old caller call reply e → Grown answers enters fixed old (old ++ e ∷ [])
  grown_one fixed old caller call reply e by answered entered =
      more same call reply e
      (subst (λ k. answers fixed old k call reply) (sym by) answered)
      (subst (λ k. enters fixed old k call reply e) (sym by) entered)

  -- what one call does to a log
  pub grown_by : (opens : C → Type 0) (shares : N → Type 0) (is_logged : Bool) (fixed : F) (old new : List (Entry N T)) (caller : ℕ) (call : C) (reply : R) → answers fixed old caller call reply
      → MatchBool is_logged ((e : Entry N T) × (new ≡ old ++ e ∷ []) × (e.caller ≡ caller) × enters fixed old caller call reply e × (opens call → shares e.call)) (new ≡ old)
      → Grown answers enters fixed old new
  grown_by opens shares true fixed old new caller call reply answered h =
      subst (λ l. Grown answers enters fixed old l) (sym h.1) (grown_one fixed old caller call reply h.0 h.2 answered h.3)
  grown_by opens shares false fixed old new caller call reply answered h =
      subst (λ l. Grown answers enters fixed old l) (sym h) same

  -- a grown log begins with what it was
  pub grown_from : {fixed : F} {a b : List (Entry N T)} → Grown answers enters fixed a b → (since : List (Entry N T)) × (b ≡ a ++ since)
  grown_from {a = a} same = ([], sym (append-nil a))
  grown_from {a = a} (more {log = log} g call reply e answered entered) =
      let h = grown_from g in
      (h.0 ++ e ∷ [], ap (λ l. l ++ e ∷ []) h.1 ∙ append_assoc a h.0 (e ∷ []))

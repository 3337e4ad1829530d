-- Each step of the depot keeps it safe.
use Rattle.std.proofs.Common.{◌≡◌, ◌≢◌, ℕ, List, Option, Some, None, refl, sym, ap, subst, ◌∙◌, inl, inr}
use mathlib.Core.Logic.{◌⊎◌}
use Rattle.std.specs.FinMap as fin
use Rattle.std.specs.FinMap.{same_map}
use Rattle.lr_origin.specs.Kind.{kind_total, kind_exact}
use Rattle.lr_origin.specs.declared.key.KeyKind.{KeyKind}
use Rattle.lr_origin.specs.declared.key.KeyKind.TheVariants.{Expired, Deleted, Chunk, Manifest, Withdrawn}
use Rattle.lr_roots.specs.View.{Held, salt, manifest, bare}
use Rattle.lr_roots.specs.Sound.{Suits}
use Rattle.lr_rules.specs.Known.{Known, accepted, doubting}
use Rattle.lr_rules.specs.State.{State, target}
use Rattle.lr_rules.specs.Safe.{IsSafe}
use Rattle.lr_rules.specs.Calls.{knows}
use Rattle.lr_rules.specs.Steps as steps
use Rattle.lr_rules.specs.Steps.{Steps, Tries}
use Rattle.lr_rules.proofs.Keys.{cases_key, at_key, at_other}
use Rattle.lr_rules.proofs.Calls.{again_safe, rotate_safe, chunk_safe, withdraw_safe, delete_safe, expire_safe, sweep_safe, sweep_doubt_safe}
use Rattle.lr_rules.proofs.Manifests.{make_safe, making_safe, move_safe, moving_safe, doubt_suits, there_safe, absent_safe}
use Rattle.lr_rules.proofs.Sessions.{less_safe, open_safe, begin_create_safe, begin_move_safe}

-- a put that fails again leaves what is known as it was
again_failed : (s : Known) (k : KeyKind) (x : Held) → fin.get s.doubts k ≡ Some x → doubting s k x ≡ s
again_failed s k x here = ap (λ d. record { view = s.view; doubts = d }) (same_map kind_total kind_exact _ _ (λ q. by q (cases_key q k)))
  where
    by : (q : KeyKind) → (q ≡ k) ⊎ (q ≢ k) → fin.get (fin.insert s.doubts k x) q ≡ fin.get s.doubts q
    by q (inl e) = subst (λ l. fin.get (fin.insert s.doubts k x) l ≡ fin.get s.doubts l) (sym e) (at_key s.doubts k x ∙ sym here)
    by q (inr ne) = at_other s.doubts k x q ne

chunk_bare : (r : ℕ) (n : List ℕ) (y : Held) → Suits (Chunk r n) y → y ≡ bare
chunk_bare r n bare f = refl
chunk_bare r n (salt b) f = absurd f
chunk_bare r n (manifest m) f = absurd f

expired_bare : (r : ℕ) (y : Held) → Suits (Expired r) y → y ≡ bare
expired_bare r bare f = refl
expired_bare r (salt b) f = absurd f
expired_bare r (manifest m) f = absurd f

deleted_bare : (r : ℕ) (y : Held) → Suits (Deleted r) y → y ≡ bare
deleted_bare r bare f = refl
deleted_bare r (salt b) f = absurd f
deleted_bare r (manifest m) f = absurd f

withdrawn_bare : (n : List ℕ) (y : Held) → Suits (Withdrawn n) y → y ≡ bare
withdrawn_bare n bare f = refl
withdrawn_bare n (salt b) f = absurd f
withdrawn_bare n (manifest m) f = absurd f

either : (t a b : State) → IsSafe a × IsSafe b → (t ≡ a) ⊎ (t ≡ b) → IsSafe t
either t a b safe (inl e) = subst IsSafe (sym e) safe.0
either t a b safe (inr e) = subst IsSafe (sym e) safe.1

module _ (s : State) (h : IsSafe s) where
  -- a put on a key that is new or in doubt
  tried : (k : KeyKind) (t : State) → ((r : ℕ) (n : List ℕ) → Manifest r n ≢ k) → ((y : Held) → Suits k y → y ≡ bare)
      → (fin.get s.known.doubts k ≡ None → IsSafe (knows s (accepted s.known k bare)) × IsSafe (knows s (doubting s.known k bare)))
      → Tries s k t → IsSafe t
  tried k t none only new tries = by (fin.get s.known.doubts k) refl
    where
      again : (x : Held) → fin.get s.known.doubts k ≡ Some x → fin.get s.known.doubts k ≡ Some bare
      again x e = e ∙ ap Some (only x (doubt_suits s h k x e))

      by : (o : Option Held) → fin.get s.known.doubts k ≡ o → IsSafe t
      by None e = either t _ _ (new e) tries
      by (Some x) e = either t _ _ (again_safe s h k bare none (again x e), subst IsSafe (sym (ap (knows s) (again_failed s.known k bare (again x e)))) h) tries

  pub step_safe : (t : State) → Steps s t → IsSafe t
  step_safe t (steps.Rotates n bytes may e) = either t _ _ (rotate_safe s h n bytes may) e
  step_safe t (steps.PutsChunk n c j name may e) = tried (Chunk (target j) name) t (λ r i e. cc) (chunk_bare (target j) name) (chunk_safe s h n c j name may) e
  step_safe t (steps.Makes n c image r d m may e) = either t _ _ (make_safe s h n c image r d m may, making_safe s h n c image r d m may) e
  step_safe t (steps.FinishesMove n c image from to m may e) = either t _ _ (move_safe s h n c image from to m may, moving_safe s h n c image from to m may) e
  step_safe t (steps.Withdraws image may e) = tried (Withdrawn image) t (λ r i e. cc) (withdrawn_bare image) (withdraw_safe s h image may) e
  step_safe t (steps.Expires r may e) = tried (Expired r) t (λ r i e. cc) (expired_bare r) (expire_safe s h r may) e
  step_safe t (steps.Deletes r may e) = tried (Deleted r) t (λ r i e. cc) (deleted_bare r) (delete_safe s h r may) e
  step_safe t (steps.Sweeps r k x may e) = either t _ _ (sweep_safe s h r k x may, sweep_doubt_safe s h r k x may) e
  step_safe t (steps.Settles k x may e) = either t _ _ (there_safe s h k x may, absent_safe s h k x may) e
  step_safe t (steps.Opens image r m may e) = subst IsSafe (sym e) (open_safe s h image r m may)
  step_safe t (steps.BeginsCreate c image r may e) = subst IsSafe (sym e) (begin_create_safe s h c image r may)
  step_safe t (steps.BeginsMove c image from to m may e) = subst IsSafe (sym e) (begin_move_safe s h c image from to m may)
  step_safe t (steps.Ends d less e) = subst IsSafe (sym e) (less_safe s h d less)

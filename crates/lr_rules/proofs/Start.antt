-- A depot that starts over a sound view is safe.
use Rattle.std.proofs.Common.{ℕ, sym, subst, arith}
use Rattle.std.specs.Ordering.{nat_cmp}
use Rattle.std.specs.FinMap.{same_map, get-empty}
use Rattle.lr_origin.specs.Kind.{kind_cmp, kind_total, kind_exact}
use Rattle.lr_origin.specs.declared.key.KeyKind.TheVariants.{Manifest, Withdrawn}
use Rattle.lr_roots.specs.View.{View}
use Rattle.lr_rules.specs.Safe.{IsGood, IsSafe}
use Rattle.lr_rules.specs.Start.{started, MayStart}
use Rattle.lr_rules.proofs.Keys.{no_some}
use Rattle.lr_rules.proofs.Outcomes.{not_both}

pub start_safe : (v : View) (next : ℕ) → MayStart v next → IsSafe (started v next)
start_safe v next may = record {
  good = λ w t. subst (IsGood (started v next).desk) (same_map kind_total kind_exact _ _ (λ k. sym (t.known k (get-empty kind_cmp k)))) (record {
    sound = may.sound;
    leased = λ n i m e. absurd (not_both _ (i, m) (get-empty nat_cmp n) e);
    works = λ n j e. absurd (not_both _ j (get-empty nat_cmp n) e);
    numbered = may.numbered;
  });
  agrees = λ k x e. absurd (not_both _ x (get-empty kind_cmp k) e);
  doubted = λ r i m e away. absurd (not_both _ _ (get-empty kind_cmp (Manifest r i)) e);
  withdrawing = λ i some. absurd (no_some _ (get-empty kind_cmp (Withdrawn i)) some);
  named = λ n c i r d e. absurd (not_both _ _ (get-empty nat_cmp n) e);
  fresh = λ n c i r d e. absurd (not_both _ _ (get-empty nat_cmp n) e);
  alone = λ n m b c i q r d a e f. absurd (not_both _ _ (get-empty nat_cmp n) e);
  lease_numbers = λ n some. absurd (no_some _ (get-empty nat_cmp n) some);
  session_numbers = λ n some. absurd (no_some _ (get-empty nat_cmp n) some);
  first_lease = omega arith;
  first_session = omega arith;
  first_number = may.first;
  few = may.most;
  drawn = λ n c i r d e. absurd (not_both _ _ (get-empty nat_cmp n) e);
  made = λ n c i r d e some. absurd (not_both _ _ (get-empty nat_cmp n) e);
}

-- A store with fewer keys than a number has no such number of keys.
use Rattle.std.proofs.Common.{◌≡◌, ◌≤◌, ℕ, List, Bool, true, length, refl, ap, arith, Contains}
use Rattle.std.specs.declared.cmp.Ordering.{Ordering}
use Rattle.std.specs.declared.cmp.Ordering.TheVariants.{Less, Equal, Greater}
use Rattle.std.specs.Bool.{Decides}
use Rattle.std.specs.Ordering.{is_eq, eq_by_cmp}
use Rattle.std.specs.Cmp.{tied_itself}
use Rattle.std.specs.Cmp.Lexicographic.{nat_list_cmp_total}
use Rattle.std.specs.Set.{is_member}
use Rattle.std.proofs.Common.{subst}
use Rattle.std.proofs.lemmas.Cmp.{eq_by_cmp_equiv}
use Rattle.std.proofs.lemmas.Map.Keys.{IsDistinct-from_sorted}
use Rattle.std.proofs.lemmas.Map.Lookups.{exact_bytes}
use Rattle.std.proofs.lemmas.Map.Made.{is_member-Decides, length-le_from_is_member}
use Rattle.lr_origin.specs.Objects.{Objects, key_cmp}
use Rattle.lr_opening.specs.Listing.{HasFewer, HasMany}

same_keys : (a b : List ℕ) → Decides (eq_by_cmp key_cmp a b) (a ≡ b)
same_keys a b = (λ t. by (key_cmp a b) refl t, λ e. subst (λ k. eq_by_cmp key_cmp a k ≡ true) e (ap is_eq (tied_itself nat_list_cmp_total a)))
  where
    by : (o : Ordering) → key_cmp a b ≡ o → is_eq o ≡ true → a ≡ b
    by Less is t = cc
    by Equal is t = exact_bytes a b is
    by Greater is t = cc

pub fewer_not_many : (m : Objects) (n : ℕ) → HasFewer m n → HasMany m n → ⊥
fewer_not_many m n fewer many =
    let short : length many.0 ≤ length fewer.0 =
    length-le_from_is_member (eq_by_cmp_equiv nat_list_cmp_total) many.0 fewer.0 (IsDistinct-from_sorted key_cmp many.0 many.1.ascends)
    (λ q i. (is_member-Decides same_keys fewer.0 q).1 (fewer.1.all q (many.1.each q ((is_member-Decides same_keys many.0 q).0 i)))) in
    omega (arith, short, many.2, fewer.2)

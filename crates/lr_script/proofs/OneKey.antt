-- A text is that of one key.
use Rattle.std.proofs.Common.{◌≡◌, sym, ap, ◌∙◌, refl}
use Rattle.std.specs.Cmp.Lexicographic.{slice_cmp}
use Rattle.std.specs.Ordering.{nat_cmp, ordering_reverse}
use Rattle.std.specs.declared.cmp.Ordering.{Ordering}
use Rattle.std.specs.declared.cmp.Ordering.TheVariants.{Less, Equal, Greater}
use Rattle.lr_origin.specs.declared.key.KeyKind.{KeyKind}
use Rattle.lr_origin.specs.Text.{key_text, IsKind}
use Rattle.lr_origin.specs.Kind.{kind_cmp, kind_exact, kind_total}
use Rattle.lr_origin.proofs.TextOrder.{order_is_text}

self_reverse : (r : Ordering) → r ≡ ordering_reverse r → r ≡ Equal
self_reverse Less e = cc e
self_reverse Equal e = refl
self_reverse Greater e = cc e

pub one_settled : (j k : KeyKind) → IsKind j → IsKind k → key_text j ≡ key_text k → j ≡ k
one_settled j k h i e =
    let same : kind_cmp j k ≡ kind_cmp j j = sym (order_is_text j k h i) ∙ ap (slice_cmp nat_cmp (key_text j)) (sym e) ∙ order_is_text j j h h in
    kind_exact j k (same ∙ self_reverse (kind_cmp j j) (kind_total.antisymm j j))

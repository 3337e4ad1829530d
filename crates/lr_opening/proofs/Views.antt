-- A store has one view, and one that has a sound view has no foreign key.
use Rattle.std.proofs.Common.{◌≡◌, ℕ, List, Option, Some, None, refl, sym, ap, subst, ◌∙◌, inl, inr}
use Rattle.std.specs.declared.cmp.Ordering.{Ordering}
use Rattle.std.specs.declared.cmp.Ordering.TheVariants.{Less, Equal, Greater}
use Rattle.std.specs.Ordering.{ordering_reverse}
use Rattle.std.specs.Cmp.Lexicographic.{nat_list_cmp_total}
use Rattle.std.specs.FinMap as map
use Rattle.std.specs.FinMap.{same_map}
use Rattle.lr_manifest.proofs.Public.{unique}
use Rattle.lr_origin.specs.Kind.{kind_total, kind_exact}
use Rattle.lr_origin.specs.Objects.{Objects, key_cmp}
use Rattle.lr_origin.specs.Text.{key_text, IsKind}
use Rattle.lr_origin.specs.declared.key.KeyKind.{KeyKind}
use Rattle.lr_origin.specs.declared.key.KeyKind.TheVariants.{Root, Expired, Deleted, Chunk, Manifest, Withdrawn}
use Rattle.lr_origin.proofs.TextOrder.{order_is_text}
use Rattle.lr_roots.specs.View.{View, Held, salt, manifest, bare}
use Rattle.lr_roots.specs.Foreign.{IsForeign}
use Rattle.lr_roots.specs.Sound.{IsSound}
use Rattle.lr_opening.specs.Store.{Mirrors, IsBody, IsSame, IsMalformed, IsForeignKey}
use Rattle.lr_opening.proofs.Decided.{is_some}
use Rattle.lr_opening.proofs.Ruled.{sound_has_none_foreign}

same_reversed : (o : Ordering) → o ≡ ordering_reverse o → o ≡ Equal
same_reversed Less e = cc
same_reversed Equal e = refl
same_reversed Greater e = cc

pub text_itself : (q : List ℕ) → key_cmp q q ≡ Equal
text_itself q = same_reversed (key_cmp q q) (nat_list_cmp_total.antisymm q q)

-- kinds of the grammar with one text are one
pub key_text_injective : (j k : KeyKind) → IsKind j → IsKind k → key_text j ≡ key_text k → j ≡ k
key_text_injective j k a b e = kind_exact j k (sym (order_is_text j k a b) ∙ ap (key_cmp (key_text j)) (sym e) ∙ text_itself (key_text j))

-- what is kept of a body is determined
pub one_kept : (k : KeyKind) (x y : Held) (body : List ℕ) → IsBody k x body → IsBody k y body → x ≡ y
one_kept (Chunk r name) x y body a b = a ∙ sym b
one_kept (Root r) (salt s) (salt t) body a b = ap salt (sym a.1 ∙ b.1)
one_kept (Root r) (salt s) (manifest m) body a b = absurd b.0
one_kept (Root r) (salt s) bare body a b = absurd b.0
one_kept (Root r) (manifest m) y body a b = absurd a.0
one_kept (Root r) bare y body a b = absurd a.0
one_kept (Manifest r image) (manifest m) (manifest p) body a b = ap manifest (unique body m p (a.0.0, a.1) (b.0.0, b.1))
one_kept (Manifest r image) (manifest m) (salt s) body a b = absurd b.0
one_kept (Manifest r image) (manifest m) bare body a b = absurd b.0
one_kept (Manifest r image) (salt s) y body a b = absurd a.0
one_kept (Manifest r image) bare y body a b = absurd a.0
one_kept (Expired r) bare bare body a b = refl
one_kept (Expired r) bare (salt s) body a b = absurd b.0
one_kept (Expired r) bare (manifest m) body a b = absurd b.0
one_kept (Expired r) (salt s) y body a b = absurd a.0
one_kept (Expired r) (manifest m) y body a b = absurd a.0
one_kept (Deleted r) bare bare body a b = refl
one_kept (Deleted r) bare (salt s) body a b = absurd b.0
one_kept (Deleted r) bare (manifest m) body a b = absurd b.0
one_kept (Deleted r) (salt s) y body a b = absurd a.0
one_kept (Deleted r) (manifest m) y body a b = absurd a.0
one_kept (Withdrawn image) bare bare body a b = refl
one_kept (Withdrawn image) bare (salt s) body a b = absurd b.0
one_kept (Withdrawn image) bare (manifest m) body a b = absurd b.0
one_kept (Withdrawn image) (salt s) y body a b = absurd a.0
one_kept (Withdrawn image) (manifest m) y body a b = absurd a.0

-- an object and what the view has of it
pub same_seen : (k : KeyKind) (o : Option (List ℕ)) (x : Held) → IsSame k o (Some x) → (body : List ℕ) × (o ≡ Some body) × IsBody k x body
same_seen k (Some body) x s = (body, refl, s)
same_seen k None x s = absurd s

pub seen_same : (k : KeyKind) (body : List ℕ) (o : Option Held) → IsSame k (Some body) o → (x : Held) × (o ≡ Some x) × IsBody k x body
seen_same k body (Some x) s = (x, refl, s)
seen_same k body None s = absurd s

module _ (m : Objects) (v w : View) (of_v : Mirrors m v) (of_w : Mirrors m w) where
  also : (k : KeyKind) (x : Held) → map.get v k ≡ Some x → map.get w k ≡ Some x
  also k x e =
      let i : IsKind k = of_v.kinds k (is_some (map.get v k) x e) in
      let a = same_seen k (map.get m (key_text k)) x (subst (IsSame k (map.get m (key_text k))) e (of_v.each k i)) in
      let b = seen_same k a.0 (map.get w k) (subst (λ o. IsSame k o (map.get w k)) a.1 (of_w.each k i)) in
      b.1 ∙ ap Some (one_kept k b.0 x a.0 b.2 a.2)

pub one_view : (m : Objects) (v w : View) → Mirrors m v → Mirrors m w → v ≡ w
one_view m v w of_v of_w = same_map kind_total kind_exact v w (λ k. by k (map.get v k) (map.get w k) refl refl)
  where
    by : (k : KeyKind) (a b : Option Held) → map.get v k ≡ a → map.get w k ≡ b → map.get v k ≡ map.get w k
    by k (Some x) b e f = e ∙ sym (also m v w of_v of_w k x e)
    by k None (Some y) e f = also m w v of_w of_v k y f ∙ sym f
    by k None None e f = e ∙ sym f

pub sound_store_is_not_foreign : (m : Objects) (v : View) → Mirrors m v → IsSound v → (q : List ℕ) → IsForeignKey m q → ⊥
sound_store_is_not_foreign m v of_v sound q foreign = by foreign
  where
    well : IsMalformed m q → ⊥
    well h =
        let k = of_v.only q (is_some (map.get m q) h.0 h.1) in
        let same : IsSame k.0 (Some h.0) (map.get v k.0) = subst (λ o. IsSame k.0 o (map.get v k.0)) (ap (map.get m) (sym k.2) ∙ h.1) (of_v.each k.0 k.1) in
        let x = seen_same k.0 h.0 (map.get v k.0) same in
        h.2 k.0 x.0 k.1 k.2 x.2

    by : IsForeignKey m q → ⊥
    by (inl first) = well first.0
    by (inr h) = sound_has_none_foreign v sound h.2.0 (subst (λ w. IsForeign w h.2.0) (one_view m h.0 v h.1 of_v) h.2.1.0)

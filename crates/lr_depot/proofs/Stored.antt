-- One put in the store, in what is known, and in the ways in which the doubts can come out.
use Rattle.std.proofs.Common.{◌≡◌, ◌≢◌, ℕ, List, Option, Some, None, IsSome, length, refl, sym, ap, subst, ◌∙◌, inl, inr}
use mathlib.Core.Logic.{◌⊎◌}
use Rattle.std.specs.Cmp.Lexicographic.{nat_list_cmp_total}
use Rattle.std.specs.Cmp.{tied_itself}
use Rattle.std.specs.FinMap as map
use Rattle.std.specs.FinMap.{IsAntisymmetric, slice_cmp-IsAntisymmetric, nat_cmp-IsAntisymmetric}
use Rattle.sha2.specs.Sha256.{sha256}
use Rattle.lr_origin.specs.Objects.{Objects, key_cmp}
use Rattle.lr_origin.specs.Kind.{kind_exact}
use Rattle.lr_origin.specs.Text.{key_text, IsKind}
use Rattle.lr_origin.specs.declared.key.KeyKind.{KeyKind}
use Rattle.lr_origin.specs.declared.key.KeyKind.TheVariants.{Chunk}
use Rattle.lr_origin.proofs.TextOrder.{order_is_text}
use Rattle.lr_roots.specs.View.{View, Held, Lacks}
use Rattle.lr_opening.specs.Store.{Mirrors, IsSame, IsBody, HasChunks}
use Rattle.lr_rules.specs.Known.{Known, Settles, Agrees, accepted, doubting, removed, dismissed}
use Rattle.lr_rules.specs.State.{State}
use Rattle.lr_rules.proofs.Doubts.{same_some}
use Rattle.lr_rules.proofs.Keys.{no_some, cases_key, at_key, at_other, gone_key, gone_other, was_there}
use Rattle.lr_rules.proofs.Maps as maps
use Rattle.lr_rules.proofs.Outcomes.{not_both, settles_but}
use Rattle.lr_rules.proofs.Sound.{split}
use Rattle.lr_depot.specs.declared.put.PutEnd.{PutEnd}
use Rattle.lr_depot.specs.declared.put.PutEnd.TheVariants.{Kept as Done, Fault as Failed, Spoiled as Bad, OutOfMemory as Unmade}
use Rattle.lr_depot.specs.Put.{PutsKey}
use Rattle.lr_depot.specs.Store.{Puts, MayRemove, Follows}

exact : IsAntisymmetric key_cmp
exact = slice_cmp-IsAntisymmetric nat_cmp-IsAntisymmetric

-- kinds of the grammar with one text are one
one_text : (j k : KeyKind) → IsKind j → IsKind k → key_text j ≡ key_text k → j ≡ k
one_text j k a b e = kind_exact j k (sym (order_is_text j k a b) ∙ ap (key_cmp (key_text j)) (sym e) ∙ tied_itself nat_list_cmp_total (key_text j))

object_there : (m : Objects) (q body : List ℕ) → map.get (map.insert m q body) q ≡ Some body
object_there = maps.put_there key_cmp nat_list_cmp_total exact

object_other : (m : Objects) (t body q : List ℕ) → q ≢ t → map.get (map.insert m t body) q ≡ map.get m q
object_other = maps.put_beside key_cmp nat_list_cmp_total exact

pub mirrors_put : (m : Objects) (v : View) (k : KeyKind) (x : Held) (body : List ℕ) → IsKind k → IsBody k x body → Mirrors m v → Mirrors (map.insert m (key_text k) body) (map.insert v k x)
mirrors_put m v k x body of is h = record {
  each = λ q i. each q i (cases_key q k);
  kinds = λ q has. elim (split v k x q has) [ inl e ↦ subst IsKind (sym e) of | inr old ↦ h.kinds q old ];
  only = λ q some. only q some (maps.cases key_cmp nat_list_cmp_total exact q (key_text k));
}
  where
    each : (q : KeyKind) → IsKind q → (q ≡ k) ⊎ (q ≢ k) → IsSame q (map.get (map.insert m (key_text k) body) (key_text q)) (map.get (map.insert v k x) q)
    each q i (inl e) =
        subst (λ q. IsSame q (map.get (map.insert m (key_text k) body) (key_text q)) (map.get (map.insert v k x) q)) (sym e)
        (subst (λ o. IsSame k o (map.get (map.insert v k x) k)) (sym (object_there m (key_text k) body)) (subst (λ o. IsSame k (Some body) o) (sym (at_key v k x)) is))
    each q i (inr ne) =
        subst (λ o. IsSame q o (map.get (map.insert v k x) q)) (sym (object_other m (key_text k) body (key_text q) (λ e. ne (one_text q k i of e))))
        (subst (λ o. IsSame q (map.get m (key_text q)) o) (sym (at_other v k x q ne)) (h.each q i))

    only : (q : List ℕ) → IsSome (map.get (map.insert m (key_text k) body) q) → (q ≡ key_text k) ⊎ (q ≢ key_text k) → (j : KeyKind) × IsKind j × (q ≡ key_text j)
    only q some (inl e) = (k, of, e)
    only q some (inr ne) = h.only q (subst IsSome (object_other m (key_text k) body q ne) some)

-- an object where the view has a key, and none where it has none
pub object_seen : (k : KeyKind) (o : Option (List ℕ)) (x : Option Held) → IsSame k o x → IsSome o → IsSome x
object_seen k None x same has = absurd cc
object_seen k (Some b) (Some x) same has = refl
object_seen k (Some b) None same has = absurd same

pub seen_object : (k : KeyKind) (o : Option (List ℕ)) (x : Option Held) → IsSame k o x → IsSome x → (body : List ℕ) × (o ≡ Some body)
seen_object k (Some b) x same has = (b, refl)
seen_object k None (Some x) same has = absurd same
seen_object k None None same has = absurd cc

-- the ways out after a change, from those before it
module _ (s : Known) (k : KeyKind) (x : Held) (v : View) (t : Settles s v) where
  settled_put : Settles (accepted s k x) (map.insert v k x)
  settled_put =
      settles_but (accepted s k x) s k v (map.insert v k x) (λ q ne. sym (gone_other s.doubts k q ne)) (λ q ne. sym (at_other s.view k x q ne)) (at_other v k x)
      (λ none. at_key v k x ∙ sym (at_key s.view k x)) (λ y some. absurd (not_both _ y (gone_key s.doubts k) some)) t

  settled_there : map.get v k ≡ Some x → Settles (accepted s k x) v
  settled_there here =
      settles_but (accepted s k x) s k v v (λ q ne. sym (gone_other s.doubts k q ne)) (λ q ne. sym (at_other s.view k x q ne)) (λ q ne. refl)
      (λ none. here ∙ sym (at_key s.view k x)) (λ y some. absurd (not_both _ y (gone_key s.doubts k) some)) t

  doubt_away : (map.get v k ≡ None) ⊎ (map.get v k ≡ Some x) → Settles (doubting s k x) v
  doubt_away way =
      settles_but (doubting s k x) s k v v (λ q ne. sym (at_other s.doubts k x q ne)) (λ q ne. refl) (λ q ne. refl) (λ none. absurd (not_both _ x none (at_key s.doubts k x)))
      (λ y some. subst (λ y. (map.get v k ≡ None) ⊎ (map.get v k ≡ Some y)) (same_some x y (sym (at_key s.doubts k x) ∙ some)) way) t

  doubt_there : Settles (doubting s k x) (map.insert v k x)
  doubt_there =
      settles_but (doubting s k x) s k v (map.insert v k x) (λ q ne. sym (at_other s.doubts k x q ne)) (λ q ne. refl) (at_other v k x)
      (λ none. absurd (not_both _ x none (at_key s.doubts k x))) (λ y some. inr (at_key v k x ∙ sym (at_key s.doubts k x) ∙ some)) t

-- where what is known is the same, and the objects are
pub same_follows : (s : Known) (m n : Objects) → Some n ≡ Some m → Follows s m → Follows s n
same_follows s m n e h = subst (Follows s) (sym (same_some n m e)) h

module _ (s : State) (k : KeyKind) (x : Held) (body : List ℕ) (of : IsKind k) (absent : Lacks s.known.view k) (kept : (y : Held) → map.get s.known.doubts k ≡ Some y → y ≡ x) (is : IsBody k x body) where
  -- what may be there of the key
  ways : (v : View) → Settles s.known v → (map.get v k ≡ None) ⊎ (map.get v k ≡ Some x)
  ways v t = by (map.get s.known.doubts k) refl
    where
      by : (o : Option Held) → map.get s.known.doubts k ≡ o → (map.get v k ≡ None) ⊎ (map.get v k ≡ Some x)
      by None e = inl (t.known k e ∙ absent)
      by (Some y) e = elim (t.doubted k y e) [ inl n ↦ inl n | inr h ↦ inr (h ∙ ap Some (kept y e)) ]

  -- the whole of one put
  pub put_follows : (end : PutEnd) (t : Known) (m n : Objects) → PutsKey s.known k x end t → Puts s k body end m (Some n) → Follows s.known m → Follows t n
  put_follows Done t m n e (inl p) h =
      subst (λ t. Follows t n) (sym e) (subst (Follows (accepted s.known k x)) (sym (same_some n _ p.1)) (map.insert h.0 k x, settled_put s.known k x h.0 h.1, mirrors_put m h.0 k x body of is h.2))
  put_follows Done t m n e (inr p) h =
      subst (λ t. Follows t n) (sym e) (same_follows (accepted s.known k x) m n p.2
      (h.0, settled_there s.known k x h.0 h.1 (elim (ways h.0 h.1) [ inl none ↦ absurd (no_some _ none (object_seen k _ _ (h.2.each k of) p.0)) | inr here ↦ here ]), h.2))
  put_follows Failed t m n e (inl p) h =
      subst (λ t. Follows t n) (sym e) (same_follows (doubting s.known k x) m n p (h.0, doubt_away s.known k x h.0 h.1 (ways h.0 h.1), h.2))
  put_follows Failed t m n e (inr p) h =
      subst (λ t. Follows t n) (sym e) (subst (Follows (doubting s.known k x)) (sym (same_some n _ p.1)) (map.insert h.0 k x, doubt_there s.known k x h.0 h.1, mirrors_put m h.0 k x body of is h.2))
  put_follows Bad t m n e p h = subst (λ t. Follows t n) (sym e.0) (same_follows s.known m n p.1 h)
  put_follows Unmade t m n e p h = subst (λ t. Follows t n) (sym e) (same_follows s.known m n p h)

-- where the store follows, an object that isn't known was put in doubt
pub known_object : (s : Known) (k : KeyKind) (m : Objects) → IsKind k → Lacks s.view k → map.get s.doubts k ≡ None → Follows s m → IsSome (map.get m (key_text k)) → ⊥
known_object s k m of absent sure h some = no_some _ (h.1.known k sure ∙ absent) (object_seen k _ _ (h.2.each k of) some)

-- A put of another body than a chunk's, or of a chunk under its name, leaves chunks under their names.
module _ (k : KeyKind) (body : List ℕ) (of : IsKind k) (named : (r : ℕ) (name : List ℕ) → k ≡ Chunk r name → (length body ≡ 524288) × (sha256 body ≡ name)) where
  chunks_put : (m : Objects) → HasChunks m → HasChunks (map.insert m (key_text k) body)
  chunks_put m h r name b i e = by (cases_key (Chunk r name) k)
    where
      by : (Chunk r name ≡ k) ⊎ (Chunk r name ≢ k) → (length b ≡ 524288) × (sha256 b ≡ name)
      by (inl same) =
          let text : map.get (map.insert m (key_text k) body) (key_text (Chunk r name)) ≡ Some body = ap (λ q. map.get (map.insert m (key_text k) body) (key_text q)) same ∙ object_there m (key_text k) body in
          subst (λ c. (length c ≡ 524288) × (sha256 c ≡ name)) (same_some body b (sym text ∙ e)) (named r name (sym same))
      by (inr other) = h r name b i (sym (object_other m (key_text k) body (key_text (Chunk r name)) (λ f. other (one_text (Chunk r name) k i of f))) ∙ e)

  pub put_chunks : (s : State) (end : PutEnd) (m n : Objects) → Puts s k body end m (Some n) → HasChunks m → HasChunks n
  put_chunks s Done m n (inl p) h = subst HasChunks (sym (same_some n _ p.1)) (chunks_put m h)
  put_chunks s Done m n (inr p) h = subst HasChunks (sym (same_some n m p.2)) h
  put_chunks s Failed m n (inl p) h = subst HasChunks (sym (same_some n m p)) h
  put_chunks s Failed m n (inr p) h = subst HasChunks (sym (same_some n _ p.1)) (chunks_put m h)
  put_chunks s Bad m n p h = subst HasChunks (sym (same_some n m p.1)) h
  put_chunks s Unmade m n p h = subst HasChunks (sym (same_some n m p)) h

object_gone : (m : Objects) (t : List ℕ) → map.get (map.remove m t) t ≡ None
object_gone = maps.gone key_cmp nat_list_cmp_total exact

object_left : (m : Objects) (t q : List ℕ) → q ≢ t → map.get (map.remove m t) q ≡ map.get m q
object_left = maps.gone_beside key_cmp nat_list_cmp_total exact

-- without a key and its object
mirrors_removed : (m : Objects) (v : View) (k : KeyKind) → IsKind k → Mirrors m v → Mirrors (map.remove m (key_text k)) (map.remove v k)
mirrors_removed m v k of h = record {
  each = λ q i. each q i (cases_key q k);
  kinds = λ q has. h.kinds q (was_there v k q has);
  only = λ q some. only q some (maps.cases key_cmp nat_list_cmp_total exact q (key_text k));
}
  where
    each : (q : KeyKind) → IsKind q → (q ≡ k) ⊎ (q ≢ k) → IsSame q (map.get (map.remove m (key_text k)) (key_text q)) (map.get (map.remove v k) q)
    each q i (inl e) =
        subst (λ q. IsSame q (map.get (map.remove m (key_text k)) (key_text q)) (map.get (map.remove v k) q)) (sym e)
        (subst (λ o. IsSame k o (map.get (map.remove v k) k)) (sym (object_gone m (key_text k))) (subst (λ o. IsSame k None o) (sym (gone_key v k)) tt))
    each q i (inr ne) =
        subst (λ o. IsSame q o (map.get (map.remove v k) q)) (sym (object_left m (key_text k) (key_text q) (λ e. ne (one_text q k i of e))))
        (subst (λ o. IsSame q (map.get m (key_text q)) o) (sym (gone_other v k q ne)) (h.each q i))

    only : (q : List ℕ) → IsSome (map.get (map.remove m (key_text k)) q) → (q ≡ key_text k) ⊎ (q ≢ key_text k) → (j : KeyKind) × IsKind j × (q ≡ key_text j)
    only q some (inl e) = (k, of, e)
    only q some (inr ne) = h.only q (subst IsSome (object_left m (key_text k) q ne) some)

-- A deletion of a key of the view.
module _ (s : Known) (agrees : Agrees s) (k : KeyKind) (x : Held) (of : IsKind k) (here : map.get s.view k ≡ Some x) where
  -- what may be there of the key
  left_ways : (v : View) → Settles s v → (map.get v k ≡ None) ⊎ (map.get v k ≡ Some x)
  left_ways v t = by (map.get s.doubts k) refl
    where
      kept : (y : Held) → map.get s.doubts k ≡ Some y → y ≡ x
      kept y e = elim (agrees k y e) [ inl away ↦ absurd (not_both _ x away here) | inr there ↦ same_some y x (sym there.0 ∙ here) ]

      by : (o : Option Held) → map.get s.doubts k ≡ o → (map.get v k ≡ None) ⊎ (map.get v k ≡ Some x)
      by None e = inr (t.known k e ∙ here)
      by (Some y) e = elim (t.doubted k y e) [ inl n ↦ inl n | inr h ↦ inr (h ∙ ap Some (kept y e)) ]

  settled_gone : (v : View) → Settles s v → Settles (removed s k) (map.remove v k)
  settled_gone v t =
      settles_but (removed s k) s k v (map.remove v k) (λ q ne. sym (gone_other s.doubts k q ne)) (λ q ne. sym (gone_other s.view k q ne)) (gone_other v k)
      (λ none. gone_key v k ∙ sym (gone_key s.view k)) (λ y some. absurd (not_both _ y (gone_key s.doubts k) some)) t

  doubt_gone : (v : View) → Settles s v → Settles (doubting s k x) (map.remove v k)
  doubt_gone v t =
      settles_but (doubting s k x) s k v (map.remove v k) (λ q ne. sym (at_other s.doubts k x q ne)) (λ q ne. refl) (gone_other v k)
      (λ none. absurd (not_both _ x none (at_key s.doubts k x))) (λ y some. inl (gone_key v k)) t

  pub removed_follows : (m o : Objects) → Some o ≡ Some (map.remove m (key_text k)) → Follows s m → Follows (removed s k) o
  removed_follows m o e h = subst (Follows (removed s k)) (sym (same_some o _ e)) (map.remove h.0 k, settled_gone h.0 h.1, mirrors_removed m h.0 k of h.2)

  pub removing_follows : (m o : Objects) → MayRemove k m (Some o) → Follows s m → Follows (doubting s k x) o
  removing_follows m o (inl e) h = same_follows (doubting s k x) m o e (h.0, doubt_away s k x h.0 h.1 (left_ways h.0 h.1), h.2)
  removing_follows m o (inr e) h = subst (Follows (doubting s k x)) (sym (same_some o _ e)) (map.remove h.0 k, doubt_gone h.0 h.1, mirrors_removed m h.0 k of h.2)

-- a deletion leaves chunks under their names
gone_chunks : (m : Objects) (t : List ℕ) → HasChunks m → HasChunks (map.remove m t)
gone_chunks m t h r name b i e = by (maps.cases key_cmp nat_list_cmp_total exact (key_text (Chunk r name)) t)
  where
    by : (key_text (Chunk r name) ≡ t) ⊎ (key_text (Chunk r name) ≢ t) → (length b ≡ 524288) × (sha256 b ≡ name)
    by (inl same) = absurd (not_both _ b (ap (map.get (map.remove m t)) same ∙ object_gone m t) e)
    by (inr ne) = h r name b i (sym (object_left m t (key_text (Chunk r name)) ne) ∙ e)

pub removed_chunks : (m o : Objects) (t : List ℕ) → Some o ≡ Some (map.remove m t) → HasChunks m → HasChunks o
removed_chunks m o t e h = subst HasChunks (sym (same_some o _ e)) (gone_chunks m t h)

pub removing_chunks : (k : KeyKind) (m o : Objects) → MayRemove k m (Some o) → HasChunks m → HasChunks o
removing_chunks k m o (inl e) h = subst HasChunks (sym (same_some o m e)) h
removing_chunks k m o (inr e) h = removed_chunks m o (key_text k) e h

-- A look at a key whose put is in doubt.
module _ (s : Known) (k : KeyKind) (x : Held) (m : Objects) (of : IsKind k) (here : map.get s.doubts k ≡ Some x) (absent : Lacks s.view k) (h : Follows s m) where
  -- an object that is there is what was put
  pub look_there : (body : List ℕ) → map.get m (key_text k) ≡ Some body → map.get h.0 k ≡ Some x
  look_there body found = elim (h.1.doubted k x here) [
    | inl none ↦ absurd (no_some _ none (object_seen k _ _ (h.2.each k of) (subst IsSome (sym found) refl)))
    | inr there ↦ there
  ]

  pub look_body : (body : List ℕ) → map.get m (key_text k) ≡ Some body → IsBody k x body
  look_body body found = subst (λ o. IsSame k (Some body) o) (look_there body found) (subst (λ o. IsSame k o (map.get h.0 k)) found (h.2.each k of))

  pub found_follows : (body : List ℕ) → map.get m (key_text k) ≡ Some body → Follows (accepted s k x) m
  found_follows body found = (h.0, settled_there s k x h.0 h.1 (look_there body found), h.2)

  pub missed_follows : map.get m (key_text k) ≡ None → Follows (dismissed s k) m
  missed_follows none = (
    h.0,
    settles_but (dismissed s k) s k h.0 h.0 (λ q ne. sym (gone_other s.doubts k q ne)) (λ q ne. refl) (λ q ne. refl)
        (λ sure. away (map.get h.0 k) refl ∙ sym absent) (λ y some. absurd (not_both _ y (gone_key s.doubts k) some)) h.1,
    h.2,
  )
    where
      away : (o : Option Held) → map.get h.0 k ≡ o → map.get h.0 k ≡ None
      away None e = e
      away (Some y) e = absurd (subst (λ o. IsSame k None o) e (subst (λ o. IsSame k o (map.get h.0 k)) none (h.2.each k of)))

-- Which sessions made the puts of manifests that are in doubt, after each change of what is known.
use Rattle.std.proofs.Common.{◌≡◌, ◌≢◌, ℕ, List, None, IsSome, sym, ap, subst, ◌∙◌, inl, inr}
use mathlib.Core.Logic.{◌⊎◌}
use Rattle.std.specs.FinMap as map
use Rattle.std.specs.FinMap.{get-empty}
use Rattle.lr_origin.specs.Kind.{kind_cmp}
use Rattle.lr_origin.specs.declared.key.KeyKind.{KeyKind}
use Rattle.lr_origin.specs.declared.key.KeyKind.TheVariants.{Root, Expired, Deleted, Chunk, Manifest, Withdrawn}
use Rattle.lr_roots.specs.View.{View, Held, Has, Lacks}
use Rattle.lr_rules.specs.Known.{Known, accepted, dismissed}
use Rattle.lr_rules.proofs.Keys.{no_some, cases_key, at_key, at_other, gone_key, gone_other, was_there}
use Rattle.lr_rules.proofs.Sound.{lacked}
use Rattle.lr_depot.specs.declared.put.PutEnd.{PutEnd}
use Rattle.lr_depot.specs.declared.put.PutEnd.TheVariants.{Kept as Done, Fault as Failed, Spoiled as Bad, OutOfMemory as Unmade}
use Rattle.lr_depot.specs.declared.deletion.DeletionEnd.{DeletionEnd}
use Rattle.lr_depot.specs.declared.deletion.DeletionEnd.TheVariants as deletion
use Rattle.lr_depot.specs.Put.{PutsKey}
use Rattle.lr_depot.specs.Deletion.{DeletesKey}
use Rattle.lr_depot.specs.Kernel.{Makers}

-- the two tables are the same at each manifest whose put is in doubt
abbrev pub AreAlike : Known → Makers → Makers → Type 0
AreAlike s mine own =
    (r : ℕ) (image : List ℕ) → IsSome (map.get s.doubts (Manifest r image)) → Lacks s.view (Manifest r image) → map.get mine (Manifest r image) ≡ map.get own (Manifest r image)

-- no key is in doubt
pub none_doubted : (doubts : View) → doubts ≡ map.empty → (k : KeyKind) → IsSome (map.get doubts k) → ⊥
none_doubted doubts e k some = no_some _ (ap (λ (d : View). map.get d k) e ∙ get-empty kind_cmp k) some

-- a manifest's key
abbrev IsManifestKey : KeyKind → Type 0
IsManifestKey (Manifest r image) = Unit {0}
IsManifestKey k = ⊥

-- keys that are none
pub other_root : (k : KeyKind) (n : ℕ) → k ≡ Root n → (r : ℕ) (image : List ℕ) → Manifest r image ≢ k
other_root k n is r image e = subst IsManifestKey (e ∙ is) tt

pub other_chunk : (k : KeyKind) (n : ℕ) (name : List ℕ) → k ≡ Chunk n name → (r : ℕ) (image : List ℕ) → Manifest r image ≢ k
other_chunk k n name is r image e = subst IsManifestKey (e ∙ is) tt

pub other_withdrawn : (k : KeyKind) (i : List ℕ) → k ≡ Withdrawn i → (r : ℕ) (image : List ℕ) → Manifest r image ≢ k
other_withdrawn k i is r image e = subst IsManifestKey (e ∙ is) tt

pub other_expired : (k : KeyKind) (n : ℕ) → k ≡ Expired n → (r : ℕ) (image : List ℕ) → Manifest r image ≢ k
other_expired k n is r image e = subst IsManifestKey (e ∙ is) tt

pub other_deleted : (k : KeyKind) (n : ℕ) → k ≡ Deleted n → (r : ℕ) (image : List ℕ) → Manifest r image ≢ k
other_deleted k n is r image e = subst IsManifestKey (e ∙ is) tt

-- A change of a key that is no manifest.
module _ (s : Known) (mine own : Makers) (alike : AreAlike s mine own) (k : KeyKind) (x : Held) (other : (r : ℕ) (image : List ℕ) → Manifest r image ≢ k) where
  pub plain_put : (end : PutEnd) (t : Known) → PutsKey s k x end t → AreAlike t mine own
  plain_put Done t e = subst (λ t. AreAlike t mine own) (sym e) (λ r image some away. alike r image (was_there s.doubts k (Manifest r image) some) (lacked s.view k x (Manifest r image) away))
  plain_put Failed t e = subst (λ t. AreAlike t mine own) (sym e) (λ r image some away. alike r image (subst IsSome (at_other s.doubts k x (Manifest r image) (other r image)) some) away)
  plain_put Bad t e = subst (λ t. AreAlike t mine own) (sym e.0) alike
  plain_put Unmade t e = subst (λ t. AreAlike t mine own) (sym e) alike

-- A change of a key that is in doubt no more.
module _ (s : Known) (mine own : Makers) (alike : AreAlike s mine own) (k : KeyKind) where
  -- its own entry goes
  entry_gone : (r : ℕ) (image : List ℕ) → Manifest r image ≢ k → IsSome (map.get s.doubts (Manifest r image)) → Lacks s.view (Manifest r image) → map.get (map.remove mine k) (Manifest r image) ≡ map.get own (Manifest r image)
  entry_gone r image ne some away = gone_other mine k (Manifest r image) ne ∙ alike r image some away

  unlike : (d : View) → map.get d k ≡ None → (r : ℕ) (image : List ℕ) → IsSome (map.get d (Manifest r image)) → Manifest r image ≢ k
  unlike d none r image some e = no_some _ (ap (map.get d) e ∙ none) some

  pub settled_alike : (x : Held) → AreAlike (accepted s k x) (map.remove mine k) own
  settled_alike x r image some away = entry_gone r image (unlike (map.remove s.doubts k) (gone_key s.doubts k) r image some) (was_there s.doubts k (Manifest r image) some) (lacked s.view k x (Manifest r image) away)

  pub dismissed_alike : AreAlike (dismissed s k) (map.remove mine k) own
  dismissed_alike r image some away = entry_gone r image (unlike (map.remove s.doubts k) (gone_key s.doubts k) r image some) (was_there s.doubts k (Manifest r image) some) away

-- A put of a manifest that isn't in doubt, noted with its session.
module _ (s : Known) (mine own : Makers) (alike : AreAlike s mine own) (k : KeyKind) (x : Held) (n : ℕ) (sure : map.get s.doubts k ≡ None) where
  noted_gone : (r : ℕ) (image : List ℕ) → Manifest r image ≢ k → map.get (map.remove (map.insert mine k n) k) (Manifest r image) ≡ map.get mine (Manifest r image)
  noted_gone r image ne = gone_other (map.insert mine k n) k (Manifest r image) ne ∙ at_other mine k n (Manifest r image) ne

  apart : (r : ℕ) (image : List ℕ) → IsSome (map.get s.doubts (Manifest r image)) → Manifest r image ≢ k
  apart r image some e = no_some _ (ap (map.get s.doubts) e ∙ sure) some

  -- it is acknowledged
  pub own_done : (t : Known) → PutsKey s k x Done t → AreAlike t (map.remove (map.insert mine k n) k) own
  own_done t e = subst (λ t. AreAlike t (map.remove (map.insert mine k n) k) own) (sym e) (λ r image some away.
      let old : IsSome (map.get s.doubts (Manifest r image)) = was_there s.doubts k (Manifest r image) some in
      noted_gone r image (apart r image old) ∙ alike r image old (lacked s.view k x (Manifest r image) away))

  -- it leaves all as it was
  pub own_same : (t : Known) → t ≡ s → AreAlike t (map.remove (map.insert mine k n) k) own
  own_same t e = subst (λ t. AreAlike t (map.remove (map.insert mine k n) k) own) (sym e) (λ r image some away. noted_gone r image (apart r image some) ∙ alike r image some away)

  -- it failed
  pub own_failed : (t : Known) → PutsKey s k x Failed t → AreAlike t (map.insert mine k n) (map.insert own k n)
  own_failed t e = subst (λ t. AreAlike t (map.insert mine k n) (map.insert own k n)) (sym e) (λ r image some away. by r image some away (cases_key (Manifest r image) k))
    where
      by : (r : ℕ) (image : List ℕ) → IsSome (map.get (map.insert s.doubts k x) (Manifest r image)) → Lacks s.view (Manifest r image) → (Manifest r image ≡ k) ⊎ (Manifest r image ≢ k) → map.get (map.insert mine k n) (Manifest r image) ≡ map.get (map.insert own k n) (Manifest r image)
      by r image some away (inl same) = ap (map.get (map.insert mine k n)) same ∙ at_key mine k n ∙ sym (ap (map.get (map.insert own k n)) same ∙ at_key own k n)
      by r image some away (inr ne) =
          at_other mine k n (Manifest r image) ne ∙ alike r image (subst IsSome (at_other s.doubts k x (Manifest r image) ne) some) away ∙ sym (at_other own k n (Manifest r image) ne)

-- A put of a manifest, with the tables as the code has them.
module _ (s : Known) (mine own : Makers) (alike : AreAlike s mine own) (k j : KeyKind) (x : Held) (n : ℕ) (sure : map.get s.doubts k ≡ None) (same : k ≡ j) (mid : Makers) (noted : mid ≡ map.insert mine k n) where
  pub noted_failed : (t : Known) → PutsKey s k x Failed t → AreAlike t mid (map.insert own j n)
  noted_failed t e = subst (λ j. AreAlike t mid (map.insert own j n)) same (subst (λ m. AreAlike t m (map.insert own k n)) (sym noted) (own_failed s mine own alike k x n sure t e))

  pub noted_done : (t : Known) (new : Makers) → PutsKey s k x Done t → new ≡ map.remove mid k → AreAlike t new own
  noted_done t new e gone = subst (λ m. AreAlike t m own) (sym (gone ∙ ap (λ m. map.remove m k) noted)) (own_done s mine own alike k x n sure t e)

  pub noted_same : (t : Known) (new : Makers) → t ≡ s → new ≡ map.remove mid k → AreAlike t new own
  noted_same t new e gone = subst (λ m. AreAlike t m own) (sym (gone ∙ ap (λ m. map.remove m k) noted)) (own_same s mine own alike k x n sure t e)

-- A deletion of a key that the view has.
module _ (s : Known) (mine own : Makers) (alike : AreAlike s mine own) (k : KeyKind) (x : Held) (has : Has s.view k) where
  pub deleted_alike : (end : DeletionEnd) (t : Known) → DeletesKey s k x end t → AreAlike t mine own
  deleted_alike deletion.Removed t e = subst (λ t. AreAlike t mine own) (sym e) (λ r image some away. by r image some away (cases_key (Manifest r image) k))
    where
      by : (r : ℕ) (image : List ℕ) → IsSome (map.get (map.remove s.doubts k) (Manifest r image)) → Lacks (map.remove s.view k) (Manifest r image) → (Manifest r image ≡ k) ⊎ (Manifest r image ≢ k) → map.get mine (Manifest r image) ≡ map.get own (Manifest r image)
      by r image some away (inl same) = absurd (no_some _ (ap (map.get (map.remove s.doubts k)) same ∙ gone_key s.doubts k) some)
      by r image some away (inr ne) = alike r image (was_there s.doubts k (Manifest r image) some) (sym (gone_other s.view k (Manifest r image) ne) ∙ away)
  deleted_alike deletion.Fault t e = subst (λ t. AreAlike t mine own) (sym e) (λ r image some away. by r image some away (cases_key (Manifest r image) k))
    where
      by : (r : ℕ) (image : List ℕ) → IsSome (map.get (map.insert s.doubts k x) (Manifest r image)) → Lacks s.view (Manifest r image) → (Manifest r image ≡ k) ⊎ (Manifest r image ≢ k) → map.get mine (Manifest r image) ≡ map.get own (Manifest r image)
      by r image some away (inl same) = absurd (no_some _ (ap (map.get s.view) (sym same) ∙ away) has)
      by r image some away (inr ne) = alike r image (subst IsSome (at_other s.doubts k x (Manifest r image) ne) some) away
  deleted_alike deletion.OutOfMemory t e = subst (λ t. AreAlike t mine own) (sym e) alike

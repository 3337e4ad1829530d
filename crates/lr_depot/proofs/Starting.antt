-- A depot as it starts.
use Rattle.std.proofs.Common.{◌≡◌, ◌≤◌, ◌+◌, ◌^◌, ℕ, [], Option, refl, sym, subst, ◌∙◌, inl, inr, arith, vec_len}
use mathlib.Core.Logic.{◌⊎◌}
use Rattle.lr_manifest.specs.Manifest.{ManifestFields, IsManifest}
use Rattle.lr_origin.specs.declared.key.KeyKind.{KeyKind}
use Rattle.lr_origin.specs.declared.key.KeyKind.TheVariants.{Root, Expired, Deleted, Chunk, Manifest, Withdrawn}
use Rattle.lr_roots.specs.View.{View, manifest}
use Rattle.lr_spec.specs.Told.{Told}
use Rattle.lr_opening.specs.Store.{Mirrors}
use Rattle.lr_roots.specs.Names.{AreFewer, IsNamed, number_of, IsManifestAt, HasNumber, IsGreatestNumber}
use Rattle.lr_roots.specs.Sound.{IsSound, IsNumbered}
use Rattle.lr_rules.specs.Start.{MayStart}
use Rattle.lr_origin.specs.Objects.{Objects}
use Rattle.lr_depot.specs.declared.depot.Body.{Body}
use Rattle.lr_depot.specs.Begun.{Start}
use Rattle.lr_depot.specs.Store.{IsRun, LeadsTo, Covers}
use Rattle.lr_depot.specs.Kernel.{IsOf, places}
use Rattle.lr_depot.specs.Depot.{IsStart, IsWhole, first_state, state}

module _ (v : View) (sound : IsSound v) where
  -- a manifest of a sound view has a creation number within the limit
  number_within : (k : KeyKind) (m : ManifestFields) → IsManifestAt v k m → number_of m ≤ 9223372036854775807
  number_within (Manifest r image) m at = let n : IsManifest m × IsNumbered r m = sound.fits (Manifest r image) (manifest m) at in n.1.most
  number_within (Root r) m at = absurd at
  number_within (Expired r) m at = absurd at
  number_within (Deleted r) m at = absurd at
  number_within (Chunk r n) m at = absurd at
  number_within (Withdrawn n) m at = absurd at

  pub greatest_within : (n : ℕ) → IsGreatestNumber v n → n ≤ 9223372036854775807
  greatest_within n greatest = by greatest.had
    where
      by : HasNumber v n ⊎ (n ≡ 0) → n ≤ 9223372036854775807
      by (inl h) = let w : number_of h.1 ≤ 9223372036854775807 = number_within h.0 h.1 h.2 in omega (arith, w, h.3)
      by (inr e) = omega (arith, e)

  -- numbers begin after the greatest one found
  pub may_start : (n : ℕ) → IsGreatestNumber v n → MayStart v (n + 1)
  may_start n greatest = record {
    sound = sound;
    numbered = λ r image m at. let below : number_of m ≤ n = greatest.above (number_of m) (Manifest r image, m, at, refl) in omega (arith, below);
    first = omega arith;
    most = let w : n ≤ 9223372036854775807 = greatest_within n greatest in omega (arith, w);
  }

-- a depot without a log is whole
pub started_whole : {O : Type 0} (objects : O → Option Objects) (faults : O → ℕ) (start : Start) (body : Body O) → IsStart start
    → objects body.origin ≡ start.objects → start.faults ≤ faults body.origin → body.log.items ≡ [] → IsOf body.kernel (first_state start) → places body.kernel ≡ 0
    → IsWhole objects faults start body
started_whole objects faults start body begun same rising none held out = record {
  begun = begun;
  held = subst (λ l. IsOf body.kernel (state start l)) (sym none) held;
  legal = subst (IsRun (first_state start)) (sym none) tt;
  leads = λ m told. (m, same ∙ told, subst (λ l. LeadsTo (first_state start) m l m) (sym none) refl);
  counted = subst (λ l. Covers start.faults l (faults body.origin)) (sym none) (inl (omega (arith, rising)));
  rising = rising;
  leases = subst (λ l. (state start l).desk.next_lease ≤ vec_len body.log + 1) (sym none) (omega arith);
  sessions = subst (λ l. (state start l).desk.next_session ≤ vec_len body.log + 1) (sym none) (omega arith);
  places = omega (arith, out, body.log.ok.1);
}

-- what a depot is started with
pub is_start : (start : Start) (v : View) (n : ℕ) → start.view ≡ v → start.number ≡ n + 1 → IsSound v → AreFewer (IsNamed v) (2 ^ 32) → IsGreatestNumber v n
    → Told start.objects (λ m. Mirrors m v) → IsStart start
is_start start v n view number sound few greatest mirrors = record {
  may = subst (λ w. MayStart w start.number) (sym view) (subst (MayStart v) (sym number) (may_start v sound n greatest));
  few = subst (λ w. AreFewer (IsNamed w) (2 ^ 32)) (sym view) few;
  mirrors = λ m told. subst (Mirrors m) (sym view) (mirrors m told);
}

use Rattle.std.proofs.Common.{◌≡◌, ◌≤◌, ◌+◌, ◌-◌, ℕ, List, refl, sym, ap, subst, ◌∙◌, arith}
use Rattle.std.specs.FinMap as map
use Rattle.std.specs.FinMap.{len-empty}
use Rattle.std.specs.Ordering.{nat_cmp}
use Rattle.lr_roots.specs.Catalog.{Seen}
use Rattle.lr_roots.specs.Names.{IsGreatestNumber}
use Rattle.lr_manifest.specs.Manifest.{ManifestFields}
use Rattle.lr_rules.specs.State.{Session}
use Rattle.lr_depot.proofs.Starting.{greatest_within, started_whole, is_start}
use Rattle.lr_origin.specs.declared.key.KeyKind.TheVariants as kind
use Rattle.lr_depot.proofs.Making.{none_doubted}
use Rattle.lr_depot.proofs.depot.Depot.start.Goals as goal

pub overflow_add-next_number : goal.overflow_add-next_number
overflow_add-next_number g c = let w : c.greatest_number.result ≤ 9223372036854775807 = greatest_within c.in-Ok.catalog.view c.in-Ok.ensures.sound c.greatest_number.result c.greatest_number.ensures in omega (arith, w)

pub invariant_of-result : goal.invariant_of-result
invariant_of-result g c =
    let found : c.of-found.result.value.view ≡ c.in-Ok.catalog.view = ap (λ (s : Seen). s.view) c.of-found.ensures in
    started_whole g.O.Origin.objects g.O.Origin.faults _ _
    (is_start _ c.in-Ok.catalog.view c.greatest_number.result found c.of-number.ensures c.in-Ok.ensures.sound c.in-Ok.ensures.names c.greatest_number.ensures
    (λ m told. (c.in-Ok.ensures.whole m (ap g.O.Origin.objects (sym c.of-opening.ensures) ∙ told)).0))
    (c.open.ensures.same ∙ ap g.O.Origin.objects (sym c.of-opening.ensures))
    (subst (λ o. g.O.Origin.faults o ≤ g.O.Origin.faults c.open.new.origin) (sym c.of-opening.ensures) c.open.ensures.never_falls)
    c.new-5.ensures.items
    (record { aside = c.in-Ok.ensures.aside; view = sym found; doubts = c.new.ensures; leases = c.new-3.ensures; sessions = c.new-4.ensures; next_lease = refl; next_session = refl; next_number = sym c.of-number.ensures; makers = λ r image some away. absurd (none_doubted _ c.new.ensures (kind.Manifest r image) some) })
    (omega (arith, ap map.len c.new-3.ensures, ap map.len c.new-4.ensures, len-empty nat_cmp (List ℕ × ManifestFields), len-empty nat_cmp Session))

pub returns-clause-started : goal.returns-clause-started
returns-clause-started g c =
    let found : c.of-found.result.value.view ≡ c.in-Ok.catalog.view = ap (λ (s : Seen). s.view) c.of-found.ensures in
    record {
      log = c.new-5.ensures.items;
      told = ap g.O.Origin.objects c.of-opening.ensures;
      stays = c.open.ensures.same;
      failed = ap g.O.Origin.faults c.of-opening.ensures;
      start = is_start _ c.in-Ok.catalog.view c.greatest_number.result found c.of-number.ensures c.in-Ok.ensures.sound c.in-Ok.ensures.names c.greatest_number.ensures
          (λ m told. (c.in-Ok.ensures.whole m (ap g.O.Origin.objects (sym c.of-opening.ensures) ∙ told)).0);
      few = λ m told. (c.in-Ok.ensures.whole m told).1;
      above = subst (λ n. IsGreatestNumber c.of-found.result.value.view n) (number c.greatest_number.result c.of-number.result.value c.of-number.ensures) (subst (λ v. IsGreatestNumber v c.greatest_number.result) (sym found) c.greatest_number.ensures);
    }
  where
    number : (n k : ℕ) → k ≡ n + 1 → n ≡ k - 1
    number n k e = omega (arith, e)

use Rattle.std.proofs.Common.{◌≡◌, ◌<◌, ◌+◌, ◌^◌, [], None, length, refl, sym, ap, subst, ◌∙◌, arith}
use Rattle.std.proofs.lemmas.Result.{err_from_is_err_and}
use Rattle.std.specs.FinMap as map
use Rattle.lr_origin.specs.Objects.{found}
use Rattle.lr_roots.specs.View.{View}
use Rattle.lr_roots.specs.Catalog.{Seen}
use Rattle.lr_roots.specs.Names.{AreFewer, IsNamed}
use Rattle.lr_opening.specs.Reading.{AreSuited, HaveRead}
use Rattle.lr_opening.proofs.Names.{fewer_empty, fewer_within}
use Rattle.lr_opening.proofs.Readings.{read_nothing, suited_empty, reads_next, cause_of_key}
use Rattle.lr_opening.proofs.reading.read_all.Goals as goal

pub loop-text-init : goal.loop-text-init
loop-text-init g c =
    let v : c.new-catalog.result.view ≡ map.empty = ap (λ (s : Seen). s.view) c.new-catalog.ensures in
    record {
      read = λ m told lists. subst (λ (v : View). HaveRead m [] v None) (sym v) (read_nothing m);
      suits = subst AreSuited (sym v) suited_empty;
      fewer = subst (λ (w : View). AreFewer (IsNamed w) 1) (sym v) fewer_empty;
      aside = ap (λ (s : Seen). s.aside) c.new-catalog.ensures;
      same = refl;
      never_falls = omega arith;
    }

pub returns-in_err-read_next-clause-cause : goal.returns-in_err-read_next-clause-cause
returns-in_err-read_next-clause-cause g c =
    let ks = c.args.keys.now in
    let i = c.loop-text.text-index in
    let kept = c.loop-text.invariant in
    let less : i < length ks = omega (arith, c.loop-text-test.true) in
    let p = err_from_is_err_and c.from_residual.result c.from_residual.ensures.1 in
    rw (p.1, p.2) (cause_of_key (g.O.Origin.objects c.args.origin.now) (g.O.Origin.objects c.loop-text.origin) ks i c.text-item.result c.as_slice.result.now (g.O.Origin.faults c.args.origin.now) (g.O.Origin.faults c.loop-text.origin) (g.O.Origin.faults c.read_next.new.origin) _ less c.text-item.is c.as_slice.ensures.value kept.same kept.never_falls c.in_err-read_next.ensures.cause)

pub loop-text-preserved : goal.loop-text-preserved
loop-text-preserved g c =
    let ks = c.args.keys.now in
    let i = c.loop-text.text-index in
    let kept = c.loop-text.invariant in
    let less : i < length ks = omega (arith, c.loop-text-test.true) in
    record {
      read = λ m told lists. reads_next m ks i c.text-item.result c.as_slice.result.now c.loop-text.catalog.view c.read_next.new.catalog.view (found c.loop-text.malformed) (found c.read_next.new.malformed) less c.text-item.is c.as_slice.ensures.value lists (kept.read m told lists) (c.in_ok-read_next.ensures.read m (kept.same ∙ told));
      suits = c.in_ok-read_next.ensures.suits kept.suits;
      fewer = c.in_ok-read_next.ensures.fewer (i + 1) kept.fewer;
      aside = c.in_ok-read_next.ensures.aside kept.aside;
      same = c.read_next.ensures.same ∙ kept.same;
      never_falls = omega (arith, kept.never_falls, c.read_next.ensures.never_falls);
    }

pub returns-clause-names : goal.returns-clause-names
returns-clause-names g c = fewer_within (IsNamed c.loop-text.catalog.view) (c.loop-text.text-index + 1) (2 ^ 32) c.loop-text.invariant.fewer (omega (arith, c.requires.few, c.loop-text.auto.text-index-end))

use Rattle.std.proofs.Common.{◌+◌, Option, None, IsSome, refl, sym, ap, subst}
use Rattle.std.specs.Option.{IfSome}
use Rattle.std.specs.FinMap as map
use Rattle.lr_origin.specs.Text.{key_text}
use Rattle.lr_roots.specs.declared.kept.Kept.{Kept}
use Rattle.lr_roots.specs.View.{View}
use Rattle.lr_roots.specs.Keys.{plain}
use Rattle.lr_roots.specs.Catalog.{Seen}
use Rattle.lr_roots.specs.Names.{AreFewer, IsNamed}
use Rattle.lr_roots.specs.Sound.{Suits}
use Rattle.lr_opening.specs.Reading.{AreSuited, HasBody}
use Rattle.lr_opening.proofs.Names.{fewer_inserted}
use Rattle.lr_opening.proofs.Readings.{suited_inserted, body_malformed}
use Rattle.lr_opening.proofs.reading.read_key.Goals as goal

pub returns-in_ok-put_in-in-Some-2-clause-suits : goal.returns-in_ok-put_in-in-Some-2-clause-suits
returns-in_ok-put_in-in-Some-2-clause-suits g c = λ all.
    let k = c.in-Some.key in
    let fits : Suits k (plain c.in-Some-2.kept) = subst (λ (o : Option Kept). IfSome o (λ x. Suits k (plain x))) c.in-Some-2.is c.in_ok-kept.ensures.suits in
    subst AreSuited (sym (ap (λ (s : Seen). s.view) c.in_ok-put_in-in-Some-2.ensures)) (suited_inserted c.args.catalog.now.view k (plain c.in-Some-2.kept) c.in-Some.ensures.found.1 fits all)

pub returns-in_ok-put_in-in-Some-2-clause-fewer : goal.returns-in_ok-put_in-in-Some-2-clause-fewer
returns-in_ok-put_in-in-Some-2-clause-fewer g c = λ n few.
    subst (λ (w : View). AreFewer (IsNamed w) (n + 1)) (sym (ap (λ (s : Seen). s.view) c.in_ok-put_in-in-Some-2.ensures)) (fewer_inserted c.args.catalog.now.view c.in-Some.key (plain c.in-Some-2.kept) n few)

pub returns-in-None-clause-read : goal.returns-in-None-clause-read
returns-in-None-clause-read g c = λ m told there.
    let k = c.in-Some.key in
    let text = c.in-Some.ensures.found.0 in
    let here : IsSome (map.get m (key_text k)) = subst (λ q. IsSome (map.get m q)) text there in
    let body : HasBody m k None = subst (λ (o : Option Kept). HasBody m k o) c.in-None.is (c.in_ok-kept.ensures.body m told here) in
    (body_malformed m c.args.text.now k c.in-Some.ensures.found.1 text body, refl)

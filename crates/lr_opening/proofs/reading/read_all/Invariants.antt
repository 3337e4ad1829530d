use Rattle.std.proofs.Common.{◌≡◌, ◌≤◌, ◌+◌, None, take}
use Rattle.lr_spec.specs.Told.{Told}
use Rattle.lr_origin.specs.Objects.{found}
use Rattle.lr_roots.specs.Names.{AreFewer, IsNamed}
use Rattle.lr_opening.specs.Listing.{bytes_of, ListsAll}
use Rattle.lr_opening.specs.Reading.{AreSuited, HaveRead}
use Rattle.lr_opening.proofs.reading.read_all.Given as goal

abbrev pub invariant-loop-text : goal.invariant-loop-text
invariant-loop-text g l = record {
  read : Told (g.O.Origin.objects l.fn.origin) (λ m. ListsAll m (bytes_of l.keys) → HaveRead m (take l.text-index (bytes_of l.keys)) l.catalog.view (found l.malformed));
  suits : AreSuited l.catalog.view;
  fewer : AreFewer (IsNamed l.catalog.view) (l.text-index + 1);
  aside : l.catalog.aside ≡ None;
  same : g.O.Origin.objects l.origin ≡ g.O.Origin.objects l.fn.origin;
  never_falls : g.O.Origin.faults l.fn.origin ≤ g.O.Origin.faults l.origin;
}

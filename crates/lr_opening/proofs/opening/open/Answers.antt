use Rattle.std.proofs.Common.{◌<◌, ◌^◌, ℕ, List, Vec, Option, Some, None, length, sym, ap, subst, ◌∙◌, arith}
use Rattle.std.specs.declared.alloc.Global.{Global}
use Rattle.std.proofs.lemmas.Result.{err_from_is_err_and}
use Rattle.lr_origin.specs.Objects.{found}
use Rattle.lr_roots.specs.Names.{IsFirst}
use Rattle.lr_roots.specs.Foreign.{IsForeign}
use Rattle.lr_opening.specs.Listing.{ListsAll, bytes_of}
use Rattle.lr_opening.specs.Reading.{AreListed, HaveRead, IsForeignText}
use Rattle.lr_opening.proofs.Listed.{length_bytes}
use Rattle.lr_opening.proofs.Readings.{cause_of_reading, read_foreign, read_mirrors, breaks_foreign, opened_sound}
use Rattle.lr_opening.proofs.opening.open.Goals as goal

pub returns-in_err-catalog-clause-cause : goal.returns-in_err-catalog-clause-cause
returns-in_err-catalog-clause-cause g c =
    let ks = bytes_of c.deref.result.now in
    let told = g.O.Origin.objects c.args.origin.now in
    let listed : AreListed told ks = subst (λ (l : List (Vec ℕ Global)). AreListed told (bytes_of l)) (sym c.deref.ensures.value) c.in_ok-keys.ensures.all in
    let p = err_from_is_err_and c.from_residual-in_err-catalog.result c.from_residual-in_err-catalog.ensures.1 in
    rw (p.1, p.2) (cause_of_reading told (g.O.Origin.objects c.list.new.origin) ks (g.O.Origin.faults c.args.origin.now) (g.O.Origin.faults c.list.new.origin) (g.O.Origin.faults c.read_all.new.origin) _ c.list.ensures.same c.list.ensures.never_falls c.in_err-catalog.ensures.cause listed)

pub returns-in-Some-clause-cause : goal.returns-in-Some-clause-cause
returns-in-Some-clause-cause g c = λ m told.
    let ks = bytes_of c.deref.result.now in
    let lists : ListsAll m ks = subst (λ (l : List (Vec ℕ Global)). ListsAll m (bytes_of l)) (sym c.deref.ensures.value) (c.in_ok-keys.ensures.all m told) in
    let few : length ks < 2 ^ 32 = omega (arith, length_bytes c.deref.result.now, ap length c.deref.ensures.value, c.in_ok-keys.ensures.few, c.in_ok-keys.keys.ok) in
    let read : HaveRead m ks c.in_ok-catalog.catalog.view (Some c.in-Some.text.items) = subst (λ (f : Option (List ℕ)). HaveRead m ks c.in_ok-catalog.catalog.view f) (ap found c.in-Some.is) (c.in_ok-catalog.ensures.read m (c.list.ensures.same ∙ told) lists) in
    (read_foreign m ks lists c.in_ok-catalog.catalog.view c.in-Some.text.items read, (ks, lists, few))

pub returns-in-Some-2-clause-cause : goal.returns-in-Some-2-clause-cause
returns-in-Some-2-clause-cause g c = λ m told.
    let v = c.in_ok-catalog.catalog.view in
    let ks = bytes_of c.deref.result.now in
    let lists : ListsAll m ks = subst (λ (l : List (Vec ℕ Global)). ListsAll m (bytes_of l)) (sym c.deref.ensures.value) (c.in_ok-keys.ensures.all m told) in
    let few : length ks < 2 ^ 32 = omega (arith, length_bytes c.deref.result.now, ap length c.deref.ensures.value, c.in_ok-keys.ensures.few, c.in_ok-keys.keys.ok) in
    let read : HaveRead m ks v None = subst (λ (f : Option (List ℕ)). HaveRead m ks v f) (ap found c.in_default.is) (c.in_ok-catalog.ensures.read m (c.list.ensures.same ∙ told) lists) in
    let foreign : IsForeignText v (Some c.in-Some-2.text.items) = subst (λ (f : Option (List ℕ)). IsForeignText v f) (ap found c.in-Some-2.is) c.in_ok-text.ensures in
    (breaks_foreign m v c.in-Some-2.text.items (read_mirrors m ks lists v read) foreign, (ks, lists, few))

pub returns-clause-sound : goal.returns-clause-sound
returns-clause-sound g c =
    let v = c.in_ok-catalog.catalog.view in
    let none : IsFirst (IsForeign v) None = subst (λ (f : Option (List ℕ)). IsForeignText v f) (ap found c.in-None.is) c.in_ok-text.ensures in
    opened_sound v c.in_ok-catalog.ensures.suits none

pub returns-clause-whole : goal.returns-clause-whole
returns-clause-whole g c = λ m told.
    let v = c.in_ok-catalog.catalog.view in
    let ks = bytes_of c.deref.result.now in
    let lists : ListsAll m ks = subst (λ (l : List (Vec ℕ Global)). ListsAll m (bytes_of l)) (sym c.deref.ensures.value) (c.in_ok-keys.ensures.all m told) in
    let few : length ks < 2 ^ 32 = omega (arith, length_bytes c.deref.result.now, ap length c.deref.ensures.value, c.in_ok-keys.ensures.few, c.in_ok-keys.keys.ok) in
    let read : HaveRead m ks v None = subst (λ (f : Option (List ℕ)). HaveRead m ks v f) (ap found c.in_default.is) (c.in_ok-catalog.ensures.read m (c.list.ensures.same ∙ told) lists) in
    (read_mirrors m ks lists v read, (ks, lists, few))

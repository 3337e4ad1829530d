use Rattle.std.proofs.Common.{◌≡◌, ◌<◌, ◌∷◌, ap, Some, remove, slice_get, arith, refl, option_map, length, is_ok, true}
use Rattle.std.specs.Arc.{arc_value}
use Rattle.std.proofs.lemmas.Option.{slice_get-map, slice_get-get_or}
use Rattle.lr_object.proofs.Found.{map-remove}
use Rattle.lr_object.proofs.recent.raise.Goals as goal

pub returns-clause-values : goal.returns-clause-values
returns-clause-values g c =
    let within : c.args.at < length c.args.values.now.items = omega arith in
    let taken : slice_get c.args.values.now.items c.args.at ≡ Some c.remove-value.result =
    rw c.remove-value.ensures.value (slice_get-get_or c.args.values.now.items c.args.at c.remove-value.result within) in
    let put : c.insert.new.self.items ≡ c.remove-value.result ∷ remove c.args.values.now.items c.args.at =
    let good : is_ok c.insert.result ≡ true = c.insert.ensures.succeeds (omega arith) in
    rw (c.insert.ensures.items, good, c.remove-value.ensures.items) refl in (
      arc_value c.remove-value.result,
      rw slice_get-map (ap (option_map arc_value) taken),
      rw (put, map-remove arc_value c.args.values.now.items c.args.at) refl,
    )

use Rattle.std.proofs.Common.{Some, ap, sym, ◌∙◌}
use Rattle.std.specs.Option.{option_map as mapped}
use Rattle.std.proofs.lemmas.Option.{slice_get-map, slice_get-get_or}
use Rattle.lr_world.specs.World.{part_of}
use Rattle.lr_test_program.proofs.short.first_number.Goals as goal

pub returns-in-Some : goal.returns-in-Some
returns-in-Some c =
    let got = slice_get-get_or c.args.actors.now 0 c.in-Some.actor.now c.in-Some.ensures.item.3.0 ∙ ap Some (sym c.in-Some.ensures.item.1) in
    (0, part_of c.in-Some.actor.now, slice_get-map part_of c.args.actors.now 0 ∙ ap (mapped part_of) got, sym c.number.ensures)

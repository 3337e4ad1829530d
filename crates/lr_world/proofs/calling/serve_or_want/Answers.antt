use Rattle.std.proofs.Common.{sym}
use Rattle.lr_world.proofs.Wanting.{wants_call, wants_depot}
use Rattle.lr_world.proofs.calling.serve_or_want.Goals as goal

pub returns-in-Some-clause-called : goal.returns-in-Some-clause-called
returns-in-Some-clause-called g c = wants_call c.args.parts.now c.args.caller c.args.call c.in-Some.reply c.requires.there (sym c.in-Some.ensures)

pub returns-in-Some-clause-depot : goal.returns-in-Some-clause-depot
returns-in-Some-clause-depot g c =
    wants_depot c.args.parts.now c.args.caller g.O.Origin.objects g.O.Origin.faults c.args.call c.in-Some.reply (sym c.in-Some.ensures)

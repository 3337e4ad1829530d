use Rattle.lr_rules.proofs.Parts.{safe_parts}
use Rattle.lr_depot.proofs.Did.{whole_safe}
use Rattle.lr_depot.proofs.Closing.{stored_end}
use Rattle.lr_depot.proofs.depot.Depot.catalog.Goals as goal

pub returns-clause-kept : goal.returns-clause-kept
returns-clause-kept g c = rw (← c.self.view_is) (safe_parts _ (whole_safe g.O.Origin.objects g.O.Origin.faults _ c.self.inside.body c.self.invariant))

pub returns-clause-stored : goal.returns-clause-stored
returns-clause-stored g c = rw (← c.self.view_is) (stored_end g.O.Origin.objects g.O.Origin.faults _ c.self.inside.body c.self.invariant)

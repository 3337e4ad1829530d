use Rattle.std.proofs.Common.{inl}
use Rattle.lr_walk.specs.Damage.{DropsStripe, FlipsStripe, Forges}
use Rattle.lr_actors.proofs.Table.{damages_one, past}
use Rattle.lr_actors.proofs.laws.damages_are_jobs.Goals as goal

pub returns-clause-evicts : goal.returns-clause-evicts
returns-clause-evicts c = λ context host steps answer w. inl w

pub returns-clause-loses : goal.returns-clause-loses
returns-clause-loses c = λ context node steps answer w. inl w

pub returns-clause-drops : goal.returns-clause-drops
returns-clause-drops c = λ context index device chunk place name steps answer at e w. inl (place, at, damages_one place chunk (DropsStripe context.nodes index) name steps answer e w)

pub returns-clause-flips : goal.returns-clause-flips
returns-clause-flips c = λ context index device chunk at place name steps answer is e w. inl (place, is, damages_one place chunk (FlipsStripe context.nodes index at) name steps answer e w)

pub returns-clause-forges : goal.returns-clause-forges
returns-clause-forges c = λ context device chunk place name steps answer at e w. inl (place, at, damages_one place chunk (Forges context.nodes) name steps answer e w)

pub returns-clause-past : goal.returns-clause-past
returns-clause-past c = λ context device chunk place job at e is. past context device chunk place job at e is

use Rattle.std.proofs.Common.{inl, inr, refl}
use Rattle.lr_actors.proofs.laws.calls_are_jobs.Goals as goal

pub returns-clause-calls : goal.returns-clause-calls
returns-clause-calls c = λ context device place call steps answer at w. inl (place, at, w)

pub returns-clause-creates : goal.returns-clause-creates
returns-clause-creates c = λ context image tenant raw steps answer w. inl w

pub returns-clause-unmade : goal.returns-clause-unmade
returns-clause-unmade c = λ context job. inr (refl, refl)

pub returns-clause-migrates : goal.returns-clause-migrates
returns-clause-migrates c = λ context image steps answer w. inl w

pub returns-clause-collects : goal.returns-clause-collects
returns-clause-collects c = λ context job steps answer w. inl w

pub returns-clause-closes : goal.returns-clause-closes
returns-clause-closes c = λ context device place steps answer at w. inl (place, at, w)

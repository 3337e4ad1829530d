use Rattle.std.proofs.Common.{sym, subst}
use Rattle.lr_opening.specs.Reading.{IsKeptOf}
use Rattle.lr_opening.proofs.body.kept_of.Goals as goal

pub returns-in-Root : goal.returns-in-Root
returns-in-Root c = subst (λ k. IsKeptOf k c.args.body.now c.kept_salt.result) (sym c.in-Root.is) (c.kept_salt.ensures c.in-Root.field-0)

pub returns-in-Expired : goal.returns-in-Expired
returns-in-Expired c = subst (λ k. IsKeptOf k c.args.body.now c.kept_nothing.result) (sym c.in-Expired.is) (c.kept_nothing.ensures.expired c.in-Expired.field-0)

pub returns-in-Deleted : goal.returns-in-Deleted
returns-in-Deleted c = subst (λ k. IsKeptOf k c.args.body.now c.kept_nothing-in-Deleted.result) (sym c.in-Deleted.is) (c.kept_nothing-in-Deleted.ensures.deleted c.in-Deleted.field-0)

pub returns-in-Withdrawn : goal.returns-in-Withdrawn
returns-in-Withdrawn c = subst (λ k. IsKeptOf k c.args.body.now c.kept_nothing-in-Withdrawn.result) (sym c.in-Withdrawn.is) (c.kept_nothing-in-Withdrawn.ensures.withdrawn c.in-Withdrawn.field-0)

use Rattle.std.proofs.Common.{◌≡◌, ◌<◌, ap, sym, subst, ◌∙◌, inl, inr, arith}
use mathlib.Core.Logic.{◌⊎◌}
use Rattle.std.specs.Ordering.{nat_cmp}
use Rattle.std.specs.FinMap as map
use Rattle.std.specs.FinMap.{FinMap}
use Rattle.lr_rules.specs.State.{Session}
use Rattle.lr_depot.specs.Sessions.{without_caller}
use Rattle.lr_depot.proofs.Numbers.{shorter}
use Rattle.lr_depot.proofs.Begun.{without_removed, without_none}
use Rattle.lr_depot.proofs.numbered.end_all.Goals as goal

fewer_than : (m n old : FinMap nat_cmp Session) → map.len n < map.len m → (map.len m < map.len old) ⊎ (m ≡ old) → map.len n < map.len old
fewer_than m n old less (inl l) = omega (arith, less, l)
fewer_than m n old less (inr e) = subst (λ o. map.len n < map.len o) e less

pub loop-number-smaller : goal.loop-number-smaller
loop-number-smaller c =
    subst (λ m. map.len m < map.len c.loop-number.sessions) (sym c.remove.ensures) (shorter c.loop-number.sessions c.in-Some.number c.in-Some.ensures.0 c.in-Some.ensures.1)

pub loop-number-preserved : goal.loop-number-preserved
loop-number-preserved c = record {
  same = ap (without_caller c.args.caller) c.remove.ensures ∙ without_removed c.args.caller c.loop-number.sessions c.in-Some.number c.in-Some.ensures.0 c.in-Some.ensures.1 c.in-Some.ensures.2 ∙ c.loop-number.invariant.same;
  fewer = inl (
      let less : map.len c.remove.new.self < map.len c.loop-number.sessions = subst (λ m. map.len m < map.len c.loop-number.sessions) (sym c.remove.ensures) (shorter c.loop-number.sessions c.in-Some.number c.in-Some.ensures.0 c.in-Some.ensures.1) in
      fewer_than c.loop-number.sessions c.remove.new.self c.args.sessions.now less c.loop-number.invariant.fewer
      );
}

pub returns-clause-ended : goal.returns-clause-ended
returns-clause-ended c =
    sym (without_none c.args.caller c.loop-number.sessions (rw c.in_default.is at c.session_of.ensures)) ∙ c.loop-number.invariant.same

use Rattle.std.proofs.Common.{◌≡◌, List, [], refl, ap, subst, ◌∙◌, inl, inr}
use Rattle.lr_depot.specs.Machine.{LogEntry}
use Rattle.lr_depot.specs.Depot.{state}
use Rattle.lr_desk.specs.Roots.{IsViewText}
use Rattle.lr_desk.specs.declared.outcome.Outcome.TheVariants.{Done, Memory}
use Rattle.lr_desk.proofs.running.listed.Goals as goal

pub returns-in-Ok-clause-walk : goal.returns-in-Ok-clause-walk
returns-in-Ok-clause-walk g c = λ source left.
    let start = c.args.depot.now.start in
    let same : c.catalog.result.now.view ≡ start.view = c.catalog.ensures.view ∙ ap (λ (l : List LogEntry). (state start l).known.view) c.requires.fresh in
    (Done, c.in-Ok.text.items, (c.requires.fresh, inl (refl, subst (λ v. IsViewText v c.in-Ok.text.items) same c.in-Ok.ensures)), (refl, refl))

pub returns-in-Err-clause-walk : goal.returns-in-Err-clause-walk
returns-in-Err-clause-walk g c = λ source left. (Memory, [], (c.requires.fresh, inr refl), refl)

use Rattle.std.proofs.Common.{Result, Ok, Err, sym, ap, ◌∙◌, option_map}
use Rattle.std.specs.Result.{OnErr}
use Rattle.std.specs.declared.alloc.AllocError.{AllocError}
use Rattle.std.specs.FinMap as map
use Rattle.lr_roots.specs.Keys.{plain}
use Rattle.lr_roots.proofs.Trees.{inserted, changes_at, get_view}
use Rattle.lr_roots.proofs.keys.Keys.insert.Goals as goal

pub returns-clause-ok : goal.returns-clause-ok
returns-clause-ok c =
    inserted c.self.inside.entries.entries c.insert.new.self.entries c.args.key c.args.body (changes_at c.self.inside.entries c.insert.new.self c.args.key _ c.in_ok-insert.ensures.updates)
    ∙ ap (λ m. map.insert m c.args.key (plain c.args.body)) c.self.view_is

on_err : (r : Result (Unit {0}) AllocError) (P : Type 0) → P → OnErr r P
on_err (Ok u) P p = tt
on_err (Err e) P p = p

pub returns-in_err-insert-clause-absent : goal.returns-in_err-insert-clause-absent
returns-in_err-insert-clause-absent c =
    on_err c.from_residual.result _ (ap (λ m. map.get m c.args.key) (sym c.self.view_is) ∙ get_view c.self.inside.entries.entries c.args.key ∙ ap (option_map plain) c.in_err-insert.ensures.absent)

use Rattle.std.proofs.Common.{refl, ap, ◌∙◌, ◌++◌, ◌∷◌, [], List}
use Rattle.lr_object.specs.declared.entry.Entry.{Entry}
use Rattle.lr_test_objects.proofs.tally.TallyObject.apply.Goals as goal

pub returns-clause-logged : goal.returns-clause-logged
returns-clause-logged c =
    let e : Entry _ _ = record { caller = c.args.caller; call = c.args.call; reply = c.len-reply.result } in
    (e, c.push_reserved.ensures.items ∙ ap (λ (l : List (Entry _ _)). l ++ e ∷ []) c.reserve.ensures.items, refl, (refl, refl), λ u. u)

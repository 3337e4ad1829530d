use Rattle.std.proofs.Common.{sym, ap, ◌∙◌, subst}
use Rattle.lr_turn.specs.Views.{joining}
use Rattle.lr_test_objects.specs.Lists.{AreOwn}
use Rattle.lr_test_objects.proofs.Ends.{two_joined, two_lists}
use Rattle.lr_test_objects.proofs.finish.finish_two.Goals as goal

pub close-cache-requires-clause-joined : goal.close-cache-requires-clause-joined
close-cache-requires-clause-joined c = let v = c.args.first in let one = c.args.one in let two = c.args.two in
    two_joined v.place.me.0 _ one.place.me.0 two.place.me.0 one.number two.number
    (c.join-2.ensures.first.2 ∙ ap (λ u. joining u two.place.me.0) c.join.ensures.first.2)
    c.requires.first.2 c.requires.given one.number_is two.number_is

pub returns : goal.returns
returns c = let v = c.args.first in let one = c.args.one in let two = c.args.two in
    subst (AreOwn _ _) (sym c.close-cache.ensures.lists)
    (two_lists _ _ _ _ v.place.me.0 _ one.place.me.0 two.place.me.0 _ one.number two.number
    (c.join-2.ensures.first.2 ∙ ap (λ u. joining u two.place.me.0) c.join.ensures.first.2)
    c.requires.first.2 c.requires.first.1 (v.number_is ∙ c.requires.first.0) one.number_is two.number_is c.close-cache.ensures.log)

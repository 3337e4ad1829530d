use Rattle.std.proofs.Common.{ap, ◌∙◌}
use Rattle.lr_turn.specs.Views.{giving, knowing, joining}
use Rattle.lr_test_objects.specs.Lists.{made}
use Rattle.lr_test_objects.proofs.Ends.{one_list}
use Rattle.lr_test_objects.proofs.alone.look_alone.Goals as goal

pub returns : goal.returns
returns g c = let w = c.call-give_up.new.pass in
    ap made c.close-cache.ensures.lists
    ∙ one_list _ _ _ _ c.args.cache.capacity c.args.cache.log c.count-count.result _ w.place.me.0 _
    (c.join.ensures.first.2 ∙ ap (λ u. joining u w.place.me.0) (c.count-count.ensures.known
    ∙ ap (λ u. knowing u c.count-count.result) (c.split-one.ensures.first.2 ∙ ap (giving 1) c.in_ok-shared.ensures.2)))
    c.requires (w.number_is ∙ (c.call-give_up.ensures.same.1 ∙ (c.call-look.ensures.same.1 ∙ c.split-one.ensures.new.1))) c.close-cache.ensures.log

use Rattle.std.proofs.Common.{◌+◌, sym, subst, ◌∙◌}
use Rattle.lr_rules.specs.Names.{IsImage}
use Rattle.lr_roots.specs.Names.{AreMany}
use Rattle.lr_depot.specs.Others.{AddsOthers}
use Rattle.lr_depot.specs.Sessions.{HasCreation}
use Rattle.lr_depot.proofs.Added.{count_images}
use Rattle.lr_depot.proofs.images.images.Goals as goal

pub returns : goal.returns
returns c = λ s view in_doubt begun.
    let v = c.args.catalog.now.view in
    let b = c.add_doubted.new.others.items in
    let all = count_images v c.args.doubts.now c.args.sessions.now c.names.result c.add_begun.new.others.items b c.names.ensures
    (subst (λ xs. AddsOthers v (HasCreation c.args.sessions.now) xs c.add_begun.new.others.items) c.new-others.ensures.items c.in_ok-add_begun.ensures) c.in_ok-add_doubted.ensures s view in_doubt begun in
    subst (λ n. AreMany (IsImage s) (c.names.result + n)) (sym (c.len.ensures ∙ c.add_doubted.new.others.ok.0)) all

use Rattle.std.proofs.Common.{◌∙◌, ap, refl}
use Rattle.lr_actors.specs.Places.{seen_place}
use Rattle.lr_actors.specs.Stages.{work_of, left_after, seen_left}
use Rattle.lr_actors.proofs.Needs.{loads_next}
use Rattle.lr_actors.proofs.turns.to_load.Goals as goal

pub returns-clause-next : goal.returns-clause-next
returns-clause-next c =
    loads_next (work_of c.args.setting.now) (seen_place c.args.place.now) c.args.index (left_after c.args.waiting) _ c.name_at-name.result c.key_at-key.result.bytes c.next.new.self.place c.next.new.self.need (seen_left c.begun-waiting.result) c.requires.place
    c.name_at-name.ensures c.key_at-key.ensures
    (c.next.ensures.place ∙ ap (λ p. p.place) c.new-load.ensures.new) (c.next.ensures.need ∙ ap (λ p. p.need) c.new-load.ensures.new) (ap seen_left c.begun-waiting.ensures) refl

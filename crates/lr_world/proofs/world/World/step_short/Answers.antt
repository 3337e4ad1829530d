use Rattle.std.proofs.Common.{ap, ◌∙◌}
use Rattle.lr_actors.specs.Actor as actor
use Rattle.lr_world.specs.World.{seen}
use Rattle.lr_world.proofs.Found.{tells, same_actor}
use Rattle.lr_world.proofs.world.World.step_short.Goals as goal

pub returns-clause-steps : goal.returns-clause-steps
returns-clause-steps g c =
    let t = c.turn.ensures.turned in
    (c.place_of-at.result, t.0, t.1, ap (λ (x : actor.Seen). x.number) (same_actor c.args.self.now.actors.items c.place_of-at.result t.0 c.place_of-at.ensures.0 t.1 c.place_of-at.ensures.1) ∙ c.place_of-at.ensures.2, t.3)

pub returns-clause-told : goal.returns-clause-told
returns-clause-told g c =
    let t = c.turn.ensures.turned in
    tells c.requires.world.0 c.requires.world.1 (seen c.args.self.now) c.place_of-at.result t.0 c.args.actor c.turn.result c.told.result c.requires.world.2 t.1
    (ap (λ (x : actor.Seen). x.number) (same_actor c.args.self.now.actors.items c.place_of-at.result t.0 c.place_of-at.ensures.0 t.1 c.place_of-at.ensures.1) ∙ c.place_of-at.ensures.2) t.2 c.told.ensures

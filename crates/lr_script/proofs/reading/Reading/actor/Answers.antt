use Rattle.std.proofs.Common.{ap, ◌∙◌}
use Rattle.lr_text.specs.Name.{place_of}
use Rattle.lr_script.specs.State.{State, actor_names}
use Rattle.lr_script.proofs.Actors.{place_seen}
use Rattle.lr_script.proofs.reading.Reading.actor.Goals as goal

pub returns-in-Some-clause-place : goal.returns-in-Some-clause-place
returns-in-Some-clause-place c = c.in-Some.ensures ∙ place_seen c.deref.result.now c.self.inside.actors.items c.args.name.now c.deref.ensures.value ∙ ap (λ (s : State). place_of (actor_names s) c.args.name.now) c.self.view_is

pub returns-in-None-clause-place : goal.returns-in-None-clause-place
returns-in-None-clause-place c = c.in-None.ensures ∙ place_seen c.deref.result.now c.self.inside.actors.items c.args.name.now c.deref.ensures.value ∙ ap (λ (s : State). place_of (actor_names s) c.args.name.now) c.self.view_is

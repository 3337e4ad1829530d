use Rattle.std.proofs.Common.{◌≡◌, ◌<◌, ◌++◌, List, [], ◌∷◌, length, ap, ◌∙◌, append_assoc, arith}
use Rattle.lr_actors.specs.declared.trail.Trail.{Trail}
use Rattle.lr_actors.specs.Trailed.{IsTrailOf}
use Rattle.lr_play.proofs.Lists.{zip_push, one_more}
use Rattle.lr_play.proofs.play.trails_of.Goals as goal

pub loop-actors-preserved : goal.loop-actors-preserved
loop-actors-preserved c =
    let t = c.loop-actors.invariant.told in
    let many : c.loop-actors.actors.len ≡ length c.loop-actors.actors.items = c.loop-actors.actors.ok.0 in
    let some : 0 < length c.loop-actors.actors.items = omega (arith, many) in
    record {
      room = omega arith;
      len = omega arith;
      capacity = c.push_reserved.ensures.capacity ∙ c.loop-actors.invariant.capacity;
      told = (
        t.0 ++ c.remove-actor.result ∷ [],
        t.1 ++ c.into_trail.result ∷ [],
        one_more c.args.actors.items t.0 c.loop-actors.actors.items c.remove-actor.new.self.items c.remove-actor.result t.2 some c.remove-actor.ensures.value c.remove-actor.ensures.items,
        c.push_reserved.ensures.items ∙ (ap (λ (ts : List Trail). ts ++ c.into_trail.result ∷ []) t.3 ∙ append_assoc c.args.trails.now.items t.1 (c.into_trail.result ∷ [])),
        zip_push IsTrailOf t.0 t.1 c.remove-actor.result c.into_trail.result t.4 c.into_trail.ensures,
      );
    }

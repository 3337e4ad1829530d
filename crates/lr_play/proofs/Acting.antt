-- What new actors leave when they have acted.
use Rattle.std.proofs.Common.{◌≡◌, ℕ, List, length, sym, ap, subst, ◌∙◌}
use Rattle.std.specs.List.{AllZip}
use Rattle.std.proofs.lemmas.List.{length-map}
use Rattle.lr_walk.specs.Jobs.{Context}
use Rattle.lr_script.specs.Seen.{ScheduleSeen}
use Rattle.lr_actors.specs.declared.place.Parts.{Parts}
use Rattle.lr_actors.specs.declared.trail.Trail.{Trail}
use Rattle.lr_actors.specs.Actor as actor
use Rattle.lr_actors.specs.Trailed.{IsTrailOf}
use Rattle.lr_world.specs.Calling.{objects_in}
use Rattle.lr_world.specs.World.{Seen, objects_of, part_of, MayBegin, IsWorld}
use Rattle.lr_world.specs.Runs.{Ends, AreCounted, Left}
use Rattle.lr_world.specs.Bounded.{AreBounded}
use Rattle.lr_play.specs.Acting.{HaveActed}

-- as many actors as there were
pub as_many : {O : Type 0} (old new : Seen O) → Left old new → length new.actors ≡ length old.actors
as_many old new left = sym (length-map new.actors part_of) ∙ (ap length left.cast ∙ length-map old.actors part_of)

-- The world began as the parts and actors, ran, and was taken apart.
pub acted : {O : Type 0} (schedule : ScheduleSeen) (old begun ended : Seen O) (parts : Parts O) (told : List Trail) (actors : List actor.Seen) → begun ≡ old → objects_in parts ≡ objects_of ended → actors ≡ ended.actors
    → ((context : Context) (hosts : ℕ) → MayBegin context hosts old → IsWorld context hosts begun) → ((context : Context) (hosts : ℕ) → IsWorld context hosts begun → IsWorld context hosts ended)
    → Left begun ended → Ends schedule ended → AreCounted schedule begun ended → AreBounded begun ended → AllZip IsTrailOf actors told → HaveActed schedule old parts told
acted schedule old begun ended parts told actors same objects its starts runs left ends counted bounded trails = record {
  new = ended;
  objects = objects;
  is = λ context hosts may. runs context hosts (starts context hosts may);
  left = subst (λ (w : Seen _). Left w ended) same left;
  ends = ends;
  counted = subst (λ (w : Seen _). AreCounted schedule w ended) same counted;
  bounded = subst (λ (w : Seen _). AreBounded w ended) same bounded;
  trails = subst (λ (xs : List actor.Seen). AllZip IsTrailOf xs told) its trails;
}

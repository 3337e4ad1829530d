-- machines and the table of jobs
use Rattle.std.proofs.Common.{◌≡◌, inl, ℕ, List, [], Some, None, refl, sym, subst, ◌∙◌}
use Rattle.std.specs.Prelude.{slice_get}
use Rattle.std.proofs.lemmas.Option.{none-some}
use Rattle.lr_manifest.specs.declared.name.Name.{Name}
use Rattle.lr_walk.specs.declared.trail.Answer.{Answer}
use Rattle.lr_walk.specs.declared.trail.Answer.TheVariants.{NoChunk}
use Rattle.lr_walk.specs.Walk.{Walks}
use Rattle.lr_walk.specs.Steps.{Step}
use Rattle.lr_walk.specs.Calls.{DevicePlace}
use Rattle.lr_walk.specs.Damage.{Damages, DropsStripe, FlipsStripe, Forges}
use Rattle.lr_walk.specs.Jobs.{Context}
use Rattle.lr_actors.specs.Jobs.{Job, drops_stripe, flips_stripe, forges, WalksJob}
use Rattle.lr_actors.specs.Damaged.{IsAt, IsDamage}

some_of : (x y : Name) → Some x ≡ Some y → x ≡ y
some_of x y e = cc

pub damages_one : (place : DevicePlace) (chunk : ℕ) (more : Name → Walks Step Answer) (name : Name) (steps : List Step) (answer : Answer) → slice_get place.names chunk ≡ Some name → more name steps answer
    → Damages place chunk more steps answer
damages_one place chunk more name steps answer e w =
    ((λ other f. subst (λ (n : Name). more n steps answer) (some_of name other (sym e ∙ f)) w), λ f. absurd (none-some name (sym f ∙ e)))

damages_none : (place : DevicePlace) (chunk : ℕ) (more : Name → Walks Step Answer) → slice_get place.names chunk ≡ None → Damages place chunk more [] NoChunk
damages_none place chunk more e = ((λ name f. absurd (none-some name (sym e ∙ f))), λ f. (refl, refl))

pub past : (context : Context) (device chunk : ℕ) (place : DevicePlace) (job : Job) → IsAt context device place → slice_get place.names chunk ≡ None → IsDamage device chunk job → WalksJob context job [] NoChunk
past context device chunk place (drops_stripe index d c) at e is =
    subst (λ (q : ℕ × ℕ). WalksJob context (drops_stripe index q.0 q.1) [] NoChunk) (λ i. (sym is.0 i, sym is.1 i)) (inl (place, at, damages_none place chunk (DropsStripe context.nodes index) e))
past context device chunk place (flips_stripe index d c a) at e is =
    subst (λ (q : ℕ × ℕ). WalksJob context (flips_stripe index q.0 q.1 a) [] NoChunk) (λ i. (sym is.0 i, sym is.1 i)) (inl (place, at, damages_none place chunk (FlipsStripe context.nodes index a) e))
past context device chunk place (forges d c) at e is =
    subst (λ (q : ℕ × ℕ). WalksJob context (forges q.0 q.1) [] NoChunk) (λ i. (sym is.0 i, sym is.1 i)) (inl (place, at, damages_none place chunk (Forges context.nodes) e))
past context device chunk place job at e is = absurd is

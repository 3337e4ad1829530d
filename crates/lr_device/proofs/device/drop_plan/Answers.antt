use Rattle.std.proofs.Common.{◌≡◌, None, Some, refl, arith, map}
use Rattle.lr_object.specs.Finds.{IsFirst}
use Rattle.lr_device.specs.declared.step.DeviceStep.TheVariants.{Drop}
use Rattle.lr_device.specs.declared.step.DeviceNoted.TheVariants as Noted
use Rattle.lr_device.specs.declared.step.DeviceAnswer.TheVariants.{Dropped}
use Rattle.lr_device.specs.Machine.{LogEntry, run, plan_of, is_of}
use Rattle.lr_device.specs.Held.{seen, plan_seen, HasPlace}
use Rattle.lr_device.proofs.Keeping.{all_remove, holds_ended, plan_found, no_plan}
use Rattle.lr_device.proofs.Serving.{keeps_entry}
use Rattle.lr_device.proofs.device.drop_plan.Goals as goal

pub returns-clause-whole : goal.returns-clause-whole
returns-clause-whole c =
    let first : IsFirst (is_of c.args.caller) (map plan_seen c.args.held.now.plans.items) c.in-Some.at = rw c.as_slice.ensures.value at c.in-Some.ensures in
    let e : LogEntry = record { caller = c.args.caller; call = Noted.Drop; reply = Dropped } in
    record {
      state = rw (c.push_reserved.ensures.items, c.remove.ensures.items) (holds_ended _ _ _ _ c.args.caller c.in-Some.at e c.requires.state first refl refl);
      places = omega arith;
      placed = rw c.remove.ensures.items (all_remove (HasPlace c.args.held.now.size c.args.held.now.overlay.leaves) c.args.held.now.plans.items c.in-Some.at c.requires.placed);
    }

pub returns-clause-served : goal.returns-clause-served
returns-clause-served c =
    let first : IsFirst (is_of c.args.caller) (map plan_seen c.args.held.now.plans.items) c.in-Some.at = rw c.as_slice.ensures.value at c.in-Some.ensures in
    let some : plan_of c.args.caller (run c.args.held.now.size c.args.held.now.log.items) ≡ Some (plan_seen c.remove.result) = plan_found _ _ _ _ c.args.caller c.in-Some.at c.remove.result c.requires.state first c.remove.ensures.value in
    record {
      answered = rw some refl;
      kept = keeps_entry (seen c.args.held.now) _ c.args.caller Drop Dropped (record { caller = c.args.caller; call = Noted.Drop; reply = Dropped }) refl refl c.push_reserved.ensures.items refl tt refl;
    }

pub returns-in_default-clause-served : goal.returns-in_default-clause-served
returns-in_default-clause-served c =
    let none : plan_of c.args.caller (run c.args.held.now.size c.args.held.now.log.items) ≡ None = no_plan _ _ _ _ c.args.caller None c.requires.state (rw c.as_slice.ensures.value at c.in_default.ensures) refl in
    c.refuse.ensures.served Drop (record { noted = tt; answered = rw none refl; memory = rw none refl })

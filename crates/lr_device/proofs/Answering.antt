-- Entries that answer no call.
use Rattle.std.proofs.Common.{◌≡◌, ℕ, [], ◌∷◌, Some, None, refl}
use Rattle.std.specs.Arc.{arc_value}
use Rattle.lr_device.specs.declared.call.DeviceCall.{DeviceCall}
use Rattle.lr_device.specs.declared.call.DeviceReply.{DeviceReply}
use Rattle.lr_device.specs.declared.step.DeviceNoted.{DeviceNoted}
use Rattle.lr_device.specs.declared.step.DeviceNoted.TheVariants.{Plan, Commit, Drop, Reap}
use Rattle.lr_device.specs.declared.step.DeviceAnswer.{DeviceAnswer}
use Rattle.lr_device.specs.declared.step.DeviceAnswer.TheVariants.{HasPlan, Planned, NoPlan, Lacking, Small, Committed, Dropped, Reaped, Nothing, OutOfMemory}
use Rattle.lr_device.specs.Machine.{answered, planned_in, reply_in}

pub unplanned : (caller : ℕ) (noted : DeviceNoted) (answer : DeviceAnswer) → planned_in noted ≡ None → answered caller noted answer ≡ []
unplanned caller (Plan call) answer e = refl
unplanned caller (Commit None used) answer e = refl
unplanned caller (Commit (Some call) used) answer e = absurd (cc e)
unplanned caller Drop answer e = refl
unplanned caller Reap answer e = refl

pub unmade : (caller : ℕ) (noted : DeviceNoted) (answer : DeviceAnswer) → reply_in answer ≡ None → answered caller noted answer ≡ []
unmade caller (Plan call) answer e = refl
unmade caller (Commit None used) answer e = refl
unmade caller (Commit (Some call) used) HasPlan e = refl
unmade caller (Commit (Some call) used) (Planned needs pages) e = refl
unmade caller (Commit (Some call) used) NoPlan e = refl
unmade caller (Commit (Some call) used) (Lacking i) e = refl
unmade caller (Commit (Some call) used) Small e = refl
unmade caller (Commit (Some call) used) (Committed reply) e = absurd (cc e)
unmade caller (Commit (Some call) used) Dropped e = refl
unmade caller (Commit (Some call) used) Reaped e = refl
unmade caller (Commit (Some call) used) Nothing e = refl
unmade caller (Commit (Some call) used) OutOfMemory e = refl
unmade caller Drop answer e = refl
unmade caller Reap answer e = refl

pub both : (caller : ℕ) (noted : DeviceNoted) (answer : DeviceAnswer) (call : DeviceCall) (reply : DeviceReply) → planned_in noted ≡ Some call → reply_in answer ≡ Some reply → answered caller noted answer ≡ record { caller = caller; call = call; reply = reply } ∷ []
both caller (Plan kept) answer call reply e f = absurd (cc e)
both caller (Commit None used) answer call reply e f = absurd (cc e)
both caller (Commit (Some kept) used) (Committed made) call reply e f = let c : arc_value kept ≡ call = cc e in let r : made ≡ reply = cc f in λ i. record { caller = caller; call = c i; reply = r i } ∷ []
both caller (Commit (Some kept) used) HasPlan call reply e f = absurd (cc f)
both caller (Commit (Some kept) used) (Planned needs pages) call reply e f = absurd (cc f)
both caller (Commit (Some kept) used) NoPlan call reply e f = absurd (cc f)
both caller (Commit (Some kept) used) (Lacking i) call reply e f = absurd (cc f)
both caller (Commit (Some kept) used) Small call reply e f = absurd (cc f)
both caller (Commit (Some kept) used) Dropped call reply e f = absurd (cc f)
both caller (Commit (Some kept) used) Reaped call reply e f = absurd (cc f)
both caller (Commit (Some kept) used) Nothing call reply e f = absurd (cc f)
both caller (Commit (Some kept) used) OutOfMemory call reply e f = absurd (cc f)
both caller Drop answer call reply e f = absurd (cc e)
both caller Reap answer call reply e f = absurd (cc e)

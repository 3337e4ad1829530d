use Rattle.std.proofs.Common.{[]}
use Rattle.lr_walk.specs.Depot.{seen_reply}
use Rattle.lr_desk.specs.Ends.{outcome_of}
use Rattle.lr_desk.proofs.Walking.{refused_yields}
use Rattle.lr_desk.proofs.ends.of_creation.Goals as goal

pub returns-in-Refused : goal.returns-in-Refused
returns-in-Refused c = rw c.in-Refused.is (refused_yields (outcome_of (seen_reply c.in-Refused.reply)) c.outcome_of_refusal.result [] c.outcome_of_refusal.ensures)

use Rattle.lr_walk.proofs.Devices.{device_answers, device_keeps}
use Rattle.lr_walk.proofs.laws.device_answers_by_its_table.Goals as goal

pub returns : goal.returns
returns c = record { answers = device_answers; kept = device_keeps }

use Rattle.lr_script.proofs.device_jobs.read_line.Goals as goal

pub returns-in_default-clause-only : goal.returns-in_default-clause-only
returns-in_default-clause-only c = λ _ after h. c.in_default.ensures.only h.device h.offset h.len h.range

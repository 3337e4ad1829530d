use Rattle.lr_desk.proofs.Alone.{commands_alone, memory_wanted}
use Rattle.lr_desk.proofs.laws.commands_come_alone.Goals as goal

pub returns-clause-alone : goal.returns-clause-alone
returns-clause-alone c = commands_alone

pub returns-clause-memory : goal.returns-clause-memory
returns-clause-memory c = memory_wanted

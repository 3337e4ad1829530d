use Rattle.std.specs.Arc.{arc_value}
use Rattle.sha2.specs.Sha256.{sha256}
use Rattle.lr_images.proofs.Readings.{if_ok, if_err, short_answer, short_fault, chunk_walk}
use Rattle.lr_images.proofs.reading.add_chunk.Goals as goal

pub returns-in-Ok-clause-walk : goal.returns-in-Ok-clause-walk
returns-in-Ok-clause-walk g c =
    chunk_walk g.O.Origin.faults c.args.depot.now c.fetch.new.depot c.args.lease c.args.index (sha256 (arc_value c.in-Ok.chunk)) c.in-Ok.ensures.walk.0 c.append.result c.in-Ok.ensures.walk.2 c.in-Ok.ensures.walk.1 c.append.ensures.memory

pub returns-in-Ok-clause-added : goal.returns-in-Ok-clause-added
returns-in-Ok-clause-added g c = if_ok _ _ c.append.result (λ x e. (arc_value c.in-Ok.chunk, e, c.in-Ok.ensures.fetched)) c.append.ensures.added

pub returns-in-Ok-clause-answer : goal.returns-in-Ok-clause-answer
returns-in-Ok-clause-answer g c = if_err _ _ c.append.result (λ e is image m out less. short_answer e is) c.append.ensures.memory

pub returns-in-Ok-clause-fault : goal.returns-in-Ok-clause-fault
returns-in-Ok-clause-fault g c = if_err _ _ c.append.result (λ e is. short_fault e _ is) c.append.ensures.memory

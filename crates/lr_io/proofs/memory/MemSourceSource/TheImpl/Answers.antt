use Rattle.lr_io.proofs.InMemory.{source_fits, source_takes, source_ends, source_never_falls, source_rose}
use Rattle.lr_io.proofs.memory.MemSourceSource.TheImpl.Goals as goal

pub read-tells : goal.read-tells
read-tells = λ c.
    let old = c.args.self.now in
    let new = c.new.self.now in
    record {
      fits = source_fits c.result _ _ c.ensures.count;
      takes = source_takes c.result old new c.args.buffer.now c.new.buffer.now c.ensures.count c.ensures.taken c.ensures.given;
      end = source_ends c.result old.left c.args.buffer.now c.ensures.count;
      never_falls = source_never_falls c.result old new c.ensures.failed c.ensures.taken;
      cause = source_rose c.result old new c.ensures.failed;
    }

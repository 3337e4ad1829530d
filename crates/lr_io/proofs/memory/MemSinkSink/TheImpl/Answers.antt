use Rattle.std.proofs.Common.{ap}
use Rattle.lr_io.specs.Memory.{SinkInMemory}
use Rattle.lr_io.proofs.InMemory.{sink_fits, sink_some, sink_appends, sink_kept, sink_never_falls, sink_rose}
use Rattle.lr_io.proofs.memory.MemSinkSink.TheImpl.Goals as goal

pub write-tells : goal.write-tells
write-tells = λ c.
    let old = c.args.self.now in
    let new = c.new.self.now in
    record {
      fits = sink_fits c.result _ c.ensures.whole;
      some = sink_some c.result _ c.ensures.whole;
      appends = sink_appends c.result old new c.args.bytes.now c.ensures.whole c.ensures.added;
      nothing = sink_kept c.result old new c.ensures.failed c.ensures.no_memory;
      never_falls = sink_never_falls c.result old new c.args.bytes.now c.ensures.failed c.ensures.added c.ensures.no_memory;
      cause = sink_rose c.result old new c.ensures.failed;
      no_fault = λ is. ap (λ (s : SinkInMemory). s.faults) (c.ensures.no_memory is);
    }

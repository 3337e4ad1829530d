use Rattle.std.proofs.Common.{◌≡◌, ◌≤◌, ◌-◌, arith, length, drop, take}
use Rattle.std.proofs.lemmas.Grind.{common_steps}
use Rattle.lr_io.specs.Streams.{Appends}
use Rattle.lr_io.proofs.Streams.{appends_more}
use Rattle.lr_io.proofs.sink.write_all.Goals as goal

pub loop-done-preserved : goal.loop-done-preserved
loop-done-preserved g c =
    let bytes = c.args.bytes.now in
    let done = c.loop-done.done in
    let n = c.in_ok-done.field-0 in
    let piece = take (length bytes - done) (drop done bytes) in
    let is : piece ≡ drop done bytes = grind (arith, common_steps) in
    let fits : n ≤ length piece = c.in_ok-done.ensures.fits in
    let more : Appends (g.W.Sink.written c.loop-done.sink) (take n piece) (g.W.Sink.written c.write.new.self) = c.in_ok-done.ensures.appends in (
      grind (arith, common_steps),
      appends_more (g.W.Sink.written c.args.sink.now) (g.W.Sink.written c.loop-done.sink) (g.W.Sink.written c.write.new.self) bytes piece done n is c.loop-done.invariant.1 more,
      omega arith,
    )

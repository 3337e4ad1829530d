use Rattle.std.proofs.Common.{◌≡◌, ◌<◌, ◌++◌, arith, length, take}
use Rattle.std.proofs.lemmas.Grind.{common_steps}
use Rattle.lr_io.specs.Streams.{Takes, IsAtEnd}
use Rattle.lr_io.proofs.Streams.{takes_more, takes_whole}
use Rattle.lr_io.proofs.source.read_up_to.Goals as goal

pub loop-buffer-preserved : goal.loop-buffer-preserved
loop-buffer-preserved g c =
    let n = c.in_ok-n.n in
    let more : Takes (g.I.Source.left c.loop-buffer.source) (take n c.read.new.buffer) (g.I.Source.left c.read.new.self) = c.in_ok-n.ensures.takes in
    let items : c.extend_from_slice.new.self.items ≡ c.loop-buffer.bytes.items ++ take n c.read.new.buffer = grind (arith, common_steps) in (
      grind (arith, common_steps),
      rw items (takes_more (g.I.Source.left c.args.source.now) (g.I.Source.left c.loop-buffer.source) (g.I.Source.left c.read.new.self) c.loop-buffer.bytes.items (take n c.read.new.buffer) c.loop-buffer.invariant.1 more),
      omega arith,
    )

pub returns-then-n-eq0-clause-whole : goal.returns-then-n-eq0-clause-whole
returns-then-n-eq0-clause-whole g c = λ _.
    let before = take c.min-want.result c.loop-buffer.buffer in
    let n = c.in_ok-n.n in
    let none : n ≡ 0 = c.if-n-eq0.true in
    let room : 0 < length before = grind (arith, common_steps) in
    let end : IsAtEnd (g.I.Source.left c.loop-buffer.source) = c.in_ok-n.ensures.end none room in
    takes_whole (g.I.Source.left c.args.source.now) (g.I.Source.left c.loop-buffer.source) (g.I.Source.left c.read.new.self) c.loop-buffer.bytes.items c.read.new.buffer n none c.loop-buffer.invariant.1 end c.in_ok-n.ensures.takes

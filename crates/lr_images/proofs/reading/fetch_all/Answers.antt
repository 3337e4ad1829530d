use Rattle.std.proofs.Common.{◌<◌, [], ◌++◌, arith, length}
use Rattle.std.proofs.lemmas.Grind.{common_steps}
use Rattle.std.proofs.lemmas.Result.{err_from_is_err_and}
use Rattle.lr_images.proofs.Calling.{calls_none, calls_on, rose_before}
use Rattle.lr_images.proofs.Readings.{short_fetches, fetched_none, fetched_more, fetched_all, texts_all, fetched_until, keeps_on, out_now}
use Rattle.lr_images.proofs.reading.fetch_all.Goals as goal

pub loop-index-init : goal.loop-index-init
loop-index-init g c = fetched_none g.O.Origin.objects g.O.Origin.faults c.args.depot.now c.args.lease c.args.keys.now c.in_ok-bytes.bytes.items c.in_ok-bytes.ensures.items

pub returns-in_err-bytes-clause-walk : goal.returns-in_err-bytes-clause-walk
returns-in_err-bytes-clause-walk g c =
    let p = err_from_is_err_and c.from_residual.result c.from_residual.ensures.1 in
    ([], calls_none g.O.Origin.faults c.args.depot.now, rw (p.1, p.2) (short_fetches c.args.lease (length c.args.keys.now) 0))

pub loop-index-preserved : goal.loop-index-preserved
loop-index-preserved g c =
    fetched_more g.O.Origin.objects g.O.Origin.faults c.args.depot.now c.loop-index.depot c.add_chunk.new.depot c.args.lease c.loop-index.index c.args.keys.now c.key_at-key.result.now.bytes c.loop-index.bytes.items c.add_chunk.new.bytes.items
    c.in-Ok.ensures.walk.0 c.in-Ok.ensures.walk.2.0 c.in-Ok.ensures.added.0 c.key_at-key.ensures c.in-Ok.ensures.walk.1 c.in-Ok.ensures.walk.2.1 c.add_chunk.ensures.keeps c.in-Ok.ensures.added.1 c.in-Ok.ensures.added.2 c.loop-index.invariant

pub returns-in-Err-clause-walk : goal.returns-in-Err-clause-walk
returns-in-Err-clause-walk g c = (
  c.loop-index.invariant.steps ++ c.in-Err.ensures.walk.0,
  calls_on g.O.Origin.faults c.args.depot.now c.loop-index.depot c.add_chunk.new.depot c.loop-index.invariant.steps c.in-Err.ensures.walk.0 c.loop-index.invariant.calls c.in-Err.ensures.walk.1,
  (let less : c.loop-index.index < length c.args.keys.now = omega (arith, c.requires) in fetched_until g.O.Origin.objects g.O.Origin.faults c.args.depot.now c.loop-index.depot c.args.lease c.loop-index.index c.args.keys.now c.loop-index.bytes.items c.in-Err.ensures.walk.0 _ less c.in-Err.ensures.walk.2 c.loop-index.invariant),
)

pub returns-in-Err-clause-keeps : goal.returns-in-Err-clause-keeps
returns-in-Err-clause-keeps g c = keeps_on g.O.Origin.objects c.args.depot.now c.loop-index.depot c.add_chunk.new.depot c.loop-index.invariant.keeps c.add_chunk.ensures.keeps

pub returns-in-Err-clause-answer : goal.returns-in-Err-clause-answer
returns-in-Err-clause-answer g c = λ image m out same.
    c.in-Err.ensures.answer image m (out_now g.O.Origin.objects c.args.depot.now c.loop-index.depot c.args.lease image m c.loop-index.invariant.keeps out) (omega (arith, c.requires, same))

pub returns-in-Err-clause-fault : goal.returns-in-Err-clause-fault
returns-in-Err-clause-fault g c = λ h.
    rose_before (g.O.Origin.faults c.args.depot.now.origin) (g.O.Origin.faults c.loop-index.depot.origin) (g.O.Origin.faults c.add_chunk.new.depot.origin) c.loop-index.invariant.calls.never_falls (c.in-Err.ensures.fault h)

pub returns-clause-walk : goal.returns-clause-walk
returns-clause-walk g c = (
  c.loop-index.invariant.steps,
  c.loop-index.invariant.calls,
  fetched_all g.O.Origin.objects g.O.Origin.faults c.args.depot.now c.loop-index.depot c.args.lease c.loop-index.index c.args.keys.now c.loop-index.bytes.items (omega (arith, c.requires)) c.loop-index.invariant,
)

pub returns-clause-keeps : goal.returns-clause-keeps
returns-clause-keeps g c = c.loop-index.invariant.keeps

pub returns-clause-texts : goal.returns-clause-texts
returns-clause-texts g c = (
  c.loop-index.bytes.items,
  texts_all g.O.Origin.objects g.O.Origin.faults c.args.depot.now c.loop-index.depot c.args.lease c.loop-index.index c.args.keys.now c.loop-index.bytes.items (omega (arith, c.requires)) c.loop-index.invariant,
  grind (arith, common_steps),
)

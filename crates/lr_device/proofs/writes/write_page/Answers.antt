use Rattle.std.proofs.Common.{◌≡◌, ◌-◌, arith}
use Rattle.lr_device.specs.Demand.{part_count}
use Rattle.lr_device.proofs.Parts.{write_call_page, wants_part, met_in_part}
use Rattle.lr_device.proofs.writes.write_page.Goals as goal

pub returns-clause-written : goal.returns-clause-written
returns-clause-written c = λ base agrees fits.
    let n : c.min.result - c.max-from.result ≡ part_count c.args.call.now c.args.page = omega arith in
    rw (c.place.ensures, c.open_page-buffer.ensures.out, c.put_part.ensures, c.as_mut_slice.ensures.value, c.deref_mut.ensures.value)
    (write_call_page c.args.pages.now.pages base c.open_page-buffer.result.value c.args.call.now c.args.page _ _ _ c.is_whole.ensures c.requires.within fits c.requires.low c.requires.high c.requires.change
    n (omega arith) (omega arith) c.open_page-buffer.ensures.len
    (λ h. c.open_page-buffer.ensures.same h base (λ bare. agrees (wants_part _ c.args.call.now c.args.page c.requires.low c.requires.high bare (met_in_part c.args.call.now c.args.page (omega arith)))) (omega arith)))

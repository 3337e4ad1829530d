use Rattle.std.proofs.Common.{◌≡◌}
use Rattle.lr_desk.specs.declared.outcome.Outcome.TheVariants.{OriginFault, ReadFault}
use Rattle.lr_desk.proofs.Walking.{bytes_of, error_of, error_fault, error_read}
use Rattle.lr_desk.proofs.running.read_back.Goals as goal

pub returns-in-Ok-clause-walk : goal.returns-in-Ok-clause-walk
returns-in-Ok-clause-walk g c = λ source left.
    let w = c.in-Ok.ensures.walk in
    bytes_of g.O.Origin.objects g.O.Origin.faults c.args.depot.now c.cat.new.depot c.args.image c.args.tenant source left c.requires.fresh c.in-Ok.bytes w.0 w.1 w.2 w.3

pub returns-in-Err-clause-walk : goal.returns-in-Err-clause-walk
returns-in-Err-clause-walk g c = λ source left.
    let w = c.in-Err.ensures.walk in
    error_of g.O.Origin.objects g.O.Origin.faults c.args.depot.now c.cat.new.depot c.args.image c.args.tenant source left c.requires.fresh c.in-Err.error c.of_error.result w.0 c.of_error.ensures w.1 w.2

pub returns-in-Err-clause-read : goal.returns-in-Err-clause-read
returns-in-Err-clause-read g c = λ e. error_read c.in-Err.error c.of_error.result c.of_error.ensures (let s : c.of_error.result ≡ ReadFault = cc in s)

pub returns-in-Err-clause-cause : goal.returns-in-Err-clause-cause
returns-in-Err-clause-cause g c = λ e. error_fault c.in-Err.error c.of_error.result _ c.of_error.ensures c.in-Err.ensures.fault (let s : c.of_error.result ≡ OriginFault = cc in s)

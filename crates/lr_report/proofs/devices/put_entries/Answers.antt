use Rattle.std.proofs.Common.{sym, arith}
use Rattle.lr_report.specs.Report.{entry_text}
use Rattle.lr_report.proofs.Entries.{entries_more}
use Rattle.lr_report.proofs.devices.put_entries.Goals as goal

pub loop-at-preserved : goal.loop-at-preserved
loop-at-preserved c =
    entries_more (entry_text c.args.callers.now) c.args.out.now.items c.loop-at.out.items c.put_entry.new.out.items c.args.device.now.log c.loop-at.at c.in-Some.entry.now (omega arith) (sym c.in-Some.ensures) c.loop-at.invariant c.in_ok-put_entry.ensures

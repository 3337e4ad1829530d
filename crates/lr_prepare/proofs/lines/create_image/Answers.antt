use Rattle.std.proofs.lemmas.Result.{on_ok_weaker}
use Rattle.lr_script.specs.Seen.{body_seen}
use Rattle.lr_prepare.proofs.Opening.{image_line}
use Rattle.lr_prepare.proofs.lines.create_image.Goals as goal

pub returns-in-Ok-clause-done : goal.returns-in-Ok-clause-done
returns-in-Ok-clause-done g c =
    on_ok_weaker c.create_of.result (λ h. image_line c.args.depot.now c.create_of.new.depot c.args.image c.args.tenant c.in-Ok.raw.items c.args.len (body_seen c.args.body.now) c.in-Ok.ensures h) c.create_of.ensures.done

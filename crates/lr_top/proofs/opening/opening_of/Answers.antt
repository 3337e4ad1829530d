use Rattle.std.proofs.Common.{◌≡◌, length, ap, sym, ◌∙◌}
use Rattle.lr_script.specs.Seen.{ScriptSeen}
use Rattle.lr_prepare.specs.Lines.{seen_lines}
use Rattle.lr_top.specs.Opening.{images_opened}
use Rattle.lr_top.proofs.opening.opening_of.Goals as goal

pub open_each-requires-clause-devices : goal.open_each-requires-clause-devices
open_each-requires-clause-devices c =
    let images : c.deref-2.result.now ≡ images_opened c.args.script.now.setup = c.deref-2.ensures.value ∙ (c.in_ok-images.ensures ∙ ap images_opened (ap seen_lines c.deref.ensures.value ∙ ap (λ (s : ScriptSeen). s.setup) c.script.view_is)) in
    c.requires.devices ∙ ap length (sym images)

pub open_each-requires-clause-places : goal.open_each-requires-clause-places
open_each-requires-clause-places c =
    let images : c.deref-2.result.now ≡ images_opened c.args.script.now.setup = c.deref-2.ensures.value ∙ (c.in_ok-images.ensures ∙ ap images_opened (ap seen_lines c.deref.ensures.value ∙ ap (λ (s : ScriptSeen). s.setup) c.script.view_is)) in
    c.requires.places ∙ ap length (sym images)

use Rattle.std.proofs.Common.{◌∙◌, ap, sym, Some}
use Rattle.std.proofs.lemmas.Option.{slice_get-get_or}
use Rattle.lr_device.specs.Enters.{Enters, is_logged}
use Rattle.lr_world.proofs.Places.{logs_at}
use Rattle.lr_world.proofs.calling.on_device.Goals as goal

pub returns-clause-logs : goal.returns-clause-logs
returns-clause-logs c =
    logs_at c.args.devices.now.items c.args.at (is_logged c.apply.result) (λ d e. Enters d.capacity d.log c.args.caller c.args.call c.apply.result e) (λ e. Unit {0} → Unit {0}) c.args.caller c.index_mut-device.result.now c.apply.new.self
    (slice_get-get_or _ _ _ c.requires.there ∙ ap Some (sym c.index_mut-device.ensures.value)) c.requires.there c.apply.ensures.fixed c.apply.ensures.logged

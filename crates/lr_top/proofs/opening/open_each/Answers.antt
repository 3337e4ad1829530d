use Rattle.std.proofs.Common.{◌+◌, ◌≡◌, List, Some, length, slice_get, refl, sym, subst, arith}
use Rattle.std.proofs.lemmas.Option.{slice_get_read}
use Rattle.lr_report.specs.declared.run.OpenDevice.{OpenDevice}
use Rattle.lr_top.proofs.Opened.{HasOpened, one_opened}
use Rattle.lr_top.proofs.opening.open_each.Goals as goal

pub loop-at-preserved : goal.loop-at-preserved
loop-at-preserved c =
    let images = c.args.images.now in
    let devices = c.args.devices.now in
    let places = c.args.places.now in
    let at = c.loop-at.at in
    let image : slice_get images at ≡ Some c.index-images-at.result = slice_get_read images (length images) at c.index-images-at.result refl (omega arith) c.index-images-at.is in
    let device : slice_get devices at ≡ Some c.index-devices-at.result = slice_get_read devices (length devices) at c.index-devices-at.result refl (omega (arith, c.requires.devices)) c.index-devices-at.is in
    let place : slice_get places at ≡ Some c.index-places-at.result = slice_get_read places (length places) at c.index-places-at.result refl (omega (arith, c.requires.places)) c.index-places-at.is in
    subst (λ (l : List OpenDevice). HasOpened (at + 1) images devices places l) (sym c.in_ok-push.ensures.items)
    (one_opened at images devices places c.loop-at.opened.items c.index-images-at.result c.index-devices-at.result c.index-places-at.result c.in_ok-one.one c.loop-at.invariant image device place c.in_ok-one.ensures)

use Rattle.std.proofs.Common.{◌/◌, arith}
use Rattle.std.proofs.lemmas.List.Elements.{All-nil}
use Rattle.lr_device.specs.Held.{HasPlace}
use Rattle.lr_device.proofs.Keeping.{holds_blank}
use Rattle.lr_device.proofs.object.Device.new.Goals as goal

pub invariant_of-result : goal.invariant_of-result
invariant_of-result c = record {
  state = rw (c.in_ok-overlay.ensures, c.new-2.ensures.items, c.new-3.ensures.items) (holds_blank c.args.length (c.args.length / 4096) (omega arith));
  places = omega arith;
  placed = rw c.new-2.ensures.items (All-nil (HasPlace c.args.length c.in_ok-overlay.overlay.leaves));
}

use Rattle.std.proofs.Common.{◌≡◌, ◌+◌, ◌-◌, length, arith, ap, ◌∙◌}
use borrow.Rule.Slice.PartMut.{put_mid}
use Rattle.lr_origin.proofs.Placed.{put_behind}
use Rattle.lr_origin.proofs.text.put_part.Goals as goal

pub returns : goal.returns
returns c = λ xs long is.
    let wide : c.args.at + length c.args.part.now - c.args.at ≡ length c.args.part.now = omega arith in
    ap (put_mid c.args.at _ c.args.text.now) c.copy_from_slice.ensures.after ∙ put_behind 79 c.args.at _ xs c.args.part.now c.args.text.now long wide is

use Rattle.std.proofs.Common.{rules, ◌≡◌, ◌∙◌}
use Rattle.std.specs.Cmp.Lexicographic.{slice_cmp}
use Rattle.std.specs.Ordering.{nat_cmp}
use Rattle.lr_origin.specs.Text.{key_text}
use Rattle.lr_origin.proofs.TextOrder.{order_is_text}
use Rattle.lr_origin.proofs.key.KeyOrd.cmp.Goals as goal

pub returns-clause-kinds : goal.returns-clause-kinds
returns-clause-kinds c =
    let texts : c.cmp.result ≡ slice_cmp nat_cmp (key_text c.args.self.now) (key_text c.args.other.now) = search rules in
    texts ∙ order_is_text c.args.self.now c.args.other.now c.as_bytes.ensures.kind c.as_bytes-2.ensures.kind

use Rattle.std.proofs.Common.{◌≡◌, ℕ, List, length, take, ap, sym, subst, ◌∙◌}
use Rattle.lr_text.specs.Name.{padded}
use Rattle.lr_text.proofs.Public.{padded_take}
use Rattle.lr_origin.specs.Text.{key_text, IsKind}
use Rattle.lr_origin.proofs.key.Key.as_bytes.Goals as goal

back : (xs kept : List ℕ) (len : ℕ) → len ≡ length xs → kept ≡ padded 79 xs → take len kept ≡ xs
back xs kept len e f = (λ i. take (e i) (f i)) ∙ padded_take 79 xs

pub returns-clause-text : goal.returns-clause-text
returns-clause-text c = back (key_text c.self.inside.kind) c.self.inside.text c.self.inside.len c.self.invariant.0 c.self.invariant.1 ∙ ap key_text c.self.view_is

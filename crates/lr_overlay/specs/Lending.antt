-- A page that is lent.
use Rattle.std.specs.Prelude.{ℕ, List, Option, Some, set}
use Rattle.std.specs.Borrow.{LendsIf, MutBor, Fml, u8, Array}
use Rattle.lr_overlay.specs.Pages.{fitted}
use Rattle.lr_overlay.specs.declared.Overlay.{Overlay}
use Rattle.lr_overlay.specs.contracts.Overlay as overlay
use Rattle.lr_overlay.specs.declared.leaf.Leaf.{Leaf}
use Rattle.lr_overlay.specs.contracts.leaf.Leaf as leaf

-- The pages end with this page as the last value behind r, which has 4,096 bytes by its type.
abbrev pub LendsPage : MutBor Overlay → ℕ → Option (MutBor (List ℕ)) → Fml
LendsPage s page r = LendsIf overlay.the_row (Array u8 4096) s r (λ w. record { pages = set s.now.pages page (Some (fitted 4096 w)); leaves = s.now.leaves }) s.now

-- So do the pages of a chunk.
abbrev pub LendsPlace : MutBor Leaf → ℕ → Option (MutBor (List ℕ)) → Fml
LendsPlace s at r = LendsIf leaf.the_row (Array u8 4096) s r (λ w. set s.now at (Some (fitted 4096 w))) s.now

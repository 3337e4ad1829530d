use Rattle.std.proofs.Common.{◌≡◌, ℕ, Option, Some, None, Vec, refl, sym, ap, ◌∙◌}
use denote.Ref.{Bor}
use Rattle.std.specs.Option.{option_copied}
use Rattle.std.specs.declared.alloc.Global.{Global}
use Rattle.std.specs.FinMap as map
use Rattle.lr_origin.specs.Table.{body_of}
use Rattle.lr_origin.proofs.Tables.{get_objects, items_of}
use Rattle.lr_origin.proofs.table.Table.get.Goals as goal

read : (r : Option (Bor (Vec ℕ Global))) → body_of r ≡ items_of (option_copied r)
read None = refl
read (Some x) = refl

pub returns : goal.returns
returns c = read c.get.result ∙ ap items_of c.get.ensures.value ∙ sym (get_objects c.self.inside.entries.entries c.args.key.now) ∙ ap (λ m. map.get m c.args.key.now) c.self.view_is

use Rattle.std.proofs.Common.{◌≡◌, Option, Some, None, refl, sym, ap, ◌∙◌, option_map}
use denote.Ref.{Bor}
use Rattle.std.specs.Option.{option_copied}
use Rattle.std.specs.FinMap as map
use Rattle.lr_roots.specs.declared.kept.Kept.{Kept}
use Rattle.lr_roots.specs.Keys.{held_of, plain}
use Rattle.lr_roots.proofs.Trees.{get_view}
use Rattle.lr_roots.proofs.keys.Keys.get.Goals as goal

read : (r : Option (Bor Kept)) → held_of r ≡ option_map plain (option_copied r)
read None = refl
read (Some x) = refl

pub returns : goal.returns
returns c = read c.get.result ∙ ap (option_map plain) c.get.ensures.value ∙ sym (get_view c.self.inside.entries.entries c.args.key.now) ∙ ap (λ m. map.get m c.args.key.now) c.self.view_is

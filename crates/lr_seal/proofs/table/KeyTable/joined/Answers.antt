use Rattle.std.proofs.Common.{◌≡◌, ap, ◌∙◌}
use Rattle.std.specs.List.{flat_map}
use Rattle.lr_seal.specs.Table.{joined_keys, key_bytes}
use Rattle.lr_seal.proofs.Pieces.{joined_map}
use Rattle.lr_seal.proofs.table.KeyTable.joined.Goals as goal

pub returns : goal.returns
returns c = c.in_ok-text.ensures ∙ ap (flat_map key_bytes) c.deref.ensures.value ∙ joined_map c.self.inside.keys.items ∙ ap joined_keys c.self.view_is

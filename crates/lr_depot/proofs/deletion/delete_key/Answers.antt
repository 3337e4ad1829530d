use Rattle.std.proofs.Common.{◌≡◌, ap, ◌∙◌}
use Rattle.std.specs.FinMap as map
use Rattle.lr_roots.specs.Catalog.{Seen}
use Rattle.lr_roots.specs.Keys.{plain}
use Rattle.lr_depot.proofs.Puts.{ok_fact, taken_out}
use Rattle.lr_depot.proofs.deletion.delete_key.Goals as goal

pub returns-in-Ok-clause-known : goal.returns-in-Ok-clause-known
returns-in-Ok-clause-known g c =
    let v : c.remove-in-Ok.new.self.view ≡ map.remove c.args.catalog.now.view c.args.key = ap (λ (s : Seen). s.view) c.remove-in-Ok.ensures in
    let d : c.remove.new.self ≡ map.remove c.args.doubts.now c.args.key =
    c.remove.ensures ∙ ap (λ w. map.remove w c.args.key) (ok_fact c.insert.result _ c.if-is_err.ensures.value c.insert.ensures.ok) ∙ taken_out c.args.doubts.now c.args.key (plain c.args.doubt) in
    λ i. record { view = v i; doubts = d i }

use Rattle.std.proofs.Common.{◌≡◌, None, sym, ap, ◌∙◌}
use Rattle.std.specs.FinMap as map
use Rattle.lr_origin.specs.Text.{key_text}
use Rattle.lr_opening.proofs.Decided.{not_none}
use Rattle.lr_opening.proofs.Readings.{read_kind}
use Rattle.lr_opening.proofs.reading.kept_at.Goals as goal

pub returns-in-Ok-None-clause-cause : goal.returns-in-Ok-None-clause-cause
returns-in-Ok-None-clause-cause g c = λ there. (
  read_kind c.args.key.now (λ r name e. c.in_default.not-Chunk r name (c.kind-kind.ensures.same ∙ e)),
  λ m told.
      let body : None ≡ map.get m c.as_bytes.result.now = (rw c.in-Ok-None.field-0-is at c.in-Ok-None.ensures.body) m told in
      not_none (map.get m (key_text c.args.key.now)) (sym (ap (map.get m) c.as_bytes.ensures.text) ∙ sym body) (there m told),
)

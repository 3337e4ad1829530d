use Rattle.std.proofs.Common.{◌≡◌, ℕ, List, ap, ◌∙◌}
use Rattle.lr_convergent.specs.Sealed.{chunk_text, filled, sealed_key}
use Rattle.lr_convergent.proofs.Twice.{chunk_twice}
use Rattle.lr_convergent.proofs.decrypt_into.Goals as goal

pub returns-clause-restores : goal.returns-clause-restores
returns-clause-restores c = λ salt plain eb ek.
    c.turn.ensures ∙ (λ i. chunk_text (ek i) ((c.copy_from_slice.ensures.after ∙ c.bytes.ensures.bytes ∙ eb) i)) ∙ chunk_twice (sealed_key salt plain) (filled 524288 plain)

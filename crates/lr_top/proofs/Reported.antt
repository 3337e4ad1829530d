-- fronts of a text
use Rattle.std.proofs.Common.{◌≡◌, ℕ, ◌++◌, List, length, Option, Some, ap, sym, ◌∙◌, append-nil, arith}
use Rattle.std.proofs.Math.Seq.{take-length}
use Rattle.lr_io.specs.Streams.{Appends, AppendsFront}

pub whole_front : (before after : Option (List ℕ)) (text report : List ℕ) → text ≡ report → Appends before text after → AppendsFront before report after
whole_front before after text report same appends = λ xs told.
    (length report, omega arith, appends xs told ∙ ap (λ (t : List ℕ). Some (xs ++ t)) (same ∙ sym (take-length report)))

-- nothing was written, which is a front of every text
pub none_written : (before : Option (List ℕ)) (text : List ℕ) → AppendsFront before text before
none_written before text = λ xs told. (0, omega arith, told ∙ ap Some (sym (append-nil xs)))

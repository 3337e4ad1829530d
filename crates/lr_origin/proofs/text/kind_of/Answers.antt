use Rattle.std.proofs.Common.{rules, ◌≡◌, ◌-◌, ℕ, List, length, take, drop, None, ap, ◌∙◌, sym, arith}
use Rattle.std.proofs.lemmas.Slice.{between_to_end}
use Rattle.lr_text.specs.Name.{is_name}
use Rattle.lr_origin.proofs.KeyTexts.{not_short, not_short_root, read_withdrawn, read_no_withdrawn}
use Rattle.lr_origin.proofs.text.kind_of.Goals as goal

behind_two : (bytes : List ℕ) → take (length bytes - 2) (drop 2 bytes) ≡ drop 2 bytes
behind_two bytes = between_to_end bytes 2 (length bytes) (omega arith)

pub returns-then-bytes-lt3 : goal.returns-then-bytes-lt3
returns-then-bytes-lt3 c = λ k i e. not_short c.args.bytes.now k i e c.if-bytes-lt3.true

pub returns-then-bytes-eq119 : goal.returns-then-bytes-eq119
returns-then-bytes-eq119 c = λ k i e. read_withdrawn c.args.bytes.now k i e c.if-bytes-eq119.true c.in_ok-parse.field-0 (c.in_ok-parse.ensures.found.0 ∙ behind_two c.args.bytes.now)

pub returns-in_err-parse : goal.returns-in_err-parse
returns-in_err-parse c =
    let none : c.from_residual.result ≡ None = search rules in
    λ k i e. none ∙ read_no_withdrawn c.args.bytes.now k i e c.if-bytes-eq119.true (ap is_name (sym (behind_two c.args.bytes.now)) ∙ c.in_err-parse.ensures.only)

pub returns-then-bytes-lt14 : goal.returns-then-bytes-lt14
returns-then-bytes-lt14 c = λ k i e. not_short_root c.args.bytes.now k i e c.if-bytes-lt14.true c.if-bytes-eq119.false

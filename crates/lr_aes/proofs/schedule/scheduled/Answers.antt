use Rattle.std.proofs.Common.{◌≡◌, ◌≢◌, ℕ, ◌-◌, ◌/◌, ◌%◌, List, [], ◌∷◌, bit_xor, sym, ap, ◌∙◌, arith}
use Rattle.lr_aes.specs.Cipher.{sub_byte}
use Rattle.lr_aes.proofs.TableFacts.{constant_at}
use Rattle.lr_aes.proofs.KeyWords.{first_case, short_case, middle_case, other_case}
use Rattle.lr_aes.proofs.schedule.scheduled.Goals as goal

pub returns-then-i-words-eq0 : goal.returns-then-i-words-eq0
returns-then-i-words-eq0 c =
    let n : ℕ = c.args.i / c.args.words - 1 in
    let rc = c.round_constant.ensures ∙ constant_at n (omega arith) in
    (λ k. bit_xor (c.sub.ensures k) (rc k) ∷ c.sub-then-i-words-eq0.ensures k ∷ c.sub-then-i-words-eq0-2.ensures k ∷ c.sub-then-i-words-eq0-3.ensures k ∷ [])
    ∙ sym (first_case c.args.words c.args.i c.args.a c.args.b c.args.c c.args.d c.if-i-words-eq0.true)

pub returns-then-words-ne8 : goal.returns-then-words-ne8
returns-then-words-ne8 c =
    sym (short_case c.args.words c.args.i c.args.a c.args.b c.args.c c.args.d (λ e. absurd (c.if-i-words-eq0.false e)) (λ e. absurd (c.if-words-ne8.true e)))

pub returns-then-i-words-eq4 : goal.returns-then-i-words-eq4
returns-then-i-words-eq4 c =
    (λ k. c.sub-then-i-words-eq4.ensures k ∷ c.sub-then-i-words-eq4-2.ensures k ∷ c.sub-then-i-words-eq4-3.ensures k ∷ c.sub-then-i-words-eq4-4.ensures k ∷ [])
    ∙ sym (middle_case c.args.words c.args.i c.args.a c.args.b c.args.c c.args.d (omega (arith, c.if-words-ne8.false)) c.if-i-words-eq4.true)

pub returns-else-i-words-eq4 : goal.returns-else-i-words-eq4
returns-else-i-words-eq4 c =
    sym (other_case c.args.words c.args.i c.args.a c.args.b c.args.c c.args.d (λ e. absurd (c.if-i-words-eq0.false e)) (λ e. absurd (c.if-i-words-eq4.false e)))

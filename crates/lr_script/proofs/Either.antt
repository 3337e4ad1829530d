-- A text is a script, or one of its lines is the first outside.
use Rattle.std.proofs.Common.{◌≡◌, ℕ, zero, suc, ◌+◌, ◌≤◌, List, [], ◌∷◌, ◌++◌, ◌⊎◌, inl, inr, length, length-append, Bool, true, false, ap, refl, arith}
use Rattle.std.specs.Prelude.{◌==◌}
use Rattle.std.specs.List.{AllPass, list_all}
use Rattle.std.proofs.lemmas.List.Sums.{AllPass-from_list_all, list_all-from_AllPass}
use Rattle.std.proofs.lemmas.Bool.Decides.{nat_tests}
use Rattle.lr_text.specs.Words.{Lacks, split_at_byte}
use Rattle.lr_script.specs.Limits.{line_most, lines_most, bytes_most}
use Rattle.lr_script.specs.Seen.{ScriptSeen}
use Rattle.lr_script.specs.State.{State, start, counted}
use Rattle.lr_script.specs.Kinds.{kind_of, may_come, has_begun}
use Rattle.lr_script.specs.Grammar.{is_text_byte, is_passed, WordsLine, CountedLine, Reads, Spells, FirstOutside}
use Rattle.lr_script.proofs.Sure.{Sure, yes, never, mapped, both, is_true, is_less, is_most}
use Rattle.lr_script.proofs.SureLines.{kind_sure}
use Rattle.lr_script.proofs.Fronts.{Reached, at_start, reached_more, next_outside, end_outside, spells}

words_sure : (s : State) (words : List (List ℕ)) → Sure ((after : State) × WordsLine s words after)
words_sure s [] = never (λ e. e.1)
words_sure s (word ∷ words) =
    mapped (both (is_true (may_come s.part (kind_of word))) (kind_sure (kind_of word) s words)) (λ p. (p.1.0, (p.0, p.1.1))) (λ e. (e.1.0, (e.0, e.1.1)))

counted_sure : (passed : Bool) (s : State) (line : List ℕ) → Sure ((after : State) × CountedLine passed s line after)
counted_sure true s line = yes (s, refl)
counted_sure false s line = words_sure s (split_at_byte 32 line)

text_sure : (line : List ℕ) → Sure (AllPass is_text_byte line)
text_sure line = mapped (is_true (list_all is_text_byte line)) (AllPass-from_list_all is_text_byte line) (list_all-from_AllPass is_text_byte line)

-- Whether a line may come in a state is decided.
reads_sure : (s : State) (line : List ℕ) → Sure ((after : State) × Reads s line after)
reads_sure s line =
    mapped (both (text_sure line) (both (is_most (length line) line_most) (both (is_less s.lines lines_most) (both (is_most (s.bytes + length line + 1) bytes_most) (counted_sure (is_passed line) (counted s line) line)))))
    (λ p. (p.1.1.1.1.0, record { text = p.0; short = p.1.0; few = p.1.1.0; within = p.1.1.1.0; item = p.1.1.1.1.1 }))
    (λ e. (e.1.text, (e.1.short, (e.1.few, (e.1.within, (e.0, e.1.item))))))

-- where the next line ends
record NextLine (rest : List ℕ) : Type 0 where
  line : List ℕ
  behind : List ℕ
  cut : rest ≡ line ++ 10 ∷ behind
  lacks : Lacks 10 line

is_ten : (b : ℕ) → (b == 10) ≡ true → b ≡ 10
is_ten b e = grind (arith, nat_tests)

next_more : (b : ℕ) (bs : List ℕ) (t : Bool) → (b == 10) ≡ t → Lacks 10 bs ⊎ NextLine bs → Lacks 10 (b ∷ bs) ⊎ NextLine (b ∷ bs)
next_more b bs true e next = inr (record { line = []; behind = bs; cut = ap (λ (x : ℕ). x ∷ bs) (is_ten b e); lacks = tt })
next_more b bs false e (inl none) = inl (e, none)
next_more b bs false e (inr n) = inr (record { line = b ∷ n.line; behind = n.behind; cut = ap (λ (xs : List ℕ). b ∷ xs) n.cut; lacks = (e, n.lacks) })

next_line : (rest : List ℕ) → Lacks 10 rest ⊎ NextLine rest
next_line [] = inl tt
next_line (b ∷ bs) = next_more b bs (b == 10) refl (next_line bs)

shorter : (rest : List ℕ) (n : NextLine rest) → length n.behind + 1 ≤ length rest
shorter rest n = let a : length rest ≡ length (n.line ++ 10 ∷ n.behind) = ap length n.cut in let b = length-append n.line (10 ∷ n.behind) in omega arith

Answer : List ℕ → Type 0
Answer bytes = ((a : ScriptSeen) × Spells bytes a) ⊎ ((n : ℕ) × FirstOutside bytes n)

at_last : (bytes rest : List ℕ) (now : State) (t : Bool) → has_begun now.part ≡ t → Reached bytes rest now → Lacks 10 rest → Answer bytes
unfolding Answer
at_last bytes [] now true begun reached lacks = inl (now.script, spells bytes [] now now.script reached refl begun refl)
at_last bytes [] now false begun reached lacks = inr (now.lines + 1, end_outside bytes [] now (now.lines + 1) reached refl lacks (λ e. begun))
at_last bytes (x ∷ xs) now t begun reached lacks = inr (now.lines + 1, end_outside bytes (x ∷ xs) now (now.lines + 1) reached refl lacks (λ e. absurd (cc e)))

from_here : (n : ℕ) (bytes rest : List ℕ) (now : State) → length rest ≤ n → Reached bytes rest now → Lacks 10 rest ⊎ NextLine rest → Answer bytes
unfolding Answer
from_here n bytes rest now le reached (inl lacks) = at_last bytes rest now (has_begun now.part) refl reached lacks
from_here zero bytes rest now le reached (inr next) = let a = shorter rest next in absurd (omega arith)
from_here (suc n) bytes rest now le reached (inr next) = elim (reads_sure now next.line) as (λ _. Answer bytes) [
  | yes r ↦ from_here n bytes next.behind r.0 (let a = shorter rest next in omega arith) (reached_more bytes rest now next.line next.behind r.0 reached next.cut r.1) (next_line next.behind)
  | never none ↦ inr (now.lines + 1, next_outside bytes rest now (now.lines + 1) next.line next.behind reached refl next.cut next.lacks (λ after h. none (after, h)))
]

-- Bytes spell a script, or one of their lines is the first outside.
pub always_one : (bytes : List ℕ) → ((a : ScriptSeen) × Spells bytes a) ⊎ ((n : ℕ) × FirstOutside bytes n)
unfolding Answer
always_one bytes = from_here (length bytes) bytes bytes start (omega arith) (at_start bytes start refl) (next_line bytes)

-- A line leads from a state to one state, bytes spell one script, and not where a line is outside.
use Rattle.std.proofs.Common.{◌≡◌, ℕ, List, [], ◌∷◌, ◌++◌, length, append_assoc, length-append, suc, Bool, true, false, sym, ap, subst, ◌∙◌, refl, arith}
use Rattle.lr_text.specs.Words.{split_at_byte}
use Rattle.lr_text.proofs.Public.{cut_one}
use Rattle.lr_script.specs.Seen.{ScriptSeen}
use Rattle.lr_script.specs.State.{State, start, counted}
use Rattle.lr_script.specs.Kinds.{kind_of, has_begun}
use Rattle.lr_script.specs.Grammar.{is_passed, WordsLine, CountedLine, Reads, Run, text_of, Spells, NoLine, FirstOutside}
use Rattle.lr_script.proofs.OneLine.{kind_one}
use Rattle.lr_script.proofs.Fronts.{text_lacks}

words_one : (s : State) (w : List (List ℕ)) (a b : State) → WordsLine s w a → WordsLine s w b → a ≡ b
words_one s [] a b h k = absurd h
words_one s (word ∷ words) a b h k = kind_one (kind_of word) s words a b h.1 k.1

counted_one : (p : Bool) (s : State) (line : List ℕ) (a b : State) → CountedLine p s line a → CountedLine p s line b → a ≡ b
counted_one true s line a b h k = h ∙ sym k
counted_one false s line a b h k = words_one s (split_at_byte 32 line) a b h k

-- A line leads from a state to one state.
pub reads_one : (s : State) (line : List ℕ) (a b : State) → Reads s line a → Reads s line b → a ≡ b
reads_one s line a b h k = counted_one (is_passed line) (counted s line) line a b h.item k.item

-- no line that may come is next
NoNext : State → List ℕ → Type 0
NoNext s rest = (line behind : List ℕ) (after : State) → rest ≡ line ++ 10 ∷ behind → Reads s line after → ⊥

next : (l : List ℕ) (ls : List (List ℕ)) (rest : List ℕ) → text_of (l ∷ ls) ++ rest ≡ l ++ 10 ∷ (text_of ls ++ rest)
next l ls rest = append_assoc (l ++ 10 ∷ []) (text_of ls) rest ∙ append_assoc l (10 ∷ []) (text_of ls ++ rest)

one_front : (s : State) (ls ms : List (List ℕ)) (a b : State) (r q : List ℕ) → Run s ls a → Run s ms b → text_of ls ++ r ≡ text_of ms ++ q → NoNext a r → NoNext b q → (a ≡ b) × (r ≡ q) × (length ls ≡ length ms)
unfolding NoNext
one_front s [] [] a b r q f g e none other = (sym f ∙ g, e, refl)
one_front s [] (m ∷ ms) a b r q f g e none other = absurd (none m (text_of ms ++ q) g.0 (e ∙ next m ms q) (subst (λ (t : State). Reads t m g.0) f g.1))
one_front s (l ∷ ls) [] a b r q f g e none other = absurd (other l (text_of ls ++ r) f.0 (sym e ∙ next l ls r) (subst (λ (t : State). Reads t l f.0) g f.1))
one_front s (l ∷ ls) (m ∷ ms) a b r q f g e none other =
    let c = cut_one 10 l m (text_of ls ++ r) (text_of ms ++ q) (text_lacks l f.1.text) (text_lacks m g.1.text) (sym (next l ls r) ∙ e ∙ next m ms q) in
    let t : g.0 ≡ f.0 = sym (reads_one s l f.0 g.0 f.1 (subst (λ (x : List ℕ). Reads s x g.0) (sym c.0) g.1)) in
    let rest = one_front f.0 ls ms a b r q f.2 (subst (λ (x : State). Run x ms b) t g.2) c.1 none other in
    (rest.0, rest.1, ap suc rest.2)

no_next_at_end : (s : State) → NoNext s []
unfolding NoNext
no_next_at_end s line behind after e h = let c = length-append line (10 ∷ behind) in let l : 0 ≡ length (line ++ 10 ∷ behind) = ap length e in omega arith

no_next : (s : State) (rest : List ℕ) → NoLine s rest → NoNext s rest
unfolding NoNext
no_next s rest none = none.outside

-- Bytes spell one script.
pub spells_one : (bytes : List ℕ) (a b : ScriptSeen) → Spells bytes a → Spells bytes b → a ≡ b
spells_one bytes a b h k =
    let f = h.whole in
    let g = k.whole in
    let one = one_front start f.lines g.lines h.last k.last [] [] f.run g.run (sym f.front ∙ g.front) (no_next_at_end h.last) (no_next_at_end k.last) in
    h.result ∙ ap (λ (s : State). s.script) one.0 ∙ sym k.result

-- One line is the first outside.
pub outside_one : (bytes : List ℕ) (m n : ℕ) → FirstOutside bytes m → FirstOutside bytes n → m ≡ n
outside_one bytes m n h k =
    let f = h.front in
    let g = k.front in
    let one = one_front start f.lines g.lines h.before k.before h.rest k.rest f.run g.run (sym f.front ∙ g.front) (no_next h.before h.rest h.outside) (no_next k.before k.rest k.outside) in
    let same = one.2 in
    let x = h.number in
    let y = k.number in
    omega arith

-- Where a line is outside, the bytes spell no script.
pub not_both : (bytes : List ℕ) (script : ScriptSeen) (n : ℕ) → Spells bytes script → FirstOutside bytes n → ⊥
not_both bytes script n h k =
    let f = h.whole in
    let g = k.front in
    let one = one_front start f.lines g.lines h.last k.before [] k.rest f.run g.run (sym f.front ∙ g.front) (no_next_at_end h.last) (no_next k.before k.rest k.outside) in
    let begun : has_begun h.last.part ≡ true = h.begun in
    let none : has_begun k.before.part ≡ false = k.outside.more (sym one.1) in
    let part : has_begun h.last.part ≡ has_begun k.before.part = ap (λ (s : State). has_begun s.part) one.0 in
    cc

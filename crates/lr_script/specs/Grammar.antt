-- A script: lines that lead from the start on, and the first line that doesn't.
use Rattle.std.specs.Prelude.{◌≡◌, ℕ, ◌+◌, ◌<◌, ◌≤◌, List, [], ◌∷◌, ◌++◌, length, Bool, true, false, IsTrue, ◌==◌, nat_le, ◌&&◌}
use Rattle.std.specs.List.{flat_map, AllPass}
use Rattle.lr_text.specs.Words.{split_at_byte}
use Rattle.lr_script.specs.Limits.{line_most, lines_most, bytes_most}
use Rattle.lr_script.specs.Seen.{ScriptSeen}
use Rattle.lr_script.specs.State.{State, start, counted}
use Rattle.lr_script.specs.Kinds.{kind_of, may_come, has_begun}
use Rattle.lr_script.specs.Lines.{KindLine}
use Rattle.lr_script.specs.declared.error.ScriptError.{ScriptError}
use Rattle.lr_script.specs.declared.error.ScriptError.TheVariants.{Line, OutOfMemory}

-- 0x20 to 0x7e
abbrev pub is_text_byte : ℕ → Bool
is_text_byte b = nat_le 32 b && nat_le b 126

-- a line that is passed over: empty, or it begins with `#`
abbrev pub is_passed : List ℕ → Bool
is_passed [] = true
is_passed (b ∷ bs) = b == 35

-- The first word says the kind of the line, which may come now, and the others fit that kind.
abbrev pub WordsLine : State → List (List ℕ) → State → Type 0
WordsLine s [] after = ⊥
WordsLine s (word ∷ words) after = IsTrue (may_come s.part (kind_of word)) × KindLine (kind_of word) s words after

abbrev pub CountedLine : Bool → State → List ℕ → State → Type 0
CountedLine true s line after = after ≡ s
CountedLine false s line after = WordsLine s (split_at_byte 32 line) after

-- A line that may come in this state leads to that one.
pub record Reads (s : State) (line : List ℕ) (after : State) : Type 0 where
  pub text : AllPass is_text_byte line
  pub short : length line ≤ line_most
  pub few : s.lines < lines_most
  pub within : s.bytes + length line + 1 ≤ bytes_most
  pub item : CountedLine (is_passed line) (counted s line) line after

-- Lines lead from a state to another.
abbrev pub Run : State → List (List ℕ) → State → Type 0
Run s [] last = s ≡ last
Run s (line ∷ lines) last = (after : State) × Reads s line after × Run after lines last

-- lines, each ended by LF
abbrev pub text_of : List (List ℕ) → List ℕ
text_of lines = flat_map (λ line. line ++ 10 ∷ []) lines

-- The bytes begin with lines that lead from the start to this state, and the rest is behind them.
pub record Front (bytes rest : List ℕ) (now : State) : Type 0 where
  pub lines : List (List ℕ)
  pub front : bytes ≡ text_of lines ++ rest
  pub run : Run start lines now

-- Nothing is behind the lines, the first line came, and this is what was read.
pub record Spells (bytes : List ℕ) (script : ScriptSeen) : Type 0 where
  pub last : State
  pub whole : Front bytes [] last
  pub begun : IsTrue (has_begun last.part)
  pub result : script ≡ last.script

-- A script doesn't end here, and no line that may come is next.
pub record NoLine (s : State) (rest : List ℕ) : Type 0 where
  pub more : rest ≡ [] → has_begun s.part ≡ false
  pub outside : (line behind : List ℕ) (after : State) → rest ≡ line ++ 10 ∷ behind → Reads s line after → ⊥

-- Line n is the first outside the grammar: the lines before it lead to a state in which no line follows.
pub record FirstOutside (bytes : List ℕ) (n : ℕ) : Type 0 where
  pub before : State
  pub rest : List ℕ
  pub front : Front bytes rest before
  pub number : n ≡ length front.lines + 1
  pub outside : NoLine before rest

-- what holds of the line that an error names
abbrev pub IfLine : ScriptError → (ℕ → Type 0) → Type 0
IfLine (Line n) P = P n
IfLine OutOfMemory P = Unit {0}

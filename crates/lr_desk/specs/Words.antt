-- The words of commands.
use Rattle.std.specs.Prelude.{◌≡◌, ℕ, List, [], ◌∷◌, codes, decimal, IsTrue, ⊤}
use Rattle.lr_text.specs.Name.{is_name}
use Rattle.lr_text.specs.Words.{IsKey, key_word}
use Rattle.lr_origin.specs.Text.{IsRoot}
use Rattle.lr_desk.specs.declared.words.Command.{Command}
use Rattle.lr_desk.specs.declared.words.Command.TheVariants.{Create, Cat, Rotate, Migrate, Withdraw, Expire, Delete, Sweep, Roots}

-- the words of a command: its name, and what it is done with
abbrev pub words_of : Command → List (List ℕ)
words_of (Create image tenant) = codes "create" ∷ image ∷ key_word tenant ∷ []
words_of (Cat image tenant) = codes "cat" ∷ image ∷ key_word tenant ∷ []
words_of (Rotate bytes) = codes "rotate" ∷ key_word bytes ∷ []
words_of (Migrate image) = codes "migrate" ∷ image ∷ []
words_of (Withdraw image) = codes "withdraw" ∷ image ∷ []
words_of (Expire root) = codes "expire" ∷ decimal root ∷ []
words_of (Delete root) = codes "delete" ∷ decimal root ∷ []
words_of (Sweep root) = codes "sweep" ∷ decimal root ∷ []
words_of Roots = codes "roots" ∷ []

-- A tenant's key and a salt have 32 bytes, an image's name is one, a root is from 1 to 1,000.
abbrev pub IsCommand : Command → Type 0
IsCommand (Create image tenant) = IsTrue (is_name image) × IsKey tenant
IsCommand (Cat image tenant) = IsTrue (is_name image) × IsKey tenant
IsCommand (Rotate bytes) = IsKey bytes
IsCommand (Migrate image) = IsTrue (is_name image)
IsCommand (Withdraw image) = IsTrue (is_name image)
IsCommand (Expire root) = IsRoot root
IsCommand (Delete root) = IsRoot root
IsCommand (Sweep root) = IsRoot root
IsCommand Roots = ⊤

-- The words are a command's.
abbrev pub AreWords : List (List ℕ) → Type 0
AreWords words = (c : Command) × IsCommand c × (words ≡ words_of c)

-- The words are those of a creation.
abbrev pub AreOfCreation : List (List ℕ) → Type 0
AreOfCreation words = (image : List ℕ) × (tenant : List ℕ) × (words ≡ words_of (Create image tenant))

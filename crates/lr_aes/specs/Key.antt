-- The cipher of FIPS 197 under a key of 16 or of 32 bytes.
use Rattle.std.specs.Prelude.{◌≡◌, ℕ, ◌+◌, ◌*◌, ◌/◌, ◌≤◌, List, length, take}
use Rattle.lr_aes.specs.Cipher.{cipher, schedule}

-- the expanded key: 4 * (Nk + 7) words, Nk being the words of the key (section 5.2)
unfoldable pub expanded : List ℕ → List ℕ
expanded key = schedule (length key / 4) key (3 * (length key / 4) + 28)

-- the block under the key, by Nk + 6 rounds (section 5.1)
unfoldable pub encrypted : List ℕ → List ℕ → List ℕ
encrypted key block = cipher (length key / 4 + 5) (expanded key) block

-- The front of these bytes is the expanded key of their first words.
abbrev pub IsExpanded : ℕ → List ℕ → Type 0
IsExpanded words keys = (4 ≤ words) × (words ≤ 8) × (length keys ≡ 240)
    × (take (16 * (words + 7)) keys ≡ expanded (take (4 * words) keys))

-- How commands end: the table of statuses with their lines, and the words of refusals.
use Rattle.std.specs.Prelude.{ℕ, List, [], ◌++◌, Bool, ◌&&◌, codes, decimal, map, nat_le, take, if◌then◌else◌}
use Rattle.lr_origin.specs.Text.{key_text}
use Rattle.lr_desk.specs.declared.outcome.Refusal.{Refusal}
use Rattle.lr_desk.specs.declared.outcome.Refusal.TheVariants as refusal
use Rattle.lr_desk.specs.declared.outcome.Outcome.{Outcome}
use Rattle.lr_desk.specs.declared.outcome.Outcome.TheVariants.{Done, Usage, ReadFault, WriteFault, OriginFault, Memory, Refused, Foreign, Spoiled, TooMany}

-- a byte that prints, or a question mark
abbrev pub printed : ℕ → ℕ
printed b = if nat_le 33 b && nat_le b 126 then b else 63

-- a key as lines show it: at most 128 bytes of it, with a question mark for each that doesn't print
abbrev pub shown : List ℕ → List ℕ
shown key = map printed (take 128 key)

-- the words of a refusal
abbrev pub words_of : Refusal → List ℕ
words_of refusal.NoImage = codes "no image"
words_of refusal.NoRoot = codes "no root"
words_of refusal.Taken = codes "taken"
words_of refusal.Full = codes "full"
words_of refusal.RootsEnd = codes "roots end"
words_of (refusal.Overtaken home) = codes "overtaken " ++ decimal home
words_of (refusal.NotRetiredHome home) = codes "not retired " ++ decimal home
words_of refusal.NotRetired = codes "not retired"
words_of refusal.NotExpired = codes "not expired"
words_of refusal.NotDeleted = codes "not deleted"
words_of (refusal.Serves image) = codes "serves " ++ image
words_of (refusal.Session number) = codes "session " ++ decimal number
words_of (refusal.Doubt key) = codes "doubt " ++ shown (key_text key)
words_of refusal.Sealed = codes "sealed"
words_of refusal.TooLong = codes "too long"

-- the exit status
abbrev pub status_of : Outcome → ℕ
status_of Done = 0
status_of Usage = 2
status_of ReadFault = 4
status_of WriteFault = 5
status_of OriginFault = 6
status_of Memory = 7
status_of (Refused r) = 8
status_of (Foreign key) = 9
status_of (Spoiled key) = 10
status_of TooMany = 11

-- the status in words
abbrev pub line_of : Outcome → List ℕ
line_of Done = []
line_of Usage = codes "usage"
line_of ReadFault = codes "read fault"
line_of WriteFault = codes "write fault"
line_of OriginFault = codes "origin fault"
line_of Memory = codes "memory"
line_of (Refused r) = codes "refused " ++ words_of r
line_of (Foreign key) = codes "foreign " ++ shown key.items
line_of (Spoiled key) = codes "spoiled " ++ shown (key_text key)
line_of TooMany = codes "too many keys"

-- How a job ended, in words.
use Rattle.std.specs.Prelude.{ℕ, List, [], ◌++◌, codes, decimal}
use Rattle.lr_origin.specs.Text.{key_text}
use Rattle.lr_walk.specs.declared.trail.Answer.{Answer}
use Rattle.lr_walk.specs.declared.trail.Answer.TheVariants as by

-- what was done, and nothing for another answer
abbrev pub deed_word : Answer → List ℕ
deed_word by.Done = codes "done"
deed_word by.Range = codes "range"
deed_word (by.Created root) = codes "created"
deed_word (by.Root root) = codes "root"
deed_word (by.Moved from to) = codes "moved"
deed_word by.Withdrawn = codes "withdrawn"
deed_word by.Expired = codes "expired"
deed_word by.Deleted = codes "deleted"
deed_word (by.Swept keys) = codes "swept"
deed_word by.There = codes "there"
deed_word by.Absent = codes "absent"
deed_word by.Closed = codes "closed"
deed_word (by.Evicted chunks) = codes "evicted"
deed_word by.Dropped = codes "dropped"
deed_word by.Flipped = codes "flipped"
deed_word by.Forged = codes "forged"
deed_word (by.Lost stripes) = codes "lost"
deed_word by.NoStripe = codes "none"
deed_word by.NoChunk = codes "no chunk"
deed_word answer = []

-- what wasn't done, and nothing for another answer
abbrev pub refusal_word : Answer → List ℕ
refusal_word by.NoImage = codes "no image"
refusal_word by.NoRoot = codes "no root"
refusal_word by.Taken = codes "taken"
refusal_word by.Full = codes "full"
refusal_word by.RootsEnd = codes "roots end"
refusal_word (by.Overtaken home) = codes "overtaken"
refusal_word by.NotExpired = codes "not expired"
refusal_word by.NotDeleted = codes "not deleted"
refusal_word by.NoDoubt = codes "no doubt"
refusal_word (by.Serves image) = codes "serves"
refusal_word (by.Session session) = codes "session"
refusal_word (by.Doubt key) = codes "doubt"
refusal_word (by.NotRetiredHome home) = codes "not retired"
refusal_word by.NotRetired = codes "not retired"
refusal_word (by.Fault key) = codes "fault"
refusal_word (by.Spoiled key) = codes "spoiled"
refusal_word by.Memory = codes "memory"
refusal_word by.Cut = codes "cut"
refusal_word by.Unbegun = codes "unbegun"
refusal_word answer = []

-- a space and a number
abbrev pub number_after : ℕ → List ℕ
number_after n = codes " " ++ decimal n

-- what follows the words: a root, two roots, a count, a session, an image or a key
abbrev pub answer_detail : Answer → List ℕ
answer_detail (by.Created root) = number_after root
answer_detail (by.Root root) = number_after root
answer_detail (by.Moved from to) = number_after from ++ number_after to
answer_detail (by.Swept keys) = number_after keys
answer_detail (by.Evicted chunks) = number_after chunks
answer_detail (by.Lost stripes) = number_after stripes
answer_detail (by.Overtaken home) = number_after home
answer_detail (by.Serves image) = codes " " ++ image
answer_detail (by.Session session) = number_after session
answer_detail (by.Doubt key) = codes " " ++ key_text key
answer_detail (by.NotRetiredHome home) = number_after home
answer_detail (by.Fault key) = codes " " ++ key_text key
answer_detail (by.Spoiled key) = codes " " ++ key_text key
answer_detail answer = []

-- an answer has words of one of the two kinds, and what follows them
unfoldable pub answer_text : Answer → List ℕ
answer_text answer = deed_word answer ++ (refusal_word answer ++ answer_detail answer)

-- Machines of a depot as jobs: their steps among those of all objects, and their endings as answers.
use Rattle.std.specs.Prelude.{◌≡◌, List, map, ⊤}
use Rattle.lr_walk.specs.declared.trail.Answer.{Answer}
use Rattle.lr_walk.specs.declared.trail.Answer.TheVariants.{Created, Root, Moved, Withdrawn, Expired, Deleted, There, Absent, Closed, NoImage, NoRoot, Taken, Full, RootsEnd, Overtaken, NotExpired, NotDeleted, NoDoubt, Serves, Session, Doubt, NotRetiredHome, NotRetired, Fault, Spoiled, Memory}
use Rattle.lr_walk.specs.Walk.{Walks, Within}
use Rattle.lr_walk.specs.Steps.{Reply, by_depot, Step, depot_step}
use Rattle.lr_walk.specs.Depot as depots

-- a walk of depot calls as a job's, with the answer of its ending
abbrev pub OfDepot : {E : Type 0} → (E → Answer) → Walks depots.Step E → Walks Step Answer
OfDepot {E} answer_of walk steps answer = (end : E) × Within depot_step walk steps end × (answer ≡ answer_of end)

-- depot calls that pass, as a job's steps
abbrev pub Lifted : (List depots.Step → Type 0) → List Step → Type 0
Lifted passes steps = (own : List depots.Step) × (steps ≡ map depot_step own) × passes own

-- The answer of a job that a reply of the depot ends. What no job of the depot is told counts as want of memory.
abbrev pub answer_to : depots.Reply → Answer
answer_to (depots.made root) = Created root
answer_to (depots.rotated root) = Root root
answer_to (depots.moved from to) = Moved from to
answer_to depots.withdrawn = Withdrawn
answer_to depots.expired = Expired
answer_to depots.deleted = Deleted
answer_to depots.there = There
answer_to depots.absent = Absent
answer_to depots.closed = Closed
answer_to depots.no_image = NoImage
answer_to depots.no_root = NoRoot
answer_to depots.taken = Taken
answer_to depots.full = Full
answer_to depots.roots_end = RootsEnd
answer_to (depots.overtaken home) = Overtaken home
answer_to depots.not_expired = NotExpired
answer_to depots.not_deleted = NotDeleted
answer_to depots.no_doubt = NoDoubt
answer_to (depots.serves image) = Serves image
answer_to (depots.session_on session) = Session session
answer_to (depots.doubt key) = Doubt key
answer_to (depots.not_retired_home home) = NotRetiredHome home
answer_to depots.not_retired = NotRetired
answer_to (depots.fault key) = Fault key
answer_to (depots.spoiled key) = Spoiled key
answer_to reply = Memory

-- the depot's reply passes
abbrev pub Replies : Reply → (depots.Reply → Type 0) → Type 0
Replies (by_depot reply) passes = passes reply
Replies reply passes = ⊥

-- a reply of the depot
abbrev pub IsOfDepot : Reply → Type 0
IsOfDepot reply = Replies reply (λ _. ⊤)

-- What an actor did, over lists of steps, one for each object.
use Rattle.std.specs.Prelude.{◌≡◌, ◌≤◌, ℕ, List, [], ◌∷◌, length, drop, map, Bool, true, false, not, ◌&&◌, nat_eq, Some, slice_get, filter, ⊤}
use Rattle.std.specs.List.{flat_map, AllByRecursion, AllZip, range_with_len}
use Rattle.lr_object.specs.declared.id.ObjectId.{ObjectId}
use Rattle.lr_object.specs.declared.id.ObjectId.TheVariants.{Device, Cache, Node, Depot}
use Rattle.lr_walk.specs.declared.trail.Answer.{Answer}
use Rattle.lr_walk.specs.declared.trail.Did.{Did}
use Rattle.lr_walk.specs.declared.trail.JobResult.{JobResult}
use Rattle.lr_walk.specs.Steps.{Call, on_device, on_cache, on_depot, Reply, Step, object_of, is_memory}
use Rattle.lr_walk.specs.Jobs.{Context, Job, IsWalk}
use Rattle.lr_walk.specs.Depot as depots
use Rattle.lr_walk.specs.Cache as caches
use Rattle.lr_walk.specs.Device as devices

-- one list for each object
abbrev pub Lists : Type 0
Lists = ObjectId → List Step

abbrev pub is_same : ObjectId → ObjectId → Bool
is_same (Device a) (Device b) = nat_eq a b
is_same (Cache a) (Cache b) = nat_eq a b
is_same (Node a) (Node b) = nat_eq a b
is_same Depot Depot = true
is_same a b = false

-- a place in a path names this step: an entry of the list, or a call that found no memory
abbrev pub IsAt : Bool → List Step → ℕ → Step → Type 0
IsAt true steps place s = is_memory s.reply ≡ true
IsAt false steps place s = slice_get steps place ≡ Some s

abbrev pub ReadsOne : Lists → Did → Step → Type 0
ReadsOne lists d s = (object_of s.call ≡ d.object) × IsAt d.memory (lists d.object) d.place s

-- The path reads as these steps.
abbrev pub Reads : Lists → List Did → List Step → Type 0
Reads lists [] [] = ⊤
Reads lists (d ∷ path) (s ∷ steps) = ReadsOne lists d s × Reads lists path steps
Reads lists path steps = ⊥

-- The path reads as a walk of the job with this answer.
abbrev pub HasWalk : Context → Lists → Job → List Did → Answer → Type 0
HasWalk context lists job path answer = (steps : List Step) × Reads lists path steps × IsWalk context job steps answer

-- whether a place in a path names an entry of this object
abbrev pub is_entry_of : ObjectId → Did → Bool
is_entry_of o d = not d.memory && is_same d.object o

-- the places of the entries that a path names in the list of an object
abbrev pub places_in : ObjectId → List Did → List ℕ
places_in o path = map (λ (d : Did). d.place) (filter (is_entry_of o) path)

-- .. that all paths name, in the order of the jobs
abbrev pub places : ObjectId → List JobResult → List ℕ
places o results = flat_map (λ (r : JobResult). places_in o r.path.items) results

-- 0, 1, 2, ..
abbrev pub AreCounted : List ℕ → Type 0
AreCounted numbers = numbers ≡ range_with_len 0 (length numbers)

-- the end of what was out
abbrev pub IsReap : Call → Type 0
IsReap (on_device device devices.reaps) = ⊤
IsReap (on_cache host caches.reaps) = ⊤
IsReap (on_depot depots.reaps) = ⊤
IsReap call = ⊥

-- at most one end of what a crashed actor had out
abbrev pub AreReaps : List Step → Type 0
AreReaps steps = AllByRecursion (λ (s : Step). IsReap s.call) steps × (length steps ≤ 1)

-- A trail over lists of steps: each job has a result with its walk; the entries that the paths name are those of each
-- list, each once and in order; what a list has beyond is the end of what was out at a crash.
pub record HasTrail (context : Context) (lists : Lists) (jobs : List Job) (results : List JobResult) : Type 0 where
  pub walks : AllZip (λ (job : Job) (r : JobResult). HasWalk context lists job r.path.items r.answer) jobs results
  pub counted : (o : ObjectId) → AreCounted (places o results)
  pub beyond : (o : ObjectId) → AreReaps (drop (length (places o results)) (lists o))

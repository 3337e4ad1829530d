-- A creation as a job, of the bytes that a script says.
use Rattle.std.specs.Prelude.{◌≡◌, ◌⊎◌, ◌≤◌, ◌<◌, ◌-◌, ◌%◌, ℕ, List, [], ◌∷◌, ◌++◌, length, map, take, replicate, ⊤}
use Rattle.std.specs.List.{flat_map, range_with_len}
use Rattle.lr_text.specs.Bytes.{bytes_of_runs}
use Rattle.lr_gen.specs.Bytes.{seed_byte}
use Rattle.lr_script.specs.Seen.{BodySeen, Runs, Seed}
use Rattle.lr_walk.specs.declared.trail.Answer.{Answer}
use Rattle.lr_walk.specs.declared.trail.Answer.TheVariants.{Created, Memory}
use Rattle.lr_walk.specs.Walk.{Walks}
use Rattle.lr_walk.specs.Stands as stands
use Rattle.lr_walk.specs.Steps.{on_depot, Reply, by_depot, Step}
use Rattle.lr_walk.specs.Depot as depots
use Rattle.lr_creator.specs.Creation.{Ending, with_root, with_reply, with_memory, with_stop, Input, piece, last, Creates}
use Rattle.lr_creator.specs.Progress as creations
use Rattle.lr_actors.specs.Asked.{Asked, a_call, an_end, no_call}
use Rattle.lr_actors.specs.Lifted.{OfDepot, Lifted, answer_to}

-- the bytes of a body: those of its runs and then zeros, or those of a number
abbrev pub raw_of : ℕ → BodySeen → List ℕ
raw_of len (Runs runs) = bytes_of_runs runs ++ replicate (len - length (bytes_of_runs runs)) 0
raw_of len (Seed number) = map (seed_byte number) (range_with_len 0 len)

-- the answer of an ending
abbrev pub created : Ending → Answer
created (with_root root) = Created root
created (with_reply reply) = answer_to reply
created with_memory = Memory
created with_stop = Memory

-- the pieces, one after another
abbrev pub joined : List (List ℕ) → List ℕ
joined pieces = flat_map (λ (p : List ℕ). p) pieces

-- the bytes are given, and word that they are all
abbrev pub GivesAll : List ℕ → List Input → Type 0
GivesAll raw given = (pieces : List (List ℕ)) × (joined pieces ≡ raw) × (given ≡ map piece pieces ++ last ∷ [])

-- so many of the bytes are given
abbrev pub GivesSome : List ℕ → ℕ → List Input → Type 0
GivesSome raw n given = (pieces : List (List ℕ)) × (joined pieces ≡ take n raw) × (given ≡ map piece pieces)

-- the walk of a creation of these bytes
abbrev pub CreatesAll : List ℕ → List ℕ → List ℕ → Walks depots.Step Ending
CreatesAll image tenant raw steps end = (given : List Input) × GivesAll raw given × Creates image tenant given steps end

-- the walk of the job
abbrev pub Creating : List ℕ → List ℕ → List ℕ → Walks Step Answer
Creating image tenant raw = OfDepot created (CreatesAll image tenant raw)

-- a creation under way: of which bytes, and how many of them it was given
pub record Progress : Type 0 where
  pub create : creations.Progress
  pub raw : List ℕ
  pub given : ℕ

-- the creation wants nothing more
abbrev pub WantsNoMore : creations.Need → Type 0
WantsNoMore (creations.beginning image) = ⊥
WantsNoMore (creations.wanting place parts) = ⊥
WantsNoMore (creations.putting place parts name) = ⊥
WantsNoMore need = ⊤

-- so many of the bytes are given, or all and word of it
abbrev pub Gives : Progress → List Input → Type 0
Gives p given = GivesSome p.raw p.given given ⊎ (GivesAll p.raw given × WantsNoMore p.create.need)

-- with what is given the creation stands for these steps
abbrev pub Stands : Progress → List depots.Step → Type 0
Stands p own = (given : List Input) × Gives p given × creations.Stands p.create given own

-- the job stands for these steps
abbrev pub StandsFor : Progress → List Step → Type 0
StandsFor p steps = Lifted (Stands p) steps

abbrev pub Makes : Progress → Walks Step Answer
Makes p = Creating p.create.image p.create.tenant p.raw

abbrev pub IsFront : Progress → List Step → Type 0
IsFront p steps = stands.IsFront (Makes p) steps

-- a creation's call or end, as the job's
abbrev pub asked_by : creations.Asked → Asked
asked_by (creations.a_call call) = a_call (on_depot call)
asked_by (creations.an_end end) = an_end (created end)
asked_by creations.no_call = no_call

abbrev pub asked : Progress → Asked
asked p = asked_by (creations.asked p.create.need)

-- the replies that `take` admits: those that the depot gives by its table
abbrev pub Admits : Progress → Reply → Type 0
Admits p (by_depot reply) = creations.Admits p.create reply
Admits p reply = ⊥

-- the bytes that the creation knows are those that it was given
abbrev pub Knows : creations.Need → ℕ → Type 0
Knows (creations.beginning image) n = n ≡ 0
Knows (creations.wanting place parts) n = parts.raw_len ≡ n
Knows (creations.putting place parts name) n = parts.raw_len ≡ n
Knows need n = ⊤

-- Whole chunks were given, or all bytes, and the creation knows them.
pub record IsSteady (p : Progress) : Type 0 where
  pub within : p.given ≤ length p.raw
  pub most : length p.raw ≤ 10737418240
  pub whole : p.given < length p.raw → p.given % 524288 ≡ 0
  pub knows : Knows p.create.need p.given

-- the same image, tenant and bytes
pub record IsSame (old new : Progress) : Type 0 where
  pub image : new.create.image ≡ old.create.image
  pub tenant : new.create.tenant ≡ old.create.tenant
  pub raw : new.raw ≡ old.raw

-- What one that ended was given and the steps that it stands for are a walk, whatever else were given.
abbrev pub EndsDone : creations.Progress → Type 0
EndsDone c = (given : List Input) (own : List depots.Step) (end : Ending) → creations.asked c.need ≡ creations.an_end end → creations.Stands c given own → creations.IsDone c given own end

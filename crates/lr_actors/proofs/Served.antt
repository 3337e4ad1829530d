-- a device call's steps: with each one the walk goes on
use Rattle.std.proofs.Common.{◌≡◌, ◌⊎◌, inl, inr, ℕ, suc, ◌+◌, ◌*◌, ◌≤◌, List, [], ◌∷◌, ◌++◌, length, arith, refl, sym, ap, subst, ◌∙◌, append_assoc}
use Rattle.lr_depot.specs.declared.call.DepotReply.TheVariants as depot
use Rattle.lr_walk.specs.declared.trail.Answer.{Answer}
use Rattle.lr_walk.specs.declared.trail.Answer.TheVariants.{Fault, Spoiled, Memory}
use Rattle.lr_walk.specs.Walk.{Then}
use Rattle.lr_walk.specs.Stands.{Stands}
use Rattle.lr_walk.specs.Steps.{on_device, Reply, by_device, by_cache, Step, step}
use Rattle.lr_walk.specs.Load.{Ending, with_chunk, with_reply, with_memory}
use Rattle.lr_walk.specs.Calls.{answer_of, Drops, LoadsAll}
use Rattle.lr_walk.specs.Depot as depots
use Rattle.lr_walk.specs.Cache as caches
use Rattle.lr_walk.specs.Device as devices
use Rattle.lr_walk.proofs.Stands.{made_walk}
use Rattle.lr_loader.specs.Progress as loads
use Rattle.lr_loader.proofs.Walks.{before, Goes, IsTold}
use Rattle.lr_loader.proofs.Walks as loading_walks
use Rattle.lr_actors.specs.declared.action.ActorReply.{ActorReply}
use Rattle.lr_actors.specs.declared.action.ActorReply.TheVariants as by
use Rattle.lr_actors.specs.Asked.{an_end, Adds, seen_reply}
use Rattle.lr_actors.specs.Serving.{Work, Serves, Chunk, Left, Need, planning, loading, committing, dropping, ended, Progress, with_piece, AfterLoad, Rest, StandsFor, IsFront, asked_by, asked, Admits, GoesOn, Loaded, LoadWent, Next, steps_left, Nears}
use Rattle.lr_actors.specs.Stages.{IsFew, EndsWell, GoesWell, IsWell, fetched_chunk}
use Rattle.lr_actors.proofs.Loads.{can_go}

-- the chunk that was fetched has the name told
is_told : (reply : ActorReply) → IsTold (seen_reply reply) (fetched_chunk reply)
is_told (by.Depot (depot.Fetched chunk)) = refl
is_told (by.Depot reply) = tt
is_told (by.Device reply) = tt
is_told (by.Cache reply) = tt
is_told (by.Node reply) = tt

rest_at : (w : Work) (new wanted : Need) → new ≡ wanted → (tail : List Step) (ending : Answer) → Rest w new tail ending → Rest w wanted tail ending
rest_at w new wanted e tail ending r = subst (λ (q : Need). Rest w q tail ending) e r

-- the loads that are left
loads_all : (w : Work) (pages : ℕ) (needs : List ℕ) (pieces : List devices.Piece) (new : Need) → GoesOn w pages needs pieces new → (tail : List Step) (ending : Answer) → Rest w new tail ending
    → LoadsAll w.nodes w.device w.place w.call needs pieces tail ending
loads_all w pages [] pieces new (inl e) tail ending r = inl (rest_at w new (committing pages pieces) e tail ending r)
loads_all w pages [] pieces new (inr e) tail ending r = inr (rest_at w new (dropping Memory) e tail ending r)
loads_all w pages (i ∷ needs) pieces new (inl n) tail ending r = inl (n.0, n.1, n.2, n.3, rest_at w new _ n.4 tail ending r)
loads_all w pages (i ∷ needs) pieces new (inr e) tail ending r = inr (rest_at w new (dropping Memory) e tail ending r)

after_end : (w : Work) (chunk : Chunk) (left : Left) (end : Ending) (new : Need) → Loaded w chunk left end new → (tail : List Step) (ending : Answer) → Rest w new tail ending
    → AfterLoad w chunk left end tail ending
after_end w chunk left (with_chunk bytes) new n tail ending r = loads_all w left.pages left.needs (with_piece left chunk bytes) new n tail ending r
after_end w chunk left (with_reply (depots.fault key)) new n tail ending r = rest_at w new (dropping (Fault key)) n tail ending r
after_end w chunk left (with_reply (depots.spoiled key)) new n tail ending r = rest_at w new (dropping (Spoiled key)) n tail ending r
after_end w chunk left (with_reply reply) new n tail ending r = absurd n
after_end w chunk left with_memory new n tail ending r = rest_at w new (dropping Memory) n tail ending r

-- what comes after a load's step
abbrev pub LoadRest : Work → Chunk → Left → loads.Need → List Step → Answer → Type 0
LoadRest w chunk left need tail ending = Then (loads.Rest chunk.place need) (AfterLoad w chunk left) tail ending

after_went : (w : Work) (chunk : Chunk) (left : Left) (next : loads.Need) (new : Need) → LoadWent w chunk left next new → (tail : List Step) (ending : Answer) → Rest w new tail ending
    → LoadRest w chunk left next tail ending
after_went w chunk left (loads.ended end) new n tail ending r = ([], tail, end, refl, (refl, refl), after_end w chunk left end new n tail ending r)
after_went w chunk left next new n tail ending r = rest_at w new (loading chunk next left) n tail ending r

-- the step of a load, before its rest
step_of_load : (a : loads.Asked) (reply : Reply) (more : List Step) → Adds (asked_by a) reply more → (front : List Step) → more ++ front ≡ before a reply front
step_of_load (loads.a_call call) (by_cache (caches.busy holder)) more e front = ap (λ l. l ++ front) e
step_of_load (loads.a_call call) reply more e front = ap (λ l. l ++ front) e
step_of_load (loads.an_end end) reply more e front = absurd e

joins : (a : loads.Asked) (reply : Reply) (more : List Step) → Adds (asked_by a) reply more → (tail front rest : List Step) → tail ≡ front ++ rest → more ++ tail ≡ before a reply front ++ rest
joins a reply more adds tail front rest e =
    ap (λ l. more ++ l) e ∙ sym (append_assoc more front rest) ∙ ap (λ l. l ++ rest) (step_of_load a reply more adds front)

load_goes : (w : Work) (chunk : Chunk) (left : Left) (need next : loads.Need) (reply : Reply) (more : List Step) → Adds (asked_by (loads.asked chunk.place need)) reply more
    → Goes chunk.place need reply next → (tail : List Step) (ending : Answer) → LoadRest w chunk left next tail ending → LoadRest w chunk left need (more ++ tail) ending
load_goes w chunk left need next reply more adds goes tail ending r = (
  before (loads.asked chunk.place need) reply r.0,
  r.1,
  r.2,
  joins (loads.asked chunk.place need) reply more adds tail r.0 r.1 r.3,
  goes r.0 r.2 r.4,
  r.5,
)

plans_on : (w : Work) (reply : Reply) (got : List ℕ) (new : Need) (more : List Step) → Admits w planning reply → Next w planning reply got new → Adds (asked w planning) reply more
    → (tail : List Step) (ending : Answer) → Rest w new tail ending → Rest w planning (more ++ tail) ending
plans_on w (by_device (devices.planned needs pages)) got new more a n adds tail ending r =
    subst (λ l. Serves w (l ++ tail) ending) (sym adds)
    (inl (by_device (devices.planned needs pages), step (on_device w.device (devices.plans w.call)) (by_device (devices.planned needs pages)), tail, refl, (refl, tt), loads_all w pages needs [] new n tail ending r))
plans_on w (by_device devices.memory) got new more a n adds tail ending r =
    subst (λ l. Serves w (l ++ tail) ending) (sym adds)
    (inl (by_device devices.memory, step (on_device w.device (devices.plans w.call)) (by_device devices.memory), tail, refl, (refl, tt), rest_at w new (ended Memory) n tail ending r))
plans_on w reply got new more a n adds tail ending r = absurd a

commits_on : (w : Work) (pages : ℕ) (pieces : List devices.Piece) (reply : Reply) (got : List ℕ) (new : Need) (more : List Step) → Admits w (committing pages pieces) reply
    → Next w (committing pages pieces) reply got new → Adds (asked w (committing pages pieces)) reply more
    → (tail : List Step) (ending : Answer) → Rest w new tail ending → Rest w (committing pages pieces) (more ++ tail) ending
commits_on w pages pieces (by_device (devices.committed told)) got new more a n adds tail ending r =
    let end = rest_at w new (ended (answer_of told)) n tail ending r in
    (adds.0, told, (λ i. adds.2 i ++ end.0 i), adds.1, end.1)
commits_on w pages pieces reply got new more a n adds tail ending r = absurd a

drops_on : (w : Work) (answer : Answer) (reply : Reply) (got : List ℕ) (new : Need) (more : List Step) → Admits w (dropping answer) reply → Next w (dropping answer) reply got new
    → Adds (asked w (dropping answer)) reply more → (tail : List Step) (ending : Answer) → Rest w new tail ending → Rest w (dropping answer) (more ++ tail) ending
drops_on w answer (by_device devices.dropped) got new more a n adds tail ending r =
    subst (λ l. Drops w.device answer (l ++ tail) ending) (sym adds)
    (by_device devices.dropped, step (on_device w.device devices.drops) (by_device devices.dropped), tail, refl, (refl, tt), rest_at w new (ended answer) n tail ending r)
drops_on w answer reply got new more a n adds tail ending r = absurd a

goes_on : (w : Work) (need : Need) (reply : Reply) (got : List ℕ) (new : Need) (more : List Step) → IsTold reply got → Admits w need reply → Next w need reply got new
    → Adds (asked w need) reply more → (tail : List Step) (ending : Answer) → Rest w new tail ending → Rest w need (more ++ tail) ending
goes_on w planning reply got new more told a n adds tail ending r = plans_on w reply got new more a n adds tail ending r
goes_on w (loading chunk need left) reply got new more told a n adds tail ending r =
    load_goes w chunk left need n.0 reply more adds (loading_walks.goes_on chunk.place need reply got n.0 told a.0 n.1) tail ending
    (after_went w chunk left n.0 new n.2 tail ending r)
goes_on w (committing pages pieces) reply got new more told a n adds tail ending r = commits_on w pages pieces reply got new more a n adds tail ending r
goes_on w (dropping answer) reply got new more told a n adds tail ending r = drops_on w answer reply got new more a n adds tail ending r
goes_on w (ended answer) reply got new more told a n adds tail ending r = absurd n

pub takes_more : (old new : Progress) (reply : ActorReply) (steps more : List Step) → new.work ≡ old.work → Admits old.work old.need (seen_reply reply)
    → Next old.work old.need (seen_reply reply) (fetched_chunk reply) new.need → Adds (asked old.work old.need) (seen_reply reply) more → StandsFor old steps → StandsFor new (steps ++ more)
takes_more old new reply steps more same a n adds stands = λ tail ending r.
    subst (λ (q : Work). Serves q ((steps ++ more) ++ tail) ending) (sym same)
    (subst (λ (l : List Step). Serves old.work l ending) (sym (append_assoc steps more tail))
    (stands (more ++ tail) ending
    (goes_on old.work old.need (seen_reply reply) (fetched_chunk reply) new.need more (is_told reply) a n adds tail ending (subst (λ (q : Work). Rest q new.need tail ending) same r))))

-- ---- after each reply the walk can be ended

abbrev pub CanEnd : Work → Need → List Step → Type 0
CanEnd w need more = (tail : List Step) × (ending : Answer) × Rest w need (more ++ tail) ending

drops : (w : Work) (answer : Answer) → Drops w.device answer (step (on_device w.device devices.drops) (by_device devices.dropped) ∷ []) answer
drops w answer = (by_device devices.dropped, step (on_device w.device devices.drops) (by_device devices.dropped), [], refl, (refl, tt), (refl, refl))

abbrev pub LoadEnds : Work → Chunk → Left → Ending → Type 0
LoadEnds w chunk left end = (tail : List Step) × (ending : Answer) × AfterLoad w chunk left end tail ending

more_ends : (w : Work) (needs : List ℕ) (pieces : List devices.Piece)
    → LoadsAll w.nodes w.device w.place w.call needs pieces (step (on_device w.device devices.drops) (by_device devices.dropped) ∷ []) Memory
more_ends w [] pieces = inr (drops w Memory)
more_ends w (i ∷ needs) pieces = inr (drops w Memory)

load_ends : (w : Work) (chunk : Chunk) (left : Left) (end : Ending) → EndsWell end → LoadEnds w chunk left end
load_ends w chunk left (with_chunk bytes) e = (step (on_device w.device devices.drops) (by_device devices.dropped) ∷ [], Memory, more_ends w left.needs (with_piece left chunk bytes))
load_ends w chunk left (with_reply (depots.fault key)) e = (step (on_device w.device devices.drops) (by_device devices.dropped) ∷ [], Fault key, drops w (Fault key))
load_ends w chunk left (with_reply (depots.spoiled key)) e = (step (on_device w.device devices.drops) (by_device devices.dropped) ∷ [], Spoiled key, drops w (Spoiled key))
load_ends w chunk left (with_reply reply) e = absurd e
load_ends w chunk left with_memory e = (step (on_device w.device devices.drops) (by_device devices.dropped) ∷ [], Memory, drops w Memory)

load_can_end : (w : Work) (chunk : Chunk) (need : loads.Need) (left : Left) (reply : Reply) (more : List Step) → Admits w (loading chunk need left) reply → GoesWell need
    → Adds (asked w (loading chunk need left)) reply more → CanEnd w (loading chunk need left) more
load_can_end w chunk need left reply more a well adds =
    let c = can_go chunk.place need reply a.0 a.1 well in
    let e = load_ends w chunk left c.1 c.2 in (
      c.0 ++ e.0,
      e.1,
      (before (loads.asked chunk.place need) reply c.0, e.0, c.1, joins (loads.asked chunk.place need) reply more adds (c.0 ++ e.0) c.0 e.0 refl, c.3, e.2),
    )

can_end : (w : Work) (need : Need) (reply : Reply) (more : List Step) → Admits w need reply → IsWell need → Adds (asked w need) reply more → CanEnd w need more
can_end w planning (by_device (devices.planned needs pages)) more a well adds = (
  step (on_device w.device devices.drops) (by_device devices.dropped) ∷ [],
  Memory,
  plans_on w (by_device (devices.planned needs pages)) [] (dropping Memory) more a (inr refl) adds (step (on_device w.device devices.drops) (by_device devices.dropped) ∷ []) Memory (drops w Memory),
)
can_end w planning (by_device devices.memory) more a well adds = ([], Memory, plans_on w (by_device devices.memory) [] (ended Memory) more a refl adds [] Memory (refl, refl))
can_end w planning reply more a well adds = absurd a
can_end w (loading chunk need left) reply more a well adds = load_can_end w chunk need left reply more a well adds
can_end w (committing pages pieces) (by_device (devices.committed told)) more a well adds =
    ([], answer_of told, commits_on w pages pieces (by_device (devices.committed told)) [] (ended (answer_of told)) more a refl adds [] (answer_of told) (refl, refl))
can_end w (committing pages pieces) reply more a well adds = absurd a
can_end w (dropping answer) (by_device devices.dropped) more a well adds =
    ([], answer, drops_on w answer (by_device devices.dropped) [] (ended answer) more a refl adds [] answer (refl, refl))
can_end w (dropping answer) reply more a well adds = absurd a
can_end w (ended answer) reply more a well adds = absurd a

-- what a call stands for, with the call asked and a reply to it, is a walk or the front of one
pub is_front : (p : Progress) (steps more : List Step) (reply : Reply) → Admits p.work p.need reply → IsWell p.need → Adds (asked p.work p.need) reply more → StandsFor p steps
    → IsFront p.work (steps ++ more)
is_front p steps more reply a well adds stands =
    let c = can_end p.work p.need reply more a well adds in
    (c.0, c.1, subst (λ (l : List Step). Serves p.work l c.1) (sym (append_assoc steps more c.0)) (stands (more ++ c.0) c.1 c.2))

-- ---- what an ended call stands for

asked_load : (a : loads.Asked) (answer : Answer) → asked_by a ≡ an_end answer → ⊥
asked_load (loads.a_call call) answer e = cc
asked_load (loads.an_end end) answer e = cc

ends_at : (w : Work) (need : Need) (answer : Answer) → asked w need ≡ an_end answer → need ≡ ended answer
ends_at w (ended last) answer e = cc
ends_at w planning answer e = cc
ends_at w (loading chunk need left) answer e = absurd (asked_load (loads.asked chunk.place need) answer e)
ends_at w (committing pages pieces) answer e = cc
ends_at w (dropping last) answer e = cc

pub is_walk : (p : Progress) (steps : List Step) (answer : Answer) → asked p.work p.need ≡ an_end answer → StandsFor p steps → Serves p.work steps answer
is_walk p steps answer e stands =
    made_walk (Serves p.work) (Rest p.work) p.need answer (subst (λ (q : Need). Rest p.work q [] answer) (sym (ends_at p.work p.need answer e)) (refl, refl)) steps stands

-- a new call stands for no step
pub starts : (w : Work) (need : Need) → (need ≡ planning) ⊎ (need ≡ ended Memory) → Stands (Serves w) (Rest w) need []
starts w need (inl e) = λ tail ending r. rest_at w need planning e tail ending r
starts w need (inr e) = λ tail ending r. inr (rest_at w need (ended Memory) e tail ending r)

-- ---- each step but Busy brings the call nearer to its end

left_at : (new wanted : Need) (n : ℕ) → new ≡ wanted → steps_left wanted ≤ n → steps_left new ≤ n
left_at new wanted n e h = subst (λ (q : Need). steps_left q ≤ n) (sym e) h

goes_left : (w : Work) (pages : ℕ) (needs : List ℕ) (pieces : List devices.Piece) (new : Need) → GoesOn w pages needs pieces new → steps_left new ≤ 14 * length needs + 1
goes_left w pages [] pieces new (inl e) = left_at new (committing pages pieces) 1 e (omega arith)
goes_left w pages [] pieces new (inr e) = left_at new (dropping Memory) 1 e (omega arith)
goes_left w pages (i ∷ needs) pieces new (inl n) = left_at new _ (14 * suc (length needs) + 1) n.4 (omega arith)
goes_left w pages (i ∷ needs) pieces new (inr e) = left_at new (dropping Memory) (14 * suc (length needs) + 1) e (omega arith)

loaded_left : (w : Work) (chunk : Chunk) (left : Left) (end : Ending) (new : Need) → Loaded w chunk left end new → steps_left new ≤ 14 * length left.needs + 1
loaded_left w chunk left (with_chunk bytes) new n = goes_left w left.pages left.needs (with_piece left chunk bytes) new n
loaded_left w chunk left (with_reply (depots.fault key)) new n = left_at new (dropping (Fault key)) _ n (omega arith)
loaded_left w chunk left (with_reply (depots.spoiled key)) new n = left_at new (dropping (Spoiled key)) _ n (omega arith)
loaded_left w chunk left (with_reply reply) new n = absurd n
loaded_left w chunk left with_memory new n = left_at new (dropping Memory) _ n (omega arith)

went_left : (w : Work) (chunk : Chunk) (left : Left) (next : loads.Need) (new : Need) → LoadWent w chunk left next new → steps_left new ≤ loads.steps_left next + (14 * length left.needs + 1)
went_left w chunk left (loads.ended end) new n = let h = loaded_left w chunk left end new n in omega arith
went_left w chunk left next new n = left_at new (loading chunk next left) _ n (omega arith)

load_nears : (w : Work) (chunk : Chunk) (left : Left) (need next : loads.Need) (reply : Reply) (new : Need) → loads.Nears reply need next
    → steps_left new ≤ loads.steps_left next + (14 * length left.needs + 1) → Nears reply (loading chunk need left) new
load_nears w chunk left need next (by_cache (caches.busy holder)) new n h = omega arith
load_nears w chunk left need next reply new n h = omega arith

pub nears : (w : Work) (need : Need) (reply : Reply) (got : List ℕ) (new : Need) → Admits w need reply → IsFew reply → Next w need reply got new → Nears reply need new
nears w planning (by_device (devices.planned needs pages)) got new a few n = let h = goes_left w pages needs [] new n in omega arith
nears w planning (by_device devices.memory) got new a few n = let h = left_at new (ended Memory) 43 n (omega arith) in omega arith
nears w planning reply got new a few n = absurd a
nears w (loading chunk need left) reply got new a few n =
    load_nears w chunk left need n.0 reply new (loading_walks.nears chunk.place need reply got n.0 a.0 n.1) (went_left w chunk left n.0 new n.2)
nears w (committing pages pieces) (by_device (devices.committed told)) got new a few n = let h = left_at new (ended (answer_of told)) 0 n (omega arith) in omega arith
nears w (committing pages pieces) reply got new a few n = absurd a
nears w (dropping answer) (by_device devices.dropped) got new a few n = let h = left_at new (ended answer) 0 n (omega arith) in omega arith
nears w (dropping answer) reply got new a few n = absurd a
nears w (ended answer) reply got new a few n = absurd n

-- what a device call knows of its steps, and of the chunk that it loads
use Rattle.std.proofs.Common.{◌≡◌, ◌⊎◌, inl, inr, ℕ, ◌≤◌, List, [], ◌∷◌, ◌++◌, false, arith, refl, sym, ap, subst, ◌∙◌, append_assoc, append-nil}
use Rattle.std.specs.List.{AllByRecursion}
use Rattle.std.proofs.lemmas.List.{map-append}
use Rattle.lr_object.specs.declared.id.ObjectId.TheVariants.{Device}
use Rattle.lr_walk.specs.declared.place.LoadPlace.{LoadPlace}
use Rattle.lr_walk.specs.declared.trail.Answer.TheVariants.{Memory}
use Rattle.lr_walk.specs.Steps.{Reply, by_device, by_cache, Step, object_of}
use Rattle.lr_walk.specs.Trails.{is_same}
use Rattle.lr_walk.specs.Load.{Ending, with_chunk, with_reply, with_memory}
use Rattle.lr_walk.specs.Depot as depots
use Rattle.lr_walk.specs.Cache as caches
use Rattle.lr_walk.specs.Device as devices
use Rattle.lr_loader.specs.Progress as loads
use Rattle.lr_actors.specs.Asked.{Adds}
use Rattle.lr_actors.specs.Serving.{Work, Chunk, Left, Need, planning, loading, committing, dropping, ended, piece_of, with_piece, asked_by, asked, LoadsNext, GoesOn, Loaded, LoadWent, Next, steps_left, IsElsewhere, IsPlanned, IsLoadAt, IsAtPlace, indices, Knows}

-- ---- what is loaded is a chunk of the device

place_at : (w : Work) (new wanted : Need) → new ≡ wanted → IsAtPlace w wanted → IsAtPlace w new
place_at w new wanted e h = subst (IsAtPlace w) (sym e) h

next_at : (w : Work) (i : ℕ) (left : Left) (new : Need) → LoadsNext w i left new → IsAtPlace w new
next_at w i left new n = place_at w new _ n.4 (record { name = n.0; named = n.2; is = refl })

goes_at : (w : Work) (pages : ℕ) (needs : List ℕ) (pieces : List devices.Piece) (new : Need) → GoesOn w pages needs pieces new → IsAtPlace w new
goes_at w pages [] pieces new (inl e) = place_at w new (committing pages pieces) e tt
goes_at w pages [] pieces new (inr e) = place_at w new (dropping Memory) e tt
goes_at w pages (i ∷ needs) pieces new (inl n) = next_at w i (record { pages = pages; needs = needs; pieces = pieces }) new n
goes_at w pages (i ∷ needs) pieces new (inr e) = place_at w new (dropping Memory) e tt

loaded_at : (w : Work) (chunk : Chunk) (left : Left) (end : Ending) (new : Need) → Loaded w chunk left end new → IsAtPlace w new
loaded_at w chunk left (with_chunk bytes) new n = goes_at w left.pages left.needs (with_piece left chunk bytes) new n
loaded_at w chunk left (with_reply (depots.fault key)) new n = place_at w new _ n tt
loaded_at w chunk left (with_reply (depots.spoiled key)) new n = place_at w new _ n tt
loaded_at w chunk left (with_reply reply) new n = absurd n
loaded_at w chunk left with_memory new n = place_at w new _ n tt

went_at : (w : Work) (chunk : Chunk) (left : Left) (next : loads.Need) (new : Need) → LoadWent w chunk left next new → IsLoadAt w chunk.place → IsAtPlace w new
went_at w chunk left (loads.ended end) new n h = loaded_at w chunk left end new n
went_at w chunk left next new n h = place_at w new (loading chunk next left) n h

pub stays_at : (w : Work) (need : Need) (reply : Reply) (got : List ℕ) (new : Need) → Next w need reply got new → IsAtPlace w need → IsAtPlace w new
stays_at w planning (by_device (devices.planned needs pages)) got new n h = goes_at w pages needs [] new n
stays_at w planning reply got new n h = place_at w new (ended Memory) n tt
stays_at w (loading chunk need left) reply got new n h = went_at w chunk left n.0 new n.2 h
stays_at w (committing pages pieces) (by_device (devices.committed told)) got new n h = place_at w new _ n tt
stays_at w (committing pages pieces) reply got new n h = absurd n
stays_at w (dropping answer) reply got new n h = place_at w new (ended answer) n tt
stays_at w (ended answer) reply got new n h = absurd n

-- ---- the steps of a load are on other objects

all_append : {X : Type 0} (P : X → Type 0) (xs ys : List X) → AllByRecursion P xs → AllByRecursion P ys → AllByRecursion P (xs ++ ys)
all_append P [] ys a b = b
all_append P (x ∷ xs) ys a b = (a.0, all_append P xs ys a.1 b)

abbrev CallsElsewhere : ℕ → loads.Asked → Type 0
CallsElsewhere device (loads.a_call call) = is_same (object_of call) (Device device) ≡ false
CallsElsewhere device (loads.an_end end) = Unit {0}

calls_elsewhere : (device : ℕ) (place : LoadPlace) (need : loads.Need) → CallsElsewhere device (loads.asked place need)
calls_elsewhere device place loads.looking = refl
calls_elsewhere device place (loads.asking left held) = refl
calls_elsewhere device place loads.fetching = refl
calls_elsewhere device place (loads.putting chunk stripe more) = refl
calls_elsewhere device place (loads.filling chunk) = refl
calls_elsewhere device place (loads.giving end) = refl
calls_elsewhere device place (loads.ended end) = tt

adds_elsewhere : (device : ℕ) (a : loads.Asked) (reply : Reply) (more : List Step) → CallsElsewhere device a → Adds (asked_by a) reply more → AllByRecursion (IsElsewhere device) more
adds_elsewhere device (loads.a_call call) (by_cache (caches.busy holder)) more o e = subst (AllByRecursion (IsElsewhere device)) (sym e) tt
adds_elsewhere device (loads.a_call call) reply more o e = subst (AllByRecursion (IsElsewhere device)) (sym e) (o, tt)
adds_elsewhere device (loads.an_end end) reply more o e = absurd e

planned_more : (w : Work) (needs : List ℕ) (pages : ℕ) (steps more : List Step) → IsPlanned w needs pages steps → AllByRecursion (IsElsewhere w.device) more → IsPlanned w needs pages (steps ++ more)
planned_more w needs pages steps more p o = record {
  later = p.later ++ more;
  first = ap (λ l. l ++ more) p.first;
  elsewhere = all_append (IsElsewhere w.device) p.later more p.elsewhere o;
}

-- ---- what is known after a reply

known_at : (w : Work) (new wanted : Need) (steps : List Step) → new ≡ wanted → Knows w wanted steps → Knows w new steps
known_at w new wanted steps e h = subst (λ (q : Need). Knows w q steps) (sym e) h

goes_known : (w : Work) (pages : ℕ) (needs : List ℕ) (pieces : List devices.Piece) (new : Need) (steps : List Step) → GoesOn w pages needs pieces new → IsPlanned w (indices pieces ++ needs) pages steps → Knows w new steps
goes_known w pages [] pieces new steps (inl e) p = known_at w new (committing pages pieces) steps e (subst (λ (l : List ℕ). IsPlanned w l pages steps) (append-nil (indices pieces)) p)
goes_known w pages [] pieces new steps (inr e) p = known_at w new (dropping Memory) steps e tt
goes_known w pages (i ∷ needs) pieces new steps (inl n) p = known_at w new _ steps n.4 p
goes_known w pages (i ∷ needs) pieces new steps (inr e) p = known_at w new (dropping Memory) steps e tt

-- the numbers with that of one piece more
piece_moved : (left : Left) (chunk : Chunk) (bytes : List ℕ) → indices left.pieces ++ chunk.place.index ∷ left.needs ≡ indices (with_piece left chunk bytes) ++ left.needs
piece_moved left chunk bytes =
    sym (append_assoc (indices left.pieces) (chunk.place.index ∷ []) left.needs)
    ∙ ap (λ (l : List ℕ). l ++ left.needs) (sym (map-append (λ (p : devices.Piece). p.index) left.pieces (piece_of chunk bytes ∷ [])))

loaded_known : (w : Work) (chunk : Chunk) (left : Left) (end : Ending) (new : Need) (steps : List Step) → Loaded w chunk left end new
    → IsPlanned w (indices left.pieces ++ chunk.place.index ∷ left.needs) left.pages steps → Knows w new steps
loaded_known w chunk left (with_chunk bytes) new steps n p =
    goes_known w left.pages left.needs (with_piece left chunk bytes) new steps n (subst (λ (l : List ℕ). IsPlanned w l left.pages steps) (piece_moved left chunk bytes) p)
loaded_known w chunk left (with_reply (depots.fault key)) new steps n p = known_at w new _ steps n tt
loaded_known w chunk left (with_reply (depots.spoiled key)) new steps n p = known_at w new _ steps n tt
loaded_known w chunk left (with_reply reply) new steps n p = absurd n
loaded_known w chunk left with_memory new steps n p = known_at w new _ steps n tt

went_known : (w : Work) (chunk : Chunk) (left : Left) (next : loads.Need) (new : Need) (steps : List Step) → LoadWent w chunk left next new
    → IsPlanned w (indices left.pieces ++ chunk.place.index ∷ left.needs) left.pages steps → Knows w new steps
went_known w chunk left (loads.ended end) new steps n p = loaded_known w chunk left end new steps n p
went_known w chunk left next new steps n p = known_at w new (loading chunk next left) steps n p

pub knows_more : (w : Work) (need : Need) (reply : Reply) (got : List ℕ) (new : Need) (steps more : List Step) → Next w need reply got new → Adds (asked w need) reply more → Knows w need steps → Knows w new (steps ++ more)
knows_more w planning (by_device (devices.planned needs pages)) got new steps more n adds k =
    goes_known w pages needs [] new (steps ++ more) n (record { later = []; first = λ i. k i ++ adds i; elsewhere = tt })
knows_more w planning reply got new steps more n adds k = known_at w new (ended Memory) (steps ++ more) n tt
knows_more w (loading chunk need left) reply got new steps more n adds k =
    went_known w chunk left n.0 new (steps ++ more) n.2
    (planned_more w _ left.pages steps more k (adds_elsewhere w.device (loads.asked chunk.place need) reply more (calls_elsewhere w.device chunk.place need) adds))
knows_more w (committing pages pieces) (by_device (devices.committed told)) got new steps more n adds k = known_at w new _ (steps ++ more) n tt
knows_more w (committing pages pieces) reply got new steps more n adds k = absurd n
knows_more w (dropping answer) reply got new steps more n adds k = known_at w new (ended answer) (steps ++ more) n tt
knows_more w (ended answer) reply got new steps more n adds k = absurd n

-- ---- a call that begins

pub starts_at : (w : Work) (need : Need) → (need ≡ planning) ⊎ (need ≡ ended Memory) → IsAtPlace w need
starts_at w need (inl e) = place_at w need planning e tt
starts_at w need (inr e) = place_at w need (ended Memory) e tt

pub starts_known : (w : Work) (need : Need) → (need ≡ planning) ⊎ (need ≡ ended Memory) → Knows w need []
starts_known w need (inl e) = known_at w need planning [] e refl
starts_known w need (inr e) = known_at w need (ended Memory) [] e tt

pub starts_within : (need : Need) → (need ≡ planning) ⊎ (need ≡ ended Memory) → steps_left need ≤ 44
starts_within need (inl e) = subst (λ (q : Need). steps_left q ≤ 44) (sym e) (omega arith)
starts_within need (inr e) = subst (λ (q : Need). steps_left q ≤ 44) (sym e) (omega arith)

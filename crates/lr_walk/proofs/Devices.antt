-- the replies of devices as plain data, and what their logs keep
use Rattle.std.proofs.Common.{◌≡◌, ℕ, zero, suc, ◌+◌, ◌<◌, List, [], ◌∷◌, ◌++◌, length, map, true, false, Bool, refl, sym, ap, subst, ◌∙◌, arith, find, Option, Some, None, cond, inl, inr}
use Rattle.std.specs.Arc.{arc_value}
use Rattle.std.specs.Option.{option_to_list}
use Rattle.std.specs.List.{flat_map, AllByRecursion, Contains, slice_index_or}
use Rattle.std.proofs.lemmas.Option.{none-some}
use Rattle.std.proofs.lemmas.List.{length-map, map-append, get_or-map}
use Rattle.lr_convergent.specs.declared.piece.KeptPiece.{KeptPiece}
use Rattle.lr_device.specs.Base.{is_at}
use Rattle.lr_device.specs.declared.step.DeviceStep.{DeviceStep}
use Rattle.lr_device.specs.declared.step.DeviceStep.TheVariants as asks
use Rattle.lr_device.specs.declared.step.DeviceNoted.{DeviceNoted}
use Rattle.lr_device.specs.declared.step.DeviceNoted.TheVariants as noted
use Rattle.lr_device.specs.declared.step.DeviceAnswer.{DeviceAnswer}
use Rattle.lr_device.specs.declared.step.DeviceAnswer.TheVariants as by
use Rattle.lr_device.specs.Machine.{LogEntry, State, run}
use Rattle.lr_device.specs.Answers.{used_of}
use Rattle.lr_device.specs.Answers as table
use Rattle.lr_device.specs.Enters.{Notes, Enters}
use Rattle.lr_walk.specs.Device.{Piece, seen_piece, seen_call, seen_noted, seen_reply, AnswersAsked, Keeps, plans}

pub device_answers : (size : ℕ) (log : List LogEntry) (caller : ℕ) (step : DeviceStep) (answer : DeviceAnswer) → table.Answers size log caller step answer → AnswersAsked (seen_call step) (seen_reply answer)
device_answers size log caller (asks.Plan call) by.HasPlan d = tt
device_answers size log caller (asks.Plan call) (by.Planned needs pages) d = tt
device_answers size log caller (asks.Plan call) by.OutOfMemory d = tt
device_answers size log caller (asks.Plan call) answer d = absurd d
device_answers size log caller (asks.Commit pieces room) by.NoPlan d = tt
device_answers size log caller (asks.Commit pieces room) (by.Lacking i) d = tt
device_answers size log caller (asks.Commit pieces room) by.Small d = tt
device_answers size log caller (asks.Commit pieces room) (by.Committed reply) d = tt
device_answers size log caller (asks.Commit pieces room) by.OutOfMemory d = tt
device_answers size log caller (asks.Commit pieces room) answer d = absurd d
device_answers size log caller asks.Drop by.NoPlan d = tt
device_answers size log caller asks.Drop by.Dropped d = tt
device_answers size log caller asks.Drop by.OutOfMemory d = tt
device_answers size log caller asks.Drop answer d = absurd d
device_answers size log caller asks.Reap by.Reaped d = tt
device_answers size log caller asks.Reap by.Nothing d = tt
device_answers size log caller asks.Reap answer d = absurd d

-- ---- the pieces used are some of those handed in

contained_more : {X : Type 0} (y : X) (xs : List X) (x : X) → Contains xs x → Contains (y ∷ xs) x
contained_more y xs x h = (suc h.0, omega (arith, h.1), h.2)

contained_map : {X Y : Type 0} (f : X → Y) (xs : List X) (x : X) → Contains xs x → Contains (map f xs) (f x)
contained_map f xs x h = (h.0, omega (arith, h.1, length-map xs f), get_or-map f xs h.0 x (f x) h.1 ∙ ap f h.2)

some_of : {X : Type 0} (x y : X) → Some x ≡ Some y → x ≡ y
some_of x y e = cc

found_first : {X : Type 0} (y x : X) (ys : List X) (rest : Option X) (b : Bool) → (rest ≡ Some x → Contains ys x) → cond b (Some y) rest ≡ Some x → Contains (y ∷ ys) x
found_first y x ys rest true on e = (0, omega arith, some_of y x e)
found_first y x ys rest false on e = contained_more y ys x (on e)

found_in : {X : Type 0} (p : X → Bool) (xs : List X) (x : X) → find p xs ≡ Some x → Contains xs x
found_in p [] x e = absurd (none-some x e)
found_in p (y ∷ ys) x e = found_first y x ys (find p ys) (p y) (found_in p ys x) e

-- what is found, as a list
found_within : (pieces : List KeptPiece) (i : ℕ) (r : Option KeptPiece) → find (is_at i) pieces ≡ r → AllByRecursion (Contains (map seen_piece pieces)) (map seen_piece (option_to_list r))
found_within pieces i None e = tt
found_within pieces i (Some p) e = (contained_map seen_piece pieces p (found_in (is_at i) pieces p e), tt)

all_append : {X : Type 0} (P : X → Type 0) (xs ys : List X) → AllByRecursion P xs → AllByRecursion P ys → AllByRecursion P (xs ++ ys)
all_append P [] ys h k = k
all_append P (x ∷ xs) ys h k = (h.0, all_append P xs ys h.1 k)

used_within : (needs : List ℕ) (pieces : List KeptPiece) → AllByRecursion (Contains (map seen_piece pieces)) (map seen_piece (used_of needs pieces))
used_within [] pieces = tt
used_within (i ∷ needs) pieces =
    subst (λ (l : List Piece). AllByRecursion (Contains (map seen_piece pieces)) l) (sym (map-append seen_piece (option_to_list (find (is_at i) pieces)) (used_of needs pieces)))
    (all_append (Contains (map seen_piece pieces)) (map seen_piece (option_to_list (find (is_at i) pieces))) (map seen_piece (used_of needs pieces))
    (found_within pieces i (find (is_at i) pieces) refl) (used_within needs pieces))

keeps : (size : ℕ) (st : State) (caller : ℕ) (step : DeviceStep) (answer : DeviceAnswer) (kept : DeviceNoted) → Notes size st caller step answer kept
    → Keeps (seen_call step) (seen_reply answer) (seen_noted kept)
keeps size st caller (asks.Plan call) answer (noted.Plan kept) n = ap (λ c. plans (arc_value c)) n
keeps size st caller (asks.Commit pieces room) (by.Committed reply) (noted.Commit plan used) n =
    subst (λ (l : List KeptPiece). AllByRecursion (Contains (map seen_piece pieces.items)) (map seen_piece l)) (sym n.1) (used_within _ pieces.items)
keeps size st caller (asks.Commit pieces room) answer (noted.Commit plan used) n = ap (λ (l : List KeptPiece). map seen_piece l) n.1
keeps size st caller asks.Drop answer noted.Drop n = refl
keeps size st caller asks.Reap answer noted.Reap n = refl
keeps size st caller step answer kept n = absurd n

pub device_keeps : (size : ℕ) (log : List LogEntry) (caller : ℕ) (step : DeviceStep) (answer : DeviceAnswer) (e : LogEntry) → Enters size log caller step answer e
    → Keeps (seen_call step) (seen_reply answer) (seen_noted e.call) × (seen_reply e.reply ≡ seen_reply answer)
device_keeps size log caller step answer e h = (keeps size (run size log) caller step answer e.call h.noted, ap seen_reply h.told)

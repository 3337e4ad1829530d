-- One call that changes the state. Refusals, reads and want of memory change nothing.
use Rattle.std.specs.Prelude.{◌≡◌, ◌+◌, ◌⊎◌, ℕ, List}
use Rattle.lr_manifest.specs.Manifest.{ManifestFields}
use Rattle.lr_origin.specs.declared.key.KeyKind.{KeyKind}
use Rattle.lr_origin.specs.declared.key.KeyKind.TheVariants.{Root, Expired, Deleted, Chunk, Withdrawn}
use Rattle.lr_roots.specs.View.{Held, salt, bare}
use Rattle.lr_rules.specs.Known.{accepted, doubting, removed, dismissed}
use Rattle.lr_rules.specs.State.{Job, Creates, Moves, Desk, State, target, Less}
use Rattle.lr_rules.specs.Calls.{knows, MayRotate, MayPut, MayMake, MayMove, MayWithdraw, MayExpire, MayDelete, MaySweep, MaySettle, MayOpen, MayBegin, MayCopy, opened, began, made, making, settled_there}

-- A put of an empty body or a chunk may be tried on a doubt, and then both its answers tell of the key.
abbrev pub Tries : State → KeyKind → State → Type 0
Tries s k t = (t ≡ knows s (accepted s.known k bare)) ⊎ (t ≡ knows s (doubting s.known k bare))

pub data Steps (s t : State) : Type 0 where
  Rotates : (n : ℕ) (bytes : List ℕ) → MayRotate s n bytes → (t ≡ knows s (accepted s.known (Root (n + 1)) (salt bytes))) ⊎ (t ≡ knows s (doubting s.known (Root (n + 1)) (salt bytes))) → Steps s t
  PutsChunk : (n c : ℕ) (j : Job) (name : List ℕ) → MayPut s n c j (Chunk (target j) name) → Tries s (Chunk (target j) name) t → Steps s t
  Makes : (n c : ℕ) (image : List ℕ) (r d : ℕ) (m : ManifestFields) → MayMake s n c image r d m → (t ≡ made s n image r m) ⊎ (t ≡ making s n image r m) → Steps s t
  FinishesMove : (n c : ℕ) (image : List ℕ) (from to : ℕ) (m : ManifestFields) → MayMove s n c image from to m → (t ≡ made s n image to m) ⊎ (t ≡ making s n image to m) → Steps s t
  Withdraws : (image : List ℕ) → MayWithdraw s image → Tries s (Withdrawn image) t → Steps s t
  Expires : (r : ℕ) → MayExpire s r → Tries s (Expired r) t → Steps s t
  Deletes : (r : ℕ) → MayDelete s r → Tries s (Deleted r) t → Steps s t
  Sweeps : (r : ℕ) (k : KeyKind) (x : Held) → MaySweep s r k x → (t ≡ knows s (removed s.known k)) ⊎ (t ≡ knows s (doubting s.known k x)) → Steps s t
  Settles : (k : KeyKind) (x : Held) → MaySettle s k x → (t ≡ settled_there s k x) ⊎ (t ≡ knows s (dismissed s.known k)) → Steps s t
  Opens : (image : List ℕ) (r : ℕ) (m : ManifestFields) → MayOpen s image r m → t ≡ opened s image m → Steps s t
  BeginsCreate : (c : ℕ) (image : List ℕ) (r : ℕ) → MayBegin s image r → t ≡ began s c (Creates image r s.desk.next_number) (s.desk.next_number + 1) → Steps s t
  BeginsMove : (c : ℕ) (image : List ℕ) (from to : ℕ) (m : ManifestFields) → MayCopy s image from to m → t ≡ began s c (Moves image from to m) s.desk.next_number → Steps s t
  -- leases or sessions end
  Ends : (e : Desk) → Less s.desk e → t ≡ record { known = s.known; desk = e } → Steps s t

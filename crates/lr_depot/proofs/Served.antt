-- How a kernel that a put or a deletion changed holds the state after the call.
use Rattle.std.proofs.Common.{◌≡◌, ◌≢◌, ◌≤◌, ◌<◌, ◌^◌, arith, ℕ, List, true, Option, Some, None, IsSome, refl, sym, ap, subst, ◌∙◌, inl, inr}
use Rattle.std.specs.FinMap as map
use Rattle.lr_origin.specs.declared.key.KeyKind.{KeyKind}
use Rattle.lr_origin.specs.declared.key.KeyKind.TheVariants.{Root, Expired, Deleted, Chunk, Manifest, Withdrawn}
use Rattle.lr_roots.specs.View.{View, Held, salt, manifest, bare, Has, Lacks, Fits}
use Rattle.lr_roots.specs.Names.{Names, IsNamed, AreFewer, IsFirst, IsListed}
use Rattle.lr_roots.specs.Keys.{key_of}
use Rattle.lr_manifest.specs.Manifest.{ManifestFields}
use Rattle.std.specs.Arc.{arc_value}
use Rattle.std.specs.Option.{option_copied}
use denote.Ref.{Bor}
use Rattle.lr_rules.specs.Known.{Known, IsItemOf, accepted, doubting}
use Rattle.lr_manifest.specs.declared.name.Name.{Name}
use Rattle.lr_rules.specs.State.{Job, Creates, Moves, State, Holds, target}
use Rattle.lr_rules.specs.Calls.{knows, MayExpire, made, making, ended, settled_there}
use Rattle.lr_depot.specs.Sessions.{without_maker}
use Rattle.lr_origin.specs.Objects.{pointed}
use Rattle.lr_roots.specs.Sound.{IsSound}
use Rattle.lr_rules.proofs.Outcomes.{is_none}
use Rattle.lr_depot.proofs.States.{next_root}
use Rattle.lr_rules.proofs.Grammar.{doubt_fits}
use Rattle.lr_rules.proofs.Room.{insert_room, listed_names, move_names}
use Rattle.lr_roots.specs.Catalog.{Seen as Catalog}
use Rattle.lr_depot.specs.declared.kernel.Kernel.{Kernel}
use Rattle.lr_depot.specs.declared.kernel.Answer.{Answer}
use Rattle.lr_depot.specs.declared.call.DepotCall.{DepotCall}
use Rattle.lr_depot.specs.declared.call.DepotNoted.{DepotNoted}
use Rattle.lr_depot.specs.declared.call.DepotNoted.TheVariants as noted
use Rattle.lr_depot.specs.declared.call.DepotReply.{DepotReply}
use Rattle.lr_depot.specs.declared.call.DepotReply.TheVariants as reply
use Rattle.lr_depot.specs.declared.call.DepotTold.{DepotTold}
use Rattle.lr_depot.specs.declared.call.DepotTold.TheVariants as told
use Rattle.lr_depot.specs.Machine.{DepotStep, IsItemIn, IsRetired, IsFirstName, IsOwedAt, IsLeast, IsUser, IsUnsureIn, state_after, is_logged, IsTold}
use Rattle.lr_depot.specs.declared.put.PutEnd.{PutEnd}
use Rattle.lr_depot.specs.declared.put.PutEnd.TheVariants.{Kept as Done, Fault as Failed, Spoiled as Bad, OutOfMemory as Unmade}
use Rattle.lr_depot.specs.Put.{PutsKey}
use Rattle.lr_depot.specs.Kernel.{Makers, HasMakers, state_of, IsOf, IsReady, Replies}
use Rattle.lr_depot.proofs.Cases.{IsBare, empty_bare}
use Rattle.lr_depot.proofs.Making.{plain_put}
use Rattle.lr_depot.proofs.Ready.{known_after, moves_logged, moves_unlogged}

-- of a chunk key the view keeps nothing else
pub item_bare : (v : View) (k : KeyKind) (r : ℕ) → ((q : ℕ) (image : List ℕ) → k ≡ Manifest q image → ⊥) → IsItemOf r k → Has v k → ((x : Held) → map.get v k ≡ Some x → Fits k x) → map.get v k ≡ Some bare
item_bare v (Chunk q name) r none item has fits = by (map.get v (Chunk q name)) refl has
  where
    kept : (x : Held) → Fits (Chunk q name) x → x ≡ bare
    kept (salt b) f = absurd f
    kept (manifest m) f = absurd f
    kept bare f = refl

    by : (o : Option Held) → map.get v (Chunk q name) ≡ o → IsSome o → map.get v (Chunk q name) ≡ Some bare
    by None e some = cc
    by (Some x) e some = e ∙ ap Some (kept x (fits x e))
item_bare v (Manifest q image) r none item has fits = absurd (none q image refl)
item_bare v k r none item has fits = absurd item

-- after a chunk was put that the view hadn't
pub chunk_after : (s : State) (c n : ℕ) (j : Job) (name : Name) → Holds s n c j → Lacks s.known.view (Chunk (target j) name.bytes)
    → state_after s c (noted.PutChunk n name) told.Kept ≡ knows s (accepted s.known (Chunk (target j) name.bytes) bare)
chunk_after s c n j name holds away = rw holds (rw away refl)

-- after a copied manifest was put, and after its put failed
pub moved_after : (s : State) (c n : ℕ) (image : List ℕ) (from to : ℕ) (m : ManifestFields) → Holds s n c (Moves image from to m) → state_after s c (noted.FinishMigrate n) (told.Moved from to) ≡ made s n image to m
moved_after s c n image from to m holds = rw holds refl

pub unmoved_after : (s : State) (c n : ℕ) (image : List ℕ) (from to : ℕ) (m : ManifestFields) (k : KeyKind) → Holds s n c (Moves image from to m) → state_after s c (noted.FinishMigrate n) (told.Fault k) ≡ making s n image to m
unmoved_after s c n image from to m k holds = rw holds refl

pub made_after : (s : State) (c n : ℕ) (image : List ℕ) (r d : ℕ) (p : _) → Holds s n c (Creates image r d) → state_after s c (noted.PutManifest n p) (told.Made r) ≡ made s n image r (arc_value p)
made_after s c n image r d p holds = rw holds refl

-- after a deletion failed
pub swept_after : (s : State) (c r : ℕ) (k : KeyKind) (x : Held) → map.get s.known.view k ≡ Some x → state_after s c (noted.Sweep r) (told.Fault k) ≡ knows s (doubting s.known k x)
swept_after s c r k x here = rw here refl

-- the least item of a root, as the catalog tells it
listed_item : (r : ℕ) (k : KeyKind) → IsListed r None k → IsItemOf r k
listed_item r (Chunk q name) (inr own, u) = own
listed_item r (Manifest q image) (inl own, u) = own
listed_item r (Chunk q name) (inl own, u) = absurd own
listed_item r (Manifest q image) (inr own, u) = absurd own
listed_item r (Root q) (inl own, u) = absurd own
listed_item r (Root q) (inr own, u) = absurd own
listed_item r (Expired q) (inl own, u) = absurd own
listed_item r (Expired q) (inr own, u) = absurd own
listed_item r (Deleted q) (inl own, u) = absurd own
listed_item r (Deleted q) (inr own, u) = absurd own
listed_item r (Withdrawn q) (inl own, u) = absurd own
listed_item r (Withdrawn q) (inr own, u) = absurd own

item_listed : (r : ℕ) (k : KeyKind) → IsItemOf r k → IsListed r None k
item_listed r (Chunk q name) own = (inr own, tt)
item_listed r (Manifest q image) own = (inl own, tt)
item_listed r k own = absurd own

pub copied_key : (r : Option (Bor KeyKind)) → option_copied r ≡ key_of r
copied_key None = refl
copied_key (Some x) = refl

pub first_item : (s : State) (r : ℕ) (k : KeyKind) → IsFirst (λ key. Has s.known.view key × IsListed r None key) (Some k) → IsFirst (IsItemIn s r) (Some k)
first_item s r k h = ((h.0.0, listed_item r k h.0.1), λ q less item. h.1 q less (item.0, item_listed r q item.1))

-- a retired root that nothing needs may expire
pub may_expire : (s : State) (r : ℕ) → IsSound s.known.view → IsRetired s r → IsFirstName (IsOwedAt s r) None → IsLeast (IsUser s r) None → IsFirst (IsUnsureIn s r) None → MayExpire s r
may_expire s r sound retired unowed unused sure = record {
  root = retired.0.0;
  next = next_root s.known.view r sound retired;
  live = retired.0.1;
  serving = retired.1;
  unserved = λ image kept home. unowed image (inl (kept, (r, home.listed)), home);
  unleased = λ n image m out home. unowed image (inr (n, m, out), home);
  free = λ n j out rests. unused n (j, out, rests);
  sure = λ image. is_none _ (λ has. sure (Manifest r image) (has, refl));
}

-- an owed image is named
pub owed_named : (s : State) (r : ℕ) (image : List ℕ) → IsOwedAt s r image → IsNamed s.known.view image
owed_named s r image owed = (Manifest r image, owed.1.listed, refl)

pub pointed_copied : (r : Option (Bor (List ℕ))) → pointed r ≡ option_copied r
pointed_copied None = refl
pointed_copied (Some x) = refl

-- the sessions that are left where a put was found there
pub settled_sessions : (s : State) (k : KeyKind) (x : Held) (o : Option ℕ) → Fits k x → ((r : ℕ) (image : List ℕ) → k ≡ Manifest r image → o ≡ map.get s.desk.makers k) → without_maker s.desk.sessions k o ≡ (settled_there s k x).desk.sessions
settled_sessions s (Manifest r image) (manifest m) o f same = ap (ended s.desk.sessions) (same r image refl)
settled_sessions s (Manifest r image) (salt b) o f same = absurd f
settled_sessions s (Manifest r image) bare o f same = absurd f
settled_sessions s (Root r) x o f same = refl
settled_sessions s (Expired r) x o f same = refl
settled_sessions s (Deleted r) x o f same = refl
settled_sessions s (Chunk r n) x o f same = refl
settled_sessions s (Withdrawn n) x o f same = refl

pub found_after : (s : State) (c : ℕ) (k : KeyKind) (x : Held) → map.get s.known.doubts k ≡ Some x → state_after s c (noted.Settle k) told.There ≡ settled_there s k x
found_after s c k x here = rw here refl

-- below another root
pub below : (a b : ℕ) → a ≤ b → a ≢ b → a < b
below a b le ne = grind (arith, le, ne)

-- what a kernel knows
abbrev pub known_of : Kernel → Known
known_of kernel = record { view = kernel.catalog.view; doubts = kernel.doubts }

-- a kernel that knows something else
abbrev pub with_known : Kernel → Catalog → View → Kernel
with_known kernel catalog doubts = record { catalog = catalog; doubts = doubts; makers = kernel.makers; leases = kernel.leases; sessions = kernel.sessions; next_lease = kernel.next_lease; next_session = kernel.next_session; next_number = kernel.next_number }

-- A put of a key that is no manifest, by its end.
module _ (kernel : Kernel) (makers : Makers) (own : HasMakers kernel makers) (catalog : Catalog) (doubts : View) (aside : catalog.aside ≡ None) (c : ℕ) (call : DepotCall) (n : DepotNoted) (answer : Answer)
    (key k : KeyKind) (x : Held) (is : key ≡ k) (other : (r : ℕ) (image : List ℕ) → Manifest r image ≢ key) where
  abbrev s : State
  s = state_of kernel makers

  abbrev new : Kernel
  new = with_known kernel catalog doubts

  held : (end : PutEnd) (t : Known) → PutsKey (known_of kernel) key x end (known_of new) → known_of new ≡ t → IsOf new (knows s t)
  held end t puts e = known_after new (knows s t) aside e refl refl refl refl refl (plain_put (known_of kernel) kernel.makers makers own key x other end (known_of new) puts)

  pub put_kept : PutsKey (known_of kernel) key x Done (known_of new) → (r : DepotReply) (t : DepotTold) → (answer.reply ≡ r) × (answer.told ≡ Some t) → DepotStep s c call r
      → is_logged r ≡ true → IsTold r t → state_after s c n t ≡ knows s (accepted s.known k x) → Replies s new c call n answer
  put_kept puts r t is_told step logged tells after =
      moves_logged s new c call n answer r t is_told step logged tells (subst (IsOf new) (sym after) (held Done (accepted s.known k x) puts (puts ∙ ap (λ k. accepted s.known k x) is)))

  pub put_failed : PutsKey (known_of kernel) key x Failed (known_of new) → (answer.reply ≡ reply.Fault key) × (answer.told ≡ Some (told.Fault key)) → DepotStep s c call (reply.Fault key)
      → state_after s c n (told.Fault key) ≡ knows s (doubting s.known key x) → Replies s new c call n answer
  put_failed puts tells step after =
      moves_logged s new c call n answer (reply.Fault key) (told.Fault key) tells step refl refl (subst (IsOf new) (sym after) (held Failed (doubting s.known key x) puts puts))

  pub put_spoiled : PutsKey (known_of kernel) key x Bad (known_of new) → (answer.reply ≡ reply.Spoiled key) × (answer.told ≡ Some (told.Spoiled key)) → DepotStep s c call (reply.Spoiled key)
      → state_after s c n (told.Spoiled key) ≡ s → Replies s new c call n answer
  put_spoiled puts tells step after =
      moves_logged s new c call n answer (reply.Spoiled key) (told.Spoiled key) tells step refl refl (subst (IsOf new) (sym after) (held Bad s.known puts puts.0))

  pub put_unmade : PutsKey (known_of kernel) key x Unmade (known_of new) → (answer.reply ≡ reply.OutOfMemory) × (answer.told ≡ None) → DepotStep s c call reply.OutOfMemory → Replies s new c call n answer
  put_unmade puts tells step = moves_unlogged s new c call n answer reply.OutOfMemory tells step refl (held Unmade s.known puts puts)

module _ (kernel : Kernel) (h : IsReady kernel) where
  -- of an empty object in doubt nothing is kept
  pub doubted_bare : (k : KeyKind) → IsBare k → (x : Held) → map.get kernel.doubts k ≡ Some x → x ≡ bare
  doubted_bare k empty x here = empty_bare k x empty (doubt_fits (state_of kernel h.makers) h.safe k x here)

  pub withdrawn_few : (image : List ℕ) (r : ℕ) (k : KeyKind) (x : Held) → Has kernel.catalog.view (Manifest r image) → k ≡ Withdrawn image → AreFewer (IsNamed (map.insert kernel.catalog.view k x)) (2 ^ 32)
  withdrawn_few image r k x listed is =
      insert_room (state_of kernel h.makers) h.room k x (λ i names. listed_names (state_of kernel h.makers) r image listed i (subst (λ k. Names k i) is names))

  pub moved_few : (n c : ℕ) (image : List ℕ) (from to : ℕ) (m : ManifestFields) (k : KeyKind) (x : Held) → map.get kernel.sessions n ≡ Some (record { caller = c; job = Moves image from to m }) → k ≡ Manifest to image → AreFewer (IsNamed (map.insert kernel.catalog.view k x)) (2 ^ 32)
  moved_few n c image from to m k x holds is =
      insert_room (state_of kernel h.makers) h.room k x (λ i names. move_names (state_of kernel h.makers) h.safe n c image from to m holds i (subst (λ k. Names k i) is names))

  pub expired_few : (r : ℕ) (k : KeyKind) (x : Held) → k ≡ Expired r → AreFewer (IsNamed (map.insert kernel.catalog.view k x)) (2 ^ 32)
  expired_few r k x is = insert_room (state_of kernel h.makers) h.room k x (λ i names. absurd (subst (λ k. Names k i) is names))

  pub deleted_few : (r : ℕ) (k : KeyKind) (x : Held) → k ≡ Deleted r → AreFewer (IsNamed (map.insert kernel.catalog.view k x)) (2 ^ 32)
  deleted_few r k x is = insert_room (state_of kernel h.makers) h.room k x (λ i names. absurd (subst (λ k. Names k i) is names))

-- What holds of a depot that is ready.
use Rattle.std.proofs.Common.{◌≡◌, ◌≤◌, ◌<◌, ◌+◌, ◌^◌, ℕ, Bool, true, false, List, length, Option, Some, None, IsSome, IsTrue, refl, sym, ap, subst, inl, inr, arith}
use Rattle.std.specs.FinMap as map
use Rattle.lr_origin.specs.declared.key.KeyKind.{KeyKind}
use Rattle.lr_origin.specs.declared.key.KeyKind.TheVariants.{Root, Expired, Chunk, Manifest}
use Rattle.lr_origin.specs.Text.{IsRoot}
use Rattle.lr_roots.specs.View.{View, Held, salt, manifest, bare, Has, Lacks, Fits}
use Rattle.lr_manifest.specs.Manifest.{ManifestFields}
use Rattle.lr_roots.specs.Catalog.{salt_of, manifest_of}
use Rattle.lr_roots.specs.Roots.{IsTop, RootsAre, IsHome, IsRootState}
use Rattle.lr_roots.specs.declared.state.RootState.TheVariants as root
use Rattle.lr_roots.specs.Names.{Names, IsNamed, AreFewer}
use Rattle.lr_roots.specs.Sound.{IsSound}
use Rattle.lr_rules.specs.State.{Job, State, Creates, Moves, target}
use Rattle.lr_rules.specs.Known.{Known}
use Rattle.lr_rules.specs.Calls.{MayRotate}
use Rattle.lr_rules.specs.Names.{IsImage}
use Rattle.lr_rules.proofs.Keys.{no_some}
use Rattle.lr_rules.proofs.Outcomes.{is_none, view_settles}
use Rattle.lr_rules.proofs.Calls.{view_good}
use Rattle.lr_rules.proofs.Grammar.{suits_fits, root_kind, doubt_kind, doubt_fits}
use Rattle.lr_rules.proofs.Room.{insert_room, creation_names}
use Rattle.lr_rules.proofs.Serving.{creation_serves, move_serves, target_serves}
use Rattle.lr_depot.specs.declared.kernel.Kernel.{Kernel}
use Rattle.lr_depot.specs.declared.kernel.Answer.{Answer}
use Rattle.lr_depot.specs.declared.call.DepotCall.{DepotCall}
use Rattle.lr_depot.specs.declared.call.DepotNoted.{DepotNoted}
use Rattle.lr_depot.specs.declared.call.DepotReply.{DepotReply}
use Rattle.lr_depot.specs.declared.call.DepotReply.TheVariants.{Fault}
use Rattle.lr_depot.specs.declared.call.DepotTold.{DepotTold}
use Rattle.lr_depot.specs.Machine.{DepotStep, state_after, is_logged, IsTold}
use Rattle.lr_depot.specs.Sessions.{HasCreation as Begun}
use Rattle.lr_depot.specs.Doubts.{IsManifestOfImage}
use Rattle.lr_depot.specs.Store.{IsFault}
use Rattle.lr_depot.specs.Kernel.{Makers, state_of, HasMakers, IsOf, IsReady, RepliesBy, Replies, IsServed}

-- a root that is there has a salt
pub has_salt : (r : ℕ) (o : Option Held) → IsSome o → ((x : Held) → o ≡ Some x → Fits (Root r) x) → salt_of o ≡ None → ⊥
has_salt r None some fits none = absurd cc
has_salt r (Some (salt s)) some fits none = absurd cc
has_salt r (Some (manifest m)) some fits none = fits (manifest m) refl
has_salt r (Some bare) some fits none = fits bare refl

-- an image that a root has is there with a manifest
pub has_manifest : (r : ℕ) (image : List ℕ) (o : Option Held) → IsSome o → ((x : Held) → o ≡ Some x → Fits (Manifest r image) x) → manifest_of o ≡ None → ⊥
has_manifest r image None some fits none = absurd cc
has_manifest r image (Some (salt s)) some fits none = fits (salt s) refl
has_manifest r image (Some (manifest m)) some fits none = absurd cc
has_manifest r image (Some bare) some fits none = fits bare refl

-- the object of which a salt is kept
pub salt_kept : (o : Option Held) (s : List ℕ) → salt_of o ≡ Some s → o ≡ Some (salt s)
salt_kept None s e = absurd cc
salt_kept (Some (salt t)) s e = ap (λ o. with_salt o) e
  where
    with_salt : Option (List ℕ) → Option Held
    with_salt None = None
    with_salt (Some t) = Some (salt t)
salt_kept (Some (manifest m)) s e = absurd cc
salt_kept (Some bare) s e = absurd cc

-- the object of which a manifest is kept
pub manifest_kept : (o : Option Held) (m : ManifestFields) → manifest_of o ≡ Some m → o ≡ Some (manifest m)
manifest_kept None m e = absurd cc
manifest_kept (Some (salt t)) m e = absurd cc
manifest_kept (Some (manifest n)) m e = ap (λ o. with_manifest o) e
  where
    with_manifest : Option ManifestFields → Option Held
    with_manifest None = None
    with_manifest (Some n) = Some (manifest n)
manifest_kept (Some bare) m e = absurd cc

-- where the greatest root is n, the roots are 1 to n
pub top_roots : (v : View) (n : ℕ) → IsSound v → IsTop v n → RootsAre v n
top_roots v n s top = (
  λ r first within. s.no_gaps (Root n) n r (top.1 (omega (arith, first, within))) refl first within,
  λ r has. let k : IsRoot r = s.keys (Root r) has in (k.0, top.0 r has),
)

-- what a test told as false isn't so
pub is_not : {P : Type 0} {b : Bool} → (IsTrue b → P) × (P → IsTrue b) → b ≡ false → ¬ P
is_not {P} {b} told off p = clash b (told.1 p) off
  where
    clash : (b : Bool) → IsTrue b → b ≡ false → ⊥
    clash true set off = cc
    clash false set off = cc

module _ (kernel : Kernel) (h : IsReady kernel) where
  pub ready_sound : IsSound kernel.catalog.view
  ready_sound = (view_good (state_of kernel h.makers) h.safe).sound

  pub ready_fits : (k : KeyKind) (x : Held) → map.get kernel.catalog.view k ≡ Some x → Fits k x
  ready_fits k x e = suits_fits k x (ready_sound.fits k x e)

  pub ready_roots : (n : ℕ) → IsTop kernel.catalog.view n → RootsAre kernel.catalog.view n
  ready_roots n top = top_roots kernel.catalog.view n ready_sound top

  -- a home that is the greatest root is active
  pub top_active : (image : List ℕ) (home : ℕ) → IsHome kernel.catalog.view image home → IsTop kernel.catalog.view home → IsRootState kernel.catalog.view home (Some root.Active)
  top_active image home here top = (
    here.live,
    is_none (map.get kernel.catalog.view (Expired home)) (λ e. let past : home + 1 ≤ home = top.0 (home + 1) (ready_sound.never_active home e) in absurd (omega (arith, past))),
    (here.live.0, top.0),
  )

  -- the root into which a session puts is there
  pub target_root : (n c : ℕ) (j : Job) → map.get kernel.sessions n ≡ Some (record { caller = c; job = j }) → IsRoot (target j)
  target_root n c j holds =
      root_kind (state_of kernel h.makers) h.safe (target j) (target_serves (state_of kernel h.makers) h.safe n c j holds kernel.catalog.view (view_settles (state_of kernel h.makers).known h.safe.agrees)).0

  -- the root that a session copies from is there
  pub source_root : (n c : ℕ) (image : List ℕ) (from to : ℕ) (m : ManifestFields) → map.get kernel.sessions n ≡ Some (record { caller = c; job = Moves image from to m }) → IsRoot from
  source_root n c image from to m holds =
      root_kind (state_of kernel h.makers) h.safe from (move_serves (state_of kernel h.makers) h.safe n c image from to m holds).0.0

  -- the root of a creation is there
  pub creation_root : (n c : ℕ) (image : List ℕ) (r d : ℕ) → map.get kernel.sessions n ≡ Some (record { caller = c; job = Creates image r d }) → IsRoot r
  creation_root n c image r d holds =
      root_kind (state_of kernel h.makers) h.safe r (creation_serves (state_of kernel h.makers) h.safe n c image r d holds).0.0

  -- what is in doubt of a chunk is its key alone
  pub doubted_chunk : (r : ℕ) (name : List ℕ) (k : KeyKind) (x : Held) → k ≡ Chunk r name → map.get kernel.doubts k ≡ Some x → x ≡ bare
  doubted_chunk r name k x is here = by x (subst (λ k. Fits k x) is (doubt_fits (state_of kernel h.makers) h.safe k x here))
    where
      by : (x : Held) → Fits (Chunk r name) x → x ≡ bare
      by (salt s) f = absurd f
      by (manifest m) f = absurd f
      by bare f = refl

  -- a key that names no image, or the image of a creation, leaves the names few
  pub chunk_few : (r : ℕ) (name : List ℕ) (k : KeyKind) (x : Held) → k ≡ Chunk r name → AreFewer (IsNamed (map.insert kernel.catalog.view k x)) (2 ^ 32)
  chunk_few r name k x is = insert_room (state_of kernel h.makers) h.room k x (λ image n. absurd (subst (λ k. Names k image) is n))

  pub root_few : (r : ℕ) (k : KeyKind) (x : Held) → k ≡ Root r → AreFewer (IsNamed (map.insert kernel.catalog.view k x)) (2 ^ 32)
  root_few r k x is = insert_room (state_of kernel h.makers) h.room k x (λ image n. absurd (subst (λ k. Names k image) is n))

  pub manifest_few : (n c : ℕ) (image : List ℕ) (r d : ℕ) (k : KeyKind) (x : Held) → map.get kernel.sessions n ≡ Some (record { caller = c; job = Creates image r d }) → k ≡ Manifest r image → AreFewer (IsNamed (map.insert kernel.catalog.view k x)) (2 ^ 32)
  manifest_few n c image r d k x holds is =
      insert_room (state_of kernel h.makers) h.room k x (λ i names. creation_names (state_of kernel h.makers) n c image r d holds i (subst (λ k. Names k i) is names))

  -- no root past the last is in doubt
  pub no_root_past : (n : ℕ) → 1000 ≤ n → Lacks kernel.doubts (Root (n + 1))
  no_root_past n past = is_none _ (λ some. by (map.get kernel.doubts (Root (n + 1))) refl some)
    where
      by : (o : Option Held) → map.get kernel.doubts (Root (n + 1)) ≡ o → IsSome (map.get kernel.doubts (Root (n + 1))) → ⊥
      by None e some = no_some _ e some
      by (Some x) e some = let k : IsRoot (n + 1) = doubt_kind (state_of kernel h.makers) h.safe (Root (n + 1)) x e in absurd (omega (arith, k.1, past))

  -- what isn't found in doubt is sure
  pub is_sure : (k : KeyKind) {b : Bool} → (IsTrue b → Has kernel.doubts k) × (Has kernel.doubts k → IsTrue b) → b ≡ false → map.get kernel.doubts k ≡ None
  is_sure k told off = is_none _ (is_not told off)

  -- an image that nothing names is new
  pub is_new : (makers : Makers) (image : List ℕ) → ¬ (IsNamed kernel.catalog.view image) → ¬ (Begun kernel.sessions image)
      → ((k : KeyKind) → ¬ (Has kernel.doubts k × IsManifestOfImage image k)) → ¬ (IsImage (state_of kernel makers) image)
  is_new makers image named begun sure (inl i) = named i
  is_new makers image named begun sure (inr (inl i)) = sure (Manifest i.0 image) (i.1, refl)
  is_new makers image named begun sure (inr (inr i)) = begun i

  -- the next root may be put
  pub may_rotate : (makers : Makers) (n : ℕ) (bytes : List ℕ) (k : KeyKind) {b : Bool} → IsTop kernel.catalog.view n → n < 1000 → k ≡ Root (n + 1)
      → (IsTrue b → Has kernel.doubts k) × (Has kernel.doubts k → IsTrue b) → b ≡ false → length bytes ≡ 32 → MayRotate (state_of kernel makers) n bytes
  may_rotate makers n bytes k {b} top few is told off long = record {
    roots = ready_roots n top;
    sure = subst (λ k. map.get kernel.doubts k ≡ None) is (is_sure k told off);
    few = few;
    suits = long;
  }

-- a logged answer
pub moves_logged : (s : State) (new : Kernel) (c : ℕ) (call : DepotCall) (noted : DepotNoted) (answer : Answer) (reply : DepotReply) (told : DepotTold)
    → (answer.reply ≡ reply) × (answer.told ≡ Some told) → DepotStep s c call reply → is_logged reply ≡ true → IsTold reply told → IsOf new (state_after s c noted told)
    → Replies s new c call noted answer
moves_logged s new c call noted answer reply told is step logged tells of =
    subst (λ r. RepliesBy s new c call noted r answer.told) (sym is.0) (subst (RepliesBy s new c call noted reply) (sym is.1) (step, logged, tells, of))

-- an answer that the log doesn't keep
pub moves_unlogged : (s : State) (new : Kernel) (c : ℕ) (call : DepotCall) (noted : DepotNoted) (answer : Answer) (reply : DepotReply)
    → (answer.reply ≡ reply) × (answer.told ≡ None) → DepotStep s c call reply → is_logged reply ≡ false → IsOf new s
    → Replies s new c call noted answer
moves_unlogged s new c call noted answer reply is step logged of =
    subst (λ r. RepliesBy s new c call noted r answer.told) (sym is.0) (subst (RepliesBy s new c call noted reply) (sym is.1) (step, logged, of))

-- after a put that left the rest, with the state of a call that is known by it
pub known_after : (new : Kernel) (t : State) → new.catalog.aside ≡ None
    → record { view = new.catalog.view; doubts = new.doubts } ≡ t.known
    → new.leases ≡ t.desk.leases → new.sessions ≡ t.desk.sessions → new.next_lease ≡ t.desk.next_lease → new.next_session ≡ t.desk.next_session → new.next_number ≡ t.desk.next_number → HasMakers new t.desk.makers
    → IsOf new t
known_after new t aside known leases sessions next_lease next_session next_number makers = record {
  aside = aside;
  view = ap (λ (k : Known). k.view) known;
  doubts = ap (λ (k : Known). k.doubts) known;
  leases = leases;
  sessions = sessions;
  next_lease = next_lease;
  next_session = next_session;
  next_number = next_number;
  makers = makers;
}

-- a reply that is a fault
fault_is : (reply : DepotReply) → IsFault reply → (k : KeyKind) × (reply ≡ Fault k)
fault_is (Fault k) f = (k, refl)
fault_is reply f = absurd f

-- a call that the store isn't asked for is no fault
pub never_fault : (kernel new : Kernel) (c : ℕ) (call : DepotCall) (noted : DepotNoted) (answer : Answer) (makers : Makers) → HasMakers kernel makers → IsServed kernel new c call noted answer
    → ((s : State) (k : KeyKind) → DepotStep s c call (Fault k) → ⊥) → IsFault answer.reply → ⊥
never_fault kernel new c call noted answer makers own serves never f =
    let k = fault_is answer.reply f in
    never (state_of kernel makers) k.0 (subst (DepotStep (state_of kernel makers) c call) k.1 (step answer.told (serves makers own)))
  where
    step : (o : Option DepotTold) → RepliesBy (state_of kernel makers) new c call noted answer.reply o → DepotStep (state_of kernel makers) c call answer.reply
    step None h = h.0
    step (Some t) h = h.0

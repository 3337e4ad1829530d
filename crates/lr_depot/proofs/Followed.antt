-- The store is always one of the ways in which the doubts can come out, so it is sound wherever a run ends.
use Rattle.std.proofs.Common.{◌≡◌, ◌+◌, ℕ, List, [], ◌∷◌, length, Option, Some, None, IsSome, refl, sym, ap, subst, ◌∙◌, inl, inr, arith}
use mathlib.Core.Logic.{◌⊎◌}
use Rattle.std.specs.Arc.{arc_value}
use Rattle.std.specs.declared.sync.Arc.{Arc}
use Rattle.std.specs.declared.alloc.Global.{Global}
use Rattle.std.specs.FinMap as map
use Rattle.std.specs.FinMap.{get-empty}
use Rattle.std.proofs.lemmas.Option.{slice_get_within, get_or_from_slice_get}
use Rattle.sha2.specs.Sha256.{sha256}
use Rattle.lr_manifest.specs.Manifest.{ManifestFields, spelling}
use Rattle.lr_manifest.specs.declared.name.Name.{Name}
use Rattle.lr_origin.specs.Kind.{kind_cmp}
use Rattle.lr_origin.specs.Objects.{Objects}
use Rattle.lr_origin.specs.Text.{key_text, IsKind}
use Rattle.lr_origin.specs.declared.key.KeyKind.{KeyKind}
use Rattle.lr_origin.specs.declared.key.KeyKind.TheVariants as kind
use Rattle.lr_roots.specs.View.{View, Held, salt, manifest, bare, Has, Lacks, Fits}
use Rattle.lr_roots.specs.Roots.{IsComplete}
use Rattle.lr_roots.specs.Sound.{Suits}
use Rattle.lr_opening.specs.Store.{Mirrors, IsBody, HasChunks, IsSoundStore}
use Rattle.lr_rules.specs.Known.{Known, accepted, doubting, dismissed}
use Rattle.lr_rules.specs.State.{Job, Creates, Moves, Session, State, Holds, target}
use Rattle.lr_rules.specs.Start.{started, MayStart}
use Rattle.lr_rules.specs.Safe.{IsSafe, Works}
use Rattle.lr_rules.specs.Calls.{knows, MayRotate, MayMake, MayMove, MaySettle, made}
use Rattle.lr_rules.specs.Steps as steps
use Rattle.lr_rules.proofs.Calls.{view_good}
use Rattle.lr_rules.proofs.Doubts.{same_some}
use Rattle.lr_rules.proofs.Grammar.{doubt_fits, doubt_kind, creation_kind, move_kind}
use Rattle.lr_rules.proofs.Keeps.{found_known}
use Rattle.lr_rules.proofs.Manifests.{none_yet}
use Rattle.lr_rules.proofs.Keys.{at_key}
use Rattle.lr_rules.proofs.Outcomes.{not_both, is_some, view_settles}
use Rattle.lr_rules.proofs.Serving.{leased_there}
use Rattle.lr_rules.proofs.Sound.{lacks_if}
use Rattle.lr_rules.proofs.Start.{start_safe}
use Rattle.lr_rules.proofs.Steps.{step_safe}
use Rattle.lr_depot.specs.declared.call.DepotCall.{DepotCall}
use Rattle.lr_depot.specs.declared.call.DepotCall.TheVariants.{Fetch, PutChunk, PutManifest, Rotate, CopyRead, FinishMigrate, Withdraw, Expire, Delete, Settle}
use Rattle.lr_depot.specs.declared.call.DepotNoted.TheVariants as noted
use Rattle.lr_depot.specs.declared.call.DepotReply.{DepotReply}
use Rattle.lr_depot.specs.declared.call.DepotReply.TheVariants.{Spoiled}
use Rattle.lr_depot.specs.declared.call.DepotTold.TheVariants as told
use Rattle.lr_depot.specs.declared.put.PutEnd.{PutEnd}
use Rattle.lr_depot.specs.declared.put.PutEnd.TheVariants.{Kept as Done, Fault as Failed}
use Rattle.lr_depot.specs.Machine.{LogEntry, DepotStep, IsFetch, IsPut, IsCopy, IsNextItem, state_after, after_entry, run, Enters}
use Rattle.lr_depot.specs.Put.{PutsKey}
use Rattle.lr_depot.specs.Store.{IsChunkBody, IsBodyPut, IsSpoiled, Puts, StoreStep, LeadsTo, Follows}
use Rattle.lr_depot.proofs.Cases.{OfEach, of_each, IsBare, MayPutBare, withdrawn_key, expired_key, deleted_key, empty_bare}
use Rattle.lr_depot.proofs.Moved.{digest_named, entry_safe, run_safe}
use Rattle.lr_depot.proofs.Logged.{leads_run}
use Rattle.lr_depot.proofs.Stored.{same_follows, put_follows, known_object, put_chunks, seen_object, removed_follows, removing_follows, removed_chunks, removing_chunks, found_follows, missed_follows, look_body}

pub start_follows : (v : View) (next : ℕ) (m : Objects) → Mirrors m v → Follows (started v next).known m
start_follows v next m h = (v, view_settles (started v next).known (λ k x e. absurd (not_both _ x (get-empty kind_cmp k) e)), h)

fits_bare : (r : ℕ) (name : List ℕ) (x : Held) → Fits (kind.Chunk r name) x → x ≡ bare
fits_bare r name bare f = refl
fits_bare r name (salt b) f = absurd f
fits_bare r name (manifest m) f = absurd f

held_of : (o : Option Held) → IsSome o → (x : Held) × (o ≡ Some x)
held_of (Some x) some = (x, refl)
held_of None some = absurd cc

same_image : (b c : ℕ) (i j : List ℕ) (q r d e : ℕ) → ◌≡◌ {A = Option Session} (Some (record { caller = b; job = Creates i q d })) (Some (record { caller = c; job = Creates j r e })) → i ≡ j
same_image b c i j q r d e f = let g : Creates i q d ≡ Creates j r e = ap (λ x. x.job) (same_some (record { caller = b; job = Creates i q d }) (record { caller = c; job = Creates j r e }) f) in cc

-- the image and the manifest of a session that copies
same_move : (b c : ℕ) (i j : List ℕ) (f g t u : ℕ) (p q : ManifestFields) → ◌≡◌ {A = Option Session} (Some (record { caller = b; job = Moves i f t p })) (Some (record { caller = c; job = Moves j g u q })) → (i ≡ j) × (p ≡ q)
same_move b c i j f g t u p q e = let is : Moves i f t p ≡ Moves j g u q = ap (λ x. x.job) (same_some (record { caller = b; job = Moves i f t p }) (record { caller = c; job = Moves j g u q }) e) in (ap (image_of i) is, ap (fields_of p) is)
  where
    image_of : List ℕ → Job → List ℕ
    image_of other (Moves i f t p) = i
    image_of other (Creates i r d) = other

    fields_of : ManifestFields → Job → ManifestFields
    fields_of other (Moves i f t p) = p
    fields_of other (Creates i r d) = other

-- the body of an empty object
empty_body : (k : KeyKind) → IsBare k → IsBody k bare []
empty_body (kind.Withdrawn image) e = (tt, refl)
empty_body (kind.Expired r) e = (tt, refl)
empty_body (kind.Deleted r) e = (tt, refl)
empty_body k e = absurd e

-- the body under a key in doubt
body_put_of : (k : KeyKind) (x : Held) (body : List ℕ) → IsKind k → ((r : ℕ) (name : List ℕ) → k ≡ kind.Chunk r name → (length body ≡ 524288) × (sha256 body ≡ name)) → IsBody k x body → IsBodyPut k x body
body_put_of (kind.Chunk r name) x body of named is = named r name refl
body_put_of (kind.Root r) x body of named is = is.1
body_put_of (kind.Expired r) x body of named is = is.1
body_put_of (kind.Deleted r) x body of named is = is.1
body_put_of (kind.Manifest r image) x body of named is = is.1
body_put_of (kind.Withdrawn image) x body of named is = is.1

module _ (s : State) (h : IsSafe s) (c : ℕ) where
  -- the put of a chunk that isn't known to be there
  module _ (n : ℕ) (j : Job) (chunk name : List ℕ) (holds : Holds s n c j) (is : name ≡ sha256 chunk) (away : Lacks s.known.view (kind.Chunk (target j) name)) where
    chunk_follows : (end : PutEnd) (t : Known) (m o : Objects) → PutsKey s.known (kind.Chunk (target j) name) bare end t → Puts s (kind.Chunk (target j) name) chunk end m (Some o) → Follows s.known m → Follows t o
    chunk_follows =
        put_follows s (kind.Chunk (target j) name) bare chunk (subst (λ l. IsKind (kind.Chunk (target j) l)) (sym is) (digest_named s h c n j chunk holds)) away
        (λ y some. fits_bare (target j) name y (doubt_fits s h (kind.Chunk (target j) name) y some)) refl

  -- the put of a creation's manifest
  module _ (n : ℕ) (image : List ℕ) (r d : ℕ) (p : ManifestFields) (may : MayMake s n c image r d p) where
    made_suits : Suits (kind.Manifest r image) (manifest p)
    made_suits =
        (view_good (made s n image r p) (step_safe s h (made s n image r p) (steps.Makes n c image r d p may (inl refl)))).sound.fits
        (kind.Manifest r image) (manifest p) (at_key s.known.view (kind.Manifest r image) (manifest p))

    make_follows : (end : PutEnd) (t : Known) (m o : Objects) → PutsKey s.known (kind.Manifest r image) (manifest p) end t → Puts s (kind.Manifest r image) (spelling p) end m (Some o) → Follows s.known m → Follows t o
    make_follows =
        put_follows s (kind.Manifest r image) (manifest p) (spelling p) (creation_kind s h n c image r d may.session) (h.fresh n c image r d may.session)
        (λ y some. absurd (not_both _ y may.sure some)) (made_suits, refl)

  -- the put of the next root
  root_kind : (i : ℕ) (bytes : List ℕ) → MayRotate s i bytes → IsKind (kind.Root (i + 1))
  root_kind i bytes may = (omega arith, omega (arith, may.few))

  root_new : (i : ℕ) (bytes : List ℕ) → MayRotate s i bytes → Lacks s.known.view (kind.Root (i + 1))
  root_new i bytes may = lacks_if s.known.view (kind.Root (i + 1)) (λ has. omega (arith, (may.roots.1 (i + 1) has).1))

  rotate_follows : (i : ℕ) (bytes : List ℕ) → MayRotate s i bytes → (end : PutEnd) (t : Known) (m o : Objects) → PutsKey s.known (kind.Root (i + 1)) (salt bytes) end t → Puts s (kind.Root (i + 1)) bytes end m (Some o) → Follows s.known m → Follows t o
  rotate_follows i bytes may =
      put_follows s (kind.Root (i + 1)) (salt bytes) bytes (root_kind i bytes may) (root_new i bytes may)
      (λ y some. absurd (not_both _ y may.sure some)) (may.suits, refl)

  -- the put of a copied manifest
  module _ (n : ℕ) (image : List ℕ) (from to : ℕ) (p : ManifestFields) (may : MayMove s n c image from to p) where
    moved_suits : Suits (kind.Manifest to image) (manifest p)
    moved_suits =
        (view_good (made s n image to p) (step_safe s h (made s n image to p) (steps.FinishesMove n c image from to p may (inl refl)))).sound.fits
        (kind.Manifest to image) (manifest p) (at_key s.known.view (kind.Manifest to image) (manifest p))

    move_follows : (end : PutEnd) (t : Known) (m o : Objects) → PutsKey s.known (kind.Manifest to image) (manifest p) end t → Puts s (kind.Manifest to image) (spelling p) end m (Some o) → Follows s.known m → Follows t o
    move_follows =
        put_follows s (kind.Manifest to image) (manifest p) (spelling p) (move_kind s h n c image from to p may.session) (none_yet s h n c image from to p may)
        (λ y some. absurd (not_both _ y may.sure some)) (moved_suits, refl)

    known_moved : (state_after s c (noted.FinishMigrate n) (told.Moved from to)).known ≡ accepted s.known (kind.Manifest to image) (manifest p)
    known_moved = rw may.session refl

    known_moving : (state_after s c (noted.FinishMigrate n) (told.Fault (kind.Manifest to image))).known ≡ doubting s.known (kind.Manifest to image) (manifest p)
    known_moving = rw may.session refl

  -- the put of an empty object
  module _ (k : KeyKind) (key : MayPutBare s k) where
    bare_follows : (end : PutEnd) (t : Known) (m o : Objects) → PutsKey s.known k bare end t → Puts s k [] end m (Some o) → Follows s.known m → Follows t o
    bare_follows =
        put_follows s k bare [] (key.grammar h) key.absent (λ y some. empty_bare k y key.empty (doubt_fits s h k y some)) (empty_body k key.empty)

    bare_chunks : (end : PutEnd) (m o : Objects) → Puts s k [] end m (Some o) → HasChunks m → HasChunks o
    bare_chunks end m o = put_chunks k [] (key.grammar h) (λ r name e. absurd (subst IsBare e key.empty)) s end m o

  -- a chunk or manifest key of the view
  item_kind : (r : ℕ) (k : KeyKind) → IsNextItem s r k → IsKind k
  item_kind r k next = (view_good s h).sound.keys k (is_some _ next.held next.may.here)

  known_doubted : (r : ℕ) (k : KeyKind) (next : IsNextItem s r k) → (state_after s c (noted.Sweep r) (told.Fault k)).known ≡ doubting s.known k next.held
  known_doubted r k next = rw next.may.here refl

  known_found : (k : KeyKind) (x : Held) → MaySettle s k x → (state_after s c (noted.Settle k) told.There).known ≡ accepted s.known k x
  known_found k x may = rw may.here (found_known s k x)

  -- what is known after a chunk was put, where the view has it and where it hasn't
  known_there : (n : ℕ) (j : Job) (name : Name) (x : Held) → Holds s n c j → map.get s.known.view (kind.Chunk (target j) name.bytes) ≡ Some x → (state_after s c (noted.PutChunk n name) told.Kept).known ≡ s.known
  known_there n j name x holds e = rw holds (rw e refl)

  known_new : (n : ℕ) (j : Job) (name : Name) → Holds s n c j → Lacks s.known.view (kind.Chunk (target j) name.bytes) → (state_after s c (noted.PutChunk n name) told.Kept).known ≡ accepted s.known (kind.Chunk (target j) name.bytes) bare
  known_new n j name holds e = rw holds (rw e refl)

  known_made : (n : ℕ) (image : List ℕ) (r d : ℕ) (p : _) → Holds s n c (Creates image r d) → (state_after s c (noted.PutManifest n p) (told.Made r)).known ≡ accepted s.known (kind.Manifest r image) (manifest (arc_value p))
  known_made n image r d p holds = rw holds refl

  module _ (m o : Objects) where
    kept_follows : (n : ℕ) (chunk : List ℕ) (name : Name) → name.bytes ≡ sha256 chunk → (k : KeyKind) → IsPut s n c chunk k
        → (Has s.known.view k × (Some o ≡ Some m)) ⊎ (Lacks s.known.view k × Puts s k chunk Done m (Some o)) → Follows s.known m → Follows (state_after s c (noted.PutChunk n name) told.Kept).known o
    kept_follows n chunk name is k put stored f = by stored
      where
        same : k ≡ kind.Chunk (target put.0) name.bytes
        same = put.2 ∙ ap (kind.Chunk (target put.0)) (sym is)

        by : (Has s.known.view k × (Some o ≡ Some m)) ⊎ (Lacks s.known.view k × Puts s k chunk Done m (Some o)) → Follows (state_after s c (noted.PutChunk n name) told.Kept).known o
        by (inl p) =
            let x : (x : Held) × (map.get s.known.view k ≡ Some x) = held_of _ p.0 in
            subst (λ t. Follows t o) (sym (known_there n put.0 name x.0 put.1 (ap (map.get s.known.view) (sym same) ∙ x.1))) (same_follows s.known m o p.1 f)
        by (inr p) =
            let away : Lacks s.known.view (kind.Chunk (target put.0) name.bytes) = ap (map.get s.known.view) (sym same) ∙ p.0 in
            subst (λ t. Follows t o) (sym (known_new n put.0 name put.1 away))
            (chunk_follows n put.0 chunk name.bytes put.1 is away Done (accepted s.known (kind.Chunk (target put.0) name.bytes) bare) m o refl (subst (λ k. Puts s k chunk Done m (Some o)) same p.1) f)

    made_follows : (n : ℕ) (image : List ℕ) (r d : ℕ) (p : _) → MayMake s n c image r d (arc_value p) → Puts s (kind.Manifest r image) (spelling (arc_value p)) Done m (Some o) → Follows s.known m → Follows (state_after s c (noted.PutManifest n p) (told.Made r)).known o
    made_follows n image r d p may puts f = subst (λ t. Follows t o) (sym (known_made n image r d p may.session)) (make_follows n image r d (arc_value p) may Done (accepted s.known (kind.Manifest r image) (manifest (arc_value p))) m o refl puts f)

    -- the put of a manifest as the call has it, with its handle as the log keeps it
    as_noted : (n : ℕ) (image : List ℕ) (r : ℕ) (end : PutEnd) (a p : Arc ManifestFields Global) → arc_value p ≡ arc_value a → Puts s (kind.Manifest r image) (spelling (arc_value a)) end m (Some o) → Puts s (kind.Manifest r image) (spelling (arc_value p)) end m (Some o)
    as_noted n image r end a p is puts = subst (λ v. Puts s (kind.Manifest r image) (spelling v) end m (Some o)) (sym is) puts

    follows : OfEach s c (λ call reply n t. StoreStep s c call reply m (Some o) → Follows s.known m → Follows (state_after s c n t).known o)
    follows = record {
      quiet = λ call reply n t q stores f. subst (λ (t : State). Follows t.known o) (sym q.state) (same_follows s.known m o (q.objects m (Some o) stores) f);
      opened = λ image a p r may stores f. same_follows s.known m o stores f;
      closed = λ lease out stores f. same_follows s.known m o stores f;
      began = λ image root bytes may salted stores f. same_follows s.known m o stores f;
      chunk = λ n chunk name j holds is stores f. kept_follows n (arc_value chunk) name is stores.0 stores.1 stores.3 f;
      chunk_doubted = λ n chunk name k is put away stores f.
          subst (λ k. Follows (knows s (doubting s.known k bare)).known o) (sym put.2)
          (chunk_follows n put.0 (arc_value chunk) (sha256 (arc_value chunk)) put.1 refl (ap (map.get s.known.view) (sym put.2) ∙ away) Failed _ m o refl (subst (λ k. Puts s k (arc_value chunk) Failed m (Some o)) put.2 stores.1) f);
      made = λ n a p r image d is may stores f.
          let same : stores.0 ≡ image = same_image c c stores.0 image r r stores.1.number d (sym stores.1.session ∙ may.session) in
          made_follows n image r d p may (as_noted n image r Done a p is (subst (λ i. Puts s (kind.Manifest r i) (spelling (arc_value a)) Done m (Some o)) same stores.2)) f;
      making = λ n a p r image d is may stores f. make_follows n image r d (arc_value p) may Failed _ m o refl (as_noted n image r Failed a p is stores) f;
      abandoned = λ n j holds stores f. same_follows s.known m o stores f;
      rotated = λ i bytes may stores f. rotate_follows i bytes may Done _ m o refl stores f;
      rotating = λ i bytes may stores f. rotate_follows i bytes may Failed _ m o refl stores f;
      moving = λ image from to a p may stores f. same_follows s.known m o stores f;
      moved = λ n image from to p may stores f.
          let same : (stores.0 ≡ image) × (stores.1 ≡ p) = same_move c c stores.0 image from from to to stores.1 p (sym stores.2.session ∙ may.session) in
          subst (λ t. Follows t o) (sym (known_moved n image from to p may))
          (move_follows n image from to p may Done _ m o refl (subst (λ i. Puts s (kind.Manifest to i) (spelling p) Done m (Some o)) same.0 (subst (λ q. Puts s (kind.Manifest to stores.0) (spelling q) Done m (Some o)) same.1 stores.3)) f);
      move_doubted = λ n image from to p may stores f.
          let same : stores.3 ≡ p = (same_move c c stores.0 image stores.1 from stores.2 to stores.3 p (sym stores.4.session ∙ may.session)).1 in
          subst (λ t. Follows t o) (sym (known_moving n image from to p may))
          (move_follows n image from to p may Failed _ m o refl (subst (λ q. Puts s (kind.Manifest to image) (spelling q) Failed m (Some o)) same stores.6) f);
      bare_put = λ call reply n t k b stores f.
          subst (λ (a : State). Follows a.known o) (sym b.state) (bare_follows k b.key Done (accepted s.known k bare) m o refl (b.objects m (Some o) stores) f);
      bare_doubted = λ call n k b stores f.
          subst (λ (a : State). Follows a.known o) (sym b.state) (bare_follows k b.key Failed (doubting s.known k bare) m o refl (b.objects m (Some o) stores) f);
      removed = λ r k next stores f. removed_follows s.known h.agrees k next.held (item_kind r k next) next.may.here m o stores f;
      removing = λ r k next stores f.
          subst (λ t. Follows t o) (sym (known_doubted r k next)) (removing_follows s.known h.agrees k next.held (item_kind r k next) next.may.here m o stores f);
      found = λ k x may stores f.
          subst (λ t. Follows t o) (sym (known_found k x may))
          (same_follows (accepted s.known k x) m o stores.0 (found_follows s.known k x m (doubt_kind s h k x may.here) may.here may.absent f stores.1.1 stores.1.3));
      missed = λ k x may stores f. same_follows (dismissed s.known k) m o stores.0 (missed_follows s.known k x m (doubt_kind s h k x may.here) may.here may.absent f stores.1);
      reaped = λ n j out own stores f. same_follows s.known m o stores f;
    }

    -- where a chunk is put, its key names it
    chunk_chunks : (n : ℕ) (chunk : List ℕ) (k : KeyKind) (end : PutEnd) → IsPut s n c chunk k → IsChunkBody k chunk → Puts s k chunk end m (Some o) → HasChunks m → HasChunks o
    chunk_chunks n chunk k end put body =
        put_chunks k chunk (subst IsKind (sym put.2) (digest_named s h c n put.0 chunk put.1)) (λ r name e. subst (λ k. IsChunkBody k chunk) e body) s end m o

    manifest_chunks : (n : ℕ) (image : List ℕ) (r d : ℕ) (body : List ℕ) (end : PutEnd) → Holds s n c (Creates image r d) → Puts s (kind.Manifest r image) body end m (Some o) → HasChunks m → HasChunks o
    manifest_chunks n image r d body end holds = put_chunks (kind.Manifest r image) body (creation_kind s h n c image r d holds) (λ r name e. absurd cc) s end m o

    copied_chunks : (n : ℕ) (image : List ℕ) (from to : ℕ) (p : ManifestFields) (body : List ℕ) (end : PutEnd) → MayMove s n c image from to p → Puts s (kind.Manifest to image) body end m (Some o) → HasChunks m → HasChunks o
    copied_chunks n image from to p body end may = put_chunks (kind.Manifest to image) body (move_kind s h n c image from to p may.session) (λ r name e. absurd cc) s end m o

    move_chunks : (n : ℕ) (image : List ℕ) (from to : ℕ) (p : ManifestFields) (end : PutEnd) → MayMove s n c image from to p → Puts s (kind.Manifest to image) (spelling p) end m (Some o) → HasChunks m → HasChunks o
    move_chunks n image from to p end may = copied_chunks n image from to p (spelling p) end may

    root_chunks : (i : ℕ) (bytes : List ℕ) (end : PutEnd) → MayRotate s i bytes → Puts s (kind.Root (i + 1)) bytes end m (Some o) → HasChunks m → HasChunks o
    root_chunks i bytes end may = put_chunks (kind.Root (i + 1)) bytes (root_kind i bytes may) (λ r name e. absurd cc) s end m o

    same_chunks : Some o ≡ Some m → HasChunks m → HasChunks o
    same_chunks e chunks = subst HasChunks (sym (same_some o m e)) chunks

    keeps_chunks : OfEach s c (λ call reply n t. StoreStep s c call reply m (Some o) → HasChunks m → HasChunks o)
    keeps_chunks = record {
      quiet = λ call reply n t q stores h. same_chunks (q.objects m (Some o) stores) h;
      opened = λ image a p r may stores h. same_chunks stores h;
      closed = λ lease out stores h. same_chunks stores h;
      began = λ image root bytes may salted stores h. same_chunks stores h;
      chunk = λ n chunk name j holds is stores h. elim stores.3 [ inl p ↦ same_chunks p.1 h | inr p ↦ chunk_chunks n (arc_value chunk) stores.0 Done stores.1 stores.2 p.1 h ];
      chunk_doubted = λ n chunk name k is put away stores h. chunk_chunks n (arc_value chunk) k Failed put stores.0 stores.1 h;
      made = λ n a p r image d is may stores h. manifest_chunks n stores.0 r stores.1.number (spelling (arc_value a)) Done stores.1.session stores.2 h;
      making = λ n a p r image d is may stores h. manifest_chunks n image r d (spelling (arc_value a)) Failed may.session stores h;
      abandoned = λ n j holds stores h. same_chunks stores h;
      rotated = λ i bytes may stores h. root_chunks i bytes Done may stores h;
      rotating = λ i bytes may stores h. root_chunks i bytes Failed may stores h;
      moving = λ image from to a p may stores h. same_chunks stores h;
      moved = λ n image from to p may stores h. move_chunks n stores.0 from to stores.1 Done stores.2 stores.3 h;
      move_doubted = λ n image from to p may stores h.
          let puts : Puts s (kind.Manifest to image) (spelling stores.3) Failed m (Some o) = stores.6 in
          copied_chunks n image from to p (spelling stores.3) Failed may puts h;
      bare_put = λ call reply n t k b stores h. bare_chunks k b.key Done m o (b.objects m (Some o) stores) h;
      bare_doubted = λ call n k b stores h. bare_chunks k b.key Failed m o (b.objects m (Some o) stores) h;
      removed = λ r k next stores h. removed_chunks m o (key_text k) stores h;
      removing = λ r k next stores h. removing_chunks k m o stores h;
      found = λ k x may stores h. same_chunks stores.0 h;
      missed = λ k x may stores h. same_chunks stores.0 h;
      reaped = λ n j out own stores h. same_chunks stores h;
    }

  module _ (lease index : ℕ) (k : KeyKind) (m : Objects) (fetch : IsFetch s lease index k) (f : Follows s.known m) (chunks : HasChunks m) where
    abbrev own : KeyKind
    own = kind.Chunk fetch.home fetch.name.bytes

    whole : IsComplete f.0 fetch.home fetch.manifest
    whole = leased_there s h lease fetch.image fetch.manifest fetch.out f.0 f.1 fetch.home fetch.homed

    has : Has f.0 own
    has =
        subst (λ (l : Name). Has f.0 (kind.Chunk fetch.home l.bytes)) (get_or_from_slice_get fetch.manifest.names index fetch.name fetch.name fetch.named)
        (whole index fetch.name (slice_get_within fetch.manifest.names index fetch.name fetch.named))

    of : IsKind own
    of = f.2.kinds own has

    object : (body : List ℕ) × (map.get m (key_text own) ≡ Some body)
    object = seen_object own (map.get m (key_text own)) (map.get f.0 own) (f.2.each own of) has

    -- The chunk of a lease is in the store, under its name.
    pub fetch_there : (body : List ℕ) × (map.get m (key_text k) ≡ Some body) × IsChunkBody k body
    fetch_there = (
      object.0,
      ap (λ k. map.get m (key_text k)) fetch.key ∙ object.1,
      subst (λ k. IsChunkBody k object.0) (sym fetch.key) (chunks fetch.home fetch.name.bytes object.0 of object.1),
    )

  module _ (n index : ℕ) (k : KeyKind) (m : Objects) (copy : IsCopy s n c index k) (f : Follows s.known m) (chunks : HasChunks m) where
    abbrev copied : KeyKind
    copied = kind.Chunk copy.from copy.name.bytes

    copied_whole : IsComplete f.0 copy.from copy.manifest
    copied_whole =
        let w : Works f.0 (Moves copy.image copy.from copy.to copy.manifest) = (h.good f.0 f.1).works n _ copy.session in
        (h.good f.0 f.1).sound.complete copy.image copy.from copy.manifest (w.0.0, w.0.1) w.2

    copied_has : Has f.0 copied
    copied_has =
        subst (λ (l : Name). Has f.0 (kind.Chunk copy.from l.bytes)) (get_or_from_slice_get copy.manifest.names index copy.name copy.name copy.named)
        (copied_whole index copy.name (slice_get_within copy.manifest.names index copy.name copy.named))

    copied_object : (body : List ℕ) × (map.get m (key_text copied) ≡ Some body)
    copied_object = seen_object copied (map.get m (key_text copied)) (map.get f.0 copied) (f.2.each copied (f.2.kinds copied copied_has)) copied_has

    -- The chunk of a copied manifest is in the store, under its name.
    pub copy_there : (body : List ℕ) × (map.get m (key_text k) ≡ Some body) × IsChunkBody k body
    copy_there = (
      copied_object.0,
      ap (λ k. map.get m (key_text k)) copy.key ∙ copied_object.1,
      subst (λ k. IsChunkBody k copied_object.0) (sym copy.key) (chunks copy.from copy.name.bytes copied_object.0 (f.2.kinds copied copied_has) copied_object.1),
    )

  -- no empty object is there that isn't known
  bare_spoiled : (k q : KeyKind) (m : Objects) → Follows s.known m → MayPutBare s k → q ≡ k → map.get s.known.doubts q ≡ None → IsSome (map.get m (key_text q)) → ⊥
  bare_spoiled k q m f key e sure some =
      known_object s.known k m (key.grammar h) key.absent (ap (map.get s.known.doubts) (sym e) ∙ sure) f (subst (λ k. IsSome (map.get m (key_text k))) e some)

  -- what is found of a put in doubt is what was put
  found_put : (k : KeyKind) (x y : Held) (body : List ℕ) (m : Objects) → Follows s.known m → HasChunks m → MaySettle s k x → map.get s.known.doubts k ≡ Some y → map.get m (key_text k) ≡ Some body → IsBodyPut k y body
  found_put k x y body m f chunks may here found =
      let of : IsKind k = doubt_kind s h k x may.here in
      subst (λ z. IsBodyPut k z body) (same_some x y (sym may.here ∙ here)) (body_put_of k x body of (λ r name e. chunks r name body (subst IsKind e of) (subst (λ q. map.get m (key_text q) ≡ Some body) e found)) (look_body s.known k x m of may.here may.absent f body found))

  -- no reply tells of a spoiled key
  pub never_spoiled : (call : DepotCall) (k : KeyKind) (m : Objects) (o : Option Objects) → Follows s.known m → HasChunks m → DepotStep s c call (Spoiled k) → StoreStep s c call (Spoiled k) m o → ⊥
  never_spoiled (Fetch lease index) k m o f chunks step stores =
      let there : (body : List ℕ) × (map.get m (key_text k) ≡ Some body) × IsChunkBody k body = fetch_there lease index k m step f chunks in
      let spoiled : IsSpoiled k (Some there.0) = subst (IsSpoiled k) there.1 stores.1 in
      spoiled there.2
  never_spoiled (PutChunk n chunk) k m o f chunks step stores =
      let put : IsPut s n c (arc_value chunk) k = step.0 in
      known_object s.known k m (subst IsKind (sym put.2) (digest_named s h c n put.0 (arc_value chunk) put.1)) step.1 step.2 f stores.0
  never_spoiled (PutManifest n p) k m o f chunks step stores =
      let may : MayMake s n c step.0 step.1 step.2 (arc_value p) = step.3 in
      known_object s.known (kind.Manifest step.1 step.0) m (creation_kind s h n c step.0 step.1 step.2 may.session) (h.fresh n c step.0 step.1 step.2 may.session) may.sure f
      (subst (λ k. IsSome (map.get m (key_text k))) step.4 stores.0)
  never_spoiled (Rotate bytes) k m o f chunks step stores =
      let may : MayRotate s step.0 bytes = step.1 in
      known_object s.known (kind.Root (step.0 + 1)) m (root_kind step.0 bytes may) (root_new step.0 bytes may) may.sure f (subst (λ k. IsSome (map.get m (key_text k))) step.2 stores.0)
  never_spoiled (CopyRead n index) k m o f chunks step stores =
      let there : (body : List ℕ) × (map.get m (key_text k) ≡ Some body) × IsChunkBody k body = copy_there n index k m step f chunks in
      let spoiled : IsSpoiled k (Some there.0) = subst (IsSpoiled k) there.1 stores.1 in
      spoiled there.2
  never_spoiled (FinishMigrate n) k m o f chunks step stores =
      let may : MayMove s n c step.0 step.1 step.2 step.3 = step.4 in
      known_object s.known (kind.Manifest step.2 step.0) m (move_kind s h n c step.0 step.1 step.2 step.3 may.session) (none_yet s h n c step.0 step.1 step.2 step.3 may) may.sure f
      (subst (λ k. IsSome (map.get m (key_text k))) step.5 stores.0)
  never_spoiled (Withdraw image) k m o f chunks step stores = bare_spoiled (kind.Withdrawn image) k m f (withdrawn_key s image step.0) step.1 step.2 stores.0
  never_spoiled (Expire r) k m o f chunks step stores = bare_spoiled (kind.Expired r) k m f (expired_key s r step.0) step.1 step.2 stores.0
  never_spoiled (Delete r) k m o f chunks step stores = bare_spoiled (kind.Deleted r) k m f (deleted_key s r step.0) step.1 step.2 stores.0
  never_spoiled (Settle q) k m o f chunks step stores = stores.1.4 (found_put q step.0.0 stores.1.0 stores.1.1 m f chunks step.0.1 stores.1.2 stores.1.3)
  never_spoiled call k m o f chunks step stores = absurd step

module _ (s : State) (h : IsSafe s) (e : LogEntry) (call : DepotCall) (reply : DepotReply) (m n : Objects) (step : DepotStep s e.caller call reply) (stores : StoreStep s e.caller call reply m (Some n)) (enters : Enters call reply e) where
  pub entry_follows : Follows s.known m → Follows (after_entry s e).known n
  entry_follows f = of_each s e.caller (λ call reply i t. StoreStep s e.caller call reply m (Some n) → Follows s.known m → Follows (state_after s e.caller i t).known n) (follows s h e.caller m n) call reply e.call e.reply step enters.noted enters.told stores f

  pub entry_chunks : HasChunks m → HasChunks n
  entry_chunks chunks = of_each s e.caller (λ call reply i t. StoreStep s e.caller call reply m (Some n) → HasChunks m → HasChunks n) (keeps_chunks s h e.caller m n) call reply e.call e.reply step enters.noted enters.told stores chunks

pub leads_follows : (s : State) (m : Objects) (log : List LogEntry) (n : Objects) → IsSafe s → LeadsTo s m log n → Follows s.known m × HasChunks m → Follows (run s log).known n × HasChunks n
leads_follows s m [] n h leads f = subst (λ n. Follows s.known n × HasChunks n) (sym leads) f
leads_follows s m (e ∷ es) n h leads f =
    leads_follows (after_entry s e) leads.2 es n (entry_safe s h e leads.0 leads.1 leads.3 leads.4) leads.6
    (entry_follows s h e leads.0 leads.1 m leads.2 leads.3 leads.5 leads.4 f.0, entry_chunks s h e leads.0 leads.1 m leads.2 leads.3 leads.5 leads.4 f.1)

-- The store follows without its chunks being asked.
pub leads_on : (s : State) (m : Objects) (log : List LogEntry) (n : Objects) → IsSafe s → LeadsTo s m log n → Follows s.known m → Follows (run s log).known n
leads_on s m [] n h leads f = subst (Follows s.known) (sym leads) f
leads_on s m (e ∷ es) n h leads f =
    leads_on (after_entry s e) leads.2 es n (entry_safe s h e leads.0 leads.1 leads.3 leads.4) leads.6
    (entry_follows s h e leads.0 leads.1 m leads.2 leads.3 leads.5 leads.4 f)

-- The way out that the store took is good.
pub followed_sound : (s : State) (m : Objects) → IsSafe s → Follows s.known m → HasChunks m → IsSoundStore m
followed_sound s m h f chunks = ((f.0, f.2, (h.good f.0 f.1).sound), chunks)

pub closing_sound : (v : View) (next : ℕ) (m : Objects) (log : List LogEntry) (n : Objects) → MayStart v next → Mirrors m v → HasChunks m → LeadsTo (started v next) m log n → IsSoundStore n
closing_sound v next m log n may mirrors chunks leads =
    let safe : IsSafe (started v next) = start_safe v next may in
    let ends : Follows (run (started v next) log).known n × HasChunks n = leads_follows (started v next) m log n safe leads (start_follows v next m mirrors, chunks) in
    followed_sound (run (started v next) log) n (run_safe (started v next) log safe (leads_run (started v next) m log n leads)) ends.0 ends.1

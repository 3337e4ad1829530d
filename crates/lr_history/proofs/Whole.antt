-- The assembly: the base of each device, what agrees with it, and what follows for its history.
use Rattle.std.proofs.Common.{◌≡◌, ◌≤◌, ℕ, zero, suc, ◌*◌, List, [], ◌∷◌, length, take, drop, map, Option, Some, None, slice_get, Bool, true, false, refl, sym, ap, subst, ◌∙◌, arith, option_map, ◌++◌}
use Rattle.std.specs.Prelude.{find, ◌&&◌}
use Rattle.std.specs.Arc.{arc_value}
use Rattle.std.specs.Str.{bytes_eq}
use Rattle.std.proofs.lemmas.Slice.Eq.{bytes_eq-Decides}
use Rattle.std.specs.List.{AllByRecursion, Contains, flat_map}
use Rattle.std.specs.FinMap as finmap
use Rattle.std.proofs.lemmas.List.{length-append, length-replicate, length-take}
use Rattle.std.proofs.lemmas.List.Elements.{recursion_from_All, All-contains_itself}
use Rattle.std.proofs.lemmas.Option.{slice_get-map, same_Some}
use Rattle.sha2.specs.Sha256.{sha256}
use Rattle.lr_layout.specs.Padded.{padded, padded_length}
use Rattle.lr_manifest.specs.declared.name.Name.{Name}
use Rattle.lr_manifest.specs.Manifest.{ManifestFields, chunk_count}
use Rattle.lr_convergent.specs.declared.piece.KeptPiece.{KeptPiece}
use Rattle.lr_seal.specs.Table.{HasTag, key_list, rows_of}
use Rattle.lr_seal.specs.Denotation.{denotation, cut, plain_of}
use Rattle.lr_seal.specs.Made.{HaveDistinctDigests}
use Rattle.lr_origin.specs.Text.{key_text, IsKind}
use Rattle.lr_origin.specs.declared.key.KeyKind.TheVariants.{Chunk}
use Rattle.lr_opening.specs.Store.{HasChunks}
use Rattle.lr_object.specs.Own.{own_entries}
use Rattle.lr_object.specs.declared.id.ObjectId.{ObjectId}
use Rattle.lr_object.specs.declared.id.ObjectId.TheVariants.{Device}
use Rattle.lr_device.specs.Machine.{LogEntry, history}
use Rattle.lr_device.specs.Base.{HasPiece, Agrees}
use Rattle.lr_walk.specs.declared.trail.JobResult.{JobResult}
use Rattle.lr_walk.specs.Device.{Piece, seen_piece}
use Rattle.lr_walk.specs.Steps.{Step}
use Rattle.lr_walk.specs.Calls.{DevicePlace}
use Rattle.lr_walk.specs.Trails.{AreReaps}
use Rattle.lr_history.specs.Jobs.{WalksSeen, OrCut, HasTrailSeen}
use Rattle.lr_history.specs.Run.{ImageLine, creation_of, DeviceLine, DeviceSeen, ActorSeen, Run}
use Rattle.lr_history.specs.Strings.{used_by, used_pieces, strings_of}
use Rattle.lr_history.specs.Opened.{is_line_of, or_else, body_made, body_of, base_by, base_of}
use Rattle.lr_history.specs.Lists.{device_entry, device_log, own, place_of, context_of, entries_in}
use Rattle.lr_history.specs.Answered.{outcome_of, answered_jobs, committed_in}
use Rattle.lr_history.specs.Premises.{IsOpened, numbers, IsRun, IsSetUp}
use Rattle.lr_history.specs.Histories.{AreLegalWhereAgreed, PiecesWereLoaded, ServesEachBase, HistoriesAreLegal, OwnListsFollowJobs, own_answered, CallsAreAnsweredOnce, JobsAreAnswered}
use Rattle.lr_history.specs.Loaded.{IsLoaded, IsLoadedAt, HasPart, IsOpenedBy}
use Rattle.lr_history.proofs.Facts.{used_in, all_weaker}
use Rattle.lr_history.proofs.Paths.{list_follows}
use Rattle.lr_history.proofs.Owned.{jobs_answered, trail_once, trail_used}
use Rattle.lr_history.proofs.Logs.{own_history, own_used, by_callers, caller_of}
use Rattle.lr_history.proofs.Bases.{contains_at, cut_part, piece_agrees, opened_by_line, plain_part, plain_long, plain_there}
use Rattle.lr_history.proofs.Among.{find_passes, contains_taken, body_listed, sealed_long, made_listed, among_opening, among_images, among_used}

all_at : {X : Type 0} (P : X → Type 0) (xs : List X) (i : ℕ) (x : X) → AllByRecursion P xs → slice_get xs i ≡ Some x → P x
all_at P [] i x h e = absurd (cc)
all_at P (y ∷ xs) zero x h e = subst P (same_Some y x e) h.0
all_at P (y ∷ xs) (suc i) x h e = all_at P xs i x h.1 e

all_both : {X : Type 0} (P Q R : X → Type 0) → ((x : X) → P x → Q x → R x) → (xs : List X) → AllByRecursion P xs → AllByRecursion Q xs → AllByRecursion R xs
all_both P Q R w [] h k = tt
all_both P Q R w (x ∷ xs) h k = (w x h.0 k.0, all_both P Q R w xs h.1 k.1)

-- ---- callers

abbrev Trailed : Run → ActorSeen → Type 0
Trailed run a = HasTrailSeen (context_of run) (own run a.number) a.jobs a.results

-- an actor's own list of a device
own_is : (run : Run) (i n : ℕ) (d : DeviceSeen) → slice_get run.devices i ≡ Some d → own run n (Device i) ≡ map (device_entry i) (own_entries n d.log)
own_is run i n d at = ap (λ (o : Option DeviceSeen). map (device_entry i) (own_entries n (device_log o))) at

-- what is told of the pieces of a log, piece by piece
pieces_told : (P : Piece → Type 0) (pieces : List KeptPiece) → AllByRecursion P (map seen_piece pieces) → AllByRecursion (λ (p : KeptPiece). P (seen_piece p)) pieces
pieces_told P [] h = tt
pieces_told P (p ∷ pieces) h = (h.0, pieces_told P pieces h.1)

told_pieces : (P : Piece → Type 0) (pieces : List KeptPiece) → AllByRecursion (λ (p : KeptPiece). P (seen_piece p)) pieces → AllByRecursion P (map seen_piece pieces)
told_pieces P [] h = tt
told_pieces P (p ∷ pieces) h = (h.0, told_pieces P pieces h.1)

-- all pieces that a device's committed calls used were loaded
all_loaded : (run : Run) → IsRun run → (i : ℕ) (d : DeviceSeen) → slice_get run.devices i ≡ Some d → AllByRecursion (λ (p : KeptPiece). IsLoadedAt (context_of run) i (seen_piece p)) (used_pieces d.log)
all_loaded run is i d at =
    by_callers (λ (e : LogEntry). used_by e.call e.reply) (λ (p : KeptPiece). IsLoadedAt (context_of run) i (seen_piece p)) (Contains (numbers run.actors)) d.log (is.callers i d at) each
  where
    each : (n : ℕ) → Contains (numbers run.actors) n → AllByRecursion (λ (p : KeptPiece). IsLoadedAt (context_of run) i (seen_piece p)) (used_pieces (own_entries n d.log))
    each n c =
        let a = caller_of (Trailed run) run.actors n c is.trails in
        let used = trail_used (context_of run) (own run a.0.number) i a.0.jobs a.0.results a.2 in
        let same : used_in i (own run a.0.number (Device i)) ≡ map seen_piece (used_pieces (own_entries n d.log)) =
        ap (used_in i) (own_is run i a.0.number d at) ∙ own_used i (own_entries a.0.number d.log) ∙ ap (λ (m : ℕ). map seen_piece (used_pieces (own_entries m d.log))) a.1 in
        pieces_told (IsLoadedAt (context_of run) i) (used_pieces (own_entries n d.log)) (subst (λ (l : List Piece). AllByRecursion (IsLoadedAt (context_of run) i) l) same used)

-- .. by the names and keys of its own place
pub loaded : (run : Run) → IsRun run → PiecesWereLoaded run
loaded run is i d at =
    told_pieces (IsLoaded (place_of d)) (used_pieces d.log)
    (all_weaker (λ (p : KeptPiece). IsLoadedAt (context_of run) i (seen_piece p)) (λ (p : KeptPiece). IsLoaded (place_of d) (seen_piece p)) (λ p. each (seen_piece p)) (used_pieces d.log) (all_loaded run is i d at))
  where
    there : slice_get (map place_of run.devices) i ≡ Some (place_of d)
    there = slice_get-map place_of run.devices i ∙ ap (option_map place_of) at

    each : (p : Piece) → IsLoadedAt (context_of run) i p → IsLoaded (place_of d) p
    each p l = subst (λ (q : DevicePlace). IsLoaded q p) (same_Some l.0 (place_of d) (sym l.1 ∙ there)) l.2

agrees_all : (base : List ℕ) (pieces : List KeptPiece) → AllByRecursion (HasPiece base) pieces → Agrees base pieces
agrees_all base [] h = tt
agrees_all base (p ∷ pieces) h = (h.0, agrees_all base pieces h.1)

-- Pieces that were loaded agree with each base that the names and keys open, where digests tell strings apart.
all_agree : (place : DevicePlace) (strings : List (List ℕ)) (base : List ℕ) (pieces : List KeptPiece)
    → HaveDistinctDigests strings → IsOpenedBy strings place.names place.keys base
    → AllByRecursion (λ (p : KeptPiece). IsLoaded place (seen_piece p)) pieces
    → AllByRecursion (λ (p : KeptPiece). Contains strings (arc_value p.chunk)) pieces → Agrees base pieces
all_agree place strings base pieces apart opens l c =
    agrees_all base pieces (all_both (λ (p : KeptPiece). IsLoaded place (seen_piece p)) (λ (p : KeptPiece). Contains strings (arc_value p.chunk)) (HasPiece base)
    (λ p h k. piece_agrees strings place.names place.keys base p h.0 apart opens k h.1 h.2 h.3) pieces l c)

-- all chunks used are strings of the run
used_among : (run : Run) (i : ℕ) (d : DeviceSeen) → slice_get run.devices i ≡ Some d → AllByRecursion (λ (p : KeptPiece). Contains (strings_of run) (arc_value p.chunk)) (used_pieces d.log)
used_among run i d at =
    all_weaker (Contains (used_pieces d.log)) (λ (p : KeptPiece). Contains (strings_of run) (arc_value p.chunk))
    (λ p c. among_used run d p (contains_at run.devices i d at) c) (used_pieces d.log)
    (recursion_from_All (Contains (used_pieces d.log)) (used_pieces d.log) (All-contains_itself (used_pieces d.log)))

-- ---- bases

-- A device has this base: it is as long as the device, and its manifest's names and keys open it.
pub record IsBase (run : Run) (d : DeviceLine) (base : List ℕ) : Type 0 where
  pub is : base_of run.opening run.images d ≡ Some base
  pub long : length base ≡ padded_length d.manifest.raw_len
  pub opens : IsOpenedBy (strings_of run) d.manifest.names d.keys base

and_right : (a b : Bool) → (a && b) ≡ true → b ≡ true
and_right true b e = e
and_right false b e = absurd (cc)

length-padded : (raw : List ℕ) → length (padded raw) ≡ padded_length (length raw)
length-padded raw = length-append raw _ ∙ simp length-replicate (omega arith)

-- the base of a device of an image line
line_base : (run : Run) (d : DeviceLine) (line : ImageLine) → IsOpened run.opening run.images d → find (is_line_of d) run.images ≡ Some line → IsBase run d (padded line.raw)
line_base run d line opened f =
    let p = find_passes (is_line_of d) run.images line f in
    let tenant : line.tenant ≡ d.tenant = (bytes_eq-Decides line.tenant d.tenant).0 (and_right (bytes_eq line.image d.image) (bytes_eq line.tenant d.tenant) p.1) in
    let made = opened.lined line f in
    record {
      is = ap (λ (o : Option ImageLine). base_by o run.opening run.images d) f;
      long = length-padded line.raw ∙ ap padded_length (sym made.raw_len);
      opens = opened_by_line line.salt line.raw d.manifest.names d.keys (strings_of run) made.names
          (opened.keys ∙ ap (key_list d.manifest) (sym tenant) ∙ made.keys) (λ x c. among_images run line x p.0 c);
    }

-- a body that is there is a string of the run, of its name and of a chunk's length
abbrev IsGoodBody : Run → List ℕ → List ℕ → Type 0
IsGoodBody run name b = Contains (strings_of run) b × (sha256 b ≡ name) × (length b ≡ 524288)

good_body : (run : Run) (d : DeviceLine) → HasChunks run.opening → (name : List ℕ) → IsKind (Chunk d.root name)
    → (b : List ℕ) → body_of run.opening (take d.before run.images) d.root name ≡ Some b → IsGoodBody run name b
good_body run d chunks name kind b e = by (finmap.get run.opening (key_text (Chunk d.root name))) refl e
  where
    by : (o : Option (List ℕ)) → finmap.get run.opening (key_text (Chunk d.root name)) ≡ o
        → or_else o (body_made (take d.before run.images) d.root name) ≡ Some b → IsGoodBody run name b
    by None g e =
        let m = made_listed (take d.before run.images) d.root name b e in
        (among_images run m.0 b (contains_taken d.before run.images m.0 m.1) m.2, m.3, sealed_long (creation_of m.0) b m.2)
    by (Some x) g e =
        let got : finmap.get run.opening (key_text (Chunk d.root name)) ≡ Some b = g ∙ e in
        let c = chunks d.root name b kind got in
        (among_opening run b (body_listed run.opening d.root name b got), c.1, c.0)

abbrev body_in : Run → DeviceLine → List ℕ → Option (List ℕ)
body_in run d = body_of run.opening (take d.before run.images) d.root

length-rows : (n : ℕ) (bytes : List ℕ) → length (rows_of n bytes) ≡ n
unfolding rows_of
length-rows zero bytes = refl
length-rows (suc n) bytes = ap suc (length-rows n (drop 32 bytes))

-- at a right tag a manifest denotes what its keys open
denotation-right : (m : ManifestFields) (tenant : List ℕ) (body : List ℕ → Option (List ℕ)) → HasTag m tenant
    → denotation m tenant body ≡ cut (padded_length m.raw_len) (plain_of body m.names (key_list m tenant))
unfolding denotation HasTag
denotation-right m tenant body tag = rw ((bytes_eq-Decides m.tag _).1 tag) refl

key_count : (m : ManifestFields) (tenant : List ℕ) → length (key_list m tenant) ≡ length m.sealed
unfolding key_list
key_count m tenant = length-rows (length m.sealed) _

-- the base of any other device
denoted_base : (run : Run) (d : DeviceLine) → HasChunks run.opening → IsOpened run.opening run.images d → find (is_line_of d) run.images ≡ None
    → (base : List ℕ) × IsBase run d base
denoted_base run d chunks opened f =
    let body = body_in run d in
    let m : ManifestFields = d.manifest in
    let n : ℕ = padded_length m.raw_len in
    let there = plain_there (body_in run d) m.names (key_list m d.tenant) opened.there (key_count m d.tenant ∙ opened.manifest.keys) in
    let joined : List ℕ = there.0 in
    let good = λ (name : Name) (kind : IsKind (Chunk d.root name.bytes)) (b : List ℕ) (e : body_in run d name.bytes ≡ Some b). good_body run d chunks name.bytes kind b e in
    let long : AllByRecursion (λ (name : Name). (b : List ℕ) → body_in run d name.bytes ≡ Some b → length b ≡ 524288) m.names =
    all_weaker (λ (name : Name). IsKind (Chunk d.root name.bytes)) (λ (name : Name). (b : List ℕ) → body_in run d name.bytes ≡ Some b → length b ≡ 524288)
    (λ name kind b e. (good name kind b e).2) m.names opened.kinds in
    let count : length m.names ≡ chunk_count m.raw_len = opened.manifest.count in
    let wide : length joined ≡ 524288 * length m.names = plain_long (body_in run d) m.names (key_list m d.tenant) joined there.1 long in
    let enough : n ≤ length joined = omega arith in (
      take n joined,
      record {
        is = ap (λ (o : Option ImageLine). base_by o run.opening run.images d) f
            ∙ denotation-right m d.tenant (body_in run d) opened.tag ∙ ap (cut n) there.1;
        long = simp length-take (omega arith);
        opens = λ i name key at kat.
            let p = plain_part (body_in run d) m.names (key_list m d.tenant) joined there.1 long i name key at (ap (λ (l : List (List ℕ)). slice_get l i) (sym opened.keys) ∙ kat) in
            let g = good name (all_at (λ (x : Name). IsKind (Chunk d.root x.bytes)) m.names i name opened.kinds at) p.0 p.1 in
            (p.0, g.0, g.1, subst (λ (t : List ℕ). HasPart (take n joined) i t) p.2 (cut_part n i joined));
      },
    )

pub based : (run : Run) (d : DeviceLine) → HasChunks run.opening → IsOpened run.opening run.images d → (base : List ℕ) × IsBase run d base
based run d chunks opened = by (find (is_line_of d) run.images) refl
  where
    by : (o : Option ImageLine) → find (is_line_of d) run.images ≡ o → (base : List ℕ) × IsBase run d base
    by None f = denoted_base run d chunks opened f
    by (Some line) f = (padded line.raw, line_base run d line opened f)

-- ---- the conclusions

pub each_base : (run : Run) → AreLegalWhereAgreed run → PiecesWereLoaded run → ServesEachBase run
each_base run legal loads i d at strings base apart among long opens =
    legal i d at base long (all_agree (place_of d) strings base (used_pieces d.log) apart opens (pieces_told (IsLoaded (place_of d)) (used_pieces d.log) (loads i d at)) among)

pub histories : (run : Run) → ServesEachBase run → IsSetUp run → HaveDistinctDigests (strings_of run) → HistoriesAreLegal run
histories run serves setup apart i d at =
    let b = based run d.line setup.chunks (setup.opened i d at) in
    (b.0, b.1.is, serves i d at (strings_of run) b.0 apart (used_among run i d at) b.1.long b.1.opens)

pub answered_once : (run : Run) → IsRun run → CallsAreAnsweredOnce run
answered_once run is i d at =
    all_weaker (Trailed run)
    (λ (a : ActorSeen). map outcome_of (own_answered a.number (history d.log)) ≡ answered_jobs i a.jobs a.results)
    (λ a h. sym (own_history a.number i d.log) ∙ ap (committed_in i) (sym (own_is run i a.number d at)) ∙ trail_once (context_of run) (own run a.number) i a.jobs a.results h)
    run.actors is.trails

pub jobs_told : (run : Run) → IsRun run → JobsAreAnswered run
jobs_told run is =
    all_weaker (Trailed run) _
    (λ a h. jobs_answered (context_of run) (own run a.number) a.jobs a.results h.walks)
    run.actors is.trails

pub lists_follow : (run : Run) → IsRun run → OwnListsFollowJobs run
lists_follow run is =
    all_weaker (Trailed run)
    (λ (a : ActorSeen). (o : ObjectId) → (rest : List Step) × (own run a.number o ≡ flat_map (λ (r : JobResult). entries_in (own run a.number) o r.path.items) a.results ++ rest) × AreReaps rest)
    (λ a h. list_follows (OrCut (WalksSeen (context_of run))) (own run a.number) a.jobs a.results h) run.actors is.trails

-- what a creation leaves in the store
use Rattle.std.proofs.Common.{◌≡◌, ℕ, suc, ◌+◌, ◌%◌, ◌≤◌, arith, List, [], ◌∷◌, ◌++◌, map as each, length, take, ◌-◌, Option, Some, None, refl, sym, ap, subst, ◌∙◌, inl, inr, append-nil, append_assoc, length-append, add-zero}
use Rattle.std.specs.Prelude.{◌⊎◌, All, IsSome, replicate}
use Rattle.std.proofs.lemmas.List.Elements.{All-contains, All-from_recursion}
use Rattle.std.proofs.lemmas.List.{take_at}
use Rattle.lr_roots.specs.Roots.{IsComplete}
use Rattle.lr_origin.specs.declared.key.KeyKind.{KeyKind}
use Rattle.lr_origin.specs.Objects.{Objects}
use Rattle.lr_origin.specs.Text.{key_text}
use Rattle.lr_opening.specs.Store.{IsSame, IsBody, Mirrors, HasChunks, IsSoundStore}
use Rattle.lr_rules.specs.Known.{Settles}
use Rattle.lr_rules.specs.Parts.{HasParts}
use Rattle.lr_layout.specs.Padded.{padded, padded_length}
use Rattle.lr_convergent.specs.Sealed.{sealed_bytes}
use Rattle.lr_seal.specs.Table.{made as manifest_made}
use Rattle.lr_seal.specs.Denotation.{denotation, DenotesItsParts}
use Rattle.lr_seal.specs.Made.{HaveDistinctDigests, HasBody}
use Rattle.lr_images.specs.Cat.{bodies}
use Rattle.std.specs.List.{AllByRecursion, Contains, flat_map}
use Rattle.std.specs.Arc.{arc_value}
use Rattle.std.specs.declared.sync.Arc.{Arc}
use Rattle.std.specs.declared.alloc.Global.{Global}
use Rattle.std.specs.FinMap as map
use Rattle.std.proofs.lemmas.List.Sums.{fold-append}
use Rattle.sha2.specs.Sha256.{sha256}
use Rattle.lr_manifest.specs.declared.name.Name.{Name}
use Rattle.lr_manifest.specs.declared.chunk.Chunk.{Chunk as Body}
use Rattle.lr_manifest.specs.Manifest.{ManifestFields, itself, spelling}
use Rattle.lr_convergent.specs.Sealed.{sealed_key, sealed_name}
use Rattle.lr_rules.specs.State.{Job, Creates as JobCreates, Session, Desk, State, Holds, target}
use Rattle.lr_rules.specs.Calls.{MayMake, MayBegin, made as state_made, began as state_began}
use Rattle.lr_rules.proofs.Keys.{at_n, at_key, at_other, gone_key, gone_other, no_some}
use Rattle.lr_roots.specs.View.{View, Held, bare, manifest, Has, Lacks}
use Rattle.lr_rules.specs.Known.{accepted}
use Rattle.lr_origin.specs.declared.key.KeyKind.TheVariants as kind
use Rattle.lr_depot.specs.declared.call.DepotCall.{DepotCall}
use Rattle.lr_depot.specs.declared.call.DepotCall.TheVariants.{BeginCreate, PutChunk, PutManifest}
use Rattle.lr_depot.specs.declared.call.DepotNoted.{DepotNoted}
use Rattle.lr_depot.specs.declared.call.DepotNoted.TheVariants as noted
use Rattle.lr_depot.specs.declared.call.DepotTold.{DepotTold}
use Rattle.lr_depot.specs.declared.call.DepotTold.TheVariants as told
use Rattle.lr_depot.specs.declared.call.DepotReply.{DepotReply}
use Rattle.lr_depot.specs.declared.call.DepotReply.TheVariants.{Opened, Fetched, Began, Made, Moving, Copied, Nothing, OutOfMemory}
use Rattle.lr_depot.specs.declared.call.DepotReply.TheVariants as by
use Rattle.lr_depot.specs.Machine.{LogEntry, DepotStep, Enters, IsNoted, IsTold, state_after, after_entry, run, manifest_put}
use Rattle.lr_depot.specs.Store.{IsRun}
use Rattle.lr_depot.specs.Begun.{Start}
use Rattle.lr_depot.specs.Depot.{IsStart, LedTo, KeepsStore, first_state, state}
use Rattle.lr_depot.proofs.Logged.{leads_run}
use Rattle.lr_images.specs.Made.{IsMade, CreationsAreMade}
use Rattle.lr_walk.specs.Depot.{Call, Step, step, step_of, logged, with_logged, Reply, began, kept, made, memory, begins, puts_chunk, puts_manifest, abandons, seen_noted, seen_told}
use Rattle.lr_creator.specs.declared.create.Place.{Place}
use Rattle.lr_creator.specs.Creation.{Ending, with_root, with_reply, with_memory, with_stop, Input, piece, last, Parts, no_parts, with_piece, IsPiece, fields_of, place_of, nonce_of, Leaves, LeavesEarly, Finishes, PutsOne, Puts, Creates, after_begin, after_manifest, after_chunk}
use Rattle.lr_images.specs.Drive.{GoesOn, joined, ArePieces}
use Rattle.lr_images.proofs.Filled.{AreNames, are_kept, filled_padded}

-- ---- entries of a log, by the step that they tell

pub call_chunk : (q : DepotNoted) (session : ℕ) (bytes : List ℕ) → seen_noted q ≡ puts_chunk session bytes → (name : Name) × (q ≡ noted.PutChunk session name)
call_chunk (noted.PutChunk n name) session bytes e = let same : n ≡ session = cc in (name, ap (λ k. noted.PutChunk k name) same)
call_chunk q session bytes e = absurd (cc)

pub told_kept : (t : DepotTold) → seen_told t ≡ kept → t ≡ told.Kept
told_kept told.Kept e = refl
told_kept t e = absurd (cc)

pub call_manifest : (q : DepotNoted) (session : ℕ) (fields : ManifestFields) → seen_noted q ≡ puts_manifest session fields → (m : Arc ManifestFields Global) × (q ≡ noted.PutManifest session m) × (arc_value m ≡ fields)
call_manifest (noted.PutManifest n m) session fields e = let same : n ≡ session = cc in (m, ap (λ k. noted.PutManifest k m) same, cc)
call_manifest q session fields e = absurd (cc)

pub told_made : (t : DepotTold) (root : ℕ) → seen_told t ≡ made root → t ≡ told.Made root
told_made (told.Made r) root e = let same : r ≡ root = cc in ap (λ k. told.Made k) same
told_made t root e = absurd (cc)

pub call_begin : (q : DepotNoted) (image : List ℕ) → seen_noted q ≡ begins image → q ≡ noted.BeginCreate image
call_begin (noted.BeginCreate i) image e = let same : begins i ≡ begins image = e in ap image_of same
  where
    image_of : Call → DepotNoted
    image_of (begins i) = noted.BeginCreate i
    image_of c = noted.Reap
call_begin q image e = absurd (cc)

pub told_began : (t : DepotTold) (session root : ℕ) (salt : List ℕ) (number : ℕ) → seen_told t ≡ began session root salt number → t ≡ told.Began session root salt number
told_began (told.Began a b x d) session root salt number e = ap told_of e
  where
    told_of : Reply → DepotTold
    told_of (began a b x d) = told.Began a b x d
    told_of r = told.Kept
told_began t session root salt number e = absurd (cc)

noted_manifest : (call : DepotCall) (k : ℕ) (m : Arc ManifestFields Global) → IsNoted call (noted.PutManifest k m) → (p : Arc ManifestFields Global) × (call ≡ PutManifest k p) × (arc_value m ≡ arc_value p)
noted_manifest (PutManifest n p) k m h = (p, ap (λ q. PutManifest q p) (sym h.0), h.1)
noted_manifest (PutChunk n p) k m h = absurd h
noted_manifest call k m h = absurd (cc)

reply_made : (reply : DepotReply) (root : ℕ) → IsTold reply (told.Made root) → reply ≡ Made root
reply_made (Made r) root h = let same : r ≡ root = cc in ap (λ k. Made k) same
reply_made (Opened lease m) root h = absurd h
reply_made (Fetched chunk) root h = absurd h
reply_made (Moving session from to m) root h = absurd h
reply_made (Copied chunk) root h = absurd h
reply_made Nothing root h = absurd h
reply_made OutOfMemory root h = absurd h
reply_made reply root h = absurd (cc)

noted_begin : (call : DepotCall) (image : List ℕ) → IsNoted call (noted.BeginCreate image) → call ≡ BeginCreate image
noted_begin (BeginCreate i) image h = let same : noted.BeginCreate image ≡ noted.BeginCreate i = h in ap call_of (sym same)
  where
    call_of : DepotNoted → DepotCall
    call_of (noted.BeginCreate i) = BeginCreate i
    call_of q = BeginCreate []
noted_begin (PutManifest n p) image h = absurd h
noted_begin (PutChunk n p) image h = absurd h
noted_begin call image h = absurd (cc)

reply_began : (reply : DepotReply) (session root : ℕ) (salt : List ℕ) (number : ℕ) → IsTold reply (told.Began session root salt number) → reply ≡ Began session root salt number
reply_began (Began a b x d) session root salt number h = ap reply_of (sym h)
  where
    reply_of : DepotTold → DepotReply
    reply_of (told.Began a b x d) = Began a b x d
    reply_of t = by.Kept
reply_began (Opened lease m) session root salt number h = absurd h
reply_began (Fetched chunk) session root salt number h = absurd h
reply_began (Moving s from to m) session root salt number h = absurd h
reply_began (Copied chunk) session root salt number h = absurd h
reply_began Nothing session root salt number h = absurd h
reply_began OutOfMemory session root salt number h = absurd h
reply_began reply session root salt number h = absurd (cc)

-- ---- what such an entry leaves

chunk_desk : (s : State) (c n : ℕ) (name : Name) (o : Option Session) → map.get s.desk.sessions n ≡ o → (state_after s c (noted.PutChunk n name) told.Kept).desk ≡ s.desk
chunk_desk s c n name None e = rw e refl
chunk_desk s c n name (Some session) e = by (map.get s.known.view (kind.Chunk (target session.job) name.bytes)) refl
  where
    by : (o : Option Held) → map.get s.known.view (kind.Chunk (target session.job) name.bytes) ≡ o → (state_after s c (noted.PutChunk n name) told.Kept).desk ≡ s.desk
    by None f = rw e (rw f refl)
    by (Some x) f = rw e (rw f refl)

pub chunk_holds : (s : State) (e : LogEntry) (session k c : ℕ) (j : Job) (bytes : List ℕ) → step_of e ≡ step (puts_chunk session bytes) kept → Holds s k c j → Holds (after_entry s e) k c j
chunk_holds s e session k c j bytes is holds =
    let call = call_chunk e.call session bytes (ap (λ (q : Step). q.call) is) in
    let reply : e.reply ≡ told.Kept = told_kept e.reply (ap (λ (q : Step). q.reply) is) in
    let same : after_entry s e ≡ state_after s e.caller (noted.PutChunk session call.0) told.Kept = λ i. state_after s e.caller (call.1 i) (reply i) in
    ap (λ (q : State). map.get q.desk.sessions k) same ∙ (ap (λ (q : Desk). map.get q.sessions k) (chunk_desk s e.caller session call.0 (map.get s.desk.sessions session) refl) ∙ holds)

made_job : (n : ℕ) (s : State) (image : List ℕ) (r d : ℕ) (o : Option Session) (m : ManifestFields) → o ≡ Some (record { caller = 0; job = JobCreates image r d }) → manifest_put s n o m ≡ state_made s n image r m
made_job n s image r d o m e = ap (λ q. manifest_put s n q m) e

some_of : {A : Type 0} (x y : A) → Some x ≡ Some y → x ≡ y
some_of x y e = cc

same_job : (image other : List ℕ) (r q d f : ℕ) → JobCreates image r d ≡ JobCreates other q f → (image ≡ other) × (r ≡ q)
same_job image other r q d f e = (cc, cc)

pub last_made : (s : State) (e : LogEntry) (session root rootb number : ℕ) (image : List ℕ) (fields : ManifestFields) (call : DepotCall) (reply : DepotReply) → e.caller ≡ 0 → step_of e ≡ step (puts_manifest session fields) (made root)
    → DepotStep s e.caller call reply → Enters call reply e → Holds s session 0 (JobCreates image rootb number)
    → (root ≡ rootb) × ((d : ℕ) × MayMake s session 0 image root d fields) × (after_entry s e ≡ state_made s session image root fields)
last_made s e session root rootb number image fields call reply caller is d enters holds =
    let one = call_manifest e.call session fields (ap (λ (q : Step). q.call) is) in
    let tells : e.reply ≡ told.Made root = told_made e.reply root (ap (λ (q : Step). q.reply) is) in
    let two = noted_manifest call session one.0 (subst (λ q. IsNoted call q) one.1 enters.noted) in
    let three : reply ≡ Made root = reply_made reply root (subst (λ q. IsTold reply q) tells enters.told) in
    let at : DepotStep s 0 (PutManifest session two.0) (Made root) = subst (λ q. DepotStep s q (PutManifest session two.0) (Made root)) caller (subst (λ q. DepotStep s e.caller (PutManifest session two.0) q) three (subst (λ q. DepotStep s e.caller q reply) two.1 d)) in
    let value : arc_value two.0 ≡ fields = sym two.2 ∙ one.2 in
    let may : MayMake s session 0 at.0 root at.1 fields = subst (λ q. MayMake s session 0 at.0 root at.1 q) value at.2 in
    let sessions : ◌≡◌ {A = Session} (record { caller = 0; job = JobCreates at.0 root at.1 }) (record { caller = 0; job = JobCreates image rootb number }) =
    some_of {A = Session} (record { caller = 0; job = JobCreates at.0 root at.1 }) (record { caller = 0; job = JobCreates image rootb number }) (sym may.session ∙ holds) in
    let job = same_job at.0 image root rootb at.1 number (ap (λ (q : Session). q.job) sessions) in
    let here : MayMake s session 0 image root at.1 fields = subst (λ q. MayMake s session 0 q root at.1 fields) job.0 may in (
      job.1,
      (at.1, here),
      (λ i. state_after s e.caller (one.1 i) (tells i)) ∙ (ap (λ q. manifest_put s session (map.get s.desk.sessions session) q) one.2 ∙ made_job session s image root at.1 (map.get s.desk.sessions session) fields here.session),
    )

-- ---- the first entry

pub first_began : (s : State) (e : LogEntry) (image : List ℕ) (session root : ℕ) (salt : List ℕ) (number : ℕ) (call : DepotCall) (reply : DepotReply) → e.caller ≡ 0 → step_of e ≡ step (begins image) (began session root salt number)
    → DepotStep s e.caller call reply → Enters call reply e → Holds (after_entry s e) session 0 (JobCreates image root number)
first_began s e image session root salt number call reply caller is d enters =
    let one : e.call ≡ noted.BeginCreate image = call_begin e.call image (ap (λ (q : Step). q.call) is) in
    let tells : e.reply ≡ told.Began session root salt number = told_began e.reply session root salt number (ap (λ (q : Step). q.reply) is) in
    let two : call ≡ BeginCreate image = noted_begin call image (subst (λ q. IsNoted call q) one enters.noted) in
    let three : reply ≡ Began session root salt number = reply_began reply session root salt number (subst (λ q. IsTold reply q) tells enters.told) in
    let at : DepotStep s e.caller (BeginCreate image) (Began session root salt number) = subst (λ q. DepotStep s e.caller (BeginCreate image) q) three (subst (λ q. DepotStep s e.caller q reply) two d) in
    let same : after_entry s e ≡ state_began s 0 (JobCreates image root number) (number + 1) = λ i. state_after s (caller i) (one i) (tells i) in
    ap (λ (q : State). map.get q.desk.sessions session) same
    ∙ (ap (map.get (state_began s 0 (JobCreates image root number) (number + 1)).desk.sessions) at.1 ∙ at_n s.desk.sessions s.desk.next_session (record { caller = 0; job = JobCreates image root number }))

-- ---- a walk that ends with a root

leaves_end : (session : ℕ) (end ending : Ending) (steps : List Step) → Leaves session end steps ending → ending ≡ end
leaves_end session end ending steps (reply, first, tail, e, t, ends) = ends.1

not_left : (session root : ℕ) (end : Ending) (steps : List Step) → (with_root root ≡ end → ⊥) → Leaves session end steps (with_root root) → ⊥
not_left session root end steps other l = other (leaves_end session end (with_root root) steps l)

pub not_early : (session root : ℕ) (steps : List Step) → LeavesEarly session steps (with_root root) → ⊥
not_early session root steps (inl l) = not_left session root with_memory steps (λ e. cc) l
not_early session root steps (inr l) = not_left session root with_stop steps (λ e. cc) l

pub root_of : (place : Place) (root : ℕ) (reply : Reply) (tail : List Step) → after_manifest place reply tail (with_root root) → (reply ≡ made root) × (tail ≡ [])
root_of place root (made r) tail h = let same : with_root root ≡ with_root r = h.1 in (ap made_of (sym same), h.0)
  where
    made_of : Ending → Reply
    made_of (with_root r) = made r
    made_of end = kept
root_of place root memory tail h = absurd (not_left place.session root with_memory tail (λ e. cc) h)
root_of place root reply tail h = absurd (not_left place.session root (with_reply reply) tail (λ e. cc) h)

pub kept_of : (place : Place) (root : ℕ) (more : List Step → Ending → Type 0) (reply : Reply) (tail : List Step) → after_chunk place more reply tail (with_root root) → (reply ≡ kept) × more tail (with_root root)
kept_of place root more kept tail h = (refl, h)
kept_of place root more memory tail h = absurd (not_left place.session root with_memory tail (λ e. cc) h)
kept_of place root more reply tail h = absurd (not_left place.session root (with_reply reply) tail (λ e. cc) h)

pub began_of : (tenant : List ℕ) (given : List Input) (root : ℕ) (reply : Reply) (tail : List Step) → after_begin tenant reply given tail (with_root root)
    → (session : ℕ) × (r : ℕ) × (salt : List ℕ) × (number : ℕ) × (reply ≡ began session r salt number) × Puts tenant (place_of session r salt number) no_parts given tail (with_root root)
began_of tenant given root (began session r salt number) tail h = (session, r, salt, number, refl, h)
began_of tenant given root memory tail h = absurd (let e : with_root root ≡ with_memory = h.1 in cc)
began_of tenant given root reply tail h = absurd (let e : with_root root ≡ with_reply reply = h.1 in cc)

-- a first step that is logged is the first entry's
pub first_entry : (own : List LogEntry) (s : Step) (tail : List Step) → each step_of own ≡ s ∷ tail → (e : LogEntry) × (rest : List LogEntry) × (own ≡ e ∷ rest) × (step_of e ≡ s) × (each step_of rest ≡ tail)
first_entry [] s tail h = absurd (cc)
first_entry (e ∷ rest) s tail h = (e, rest, refl, cc, cc)

-- ---- the pieces

-- what a creation of these pieces comes to, from a state in which its session is held
record Ends (s : State) (own : List LogEntry) (tenant : List ℕ) (image : List ℕ) (place : Place) (parts : Parts) (pieces : List (List ℕ)) (root rootb : ℕ) : Type 0 where
  names : List Name
  named : AreNames place.salt names pieces
  are : ArePieces parts.raw_len pieces
  final : Parts
  raw : final.raw_len ≡ parts.raw_len + length (joined pieces)
  names_are : final.names ≡ parts.names ++ names
  keys_are : final.keys ≡ parts.keys ++ each (sealed_key place.salt) pieces
  front : List LogEntry
  e : LogEntry
  split : own ≡ front ++ e ∷ []
  root_is : root ≡ rootb
  number : ℕ
  may : MayMake (run s front) place.session 0 image root number (fields_of tenant place final)
  left : run s own ≡ state_made (run s front) place.session image root (fields_of tenant place final)

module _ (tenant image : List ℕ) (place : Place) (root rootb number : ℕ) where
  ends_last : (s : State) (parts : Parts) (own : List LogEntry) (steps : List Step) → Holds s place.session 0 (JobCreates image rootb number) → AllByRecursion (λ e. e.caller ≡ 0) own → IsRun s own
      → each step_of own ≡ logged steps → Puts tenant place parts (last ∷ []) steps (with_root root) → Ends s own tenant image place parts [] root rootb
  ends_last s parts own steps holds callers runs same (inr early) = absurd (not_early place.session root steps early)
  ends_last s parts own steps holds callers runs same (inl (reply, first, tail, are, (is, answers), after)) =
      let fields : ManifestFields = fields_of tenant place parts in
      let end = root_of place root reply tail after in
      let one : first ≡ step (puts_manifest place.session fields) (made root) = is ∙ ap (λ q. step (puts_manifest place.session fields) q) end.0 in
      let all : steps ≡ step (puts_manifest place.session fields) (made root) ∷ [] = are ∙ (λ i. one i ∷ end.1 i) in
      let first = first_entry own (step (puts_manifest place.session fields) (made root)) [] (same ∙ ap logged all) in
      at first.0 first.1 first.2 first.3 first.4
    where
      at : (e : LogEntry) (rest : List LogEntry) → own ≡ e ∷ rest → step_of e ≡ step (puts_manifest place.session (fields_of tenant place parts)) (made root) → each step_of rest ≡ [] → Ends s own tenant image place parts [] root rootb
      at e [] is told none =
          let here : IsRun s (e ∷ []) = subst (IsRun s) is runs in
          let by : AllByRecursion (λ e. e.caller ≡ 0) (e ∷ []) = subst (AllByRecursion (λ e. e.caller ≡ 0)) is callers in
          let l = last_made s e place.session root rootb number image (fields_of tenant place parts) here.0 here.1 by.0 told here.2 here.3 holds in
          record {
            names = [];
            named = tt;
            are = tt;
            final = parts;
            raw = sym (add-zero parts.raw_len);
            names_are = sym (append-nil parts.names);
            keys_are = sym (append-nil parts.keys);
            front = [];
            e = e;
            split = is;
            root_is = l.0;
            number = l.1.0;
            may = l.1.1;
            left = ap (run s) is ∙ l.2;
          }
      at e (x ∷ rest) is told none = absurd (cc)

  ends : (pieces : List (List ℕ)) (s : State) (parts : Parts) (own : List LogEntry) (steps : List Step) → Holds s place.session 0 (JobCreates image rootb number) → AllByRecursion (λ e. e.caller ≡ 0) own → IsRun s own
      → each step_of own ≡ logged steps → Puts tenant place parts (each piece pieces ++ last ∷ []) steps (with_root root) → Ends s own tenant image place parts pieces root rootb
  ends [] s parts own steps holds callers runs same walk = ends_last s parts own steps holds callers runs same walk
  ends (p ∷ pieces) s parts own steps holds callers runs same (inr early) = absurd (not_early place.session root steps early)
  ends (p ∷ pieces) s parts own steps holds callers runs same (inl (is_piece, (name, named, (reply, first, tail, are, (is, answers), after)))) =
      let k = kept_of place root (Puts tenant place (with_piece place name p parts) (each piece pieces ++ last ∷ [])) reply tail after in
      let one : first ≡ step (puts_chunk place.session name.bytes) kept = is ∙ ap (λ q. step (puts_chunk place.session name.bytes) q) k.0 in
      let all : steps ≡ step (puts_chunk place.session name.bytes) kept ∷ tail = are ∙ ap (λ q. q ∷ tail) one in
      let f = first_entry own (step (puts_chunk place.session name.bytes) kept) (logged tail) (same ∙ ap logged all) in
      let here : IsRun s (f.0 ∷ f.1) = subst (IsRun s) f.2 runs in
      let by : AllByRecursion (λ e. e.caller ≡ 0) (f.0 ∷ f.1) = subst (AllByRecursion (λ e. e.caller ≡ 0)) f.2 callers in
      let more = ends pieces (after_entry s f.0) (with_piece place name p parts) f.1 tail (chunk_holds s f.0 place.session place.session 0 (JobCreates image rootb number) name.bytes f.3 holds) by.1 here.4 f.4 k.1 in
      record {
        names = name ∷ more.names;
        named = (named, more.named);
        are = (is_piece.whole, is_piece.some, is_piece.most, more.are);
        final = more.final;
        raw = (let l : length (p ++ joined pieces) ≡ length p + length (joined pieces) = length-append p (joined pieces) in omega (arith, more.raw, l));
        names_are = more.names_are ∙ append_assoc parts.names (name ∷ []) more.names;
        keys_are = more.keys_are ∙ append_assoc parts.keys (sealed_key place.salt p ∷ []) (each (sealed_key place.salt) pieces);
        front = f.0 ∷ more.front;
        e = more.e;
        split = f.2 ∙ ap (λ l. f.0 ∷ l) more.split;
        root_is = more.root_is;
        number = more.number;
        may = more.may;
        left = ap (run s) f.2 ∙ more.left;
      }

-- ---- the store afterwards

pub run_rest : (s : State) (xs ys : List LogEntry) → IsRun s (xs ++ ys) → IsRun (run s xs) ys
run_rest s [] ys is = is
run_rest s (x ∷ xs) ys is = run_rest (after_entry s x) xs ys is.4

pub run_front : (s : State) (xs ys : List LogEntry) → IsRun s (xs ++ ys) → IsRun s xs
run_front s [] ys is = tt
run_front s (x ∷ xs) ys is = (is.0, is.1, is.2, is.3, run_front (after_entry s x) xs ys is.4)

held_body : (k : KeyKind) (o : Option (List ℕ)) (p : Option Held) (held : Held) → p ≡ Some held → IsSame k o p → (body : List ℕ) × (o ≡ Some body) × IsBody k held body
held_body k None p held e same = absurd (subst (IsSame k None) e same)
held_body k (Some body) p held e same = (body, refl, subst (IsSame k (Some body)) e same)

has_some : {X : Type 0} (o : Option X) → IsSome o → (x : X) × (o ≡ Some x)
has_some (Some x) h = (x, refl)
has_some None h = absurd (cc)

all_of : (P : Name → Type 0) (xs : List Name) → ((x : Name) → Contains xs x → P x) → AllByRecursion P xs
all_of P [] f = tt
all_of P (x ∷ xs) f = (f x (0, omega arith, refl), all_of P xs (λ y c. f y (suc c.0, omega (arith, c.1), c.2)))

module _ (s : State) (parts : HasParts s) (n : Objects) (v : View) (settles : Settles s.known v) (mirrors : Mirrors n v) (chunks : HasChunks n) where
  -- a known chunk of a root that isn't deleted is there
  chunk_known : (r : ℕ) (name : Name) → Lacks s.known.view (kind.Deleted r) → Has s.known.view (kind.Chunk r name.bytes) → Has v (kind.Chunk r name.bytes)
  chunk_known r name live has = by (map.get s.known.doubts (kind.Chunk r name.bytes)) refl
    where
      by : (o : Option Held) → map.get s.known.doubts (kind.Chunk r name.bytes) ≡ o → Has v (kind.Chunk r name.bytes)
      by None e = subst (λ (o : Option Held). IsSome o) (sym (settles.known (kind.Chunk r name.bytes) e)) has
      by (Some x) e =
          let d = parts.deletions (kind.Chunk r name.bytes) (subst (λ (o : Option Held). IsSome o) (sym e) refl) has in
          let gone : Has s.known.view (kind.Deleted r) = subst (λ q. Has s.known.view (kind.Deleted q)) (sym d.1) d.2 in
          absurd (no_some (map.get s.known.view (kind.Deleted r)) live gone)

  body_kept : (strings : List (List ℕ)) (r : ℕ) → ((name body : List ℕ) → bodies n r name ≡ Some body → Contains strings body) → Lacks s.known.view (kind.Deleted r) → (name : Name) → Has s.known.view (kind.Chunk r name.bytes) → HasBody strings (bodies n r) name
  body_kept strings r all live name has =
      let k : KeyKind = kind.Chunk r name.bytes in
      let there = chunk_known r name live has in
      let held = has_some (map.get v k) there in
      let b = held_body k (map.get n (key_text k)) (map.get v k) held.0 held.1 (mirrors.each k (mirrors.kinds k there)) in
      (b.0, b.1, all name.bytes b.0 b.1, (chunks r name.bytes b.0 (mirrors.kinds k there) b.1).1)

  bodies_kept : (strings : List (List ℕ)) (r : ℕ) (fields : ManifestFields) → ((name body : List ℕ) → bodies n r name ≡ Some body → Contains strings body) → Lacks s.known.view (kind.Deleted r) → IsComplete s.known.view r fields
      → AllByRecursion (HasBody strings (bodies n r)) fields.names
  bodies_kept strings r fields all live whole =
      all_of (HasBody strings (bodies n r)) fields.names (λ name c. body_kept strings r all live name (All-contains (λ (q : Name). Has s.known.view (kind.Chunk r q.bytes)) fields.names name whole c))

  manifest_stored : (r : ℕ) (image : List ℕ) (fields : ManifestFields) → map.get s.known.view (kind.Manifest r image) ≡ Some (manifest fields) → map.get s.known.doubts (kind.Manifest r image) ≡ None → map.get n (key_text (kind.Manifest r image)) ≡ Some (spelling fields)
  manifest_stored r image fields known sure =
      let k : KeyKind = kind.Manifest r image in
      let at : map.get v k ≡ Some (manifest fields) = settles.known k sure ∙ known in
      let has : Has v k = subst (λ (o : Option Held). IsSome o) (sym at) refl in
      let b = held_body k (map.get n (key_text k)) (map.get v k) (manifest fields) at (mirrors.each k (mirrors.kinds k has)) in
      b.1 ∙ ap Some b.2.1

-- the manifest that was put is known, its root isn't deleted, and the root has its chunks
module _ (t s : State) (session : ℕ) (image : List ℕ) (root number : ℕ) (fields : ManifestFields) (may : MayMake t session 0 image root number fields) (parts : HasParts t)
    (left : s ≡ state_made t session image root fields) where
  put_known : map.get s.known.view (kind.Manifest root image) ≡ Some (manifest fields)
  put_known = ap (λ (q : State). map.get q.known.view (kind.Manifest root image)) left ∙ at_key t.known.view (kind.Manifest root image) (manifest fields)

  put_sure : map.get s.known.doubts (kind.Manifest root image) ≡ None
  put_sure = ap (λ (q : State). map.get q.known.doubts (kind.Manifest root image)) left ∙ gone_key t.known.doubts (kind.Manifest root image)

  others : (k : KeyKind) → (k ≡ kind.Manifest root image → ⊥) → map.get s.known.view k ≡ map.get t.known.view k
  others k other = ap (λ (q : State). map.get q.known.view k) left ∙ at_other t.known.view (kind.Manifest root image) (manifest fields) k other

  put_live : Lacks s.known.view (kind.Deleted root)
  put_live = others (kind.Deleted root) (λ e. cc) ∙ (parts.sessions session (record { caller = 0; job = JobCreates image root number }) root may.session refl).1

  put_whole : IsComplete s.known.view root fields
  put_whole = All-from_recursion (λ (q : Name). Has s.known.view (kind.Chunk root q.bytes)) fields.names
      (all_of (λ (q : Name). Has s.known.view (kind.Chunk root q.bytes)) fields.names
      (λ name c. subst (λ (o : Option Held). IsSome o) (sym (others (kind.Chunk root name.bytes) (λ e. cc))) (All-contains (λ (q : Name). Has t.known.view (kind.Chunk root q.bytes)) fields.names name may.whole c)))

some_manifest : (x y : ManifestFields) → manifest x ≡ manifest y → x ≡ y
some_manifest x y e = ap fields_in e
  where
    fields_in : Held → ManifestFields
    fields_in (manifest m) = m
    fields_in h = x

cut_padded : (raw padded_bytes bytes : List ℕ) (len : ℕ) → Some padded_bytes ≡ Some (padded raw) → len ≡ length raw → bytes ≡ take len padded_bytes → bytes ≡ raw
cut_padded raw padded_bytes bytes len e l cut =
    let same : padded_bytes ≡ padded raw = some_of padded_bytes (padded raw) e in
    cut ∙ ((λ i. take (l i) (same i)) ∙ take_at raw (replicate (padded_length (length raw) - length raw) 0) (length raw) refl)

pub fields_names : (tenant : List ℕ) (place : Place) (parts : Parts) → (fields_of tenant place parts).names ≡ parts.names
unfolding manifest_made
fields_names tenant place parts = refl

pub fields_raw : (tenant : List ℕ) (place : Place) (parts : Parts) → (fields_of tenant place parts).raw_len ≡ parts.raw_len
unfolding manifest_made
fields_raw tenant place parts = refl

pieces_denoted : (tenant : List ℕ) (place : Place) (final : Parts) (names : List Name) (pieces : List (List ℕ)) (strings : List (List ℕ)) (body : List ℕ → Option (List ℕ)) → DenotesItsParts
    → final.raw_len ≡ length (joined pieces) → final.names ≡ names → final.keys ≡ each (sealed_key place.salt) pieces → ArePieces 0 pieces → AreNames place.salt names pieces
    → HaveDistinctDigests strings → ((x : List ℕ) → Contains (each (sealed_bytes place.salt) pieces) x → Contains strings x) → AllByRecursion (HasBody strings body) final.names
    → denotation (fields_of tenant place final) tenant body ≡ Some (padded (joined pieces))
pieces_denoted tenant place final names pieces strings body law raw named keys are sealed apart all bodies =
    let kept = are_kept place.salt strings body names pieces apart all (subst (AllByRecursion (HasBody strings body)) named bodies) sealed in
    (λ i. denotation (manifest_made (raw i) (named i) (keys i) (nonce_of place) tenant) tenant body)
    ∙ (law (length (joined pieces)) names pieces place.salt (nonce_of place) tenant body kept ∙ ap Some (filled_padded pieces are))

pub creations_are_made : ((start : Start) (log : List LogEntry) → IsStart start → IsRun (first_state start) log → HasParts (state start log))
    → ((start : Start) (m n : Objects) (log : List LogEntry) → LedTo start m log n → HasChunks m → IsSoundStore n)
    → ((start : Start) (m n : Objects) (log : List LogEntry) → LedTo start m log n → KeepsStore start log n) → DenotesItsParts → CreationsAreMade
creations_are_made promise sound keeps law start m n before log image tenant pieces steps root led had g (reply, first, tail, are, (is, answers), after) =
    let first_of = began_of tenant (each piece pieces ++ last ∷ []) root reply tail after in
    made_of first_of.0 first_of.1 first_of.2 first_of.3 first_of.4 first_of.5
  where
    made_of : (session r : ℕ) (salt : List ℕ) (number : ℕ) → reply ≡ began session r salt number → Puts tenant (place_of session r salt number) no_parts (each piece pieces ++ last ∷ []) tail (with_root root) → IsMade (state start log) n image tenant root pieces steps
    made_of session r salt number reply_is puts =
        let place : Place = place_of session r salt number in
        let one : first ≡ step (begins image) (began session r salt number) = is ∙ ap (λ q. step (begins image) q) reply_is in
        let all : steps ≡ step (begins image) (began session r salt number) ∷ tail = are ∙ ap (λ q. q ∷ tail) one in
        let f = first_entry g.own (step (begins image) (began session r salt number)) (logged tail) (g.steps_of ∙ ap logged all) in
        let whole : log ≡ before ++ f.0 ∷ f.1 = g.after ∙ ap (λ l. before ++ l) f.2 in
        let s : State = run (first_state start) before in
        let runs : IsRun (first_state start) (before ++ f.0 ∷ f.1) = subst (IsRun (first_state start)) whole (leads_run (first_state start) m log n led.leads) in
        let here : IsRun s (f.0 ∷ f.1) = run_rest (first_state start) before (f.0 ∷ f.1) runs in
        let by : AllByRecursion (λ e. e.caller ≡ 0) (f.0 ∷ f.1) = subst (AllByRecursion (λ e. e.caller ≡ 0)) f.2 g.callers in
        let holds : Holds (after_entry s f.0) session 0 (JobCreates image r number) = first_began s f.0 image session r salt number here.0 here.1 by.0 f.3 here.2 here.3 in
        let e = ends tenant image place root r number pieces (after_entry s f.0) no_parts f.1 tail holds by.1 here.4 f.4 puts in
        let fields : ManifestFields = fields_of tenant place e.final in
        let t : State = run (after_entry s f.0) e.front in
        let until : log ≡ (before ++ f.0 ∷ e.front) ++ e.e ∷ [] = whole ∙ (ap (λ l. before ++ f.0 ∷ l) e.split ∙ sym (append_assoc before (f.0 ∷ e.front) (e.e ∷ []))) in
        let front_runs : IsRun (first_state start) (before ++ f.0 ∷ e.front) = run_front (first_state start) (before ++ f.0 ∷ e.front) (e.e ∷ []) (subst (IsRun (first_state start)) until (leads_run (first_state start) m log n led.leads)) in
        let front_is : state start (before ++ f.0 ∷ e.front) ≡ t = fold-append after_entry (first_state start) before (f.0 ∷ e.front) in
        let parts : HasParts t = subst HasParts front_is (promise start (before ++ f.0 ∷ e.front) led.begun front_runs) in
        let left : state start log ≡ state_made t session image root fields = ap (state start) whole ∙ (fold-append after_entry (first_state start) before (f.0 ∷ f.1) ∙ e.left) in
        let k = keeps start m n log led in
        let now : State = state start log in
        let kept : HasParts now = promise start log led.begun (leads_run (first_state start) m log n led.leads) in
        let chunks : HasChunks n = (sound start m n log led had).1 in
        let long : e.final.raw_len ≡ length (joined pieces) = omega (arith, e.raw) in
        let known = put_known t now session image root e.number fields e.may parts left in
        record {
          session = session;
          salt = salt;
          number = number;
          tail = tail;
          begun = all_at session r salt number all e.root_is;
          manifest = fields;
          stored = manifest_stored now kept n k.0 k.1 k.2 chunks root image fields known (put_sure t now session image root e.number fields e.may parts left);
          raw_len = fields_raw tenant place e.final ∙ long;
          denotes = λ strings apart contains all_there.
              pieces_denoted tenant place e.final e.names pieces strings (bodies n root) law long e.names_are e.keys_are e.are e.named apart contains
              (subst (AllByRecursion (HasBody strings (bodies n root))) (fields_names tenant place e.final)
              (bodies_kept now kept n k.0 k.1 k.2 chunks strings root fields all_there (put_live t now session image root e.number fields e.may parts left) (put_whole t now session image root e.number fields e.may parts left)));
          read = λ home p bytes may had strings apart contains all_there.
              let same : p ≡ fields = some_manifest p fields (kept.sound.one_manifest image home root (manifest p) (manifest fields) may.listed known) in
              let listed : map.get now.known.view (kind.Manifest home image) ≡ Some (manifest fields) = may.listed ∙ ap (λ q. Some (manifest q)) same in
              let is = pieces_denoted tenant place e.final e.names pieces strings (bodies n home) law long e.names_are e.keys_are e.are e.named apart contains
              (subst (AllByRecursion (HasBody strings (bodies n home))) (fields_names tenant place e.final)
              (bodies_kept now kept n k.0 k.1 k.2 chunks strings home fields all_there may.home.live.1 (kept.sound.complete image home fields may.home.live listed))) in
              cut_padded (joined pieces) had.padded bytes p.raw_len (sym had.denoted ∙ (ap (λ q. denotation q tenant (bodies n home)) same ∙ is)) (ap (λ (q : ManifestFields). q.raw_len) same ∙ (fields_raw tenant place e.final ∙ long)) had.cut;
        }
      where
        all_at : (session r : ℕ) (salt : List ℕ) (number : ℕ) → steps ≡ step (begins image) (began session r salt number) ∷ tail → root ≡ r → steps ≡ step (begins image) (began session root salt number) ∷ tail
        all_at session r salt number all e = all ∙ ap (λ q. step (begins image) (began session q salt number) ∷ tail) (sym e)

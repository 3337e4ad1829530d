-- an image read back
use Rattle.std.proofs.Common.{◌≡◌, ℕ, zero, suc, ◌+◌, ◌<◌, ◌≤◌, arith, List, [], ◌∷◌, ◌++◌, length, take, drop, ◌-◌, Bool, true, false, Option, Some, None, refl, sym, ap, subst, ◌∙◌, inl, inr, append-nil, append_assoc, length-append}
use Rattle.std.specs.Prelude.{MatchBool, MatchResult, Result, IfOk, IfErr, ◌⊎◌}
use Rattle.std.specs.declared.result.Result.TheVariants.{Ok, Err}
use Rattle.std.specs.List.{slice_get}
use Rattle.std.specs.Arc.{arc_value}
use Rattle.std.specs.declared.sync.Arc.{Arc}
use Rattle.std.specs.declared.alloc.Global.{Global}
use Rattle.std.specs.FinMap as map
use Rattle.std.proofs.lemmas.List.Sums.{fold-append}
use Rattle.std.proofs.lemmas.List.{take-take}
use Rattle.std.proofs.lemmas.Option.{slice_get_within}
use Rattle.sha2.specs.Sha256.{sha256}
use Rattle.lr_spec.specs.Rose.{Rose}
use Rattle.lr_spec.specs.Told.{Told}
use Rattle.lr_manifest.specs.declared.chunk.Chunk.{Chunk as Body}
use Rattle.lr_manifest.specs.declared.name.Name.{Name}
use Rattle.lr_manifest.specs.Manifest.{ManifestFields, IsManifest}
use Rattle.lr_layout.specs.Padded.{padded_length}
use Rattle.lr_convergent.specs.Sealed.{chunk_text}
use Rattle.lr_seal.specs.Table.{HasTag, key_list, rows_of}
use Rattle.lr_seal.specs.Denotation.{plain_of, both, opened as opened_body, cut, denotation, IsDenotedByTag}
use Rattle.lr_origin.specs.Objects.{Objects}
use Rattle.lr_origin.specs.Text.{key_text}
use Rattle.lr_origin.specs.declared.key.KeyKind.{KeyKind}
use Rattle.lr_origin.specs.declared.key.KeyKind.TheVariants as kind
use Rattle.lr_roots.specs.View.{View}
use Rattle.lr_roots.specs.Roots.{IsHome}
use Rattle.lr_rules.specs.State.{State}
use Rattle.lr_rules.specs.Calls.{MayOpen, opened as state_opened}
use Rattle.lr_rules.proofs.Facts.{home_unique}
use Rattle.lr_rules.proofs.Keys.{at_n}
use Rattle.lr_depot.specs.declared.call.DepotCall.{DepotCall}
use Rattle.lr_depot.specs.declared.call.DepotCall.TheVariants.{OpenImage, Fetch, Close}
use Rattle.lr_depot.specs.declared.call.DepotNoted.{DepotNoted}
use Rattle.lr_depot.specs.declared.call.DepotNoted.TheVariants as noted
use Rattle.lr_depot.specs.declared.call.DepotTold.{DepotTold}
use Rattle.lr_depot.specs.declared.call.DepotTold.TheVariants as told
use Rattle.lr_depot.specs.declared.call.DepotReply.{DepotReply}
use Rattle.lr_depot.specs.declared.call.DepotReply.TheVariants.{NoImage, Opened, NoLease, NoChunk, Fetched, Fault, Spoiled, OutOfMemory}
use Rattle.lr_depot.specs.Machine.{LogEntry, DepotStep, Enters, IsFetch, IsShared, IsSharedEntry, IsTold, is_logged, state_after, after_entry, run}
use Rattle.lr_depot.specs.Store.{StoreStep, IsFault}
use Rattle.lr_depot.specs.Begun.{Start}
use Rattle.lr_depot.specs.Depot.{Seen, state}
use Rattle.lr_walk.specs.Depot.{Step, step, Reply, fetched, opened, memory, fetches, opens, closes, seen_call, seen_reply}
use Rattle.lr_walk.specs.Walk.{Then}
use Rattle.lr_walk.proofs.Depot.{answers_by_table}
use Rattle.lr_images.specs.declared.reading.CatError.{CatError}
use Rattle.lr_images.specs.declared.reading.CatError.TheVariants as error
use Rattle.lr_images.specs.Drive.{Calls}
use Rattle.lr_images.specs.Cat.{Ending, with_bytes, with_reply, with_wrong_key, with_memory, Cats, Fetches, ReadsLease, Closes, error_end, end_of, texts, bodies, IsChunkOf, AreChunksOf, IsFetched, AreBodies, Denotes, IsReadOf, IsRead, IsStoreAnswer, IsLeaseAnswer, IsUnsealed, IsRefusal, IsStoreFault, Keeps, HasTexts, HasFetched}
use Rattle.lr_images.proofs.Calling.{Logs, calls_none, calls_one, calls_on, rose_later, rose_before}

some_of : {A : Type 0} (x y : A) → Some x ≡ Some y → x ≡ y
some_of x y e = cc

some_none : {A : Type 0} (x : A) → Some x ≡ None → ⊥
some_none x e = cc

-- ---- a fetch

-- what a call noted so leaves of the state, where each reply to it leaves it
fetch_entry : (s : State) (c lease index : ℕ) (call : DepotNoted) (reply : DepotTold) → call ≡ noted.Fetch lease index → state_after s c call reply ≡ s
fetch_entry s c lease index call reply e = ap (λ q. state_after s c q reply) e

run_one : (s : State) (log : List LogEntry) (e : LogEntry) → run s (log ++ e ∷ []) ≡ after_entry (run s log) e
run_one s log e = fold-append after_entry s log (e ∷ [])

fetch_state_at : (b : Bool) (s : State) (lease index : ℕ) (reply : DepotReply) (log after : List LogEntry) → Logs b (Fetch lease index) reply log after → run s after ≡ run s log
fetch_state_at true s lease index reply log after (entry, grew, caller, enters, shared) =
    ap (run s) grew ∙ (run_one s log entry ∙ fetch_entry (run s log) entry.caller lease index entry.call entry.reply enters.noted)
fetch_state_at false s lease index reply log after same = ap (run s) same

pub fetch_state : (start other : Start) (lease index : ℕ) (reply : DepotReply) (log after : List LogEntry) → other ≡ start → Logs (is_logged reply) (Fetch lease index) reply log after → state other after ≡ state start log
fetch_state start other lease index reply log after e logs = ap (λ q. state q after) e ∙ fetch_state_at (is_logged reply) (state start []) lease index reply log after logs

fetch_store : (s : State) (c lease index : ℕ) (reply : DepotReply) (m : Objects) (n : Option Objects) → StoreStep s c (Fetch lease index) reply m n → n ≡ Some m
fetch_store s c lease index (Fetched chunk) m n h = h.0
fetch_store s c lease index (Spoiled k) m n h = h.0
fetch_store s c lease index reply m n h = h

pub fetch_keeps : {O : Type 0} (objects : O → Option Objects) (old new : Seen O) (lease index : ℕ) (reply : DepotReply) → new.start ≡ old.start → Logs (is_logged reply) (Fetch lease index) reply old.log new.log
    → Told (objects old.origin) (λ m. StoreStep (state old.start old.log) 0 (Fetch lease index) reply m (objects new.origin)) → Keeps objects old new
fetch_keeps objects old new lease index reply start logs stored =
    record {
      same_state = fetch_state old.start new.start lease index reply old.log new.log start logs;
      same_objects = λ m e. fetch_store (state old.start old.log) 0 lease index reply m (objects new.origin) (stored m e);
    }

pub keeps_none : {O : Type 0} (objects : O → Option Objects) (d : Seen O) → Keeps objects d d
keeps_none objects d = record { same_state = refl; same_objects = λ m e. e }

pub keeps_on : {O : Type 0} (objects : O → Option Objects) (a b c : Seen O) → Keeps objects a b → Keeps objects b c → Keeps objects a c
keeps_on objects a b c g h = record { same_state = h.same_state ∙ g.same_state; same_objects = λ m e. h.same_objects m (g.same_objects m e) }

chunk_name : (r q : ℕ) (x y : List ℕ) → kind.Chunk r x ≡ kind.Chunk q y → x ≡ y
chunk_name r q x y e = cc

pub is_fetched : (objects : Option Objects) (s : State) (lease index : ℕ) (chunk : Arc Body Global) (after : Option Objects)
    → DepotStep s 0 (Fetch lease index) (Fetched chunk) → Told objects (λ m. StoreStep s 0 (Fetch lease index) (Fetched chunk) m after) → IsFetched objects s lease index (arc_value chunk)
is_fetched objects s lease index chunk after (r, f) stored = λ image m out.
    let same : ◌≡◌ {A = List ℕ × ManifestFields} (f.image, f.manifest) (image, m) = some_of {A = List ℕ × ManifestFields} (f.image, f.manifest) (image, m) (sym f.out ∙ out) in
    let named : slice_get m.names index ≡ Some f.name = subst (λ (q : List ℕ × ManifestFields). slice_get q.1.names index ≡ Some f.name) same f.named in
    (f.name, named, record { digest = chunk_name r f.home (sha256 (arc_value chunk)) f.name.bytes f.key; stored = at image m f.name out named })
  where
    at : (image : List ℕ) (m : ManifestFields) (name : Name) → map.get s.desk.leases lease ≡ Some (image, m) → slice_get m.names index ≡ Some name
        → Told objects (λ o. (home : ℕ) → IsHome s.known.view image home → bodies o home name.bytes ≡ Some (arc_value chunk))
    at image m name out named = λ o e home homed.
        let h = stored o e in
        let k : IsFetch s lease index h.1.0 = h.1.1 in
        let same : ◌≡◌ {A = List ℕ × ManifestFields} (k.image, k.manifest) (image, m) = some_of {A = List ℕ × ManifestFields} (k.image, k.manifest) (image, m) (sym k.out ∙ out) in
        let this : k.name ≡ name = some_of k.name name (sym (subst (λ (q : List ℕ × ManifestFields). slice_get q.1.names index ≡ Some k.name) same k.named) ∙ named) in
        let there : IsHome s.known.view image k.home = subst (λ (q : List ℕ × ManifestFields). IsHome s.known.view q.0 k.home) same k.homed in
        let one : k.home ≡ home = home_unique s.known.view image k.home home there homed in
        let key : h.1.0 ≡ kind.Chunk home name.bytes = k.key ∙ (λ i. kind.Chunk (one i) ((this i).bytes)) in
        ap (λ q. map.get o (key_text q)) (sym key) ∙ h.1.3

-- ---- how a fetch ends

abbrev IsGiven : DepotReply → Type 0
IsGiven (Fetched chunk) = Unit {0}
IsGiven OutOfMemory = Unit {0}
IsGiven reply = ⊥

pub not_given : (reply : DepotReply) → ((chunk : Arc Body Global) → reply ≡ Fetched chunk → ⊥) → (reply ≡ OutOfMemory → ⊥) → IsGiven reply → ⊥
not_given (Fetched chunk) f g h = f chunk refl
not_given OutOfMemory f g h = g refl
not_given reply f g h = h

pub fetch_ends : (s : State) (lease index : ℕ) (reply : DepotReply) → DepotStep s 0 (Fetch lease index) reply → (IsGiven reply → ⊥)
    → (left : ℕ) → Fetches lease (suc left) index (step (fetches lease index) (seen_reply reply) ∷ []) (with_reply (seen_reply reply))
fetch_ends s lease index NoLease d n left = inl (seen_reply NoLease, step (fetches lease index) (seen_reply NoLease), [], refl, (refl, tt), (refl, refl))
fetch_ends s lease index NoChunk d n left = inl (seen_reply NoChunk, step (fetches lease index) (seen_reply NoChunk), [], refl, (refl, tt), (refl, refl))
fetch_ends s lease index (Fault k) d n left = inl (seen_reply (Fault k), step (fetches lease index) (seen_reply (Fault k)), [], refl, (refl, tt), (refl, refl))
fetch_ends s lease index (Spoiled k) d n left = inl (seen_reply (Spoiled k), step (fetches lease index) (seen_reply (Spoiled k)), [], refl, (refl, tt), (refl, refl))
fetch_ends s lease index (Fetched chunk) d n left = absurd (n tt)
fetch_ends s lease index OutOfMemory d n left = absurd (n tt)
fetch_ends s lease index reply d n left = absurd d

pub fetch_memory : (lease index left : ℕ) → Fetches lease (suc left) index (step (fetches lease index) memory ∷ []) with_memory
fetch_memory lease index left = inl (memory, step (fetches lease index) memory, [], refl, (refl, tt), (refl, refl))

pub short_fetches : (lease left index : ℕ) → Fetches lease left index [] with_memory
short_fetches lease zero index = inr (refl, refl)
short_fetches lease (suc left) index = inr (refl, refl)

fetch_first : (lease left index : ℕ) (name : List ℕ) (tail : List Step) (end : Ending) → Fetches lease left (index + 1) tail end → Fetches lease (suc left) index (step (fetches lease index) (fetched name) ∷ tail) end
fetch_first lease left index name tail end more = inl (fetched name, step (fetches lease index) (fetched name), tail, refl, (refl, tt), more)

pub fetch_short : (lease index : ℕ) (name : List ℕ) (own : List Step) → own ≡ step (fetches lease index) (fetched name) ∷ [] → (left : ℕ) → Fetches lease (suc left) index own with_memory
fetch_short lease index name own e left =
    subst (λ (l : List Step). Fetches lease (suc left) index l with_memory) (sym e) (fetch_first lease left index name [] with_memory (short_fetches lease left (index + 1)))

none_past : (xs : List Name) (i : ℕ) → i < length xs → slice_get xs i ≡ None → ⊥
none_past [] i h e = absurd (omega (arith, h))
none_past (x ∷ xs) zero h e = cc
none_past (x ∷ xs) (suc i) h e = none_past xs i (omega (arith, h)) e

pub fetch_answer : (s : State) (lease index : ℕ) (reply : DepotReply) → DepotStep s 0 (Fetch lease index) reply → (IsGiven reply → ⊥)
    → (image : List ℕ) (m : ManifestFields) → map.get s.desk.leases lease ≡ Some (image, m) → index < length m.names → IsStoreAnswer (error.Refused reply)
fetch_answer s lease index NoLease d n image m out less = absurd (some_none {A = List ℕ × ManifestFields} (image, m) (sym out ∙ d))
fetch_answer s lease index NoChunk (other, p, there, none) n image m out less =
    let same : ◌≡◌ {A = List ℕ × ManifestFields} (other, p) (image, m) = some_of {A = List ℕ × ManifestFields} (other, p) (image, m) (sym there ∙ out) in
    absurd (none_past m.names index less (subst (λ (q : List ℕ × ManifestFields). slice_get q.1.names index ≡ None) same none))
fetch_answer s lease index (Fault k) d n image m out less = tt
fetch_answer s lease index (Spoiled k) d n image m out less = tt
fetch_answer s lease index (Fetched chunk) d n image m out less = absurd (n tt)
fetch_answer s lease index OutOfMemory d n image m out less = absurd (n tt)
fetch_answer s lease index reply d n image m out less = absurd d

pub store_fault : (reply : DepotReply) → IsStoreFault (error.Refused reply) → IsFault reply
store_fault (Fault k) h = tt
store_fault reply h = absurd h

-- ---- many fetches

texts_more : (keys chunks : List (List ℕ)) (key chunk : List ℕ) → slice_get keys (length chunks) ≡ Some key → texts keys (chunks ++ chunk ∷ []) ≡ texts keys chunks ++ chunk_text key chunk
texts_more [] [] key chunk e = absurd (cc)
texts_more (k ∷ keys) [] key chunk e = let same : k ≡ key = some_of k key e in append-nil (chunk_text k chunk) ∙ ap (λ q. chunk_text q chunk) same
texts_more [] (c ∷ chunks) key chunk e = absurd (cc)
texts_more (k ∷ keys) (c ∷ chunks) key chunk e = ap (λ (l : List ℕ). chunk_text k c ++ l) (texts_more keys chunks key chunk e) ∙ sym (append_assoc (chunk_text k c) (texts keys chunks) (chunk_text key chunk))

-- each element of a list with one more is of the list, or it is that one
last_or : (xs : List (List ℕ)) (y : List ℕ) (i : ℕ) (x : List ℕ) → slice_get (xs ++ y ∷ []) i ≡ Some x → (slice_get xs i ≡ Some x) ⊎ ((i ≡ length xs) × (x ≡ y))
last_or [] y zero x e = inr (refl, sym (some_of y x e))
last_or [] y (suc i) x e = absurd (cc)
last_or (z ∷ xs) y zero x e = inl e
last_or (z ∷ xs) y (suc i) x e = by (last_or xs y i x e)
  where
    by : (slice_get xs i ≡ Some x) ⊎ ((i ≡ length xs) × (x ≡ y)) → (slice_get (z ∷ xs) (suc i) ≡ Some x) ⊎ ((suc i ≡ length (z ∷ xs)) × (x ≡ y))
    by (inl h) = inl h
    by (inr h) = inr (ap suc h.0, h.1)

chunks_more : (objects : Option Objects) (view : View) (image : List ℕ) (names : List Name) (chunks : List (List ℕ)) (chunk : List ℕ) → AreChunksOf objects view image names chunks
    → ((name : Name) × (slice_get names (length chunks) ≡ Some name) × IsChunkOf objects view image name chunk) → AreChunksOf objects view image names (chunks ++ chunk ∷ [])
chunks_more objects view image names chunks chunk all one = λ i x e. by i x (last_or chunks chunk i x e)
  where
    by : (i : ℕ) (x : List ℕ) → (slice_get chunks i ≡ Some x) ⊎ ((i ≡ length chunks) × (x ≡ chunk)) → (name : Name) × (slice_get names i ≡ Some name) × IsChunkOf objects view image name x
    by i x (inl h) = all i x h
    by i x (inr h) = (one.0, ap (slice_get names) h.0 ∙ one.1, subst (λ q. IsChunkOf objects view image one.0 q) (sym h.1) one.2)

pub fetched_none : {O : Type 0} (objects : O → Option Objects) (faults : O → ℕ) (d : Seen O) (lease : ℕ) (keys : List (List ℕ)) (bytes : List ℕ) → bytes ≡ [] → HasFetched objects faults d lease keys 0 d bytes
fetched_none objects faults d lease keys bytes e =
    record {
      steps = [];
      calls = calls_none faults d;
      walk = λ left same tail end f. let is : left ≡ length keys = omega (arith, same) in subst (λ q. Fetches lease q 0 tail end) is f;
      keeps = keeps_none objects d;
      texts = λ image m out. ([], refl, (λ i chunk none. absurd (cc)), e);
    }

texts_on : {O : Type 0} (objects : O → Option Objects) (old now : Seen O) (lease index : ℕ) (keys : List (List ℕ)) (key : List ℕ) (bytes after chunk : List ℕ) → Keeps objects old now → slice_get keys index ≡ Some key
    → HasTexts (objects old.origin) (state old.start old.log) lease keys index bytes → after ≡ bytes ++ chunk_text key chunk
    → IsFetched (objects now.origin) (state now.start now.log) lease index chunk → HasTexts (objects old.origin) (state old.start old.log) lease keys (index + 1) after
texts_on objects old now lease index keys key bytes after chunk keeps at h e f = λ image m out.
    let had = h image m out in
    let here : map.get (state now.start now.log).desk.leases lease ≡ Some (image, m) = ap (λ (q : State). map.get q.desk.leases lease) keeps.same_state ∙ out in
    let one = f image m here in
    let key_at : slice_get keys (length had.0) ≡ Some key = ap (slice_get keys) had.1 ∙ at in
    let name_at : slice_get m.names (length had.0) ≡ Some one.0 = ap (slice_get m.names) had.1 ∙ one.1 in (
      had.0 ++ chunk ∷ [],
      length-append had.0 (chunk ∷ []) ∙ ap (λ n. n + 1) had.1,
      chunks_more (objects old.origin) (state old.start old.log).known.view image m.names had.0 chunk had.2 (one.0, name_at, moved image one.0 one.2),
      e ∙ (ap (λ (l : List ℕ). l ++ chunk_text key chunk) had.3 ∙ sym (texts_more keys had.0 key chunk key_at)),
    )
  where
    moved : (image : List ℕ) (name : Name) → IsChunkOf (objects now.origin) (state now.start now.log).known.view image name chunk → IsChunkOf (objects old.origin) (state old.start old.log).known.view image name chunk
    moved image name c = record { digest = c.digest; stored = λ m told home homed. c.stored m (keeps.same_objects m told) home (subst (λ (q : State). IsHome q.known.view image home) (sym keeps.same_state) homed) }

pub fetched_more : {O : Type 0} (objects : O → Option Objects) (faults : O → ℕ) (old now next : Seen O) (lease index : ℕ) (keys : List (List ℕ)) (key : List ℕ) (bytes after : List ℕ) (own : List Step) (name chunk : List ℕ)
    → slice_get keys index ≡ Some key → Calls faults now next own → own ≡ step (fetches lease index) (fetched name) ∷ [] → Keeps objects now next → after ≡ bytes ++ chunk_text key chunk
    → IsFetched (objects now.origin) (state now.start now.log) lease index chunk → HasFetched objects faults old lease keys index now bytes → HasFetched objects faults old lease keys (index + 1) next after
fetched_more objects faults old now next lease index keys key bytes after own name chunk at calls is keeps e f h =
    record {
      steps = h.steps ++ own;
      calls = calls_on faults old now next h.steps own h.calls calls;
      walk = λ left same tail end more.
          subst (λ (l : List Step). Fetches lease (length keys) 0 l end) (ap (λ (l : List Step). h.steps ++ (l ++ tail)) (sym is) ∙ sym (append_assoc h.steps own tail))
          (h.walk (suc left) (omega (arith, same)) (step (fetches lease index) (fetched name) ∷ tail) end (fetch_first lease left index name tail end more));
      keeps = keeps_on objects old now next h.keeps keeps;
      texts = texts_on objects old now lease index keys key bytes after chunk h.keeps at h.texts e f;
    }

pub fetched_all : {O : Type 0} (objects : O → Option Objects) (faults : O → ℕ) (old now : Seen O) (lease index : ℕ) (keys : List (List ℕ)) (bytes : List ℕ) → index ≡ length keys → (h : HasFetched objects faults old lease keys index now bytes)
    → Fetches lease (length keys) 0 h.steps with_bytes
fetched_all objects faults old now lease index keys bytes e h =
    subst (λ (l : List Step). Fetches lease (length keys) 0 l with_bytes) (append-nil h.steps) (h.walk 0 (omega (arith, e)) [] with_bytes (inl (refl, refl)))

pub texts_all : {O : Type 0} (objects : O → Option Objects) (faults : O → ℕ) (old now : Seen O) (lease index : ℕ) (keys : List (List ℕ)) (bytes : List ℕ) → index ≡ length keys → HasFetched objects faults old lease keys index now bytes
    → HasTexts (objects old.origin) (state old.start old.log) lease keys (length keys) bytes
texts_all objects faults old now lease index keys bytes e h = subst (λ n. HasTexts (objects old.origin) (state old.start old.log) lease keys n bytes) e h.texts

pub fetched_until : {O : Type 0} (objects : O → Option Objects) (faults : O → ℕ) (old now : Seen O) (lease index : ℕ) (keys : List (List ℕ)) (bytes : List ℕ) (own : List Step) (end : Ending) → index < length keys
    → ((left : ℕ) → Fetches lease (suc left) index own end) → (h : HasFetched objects faults old lease keys index now bytes) → Fetches lease (length keys) 0 (h.steps ++ own) end
fetched_until objects faults old now lease index keys bytes own end less ends h =
    let left : ℕ = length keys - index - 1 in
    subst (λ (l : List Step). Fetches lease (length keys) 0 (h.steps ++ l) end) (append-nil own)
    (h.walk (suc left) (omega (arith, less)) (own ++ []) end (subst (λ (l : List Step). Fetches lease (suc left) index l end) (sym (append-nil own)) (ends left)))

pub out_now : {O : Type 0} (objects : O → Option Objects) (old now : Seen O) (lease : ℕ) (image : List ℕ) (m : ManifestFields) → Keeps objects old now → map.get (state old.start old.log).desk.leases lease ≡ Some (image, m)
    → map.get (state now.start now.log).desk.leases lease ≡ Some (image, m)
out_now objects old now lease image m keeps out = ap (λ (q : State). map.get q.desk.leases lease) keeps.same_state ∙ out

-- ---- the keys

rows_length : (n : ℕ) (bytes : List ℕ) → length (rows_of n bytes) ≡ n
unfolding rows_of
rows_length zero bytes = refl
rows_length (suc n) bytes = ap suc (rows_length n (drop 32 bytes))

pub key_count : (m : ManifestFields) (tenant : List ℕ) → IsManifest m → length (key_list m tenant) ≡ length m.names
unfolding key_list
key_count m tenant is = rows_length (length m.sealed) _ ∙ is.keys

pub few_keys : (m : ManifestFields) (keys : List (List ℕ)) → IsManifest m → length keys ≡ length m.names → length keys ≤ 20480
few_keys m keys is e = omega (arith, e, is.count, is.raw_len)

-- ---- what is denoted

plain_texts : (body : List ℕ → Option (List ℕ)) (names : List Name) (keys chunks : List (List ℕ)) → length chunks ≡ length names → length keys ≡ length names → AreBodies body names chunks → plain_of body names keys ≡ Some (texts keys chunks)
unfolding plain_of
plain_texts body [] keys [] a b h = refl
plain_texts body [] keys (c ∷ chunks) a b h = absurd (omega (arith, a))
plain_texts body (n ∷ names) keys [] a b h = absurd (omega (arith, a))
plain_texts body (n ∷ names) [] (c ∷ chunks) a b h = absurd (omega (arith, b))
plain_texts body (n ∷ names) (k ∷ keys) (c ∷ chunks) a b h =
    let here : body n.bytes ≡ Some c = h 0 n c refl refl in
    let rest : plain_of body names keys ≡ Some (texts keys chunks) = plain_texts body names keys chunks (omega (arith, a)) (omega (arith, b)) (λ i name chunk e f. h (suc i) name chunk e f) in
    λ i. both (opened_body k (here i)) (rest i)

pub denotes_texts : (m : ManifestFields) (tenant : List ℕ) (keys chunks : List (List ℕ)) (bytes : List ℕ) → IsDenotedByTag → HasTag m tenant → keys ≡ key_list m tenant → length keys ≡ length m.names → length chunks ≡ length m.names
    → bytes ≡ take m.raw_len (texts keys chunks) → (body : List ℕ → Option (List ℕ)) → AreBodies body m.names chunks → Denotes m tenant body bytes
denotes_texts m tenant keys chunks bytes law tag is count same e body h =
    record {
      padded = take (padded_length m.raw_len) (texts keys chunks);
      denoted = law.right m tenant body tag ∙ ap (λ (l : List (List ℕ)). cut (padded_length m.raw_len) (plain_of body m.names l)) (sym is)
          ∙ ap (cut (padded_length m.raw_len)) (plain_texts body m.names keys chunks same count h);
      cut = e ∙ sym (take-take m.raw_len (padded_length m.raw_len) (texts keys chunks) (omega arith));
    }

pub is_read_of : (objects : Option Objects) (s : State) (lease : ℕ) (image : List ℕ) (m : ManifestFields) (tenant : List ℕ) (keys : List (List ℕ)) (text bytes : List ℕ) → IsDenotedByTag → HasTag m tenant → keys ≡ key_list m tenant
    → length keys ≡ length m.names → HasTexts objects s lease keys (length keys) text → bytes ≡ take m.raw_len text → map.get s.desk.leases lease ≡ Some (image, m) → IsReadOf objects s.known.view image tenant m bytes
is_read_of objects s lease image m tenant keys text bytes law tag is count texts_had cut out =
    let h = texts_had image m out in
    let same : length h.0 ≡ length m.names = h.1 ∙ count in
    record {
      chunks = h.0;
      count = same;
      named = h.2;
      over = denotes_texts m tenant keys h.0 bytes law tag is count same (cut ∙ ap (take m.raw_len) h.3);
    }

-- ---- the lease is closed

pub close_after : (tenant : List ℕ) (lease : ℕ) (m : ManifestFields) (own : List Step) (end : Ending) (s : State) (reply : DepotReply) → DepotStep s 0 (Close lease) reply → ReadsLease tenant lease m own end
    → Then (ReadsLease tenant lease m) (Closes lease) (own ++ step (closes lease) (seen_reply reply) ∷ []) end
close_after tenant lease m own end s reply d reads =
    (own, step (closes lease) (seen_reply reply) ∷ [], end, refl, reads, (seen_reply reply, step (closes lease) (seen_reply reply), [], refl, (refl, answers_by_table s 0 (Close lease) reply d), (refl, refl)))

pub close_store : (s : State) (lease : ℕ) (reply : DepotReply) (m : Objects) (n : Option Objects) → StoreStep s 0 (Close lease) reply m n → n ≡ Some m
close_store s lease reply m n h = h

-- ---- the image is leased

opened_entry : (s : State) (c : ℕ) (image : List ℕ) (call : DepotNoted) (reply : DepotTold) (lease : ℕ) (m : Arc ManifestFields Global) → call ≡ noted.OpenImage image → IsTold (Opened lease m) reply → state_after s c call reply ≡ state_opened s image (arc_value m)
opened_entry s c image call (told.Opened other n) lease m e t = ap (λ q. state_after s c q (told.Opened other n)) e ∙ ap (λ q. state_opened s image q) t.1
opened_entry s c image call reply lease m e t = absurd t

pub opened_state : (start other : Start) (image : List ℕ) (lease : ℕ) (m : Arc ManifestFields Global) (log after : List LogEntry) → other ≡ start → Logs true (OpenImage image) (Opened lease m) log after → state other after ≡ state_opened (state start log) image (arc_value m)
opened_state start other image lease m log after same (entry, grew, caller, enters, shared) =
    ap (λ q. state q after) same ∙ (ap (state start) grew ∙ (run_one (state start []) log entry ∙ opened_entry (state start log) entry.caller image entry.call entry.reply lease m enters.noted enters.told))

pub leased : (s now : State) (image : List ℕ) (m : ManifestFields) (lease : ℕ) → now ≡ state_opened s image m → lease ≡ s.desk.next_lease → map.get now.desk.leases lease ≡ Some (image, m)
leased s now image m lease e at = ap (λ (q : State). map.get q.desk.leases lease) e ∙ (ap (map.get (state_opened s image m).desk.leases) at ∙ at_n s.desk.leases s.desk.next_lease (image, m))

pub same_view : (s now : State) (image : List ℕ) (m : ManifestFields) → now ≡ state_opened s image m → now.known.view ≡ s.known.view
same_view s now image m e = ap (λ (q : State). q.known.view) e

chunk_before : (before now : Option Objects) (view old : View) (image : List ℕ) (name : Name) (chunk : List ℕ) → Told before (λ o. now ≡ Some o) → view ≡ old → IsChunkOf now view image name chunk → IsChunkOf before old image name chunk
chunk_before before now view old image name chunk stays same c =
    record { digest = c.digest; stored = λ o told home homed. c.stored o (stays o told) home (subst (λ (v : View). IsHome v image home) (sym same) homed) }

read_before : (before now : Option Objects) (view old : View) (image tenant : List ℕ) (m : ManifestFields) (bytes : List ℕ) → Told before (λ o. now ≡ Some o) → view ≡ old → IsReadOf now view image tenant m bytes → IsReadOf before old image tenant m bytes
read_before before now view old image tenant m bytes stays same r =
    record {
      chunks = r.chunks;
      count = r.count;
      named = λ i chunk e. let one = r.named i chunk e in (one.0, one.1, chunk_before before now view old image one.0 chunk stays same one.2);
      over = r.over;
    }

stored_bodies : (objects : Option Objects) (view : View) (image tenant : List ℕ) (m : ManifestFields) (bytes : List ℕ) (home : ℕ) → IsHome view image home → (r : IsReadOf objects view image tenant m bytes)
    → Told objects (λ o. Denotes m tenant (bodies o home) bytes)
stored_bodies objects view image tenant m bytes home homed r = λ o told.
    r.over (bodies o home)
    (λ i name chunk at there.
    let one = r.named i chunk there in
    let same : one.0 ≡ name = some_of one.0 name (sym one.1 ∙ at) in
    ap (λ (q : Name). bodies o home q.bytes) (sym same) ∙ one.2.stored o told home homed)

pub is_read : {O : Type 0} (objects : O → Option Objects) (old mid : Seen O) (image tenant : List ℕ) (lease : ℕ) (m : ManifestFields) (tail : List Step) (bytes : List ℕ) → (home : ℕ) × MayOpen (state old.start old.log) image home m
    → Told (objects old.origin) (λ o. objects mid.origin ≡ Some o) → (state mid.start mid.log).known.view ≡ (state old.start old.log).known.view
    → IsReadOf (objects mid.origin) (state mid.start mid.log).known.view image tenant m bytes → IsRead objects old image tenant (step (opens image) (opened lease m) ∷ tail) bytes
is_read objects old mid image tenant lease m tail bytes (home, may) stays same r =
    let here = read_before (objects old.origin) (objects mid.origin) (state mid.start mid.log).known.view (state old.start old.log).known.view image tenant m bytes stays same r in
    record {
      lease = lease;
      manifest = m;
      tail = tail;
      leased = refl;
      home = home;
      listed = may;
      read = here;
      stored = stored_bodies (objects old.origin) (state old.start old.log).known.view image tenant m bytes home may.home here;
    }

abbrev IsOpenedOrShort : DepotReply → Type 0
IsOpenedOrShort (Opened lease m) = Unit {0}
IsOpenedOrShort OutOfMemory = Unit {0}
IsOpenedOrShort reply = ⊥

pub not_opened : (reply : DepotReply) → ((lease : ℕ) (m : Arc ManifestFields Global) → reply ≡ Opened lease m → ⊥) → (reply ≡ OutOfMemory → ⊥) → IsOpenedOrShort reply → ⊥
not_opened (Opened lease m) f g h = f lease m refl
not_opened OutOfMemory f g h = g refl
not_opened reply f g h = h

pub open_ends : (s : State) (image tenant : List ℕ) (reply : DepotReply) → DepotStep s 0 (OpenImage image) reply → (IsOpenedOrShort reply → ⊥) → Cats image tenant (step (opens image) (seen_reply reply) ∷ []) (with_reply (seen_reply reply))
open_ends s image tenant NoImage d n = (seen_reply NoImage, step (opens image) (seen_reply NoImage), [], refl, (refl, tt), (refl, refl))
open_ends s image tenant (Opened lease m) d n = absurd (n tt)
open_ends s image tenant OutOfMemory d n = absurd (n tt)
open_ends s image tenant reply d n = absurd d

pub open_refusal : (s : State) (image : List ℕ) (reply : DepotReply) → DepotStep s 0 (OpenImage image) reply → (IsOpenedOrShort reply → ⊥) → IsRefusal s.known.view image (error.Refused reply)
open_refusal s image NoImage d n = d
open_refusal s image (Opened lease m) d n = absurd (n tt)
open_refusal s image OutOfMemory d n = absurd (n tt)
open_refusal s image reply d n = absurd d

pub open_memory : (image tenant : List ℕ) → Cats image tenant (step (opens image) memory ∷ []) with_memory
open_memory image tenant = (memory, step (opens image) memory, [], refl, (refl, tt), (refl, refl))

pub open_goes_on : (image tenant : List ℕ) (lease : ℕ) (m : ManifestFields) (own : List Step) (end : Ending) → Then (ReadsLease tenant lease m) (Closes lease) own end → Cats image tenant (step (opens image) (opened lease m) ∷ own) end
open_goes_on image tenant lease m own end then = (opened lease m, step (opens image) (opened lease m), own, refl, (refl, tt), then)

pub open_store : (s : State) (image : List ℕ) (reply : DepotReply) (m : Objects) (n : Option Objects) → StoreStep s 0 (OpenImage image) reply m n → n ≡ Some m
open_store s image reply m n h = h

pub lease_refusal : (view : View) (image : List ℕ) (e : CatError) → IsLeaseAnswer e → IsRefusal view image e
lease_refusal view image (error.Refused (Fault k)) h = tt
lease_refusal view image (error.Refused (Spoiled k)) h = tt
lease_refusal view image error.Sealed h = tt
lease_refusal view image error.OutOfMemory h = tt
lease_refusal view image (error.Refused reply) h = absurd h

pub store_lease : (e : CatError) → IsStoreAnswer e → IsLeaseAnswer e
store_lease (error.Refused reply) h = h
store_lease error.Sealed h = tt
store_lease error.OutOfMemory h = tt

-- ---- by the answer

pub if_ok : {A E : Type 0} (P Q : A → Type 0) (r : Result A E) → ((x : A) → P x → Q x) → IfOk r P → IfOk r Q
if_ok P Q (Ok x) f p = f x p
if_ok P Q (Err e) f p = p

pub if_err : {A E : Type 0} (P Q : E → Type 0) (r : Result A E) → ((e : E) → P e → Q e) → IfErr r P → IfErr r Q
if_err P Q (Ok x) f p = p
if_err P Q (Err e) f p = f e p

pub short_answer : (e : CatError) → e ≡ error.OutOfMemory → IsStoreAnswer e
short_answer e is = subst IsStoreAnswer (sym is) tt

pub short_fault : (e : CatError) (P : Type 0) → e ≡ error.OutOfMemory → IsStoreFault e → P
short_fault e P is h = absurd (subst IsStoreFault is h)

pub chunk_walk : {A O : Type 0} (faults : O → ℕ) (old new : Seen O) (lease index : ℕ) (name : List ℕ) (own : List Step) (r : Result A CatError) → own ≡ step (fetches lease index) (fetched name) ∷ [] → Calls faults old new own
    → IfErr r (λ e. e ≡ error.OutOfMemory)
    → (own : List Step) × Calls faults old new own × MatchResult r (λ _. (name : List ℕ) × (own ≡ step (fetches lease index) (fetched name) ∷ [])) (λ e. (left : ℕ) → Fetches lease (suc left) index own (error_end e))
chunk_walk faults old new lease index name own (Ok x) is calls short = (own, calls, (name, is))
chunk_walk faults old new lease index name own (Err e) is calls short =
    (own, calls, λ left. subst (λ (q : CatError). Fetches lease (suc left) index own (error_end q)) (sym short) (fetch_short lease index name own is left))

pub unsealed_walk : (tenant : List ℕ) (lease : ℕ) (m : ManifestFields) (e : CatError) → IsUnsealed e m tenant → ReadsLease tenant lease m [] (error_end e)
unsealed_walk tenant lease m (error.Refused reply) h = absurd h
unsealed_walk tenant lease m error.Sealed h = inr (inl (h, (refl, refl)))
unsealed_walk tenant lease m error.OutOfMemory h = inr (inr (refl, refl))

pub unsealed_answer : (m : ManifestFields) (tenant : List ℕ) (e : CatError) → IsUnsealed e m tenant → IsLeaseAnswer e
unsealed_answer m tenant (error.Refused reply) h = absurd h
unsealed_answer m tenant error.Sealed h = tt
unsealed_answer m tenant error.OutOfMemory h = tt

pub unsealed_fault : (m : ManifestFields) (tenant : List ℕ) (e : CatError) (P : Type 0) → IsUnsealed e m tenant → IsStoreFault e → P
unsealed_fault m tenant (error.Refused reply) P h f = absurd h
unsealed_fault m tenant error.Sealed P h f = absurd f
unsealed_fault m tenant error.OutOfMemory P h f = absurd f

pub reads_keys : (tenant : List ℕ) (lease count : ℕ) (m : ManifestFields) (own : List Step) (end : Ending) → HasTag m tenant → count ≡ length m.names → Fetches lease count 0 own end → ReadsLease tenant lease m own end
reads_keys tenant lease count m own end tag is f = inl (tag, subst (λ n. Fetches lease n 0 own end) is f)

-- ---- an image that was leased

module _ {O : Type 0} (objects : O → Option Objects) (faults : O → ℕ) (old mid : Seen O) (image tenant : List ℕ) (lease : ℕ) (manifest : Arc ManifestFields Global)
    (start : mid.start ≡ old.start) (logs : Logs true (OpenImage image) (Opened lease manifest) old.log mid.log) (step_is : DepotStep (state old.start old.log) 0 (OpenImage image) (Opened lease manifest)) where
  now_open : state mid.start mid.log ≡ state_opened (state old.start old.log) image (arc_value manifest)
  now_open = opened_state old.start mid.start image lease manifest old.log mid.log start logs

  pub is_leased : map.get (state mid.start mid.log).desk.leases lease ≡ Some (image, arc_value manifest)
  is_leased = leased (state old.start old.log) (state mid.start mid.log) image (arc_value manifest) lease now_open step_is.2

  pub cat_answer : {A : Type 0} (man : ManifestFields) (r : Result A CatError) → man ≡ arc_value manifest
      → IfErr r (λ e. (image : List ℕ) → map.get (state mid.start mid.log).desk.leases lease ≡ Some (image, man) → IsLeaseAnswer e) → IfErr r (IsRefusal (state old.start old.log).known.view image)
  cat_answer {A} man r e h =
      if_err {A = A} {E = CatError} _ (IsRefusal (state old.start old.log).known.view image) r
      (λ error f. lease_refusal (state old.start old.log).known.view image error (f image (is_leased ∙ ap (λ (q : ManifestFields). Some (image, q)) (sym e)))) h

  module _ (never : faults old.origin ≤ faults mid.origin) (stays : Told (objects old.origin) (λ o. objects mid.origin ≡ Some o)) where
    opened_walk : {A : Type 0} (items : A → List ℕ) (new : Seen O) (r : Result A CatError)
        → ((own : List Step) × Calls faults mid new own × Then (ReadsLease tenant lease (arc_value manifest)) (Closes lease) own (end_of r))
        → IfOk r (λ v. (image : List ℕ) → map.get (state mid.start mid.log).desk.leases lease ≡ Some (image, arc_value manifest) → IsReadOf (objects mid.origin) (state mid.start mid.log).known.view image tenant (arc_value manifest) (items v))
        → (steps : List Step) × Calls faults old new steps × Cats image tenant steps (end_of r) × IfOk r (λ v. IsRead objects old image tenant steps (items v))
    opened_walk items new r (own, calls, walk) read = (
      step (opens image) (opened lease (arc_value manifest)) ∷ own,
      calls_on faults old mid new (step (opens image) (opened lease (arc_value manifest)) ∷ []) own (calls_one faults old mid (OpenImage image) (Opened lease manifest) start step_is logs never) calls,
      open_goes_on image tenant lease (arc_value manifest) own (end_of r) walk,
      if_ok _ _ r
          (λ v f.
          is_read objects old mid image tenant lease (arc_value manifest) own (items v) (step_is.0, step_is.1) stays (same_view (state old.start old.log) (state mid.start mid.log) image (arc_value manifest) now_open)
          (f image is_leased))
          read,
    )

    pub cat_walk : {A : Type 0} (items : A → List ℕ) (new : Seen O) (man : ManifestFields) (r : Result A CatError) → man ≡ arc_value manifest
        → ((own : List Step) × Calls faults mid new own × Then (ReadsLease tenant lease man) (Closes lease) own (end_of r))
        → IfOk r (λ v. (image : List ℕ) → map.get (state mid.start mid.log).desk.leases lease ≡ Some (image, man) → IsReadOf (objects mid.origin) (state mid.start mid.log).known.view image tenant man (items v))
        → (steps : List Step) × Calls faults old new steps × Cats image tenant steps (end_of r) × IfOk r (λ v. IsRead objects old image tenant steps (items v))
    cat_walk items new man r e walk read =
        opened_walk items new r (subst (λ (q : ManifestFields). (own : List Step) × Calls faults mid new own × Then (ReadsLease tenant lease q) (Closes lease) own (end_of r)) e walk)
        (subst (λ (q : ManifestFields). IfOk r (λ v. (image : List ℕ) → map.get (state mid.start mid.log).desk.leases lease ≡ Some (image, q) → IsReadOf (objects mid.origin) (state mid.start mid.log).known.view image tenant q (items v))) e read)

-- commands, as the only callers of depots that start
use Rattle.std.specs.Prelude.{drop, ⊤}
use Rattle.std.proofs.Common.{◌≡◌, ◌≤◌, ◌<◌, ◌+◌, ◌^◌, ℕ, zero, suc, List, [], ◌∷◌, ◌++◌, map, length, Some, None, refl, ap, subst, sym, ◌∙◌, inl, inr, arith}
use mathlib.Core.Logic.{◌⊎◌}
use Rattle.std.specs.Int.{w32, w64, from_be_bytes}
use Rattle.std.specs.List.{slice_get}
use Rattle.std.proofs.lemmas.List.Elements.{All-from_recursion, All-nil}
use Rattle.std.proofs.lemmas.Nat.{from_be_bytes-to_be_bytes_4, from_be_bytes-to_be_bytes_8}
use Rattle.std.proofs.lemmas.Option.{slice_get_within}
use Rattle.std.specs.Arc.{arc_value}
use Rattle.std.specs.declared.sync.Arc.{Arc}
use Rattle.std.specs.declared.alloc.Global.{Global}
use Rattle.std.specs.FinMap as fin
use Rattle.std.specs.FinMap.{get-empty}
use Rattle.std.specs.Ordering.{nat_cmp}
use Rattle.lr_spec.specs.Rose.{next_count}
use Rattle.lr_manifest.specs.Manifest.{ManifestFields}
use Rattle.lr_manifest.specs.declared.name.Name.{Name}
use Rattle.lr_seal.specs.Table.{made as manifest_made}
use Rattle.lr_origin.specs.Kind.{kind_cmp}
use Rattle.lr_origin.specs.declared.key.KeyKind.{KeyKind}
use Rattle.lr_origin.specs.declared.key.KeyKind.TheVariants as kind
use Rattle.lr_roots.specs.Names.{number_of}
use Rattle.lr_roots.specs.Sound.{maker_of}
use Rattle.lr_rules.specs.State.{Job, Creates as JobCreates, Moves as JobMoves, State, Holds}
use Rattle.lr_rules.specs.Calls.{MayBegin}
use Rattle.lr_rules.proofs.Keys.{no_some, cases_n}
use Rattle.lr_rules.proofs.Outcomes.{is_some}
use Rattle.lr_depot.specs.declared.call.DepotCall.{DepotCall}
use Rattle.lr_depot.specs.declared.call.DepotCall.TheVariants.{BeginCreate, CopyRead}
use Rattle.lr_depot.specs.declared.call.DepotReply.{DepotReply}
use Rattle.lr_depot.specs.declared.call.DepotReply.TheVariants.{Began, Copied}
use Rattle.lr_depot.specs.declared.call.DepotNoted.{DepotNoted}
use Rattle.lr_depot.specs.declared.call.DepotNoted.TheVariants as noted
use Rattle.lr_depot.specs.declared.call.DepotTold.{DepotTold}
use Rattle.lr_depot.specs.declared.call.DepotTold.TheVariants as told
use Rattle.lr_depot.specs.Machine.{LogEntry, DepotStep, state_after, after_entry}
use Rattle.lr_depot.specs.Store.{IsRun}
use Rattle.lr_depot.specs.Begun.{Start}
use Rattle.lr_depot.specs.Depot.{IsStart, first_state}
use Rattle.lr_depot.proofs.Lasting.{last_begins}
use Rattle.lr_walk.specs.Walk.{Walks, Ends, Then}
use Rattle.lr_walk.specs.Depot.{Call, Step, logged, Reply, opens, fetches, closes, begins, puts_chunk, puts_manifest, begins_move, copies, finishes_move, sweeps, memory, nothing, no_image, no_lease, no_chunk, no_root, taken, full, doubt, no_session, kept, began, fetched, fault, spoiled, copied, overtaken, not_retired_home, roots_end, rotated, withdrawn, not_retired, serves, session_on, expired, not_expired, deleted, not_deleted, removed, swept, seen_call, seen_noted, seen_reply, seen_told, Answers, Asks}
use Rattle.lr_walk.proofs.Depot.{entry_step}
use Rattle.lr_creator.specs.declared.create.Place.{Place}
use Rattle.lr_creator.specs.Creation as creating
use Rattle.lr_creator.specs.Creation.{Input, piece, last, Parts, no_parts, with_piece, place_of, nonce_of, fields_of, LeavesEarly, Finishes, Puts, after_manifest, after_chunk, after_begin, Creates}
use Rattle.lr_images.specs.declared.created.Created.{Created}
use Rattle.lr_images.specs.declared.created.Created.TheVariants as by
use Rattle.lr_images.specs.Created.{IsAnswer}
use Rattle.lr_images.specs.Cat as cat
use Rattle.lr_images.proofs.Made.{call_begin, call_manifest}
use Rattle.lr_collector.specs.declared.collect.CollectJob.{CollectJob}
use Rattle.lr_collector.specs.declared.collect.CollectJob.TheVariants as job
use Rattle.lr_collector.specs.Collection as collecting
use Rattle.lr_migrator.specs.Migration as moves
use Rattle.lr_desk.specs.declared.outcome.Outcome.{Outcome}
use Rattle.lr_desk.specs.declared.outcome.Outcome.TheVariants.{Memory}
use Rattle.lr_desk.specs.declared.words.Command.TheVariants as command
use Rattle.lr_desk.specs.Drive.{GoesOn}
use Rattle.lr_desk.specs.Ends.{outcome_of, outcome_at, outcome_moved, failure, outcome_made, outcome_read, Setting, Collected, Moved, Made, WasRead}
use Rattle.lr_desk.specs.Alone.{ComesAlone, AreAlone, CommandsComeAlone, MemoryIsWanted}
use Rattle.lr_desk.proofs.Imaging.{goes}
use Rattle.lr_desk.proofs.Meeting.{IsSure, Meets, Comes, GoesAlone, alone_ends, alone_asks, alone_leaves, same_fields}
use Rattle.lr_desk.proofs.Keeping.{Works, works_for, alone_puts, fault_holds, fetch_stays, copy_stays, call_finish, move_fault_holds, IsNameBelow}

-- ---- endings

-- an outcome that isn't want of memory
abbrev IsTold : Outcome → Type 0
IsTold Memory = ⊥
IsTold o = ⊤

-- a reply that ends a walk has such an outcome
abbrev IsToldCollection : collecting.Ending → Type 0
IsToldCollection (collecting.with_reply reply) = IsTold (outcome_of reply)
IsToldCollection end = ⊤

abbrev IsToldMove : moves.Ending → Type 0
IsToldMove (moves.with_reply reply) = IsTold (outcome_of reply)
IsToldMove end = ⊤

abbrev IsToldCreation : creating.Ending → Type 0
IsToldCreation (creating.with_reply reply) = IsTold (failure (outcome_of reply))
IsToldCreation end = ⊤

abbrev IsToldReading : cat.Ending → Type 0
IsToldReading (cat.with_reply reply) = IsTold (failure (outcome_of reply))
IsToldReading end = ⊤

-- ---- names

some_name : (x y : Name) → Some x ≡ Some y → x ≡ y
some_name x y e = cc

-- an index within a list has an element
at_index : {A : Type 0} (xs : List A) (i : ℕ) → i < length xs → (x : A) × (slice_get xs i ≡ Some x)
at_index [] i h = absurd (omega (arith, h))
at_index (x ∷ xs) zero h = (x, refl)
at_index (x ∷ xs) (suc i) h = at_index xs i (omega (arith, h))

-- ---- the manifest of a creation

made_names : (raw : ℕ) (names : List Name) (keys : List (List ℕ)) (nonce tenant : List ℕ) → (manifest_made raw names keys nonce tenant).names ≡ names
unfolding manifest_made
made_names raw names keys nonce tenant = refl

made_nonce : (raw : ℕ) (names : List Name) (keys : List (List ℕ)) (nonce tenant : List ℕ) → (manifest_made raw names keys nonce tenant).nonce ≡ nonce
unfolding manifest_made
made_nonce raw names keys nonce tenant = refl

-- a place whose numbers a nonce can have
record HasNonce (place : Place) : Type 0 where
  root : place.root < 2 ^ 32
  number : place.number < 2 ^ 64

abbrev job_of : List ℕ → Place → Job
job_of image place = JobCreates image place.root place.number

module _ (tenant image : List ℕ) (place : Place) (nonce : HasNonce place) where
  made_by : (parts : Parts) → maker_of (fields_of tenant place parts) ≡ place.root
  made_by parts = ap (from_be_bytes w32) (made_nonce parts.raw_len parts.names parts.keys (nonce_of place) tenant) ∙ (from_be_bytes-to_be_bytes_4 place.root nonce.root)

  drawn_as : (parts : Parts) → number_of (fields_of tenant place parts) ≡ place.number
  drawn_as parts = ap (λ b. from_be_bytes w64 (drop 4 b)) (made_nonce parts.raw_len parts.names parts.keys (nonce_of place) tenant) ∙ (from_be_bytes-to_be_bytes_8 place.number nonce.number)

  -- the chunks of these parts were put
  abbrev WorksOn : State → Parts → Type 0
  WorksOn s parts = Works s place.session (job_of image place) (IsNameBelow parts.names (length parts.names))

  -- the session is left, with this ending
  leaves : (s : State) (end : creating.Ending) → IsToldCreation end → Holds s place.session 0 (job_of image place) → GoesAlone creating.Ending IsToldCreation s (creating.Leaves place.session end)
  leaves s end good holds = alone_leaves creating.Ending IsToldCreation s place.session (job_of image place) end good holds

  early : (s : State) → Holds s place.session 0 (job_of image place) → GoesAlone creating.Ending IsToldCreation s (LeavesEarly place.session)
  early s holds steps end own (inl w) = leaves s creating.with_memory tt holds steps end own w
  early s holds steps end own (inr w) = leaves s creating.with_stop tt holds steps end own w

  not_kept : (more : Walks Step creating.Ending) (bytes : List ℕ) (t : State) (r : Reply) → (r ≡ kept → ⊥) → Answers (puts_chunk place.session bytes) r → ComesAlone r → Holds t place.session 0 (job_of image place)
      → GoesAlone creating.Ending IsToldCreation t (after_chunk place more r)
  not_kept more bytes t kept other a come h = absurd (other refl)
  not_kept more bytes t memory other a come h = leaves t creating.with_memory tt h
  not_kept more bytes t no_session other a come h = absurd come
  not_kept more bytes t (fault k) other a come h = leaves t (creating.with_reply (fault k)) tt h
  not_kept more bytes t (spoiled k) other a come h = leaves t (creating.with_reply (spoiled k)) tt h
  not_kept more bytes t r other a come h = absurd a

  finishes : (s : State) (parts : Parts) → WorksOn s parts → GoesAlone creating.Ending IsToldCreation s (Finishes place (fields_of tenant place parts))
  finishes s parts w = alone_asks creating.Ending IsToldCreation s (puts_manifest place.session (fields_of tenant place parts)) (after_manifest place) (λ a. a) meets (leaves s creating.with_memory tt w.holds) next
    where
      meets : Meets s (puts_manifest place.session (fields_of tenant place parts))
      meets = record {
        image = image;
        root = place.root;
        number = place.number;
        holds = w.holds;
        sure = w.sure;
        maker = made_by parts;
        drawn = drawn_as parts;
        there = λ i name at.
            let named = subst (λ (names : List Name). slice_get names i ≡ Some name) (made_names parts.raw_len parts.names parts.keys (nonce_of place) tenant) at in
            w.there name.bytes (record { at = i; name = name; below = slice_get_within parts.names i name named; named = named; is = refl });
      }

      at : (m : Arc ManifestFields Global) (t : DepotTold) (c : ℕ) → ComesAlone (seen_told t) → Answers (puts_manifest place.session (fields_of tenant place parts)) (seen_told t)
          → GoesAlone creating.Ending IsToldCreation (state_after s c (noted.PutManifest place.session m) t) (after_manifest place (seen_told t))
      at m (told.Made r) c come a = alone_ends creating.Ending IsToldCreation _ (creating.with_root r) tt
      at m (told.Fault k) c come a = leaves _ (creating.with_reply (fault k)) tt (fault_holds s c place.session (job_of image place) m k w.holds)
      at m (told.Spoiled k) c come a = leaves s (creating.with_reply (spoiled k)) tt w.holds
      at m told.NoSession c come a = absurd come
      at m told.Nonce c come a = absurd come
      at m (told.Missing i) c come a = absurd come
      at m (told.Doubt k) c come a = absurd come
      at m t c come a = absurd a

      next : (e : LogEntry) → e.caller ≡ 0 → seen_noted e.call ≡ puts_manifest place.session (fields_of tenant place parts) → IsRun s (e ∷ []) → Comes e → Answers (puts_manifest place.session (fields_of tenant place parts)) (seen_told e.reply) → GoesAlone creating.Ending IsToldCreation (after_entry s e) (after_manifest place (seen_told e.reply))
      next e caller is run come a =
          let call = call_manifest e.call place.session (fields_of tenant place parts) is in
          subst (λ q. GoesAlone creating.Ending IsToldCreation (state_after s e.caller q e.reply) (after_manifest place (seen_told e.reply))) (sym call.1) (at call.0 e.reply e.caller come a)

-- the names with one more
snoc_at : (xs : List Name) (i : ℕ) (y z : Name) → slice_get (xs ++ y ∷ []) i ≡ Some z → (slice_get xs i ≡ Some z) ⊎ (y ≡ z)
snoc_at [] zero y z e = inr (cc)
snoc_at [] (suc i) y z e = absurd (cc)
snoc_at (x ∷ xs) zero y z e = inl e
snoc_at (x ∷ xs) (suc i) y z e = snoc_at xs i y z e

snoc_below : (xs : List Name) (y : Name) (x : List ℕ) → IsNameBelow (xs ++ y ∷ []) (length (xs ++ y ∷ [])) x → IsNameBelow xs (length xs) x ⊎ (x ≡ y.bytes)
snoc_below xs y x b = elim (snoc_at xs b.at y b.name b.named) [
  | inl old ↦ inl (record { at = b.at; name = b.name; below = slice_get_within xs b.at b.name old; named = old; is = b.is })
  | inr new ↦ inr (b.is ∙ ap (λ (n : Name). n.bytes) (sym new))
]

creation_puts : (tenant image : List ℕ) (place : Place) (nonce : HasNonce place) (given : List Input) (parts : Parts) (s : State) → Works s place.session (job_of image place) (IsNameBelow parts.names (length parts.names))
    → GoesAlone creating.Ending IsToldCreation s (Puts tenant place parts given)
creation_puts tenant image place nonce [] parts s w steps end own walk = early tenant image place nonce s w.holds steps end own walk
creation_puts tenant image place nonce (last ∷ more) parts s w steps end own (inl walk) = finishes tenant image place nonce s parts w steps end own walk
creation_puts tenant image place nonce (last ∷ more) parts s w steps end own (inr walk) = early tenant image place nonce s w.holds steps end own walk
creation_puts tenant image place nonce (piece plain ∷ more) parts s w steps end own (inr walk) = early tenant image place nonce s w.holds steps end own walk
creation_puts tenant image place nonce (piece plain ∷ more) parts s w steps end own (inl (is_piece, (name, named, walk))) =
    let next : Parts = with_piece place name plain parts in
    let j : Job = job_of image place in
    alone_puts creating.Ending IsToldCreation s place.session j (IsNameBelow parts.names (length parts.names)) name.bytes (after_chunk place (Puts tenant place next more)) w
    (λ t u. creation_puts tenant image place nonce more next t (works_for t place.session j (λ x. IsNameBelow parts.names (length parts.names) x ⊎ (x ≡ name.bytes)) (IsNameBelow next.names (length next.names)) (snoc_below parts.names name) u))
    (not_kept tenant image place nonce (Puts tenant place next more) name.bytes) steps end own walk

-- ---- the first entry of a creation

begun_may : (s : State) (call : DepotCall) (reply : DepotReply) (image : List ℕ) (session root : ℕ) (salt : List ℕ) (number : ℕ) → DepotStep s 0 call reply → seen_call call ≡ begins image → seen_reply reply ≡ began session root salt number
    → ((name : List ℕ) × MayBegin s name root) × (number ≡ s.desk.next_number)
begun_may s (BeginCreate i) (Began a b x d) image session root salt number step e f =
    let root_is : b ≡ root = cc in
    let number_is : d ≡ number = cc in
    ((i, subst (MayBegin s i) root_is step.0), sym number_is ∙ step.2)
begun_may s (BeginCreate i) reply image session root salt number step e f = absurd (cc)
begun_may s call reply image session root salt number step e f = absurd (cc)

module _ (start : Start) (begun : IsStart start) where
  abbrev first : State
  first = first_state start

  first_sure : IsSure first
  first_sure k unsure = no_some _ (get-empty kind_cmp k) unsure

  nonce_may : (name salt : List ℕ) (session root number : ℕ) → MayBegin first name root → number ≡ first.desk.next_number → HasNonce (place_of session root salt number)
  nonce_may name salt session root number may same =
      let there = may.roots.0 root may.some (omega arith) in
      let known = begun.may.sound.keys (kind.Root root) there in
      let small : root < 2 ^ 32 = omega (arith, known.1) in
      let left : first.desk.next_number ≤ 9223372036854775807 = may.left in
      let drawn : number < 2 ^ 64 = omega (arith, left, same) in
      record { root = small; number = drawn }

  creates : (tenant image : List ℕ) (given : List Input) → GoesAlone creating.Ending IsToldCreation first (Creates image tenant given)
  creates tenant image given = alone_asks creating.Ending IsToldCreation first (begins image) (λ r. after_begin tenant r given) (λ a. a) first_sure (alone_ends creating.Ending IsToldCreation first creating.with_memory tt) next
    where
      by : (e : LogEntry) → e.caller ≡ 0 → seen_noted e.call ≡ begins image → IsRun first (e ∷ []) → (t : DepotTold) → e.reply ≡ t → ComesAlone (seen_told t) → Answers (begins image) (seen_told t) → GoesAlone creating.Ending IsToldCreation (after_entry first e) (after_begin tenant (seen_told t) given)
      by e caller is run (told.Began session root salt number) same come a =
          let both = entry_step run.0 run.1 e run.3 in
          let call = call_begin e.call image is in
          let facts = begun_may first run.0 run.1 image session root salt number (subst (λ c. DepotStep first c run.0 run.1) caller run.2) (sym (ap (λ (q : Step). q.call) both) ∙ is) (sym (ap (λ (q : Step). q.reply) both) ∙ ap seen_told same) in
          let holds = last_begins first [] e (noted.BeginCreate image) (told.Began session root salt number) run call same in
          let state : after_entry first e ≡ state_after first e.caller (noted.BeginCreate image) (told.Began session root salt number) = λ i. state_after first e.caller (call i) (same i) in
          creation_puts tenant image (place_of session root salt number) (nonce_may facts.0.0 salt session root number facts.0.1 facts.1) given no_parts (after_entry first e) (record {
            holds = subst (λ c. Holds (after_entry first e) session c (JobCreates image root number)) caller holds;
            sure = subst IsSure (sym state) first_sure;
            there = λ x none. let below : none.at < 0 = none.below in absurd (omega (arith, below));
          })
      by e caller is run told.NoRoot same come a = alone_ends creating.Ending IsToldCreation _ (creating.with_reply no_root) tt
      by e caller is run told.Taken same come a = alone_ends creating.Ending IsToldCreation _ (creating.with_reply taken) tt
      by e caller is run told.Full same come a = alone_ends creating.Ending IsToldCreation _ (creating.with_reply full) tt
      by e caller is run (told.Doubt k) same come a = absurd come
      by e caller is run t same come a = absurd a

      next : (e : LogEntry) → e.caller ≡ 0 → seen_noted e.call ≡ begins image → IsRun first (e ∷ []) → Comes e → Answers (begins image) (seen_told e.reply) → GoesAlone creating.Ending IsToldCreation (after_entry first e) (after_begin tenant (seen_told e.reply) given)
      next e caller is run come a = by e caller is run e.reply refl come a

-- ---- readings

call_open : (q : DepotNoted) (image : List ℕ) → seen_noted q ≡ opens image → q ≡ noted.OpenImage image
call_open (noted.OpenImage i) image e = let same : opens i ≡ opens image = e in ap call_of same
  where
    call_of : Call → DepotNoted
    call_of (opens i) = noted.OpenImage i
    call_of c = noted.Reap
call_open q image e = absurd (cc)

module _ (s : State) (lease : ℕ) (image : List ℕ) (m : ManifestFields) (out : fin.get s.desk.leases lease ≡ Some (image, m)) where
  closing : (end : cat.Ending) → IsToldReading end → GoesAlone cat.Ending IsToldReading s (cat.Closes lease end)
  closing end good = alone_asks cat.Ending IsToldReading s (closes lease) (λ r. Ends end) (λ a. a) (is_some _ _ out) (alone_ends cat.Ending IsToldReading s end good) (λ e caller is run come a. alone_ends cat.Ending IsToldReading (after_entry s e) end good)

  -- a reading that ended, and the close
  over : (mid : cat.Ending) → IsToldReading mid → GoesAlone cat.Ending IsToldReading s (Then (Ends mid) (cat.Closes lease))
  over mid good steps end own (front, rest, was, are, none, walk) same callers runs = closing was (subst IsToldReading (sym none.1) good) rest end own walk (same ∙ ap logged (are ∙ ap (λ l. l ++ rest) none.0)) callers runs

  fetched_by : (index : ℕ) (more : Walks Step cat.Ending) → GoesAlone cat.Ending IsToldReading s (Then more (cat.Closes lease)) → (r : Reply) → ComesAlone r → Answers (fetches lease index) r
      → GoesAlone cat.Ending IsToldReading s (Then (cat.after_fetch more r) (cat.Closes lease))
  fetched_by index more goes (fetched name) come a = goes
  fetched_by index more goes memory come a = over cat.with_memory tt
  fetched_by index more goes no_lease come a = absurd come
  fetched_by index more goes no_chunk come a = absurd come
  fetched_by index more goes (fault k) come a = over (cat.with_reply (fault k)) tt
  fetched_by index more goes (spoiled k) come a = over (cat.with_reply (spoiled k)) tt
  fetched_by index more goes r come a = absurd a

  fetch_one : (index : ℕ) (more : Walks Step cat.Ending) → index < length m.names → GoesAlone cat.Ending IsToldReading s (Then more (cat.Closes lease)) → GoesAlone cat.Ending IsToldReading s (Then (Asks (fetches lease index) (cat.after_fetch more)) (cat.Closes lease))
  fetch_one index more within goes steps end own (front, rest, mid, are, (reply, first, tail, parts, tells, walk), closed) same callers runs =
      let name = at_index m.names index within in
      alone_asks cat.Ending IsToldReading s (fetches lease index) (λ r. Then (cat.after_fetch more r) (cat.Closes lease)) (λ a. a)
      (record { image = image; manifest = m; name = name.0; out = out; named = name.1 })
      (over cat.with_memory tt)
      (λ e caller is run come a. subst (λ a. GoesAlone cat.Ending IsToldReading a (Then (cat.after_fetch more (seen_told e.reply)) (cat.Closes lease))) (sym (fetch_stays s e.caller lease index e.call e.reply is)) (fetched_by index more goes (seen_told e.reply) come a))
      steps end own (reply, first, tail ++ rest, are ∙ ap (λ l. l ++ rest) parts, tells, (tail, rest, mid, refl, walk, closed)) same callers runs

  fetching : (left index : ℕ) → index + left ≡ length m.names → GoesAlone cat.Ending IsToldReading s (Then (cat.Fetches lease left index) (cat.Closes lease))
  fetching zero index sum steps end own (front, rest, mid, are, inl walk, closed) same callers runs = over cat.with_bytes tt steps end own (front, rest, mid, are, walk, closed) same callers runs
  fetching zero index sum steps end own (front, rest, mid, are, inr walk, closed) same callers runs = over cat.with_memory tt steps end own (front, rest, mid, are, walk, closed) same callers runs
  fetching (suc left) index sum steps end own (front, rest, mid, are, inr walk, closed) same callers runs = over cat.with_memory tt steps end own (front, rest, mid, are, walk, closed) same callers runs
  fetching (suc left) index sum steps end own (front, rest, mid, are, inl walk, closed) same callers runs =
      fetch_one index (cat.Fetches lease left (index + 1)) (omega (arith, sum)) (fetching left (index + 1) (omega (arith, sum))) steps end own (front, rest, mid, are, walk, closed) same callers runs

  reading : (tenant : List ℕ) → GoesAlone cat.Ending IsToldReading s (Then (cat.ReadsLease tenant lease m) (cat.Closes lease))
  reading tenant steps end own (front, rest, mid, are, inl walk, closed) same callers runs = fetching (length m.names) 0 (omega arith) steps end own (front, rest, mid, are, walk.1, closed) same callers runs
  reading tenant steps end own (front, rest, mid, are, inr (inl walk), closed) same callers runs = over cat.with_wrong_key tt steps end own (front, rest, mid, are, walk.1, closed) same callers runs
  reading tenant steps end own (front, rest, mid, are, inr (inr walk), closed) same callers runs = over cat.with_memory tt steps end own (front, rest, mid, are, walk, closed) same callers runs

cats : (s : State) (image tenant : List ℕ) → GoesAlone cat.Ending IsToldReading s (cat.Cats image tenant)
cats s image tenant = alone_asks cat.Ending IsToldReading s (opens image) (cat.after_open tenant) (λ a. a) tt (alone_ends cat.Ending IsToldReading s cat.with_memory tt) (λ e caller is run come a. by e is run e.reply refl a)
  where
    by : (e : LogEntry) → seen_noted e.call ≡ opens image → IsRun s (e ∷ []) → (t : DepotTold) → e.reply ≡ t → Answers (opens image) (seen_told t) → GoesAlone cat.Ending IsToldReading (after_entry s e) (cat.after_open tenant (seen_told t))
    by e is run (told.Opened lease m) same a =
        reading (after_entry s e) lease image (arc_value m) (last_begins s [] e (noted.OpenImage image) (told.Opened lease m) run (call_open e.call image is) same) tenant
    by e is run told.NoImage same a = alone_ends cat.Ending IsToldReading _ (cat.with_reply no_image) tt
    by e is run t same a = absurd a

-- ---- migrations

abbrev number_one : Call → ℕ
number_one (copies n index) = n
number_one call = 0

abbrev number_two : Call → ℕ
number_two (copies n index) = index
number_two call = 0

abbrev copied_bytes : Reply → List ℕ
copied_bytes (copied name) = name
copied_bytes reply = []

abbrev key_bytes : KeyKind → List ℕ
key_bytes (kind.Chunk r name) = name
key_bytes k = []

module _ (image : List ℕ) (n from to : ℕ) (m : ManifestFields) where
  abbrev move : Job
  move = JobMoves image from to m

  -- what was copied is the chunk of the name at the index
  copied_name : (s : State) (index : ℕ) (bytes : List ℕ) (call : DepotCall) (reply : DepotReply) → DepotStep s 0 call reply → seen_call call ≡ copies n index → seen_reply reply ≡ copied bytes → Holds s n 0 move
      → (name : Name) × (slice_get m.names index ≡ Some name) × (name.bytes ≡ bytes)
  copied_name s index bytes (CopyRead k i) (Copied chunk) step e f holds =
      let c = step.1 in
      let own : Holds s n 0 (JobMoves c.image c.from c.to c.manifest) = subst (λ q. Holds s q 0 (JobMoves c.image c.from c.to c.manifest)) (ap number_one e) c.session in
      let fields : c.manifest ≡ m = same_fields s n c.image image c.from c.to from to c.manifest m own holds in (
        c.name,
        subst (λ q. slice_get m.names q ≡ Some c.name) (ap number_two e) (subst (λ (p : ManifestFields). slice_get p.names i ≡ Some c.name) fields c.named),
        sym (ap key_bytes c.key) ∙ ap copied_bytes f,
      )
  copied_name s index bytes (CopyRead k i) reply step e f holds = absurd (cc)
  copied_name s index bytes call reply step e f holds = absurd (cc)

  -- the chunks of the indices below this one were put
  abbrev WorksTo : State → ℕ → Type 0
  WorksTo s index = Works s n move (IsNameBelow m.names index)

  leaves_move : (s : State) (end : moves.Ending) → IsToldMove end → Holds s n 0 move → GoesAlone moves.Ending IsToldMove s (moves.Leaves n end)
  leaves_move s end good holds = alone_leaves moves.Ending IsToldMove s n move end good holds

  finishing : (s : State) → WorksTo s (length m.names) → GoesAlone moves.Ending IsToldMove s (moves.Finishes n)
  finishing s w = alone_asks moves.Ending IsToldMove s (finishes_move n) (moves.after_finish n) (λ a. a) meets (leaves_move s moves.with_memory tt w.holds) next
    where
      meets : Meets s (finishes_move n)
      meets = record {
        image = image;
        from = from;
        to = to;
        manifest = m;
        holds = w.holds;
        sure = w.sure;
        there = λ i name at. w.there name.bytes (record { at = i; name = name; below = slice_get_within m.names i name at; named = at; is = refl });
      }

      at : (t : DepotTold) (c : ℕ) → ComesAlone (seen_told t) → Answers (finishes_move n) (seen_told t) → GoesAlone moves.Ending IsToldMove (state_after s c (noted.FinishMigrate n) t) (moves.after_finish n (seen_told t))
      at (told.Moved f t) c come a = alone_ends moves.Ending IsToldMove _ (moves.with_roots f t) tt
      at (told.Fault k) c come a = leaves_move _ (moves.with_reply (fault k)) tt (move_fault_holds s c n image from to m k w.holds)
      at (told.Spoiled k) c come a = leaves_move s (moves.with_reply (spoiled k)) tt w.holds
      at (told.Overtaken home) c come a = leaves_move s (moves.with_reply (overtaken home)) tt w.holds
      at told.NoSession c come a = absurd come
      at (told.Missing i) c come a = absurd come
      at (told.Doubt k) c come a = absurd come
      at t c come a = absurd a

      next : (e : LogEntry) → e.caller ≡ 0 → seen_noted e.call ≡ finishes_move n → IsRun s (e ∷ []) → Comes e → Answers (finishes_move n) (seen_told e.reply) → GoesAlone moves.Ending IsToldMove (after_entry s e) (moves.after_finish n (seen_told e.reply))
      next e caller is run come a = subst (λ q. GoesAlone moves.Ending IsToldMove (state_after s e.caller q e.reply) (moves.after_finish n (seen_told e.reply))) (sym (call_finish e.call n is)) (at e.reply e.caller come a)

  not_put : (more : Walks Step moves.Ending) (bytes : List ℕ) (t : State) (r : Reply) → (r ≡ kept → ⊥) → Answers (puts_chunk n bytes) r → ComesAlone r → Holds t n 0 move → GoesAlone moves.Ending IsToldMove t (moves.after_put n more r)
  not_put more bytes t kept other a come h = absurd (other refl)
  not_put more bytes t memory other a come h = leaves_move t moves.with_memory tt h
  not_put more bytes t no_session other a come h = absurd come
  not_put more bytes t (fault k) other a come h = leaves_move t (moves.with_reply (fault k)) tt h
  not_put more bytes t (spoiled k) other a come h = leaves_move t (moves.with_reply (spoiled k)) tt h
  not_put more bytes t r other a come h = absurd a

  one_below : (index : ℕ) (bytes : List ℕ) (name : Name) → slice_get m.names index ≡ Some name → name.bytes ≡ bytes → (x : List ℕ) → IsNameBelow m.names (suc index) x → IsNameBelow m.names index x ⊎ (x ≡ bytes)
  one_below index bytes name at is x b = elim (cases_n b.at index) [
    | inl here ↦
        let same : b.name ≡ name = some_name b.name name (sym b.named ∙ (ap (slice_get m.names) here ∙ at)) in
        inr (b.is ∙ (ap (λ (q : Name). q.bytes) same ∙ is))
    | inr other ↦ inl (record { at = b.at; name = b.name; below = omega (arith, b.below, other); named = b.named; is = b.is })
  ]

  copy_one : (s : State) (index : ℕ) (more : Walks Step moves.Ending) → WorksTo s index → index < length m.names → ((t : State) → WorksTo t (suc index) → GoesAlone moves.Ending IsToldMove t more) → GoesAlone moves.Ending IsToldMove s (moves.CopiesOne n index more)
  copy_one s index more w within goes = alone_asks moves.Ending IsToldMove s (copies n index) (moves.after_copy n more) (λ a. a) meets (leaves_move s moves.with_memory tt w.holds) next
    where
      meets : Meets s (copies n index)
      meets = let name = at_index m.names index within in record { image = image; from = from; to = to; manifest = m; name = name.0; holds = w.holds; named = name.1 }

      by : (r : Reply) → ((bytes : List ℕ) → r ≡ copied bytes → (name : Name) × (slice_get m.names index ≡ Some name) × (name.bytes ≡ bytes)) → ComesAlone r → Answers (copies n index) r → GoesAlone moves.Ending IsToldMove s (moves.after_copy n more r)
      by (copied bytes) named come a =
          let is = named bytes refl in
          alone_puts moves.Ending IsToldMove s n move (IsNameBelow m.names index) bytes (moves.after_put n more) w
          (λ t u. goes t (works_for t n move (λ x. IsNameBelow m.names index x ⊎ (x ≡ bytes)) (IsNameBelow m.names (suc index)) (one_below index bytes is.0 is.1 is.2) u)) (not_put more bytes)
      by memory named come a = leaves_move s moves.with_memory tt w.holds
      by no_session named come a = absurd come
      by no_chunk named come a = absurd come
      by (fault k) named come a = leaves_move s (moves.with_reply (fault k)) tt w.holds
      by (spoiled k) named come a = leaves_move s (moves.with_reply (spoiled k)) tt w.holds
      by r named come a = absurd a

      next : (e : LogEntry) → e.caller ≡ 0 → seen_noted e.call ≡ copies n index → IsRun s (e ∷ []) → Comes e → Answers (copies n index) (seen_told e.reply) → GoesAlone moves.Ending IsToldMove (after_entry s e) (moves.after_copy n more (seen_told e.reply))
      next e caller is run come a =
          let both = entry_step run.0 run.1 e run.3 in
          subst (λ a. GoesAlone moves.Ending IsToldMove a (moves.after_copy n more (seen_told e.reply))) (sym (copy_stays s e.caller n index e.call e.reply is))
          (by (seen_told e.reply) (λ bytes told.
          copied_name s index bytes run.0 run.1 (subst (λ c. DepotStep s c run.0 run.1) caller run.2) (sym (ap (λ (q : Step). q.call) both) ∙ is) (sym (ap (λ (q : Step). q.reply) both) ∙ told) w.holds) come a)

  copying : (left index : ℕ) (s : State) → index + left ≡ length m.names → WorksTo s index → GoesAlone moves.Ending IsToldMove s (moves.Copies n index left)
  copying zero index s sum w = finishing s (subst (WorksTo s) (let e : index ≡ length m.names = omega (arith, sum) in e) w)
  copying (suc left) index s sum w = copy_one s index (moves.Copies n (suc index) left) w (omega (arith, sum)) (λ t u. copying left (suc index) t (omega (arith, sum)) u)

call_move : (q : DepotNoted) (image : List ℕ) → seen_noted q ≡ begins_move image → q ≡ noted.BeginMigrate image
call_move (noted.BeginMigrate i) image e = let same : begins_move i ≡ begins_move image = e in ap call_of same
  where
    call_of : Call → DepotNoted
    call_of (begins_move i) = noted.BeginMigrate i
    call_of c = noted.Reap
call_move q image e = absurd (cc)

migrates : (s : State) (image : List ℕ) → IsSure s → GoesAlone moves.Ending IsToldMove s (moves.Migrates image)
migrates s image sure = alone_asks moves.Ending IsToldMove s (begins_move image) moves.after_begin (λ a. a) tt (alone_ends moves.Ending IsToldMove s moves.with_memory tt) (λ e caller is run come a. by e caller is run e.reply refl a)
  where
    by : (e : LogEntry) → e.caller ≡ 0 → seen_noted e.call ≡ begins_move image → IsRun s (e ∷ []) → (t : DepotTold) → e.reply ≡ t → Answers (begins_move image) (seen_told t) → GoesAlone moves.Ending IsToldMove (after_entry s e) (moves.after_begin (seen_told t))
    by e caller is run (told.Moving session from to m) same a =
        let call = call_move e.call image is in
        let holds = last_begins s [] e (noted.BeginMigrate image) (told.Moving session from to m) run call same in
        let state : after_entry s e ≡ state_after s e.caller (noted.BeginMigrate image) (told.Moving session from to m) = λ i. state_after s e.caller (call i) (same i) in
        copying image session from to (arc_value m) (length (arc_value m).names) 0 (after_entry s e) (omega arith) (record {
          holds = subst (λ c. Holds (after_entry s e) session c (JobMoves image from to (arc_value m))) caller holds;
          sure = subst IsSure (sym state) sure;
          there = λ x none. let below : none.at < 0 = none.below in absurd (omega (arith, below));
        })
    by e caller is run told.NoImage same a = alone_ends moves.Ending IsToldMove _ (moves.with_reply no_image) tt
    by e caller is run (told.NotRetiredHome home) same a = alone_ends moves.Ending IsToldMove _ (moves.with_reply (not_retired_home home)) tt
    by e caller is run t same a = absurd a

-- ---- collections

removes : (root count left : ℕ) (s : State) → GoesAlone collecting.Ending IsToldCollection s (collecting.Removes root count left)
removes root count zero s =
    alone_asks collecting.Ending IsToldCollection s (sweeps root) (collecting.after_last count) (λ a. a) tt (alone_ends collecting.Ending IsToldCollection s collecting.with_memory tt) (λ e caller is run come a. by (after_entry s e) (seen_told e.reply) a)
  where
    by : (t : State) (r : Reply) → Answers (sweeps root) r → GoesAlone collecting.Ending IsToldCollection t (collecting.after_last count r)
    by t (removed key) a = λ steps end own w same callers runs. absurd w
    by t swept a = alone_ends collecting.Ending IsToldCollection t (collecting.with_count count) tt
    by t memory a = alone_ends collecting.Ending IsToldCollection t collecting.with_memory tt
    by t not_deleted a = alone_ends collecting.Ending IsToldCollection t (collecting.with_reply not_deleted) tt
    by t (fault k) a = alone_ends collecting.Ending IsToldCollection t (collecting.with_reply (fault k)) tt
    by t r a = absurd a
removes root count (suc left) s =
    alone_asks collecting.Ending IsToldCollection s (sweeps root) (collecting.after_removal (collecting.Removes root (next_count count) left)) (λ a. a) tt (λ steps end own w same callers runs. absurd w)
    (λ e caller is run come a. removed_by (collecting.Removes root (next_count count) left) (after_entry s e) (removes root (next_count count) left (after_entry s e)) (seen_told e.reply))
  where
    removed_by : (more : Walks Step collecting.Ending) (t : State) → GoesAlone collecting.Ending IsToldCollection t more → (r : Reply) → GoesAlone collecting.Ending IsToldCollection t (collecting.after_removal more r)
    removed_by more t goes (removed key) = goes
    removed_by more t goes r = λ steps end own w same callers runs. absurd w

-- the job of a command: none settles a put
abbrev IsOfCommand : CollectJob → Type 0
IsOfCommand (job.Settle key) = ⊥
IsOfCommand j = ⊤

-- .. and one that is a single call
abbrev IsSingle : CollectJob → Type 0
IsSingle (job.Sweep root) = ⊥
IsSingle (job.Settle key) = ⊥
IsSingle j = ⊤

end_plain : (j : CollectJob) (r : Reply) → IsSingle j → Answers (collecting.call_of j) r → ComesAlone r → IsToldCollection (collecting.end_of r)
end_plain (job.Settle key) r is a come = absurd is
end_plain (job.Sweep root) r is a come = absurd is
end_plain j memory is a come = tt
end_plain j no_image is a come = tt
end_plain j roots_end is a come = tt
end_plain j not_retired is a come = tt
end_plain j not_expired is a come = tt
end_plain j not_deleted is a come = tt
end_plain j (serves image) is a come = tt
end_plain j (rotated root) is a come = tt
end_plain j withdrawn is a come = tt
end_plain j expired is a come = tt
end_plain j deleted is a come = tt
end_plain j (fault k) is a come = tt
end_plain j (spoiled k) is a come = tt
end_plain j (doubt k) is a come = absurd come
end_plain j (session_on n) is a come = absurd come
end_plain j r is a come = absurd a

one_call : (s : State) (j : CollectJob) → IsSingle j → (Answers (collecting.call_of j) nothing → ⊥) → Meets s (collecting.call_of j) → GoesAlone collecting.Ending IsToldCollection s (Asks (collecting.call_of j) (λ r. Ends (collecting.end_of r)))
one_call s j is idle meets =
    alone_asks collecting.Ending IsToldCollection s (collecting.call_of j) (λ r. Ends (collecting.end_of r)) idle meets (alone_ends collecting.Ending IsToldCollection s collecting.with_memory tt)
    (λ e caller which run come a. alone_ends collecting.Ending IsToldCollection (after_entry s e) (collecting.end_of (seen_told e.reply)) (end_plain j (seen_told e.reply) is a come))

collects : (j : CollectJob) (s : State) → IsOfCommand j → IsSure s → ((n : ℕ) → fin.get s.desk.sessions n ≡ None) → GoesAlone collecting.Ending IsToldCollection s (collecting.Collects j)
collects (job.Rotate bytes) s is sure none = one_call s (job.Rotate bytes) tt (λ a. a) sure
collects (job.Withdraw image) s is sure none = one_call s (job.Withdraw image) tt (λ a. a) tt
collects (job.Expire root) s is sure none = one_call s (job.Expire root) tt (λ a. a) (sure, none)
collects (job.Delete root) s is sure none = one_call s (job.Delete root) tt (λ a. a) tt
collects (job.Sweep root) s is sure none = λ steps end own w same callers runs. removes root 0 w.0 s steps end own w.1 same callers runs
collects (job.Settle key) s is sure none = absurd is

-- ---- commands

from_log : (E : Type 0) (Good : E → Type 0) (s : State) (W : Walks Step E) (log : List LogEntry) (steps : List Step) (end : E) → GoesAlone E Good s W → W steps end → GoesOn [] log steps → IsRun s log → AreAlone log × Good end
from_log E Good s W log steps end alone walk g runs =
    let w = alone steps end g.own walk g.steps_of g.callers (subst (IsRun s) g.after runs) in
    (subst AreAlone (sym g.after) (All-from_recursion Comes g.own w.0), w.1)

module _ (start : Start) (log : List LogEntry) (o : Outcome) (text : List ℕ) (begun : IsStart start) (runs : IsRun (first_state start) log) where
  collected_alone : (j : CollectJob) → IsOfCommand j → (w : Collected j log o text) → AreAlone log × IsToldCollection w.0
  collected_alone j is w =
      from_log collecting.Ending IsToldCollection (first_state start) (collecting.Collects j) log w.1.steps w.0 (collects j (first_state start) is (first_sure start begun) (λ n. get-empty nat_cmp n)) w.1.walk w.1.goes_on runs

  moved_alone : (image : List ℕ) → (w : Moved image log o text) → AreAlone log × IsToldMove w.0
  moved_alone image w = from_log moves.Ending IsToldMove (first_state start) (moves.Migrates image) log w.1.steps w.0 (migrates (first_state start) image (first_sure start begun)) w.1.walk w.1.goes_on runs

module _ (s : Setting) (log : List LogEntry) (o : Outcome) (text : List ℕ) (begun : IsStart s.start) (runs : IsRun (first_state s.start) log) where
  made_alone : (image tenant : List ℕ) → (w : Made image tenant s log o text) → AreAlone log × IsToldCreation w.end
  made_alone image tenant w =
      let given = map piece w.pieces ++ last ∷ [] in
      from_log creating.Ending IsToldCreation (first_state s.start) (Creates image tenant given) log w.steps w.end (creates s.start begun tenant image given) w.walk (goes log w.steps w.goes_on) runs

  read_alone : (image tenant : List ℕ) → (w : WasRead image tenant s log o text) → AreAlone log × IsToldReading w.end
  read_alone image tenant w = from_log cat.Ending IsToldReading (first_state s.start) (cat.Cats image tenant) log w.steps w.end (cats (first_state s.start) image tenant) w.walk (goes log w.steps w.goes_on) runs

pub commands_alone : CommandsComeAlone
commands_alone (command.Create image tenant) s log o text begun runs w = (made_alone s log o text begun runs image tenant w).0
commands_alone (command.Cat image tenant) s log o text begun runs w = (read_alone s log o text begun runs image tenant w).0
commands_alone (command.Rotate bytes) s log o text begun runs w = (collected_alone s.start log o text begun runs (job.Rotate bytes) tt w).0
commands_alone (command.Migrate image) s log o text begun runs w = (moved_alone s.start log o text begun runs image w).0
commands_alone (command.Withdraw image) s log o text begun runs w = (collected_alone s.start log o text begun runs (job.Withdraw image) tt w).0
commands_alone (command.Expire root) s log o text begun runs w = (collected_alone s.start log o text begun runs (job.Expire root) tt w).0
commands_alone (command.Delete root) s log o text begun runs w = (collected_alone s.start log o text begun runs (job.Delete root) tt w).0
commands_alone (command.Sweep root) s log o text begun runs w = (collected_alone s.start log o text begun runs (job.Sweep root) tt w).0
commands_alone command.Roots s log o text begun runs w = subst AreAlone (sym w.0) (All-nil Comes)

-- ---- want of memory

collection_wanted : (end : collecting.Ending) → IsToldCollection end → outcome_at end ≡ Memory → end ≡ collecting.with_memory
collection_wanted (collecting.with_reply r) told e = absurd (subst IsTold e told)
collection_wanted (collecting.with_count count) told e = absurd (cc)
collection_wanted collecting.with_memory told e = refl

move_wanted : (end : moves.Ending) → IsToldMove end → outcome_moved end ≡ Memory → end ≡ moves.with_memory
move_wanted (moves.with_reply r) told e = absurd (subst IsTold e told)
move_wanted (moves.with_roots from to) told e = absurd (cc)
move_wanted moves.with_memory told e = refl

reading_wanted : (end : cat.Ending) → IsToldReading end → outcome_read end ≡ Memory → end ≡ cat.with_memory
reading_wanted (cat.with_reply r) told e = absurd (subst IsTold e told)
reading_wanted cat.with_bytes told e = absurd (cc)
reading_wanted cat.with_wrong_key told e = absurd (cc)
reading_wanted cat.with_memory told e = refl

creation_wanted : (c : Created) (end : creating.Ending) → IsAnswer c end → IsToldCreation end → outcome_made c ≡ Memory → c ≡ by.OutOfMemory
creation_wanted (by.Root root) end answer told e = absurd (cc)
creation_wanted (by.Refused reply) end answer told e = absurd (subst IsTold e (subst IsToldCreation answer told))
creation_wanted by.ReadFault end answer told e = absurd (cc)
creation_wanted by.TooLong end answer told e = absurd (cc)
creation_wanted by.OutOfMemory end answer told e = refl

pub memory_wanted : MemoryIsWanted
memory_wanted (command.Create image tenant) s log o text begun runs w e = creation_wanted w.created w.end w.answer (made_alone s log o text begun runs image tenant w).1 (sym w.ends ∙ e)
memory_wanted (command.Cat image tenant) s log o text begun runs w e = reading_wanted w.end (read_alone s log o text begun runs image tenant w).1 (sym w.ends ∙ e)
memory_wanted (command.Rotate bytes) s log o text begun runs w e = collection_wanted w.0 (collected_alone s.start log o text begun runs (job.Rotate bytes) tt w).1 (sym w.2 ∙ e)
memory_wanted (command.Migrate image) s log o text begun runs w e = move_wanted w.0 (moved_alone s.start log o text begun runs image w).1 (sym w.2 ∙ e)
memory_wanted (command.Withdraw image) s log o text begun runs w e = collection_wanted w.0 (collected_alone s.start log o text begun runs (job.Withdraw image) tt w).1 (sym w.2 ∙ e)
memory_wanted (command.Expire root) s log o text begun runs w e = collection_wanted w.0 (collected_alone s.start log o text begun runs (job.Expire root) tt w).1 (sym w.2 ∙ e)
memory_wanted (command.Delete root) s log o text begun runs w e = collection_wanted w.0 (collected_alone s.start log o text begun runs (job.Delete root) tt w).1 (sym w.2 ∙ e)
memory_wanted (command.Sweep root) s log o text begun runs w e = collection_wanted w.0 (collected_alone s.start log o text begun runs (job.Sweep root) tt w).1 (sym w.2 ∙ e)
memory_wanted command.Roots s log o text begun runs w e = tt

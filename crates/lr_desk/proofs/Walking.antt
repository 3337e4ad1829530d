-- what a walk makes of a command
use Rattle.std.proofs.Common.{◌≡◌, ℕ, zero, suc, List, [], ◌∷◌, ◌++◌, map, length, Option, Some, None, Ok, Err, refl, ap, subst, sym, ◌∙◌, inl, inr, append-nil, arith}
use Rattle.std.specs.Prelude.{◌⊎◌, Result, Vec}
use Rattle.std.specs.declared.alloc.Global.{Global}
use Rattle.lr_spec.specs.Rose.{Rose}
use Rattle.lr_io.specs.Streams.{Appends, AppendsFront}
use Rattle.lr_depot.specs.Machine.{LogEntry}
use Rattle.lr_walk.specs.Depot as depots
use Rattle.lr_walk.specs.Depot.{Step, Reply, fault, memory, seen_reply}
use Rattle.lr_depot.specs.declared.call.DepotReply.{DepotReply}
use Rattle.lr_depot.specs.declared.call.DepotReply.TheVariants as replies
use Rattle.lr_depot.specs.Depot.{Seen, state}
use Rattle.lr_rules.specs.Calls.{MayOpen}
use Rattle.lr_origin.specs.Objects.{Objects}
use Rattle.lr_images.specs.declared.created.Created.{Created}
use Rattle.lr_images.specs.declared.created.Created.TheVariants as by
use Rattle.lr_images.specs.declared.reading.CatError.{CatError}
use Rattle.lr_images.specs.declared.reading.CatError.TheVariants as error
use Rattle.lr_images.specs.Drive.{Calls}
use Rattle.lr_images.specs.Drive as images
use Rattle.lr_images.specs.Created.{IsCreation, IsStoreFault as IsMadeFault}
use Rattle.lr_images.specs.Cat as cat
use Rattle.lr_collector.specs.declared.collect.CollectJob.{CollectJob}
use Rattle.lr_collector.specs.Collection.{Ending, with_reply, with_count, with_memory}
use Rattle.lr_migrator.specs.Migration as moves
use Rattle.lr_desk.specs.declared.outcome.Outcome.{Outcome}
use Rattle.lr_desk.specs.declared.outcome.Outcome.TheVariants.{Done, Usage, ReadFault, WriteFault, OriginFault, Memory, Refused, Foreign, Spoiled, TooMany}
use Rattle.lr_desk.specs.declared.words.Command.{Command}
use Rattle.lr_desk.specs.declared.words.Command.TheVariants as command
use Rattle.lr_desk.specs.Drive.{IsFaultReply, HasCollected, IsFaultEnd, HasMoved, IsFaultMove}
use Rattle.lr_desk.specs.Ends.{outcome_of, IsReadText, outcome_at, text_at, Collected, outcome_moved, text_moved, Moved, Setting, setting, failure, outcome_made, text_made, Made, outcome_read, WasRead, HasWalked, IsOther, Yields, IsWritten, IsFinish, HasRun, IsWalkOutcome}

-- ---- which outcomes a walk may have

reply_kind : (r : Reply) → IsWalkOutcome (outcome_of r)
reply_kind depots.no_image = tt
reply_kind (depots.opened lease fields) = tt
reply_kind depots.no_lease = tt
reply_kind depots.no_chunk = tt
reply_kind (depots.fetched name) = tt
reply_kind depots.closed = tt
reply_kind depots.no_root = tt
reply_kind depots.taken = tt
reply_kind (depots.doubt key) = tt
reply_kind depots.full = tt
reply_kind (depots.began session root bytes number) = tt
reply_kind depots.no_session = tt
reply_kind depots.kept = tt
reply_kind depots.nonce = tt
reply_kind (depots.missing index) = tt
reply_kind (depots.made root) = tt
reply_kind depots.abandoned = tt
reply_kind depots.roots_end = tt
reply_kind (depots.rotated root) = tt
reply_kind (depots.not_retired_home home) = tt
reply_kind (depots.moving session from to fields) = tt
reply_kind (depots.copied name) = tt
reply_kind (depots.overtaken home) = tt
reply_kind (depots.moved from to) = tt
reply_kind depots.withdrawn = tt
reply_kind depots.not_retired = tt
reply_kind (depots.serves image) = tt
reply_kind (depots.session_on session) = tt
reply_kind depots.expired = tt
reply_kind depots.not_expired = tt
reply_kind depots.deleted = tt
reply_kind depots.not_deleted = tt
reply_kind (depots.removed key) = tt
reply_kind depots.swept = tt
reply_kind depots.no_doubt = tt
reply_kind depots.there = tt
reply_kind depots.absent = tt
reply_kind depots.reaped = tt
reply_kind depots.nothing = tt
reply_kind (depots.fault key) = tt
reply_kind (depots.spoiled key) = tt
reply_kind depots.memory = tt

reply_fault : (r : Reply) → outcome_of r ≡ OriginFault → IsFaultReply r
reply_fault (fault k) e = tt
reply_fault r e = absurd (cc)

end_kind : (end : Ending) → IsWalkOutcome (outcome_at end)
end_kind (with_reply r) = reply_kind r
end_kind (with_count n) = tt
end_kind with_memory = tt

end_fault : (end : Ending) → outcome_at end ≡ OriginFault → IsFaultEnd end
end_fault (with_reply r) e = reply_fault r e
end_fault (with_count n) e = absurd (cc)
end_fault with_memory e = absurd (cc)

move_kind : (end : moves.Ending) → IsWalkOutcome (outcome_moved end)
move_kind (moves.with_roots from to) = tt
move_kind (moves.with_reply r) = reply_kind r
move_kind moves.with_memory = tt

move_fault : (end : moves.Ending) → outcome_moved end ≡ OriginFault → IsFaultMove end
move_fault (moves.with_roots from to) e = absurd (cc)
move_fault (moves.with_reply r) e = reply_fault r e
move_fault moves.with_memory e = absurd (cc)

collected_kind : (j : CollectJob) (log : List LogEntry) (o : Outcome) (text : List ℕ) → Collected j log o text → IsWalkOutcome o
collected_kind j log o text w = subst IsWalkOutcome (sym w.2) (end_kind w.0)

failure_kind : (x : Outcome) → IsWalkOutcome x → IsWalkOutcome (failure x)
failure_kind Done k = tt
failure_kind x k = k

made_kind : (c : Created) → IsWalkOutcome (outcome_made c)
made_kind (by.Root root) = tt
made_kind (by.Refused reply) = failure_kind (outcome_of (seen_reply reply)) (reply_kind (seen_reply reply))
made_kind by.ReadFault = tt
made_kind by.TooLong = tt
made_kind by.OutOfMemory = tt

read_kind : (end : cat.Ending) → IsWalkOutcome (outcome_read end)
read_kind cat.with_bytes = tt
read_kind (cat.with_reply r) = failure_kind (outcome_of r) (reply_kind r)
read_kind cat.with_wrong_key = tt
read_kind cat.with_memory = tt

pub walked_kind : (c : Command) (s : Setting) (log : List LogEntry) (o : Outcome) (text : List ℕ) → HasWalked c s log o text → IsWalkOutcome o
walked_kind (command.Create image tenant) s log o text w = subst IsWalkOutcome (sym w.ends) (made_kind w.created)
walked_kind (command.Cat image tenant) s log o text w = subst IsWalkOutcome (sym w.ends) (read_kind w.end)
walked_kind (command.Rotate bytes) s log o text w = subst IsWalkOutcome (sym w.2) (end_kind w.0)
walked_kind (command.Migrate image) s log o text w = subst IsWalkOutcome (sym w.2) (move_kind w.0)
walked_kind (command.Withdraw image) s log o text w = subst IsWalkOutcome (sym w.2) (end_kind w.0)
walked_kind (command.Expire root) s log o text w = subst IsWalkOutcome (sym w.2) (end_kind w.0)
walked_kind (command.Delete root) s log o text w = subst IsWalkOutcome (sym w.2) (end_kind w.0)
walked_kind (command.Sweep root) s log o text w = subst IsWalkOutcome (sym w.2) (end_kind w.0)
walked_kind command.Roots s log o text w = elim w.1 [ inl made ↦ subst IsWalkOutcome (sym made.0) tt | inr none ↦ subst IsWalkOutcome (sym none) tt ]

-- ---- yielding

-- another outcome is the walk's, or want of memory
other_is : (o e : Outcome) → IsOther o e → (e ≡ o) ⊎ ((o ≡ Done) × (e ≡ Memory))
other_is Done e h = inr (refl, h)
other_is Usage e h = inl h
other_is ReadFault e h = inl h
other_is WriteFault e h = inl h
other_is OriginFault e h = inl h
other_is Memory e h = inl h
other_is (Refused r) e h = inl h
other_is (Foreign v) e h = inl h
other_is (Spoiled k) e h = inl h
other_is TooMany e h = inl h

yields_fault : (o : Outcome) (text : List ℕ) (result : Result (Vec ℕ Global) Outcome) → Yields o text result → result ≡ Err OriginFault → o ≡ OriginFault
yields_fault o text (Ok v) y e = absurd (cc)
yields_fault o text (Err x) y e =
    let s : x ≡ OriginFault = cc in
    elim (other_is o x y) [ inl same ↦ sym same ∙ s | inr none ↦ absurd (let t : Memory ≡ OriginFault = sym none.1 ∙ s in cc) ]

pub collection_fault : (end : Ending) (result : Result (Vec ℕ Global) Outcome) (before after : ℕ) → Yields (outcome_at end) (text_at end) result → (IsFaultEnd end → Rose before after)
    → result ≡ Err OriginFault → Rose before after
collection_fault end result before after y cause e = cause (end_fault end (yields_fault (outcome_at end) (text_at end) result y e))

pub migration_fault : (end : moves.Ending) (result : Result (Vec ℕ Global) Outcome) (before after : ℕ) → Yields (outcome_moved end) (text_moved end) result → (IsFaultMove end → Rose before after)
    → result ≡ Err OriginFault → Rose before after
migration_fault end result before after y cause e = cause (move_fault end (yields_fault (outcome_moved end) (text_moved end) result y e))

pub collected_of : (job : CollectJob) (base log : List LogEntry) (end : Ending) (result : Result (Vec ℕ Global) Outcome) → base ≡ [] → HasCollected base job log end
    → Yields (outcome_at end) (text_at end) result → (o : Outcome) × (text : List ℕ) × Collected job log o text × Yields o text result
collected_of job base log end result fresh w y = (outcome_at end, text_at end, (end, subst (λ b. HasCollected b job log end) fresh w, refl, refl), y)

pub moved_of : (image : List ℕ) (base log : List LogEntry) (end : moves.Ending) (result : Result (Vec ℕ Global) Outcome) → base ≡ [] → HasMoved base image log end
    → Yields (outcome_moved end) (text_moved end) result → (o : Outcome) × (text : List ℕ) × Moved image log o text × Yields o text result
moved_of image base log end result fresh w y = (outcome_moved end, text_moved end, (end, subst (λ b. HasMoved b image log end) fresh w, refl, refl), y)

-- ---- no read fault

reply_read : (r : Reply) → outcome_of r ≡ ReadFault → ⊥
reply_read memory e = cc
reply_read r e = cc

end_read : (end : Ending) → outcome_at end ≡ ReadFault → ⊥
end_read (with_reply r) e = reply_read r e
end_read (with_count n) e = cc
end_read with_memory e = cc

move_read : (end : moves.Ending) → outcome_moved end ≡ ReadFault → ⊥
move_read (moves.with_roots from to) e = cc
move_read (moves.with_reply r) e = reply_read r e
move_read moves.with_memory e = cc

yields_read : (o : Outcome) (text : List ℕ) (result : Result (Vec ℕ Global) Outcome) → Yields o text result → result ≡ Err ReadFault → o ≡ ReadFault
yields_read o text (Ok v) y e = absurd (cc)
yields_read o text (Err x) y e =
    let s : x ≡ ReadFault = cc in
    elim (other_is o x y) [ inl same ↦ sym same ∙ s | inr none ↦ absurd (let t : Memory ≡ ReadFault = sym none.1 ∙ s in cc) ]

pub collection_read : (end : Ending) (result : Result (Vec ℕ Global) Outcome) → Yields (outcome_at end) (text_at end) result → result ≡ Err ReadFault → ⊥
collection_read end result y e = end_read end (yields_read (outcome_at end) (text_at end) result y e)

pub migration_read : (end : moves.Ending) (result : Result (Vec ℕ Global) Outcome) → Yields (outcome_moved end) (text_moved end) result → result ≡ Err ReadFault → ⊥
migration_read end result y e = move_read end (yields_read (outcome_moved end) (text_moved end) result y e)

pub written_read : (before after : Option (List ℕ)) (text : List ℕ) (e : Outcome) → IsWritten before text after e → e ≡ ReadFault → ⊥
written_read before after text e w s = subst (λ q. IsWritten before text after q) s w

-- ---- images

failure_other : (x : Outcome) → IsOther (failure x) (failure x)
failure_other Done = refl
failure_other Usage = refl
failure_other ReadFault = refl
failure_other WriteFault = refl
failure_other OriginFault = refl
failure_other Memory = refl
failure_other (Refused r) = refl
failure_other (Foreign v) = refl
failure_other (Spoiled k) = refl
failure_other TooMany = refl

pub other_failure : (o e : Outcome) → IsOther o e → e ≡ failure o
other_failure Done e h = h
other_failure Usage e h = h
other_failure ReadFault e h = h
other_failure WriteFault e h = h
other_failure OriginFault e h = h
other_failure Memory e h = h
other_failure (Refused r) e h = h
other_failure (Foreign v) e h = h
other_failure (Spoiled k) e h = h
other_failure TooMany e h = h

pub refused_yields : (o e : Outcome) (text : List ℕ) → e ≡ failure o → Yields (failure o) text (Err e)
refused_yields o e text s = subst (λ q. IsOther (failure o) q) (sym s) (failure_other o)

failed_fault : (reply : DepotReply) → failure (outcome_of (seen_reply reply)) ≡ OriginFault → IsMadeFault (by.Refused reply)
failed_fault (replies.Fault k) e = tt
failed_fault reply e = absurd (cc)

made_fault : (c : Created) → outcome_made c ≡ OriginFault → IsMadeFault c
made_fault (by.Refused reply) e = failed_fault reply e
made_fault c e = absurd (cc)

failed_read : (reply : DepotReply) → failure (outcome_of (seen_reply reply)) ≡ ReadFault → ⊥
failed_read replies.OutOfMemory e = cc
failed_read reply e = cc

made_read : (c : Created) → outcome_made c ≡ ReadFault → c ≡ by.ReadFault
made_read (by.Root root) e = absurd (cc)
made_read (by.Refused reply) e = absurd (failed_read reply e)
made_read by.ReadFault e = refl
made_read by.TooLong e = absurd (cc)
made_read by.OutOfMemory e = absurd (cc)

read_fault_of : (e : CatError) → outcome_read (cat.error_end e) ≡ OriginFault → cat.IsStoreFault e
read_fault_of (error.Refused (replies.Fault k)) e = tt
read_fault_of (error.Refused reply) e = absurd (cc)
read_fault_of error.Sealed e = absurd (cc)
read_fault_of error.OutOfMemory e = absurd (cc)

pub error_fault : (e : CatError) (o : Outcome) (rose : Type 0) → o ≡ outcome_read (cat.error_end e) → (cat.IsStoreFault e → rose) → o ≡ OriginFault → rose
error_fault e o rose is cause s = cause (read_fault_of e (sym is ∙ s))

pub error_read : (e : CatError) (o : Outcome) → o ≡ outcome_read (cat.error_end e) → o ≡ ReadFault → ⊥
error_read (error.Refused reply) o is s = failed_read reply (sym is ∙ s)
error_read error.Sealed o is s = let t : outcome_read (cat.error_end error.Sealed) ≡ ReadFault = sym is ∙ s in cc
error_read error.OutOfMemory o is s = let t : outcome_read (cat.error_end error.OutOfMemory) ≡ ReadFault = sym is ∙ s in cc

error_yields : (e : CatError) (o : Outcome) (text : List ℕ) → o ≡ outcome_read (cat.error_end e) → Yields (outcome_read (cat.error_end e)) text (Err o)
error_yields (error.Refused reply) o text is = refused_yields (outcome_of (seen_reply reply)) o text is
error_yields error.Sealed o text is = is
error_yields error.OutOfMemory o text is = is

error_text : {O : Type 0} (objects : O → Option Objects) (d : Seen O) (e : CatError) (source left : Option (List ℕ)) (image tenant : List ℕ) (steps : List Step) → IsReadText (cat.error_end e) (setting objects d source left) image tenant steps []
error_text objects d (error.Refused reply) source left image tenant steps = refl
error_text objects d error.Sealed source left image tenant steps = refl
error_text objects d error.OutOfMemory source left image tenant steps = refl

calls_goes : {O : Type 0} (faults : O → ℕ) (old new : Seen O) (steps : List Step) → old.log ≡ [] → Calls faults old new steps → images.GoesOn [] new.log steps
calls_goes faults old new steps fresh calls = subst (λ l. images.GoesOn l new.log steps) fresh calls.log

module _ {O : Type 0} (objects : O → Option Objects) (faults : O → ℕ) (old new : Seen O) (image tenant : List ℕ) (source left : Option (List ℕ)) (fresh : old.log ≡ []) where
  pub made_of : (created : Created) (result : Result (Vec ℕ Global) Outcome) → IsCreation faults old source image tenant created new left → Yields (outcome_made created) (text_made created) result
      → (o : Outcome) × (text : List ℕ) × Made image tenant (setting objects old source left) new.log o text × Yields o text result
  made_of created result w y = (
    outcome_made created,
    text_made created,
    record {
      created = created;
      pieces = w.pieces;
      taken = w.taken;
      steps = w.steps;
      end = w.end;
      walk = w.walk;
      answer = w.answer;
      goes_on = calls_goes faults old new w.steps fresh w.calls;
      ends = refl;
      writes = refl;
    },
    y,
  )

  pub made_cause : (created : Created) (result : Result (Vec ℕ Global) Outcome) → IsCreation faults old source image tenant created new left → Yields (outcome_made created) (text_made created) result
      → result ≡ Err OriginFault → Rose (faults old.origin) (faults new.origin)
  made_cause created result w y e = w.cause (made_fault created (yields_fault (outcome_made created) (text_made created) result y e))

  pub error_of : (e : CatError) (o : Outcome) (steps : List Step) → o ≡ outcome_read (cat.error_end e) → Calls faults old new steps → cat.Cats image tenant steps (cat.error_end e)
      → (o' : Outcome) × (text : List ℕ) × WasRead image tenant (setting objects old source left) new.log o' text × Yields o' text (Err o)
  error_of e o steps is calls walk = (
    outcome_read (cat.error_end e),
    [],
    record {
      steps = steps;
      end = cat.error_end e;
      walk = walk;
      goes_on = calls_goes faults old new steps fresh calls;
      ends = refl;
      writes = error_text objects old e source left image tenant steps;
    },
    error_yields e o [] is,
  )

  pub bytes_of : (v : Vec ℕ Global) (steps : List Step) → Calls faults old new steps → cat.Cats image tenant steps cat.with_bytes → cat.IsRead objects old image tenant steps v.items
      → (o : Outcome) × (text : List ℕ) × WasRead image tenant (setting objects old source left) new.log o text × Yields o text (Ok v)
  bytes_of v steps calls walk read = (
    Done,
    v.items,
    record {
      steps = steps;
      end = cat.with_bytes;
      walk = walk;
      goes_on = calls_goes faults old new steps fresh calls;
      ends = refl;
      writes = record {
        lease = read.lease;
        manifest = read.manifest;
        tail = read.tail;
        leased = read.leased;
        home = read.home;
        listed = subst (λ (l : List LogEntry). MayOpen (state old.start l) image read.home read.manifest) fresh read.listed;
        read = subst (λ (l : List LogEntry). cat.IsReadOf (objects old.origin) (state old.start l).known.view image tenant read.manifest v.items) fresh read.read;
        stored = read.stored;
      };
    },
    (refl, refl),
  )

pub made_read_fault : (created : Created) (result : Result (Vec ℕ Global) Outcome) (rose : Type 0) → Yields (outcome_made created) (text_made created) result → (created ≡ by.ReadFault → rose) → result ≡ Err ReadFault → rose
made_read_fault created result rose y cause e = cause (made_read created (yields_read (outcome_made created) (text_made created) result y e))

-- ---- running

-- nothing was written, so a front was
front_none : (before : Option (List ℕ)) (text : List ℕ) → AppendsFront before text before
front_none before text = λ xs told. (0, omega arith, told ∙ ap Some (sym (append-nil xs)))

finish_other : (o e : Outcome) (text : List ℕ) (before : Option (List ℕ)) → IsWalkOutcome o → IsOther o e → IsFinish o text before before e
finish_other Done e text before k h = subst (λ q. IsWritten before text before q) (sym h) (front_none before text)
finish_other ReadFault e text before k h = (h, refl)
finish_other OriginFault e text before k h = (h, refl)
finish_other Memory e text before k h = (h, refl)
finish_other (Refused r) e text before k h = (h, refl)
finish_other (Spoiled key) e text before k h = (h, refl)
finish_other o e text before k h = absurd k

pub ran_other : (c : Command) (s : Setting) (log : List LogEntry) (before : Option (List ℕ)) (e : Outcome) → (o : Outcome) × (text : List ℕ) × HasWalked c s log o text × Yields o text (Err e) → HasRun c s log before before e
ran_other c s log before e w = (w.0, w.1, w.2, finish_other w.0 e w.1 before (walked_kind c s log w.0 w.1 w.2) w.3)

finish_text : (o : Outcome) (text out : List ℕ) (before after : Option (List ℕ)) (e : Outcome) → o ≡ Done → out ≡ text → IsWritten before out after e → IsFinish o text before after e
finish_text o text out before after e d same w = subst (λ q. IsFinish q text before after e) (sym d) (subst (λ t. IsWritten before t after e) same w)

pub ran_text : (c : Command) (s : Setting) (log : List LogEntry) (before after : Option (List ℕ)) (e : Outcome) (t : Vec ℕ Global) (out : List ℕ) → out ≡ t.items
    → (o : Outcome) × (text : List ℕ) × HasWalked c s log o text × Yields o text (Ok t) → IsWritten before out after e → HasRun c s log before after e
ran_text c s log before after e t out same w written = (w.0, w.1, w.2, finish_text w.0 w.1 out before after e w.3.0 (same ∙ w.3.1) written)

-- no walk ends with a fault of the sink
pub no_write_fault : (c : Command) (s : Setting) (log : List LogEntry) (e : Outcome) → (o : Outcome) × (text : List ℕ) × HasWalked c s log o text × Yields o text (Err e) → e ≡ WriteFault → ⊥
no_write_fault c s log e w same = by (other_is w.0 e w.3)
  where
    by : (e ≡ w.0) ⊎ ((w.0 ≡ Done) × (e ≡ Memory)) → ⊥
    by (inl is) = subst IsWalkOutcome (sym is ∙ same) (walked_kind c s log w.0 w.1 w.2)
    by (inr none) = let t : Memory ≡ WriteFault = sym none.1 ∙ same in cc

pub not_origin : (before after : Option (List ℕ)) (text : List ℕ) (e : Outcome) → IsWritten before text after e → e ≡ OriginFault → ⊥
not_origin before after text e w s = subst (λ q. IsWritten before text after q) s w

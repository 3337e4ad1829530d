-- How many keys the depot's view has.
use Rattle.std.proofs.Common.{◌≡◌, ◌≤◌, ◌+◌, ◌-◌, ℕ, List, [], ◌∷◌, ◌++◌, Bool, true, false, cond, Option, Some, None, refl, ap, sym, subst, ◌∙◌, arith}
use Rattle.std.specs.Prelude.{is_some}
use Rattle.std.specs.Arc.{arc_value}
use Rattle.std.specs.FinMap as fin
use Rattle.std.proofs.lemmas.List.Sums.{fold-append}
use Rattle.lr_origin.specs.Kind.{kind_total}
use Rattle.lr_origin.specs.declared.key.KeyKind.{KeyKind}
use Rattle.lr_origin.specs.declared.key.KeyKind.TheVariants as kind
use Rattle.lr_roots.specs.View.{View, Held}
use Rattle.lr_roots.specs.View as view
use Rattle.lr_rules.proofs.Keys.{put_back, gone_key}
use Rattle.lr_rules.specs.State.{State, Session, Job, Creates, Moves, target}
use Rattle.lr_depot.specs.declared.call.DepotCall.{DepotCall}
use Rattle.lr_depot.specs.declared.call.DepotCall.TheVariants.{Sweep}
use Rattle.lr_depot.specs.declared.call.DepotReply.{DepotReply}
use Rattle.lr_depot.specs.declared.call.DepotReply.TheVariants.{Removed}
use Rattle.lr_depot.specs.declared.call.DepotNoted.{DepotNoted}
use Rattle.lr_depot.specs.declared.call.DepotNoted.TheVariants as noted
use Rattle.lr_depot.specs.declared.call.DepotTold.{DepotTold}
use Rattle.lr_depot.specs.declared.call.DepotTold.TheVariants as told
use Rattle.lr_depot.specs.Begun.{Start}
use Rattle.lr_depot.specs.Depot.{first_state, state}
use Rattle.lr_depot.specs.Machine.{LogEntry, Enters, DepotStep, IsNextItem, state_after, after_entry}
use Rattle.lr_replies.specs.Objects.{Logs}

-- a view with a key more, or a key less
more_keys : (v : View) (k : KeyKind) (x : Held) → fin.len (fin.insert v k x) ≤ fin.len v + 1
more_keys v k x = subst (λ (n : ℕ). n ≤ fin.len v + 1) (sym (fin.len-insert kind_total v k x)) (by (fin.contains_key v k))
  where
    by : (b : Bool) → cond b (fin.len v) (fin.len v + 1) ≤ fin.len v + 1
    by true = omega arith
    by false = omega arith

fewer_keys : (v : View) (k : KeyKind) → fin.len (fin.remove v k) ≤ fin.len v
fewer_keys v k = subst (λ (n : ℕ). n ≤ fin.len v) (sym (fin.len-remove kind_total v k)) (by (fin.contains_key v k))
  where
    by : (b : Bool) → cond b (fin.len v - 1) (fin.len v) ≤ fin.len v
    by true = omega arith
    by false = omega arith

one_less : (v : View) (k : KeyKind) (x : Held) → fin.get v k ≡ Some x → fin.len (fin.remove v k) + 1 ≡ fin.len v
one_less v k x e =
    sym (ap fin.len (put_back v k x e) ∙ (fin.len-insert kind_total (fin.remove v k) k x
    ∙ ap (λ (o : Option Held). cond (is_some o) (fin.len (fin.remove v k)) (fin.len (fin.remove v k) + 1)) (gone_key v k)))

keys : State → ℕ
keys s = fin.len s.known.view

same_few : (n : ℕ) → n ≤ n + 1
same_few n = omega arith

-- an entry adds at most one key
abbrev Few : State → ℕ → DepotNoted → DepotTold → Type 0
Few s c call reply = fin.len (state_after s c call reply).known.view ≤ fin.len s.known.view + 1

module _ (s : State) (c : ℕ) where
  few_chunk : (n : ℕ) (name : _) → Few s c (noted.PutChunk n name) told.Kept
  few_chunk n name = by (fin.get s.desk.sessions n) refl
    where
      kept : (x : Session) → (o : Option Held) → fin.get s.desk.sessions n ≡ Some x → fin.get s.known.view (kind.Chunk (target x.job) name.bytes) ≡ o → Few s c (noted.PutChunk n name) told.Kept
      kept x None e f = rw (e, f) (more_keys s.known.view (kind.Chunk (target x.job) name.bytes) view.bare)
      kept x (Some y) e f = rw (e, f) (same_few (fin.len s.known.view))

      by : (o : Option Session) → fin.get s.desk.sessions n ≡ o → Few s c (noted.PutChunk n name) told.Kept
      by None e = rw e (same_few (fin.len s.known.view))
      by (Some x) e = kept x (fin.get s.known.view (kind.Chunk (target x.job) name.bytes)) e refl

  few_made : (n : ℕ) (m : _) (r : ℕ) → Few s c (noted.PutManifest n m) (told.Made r)
  few_made n m r = by (fin.get s.desk.sessions n) refl
    where
      job : (caller : ℕ) (j : Job) → fin.get s.desk.sessions n ≡ Some (record { caller = caller; job = j }) → Few s c (noted.PutManifest n m) (told.Made r)
      job caller (Creates image q d) e = rw e (more_keys s.known.view (kind.Manifest q image) (view.manifest (arc_value m)))
      job caller (Moves image from to fields) e = rw e (same_few (fin.len s.known.view))

      by : (o : Option Session) → fin.get s.desk.sessions n ≡ o → Few s c (noted.PutManifest n m) (told.Made r)
      by None e = rw e (same_few (fin.len s.known.view))
      by (Some x) e = job x.caller x.job e

  few_moved : (n from to : ℕ) → Few s c (noted.FinishMigrate n) (told.Moved from to)
  few_moved n from to = by (fin.get s.desk.sessions n) refl
    where
      job : (caller : ℕ) (j : Job) → fin.get s.desk.sessions n ≡ Some (record { caller = caller; job = j }) → Few s c (noted.FinishMigrate n) (told.Moved from to)
      job caller (Creates image q d) e = rw e (same_few (fin.len s.known.view))
      job caller (Moves image f t fields) e = rw e (more_keys s.known.view (kind.Manifest t image) (view.manifest fields))

      by : (o : Option Session) → fin.get s.desk.sessions n ≡ o → Few s c (noted.FinishMigrate n) (told.Moved from to)
      by None e = rw e (same_few (fin.len s.known.view))
      by (Some x) e = job x.caller x.job e

  few_doubted : (n : ℕ) (m : _) (k : KeyKind) → Few s c (noted.PutManifest n m) (told.Fault k)
  few_doubted n m (kind.Manifest r image) = same_few (fin.len s.known.view)
  few_doubted n m k = same_few (fin.len s.known.view)

  few_unmoved : (n : ℕ) (k : KeyKind) → Few s c (noted.FinishMigrate n) (told.Fault k)
  few_unmoved n k = by (fin.get s.desk.sessions n) refl
    where
      job : (caller : ℕ) (j : Job) → fin.get s.desk.sessions n ≡ Some (record { caller = caller; job = j }) → Few s c (noted.FinishMigrate n) (told.Fault k)
      job caller (Creates image q d) e = rw e (same_few (fin.len s.known.view))
      job caller (Moves image f t fields) e = rw e (same_few (fin.len s.known.view))

      by : (o : Option Session) → fin.get s.desk.sessions n ≡ o → Few s c (noted.FinishMigrate n) (told.Fault k)
      by None e = rw e (same_few (fin.len s.known.view))
      by (Some x) e = job x.caller x.job e

  few_swept : (r : ℕ) (k : KeyKind) → Few s c (noted.Sweep r) (told.Fault k)
  few_swept r k = by (fin.get s.known.view k) refl
    where
      by : (o : Option Held) → fin.get s.known.view k ≡ o → Few s c (noted.Sweep r) (told.Fault k)
      by None e = rw e (same_few (fin.len s.known.view))
      by (Some x) e = rw e (same_few (fin.len s.known.view))

  few_there : (k : KeyKind) → Few s c (noted.Settle k) told.There
  few_there k = by k (fin.get s.known.doubts k) refl
    where
      held : (q : KeyKind) (x : Held) → fin.get s.known.doubts q ≡ Some x → Few s c (noted.Settle q) told.There
      held (kind.Manifest r image) (view.manifest m) e = rw e (more_keys s.known.view (kind.Manifest r image) (view.manifest m))
      held q x e = rw e (more_keys s.known.view q x)

      by : (q : KeyKind) (o : Option Held) → fin.get s.known.doubts q ≡ o → Few s c (noted.Settle q) told.There
      by q None e = rw e (same_few (fin.len s.known.view))
      by q (Some x) e = held q x e

  few_more : (call : DepotNoted) (reply : DepotTold) → Few s c call reply
  few_more (noted.PutChunk n name) told.Kept = few_chunk n name
  few_more (noted.PutManifest n m) (told.Made r) = few_made n m r
  few_more (noted.PutManifest n m) (told.Fault k) = few_doubted n m k
  few_more (noted.Rotate bytes) (told.Rotated r) = more_keys s.known.view (kind.Root r) (view.salt bytes)
  few_more (noted.FinishMigrate n) (told.Moved from to) = few_moved n from to
  few_more (noted.FinishMigrate n) (told.Fault k) = few_unmoved n k
  few_more (noted.Withdraw image) told.Withdrawn = more_keys s.known.view (kind.Withdrawn image) view.bare
  few_more (noted.Expire r) told.Expired = more_keys s.known.view (kind.Expired r) view.bare
  few_more (noted.Delete r) told.Deleted = more_keys s.known.view (kind.Deleted r) view.bare
  few_more (noted.Sweep r) (told.Removed k) = omega (arith, fewer_keys s.known.view k)
  few_more (noted.Sweep r) (told.Fault k) = few_swept r k
  few_more (noted.Settle k) told.There = few_there k
  few_more (noted.OpenImage image) (told.Opened lease m) = same_few (fin.len s.known.view)
  few_more (noted.Close lease) told.Closed = same_few (fin.len s.known.view)
  few_more (noted.BeginCreate image) (told.Began session root bytes number) = same_few (fin.len s.known.view)
  few_more (noted.PutChunk n name) (told.Fault k) = same_few (fin.len s.known.view)
  few_more (noted.Abandon n) told.Abandoned = same_few (fin.len s.known.view)
  few_more (noted.Rotate bytes) (told.Fault k) = same_few (fin.len s.known.view)
  few_more (noted.BeginMigrate image) (told.Moving session from to m) = same_few (fin.len s.known.view)
  few_more (noted.Withdraw image) (told.Fault k) = same_few (fin.len s.known.view)
  few_more (noted.Expire r) (told.Fault k) = same_few (fin.len s.known.view)
  few_more (noted.Delete r) (told.Fault k) = same_few (fin.len s.known.view)
  few_more (noted.Settle k) told.Absent = same_few (fin.len s.known.view)
  few_more noted.Reap told.Reaped = same_few (fin.len s.known.view)
  few_more call reply = same_few (fin.len s.known.view)

run_more : (start : Start) (log : List LogEntry) (e : LogEntry) → state start (log ++ e ∷ []) ≡ after_entry (state start log) e
run_more start log e = fold-append after_entry (first_state start) log (e ∷ [])

-- a call adds at most one key
pub keys_few : (start : Start) (call : DepotCall) (reply : DepotReply) (b : Bool) (caller : ℕ) (old new : List LogEntry) → Logs b (λ (e : LogEntry). Enters call reply e) caller old new
    → fin.len (state start new).known.view ≤ fin.len (state start old).known.view + 1
keys_few start call reply true caller old new h =
    let after : (state start new).known.view ≡ (after_entry (state start old) h.0).known.view = ap (λ (l : List LogEntry). (state start l).known.view) h.1 ∙ ap (λ (s : State). s.known.view) (run_more start old h.0) in
    subst (λ (v : View). fin.len v ≤ fin.len (state start old).known.view + 1) (sym after) (few_more (state start old) h.0.caller h.0.call h.0.reply)
keys_few start call reply false caller old new h =
    subst (λ (l : List LogEntry). fin.len (state start l).known.view ≤ fin.len (state start old).known.view + 1) (sym h) (same_few (fin.len (state start old).known.view))

sweep_only : (s : State) (c : ℕ) (call : DepotCall) (k : KeyKind) → DepotStep s c call (Removed k) → (r : ℕ) × (call ≡ Sweep r) × IsNextItem s r k
sweep_only s c (Sweep r) k h = (r, refl, h)
sweep_only s c call k h = absurd h

-- a removal takes a key out
pub keys_removed : (start : Start) (call : DepotCall) (k : KeyKind) (caller : ℕ) (old new : List LogEntry) → DepotStep (state start old) caller call (Removed k) → Logs true (λ (e : LogEntry). Enters call (Removed k) e) caller old new
    → fin.len (state start new).known.view + 1 ≡ fin.len (state start old).known.view
keys_removed start call k caller old new step h =
    let sweeps = sweep_only (state start old) caller call k step in
    let enters : Enters (Sweep sweeps.0) (Removed k) h.0 = subst (λ (q : DepotCall). Enters q (Removed k) h.0) sweeps.1 h.3 in
    let view : (state start new).known.view ≡ fin.remove (state start old).known.view k =
    ap (λ (l : List LogEntry). (state start l).known.view) h.1
    ∙ (ap (λ (s : State). s.known.view) (run_more start old h.0) ∙ (λ i. (state_after (state start old) h.0.caller (enters.noted i) (enters.told i)).known.view))
    in ap (λ (v : View). fin.len v + 1) view ∙ one_less (state start old).known.view k sweeps.2.held sweeps.2.may.here

-- A lease that is out stays out, but for a Close of it.
use Rattle.std.proofs.Common.{◌≡◌, ◌≢◌, ◌⊎◌, ◌<◌, ◌+◌, ℕ, List, [], ◌∷◌, ◌++◌, Bool, true, false, Option, Some, None, refl, sym, ap, subst, ◌∙◌, inl, inr, arith}
use Rattle.std.specs.FinMap as map
use Rattle.std.specs.Ordering.{nat_cmp}
use Rattle.std.specs.FinMap.{get-empty}
use Rattle.std.proofs.lemmas.List.Sums.{fold-append}
use Rattle.lr_manifest.specs.Manifest.{ManifestFields}
use Rattle.lr_origin.specs.declared.key.KeyKind.{KeyKind}
use Rattle.lr_origin.specs.declared.key.KeyKind.TheVariants as kind
use Rattle.lr_roots.specs.View.{Held}
use Rattle.lr_rules.specs.State.{Job, Creates, Moves, Session, Desk, State, target}
use Rattle.lr_rules.proofs.Keys.{cases_n, other_n, gone_n, gone_other_n}
use Rattle.lr_depot.specs.Begun.{Start}
use Rattle.lr_depot.specs.declared.call.DepotCall.{DepotCall}
use Rattle.lr_depot.specs.declared.call.DepotCall.TheVariants as asks
use Rattle.lr_depot.specs.declared.call.DepotReply.{DepotReply}
use Rattle.lr_depot.specs.declared.call.DepotNoted.{DepotNoted}
use Rattle.lr_depot.specs.declared.call.DepotNoted.TheVariants as noted
use Rattle.lr_depot.specs.declared.call.DepotTold.{DepotTold}
use Rattle.lr_depot.specs.declared.call.DepotTold.TheVariants as told
use Rattle.lr_depot.specs.Depot.{first_state, state}
use Rattle.lr_depot.specs.Machine.{LogEntry, IsNoted, Enters, is_logged, manifest_put, manifest_moved, move_doubted, deletion_doubted, found_there, state_after, after_entry, run}
use Rattle.lr_depot.proofs.Found.{found_rest}
use Rattle.lr_walk.specs.Calls.{DevicePlace}
use Rattle.lr_actors.specs.declared.action.ActorCall.TheVariants as call
use Rattle.lr_actors.specs.declared.action.ActorReply.TheVariants as by
use Rattle.lr_replies.specs.Objects.{Objects, Logs}
use Rattle.lr_replies.specs.Replies.{IsOut, IsNoClose, LeasesStayOut}
use Rattle.lr_replies.proofs.Facts.{none_some}

-- ---- what an entry does to the leases

abbrev Keeps : State → State → Type 0
Keeps s t = (t.desk.leases ≡ s.desk.leases) × (t.desk.next_lease ≡ s.desk.next_lease)

abbrev Opens : State → State → Type 0
Opens s t = (l : List ℕ × ManifestFields) × (t.desk.leases ≡ map.insert s.desk.leases s.desk.next_lease l) × (t.desk.next_lease ≡ s.desk.next_lease + 1)

abbrev Closes : State → DepotNoted → State → Type 0
Closes s e t = (k : ℕ) × (e ≡ noted.Close k) × (t.desk.leases ≡ map.remove s.desk.leases k) × (t.desk.next_lease ≡ s.desk.next_lease)

abbrev Leaves : State → DepotNoted → State → Type 0
Leaves s e t = Keeps s t ⊎ (Opens s t ⊎ Closes s e t)

module _ (s : State) where
  chunk_keeps : (c n : ℕ) (name : _) (o : Option Session) → map.get s.desk.sessions n ≡ o → Keeps s (state_after s c (noted.PutChunk n name) told.Kept)
  chunk_keeps c n name None e = rw e (refl, refl)
  chunk_keeps c n name (Some session) e = by (map.get s.known.view (kind.Chunk (target session.job) name.bytes)) refl
    where
      by : (o : Option Held) → map.get s.known.view (kind.Chunk (target session.job) name.bytes) ≡ o → Keeps s (state_after s c (noted.PutChunk n name) told.Kept)
      by None f = rw e (rw f (refl, refl))
      by (Some x) f = rw e (rw f (refl, refl))

  put_keeps : (n : ℕ) (o : Option Session) (m : ManifestFields) → Keeps s (manifest_put s n o m)
  put_keeps n None m = (refl, refl)
  put_keeps n (Some session) m = by session.job
    where
      by : (j : Job) → Keeps s (manifest_put s n (Some (record { caller = session.caller; job = j })) m)
      by (Creates image r d) = (refl, refl)
      by (Moves image from to f) = (refl, refl)

  moved_keeps : (n : ℕ) (o : Option Session) → Keeps s (manifest_moved s n o)
  moved_keeps n None = (refl, refl)
  moved_keeps n (Some session) = by session.job
    where
      by : (j : Job) → Keeps s (manifest_moved s n (Some (record { caller = session.caller; job = j })))
      by (Creates image r d) = (refl, refl)
      by (Moves image from to f) = (refl, refl)

  move_keeps : (n : ℕ) (o : Option Session) → Keeps s (move_doubted s n o)
  move_keeps n None = (refl, refl)
  move_keeps n (Some session) = by session.job
    where
      by : (j : Job) → Keeps s (move_doubted s n (Some (record { caller = session.caller; job = j })))
      by (Creates image r d) = (refl, refl)
      by (Moves image from to f) = (refl, refl)

  deletion_keeps : (k : KeyKind) (o : Option Held) → Keeps s (deletion_doubted s k o)
  deletion_keeps k None = (refl, refl)
  deletion_keeps k (Some x) = (refl, refl)

  found_keeps : (k : KeyKind) (o : Option Held) → Keeps s (found_there s k o)
  found_keeps k None = (refl, refl)
  found_keeps k (Some x) = (ap (λ (d : Desk). d.leases) (found_rest s k x), ap (λ (d : Desk). d.next_lease) (found_rest s k x))

  leaves : (c : ℕ) (e : DepotNoted) (r : DepotTold) → Leaves s e (state_after s c e r)
  leaves c (noted.OpenImage image) (told.Opened lease m) = inr (inl (_, refl, refl))
  leaves c (noted.Close lease) told.Closed = inr (inr (lease, refl, refl, refl))
  leaves c (noted.BeginCreate image) (told.Began session root bytes number) = inl (refl, refl)
  leaves c (noted.PutChunk n name) told.Kept = inl (chunk_keeps c n name (map.get s.desk.sessions n) refl)
  leaves c (noted.PutChunk n name) (told.Fault k) = inl (refl, refl)
  leaves c (noted.PutManifest n m) (told.Made r) = inl (put_keeps n (map.get s.desk.sessions n) _)
  leaves c (noted.PutManifest n m) (told.Fault (kind.Manifest r image)) = inl (refl, refl)
  leaves c (noted.PutManifest n m) (told.Fault k) = inl (refl, refl)
  leaves c (noted.Abandon n) told.Abandoned = inl (refl, refl)
  leaves c (noted.Rotate bytes) (told.Rotated r) = inl (refl, refl)
  leaves c (noted.Rotate bytes) (told.Fault k) = inl (refl, refl)
  leaves c (noted.BeginMigrate image) (told.Moving session from to m) = inl (refl, refl)
  leaves c (noted.FinishMigrate n) (told.Moved from to) = inl (moved_keeps n (map.get s.desk.sessions n))
  leaves c (noted.FinishMigrate n) (told.Fault k) = inl (move_keeps n (map.get s.desk.sessions n))
  leaves c (noted.Withdraw image) told.Withdrawn = inl (refl, refl)
  leaves c (noted.Withdraw image) (told.Fault k) = inl (refl, refl)
  leaves c (noted.Expire r) told.Expired = inl (refl, refl)
  leaves c (noted.Expire r) (told.Fault k) = inl (refl, refl)
  leaves c (noted.Delete r) told.Deleted = inl (refl, refl)
  leaves c (noted.Delete r) (told.Fault k) = inl (refl, refl)
  leaves c (noted.Sweep r) (told.Removed k) = inl (refl, refl)
  leaves c (noted.Sweep r) (told.Fault k) = inl (deletion_keeps k (map.get s.known.view k))
  leaves c (noted.Settle k) told.There = inl (found_keeps k (map.get s.known.doubts k))
  leaves c (noted.Settle k) told.Absent = inl (refl, refl)
  leaves c noted.Reap told.Reaped = inl (refl, refl)
  leaves c e r = inl (refl, refl)

-- ---- each lease is below the next one

abbrev AreBelow : State → Type 0
AreBelow s = (n : ℕ) (l : List ℕ × ManifestFields) → map.get s.desk.leases n ≡ Some l → n < s.desk.next_lease

below_next : (s : State) (e : DepotNoted) (t : State) → Leaves s e t → AreBelow s → AreBelow t
below_next s e t (inl k) h n l at = rw k.1 (h n l (ap (λ v. map.get v n) (sym k.0) ∙ at))
below_next s e t (inr (inl o)) h n l at = rw o.2 (elim (cases_n n s.desk.next_lease) [
  | inl same ↦ omega (arith, same)
  | inr ne ↦
      let before : n < s.desk.next_lease = h n l (sym (other_n s.desk.leases s.desk.next_lease o.0 n ne) ∙ ap (λ v. map.get v n) (sym o.1) ∙ at) in
      omega (arith, before)
])
below_next s e t (inr (inr k)) h n l at = rw k.3 (elim (cases_n n k.0) [
  | inl same ↦ none_some _ l (ap (map.get (map.remove s.desk.leases k.0)) same ∙ gone_n s.desk.leases k.0) (ap (λ v. map.get v n) (sym k.2) ∙ at)
  | inr ne ↦ h n l (sym (gone_other_n s.desk.leases k.0 n ne) ∙ ap (λ v. map.get v n) (sym k.2) ∙ at)
])

below_after : (s : State) (log : List LogEntry) → AreBelow s → AreBelow (run s log)
below_after s [] h = h
below_after s (e ∷ log) h = below_after (after_entry s e) log (below_next s e.call (after_entry s e) (leaves s e.caller e.call e.reply) h)

below : (start : Start) (log : List LogEntry) → AreBelow (state start log)
below start log = below_after (first_state start) log (λ n l at. none_some _ l (get-empty nat_cmp n) at)

-- ---- one entry

not_closed : (asked : DepotCall) (k lease : ℕ) → IsNoted asked (noted.Close k) → IsNoClose lease (call.Depot asked) → k ≢ lease
not_closed (asks.Close closed) k lease e h = λ f. h (closed_is e ∙ f)
  where
    closed_is : noted.Close k ≡ noted.Close closed → closed ≡ k
    closed_is e = cc
not_closed (asks.OpenImage image) k lease e h = absurd (cc)
not_closed (asks.Fetch l index) k lease e h = absurd (cc)
not_closed (asks.BeginCreate image) k lease e h = absurd (cc)
not_closed (asks.PutChunk n chunk) k lease e h = absurd e
not_closed (asks.PutManifest n m) k lease e h = absurd e
not_closed (asks.Abandon n) k lease e h = absurd (cc)
not_closed (asks.Rotate bytes) k lease e h = absurd (cc)
not_closed (asks.BeginMigrate image) k lease e h = absurd (cc)
not_closed (asks.CopyRead n index) k lease e h = absurd (cc)
not_closed (asks.FinishMigrate n) k lease e h = absurd (cc)
not_closed (asks.Withdraw image) k lease e h = absurd (cc)
not_closed (asks.Expire r) k lease e h = absurd (cc)
not_closed (asks.Delete r) k lease e h = absurd (cc)
not_closed (asks.Sweep r) k lease e h = absurd (cc)
not_closed (asks.Settle q) k lease e h = absurd (cc)
not_closed asks.Reap k lease e h = absurd (cc)

out_next : (s t : State) (asked : DepotCall) (e : DepotNoted) (lease : ℕ) (l : List ℕ × ManifestFields) → Leaves s e t → AreBelow s → IsNoted asked e → IsNoClose lease (call.Depot asked)
    → map.get s.desk.leases lease ≡ Some l → map.get t.desk.leases lease ≡ Some l
out_next s t asked e lease l (inl k) h is open_still out = ap (λ v. map.get v lease) k.0 ∙ out
out_next s t asked e lease l (inr (inl o)) h is open_still out =
    let before : lease < s.desk.next_lease = h lease l out in
    ap (λ v. map.get v lease) o.1 ∙ other_n s.desk.leases s.desk.next_lease o.0 lease (λ f. absurd (omega (arith, before, f))) ∙ out
out_next s t asked e lease l (inr (inr k)) h is open_still out =
    let other : k.0 ≢ lease = not_closed asked k.0 lease (subst (IsNoted asked) k.1 is) open_still in
    ap (λ v. map.get v lease) k.2 ∙ gone_other_n s.desk.leases k.0 lease (λ f. other (sym f)) ∙ out

-- ---- one call

out_same : (old new : Objects) (place : DevicePlace) → new.start ≡ old.start → new.depot ≡ old.depot → IsOut old place → IsOut new place
out_same old new place e f out = rw (e, f) out

out_logged : (old new : Objects) (number : ℕ) (place : DevicePlace) (asked : DepotCall) (reply : DepotReply) (b : Bool) → new.start ≡ old.start → Logs b (λ e. Enters asked reply e) number old.depot new.depot
    → IsNoClose place.lease (call.Depot asked) → IsOut old place → IsOut new place
out_logged old new number place asked reply false same l open_still out = out_same old new place same l out
out_logged old new number place asked reply true same l open_still out =
    let e : LogEntry = l.0 in
    let s : State = state old.start old.depot in
    let t : State = after_entry s e in
    let one : run (first_state old.start) (old.depot ++ e ∷ []) ≡ t = fold-append after_entry (first_state old.start) old.depot (e ∷ []) in
    let at : map.get t.desk.leases place.lease ≡ Some (out.0, out.1) = out_next s t asked e.call place.lease (out.0, out.1) (leaves s e.caller e.call e.reply) (below old.start old.depot) l.3.noted open_still out.2 in
    (out.0, out.1, ap (λ (x : Start). map.get (state x new.depot).desk.leases place.lease) same ∙ ap (λ (log : List LogEntry). map.get (state old.start log).desk.leases place.lease) l.1 ∙ ap (λ (x : State). map.get x.desk.leases place.lease) one ∙ at, out.3)

pub leases_out : LeasesStayOut
leases_out old new number place (call.Depot asked) (by.Depot reply) c open_still out = out_logged old new number place asked reply (is_logged reply) c.start c.logs open_still out
leases_out old new number place (call.Device n asked) (by.Device reply) c open_still out = out_same old new place c.start c.others.2 out
leases_out old new number place (call.Cache n asked) (by.Cache reply) c open_still out = out_same old new place c.start c.others.2 out
leases_out old new number place (call.Node n asked) (by.Node reply) c open_still out = out_same old new place c.start c.others.2 out
leases_out old new number place asked reply c open_still out = absurd c.replies

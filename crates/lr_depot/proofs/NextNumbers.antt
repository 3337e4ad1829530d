-- The numbers of the next lease and the next session after an entry of the log.
use Rattle.std.proofs.Common.{◌≡◌, ◌≤◌, ◌+◌, ℕ, Option, Some, None, refl, arith}
use Rattle.std.specs.Arc.{arc_value}
use Rattle.std.specs.FinMap as map
use Rattle.lr_manifest.specs.Manifest.{ManifestFields}
use Rattle.lr_origin.specs.declared.key.KeyKind.{KeyKind}
use Rattle.lr_origin.specs.declared.key.KeyKind.TheVariants as kind
use Rattle.lr_roots.specs.View.{Held, manifest}
use Rattle.lr_rules.specs.Calls.{settled_there}
use Rattle.lr_rules.specs.State.{Job, Creates, Moves, Session, State, target}
use Rattle.lr_depot.specs.declared.call.DepotNoted.{DepotNoted}
use Rattle.lr_depot.specs.declared.call.DepotNoted.TheVariants as noted
use Rattle.lr_depot.specs.declared.call.DepotTold.{DepotTold}
use Rattle.lr_depot.specs.declared.call.DepotTold.TheVariants as told
use Rattle.lr_depot.specs.Machine.{LogEntry, state_after, after_entry, manifest_put, manifest_moved, move_doubted, deletion_doubted, found_there}

-- each next number of t is at most one above that of s
abbrev pub AreNear : State → State → Type 0
AreNear s t = (t.desk.next_lease ≤ s.desk.next_lease + 1) × (t.desk.next_session ≤ s.desk.next_session + 1)

module _ (s : State) (c : ℕ) where
  chunk_near : (n : ℕ) (name : _) → AreNear s (state_after s c (noted.PutChunk n name) told.Kept)
  chunk_near n name = by (map.get s.desk.sessions n) refl
    where
      by : (o : Option Session) → map.get s.desk.sessions n ≡ o → AreNear s (state_after s c (noted.PutChunk n name) told.Kept)
      by None e = rw e (omega arith, omega arith)
      by (Some j) e = at (map.get s.known.view (kind.Chunk (target j.job) name.bytes)) refl
        where
          at : (o : Option Held) → map.get s.known.view (kind.Chunk (target j.job) name.bytes) ≡ o → AreNear s (state_after s c (noted.PutChunk n name) told.Kept)
          at None f = rw e (rw f (omega arith, omega arith))
          at (Some x) f = rw e (rw f (omega arith, omega arith))

  job_near : (n b : ℕ) (j : Job) (m : ManifestFields) → AreNear s (manifest_put s n (Some (record { caller = b; job = j })) m)
  job_near n b (Creates image r d) m = (omega arith, omega arith)
  job_near n b (Moves image from to p) m = (omega arith, omega arith)

  manifest_near : (n : ℕ) (o : Option Session) (m : ManifestFields) → AreNear s (manifest_put s n o m)
  manifest_near n None m = (omega arith, omega arith)
  manifest_near n (Some z) m = job_near n z.caller z.job m

  doubt_near : (n : ℕ) (k : KeyKind) (m : _) → AreNear s (state_after s c (noted.PutManifest n m) (told.Fault k))
  doubt_near n (kind.Manifest r image) m = (omega arith, omega arith)
  doubt_near n k m = (omega arith, omega arith)

  moved_near : (n b : ℕ) (j : Job) → AreNear s (manifest_moved s n (Some (record { caller = b; job = j })))
  moved_near n b (Creates image r d) = (omega arith, omega arith)
  moved_near n b (Moves image from to p) = (omega arith, omega arith)

  move_near : (n : ℕ) (o : Option Session) → AreNear s (manifest_moved s n o)
  move_near n None = (omega arith, omega arith)
  move_near n (Some z) = moved_near n z.caller z.job

  doubted_near : (n b : ℕ) (j : Job) → AreNear s (move_doubted s n (Some (record { caller = b; job = j })))
  doubted_near n b (Creates image r d) = (omega arith, omega arith)
  doubted_near n b (Moves image from to p) = (omega arith, omega arith)

  unmoved_near : (n : ℕ) (o : Option Session) → AreNear s (move_doubted s n o)
  unmoved_near n None = (omega arith, omega arith)
  unmoved_near n (Some z) = doubted_near n z.caller z.job

  sweep_near : (k : KeyKind) (o : Option Held) → AreNear s (deletion_doubted s k o)
  sweep_near k None = (omega arith, omega arith)
  sweep_near k (Some x) = (omega arith, omega arith)

  there_near : (k : KeyKind) (x : Held) → AreNear s (settled_there s k x)
  there_near (kind.Manifest r image) (manifest m) = (omega arith, omega arith)
  there_near (kind.Manifest r image) x = (omega arith, omega arith)
  there_near k x = (omega arith, omega arith)

  found_near : (k : KeyKind) (o : Option Held) → AreNear s (found_there s k o)
  found_near k None = (omega arith, omega arith)
  found_near k (Some x) = there_near k x

  pub near : (n : DepotNoted) (t : DepotTold) → AreNear s (state_after s c n t)
  near (noted.OpenImage image) (told.Opened lease m) = (omega arith, omega arith)
  near (noted.Close lease) told.Closed = (omega arith, omega arith)
  near (noted.BeginCreate image) (told.Began session root bytes number) = (omega arith, omega arith)
  near (noted.PutChunk n name) told.Kept = chunk_near n name
  near (noted.PutChunk n name) (told.Fault k) = (omega arith, omega arith)
  near (noted.PutManifest n m) (told.Made r) = manifest_near n (map.get s.desk.sessions n) (arc_value m)
  near (noted.PutManifest n m) (told.Fault k) = doubt_near n k m
  near (noted.Abandon n) told.Abandoned = (omega arith, omega arith)
  near (noted.Rotate bytes) (told.Rotated r) = (omega arith, omega arith)
  near (noted.Rotate bytes) (told.Fault k) = (omega arith, omega arith)
  near (noted.BeginMigrate image) (told.Moving session from to m) = (omega arith, omega arith)
  near (noted.FinishMigrate n) (told.Moved from to) = move_near n (map.get s.desk.sessions n)
  near (noted.FinishMigrate n) (told.Fault k) = unmoved_near n (map.get s.desk.sessions n)
  near (noted.Withdraw image) told.Withdrawn = (omega arith, omega arith)
  near (noted.Withdraw image) (told.Fault k) = (omega arith, omega arith)
  near (noted.Expire r) told.Expired = (omega arith, omega arith)
  near (noted.Expire r) (told.Fault k) = (omega arith, omega arith)
  near (noted.Delete r) told.Deleted = (omega arith, omega arith)
  near (noted.Delete r) (told.Fault k) = (omega arith, omega arith)
  near (noted.Sweep r) (told.Removed k) = (omega arith, omega arith)
  near (noted.Sweep r) (told.Fault k) = sweep_near k (map.get s.known.view k)
  near (noted.Settle k) told.There = found_near k (map.get s.known.doubts k)
  near (noted.Settle k) told.Absent = (omega arith, omega arith)
  near noted.Reap told.Reaped = (omega arith, omega arith)
  near n t = (omega arith, omega arith)

-- No entry moves a next number by more than one.
pub next_more : (s : State) (e : LogEntry) → AreNear s (after_entry s e)
next_more s e = near s e.caller e.call e.reply

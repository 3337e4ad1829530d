-- the depot's replies as plain data
use Rattle.std.proofs.Common.{◌≡◌, ℕ, ap}
use Rattle.lr_rules.specs.State.{State}
use Rattle.lr_depot.specs.declared.call.DepotCall.{DepotCall}
use Rattle.lr_depot.specs.declared.call.DepotCall.TheVariants.{OpenImage, Fetch, Close, BeginCreate, PutChunk, PutManifest, Abandon, Rotate, BeginMigrate, CopyRead, FinishMigrate, Withdraw, Expire, Delete, Sweep, Settle, Reap}
use Rattle.lr_depot.specs.declared.call.DepotReply.{DepotReply}
use Rattle.lr_depot.specs.declared.call.DepotReply.TheVariants.{NoImage, Opened, NoLease, NoChunk, Fetched, Closed, NoRoot, Taken, Doubt, Full, Began, NoSession, Kept, Nonce, Missing, Made, Abandoned, RootsEnd, Rotated, NotRetiredHome, Moving, Copied, Overtaken, Moved, Withdrawn, NotRetired, Serves, Expired, NotExpired, Deleted, NotDeleted, Removed, Swept, NoDoubt, There, Absent, Reaped, Nothing, Fault, Spoiled, OutOfMemory}
use Rattle.lr_depot.specs.declared.call.DepotReply.TheVariants as by
use Rattle.lr_depot.specs.declared.call.DepotNoted.{DepotNoted}
use Rattle.lr_depot.specs.declared.call.DepotNoted.TheVariants as noted
use Rattle.lr_depot.specs.declared.call.DepotTold.{DepotTold}
use Rattle.lr_depot.specs.declared.call.DepotTold.TheVariants as told
use Rattle.lr_depot.specs.Machine.{LogEntry, DepotStep, Enters, IsNoted, IsTold}
use Rattle.lr_walk.specs.Depot.{puts_chunk, puts_manifest, opened, fetched, moving, copied, seen_call, seen_noted, seen_reply, seen_told, step, step_of, Answers}

pub answers_by_table : (s : State) (c : ℕ) (asked : DepotCall) (reply : DepotReply) → DepotStep s c asked reply → Answers (seen_call asked) (seen_reply reply)
answers_by_table s c (OpenImage image) NoImage d = tt
answers_by_table s c (OpenImage image) (Opened lease m) d = tt
answers_by_table s c (OpenImage image) OutOfMemory d = tt
answers_by_table s c (OpenImage image) reply d = absurd d
answers_by_table s c (Fetch lease index) NoLease d = tt
answers_by_table s c (Fetch lease index) NoChunk d = tt
answers_by_table s c (Fetch lease index) (Fetched chunk) d = tt
answers_by_table s c (Fetch lease index) (Fault k) d = tt
answers_by_table s c (Fetch lease index) (Spoiled k) d = tt
answers_by_table s c (Fetch lease index) OutOfMemory d = tt
answers_by_table s c (Fetch lease index) reply d = absurd d
answers_by_table s c (Close lease) NoLease d = tt
answers_by_table s c (Close lease) Closed d = tt
answers_by_table s c (Close lease) OutOfMemory d = tt
answers_by_table s c (Close lease) reply d = absurd d
answers_by_table s c (BeginCreate image) NoRoot d = tt
answers_by_table s c (BeginCreate image) Taken d = tt
answers_by_table s c (BeginCreate image) (Doubt k) d = tt
answers_by_table s c (BeginCreate image) Full d = tt
answers_by_table s c (BeginCreate image) (Began session root bytes number) d = tt
answers_by_table s c (BeginCreate image) OutOfMemory d = tt
answers_by_table s c (BeginCreate image) reply d = absurd d
answers_by_table s c (PutChunk n chunk) NoSession d = tt
answers_by_table s c (PutChunk n chunk) Kept d = tt
answers_by_table s c (PutChunk n chunk) (Fault k) d = tt
answers_by_table s c (PutChunk n chunk) (Spoiled k) d = tt
answers_by_table s c (PutChunk n chunk) OutOfMemory d = tt
answers_by_table s c (PutChunk n chunk) reply d = absurd d
answers_by_table s c (PutManifest n m) NoSession d = tt
answers_by_table s c (PutManifest n m) Nonce d = tt
answers_by_table s c (PutManifest n m) (Doubt k) d = tt
answers_by_table s c (PutManifest n m) (Missing i) d = tt
answers_by_table s c (PutManifest n m) (Made r) d = tt
answers_by_table s c (PutManifest n m) (Fault k) d = tt
answers_by_table s c (PutManifest n m) (Spoiled k) d = tt
answers_by_table s c (PutManifest n m) OutOfMemory d = tt
answers_by_table s c (PutManifest n m) reply d = absurd d
answers_by_table s c (Abandon n) NoSession d = tt
answers_by_table s c (Abandon n) Abandoned d = tt
answers_by_table s c (Abandon n) OutOfMemory d = tt
answers_by_table s c (Abandon n) reply d = absurd d
answers_by_table s c (Rotate bytes) (Doubt k) d = tt
answers_by_table s c (Rotate bytes) RootsEnd d = tt
answers_by_table s c (Rotate bytes) (Rotated r) d = tt
answers_by_table s c (Rotate bytes) (Fault k) d = tt
answers_by_table s c (Rotate bytes) (Spoiled k) d = tt
answers_by_table s c (Rotate bytes) OutOfMemory d = tt
answers_by_table s c (Rotate bytes) reply d = absurd d
answers_by_table s c (BeginMigrate image) NoImage d = tt
answers_by_table s c (BeginMigrate image) (NotRetiredHome home) d = tt
answers_by_table s c (BeginMigrate image) (Moving session from to m) d = tt
answers_by_table s c (BeginMigrate image) OutOfMemory d = tt
answers_by_table s c (BeginMigrate image) reply d = absurd d
answers_by_table s c (CopyRead n index) NoSession d = tt
answers_by_table s c (CopyRead n index) NoChunk d = tt
answers_by_table s c (CopyRead n index) (Copied chunk) d = tt
answers_by_table s c (CopyRead n index) (Fault k) d = tt
answers_by_table s c (CopyRead n index) (Spoiled k) d = tt
answers_by_table s c (CopyRead n index) OutOfMemory d = tt
answers_by_table s c (CopyRead n index) reply d = absurd d
answers_by_table s c (FinishMigrate n) NoSession d = tt
answers_by_table s c (FinishMigrate n) (Overtaken home) d = tt
answers_by_table s c (FinishMigrate n) (Doubt k) d = tt
answers_by_table s c (FinishMigrate n) (Missing i) d = tt
answers_by_table s c (FinishMigrate n) (Moved from to) d = tt
answers_by_table s c (FinishMigrate n) (Fault k) d = tt
answers_by_table s c (FinishMigrate n) (Spoiled k) d = tt
answers_by_table s c (FinishMigrate n) OutOfMemory d = tt
answers_by_table s c (FinishMigrate n) reply d = absurd d
answers_by_table s c (Withdraw image) NoImage d = tt
answers_by_table s c (Withdraw image) Withdrawn d = tt
answers_by_table s c (Withdraw image) (Fault k) d = tt
answers_by_table s c (Withdraw image) (Spoiled k) d = tt
answers_by_table s c (Withdraw image) OutOfMemory d = tt
answers_by_table s c (Withdraw image) reply d = absurd d
answers_by_table s c (Expire r) NotRetired d = tt
answers_by_table s c (Expire r) (Serves image) d = tt
answers_by_table s c (Expire r) (by.Session n) d = tt
answers_by_table s c (Expire r) (Doubt k) d = tt
answers_by_table s c (Expire r) Expired d = tt
answers_by_table s c (Expire r) (Fault k) d = tt
answers_by_table s c (Expire r) (Spoiled k) d = tt
answers_by_table s c (Expire r) OutOfMemory d = tt
answers_by_table s c (Expire r) reply d = absurd d
answers_by_table s c (Delete r) NotExpired d = tt
answers_by_table s c (Delete r) Deleted d = tt
answers_by_table s c (Delete r) (Fault k) d = tt
answers_by_table s c (Delete r) (Spoiled k) d = tt
answers_by_table s c (Delete r) OutOfMemory d = tt
answers_by_table s c (Delete r) reply d = absurd d
answers_by_table s c (Sweep r) NotDeleted d = tt
answers_by_table s c (Sweep r) (Removed k) d = tt
answers_by_table s c (Sweep r) Swept d = tt
answers_by_table s c (Sweep r) (Fault k) d = tt
answers_by_table s c (Sweep r) OutOfMemory d = tt
answers_by_table s c (Sweep r) reply d = absurd d
answers_by_table s c (Settle q) NoDoubt d = tt
answers_by_table s c (Settle q) There d = tt
answers_by_table s c (Settle q) Absent d = tt
answers_by_table s c (Settle q) (Fault k) d = tt
answers_by_table s c (Settle q) (Spoiled k) d = tt
answers_by_table s c (Settle q) OutOfMemory d = tt
answers_by_table s c (Settle q) reply d = absurd d
answers_by_table s c Reap Reaped d = tt
answers_by_table s c Reap Nothing d = tt
answers_by_table s c Reap reply d = absurd d

noted_call : (asked : DepotCall) (e : DepotNoted) → IsNoted asked e → seen_noted e ≡ seen_call asked
noted_call (OpenImage image) e h = ap seen_noted h
noted_call (Fetch lease index) e h = ap seen_noted h
noted_call (Close lease) e h = ap seen_noted h
noted_call (BeginCreate image) e h = ap seen_noted h
noted_call (PutChunk n chunk) (noted.PutChunk k name) h = λ i. puts_chunk (h.0 i) (h.1 i)
noted_call (PutChunk n chunk) e h = absurd h
noted_call (PutManifest n m) (noted.PutManifest k other) h = λ i. puts_manifest (h.0 i) (h.1 i)
noted_call (PutManifest n m) e h = absurd h
noted_call (Abandon n) e h = ap seen_noted h
noted_call (Rotate bytes) e h = ap seen_noted h
noted_call (BeginMigrate image) e h = ap seen_noted h
noted_call (CopyRead n index) e h = ap seen_noted h
noted_call (FinishMigrate n) e h = ap seen_noted h
noted_call (Withdraw image) e h = ap seen_noted h
noted_call (Expire r) e h = ap seen_noted h
noted_call (Delete r) e h = ap seen_noted h
noted_call (Sweep r) e h = ap seen_noted h
noted_call (Settle q) e h = ap seen_noted h
noted_call Reap e h = ap seen_noted h

told_reply : (reply : DepotReply) (e : DepotTold) → IsTold reply e → seen_told e ≡ seen_reply reply
told_reply NoImage e h = ap seen_told h
told_reply (Opened lease m) (told.Opened other n) h = λ i. opened (h.0 i) (h.1 i)
told_reply (Opened lease m) e h = absurd h
told_reply NoLease e h = ap seen_told h
told_reply NoChunk e h = ap seen_told h
told_reply (Fetched chunk) (told.Fetched name) h = ap fetched h
told_reply (Fetched chunk) e h = absurd h
told_reply Closed e h = ap seen_told h
told_reply NoRoot e h = ap seen_told h
told_reply Taken e h = ap seen_told h
told_reply (Doubt k) e h = ap seen_told h
told_reply Full e h = ap seen_told h
told_reply (Began session root bytes number) e h = ap seen_told h
told_reply NoSession e h = ap seen_told h
told_reply Kept e h = ap seen_told h
told_reply Nonce e h = ap seen_told h
told_reply (Missing i) e h = ap seen_told h
told_reply (Made r) e h = ap seen_told h
told_reply Abandoned e h = ap seen_told h
told_reply RootsEnd e h = ap seen_told h
told_reply (Rotated r) e h = ap seen_told h
told_reply (NotRetiredHome home) e h = ap seen_told h
told_reply (Moving session from to m) (told.Moving other f t n) h = λ i. moving (h.0 i) (h.1 i) (h.2 i) (h.3 i)
told_reply (Moving session from to m) e h = absurd h
told_reply (Copied chunk) (told.Copied name) h = ap copied h
told_reply (Copied chunk) e h = absurd h
told_reply (Overtaken home) e h = ap seen_told h
told_reply (Moved from to) e h = ap seen_told h
told_reply Withdrawn e h = ap seen_told h
told_reply NotRetired e h = ap seen_told h
told_reply (Serves image) e h = ap seen_told h
told_reply (by.Session n) e h = ap seen_told h
told_reply Expired e h = ap seen_told h
told_reply NotExpired e h = ap seen_told h
told_reply Deleted e h = ap seen_told h
told_reply NotDeleted e h = ap seen_told h
told_reply (Removed k) e h = ap seen_told h
told_reply Swept e h = ap seen_told h
told_reply NoDoubt e h = ap seen_told h
told_reply There e h = ap seen_told h
told_reply Absent e h = ap seen_told h
told_reply Reaped e h = ap seen_told h
told_reply Nothing e h = absurd h
told_reply (Fault k) e h = ap seen_told h
told_reply (Spoiled k) e h = ap seen_told h
told_reply OutOfMemory e h = absurd h

pub entry_step : (asked : DepotCall) (reply : DepotReply) (e : LogEntry) → Enters asked reply e → step_of e ≡ step (seen_call asked) (seen_reply reply)
entry_step asked reply e enters = λ i. step (noted_call asked e.call enters.noted i) (told_reply reply e.reply enters.told i)

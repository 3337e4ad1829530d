-- Calls on a depot with their replies, as plain data: a chunk by its name, a manifest by its fields.
use Rattle.std.specs.Prelude.{ℕ, List, [], ◌∷◌, ⊤}
use Rattle.std.specs.Arc.{arc_value}
use Rattle.sha2.specs.Sha256.{sha256}
use Rattle.lr_manifest.specs.Manifest.{ManifestFields}
use Rattle.lr_origin.specs.declared.key.KeyKind.{KeyKind}
use Rattle.lr_depot.specs.declared.call.DepotCall.{DepotCall}
use Rattle.lr_depot.specs.declared.call.DepotCall.TheVariants as call
use Rattle.lr_depot.specs.declared.call.DepotNoted.{DepotNoted}
use Rattle.lr_depot.specs.declared.call.DepotNoted.TheVariants as noted
use Rattle.lr_depot.specs.declared.call.DepotReply.{DepotReply}
use Rattle.lr_depot.specs.declared.call.DepotReply.TheVariants as by
use Rattle.lr_depot.specs.declared.call.DepotTold.{DepotTold}
use Rattle.lr_depot.specs.declared.call.DepotTold.TheVariants as told
use Rattle.lr_depot.specs.Machine.{LogEntry}
use Rattle.lr_walk.specs.Walk as walks

pub data Call : Type 0 where
  opens : (image : List ℕ) → Call
  fetches : (lease index : ℕ) → Call
  closes : (lease : ℕ) → Call
  begins : (image : List ℕ) → Call
  puts_chunk : (session : ℕ) (name : List ℕ) → Call
  puts_manifest : (session : ℕ) (fields : ManifestFields) → Call
  abandons : (session : ℕ) → Call
  rotates : (bytes : List ℕ) → Call
  begins_move : (image : List ℕ) → Call
  copies : (session index : ℕ) → Call
  finishes_move : (session : ℕ) → Call
  withdraws : (image : List ℕ) → Call
  expires : (root : ℕ) → Call
  deletes : (root : ℕ) → Call
  sweeps : (root : ℕ) → Call
  settles : (key : KeyKind) → Call
  reaps : Call

pub data Reply : Type 0 where
  no_image : Reply
  opened : (lease : ℕ) (fields : ManifestFields) → Reply
  no_lease : Reply
  no_chunk : Reply
  fetched : (name : List ℕ) → Reply
  closed : Reply
  no_root : Reply
  taken : Reply
  doubt : (key : KeyKind) → Reply
  full : Reply
  began : (session root : ℕ) (bytes : List ℕ) (number : ℕ) → Reply
  no_session : Reply
  kept : Reply
  nonce : Reply
  missing : (index : ℕ) → Reply
  made : (root : ℕ) → Reply
  abandoned : Reply
  roots_end : Reply
  rotated : (root : ℕ) → Reply
  not_retired_home : (home : ℕ) → Reply
  moving : (session from to : ℕ) (fields : ManifestFields) → Reply
  copied : (name : List ℕ) → Reply
  overtaken : (home : ℕ) → Reply
  moved : (from to : ℕ) → Reply
  withdrawn : Reply
  not_retired : Reply
  serves : (image : List ℕ) → Reply
  session_on : (session : ℕ) → Reply
  expired : Reply
  not_expired : Reply
  deleted : Reply
  not_deleted : Reply
  removed : (key : KeyKind) → Reply
  swept : Reply
  no_doubt : Reply
  there : Reply
  absent : Reply
  reaped : Reply
  nothing : Reply
  fault : (key : KeyKind) → Reply
  spoiled : (key : KeyKind) → Reply
  memory : Reply

abbrev pub seen_call : DepotCall → Call
seen_call (call.OpenImage image) = opens image
seen_call (call.Fetch lease index) = fetches lease index
seen_call (call.Close lease) = closes lease
seen_call (call.BeginCreate image) = begins image
seen_call (call.PutChunk session chunk) = puts_chunk session (sha256 (arc_value chunk))
seen_call (call.PutManifest session m) = puts_manifest session (arc_value m)
seen_call (call.Abandon session) = abandons session
seen_call (call.Rotate bytes) = rotates bytes
seen_call (call.BeginMigrate image) = begins_move image
seen_call (call.CopyRead session index) = copies session index
seen_call (call.FinishMigrate session) = finishes_move session
seen_call (call.Withdraw image) = withdraws image
seen_call (call.Expire root) = expires root
seen_call (call.Delete root) = deletes root
seen_call (call.Sweep root) = sweeps root
seen_call (call.Settle key) = settles key
seen_call call.Reap = reaps

abbrev pub seen_noted : DepotNoted → Call
seen_noted (noted.OpenImage image) = opens image
seen_noted (noted.Fetch lease index) = fetches lease index
seen_noted (noted.Close lease) = closes lease
seen_noted (noted.BeginCreate image) = begins image
seen_noted (noted.PutChunk session name) = puts_chunk session name.bytes
seen_noted (noted.PutManifest session m) = puts_manifest session (arc_value m)
seen_noted (noted.Abandon session) = abandons session
seen_noted (noted.Rotate bytes) = rotates bytes
seen_noted (noted.BeginMigrate image) = begins_move image
seen_noted (noted.CopyRead session index) = copies session index
seen_noted (noted.FinishMigrate session) = finishes_move session
seen_noted (noted.Withdraw image) = withdraws image
seen_noted (noted.Expire root) = expires root
seen_noted (noted.Delete root) = deletes root
seen_noted (noted.Sweep root) = sweeps root
seen_noted (noted.Settle key) = settles key
seen_noted noted.Reap = reaps

abbrev pub seen_reply : DepotReply → Reply
seen_reply by.NoImage = no_image
seen_reply (by.Opened lease m) = opened lease (arc_value m)
seen_reply by.NoLease = no_lease
seen_reply by.NoChunk = no_chunk
seen_reply (by.Fetched chunk) = fetched (sha256 (arc_value chunk))
seen_reply by.Closed = closed
seen_reply by.NoRoot = no_root
seen_reply by.Taken = taken
seen_reply (by.Doubt k) = doubt k
seen_reply by.Full = full
seen_reply (by.Began session root bytes number) = began session root bytes number
seen_reply by.NoSession = no_session
seen_reply by.Kept = kept
seen_reply by.Nonce = nonce
seen_reply (by.Missing i) = missing i
seen_reply (by.Made r) = made r
seen_reply by.Abandoned = abandoned
seen_reply by.RootsEnd = roots_end
seen_reply (by.Rotated r) = rotated r
seen_reply (by.NotRetiredHome home) = not_retired_home home
seen_reply (by.Moving session from to m) = moving session from to (arc_value m)
seen_reply (by.Copied chunk) = copied (sha256 (arc_value chunk))
seen_reply (by.Overtaken home) = overtaken home
seen_reply (by.Moved from to) = moved from to
seen_reply by.Withdrawn = withdrawn
seen_reply by.NotRetired = not_retired
seen_reply (by.Serves image) = serves image
seen_reply (by.Session session) = session_on session
seen_reply by.Expired = expired
seen_reply by.NotExpired = not_expired
seen_reply by.Deleted = deleted
seen_reply by.NotDeleted = not_deleted
seen_reply (by.Removed k) = removed k
seen_reply by.Swept = swept
seen_reply by.NoDoubt = no_doubt
seen_reply by.There = there
seen_reply by.Absent = absent
seen_reply by.Reaped = reaped
seen_reply by.Nothing = nothing
seen_reply (by.Fault k) = fault k
seen_reply (by.Spoiled k) = spoiled k
seen_reply by.OutOfMemory = memory

abbrev pub seen_told : DepotTold → Reply
seen_told told.NoImage = no_image
seen_told (told.Opened lease m) = opened lease (arc_value m)
seen_told told.NoLease = no_lease
seen_told told.NoChunk = no_chunk
seen_told (told.Fetched name) = fetched name.bytes
seen_told told.Closed = closed
seen_told told.NoRoot = no_root
seen_told told.Taken = taken
seen_told (told.Doubt k) = doubt k
seen_told told.Full = full
seen_told (told.Began session root bytes number) = began session root bytes number
seen_told told.NoSession = no_session
seen_told told.Kept = kept
seen_told told.Nonce = nonce
seen_told (told.Missing i) = missing i
seen_told (told.Made r) = made r
seen_told told.Abandoned = abandoned
seen_told told.RootsEnd = roots_end
seen_told (told.Rotated r) = rotated r
seen_told (told.NotRetiredHome home) = not_retired_home home
seen_told (told.Moving session from to m) = moving session from to (arc_value m)
seen_told (told.Copied name) = copied name.bytes
seen_told (told.Overtaken home) = overtaken home
seen_told (told.Moved from to) = moved from to
seen_told told.Withdrawn = withdrawn
seen_told told.NotRetired = not_retired
seen_told (told.Serves image) = serves image
seen_told (told.Session session) = session_on session
seen_told told.Expired = expired
seen_told told.NotExpired = not_expired
seen_told told.Deleted = deleted
seen_told told.NotDeleted = not_deleted
seen_told (told.Removed k) = removed k
seen_told told.Swept = swept
seen_told told.NoDoubt = no_doubt
seen_told told.There = there
seen_told told.Absent = absent
seen_told told.Reaped = reaped
seen_told (told.Fault k) = fault k
seen_told (told.Spoiled k) = spoiled k

-- a call on a depot with its reply
abbrev pub Step : Type 0
Step = walks.Step Call Reply

abbrev pub step : Call → Reply → Step
step call reply = walks.step call reply

-- the step of a line of a depot's log
abbrev pub step_of : LogEntry → Step
step_of e = step (seen_noted e.call) (seen_told e.reply)

-- The depot may give this reply to this call, by its table.
abbrev pub Answers : Call → Reply → Type 0
Answers (opens image) no_image = ⊤
Answers (opens image) (opened lease m) = ⊤
Answers (opens image) memory = ⊤
Answers (fetches lease index) no_lease = ⊤
Answers (fetches lease index) no_chunk = ⊤
Answers (fetches lease index) (fetched name) = ⊤
Answers (fetches lease index) (fault k) = ⊤
Answers (fetches lease index) (spoiled k) = ⊤
Answers (fetches lease index) memory = ⊤
Answers (closes lease) no_lease = ⊤
Answers (closes lease) closed = ⊤
Answers (closes lease) memory = ⊤
Answers (begins image) no_root = ⊤
Answers (begins image) taken = ⊤
Answers (begins image) (doubt k) = ⊤
Answers (begins image) full = ⊤
Answers (begins image) (began session root bytes number) = ⊤
Answers (begins image) memory = ⊤
Answers (puts_chunk session name) no_session = ⊤
Answers (puts_chunk session name) kept = ⊤
Answers (puts_chunk session name) (fault k) = ⊤
Answers (puts_chunk session name) (spoiled k) = ⊤
Answers (puts_chunk session name) memory = ⊤
Answers (puts_manifest session m) no_session = ⊤
Answers (puts_manifest session m) nonce = ⊤
Answers (puts_manifest session m) (doubt k) = ⊤
Answers (puts_manifest session m) (missing i) = ⊤
Answers (puts_manifest session m) (made r) = ⊤
Answers (puts_manifest session m) (fault k) = ⊤
Answers (puts_manifest session m) (spoiled k) = ⊤
Answers (puts_manifest session m) memory = ⊤
Answers (abandons session) no_session = ⊤
Answers (abandons session) abandoned = ⊤
Answers (abandons session) memory = ⊤
Answers (rotates bytes) (doubt k) = ⊤
Answers (rotates bytes) roots_end = ⊤
Answers (rotates bytes) (rotated r) = ⊤
Answers (rotates bytes) (fault k) = ⊤
Answers (rotates bytes) (spoiled k) = ⊤
Answers (rotates bytes) memory = ⊤
Answers (begins_move image) no_image = ⊤
Answers (begins_move image) (not_retired_home home) = ⊤
Answers (begins_move image) (moving session from to m) = ⊤
Answers (begins_move image) memory = ⊤
Answers (copies session index) no_session = ⊤
Answers (copies session index) no_chunk = ⊤
Answers (copies session index) (copied name) = ⊤
Answers (copies session index) (fault k) = ⊤
Answers (copies session index) (spoiled k) = ⊤
Answers (copies session index) memory = ⊤
Answers (finishes_move session) no_session = ⊤
Answers (finishes_move session) (overtaken home) = ⊤
Answers (finishes_move session) (doubt k) = ⊤
Answers (finishes_move session) (missing i) = ⊤
Answers (finishes_move session) (moved from to) = ⊤
Answers (finishes_move session) (fault k) = ⊤
Answers (finishes_move session) (spoiled k) = ⊤
Answers (finishes_move session) memory = ⊤
Answers (withdraws image) no_image = ⊤
Answers (withdraws image) withdrawn = ⊤
Answers (withdraws image) (fault k) = ⊤
Answers (withdraws image) (spoiled k) = ⊤
Answers (withdraws image) memory = ⊤
Answers (expires r) not_retired = ⊤
Answers (expires r) (serves image) = ⊤
Answers (expires r) (session_on n) = ⊤
Answers (expires r) (doubt k) = ⊤
Answers (expires r) expired = ⊤
Answers (expires r) (fault k) = ⊤
Answers (expires r) (spoiled k) = ⊤
Answers (expires r) memory = ⊤
Answers (deletes r) not_expired = ⊤
Answers (deletes r) deleted = ⊤
Answers (deletes r) (fault k) = ⊤
Answers (deletes r) (spoiled k) = ⊤
Answers (deletes r) memory = ⊤
Answers (sweeps r) not_deleted = ⊤
Answers (sweeps r) (removed k) = ⊤
Answers (sweeps r) swept = ⊤
Answers (sweeps r) (fault k) = ⊤
Answers (sweeps r) memory = ⊤
Answers (settles key) no_doubt = ⊤
Answers (settles key) there = ⊤
Answers (settles key) absent = ⊤
Answers (settles key) (fault k) = ⊤
Answers (settles key) (spoiled k) = ⊤
Answers (settles key) memory = ⊤
Answers reaps reaped = ⊤
Answers reaps nothing = ⊤
Answers call reply = ⊥

-- the step is this call with this reply, which the depot may give
abbrev pub Tells : Call → Reply → Step → Type 0
Tells call reply s = walks.IsStep Answers call reply s

-- first this call, and after it what its reply asks for
abbrev pub Asks : {E : Type 0} → Call → (Reply → walks.Walks Step E) → walks.Walks Step E
Asks call after = walks.Begins (Tells call) after

abbrev pub with_logged : Reply → Step → List Step → List Step
with_logged memory s steps = steps
with_logged nothing s steps = steps
with_logged reply s steps = s ∷ steps

-- the steps of which a log has an entry: all but those that found no memory, or nothing to do
abbrev pub logged : List Step → List Step
logged [] = []
logged (s ∷ steps) = with_logged s.reply s (logged steps)

-- Calls on a cache with their replies, as plain data: chunks by their bytes.
use Rattle.std.specs.Prelude.{◌≡◌, ℕ, List, ⊤}
use Rattle.std.specs.Arc.{arc_value}
use Rattle.sha2.specs.Sha256.{sha256}
use Rattle.lr_manifest.specs.declared.name.Name.{Name}
use Rattle.lr_cache.specs.declared.call.CacheCall.{CacheCall}
use Rattle.lr_cache.specs.declared.call.CacheCall.TheVariants as call
use Rattle.lr_cache.specs.declared.call.CacheReply.{CacheReply}
use Rattle.lr_cache.specs.declared.call.CacheReply.TheVariants as by
use Rattle.lr_cache.specs.Machine.{LogEntry}
use Rattle.lr_walk.specs.Walk as walks

pub data Call : Type 0 where
  looks : (name : Name) → Call
  fills : (chunk : List ℕ) → Call
  gives_up : Call
  evicts : Call
  reaps : Call

pub data Reply : Type 0 where
  held : Reply
  hit : (chunk : List ℕ) → Reply
  busy : (holder : ℕ) → Reply
  lead : Reply
  no_claim : Reply
  filled : Reply
  given : Reply
  evicted : (count : ℕ) → Reply
  reaped : Reply
  nothing : Reply
  memory : Reply

abbrev pub seen_call : CacheCall → Call
seen_call (call.Look name) = looks name
seen_call (call.Fill chunk) = fills (arc_value chunk)
seen_call call.GiveUp = gives_up
seen_call call.Evict = evicts
seen_call call.Reap = reaps

abbrev pub seen_reply : CacheReply → Reply
seen_reply by.Held = held
seen_reply (by.Hit chunk) = hit (arc_value chunk)
seen_reply (by.Busy holder) = busy holder
seen_reply by.Lead = lead
seen_reply by.NoClaim = no_claim
seen_reply by.Filled = filled
seen_reply by.Given = given
seen_reply (by.Evicted n) = evicted n
seen_reply by.Reaped = reaped
seen_reply by.Nothing = nothing
seen_reply by.OutOfMemory = memory

-- a call on a cache with its reply
abbrev pub Step : Type 0
Step = walks.Step Call Reply

abbrev pub step : Call → Reply → Step
step call reply = walks.step call reply

-- the step of a line of a cache's log
abbrev pub step_of : LogEntry → Step
step_of e = step (seen_call e.call) (seen_reply e.reply)

-- The cache may give this reply to this call, by its table. A hit is a chunk of the name.
abbrev pub Answers : Call → Reply → Type 0
Answers (looks name) held = ⊤
Answers (looks name) (hit chunk) = sha256 chunk ≡ name.bytes
Answers (looks name) (busy holder) = ⊤
Answers (looks name) lead = ⊤
Answers (looks name) memory = ⊤
Answers (fills chunk) no_claim = ⊤
Answers (fills chunk) filled = ⊤
Answers (fills chunk) memory = ⊤
Answers gives_up no_claim = ⊤
Answers gives_up given = ⊤
Answers gives_up memory = ⊤
Answers evicts (evicted n) = ⊤
Answers evicts memory = ⊤
Answers reaps reaped = ⊤
Answers reaps nothing = ⊤
Answers reaps memory = ⊤
Answers call reply = ⊥

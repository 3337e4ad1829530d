-- The cache machine: what each call answers and leaves, one line a row.
use Rattle.std.specs.Prelude.{◌≡◌, ℕ, List, [], ◌∷◌, ◌++◌, Bool, true, false, Option, Some, IsSome, IsNone, find, fold, length, take, ⊤}
use Rattle.std.specs.Arc.{arc_value}
use Rattle.lr_manifest.specs.Chunk.{is_named}
use Rattle.lr_object.specs.declared.entry.Entry.{Entry}
use Rattle.lr_cache.specs.declared.call.Claim.{Claim}
use Rattle.lr_object.specs.Finds.{without_first}
use Rattle.lr_cache.specs.Claims.{is_of, is_on}
use Rattle.lr_cache.specs.declared.call.CacheCall.{CacheCall}
use Rattle.lr_cache.specs.declared.call.CacheCall.TheVariants.{Look, Fill, GiveUp, Evict, Reap}
use Rattle.lr_cache.specs.declared.call.CacheReply.{CacheReply}
use Rattle.lr_cache.specs.declared.call.CacheReply.TheVariants.{Held, Hit, Busy, Lead, NoClaim, Filled, Given, Evicted, Reaped, Nothing, OutOfMemory}

-- what a cache holds
pub record State : Type 0 where
  pub chunks : List (List ℕ)  -- the most recent first
  pub claims : List Claim  -- the oldest first

-- the claim that the caller has out
abbrev pub claim_of : ℕ → State → Option Claim
claim_of caller st = find (is_of caller) st.claims

-- the caller's claim ended
abbrev pub claim_gone : ℕ → State → State
claim_gone caller st = record { chunks = st.chunks; claims = without_first (is_of caller) st.claims }

-- what a call with this reply leaves, at this capacity
abbrev pub state_after : ℕ → State → ℕ → CacheCall → CacheReply → State
state_after capacity st caller (Look name) (Hit chunk) =
    record { chunks = arc_value chunk ∷ without_first (is_named name) st.chunks; claims = st.claims }
state_after capacity st caller (Look name) Lead =
    record { chunks = st.chunks; claims = st.claims ++ record { name = name; caller = caller } ∷ [] }
state_after capacity st caller (Fill chunk) Filled =
    record { chunks = take capacity (arc_value chunk ∷ st.chunks); claims = without_first (is_of caller) st.claims }
state_after capacity st caller GiveUp Given = claim_gone caller st
state_after capacity st caller Evict (Evicted n) = record { chunks = []; claims = st.claims }
state_after capacity st caller Reap Reaped = claim_gone caller st
state_after capacity st caller call reply = st

-- The cache, holding this, gives this reply to this call. Want of memory is free, but a Reap takes none, and neither does the end of a claim.
abbrev pub CacheStep : State → ℕ → CacheCall → CacheReply → Type 0
CacheStep st caller (Look name) Held = IsSome (claim_of caller st)
CacheStep st caller (Look name) (Hit chunk) =
    IsNone (claim_of caller st) × (find (is_named name) st.chunks ≡ Some (arc_value chunk))
CacheStep st caller (Look name) (Busy holder) =
    IsNone (claim_of caller st) × IsNone (find (is_named name) st.chunks)
    × ((claim : Claim) × (find (is_on name) st.claims ≡ Some claim) × (claim.caller ≡ holder))
CacheStep st caller (Look name) Lead =
    IsNone (claim_of caller st) × IsNone (find (is_named name) st.chunks) × IsNone (find (is_on name) st.claims)
CacheStep st caller (Look name) OutOfMemory = ⊤
CacheStep st caller (Fill chunk) NoClaim =
    (claim : Claim) → claim_of caller st ≡ Some claim → is_named claim.name (arc_value chunk) ≡ false
CacheStep st caller (Fill chunk) Filled =
    (claim : Claim) × (claim_of caller st ≡ Some claim) × (is_named claim.name (arc_value chunk) ≡ true)
CacheStep st caller (Fill chunk) OutOfMemory = ⊤
CacheStep st caller GiveUp NoClaim = IsNone (claim_of caller st)
CacheStep st caller GiveUp Given = IsSome (claim_of caller st)
CacheStep st caller GiveUp OutOfMemory = IsNone (claim_of caller st)
CacheStep st caller Evict (Evicted n) = n ≡ length st.chunks
CacheStep st caller Evict OutOfMemory = ⊤
CacheStep st caller Reap Reaped = IsSome (claim_of caller st)
CacheStep st caller Reap Nothing = IsNone (claim_of caller st)
CacheStep st caller call reply = ⊥

-- whether the log keeps a reply
abbrev pub is_logged : CacheReply → Bool
is_logged Held = false
is_logged (Busy holder) = false
is_logged Nothing = false
is_logged OutOfMemory = false
is_logged reply = true

-- The replies are the same: of a hit, the chunks have the same bytes.
abbrev pub SameReply : CacheReply → CacheReply → Type 0
SameReply (Hit a) (Hit b) = arc_value a ≡ arc_value b
SameReply (Hit a) reply = ⊥
SameReply told reply = told ≡ reply

-- a line of a cache's log
abbrev pub LogEntry : Type 0
LogEntry = Entry CacheCall CacheReply

-- a new cache
abbrev pub empty : State
empty = record { chunks = []; claims = [] }

-- what a cache holds after an entry
abbrev pub after_entry : ℕ → State → LogEntry → State
after_entry capacity st e = state_after capacity st e.caller e.call e.reply

-- what a cache of this capacity holds after a log
abbrev pub run : ℕ → List LogEntry → State
run capacity log = fold (after_entry capacity) empty log

-- The log may keep this entry of a call and its reply.
pub record Enters (call : CacheCall) (reply : CacheReply) (e : LogEntry) : Type 0 where
  pub logged : is_logged reply ≡ true
  pub noted : e.call ≡ call
  pub told : SameReply e.reply reply

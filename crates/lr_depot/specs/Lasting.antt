-- What lasts over the entries of a log, and which entries end it.
use Rattle.std.specs.Prelude.{◌≡◌, ℕ, List, ⊤}
use Rattle.lr_origin.specs.declared.key.KeyKind.{KeyKind}
use Rattle.lr_roots.specs.Names.{IsOneOf}
use Rattle.lr_depot.specs.declared.call.DepotNoted.{DepotNoted}
use Rattle.lr_depot.specs.declared.call.DepotNoted.TheVariants as noted
use Rattle.lr_depot.specs.declared.call.DepotTold.{DepotTold}
use Rattle.lr_depot.specs.declared.call.DepotTold.TheVariants as told
use Rattle.lr_depot.specs.Machine.{LogEntry}

-- a reply that ends the session of this number, which is the caller's
abbrev pub EndsSession : ℕ → DepotNoted → DepotTold → Type 0
EndsSession n (noted.PutManifest k p) (told.Made r) = k ≡ n
EndsSession n (noted.FinishMigrate k) (told.Moved from to) = k ≡ n
EndsSession n (noted.Abandon k) told.Abandoned = k ≡ n
EndsSession n noted.Reap told.Reaped = ⊤
EndsSession n call reply = ⊥

-- The put of the session's manifest failed. A look at the store, by whichever caller, may then end the session.
abbrev pub DoubtsSession : ℕ → DepotNoted → DepotTold → Type 0
DoubtsSession n (noted.PutManifest k p) (told.Fault key) = k ≡ n
DoubtsSession n (noted.FinishMigrate k) (told.Fault key) = k ≡ n
DoubtsSession n call reply = ⊥

-- No put of the manifest of this session of the caller failed in the log.
abbrev pub IsSureSession : List LogEntry → ℕ → ℕ → Type 0
IsSureSession log n c = (e : LogEntry) → IsOneOf log e → e.caller ≡ c → ¬ (DoubtsSession n e.call e.reply)

-- No entry of the log ends this session of the caller.
abbrev pub LeavesSession : List LogEntry → ℕ → ℕ → Type 0
LeavesSession log n c = (e : LogEntry) → IsOneOf log e → e.caller ≡ c → ¬ (EndsSession n e.call e.reply)

-- a reply that ends the lease
abbrev pub EndsLease : ℕ → DepotNoted → DepotTold → Type 0
EndsLease n (noted.Close k) told.Closed = k ≡ n
EndsLease n call reply = ⊥

-- No entry of the log ends this lease.
abbrev pub LeavesLease : List LogEntry → ℕ → Type 0
LeavesLease log n = (e : LogEntry) → IsOneOf log e → ¬ (EndsLease n e.call e.reply)

-- an entry of the log tells that the store failed at this key
abbrev pub TellsFaultAt : List LogEntry → KeyKind → Type 0
TellsFaultAt log k = (e : LogEntry) × IsOneOf log e × (e.reply ≡ told.Fault k)

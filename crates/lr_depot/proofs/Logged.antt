-- A log with one entry more.
use Rattle.std.proofs.Common.{◌≡◌, ◌≤◌, ◌+◌, ℕ, Bool, true, false, cond, List, [], ◌∷◌, ◌++◌, length, length-append, Option, Some, refl, ap, subst, ◌∙◌, inl, inr, arith}
use Rattle.std.specs.List.{filter}
use Rattle.std.specs.FinMap as map
use Rattle.std.proofs.lemmas.List.Elements.{filter-append}
use Rattle.std.proofs.lemmas.List.Sums.{fold-append}
use Rattle.std.specs.Arc.{arc_value}
use Rattle.lr_spec.specs.Rose.{Rose}
use Rattle.lr_manifest.specs.Manifest.{spelling}
use Rattle.lr_origin.specs.Objects.{Objects}
use Rattle.lr_origin.specs.Text.{key_text}
use Rattle.lr_origin.specs.declared.key.KeyKind.{KeyKind}
use Rattle.lr_origin.specs.declared.key.KeyKind.TheVariants.{Root, Manifest}
use Rattle.lr_origin.specs.declared.key.KeyKind.TheVariants as kind
use Rattle.lr_rules.specs.State.{State}
use Rattle.lr_depot.specs.declared.call.DepotCall.{DepotCall}
use Rattle.lr_depot.specs.declared.call.DepotCall.TheVariants.{Fetch, PutChunk, PutManifest, Rotate, CopyRead, FinishMigrate, Withdraw, Expire, Delete, Sweep, Settle}
use Rattle.lr_depot.specs.declared.call.DepotReply.{DepotReply}
use Rattle.lr_depot.specs.declared.call.DepotReply.TheVariants.{Fetched, Kept, Made, Rotated, Copied, Moved, Withdrawn, Expired, Deleted, Removed, There, Absent, Fault, Spoiled}
use Rattle.lr_depot.specs.declared.put.PutEnd.{PutEnd}
use Rattle.lr_depot.specs.declared.put.PutEnd.TheVariants.{Kept as Done, Fault as Failed, Spoiled as Bad, OutOfMemory as Unmade}
use Rattle.lr_depot.specs.Machine.{LogEntry, DepotStep, Enters, after_entry, run}
use Rattle.lr_depot.specs.Store.{StoreStep, Puts, IsRun, LeadsTo, is_fault, fault_count, Covers}

pub run_more : (s : State) (log : List LogEntry) (e : LogEntry) → run s (log ++ e ∷ []) ≡ after_entry (run s log) e
run_more s log e = fold-append after_entry s log (e ∷ [])

pub is_run_more : (s : State) (log : List LogEntry) (e : LogEntry) (call : DepotCall) (reply : DepotReply) → IsRun s log → DepotStep (run s log) e.caller call reply → Enters call reply e → IsRun s (log ++ e ∷ [])
is_run_more s [] e call reply h step enters = (call, reply, step, enters, tt)
is_run_more s (x ∷ xs) e call reply h step enters = (h.0, h.1, h.2, h.3, is_run_more (after_entry s x) xs e call reply h.4 step enters)

pub leads_more : (s : State) (m : Objects) (log : List LogEntry) (k : Objects) (e : LogEntry) (call : DepotCall) (reply : DepotReply) (n : Objects)
    → LeadsTo s m log k → DepotStep (run s log) e.caller call reply → Enters call reply e → StoreStep (run s log) e.caller call reply k (Some n) → LeadsTo s m (log ++ e ∷ []) n
leads_more s m [] k e call reply n h step enters stores = (call, reply, n, step, enters, subst (λ k. StoreStep s e.caller call reply k (Some n)) h stores, refl)
leads_more s m (x ∷ xs) k e call reply n h step enters stores = (h.0, h.1, h.2, h.3, h.4, h.5, leads_more (after_entry s x) h.2 xs k e call reply n h.6 step enters stores)

-- a log that leads somewhere is one of the machine
pub leads_run : (s : State) (m : Objects) (log : List LogEntry) (n : Objects) → LeadsTo s m log n → IsRun s log
leads_run s m [] n h = tt
leads_run s m (x ∷ xs) n h = (h.0, h.1, h.3, h.4, leads_run (after_entry s x) h.2 xs n h.6)

-- a put leaves objects
put_told : (s : State) (k : KeyKind) (body : List ℕ) (end : PutEnd) (m : Objects) (o : Option Objects) → Puts s k body end m o → (n : Objects) × (o ≡ Some n)
put_told s k body Done m o (inl p) = (map.insert m (key_text k) body, p.1)
put_told s k body Done m o (inr p) = (m, p.2)
put_told s k body Failed m o (inl e) = (m, e)
put_told s k body Failed m o (inr p) = (map.insert m (key_text k) body, p.1)
put_told s k body Bad m o p = (m, p.1)
put_told s k body Unmade m o e = (m, e)

-- Each call leaves objects of which it can be told what they are.
pub store_tells : (s : State) (c : ℕ) (call : DepotCall) (reply : DepotReply) (m : Objects) (o : Option Objects) → StoreStep s c call reply m o → (n : Objects) × (o ≡ Some n)
store_tells s c (Fetch lease index) (Fetched chunk) m o h = (m, h.0)
store_tells s c (Fetch lease index) (Spoiled k) m o h = (m, h.0)
store_tells s c (PutChunk session chunk) Kept m o h = elim h.3 [ inl p ↦ (m, p.1) | inr p ↦ put_told s h.0 (arc_value chunk) Done m o p.1 ]
store_tells s c (PutChunk session chunk) (Fault k) m o h = put_told s k (arc_value chunk) Failed m o h.1
store_tells s c (PutChunk session chunk) (Spoiled k) m o h = put_told s k (arc_value chunk) Bad m o h
store_tells s c (PutManifest session p) (Made r) m o h = put_told s (Manifest r h.0) (spelling (arc_value p)) Done m o h.2
store_tells s c (PutManifest session p) (Fault k) m o h = put_told s k (spelling (arc_value p)) Failed m o h
store_tells s c (PutManifest session p) (Spoiled k) m o h = put_told s k (spelling (arc_value p)) Bad m o h
store_tells s c (Rotate bytes) (Rotated r) m o h = put_told s (Root r) bytes Done m o h
store_tells s c (Rotate bytes) (Fault k) m o h = put_told s k bytes Failed m o h
store_tells s c (Rotate bytes) (Spoiled k) m o h = put_told s k bytes Bad m o h
store_tells s c (CopyRead n index) (Copied chunk) m o h = (m, h.0)
store_tells s c (CopyRead n index) (Spoiled k) m o h = (m, h.0)
store_tells s c (FinishMigrate n) (Moved from to) m o h = put_told s (Manifest to h.0) (spelling h.1) Done m o h.3
store_tells s c (FinishMigrate n) (Fault k) m o h = put_told s k (spelling h.3) Failed m o h.6
store_tells s c (FinishMigrate n) (Spoiled k) m o h = (m, h.1)
store_tells s c (Withdraw image) Withdrawn m o h = put_told s (kind.Withdrawn image) [] Done m o h
store_tells s c (Withdraw image) (Fault k) m o h = put_told s k [] Failed m o h
store_tells s c (Withdraw image) (Spoiled k) m o h = put_told s k [] Bad m o h
store_tells s c (Expire r) Expired m o h = put_told s (kind.Expired r) [] Done m o h
store_tells s c (Expire r) (Fault k) m o h = put_told s k [] Failed m o h
store_tells s c (Expire r) (Spoiled k) m o h = put_told s k [] Bad m o h
store_tells s c (Delete r) Deleted m o h = put_told s (kind.Deleted r) [] Done m o h
store_tells s c (Delete r) (Fault k) m o h = put_told s k [] Failed m o h
store_tells s c (Delete r) (Spoiled k) m o h = put_told s k [] Bad m o h
store_tells s c (Sweep r) (Removed k) m o h = (map.remove m (key_text k), h)
store_tells s c (Sweep r) (Fault k) m o h = elim h [ inl e ↦ (m, e) | inr e ↦ (map.remove m (key_text k), e) ]
store_tells s c (Settle k) There m o h = (m, h.0)
store_tells s c (Settle k) Absent m o h = (m, h.0)
store_tells s c (Settle k) (Spoiled q) m o h = (m, h.0)
store_tells s c call reply m o h = (m, h)

one_fault : (e : LogEntry) (b : Bool) → is_fault e ≡ b → fault_count (e ∷ []) ≡ cond b 1 0
one_fault e true is = rw is refl
one_fault e false is = rw is refl

fault_count-more : (log : List LogEntry) (e : LogEntry) (b : Bool) → is_fault e ≡ b → fault_count (log ++ e ∷ []) ≡ fault_count log + cond b 1 0
fault_count-more log e b is = ap (λ (l : List LogEntry). length l) (filter-append is_fault log (e ∷ [])) ∙ length-append (filter is_fault log) (filter is_fault (e ∷ [])) ∙ ap (λ n. fault_count log + n) (one_fault e b is)

-- the count rose with a fault
pub covers_fault : (before : ℕ) (log : List LogEntry) (now next : ℕ) (e : LogEntry) → is_fault e ≡ true → Rose now next → Covers before log now → Covers before (log ++ e ∷ []) next
covers_fault before log now next e is (inr last) covers = inr last
covers_fault before log now next e is (inl more) (inr last) = inr (omega (arith, more, last))
covers_fault before log now next e is (inl more) (inl within) = inl (omega (arith, more, within, fault_count-more log e true is))

-- without a fault the count doesn't fall
pub covers_more : (before : ℕ) (log : List LogEntry) (now next : ℕ) (e : LogEntry) → is_fault e ≡ false → now ≤ next → Covers before log now → Covers before (log ++ e ∷ []) next
covers_more before log now next e is more (inr last) = inr (omega (arith, more, last))
covers_more before log now next e is more (inl within) = inl (omega (arith, more, within, fault_count-more log e false is))

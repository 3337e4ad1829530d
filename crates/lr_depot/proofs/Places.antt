-- How many leases and sessions are out after an entry of the log.
use Rattle.std.specs.Prelude.{⊤}
use Rattle.std.proofs.Common.{◌≡◌, ◌≢◌, ◌≤◌, ◌<◌, ◌+◌, ◌-◌, ℕ, List, [], ◌∷◌, Option, Some, None, IsSome, Bool, true, false, cond, refl, sym, ap, subst, ◌∙◌, inl, inr, arith}
use Rattle.std.specs.Arc.{arc_value}
use Rattle.std.specs.Ordering.{nat_cmp}
use Rattle.std.specs.Cmp.{nat_cmp_total}
use Rattle.std.specs.FinMap as map
use Rattle.std.specs.FinMap.{FinMap, len-insert, len-remove}
use Rattle.lr_manifest.specs.Manifest.{ManifestFields}
use Rattle.lr_origin.specs.declared.key.KeyKind.{KeyKind}
use Rattle.lr_origin.specs.declared.key.KeyKind.TheVariants as kind
use Rattle.lr_roots.specs.View.{Held, manifest}
use Rattle.lr_rules.specs.Calls.{ended, settled_there}
use Rattle.lr_roots.specs.Names.{IsOneOf}
use Rattle.lr_rules.specs.State.{Job, Creates, Moves, Session, State, Holds, target}
use Rattle.lr_rules.proofs.Keys.{no_some, cases_n, gone_n}
use Rattle.lr_rules.proofs.Outcomes.{not_both}
use Rattle.lr_depot.specs.declared.call.DepotCall.{DepotCall}
use Rattle.lr_depot.specs.declared.call.DepotCall.TheVariants.{Close, Abandon, Reap}
use Rattle.lr_depot.specs.declared.call.DepotNoted.{DepotNoted}
use Rattle.lr_depot.specs.declared.call.DepotNoted.TheVariants as noted
use Rattle.lr_depot.specs.declared.call.DepotReply.{DepotReply}
use Rattle.lr_depot.specs.declared.call.DepotReply.TheVariants.{NoLease, Closed, NoSession, Abandoned, Reaped, Nothing, OutOfMemory}
use Rattle.lr_depot.specs.declared.call.DepotTold.{DepotTold}
use Rattle.lr_depot.specs.declared.call.DepotTold.TheVariants as told
use Rattle.lr_depot.specs.Machine.{LogEntry, DepotStep, state_after, after_entry, manifest_put, manifest_moved, move_doubted, deletion_doubted, found_there, IsNoted, IsTold, Enters}
use Rattle.lr_depot.specs.Kernel.{held}
use Rattle.lr_depot.specs.Sessions.{without_caller}
use Rattle.lr_depot.proofs.Numbers.{listed, shorter}
use Rattle.lr_depot.proofs.Begun.{without_removed, without_none}
use Rattle.lr_depot.proofs.Moved.{left_in}

module _ {X : Type 0} where
  pub one_more : (m : FinMap nat_cmp X) (n : ℕ) (x : X) → map.len (map.insert m n x) ≤ map.len m + 1
  one_more m n x = by (map.contains_key m n) (len-insert nat_cmp_total m n x)
    where
      by : (b : Bool) → map.len (map.insert m n x) ≡ cond b (map.len m) (map.len m + 1) → map.len (map.insert m n x) ≤ map.len m + 1
      by true e = omega (arith, e)
      by false e = omega (arith, e)

  pub no_more : (m : FinMap nat_cmp X) (n : ℕ) → map.len (map.remove m n) ≤ map.len m
  no_more m n = by (map.contains_key m n) (len-remove nat_cmp_total m n)
    where
      by : (b : Bool) → map.len (map.remove m n) ≡ cond b (map.len m - 1) (map.len m) → map.len (map.remove m n) ≤ map.len m
      by true e = omega (arith, e)
      by false e = omega (arith, e)

module _ (c : ℕ) where
  -- no more sessions are the others' than all
  abbrev IsNoMore : FinMap nat_cmp Session → Type 0
  IsNoMore m = map.len (without_caller c m) ≤ map.len m

  -- the sessions of the caller are among these entries
  abbrev AreAmong : FinMap nat_cmp Session → List (ℕ × Session) → Type 0
  AreAmong m es = (n : ℕ) (j : Session) → map.get m n ≡ Some j → j.caller ≡ c → IsOneOf es (n, j)

  -- Sessions that are taken out one by one leave the others.
  others_among : (m : FinMap nat_cmp Session) (es : List (ℕ × Session)) → AreAmong m es → IsNoMore m
  others_among m [] among = subst (λ o. map.len o ≤ map.len m) (sym (without_none c m (λ n j is own. absurd (among n j is own)))) (omega arith)
  others_among m (y ∷ es) among = at (λ l h. others_among l es h) (map.get m y.0) refl
    where
      rest : (n : ℕ) (j : Session) → n ≢ y.0 → IsOneOf (y ∷ es) (n, j) → IsOneOf es (n, j)
      rest n j other (inl e) = absurd (other (ap (λ (p : ℕ × Session). p.0) e))
      rest n j other (inr i) = i

      -- no session of the caller is at the first number
      past : ((j : Session) → map.get m y.0 ≡ Some j → j.caller ≡ c → ⊥) → AreAmong m es
      past none n j is own = rest n j (λ e. none j (ap (map.get m) (sym e) ∙ is) own) (among n j is own)

      -- one is, and is taken out
      taken : AreAmong (map.remove m y.0) es
      taken n j here own = rest n j (λ e. not_both _ j (gone_n m y.0) (ap (map.get (map.remove m y.0)) (sym e) ∙ here)) (among n j (left_in m y.0 n j here) own)

      own_at : (z : Session) → map.get m y.0 ≡ Some z → z.caller ≡ c → IsNoMore (map.remove m y.0) → IsNoMore m
      own_at z is own fewer =
          let less : map.len (map.remove m y.0) < map.len m = shorter m y.0 z is in
          let same : map.len (without_caller c (map.remove m y.0)) ≡ map.len (without_caller c m) = ap map.len (without_removed c m y.0 z is own) in
          omega (arith, fewer, less, same)

      same : (z j : Session) → Some z ≡ Some j → z.caller ≡ j.caller
      same z j e = cc

      at : ((l : FinMap nat_cmp Session) → AreAmong l es → IsNoMore l) → (o : Option Session) → map.get m y.0 ≡ o → IsNoMore m
      at tail None e = tail m (past (λ j is own. not_both _ j e is))
      at tail (Some z) e = elim (cases_n z.caller c) [
        | inl own ↦ own_at z e own (tail (map.remove m y.0) taken)
        | inr other ↦ tail m (past (λ j is own. other (same z j (sym e ∙ is) ∙ own)))
      ]

  pub others_fewer : (m : FinMap nat_cmp Session) → map.len (without_caller c m) ≤ map.len m
  others_fewer m = others_among m (map.entries m) (λ n j is own. listed m (map.entries m) refl (n, j) is)

  -- where the caller has a session, the others are fewer
  pub others_less : (m : FinMap nat_cmp Session) (n : ℕ) (j : Session) → map.get m n ≡ Some j → j.caller ≡ c → map.len (without_caller c m) < map.len m
  others_less m n j is own =
      let fewer : map.len (without_caller c (map.remove m n)) ≤ map.len (map.remove m n) = others_fewer (map.remove m n) in
      let less : map.len (map.remove m n) < map.len m = shorter m n j is in
      let same : map.len (without_caller c (map.remove m n)) ≡ map.len (without_caller c m) = ap map.len (without_removed c m n j is own) in
      omega (arith, fewer, less, same)

module _ (s : State) (c : ℕ) where
  chunk_more : (n : ℕ) (name : _) → held (state_after s c (noted.PutChunk n name) told.Kept) ≤ held s + 1
  chunk_more n name = by (map.get s.desk.sessions n) refl
    where
      by : (o : Option Session) → map.get s.desk.sessions n ≡ o → held (state_after s c (noted.PutChunk n name) told.Kept) ≤ held s + 1
      by None e = rw e (omega arith)
      by (Some j) e = at (map.get s.known.view (kind.Chunk (target j.job) name.bytes)) refl
        where
          at : (o : Option Held) → map.get s.known.view (kind.Chunk (target j.job) name.bytes) ≡ o → held (state_after s c (noted.PutChunk n name) told.Kept) ≤ held s + 1
          at None f = rw e (rw f (omega arith))
          at (Some x) f = rw e (rw f (omega arith))

  job_more : (n b : ℕ) (j : Job) (m : ManifestFields) → held (manifest_put s n (Some (record { caller = b; job = j })) m) ≤ held s + 1
  job_more n b (Creates image r d) m = let less : map.len (map.remove s.desk.sessions n) ≤ map.len s.desk.sessions = no_more s.desk.sessions n in omega (arith, less)
  job_more n b (Moves image from to p) m = omega arith

  manifest_more : (n : ℕ) (o : Option Session) (m : ManifestFields) → held (manifest_put s n o m) ≤ held s + 1
  manifest_more n None m = omega arith
  manifest_more n (Some z) m = job_more n z.caller z.job m

  making_more : (n : ℕ) (k : KeyKind) (m : _) → held (state_after s c (noted.PutManifest n m) (told.Fault k)) ≤ held s + 1
  making_more n (kind.Manifest r image) m = omega arith
  making_more n k m = omega arith

  moved_more : (n b : ℕ) (j : Job) → held (manifest_moved s n (Some (record { caller = b; job = j }))) ≤ held s + 1
  moved_more n b (Creates image r d) = omega arith
  moved_more n b (Moves image from to p) = let less : map.len (map.remove s.desk.sessions n) ≤ map.len s.desk.sessions = no_more s.desk.sessions n in omega (arith, less)

  move_more : (n : ℕ) (o : Option Session) → held (manifest_moved s n o) ≤ held s + 1
  move_more n None = omega arith
  move_more n (Some z) = moved_more n z.caller z.job

  doubted_more : (n b : ℕ) (j : Job) → held (move_doubted s n (Some (record { caller = b; job = j }))) ≤ held s + 1
  doubted_more n b (Creates image r d) = omega arith
  doubted_more n b (Moves image from to p) = omega arith

  unmoved_more : (n : ℕ) (o : Option Session) → held (move_doubted s n o) ≤ held s + 1
  unmoved_more n None = omega arith
  unmoved_more n (Some z) = doubted_more n z.caller z.job

  sweep_more : (k : KeyKind) (o : Option Held) → held (deletion_doubted s k o) ≤ held s + 1
  sweep_more k None = omega arith
  sweep_more k (Some x) = omega arith

  ended_more : (o : Option ℕ) → map.len (ended s.desk.sessions o) ≤ map.len s.desk.sessions
  ended_more None = omega arith
  ended_more (Some n) = no_more s.desk.sessions n

  there_more : (k : KeyKind) (x : Held) → held (settled_there s k x) ≤ held s + 1
  there_more (kind.Manifest r image) (manifest m) =
      let less : map.len (ended s.desk.sessions (map.get s.desk.makers (kind.Manifest r image))) ≤ map.len s.desk.sessions = ended_more (map.get s.desk.makers (kind.Manifest r image)) in
      omega (arith, less)
  there_more (kind.Manifest r image) x = omega arith
  there_more k x = omega arith

  found_more : (k : KeyKind) (o : Option Held) → held (found_there s k o) ≤ held s + 1
  found_more k None = omega arith
  found_more k (Some x) = there_more k x

  -- No entry adds more than one.
  pub held_more : (n : DepotNoted) (t : DepotTold) → held (state_after s c n t) ≤ held s + 1
  held_more (noted.OpenImage image) (told.Opened lease m) =
      let more : map.len (map.insert s.desk.leases s.desk.next_lease (image, arc_value m)) ≤ map.len s.desk.leases + 1 = one_more s.desk.leases s.desk.next_lease (image, arc_value m) in
      omega (arith, more)
  held_more (noted.Close lease) told.Closed = let less : map.len (map.remove s.desk.leases lease) ≤ map.len s.desk.leases = no_more s.desk.leases lease in omega (arith, less)
  held_more (noted.BeginCreate image) (told.Began session root bytes number) =
      let more : map.len (map.insert s.desk.sessions s.desk.next_session (record { caller = c; job = Creates image root number })) ≤ map.len s.desk.sessions + 1 =
      one_more s.desk.sessions s.desk.next_session (record { caller = c; job = Creates image root number }) in
      omega (arith, more)
  held_more (noted.PutChunk n name) told.Kept = chunk_more n name
  held_more (noted.PutChunk n name) (told.Fault k) = omega arith
  held_more (noted.PutManifest n m) (told.Made r) = manifest_more n (map.get s.desk.sessions n) (arc_value m)
  held_more (noted.PutManifest n m) (told.Fault k) = making_more n k m
  held_more (noted.Abandon n) told.Abandoned = let less : map.len (map.remove s.desk.sessions n) ≤ map.len s.desk.sessions = no_more s.desk.sessions n in omega (arith, less)
  held_more (noted.Rotate bytes) (told.Rotated r) = omega arith
  held_more (noted.Rotate bytes) (told.Fault k) = omega arith
  held_more (noted.BeginMigrate image) (told.Moving session from to m) =
      let more : map.len (map.insert s.desk.sessions s.desk.next_session (record { caller = c; job = Moves image from to (arc_value m) })) ≤ map.len s.desk.sessions + 1 =
      one_more s.desk.sessions s.desk.next_session (record { caller = c; job = Moves image from to (arc_value m) }) in
      omega (arith, more)
  held_more (noted.FinishMigrate n) (told.Moved from to) = move_more n (map.get s.desk.sessions n)
  held_more (noted.FinishMigrate n) (told.Fault k) = unmoved_more n (map.get s.desk.sessions n)
  held_more (noted.Withdraw image) told.Withdrawn = omega arith
  held_more (noted.Withdraw image) (told.Fault k) = omega arith
  held_more (noted.Expire r) told.Expired = omega arith
  held_more (noted.Expire r) (told.Fault k) = omega arith
  held_more (noted.Delete r) told.Deleted = omega arith
  held_more (noted.Delete r) (told.Fault k) = omega arith
  held_more (noted.Sweep r) (told.Removed k) = omega arith
  held_more (noted.Sweep r) (told.Fault k) = sweep_more k (map.get s.known.view k)
  held_more (noted.Settle k) told.There = found_more k (map.get s.known.doubts k)
  held_more (noted.Settle k) told.Absent = omega arith
  held_more noted.Reap told.Reaped = let less : map.len (without_caller c s.desk.sessions) ≤ map.len s.desk.sessions = others_fewer c s.desk.sessions in omega (arith, less)
  held_more n t = omega arith

pub places_more : (s : State) (e : LogEntry) → held (after_entry s e) ≤ held s + 1
places_more s e = held_more s e.caller e.call e.reply

some_of : {X : Type 0} (o : Option X) → IsSome o → (x : X) × (o ≡ Some x)
some_of {X = X} None some = absurd (no_some {X = X} None refl some)
some_of (Some x) some = (x, refl)

module _ (s : State) (c : ℕ) where
  pub close_one : (lease : ℕ) → IsSome (map.get s.desk.leases lease) → held (state_after s c (noted.Close lease) told.Closed) + 1 ≤ held s
  close_one lease out =
      let is : (l : List ℕ × ManifestFields) × (map.get s.desk.leases lease ≡ Some l) = some_of (map.get s.desk.leases lease) out in
      let less : map.len (map.remove s.desk.leases lease) < map.len s.desk.leases = shorter s.desk.leases lease is.0 is.1 in
      omega (arith, less)

  pub abandon_one : (n : ℕ) (j : Job) → Holds s n c j → held (state_after s c (noted.Abandon n) told.Abandoned) + 1 ≤ held s
  abandon_one n j holds =
      let less : map.len (map.remove s.desk.sessions n) < map.len s.desk.sessions = shorter s.desk.sessions n (record { caller = c; job = j }) holds in
      omega (arith, less)

  pub reap_some : (n : ℕ) (j : Session) → map.get s.desk.sessions n ≡ Some j → j.caller ≡ c → held (state_after s c noted.Reap told.Reaped) + 1 ≤ held s
  reap_some n j is own =
      let less : map.len (without_caller c s.desk.sessions) < map.len s.desk.sessions = others_less c s.desk.sessions n j is own in
      omega (arith, less)

  -- the entry leaves at least one less
  abbrev pub IsLess : DepotNoted → DepotTold → Type 0
  IsLess n t = held (state_after s c n t) + 1 ≤ held s

  -- the entry that stands for another one
  as_less : (n m : DepotNoted) (t u : DepotTold) → n ≡ m → t ≡ u → IsLess m u → IsLess n t
  as_less n m t u e f less = subst (λ n. IsLess n t) (sym e) (subst (λ t. IsLess m t) (sym f) less)

  -- A lease that is out ends with each entry of its close.
  pub close_less : (lease : ℕ) (reply : DepotReply) (t : DepotTold) → IsSome (map.get s.desk.leases lease) → DepotStep s c (Close lease) reply → IsTold reply t → IsLess (noted.Close lease) t
  close_less lease Closed t out step tells = as_less (noted.Close lease) (noted.Close lease) t told.Closed refl tells (close_one lease out)
  close_less lease NoLease t out step tells = absurd (no_some _ step out)
  close_less lease OutOfMemory t out step tells = absurd tells
  close_less lease reply t out step tells = absurd step

  -- A session of the caller ends with each entry of its abandonment.
  pub abandon_less : (n : ℕ) (j : Job) (reply : DepotReply) (t : DepotTold) → Holds s n c j → DepotStep s c (Abandon n) reply → IsTold reply t → IsLess (noted.Abandon n) t
  abandon_less n j Abandoned t holds step tells = as_less (noted.Abandon n) (noted.Abandon n) t told.Abandoned refl tells (abandon_one n j holds)
  abandon_less n j NoSession t holds step tells = absurd (step j holds)
  abandon_less n j OutOfMemory t holds step tells = absurd tells
  abandon_less n j reply t holds step tells = absurd step

  -- Some session ends with each entry of a reaping.
  pub reap_less : (reply : DepotReply) (t : DepotTold) → DepotStep s c Reap reply → IsTold reply t → IsLess noted.Reap t
  reap_less Reaped t step tells = as_less noted.Reap noted.Reap t told.Reaped refl tells (reap_some step.0 step.1 step.2 step.3)
  reap_less Nothing t step tells = absurd tells
  reap_less reply t step tells = absurd step

  -- the caller's call ends something that is out
  abbrev pub EndsOwn : DepotCall → Type 0
  EndsOwn (Close lease) = IsSome (map.get s.desk.leases lease)
  EndsOwn (Abandon n) = (j : Job) × Holds s n c j
  EndsOwn Reap = ⊤
  EndsOwn call = ⊥

  ends_less : (call : DepotCall) (reply : DepotReply) (n : DepotNoted) (t : DepotTold) → EndsOwn call → DepotStep s c call reply → IsNoted call n → IsTold reply t → IsLess n t
  ends_less (Close lease) reply n t own step kept tells = as_less n (noted.Close lease) t t kept refl (close_less lease reply t own step tells)
  ends_less (Abandon i) reply n t own step kept tells = as_less n (noted.Abandon i) t t kept refl (abandon_less i own.0 reply t own.1 step tells)
  ends_less Reap reply n t own step kept tells = as_less n noted.Reap t t kept refl (reap_less reply t step tells)
  ends_less call reply n t own step kept tells = absurd own

-- A call that ends something leaves less out with each of its entries.
pub ending : (s : State) (e : LogEntry) (call : DepotCall) (reply : DepotReply) → EndsOwn s e.caller call → DepotStep s e.caller call reply → Enters call reply e → held (after_entry s e) + 1 ≤ held s
ending s e call reply own step enters = ends_less s e.caller call reply e.call e.reply own step enters.noted enters.told

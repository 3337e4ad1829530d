-- The setup's leases grow, and each device is opened on a manifest.
use Rattle.std.proofs.Common.{◌≡◌, ◌≢◌, ◌≤◌, ◌+◌, ℕ, List, [], ◌∷◌, ◌++◌, Option, Some, None, refl, sym, subst, ◌∙◌, arith}
use Rattle.std.specs.Prelude.{⊤}
use Rattle.std.specs.List.{AllByRecursion, AllZip}
use Rattle.std.specs.Arc.{arc_value}
use Rattle.std.specs.declared.sync.Arc.{Arc}
use Rattle.std.specs.declared.alloc.Global.{Global}
use Rattle.std.specs.FinMap as finmap
use Rattle.lr_manifest.specs.declared.name.Name.{Name}
use Rattle.lr_manifest.specs.Manifest.{ManifestFields, IsManifest}
use Rattle.lr_origin.specs.declared.key.KeyKind.TheVariants as kind
use Rattle.lr_roots.specs.View.{Held, manifest}
use Rattle.lr_rules.specs.State.{Job, Creates, Moves, Session, State, target}
use Rattle.lr_rules.specs.Safe.{IsSafe}
use Rattle.lr_rules.specs.Calls.{MayOpen}
use Rattle.lr_rules.proofs.Calls.{view_good}
use Rattle.lr_rules.proofs.Start.{start_safe}
use Rattle.lr_depot.specs.declared.call.DepotCall.{DepotCall}
use Rattle.lr_depot.specs.declared.call.DepotCall.TheVariants.{OpenImage, PutChunk, PutManifest}
use Rattle.lr_depot.specs.declared.call.DepotReply.{DepotReply}
use Rattle.lr_depot.specs.declared.call.DepotReply.TheVariants.{Opened, Fetched, Copied, Moving, Nothing, OutOfMemory}
use Rattle.lr_depot.specs.declared.call.DepotNoted.TheVariants as noted
use Rattle.lr_depot.specs.declared.call.DepotTold.TheVariants as told
use Rattle.lr_depot.specs.Begun.{Start}
use Rattle.lr_depot.specs.Depot.{IsStart, first_state}
use Rattle.lr_depot.specs.Machine.{LogEntry, DepotStep, IsNoted, IsTold, after_entry, run, manifest_put}
use Rattle.lr_depot.specs.Store.{IsRun}
use Rattle.lr_depot.proofs.Moved.{entry_safe}
use Rattle.lr_history.specs.Run.{ImageLine, DeviceLine}
use Rattle.lr_setup.specs.Setup.{SetupLine, rotates, creates, opens, devices_of, entry, IsKept, IsSetup}

-- ---- the number of the next lease

abbrev next : State → ℕ
next s = s.desk.next_lease

chunk_stays : (s : State) (session : ℕ) (name : Name) → next (after_entry s (entry (noted.PutChunk session name) told.Kept)) ≡ next s
chunk_stays s session name = by (finmap.get s.desk.sessions session) refl
  where
    by : (o : Option Session) → finmap.get s.desk.sessions session ≡ o → next (after_entry s (entry (noted.PutChunk session name) told.Kept)) ≡ next s
    by None e = rw e refl
    by (Some j) e = at (finmap.get s.known.view (kind.Chunk (target j.job) name.bytes)) refl
      where
        at : (o : Option Held) → finmap.get s.known.view (kind.Chunk (target j.job) name.bytes) ≡ o → next (after_entry s (entry (noted.PutChunk session name) told.Kept)) ≡ next s
        at None f = rw e (rw f refl)
        at (Some x) f = rw e (rw f refl)

job_stays : (s : State) (n b : ℕ) (j : Job) (m : ManifestFields) → next (manifest_put s n (Some (record { caller = b; job = j })) m) ≡ next s
job_stays s n b (Creates image r d) m = refl
job_stays s n b (Moves image from to p) m = refl

made_stays : (s : State) (n : ℕ) (o : Option Session) (m : ManifestFields) → next (manifest_put s n o m) ≡ next s
made_stays s n None m = refl
made_stays s n (Some z) m = job_stays s n z.caller z.job m

-- after entries of a run: it is safe, the run goes on, and the next lease is the same
record Goes (s t : State) (rest : List LogEntry) : Type 0 where
  safe : IsSafe t
  runs : IsRun t rest
  lease : next t ≡ next s

goes_one : (s : State) (e : LogEntry) (rest : List LogEntry) → IsSafe s → IsRun s (e ∷ rest) → next (after_entry s e) ≡ next s → Goes s (after_entry s e) rest
goes_one s e rest safe is same = record { safe = entry_safe s safe e is.0 is.1 is.2 is.3; runs = is.4; lease = same }

puts_go : (session : ℕ) (rest puts : List LogEntry) (names : List (List ℕ)) (s : State) → IsSafe s → AllZip (IsKept session) puts names → IsRun s (puts ++ rest) → Goes s (run s puts) rest
puts_go session rest [] [] s safe z is = record { safe = safe; runs = is; lease = refl }
puts_go session rest [] (n ∷ names) s safe z is = absurd z
puts_go session rest (e ∷ puts) [] s safe z is = absurd z
puts_go session rest (e ∷ puts) (name ∷ names) s safe z is =
    let stays : next (after_entry s e) ≡ next s = subst (λ (x : LogEntry). next (after_entry s x) ≡ next s) (sym z.0.1) (chunk_stays s session z.0.0) in
    let one = goes_one s e (puts ++ rest) safe is stays in
    let more = puts_go session rest puts names (after_entry s e) one.safe z.1 one.runs in
    record { safe = more.safe; runs = more.runs; lease = more.lease ∙ one.lease }

-- ---- what is opened

opened_reply : (s : State) (image i : List ℕ) (lease : ℕ) (m : Arc ManifestFields Global) (reply : DepotReply)
    → noted.OpenImage image ≡ noted.OpenImage i → IsTold reply (told.Opened lease m) → DepotStep s 0 (OpenImage i) reply
    → (lease ≡ next s) × ((r : ℕ) × MayOpen s image r (arc_value m))
opened_reply s image i lease m (Opened l p) n t step =
    let same : i ≡ image = cc in
    (t.0 ∙ step.2, (step.0, subst (λ (j : List ℕ). MayOpen s j step.0 (arc_value m)) same (subst (λ (f : ManifestFields). MayOpen s i step.0 f) (sym t.1) step.1)))
opened_reply s image i lease m (Fetched chunk) n t step = absurd t
opened_reply s image i lease m (Copied chunk) n t step = absurd t
opened_reply s image i lease m (Moving a b c p) n t step = absurd t
opened_reply s image i lease m Nothing n t step = absurd t
opened_reply s image i lease m OutOfMemory n t step = absurd t
opened_reply s image i lease m reply n t step = absurd (cc)

opened_step : (s : State) (image : List ℕ) (lease : ℕ) (m : Arc ManifestFields Global) (call : DepotCall) (reply : DepotReply)
    → IsNoted call (noted.OpenImage image) → IsTold reply (told.Opened lease m) → DepotStep s 0 call reply
    → (lease ≡ next s) × ((r : ℕ) × MayOpen s image r (arc_value m))
opened_step s image lease m (OpenImage i) reply n t step = opened_reply s image i lease m reply n t step
opened_step s image lease m (PutChunk k chunk) reply n t step = absurd n
opened_step s image lease m (PutManifest k p) reply n t step = absurd n
opened_step s image lease m call reply n t step = absurd (cc)

is_manifest : (s : State) → IsSafe s → (image : List ℕ) (r : ℕ) (m : ManifestFields) → MayOpen s image r m → IsManifest m
is_manifest s safe image r m may = ((view_good s safe).sound.fits (kind.Manifest r image) (manifest m) may.listed).0

-- ---- all lines

-- no two of these lines have one lease
abbrev pub AreApart : List DeviceLine → Type 0
AreApart [] = ⊤
AreApart (d ∷ lines) = AllByRecursion (λ (x : DeviceLine). x.lease ≢ d.lease) lines × AreApart lines

-- From this lease on, each device has a lease of its own and a manifest.
record Leased (lease : ℕ) (lines : List DeviceLine) : Type 0 where
  from : AllByRecursion (λ (d : DeviceLine). lease ≤ d.lease) lines
  apart : AreApart lines
  manifests : AllByRecursion (λ (d : DeviceLine). IsManifest d.manifest) lines

weaker : {X : Type 0} (P Q : X → Type 0) → ((x : X) → P x → Q x) → (xs : List X) → AllByRecursion P xs → AllByRecursion Q xs
weaker P Q f [] h = tt
weaker P Q f (x ∷ xs) h = (f x h.0, weaker P Q f xs h.1)

leased : (lines : List SetupLine) (before : List ImageLine) (s : State) (log : List LogEntry) → IsSafe s → IsRun s log → IsSetup s before lines log → Leased (next s) (devices_of lines)
leased [] before s log safe is w = record { from = tt; apart = tt; manifests = tt }
leased (rotates salt ∷ lines) before s log safe is w =
    let e : LogEntry = entry (noted.Rotate salt) (told.Rotated w.0) in
    let runs : IsRun s (e ∷ w.1) = subst (IsRun s) w.2 is in
    let one = goes_one s e w.1 safe runs refl in
    leased lines before (after_entry s e) w.1 one.safe one.runs w.3
leased (creates line ∷ lines) before s log safe is w =
    let first : LogEntry = entry (noted.BeginCreate line.image) (told.Began w.0 line.root line.salt w.1) in
    let last : LogEntry = entry (noted.PutManifest w.0 w.3) (told.Made line.root) in
    let runs : IsRun s (first ∷ (w.2 ++ last ∷ w.4)) = subst (IsRun s) w.5 is in
    let begun = goes_one s first (w.2 ++ last ∷ w.4) safe runs refl in
    let put = puts_go w.0 (last ∷ w.4) w.2 _ (after_entry s first) begun.safe w.6 begun.runs in
    let t : State = run (after_entry s first) w.2 in
    let done = goes_one t last w.4 put.safe put.runs (made_stays t w.0 (finmap.get t.desk.sessions w.0) (arc_value w.3)) in
    let more = leased lines (before ++ line ∷ []) (after_entry t last) w.4 done.safe done.runs w.8 in
    subst (λ (n : ℕ). Leased n (devices_of lines)) (done.lease ∙ (put.lease ∙ begun.lease)) more
leased (opens d ∷ lines) before s log safe is w =
    let e : LogEntry = entry (noted.OpenImage d.image) (told.Opened d.lease w.0) in
    let runs : IsRun s (e ∷ w.1) = subst (IsRun s) w.2 is in
    let o = opened_step s d.image d.lease w.0 runs.0 runs.1 runs.3.noted runs.3.told runs.2 in
    let here : d.lease ≡ next s = o.0 in
    let more = leased lines before (after_entry s e) w.1 (entry_safe s safe e runs.0 runs.1 runs.2 runs.3) runs.4 w.8 in
    record {
      from = (omega arith, weaker (λ (x : DeviceLine). next s + 1 ≤ x.lease) (λ (x : DeviceLine). next s ≤ x.lease) (λ x l. omega arith) (devices_of lines) more.from);
      apart = (weaker (λ (x : DeviceLine). next s + 1 ≤ x.lease) (λ (x : DeviceLine). x.lease ≢ d.lease) (λ x l same. absurd (omega (arith, l, same, here))) (devices_of lines) more.from, more.apart);
      manifests = (subst IsManifest (sym w.3) (is_manifest s safe d.image o.1.0 (arc_value w.0) o.1.1), more.manifests);
    }

-- After the setup no two devices have one lease, and each has a manifest.
pub setup_leased : (start : Start) (lines : List SetupLine) (log : List LogEntry) → IsStart start → IsRun (first_state start) log → IsSetup (first_state start) [] lines log
    → AreApart (devices_of lines) × AllByRecursion (λ (d : DeviceLine). IsManifest d.manifest) (devices_of lines)
setup_leased start lines log begun runs w =
    let all = leased lines [] (first_state start) log (start_safe start.view start.number begun.may) runs w in
    (all.apart, all.manifests)

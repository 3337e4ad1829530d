-- an only caller of a depot: what it has of it at each call, and that the replies are then those that come to it
use Rattle.std.specs.Prelude.{⊤}
use Rattle.std.proofs.Common.{◌≡◌, ℕ, List, [], ◌∷◌, map, Option, Some, None, IsSome, refl, ap, subst, sym, ◌∙◌, inl, inr}
use mathlib.Core.Logic.{◌⊎◌}
use Rattle.std.specs.List.{AllByRecursion, slice_get}
use Rattle.std.specs.FinMap as fin
use Rattle.lr_manifest.specs.Manifest.{ManifestFields}
use Rattle.lr_manifest.specs.declared.name.Name.{Name}
use Rattle.lr_origin.specs.declared.key.KeyKind.{KeyKind}
use Rattle.lr_origin.specs.declared.key.KeyKind.TheVariants as kind
use Rattle.lr_roots.specs.View.{Has}
use Rattle.lr_roots.specs.Names.{number_of}
use Rattle.lr_roots.specs.Sound.{maker_of}
use Rattle.lr_rules.specs.State.{Job, Creates, Moves, Session, State, Holds}
use Rattle.lr_rules.proofs.Keys.{no_some}
use Rattle.lr_rules.proofs.Outcomes.{not_both}
use Rattle.lr_depot.specs.declared.call.DepotCall.{DepotCall}
use Rattle.lr_depot.specs.declared.call.DepotCall.TheVariants.{Fetch, Close, BeginCreate, PutChunk, PutManifest, Abandon, Rotate, CopyRead, FinishMigrate, Expire}
use Rattle.lr_depot.specs.declared.call.DepotReply.{DepotReply}
use Rattle.lr_depot.specs.declared.call.DepotReply.TheVariants.{NoLease, NoChunk, NoSession, Nonce, Missing, Doubt}
use Rattle.lr_depot.specs.declared.call.DepotReply.TheVariants as by
use Rattle.lr_depot.specs.Machine.{LogEntry, DepotStep, after_entry}
use Rattle.lr_depot.specs.Store.{IsRun}
use Rattle.lr_walk.specs.Walk.{Walks, Ends}
use Rattle.lr_walk.specs.Depot.{Call, fetches, closes, begins, puts_chunk, puts_manifest, abandons, rotates, copies, finishes_move, expires, Step, step, step_of, logged, with_logged, Reply, memory, nothing, seen_call, seen_noted, seen_reply, seen_told, Answers, Asks}
use Rattle.lr_walk.proofs.Depot.{entry_step}
use Rattle.lr_images.proofs.Made.{first_entry}
use Rattle.lr_desk.specs.Alone.{ComesAlone}

-- ---- what it has

-- no put is in doubt
abbrev pub IsSure : State → Type 0
IsSure s = (k : KeyKind) → Has s.known.doubts k → ⊥

-- the chunks of these names are in the root
abbrev pub HasNames : State → ℕ → List Name → Type 0
HasNames s r names = (i : ℕ) (name : Name) → slice_get names i ≡ Some name → Has s.known.view (kind.Chunk r name.bytes)

-- the creation of a manifest's nonce is held, and its chunks were put
pub record MeetsManifest (s : State) (n : ℕ) (m : ManifestFields) : Type 0 where
  pub image : List ℕ
  pub root : ℕ
  pub number : ℕ
  pub holds : Holds s n 0 (Creates image root number)
  pub sure : IsSure s
  pub maker : maker_of m ≡ root
  pub drawn : number_of m ≡ number
  pub there : HasNames s root m.names

-- a move is held, whose manifest names a chunk at this index
pub record MeetsCopy (s : State) (n index : ℕ) : Type 0 where
  pub image : List ℕ
  pub from : ℕ
  pub to : ℕ
  pub manifest : ManifestFields
  pub name : Name
  pub holds : Holds s n 0 (Moves image from to manifest)
  pub named : slice_get manifest.names index ≡ Some name

-- a move is held, and its chunks were put
pub record MeetsMove (s : State) (n : ℕ) : Type 0 where
  pub image : List ℕ
  pub from : ℕ
  pub to : ℕ
  pub manifest : ManifestFields
  pub holds : Holds s n 0 (Moves image from to manifest)
  pub sure : IsSure s
  pub there : HasNames s to manifest.names

-- a lease is out, whose manifest names a chunk at this index
pub record MeetsFetch (s : State) (lease index : ℕ) : Type 0 where
  pub image : List ℕ
  pub manifest : ManifestFields
  pub name : Name
  pub out : fin.get s.desk.leases lease ≡ Some (image, manifest)
  pub named : slice_get manifest.names index ≡ Some name

-- what caller 0 has before each call
abbrev pub Meets : State → Call → Type 0
Meets s (fetches lease index) = MeetsFetch s lease index
Meets s (closes lease) = IsSome (fin.get s.desk.leases lease)
Meets s (begins image) = IsSure s
Meets s (puts_chunk n name) = (j : Job) × Holds s n 0 j
Meets s (puts_manifest n m) = MeetsManifest s n m
Meets s (abandons n) = (j : Job) × Holds s n 0 j
Meets s (rotates bytes) = IsSure s
Meets s (copies n index) = MeetsCopy s n index
Meets s (finishes_move n) = MeetsMove s n
Meets s (expires r) = IsSure s × ((n : ℕ) → fin.get s.desk.sessions n ≡ None)
Meets s call = ⊤

-- ---- one session, one lease

abbrev job_in : Job → Option Session → Job
job_in j None = j
job_in j (Some x) = x.job

pub one_job : (s : State) (n : ℕ) (j k : Job) → Holds s n 0 j → Holds s n 0 k → j ≡ k
one_job s n j k h l = ap (job_in j) (sym h ∙ l)

abbrev root_in : Job → ℕ
root_in (Creates image r d) = r
root_in (Moves image from to m) = to

abbrev number_in : Job → ℕ
number_in (Creates image r d) = d
number_in j = 0

abbrev fields_in : ManifestFields → Job → ManifestFields
fields_in m (Moves image from to p) = p
fields_in m j = m

pub same_fields : (s : State) (n : ℕ) (i image : List ℕ) (f t from to : ℕ) (p m : ManifestFields) → Holds s n 0 (Moves i f t p) → Holds s n 0 (Moves image from to m) → p ≡ m
same_fields s n i image f t from to p m h l = ap (fields_in p) (one_job s n (Moves i f t p) (Moves image from to m) h l)

abbrev leased_in : ManifestFields → Option (List ℕ × ManifestFields) → ManifestFields
leased_in m None = m
leased_in m (Some x) = x.1

same_lease : (o : Option (List ℕ × ManifestFields)) (i image : List ℕ) (p m : ManifestFields) → o ≡ Some (i, p) → o ≡ Some (image, m) → p ≡ m
same_lease o i image p m h l = ap (leased_in p) (sym h ∙ l)

-- ---- the replies

pub comes : (s : State) (call : DepotCall) (reply : DepotReply) → DepotStep s 0 call reply → Meets s (seen_call call) → ComesAlone (seen_reply reply)
comes s (Fetch lease index) NoLease d m = absurd (not_both _ _ d m.out)
comes s (Fetch lease index) NoChunk d m =
    let same : d.1 ≡ m.manifest = same_lease _ d.0 m.image d.1 m.manifest d.2 m.out in
    absurd (not_both _ m.name (subst (λ (p : ManifestFields). slice_get p.names index ≡ None) same d.3) m.named)
comes s (Close lease) NoLease d m = absurd (no_some _ d m)
comes s (BeginCreate image) (Doubt k) d m = absurd (m k d.1.0.0)
comes s (PutChunk n chunk) NoSession d m = absurd (d m.0 m.1)
comes s (PutManifest n p) NoSession d m = absurd (d m.image m.root m.number m.holds)
comes s (PutManifest n p) Nonce d m =
    let same = one_job s n (Creates m.image m.root m.number) (Creates d.image d.root d.number) m.holds d.session in
    absurd (d.other (m.maker ∙ ap root_in same, m.drawn ∙ ap number_in same))
comes s (PutManifest n p) (Doubt k) d m = absurd (m.sure k d.4)
comes s (PutManifest n p) (Missing i) d m =
    let same = one_job s n (Creates m.image m.root m.number) (Creates d.0 d.1 d.2.number) m.holds d.2.session in
    absurd (no_some _ d.4.lacks (subst (λ r. Has s.known.view (kind.Chunk r d.4.name.bytes)) (ap root_in same) (m.there i d.4.name d.4.there)))
comes s (Abandon n) NoSession d m = absurd (d m.0 m.1)
comes s (Rotate bytes) (Doubt k) d m = absurd (m k d.3)
comes s (CopyRead n index) NoSession d m = absurd (d m.image m.from m.to m.manifest m.holds)
comes s (CopyRead n index) NoChunk d m =
    let same : d.3 ≡ m.manifest = same_fields s n d.0 m.image d.1 d.2 m.from m.to d.3 m.manifest d.4 m.holds in
    absurd (not_both _ m.name (subst (λ (p : ManifestFields). slice_get p.names index ≡ None) same d.5) m.named)
comes s (FinishMigrate n) NoSession d m = absurd (d m.image m.from m.to m.manifest m.holds)
comes s (FinishMigrate n) (Doubt k) d m = absurd (m.sure k d.6)
comes s (FinishMigrate n) (Missing i) d m =
    let same = one_job s n (Moves m.image m.from m.to m.manifest) (Moves d.0 d.1 d.2 d.3) m.holds d.4.session in
    let fields : d.3 ≡ m.manifest = same_fields s n d.0 m.image d.1 d.2 m.from m.to d.3 m.manifest d.4.session m.holds in
    let there = subst (λ (p : ManifestFields). slice_get p.names i ≡ Some d.6.name) fields d.6.there in
    absurd (no_some _ d.6.lacks (subst (λ r. Has s.known.view (kind.Chunk r d.6.name.bytes)) (ap root_in same) (m.there i d.6.name there)))
comes s (Expire r) (by.Session n) d m = absurd (not_both _ d.1.0.0 (m.1 n) d.1.0.1)
comes s (Expire r) (Doubt k) d m = absurd (m.0 k d.1.0.0)
comes s call NoLease d m = absurd d
comes s call NoChunk d m = absurd d
comes s call NoSession d m = absurd d
comes s call Nonce d m = absurd d
comes s call (Missing i) d m = absurd d
comes s call (Doubt k) d m = absurd d
comes s call (by.Session n) d m = absurd d
comes s call reply d m = tt

abbrev pub Comes : LogEntry → Type 0
Comes e = ComesAlone (seen_told e.reply)

comes_entry : (s : State) (e : LogEntry) (call : Call) → e.caller ≡ 0 → seen_noted e.call ≡ call → IsRun s (e ∷ []) → Meets s call → Comes e
comes_entry s e call caller is run meets =
    let both = entry_step run.0 run.1 e run.3 in
    subst ComesAlone (sym (ap (λ (q : Step). q.reply) both))
    (comes s run.0 run.1 (subst (λ c. DepotStep s c run.0 run.1) caller run.2) (subst (Meets s) (sym is ∙ ap (λ (q : Step). q.call) both) meets))

-- ---- walks

logged_one : (r : Reply) (s : Step) (xs : List Step) → (r ≡ memory) ⊎ ((r ≡ nothing) ⊎ (with_logged r s xs ≡ s ∷ xs))
logged_one memory s xs = inl refl
logged_one nothing s xs = inr (inl refl)
logged_one r s xs = inr (inr refl)

none_come : (own : List LogEntry) → map step_of own ≡ [] → AllByRecursion Comes own
none_come [] e = tt
none_come (x ∷ xs) e = absurd (cc)

module _ (E : Type 0) (Good : E → Type 0) where
  -- From this state on, each entry of the walk has such a reply, and its ending is good.
  abbrev pub GoesAlone : State → Walks Step E → Type 0
  GoesAlone s W =
      (steps : List Step) (end : E) (own : List LogEntry) → W steps end → map step_of own ≡ logged steps → AllByRecursion (λ (e : LogEntry). e.caller ≡ 0) own → IsRun s own
      → AllByRecursion Comes own × Good end

  pub alone_ends : (s : State) (end : E) → Good end → GoesAlone s (Ends end)
  alone_ends s end good steps ending own w same callers runs = (none_come own (same ∙ ap logged w.0), subst Good (sym w.1) good)

  pub alone_asks : (s : State) (call : Call) (after : Reply → Walks Step E) → (Answers call nothing → ⊥) → Meets s call → GoesAlone s (after memory)
      → ((e : LogEntry) → e.caller ≡ 0 → seen_noted e.call ≡ call → IsRun s (e ∷ []) → Comes e → Answers call (seen_told e.reply) → GoesAlone (after_entry s e) (after (seen_told e.reply)))
      → GoesAlone s (Asks call after)
  alone_asks s call after idle meets left next steps end own (reply, first, tail, are, (is, answers), rest) same callers runs = by (logged_one reply (step call reply) (logged tail))
    where
      all : map step_of own ≡ with_logged reply (step call reply) (logged tail)
      all = same ∙ ap logged (are ∙ ap (λ q. q ∷ tail) is)

      by : (reply ≡ memory) ⊎ ((reply ≡ nothing) ⊎ (with_logged reply (step call reply) (logged tail) ≡ step call reply ∷ logged tail)) → AllByRecursion Comes own × Good end
      by (inl none) = left tail end own (subst (λ r. after r tail end) none rest) (all ∙ ap (λ r. with_logged r (step call reply) (logged tail)) none) callers runs
      by (inr (inl none)) = absurd (idle (subst (Answers call) none answers))
      by (inr (inr kept)) =
          let f = first_entry own (step call reply) (logged tail) (all ∙ kept) in
          let here : IsRun s (f.0 ∷ f.1) = subst (IsRun s) f.2 runs in
          let own_ones : AllByRecursion (λ (e : LogEntry). e.caller ≡ 0) (f.0 ∷ f.1) = subst (AllByRecursion (λ (e : LogEntry). e.caller ≡ 0)) f.2 callers in
          let one : IsRun s (f.0 ∷ []) = (here.0, here.1, here.2, here.3, tt) in
          let call_is : seen_noted f.0.call ≡ call = ap (λ (q : Step). q.call) f.3 in
          let told : seen_told f.0.reply ≡ reply = ap (λ (q : Step). q.reply) f.3 in
          let come : Comes f.0 = comes_entry s f.0 call own_ones.0 call_is one meets in
          let more = next f.0 own_ones.0 call_is one come (subst (Answers call) (sym told) answers) tail end f.1 (subst (λ r. after r tail end) (sym told) rest) f.4 own_ones.1 here.4 in
          (subst (AllByRecursion Comes) (sym f.2) (come, more.0), more.1)

  -- a session is left
  pub alone_leaves : (s : State) (n : ℕ) (j : Job) (end : E) → Good end → Holds s n 0 j → GoesAlone s (Asks (abandons n) (λ _. Ends end))
  alone_leaves s n j end good holds = alone_asks s (abandons n) (λ _. Ends end) (λ a. a) (j, holds) (alone_ends s end good) (λ e caller is run come a. alone_ends (after_entry s e) end good)

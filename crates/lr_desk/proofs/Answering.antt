-- the answer of a command
use Rattle.std.proofs.Common.{◌≡◌, ◌≢◌, ◌≤◌, ◌+◌, ◌^◌, ℕ, List, [], ◌∷◌, ◌++◌, Option, Some, None, Bool, true, false, cond, refl, ap, subst, sym, ◌∙◌, inl, inr, arith}
use Rattle.std.specs.Prelude.{◌⊎◌}
use Rattle.std.proofs.lemmas.List.Elements.{All-nil}
use Rattle.lr_spec.specs.Rose.{Rose}
use Rattle.lr_spec.specs.Told.{Told}
use Rattle.lr_origin.specs.Objects.{Objects}
use Rattle.lr_origin.specs.declared.key.KeyKind.{KeyKind}
use Rattle.lr_desk.specs.declared.outcome.Refusal.TheVariants as refusal
use Rattle.lr_roots.specs.Names.{IsOneOf}
use Rattle.lr_opening.specs.declared.cause.StartCause.{StartCause}
use Rattle.lr_opening.specs.declared.cause.StartCause.TheVariants as cause
use Rattle.lr_opening.specs.Cause.{IsCause}
use Rattle.lr_opening.specs.Listing.{HasFewer, HasMany}
use Rattle.lr_opening.specs.Store.{Mirrors, HasChunks, IsForeignKey, IsSoundStore}
use Rattle.lr_opening.proofs.Bounded.{fewer_not_many}
use Rattle.lr_opening.proofs.Views.{sound_store_is_not_foreign}
use Rattle.lr_rules.specs.State.{State}
use Rattle.lr_rules.proofs.Start.{start_safe}
use Rattle.lr_depot.specs.declared.call.DepotCall.{DepotCall}
use Rattle.lr_depot.specs.declared.call.DepotReply.{DepotReply}
use Rattle.lr_depot.specs.declared.call.DepotReply.TheVariants as by
use Rattle.lr_depot.specs.declared.call.DepotTold.{DepotTold}
use Rattle.lr_depot.specs.declared.call.DepotTold.TheVariants as told
use Rattle.lr_depot.specs.Begun.{Start}
use Rattle.lr_depot.specs.Machine.{LogEntry, DepotStep, Enters, IsTold, after_entry, run}
use Rattle.lr_depot.specs.Store.{StoreStep, IsRun, LeadsTo, tells_fault, is_fault, fault_count, Covers}
use Rattle.lr_depot.specs.Left.{Left}
use Rattle.lr_roots.specs.Catalog.{Seen as Catalog}
use Rattle.lr_depot.specs.Depot.{Seen, IsStart, LedTo, first_state, state, IsStarted, IsEnded}
use Rattle.lr_depot.proofs.Followed.{start_follows, leads_follows, never_spoiled}
use Rattle.lr_depot.proofs.Logged.{leads_run}
use Rattle.lr_depot.proofs.Moved.{run_safe}
use Rattle.lr_walk.specs.Depot.{seen_told}
use Rattle.lr_desk.specs.declared.outcome.Refusal.{Refusal}
use Rattle.lr_desk.specs.declared.outcome.Outcome.{Outcome}
use Rattle.lr_desk.specs.declared.outcome.Outcome.TheVariants.{Done, Usage, ReadFault, WriteFault, OriginFault, Memory, Refused, Foreign, Spoiled, TooMany}
use Rattle.lr_desk.specs.declared.words.Command.{Command}
use Rattle.lr_desk.specs.declared.words.Command.TheVariants as command
use Rattle.lr_desk.specs.Alone.{ComesAlone, AreAlone, CommandsComeAlone}
use Rattle.lr_desk.specs.Words.{AreWords, IsCommand, words_of}
use Rattle.lr_desk.specs.Outcome.{status_of, line_of}
use Rattle.lr_desk.specs.Ends.{outcome_of, Setting, setting, HasWalked, IsWritten, IsFinish, HasRun, IsWalkOutcome}
use Rattle.lr_desk.specs.Causes.{Met, IsDepots, Tells, IsTooLong, Refuses, Comes, cause_of, IsForeignEnd, IsManyEnd, IsUnspoiledEnd, IsExact, IsComplete, Completes, IsAnswered, HasCommanded}
use Rattle.lr_desk.specs.Made.{CreationsLeaveImages, HasLeft}
use Rattle.lr_desk.proofs.Walking.{walked_kind}
use Rattle.lr_desk.proofs.Commanding.{walked_tells, walked_is}
use Rattle.lr_desk.proofs.Causing.{walked_sealed, walked_long}

-- ---- no entry tells of a spoiled key

-- where an entry of a log stands that leads from objects to objects
record IsLedAt (s : State) (m : Objects) (e : LogEntry) : Type 0 where
  front : List LogEntry
  between : Objects
  next : Objects
  call : DepotCall
  reply : DepotReply
  leads : LeadsTo s m front between
  step : DepotStep (run s front) e.caller call reply
  enters : Enters call reply e
  stores : StoreStep (run s front) e.caller call reply between (Some next)

led_at : (s : State) (m : Objects) (log : List LogEntry) (n : Objects) → LeadsTo s m log n → (e : LogEntry) → IsOneOf log e → IsLedAt s m e
led_at s m [] n h e none = absurd none
led_at s m (x ∷ xs) n h e (inl same) =
    subst (IsLedAt s m) (sym same) (record { front = []; between = m; next = h.2; call = h.0; reply = h.1; leads = refl; step = h.3; enters = h.4; stores = h.5 })
led_at s m (x ∷ xs) n h e (inr i) =
    let r = led_at (after_entry s x) h.2 xs n h.6 e i in
    record { front = x ∷ r.front; between = r.between; next = r.next; call = r.call; reply = r.reply; leads = (h.0, h.1, h.2, h.3, h.4, h.5, r.leads); step = r.step; enters = r.enters; stores = r.stores }

told_spoiled : (reply : DepotReply) (k : KeyKind) → IsTold reply (told.Spoiled k) → reply ≡ by.Spoiled k
told_spoiled (by.Spoiled q) k h = cc
told_spoiled (by.Opened lease m) k h = absurd h
told_spoiled (by.Fetched chunk) k h = absurd h
told_spoiled (by.Moving session from to m) k h = absurd h
told_spoiled (by.Copied chunk) k h = absurd h
told_spoiled by.Nothing k h = absurd h
told_spoiled by.OutOfMemory k h = absurd h
told_spoiled reply k h = absurd (cc)

spoiled_told : (t : DepotTold) (k : KeyKind) → outcome_of (seen_told t) ≡ Spoiled k → t ≡ told.Spoiled k
spoiled_told (told.Spoiled q) k e = cc
spoiled_told t k e = absurd (cc)

never_told : (start : Start) (m : Objects) (log : List LogEntry) (n : Objects) → IsStart start → Mirrors m start.view → HasChunks m → LeadsTo (first_state start) m log n
    → (k : KeyKind) → Tells log (Spoiled k) → ⊥
never_told start m log n begun mirrors chunks leads k tells =
    let at = led_at (first_state start) m log n leads tells.0 tells.1 in
    let is : at.reply ≡ by.Spoiled k = told_spoiled at.reply k (subst (IsTold at.reply) (spoiled_told tells.0.reply k tells.2) at.enters.told) in
    let safe = start_safe start.view start.number begun.may in
    let ends = leads_follows (first_state start) m at.front at.between safe at.leads (start_follows start.view start.number m mirrors, chunks) in
    never_spoiled (state start at.front) (run_safe (first_state start) at.front safe (leads_run (first_state start) m at.front at.between at.leads)) tells.0.caller at.call k at.between (Some at.next) ends.0 ends.1
    (subst (DepotStep (state start at.front) tells.0.caller at.call) is at.step) (subst (λ r. StoreStep (state start at.front) tells.0.caller at.call r at.between (Some at.next)) is at.stores)

-- ---- a depot that didn't start

no_entries : (o : Outcome) → Tells [] o → ⊥
no_entries o t = t.1

module _ (m : Met) (c : StartCause) (is : IsCause m.objects m.origin_before m.origin_after c) where
  cause_comes : (c : StartCause) → IsCause m.objects m.origin_before m.origin_after c → Comes m (cause_of c)
  cause_comes (cause.Fault None) h = h
  cause_comes (cause.Fault (Some k)) h = h.0
  cause_comes (cause.Spoiled k) h = inr h
  cause_comes (cause.Foreign key) h = h
  cause_comes cause.TooMany h = h
  cause_comes cause.OutOfMemory h = tt

  cause_foreign : (c : StartCause) → IsCause m.objects m.origin_before m.origin_after c → Told m.objects (λ os. (key : List ℕ) → IsForeignKey os key → HasFewer os (2 ^ 32) → IsForeignEnd os (cause_of c))
  cause_foreign (cause.Fault k) h os t key foreign few = tt
  cause_foreign (cause.Spoiled k) h os t key foreign few = absurd (h.1 os t)
  cause_foreign (cause.Foreign q) h os t key foreign few = (h os t).0
  cause_foreign cause.TooMany h os t key foreign few = absurd (fewer_not_many os (2 ^ 32) few (h os t))
  cause_foreign cause.OutOfMemory h os t key foreign few = tt

  cause_many : (c : StartCause) → IsCause m.objects m.origin_before m.origin_after c → Told m.objects (λ os. HasMany os (2 ^ 32) → IsManyEnd (cause_of c))
  cause_many (cause.Fault k) h os t many = tt
  cause_many (cause.Spoiled k) h os t many = absurd (h.1 os t)
  cause_many (cause.Foreign q) h os t many = absurd (fewer_not_many os (2 ^ 32) (h os t).1 many)
  cause_many cause.TooMany h os t many = tt
  cause_many cause.OutOfMemory h os t many = tt

  cause_rose : (k : Option KeyKind) → IsCause m.objects m.origin_before m.origin_after (cause.Fault k) → Rose m.origin_before m.origin_after
  cause_rose None h = h
  cause_rose (Some k) h = h.0

  cause_complete : (c : StartCause) → IsCause m.objects m.origin_before m.origin_after c → Completes m (cause_of c)
  cause_complete (cause.Fault k) h words still source sink os t sound few = absurd (still (cause_rose k h))
  cause_complete (cause.Spoiled k) h words still source sink os t sound few = absurd (h.1 os t)
  cause_complete (cause.Foreign q) h words still source sink os t sound few = absurd (sound_store_is_not_foreign os sound.0.0 sound.0.1 sound.0.2 q.items (h os t).0)
  cause_complete cause.TooMany h words still source sink os t sound few = absurd (fewer_not_many os (2 ^ 32) few (h os t))
  cause_complete cause.OutOfMemory h words still source sink os t sound few = tt

  cause_unspoiled : (c : StartCause) → IsCause m.objects m.origin_before m.origin_after c → Told m.objects (λ os. HasChunks os → IsUnspoiledEnd (cause_of c))
  cause_unspoiled (cause.Fault k) h os t chunks = tt
  cause_unspoiled (cause.Spoiled k) h os t chunks = absurd (h.1 os t)
  cause_unspoiled (cause.Foreign q) h os t chunks = tt
  cause_unspoiled cause.TooMany h os t chunks = tt
  cause_unspoiled cause.OutOfMemory h os t chunks = tt

  pub answered_by_cause : (status : ℕ) (line : List ℕ) → m.log ≡ [] → AreWords m.words → status ≡ status_of (cause_of c) → line ≡ line_of (cause_of c) → IsAnswered m status line
  answered_by_cause status line none words gave says = record {
    outcome = cause_of c;
    gave = gave;
    says = says;
    comes = cause_comes c is;
    exact = record {
      usage = λ not. absurd (not words);
      told = λ x b t. absurd (no_entries x (subst (λ l. Tells l x) none t));
      foreign = λ _. cause_foreign c is;
      many = λ _. cause_many c is;
      unspoiled = cause_unspoiled c is;
    };
    complete = cause_complete c is;
  }

-- neither done nor a fault of the sink
pub cause_status : (c : StartCause) → (status_of (cause_of c) ≢ 0) × (status_of (cause_of c) ≢ 5)
cause_status (cause.Fault key) = (λ e. absurd (omega (arith, e)), λ e. absurd (omega (arith, e)))
cause_status (cause.Spoiled key) = (λ e. absurd (omega (arith, e)), λ e. absurd (omega (arith, e)))
cause_status (cause.Foreign key) = (λ e. absurd (omega (arith, e)), λ e. absurd (omega (arith, e)))
cause_status cause.TooMany = (λ e. absurd (omega (arith, e)), λ e. absurd (omega (arith, e)))
cause_status cause.OutOfMemory = (λ e. absurd (omega (arith, e)), λ e. absurd (omega (arith, e)))

pub answered_usage : (m : Met) (status : ℕ) (line : List ℕ) → m.log ≡ [] → ¬ (AreWords m.words) → status ≡ status_of Usage → line ≡ line_of Usage → IsAnswered m status line
answered_usage m status line none not gave says = record {
  outcome = Usage;
  gave = gave;
  says = says;
  comes = not;
  exact = record {
    usage = λ _. refl;
    told = λ x b t. absurd (no_entries x (subst (λ l. Tells l x) none t));
    foreign = λ words. absurd (not words);
    many = λ words. absurd (not words);
    unspoiled = λ os t chunks. tt;
  };
  complete = λ words. absurd (not words);
}

-- ---- a depot that started

finish_from : (o e : Outcome) (text : List ℕ) (before after : Option (List ℕ)) → IsFinish o text before after e → IsDepots o → e ≡ o
finish_from OriginFault e text before after f b = f.0
finish_from (Refused r) e text before after f b = f.0
finish_from (Spoiled k) e text before after f b = f.0
finish_from o e text before after f b = absurd b

written_not : (e : Outcome) (text : List ℕ) (before after : Option (List ℕ)) → IsWritten before text after e → IsDepots e → ⊥
written_not OriginFault text before after w b = w
written_not (Refused r) text before after w b = w
written_not (Spoiled k) text before after w b = w
written_not e text before after w b = b

finish_is : (o e : Outcome) (text : List ℕ) (before after : Option (List ℕ)) → IsFinish o text before after e → IsDepots e → o ≡ e
finish_is Done e text before after f b = absurd (written_not e text before after f b)
finish_is Usage e text before after f b = sym f.0
finish_is ReadFault e text before after f b = sym f.0
finish_is WriteFault e text before after f b = sym f.0
finish_is OriginFault e text before after f b = sym f.0
finish_is Memory e text before after f b = sym f.0
finish_is (Refused r) e text before after f b = sym f.0
finish_is (Foreign v) e text before after f b = sym f.0
finish_is (Spoiled k) e text before after f b = sym f.0
finish_is TooMany e text before after f b = sym f.0

finish_refused : (o : Outcome) (r : Refusal) (text : List ℕ) (before after : Option (List ℕ)) → IsFinish o text before after (Refused r) → o ≡ Refused r
finish_refused Done r text before after f = absurd f
finish_refused o r text before after f = sym f.0

-- an outcome of a command that ran
IsRunOutcome : Outcome → Type 0
IsRunOutcome Usage = ⊥
IsRunOutcome (Foreign v) = ⊥
IsRunOutcome TooMany = ⊥
IsRunOutcome e = Unit {0}

written_run : (e : Outcome) (text : List ℕ) (before after : Option (List ℕ)) → IsWritten before text after e → IsRunOutcome e
unfolding IsRunOutcome
written_run Usage text before after w = w
written_run ReadFault text before after w = absurd w
written_run (Foreign v) text before after w = w
written_run TooMany text before after w = w
written_run e text before after w = tt

walk_run : (o : Outcome) → IsWalkOutcome o → IsRunOutcome o
unfolding IsRunOutcome
walk_run Done k = tt
walk_run ReadFault k = tt
walk_run OriginFault k = tt
walk_run Memory k = tt
walk_run (Refused r) k = tt
walk_run (Spoiled key) k = tt
walk_run o k = absurd k

finish_run : (o e : Outcome) (text : List ℕ) (before after : Option (List ℕ)) → IsWalkOutcome o → IsFinish o text before after e → IsRunOutcome e
finish_run Done e text before after k f = written_run e text before after f
finish_run ReadFault e text before after k f = subst IsRunOutcome (sym f.0) (walk_run ReadFault k)
finish_run OriginFault e text before after k f = subst IsRunOutcome (sym f.0) (walk_run OriginFault k)
finish_run Memory e text before after k f = subst IsRunOutcome (sym f.0) (walk_run Memory k)
finish_run (Refused r) e text before after k f = subst IsRunOutcome (sym f.0) (walk_run (Refused r) k)
finish_run (Spoiled key) e text before after k f = subst IsRunOutcome (sym f.0) (walk_run (Spoiled key) k)
finish_run o e text before after k f = absurd k

module _ (m : Met) (c : Command) (s : Setting) (before after : Option (List ℕ)) where
  run_tells : (e : Outcome) → HasRun c s m.log before after e → IsDepots e → Tells m.log e
  run_tells e ran b =
      let same = finish_is ran.0 e ran.1 before after ran.3 b in
      subst (Tells m.log) same (walked_tells c s m.log ran.0 ran.1 ran.2 (subst IsDepots (sym same) b))

  module _ (worded : m.words ≡ words_of c) (told : s.source ≡ m.source) where
    run_refuses : (r : Refusal) → HasRun c s m.log before after (Refused r) → Refuses m r
    run_refuses refusal.Sealed ran = walked_sealed c s m.log ran.0 ran.1 m.words ran.2 worded (finish_refused ran.0 refusal.Sealed ran.1 before after ran.3)
    run_refuses refusal.TooLong ran = subst (IsTooLong m.words) told (walked_long c s m.log ran.0 ran.1 m.words ran.2 worded (finish_refused ran.0 refusal.TooLong ran.1 before after ran.3))
    run_refuses r ran = run_tells (Refused r) ran tt

    run_comes : (e : Outcome) → AreWords m.words → HasRun c s m.log before after e → IsRunOutcome e → (e ≡ OriginFault → Rose m.origin_before m.origin_after) → (e ≡ ReadFault → Rose m.source_before m.source_after)
        → (e ≡ WriteFault → Rose m.sink_before m.sink_after) → Comes m e
    unfolding IsRunOutcome
    run_comes Done words ran k origin source sink = words
    run_comes Usage words ran k origin source sink = absurd k
    run_comes ReadFault words ran k origin source sink = source refl
    run_comes WriteFault words ran k origin source sink = sink refl
    run_comes OriginFault words ran k origin source sink = origin refl
    run_comes Memory words ran k origin source sink = tt
    run_comes (Refused r) words ran k origin source sink = run_refuses r ran
    run_comes (Foreign q) words ran k origin source sink = absurd k
    run_comes (Spoiled key) words ran k origin source sink = inl (run_tells (Spoiled key) ran tt)
    run_comes TooMany words ran k origin source sink = absurd k

  run_complete : (start : Start) (e : Outcome) → IsStart start → start.objects ≡ m.objects → Told start.objects (λ os. (n : Objects) × LeadsTo (first_state start) os m.log n)
      → HasRun c s m.log before after e → IsRunOutcome e → (e ≡ OriginFault → Rose m.origin_before m.origin_after) → (e ≡ ReadFault → Rose m.source_before m.source_after) → (e ≡ WriteFault → Rose m.sink_before m.sink_after) → Completes m e
  unfolding IsRunOutcome
  run_complete start Done begun same leads ran k origin source sink words still unread quiet os t sound few = tt
  run_complete start Memory begun same leads ran k origin source sink words still unread quiet os t sound few = tt
  run_complete start (Refused r) begun same leads ran k origin source sink words still unread quiet os t sound few = tt
  run_complete start WriteFault begun same leads ran k origin source sink words still unread quiet os t sound few = absurd (quiet (sink refl))
  run_complete start OriginFault begun same leads ran k origin source sink words still unread quiet os t sound few = absurd (still (origin refl))
  run_complete start (Spoiled key) begun same leads ran k origin source sink words still unread quiet os t sound few =
      let l = leads os (same ∙ t) in
      absurd (never_told start os m.log l.0 begun (begun.mirrors os (same ∙ t)) sound.1 l.1 key (run_tells (Spoiled key) ran tt))
  run_complete start Usage begun same leads ran k origin source sink words still unread quiet os t sound few = absurd k
  run_complete start ReadFault begun same leads ran k origin source sink words still unread quiet os t sound few = absurd (unread (source refl))
  run_complete start (Foreign q) begun same leads ran k origin source sink words still unread quiet os t sound few = absurd k
  run_complete start TooMany begun same leads ran k origin source sink words still unread quiet os t sound few = absurd k

  run_unspoiled : (start : Start) (e : Outcome) → IsStart start → start.objects ≡ m.objects → Told start.objects (λ os. (n : Objects) × LeadsTo (first_state start) os m.log n) → HasRun c s m.log before after e
      → Told m.objects (λ os. HasChunks os → IsUnspoiledEnd e)
  run_unspoiled start (Spoiled key) begun same leads ran os t chunks =
      let l = leads os (same ∙ t) in
      never_told start os m.log l.0 begun (begun.mirrors os (same ∙ t)) chunks l.1 key (run_tells (Spoiled key) ran tt)
  run_unspoiled start e begun same leads ran os t chunks = tt

  pub answered_by_run : (start : Start) (status : ℕ) (line : List ℕ) (e : Outcome) → IsCommand c → m.words ≡ words_of c → s.source ≡ m.source → IsStart start → start.objects ≡ m.objects
      → Told m.objects (λ os. HasFewer os (2 ^ 32)) → Told start.objects (λ os. (n : Objects) × LeadsTo (first_state start) os m.log n)
      → HasRun c s m.log before after e → (e ≡ OriginFault → Rose m.origin_before m.origin_after) → (e ≡ ReadFault → Rose m.source_before m.source_after) → (e ≡ WriteFault → Rose m.sink_before m.sink_after)
      → status ≡ status_of e → line ≡ line_of e → IsAnswered m status line
  answered_by_run start status line e is words told begun same few leads ran origin source sink gave says =
      let k = finish_run ran.0 e ran.1 before after (walked_kind c s m.log ran.0 ran.1 ran.2) ran.3 in
      let good : AreWords m.words = (c, is, words) in
      record {
        outcome = e;
        gave = gave;
        says = says;
        comes = run_comes words told e good ran k origin source sink;
        exact = record {
          usage = λ not. absurd (not good);
          told = λ x b t.
              let o = walked_is c s m.log ran.0 ran.1 ran.2 x b t in
              finish_from ran.0 e ran.1 before after ran.3 (subst IsDepots (sym o) b) ∙ o;
          foreign = λ _ os t key foreign fewer. absurd (sound_store_is_not_foreign os start.view (begun.mirrors os (same ∙ t)) begun.may.sound key foreign);
          many = λ _ os t many. absurd (fewer_not_many os (2 ^ 32) (few os t) many);
          unspoiled = run_unspoiled start e begun same leads ran;
        };
        complete = run_complete start e begun same leads ran k origin source sink;
      }

-- ---- from its start to its end

-- no entry, no reply
pub none_alone : (log : List LogEntry) → log ≡ [] → AreAlone log
none_alone log none = subst AreAlone (sym none) (All-nil (λ (e : LogEntry). ComesAlone (seen_told e.reply)))

count_cons : (x : LogEntry) (xs : List LogEntry) (b : Bool) → is_fault x ≡ b → fault_count (x ∷ xs) ≡ cond b 1 0 + fault_count xs
count_cons x xs true is = rw is (omega arith)
count_cons x xs false is = rw is (omega arith)

fault_in : (log : List LogEntry) (e : LogEntry) → IsOneOf log e → is_fault e ≡ true → 1 ≤ fault_count log
fault_in [] e none is = absurd none
fault_in (x ∷ xs) e (inl s) is = let n = count_cons x xs true (subst (λ (q : LogEntry). is_fault q ≡ true) s is) in omega (arith, n)
fault_in (x ∷ xs) e (inr i) is = by (is_fault x) refl (fault_in xs e i is)
  where
    by : (b : Bool) → is_fault x ≡ b → 1 ≤ fault_count xs → 1 ≤ fault_count (x ∷ xs)
    by true b more = let n = count_cons x xs true b in omega (arith, n)
    by false b more = let n = count_cons x xs false b in omega (arith, n, more)

fault_told : (t : DepotTold) → outcome_of (seen_told t) ≡ OriginFault → tells_fault t ≡ true
fault_told (told.Fault k) e = refl
fault_told t e = absurd (cc)

-- An entry that tells of a fault of the store raised its count.
pub rose_by : (before : ℕ) (log : List LogEntry) (now : ℕ) → Covers before log now → Tells log OriginFault → Rose before now
rose_by before log now (inr last) t = inr last
rose_by before log now (inl more) t = let one = fault_in log t.0 t.1 (fault_told t.0.reply t.2) in inl (omega (arith, more, one))

module _ {O : Type 0} (objects : O → Option Objects) (faults : O → ℕ) (origin after : O) (first last : Seen O) (left : Left) (catalog : Catalog)
    (words : List (List ℕ)) (source_before source_after sink_before sink_after : ℕ) (c : Command) (source source_left : Option (List ℕ)) (written written_after : Option (List ℕ)) (e : Outcome) (status : ℕ) (line : List ℕ)
    (started : IsStarted objects faults origin first) (same : last.start ≡ first.start) (ended : IsEnded objects faults last after left catalog)
    (is : IsCommand c) (worded : words ≡ words_of c) (ran : HasRun c (setting objects first source source_left) last.log written written_after e) where
  ran_left : HasRun c (setting objects first source source_left) left.log written written_after e
  ran_left = subst (λ l. HasRun c (setting objects first source source_left) l written written_after e) (sym ended.log) ran

  covers_left : Covers (faults origin) left.log (faults after)
  covers_left =
      subst (λ n. Covers n left.log (faults after)) (ap (λ (s : Start). s.faults) same ∙ started.failed)
      (subst (λ l. Covers last.start.faults l (faults after)) (sym ended.log) (subst (λ (o : O). Covers last.start.faults last.log (faults o)) (sym ended.store) ended.counted))

  leads_left : Told first.start.objects (λ os. (n : Objects) × LeadsTo (first_state first.start) os left.log n)
  leads_left os t =
      let l = ended.leads os (ap (λ (s : Start). s.objects) same ∙ t) in
      (l.0, subst (λ (s : Start). LeadsTo (first_state s) os left.log l.0) same (subst (λ g. LeadsTo (first_state last.start) os g l.0) (sym ended.log) l.2))

  abbrev met : Met
  met = record { words = words; objects = objects origin; source = source; origin_before = faults origin; origin_after = faults after; source_before = source_before; source_after = source_after; sink_before = sink_before; sink_after = sink_after; log = left.log }

  pub answered_started : (e ≡ ReadFault → Rose source_before source_after) → (e ≡ WriteFault → Rose sink_before sink_after) → status ≡ status_of e → line ≡ line_of e
      → IsAnswered (record { words = words; objects = objects origin; source = source; origin_before = faults origin; origin_after = faults after; source_before = source_before; source_after = source_after; sink_before = sink_before; sink_after = sink_after; log = left.log }) status line
  answered_started read sink gave says =
      answered_by_run met c (setting objects first source source_left) written written_after first.start status line e is worded refl started.start started.told started.few leads_left ran_left
      (λ s. rose_by (faults origin) left.log (faults after) covers_left (subst (Tells left.log) s (run_tells met c (setting objects first source source_left) written written_after e ran_left (subst IsDepots (sym s) tt))))
      read sink gave says

  -- the log leads from the objects at the start to those that are handed back
  led_left : Told (objects origin) (λ os. (n : Objects) × (objects after ≡ Some n) × LedTo first.start os left.log n)
  led_left os t =
      let told : first.start.objects ≡ Some os = started.told ∙ t in
      let l = ended.leads os (ap (λ (s : Start). s.objects) same ∙ told) in (
        l.0,
        ap objects ended.store ∙ l.1,
        record {
          begun = started.start;
          mirrors = started.start.mirrors os told;
          leads = subst (λ (s : Start). LeadsTo (first_state s) os left.log l.0) same (subst (λ g. LeadsTo (first_state last.start) os g l.0) (sym ended.log) l.2);
        },
      )

  images_left : CreationsLeaveImages → (k : Command) → HasRun k (setting objects first source source_left) left.log written written_after Done
      → HasLeft k (setting objects first source source_left) (objects origin) left.log written written_after (objects after)
  images_left law (command.Create image tenant) done os t chunks =
      let l = led_left os t in
      (l.0, l.1, law (setting objects first source source_left) os l.0 image tenant left.log written written_after l.2 chunks done)
  images_left law k done os t chunks = let l = led_left os t in (l.0, l.1, tt)

  pub has_commanded : CreationsLeaveImages → status ≡ status_of e → HasCommanded objects faults words origin source source_left written after written_after left status
  has_commanded law gave = record {
    first = first;
    last = last;
    catalog = catalog;
    started = started;
    same = same;
    ended = ended;
    command = c;
    is = is;
    worded = worded;
    outcome = e;
    gave = gave;
    ran = ran_left;
    images = λ done. images_left law c (subst (λ o. HasRun c (setting objects first source source_left) left.log written written_after o) done ran_left);
  }

-- the log of a command that ran
pub commanded_alone : {O : Type 0} {objects : O → Option Objects} {faults : O → ℕ} {words : List (List ℕ)} {origin after : O} {source source_left written written_after : Option (List ℕ)} {left : Left} {status : ℕ}
    → HasCommanded objects faults words origin source source_left written after written_after left status → CommandsComeAlone → AreAlone left.log
commanded_alone {O} {objects} {faults} {words} {origin} {after} {source} {source_left} {written} {written_after} {left} {status} h law =
    let legal = subst (λ (s : Start). IsRun (first_state s) left.log) h.same (subst (λ g. IsRun (first_state h.last.start) g) (sym h.ended.log) h.ended.legal) in
    law h.command (setting objects h.first source source_left) left.log h.ran.0 h.ran.1 h.started.start legal h.ran.2

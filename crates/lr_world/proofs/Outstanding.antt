-- The sessions of actors after a step.
use Rattle.std.proofs.Common.{◌≡◌, ◌≤◌, ◌+◌, ℕ, List, [], ◌∷◌, ◌++◌, length, Bool, true, false, Some, None, refl, ap, sym, subst, ◌∙◌, inl, inr, arith, le-ltb, ltb-false}
use Rattle.std.specs.Prelude.{◌≢◌, ◌⊎◌, nat_lt, if◌then◌else◌}
use Rattle.lr_object.specs.declared.id.ObjectId.{ObjectId}
use Rattle.lr_object.specs.declared.id.ObjectId.TheVariants.{Depot}
use Rattle.lr_device.specs.declared.step.DeviceStep.TheVariants as asks
use Rattle.lr_rules.specs.State.{Job, State, Holds}
use Rattle.lr_depot.specs.declared.call.DepotCall.{DepotCall}
use Rattle.lr_depot.specs.declared.call.DepotCall.TheVariants as depot
use Rattle.lr_depot.specs.declared.call.DepotReply.{DepotReply}
use Rattle.lr_depot.specs.declared.call.DepotReply.TheVariants.{Began, Moving}
use Rattle.lr_depot.specs.Depot.{state}
use Rattle.lr_walk.specs.declared.trail.Answer.{Answer}
use Rattle.lr_walk.specs.Stands.{IsFront}
use Rattle.lr_walk.specs.Steps.{on_depot, by_device, by_cache, by_node, by_depot, Step, step}
use Rattle.lr_walk.specs.Device as devices
use Rattle.lr_walk.specs.Cache as caches
use Rattle.lr_walk.specs.Node as nodes
use Rattle.lr_walk.specs.Depot as depots
use Rattle.lr_walk.specs.Jobs.{Context}
use Rattle.lr_walk.specs.Trails.{Lists}
use Rattle.lr_actors.specs.declared.action.ActorCall.{ActorCall}
use Rattle.lr_actors.specs.declared.action.ActorCall.TheVariants as call
use Rattle.lr_actors.specs.declared.action.ActorReply.{ActorReply}
use Rattle.lr_actors.specs.declared.action.ActorReply.TheVariants as by
use Rattle.lr_actors.specs.declared.trail.ActorState.TheVariants.{Crashed}
use Rattle.lr_actors.specs.declared.running.Running.{Running}
use Rattle.lr_actors.specs.Asked.{Asked, a_call, HandsCall, Adds, seen_reply}
use Rattle.lr_actors.specs.Running as running
use Rattle.lr_actors.specs.Running.{Task, Walk, task_of}
use Rattle.lr_actors.specs.Jobs as jobs
use Rattle.lr_actors.specs.Jobs.{WalksJob}
use Rattle.lr_actors.specs.Actor as actor
use Rattle.lr_actors.specs.Actor.{Now, works, idles, reaps, over, StandsNow, IsUnderWay, NextJob, HasMade, GoesOn, reap_at, reap_of, reap_count, reaps_from}
use Rattle.lr_replies.specs.Objects.{Objects, Calls}
use Rattle.lr_world.specs.World.{session_of, HasNoSession, HasSessions}
use Rattle.lr_world.proofs.Sessions.{Gives, Came, depot_came, other_kept, stays_held, call_after, depot_reaped}
use Rattle.lr_world.proofs.Openings.{walked_none, Makes, makes_or_none, front_fits, session_more, adds_elsewhere, IsBeginning, begins_makes}

-- ---- another one's call

pub others_sessions : (now : Now) (c other : ℕ) (asked : ActorCall) (reply : ActorReply) (old new : Objects) → other ≢ c → Calls c asked reply old new → HasSessions now old other → HasSessions now new other
others_sessions (works r) c other asked reply old new ne made h = (h.0, h.1, λ n job there. h.2 n job (stays_held c other asked reply old new ne made n job there))
others_sessions idles c other asked reply old new ne made h = λ n job there. h n job (stays_held c other asked reply old new ne made n job there)
others_sessions (reaps k) c other asked reply old new ne made h = tt
others_sessions over c other asked reply old new ne made h = λ n job there. h n job (stays_held c other asked reply old new ne made n job there)

-- ---- who holds none

pub none_sessions : (now : Now) (a : actor.Seen) (lists : Lists) (w : Objects) (c : ℕ) → HasNoSession w c → StandsNow now a lists → HasSessions now w c
none_sessions (works r) a lists w c none stands = (stands.1.0, stands.1.2, λ n job there. absurd (none n job there))
none_sessions idles a lists w c none stands = none
none_sessions (reaps k) a lists w c none stands = tt
none_sessions over a lists w c none stands = none

-- ---- a call of its own

gives_begins : (n : ℕ) (reply : DepotReply) (asked : DepotCall) → Gives n reply asked → IsBeginning (a_call (on_depot (depots.seen_call asked)))
gives_begins n (Began session root bytes number) (depot.BeginCreate image) g = tt
gives_begins n (Moving session from to m) (depot.BeginMigrate image) g = tt
gives_begins n reply asked g = absurd g

module _ (old new : Objects) (c : ℕ) (r : Running) (had : HasSessions (works r) old c) (more : List Step) where
  abbrev steps : List Step
  steps = had.0

  abbrev task : Task
  task = task_of r

  abbrev Held : ℕ → Job → Type 0
  Held n job = Holds (state new.start new.depot) n c job

  -- the session that the job has
  depot_after : (asked : DepotCall) (reply : DepotReply) → Calls c (call.Depot asked) (by.Depot reply) old new → IsFront (Walk task) (steps ++ more) → HandsCall (call.Depot asked) (running.asked r) → Adds (running.asked r) (by_depot (depots.seen_reply reply)) more
      → (n : ℕ) (job : Job) → Held n job → session_of task (steps ++ more) ≡ Some n
  depot_after asked reply made front hands adds n job there = by (makes_or_none task)
    where
      next : Step
      next = step (on_depot (depots.seen_call asked)) (by_depot (depots.seen_reply reply))

      is : more ≡ next ∷ []
      is = subst (λ (a : Asked). Adds a (by_depot (depots.seen_reply reply)) more) (sym hands) adds

      came : Came (state old.start old.depot) c asked reply n (record { caller = c; job = job })
      came = depot_came c asked reply old new made n (record { caller = c; job = job }) there

      makes : Makes task → session_of task (steps ++ more) ≡ Some n
      makes m =
          let walk : Walk task ((steps ++ next ∷ []) ++ front.0) front.1 = subst (λ (l : List Step). Walk task ((steps ++ l) ++ front.0) front.1) is front.2 in
          ap (λ (l : List Step). session_of task (steps ++ l)) is ∙ session_more task steps next m
          ∙ call_after (state old.start old.depot) c (session_of task steps) had.2 asked reply made.replies (front_fits task steps next front.0 front.1 m walk) n job came

      from : ((steps : List Step) → session_of task steps ≡ None) → Came (state old.start old.depot) c asked reply n (record { caller = c; job = job }) → session_of task (steps ++ more) ≡ Some n
      from none (inl h) = let a = none steps in let b = had.2 n job h.0 in absurd (cc)
      from none (inr h) = makes (begins_makes r (subst IsBeginning hands (gives_begins n reply asked h.1)))

      by : Makes task ⊎ ((steps : List Step) → session_of task steps ≡ None) → session_of task (steps ++ more) ≡ Some n
      by (inl m) = makes m
      by (inr none) = from none came

  only_after : (asked : ActorCall) (reply : ActorReply) → Calls c asked reply old new → IsFront (Walk task) (steps ++ more) → HandsCall asked (running.asked r) → Adds (running.asked r) (seen_reply reply) more
      → (n : ℕ) (job : Job) → Held n job → session_of task (steps ++ more) ≡ Some n
  only_after (call.Depot asked) (by.Depot reply) made front hands adds n job there = depot_after asked reply made front hands adds n job there
  only_after (call.Device h asked) (by.Device reply) made front hands adds n job there =
      adds_elsewhere task steps more (running.asked r) (by_device (devices.seen_reply reply)) (λ e. e) adds
      ∙ had.2 n job (subst (λ (s : State). Holds s n c job) (other_kept c (call.Device h asked) (by.Device reply) old new made (λ d q e f. cc)) there)
  only_after (call.Cache h asked) (by.Cache reply) made front hands adds n job there =
      adds_elsewhere task steps more (running.asked r) (by_cache (caches.seen_reply reply)) (λ e. e) adds
      ∙ had.2 n job (subst (λ (s : State). Holds s n c job) (other_kept c (call.Cache h asked) (by.Cache reply) old new made (λ d q e f. cc)) there)
  only_after (call.Node h asked) (by.Node reply) made front hands adds n job there =
      adds_elsewhere task steps more (running.asked r) (by_node (nodes.seen_reply reply)) (λ e. e) adds
      ∙ had.2 n job (subst (λ (s : State). Holds s n c job) (other_kept c (call.Node h asked) (by.Node reply) old new made (λ d q e f. cc)) there)
  only_after asked reply made front hands adds n job there = absurd made.replies

  module _ (a after : actor.Seen) (lists : Lists) (asked : ActorCall) (reply : ActorReply) (made : Calls c asked reply old new) (under : NextJob a (λ job. IsUnderWay a.context job r)) (admits : running.Admits r (seen_reply reply))
      (hands : HandsCall asked (running.asked r)) (adds : Adds (running.asked r) (seen_reply reply) more) (goes : GoesOn (works r) a (seen_reply reply) after) (stands : StandsNow after.now after lists) (crash : after.state ≡ Crashed → after.now ≡ reaps 0) where
    only : (n : ℕ) (job : Job) → Held n job → session_of task (steps ++ more) ≡ Some n
    only = only_after asked reply made (under.2.front steps more (seen_reply reply) admits adds had.1) hands adds

    made_by : (now : Now) → HasMade task (steps ++ more) now → HasSessions now new c
    made_by (works q) m = (steps ++ more, m.1, λ n job there. ap (λ (t : Task). session_of t (steps ++ more)) m.0 ∙ only n job there)
    made_by now m = absurd m

    none_walked : NextJob a (λ job. (answer : Answer) × WalksJob a.context job (steps ++ more) answer) → HasNoSession new c
    none_walked w n job there =
        let same : w.0 ≡ under.0 = let e : Some w.0 ≡ Some under.0 = sym w.1 ∙ under.1 in cc in
        let walk : WalksJob a.context under.0 (steps ++ more) w.2.0 = subst (λ (j : jobs.Job). WalksJob a.context j (steps ++ more) w.2.0) same w.2.1 in
        let none : session_of task (steps ++ more) ≡ None = walked_none a.context under.0 task (steps ++ more) w.2.0 under.2.is walk in
        let some : session_of task (steps ++ more) ≡ Some n = only n job there in
        cc

    pub work_sessions : HasSessions after.now new c
    work_sessions = by (goes steps more had.1 adds)
      where
        by : (after.state ≡ Crashed) ⊎ (HasMade task (steps ++ more) after.now ⊎ NextJob a (λ job. (answer : Answer) × WalksJob a.context job (steps ++ more) answer)) → HasSessions after.now new c
        by (inl e) = subst (λ (now : Now). HasSessions now new c) (sym (crash e)) tt
        by (inr (inl m)) = made_by after.now m
        by (inr (inr w)) = none_sessions after.now after lists new c (none_walked w) stands

-- ---- a reap

is_reap : (x : DepotCall) → depots.seen_call x ≡ depots.reaps → x ≡ depot.Reap
is_reap depot.Reap e = refl
is_reap (depot.OpenImage image) e = absurd (cc)
is_reap (depot.Fetch lease index) e = absurd (cc)
is_reap (depot.Close lease) e = absurd (cc)
is_reap (depot.BeginCreate image) e = absurd (cc)
is_reap (depot.PutChunk n chunk) e = absurd (cc)
is_reap (depot.PutManifest n m) e = absurd (cc)
is_reap (depot.Abandon n) e = absurd (cc)
is_reap (depot.Rotate bytes) e = absurd (cc)
is_reap (depot.BeginMigrate image) e = absurd (cc)
is_reap (depot.CopyRead n index) e = absurd (cc)
is_reap (depot.FinishMigrate n) e = absurd (cc)
is_reap (depot.Withdraw image) e = absurd (cc)
is_reap (depot.Expire root) e = absurd (cc)
is_reap (depot.Delete root) e = absurd (cc)
is_reap (depot.Sweep root) e = absurd (cc)
is_reap (depot.Settle key) e = absurd (cc)

reaped_none : (c : ℕ) (asked : ActorCall) (reply : ActorReply) (old new : Objects) → HandsCall asked (a_call (on_depot depots.reaps)) → Calls c asked reply old new → HasNoSession new c
reaped_none c (call.Depot x) (by.Depot reply) old new e made =
    let same : x ≡ depot.Reap = is_reap x (cc) in
    depot_reaped c reply old new (subst (λ (d : DepotCall). Calls c (call.Depot d) (by.Depot reply) old new) same made)
reaped_none c (call.Depot x) reply old new e made = absurd made.replies
reaped_none c (call.Device m (asks.Plan x)) reply old new e made = absurd (cc)
reaped_none c (call.Device m (asks.Commit pieces room)) reply old new e made = absurd e
reaped_none c (call.Device m asks.Drop) reply old new e made = absurd (cc)
reaped_none c (call.Device m asks.Reap) reply old new e made = absurd (cc)
reaped_none c (call.Cache m x) reply old new e made = absurd (cc)
reaped_none c (call.Node m x) reply old new e made = absurd (cc)

otherwise : {X : Type 0} (b : Bool) (x y : X) → b ≡ false → (if b then x else y) ≡ y
otherwise true x y e = absurd (cc)
otherwise false x y e = refl

last_reap : (context : Context) (hosts made : ℕ) → length context.devices + hosts ≤ made → reap_at context hosts made ≡ Depot
last_reap context hosts made h =
    otherwise (nat_lt made (length context.devices)) _ _ (le-ltb made (length context.devices) (omega (arith, h)))
    ∙ otherwise (nat_lt made (length context.devices + hosts)) _ _ (le-ltb made (length context.devices + hosts) h)

pub reap_sessions : (c made : ℕ) (a after : actor.Seen) (asked : ActorCall) (reply : ActorReply) (old new : Objects) → Calls c asked reply old new → HandsCall asked (a_call (reap_of (reap_at a.context a.hosts made)))
    → after.context ≡ a.context → after.hosts ≡ a.hosts → after.now ≡ reaps_from after (made + 1) → HasSessions after.now new c
reap_sessions c made a after asked reply old new called hands context hosts now = subst (λ (n : Now). HasSessions n new c) (sym now) (by (nat_lt (made + 1) (reap_count after.context after.hosts)) refl)
  where
    by : (b : Bool) → nat_lt (made + 1) (reap_count after.context after.hosts) ≡ b → HasSessions (if b then reaps (made + 1) else over) new c
    by true e = tt
    by false e =
        let count : reap_count after.context after.hosts ≡ reap_count a.context a.hosts = λ t. reap_count (context t) (hosts t) in
        let most : reap_count after.context after.hosts ≤ made + 1 = ltb-false (made + 1) (reap_count after.context after.hosts) e in
        let last : reap_at a.context a.hosts made ≡ Depot = last_reap a.context a.hosts made (omega (arith, most, count)) in
        reaped_none c asked reply old new (subst (λ (o : ObjectId). HandsCall asked (a_call (reap_of o))) last hands) called

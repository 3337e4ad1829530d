-- a job under way takes a reply, and what comes next is prepared
use Rattle.std.proofs.Common.{◌≡◌, inl, inr, ◌≤◌, ◌<◌, ℕ, ◌+◌, List, [], ◌∷◌, ◌++◌, length, Bool, true, false, Option, Some, None, refl, sym, ap, subst, ◌∙◌, arith}
use Rattle.std.specs.Prelude.{slice_get, vec_len}
use Rattle.std.proofs.lemmas.Bool.{false≢true}
use Rattle.lr_spec.specs.Rose.{next_count}
use Rattle.lr_object.specs.declared.id.ObjectId.{ObjectId}
use Rattle.lr_object.specs.declared.id.ObjectId.TheVariants.{Device, Cache, Node, Depot}
use Rattle.lr_walk.specs.declared.trail.Answer.{Answer}
use Rattle.lr_walk.specs.declared.trail.Answer.TheVariants.{Memory}
use Rattle.lr_walk.specs.declared.trail.Did.{Did}
use Rattle.lr_walk.specs.Steps.{Reply, by_cache, by_depot, Step, is_memory}
use Rattle.lr_walk.specs.Cache as caches
use Rattle.lr_walk.specs.Depot as depots
use Rattle.lr_walk.specs.Jobs.{Context}
use Rattle.lr_walk.specs.Trails.{Lists}
use Rattle.lr_loader.specs.Progress as loads
use Rattle.lr_collector.specs.Progress as collections
use Rattle.lr_migrator.specs.Progress as migrations
use Rattle.lr_creator.specs.Progress as creations
use Rattle.lr_actors.specs.declared.action.ActorCall.{ActorCall}
use Rattle.lr_actors.specs.declared.trail.Trail.{Trail}
use Rattle.lr_actors.specs.declared.trail.ActorState.TheVariants.{Ended, Unfinished}
use Rattle.lr_actors.specs.declared.single.Single.{Single}
use Rattle.lr_actors.specs.declared.running.Running.{Running}
use Rattle.lr_actors.specs.declared.running.Running.TheVariants.{Serves, Makes, Forges, Collects, Migrates, Creates}
use Rattle.lr_actors.specs.declared.tally.Tally.{Tally}
use Rattle.lr_actors.specs.declared.book.Book.{Book}
use Rattle.lr_actors.specs.declared.body.Setting.{Setting}
use Rattle.lr_actors.specs.declared.body.Working.{Working}
use Rattle.lr_actors.specs.declared.body.Stage.{Stage}
use Rattle.lr_actors.specs.declared.body.Stage.TheVariants.{Works}
use Rattle.lr_actors.specs.Asked.{HandsCall, MayCall}
use Rattle.lr_actors.specs.Serving as serving
use Rattle.lr_actors.specs.Singles as singles
use Rattle.lr_actors.specs.Forging as forging
use Rattle.lr_actors.specs.Collecting as collecting
use Rattle.lr_actors.specs.Migrating as migrating
use Rattle.lr_actors.specs.Creating as creating
use Rattle.lr_actors.specs.Bounds.{collects_left, moves_ahead, puts_left}
use Rattle.lr_actors.specs.Running.{Task, Walk, task_of, asked, Admits, StandsFor, steps_left, Nears, IsOut, Went}
use Rattle.lr_actors.specs.Jobs.{Job, WalksJob}
use Rattle.lr_actors.specs.Begun.{IsTask, IsTaskOf}
use Rattle.lr_actors.specs.Accounts.{StandsAt, IsEnd}
use Rattle.lr_actors.specs.Tally.{Has, IsSized, KeepsSize}
use Rattle.lr_actors.specs.Book.{IsBook, Noted, Finished, HasRoom, SameBook}
use Rattle.lr_actors.specs.Actor.{IsWithin, IsCall, AreEnded, FitsCrash, IsUnderWay, object_called, GrowsBy}
use Rattle.lr_actors.specs.Actor as actor
use Rattle.lr_actors.specs.Body.{context_of, hosts_of, jobs_of, is_busy, is_removal, object_asked, IsSetting, HasEnded, Next, StandsForSome, IsGoing, IsWorking, ahead, Prepares, IsCutAt, Crashes, EndsJob, IsSweep, IsNextCall, Comes, GoesOn, steps_of, Writes, Steps, Takes}
use Rattle.lr_actors.proofs.Ended.{job_ends}
use Rattle.lr_actors.proofs.UnderWay.{cut_walk, removal_sweeps, sweep_last, sweep_stops, asked_within, under_way, held}
use Rattle.lr_actors.proofs.Keeping.{finished_stands, ended_walk, adds_some, written_stands}
use Rattle.lr_actors.proofs.Going.{next_lt, given_at, next_same, stands_as, at_as, results_more, works_whole}

-- ---- the job under way ends

pub end_is : (s : Setting) (old mid new : Book) (answer : Answer) (st : Stage) → IsEnd answer → Finished old answer mid → Prepares s mid new st → EndsJob s old answer new st
end_is s old mid new answer st end f p = record {
  whole = p.whole;
  out = p.out;
  reaps = p.reaps;
  made = p.made ∙ f.made;
  steps = p.steps ∙ f.steps;
  left = rw (← results_more old mid answer f) p.left;
  stands = λ lists steps stands reads next. p.stands lists (finished_stands s lists old mid answer next.0 f next.1 (ended_walk (context_of s) lists next.0 old.path.items answer steps end reads next.2) stands);
}

cut_by : (s : Setting) (lists : Lists) (b : Book) (job : Job) (r : Running) (path : List Did) → slice_get (jobs_of s) (length b.trail.results.items) ≡ Some job → IsUnderWay (context_of s) job r → b.path.items ≡ path → StandsAt lists path r → IsCutAt s lists b
cut_by s lists b job r [] at under e stands = inl e
cut_by s lists b job r (d ∷ rest) at under e stands = inr (job, at, rw e (cut_walk (context_of s) lists job d rest r under stands))

pub cut_at : (s : Setting) (lists : Lists) (b : Book) (job : Job) (r : Running) → slice_get (jobs_of s) (length b.trail.results.items) ≡ Some job → IsUnderWay (context_of s) job r → StandsAt lists b.path.items r → IsCutAt s lists b
cut_at s lists b job r at under stands = cut_by s lists b job r b.path.items at under refl stands

pub crash_goes : (s : Setting) (old new : Book) (r : Running) (st : Stage) (c : ActorCall) (removed : Bool) → Next s old (λ (j : Job). IsNextCall (context_of s) (hosts_of s) j r c removed) → Crashes s old new st → GoesOn s old r new st
crash_goes s old new r st c removed next k = record {
  whole = k.whole;
  out = k.out;
  reaps = k.reaps;
  made = k.made;
  steps = k.steps;
  left = omega (arith, k.left);
  stands = λ lists stands at. k.stands lists stands (cut_at s lists old next.0 r next.1 next.2.under at);
  goes = λ steps stands. inl k.state;
}

pub memory_goes : (s : Setting) (old mid new : Book) (r : Running) (st : Stage) (c : ActorCall) → Next s old (λ (j : Job). IsNextCall (context_of s) (hosts_of s) j r c true) → SameBook old mid → EndsJob s mid Memory new st → GoesOn s old r new st
memory_goes s old mid new r st c next e k = record {
  whole = k.whole;
  out = k.out;
  reaps = k.reaps;
  made = k.made ∙ e.made;
  steps = k.steps ∙ ap (λ (t : _). t.steps) e.trail;
  left = let l = rw e.trail at k.left in omega (arith, l);
  stands = λ lists stands at. k.stands lists at.0 (stands_as s lists old mid e stands) (rw e.path at.1) (next_same s old mid (λ (j : Job). WalksJob (context_of s) j at.0 Memory) e (next.0, next.1, next.2.stops refl at.0 at.2));
  goes = λ steps stands. inr (inr (next.0, next.1, (Memory, next.2.stops refl steps stands)));
}

pub works_go : (s : Setting) (b : Book) (r : Running) (c : ActorCall) (removed : Bool) → IsSetting s → HasEnded s b → FitsCrash s.crash Unfinished b.made → Next s b (λ (j : Job). IsNextCall (context_of s) (hosts_of s) j r c removed)
    → StandsForSome r → HasRoom (steps_left r) b → GoesOn s b r b (Works (record { job = r; object = object_called c; call = Some c }))
works_go s b r c removed is h crash next some room = record {
  whole = works_whole s b next.0 r c is h crash next.1 next.2.under next.2.held some room;
  out = refl;
  reaps = λ q. let u : b.trail.state ≡ Unfinished = h.state in absurd (cc);
  made = refl;
  steps = refl;
  left = omega arith;
  stands = λ lists stands at. (stands, at);
  goes = λ steps stands. inr (inl (refl, stands));
}

pub goes_as : (s : Setting) (old mid new : Book) (r : Running) (st : Stage) → SameBook old mid → GoesOn s mid r new st → GoesOn s old r new st
goes_as s old mid new r st e k = record {
  whole = k.whole;
  out = k.out;
  reaps = k.reaps;
  made = k.made ∙ e.made;
  steps = k.steps ∙ ap (λ (t : _). t.steps) e.trail;
  left = rw (← e.trail) k.left;
  stands = λ lists stands at. k.stands lists (stands_as s lists old mid e stands) (at_as lists r old mid e at);
  goes = λ steps stands. rw (← e.trail) (k.goes steps stands);
}

pub sweep_room : (context : Context) (hosts : ℕ) (job : Job) (r : Running) (c : ActorCall) (b : Book) → IsNextCall context hosts job r c true → HasRoom 1 b → HasRoom (steps_left r) b
sweep_room context hosts job r c b n h = record { room = omega (arith, h.room, n.last refl); few = omega (arith, h.few, n.last refl) }

-- ---- its call, or its end

pub next_call : (s : Setting) (b : Book) (old new : Running) (c : ActorCall) (removed : Bool) → IsSetting s → Next s b (λ (j : Job). IsGoing (context_of s) j old) → (removed ≡ true → IsSweep (task_of old)) → IsOut old new → HandsCall c (asked old) → MayCall c
    → Next s b (λ (j : Job). IsNextCall (context_of s) (hosts_of s) j new c removed)
next_call s b old new c removed is going sweeps out hands may =
    let under = under_way (context_of s) going.0 old new c going.2 out hands in
    let sweep : removed ≡ true → IsSweep (task_of new) = λ e. subst IsSweep (sym out.task) (sweeps e) in (
      going.0,
      going.1,
      record {
        under = under;
        held = held (context_of s) (hosts_of s) going.0 old new c is.context is.hosted (given_at s (length b.trail.results.items) going.0 is going.1) going.2 out hands may;
        stops = λ e steps stands. under.task steps Memory (sweep_stops new (sweep e) under.calls steps stands);
        last = λ e. sweep_last new (sweep e);
      },
    )

pub out_goes : (s : Setting) (old new : Book) (r after : Running) (st : Stage) → IsOut r after → GoesOn s old after new st → GoesOn s old r new st
out_goes s old new r after st out k = record {
  whole = k.whole;
  out = k.out;
  reaps = k.reaps;
  made = k.made;
  steps = k.steps;
  left = rw (← out.left) k.left;
  stands = λ lists stands at. k.stands lists stands (at.0, at.1, out.stands at.0 at.2, out.knows at.0 at.3);
  goes = λ steps stands. subst (λ (t : Task). Comes s old t steps new st) out.task (k.goes steps (out.stands steps stands));
}

pub end_answer : (s : Setting) (b : Book) (r : Running) (answer : Answer) → Next s b (λ (j : Job). IsGoing (context_of s) j r) → StandsForSome r → ((steps : List Step) → StandsFor r steps → Walk (task_of r) steps answer) → IsEnd answer
end_answer s b r answer going some ends = job_ends (context_of s) going.0 some.0 answer (going.2.task some.0 answer (ends some.0 some.1))

pub end_goes : (s : Setting) (old new : Book) (r : Running) (answer : Answer) (st : Stage) → Next s old (λ (j : Job). IsGoing (context_of s) j r) → ((steps : List Step) → StandsFor r steps → Walk (task_of r) steps answer) → EndsJob s old answer new st → GoesOn s old r new st
end_goes s old new r answer st going ends k = record {
  whole = k.whole;
  out = k.out;
  reaps = k.reaps;
  made = k.made;
  steps = k.steps;
  left = omega (arith, k.left);
  stands = λ lists stands at. k.stands lists at.0 stands at.1 (going.0, going.1, going.2.task at.0 answer (ends at.0 at.2));
  goes = λ steps stands. inr (inr (going.0, going.1, (answer, going.2.task steps answer (ends steps stands))));
}

pub going_lt : (s : Setting) (b : Book) (P : Job → Type 0) → Next s b P → length b.trail.results.items < vec_len s.jobs
going_lt s b P n = next_lt s b n.0 n.1

-- ---- a step

-- one step more was counted
abbrev pub with_steps : Book → ℕ → Book
with_steps b n = record { trail = record { state = b.trail.state; results = b.trail.results; steps = n }; path = b.path; tally = b.tally; made = b.made }

pub written_busy : (old : Book) (n : ℕ) (object : ObjectId) (reply : Reply) → IsBook old → is_busy reply ≡ true → n ≡ next_count old.trail.steps → Writes old object reply (with_steps old n)
written_busy old n object reply is busy e = record {
  is = record { counted = is.counted; made = is.made };
  results = refl;
  state = refl;
  steps = e;
  made = rw busy (omega arith);
  sized = record { device_counts = refl; cache_counts = refl; node_counts = refl };
  path = rw busy refl;
  len = rw busy (omega arith);
  capacity = refl;
}

pub written_one : (old new : Book) (n : ℕ) (object : ObjectId) (reply : Reply) → is_busy reply ≡ false → n ≡ next_count old.trail.steps → Noted (with_steps old n) object (is_memory reply) new → Writes old object reply new
written_one old new n object reply busy e k = record {
  is = k.is;
  results = ap (λ (t : Trail). t.results) k.trail;
  state = ap (λ (t : Trail). t.state) k.trail;
  steps = ap (λ (t : Trail). t.steps) k.trail ∙ e;
  made = rw busy k.made;
  sized = k.sized;
  path = rw busy k.path;
  len = rw busy k.len;
  capacity = k.capacity;
}

-- ---- a call is left, so a step is

load_left : (place : _) (need : loads.Need) → IsCall (serving.asked_by (loads.asked place need)) → 1 ≤ loads.steps_left need
load_left place loads.looking h = omega arith
load_left place (loads.asking left held) h = omega arith
load_left place loads.fetching h = omega arith
load_left place (loads.putting chunk stripe more) h = omega arith
load_left place (loads.filling chunk) h = omega arith
load_left place (loads.giving end) h = omega arith
load_left place (loads.ended end) h = absurd h

serving_left : (w : serving.Work) (need : serving.Need) → IsCall (serving.asked w need) → 1 ≤ serving.steps_left need
serving_left w serving.planning h = omega arith
serving_left w (serving.loading chunk need left) h = omega arith
serving_left w (serving.committing pages pieces) h = omega arith
serving_left w (serving.dropping answer) h = omega arith
serving_left w (serving.ended answer) h = absurd h

single_left : (single : Single) (need : singles.Need) → IsCall (singles.asked single need) → 1 ≤ singles.steps_left need
single_left single singles.asking h = omega arith
single_left single (singles.ended answer) h = absurd h

forge_left : (t : forging.Target) (need : forging.Need) → IsCall (forging.asked t need) → 1 ≤ forging.steps_left need
forge_left t (forging.putting stripe more answer) h = omega arith
forge_left t (forging.ended answer) h = absurd h

collect_left : (j : _) (need : collections.Need) → IsCall (collecting.asked_by (collections.asked j need)) → 1 ≤ collects_left need
collect_left j (collections.asking count) h = omega arith
collect_left j (collections.ended end) h = absurd h

migrate_left : (image : List ℕ) (need : migrations.Need) → IsCall (migrating.asked_by (migrations.asked image need)) → 1 ≤ moves_ahead need
migrate_left image migrations.beginning h = omega arith
migrate_left image (migrations.copying session index left) h = omega arith
migrate_left image (migrations.putting session index left name) h = omega arith
migrate_left image (migrations.finishing session) h = omega arith
migrate_left image (migrations.leaving session end) h = omega arith
migrate_left image (migrations.ended end) h = absurd h

create_left : (need : creations.Need) (n : ℕ) → IsCall (creating.asked_by (creations.asked need)) → 1 ≤ puts_left need n
create_left (creations.beginning image) n h = omega arith
create_left (creations.wanting place parts) n h = absurd h
create_left (creations.putting place parts name) n h = omega arith
create_left (creations.finishing place fields) n h = omega arith
create_left (creations.leaving session end) n h = omega arith
create_left (creations.ended end) n h = absurd h

pub call_left : (r : Running) → IsCall (asked r) → 1 ≤ steps_left r
call_left (Serves device p) h = serving_left p.work p.need h
call_left (Makes p) h = single_left p.single p.need h
call_left (Forges p) h = forge_left p.target p.need h
call_left (Collects p) h = collect_left p.job p.need h
call_left (Migrates p) h = migrate_left p.image p.need h
call_left (Creates p) h = create_left p.create.need _ h

pub has_object : (context : Context) (hosts : ℕ) (t : Tally) (o : ObjectId) → IsSized t (length context.devices) hosts context.nodes → IsWithin context hosts o → Has t o
has_object context hosts t (Device n) z h = rw z.device_counts h
has_object context hosts t (Cache n) z h = rw z.cache_counts h
has_object context hosts t (Node n) z h = rw z.node_counts h
has_object context hosts t Depot z h = tt

pub working_has : (s : Setting) (b : Book) (w : Working) → IsSetting s → HasEnded s b → Next s b (λ (j : Job). IsUnderWay (context_of s) j w.job) → IsWorking s b w → Has b.tally w.object
working_has s b w is h under k =
    rw k.object (has_object (context_of s) (hosts_of s) b.tally (object_asked (asked w.job)) h.fits.sized
    (asked_within (context_of s) (hosts_of s) under.0 w.job is.context is.hosted (given_at s (length b.trail.results.items) under.0 is under.1) under.2.is under.2.home))

pub working_room : (s : Setting) (b : Book) (w : Working) → Next s b (λ (j : Job). IsUnderWay (context_of s) j w.job) → IsWorking s b w → HasRoom 1 b
working_room s b w under k = record { room = omega (arith, k.room.room, call_left w.job under.2.calls); few = omega (arith, k.room.few, call_left w.job under.2.calls) }

near_steps : (old new : Running) (reply : Reply) → Nears reply old new → is_removal reply ≡ false → steps_left new + steps_of reply ≤ steps_left old
near_steps old new (by_cache (caches.busy holder)) n e = omega (arith, n)
near_steps old new (by_depot (depots.removed key)) n e = absurd (false≢true (sym e))
near_steps old new reply n e = n

near_le : (old new : Running) (reply : Reply) → Nears reply old new → steps_left new ≤ steps_left old
near_le old new (by_cache (caches.busy holder)) n = n
near_le old new (by_depot (depots.removed key)) n = n
near_le old new reply n = omega (arith, n)

keeps_size : (old new : Tally) (d h n : ℕ) → KeepsSize old new → IsSized old d h n → IsSized new d h n
keeps_size old new d h n k z = record { device_counts = k.device_counts ∙ z.device_counts; cache_counts = k.cache_counts ∙ z.cache_counts; node_counts = k.node_counts ∙ z.node_counts }

pub stepped : (s : Setting) (old new : Book) (w : Working) (after : Running) (reply : Reply) → HasEnded s old → Next s old (λ (j : Job). IsUnderWay (context_of s) j w.job) → IsWorking s old w → Admits w.job reply
    → Writes old w.object reply new → Went w.job reply after → Steps s old w.job reply new after
stepped s old new w after reply h under k admits writes went =
    let some = adds_some (asked w.job) reply under.2.calls in
    record {
      went = went;
      has = record {
        fits = record { is = writes.is; sized = keeps_size old.tally new.tally _ _ _ writes.sized h.fits.sized; room = rw writes.results h.fits.room };
        state = writes.state ∙ h.state;
        ended = rw writes.results h.ended;
        few = rw writes.results h.few;
      };
      results = ap (λ (v : _). v.items) writes.results;
      made = writes.made;
      steps = writes.steps;
      room = λ e. record {
        room = omega (arith, writes.len, writes.capacity, k.room.room, near_steps w.job after reply went.nears e);
        few = omega (arith, writes.made, k.room.few, near_steps w.job after reply went.nears e);
      };
      some = (k.some.0 ++ some.0, went.stands k.some.0 some.0 some.1 k.some.1);
      stands = λ lists later more adds grows stands at. written_stands s lists later old new w.object w.job after reply more writes k.object admits went adds grows stands at;
    }

-- ---- a reply

pub removed_sweeps : (r : Running) (reply : Reply) → Admits r reply → is_removal reply ≡ true → IsSweep (task_of r)
removed_sweeps r (by_depot (depots.removed key)) a e = removal_sweeps r key a
removed_sweeps r reply a e = absurd (false≢true e)

few_steps : (reply : Reply) → steps_of reply ≤ 1
few_steps (by_cache (caches.busy holder)) = omega arith
few_steps reply = omega arith

pub may_crash : (crash : Option ℕ) (old new : ℕ) (reply : Reply) → FitsCrash crash Unfinished old → new ≡ old + steps_of reply → FitsCrash crash Ended new
may_crash None old new reply h e = tt
may_crash (Some c) old new reply h e = omega (arith, few_steps reply)

pub going_after : (s : Setting) (old new : Book) (w : Working) (after : Running) (reply : Reply) → Next s old (λ (j : Job). IsUnderWay (context_of s) j w.job) → Steps s old w.job reply new after → Next s new (λ (j : Job). IsGoing (context_of s) j after)
going_after s old new w after reply under k = (
  under.0,
  rw k.results under.1,
  record {
    is = subst (λ (t : Task). IsTaskOf (context_of s) under.0 t) (sym k.went.task) under.2.is;
    task = subst (λ (t : Task). IsTask (context_of s) under.0 t) (sym k.went.task) under.2.task;
    home = k.went.home (context_of s) under.2.home;
    bound = omega (arith, near_le w.job after reply k.went.nears, under.2.bound);
  },
)

nears_on : (old new : Running) (reply : Reply) (rest left : ℕ) → Nears reply old new → left ≤ steps_left new + rest → actor.Nears reply (steps_left old + rest) left
nears_on old new (by_cache (caches.busy holder)) rest left n h = omega (arith, n)
nears_on old new (by_depot (depots.removed key)) rest left n h = omega (arith, n)
nears_on old new reply rest left n h = omega (arith, n)

pub taken : (s : Setting) (old mid new : Book) (r after : Running) (reply : Reply) (st : Stage) → Steps s old r reply mid after → GoesOn s mid after new st → Takes s old r reply new st
taken s old mid new r after reply st k g = record {
  whole = g.whole;
  out = g.out;
  reaps = g.reaps;
  made = g.made ∙ k.made;
  steps = g.steps ∙ k.steps;
  nears = nears_on r after reply (ahead s new st (length old.trail.results.items + 1)) _ k.went.nears (rw (← k.results) g.left);
  stands = λ lists later more adds grows stands at. let b = k.stands lists later more adds grows stands at in g.stands later b.0 b.1;
  goes = λ steps more stands adds. subst (λ (t : Task). Comes s old t (steps ++ more) new st) k.went.task (rw (← k.results) (g.goes (steps ++ more) (k.went.stands steps more adds stands)));
}

-- jobs of any kind hand out and take
use Rattle.std.proofs.Common.{◌≡◌, ℕ, ◌+◌, ◌≤◌, List, ◌++◌, arith, refl, sym, ap, subst, true, false}
use Rattle.lr_walk.specs.Stands.{IsFront}
use Rattle.lr_walk.specs.Steps.{Reply, by_cache, by_depot, Step}
use Rattle.lr_walk.specs.Cache as caches
use Rattle.lr_walk.specs.Depot as depots
use Rattle.lr_collector.specs.declared.collect.CollectJob.{CollectJob}
use Rattle.lr_collector.specs.declared.collect.CollectJob.TheVariants as job
use Rattle.lr_collector.specs.Progress as collections
use Rattle.lr_migrator.specs.Progress as migrations
use Rattle.lr_actors.specs.Asked.{Adds}
use Rattle.lr_actors.specs.Bounds.{collects_left}
use Rattle.lr_actors.specs.Bounds as bounds
use Rattle.lr_actors.specs.Lifted.{Replies}
use Rattle.lr_actors.specs.Collecting as collecting
use Rattle.lr_actors.specs.Serving as serving
use Rattle.lr_actors.specs.Singles as singles
use Rattle.lr_actors.specs.Forging as forging
use Rattle.lr_actors.specs.Creating as creating
use Rattle.lr_actors.specs.declared.running.Running.{Running}
use Rattle.lr_actors.specs.declared.running.Running.TheVariants.{Serves, Makes, Forges, Collects, Migrates, Creates}
use Rattle.lr_actors.specs.Running.{Walk, task_of, asked, Admits, StandsFor, IsAtHome, steps_left, Nears, Went, IsOut}
use Rattle.lr_actors.specs.Running as tasks
use Rattle.lr_actors.proofs.Knowing.{stays_at, knows_more}

-- with the call handed out and any reply, what a job stands for is a walk or the front of one
abbrev pub Fronts : Running → Type 0
Fronts r = (steps more : List Step) (reply : Reply) → Admits r reply → Adds (asked r) reply more → StandsFor r steps → IsFront (Walk (task_of r)) (steps ++ more)

-- with a reply a job stands for one step more, or for as many
abbrev pub Grows : Running → Reply → Running → Type 0
Grows old reply new = (steps more : List Step) → Adds (asked old) reply more → StandsFor old steps → StandsFor new (steps ++ more)

-- ---- nearer to the end

near_any : (reply : Reply) (old new : Running) → steps_left new + 1 ≤ steps_left old → Nears reply old new
near_any (by_cache (caches.busy holder)) old new h = omega arith
near_any (by_depot (depots.removed key)) old new h = omega arith
near_any reply old new h = h

near_serving : (reply : Reply) (device : ℕ) (old new : serving.Progress) → serving.Nears reply old.need new.need → Nears reply (Serves device old) (Serves device new)
near_serving (by_cache (caches.busy holder)) device old new h = h
near_serving (by_depot (depots.removed key)) device old new h = omega arith
near_serving reply device old new h = h

-- a removal of a sweep leaves as many
abbrev IsNearer : depots.Reply → ℕ → ℕ → Type 0
IsNearer (depots.removed key) old new = new ≤ old
IsNearer reply old new = new + 1 ≤ old

near_told : (reply : depots.Reply) (old new : Running) → IsNearer reply (steps_left old) (steps_left new) → Nears (by_depot reply) old new
near_told (depots.removed key) old new h = h
near_told reply old new h = h

collects_near : (j : CollectJob) (need : collections.Need) (reply : depots.Reply) → collections.AnswersAsked (collections.asked j need) reply
    → IsNearer reply (collects_left need) (collects_left (collections.advanced j need reply))
collects_near (job.Sweep root) (collections.asking count) (depots.removed key) a = omega arith
collects_near (job.Sweep root) (collections.asking count) reply a = omega arith
collects_near j (collections.asking count) (depots.removed key) a = omega arith
collects_near j (collections.asking count) reply a = omega arith
collects_near j (collections.ended end) reply a = absurd a

near_collecting : (old new : collections.Progress) (reply : Reply) → collecting.Admits old reply → Replies reply (λ (told : depots.Reply). new.need ≡ collections.advanced old.job old.need told)
    → Nears reply (Collects old) (Collects new)
near_collecting old new (by_depot told) a e =
    near_told told (Collects old) (Collects new) (subst (λ (q : collections.Need). IsNearer told (collects_left old.need) (collects_left q)) (sym e) (collects_near old.job old.need told a))
near_collecting old new reply a e = absurd a

-- ---- jobs of each kind

pub out_serving : (device : ℕ) (old new : serving.Progress) → new.work ≡ old.work → new.need ≡ old.need → new.ready ≡ false → Fronts (Serves device old) → IsOut (Serves device old) (Serves device new)
out_serving device old new w n r f = record {
  task = ap tasks.serves w;
  home = λ context h. rw (w, n) h;
  call = rw (w, n) refl;
  out = r;
  stands = λ steps s. rw (w, n) s;
  stood = λ steps s. rw (w, n) at s;
  admits = λ reply a. rw (w, n) at a;
  knows = λ steps k. rw (w, n) k;
  left = rw n refl;
  front = f;
}

pub went_serving : (device : ℕ) (old new : serving.Progress) (reply : Reply) (got : List ℕ) → new.work ≡ old.work → new.ready ≡ true → Grows (Serves device old) reply (Serves device new)
    → serving.Next old.work old.need reply got new.need → serving.Nears reply old.need new.need → Went (Serves device old) reply (Serves device new)
went_serving device old new reply got w r s n near = record {
  task = ap tasks.serves w;
  home = λ context h. rw w (h.0, stays_at old.work old.need reply got new.need n h.1);
  ready = r;
  stands = s;
  knows = λ steps more adds k. rw w (knows_more old.work old.need reply got new.need steps more n adds k);
  nears = near_serving reply device old new near;
}

pub out_single : (old new : singles.Progress) → new.single ≡ old.single → new.need ≡ old.need → new.ready ≡ false → Fronts (Makes old) → IsOut (Makes old) (Makes new)
out_single old new w n r f = record {
  task = ap tasks.makes w;
  home = λ context h. h;
  call = rw (w, n) refl;
  out = r;
  stands = λ steps s. rw (w, n) s;
  stood = λ steps s. rw (w, n) at s;
  admits = λ reply a. rw (w, n) at a;
  knows = λ steps k. k;
  left = rw n refl;
  front = f;
}

pub went_single : (old new : singles.Progress) (reply : Reply) → new.single ≡ old.single → new.ready ≡ true → Grows (Makes old) reply (Makes new) → steps_left (Makes new) + 1 ≤ steps_left (Makes old) → Went (Makes old) reply (Makes new)
went_single old new reply w r s near = record {
  task = ap tasks.makes w;
  home = λ context h. h;
  ready = r;
  stands = s;
  knows = λ steps more adds k. k;
  nears = near_any reply (Makes old) (Makes new) near;
}

pub out_forge : (old new : forging.Progress) → new.target ≡ old.target → new.need ≡ old.need → new.ready ≡ false → Fronts (Forges old) → IsOut (Forges old) (Forges new)
out_forge old new w n r f = record {
  task = ap tasks.forges w;
  home = λ context h. h;
  call = rw (w, n) refl;
  out = r;
  stands = λ steps s. rw (w, n) s;
  stood = λ steps s. rw (w, n) at s;
  admits = λ reply a. rw n at a;
  knows = λ steps k. k;
  left = rw n refl;
  front = f;
}

pub went_forge : (old new : forging.Progress) (reply : Reply) → new.target ≡ old.target → new.ready ≡ true → Grows (Forges old) reply (Forges new) → steps_left (Forges new) + 1 ≤ steps_left (Forges old) → Went (Forges old) reply (Forges new)
went_forge old new reply w r s near = record {
  task = ap tasks.forges w;
  home = λ context h. h;
  ready = r;
  stands = s;
  knows = λ steps more adds k. k;
  nears = near_any reply (Forges old) (Forges new) near;
}

pub out_collecting : (old new : collections.Progress) → new.job ≡ old.job → new.need ≡ old.need → new.ready ≡ false → Fronts (Collects old) → IsOut (Collects old) (Collects new)
out_collecting old new w n r f = record {
  task = ap tasks.collects w;
  home = λ context h. h;
  call = rw (w, n) refl;
  out = r;
  stands = λ steps s. rw (w, n) s;
  stood = λ steps s. rw (w, n) at s;
  admits = λ reply a. rw (w, n) at a;
  knows = λ steps k. k;
  left = rw n refl;
  front = f;
}

pub went_collecting : (old new : collections.Progress) (reply : Reply) → new.job ≡ old.job → new.ready ≡ true → Grows (Collects old) reply (Collects new) → collecting.Admits old reply
    → Replies reply (λ (told : depots.Reply). new.need ≡ collections.advanced old.job old.need told) → Went (Collects old) reply (Collects new)
went_collecting old new reply w r s a n = record {
  task = ap tasks.collects w;
  home = λ context h. h;
  ready = r;
  stands = s;
  knows = λ steps more adds k. k;
  nears = near_collecting old new reply a n;
}

pub out_migrating : (old new : migrations.Progress) → new.image ≡ old.image → new.need ≡ old.need → new.ready ≡ false → Fronts (Migrates old) → IsOut (Migrates old) (Migrates new)
out_migrating old new w n r f = record {
  task = ap tasks.migrates w;
  home = λ context h. h;
  call = rw (w, n) refl;
  out = r;
  stands = λ steps s. rw (w, n) s;
  stood = λ steps s. rw (w, n) at s;
  admits = λ reply a. rw (w, n) at a;
  knows = λ steps k. k;
  left = rw n refl;
  front = f;
}

pub went_migrating : (old new : migrations.Progress) (reply : Reply) → new.image ≡ old.image → new.ready ≡ true → Grows (Migrates old) reply (Migrates new) → steps_left (Migrates new) + 1 ≤ steps_left (Migrates old) → Went (Migrates old) reply (Migrates new)
went_migrating old new reply w r s near = record {
  task = ap tasks.migrates w;
  home = λ context h. h;
  ready = r;
  stands = s;
  knows = λ steps more adds k. k;
  nears = near_any reply (Migrates old) (Migrates new) near;
}

pub out_creating : (old new : creating.Progress) → creating.IsSame old new → new.create.need ≡ old.create.need → new.given ≡ old.given → new.create.ready ≡ false → Fronts (Creates old) → IsOut (Creates old) (Creates new)
out_creating old new e n g r f = record {
  task = rw (e.image, e.tenant, e.raw) refl;
  home = λ context h. h;
  call = rw n refl;
  out = r;
  stands = λ steps s. rw (e.image, e.tenant, e.raw, n, g) s;
  stood = λ steps s. rw (e.image, e.tenant, e.raw, n, g) at s;
  admits = λ reply a. rw n at a;
  knows = λ steps k. k;
  left = rw (e.raw, n, g) refl;
  front = f;
}

pub went_creating : (old new : creating.Progress) (reply : Reply) → creating.IsSame old new → new.create.ready ≡ true → Grows (Creates old) reply (Creates new)
    → bounds.steps_left new + 1 ≤ bounds.steps_left old → Went (Creates old) reply (Creates new)
went_creating old new reply e r s near = record {
  task = rw (e.image, e.tenant, e.raw) refl;
  home = λ context h. h;
  ready = r;
  stands = s;
  knows = λ steps more adds k. k;
  nears = near_any reply (Creates old) (Creates new) near;
}

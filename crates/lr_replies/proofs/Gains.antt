-- A call adds to its caller's own lists what the actor gains.
use Rattle.std.specs.Prelude.{⊤, option_map}
use Rattle.std.proofs.Common.{◌≡◌, ℕ, List, [], ◌∷◌, map, Bool, false, Option, Some, refl, ap, ◌∙◌, subst}
use Rattle.std.specs.List.{AllByRecursion, Contains}
use Rattle.lr_object.specs.declared.id.ObjectId.{ObjectId}
use Rattle.lr_object.specs.declared.id.ObjectId.TheVariants.{Device, Cache}
use Rattle.lr_device.specs.declared.call.DeviceCall.{DeviceCall}
use Rattle.lr_device.specs.declared.step.DeviceStep.TheVariants as asks
use Rattle.lr_device.specs.declared.step.DeviceNoted.{DeviceNoted}
use Rattle.lr_device.specs.declared.step.DeviceNoted.TheVariants as noted
use Rattle.lr_device.specs.declared.step.DeviceAnswer.TheVariants as told
use Rattle.lr_device.specs.Machine.{State, OpenPlan, plan_of, run}
use Rattle.lr_device.specs.Enters as device
use Rattle.lr_walk.specs.Steps.{Call, on_device, on_cache, on_node, on_depot, Reply, by_device, by_cache, by_node, by_depot, Step, step, Answers}
use Rattle.lr_walk.specs.Load.{look_of, get_of, fetch_of, put_of, fill_of, give_up_of}
use Rattle.lr_walk.specs.Depot as depots
use Rattle.lr_walk.specs.Cache as caches
use Rattle.lr_walk.specs.Device as devices
use Rattle.lr_walk.specs.Trails.{Lists, IsReap}
use Rattle.lr_walk.proofs.Devices.{device_keeps}
use Rattle.lr_history.specs.Lists.{device_entry}
use Rattle.lr_collector.specs.declared.collect.CollectJob.{CollectJob}
use Rattle.lr_collector.specs.declared.collect.CollectJob.TheVariants as collect
use Rattle.lr_collector.specs.Collection.{call_of}
use Rattle.lr_collector.specs.Progress as collections
use Rattle.lr_migrator.specs.Progress as migrations
use Rattle.lr_creator.specs.Progress as creations
use Rattle.lr_loader.specs.Progress as loads
use Rattle.lr_actors.specs.declared.action.ActorCall.{ActorCall}
use Rattle.lr_actors.specs.declared.action.ActorCall.TheVariants as call
use Rattle.lr_actors.specs.declared.action.ActorReply.{ActorReply}
use Rattle.lr_actors.specs.declared.action.ActorReply.TheVariants as by
use Rattle.lr_actors.specs.declared.running.Running.{Running}
use Rattle.lr_actors.specs.declared.running.Running.TheVariants as running
use Rattle.lr_actors.specs.declared.single.Single.{Single}
use Rattle.lr_actors.specs.declared.single.Single.TheVariants as one
use Rattle.lr_actors.specs.Asked.{Asked, a_call, a_commit, HandsCall, seen_reply, Adds}
use Rattle.lr_actors.specs.Accounts.{Grows}
use Rattle.lr_actors.specs.Serving.{Work, Chunk, Left, Need, planning, loading, committing, dropping, ended, asked_by}
use Rattle.lr_actors.specs.Serving as serving
use Rattle.lr_actors.specs.Singles as singles
use Rattle.lr_actors.specs.Forging as forging
use Rattle.lr_actors.specs.Collecting as collecting
use Rattle.lr_actors.specs.Migrating as migrating
use Rattle.lr_actors.specs.Creating as creating
use Rattle.lr_actors.specs.Running as jobs
use Rattle.lr_actors.specs.Actor.{Seen, Now, works, idles, reaps, over, reap_at, reap_of, FitsNow, StandsNow, asks_now, AddsNow, GrowsBy}
use Rattle.lr_replies.specs.Objects.{Objects, own_lists, Calls}
use Rattle.lr_replies.specs.Replies.{IsReady, ListsGain}
use Rattle.lr_replies.proofs.Tables.{answers_call, never_ended, never_uncalled}
use Rattle.lr_replies.proofs.Hands.{IsCommit, the_commit}
use Rattle.lr_replies.proofs.Under.{Laws}
use Rattle.lr_replies.proofs.Calling.{serves_takes, commit_plan}
use Rattle.lr_replies.proofs.Gained.{others_stay, device_grows, IsTaken, GainsBy, call_gains, reap_gains}

-- ---- which calls have only answers that are logged, but for want of memory and Busy

abbrev IsPlain : Call → Type 0
IsPlain (on_device n (devices.plans call)) = ⊥
IsPlain (on_device n devices.reaps) = ⊥
IsPlain (on_cache n (caches.looks name)) = ⊥
IsPlain (on_cache n caches.reaps) = ⊥
IsPlain (on_depot depots.reaps) = ⊥
IsPlain call = ⊤

device_taken : (n : ℕ) (c : devices.Call) (x : devices.Reply) → devices.Answers c x → IsPlain (on_device n c) → IsTaken (by_device x)
device_taken n (devices.plans call) x a p = absurd p
device_taken n devices.reaps x a p = absurd p
device_taken n c devices.has_plan a p = absurd a
device_taken n c devices.nothing a p = absurd a
device_taken n c x a p = tt

cache_taken : (n : ℕ) (c : caches.Call) (x : caches.Reply) → caches.Answers c x → IsPlain (on_cache n c) → IsTaken (by_cache x)
cache_taken n (caches.looks name) x a p = absurd p
cache_taken n caches.reaps x a p = absurd p
cache_taken n c caches.held a p = absurd a
cache_taken n c caches.nothing a p = absurd a
cache_taken n c x a p = tt

depot_taken : (c : depots.Call) (x : depots.Reply) → depots.Answers c x → IsPlain (on_depot c) → IsTaken (by_depot x)
depot_taken depots.reaps x a p = absurd p
depot_taken c depots.nothing a p = absurd a
depot_taken c x a p = tt

taken : (c : Call) (r : Reply) → Answers c r → IsPlain c → IsTaken r
taken (on_device n c) (by_device x) a p = device_taken n c x a p
taken (on_cache n c) (by_cache x) a p = cache_taken n c x a p
taken (on_node n c) (by_node x) a p = tt
taken (on_depot c) (by_depot x) a p = depot_taken c x a p
taken c r a p = absurd a

single_plain : (single : Single) → IsPlain (singles.call_of single)
single_plain (one.Evict host) = tt
single_plain (one.Drop node name index) = tt
single_plain (one.Flip node name index at) = tt
single_plain (one.Lose node) = tt
single_plain (one.Close lease) = tt

job_plain : (job : CollectJob) → IsPlain (on_depot (call_of job))
job_plain (collect.Rotate bytes) = tt
job_plain (collect.Withdraw image) = tt
job_plain (collect.Expire root) = tt
job_plain (collect.Delete root) = tt
job_plain (collect.Sweep root) = tt
job_plain (collect.Settle key) = tt

plan_taken : (work : Work) (r : Reply) → serving.Admits work planning r → IsTaken r
plan_taken work (by_device (devices.planned needs pages)) a = tt
plan_taken work (by_device devices.memory) a = tt
plan_taken work (by_device x) a = absurd a
plan_taken work r a = absurd a

look_taken : (n : ℕ) (name : _) (r : Reply) → Answers (on_cache n (caches.looks name)) r → loads.HasClaim loads.looking r → IsTaken r
look_taken n name (by_cache caches.held) a c = absurd c
look_taken n name (by_cache caches.nothing) a c = absurd a
look_taken n name (by_cache x) a c = tt
look_taken n name r a c = absurd a

reap_is : (o : ObjectId) → IsReap (reap_of o)
reap_is (Device d) = tt
reap_is (Cache h) = tt
reap_is o = tt

-- ---- what the log keeps of a commit

commit_noted : (size : ℕ) (st : State) (caller : ℕ) (pieces : _) (room : _) (x : _) (plan : OpenPlan) (e : DeviceNoted) → device.Notes size st caller (asks.Commit pieces room) (told.Committed x) e
    → devices.Keeps (devices.hands_in (map devices.seen_piece pieces.items)) (devices.committed x) (devices.seen_noted e) → plan_of caller st ≡ Some plan
    → (used : List devices.Piece) × AllByRecursion (Contains (map devices.seen_piece pieces.items)) used × (devices.seen_noted e ≡ devices.commits (Some plan.call) used)
commit_noted size st caller pieces room x plan (noted.Commit planned used) n k e =
    (map devices.seen_piece used.items, k, ap (λ (o : Option DeviceCall). devices.commits o (map devices.seen_piece used.items)) (n.0 ∙ ap (option_map (λ (p : OpenPlan). p.call)) e))
commit_noted size st caller pieces room x plan e n k f = absurd n

module _ (laws : Laws) (old new : Objects) (a : Seen) (c : ActorCall) (reply : ActorReply) (ready : IsReady old a) (calls : Calls a.number c reply old new) where
  abbrev before : Lists
  before = own_lists old a.number

  abbrev after : Lists
  after = own_lists new a.number

  plain_gains : (k : Call) → IsPlain k → HandsCall c (a_call k) → GainsBy old new a.number k (seen_reply reply)
  plain_gains k p h = call_gains old new a.number c reply k h calls (taken k (seen_reply reply) (answers_call old a.number c reply k h calls.replies) p)

  abbrev Gained : Asked → Type 0
  Gained q = (more : List Step) × Adds q (seen_reply reply) more × GrowsBy more before after

  -- ---- jobs that call no device

  makes_gains : (single : Single) (need : singles.Need) → HandsCall c (singles.asked single need) → Gained (singles.asked single need)
  makes_gains single singles.asking h = plain_gains (singles.call_of single) (single_plain single) h
  makes_gains single (singles.ended answer) h = absurd (never_ended c answer h)

  forges_gains : (target : forging.Target) (need : forging.Need) → HandsCall c (forging.asked target need) → Gained (forging.asked target need)
  forges_gains target (forging.putting stripe more answer) h = plain_gains (forging.put_of target stripe) tt h
  forges_gains target (forging.ended answer) h = absurd (never_ended c answer h)

  collects_gains : (job : CollectJob) (need : collections.Need) → HandsCall c (collecting.asked_by (collections.asked job need)) → Gained (collecting.asked_by (collections.asked job need))
  collects_gains job (collections.asking count) h = plain_gains (on_depot (call_of job)) (job_plain job) h
  collects_gains job (collections.ended end) h = absurd (never_ended c (collecting.collected end) h)

  migrates_gains : (image : List ℕ) (need : migrations.Need) → HandsCall c (migrating.asked_by (migrations.asked image need)) → Gained (migrating.asked_by (migrations.asked image need))
  migrates_gains image migrations.beginning h = plain_gains (on_depot (depots.begins_move image)) tt h
  migrates_gains image (migrations.copying session index left) h = plain_gains (on_depot (depots.copies session index)) tt h
  migrates_gains image (migrations.putting session index left name) h = plain_gains (on_depot (depots.puts_chunk session name)) tt h
  migrates_gains image (migrations.finishing session) h = plain_gains (on_depot (depots.finishes_move session)) tt h
  migrates_gains image (migrations.leaving session end) h = plain_gains (on_depot (depots.abandons session)) tt h
  migrates_gains image (migrations.ended end) h = absurd (never_ended c (migrating.migrated end) h)

  creates_gains : (need : creations.Need) → HandsCall c (creating.asked_by (creations.asked need)) → Gained (creating.asked_by (creations.asked need))
  creates_gains (creations.beginning image) h = plain_gains (on_depot (depots.begins image)) tt h
  creates_gains (creations.wanting place parts) h = absurd (never_uncalled c h)
  creates_gains (creations.putting place parts name) h = plain_gains (on_depot (depots.puts_chunk place.session name.bytes)) tt h
  creates_gains (creations.finishing place fields) h = plain_gains (on_depot (depots.puts_manifest place.session fields)) tt h
  creates_gains (creations.leaving session end) h = plain_gains (on_depot (depots.abandons session)) tt h
  creates_gains (creations.ended end) h = absurd (never_ended c (creating.created end) h)

  -- ---- a device call

  module _ (number : ℕ) (work : Work) (prepared : Bool) where
    abbrev at_need : Need → Running
    at_need n = running.Serves number (record { work = work; need = n; ready = prepared })

    takes : (n : Need) → FitsNow (works (at_need n)) a → StandsNow (works (at_need n)) a before → HandsCall c (serving.asked work n) → serving.Admits work n (seen_reply reply)
    takes n f s h = serves_takes laws old a ready c reply calls.replies number work prepared n f s h

    loads_gains : (chunk : Chunk) (left : Left) (need : loads.Need) → FitsNow (works (at_need (loading chunk need left))) a → StandsNow (works (at_need (loading chunk need left))) a before
        → HandsCall c (asked_by (loads.asked chunk.place need)) → Gained (asked_by (loads.asked chunk.place need))
    loads_gains chunk left loads.looking f s h =
        call_gains old new a.number c reply (look_of chunk.place) h calls
        (look_taken chunk.place.host chunk.place.name (seen_reply reply) (answers_call old a.number c reply (look_of chunk.place) h calls.replies) (takes (loading chunk loads.looking left) f s h).0.claim)
    loads_gains chunk left (loads.asking more held) f s h = plain_gains (get_of chunk.place _) tt h
    loads_gains chunk left loads.fetching f s h = plain_gains (fetch_of chunk.place) tt h
    loads_gains chunk left (loads.putting bytes stripe more) f s h = plain_gains (put_of chunk.place stripe) tt h
    loads_gains chunk left (loads.filling bytes) f s h = plain_gains (fill_of chunk.place bytes) tt h
    loads_gains chunk left (loads.giving end) f s h = plain_gains (give_up_of chunk.place) tt h
    loads_gains chunk left (loads.ended end) f s h = absurd (never_uncalled c h)

    commits_gains : (pages : ℕ) (pieces : List devices.Piece) → FitsNow (works (at_need (committing pages pieces))) a → StandsNow (works (at_need (committing pages pieces))) a before
        → HandsCall c (a_commit work.device work.call pages pieces) → Gained (a_commit work.device work.call pages pieces)
    commits_gains pages pieces f s h = by_reply reply (subst (λ (k : ActorCall). Calls a.number k reply old new) commit.is calls) (takes (committing pages pieces) f s h)
      where
        commit : IsCommit c work.device work.call pages pieces
        commit = the_commit c work.device work.call pages pieces h

        by_reply : (r : ActorReply) → Calls a.number (call.Device work.device (asks.Commit commit.pieces commit.room)) r old new → serving.Admits work (committing pages pieces) (seen_reply r)
            → (more : List Step) × Adds (a_commit work.device work.call pages pieces) (seen_reply r) more × GrowsBy more before after
        by_reply (by.Device (told.Committed x)) d m =
            let l = d.logs in
            let kept = device_keeps l.0.capacity l.0.log a.number (asks.Commit commit.pieces commit.room) (told.Committed x) l.3.0 l.3.3 in
            let plan = commit_plan laws old a ready c reply calls.replies number work prepared pages pieces f s l.0 l.2 in
            let e = commit_noted l.0.capacity (run l.0.capacity l.0.log) a.number commit.pieces commit.room x (record { caller = a.number; call = work.call; pages = pages }) l.3.0.call l.3.3.noted kept.0 plan in
            let is : device_entry work.device l.3.0 ≡ step (on_device work.device (devices.commits (Some work.call) e.0)) (by_device (devices.committed x)) = λ i. step (on_device work.device (e.2 i)) (by_device (kept.1 i)) in (
              step (on_device work.device (devices.commits (Some work.call) e.0)) (by_device (devices.committed x)) ∷ [],
              (e.0, subst (λ (handed : List devices.Piece). AllByRecursion (Contains handed) e.0) commit.handed_in e.1, refl),
              subst (λ (s : Step). Grows false before after s) is (device_grows old new a.number work.device (λ d e. device.Enters d.capacity d.log a.number (asks.Commit commit.pieces commit.room) (told.Committed x) e) d.others l),
            )
        by_reply r d m = absurd m

    serves_gains : (n : Need) → FitsNow (works (at_need n)) a → StandsNow (works (at_need n)) a before → HandsCall c (serving.asked work n) → Gained (serving.asked work n)
    serves_gains planning f s h =
        call_gains old new a.number c reply (on_device work.device (devices.plans work.call)) h calls (plan_taken work (seen_reply reply) (takes planning f s h))
    serves_gains (loading chunk need left) f s h = loads_gains chunk left need f s h
    serves_gains (committing pages pieces) f s h = commits_gains pages pieces f s h
    serves_gains (dropping answer) f s h = plain_gains (on_device work.device devices.drops) tt h
    serves_gains (ended answer) f s h = absurd (never_ended c answer h)

  -- ---- any job, and reaps

  works_gains : (r : Running) → FitsNow (works r) a → StandsNow (works r) a before → HandsCall c (jobs.asked r) → Gained (jobs.asked r)
  works_gains (running.Serves device p) f s h = serves_gains device p.work p.ready p.need f s h
  works_gains (running.Makes p) f s h = makes_gains p.single p.need h
  works_gains (running.Forges p) f s h = forges_gains p.target p.need h
  works_gains (running.Collects p) f s h = collects_gains p.job p.need h
  works_gains (running.Migrates p) f s h = migrates_gains p.image p.need h
  works_gains (running.Creates p) f s h = creates_gains p.create.need h

  now_gains : (now : Now) → FitsNow now a → StandsNow now a before → HandsCall c (asks_now now a) → (more : List Step) × AddsNow now a (seen_reply reply) more × GrowsBy more before after
  now_gains (works r) f s h = works_gains r f s h
  now_gains idles f s h = absurd (never_uncalled c h)
  now_gains (reaps made) f s h =
      reap_gains old new a.number c reply (reap_of (reap_at a.context a.hosts made)) (reap_is (reap_at a.context a.hosts made)) h calls
  now_gains over f s h = absurd (never_uncalled c h)

pub lists_gained : Laws → ListsGain
lists_gained laws = record {
  own = λ old new a asked reply ready calls called. now_gains laws old new a asked reply ready called a.now ready.is.now ready.stands calls.asked;
  others = others_stay;
}

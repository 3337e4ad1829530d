-- Over a store that was sound no job ends with a spoiled key.
use Rattle.std.proofs.Common.{◌≡◌, ◌≢◌, ℕ, List, [], ◌∷◌, map, Bool, true, false, slice_get, refl, subst}
use Rattle.std.specs.List.{AllByRecursion, AllZip}
use Rattle.lr_origin.specs.Objects.{Objects as Store}
use Rattle.lr_origin.specs.declared.key.KeyKind.{KeyKind}
use Rattle.lr_opening.specs.Store.{HasChunks}
use Rattle.lr_object.specs.Own.{own_entries}
use Rattle.lr_object.specs.declared.id.ObjectId.{ObjectId}
use Rattle.lr_object.specs.declared.id.ObjectId.TheVariants.{Device, Cache, Node, Depot}
use Rattle.lr_depot.specs.Depot.{LedTo}
use Rattle.lr_depot.specs.Machine.{LogEntry}
use Rattle.lr_device.specs.declared.call.DeviceCall.{DeviceCall}
use Rattle.lr_walk.specs.declared.trail.Answer.TheVariants.{Spoiled}
use Rattle.lr_walk.specs.declared.trail.Did.{Did}
use Rattle.lr_walk.specs.declared.trail.JobResult.{JobResult}
use Rattle.lr_walk.specs.Steps.{Reply, by_depot, Step, is_memory}
use Rattle.lr_walk.specs.Depot as depots
use Rattle.lr_walk.specs.Jobs.{Context}
use Rattle.lr_walk.specs.Trails.{Lists, IsAt, Reads}
use Rattle.lr_history.specs.Jobs.{JobSeen}
use Rattle.lr_history.specs.Jobs as history
use Rattle.lr_history.specs.Run.{ActorSeen}
use Rattle.lr_history.specs.Lists.{own, device_entry, cache_entry, node_entry, depot_entry}
use Rattle.lr_history.specs.Histories.{IsAnswered, JobsAreAnswered}
use Rattle.lr_setup.proofs.Unspoiled.{IsUnspoiledReply, led_unspoiled, own_unspoiled, jobs_unspoiled}
use Rattle.lr_setup.proofs.Unspoiled as setup
use Rattle.lr_actors.specs.Jobs.{Job, calls, IsWalk}
use Rattle.lr_actors.specs.Records.{HasWalk, HasTrail}
use Rattle.lr_replies.specs.Objects.{Objects, log_of, own_lists}
use Rattle.lr_replies.specs.Seen.{seen_job}
use Rattle.lr_replies.specs.Unspoiled.{IsUnspoiled, SpoiledJobsWereTold}
use Rattle.lr_headline.specs.Closing.{Left, Closing, IsClosing, actor_seen, run_of}
use Rattle.lr_headline.specs.Headline.{FindNothingSpoiled}
use Rattle.lr_headline.proofs.Wholes.{all_get, all_by}

abbrev AreUnspoiled : List Step → Type 0
AreUnspoiled steps = AllByRecursion (λ (s : Step). IsUnspoiled s.reply) steps

-- ---- an actor's own lists

clean_reply : (r : Reply) → IsUnspoiledReply r → IsUnspoiled r
clean_reply (by_depot (depots.spoiled key)) h = h
clean_reply r h = tt

mapped_clean : {A : Type 0} (f : A → Step) → ((x : A) → IsUnspoiled (f x).reply) → (xs : List A) → AreUnspoiled (map f xs)
mapped_clean f h [] = tt
mapped_clean f h (x ∷ xs) = (h x, mapped_clean f h xs)

module _ (w : Objects) (number : ℕ) (depot : AllByRecursion (λ (s : Step). IsUnspoiledReply s.reply) (map depot_entry (own_entries number w.depot))) where
  lists_clean : (o : ObjectId) → AreUnspoiled (own_lists w number o)
  lists_clean (Device n) = mapped_clean (device_entry n) (λ x. tt) (own_entries number (log_of (slice_get w.devices n)))
  lists_clean (Cache n) = mapped_clean (cache_entry n) (λ x. tt) (own_entries number (log_of (slice_get w.caches n)))
  lists_clean (Node n) = mapped_clean (node_entry n) (λ x. tt) (own_entries number (log_of (slice_get w.nodes n)))
  lists_clean Depot = all_by (λ (s : Step). IsUnspoiledReply s.reply) (λ (s : Step). IsUnspoiled s.reply) (λ s h. clean_reply s.reply h) (map depot_entry (own_entries number w.depot)) depot

-- ---- what a path reads as

memory_clean : (r : Reply) → is_memory r ≡ true → IsUnspoiled r
memory_clean (by_depot (depots.spoiled key)) e = absurd (cc)
memory_clean r e = tt

module _ (lists : Lists) (all : (o : ObjectId) → AreUnspoiled (lists o)) where
  one_clean : (d : Did) (s : Step) (b : Bool) → IsAt b (lists d.object) d.place s → IsUnspoiled s.reply
  one_clean d s true h = memory_clean s.reply h
  one_clean d s false h = all_get (λ (x : Step). IsUnspoiled x.reply) (lists d.object) d.place s (all d.object) h

  reads_clean : (path : List Did) (steps : List Step) → Reads lists path steps → AreUnspoiled steps
  reads_clean [] [] r = tt
  reads_clean [] (s ∷ steps) r = absurd r
  reads_clean (d ∷ path) [] r = absurd r
  reads_clean (d ∷ path) (s ∷ steps) r = (one_clean d s d.memory r.0.1, reads_clean path steps r.1)

  -- ---- the jobs

  module _ (told : SpoiledJobsWereTold) (context : Context) where
    -- a device call that ends with a spoiled key; none does
    abbrev CallsNone : JobSeen → JobResult → Type 0
    CallsNone job r = (device : ℕ) (call : DeviceCall) (key : KeyKind) → job ≡ history.calls device call → r.answer ≢ Spoiled key

    job_none : (job : Job) (r : JobResult) → CallsNone (seen_job job) r → HasWalk context lists job r.path.items r.answer → (key : KeyKind) → r.answer ≢ Spoiled key
    job_none (calls device call) r none w key e = none device call key refl e
    job_none job r none w key e = told context job w.0 key refl (subst (IsWalk context job w.0) e w.2) (reads_clean r.path.items w.0 w.1)

    jobs_none : (jobs : List Job) (results : List JobResult) → AllZip (λ (job : Job) (r : JobResult). HasWalk context lists job r.path.items r.answer) jobs results
        → AllZip CallsNone (map seen_job jobs) results → AllByRecursion (λ (r : JobResult). (key : KeyKind) → r.answer ≢ Spoiled key) results
    jobs_none [] [] h k = tt
    jobs_none [] (r ∷ results) h k = absurd h
    jobs_none (job ∷ jobs) [] h k = absurd h
    jobs_none (job ∷ jobs) (r ∷ results) h k = (job_none job r k.0 h.0, jobs_none jobs results h.1 k.1)

-- ---- the actors

module _ (told : SpoiledJobsWereTold) (c : Closing) (opening closing : Store) (clean : AllByRecursion (λ (e : LogEntry). setup.IsUnspoiled e.reply) c.objects.depot) where
  actors_none : (actors : List Left) → AllByRecursion (λ (a : Left). HasTrail c.context (own_lists c.objects a.number) a.jobs a.results) actors
      → AllByRecursion (λ (a : ActorSeen). AllZip (λ (job : JobSeen) (r : JobResult). IsAnswered (own (run_of c opening closing) a.number) job r.path.items r.answer) a.jobs a.results) (map actor_seen actors)
      → AllByRecursion (λ (a : Left). AllByRecursion (λ (r : JobResult). (key : KeyKind) → r.answer ≢ Spoiled key) a.results) actors
  actors_none [] h k = tt
  actors_none (a ∷ actors) h k =
      let depot = own_unspoiled a.number c.objects.depot clean in
      let lists : Lists = own_lists c.objects a.number in (
        jobs_none lists (lists_clean c.objects a.number depot) told c.context a.jobs a.results h.0.walks
            (jobs_unspoiled (own (run_of c opening closing) a.number) depot (map seen_job a.jobs) a.results k.0),
        actors_none actors h.1 k.1,
      )

pub none_spoiled : SpoiledJobsWereTold → (c : Closing) (opening closing : Store) → IsClosing c → JobsAreAnswered (run_of c opening closing)
    → LedTo c.objects.start opening c.objects.depot closing → HasChunks opening → FindNothingSpoiled c
none_spoiled told c opening closing k answered led chunks =
    actors_none told c opening closing (led_unspoiled c.objects.start opening c.objects.depot closing led chunks) c.actors k.trails answered

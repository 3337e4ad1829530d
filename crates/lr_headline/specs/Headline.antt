-- What follows of a run from what it left.
use Rattle.std.specs.Prelude.{◌≢◌, ◌≤◌, ◌+◌, ℕ, List}
use Rattle.std.specs.List.{AllByRecursion, AllZip}
use Rattle.std.specs.FinMap as map
use Rattle.lr_origin.specs.Objects.{Objects as Store}
use Rattle.lr_origin.specs.declared.key.KeyKind.{KeyKind}
use Rattle.lr_object.specs.declared.id.ObjectId.TheVariants.{Depot}
use Rattle.lr_cache.specs.Machine.{LogEntry as CacheEntry, empty}
use Rattle.lr_claims.specs.Leads.{givens}
use Rattle.lr_walk.specs.declared.trail.Answer.TheVariants.{Spoiled}
use Rattle.lr_walk.specs.declared.trail.JobResult.{JobResult}
use Rattle.lr_seal.specs.Made.{HaveDistinctDigests}
use Rattle.lr_history.specs.Jobs.{JobSeen}
use Rattle.lr_history.specs.Run.{CacheSeen, ActorSeen, Run}
use Rattle.lr_history.specs.Strings.{strings_of}
use Rattle.lr_history.specs.Lists.{own, context_of}
use Rattle.lr_history.specs.Told.{fetched_in}
use Rattle.lr_history.specs.OnDemand.{IsOnDemand, IsDemandedFetch}
use Rattle.lr_history.specs.Claims.{fetches_for, HasRoom, IsNoEvict, NobodyCrashed}
use Rattle.lr_history.specs.Histories.{AreLegalWhereAgreed, PiecesWereLoaded, CommitsArePlanned, CallsAreAnsweredOnce, JobsAreAnswered, OwnListsFollowJobs, total}
use Rattle.lr_opening.specs.Store.{HasChunks}
use Rattle.lr_depot.specs.Depot.{LedTo}
use Rattle.lr_history.specs.Premises.{IsRun, AreDeviceLogs, AreCacheLogs}
use Rattle.lr_setup.specs.Whole.{IsWhole, Serves}
use Rattle.lr_headline.specs.Closing.{Left, Closing, IsClosing, run_of}

-- A run over a store that leads from the opening objects to the closing ones is whole: each part delivers what its history needs.
abbrev pub RunsAreWhole : Type 0
RunsAreWhole = (c : Closing) (opening closing : Store) → IsClosing c → LedTo c.objects.start opening c.objects.depot closing → HasChunks opening → IsWhole c.objects.start c.lines (run_of c opening closing)

-- Whatever the store holds, the logs of devices and caches and the trails are those of a run.
pub record RunsAreRuns : Type 0 where
  pub trails : (c : Closing) (opening closing : Store) → IsClosing c → IsRun (run_of c opening closing)
  pub devices : (c : Closing) (opening closing : Store) → IsClosing c → AreDeviceLogs (run_of c opening closing)
  pub caches : (c : Closing) (opening closing : Store) → IsClosing c → AreCacheLogs (run_of c opening closing)

-- ---- what follows

-- .. so each device serves its image, where digests tell the run's strings apart
abbrev pub RunsServe : Type 0
RunsServe =
    (c : Closing) (opening closing : Store) → IsClosing c → LedTo c.objects.start opening c.objects.depot closing → HasChunks opening
    → HaveDistinctDigests (strings_of (run_of c opening closing)) → Serves (run_of c opening closing)

-- no job of an actor ends with a spoiled key
abbrev pub FindNothingSpoiled : Closing → Type 0
FindNothingSpoiled c = AllByRecursion (λ (a : Left). AllByRecursion (λ (r : JobResult). (key : KeyKind) → r.answer ≢ Spoiled key) a.results) c.actors

-- .. over a store that was sound, whatever digests tell
abbrev pub RunsFindNothingSpoiled : Type 0
RunsFindNothingSpoiled =
    (c : Closing) (opening closing : Store) → IsClosing c → LedTo c.objects.start opening c.objects.depot closing → HasChunks opening → FindNothingSpoiled c

-- the run, whatever its store holds
abbrev pub bare : Closing → Run
bare c = run_of c map.empty map.empty

-- the loads of each job are those that its plan needed
abbrev pub AreOnDemand : Run → Type 0
AreOnDemand run =
    AllByRecursion (λ (a : ActorSeen). AllZip (λ (job : JobSeen) (r : JobResult). IsOnDemand (context_of run) (own run a.number) job r.path.items) a.jobs a.results) run.actors

-- each fetch is of a chunk that was demanded
abbrev pub AreDemanded : Run → Type 0
AreDemanded run = AllByRecursion (λ (a : ActorSeen). AllByRecursion (IsDemandedFetch run a) (fetched_in (own run a.number Depot))) run.actors

-- Where a host's cache has room for each name that the calls on its devices meet, nobody evicts it and no actor with calls on it crashes,
-- a name is fetched at most once more than claims on it are given up.
abbrev pub FetchOnce : Run → Type 0
FetchOnce run =
    (host : ℕ) (c : CacheSeen) (names : List (List ℕ)) → HasRoom run host c names
    → AllByRecursion (λ (e : CacheEntry). IsNoEvict e.reply) c.log → NobodyCrashed run host
    → (x : List ℕ) → total (fetches_for run host x) run.actors ≤ 1 + givens c.capacity x empty c.log

-- What holds of a run whatever its store holds and whatever digests tell: each device's history is legal on every base of its length that
-- agrees with the pieces used, which are chunks of its manifest's names under its keys; each call is answered once, in its caller's order;
-- chunks are fetched on demand, and a name again only after a claim on it was given up.
pub record Follows (run : Run) : Type 0 where
  pub legal : AreLegalWhereAgreed run
  pub pieces : PiecesWereLoaded run
  pub planned : CommitsArePlanned run
  pub once : CallsAreAnsweredOnce run
  pub jobs : JobsAreAnswered run
  pub order : OwnListsFollowJobs run
  pub loads : AreOnDemand run
  pub demanded : AreDemanded run
  pub claims : FetchOnce run

abbrev pub RunsFollow : Type 0
RunsFollow = (c : Closing) → IsClosing c → Follows (bare c)

-- What trails say of an actor's own lists: its answered calls, the pieces that they used, the failures of its fetches.
use Rattle.std.proofs.Common.{◌≡◌, ℕ, List, [], ◌∷◌, ◌++◌, Some, true, false, refl, sym, subst, ◌∙◌}
use Rattle.std.specs.List.{AllByRecursion, AllZip, flat_map}
use Rattle.lr_object.specs.declared.id.ObjectId.TheVariants.{Device, Depot}
use Rattle.lr_walk.specs.declared.trail.Answer.{Answer}
use Rattle.lr_walk.specs.declared.trail.Did.{Did}
use Rattle.lr_walk.specs.declared.trail.JobResult.{JobResult}
use Rattle.lr_walk.specs.Steps.{Call, on_device, on_depot, Reply, by_device, by_depot, Step, object_of, is_memory}
use Rattle.lr_walk.specs.Device.{Piece}
use Rattle.lr_walk.specs.Device as devices
use Rattle.lr_walk.specs.Depot as depots
use Rattle.lr_walk.specs.Jobs.{Context}
use Rattle.lr_walk.specs.Trails.{Lists, is_same, Reads, IsReap}
use Rattle.lr_history.specs.Jobs.{JobSeen, WalksSeen, OrCut, HasTrailSeen}
use Rattle.lr_history.specs.Lists.{entries_in}
use Rattle.lr_history.specs.Answered.{Outcome, answered_job, answered_jobs, committed_by, committed_in, failed_by, IsCallAnswer}
use Rattle.lr_history.specs.Histories.{IsAnswered}
use Rattle.lr_history.specs.Loaded.{IsLoadedAt}
use Rattle.lr_history.proofs.Facts.{used_of, used_in, all_append}
use Rattle.lr_history.proofs.Walked.{walk_told}
use Rattle.lr_history.proofs.Paths.{IsOn, reads_all, list_by_jobs}

-- ---- three things that steps tell

abbrev pub committed_step : ℕ → Step → List Outcome
committed_step device s = committed_by device s.call s.reply

abbrev pub used_step : ℕ → Step → List Piece
used_step device s = used_of device s.call s.reply

abbrev pub failed_step : Step → List Answer
failed_step s = failed_by s.call s.reply

committed_elsewhere : (device : ℕ) (call : Call) (r : Reply) → is_same (object_of call) (Device device) ≡ false → committed_by device call r ≡ []
committed_elsewhere device (on_device d (devices.commits (Some call) used)) (by_device (devices.committed reply)) e = rw e refl
committed_elsewhere device call r e = refl

committed_memory : (device : ℕ) (call : Call) (r : Reply) → is_memory r ≡ true → committed_by device call r ≡ []
committed_memory device (on_device d (devices.commits (Some call) used)) (by_device (devices.committed reply)) e = absurd (cc)
committed_memory device call r e = refl

committed_reap : (device : ℕ) (call : Call) (r : Reply) → IsReap call → committed_by device call r ≡ []
committed_reap device (on_device d (devices.commits (Some call) used)) (by_device (devices.committed reply)) e = absurd e
committed_reap device call r e = refl

pub committed_on : (device : ℕ) → IsOn (committed_step device) (Device device)
committed_on device = record {
  elsewhere = λ s. committed_elsewhere device s.call s.reply;
  no_memory = λ s. committed_memory device s.call s.reply;
  no_reap = λ s. committed_reap device s.call s.reply;
}

used_elsewhere : (device : ℕ) (call : Call) (r : Reply) → is_same (object_of call) (Device device) ≡ false → used_of device call r ≡ []
used_elsewhere device (on_device d (devices.commits (Some call) used)) (by_device (devices.committed reply)) e = rw e refl
used_elsewhere device call r e = refl

used_memory : (device : ℕ) (call : Call) (r : Reply) → is_memory r ≡ true → used_of device call r ≡ []
used_memory device (on_device d (devices.commits (Some call) used)) (by_device (devices.committed reply)) e = absurd (cc)
used_memory device call r e = refl

used_reap : (device : ℕ) (call : Call) (r : Reply) → IsReap call → used_of device call r ≡ []
used_reap device (on_device d (devices.commits (Some call) used)) (by_device (devices.committed reply)) e = absurd e
used_reap device call r e = refl

pub used_on : (device : ℕ) → IsOn (used_step device) (Device device)
used_on device = record {
  elsewhere = λ s. used_elsewhere device s.call s.reply;
  no_memory = λ s. used_memory device s.call s.reply;
  no_reap = λ s. used_reap device s.call s.reply;
}

failed_elsewhere : (call : Call) (r : Reply) → is_same (object_of call) Depot ≡ false → failed_by call r ≡ []
failed_elsewhere (on_depot (depots.fetches lease index)) r e = absurd (cc)
failed_elsewhere call r e = refl

failed_memory : (call : Call) (r : Reply) → is_memory r ≡ true → failed_by call r ≡ []
failed_memory (on_depot (depots.fetches lease index)) (by_depot (depots.fault key)) e = absurd (cc)
failed_memory (on_depot (depots.fetches lease index)) (by_depot (depots.spoiled key)) e = absurd (cc)
failed_memory call r e = refl

failed_reap : (call : Call) (r : Reply) → IsReap call → failed_by call r ≡ []
failed_reap (on_depot (depots.fetches lease index)) r e = absurd e
failed_reap call r e = refl

pub failed_on : IsOn failed_step Depot
failed_on = record {
  elsewhere = λ s. failed_elsewhere s.call s.reply;
  no_memory = λ s. failed_memory s.call s.reply;
  no_reap = λ s. failed_reap s.call s.reply;
}

-- ---- each job's path

module _ (context : Context) (lists : Lists) where
  -- the path reads as a walk of the job with this answer
  abbrev pub Follows : JobSeen → List Did → Answer → Type 0
  Follows job path answer = (steps : List Step) × Reads lists path steps × OrCut (WalksSeen context) job steps answer

  pub path_answered : (job : JobSeen) (path : List Did) (answer : Answer) → Follows job path answer → IsAnswered lists job path answer
  path_answered job path answer w =
      let t = walk_told context job w.0 answer w.2 in
      record {
        once = λ device. reads_all (committed_step device) (Device device) (committed_on device) lists path w.0 w.1 ∙ t.once device;
        cause = λ device call e. subst (λ (l : List Answer). IsCallAnswer answer l) (sym (reads_all failed_step Depot failed_on lists path w.0 w.1)) (t.cause device call e);
      }

  path_used : (device : ℕ) (job : JobSeen) (path : List Did) (answer : Answer) → Follows job path answer
      → AllByRecursion (IsLoadedAt context device) (used_in device (entries_in lists (Device device) path))
  path_used device job path answer w =
      let t = walk_told context job w.0 answer w.2 in
      subst (λ (l : List Piece). AllByRecursion (IsLoadedAt context device) l) (sym (reads_all (used_step device) (Device device) (used_on device) lists path w.0 w.1)) (t.used device)

  abbrev Walked : JobSeen → JobResult → Type 0
  Walked job r = Follows job r.path.items r.answer

  pub jobs_answered : (jobs : List JobSeen) (results : List JobResult) → AllZip Walked jobs results
      → AllZip (λ (job : JobSeen) (r : JobResult). IsAnswered lists job r.path.items r.answer) jobs results
  jobs_answered [] [] w = tt
  jobs_answered [] (r ∷ results) w = absurd w
  jobs_answered (job ∷ jobs) [] w = absurd w
  jobs_answered (job ∷ jobs) (r ∷ results) w = (path_answered job r.path.items r.answer w.0, jobs_answered jobs results w.1)

  jobs_once : (device : ℕ) (jobs : List JobSeen) (results : List JobResult) → AllZip Walked jobs results
      → flat_map (λ (r : JobResult). committed_in device (entries_in lists (Device device) r.path.items)) results ≡ answered_jobs device jobs results
  jobs_once device [] [] w = refl
  jobs_once device [] (r ∷ results) w = absurd w
  jobs_once device (job ∷ jobs) [] w = absurd w
  jobs_once device (job ∷ jobs) (r ∷ results) w =
      let now : committed_in device (entries_in lists (Device device) r.path.items) ≡ answered_job device job r.answer =
      (path_answered job r.path.items r.answer w.0).once device in
      λ i. now i ++ jobs_once device jobs results w.1 i

  jobs_used : (device : ℕ) (jobs : List JobSeen) (results : List JobResult) → AllZip Walked jobs results
      → AllByRecursion (IsLoadedAt context device) (flat_map (λ (r : JobResult). used_in device (entries_in lists (Device device) r.path.items)) results)
  jobs_used device [] [] w = tt
  jobs_used device [] (r ∷ results) w = absurd w
  jobs_used device (job ∷ jobs) [] w = absurd w
  jobs_used device (job ∷ jobs) (r ∷ results) w =
      all_append (IsLoadedAt context device) _ _ (path_used device job r.path.items r.answer w.0) (jobs_used device jobs results w.1)

  -- An actor's own list of a device commits the outcomes of its jobs, and nothing else.
  pub trail_once : (device : ℕ) (jobs : List JobSeen) (results : List JobResult) → HasTrailSeen context lists jobs results
      → committed_in device (lists (Device device)) ≡ answered_jobs device jobs results
  trail_once device jobs results h =
      list_by_jobs (committed_step device) (Device device) (committed_on device) lists results (h.counted (Device device)) (h.beyond (Device device))
      ∙ jobs_once device jobs results h.walks

  -- All pieces that it used were loaded.
  pub trail_used : (device : ℕ) (jobs : List JobSeen) (results : List JobResult) → HasTrailSeen context lists jobs results
      → AllByRecursion (IsLoadedAt context device) (used_in device (lists (Device device)))
  trail_used device jobs results h =
      subst (λ (l : List Piece). AllByRecursion (IsLoadedAt context device) l)
      (sym (list_by_jobs (used_step device) (Device device) (used_on device) lists results (h.counted (Device device)) (h.beyond (Device device))))
      (jobs_used device jobs results h.walks)

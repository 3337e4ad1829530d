-- What is known of an actor with a job under way: its call fits what its own lists say is out.
use Rattle.std.proofs.Common.{◌≡◌, ◌≤◌, ◌<◌, ℕ, zero, suc, List, [], ◌∷◌, ◌++◌, length, None, Option, Some, slice_get, refl, sym, subst, append_assoc, arith}
use Rattle.std.specs.List.{AllByRecursion}
use Rattle.lr_manifest.specs.declared.name.Name.{Name}
use Rattle.lr_object.specs.declared.id.ObjectId.TheVariants.{Device, Cache}
use Rattle.lr_device.specs.declared.call.DeviceCall.{DeviceCall}
use Rattle.lr_walk.specs.declared.trail.Answer.{Answer}
use Rattle.lr_walk.specs.Steps.{Call, Reply, Step, step}
use Rattle.lr_walk.specs.Jobs.{Context}
use Rattle.lr_walk.specs.Trails.{Lists}
use Rattle.lr_history.specs.Ready.{claim_by, FitsClaim, plan_by, FitsPlan, out_after, WalksFit, NextFits, PathsTell, FitIsPlanned, FitIsGranted}
use Rattle.lr_actors.specs.declared.trail.ActorState.{ActorState}
use Rattle.lr_actors.specs.declared.running.Running.{Running}
use Rattle.lr_actors.specs.Asked.{Adds}
use Rattle.lr_actors.specs.Running as running
use Rattle.lr_actors.specs.Running.{serves}
use Rattle.lr_actors.specs.Serving.{Work, IsPlanned}
use Rattle.lr_actors.specs.Begun.{IsTaskOf}
use Rattle.lr_actors.specs.Jobs.{Job, calls, creates, migrates, collects, closes, evicts, drops_stripe, flips_stripe, forges, loses, WalksJob}
use Rattle.lr_actors.specs.Actor.{Seen, works, MayBeGiven, AreEnded, FitsState, IsUnderWay, FitsNow, StandsNow}
use Rattle.lr_replies.specs.Seen.{seen_job}
use Rattle.lr_replies.specs.Objects.{Objects, own_lists}
use Rattle.lr_replies.specs.Replies.{IsOut, HasLease, IsReady}
use Rattle.lr_replies.proofs.Seen.{jobs_seen}
use Rattle.lr_replies.proofs.Out.{claim_now, plan_now, told_by, told_now}

-- what a history says of calls that fit
pub record Laws : Type 0 where
  pub fit : WalksFit
  pub next : NextFits
  pub tell : PathsTell
  pub planned : FitIsPlanned
  pub granted : FitIsGranted

all_at : {X : Type 0} (P : X → Type 0) (xs : List X) (i : ℕ) (x : X) → AllByRecursion P xs → slice_get xs i ≡ Some x → P x
all_at P [] i x h e = absurd (cc)
all_at P (y ∷ xs) zero x h e = subst P (same e) h.0
  where
    same : Some y ≡ Some x → y ≡ x
    same e = cc
all_at P (y ∷ xs) (suc i) x h e = all_at P xs i x h.1 e

-- a device call is on the device of its number
pub record IsHome (context : Context) (job : Job) (work : Work) : Type 0 where
  pub is : job ≡ calls work.device work.call
  pub nodes : context.nodes ≡ work.nodes
  pub here : slice_get context.devices work.device ≡ Some work.place

pub home_of : (context : Context) (job : Job) (work : Work) → IsTaskOf context job (serves work) → IsHome context job work
home_of context (calls device call) work t =
    let v : Work = record { nodes = context.nodes; device = device; place = t.0; call = call } in
    subst (IsHome context (calls device call)) (same v t.2) (record { is = refl; nodes = refl; here = t.1 })
  where
    same : (v : Work) → serves work ≡ serves v → v ≡ work
    same v e = cc
home_of context (creates image tenant raw) work t = absurd (cc)
home_of context (migrates image) work t = absurd (cc)
home_of context (collects job) work t = absurd (cc)
home_of context (closes device) work t = absurd (let e = t.2 in cc)
home_of context (evicts host) work t = absurd (cc)
home_of context (drops_stripe index device chunk) work t = absurd (let e = t.2.2 in cc)
home_of context (flips_stripe index device chunk at) work t = absurd (let e = t.2.2 in cc)
home_of context (forges device chunk) work t = absurd (let e = t.2.2 in cc)
home_of context (loses node) work t = absurd (cc)

module _ (laws : Laws) (w : Objects) (a : Seen) (ready : IsReady w a) (r : Running) (f : FitsNow (works r) a) (s : StandsNow (works r) a (own_lists w a.number)) where
  abbrev lists : Lists
  lists = own_lists w a.number

  abbrev pub job : Job
  job = f.1.0

  abbrev pub under : IsUnderWay a.context job r
  under = f.1.2

  abbrev pub steps : List Step
  steps = s.1.0

  few : AreEnded a.account.results × (length a.account.results < length a.jobs)
  few = subst (λ (st : ActorState). FitsState st a) f.0 ready.is.state

  may : MayBeGiven a.context a.hosts job
  may = all_at (MayBeGiven a.context a.hosts) a.jobs (length a.account.results) job ready.is.jobs f.1.1

  less : (m n : ℕ) → m < n → m ≤ n
  less m n h = omega (arith, h)

  pub claim_out : (host : ℕ) → out_after (claim_by host) None (lists (Cache host)) ≡ out_after (claim_by host) None steps
  claim_out host = claim_now laws.fit laws.tell a.context a.hosts lists a.jobs a.account s.0 ready.is.jobs few.0 (less _ _ few.1) steps s.1.1 host

  pub plan_out : (device : ℕ) → out_after (plan_by device) None (lists (Device device)) ≡ out_after (plan_by device) None steps
  plan_out device = plan_now laws.fit laws.tell a.context a.hosts lists a.jobs a.account s.0 ready.is.jobs few.0 (less _ _ few.1) steps s.1.1 device

  pub told_out : (work : Work) (needs : List ℕ) (pages : ℕ) → IsPlanned work needs pages steps
      → out_after (told_by work.device) None (lists (Device work.device)) ≡ Some (record { call = work.call; needs = needs; pages = pages })
  told_out work needs pages p = told_now laws.fit laws.tell a.context a.hosts lists a.jobs a.account s.0 ready.is.jobs few.0 (less _ _ few.1) work needs pages steps s.1.1 p

  -- a reply that the job takes, and that adds its step
  module _ (call : Call) (x : Reply) (admits : running.Admits r x) (adds : Adds (running.asked r) x (step call x ∷ [])) where
    walk : (tail : List Step) × (answer : Answer) × WalksJob a.context job (steps ++ step call x ∷ tail) answer
    walk =
        let front = under.front steps (step call x ∷ []) x admits adds s.1.2 in
        (front.0, front.1, subst (λ (l : List Step). WalksJob a.context job l front.1) (append_assoc steps (step call x ∷ []) front.0) (under.task ((steps ++ step call x ∷ []) ++ front.0) front.1 front.2))

    pub fits_claim : (host : ℕ) → FitsClaim host (out_after (claim_by host) None (lists (Cache host))) call
    fits_claim host =
        let seen = jobs_seen a.context a.hosts job (steps ++ step call x ∷ walk.0) walk.1 may walk.2 in
        subst (λ (o : Option Name). FitsClaim host o call) (sym (claim_out host)) (laws.next.claim a.context (seen_job job) steps (step call x) walk.0 walk.1 seen host)

    pub fits_plan : (device : ℕ) → FitsPlan device (out_after (plan_by device) None (lists (Device device))) call
    fits_plan device =
        let seen = jobs_seen a.context a.hosts job (steps ++ step call x ∷ walk.0) walk.1 may walk.2 in
        subst (λ (o : Option DeviceCall). FitsPlan device o call) (sym (plan_out device)) (laws.next.plan a.context (seen_job job) steps (step call x) walk.0 walk.1 seen device)

  -- of a device call
  pub lease_out : (work : Work) → IsHome a.context job work → IsOut w work.place
  lease_out work home = (subst (HasLease w a.context) home.is (ready.lease job f.1.1)) work.place home.here

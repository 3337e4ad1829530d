-- Who looks for a chunk holds no claim, and who has ended holds nothing.
use Rattle.std.proofs.Common.{◌≡◌, ◌<◌, ℕ, zero, suc, List, [], ◌∷◌, length, map, Some, None, slice_get, refl, sym, subst, arith}
use Rattle.std.specs.List.{AllByRecursion}
use Rattle.lr_object.specs.declared.id.ObjectId.{ObjectId}
use Rattle.lr_object.specs.declared.id.ObjectId.TheVariants.{Device, Cache, Node, Depot}
use Rattle.lr_manifest.specs.declared.name.Name.{Name}
use Rattle.lr_cache.specs.declared.call.CacheCall.TheVariants.{Look}
use Rattle.lr_cache.specs.declared.call.CacheReply.TheVariants.{OutOfMemory}
use Rattle.lr_walk.specs.declared.trail.Answer.{Answer}
use Rattle.lr_walk.specs.declared.trail.Answer.TheVariants.{Cut, Unbegun}
use Rattle.lr_walk.specs.declared.trail.JobResult.{JobResult}
use Rattle.lr_walk.specs.Steps.{Call, on_cache, by_cache, Step, step}
use Rattle.lr_walk.specs.Cache as caches
use Rattle.lr_walk.specs.Trails.{Lists}
use Rattle.lr_history.specs.Jobs.{HasTrailSeen}
use Rattle.lr_history.specs.Ready.{claim_by, out_after, IsWhole, EndedHasNone}
use Rattle.lr_actors.specs.declared.action.ActorCall.TheVariants as call
use Rattle.lr_actors.specs.declared.action.ActorReply.TheVariants as by
use Rattle.lr_actors.specs.declared.trail.ActorState.{ActorState}
use Rattle.lr_actors.specs.declared.trail.ActorState.TheVariants.{Ended}
use Rattle.lr_actors.specs.declared.running.Running.{Running}
use Rattle.lr_actors.specs.Asked.{Asked, a_call, Adds, HandsCall, seen_reply}
use Rattle.lr_actors.specs.Running.{asked}
use Rattle.lr_actors.specs.Accounts.{IsEnd}
use Rattle.lr_actors.specs.Actor as actor
use Rattle.lr_actors.specs.Actor.{Seen, Now, works, idles, reaps, over, reap_at, reap_of, IsActor, AreEnded, FitsState, FitsNow, StandsFor, StandsNow, StandsReaped, reaps_of, Admits, AdmitsNow, asks_now}
use Rattle.lr_replies.specs.Objects.{Objects, own_lists, Replies}
use Rattle.lr_replies.specs.Replies.{IsReady, RepliesAreAdmitted, LooksHoldNone, EndedHoldNone}
use Rattle.lr_replies.specs.Seen.{seen_job, TrailsAreSeen}
use Rattle.lr_replies.proofs.Under.{Laws, fits_claim}

-- ---- a Look

at_some : {X : Type 0} (xs : List X) (n : ℕ) → n < length xs → (x : X) × (slice_get xs n ≡ Some x)
at_some [] n h = absurd (omega arith)
at_some (x ∷ xs) zero h = (x, refl)
at_some (x ∷ xs) (suc n) h = at_some xs n (omega arith)

no_reap : (h : ℕ) (name : Name) (x : ObjectId) → a_call (on_cache h (caches.looks name)) ≡ a_call (reap_of x) → ⊥
no_reap h name (Device d) e = cc
no_reap h name (Cache k) e = cc
no_reap h name (Node k) e = cc
no_reap h name Depot e = cc

module _ (laws : Laws) (admitted : RepliesAreAdmitted) (w : Objects) (a : Seen) (at : ℕ) (name : Name) (ready : IsReady w a) (looks : actor.Calls a (call.Cache at (Look name))) where
  -- want of memory is one of its replies
  admits : Admits a (by_cache caches.memory)
  admits =
      let within : at < length w.caches = omega (arith, looks.within, ready.made.many.1) in
      let there = at_some w.caches at within in
      admitted w a (call.Cache at (Look name)) (by.Cache OutOfMemory) ready looks (there.0, there.1, tt)

  none_by : (now : Now) → a.now ≡ now → FitsNow now a → StandsNow now a (own_lists w a.number) → HandsCall (call.Cache at (Look name)) (asks_now now a) → AdmitsNow now a (by_cache caches.memory)
      → (host : ℕ) → out_after (claim_by host) None (own_lists w a.number (Cache host)) ≡ None
  none_by (works r) e f s hands takes host =
      fits_claim laws w a ready r f s (on_cache at (caches.looks name)) (by_cache caches.memory) takes
      (subst (λ (x : Asked). Adds x (by_cache caches.memory) (step (on_cache at (caches.looks name)) (by_cache caches.memory) ∷ [])) hands refl) host
  none_by idles e f s hands takes host = absurd (cc)
  none_by (reaps made) e f s hands takes host = absurd (no_reap at name (reap_at a.context a.hosts made) hands)
  none_by over e f s hands takes host = absurd (cc)

  none_out : (host : ℕ) → out_after (claim_by host) None (own_lists w a.number (Cache host)) ≡ None
  none_out host = none_by a.now refl ready.is.now ready.stands looks.asked admits host

pub looks_none : Laws → RepliesAreAdmitted → LooksHoldNone
looks_none laws admitted w a at name ready looks host = none_out laws admitted w a at name ready looks host

-- ---- an actor that has ended

end_whole : (answer : Answer) → IsEnd answer → IsWhole answer
end_whole Cut e = e
end_whole Unbegun e = tt
end_whole answer e = tt

all_whole : (results : List JobResult) → AreEnded results → AllByRecursion (λ (r : JobResult). IsWhole r.answer) results
all_whole [] e = tt
all_whole (r ∷ results) e = (end_whole r.answer e.0, all_whole results e.1)

module _ (seen : TrailsAreSeen) (a : Seen) (lists : Lists) (is : IsActor a) (state : a.state ≡ Ended) (now : a.now ≡ over) (stands : StandsFor a lists) where
  pub trail : HasTrailSeen a.context lists (map seen_job a.jobs) a.account.results
  trail =
      let reaped : StandsReaped a lists (reaps_of a.state a) = subst (λ (n : Now). StandsNow n a lists) now stands in
      seen a.context a.hosts lists a.jobs a.account.results is.jobs reaped.trail

  pub whole : AllByRecursion (λ (r : JobResult). IsWhole r.answer) a.account.results
  whole = all_whole a.account.results (subst (λ (s : ActorState). FitsState s a) state is.state).0

pub ended_none : TrailsAreSeen → EndedHasNone → EndedHoldNone
ended_none seen ended =
    record {
      claim = λ a lists is state now stands host. ended.claim a.context lists (map seen_job a.jobs) a.account.results (trail seen a lists is state now stands) (whole seen a lists is state now stands) host;
      plan = λ a lists is state now stands device. ended.plan a.context lists (map seen_job a.jobs) a.account.results (trail seen a lists is state now stands) (whole seen a lists is state now stands) device;
    }

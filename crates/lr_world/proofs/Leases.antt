-- The leases of jobs to come stay out.
use Rattle.std.proofs.Common.{◌≡◌, ◌<◌, ◌≤◌, ℕ, List, length, Some, slice_get, sym, subst, ◌∙◌, inl, inr, arith}
use Rattle.std.specs.Prelude.{◌≢◌, ◌⊎◌, ⊤}
use Rattle.std.proofs.lemmas.Bool.{cases_lt}
use Rattle.lr_device.specs.declared.call.DeviceCall.{DeviceCall}
use Rattle.lr_depot.specs.declared.call.DepotCall.TheVariants as depot
use Rattle.lr_walk.specs.Calls.{DevicePlace}
use Rattle.lr_walk.specs.Jobs.{Context}
use Rattle.lr_actors.specs.declared.action.ActorCall.{ActorCall}
use Rattle.lr_actors.specs.declared.action.ActorCall.TheVariants as call
use Rattle.lr_actors.specs.declared.action.ActorReply.{ActorReply}
use Rattle.lr_actors.specs.Jobs.{Job, calls, closes}
use Rattle.lr_actors.specs.Actor as actor
use Rattle.lr_actors.specs.Actor.{NextJob, ClosesFor, MayClose}
use Rattle.lr_replies.specs.Objects.{Objects, Calls}
use Rattle.lr_replies.specs.Replies.{HasLease, IsNoClose, LeasesStayOut}
use Rattle.lr_world.specs.World.{Part, part_of, HasJob, IsCast}

-- numbers are equal or not
pub same_or_not : (m n : ℕ) → (m ≡ n) ⊎ (m ≢ n)
same_or_not m n = by (cases_lt m n) (cases_lt n m)
  where
    by : (m < n) ⊎ (n ≤ m) → (n < m) ⊎ (m ≤ n) → (m ≡ n) ⊎ (m ≢ n)
    by (inl h) k = inr (λ e. omega (arith, e, h))
    by (inr h) (inl k) = inr (λ e. omega (arith, e, k))
    by (inr h) (inr k) = inl (omega (arith, h, k))

-- the close of the device of a close job
pub record Closing (a : actor.Seen) (lease : ℕ) : Type 0 where
  pub device : ℕ
  pub place : DevicePlace
  pub job : slice_get a.jobs (length a.account.results) ≡ Some (closes device)
  pub at : slice_get a.context.devices device ≡ Some place
  pub is : lease ≡ place.lease

closing_by : (a : actor.Seen) (lease : ℕ) (job : Job) → slice_get a.jobs (length a.account.results) ≡ Some job → ClosesFor a.context job lease → Closing a lease
closing_by a lease (closes device) e c = record { device = device; place = c.0; job = e; at = c.1; is = c.2 }
closing_by a lease job e c = absurd c

pub closing_of : (a : actor.Seen) (lease : ℕ) → MayClose a (call.Depot (depot.Close lease)) → Closing a lease
closing_of a lease c = closing_by a lease c.0 c.1 c.2

-- the call is a close
abbrev pub IsClosing : ActorCall → Type 0
IsClosing (call.Depot (depot.Close lease)) = ⊤
IsClosing asked = ⊥

module _ (context : Context) (hosts : ℕ) (cast : List Part) (is : IsCast context hosts cast) (i : ℕ) (a : actor.Seen) (got : slice_get cast i ≡ Some (part_of a)) where
  -- a lease under which a device is called is closed by nobody
  unclosed_call : (asked : ActorCall) → MayClose a asked → (j k device : ℕ) (c : DeviceCall) → HasJob cast j k (calls device c) → (place : DevicePlace) → IsNoClose place.lease asked
  unclosed_call (call.Depot (depot.Close lease)) may j k device c job place =
      let q : Closing a lease = closing_of a lease may in
      λ e. is.apart j i k (length a.account.results) device q.device c job (part_of a, got, q.job)
  unclosed_call asked may j k device c job place = tt

  -- a lease is closed by no other job than its close
  unclosed_close : (asked : ActorCall) → MayClose a asked → (j k device : ℕ) → HasJob cast j k (closes device) → (IsClosing asked → j ≡ i → length a.account.results < k)
      → (place : DevicePlace) → slice_get context.devices device ≡ Some place → IsNoClose place.lease asked
  unclosed_close (call.Depot (depot.Close lease)) may j k device job later place at =
      let q : Closing a lease = closing_of a lease may in
      let there : slice_get context.devices q.device ≡ Some q.place = subst (λ (x : Context). slice_get x.devices q.device ≡ Some q.place) (is.shared i (part_of a) got).0 q.at in
      λ e. let same : q.device ≡ device = is.leases q.device device q.place place there at (sym q.is ∙ e) in
      let both = is.once i j (length a.account.results) k device (part_of a, got, subst (λ (d : ℕ). slice_get a.jobs (length a.account.results) ≡ Some (closes d)) same q.job) job in
      absurd (omega (arith, later tt (sym both.0), both.1))
  unclosed_close asked may j k device job later place at = tt

  -- the lease of a job stays out
  module _ (stay : LeasesStayOut) (old new : Objects) (asked : ActorCall) (reply : ActorReply) (called : Calls a.number asked reply old new) (may : MayClose a asked) where
    pub lease_stays : (j k : ℕ) (p : Part) (job : Job) → slice_get cast j ≡ Some p → slice_get p.jobs k ≡ Some job → (IsClosing asked → j ≡ i → length a.account.results < k) → HasLease old context job → HasLease new context job
    lease_stays j k p (calls device c) part at later h =
        λ place there. stay old new a.number place asked reply called (unclosed_call asked may j k device c (p, part, at) place) (h place there)
    lease_stays j k p (closes device) part at later h =
        λ place there. stay old new a.number place asked reply called (unclosed_close asked may j k device (p, part, at) later place there) (h place there)
    lease_stays j k p job part at later h = tt

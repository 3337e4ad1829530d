-- New actors over objects are a world.
use Rattle.std.proofs.Common.{◌≡◌, ℕ, List, [], ◌∷◌, map, Some, None, slice_get, refl, ap, sym, subst}
use Rattle.lr_object.specs.Own.{own_entries}
use Rattle.lr_depot.specs.Depot.{state}
use Rattle.lr_claims.specs.Sessions.{standing, IsStanding, SessionsAreOnesOwn}
use Rattle.lr_history.specs.Lists.{depot_entry}
use Rattle.lr_object.specs.declared.id.ObjectId.{ObjectId}
use Rattle.lr_object.specs.declared.id.ObjectId.TheVariants.{Device, Cache, Node, Depot}
use Rattle.lr_walk.specs.Calls.{DevicePlace}
use Rattle.lr_walk.specs.Jobs.{Context}
use Rattle.lr_walk.specs.Trails.{Lists}
use Rattle.lr_history.specs.Ready.{claim_by, plan_by, out_after}
use Rattle.lr_actors.specs.Jobs.{Job, calls, closes}
use Rattle.lr_actors.specs.Actor as actor
use Rattle.lr_actors.specs.Actor.{StandsFor}
use Rattle.lr_replies.specs.Objects.{Objects, own_lists}
use Rattle.lr_replies.specs.Replies.{AreMade, IsOut, HasLease}
use Rattle.lr_world.specs.World.{Seen, objects_of, part_of, HasNoneOut, HasNoSession, IsInPlace, IsWorld, MayBegin}
use Rattle.lr_world.proofs.Taken.{part_at}
use Rattle.lr_world.proofs.Outstanding.{none_sessions}

none_out : (lists : Lists) (o : ObjectId) → lists o ≡ [] → HasNoneOut lists o
none_out lists (Device n) e = ap (out_after (plan_by n) None) e
none_out lists (Cache h) e = ap (out_after (claim_by h) None) e
none_out lists (Node n) e = tt
none_out lists Depot e = tt

lease_of : (w : Objects) (context : Context) → ((device : ℕ) (place : DevicePlace) → slice_get context.devices device ≡ Some place → IsOut w place) → (job : Job) → HasLease w context job
lease_of w context out (calls device c) = λ place at. out device place at
lease_of w context out (closes device) = λ place at. out device place at
lease_of w context out job = tt

empty_map : {X Y : Type 0} (f : X → Y) (xs : List X) → map f xs ≡ [] → xs ≡ []
empty_map f [] e = refl
empty_map f (x ∷ xs) e = absurd (cc)

-- a caller of whom the depot's log has no entry has no session
unheard : (own : SessionsAreOnesOwn) (w : Objects) (context : Context) (hosts caller : ℕ) → AreMade w context hosts → own_lists w caller Depot ≡ [] → HasNoSession w caller
unheard own w context hosts caller made none n =
    subst (IsStanding (state w.start w.depot).desk.sessions n caller) (ap (standing n) (empty_map depot_entry (own_entries caller w.depot) none)) (own w.start w.depot made.start made.depot caller n)

pub begun : {O : Type 0} (own : SessionsAreOnesOwn) (context : Context) (hosts : ℕ) (w : Seen O) → MayBegin context hosts w → IsWorld context hosts w
begun own_sessions context hosts w may =
    record {
      cast = may.cast;
      made = may.made;
      actors = place;
      claims = λ calling caller none host. may.claims calling caller host;
    }
  where
    place : (i : ℕ) (a : actor.Seen) → slice_get w.actors i ≡ Some a → IsInPlace (objects_of w) a
    place i a got =
        let new = may.new i a got in
        let own : own_lists (objects_of w) a.number ≡ (λ (o : ObjectId). []) = λ t o. may.own i a got o t in
        let shared : a.context ≡ context = (may.cast.shared i (part_of a) (part_at w i a got)).0 in
        record {
          is = new.is;
          out = new.out;
          stands = subst (λ (lists : Lists). StandsFor a lists) (sym own) new.stands;
          leases = λ k job le at. subst (λ (x : Context). HasLease (objects_of w) x job) (sym shared) (lease_of (objects_of w) context may.leases job);
          gone = λ o l. none_out (own_lists (objects_of w) a.number) o (may.own i a got o);
          sessions = none_sessions a.now a (λ (o : ObjectId). []) (objects_of w) a.number (unheard own_sessions (objects_of w) context hosts a.number may.made (may.own i a got Depot)) new.stands;
        }

-- What a run of steps leaves.
use Rattle.std.proofs.Common.{◌≡◌, ℕ, List, [], ◌∷◌, ◌++◌, length, Bool, true, false, Option, Some, slice_get, refl, ap, sym, subst, ◌∙◌, append-nil, append_assoc, inl, inr}
use Rattle.std.specs.Prelude.{◌≢◌, ◌⊎◌, ⊤}
use Rattle.lr_object.specs.declared.entry.Entry.{Entry}
use Rattle.lr_object.specs.Kept.{Sized}
use Rattle.lr_origin.specs.Objects.{Objects as Stored}
use Rattle.lr_depot.specs.declared.call.DepotCall.TheVariants as depot
use Rattle.lr_device.specs.Enters as device
use Rattle.lr_cache.specs.Machine as cache
use Rattle.lr_nodes.specs.Machine as node
use Rattle.lr_depot.specs.Machine as depots
use Rattle.lr_walk.specs.Steps.{Reply}
use Rattle.lr_walk.specs.Calls.{DevicePlace}
use Rattle.lr_walk.specs.Jobs.{Context}
use Rattle.lr_history.proofs.Public.{all_append}
use Rattle.lr_actors.specs.declared.action.ActorCall.{ActorCall}
use Rattle.lr_actors.specs.declared.action.ActorCall.TheVariants as call
use Rattle.lr_actors.specs.declared.action.ActorReply.{ActorReply}
use Rattle.lr_actors.specs.declared.action.ActorReply.TheVariants as by
use Rattle.lr_actors.specs.Jobs.{closes}
use Rattle.lr_actors.specs.Actor as actor
use Rattle.lr_actors.specs.Actor.{Now, works, idles, reaps, over, MayClose}
use Rattle.lr_replies.specs.Objects.{Objects, Calls, Logs, LogsAt}
use Rattle.lr_replies.specs.Replies.{IsOut, IsNoClose}
use Rattle.lr_world.specs.Laws.{Laws}
use Rattle.lr_world.specs.World.{Seen, objects_of, Part, part_of, cast_of, IsNumber, HasJob, HasNoSession, IsWorld, StepsNow, StepsBy}
use Rattle.lr_world.specs.Runs.{Runs, none, more, Gained, HaveGained, Grew, Left}
use Rattle.lr_world.proofs.Taken.{part_at}
use Rattle.lr_world.proofs.Leases.{same_or_not, Closing, closing_of}
use Rattle.lr_world.proofs.Kept.{keeps_by, steps_cast}
use Rattle.lr_world.proofs.Alone.{others_stay}
use Rattle.lr_world.proofs.Outstanding.{others_sessions}

-- ---- logs that grow

gained_none : {N T : Type 0} (passes : ℕ → Type 0) (log : List (Entry N T)) → Gained passes log log
gained_none passes log = ([], sym (append-nil log), tt)

gained_on : {N T : Type 0} (passes : ℕ → Type 0) (a b c : List (Entry N T)) → Gained passes a b → Gained passes b c → Gained passes a c
gained_on {N} {T} passes a b c g h =
    (g.0 ++ h.0, h.1 ∙ ap (λ (l : List (Entry N T)). l ++ h.0) g.1 ∙ append_assoc a g.0 h.0, all_append (λ (e : Entry N T). passes e.caller) g.0 h.0 g.2 h.2)

gained_log : {N T : Type 0} (passes : ℕ → Type 0) (b : Bool) (enters : Entry N T → Type 0) (caller : ℕ) (old new : List (Entry N T)) → passes caller → Logs b enters caller old new → Gained passes old new
gained_log passes true enters caller old new p l = (l.0 ∷ [], l.1, (subst passes (sym l.2) p, tt))
gained_log {N} {T} passes false enters caller old new p l = ([], l ∙ sym (append-nil old), tt)

have_none : {N T : Type 0} (passes : ℕ → Type 0) (xs : List (Sized N T)) → HaveGained passes xs xs
have_none passes xs = record { many = refl; each = λ n s e. (s, e, refl, gained_none passes s.log) }

have_same : {N T : Type 0} (passes : ℕ → Type 0) (xs ys : List (Sized N T)) → ys ≡ xs → HaveGained passes xs ys
have_same passes xs ys e = subst (HaveGained passes xs) (sym e) (have_none passes xs)

have_on : {N T : Type 0} (passes : ℕ → Type 0) (xs ys zs : List (Sized N T)) → HaveGained passes xs ys → HaveGained passes ys zs → HaveGained passes xs zs
have_on passes xs ys zs g h =
    record {
      many = h.many ∙ g.many;
      each = λ n s e.
          let t = g.each n s e in
          let u = h.each n t.0 t.1 in
          (u.0, u.1, u.2 ∙ t.2, gained_on passes s.log t.0.log u.0.log t.3 u.3);
    }

have_log : {N T : Type 0} (passes : ℕ → Type 0) (xs ys : List (Sized N T)) (n : ℕ) (b : Bool) (enters : Sized N T → Entry N T → Type 0) (caller : ℕ) → passes caller → LogsAt xs n b enters caller ys → HaveGained passes xs ys
have_log {N} {T} passes xs ys n b enters caller p l =
    let was : Sized N T = l.0 in
    record { many = l.4.many; each = λ i s e. by i s e (same_or_not i n) }
  where
    by : (i : ℕ) (s : Sized N T) → slice_get xs i ≡ Some s → (i ≡ n) ⊎ (i ≢ n) → (t : Sized N T) × (slice_get ys i ≡ Some t) × (t.capacity ≡ s.capacity) × Gained passes s.log t.log
    by i s e (inr ne) = (s, l.4.others i ne ∙ e, refl, gained_none passes s.log)
    by i s e (inl same) =
        let there : Some l.0 ≡ Some s = sym l.2 ∙ ap (slice_get xs) (sym same) ∙ e in
        let is : l.0 ≡ s = cc in (
          record { capacity = l.0.capacity; log = l.1 },
          ap (slice_get ys) same ∙ l.4.here,
          ap (λ (x : Sized N T). x.capacity) is,
          subst (λ (x : Sized N T). Gained passes x.log l.1) is (gained_log passes b (enters l.0) caller l.0.log l.1 p l.3),
        )

grew_call : (cast : List Part) (n : ℕ) (c : ActorCall) (reply : ActorReply) (old new : Objects) → IsNumber cast n → Calls n c reply old new → Grew cast old new
grew_call cast n (call.Device h asked) (by.Device r) old new p made =
    record {
      devices = have_log (IsNumber cast) old.devices new.devices h (device.is_logged r) (λ d e. device.Enters d.capacity d.log n asked r e) n p made.logs;
      caches = have_same (IsNumber cast) old.caches new.caches made.others.0;
      nodes = have_same (IsNumber cast) old.nodes new.nodes made.others.1;
      start = made.start;
      depot = subst (Gained (IsNumber cast) old.depot) (sym made.others.2) (gained_none (IsNumber cast) old.depot);
    }
grew_call cast n (call.Cache h asked) (by.Cache r) old new p made =
    record {
      devices = have_same (IsNumber cast) old.devices new.devices made.others.0;
      caches = have_log (IsNumber cast) old.caches new.caches h (cache.is_logged r) (λ c e. cache.Enters asked r e) n p made.logs;
      nodes = have_same (IsNumber cast) old.nodes new.nodes made.others.1;
      start = made.start;
      depot = subst (Gained (IsNumber cast) old.depot) (sym made.others.2) (gained_none (IsNumber cast) old.depot);
    }
grew_call cast n (call.Node h asked) (by.Node r) old new p made =
    record {
      devices = have_same (IsNumber cast) old.devices new.devices made.others.0;
      caches = have_same (IsNumber cast) old.caches new.caches made.others.1;
      nodes = have_log (IsNumber cast) old.nodes new.nodes h (node.is_logged r) (λ s e. node.Enters asked r e) n p made.logs;
      start = made.start;
      depot = subst (Gained (IsNumber cast) old.depot) (sym made.others.2) (gained_none (IsNumber cast) old.depot);
    }
grew_call cast n (call.Depot asked) (by.Depot r) old new p made =
    record {
      devices = have_same (IsNumber cast) old.devices new.devices made.others.0;
      caches = have_same (IsNumber cast) old.caches new.caches made.others.1;
      nodes = have_same (IsNumber cast) old.nodes new.nodes made.others.2;
      start = made.start;
      depot = gained_log (IsNumber cast) (depots.is_logged r) (λ e. depots.Enters asked r e) n old.depot new.depot p made.logs;
    }
grew_call cast n c reply old new p made = absurd made.replies

grew_none : (cast : List Part) (w : Objects) → Grew cast w w
grew_none cast w = record { devices = have_none (IsNumber cast) w.devices; caches = have_none (IsNumber cast) w.caches; nodes = have_none (IsNumber cast) w.nodes; start = refl; depot = gained_none (IsNumber cast) w.depot }

grew_on : (cast : List Part) (a b c : Objects) → Grew cast a b → Grew cast b c → Grew cast a c
grew_on cast a b c g h =
    record {
      devices = have_on (IsNumber cast) a.devices b.devices c.devices g.devices h.devices;
      caches = have_on (IsNumber cast) a.caches b.caches c.caches g.caches h.caches;
      nodes = have_on (IsNumber cast) a.nodes b.nodes c.nodes g.nodes h.nodes;
      start = h.start ∙ g.start;
      depot = gained_on (IsNumber cast) a.depot b.depot c.depot g.depot h.depot;
    }

-- ---- one step

grew_step : {O : Type 0} (objects : O → Option Stored) (faults : O → ℕ) (allows : Reply → Type 0) (old new : Seen O) (i : ℕ) (a : actor.Seen) (now : Now) → slice_get old.actors i ≡ Some a → StepsNow objects faults allows now old i a new → Grew (cast_of old) (objects_of old) (objects_of new)
grew_step objects faults allows old new i a over got s = subst (λ w. Grew (cast_of old) (objects_of old) (objects_of w)) (sym s) (grew_none (cast_of old) (objects_of old))
grew_step objects faults allows old new i a idles got s = subst (λ w. Grew (cast_of old) (objects_of old) (objects_of w)) (sym s.kept) (grew_none (cast_of old) (objects_of old))
grew_step objects faults allows old new i a (works r) got s = grew_call (cast_of old) a.number s.0 s.1 (objects_of old) (objects_of new) (i, part_of a, part_at old i a got, refl) s.2.called
grew_step objects faults allows old new i a (reaps made) got s = grew_call (cast_of old) a.number s.0 s.1 (objects_of old) (objects_of new) (i, part_of a, part_at old i a got, refl) s.2.called

-- without close jobs no call is a close
no_close : (cast : List Part) (i : ℕ) (a : actor.Seen) (lease : ℕ) (c : ActorCall) → slice_get cast i ≡ Some (part_of a) → ((j k device : ℕ) → ¬ (HasJob cast j k (closes device))) → MayClose a c → IsNoClose lease c
no_close cast i a lease (call.Depot (depot.Close closed)) got unclosed may =
    let q : Closing a closed = closing_of a closed may in
    λ e. unclosed i (length a.account.results) q.device (part_of a, got, q.job)
no_close cast i a lease c got unclosed may = tt

leases_step : {O : Type 0} (laws : Laws) (objects : O → Option Stored) (faults : O → ℕ) (allows : Reply → Type 0) (old new : Seen O) (i : ℕ) (a : actor.Seen) (now : Now) → slice_get old.actors i ≡ Some a → StepsNow objects faults allows now old i a new
    → ((j k device : ℕ) → ¬ (HasJob (cast_of old) j k (closes device))) → (place : DevicePlace) → IsOut (objects_of old) place → IsOut (objects_of new) place
leases_step laws objects faults allows old new i a over got s unclosed place out = subst (λ w. IsOut (objects_of w) place) (sym s) out
leases_step laws objects faults allows old new i a idles got s unclosed place out = subst (λ w. IsOut (objects_of w) place) (sym s.kept) out
leases_step laws objects faults allows old new i a (works r) got s unclosed place out =
    laws.leases (objects_of old) (objects_of new) a.number place s.0 s.1 s.2.called (no_close (cast_of old) i a place.lease s.0 (part_at old i a got) unclosed s.2.asks.closes) out
leases_step laws objects faults allows old new i a (reaps made) got s unclosed place out =
    laws.leases (objects_of old) (objects_of new) a.number place s.0 s.1 s.2.called (no_close (cast_of old) i a place.lease s.0 (part_at old i a got) unclosed s.2.asks.closes) out

sessions_step : {O : Type 0} (objects : O → Option Stored) (faults : O → ℕ) (allows : Reply → Type 0) (old new : Seen O) (i : ℕ) (a : actor.Seen) (now : Now) → StepsNow objects faults allows now old i a new
    → (other : ℕ) → other ≢ a.number → HasNoSession (objects_of old) other → HasNoSession (objects_of new) other
sessions_step objects faults allows old new i a over s other ne free = subst (λ w. HasNoSession (objects_of w) other) (sym s) free
sessions_step objects faults allows old new i a idles s other ne free = subst (λ w. HasNoSession (objects_of w) other) (sym s.kept) free
sessions_step objects faults allows old new i a (works r) s other ne free = others_sessions over a.number other s.0 s.1 (objects_of old) (objects_of new) ne s.2.called free
sessions_step objects faults allows old new i a (reaps made) s other ne free = others_sessions over a.number other s.0 s.1 (objects_of old) (objects_of new) ne s.2.called free

left_none : {O : Type 0} (w : Seen O) → Left w w
left_none w = record { cast = refl; grew = grew_none (cast_of w) (objects_of w); others = λ caller n o. refl; sessions = λ caller n free. free; leases = λ n place out. out }

left_on : {O : Type 0} (a b c : Seen O) → Left a b → Left b c → Left a c
left_on a b c g h =
    record {
      cast = h.cast ∙ g.cast;
      grew = grew_on (cast_of a) (objects_of a) (objects_of b) (objects_of c) g.grew (subst (λ (cast : List Part). Grew cast (objects_of b) (objects_of c)) g.cast h.grew);
      others = λ caller n o. h.others caller (subst (λ (cast : List Part). ¬ (IsNumber cast caller)) (sym g.cast) n) o ∙ g.others caller n o;
      sessions = λ caller n free. h.sessions caller (subst (λ (cast : List Part). ¬ (IsNumber cast caller)) (sym g.cast) n) (g.sessions caller n free);
      leases = λ n place out. h.leases (subst (λ (cast : List Part). (i k device : ℕ) → ¬ (HasJob cast i k (closes device))) (sym g.cast) n) place (g.leases n place out);
    }

left_step : {O : Type 0} (laws : Laws) (objects : O → Option Stored) (faults : O → ℕ) (allows : Reply → Type 0) (old new : Seen O) (number : ℕ) → StepsBy objects faults allows old number new → Left old new
left_step laws objects faults allows old new number s =
    let i : ℕ = s.0 in
    let a : actor.Seen = s.1 in
    record {
      cast = steps_cast objects faults allows old new i a a.now s.2 s.4;
      grew = grew_step objects faults allows old new i a a.now s.2 s.4;
      others = λ caller n o. others_stay laws objects faults allows old new i a a.now s.4 caller (λ e. n (i, part_of a, part_at old i a s.2, sym e)) o;
      sessions = λ caller n free. sessions_step objects faults allows old new i a a.now s.4 caller (λ e. n (i, part_of a, part_at old i a s.2, sym e)) free;
      leases = λ n place out. leases_step laws objects faults allows old new i a a.now s.2 s.4 n place out;
    }

pub runs_leave : {O : Type 0} (laws : Laws) (objects : O → Option Stored) (faults : O → ℕ) (old new : Seen O) (steps : List ℕ) → Runs objects faults old steps new → Left old new
runs_leave laws objects faults old new steps none = left_none old
runs_leave laws objects faults old new steps (more {mid = mid} {steps = earlier} r number s) =
    left_on old mid new (runs_leave laws objects faults old mid earlier r) (left_step laws objects faults (λ reply. ⊤) mid new number s)

pub runs_keep : {O : Type 0} (laws : Laws) (objects : O → Option Stored) (faults : O → ℕ) (context : Context) (hosts : ℕ) (old new : Seen O) (steps : List ℕ) → IsWorld context hosts old → Runs objects faults old steps new → IsWorld context hosts new
runs_keep laws objects faults context hosts old new steps is none = is
runs_keep laws objects faults context hosts old new steps is (more {mid = mid} {steps = earlier} r number s) =
    keeps_by laws objects faults (λ reply. ⊤) context hosts mid new s.0 s.1 s.1.now refl (runs_keep laws objects faults context hosts old mid earlier is r) s.2 s.4

-- What each job's walk says, finished, cut or not begun.
use Rattle.std.proofs.Common.{◌≡◌, inl, inr, ℕ, List, [], ◌∷◌, ◌++◌, Some, slice_get, cond, nat_eq, Bool, true, false, refl, sym, ap, subst, ◌∙◌, append-nil, eqb-true}
use Rattle.std.specs.Prelude.{◌⊎◌, ◌&&◌}
use Rattle.std.specs.List.{AllByRecursion}
use Rattle.std.proofs.lemmas.List.Concat.{flat_map-append}
use Rattle.lr_device.specs.declared.call.DeviceCall.{DeviceCall}
use Rattle.lr_device.specs.declared.call.DeviceReply.{DeviceReply}
use Rattle.lr_device.specs.declared.call.DeviceReply.TheVariants as reply
use Rattle.lr_walk.specs.declared.trail.Answer.{Answer}
use Rattle.lr_walk.specs.declared.trail.Answer.TheVariants.{Done, Range, Cut, Unbegun}
use Rattle.lr_walk.specs.Steps.{Step}
use Rattle.lr_walk.specs.Device.{Piece}
use Rattle.lr_walk.specs.Calls.{DevicePlace, answer_of}
use Rattle.lr_walk.specs.Jobs.{Context}
use Rattle.lr_history.specs.Jobs.{JobSeen, calls, another, IsApart, IsAnother, WalksSeen, OrCut}
use Rattle.lr_history.specs.Answered.{Outcome, outcome, is_answered, answered_job, committed_by, committed_in, failed_by, failed_in, IsCallAnswer}
use Rattle.lr_history.specs.Loaded.{IsLoaded, IsLoadedAt}
use Rattle.lr_history.proofs.Facts.{IsQuiet, quiet_apart, Plain, used_of, used_in, all_front, all_weaker, plain_committed, plain_used}
use Rattle.lr_history.proofs.Calls.{commit_step, Shape, call_shape}

-- What the steps of a job say, by its answer.
pub record Told (context : Context) (job : JobSeen) (steps : List Step) (answer : Answer) : Type 0 where
  pub once : (device : ℕ) → committed_in device steps ≡ answered_job device job answer
  pub used : (device : ℕ) → AllByRecursion (IsLoadedAt context device) (used_in device steps)
  pub cause : (device : ℕ) (call : DeviceCall) → job ≡ calls device call → IsCallAnswer answer (failed_in steps)

-- ---- steps that commit nothing

none_answered : (device : ℕ) (job : JobSeen) (answer : Answer) → is_answered answer ≡ false → answered_job device job answer ≡ []
none_answered device another answer n = refl
none_answered device (calls d call) answer n = rw n (by (nat_eq d device))
  where
    by : (b : Bool) → cond (b && false) (outcome call answer ∷ []) [] ≡ []
    by true = refl
    by false = refl

pub plain_told : (context : Context) (job : JobSeen) (steps : List Step) (answer : Answer) → Plain steps → is_answered answer ≡ false
    → ((device : ℕ) (call : DeviceCall) → job ≡ calls device call → IsCallAnswer answer (failed_in steps)) → Told context job steps answer
plain_told context job steps answer p n c = record {
  once = λ device. plain_committed device steps p ∙ sym (none_answered device job answer n);
  used = λ device. subst (λ (l : List Piece). AllByRecursion (IsLoadedAt context device) l) (sym (plain_used device steps p)) tt;
  cause = c;
}

-- ---- the shape of a device call

reply_answered : (r : DeviceReply) → is_answered (answer_of r) ≡ true
reply_answered (reply.Got bytes) = refl
reply_answered reply.Done = refl
reply_answered reply.Range = refl

reply_cause : (r : DeviceReply) (failed : List Answer) → failed ≡ [] → IsCallAnswer (answer_of r) failed
reply_cause (reply.Got bytes) failed e = e
reply_cause reply.Done failed e = e
reply_cause reply.Range failed e = e

module _ (context : Context) (place : DevicePlace) (device : ℕ) (call : DeviceCall) (at : slice_get context.devices device ≡ Some place) where
  last_once : (e : ℕ) (front : List Step) (used : List Piece) (r : DeviceReply) → Plain front
      → committed_in e (front ++ commit_step device call used r ∷ []) ≡ answered_job e (calls device call) (answer_of r)
  last_once e front used r p =
      flat_map-append (λ (s : Step). committed_by e s.call s.reply) front (commit_step device call used r ∷ [])
      ∙ ap (λ (l : List Outcome). l ++ (cond (nat_eq device e) (outcome call (answer_of r) ∷ []) [] ++ [])) (plain_committed e front p)
      ∙ append-nil (cond (nat_eq device e) (outcome call (answer_of r) ∷ []) [])
      ∙ rw (reply_answered r) (by (nat_eq device e))
    where
      by : (b : Bool) → cond b (outcome call (answer_of r) ∷ []) [] ≡ cond (b && true) (outcome call (answer_of r) ∷ []) []
      by true = refl
      by false = refl

  last_used : (e : ℕ) (front : List Step) (used : List Piece) (r : DeviceReply) → Plain front → AllByRecursion (IsLoaded place) used
      → AllByRecursion (IsLoadedAt context e) (used_in e (front ++ commit_step device call used r ∷ []))
  last_used e front used r p h =
      let is : used_in e (front ++ commit_step device call used r ∷ []) ≡ cond (nat_eq device e) used [] =
      flat_map-append (λ (s : Step). used_of e s.call s.reply) front (commit_step device call used r ∷ [])
      ∙ ap (λ (l : List Piece). l ++ (cond (nat_eq device e) used [] ++ [])) (plain_used e front p)
      ∙ append-nil (cond (nat_eq device e) used []) in
      subst (λ (l : List Piece). AllByRecursion (IsLoadedAt context e) l) (sym is) (by (nat_eq device e) refl)
    where
      by : (b : Bool) → nat_eq device e ≡ b → AllByRecursion (IsLoadedAt context e) (cond b used [])
      by true t =
          let same : device ≡ e = eqb-true device e t in
          all_weaker (IsLoaded place) (IsLoadedAt context e) (λ p l. (place, subst (λ (i : ℕ). slice_get context.devices i ≡ Some place) same at, l)) used h
      by false t = tt

  pub shape_told : (steps : List Step) (answer : Answer) → Shape place device call [] steps answer → Told context (calls device call) steps answer
  shape_told steps answer h = by h.last
    where
      by : ((steps ≡ h.front) × (is_answered answer ≡ false) × IsCallAnswer answer (failed_in h.front))
          ⊎ ((used : List Piece) × (r : DeviceReply) × (steps ≡ h.front ++ commit_step device call used r ∷ []) × (answer ≡ answer_of r) × AllByRecursion (IsLoaded place) used × (failed_in h.front ≡ []))
          → Told context (calls device call) steps answer
      by (inl l) =
          subst (λ (s : List Step). Told context (calls device call) s answer) (sym l.0)
          (plain_told context (calls device call) h.front answer h.plain l.1 (λ d c e. l.2))
      by (inr l) =
          let failed : failed_in (h.front ++ commit_step device call l.0 l.1 ∷ []) ≡ [] =
          flat_map-append (λ (s : Step). failed_by s.call s.reply) h.front (commit_step device call l.0 l.1 ∷ [])
          ∙ ap (λ (a : List Answer). a ++ []) l.5 in
          rw (l.2, l.3) (record {
            once = λ e. last_once e h.front l.0 l.1 h.plain;
            used = λ e. last_used e h.front l.0 l.1 h.plain l.4;
            cause = λ d c e. reply_cause l.1 _ failed;
          })

-- ---- a proper part of a walk commits nothing

plain_part : (front p : List Step) (c n : Step) (later : List Step) → front ++ c ∷ [] ≡ p ++ n ∷ later → Plain front → Plain p
plain_part front [] c n later e h = tt
plain_part [] (y ∷ []) c n later e h = absurd (cc)
plain_part [] (y ∷ z ∷ p) c n later e h = absurd (cc)
plain_part (x ∷ front) (y ∷ p) c n later e h =
    let same : x ≡ y = cc in
    let rest : front ++ c ∷ [] ≡ p ++ n ∷ later = cc in
    (subst (λ (s : Step). IsQuiet s.call s.reply) same h.0, plain_part front p c n later rest h.1)

part_plain : (place : DevicePlace) (device : ℕ) (call : DeviceCall) (p : List Step) (n : Step) (later : List Step) (answer : Answer)
    → Shape place device call [] (p ++ n ∷ later) answer → Plain p
part_plain place device call p n later answer h = by h.last
  where
    by : ((p ++ n ∷ later ≡ h.front) × (is_answered answer ≡ false) × IsCallAnswer answer (failed_in h.front))
        ⊎ ((used : List Piece) × (r : DeviceReply) × (p ++ n ∷ later ≡ h.front ++ commit_step device call used r ∷ []) × (answer ≡ answer_of r) × AllByRecursion (IsLoaded place) used × (failed_in h.front ≡ []))
        → Plain p
    by (inl l) = all_front (λ (s : Step). IsQuiet s.call s.reply) p (n ∷ later) (subst Plain (sym l.0) h.plain)
    by (inr l) = plain_part h.front p (commit_step device call l.0 l.1) n later (sym l.2) h.plain

-- ---- jobs that call no device

another_plain : (steps : List Step) → AllByRecursion (λ (s : Step). IsApart s.call) steps → Plain steps
another_plain steps h = all_weaker (λ (s : Step). IsApart s.call) (λ (s : Step). IsQuiet s.call s.reply) (λ s. quiet_apart s.call s.reply) steps h

another_answer : (answer : Answer) → IsAnother answer → is_answered answer ≡ false
another_answer Done h = absurd h
another_answer Range h = absurd h
another_answer answer h = refl

-- ---- each job

finished : (context : Context) (job : JobSeen) (steps : List Step) (answer : Answer) → WalksSeen context job steps answer → Told context job steps answer
finished context (calls device call) steps answer w =
    shape_told context w.0 device call w.1 steps answer (call_shape w.0 device call context.nodes steps answer w.2)
finished context another steps answer w =
    plain_told context another steps answer (another_plain steps w.0) (another_answer answer w.1) (λ device call e. absurd (cc))

part : (context : Context) (job : JobSeen) (p : List Step) (n : Step) (later : List Step) (answer : Answer) → WalksSeen context job (p ++ n ∷ later) answer → Plain p
part context (calls device call) p n later answer w =
    part_plain w.0 device call p n later answer (call_shape w.0 device call context.nodes (p ++ n ∷ later) answer w.2)
part context another p n later answer w =
    all_front (λ (s : Step). IsQuiet s.call s.reply) p (n ∷ later) (another_plain (p ++ n ∷ later) w.0)

pub walk_told : (context : Context) (job : JobSeen) (steps : List Step) (answer : Answer) → OrCut (WalksSeen context) job steps answer → Told context job steps answer
walk_told context job steps Cut w = plain_told context job steps Cut (part context job steps w.2 w.3 w.4 w.6) refl (λ device call e. tt)
walk_told context job steps Unbegun w = rw w (plain_told context job [] Unbegun tt refl (λ device call e. refl))
walk_told context job steps answer w = finished context job steps answer w

-- What the walk of a device call says: it commits its call at its last step, or nothing; the pieces that the commit used
-- were loaded; what its fetch failed with is its answer.
use Rattle.std.proofs.Common.{◌≡◌, inl, inr, ℕ, List, [], ◌∷◌, ◌++◌, Some, false, refl, sym, ap, subst, ◌∙◌, append_assoc, append-nil}
use Rattle.std.specs.Prelude.{◌⊎◌}
use Rattle.std.specs.List.{AllByRecursion, Contains}
use Rattle.std.proofs.lemmas.List.Concat.{flat_map-append}
use Rattle.std.proofs.lemmas.List.Elements.{All-from_recursion, All-contains}
use Rattle.sha2.specs.Sha256.{sha256}
use Rattle.lr_manifest.specs.declared.name.Name.{Name}
use Rattle.lr_device.specs.declared.call.DeviceCall.{DeviceCall}
use Rattle.lr_device.specs.declared.call.DeviceReply.{DeviceReply}
use Rattle.lr_walk.specs.declared.trail.Answer.{Answer}
use Rattle.lr_walk.specs.declared.trail.Answer.TheVariants.{Fault, Spoiled, Memory}
use Rattle.lr_walk.specs.Steps.{on_device, Reply, by_device, Step, step, Answers}
use Rattle.lr_walk.specs.Device.{Piece}
use Rattle.lr_walk.specs.Device as devices
use Rattle.lr_walk.specs.Depot as depots
use Rattle.lr_walk.specs.Load.{Ending, with_chunk, with_reply, with_memory}
use Rattle.lr_walk.specs.Calls.{DevicePlace, answer_of, after_drop, Drops, Commits, load_place, after_load, LoadsAll, after_plan, CallsDevice}
use Rattle.lr_history.specs.Answered.{is_answered, failed_by, failed_in, IsCallAnswer}
use Rattle.lr_history.specs.Loaded.{IsLoaded}
use Rattle.lr_history.proofs.Facts.{asked, IsQuiet, quiet, Plain, all_append}
use Rattle.lr_history.proofs.Loads.{Facts, load_facts}

-- the step that commits the call, with these pieces
abbrev pub commit_step : ℕ → DeviceCall → List Piece → DeviceReply → Step
commit_step device call used reply = step (on_device device (devices.commits (Some call) used)) (by_device (devices.committed reply))

-- The rest of a device call, after these failures: steps that commit nothing, and then perhaps the commit.
pub record Shape (place : DevicePlace) (device : ℕ) (call : DeviceCall) (before : List Answer) (steps : List Step) (answer : Answer) : Type 0 where
  pub front : List Step
  pub plain : Plain front
  pub last : ((steps ≡ front) × (is_answered answer ≡ false) × IsCallAnswer answer (before ++ failed_in front))
      ⊎ ((used : List Piece) × (reply : DeviceReply) × (steps ≡ front ++ commit_step device call used reply ∷ []) × (answer ≡ answer_of reply) × AllByRecursion (IsLoaded place) used × (before ++ failed_in front ≡ []))

module _ (place : DevicePlace) (device : ℕ) (call : DeviceCall) where
  drops_shape : (end : Answer) (before : List Answer) (steps : List Step) (answer : Answer)
      → is_answered end ≡ false → IsCallAnswer end before → Drops device end steps answer → Shape place device call before steps answer
  drops_shape end before steps answer n ok g =
      let w = asked (on_device device devices.drops) (after_drop end) steps answer g in
      rw w.2 (by w.0 w.1 w.3 w.4)
    where
      by : (reply : Reply) (tail : List Step) → Answers (on_device device devices.drops) reply → after_drop end reply tail answer
          → Shape place device call before (step (on_device device devices.drops) reply ∷ tail) answer
      by (by_device devices.dropped) tail a r =
          rw (r.0, r.1) (record {
            front = step (on_device device devices.drops) (by_device devices.dropped) ∷ [];
            plain = (quiet (on_device device devices.drops) (by_device devices.dropped) tt, tt);
            last = inl (refl, n, subst (λ (l : List Answer). IsCallAnswer end l) (sym (append-nil before)) ok);
          })
      by reply tail a r = absurd r

  -- steps that commit nothing, before the rest
  before_rest : (first tail steps : List Step) (before : List Answer) (answer : Answer) → steps ≡ first ++ tail → Plain first → failed_in first ≡ before
      → Shape place device call before tail answer → Shape place device call [] steps answer
  before_rest first tail steps before answer e p f h =
      let failed : failed_in (first ++ h.front) ≡ before ++ failed_in h.front =
      flat_map-append (λ (s : Step). failed_by s.call s.reply) first h.front ∙ ap (λ (l : List Answer). l ++ failed_in h.front) f in
      record {
        front = first ++ h.front;
        plain = all_append (λ (s : Step). IsQuiet s.call s.reply) first h.front p h.plain;
        last = by failed h.last;
      }
    where
      by : failed_in (first ++ h.front) ≡ before ++ failed_in h.front
          → ((tail ≡ h.front) × (is_answered answer ≡ false) × IsCallAnswer answer (before ++ failed_in h.front))
          ⊎ ((used : List Piece) × (reply : DeviceReply) × (tail ≡ h.front ++ commit_step device call used reply ∷ []) × (answer ≡ answer_of reply) × AllByRecursion (IsLoaded place) used × (before ++ failed_in h.front ≡ []))
          → ((steps ≡ first ++ h.front) × (is_answered answer ≡ false) × IsCallAnswer answer (failed_in (first ++ h.front)))
          ⊎ ((used : List Piece) × (reply : DeviceReply) × (steps ≡ first ++ h.front ++ commit_step device call used reply ∷ []) × (answer ≡ answer_of reply) × AllByRecursion (IsLoaded place) used × (failed_in (first ++ h.front) ≡ []))
      by failed (inl l) =
          inl (e ∙ ap (λ (t : List Step). first ++ t) l.0, l.1, subst (λ (a : List Answer). IsCallAnswer answer a) (sym failed) l.2)
      by failed (inr r) =
          inr (r.0, r.1, e ∙ ap (λ (t : List Step). first ++ t) r.2 ∙ sym (append_assoc first h.front (commit_step device call r.0 r.1 ∷ [])), r.3, r.4, failed ∙ r.5)

  all_used : (pieces used : List Piece) → AllByRecursion (IsLoaded place) pieces → AllByRecursion (Contains pieces) used → AllByRecursion (IsLoaded place) used
  all_used pieces [] h k = tt
  all_used pieces (p ∷ used) h k =
      (All-contains (IsLoaded place) pieces p (All-from_recursion (IsLoaded place) pieces h) k.0, all_used pieces used h k.1)

  commits_shape : (pieces : List Piece) (steps : List Step) (answer : Answer) → AllByRecursion (IsLoaded place) pieces → Commits device call pieces steps answer
      → Shape place device call [] steps answer
  commits_shape pieces steps answer h w =
      record { front = []; plain = tt; last = inr (w.0, w.1, w.2, w.4, all_used pieces w.0 h w.3, refl) }

  -- what follows a load
  after_load_shape : (name : Name) (i nodes : ℕ) (more : List ℕ → List Step → Answer → Type 0) (end : Ending) (first last steps : List Step) (answer : Answer)
      → steps ≡ first ++ last → Facts (load_place nodes place i name) [] first end
      → ((chunk : List ℕ) → sha256 chunk ≡ name.bytes → more chunk last answer → Shape place device call [] last answer)
      → after_load device more end last answer → Shape place device call [] steps answer
  after_load_shape name i nodes more (with_chunk chunk) first last steps answer e f go w =
      before_rest first last steps [] answer e f.plain f.failed (go chunk f.its_name w)
  after_load_shape name i nodes more (with_reply (depots.fault key)) first last steps answer e f go w =
      before_rest first last steps (Fault key ∷ []) answer e f.plain f.failed (drops_shape (Fault key) (Fault key ∷ []) last answer refl refl w)
  after_load_shape name i nodes more (with_reply (depots.spoiled key)) first last steps answer e f go w =
      before_rest first last steps (Spoiled key ∷ []) answer e f.plain f.failed (drops_shape (Spoiled key) (Spoiled key ∷ []) last answer refl refl w)
  after_load_shape name i nodes more with_memory first last steps answer e f go w =
      before_rest first last steps [] answer e f.plain f.failed (drops_shape Memory [] last answer refl refl w)
  after_load_shape name i nodes more end first last steps answer e f go w = absurd w

  loads_shape : (nodes : ℕ) (needs : List ℕ) (pieces : List Piece) (steps : List Step) (answer : Answer) → AllByRecursion (IsLoaded place) pieces
      → LoadsAll nodes device place call needs pieces steps answer → Shape place device call [] steps answer
  loads_shape nodes [] pieces steps answer h (inl w) = commits_shape pieces steps answer h w
  loads_shape nodes [] pieces steps answer h (inr w) = drops_shape Memory [] steps answer refl refl w
  loads_shape nodes (i ∷ needs) pieces steps answer h (inr w) = drops_shape Memory [] steps answer refl refl w
  loads_shape nodes (i ∷ needs) pieces steps answer h (inl w) =
      let name : Name = w.0 in
      let key : List ℕ = w.1 in
      after_load_shape name i nodes
      (λ (chunk : List ℕ). LoadsAll nodes device place call needs (pieces ++ record { index = i; chunk = chunk; key = key } ∷ []))
      w.4.2 w.4.0 w.4.1 steps answer w.4.3 (load_facts (load_place nodes place i name) w.4.0 w.4.2 w.4.4)
      (λ chunk named go. loads_shape nodes needs (pieces ++ record { index = i; chunk = chunk; key = key } ∷ []) w.4.1 answer
      (all_append (IsLoaded place) pieces (record { index = i; chunk = chunk; key = key } ∷ []) h ((name, w.2, w.3, named), tt)) go)
      w.4.5

  pub call_shape : (nodes : ℕ) (steps : List Step) (answer : Answer) → CallsDevice nodes device place call steps answer → Shape place device call [] steps answer
  call_shape nodes steps answer (inr w) = rw (w.0, w.1) (record { front = []; plain = tt; last = inl (refl, refl, refl) })
  call_shape nodes steps answer (inl g) =
      let w = asked (on_device device (devices.plans call)) (after_plan nodes device place call) steps answer g in
      by w.0 w.1 w.2 w.3 w.4
    where
      by : (reply : Reply) (tail : List Step) → steps ≡ step (on_device device (devices.plans call)) reply ∷ tail → Answers (on_device device (devices.plans call)) reply
          → after_plan nodes device place call reply tail answer → Shape place device call [] steps answer
      by (by_device (devices.planned needs pages)) tail e a r =
          before_rest (step (on_device device (devices.plans call)) (by_device (devices.planned needs pages)) ∷ []) tail steps [] answer e
          (quiet (on_device device (devices.plans call)) (by_device (devices.planned needs pages)) tt, tt) refl (loads_shape nodes needs [] tail answer tt r)
      by (by_device devices.memory) tail e a r =
          before_rest (step (on_device device (devices.plans call)) (by_device devices.memory) ∷ []) tail steps [] answer e
          (quiet (on_device device (devices.plans call)) (by_device devices.memory) tt, tt) refl
          (rw (r.0, r.1) (record { front = []; plain = tt; last = inl (refl, refl, refl) }))
      by reply tail e a r = absurd r

-- where a play's end comes, and where it must come
use Rattle.std.proofs.Common.{◌≡◌, ◌≢◌, ◌^◌, ℕ, List, Option, Some, None, refl, sym, subst, ◌∙◌, inl, inr, arith}
use Rattle.std.specs.Prelude.{◌⊎◌}
use Rattle.lr_spec.specs.Rose.{Rose}
use Rattle.lr_spec.specs.Told.{Told}
use Rattle.lr_origin.specs.Objects.{Objects}
use Rattle.lr_origin.specs.declared.key.KeyKind.{KeyKind}
use Rattle.lr_opening.specs.declared.cause.StartCause.{StartCause}
use Rattle.lr_opening.specs.declared.cause.StartCause.TheVariants as cause
use Rattle.lr_opening.specs.Cause.{IsCause}
use Rattle.lr_opening.specs.Listing.{HasFewer, HasMany}
use Rattle.lr_opening.specs.Store.{IsForeignKey}
use Rattle.lr_opening.proofs.Bounded.{fewer_not_many}
use Rattle.lr_opening.proofs.Views.{sound_store_is_not_foreign}
use Rattle.lr_roots.specs.Names.{IsOneOf}
use Rattle.lr_depot.specs.declared.call.DepotReply.{DepotReply}
use Rattle.lr_depot.specs.declared.call.DepotTold.{DepotTold}
use Rattle.lr_depot.specs.declared.call.DepotTold.TheVariants as told
use Rattle.lr_depot.specs.Machine.{LogEntry}
use Rattle.lr_depot.specs.Store.{Covers}
use Rattle.lr_walk.specs.Depot.{Reply, no_image, no_root, taken, doubt, full, roots_end, fault, spoiled, seen_reply, seen_told}
use Rattle.lr_images.specs.Answered.{IsUnspoiled}
use Rattle.lr_script.proofs.Unique.{not_both}
use Rattle.lr_desk.specs.declared.outcome.Outcome.TheVariants.{OriginFault}
use Rattle.lr_desk.specs.Causes.{cause_of}
use Rattle.lr_desk.specs.Ends.{outcome_of, failure}
use Rattle.lr_desk.proofs.Answering.{rose_by}
use Rattle.lr_prepare.specs.declared.error.SetupError.{SetupError}
use Rattle.lr_prepare.specs.declared.error.SetupError.TheVariants as setup
use Rattle.lr_prepare.specs.Stopped.{Refuses, IsFault}
use Rattle.lr_prepare.specs.Told.{IsOfDepot, Makes}
use Rattle.lr_top.specs.declared.input.InputError.{InputError}
use Rattle.lr_top.specs.declared.input.InputError.TheVariants as input
use Rattle.lr_top.specs.declared.ends.PlayEnd.TheVariants.{By}
use Rattle.lr_top.specs.Ends.{status_of}
use Rattle.lr_top.specs.Input.{IfOutside}
use Rattle.lr_top.specs.Top.{IsOutsideAt, Met, unread_end, at_line, end_of, Comes, IsUnbegun, IsForeignEnd, IsManyEnd, IsUnspoiledEnd, IsComplete, Completes, IsExact}

-- an entry of the log has the reply that made the error
abbrev IsTold : List LogEntry → SetupError → Type 0
IsTold log e = IsOfDepot e → (entry : LogEntry) × IsOneOf log entry × Makes (seen_told entry.reply) e

refuses : (log : List LogEntry) (n : ℕ) (reply : DepotReply) → IsTold log (setup.Refused n reply) → Refuses (seen_reply reply)
refuses log n reply h = let t = h tt in subst Refuses (sym t.2.0) t.2.1

fault_outcome : (r : Reply) → IsFault r → outcome_of r ≡ OriginFault
fault_outcome (fault key) h = refl
fault_outcome r h = absurd h

module _ (m : Met) where
  -- ---- no script was read

  pub unread_comes : (e : InputError) → IfOutside e (λ n. IsOutsideAt m.source n) → (e ≡ input.Failed → Rose m.source_before m.source_after) → Comes m (unread_end e)
  unread_comes (input.Outside n) outside rose = outside
  unread_comes input.Failed outside rose = rose refl
  unread_comes input.OutOfMemory outside rose = tt

  unread_foreign : (os : Objects) (e : InputError) → IsForeignEnd os (unread_end e)
  unread_foreign os (input.Outside n) = tt
  unread_foreign os input.Failed = tt
  unread_foreign os input.OutOfMemory = tt

  unread_many : (e : InputError) → IsManyEnd (unread_end e)
  unread_many (input.Outside n) = tt
  unread_many input.Failed = tt
  unread_many input.OutOfMemory = tt

  unread_complete : (e : InputError) → IfOutside e (λ n. IsOutsideAt m.source n) → (e ≡ input.Failed → Rose m.source_before m.source_after) → Completes m (unread_end e)
  unread_complete (input.Outside n) outside rose still unread quiet xs t script spells os s sound few = absurd (not_both xs script n spells (outside xs t))
  unread_complete input.Failed outside rose still unread quiet xs t script spells os s sound few = absurd (unread (rose refl))
  unread_complete input.OutOfMemory outside rose still unread quiet xs t script spells os s sound few = tt

  unread_unspoiled : (e : InputError) → IsUnspoiledEnd (unread_end e)
  unread_unspoiled (input.Outside n) = tt
  unread_unspoiled input.Failed = tt
  unread_unspoiled input.OutOfMemory = tt

  pub unread_exact : (e : InputError) → IfOutside e (λ n. IsOutsideAt m.source n) → (e ≡ input.Failed → Rose m.source_before m.source_after) → IsExact m (unread_end e)
  unread_exact e outside rose = record {
    foreign = λ os t key foreign few. unread_foreign os e;
    many = λ os t many. unread_many e;
    complete = unread_complete e outside rose;
    unspoiled = λ os t chunks. unread_unspoiled e;
  }

  pub unread_unbegun : (told : Option Objects) (e : InputError) → IsUnbegun told (unread_end e)
  unread_unbegun told (input.Outside n) = tt
  unread_unbegun told input.Failed = tt
  unread_unbegun told input.OutOfMemory = tt

  -- ---- the depot didn't start

  pub cause_comes : (c : StartCause) → IsCause m.objects m.origin_before m.origin_after c → Comes m (By (cause_of c))
  cause_comes (cause.Fault None) h = h
  cause_comes (cause.Fault (Some k)) h = h.0
  cause_comes (cause.Spoiled k) h = tt
  cause_comes (cause.Foreign key) h = h
  cause_comes cause.TooMany h = h
  cause_comes cause.OutOfMemory h = tt

  cause_foreign : (c : StartCause) → IsCause m.objects m.origin_before m.origin_after c → Told m.objects (λ os. (key : List ℕ) → IsForeignKey os key → HasFewer os (2 ^ 32) → IsForeignEnd os (By (cause_of c)))
  cause_foreign (cause.Fault k) h os t key foreign few = tt
  cause_foreign (cause.Spoiled k) h os t key foreign few = absurd (h.1 os t)
  cause_foreign (cause.Foreign q) h os t key foreign few = (h os t).0
  cause_foreign cause.TooMany h os t key foreign few = absurd (fewer_not_many os (2 ^ 32) few (h os t))
  cause_foreign cause.OutOfMemory h os t key foreign few = tt

  cause_many : (c : StartCause) → IsCause m.objects m.origin_before m.origin_after c → Told m.objects (λ os. HasMany os (2 ^ 32) → IsManyEnd (By (cause_of c)))
  cause_many (cause.Fault k) h os t many = tt
  cause_many (cause.Spoiled k) h os t many = absurd (h.1 os t)
  cause_many (cause.Foreign q) h os t many = absurd (fewer_not_many os (2 ^ 32) (h os t).1 many)
  cause_many cause.TooMany h os t many = tt
  cause_many cause.OutOfMemory h os t many = tt

  cause_rose : (k : Option KeyKind) → IsCause m.objects m.origin_before m.origin_after (cause.Fault k) → Rose m.origin_before m.origin_after
  cause_rose None h = h
  cause_rose (Some k) h = h.0

  cause_complete : (c : StartCause) → IsCause m.objects m.origin_before m.origin_after c → Completes m (By (cause_of c))
  cause_complete (cause.Fault k) h still unread quiet xs s script spells os t sound few = absurd (still (cause_rose k h))
  cause_complete (cause.Spoiled k) h still unread quiet xs s script spells os t sound few = absurd (h.1 os t)
  cause_complete (cause.Foreign q) h still unread quiet xs s script spells os t sound few = absurd (sound_store_is_not_foreign os sound.0.0 sound.0.1 sound.0.2 q.items (h os t).0)
  cause_complete cause.TooMany h still unread quiet xs s script spells os t sound few = absurd (fewer_not_many os (2 ^ 32) few (h os t))
  cause_complete cause.OutOfMemory h still unread quiet xs s script spells os t sound few = tt

  cause_unspoiled : (c : StartCause) → IsCause m.objects m.origin_before m.origin_after c → Told m.objects (λ os. IsUnspoiledEnd (By (cause_of c)))
  cause_unspoiled (cause.Fault k) h os t = tt
  cause_unspoiled (cause.Spoiled k) h os t = absurd (h.1 os t)
  cause_unspoiled (cause.Foreign key) h os t = tt
  cause_unspoiled cause.TooMany h os t = tt
  cause_unspoiled cause.OutOfMemory h os t = tt

  pub cause_exact : (c : StartCause) → IsCause m.objects m.origin_before m.origin_after c → IsExact m (By (cause_of c))
  cause_exact c h = record { foreign = cause_foreign c h; many = cause_many c h; complete = cause_complete c h; unspoiled = λ os t chunks. cause_unspoiled c h os t }

  pub cause_unbegun : (c : StartCause) → IsCause m.objects m.origin_before m.origin_after c → IsUnbegun m.objects (By (cause_of c))
  cause_unbegun (cause.Fault k) h = tt
  cause_unbegun (cause.Spoiled k) h = h
  cause_unbegun (cause.Foreign key) h = tt
  cause_unbegun cause.TooMany h = tt
  cause_unbegun cause.OutOfMemory h = tt

  -- ---- the setup stopped

  refused_comes : (n : ℕ) (r : Reply) → Refuses r → Comes m (at_line n (failure (outcome_of r)))
  refused_comes n no_image h = tt
  refused_comes n no_root h = tt
  refused_comes n taken h = tt
  refused_comes n (doubt key) h = tt
  refused_comes n full h = tt
  refused_comes n roots_end h = tt
  refused_comes n r h = absurd h

  refused_complete : (n : ℕ) (r : Reply) → Refuses r → IsComplete (at_line n (failure (outcome_of r)))
  refused_complete n no_image h = tt
  refused_complete n no_root h = tt
  refused_complete n taken h = tt
  refused_complete n (doubt key) h = tt
  refused_complete n full h = tt
  refused_complete n roots_end h = tt
  refused_complete n r h = absurd h

  refused_unspoiled : (n : ℕ) (r : Reply) → Refuses r → IsUnspoiledEnd (at_line n (failure (outcome_of r)))
  refused_unspoiled n no_image h = tt
  refused_unspoiled n no_root h = tt
  refused_unspoiled n taken h = tt
  refused_unspoiled n (doubt key) h = tt
  refused_unspoiled n full h = tt
  refused_unspoiled n roots_end h = tt
  refused_unspoiled n r h = absurd h

  module _ (log : List LogEntry) (covers : Covers m.origin_before log m.origin_after) where
    fault_rose : IsTold log setup.Fault → Rose m.origin_before m.origin_after
    fault_rose h = let t = h tt in rose_by m.origin_before log m.origin_after covers (t.0, t.1, fault_outcome (seen_told t.0.reply) t.2)

    pub stopped_comes : (e : SetupError) → IsTold log e → Comes m (end_of e)
    stopped_comes (setup.Refused n reply) h = refused_comes n (seen_reply reply) (refuses log n reply h)
    stopped_comes (setup.Sealed n) h = tt
    stopped_comes setup.Fault h = fault_rose h
    stopped_comes (setup.Spoiled key) h = tt
    stopped_comes setup.OutOfMemory h = tt

    told_spoiled : (t : DepotTold) (key : KeyKind) → seen_told t ≡ spoiled key → t ≡ told.Spoiled key
    told_spoiled (told.Spoiled k) key is = cc
    told_spoiled t key is = absurd (cc)

    pub stopped_unspoiled : (e : SetupError) → IsTold log e → IsUnspoiled log → IsUnspoiledEnd (end_of e)
    stopped_unspoiled (setup.Refused n reply) h clean = refused_unspoiled n (seen_reply reply) (refuses log n reply h)
    stopped_unspoiled (setup.Sealed n) h clean = tt
    stopped_unspoiled setup.Fault h clean = tt
    stopped_unspoiled (setup.Spoiled key) h clean = let t = h tt in absurd (clean t.0 t.1 key (told_spoiled t.0.reply key t.2))
    stopped_unspoiled setup.OutOfMemory h clean = tt

    pub stopped_complete : (e : SetupError) → IsTold log e → ¬ (Rose m.origin_before m.origin_after) → IsUnspoiled log → IsComplete (end_of e)
    stopped_complete (setup.Refused n reply) h still clean = refused_complete n (seen_reply reply) (refuses log n reply h)
    stopped_complete (setup.Sealed n) h still clean = tt
    stopped_complete setup.Fault h still clean = absurd (still (fault_rose h))
    stopped_complete (setup.Spoiled key) h still clean = let t = h tt in absurd (clean t.0 t.1 key (told_spoiled t.0.reply key t.2))
    stopped_complete setup.OutOfMemory h still clean = tt

-- ---- statuses of plays without a run

refused_status : (n : ℕ) (r : Reply) → Refuses r → status_of (at_line n (failure (outcome_of r))) ≡ 8
refused_status n no_image h = refl
refused_status n no_root h = refl
refused_status n taken h = refl
refused_status n (doubt key) h = refl
refused_status n full h = refl
refused_status n roots_end h = refl
refused_status n r h = absurd h

other_status : (n k : ℕ) → n ≡ k → k ≢ 0 → k ≢ 5 → (n ≢ 0) × (n ≢ 5)
other_status n k e a b = ((λ z. a (sym e ∙ z)), (λ z. b (sym e ∙ z)))

pub stopped_status : (log : List LogEntry) (e : SetupError) → IsTold log e → (status_of (end_of e) ≢ 0) × (status_of (end_of e) ≢ 5)
stopped_status log (setup.Refused n reply) h = other_status (status_of (at_line n (failure (outcome_of (seen_reply reply))))) 8 (refused_status n (seen_reply reply) (refuses log n reply h)) (λ e. absurd (omega (arith, e))) (λ e. absurd (omega (arith, e)))
stopped_status log (setup.Sealed n) h = ((λ e. absurd (omega (arith, e))), (λ e. absurd (omega (arith, e))))
stopped_status log setup.Fault h = ((λ e. absurd (omega (arith, e))), (λ e. absurd (omega (arith, e))))
stopped_status log (setup.Spoiled key) h = ((λ e. absurd (omega (arith, e))), (λ e. absurd (omega (arith, e))))
stopped_status log setup.OutOfMemory h = ((λ e. absurd (omega (arith, e))), (λ e. absurd (omega (arith, e))))

pub unread_status : (e : InputError) → (status_of (unread_end e) ≢ 0) × (status_of (unread_end e) ≢ 5)
unread_status (input.Outside n) = ((λ e. absurd (omega (arith, e))), (λ e. absurd (omega (arith, e))))
unread_status input.Failed = ((λ e. absurd (omega (arith, e))), (λ e. absurd (omega (arith, e))))
unread_status input.OutOfMemory = ((λ e. absurd (omega (arith, e))), (λ e. absurd (omega (arith, e))))

-- where no script was read the status is 3, 4 or 7
pub unread_known : (e : InputError) → (status_of (unread_end e) ≡ 3) ⊎ ((status_of (unread_end e) ≡ 4) ⊎ (status_of (unread_end e) ≡ 7))
unread_known (input.Outside n) = inl refl
unread_known input.Failed = inr (inl refl)
unread_known input.OutOfMemory = inr (inr refl)

-- ---- statuses of plays whose script was read

-- neither the status of a line outside nor that of a source that failed
abbrev pub IsOther : ℕ → Type 0
IsOther n = (n ≢ 3) × (n ≢ 4)

pub is_other : (n k : ℕ) → n ≡ k → IsOther k → IsOther n
is_other n k e other = ((λ z. other.0 (sym e ∙ z)), (λ z. other.1 (sym e ∙ z)))

pub cause_other : (c : StartCause) → IsOther (status_of (By (cause_of c)))
cause_other (cause.Fault key) = ((λ e. absurd (omega (arith, e))), (λ e. absurd (omega (arith, e))))
cause_other (cause.Spoiled key) = ((λ e. absurd (omega (arith, e))), (λ e. absurd (omega (arith, e))))
cause_other (cause.Foreign key) = ((λ e. absurd (omega (arith, e))), (λ e. absurd (omega (arith, e))))
cause_other cause.TooMany = ((λ e. absurd (omega (arith, e))), (λ e. absurd (omega (arith, e))))
cause_other cause.OutOfMemory = ((λ e. absurd (omega (arith, e))), (λ e. absurd (omega (arith, e))))

pub stopped_other : (log : List LogEntry) (e : SetupError) → IsTold log e → IsOther (status_of (end_of e))
stopped_other log (setup.Refused n reply) h = is_other (status_of (at_line n (failure (outcome_of (seen_reply reply))))) 8 (refused_status n (seen_reply reply) (refuses log n reply h)) ((λ e. absurd (omega (arith, e))), (λ e. absurd (omega (arith, e))))
stopped_other log (setup.Sealed n) h = ((λ e. absurd (omega (arith, e))), (λ e. absurd (omega (arith, e))))
stopped_other log setup.Fault h = ((λ e. absurd (omega (arith, e))), (λ e. absurd (omega (arith, e))))
stopped_other log (setup.Spoiled key) h = ((λ e. absurd (omega (arith, e))), (λ e. absurd (omega (arith, e))))
stopped_other log setup.OutOfMemory h = ((λ e. absurd (omega (arith, e))), (λ e. absurd (omega (arith, e))))

-- what holds of a line outside holds where the status is that of one
pub of_outside : (e : InputError) (P : Type 0) → IfOutside e (λ _. P) → status_of (unread_end e) ≡ 3 → P
of_outside (input.Outside n) P p three = p
of_outside input.Failed P p three = absurd (omega (arith, three))
of_outside input.OutOfMemory P p three = absurd (omega (arith, three))

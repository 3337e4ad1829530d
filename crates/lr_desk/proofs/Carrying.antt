-- migrations over a depot
use Rattle.std.proofs.Common.{◌≡◌, ◌+◌, ◌*◌, ◌≤◌, ℕ, zero, suc, List, [], ◌∷◌, ◌++◌, length, Bool, true, refl, ap, subst, sym, ◌∙◌, inl, inr, arith}
use Rattle.std.specs.Prelude.{MatchBool, ◌⊎◌}
use Rattle.lr_spec.specs.Rose.{Rose}
use Rattle.lr_rules.specs.State.{State}
use Rattle.lr_depot.specs.declared.call.DepotCall.{DepotCall}
use Rattle.lr_depot.specs.declared.call.DepotReply.{DepotReply}
use Rattle.lr_depot.specs.Machine.{LogEntry, DepotStep, Enters, is_logged, IsShared, IsSharedEntry}
use Rattle.lr_depot.specs.Store.{IsFault}
use Rattle.lr_walk.specs.Depot.{Step, step, Reply, moving, copied, kept, moved, memory, seen_call, seen_reply}
use Rattle.lr_walk.specs.Stands as machines
use Rattle.lr_walk.proofs.Depot.{answers_by_table}
use Rattle.lr_migrator.specs.Migration.{Ending, with_reply, with_memory, Migrates}
use Rattle.lr_migrator.specs.Progress.{Need, beginning, copying, putting, finishing, leaving, ended, Progress, start as first, Rest, Stands, Asked, a_call, an_end, asked, AnswersAsked, with_step, copying_on, advanced}
use Rattle.lr_desk.specs.Drive.{GoesOn, IsFaultReply, Carries, HasMoved, IsFaultMove, IsFaultStage, IsUnderWay, moves_left}
use Rattle.lr_desk.proofs.Logs.{goes_more, goes_none, seen_fault, rose_from, rose_to}

pub admits : (s : State) (call : DepotCall) (reply : DepotReply) (a : Asked) → a_call (seen_call call) ≡ a → DepotStep s 0 call reply → AnswersAsked a (seen_reply reply)
admits s call reply a e d = subst (λ q. AnswersAsked q (seen_reply reply)) e (answers_by_table s 0 call reply d)

pub carries_more : (base log after : List LogEntry) (old new : Progress) (call : DepotCall) (reply : DepotReply)
    → a_call (seen_call call) ≡ asked old.image old.need
    → MatchBool (is_logged reply) ((e : LogEntry) × (after ≡ log ++ e ∷ []) × (e.caller ≡ 0) × Enters call reply e × (IsShared call → IsSharedEntry e.call)) (after ≡ log)
    → ((steps : List Step) → Stands old steps → Stands new (with_step steps (asked old.image old.need) (seen_reply reply)))
    → Carries base old log → Carries base new after
carries_more base log after old new call reply e grew takes d =
    record {
      steps = d.steps ++ step (seen_call call) (seen_reply reply) ∷ [];
      stands = subst (λ q. Stands new (with_step d.steps q (seen_reply reply))) (sym e) (takes d.steps d.stands);
      goes_on = goes_more call reply base log after d.steps grew d.goes_on;
    }

pub carries_same : (base log : List LogEntry) (old new : Progress) → new.image ≡ old.image → new.need ≡ old.need → Carries base old log → Carries base new log
carries_same base log old new image need d =
    record {
      steps = d.steps;
      stands = subst (λ i. machines.Stands (Migrates i) (Rest i) new.need d.steps) (sym image) (subst (λ n. machines.Stands (Migrates old.image) (Rest old.image) n d.steps) (sym need) d.stands);
      goes_on = d.goes_on;
    }

pub has_moved : (base log : List LogEntry) (p : Progress) (end : Ending) → an_end end ≡ asked p.image p.need
    → ((steps : List Step) (end : Ending) → asked p.image p.need ≡ an_end end → Stands p steps → Migrates p.image steps end)
    → Carries base p log → HasMoved base p.image log end
has_moved base log p end e walk d = record { steps = d.steps; walk = walk d.steps end (sym e) d.stands; goes_on = d.goes_on }

pub moved_of : (base log : List LogEntry) (i k : List ℕ) (end : Ending) → k ≡ i → HasMoved base k log end → HasMoved base i log end
moved_of base log i k end e h = subst (λ q. HasMoved base q log end) e h

pub carries_start : (base : List LogEntry) (p : Progress) → Stands p [] → Carries base p base
carries_start base p stands = record { steps = []; stands = stands; goes_on = goes_none base }

-- ---- faults

fault_left : (session : ℕ) (r : Reply) → IsFaultStage (leaving session (with_reply r)) → IsFaultReply r
fault_left session r h = h

copying_fault : (session index left : ℕ) → IsFaultStage (copying_on session index left) → ⊥
copying_fault session index zero h = h
copying_fault session index (suc left) h = h

fault_advanced : (need : Need) (r : Reply) → IsFaultStage (advanced need r) → IsFaultStage need ⊎ IsFaultReply r
fault_advanced beginning (moving session from to fields) h = absurd (copying_fault session 0 (length fields.names) h)
fault_advanced beginning memory h = absurd h
fault_advanced beginning r h = inr h
fault_advanced (copying session index left) (copied name) h = absurd h
fault_advanced (copying session index left) memory h = absurd h
fault_advanced (copying session index left) r h = inr h
fault_advanced (putting session index left name) kept h = absurd (copying_fault session (suc index) left h)
fault_advanced (putting session index left name) memory h = absurd h
fault_advanced (putting session index left name) r h = inr h
fault_advanced (finishing session) (moved from to) h = absurd h
fault_advanced (finishing session) memory h = absurd h
fault_advanced (finishing session) r h = inr h
fault_advanced (leaving session end) r h = inl h
fault_advanced (ended end) r h = inl h

pub fault_made : (need new : Need) (reply : DepotReply) (before after : ℕ) → new ≡ advanced need (seen_reply reply) → (IsFault reply → Rose before after)
    → IsFaultStage new → IsFaultStage need ⊎ Rose before after
fault_made need new reply before after e cause h = elim (fault_advanced need (seen_reply reply) (subst IsFaultStage e h)) [ inl old ↦ inl old | inr f ↦ inr (cause (seen_fault reply f)) ]

pub fault_at_end : (image : List ℕ) (need : Need) (end : Ending) → an_end end ≡ asked image need → IsFaultMove end → IsFaultStage need
fault_at_end image beginning end e h = absurd (cc)
fault_at_end image (copying session index left) end e h = absurd (cc)
fault_at_end image (putting session index left name) end e h = absurd (cc)
fault_at_end image (finishing session) end e h = absurd (cc)
fault_at_end image (leaving session other) end e h = absurd (cc)
fault_at_end image (ended other) end e h = let s : end ≡ other = cc in subst IsFaultMove s h

-- a fault since the beginning, or now
pub fault_since : (need mid : Need) (a b c : ℕ) → a ≤ b → b ≤ c → (IsFaultStage mid → IsFaultStage need ⊎ Rose a b) → IsFaultStage mid ⊎ Rose b c → IsFaultStage need ⊎ Rose a c
fault_since need mid a b c low high old (inl f) = elim (old f) [ inl first ↦ inl first | inr rose ↦ inr (rose_to a b c high rose) ]
fault_since need mid a b c low high old (inr rose) = inr (rose_from a b c low rose)

pub no_fault : (image : List ℕ) (p : Progress) → p ≡ first image → IsFaultStage p.need → ⊥
no_fault image p e h = subst (λ (q : Progress). IsFaultStage q.need) e h

-- ---- the measure

copying_goes : (session index left : ℕ) → IsUnderWay (copying_on session index left)
copying_goes session index zero = tt
copying_goes session index (suc left) = tt

goes_at : (image : List ℕ) (need : Need) (r : Reply) → AnswersAsked (asked image need) r → IsUnderWay (advanced need r)
goes_at image beginning (moving session from to fields) a = copying_goes session 0 (length fields.names)
goes_at image beginning memory a = tt
goes_at image beginning r a = tt
goes_at image (copying session index left) (copied name) a = tt
goes_at image (copying session index left) memory a = tt
goes_at image (copying session index left) r a = tt
goes_at image (putting session index left name) kept a = copying_goes session (suc index) left
goes_at image (putting session index left name) memory a = tt
goes_at image (putting session index left name) r a = tt
goes_at image (finishing session) (moved from to) a = tt
goes_at image (finishing session) memory a = tt
goes_at image (finishing session) r a = tt
goes_at image (leaving session end) r a = tt
goes_at image (ended end) r a = tt

pub goes_on : (image : List ℕ) (need new : Need) (r : Reply) → AnswersAsked (asked image need) r → new ≡ advanced need r → IsUnderWay new
goes_on image need new r a e = subst IsUnderWay (sym e) (goes_at image need r a)

copying_less : (session index left : ℕ) → moves_left (copying_on session index left) + 1 ≤ 2 * left + 4
copying_less session index zero = omega arith
copying_less session index (suc left) = omega arith

falls_at : (image : List ℕ) (need : Need) (r : Reply) → AnswersAsked (asked image need) r → IsUnderWay need → moves_left (advanced need r) + 1 ≤ moves_left need
falls_at image beginning r a w = absurd w
falls_at image (copying session index left) (copied name) a w = omega arith
falls_at image (copying session index left) memory a w = omega arith
falls_at image (copying session index left) r a w = omega arith
falls_at image (putting session index left name) kept a w = copying_less session (suc index) left
falls_at image (putting session index left name) memory a w = omega arith
falls_at image (putting session index left name) r a w = omega arith
falls_at image (finishing session) (moved from to) a w = omega arith
falls_at image (finishing session) memory a w = omega arith
falls_at image (finishing session) r a w = omega arith
falls_at image (leaving session end) r a w = omega arith
falls_at image (ended end) r a w = absurd a

pub falls : (image : List ℕ) (need new : Need) (r : Reply) → AnswersAsked (asked image need) r → new ≡ advanced need r → IsUnderWay need → moves_left new + 1 ≤ moves_left need
falls image need new r a e w = subst (λ q. moves_left q + 1 ≤ moves_left need) (sym e) (falls_at image need r a w)

pub same_way : (old mid : Need) → mid ≡ old → IsUnderWay old → IsUnderWay mid
same_way old mid e w = subst IsUnderWay (sym e) w

-- what the entries of a walk tell of
use Rattle.std.proofs.Common.{◌≡◌, ℕ, zero, suc, List, [], ◌∷◌, ◌++◌, map, length, Option, Some, None, refl, ap, subst, sym, ◌∙◌, inl, inr}
use Rattle.std.specs.Prelude.{◌⊎◌}
use Rattle.lr_spec.specs.Rose.{next_count}
use Rattle.lr_roots.specs.Names.{IsOneOf}
use Rattle.lr_depot.specs.Machine.{LogEntry}
use Rattle.lr_walk.specs.Walk.{Walks}
use Rattle.lr_walk.specs.Depot.{Call, Step, step, step_of, logged, with_logged, Reply, memory, nothing, removed, swept, moving, copied, kept, moved, no_session, abandoned, sweeps, abandons, copies, puts_chunk, finishes_move, begins_move, seen_told, Answers, Asks}
use Rattle.lr_collector.specs.declared.collect.CollectJob.{CollectJob}
use Rattle.lr_collector.specs.declared.collect.CollectJob.TheVariants as job
use Rattle.lr_collector.specs.Collection.{Ending, with_reply, with_count, with_memory, call_of, end_of, sweep_end, after_removal, after_last, Removes, Collects}
use Rattle.lr_migrator.specs.Migration as moves
use Rattle.lr_desk.specs.declared.outcome.Outcome.{Outcome}
use Rattle.lr_desk.specs.declared.outcome.Outcome.TheVariants.{Done, Memory, OriginFault, Refused, Spoiled}
use Rattle.lr_desk.specs.Drive.{GoesOn, HasCollected, HasMoved}
use Rattle.lr_desk.specs.Ends.{outcome_of, outcome_at, Collected, outcome_moved, Moved}
use Rattle.lr_desk.specs.Causes.{IsDepots, Tells}

-- ---- entries and steps

kept_one : (r : Reply) (t : Step) (xs : List Step) → IsDepots (outcome_of r) → IsOneOf (with_logged r t xs) t
kept_one memory t xs b = absurd b
kept_one nothing t xs b = absurd b
kept_one r t xs b = inl refl

pub kept_rest : (r : Reply) (t s : Step) (xs : List Step) → IsOneOf xs s → IsOneOf (with_logged r t xs) s
kept_rest memory t s xs i = i
kept_rest nothing t s xs i = i
kept_rest r t s xs i = inr i

kept_from : (r : Reply) (t s : Step) (xs : List Step) → IsOneOf (with_logged r t xs) s → (s ≡ t) ⊎ IsOneOf xs s
kept_from memory t s xs i = inr i
kept_from nothing t s xs i = inr i
kept_from r t s xs i = i

in_logged : (steps : List Step) (s : Step) → IsOneOf steps s → IsDepots (outcome_of s.reply) → IsOneOf (logged steps) s
in_logged [] s none b = absurd none
in_logged (t ∷ steps) s (inl e) b =
    subst (λ (q : Step). IsOneOf (with_logged t.reply t (logged steps)) q) (sym e) (kept_one t.reply t (logged steps) (subst (λ (q : Step). IsDepots (outcome_of q.reply)) e b))
in_logged (t ∷ steps) s (inr i) b = kept_rest t.reply t s (logged steps) (in_logged steps s i b)

from_logged : (steps : List Step) (s : Step) → IsOneOf (logged steps) s → IsOneOf steps s
from_logged [] s none = none
from_logged (t ∷ steps) s i = elim (kept_from t.reply t s (logged steps) i) [ inl e ↦ inl e | inr rest ↦ inr (from_logged steps s rest) ]

pub in_map : (xs : List LogEntry) (s : Step) → IsOneOf (map step_of xs) s → (e : LogEntry) × IsOneOf xs e × (s ≡ step_of e)
in_map [] s none = absurd none
in_map (x ∷ xs) s (inl e) = (x, inl refl, e)
in_map (x ∷ xs) s (inr i) = let m = in_map xs s i in (m.0, inr m.1, m.2)

to_map : (xs : List LogEntry) (e : LogEntry) → IsOneOf xs e → IsOneOf (map step_of xs) (step_of e)
to_map [] e none = none
to_map (x ∷ xs) e (inl s) = inl (ap step_of s)
to_map (x ∷ xs) e (inr i) = inr (to_map xs e i)

pub step_tells : (log : List LogEntry) (steps : List Step) (s : Step) → GoesOn [] log steps → IsOneOf steps s → IsDepots (outcome_of s.reply) → Tells log (outcome_of s.reply)
step_tells log steps s g i b =
    let m = in_map g.own s (subst (λ (l : List Step). IsOneOf l s) (sym g.steps_of) (in_logged steps s i b)) in
    (m.0, subst (λ (l : List LogEntry). IsOneOf l m.0) (sym g.after) m.1, ap (λ (q : Step). outcome_of q.reply) (sym m.2))

pub tells_step : (log : List LogEntry) (steps : List Step) (o : Outcome) → GoesOn [] log steps → Tells log o → (s : Step) × IsOneOf steps s × (outcome_of s.reply ≡ o)
tells_step log steps o g t =
    (step_of t.0, from_logged steps (step_of t.0) (subst (λ (l : List Step). IsOneOf l (step_of t.0)) g.steps_of (to_map g.own t.0 (subst (λ (l : List LogEntry). IsOneOf l t.0) g.after t.1))), t.2)

-- ---- what a walk finds, and what it sticks to

module _ {E : Type 0} (out : E → Outcome) where
  abbrev pub FindsIn : List Step → Outcome → Type 0
  FindsIn steps o = (s : Step) × IsOneOf steps s × (outcome_of s.reply ≡ o)

  -- an outcome that the depot decides is that of one of the steps
  abbrev pub Finds : Walks Step E → Type 0
  Finds W = (steps : List Step) (end : E) → W steps end → IsDepots (out end) → FindsIn steps (out end)

  -- .. and each such outcome of a step is that of the walk
  abbrev pub Sticks : Walks Step E → Type 0
  Sticks W = (steps : List Step) (end : E) → W steps end → (s : Step) → IsOneOf steps s → IsDepots (outcome_of s.reply) → out end ≡ outcome_of s.reply

  pub finds_asks : (call : Call) (after : Reply → Walks Step E)
      → ((r : Reply) (tail : List Step) (end : E) → Answers call r → after r tail end → IsDepots (out end) → (outcome_of r ≡ out end) ⊎ FindsIn tail (out end)) → Finds (Asks call after)
  finds_asks call after each steps end w b = by (each w.0 w.2 end w.4.1 w.5 b)
    where
      by : (outcome_of w.0 ≡ out end) ⊎ FindsIn w.2 (out end) → FindsIn steps (out end)
      by (inl e) = (w.1, subst (λ (l : List Step). IsOneOf l w.1) (sym w.3) (inl refl), ap (λ (q : Step). outcome_of q.reply) w.4.0 ∙ e)
      by (inr f) = (f.0, subst (λ (l : List Step). IsOneOf l f.0) (sym w.3) (inr f.1), f.2)

  pub sticks_asks : (call : Call) (after : Reply → Walks Step E)
      → ((r : Reply) (tail : List Step) (end : E) → Answers call r → after r tail end → IsDepots (outcome_of r) → out end ≡ outcome_of r)
      → ((r : Reply) (tail : List Step) (end : E) → Answers call r → after r tail end → (s : Step) → IsOneOf tail s → IsDepots (outcome_of s.reply) → out end ≡ outcome_of s.reply)
      → Sticks (Asks call after)
  sticks_asks call after one rest steps end w s i b = by (subst (λ (l : List Step). IsOneOf l s) w.3 i)
    where
      by : IsOneOf (w.1 ∷ w.2) s → out end ≡ outcome_of s.reply
      by (inl e) =
          let same : outcome_of s.reply ≡ outcome_of w.0 = ap (λ (q : Step). outcome_of q.reply) (e ∙ w.4.0) in
          one w.0 w.2 end w.4.1 w.5 (subst IsDepots same b) ∙ sym same
      by (inr j) = rest w.0 w.2 end w.4.1 w.5 s j b

pub not_in : (tail : List Step) (s : Step) → tail ≡ [] → IsOneOf tail s → ⊥
not_in tail s e i = subst (λ (l : List Step). IsOneOf l s) e i

-- ---- collections

end_same : (r : Reply) → outcome_at (end_of r) ≡ outcome_of r
end_same memory = refl
end_same r = refl

one_finds : (call : Call) → Finds outcome_at (Asks call (λ r s e. (s ≡ []) × (e ≡ end_of r)))
one_finds call = finds_asks outcome_at call _ (λ r tail end a w b. inl (sym (end_same r) ∙ ap outcome_at (sym w.1)))

one_sticks : (call : Call) → Sticks outcome_at (Asks call (λ r s e. (s ≡ []) × (e ≡ end_of r)))
one_sticks call = sticks_asks outcome_at call _ (λ r tail end a w b. ap outcome_at w.1 ∙ end_same r) (λ r tail end a w s i b. absurd (not_in tail s w.0 i))

last_finds : (count : ℕ) (r : Reply) (tail : List Step) (end : Ending) → after_last count r tail end → IsDepots (outcome_at end) → outcome_of r ≡ outcome_at end
last_finds count (removed k) tail end w b = absurd w
last_finds count swept tail end w b = absurd (subst (λ e. IsDepots (outcome_at e)) w.1 b)
last_finds count memory tail end w b = absurd (subst (λ e. IsDepots (outcome_at e)) w.1 b)
last_finds count r tail end w b = ap outcome_at (sym w.1)

last_sticks : (count : ℕ) (r : Reply) (tail : List Step) (end : Ending) → after_last count r tail end → IsDepots (outcome_of r) → outcome_at end ≡ outcome_of r
last_sticks count (removed k) tail end w b = absurd b
last_sticks count swept tail end w b = absurd b
last_sticks count memory tail end w b = absurd b
last_sticks count r tail end w b = ap outcome_at w.1

last_none : (count : ℕ) (r : Reply) (tail : List Step) (end : Ending) → after_last count r tail end → tail ≡ []
last_none count (removed k) tail end w = absurd w
last_none count r tail end w = w.0

next_in : (more : Walks Step Ending) (r : Reply) (tail : List Step) (end : Ending) → after_removal more r tail end → more tail end
next_in more (removed k) tail end w = w
next_in more r tail end w = absurd w

next_not : (more : Walks Step Ending) (r : Reply) (tail : List Step) (end : Ending) → after_removal more r tail end → IsDepots (outcome_of r) → ⊥
next_not more (removed k) tail end w b = b
next_not more r tail end w b = w

removes_finds : (root count left : ℕ) → Finds outcome_at (Removes root count left)
removes_finds root count zero = finds_asks outcome_at (sweeps root) (after_last count) (λ r tail end a w b. inl (last_finds count r tail end w b))
removes_finds root count (suc left) =
    finds_asks outcome_at (sweeps root) _ (λ r tail end a w b. inr (removes_finds root (next_count count) left tail end (next_in _ r tail end w) b))

removes_sticks : (root count left : ℕ) → Sticks outcome_at (Removes root count left)
removes_sticks root count zero =
    sticks_asks outcome_at (sweeps root) (after_last count) (λ r tail end a w b. last_sticks count r tail end w b) (λ r tail end a w s i b. absurd (not_in tail s (last_none count r tail end w) i))
removes_sticks root count (suc left) =
    sticks_asks outcome_at (sweeps root) _ (λ r tail end a w b. absurd (next_not _ r tail end w b)) (λ r tail end a w s i b. removes_sticks root (next_count count) left tail end (next_in _ r tail end w) s i b)

collects_finds : (j : CollectJob) → Finds outcome_at (Collects j)
collects_finds (job.Rotate bytes) = one_finds (call_of (job.Rotate bytes))
collects_finds (job.Withdraw image) = one_finds (call_of (job.Withdraw image))
collects_finds (job.Expire root) = one_finds (call_of (job.Expire root))
collects_finds (job.Delete root) = one_finds (call_of (job.Delete root))
collects_finds (job.Sweep root) = λ steps end w b. removes_finds root 0 w.0 steps end w.1 b
collects_finds (job.Settle key) = one_finds (call_of (job.Settle key))

collects_sticks : (j : CollectJob) → Sticks outcome_at (Collects j)
collects_sticks (job.Rotate bytes) = one_sticks (call_of (job.Rotate bytes))
collects_sticks (job.Withdraw image) = one_sticks (call_of (job.Withdraw image))
collects_sticks (job.Expire root) = one_sticks (call_of (job.Expire root))
collects_sticks (job.Delete root) = one_sticks (call_of (job.Delete root))
collects_sticks (job.Sweep root) = λ steps end w s i b. removes_sticks root 0 w.0 steps end w.1 s i b
collects_sticks (job.Settle key) = one_sticks (call_of (job.Settle key))

-- ---- migrations

left_end : (session : ℕ) (end0 end : moves.Ending) (steps : List Step) → moves.Leaves session end0 steps end → end ≡ end0
left_end session end0 end steps w = w.5.1

pub abandon_not : (session : ℕ) (r : Reply) → Answers (abandons session) r → IsDepots (outcome_of r) → ⊥
abandon_not session no_session a b = b
abandon_not session abandoned a b = b
abandon_not session memory a b = b
abandon_not session r a b = a

left_sticks : (session : ℕ) (end0 : moves.Ending) → Sticks outcome_moved (moves.Leaves session end0)
left_sticks session end0 =
    sticks_asks outcome_moved (abandons session) _ (λ r tail end a w b. absurd (abandon_not session r a b)) (λ r tail end a w s i b. absurd (not_in tail s w.0 i))

module _ (session : ℕ) where
  -- a reply that ended it, and what was left behind it
  ended_finds : (r : Reply) (end : moves.Ending) → end ≡ moves.with_reply r → outcome_of r ≡ outcome_moved end
  ended_finds r end e = ap outcome_moved (sym e)

  finish_finds : (r : Reply) (tail : List Step) (end : moves.Ending) → moves.after_finish session r tail end → IsDepots (outcome_moved end) → outcome_of r ≡ outcome_moved end
  finish_finds (moved from to) tail end w b = absurd (subst (λ e. IsDepots (outcome_moved e)) w.1 b)
  finish_finds memory tail end w b = absurd (subst (λ e. IsDepots (outcome_moved e)) (left_end session moves.with_memory end tail w) b)
  finish_finds r tail end w b = ap outcome_moved (sym (left_end session (moves.with_reply r) end tail w))

  finish_one : (r : Reply) (tail : List Step) (end : moves.Ending) → moves.after_finish session r tail end → IsDepots (outcome_of r) → outcome_moved end ≡ outcome_of r
  finish_one (moved from to) tail end w b = absurd b
  finish_one memory tail end w b = absurd b
  finish_one r tail end w b = ap outcome_moved (left_end session (moves.with_reply r) end tail w)

  finish_rest : (r : Reply) (tail : List Step) (end : moves.Ending) → moves.after_finish session r tail end → (s : Step) → IsOneOf tail s → IsDepots (outcome_of s.reply) → outcome_moved end ≡ outcome_of s.reply
  finish_rest (moved from to) tail end w s i b = absurd (not_in tail s w.0 i)
  finish_rest memory tail end w s i b = left_sticks session moves.with_memory tail end w s i b
  finish_rest r tail end w s i b = left_sticks session (moves.with_reply r) tail end w s i b

  finishes_finds : Finds outcome_moved (moves.Finishes session)
  finishes_finds = finds_asks outcome_moved (finishes_move session) (moves.after_finish session) (λ r tail end a w b. inl (finish_finds r tail end w b))

  finishes_sticks : Sticks outcome_moved (moves.Finishes session)
  finishes_sticks = sticks_asks outcome_moved (finishes_move session) (moves.after_finish session) (λ r tail end a w b. finish_one r tail end w b) (λ r tail end a w s i b. finish_rest r tail end w s i b)

  module _ (more : Walks Step moves.Ending) (finds : Finds outcome_moved more) where
    put_finds : (r : Reply) (tail : List Step) (end : moves.Ending) → moves.after_put session more r tail end → IsDepots (outcome_moved end) → (outcome_of r ≡ outcome_moved end) ⊎ FindsIn outcome_moved tail (outcome_moved end)
    put_finds kept tail end w b = inr (finds tail end w b)
    put_finds memory tail end w b = absurd (subst (λ e. IsDepots (outcome_moved e)) (left_end session moves.with_memory end tail w) b)
    put_finds r tail end w b = inl (ap outcome_moved (sym (left_end session (moves.with_reply r) end tail w)))

    puts_finds : (name : List ℕ) → Finds outcome_moved (moves.PutsOne session name more)
    puts_finds name = finds_asks outcome_moved (puts_chunk session name) (moves.after_put session more) (λ r tail end a w b. put_finds r tail end w b)

    copy_finds : (r : Reply) (tail : List Step) (end : moves.Ending) → moves.after_copy session more r tail end → IsDepots (outcome_moved end) → (outcome_of r ≡ outcome_moved end) ⊎ FindsIn outcome_moved tail (outcome_moved end)
    copy_finds (copied name) tail end w b = inr (puts_finds name tail end w b)
    copy_finds memory tail end w b = absurd (subst (λ e. IsDepots (outcome_moved e)) (left_end session moves.with_memory end tail w) b)
    copy_finds r tail end w b = inl (ap outcome_moved (sym (left_end session (moves.with_reply r) end tail w)))

  module _ (more : Walks Step moves.Ending) (sticks : Sticks outcome_moved more) where
    put_one : (r : Reply) (tail : List Step) (end : moves.Ending) → moves.after_put session more r tail end → IsDepots (outcome_of r) → outcome_moved end ≡ outcome_of r
    put_one kept tail end w b = absurd b
    put_one memory tail end w b = absurd b
    put_one r tail end w b = ap outcome_moved (left_end session (moves.with_reply r) end tail w)

    put_rest : (r : Reply) (tail : List Step) (end : moves.Ending) → moves.after_put session more r tail end → (s : Step) → IsOneOf tail s → IsDepots (outcome_of s.reply) → outcome_moved end ≡ outcome_of s.reply
    put_rest kept tail end w s i b = sticks tail end w s i b
    put_rest memory tail end w s i b = left_sticks session moves.with_memory tail end w s i b
    put_rest r tail end w s i b = left_sticks session (moves.with_reply r) tail end w s i b

    puts_sticks : (name : List ℕ) → Sticks outcome_moved (moves.PutsOne session name more)
    puts_sticks name = sticks_asks outcome_moved (puts_chunk session name) (moves.after_put session more) (λ r tail end a w b. put_one r tail end w b) (λ r tail end a w s i b. put_rest r tail end w s i b)

    copy_one : (r : Reply) (tail : List Step) (end : moves.Ending) → moves.after_copy session more r tail end → IsDepots (outcome_of r) → outcome_moved end ≡ outcome_of r
    copy_one (copied name) tail end w b = absurd b
    copy_one memory tail end w b = absurd b
    copy_one r tail end w b = ap outcome_moved (left_end session (moves.with_reply r) end tail w)

    copy_rest : (r : Reply) (tail : List Step) (end : moves.Ending) → moves.after_copy session more r tail end → (s : Step) → IsOneOf tail s → IsDepots (outcome_of s.reply) → outcome_moved end ≡ outcome_of s.reply
    copy_rest (copied name) tail end w s i b = puts_sticks name tail end w s i b
    copy_rest memory tail end w s i b = left_sticks session moves.with_memory tail end w s i b
    copy_rest r tail end w s i b = left_sticks session (moves.with_reply r) tail end w s i b

  copies_finds : (index left : ℕ) → Finds outcome_moved (moves.Copies session index left)
  copies_finds index zero = finishes_finds
  copies_finds index (suc left) =
      finds_asks outcome_moved (copies session index) (moves.after_copy session (moves.Copies session (suc index) left))
      (λ r tail end a w b. copy_finds (moves.Copies session (suc index) left) (copies_finds (suc index) left) r tail end w b)

  copies_sticks : (index left : ℕ) → Sticks outcome_moved (moves.Copies session index left)
  copies_sticks index zero = finishes_sticks
  copies_sticks index (suc left) =
      sticks_asks outcome_moved (copies session index) (moves.after_copy session (moves.Copies session (suc index) left))
      (λ r tail end a w b. copy_one (moves.Copies session (suc index) left) (copies_sticks (suc index) left) r tail end w b)
      (λ r tail end a w s i b. copy_rest (moves.Copies session (suc index) left) (copies_sticks (suc index) left) r tail end w s i b)

begin_finds : (r : Reply) (tail : List Step) (end : moves.Ending) → moves.after_begin r tail end → IsDepots (outcome_moved end) → (outcome_of r ≡ outcome_moved end) ⊎ FindsIn outcome_moved tail (outcome_moved end)
begin_finds (moving session from to fields) tail end w b = inr (copies_finds session 0 (length fields.names) tail end w b)
begin_finds memory tail end w b = absurd (subst (λ e. IsDepots (outcome_moved e)) w.1 b)
begin_finds r tail end w b = inl (ap outcome_moved (sym w.1))

begin_one : (r : Reply) (tail : List Step) (end : moves.Ending) → moves.after_begin r tail end → IsDepots (outcome_of r) → outcome_moved end ≡ outcome_of r
begin_one (moving session from to fields) tail end w b = absurd b
begin_one memory tail end w b = absurd b
begin_one r tail end w b = ap outcome_moved w.1

begin_rest : (r : Reply) (tail : List Step) (end : moves.Ending) → moves.after_begin r tail end → (s : Step) → IsOneOf tail s → IsDepots (outcome_of s.reply) → outcome_moved end ≡ outcome_of s.reply
begin_rest (moving session from to fields) tail end w s i b = copies_sticks session 0 (length fields.names) tail end w s i b
begin_rest memory tail end w s i b = absurd (not_in tail s w.0 i)
begin_rest r tail end w s i b = absurd (not_in tail s w.0 i)

pub moves_finds : (image : List ℕ) → Finds outcome_moved (moves.Migrates image)
moves_finds image = finds_asks outcome_moved (begins_move image) moves.after_begin (λ r tail end a w b. begin_finds r tail end w b)

pub moves_sticks : (image : List ℕ) → Sticks outcome_moved (moves.Migrates image)
moves_sticks image = sticks_asks outcome_moved (begins_move image) moves.after_begin (λ r tail end a w b. begin_one r tail end w b) (λ r tail end a w s i b. begin_rest r tail end w s i b)

-- ---- commands

pub collected_tells : (j : CollectJob) (log : List LogEntry) (o : Outcome) (text : List ℕ) → Collected j log o text → IsDepots o → Tells log o
collected_tells j log o text w b =
    let f = collects_finds j w.1.steps w.0 w.1.walk (subst IsDepots w.2 b) in
    subst (Tells log) (f.2 ∙ sym w.2) (step_tells log w.1.steps f.0 w.1.goes_on f.1 (subst IsDepots (sym f.2) (subst IsDepots w.2 b)))

pub collected_is : (j : CollectJob) (log : List LogEntry) (o : Outcome) (text : List ℕ) → Collected j log o text → (e : Outcome) → IsDepots e → Tells log e → o ≡ e
collected_is j log o text w e b t =
    let s = tells_step log w.1.steps e w.1.goes_on t in
    w.2 ∙ (collects_sticks j w.1.steps w.0 w.1.walk s.0 s.1 (subst IsDepots (sym s.2) b) ∙ s.2)

pub moved_tells : (image : List ℕ) (log : List LogEntry) (o : Outcome) (text : List ℕ) → Moved image log o text → IsDepots o → Tells log o
moved_tells image log o text w b =
    let f = moves_finds image w.1.steps w.0 w.1.walk (subst IsDepots w.2 b) in
    subst (Tells log) (f.2 ∙ sym w.2) (step_tells log w.1.steps f.0 w.1.goes_on f.1 (subst IsDepots (sym f.2) (subst IsDepots w.2 b)))

pub moved_is : (image : List ℕ) (log : List LogEntry) (o : Outcome) (text : List ℕ) → Moved image log o text → (e : Outcome) → IsDepots e → Tells log e → o ≡ e
moved_is image log o text w e b t =
    let s = tells_step log w.1.steps e w.1.goes_on t in
    w.2 ∙ (moves_sticks image w.1.steps w.0 w.1.walk s.0 s.1 (subst IsDepots (sym s.2) b) ∙ s.2)

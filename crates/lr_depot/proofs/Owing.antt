-- What a run owes its callers: known images keep their homes, and no creation number is drawn twice.
use Rattle.std.proofs.Common.{◌≡◌, ◌≤◌, ◌<◌, ◌+◌, ℕ, zero, suc, List, [], ◌∷◌, Option, Some, None, refl, sym, ap, subst, ◌∙◌, inl, inr, arith}
use Rattle.std.specs.Arc.{arc_value}
use Rattle.std.specs.List.{slice_get}
use Rattle.std.specs.FinMap as map
use Rattle.lr_manifest.specs.Manifest.{ManifestFields}
use Rattle.lr_manifest.specs.declared.name.Name.{Name}
use Rattle.lr_origin.specs.declared.key.KeyKind.TheVariants as kind
use Rattle.lr_roots.specs.View.{View, Held, manifest}
use Rattle.lr_roots.specs.Roots.{IsHomed}
use Rattle.lr_rules.specs.State.{Job, Desk, State, Holds, target}
use Rattle.lr_rules.specs.Start.{started, MayStart}
use Rattle.lr_rules.specs.Safe.{IsSafe, Keeps}
use Rattle.lr_rules.specs.Calls.{made, settled_there}
use Rattle.lr_rules.proofs.Doubts.{same_some}
use Rattle.lr_rules.proofs.Keeps.{known_is_homed, made_keeps, found_keeps}
use Rattle.lr_rules.proofs.Serving.{leased_home}
use Rattle.lr_rules.proofs.Facts.{homed_always}
use Rattle.lr_rules.proofs.Calls.{all_sound}
use Rattle.lr_rules.specs.Known.{Settles}
use Rattle.lr_rules.proofs.Start.{start_safe}
use Rattle.lr_depot.specs.declared.call.DepotNoted.{DepotNoted}
use Rattle.lr_depot.specs.declared.call.DepotNoted.TheVariants as noted
use Rattle.lr_depot.specs.declared.call.DepotTold.{DepotTold}
use Rattle.lr_depot.specs.declared.call.DepotTold.TheVariants as told
use Rattle.lr_depot.specs.Machine.{LogEntry, state_after, after_entry, run}
use Rattle.lr_depot.specs.Drawn.{number_told}
use Rattle.lr_depot.specs.Owed.{MakesImage, FindsImage, Acknowledges, IsMade, IsKnown, IsOwed}
use Rattle.lr_depot.specs.Store.{IsRun}
use Rattle.lr_depot.proofs.Cases.{OfEach, of_each}
use Rattle.lr_depot.proofs.Found.{found_rest}
use Rattle.lr_depot.proofs.Moved.{entry_safe, run_safe, run_keeps}

-- a manifest that was found there is known
found_image : (s : State) (e : LogEntry) (image : List ℕ) (m : ManifestFields) → FindsImage s e image m → Keeps (after_entry s e) image m
found_image s e image m a =
    subst (λ t. Keeps t image m) (sym (ap (λ n. state_after s e.caller n e.reply) a.1 ∙ ap (state_after s e.caller (noted.Settle (kind.Manifest a.0 image))) a.2 ∙ found)) (found_keeps s a.0 image m)
  where
    found : state_after s e.caller (noted.Settle (kind.Manifest a.0 image)) told.There ≡ settled_there s (kind.Manifest a.0 image) (manifest m)
    found = rw a.3 refl

-- an acknowledged creation leaves its manifest known
made_image : (s : State) (e : LogEntry) (image : List ℕ) (m : ManifestFields) → MakesImage s e image m → Keeps (after_entry s e) image m
made_image s e image m a =
    subst (λ t. Keeps t image m) (sym (ap (λ n. state_after s e.caller n e.reply) a.4 ∙ ap (state_after s e.caller (noted.PutManifest a.0 a.3)) a.5 ∙ put))
    (subst (λ l. Keeps (made s a.0 image a.1 (arc_value a.3)) image l) a.7 (made_keeps s a.0 image a.1 (arc_value a.3)))
  where
    put : state_after s e.caller (noted.PutManifest a.0 a.3) (told.Made a.1) ≡ made s a.0 image a.1 (arc_value a.3)
    put = rw a.6 refl

acknowledged : (s : State) (e : LogEntry) (image : List ℕ) (m : ManifestFields) → Acknowledges s e image m → Keeps (after_entry s e) image m
acknowledged s e image m (inl a) = made_image s e image m a
acknowledged s e image m (inr a) = found_image s e image m a

made_kept : (s : State) (log : List LogEntry) (image : List ℕ) (m : ManifestFields) → IsSafe s → IsRun s log → IsMade s log image m → Keeps (run s log) image m
made_kept s [] image m h is a = absurd a
made_kept s (e ∷ es) image m h is (inl a) = run_keeps (after_entry s e) es (entry_safe s h e is.0 is.1 is.2 is.3) is.4 image m (acknowledged s e image m a)
made_kept s (e ∷ es) image m h is (inr a) = made_kept (after_entry s e) es image m (entry_safe s h e is.0 is.1 is.2 is.3) is.4 a

module _ (v : View) (next : ℕ) (log : List LogEntry) (may : MayStart v next) (is : IsRun (started v next) log) where
  -- A known image has its manifest while it isn't withdrawn.
  pub known_keeps : (image : List ℕ) (m : ManifestFields) → IsKnown (started v next) log image m → Keeps (run (started v next) log) image m
  known_keeps image m (inl k) = run_keeps (started v next) log (start_safe v next may) is image m (λ kept. (k.0, k.2))
  known_keeps image m (inr k) = made_kept (started v next) log image m (start_safe v next may) is k

  -- An owed image has a home that serves.
  pub owed_is_homed : (image : List ℕ) → IsOwed (started v next) log image → IsHomed (run (started v next) log).known.view image
  owed_is_homed image (inl o) =
      let home = known_is_homed (run (started v next) log) (run_safe (started v next) log (start_safe v next may) is) image o.0.0 (known_keeps image o.0.0 o.0.1) o.1 in
      (home.0, home.1, home.2)
  owed_is_homed image (inr o) = leased_home (run (started v next) log) (run_safe (started v next) log (start_safe v next may) is) o.0 image o.1 o.2

  -- It has one in every way in which the doubts can come out.
  pub owed_always : (image : List ℕ) → IsOwed (started v next) log image → (w : View) → Settles (run (started v next) log).known w → IsHomed w image
  owed_always image (inl o) w t =
      let safe : IsSafe (run (started v next) log) = run_safe (started v next) log (start_safe v next may) is in
      let home = known_is_homed (run (started v next) log) safe image o.0.0 (known_keeps image o.0.0 o.0.1) o.1 in
      homed_always (run (started v next) log).known safe.agrees (all_sound (run (started v next) log) safe) image home.0 home.1.listed home.1.live.1 o.1 w t
  owed_always image (inr o) w t =
      (((run_safe (started v next) log (start_safe v next may) is).good w t).leased o.0 image o.1 o.2).0

-- the creation number that the log tells, if it tells one
-- A creation number that is told is the next one, and then the next is one more.
abbrev pub IsDrawn : Option ℕ → ℕ → ℕ → Type 0
IsDrawn None next after = after ≡ next
IsDrawn (Some number) next after = (number ≡ next) × (after ≡ next + 1)

-- The creation numbers of a log are drawn one after the other, from the next one to the one that is next in the end.
abbrev pub AreDrawn : ℕ → List LogEntry → ℕ → Type 0
AreDrawn next [] end = end ≡ next
AreDrawn next (e ∷ es) end = (after : ℕ) × IsDrawn (number_told e.reply) next after × AreDrawn after es end

module _ (s : State) (c : ℕ) where
  abbrev Draws : DepotNoted → DepotTold → Type 0
  Draws n t = IsDrawn (number_told t) s.desk.next_number (state_after s c n t).desk.next_number

  chunk_draws : (n : ℕ) (j : Job) (name : Name) → Holds s n c j → Draws (noted.PutChunk n name) told.Kept
  chunk_draws n j name holds = by (map.get s.known.view (kind.Chunk (target j) name.bytes)) refl
    where
      by : (o : Option Held) → map.get s.known.view (kind.Chunk (target j) name.bytes) ≡ o → Draws (noted.PutChunk n name) told.Kept
      by None e = rw holds (rw e refl)
      by (Some x) e = rw holds (rw e refl)

  draws : OfEach s c (λ call reply n t. Draws n t)
  draws = record {
    quiet = λ call reply n t q. subst (λ o. IsDrawn o s.desk.next_number (state_after s c n t).desk.next_number) (sym q.untold) (ap (λ (a : State). a.desk.next_number) q.state);
    opened = λ image m p r may. refl;
    closed = λ lease out. refl;
    began = λ image root bytes may salted. (refl, refl);
    chunk = λ n chunk name j holds is. chunk_draws n j name holds;
    chunk_doubted = λ n chunk name k is put away. refl;
    made = λ n m p r image d is may. rw may.session refl;
    making = λ n m p r image d is may. refl;
    abandoned = λ n j holds. refl;
    rotated = λ i bytes may. refl;
    rotating = λ i bytes may. refl;
    moving = λ image from to m p may. refl;
    moved = λ n image from to m may. rw may.session refl;
    move_doubted = λ n image from to m may. rw may.session refl;
    bare_put = λ call reply n t k b. subst (λ o. IsDrawn o s.desk.next_number (state_after s c n t).desk.next_number) (sym b.untold) (ap (λ (a : State). a.desk.next_number) b.state);
    bare_doubted = λ call n k b. ap (λ (a : State). a.desk.next_number) b.state;
    removed = λ r k next. refl;
    removing = λ r k next. rw next.may.here refl;
    found = λ k x may. rw may.here (ap (λ (d : Desk). d.next_number) (found_rest s k x));
    missed = λ k x may. refl;
    reaped = λ n j out own. refl;
  }

-- A run draws its creation numbers one after the other.
pub numbers_ascend : (s : State) (log : List LogEntry) → IsRun s log → AreDrawn s.desk.next_number log (run s log).desk.next_number
numbers_ascend s [] is = refl
numbers_ascend s (e ∷ es) is =
    ((after_entry s e).desk.next_number, of_each s e.caller (λ call reply n t. Draws s e.caller n t) (draws s e.caller) is.0 is.1 e.call e.reply is.2 is.3.noted is.3.told, numbers_ascend (after_entry s e) es is.4)

drawn_more : (o : Option ℕ) (next after : ℕ) → IsDrawn o next after → next ≤ after
drawn_more None next after e = omega (arith, e)
drawn_more (Some number) next after e = omega (arith, e.1)

drawn_here : (o : Option ℕ) (next after number : ℕ) → o ≡ Some number → IsDrawn o next after → (number ≡ next) × (after ≡ next + 1)
drawn_here o next after number e d = subst (λ o. IsDrawn o next after) e d

-- a log in which they are drawn so
module _ (end : ℕ) where
  -- the next number never falls
  pub drawn_rises : (log : List LogEntry) (first : ℕ) → AreDrawn first log end → first ≤ end
  drawn_rises [] first d = omega (arith, d)
  drawn_rises (e ∷ es) first d = let a = drawn_more (number_told e.reply) first d.0 d.1 in let b = drawn_rises es d.0 d.2 in omega (arith, a, b)

  -- a number of the log is at least the first
  pub drawn_within : (log : List LogEntry) (first : ℕ) → AreDrawn first log end → (j : ℕ) (f : LogEntry) (number : ℕ) → slice_get log j ≡ Some f → number_told f.reply ≡ Some number → (first ≤ number) × (number < end)
  drawn_within [] first d j f number at tells = absurd cc
  drawn_within (e ∷ es) first d zero f number at tells =
      let same : e ≡ f = same_some e f at in
      let here : (number ≡ first) × (d.0 ≡ first + 1) = drawn_here (number_told e.reply) first d.0 number (ap (λ (x : LogEntry). number_told x.reply) same ∙ tells) d.1 in
      let rest : d.0 ≤ end = drawn_rises es d.0 d.2 in
      (omega (arith, here.0), omega (arith, here.0, here.1, rest))
  drawn_within (e ∷ es) first d (suc j) f number at tells =
      let more : first ≤ d.0 = drawn_more (number_told e.reply) first d.0 d.1 in
      let rest : (d.0 ≤ number) × (number < end) = drawn_within es d.0 d.2 j f number at tells in
      (omega (arith, more, rest.0), rest.1)

  -- two numbers of the log ascend with their places
  pub drawn_apart : (log : List LogEntry) (first : ℕ) → AreDrawn first log end → (i j : ℕ) (e f : LogEntry) (a b : ℕ) → i < j → slice_get log i ≡ Some e → slice_get log j ≡ Some f → number_told e.reply ≡ Some a → number_told f.reply ≡ Some b → a < b
  drawn_apart [] first d i j e f a b less at_i at_j tells_a tells_b = absurd cc
  drawn_apart (x ∷ xs) first d i zero e f a b less at_i at_j tells_a tells_b = absurd (omega (arith, less))
  drawn_apart (x ∷ xs) first d zero (suc j) e f a b less at_i at_j tells_a tells_b =
      let same : x ≡ e = same_some x e at_i in
      let here : (a ≡ first) × (d.0 ≡ first + 1) = drawn_here (number_told x.reply) first d.0 a (ap (λ (x : LogEntry). number_told x.reply) same ∙ tells_a) d.1 in
      let later : (d.0 ≤ b) × (b < end) = drawn_within xs d.0 d.2 j f b at_j tells_b in
      omega (arith, here.0, here.1, later.0)
  drawn_apart (x ∷ xs) first d (suc i) (suc j) e f a b less at_i at_j tells_a tells_b = drawn_apart xs d.0 d.2 i j e f a b (omega (arith, less)) at_i at_j tells_a tells_b

-- The creation numbers of a run begin with the next one, and ascend with their places.
pub numbers_apart : (s : State) (log : List LogEntry) → IsRun s log → (i j : ℕ) (e f : LogEntry) (a b : ℕ) → i < j → slice_get log i ≡ Some e → slice_get log j ≡ Some f → number_told e.reply ≡ Some a → number_told f.reply ≡ Some b → (s.desk.next_number ≤ a) × (a < b)
numbers_apart s log is i j e f a b less at_i at_j tells_a tells_b =
    let drawn : AreDrawn s.desk.next_number log (run s log).desk.next_number = numbers_ascend s log is in (
      (drawn_within (run s log).desk.next_number log s.desk.next_number drawn i e a at_i tells_a).0,
      drawn_apart (run s log).desk.next_number log s.desk.next_number drawn i j e f a b less at_i at_j tells_a tells_b,
    )

-- Each creation number of a run is at least the next one at its start.
pub numbers_above : (s : State) (log : List LogEntry) → IsRun s log → (i : ℕ) (e : LogEntry) (a : ℕ) → slice_get log i ≡ Some e → number_told e.reply ≡ Some a → s.desk.next_number ≤ a
numbers_above s log is i e a at tells = (drawn_within (run s log).desk.next_number log s.desk.next_number (numbers_ascend s log is) i e a at tells).0

-- Which sessions a log tells to have made the puts that are in doubt.
use Rattle.std.proofs.Common.{◌≡◌, ◌≢◌, ◌<◌, ◌+◌, ℕ, List, [], ◌∷◌, Option, Some, None, refl, sym, ap, subst, ◌∙◌, inl, inr, arith}
use mathlib.Core.Logic.{◌⊎◌}
use Rattle.std.specs.Arc.{arc_value}
use Rattle.std.specs.FinMap as map
use Rattle.lr_origin.specs.declared.key.KeyKind.{KeyKind}
use Rattle.lr_origin.specs.declared.key.KeyKind.TheVariants as kind
use Rattle.lr_manifest.specs.declared.name.Name.{Name}
use Rattle.lr_roots.specs.View.{Held}
use Rattle.lr_roots.specs.Names.{IsOneOf}
use Rattle.lr_rules.specs.State.{Job, Creates, Moves, Session, Desk, State, Holds, target}
use Rattle.lr_rules.specs.Safe.{IsSafe}
use Rattle.lr_rules.proofs.Doubts.{same_some}
use Rattle.lr_rules.proofs.Keys.{cases_key, at_key, at_other, other_n}
use Rattle.lr_rules.proofs.Outcomes.{is_some}
use Rattle.lr_depot.specs.declared.call.DepotNoted.{DepotNoted}
use Rattle.lr_depot.specs.declared.call.DepotNoted.TheVariants as noted
use Rattle.lr_depot.specs.declared.call.DepotTold.{DepotTold}
use Rattle.lr_depot.specs.declared.call.DepotTold.TheVariants as told
use Rattle.lr_depot.specs.Machine.{LogEntry, state_after, after_entry, run}
use Rattle.lr_depot.specs.Store.{IsRun}
use Rattle.lr_depot.specs.Lasting.{DoubtsSession}
use Rattle.lr_depot.proofs.Cases.{OfEach, of_each}
use Rattle.lr_depot.proofs.Found.{found_rest, found_sessions}
use Rattle.lr_depot.proofs.Moved.{left_in, others_in, entry_safe}

-- each session that made a put in doubt was drawn
abbrev pub AreDrawnMakers : State → Type 0
AreDrawnMakers s = (q : KeyKind) (n : ℕ) → map.get s.desk.makers q ≡ Some n → n < s.desk.next_session

-- The sessions that made puts in doubt are drawn, and each that is held made one before, or the entry tells of its fault.
abbrev pub IsMaking : State → ℕ → DepotNoted → DepotTold → Type 0
IsMaking s c i t =
    (q : KeyKind) (n : ℕ) → map.get (state_after s c i t).desk.makers q ≡ Some n
    → (n < (state_after s c i t).desk.next_session)
    × ((b : ℕ) (j : Job) → Holds (state_after s c i t) n b j → ((p : KeyKind) × (map.get s.desk.makers p ≡ Some n) × Holds s n b j) ⊎ ((c ≡ b) × DoubtsSession n i t))

module _ (s : State) (c : ℕ) (h : IsSafe s) (drawn : AreDrawnMakers s) where
  -- a state with the same table, from which sessions may have ended
  abbrev KeepsMakers : State → Type 0
  KeepsMakers a = (a.desk.makers ≡ s.desk.makers) × (a.desk.next_session ≡ s.desk.next_session) × ((n b : ℕ) (j : Job) → Holds a n b j → Holds s n b j)

  kept : (i : DepotNoted) (t : DepotTold) → KeepsMakers (state_after s c i t) → IsMaking s c i t
  kept i t a q n e =
      let old : map.get s.desk.makers q ≡ Some n = ap (λ m. map.get m q) (sym a.0) ∙ e in
      (subst (λ k. n < k) (sym a.1) (drawn q n old), λ b j holds. inl (q, old, a.2 n b j holds))

  as_kept : (i : DepotNoted) (t : DepotTold) (a : State) → state_after s c i t ≡ a → KeepsMakers a → IsMaking s c i t
  as_kept i t a e k = kept i t (subst KeepsMakers (sym e) k)

  same : KeepsMakers s
  same = (refl, refl, λ n b j holds. holds)

  begun : (x : Session) (q : KeyKind) (n : ℕ) → map.get s.desk.makers q ≡ Some n
      → (n < s.desk.next_session + 1) × ((b : ℕ) (j : Job) → map.get (map.insert s.desk.sessions s.desk.next_session x) n ≡ Some (record { caller = b; job = j }) → (p : KeyKind) × (map.get s.desk.makers p ≡ Some n) × Holds s n b j)
  begun x q n e =
      let less : n < s.desk.next_session = drawn q n e in
      (omega (arith, less), λ b j holds. (q, e, sym (other_n s.desk.sessions s.desk.next_session x n (λ f. omega (arith, f, less))) ∙ holds))

  caller_is : (n b : ℕ) (i j : Job) → Holds s n c i → Holds s n b j → c ≡ b
  caller_is n b i j own holds = ap (λ (x : Session). x.caller) (same_some (record { caller = c; job = i }) (record { caller = b; job = j }) (sym own ∙ holds))

  -- the put of a session's manifest failed
  faulted : (i : DepotNoted) (t : DepotTold) (key : KeyKind) (k : ℕ) (x : Job) → Holds s k c x → ((n : ℕ) → k ≡ n → DoubtsSession n i t)
      → (q : KeyKind) (n : ℕ) → map.get (map.insert s.desk.makers key k) q ≡ Some n
      → (n < s.desk.next_session) × ((b : ℕ) (j : Job) → Holds s n b j → ((p : KeyKind) × (map.get s.desk.makers p ≡ Some n) × Holds s n b j) ⊎ ((c ≡ b) × DoubtsSession n i t))
  faulted i t key k x own tells q n e = by (cases_key q key)
    where
      by : (q ≡ key) ⊎ (q ≢ key) → (n < s.desk.next_session) × ((b : ℕ) (j : Job) → Holds s n b j → ((p : KeyKind) × (map.get s.desk.makers p ≡ Some n) × Holds s n b j) ⊎ ((c ≡ b) × DoubtsSession n i t))
      by (inl f) =
          let is : k ≡ n = same_some k n (sym (at_key s.desk.makers key k) ∙ ap (map.get (map.insert s.desk.makers key k)) (sym f) ∙ e) in (
            subst (λ z. z < s.desk.next_session) is (h.session_numbers k (is_some _ _ own)).1,
            λ b j holds. inr (caller_is n b x j (subst (λ z. Holds s z c x) is own) holds, tells n is),
          )
      by (inr ne) = let old : map.get s.desk.makers q ≡ Some n = sym (at_other s.desk.makers key k q ne) ∙ e in (drawn q n old, λ b j holds. inl (q, old, holds))

  chunk_keeps : (n : ℕ) (name : Name) → KeepsMakers (state_after s c (noted.PutChunk n name) told.Kept)
  chunk_keeps n name = by (map.get s.desk.sessions n) refl
    where
      by : (o : Option Session) → map.get s.desk.sessions n ≡ o → KeepsMakers (state_after s c (noted.PutChunk n name) told.Kept)
      by None e = rw e same
      by (Some j) e = at (map.get s.known.view (kind.Chunk (target j.job) name.bytes)) refl
        where
          at : (o : Option Held) → map.get s.known.view (kind.Chunk (target j.job) name.bytes) ≡ o → KeepsMakers (state_after s c (noted.PutChunk n name) told.Kept)
          at None f = rw e (rw f same)
          at (Some x) f = rw e (rw f same)

  pub making_of : OfEach s c (λ call reply i t. IsMaking s c i t)
  making_of = record {
    quiet = λ call reply i t q. as_kept i t s q.state same;
    opened = λ image m p r may. kept (noted.OpenImage image) (told.Opened s.desk.next_lease p) same;
    closed = λ lease out. kept (noted.Close lease) told.Closed same;
    began = λ image root bytes may salted q n e. let b = begun (record { caller = c; job = Creates image root s.desk.next_number }) q n e in (b.0, λ d j holds. inl (b.1 d j holds));
    chunk = λ n chunk name j holds is. kept (noted.PutChunk n name) told.Kept (chunk_keeps n name);
    chunk_doubted = λ n chunk name k is put away. kept (noted.PutChunk n name) (told.Fault k) same;
    made = λ n m p r image d is may. rw may.session (λ q k e. (drawn q k e, λ b j holds. inl (q, e, left_in s.desk.sessions n k _ holds)));
    making = λ n m p r image d is may. faulted (noted.PutManifest n p) (told.Fault (kind.Manifest r image)) (kind.Manifest r image) n (Creates image r d) may.session (λ k e. e);
    abandoned = λ n j holds q k e. (drawn q k e, λ b i there. inl (q, e, left_in s.desk.sessions n k _ there));
    rotated = λ i bytes may. kept (noted.Rotate bytes) (told.Rotated (i + 1)) same;
    rotating = λ i bytes may. kept (noted.Rotate bytes) (told.Fault (kind.Root (i + 1))) same;
    moving = λ image from to m p may q n e. let b = begun (record { caller = c; job = Moves image from to (arc_value p) }) q n e in (b.0, λ d j holds. inl (b.1 d j holds));
    moved = λ n image from to m may. rw may.session (λ q k e. (drawn q k e, λ b j holds. inl (q, e, left_in s.desk.sessions n k _ holds)));
    move_doubted = λ n image from to m may. rw may.session (faulted (noted.FinishMigrate n) (told.Fault (kind.Manifest to image)) (kind.Manifest to image) n (Moves image from to m) may.session (λ k e. e));
    bare_put = λ call reply i t k b. as_kept i t _ b.state same;
    bare_doubted = λ call i k b. as_kept i (told.Fault k) _ b.state same;
    removed = λ r k next. kept (noted.Sweep r) (told.Removed k) same;
    removing = λ r k next. rw next.may.here (λ q n e. (drawn q n e, λ b j holds. inl (q, e, holds)));
    found = λ k x may. rw may.here (λ q n e.
        let old : map.get s.desk.makers q ≡ Some n = ap (λ (d : Desk). map.get d.makers q) (sym (found_rest s k x)) ∙ e in
        (subst (λ (d : Desk). n < d.next_session) (sym (found_rest s k x)) (drawn q n old), λ b j holds. inl (q, old, found_sessions s k x n _ holds)));
    missed = λ k x may. kept (noted.Settle k) told.Absent same;
    reaped = λ n j out own q k e. (drawn q k e, λ b i there. inl (q, e, others_in c s.desk.sessions k _ there));
  }

-- a log tells that the put of the manifest of a caller's session failed
abbrev pub TellsDoubt : List LogEntry → ℕ → ℕ → Type 0
TellsDoubt log n c = (e : LogEntry) × IsOneOf log e × (e.caller ≡ c) × DoubtsSession n e.call e.reply

-- The sessions that made puts in doubt are drawn, and of each that is held the log tells that its put failed.
abbrev pub AreMakers : State → List LogEntry → Type 0
AreMakers s log = (q : KeyKind) (n : ℕ) → map.get s.desk.makers q ≡ Some n → (n < s.desk.next_session) × ((b : ℕ) (j : Job) → Holds s n b j → TellsDoubt log n b)

makers_from : (s : State) (log : List LogEntry) → IsSafe s → IsRun s log → AreDrawnMakers s
    → (q : KeyKind) (n : ℕ) → map.get (run s log).desk.makers q ≡ Some n
    → (n < (run s log).desk.next_session) × ((b : ℕ) (j : Job) → Holds (run s log) n b j → ((p : KeyKind) × (map.get s.desk.makers p ≡ Some n) × Holds s n b j) ⊎ TellsDoubt log n b)
makers_from s [] h is drawn q n e = (drawn q n e, λ b j holds. inl (q, e, holds))
makers_from s (e ∷ es) h is drawn q n made =
    let later = makers_from (after_entry s e) es (entry_safe s h e is.0 is.1 is.2 is.3) is.4 (λ p k old. (here p k old).0) q n made in
    (later.0, λ b j holds. by b j (later.1 b j holds))
  where
    here : IsMaking s e.caller e.call e.reply
    here = of_each s e.caller (λ call reply i t. IsMaking s e.caller i t) (making_of s e.caller h drawn) is.0 is.1 e.call e.reply is.2 is.3.noted is.3.told

    first : (b : ℕ) (j : Job) → ((p : KeyKind) × (map.get s.desk.makers p ≡ Some n) × Holds s n b j) ⊎ ((e.caller ≡ b) × DoubtsSession n e.call e.reply) → ((p : KeyKind) × (map.get s.desk.makers p ≡ Some n) × Holds s n b j) ⊎ TellsDoubt (e ∷ es) n b
    first b j (inl old) = inl old
    first b j (inr fault) = inr (e, inl refl, fault.0, fault.1)

    by : (b : ℕ) (j : Job) → ((p : KeyKind) × (map.get (after_entry s e).desk.makers p ≡ Some n) × Holds (after_entry s e) n b j) ⊎ TellsDoubt es n b → ((p : KeyKind) × (map.get s.desk.makers p ≡ Some n) × Holds s n b j) ⊎ TellsDoubt (e ∷ es) n b
    by b j (inl old) = first b j ((here old.0 n old.1).1 b j old.2)
    by b j (inr tells) = inr (tells.0, inr tells.1, tells.2, tells.3)

-- from a state in which nothing was in doubt
pub makers_on : (s : State) (log : List LogEntry) → IsSafe s → IsRun s log → ((q : KeyKind) (n : ℕ) → map.get s.desk.makers q ≡ Some n → ⊥) → AreMakers (run s log) log
makers_on s log h is none q n e =
    let made = makers_from s log h is (λ p k old. absurd (none p k old)) q n e in
    (made.0, λ b j holds. elim (made.1 b j holds) [ inl old ↦ absurd (none old.0 n old.1) | inr tells ↦ tells ])

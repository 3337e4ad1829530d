-- Sessions, leases and keys last from the entry that begins them to one that ends them.
use Rattle.std.specs.Prelude.{⊤}
use Rattle.std.proofs.Common.{◌≡◌, ◌≢◌, ◌<◌, ◌+◌, ℕ, List, [], ◌∷◌, ◌++◌, Option, Some, None, IsSome, refl, sym, ap, subst, ◌∙◌, inl, inr, arith}
use mathlib.Core.Logic.{◌⊎◌}
use Rattle.std.specs.Arc.{arc_value}
use Rattle.std.specs.FinMap as map
use Rattle.std.specs.FinMap.{get-empty}
use Rattle.std.proofs.lemmas.List.Sums.{fold-append}
use Rattle.lr_manifest.specs.Manifest.{ManifestFields}
use Rattle.lr_manifest.specs.declared.name.Name.{Name}
use Rattle.lr_origin.specs.Kind.{kind_cmp}
use Rattle.lr_origin.specs.declared.key.KeyKind.{KeyKind}
use Rattle.lr_origin.specs.declared.key.KeyKind.TheVariants as kind
use Rattle.lr_roots.specs.View.{View, Held, salt, manifest, bare, Has, Lacks}
use Rattle.lr_rules.specs.State.{Job, Creates, Moves, Session, Desk, State, Holds, target}
use Rattle.lr_rules.specs.Known.{Known, IsItemOf}
use Rattle.lr_rules.specs.Safe.{IsSafe}
use Rattle.lr_rules.specs.Start.{started, MayStart}
use Rattle.lr_rules.proofs.Doubts.{still_unsure}
use Rattle.lr_rules.proofs.Keys.{no_some, cases_key, cases_n, at_key, at_other, at_n, other_n, gone_other, gone_other_n, was_there}
use Rattle.lr_rules.proofs.Keeps.{found_known}
use Rattle.lr_rules.proofs.Outcomes.{not_both, is_some}
use Rattle.lr_rules.proofs.Sound.{stays, lacks_if}
use Rattle.lr_depot.specs.declared.call.DepotNoted.{DepotNoted}
use Rattle.lr_depot.specs.declared.call.DepotNoted.TheVariants as noted
use Rattle.lr_depot.specs.declared.call.DepotTold.{DepotTold}
use Rattle.lr_depot.specs.declared.call.DepotTold.TheVariants as told
use Rattle.lr_depot.specs.Machine.{LogEntry, IsNextItem, state_after, after_entry, run}
use Rattle.lr_depot.specs.Store.{IsRun}
use Rattle.lr_depot.specs.Lasting.{EndsSession, LeavesSession, IsSureSession, EndsLease, LeavesLease, TellsFaultAt}
use Rattle.lr_depot.proofs.Cases.{IsStill, IsCalm, OfEach, of_each}
use Rattle.lr_depot.proofs.Found.{found_rest, found_stays}
use Rattle.lr_depot.proofs.Drawing.{AreDrawnMakers, IsMaking, making_of, AreMakers, makers_on}
use Rattle.lr_depot.proofs.Counted.{one_left, one_right}
use Rattle.lr_depot.proofs.Moved.{entry_safe, run_safe}
use Rattle.lr_rules.proofs.Start.{start_safe}
use Rattle.lr_depot.proofs.Begun.{other_kept}

module _ (s : State) (c : ℕ) where
  -- what a chunk's put leaves, for any fact that a known key keeps
  chunk_left : (P : State → Type 0) (n : ℕ) (name : Name) (j : Job) → Holds s n c j → P s → ((k : KeyKind) (x : Held) → Lacks s.known.view k → P (record { known = record { view = map.insert s.known.view k x; doubts = map.remove s.known.doubts k }; desk = s.desk })) → P (state_after s c (noted.PutChunk n name) told.Kept)
  chunk_left P n name j holds same put = by (map.get s.known.view (kind.Chunk (target j) name.bytes)) refl
    where
      by : (o : Option Held) → map.get s.known.view (kind.Chunk (target j) name.bytes) ≡ o → P (state_after s c (noted.PutChunk n name) told.Kept)
      by None e = rw holds (rw e (put (kind.Chunk (target j) name.bytes) _ e))
      by (Some x) e = rw holds (rw e same)

  module _ (h : IsSafe s) where
    -- a session stays, or the entry ends it
    module _ (n b : ℕ) (j : Job) (holds : Holds s n b j) (unmade : (q : KeyKind) → map.get s.desk.makers q ≡ Some n → ⊥) where
      abbrev StaysHeld : DepotNoted → DepotTold → Type 0
      StaysHeld call reply = Holds (state_after s c call reply) n b j ⊎ ((c ≡ b) × EndsSession n call reply)

      -- another session begins
      beside : (x : Session) → map.get (map.insert s.desk.sessions s.desk.next_session x) n ≡ Some (record { caller = b; job = j })
      beside x = other_n s.desk.sessions s.desk.next_session x n (λ e. let f : n < s.desk.next_session = (h.session_numbers n (is_some _ _ holds)).1 in absurd (omega (arith, e, f))) ∙ holds

      -- another session ends
      without : (k : ℕ) → (n ≢ k) → map.get (map.remove s.desk.sessions k) n ≡ Some (record { caller = b; job = j })
      without k other = gone_other_n s.desk.sessions k n other ∙ holds

      same_caller : (k : ℕ) (i : Job) → n ≡ k → Holds s k c i → c ≡ b
      same_caller k i e own = by (sym own ∙ ap (map.get s.desk.sessions) (sym e) ∙ holds)
        where
          by : ◌≡◌ {A = Option Session} (Some (record { caller = c; job = i })) (Some (record { caller = b; job = j })) → c ≡ b
          by e = ap caller_of e
            where
              caller_of : Option Session → ℕ
              caller_of None = 0
              caller_of (Some x) = x.caller

      held : OfEach s c (λ call reply i t. StaysHeld i t)
      held = record {
        quiet = λ call reply i t q. inl (subst (λ a. Holds a n b j) (sym q.state) holds);
        opened = λ image m p r may. inl holds;
        closed = λ lease out. inl holds;
        began = λ image root bytes may salted. inl (beside _);
        chunk = λ k chunk name i own is. inl (chunk_left (λ a. Holds a n b j) k name i own holds (λ q x away. holds));
        chunk_doubted = λ k chunk name q is put away. inl holds;
        made = λ k m p r image d is may. rw may.session (elim (cases_n n k) [ inl e ↦ inr (same_caller k (Creates image r d) e may.session, sym e) | inr ne ↦ inl (without k ne) ]);
        making = λ k m p r image d is may. inl holds;
        abandoned = λ k i own. elim (cases_n n k) [ inl e ↦ inr (same_caller k i e own, sym e) | inr ne ↦ inl (without k ne) ];
        rotated = λ i bytes may. inl holds;
        rotating = λ i bytes may. inl holds;
        moving = λ image from to m p may. inl (beside _);
        moved = λ k image from to m may. rw may.session (elim (cases_n n k) [ inl e ↦ inr (same_caller k (Moves image from to m) e may.session, sym e) | inr ne ↦ inl (without k ne) ]);
        move_doubted = λ k image from to m may. rw may.session (inl holds);
        bare_put = λ call reply i t k q. inl (subst (λ a. Holds a n b j) (sym q.state) holds);
        bare_doubted = λ call i k q. inl (subst (λ a. Holds a n b j) (sym q.state) holds);
        removed = λ r k next. inl holds;
        removing = λ r k next. rw next.may.here (inl holds);
        found = λ k x may. rw may.here (inl (found_stays s k x n (record { caller = b; job = j }) holds (unmade k)));
        missed = λ k x may. inl holds;
        reaped = λ k i out own. elim (cases_n b c) [ inl e ↦ inr (sym e, tt) | inr ne ↦ inl (other_kept c s.desk.sessions n (record { caller = b; job = j }) holds ne) ];
      }

    -- a lease stays, or the entry ends it
    module _ (n : ℕ) (l : List ℕ × ManifestFields) (out : map.get s.desk.leases n ≡ Some l) where
      abbrev StaysOut : DepotNoted → DepotTold → Type 0
      StaysOut call reply = (map.get (state_after s c call reply).desk.leases n ≡ Some l) ⊎ EndsLease n call reply

      out_still : OfEach s c (λ call reply i t. StaysOut i t)
      out_still = record {
        quiet = λ call reply i t q. inl (subst (λ (a : State). map.get a.desk.leases n ≡ Some l) (sym q.state) out);
        opened = λ image m p r may. inl (other_n s.desk.leases s.desk.next_lease (image, arc_value p) n (λ e. let f : n < s.desk.next_lease = (h.lease_numbers n (is_some _ _ out)).1 in absurd (omega (arith, e, f))) ∙ out);
        closed = λ lease there. elim (cases_n n lease) [ inl e ↦ inr (sym e) | inr ne ↦ inl (gone_other_n s.desk.leases lease n ne ∙ out) ];
        began = λ image root bytes may salted. inl out;
        chunk = λ k chunk name i own is. inl (chunk_left (λ a. map.get a.desk.leases n ≡ Some l) k name i own out (λ q x away. out));
        chunk_doubted = λ k chunk name q is put away. inl out;
        made = λ k m p r image d is may. rw may.session (inl out);
        making = λ k m p r image d is may. inl out;
        abandoned = λ k i own. inl out;
        rotated = λ i bytes may. inl out;
        rotating = λ i bytes may. inl out;
        moving = λ image from to m p may. inl out;
        moved = λ k image from to m may. rw may.session (inl out);
        move_doubted = λ k image from to m may. rw may.session (inl out);
        bare_put = λ call reply i t k q. inl (subst (λ (a : State). map.get a.desk.leases n ≡ Some l) (sym q.state) out);
        bare_doubted = λ call i k q. inl (subst (λ (a : State). map.get a.desk.leases n ≡ Some l) (sym q.state) out);
        removed = λ r k next. inl out;
        removing = λ r k next. rw next.may.here (inl out);
        found = λ k x may. rw may.here (inl (subst (λ (d : Desk). map.get d.leases n ≡ Some l) (sym (found_rest s k x)) out));
        missed = λ k x may. inl out;
        reaped = λ k i there own. inl out;
      }

  -- a key that is known stays so, but an item of a deleted root
  module _ (k : KeyKind) (has : Has s.known.view k) (lives : (r : ℕ) → IsItemOf r k → Lacks s.known.view (kind.Deleted r)) where
    left_known : (r : ℕ) (q : KeyKind) → IsNextItem s r q → Has (map.remove s.known.view q) k
    left_known r q next = elim (cases_key k q) [
      | inl e ↦ absurd (no_some _ (lives r (subst (IsItemOf r) (sym e) next.may.item)) next.may.dead)
      | inr ne ↦ subst IsSome (sym (gone_other s.known.view q k ne)) has
    ]

    abbrev StaysKnown : DepotNoted → DepotTold → Type 0
    StaysKnown call reply = Has (state_after s c call reply).known.view k

    known_still : OfEach s c (λ call reply i t. StaysKnown i t)
    known_still = record {
      quiet = λ call reply i t q. subst (λ (a : State). Has a.known.view k) (sym q.state) has;
      opened = λ image m p r may. has;
      closed = λ lease out. has;
      began = λ image root bytes may salted. has;
      chunk = λ n chunk name i own is. chunk_left (λ a. Has a.known.view k) n name i own has (λ q x away. stays s.known.view q x k has);
      chunk_doubted = λ n chunk name q is put away. has;
      made = λ n m p r image d is may. rw may.session (stays s.known.view _ _ k has);
      making = λ n m p r image d is may. has;
      abandoned = λ n i own. has;
      rotated = λ i bytes may. stays s.known.view _ _ k has;
      rotating = λ i bytes may. has;
      moving = λ image from to m p may. has;
      moved = λ n image from to m may. rw may.session (stays s.known.view _ _ k has);
      move_doubted = λ n image from to m may. rw may.session has;
      bare_put = λ call reply i t q b. subst (λ (a : State). Has a.known.view k) (sym b.state) (stays s.known.view q bare k has);
      bare_doubted = λ call i q b. subst (λ (a : State). Has a.known.view k) (sym b.state) has;
      removed = λ r q next. left_known r q next;
      removing = λ r q next. rw next.may.here has;
      found = λ q x may. rw may.here (subst (λ (a : Known). Has a.view k) (sym (found_known s q x)) (stays s.known.view q x k has));
      missed = λ q x may. has;
      reaped = λ n i out own. has;
    }

  -- a key in doubt was so before, or the entry tells of its fault
  module _ (k : KeyKind) where
    abbrev IsDoubtOf : DepotNoted → DepotTold → Type 0
    IsDoubtOf call reply = Has (state_after s c call reply).known.doubts k → Has s.known.doubts k ⊎ (reply ≡ told.Fault k)

    new_doubt : (q : KeyKind) (x : Held) → Has (map.insert s.known.doubts q x) k → Has s.known.doubts k ⊎ (told.Fault q ≡ told.Fault k)
    new_doubt q x has = elim (cases_key k q) [ inl e ↦ inr (ap told.Fault (sym e)) | inr ne ↦ inl (subst IsSome (at_other s.known.doubts q x k ne) has) ]

    doubt_of : OfEach s c (λ call reply i t. IsDoubtOf i t)
    doubt_of = record {
      quiet = λ call reply i t q has. inl (subst (λ (a : State). Has a.known.doubts k) q.state has);
      opened = λ image m p r may has. inl has;
      closed = λ lease out has. inl has;
      began = λ image root bytes may salted has. inl has;
      chunk = λ n chunk name i own is. chunk_left (λ a. Has a.known.doubts k → Has s.known.doubts k ⊎ (told.Kept ≡ told.Fault k)) n name i own (λ has. inl has) (λ q x away has. inl (still_unsure s.known q x k has));
      chunk_doubted = λ n chunk name q is put away has. new_doubt q _ has;
      made = λ n m p r image d is may. rw may.session (λ has. inl (still_unsure s.known (kind.Manifest r image) (manifest (arc_value p)) k has));
      making = λ n m p r image d is may has. new_doubt (kind.Manifest r image) _ has;
      abandoned = λ n i own has. inl has;
      rotated = λ i bytes may has. inl (still_unsure s.known (kind.Root (i + 1)) (salt bytes) k has);
      rotating = λ i bytes may has. new_doubt (kind.Root (i + 1)) _ has;
      moving = λ image from to m p may has. inl has;
      moved = λ n image from to m may. rw may.session (λ has. inl (still_unsure s.known (kind.Manifest to image) (manifest m) k has));
      move_doubted = λ n image from to m may. rw may.session (λ has. new_doubt (kind.Manifest to image) _ has);
      bare_put = λ call reply i t q b has. inl (still_unsure s.known q bare k (subst (λ (a : State). Has a.known.doubts k) b.state has));
      bare_doubted = λ call i q b has. new_doubt q bare (subst (λ (a : State). Has a.known.doubts k) b.state has);
      removed = λ r q next has. inl (was_there s.known.doubts q k has);
      removing = λ r q next. rw next.may.here (λ has. new_doubt q _ has);
      found = λ q x may. rw may.here (λ has. inl (was_there s.known.doubts q k (subst (λ (a : Known). Has a.doubts k) (found_known s q x) has)));
      missed = λ q x may has. inl (was_there s.known.doubts q k has);
      reaped = λ n i out own has. inl has;
    }

run_both : (s : State) (log more : List LogEntry) → run s (log ++ more) ≡ run (run s log) more
run_both s log more = fold-append after_entry s log more

-- the rest of a run is one
rest_run : (s : State) (log more : List LogEntry) → IsRun s (log ++ more) → IsRun s log × IsRun (run s log) more
rest_run s [] more is = (tt, is)
rest_run s (e ∷ es) more is = let rest = rest_run (after_entry s e) es more is.4 in ((is.0, is.1, is.2, is.3, rest.0), rest.1)

-- no put in doubt was made by this session
abbrev IsUnmade : State → ℕ → Type 0
IsUnmade s n = (q : KeyKind) → map.get s.desk.makers q ≡ Some n → ⊥

held_on : (s : State) (log : List LogEntry) (n c : ℕ) (j : Job) → IsSafe s → IsRun s log → Holds s n c j → AreDrawnMakers s → IsUnmade s n → LeavesSession log n c → IsSureSession log n c → Holds (run s log) n c j
held_on s [] n c j h is holds drawn unmade leaves sure = holds
held_on s (e ∷ es) n c j h is holds drawn unmade leaves sure =
    held_on (after_entry s e) es n c j (entry_safe s h e is.0 is.1 is.2 is.3) is.4 next
    (λ q k made. (maker q k made).0)
    (λ q made. elim ((maker q n made).1 c j next) [ inl old ↦ unmade old.0 old.1 | inr fault ↦ sure e (inl refl) fault.0 fault.1 ])
    (λ f one own. leaves f (inr one) own) (λ f one own. sure f (inr one) own)
  where
    next : Holds (after_entry s e) n c j
    next = elim (of_each s e.caller (λ call reply i t. StaysHeld s e.caller h n c j holds unmade i t) (held s e.caller h n c j holds unmade) is.0 is.1 e.call e.reply is.2 is.3.noted is.3.told) [ inl stays ↦ stays | inr ends ↦ absurd (leaves e (inl refl) ends.0 ends.1) ]

    maker : IsMaking s e.caller e.call e.reply
    maker = of_each s e.caller (λ call reply i t. IsMaking s e.caller i t) (making_of s e.caller h drawn) is.0 is.1 e.call e.reply is.2 is.3.noted is.3.told

out_on : (s : State) (log : List LogEntry) (n : ℕ) (l : List ℕ × ManifestFields) → IsSafe s → IsRun s log → map.get s.desk.leases n ≡ Some l → LeavesLease log n → map.get (run s log).desk.leases n ≡ Some l
out_on s [] n l h is out leaves = out
out_on s (e ∷ es) n l h is out leaves =
    out_on (after_entry s e) es n l (entry_safe s h e is.0 is.1 is.2 is.3) is.4
    (elim (of_each s e.caller (λ call reply i t. StaysOut s e.caller h n l out i t) (out_still s e.caller h n l out) is.0 is.1 e.call e.reply is.2 is.3.noted is.3.told) [ inl stays ↦ stays | inr ends ↦ absurd (leaves e (inl refl) ends) ])
    (λ f one. leaves f (inr one))

known_next : (s : State) (e : LogEntry) (k : KeyKind) → IsRun s (e ∷ []) → Has s.known.view k → ((r : ℕ) → IsItemOf r k → Lacks s.known.view (kind.Deleted r)) → Has (after_entry s e).known.view k
known_next s e k is has lives = of_each s e.caller (λ call reply i t. StaysKnown s e.caller k has lives i t) (known_still s e.caller k has lives) is.0 is.1 e.call e.reply is.2 is.3.noted is.3.told

-- a deleted root stays so
dead_on : (s : State) (log : List LogEntry) (r : ℕ) → IsRun s log → Has s.known.view (kind.Deleted r) → Has (run s log).known.view (kind.Deleted r)
dead_on s [] r is has = has
dead_on s (e ∷ es) r is has = dead_on (after_entry s e) es r is.4 (known_next s e (kind.Deleted r) (is.0, is.1, is.2, is.3, tt) has (λ q item. absurd item))

known_on : (s : State) (log : List LogEntry) (k : KeyKind) → IsRun s log → Has s.known.view k → ((r : ℕ) → IsItemOf r k → Lacks (run s log).known.view (kind.Deleted r)) → Has (run s log).known.view k
known_on s [] k is has lives = has
known_on s (e ∷ es) k is has lives =
    known_on (after_entry s e) es k is.4
    (known_next s e k (is.0, is.1, is.2, is.3, tt) has (λ r item. lacks_if s.known.view (kind.Deleted r) (λ dead. no_some _ (lives r item) (dead_on s (e ∷ es) r is dead)))) lives

doubt_told : (s : State) (log : List LogEntry) (k : KeyKind) → IsRun s log → Has (run s log).known.doubts k → Has s.known.doubts k ⊎ TellsFaultAt log k
doubt_told s [] k is has = inl has
doubt_told s (e ∷ es) k is has = elim (doubt_told (after_entry s e) es k is.4 has) [
  | inl here ↦ elim (of_each s e.caller (λ call reply i t. IsDoubtOf s e.caller k i t) (doubt_of s e.caller k) is.0 is.1 e.call e.reply is.2 is.3.noted is.3.told here) [ inl old ↦ inl old | inr tells ↦ inr (e, inl refl, tells) ]
  | inr later ↦ inr (later.0, inr later.1, later.2)
]

module _ (v : View) (next : ℕ) (log more : List LogEntry) (may : MayStart v next) (is : IsRun (started v next) (log ++ more)) where
  abbrev before : State
  before = run (started v next) log

  parts : IsRun (started v next) log × IsRun before more
  parts = rest_run (started v next) log more is

  safe : IsSafe before
  safe = run_safe (started v next) log (start_safe v next may) parts.0

  made : AreMakers before log
  made = makers_on (started v next) log (start_safe v next may) parts.0 (λ q n e. absurd (not_both _ n (get-empty kind_cmp q) e))

  pub session_lasts : (n c : ℕ) (j : Job) → Holds before n c j → LeavesSession more n c → IsSureSession (log ++ more) n c → Holds (run (started v next) (log ++ more)) n c j
  session_lasts n c j holds leaves sure =
      subst (λ a. Holds a n c j) (sym (run_both (started v next) log more))
      (held_on before more n c j safe parts.1 holds (λ q k e. (made q k e).0)
      (λ q e. let fault = (made q n e).1 c j holds in sure fault.0 (one_left log more fault.0 fault.1) fault.2 fault.3) leaves
      (λ e one own. sure e (one_right log more e one) own))

  pub lease_lasts : (n : ℕ) (l : List ℕ × ManifestFields) → map.get before.desk.leases n ≡ Some l → LeavesLease more n → map.get (run (started v next) (log ++ more)).desk.leases n ≡ Some l
  lease_lasts n l out leaves = subst (λ (a : State). map.get a.desk.leases n ≡ Some l) (sym (run_both (started v next) log more)) (out_on before more n l safe parts.1 out leaves)

  pub key_lasts : (k : KeyKind) → Has before.known.view k → ((r : ℕ) → IsItemOf r k → Lacks (run (started v next) (log ++ more)).known.view (kind.Deleted r)) → Has (run (started v next) (log ++ more)).known.view k
  key_lasts k has lives =
      subst (λ (a : State). Has a.known.view k) (sym (run_both (started v next) log more))
      (known_on before more k parts.1 has (λ r item. subst (λ (a : State). Lacks a.known.view (kind.Deleted r)) (run_both (started v next) log more) (lives r item)))

-- a key in doubt at the end
pub fault_told_of : (v : View) (next : ℕ) (log : List LogEntry) (k : KeyKind) → IsRun (started v next) log → Has (run (started v next) log).known.doubts k → TellsFaultAt log k
fault_told_of v next log k is has = elim (doubt_told (started v next) log k is has) [ inl first ↦ absurd (no_some _ (get-empty kind_cmp k) first) | inr tells ↦ tells ]

-- what a session, a lease or a chunk that an entry tells of is in the state after it
abbrev pub Begins : State → ℕ → State → DepotNoted → DepotTold → Type 0
Begins s c a (noted.BeginCreate image) (told.Began session root bytes number) = Holds a session c (Creates image root number)
Begins s c a (noted.OpenImage image) (told.Opened lease m) = map.get a.desk.leases lease ≡ Some (image, arc_value m)
Begins s c a (noted.PutChunk n name) told.Kept = (j : Job) → Holds s n c j → Has a.known.view (kind.Chunk (target j) name.bytes)
Begins s c a (noted.BeginMigrate image) (told.Moving session from to m) = Holds a session c (Moves image from to (arc_value m))
Begins s c a call reply = ⊤

begins_still : (s : State) (c : ℕ) (a : State) (call : DepotNoted) (reply : DepotTold) → IsStill reply → Begins s c a call reply
begins_still s c a (noted.BeginCreate image) (told.Began session root bytes number) q = absurd q
begins_still s c a (noted.OpenImage image) (told.Opened lease m) q = absurd q
begins_still s c a (noted.PutChunk n name) told.Kept q = absurd q
begins_still s c a (noted.BeginMigrate image) (told.Moving session from to m) q = absurd q
begins_still s c a call reply q = tt

begins_calm : (s : State) (c : ℕ) (a : State) (call : DepotNoted) (reply : DepotTold) → IsCalm reply → Begins s c a call reply
begins_calm s c a (noted.BeginCreate image) (told.Began session root bytes number) q = absurd q
begins_calm s c a (noted.OpenImage image) (told.Opened lease m) q = absurd q
begins_calm s c a (noted.PutChunk n name) told.Kept q = absurd q
begins_calm s c a (noted.BeginMigrate image) (told.Moving session from to m) q = absurd q
begins_calm s c a call reply q = tt

begins_fault : (s : State) (c : ℕ) (a : State) (call : DepotNoted) (k : KeyKind) → Begins s c a call (told.Fault k)
begins_fault s c a (noted.BeginCreate image) k = tt
begins_fault s c a (noted.OpenImage image) k = tt
begins_fault s c a (noted.PutChunk n name) k = tt
begins_fault s c a (noted.BeginMigrate image) k = tt
begins_fault s c a call k = tt

module _ (s : State) (c : ℕ) where
  -- after a chunk was put
  chunk_there : (n : ℕ) (name : Name) (j : Job) → Holds s n c j → Has (state_after s c (noted.PutChunk n name) told.Kept).known.view (kind.Chunk (target j) name.bytes)
  chunk_there n name j holds = by (map.get s.known.view (kind.Chunk (target j) name.bytes)) refl
    where
      by : (o : Option Held) → map.get s.known.view (kind.Chunk (target j) name.bytes) ≡ o → Has (state_after s c (noted.PutChunk n name) told.Kept).known.view (kind.Chunk (target j) name.bytes)
      by None e = rw holds (rw e (is_some _ bare (at_key s.known.view (kind.Chunk (target j) name.bytes) bare)))
      by (Some x) e = rw holds (rw e (is_some _ x e))

  begins : OfEach s c (λ call reply i t. Begins s c (state_after s c i t) i t)
  begins = record {
    quiet = λ call reply i t q. elim q.plain [ inl still ↦ begins_still s c (state_after s c i t) i t still | inr fault ↦ subst (Begins s c (state_after s c i t) i) (sym fault.1) (begins_fault s c (state_after s c i t) i fault.0) ];
    opened = λ image m p r may. at_n s.desk.leases s.desk.next_lease (image, arc_value p);
    closed = λ lease out. tt;
    began = λ image root bytes may salted. at_n s.desk.sessions s.desk.next_session (record { caller = c; job = Creates image root s.desk.next_number });
    chunk = λ n chunk name i own is j holds. chunk_there n name j holds;
    chunk_doubted = λ n chunk name q is put away. tt;
    made = λ n m p r image d is may. tt;
    making = λ n m p r image d is may. tt;
    abandoned = λ n i own. tt;
    rotated = λ i bytes may. tt;
    rotating = λ i bytes may. tt;
    moving = λ image from to m p may. at_n s.desk.sessions s.desk.next_session (record { caller = c; job = Moves image from to (arc_value p) });
    moved = λ n image from to m may. tt;
    move_doubted = λ n image from to m may. tt;
    bare_put = λ call reply n t k b. begins_calm s c (state_after s c n t) n t b.calm;
    bare_doubted = λ call n k b. begins_fault s c (state_after s c n (told.Fault k)) n k;
    removed = λ r k next. tt;
    removing = λ r k next. tt;
    found = λ k x may. tt;
    missed = λ k x may. tt;
    reaped = λ n i out own. tt;
  }

-- what the last entry of a log begins
pub last_begins : (s : State) (log : List LogEntry) (e : LogEntry) (call : DepotNoted) (reply : DepotTold) → IsRun s (log ++ e ∷ []) → e.call ≡ call → e.reply ≡ reply → Begins (run s log) e.caller (run s (log ++ e ∷ [])) call reply
last_begins s log e call reply is same_call same_reply =
    let step : IsRun (run s log) (e ∷ []) = (rest_run s log (e ∷ []) is).1 in
    let here : Begins (run s log) e.caller (after_entry (run s log) e) e.call e.reply =
    of_each (run s log) e.caller (λ call reply i t. Begins (run s log) e.caller (state_after (run s log) e.caller i t) i t) (begins (run s log) e.caller) step.0 step.1 e.call e.reply step.2 step.3.noted step.3.told in
    subst (λ a. Begins (run s log) e.caller a call reply) (sym (run_both s log (e ∷ [])))
    (subst (λ n. Begins (run s log) e.caller (after_entry (run s log) e) n reply) same_call (subst (λ t. Begins (run s log) e.caller (after_entry (run s log) e) e.call t) same_reply here))

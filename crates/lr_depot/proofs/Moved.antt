-- Each entry of a run leaves the state or is a step of the depot, so what a step keeps holds after the run.
use Rattle.std.proofs.Common.{◌≡◌, ◌≢◌, ℕ, List, [], ◌∷◌, Option, Some, None, Bool, true, false, cond, refl, sym, ap, subst, ◌∙◌, inl, inr}
use mathlib.Core.Logic.{◌⊎◌}
use Rattle.std.specs.Arc.{arc_value}
use Rattle.std.specs.Ordering.{nat_cmp}
use Rattle.std.specs.FinMap as map
use Rattle.std.specs.FinMap.{FinMap}
use Rattle.sha2.specs.Sha256.{sha256}
use Rattle.lr_manifest.specs.Manifest.{ManifestFields}
use Rattle.lr_manifest.specs.declared.name.Name.{Name}
use Rattle.lr_origin.specs.Text.{IsKind}
use Rattle.lr_origin.specs.declared.key.KeyKind.TheVariants as kind
use Rattle.lr_roots.specs.View.{Held, bare}
use Rattle.lr_rules.specs.Known.{doubting}
use Rattle.lr_rules.specs.State.{Job, Session, Desk, State, Holds, Less, target}
use Rattle.lr_rules.specs.Safe.{IsSafe, Keeps}
use Rattle.lr_rules.specs.Names.{HasRoom}
use Rattle.lr_rules.specs.Calls.{knows}
use Rattle.lr_rules.specs.Steps as steps
use Rattle.lr_rules.specs.Steps.{Steps}
use Rattle.lr_rules.proofs.Keys.{cases_n, gone_n, gone_other_n}
use Rattle.lr_rules.proofs.Outcomes.{not_both, view_settles}
use Rattle.lr_rules.proofs.Steps.{step_safe}
use Rattle.lr_rules.proofs.Keeps.{step_keeps}
use Rattle.lr_rules.proofs.Room.{step_room}
use Rattle.lr_rules.proofs.Grammar.{root_kind}
use Rattle.lr_rules.proofs.Serving.{target_serves}
use Rattle.lr_depot.specs.declared.call.DepotCall.{DepotCall}
use Rattle.lr_depot.specs.declared.call.DepotNoted.TheVariants as noted
use Rattle.lr_depot.specs.declared.call.DepotReply.{DepotReply}
use Rattle.lr_depot.specs.declared.call.DepotTold.TheVariants as told
use Rattle.lr_depot.specs.Machine.{LogEntry, DepotStep, state_after, after_entry, run, Enters}
use Rattle.lr_depot.specs.Sessions.{is_another, without_caller}
use Rattle.lr_depot.specs.Store.{IsRun}
use Rattle.lr_depot.proofs.Cases.{OfEach, of_each}
use Rattle.lr_depot.proofs.Digests.{digest_kind}
use Rattle.lr_depot.proofs.Numbers.{get_retained}

-- what is left of a table was there
pub left_in : {X : Type 0} (m : FinMap nat_cmp X) (n k : ℕ) (x : X) → map.get (map.remove m n) k ≡ Some x → map.get m k ≡ Some x
left_in {X = X} m n k x e = by (cases_n k n)
  where
    by : (k ≡ n) ⊎ (k ≢ n) → map.get m k ≡ Some x
    by (inl same) = absurd (not_both _ x (ap (map.get (map.remove m n)) same ∙ gone_n m n) e)
    by (inr other) = sym (gone_other_n m n k other) ∙ e

passed : {X : Type 0} (b : Bool) (o : Option X) (x : X) → cond b o None ≡ Some x → o ≡ Some x
passed true o x e = e
passed false o x e = cc

-- the sessions of others were there
pub others_in : (c : ℕ) (sessions : FinMap nat_cmp Session) (n : ℕ) (j : Session) → map.get (without_caller c sessions) n ≡ Some j → map.get sessions n ≡ Some j
others_in c sessions n j e = passed (is_another c (map.get sessions n)) (map.get sessions n) j (sym (get_retained sessions (λ k. is_another c (map.get sessions k)) n) ∙ e)

-- fewer leases, fewer sessions
unleased : (d : Desk) (n : ℕ) → Less d (record d { leases = map.remove d.leases n })
unleased d n = record {
  leases = λ k l e. left_in d.leases n k l e;
  sessions = λ k j e. e;
  makers = refl;
  next_lease = refl;
  next_session = refl;
  next_number = refl;
}

unheld : (d : Desk) (n : ℕ) → Less d (record d { sessions = map.remove d.sessions n })
unheld d n = record {
  leases = λ k l e. e;
  sessions = λ k j e. left_in d.sessions n k j e;
  makers = refl;
  next_lease = refl;
  next_session = refl;
  next_number = refl;
}

unattended : (d : Desk) (c : ℕ) → Less d (record d { sessions = without_caller c d.sessions })
unattended d c = record {
  leases = λ k l e. e;
  sessions = λ k j e. others_in c d.sessions k j e;
  makers = refl;
  next_lease = refl;
  next_session = refl;
  next_number = refl;
}

-- the state stays, or a step leads to the other
abbrev MovesTo : State → State → Type 0
MovesTo s t = (t ≡ s) ⊎ Steps s t

module _ (s : State) (h : IsSafe s) (c : ℕ) where
  -- the key of a chunk that a session puts
  pub digest_named : (n : ℕ) (j : Job) (chunk : List ℕ) → Holds s n c j → IsKind (kind.Chunk (target j) (sha256 chunk))
  digest_named n j chunk holds = digest_kind (target j) chunk (root_kind s h (target j) (target_serves s h n c j holds s.known.view (view_settles s.known h.agrees)).0)

  chunk_kept : (n : ℕ) (j : Job) (name : Name) (chunk : List ℕ) → Holds s n c j → name.bytes ≡ sha256 chunk → MovesTo s (state_after s c (noted.PutChunk n name) told.Kept)
  chunk_kept n j name chunk holds is = by (map.get s.known.view (kind.Chunk (target j) name.bytes)) refl
    where
      by : (o : Option Held) → map.get s.known.view (kind.Chunk (target j) name.bytes) ≡ o → MovesTo s (state_after s c (noted.PutChunk n name) told.Kept)
      by None e = rw holds (rw e (inr (steps.PutsChunk n c j name.bytes (record { session = holds; kind = subst (λ l. IsKind (kind.Chunk (target j) l)) (sym is) (digest_named n j chunk holds); absent = e }) (inl refl))))
      by (Some x) e = rw holds (rw e (inl refl))

  each_moves : OfEach s c (λ call reply n t. MovesTo s (state_after s c n t))
  each_moves = record {
    quiet = λ call reply n t q. inl q.state;
    opened = λ image m p r may. inr (steps.Opens image r (arc_value p) may refl);
    closed = λ lease out. inr (steps.Ends _ (unleased s.desk lease) refl);
    began = λ image root bytes may salted. inr (steps.BeginsCreate c image root may refl);
    chunk = λ n chunk name j holds is. chunk_kept n j name (arc_value chunk) holds is;
    chunk_doubted = λ n chunk name k is put away. inr (
        steps.PutsChunk n c put.0 (sha256 (arc_value chunk))
        (record { session = put.1; kind = digest_named n put.0 (arc_value chunk) put.1; absent = ap (map.get s.known.view) (sym put.2) ∙ away })
        (inr (ap (λ k. knows s (doubting s.known k bare)) put.2))
        );
    made = λ n m p r image d is may. rw may.session (inr (steps.Makes n c image r d (arc_value p) may (inl refl)));
    making = λ n m p r image d is may. inr (steps.Makes n c image r d (arc_value p) may (inr refl));
    abandoned = λ n j holds. inr (steps.Ends _ (unheld s.desk n) refl);
    rotated = λ i bytes may. inr (steps.Rotates i bytes may (inl refl));
    rotating = λ i bytes may. inr (steps.Rotates i bytes may (inr refl));
    moving = λ image from to m p may. inr (steps.BeginsMove c image from to (arc_value p) may refl);
    moved = λ n image from to m may. rw may.session (inr (steps.FinishesMove n c image from to m may (inl refl)));
    move_doubted = λ n image from to m may. rw may.session (inr (steps.FinishesMove n c image from to m may (inr refl)));
    bare_put = λ call reply n t k b. inr (b.key.may (state_after s c n t) (inl b.state));
    bare_doubted = λ call n k b. inr (b.key.may (state_after s c n (told.Fault k)) (inr b.state));
    removed = λ r k next. inr (steps.Sweeps r k next.held next.may (inl refl));
    removing = λ r k next. rw next.may.here (inr (steps.Sweeps r k next.held next.may (inr refl)));
    found = λ k x may. rw may.here (inr (steps.Settles k x may (inl refl)));
    missed = λ k x may. inr (steps.Settles k x may (inr refl));
    reaped = λ n j out own. inr (steps.Ends _ (unattended s.desk c) refl);
  }

module _ (s : State) (h : IsSafe s) (e : LogEntry) (call : DepotCall) (reply : DepotReply) (step : DepotStep s e.caller call reply) (enters : Enters call reply e) where
  pub entry_moves : (after_entry s e ≡ s) ⊎ Steps s (after_entry s e)
  entry_moves = of_each s e.caller (λ call reply n t. MovesTo s (state_after s e.caller n t)) (each_moves s h e.caller) call reply e.call e.reply step enters.noted enters.told

  pub entry_safe : IsSafe (after_entry s e)
  entry_safe = elim entry_moves [ inl same ↦ subst IsSafe (sym same) h | inr moved ↦ step_safe s h (after_entry s e) moved ]

  pub entry_room : HasRoom s → HasRoom (after_entry s e)
  entry_room room = elim entry_moves [ inl same ↦ subst HasRoom (sym same) room | inr moved ↦ step_room s h (after_entry s e) moved room ]

  pub entry_keeps : (image : List ℕ) (m : ManifestFields) → Keeps s image m → Keeps (after_entry s e) image m
  entry_keeps image m keeps = elim entry_moves [ inl same ↦ subst (λ t. Keeps t image m) (sym same) keeps | inr moved ↦ step_keeps s h (after_entry s e) moved image m keeps ]

pub run_safe : (s : State) (log : List LogEntry) → IsSafe s → IsRun s log → IsSafe (run s log)
run_safe s [] h is = h
run_safe s (e ∷ es) h is = run_safe (after_entry s e) es (entry_safe s h e is.0 is.1 is.2 is.3) is.4

pub run_room : (s : State) (log : List LogEntry) → IsSafe s → HasRoom s → IsRun s log → HasRoom (run s log)
run_room s [] h room is = room
run_room s (e ∷ es) h room is = run_room (after_entry s e) es (entry_safe s h e is.0 is.1 is.2 is.3) (entry_room s h e is.0 is.1 is.2 is.3 room) is.4

pub run_keeps : (s : State) (log : List LogEntry) → IsSafe s → IsRun s log → (image : List ℕ) (m : ManifestFields) → Keeps s image m → Keeps (run s log) image m
run_keeps s [] h is image m keeps = keeps
run_keeps s (e ∷ es) h is image m keeps = run_keeps (after_entry s e) es (entry_safe s h e is.0 is.1 is.2 is.3) is.4 image m (entry_keeps s h e is.0 is.1 is.2 is.3 image m keeps)

-- Where a depot ends, what its store holds.
use Rattle.std.proofs.Common.{◌≡◌, ℕ, List, [], ◌∷◌, ◌++◌, Option, Some, refl}
use Rattle.lr_spec.specs.Told.{Told}
use Rattle.lr_origin.specs.Objects.{Objects}
use Rattle.lr_rules.specs.State.{State}
use Rattle.lr_rules.specs.Safe.{IsSafe}
use Rattle.lr_rules.proofs.Start.{start_safe}
use Rattle.lr_depot.specs.declared.depot.Body.{Body}
use Rattle.lr_depot.specs.Begun.{Start}
use Rattle.lr_depot.specs.Machine.{LogEntry, after_entry, run}
use Rattle.lr_depot.specs.Store.{IsRun, LeadsTo, Follows}
use Rattle.lr_depot.specs.Depot.{IsWhole, LedTo, KeepsStore, first_state, state}
use Rattle.lr_depot.proofs.Owing.{owed_always}
use Rattle.lr_depot.proofs.Logged.{leads_run}
use Rattle.lr_depot.proofs.Moved.{run_safe}
use Rattle.lr_depot.proofs.Followed.{leads_on, start_follows}

-- The store is one of the good ways out.
pub keeps_store : (start : Start) (m : Objects) (log : List LogEntry) (n : Objects) → LedTo start m log n → KeepsStore start log n
keeps_store start m log n led =
    let first : IsSafe (first_state start) = start_safe start.view start.number led.begun.may in
    let f : Follows (state start log).known n = leads_on (first_state start) m log n first led.leads (start_follows start.view start.number m led.mirrors) in
    let is : IsRun (first_state start) log = leads_run (first_state start) m log n led.leads in
    let safe : IsSafe (state start log) = run_safe (first_state start) log first is in
    (f.0, f.1, f.2, (safe.good f.0 f.1).sound, λ image owed. owed_always start.view start.number log led.begun.may is image owed f.0 f.1)

-- A log that leads on, cut behind its front.
pub leads_cut : (s : State) (m : Objects) (front rest : List LogEntry) (n : Objects) → LeadsTo s m (front ++ rest) n → (k : Objects) × LeadsTo s m front k × LeadsTo (run s front) k rest n
leads_cut s m [] rest n h = (m, refl, h)
leads_cut s m (e ∷ front) rest n h =
    let more : (k : Objects) × LeadsTo (after_entry s e) h.2 front k × LeadsTo (run (after_entry s e) front) k rest n = leads_cut (after_entry s e) h.2 front rest n h.6 in
    (more.0, (h.0, h.1, h.2, h.3, h.4, h.5, more.1), more.2)

-- The front leads to objects that keep what is promised.
pub led_cut : (start : Start) (m n : Objects) (front rest : List LogEntry) → LedTo start m (front ++ rest) n
    → (k : Objects) × LedTo start m front k × LeadsTo (state start front) k rest n × KeepsStore start front k
led_cut start m n front rest led =
    let c : (k : Objects) × LeadsTo (first_state start) m front k × LeadsTo (state start front) k rest n = leads_cut (first_state start) m front rest n led.leads in
    let front_led : LedTo start m front c.0 = record { begun = led.begun; mirrors = led.mirrors; leads = c.1 } in
    (c.0, front_led, c.2, keeps_store start m front c.0 front_led)

module _ {O : Type 0} (objects : O → Option Objects) (faults : O → ℕ) (start : Start) (body : Body O) (w : IsWhole objects faults start body) where
  pub stored_end : Told start.objects (λ m. (n : Objects) × (objects body.origin ≡ Some n) × KeepsStore start body.log.items n)
  stored_end = λ m told.
      let l : (n : Objects) × (objects body.origin ≡ Some n) × LeadsTo (first_state start) m body.log.items n = w.leads m told in
      (l.0, l.1, keeps_store start m body.log.items l.0 (record { begun = w.begun; mirrors = w.begun.mirrors m told; leads = l.2 }))

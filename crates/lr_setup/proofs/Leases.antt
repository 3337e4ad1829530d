-- Each device of the setup has a lease of its own.
use Rattle.std.proofs.Common.{◌≡◌, ◌≢◌, ◌≤◌, ◌+◌, ℕ, zero, suc, List, [], ◌∷◌, ◌++◌, map, Some, slice_get, sym, ap, subst, ◌∙◌, arith}
use Rattle.std.specs.Prelude.{⊤}
use Rattle.std.specs.List.{AllByRecursion}
use Rattle.lr_rules.specs.State.{State}
use Rattle.lr_rules.specs.Safe.{IsSafe}
use Rattle.lr_rules.proofs.Start.{start_safe}
use Rattle.lr_depot.specs.declared.call.DepotNoted.TheVariants as noted
use Rattle.lr_depot.specs.declared.call.DepotTold.TheVariants as told
use Rattle.lr_depot.specs.Begun.{Start}
use Rattle.lr_depot.specs.Depot.{first_state}
use Rattle.lr_depot.specs.Machine.{LogEntry, after_entry}
use Rattle.lr_depot.specs.Store.{IsRun}
use Rattle.lr_depot.proofs.Moved.{entry_safe}
use Rattle.lr_walk.specs.Calls.{DevicePlace}
use Rattle.lr_history.specs.Run.{ImageLine, DeviceLine, DeviceSeen, Run}
use Rattle.lr_history.specs.Lists.{place_of, context_of}
use Rattle.lr_history.specs.Claims.{HaveOwnLeases}
use Rattle.lr_history.proofs.Public.{all_weaker}
use Rattle.lr_setup.specs.Setup.{SetupLine, rotates, creates, opens, devices_of, entry, IsSetup}
use Rattle.lr_setup.specs.Whole.{IsWhole}
use Rattle.lr_setup.proofs.Steps.{opened_step}
use Rattle.lr_setup.proofs.Opening.{created, created_state}
use Rattle.lr_setup.proofs.Whole.{setup_runs}

-- no two of these lines have one lease
abbrev AreApart : List DeviceLine → Type 0
AreApart [] = ⊤
AreApart (d ∷ lines) = AllByRecursion (λ (x : DeviceLine). x.lease ≢ d.lease) lines × AreApart lines

-- the leases of these lines are this one or later ones
abbrev AreFrom : ℕ → List DeviceLine → Type 0
AreFrom lease lines = AllByRecursion (λ (d : DeviceLine). lease ≤ d.lease) lines

leased : (lines : List SetupLine) (before : List ImageLine) (s : State) (log : List LogEntry) → IsSafe s → IsRun s log → IsSetup s before lines log
    → AreFrom s.desk.next_lease (devices_of lines) × AreApart (devices_of lines)
leased [] before s log safe is w = (tt, tt)
leased (rotates salt ∷ lines) before s log safe is w =
    let e : LogEntry = entry (noted.Rotate salt) (told.Rotated w.0) in
    let runs : IsRun s (e ∷ w.1) = subst (IsRun s) w.2 is in
    leased lines before (after_entry s e) w.1 (entry_safe s safe e runs.0 runs.1 runs.2 runs.3) runs.4 w.3
leased (creates line ∷ lines) before s log safe is w =
    let runs = subst (IsRun s) w.5 is in
    let c = created s safe line w.0 w.1 w.2 w.3 w.4 w.6 runs in
    let more = leased lines (before ++ line ∷ []) (created_state s line w.0 w.1 w.2 w.3) w.4 c.safe c.runs w.8 in
    (subst (λ (n : ℕ). AreFrom n (devices_of lines)) c.lease more.0, more.1)
leased (opens d ∷ lines) before s log safe is w =
    let e : LogEntry = entry (noted.OpenImage d.image) (told.Opened d.lease w.0) in
    let runs : IsRun s (e ∷ w.1) = subst (IsRun s) w.2 is in
    let o = opened_step s d.image d.lease w.0 runs.0 runs.1 runs.3.noted runs.3.told runs.2 in
    let here : d.lease ≡ s.desk.next_lease = o.0 in
    let more = leased lines before (after_entry s e) w.1 (entry_safe s safe e runs.0 runs.1 runs.2 runs.3) runs.4 w.8 in (
      (omega arith, all_weaker (λ (x : DeviceLine). s.desk.next_lease + 1 ≤ x.lease) (λ (x : DeviceLine). s.desk.next_lease ≤ x.lease) (λ x l. omega arith) (devices_of lines) more.0),
      (all_weaker (λ (x : DeviceLine). s.desk.next_lease + 1 ≤ x.lease) (λ (x : DeviceLine). x.lease ≢ d.lease) (λ x l same. absurd (omega (arith, l, same, here))) (devices_of lines) more.0, more.1),
    )

-- ---- places

abbrev line_of : DeviceSeen → DeviceLine
line_of d = d.line

another_lease : (lease : ℕ) (ds : List DeviceSeen) → AllByRecursion (λ (x : DeviceLine). x.lease ≢ lease) (map line_of ds) → (j : ℕ) (q : DevicePlace) → slice_get (map place_of ds) j ≡ Some q → q.lease ≢ lease
another_lease lease [] h j q e = absurd (cc)
another_lease lease (d ∷ ds) h zero q e = let same : place_of d ≡ q = cc in subst (λ (p : DevicePlace). p.lease ≢ lease) same h.0
another_lease lease (d ∷ ds) h (suc j) q e = another_lease lease ds h.1 j q e

one_place : (ds : List DeviceSeen) → AreApart (map line_of ds) → (i j : ℕ) (p q : DevicePlace) → slice_get (map place_of ds) i ≡ Some p → slice_get (map place_of ds) j ≡ Some q → p.lease ≡ q.lease → p ≡ q
one_place [] h i j p q e f same = absurd (cc)
one_place (d ∷ ds) h zero zero p q e f same = cc
one_place (d ∷ ds) h zero (suc j) p q e f same =
    let first : place_of d ≡ p = cc in
    absurd (another_lease d.line.lease ds h.0 j q f (sym same ∙ ap (λ (x : DevicePlace). x.lease) (sym first)))
one_place (d ∷ ds) h (suc i) zero p q e f same =
    let first : place_of d ≡ q = cc in
    absurd (another_lease d.line.lease ds h.0 i p e (same ∙ ap (λ (x : DevicePlace). x.lease) (sym first)))
one_place (d ∷ ds) h (suc i) (suc j) p q e f same = one_place ds h.1 i j p q e f same

pub own_leases : (start : Start) (lines : List SetupLine) (run : Run) → IsWhole start lines run → HaveOwnLeases (context_of run)
own_leases start lines run w =
    let all = leased lines [] (first_state start) w.setup.0 (start_safe start.view start.number w.led.begun.may) (setup_runs start lines run w) w.setup.3 in
    one_place run.devices (subst AreApart (sym w.devices) all.1)

-- What is held of a depot is its state.
use Rattle.std.proofs.Common.{◌≡◌, ◌≤◌, ◌+◌, ℕ, sym, subst, arith}
use Rattle.std.specs.FinMap as map
use Rattle.lr_rules.specs.State.{State}
use Rattle.lr_rules.specs.Safe.{IsSafe}
use Rattle.lr_rules.specs.Names.{HasRoom}
use Rattle.lr_depot.specs.declared.call.DepotNoted.{DepotNoted}
use Rattle.lr_depot.specs.declared.call.DepotTold.{DepotTold}
use Rattle.lr_depot.specs.declared.kernel.Kernel.{Kernel}
use Rattle.lr_depot.specs.Machine.{state_after}
use Rattle.lr_depot.specs.Kernel.{state_of, IsOf, IsReady, places, held}
use Rattle.lr_depot.proofs.Places.{held_more}

module _ (kernel : Kernel) (s : State) (h : IsOf kernel s) where
  pub of_state : state_of kernel s.desk.makers ≡ s
  of_state = λ i. record {
    known = record { view = h.view i; doubts = h.doubts i };
    desk = record { leases = h.leases i; sessions = h.sessions i; makers = s.desk.makers; next_lease = h.next_lease i; next_session = h.next_session i; next_number = h.next_number i };
  }

  pub ready_of : IsSafe s → HasRoom s → IsReady kernel
  ready_of safe room = record {
    makers = s.desk.makers;
    own = h.makers;
    aside = h.aside;
    safe = subst IsSafe (sym of_state) safe;
    room = subst HasRoom (sym of_state) room;
  }

  pub of_places : places kernel ≡ held s
  of_places = λ i. map.len (h.leases i) + map.len (h.sessions i)

-- After an entry at most one lease or session more is out.
pub more_places : (s : State) (old new : Kernel) (c : ℕ) (n : DepotNoted) (t : DepotTold) → IsOf old s → IsOf new (state_after s c n t) → places new ≤ places old + 1
more_places s old new c n t of after =
    let more : held (state_after s c n t) ≤ held s + 1 = held_more s c n t in
    let before : places old ≡ held s = of_places old s of in
    let now : places new ≡ held (state_after s c n t) = of_places new (state_after s c n t) after in
    omega (arith, more, before, now)

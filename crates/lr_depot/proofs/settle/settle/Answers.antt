use Rattle.std.proofs.Common.{◌≡◌, refl, sym, ap, subst, ◌∙◌}
use Rattle.std.specs.FinMap as map
use Rattle.lr_roots.specs.Catalog.{Seen, with_key}
use Rattle.lr_rules.specs.Known.{accepted, dismissed}
use Rattle.lr_rules.specs.State.{Desk}
use Rattle.lr_rules.specs.Calls.{knows, MaySettle, settled_there}
use Rattle.lr_rules.proofs.Keeps.{found_known}
use Rattle.lr_rules.proofs.Outcomes.{is_some}
use Rattle.lr_depot.specs.declared.call.DepotCall.TheVariants as call
use Rattle.lr_depot.specs.declared.call.DepotNoted.TheVariants as noted
use Rattle.lr_depot.specs.declared.call.DepotReply.TheVariants as reply
use Rattle.lr_depot.specs.declared.call.DepotTold.TheVariants as told
use Rattle.lr_roots.specs.View.{Has, Lacks}
use Rattle.lr_depot.proofs.Found.{found_rest}
use Rattle.lr_depot.proofs.Making.{AreAlike, settled_alike, dismissed_alike}
use Rattle.lr_depot.proofs.Puts.{ok_fact}
use Rattle.lr_depot.proofs.Ready.{moves_logged, known_after}
use Rattle.lr_depot.proofs.Served.{known_of, settled_sessions, found_after}
use Rattle.lr_roots.specs.View.{Fits}
use Rattle.lr_roots.specs.Keys.{plain}
use Rattle.lr_rules.proofs.Grammar.{doubt_fits}
use Rattle.lr_rules.proofs.Room.{insert_room, doubt_names}
use Rattle.lr_depot.specs.Kernel.{state_of, IsOf}
use Rattle.lr_depot.proofs.settle.settle.Goals as goal

pub prepare-requires-clause-fits : goal.prepare-requires-clause-fits
prepare-requires-clause-fits g c = subst (Fits c.args.key) (sym c.in-Ok-Ok.ensures) (doubt_fits (state_of c.args.kernel.now c.requires.ready.makers) c.requires.ready.safe c.args.key (plain c.in-Some.kept.now) c.in-Some.ensures.0)

pub prepare-requires-clause-few : goal.prepare-requires-clause-few
prepare-requires-clause-few g c =
    insert_room (state_of c.args.kernel.now c.requires.ready.makers) c.requires.ready.room c.args.key (plain c.in-Ok-Ok.again)
    (doubt_names (state_of c.args.kernel.now c.requires.ready.makers) c.requires.ready.safe c.args.key (plain c.in-Some.kept.now) c.in-Some.ensures.0)

pub returns-in_default-found-clause-served : goal.returns-in_default-found-clause-served
returns-in_default-found-clause-served g c = λ makers own.
    let prepared = ok_fact c.prepare.result _ c.if-is_err.ensures.value c.prepare.ensures.ok in
    let may : MaySettle (state_of c.args.kernel.now makers) c.args.key (plain c.in-Some.kept.now) = record { here = c.in-Some.ensures.0; absent = c.in-Some.ensures.1 } in
    let v : c.forget-in_default-found.new.self.view ≡ c.args.kernel.now.catalog.view = ap (λ (s : Seen). s.view) c.forget-in_default-found.ensures ∙ ap (λ (s : Seen). s.view) prepared in
    let known : known_of (record { catalog = c.forget-in_default-found.new.self; doubts = c.remove.new.self; makers = c.remove-in_default-found.new.self; leases = c.args.kernel.now.leases; sessions = c.args.kernel.now.sessions; next_lease = c.args.kernel.now.next_lease; next_session = c.args.kernel.now.next_session; next_number = c.args.kernel.now.next_number }) ≡ (dismissed (known_of c.args.kernel.now) c.args.key) = λ i. record { view = v i; doubts = c.remove.ensures i } in
    moves_logged (state_of c.args.kernel.now makers) (record { catalog = c.forget-in_default-found.new.self; doubts = c.remove.new.self; makers = c.remove-in_default-found.new.self; leases = c.args.kernel.now.leases; sessions = c.args.kernel.now.sessions; next_lease = c.args.kernel.now.next_lease; next_session = c.args.kernel.now.next_session; next_number = c.args.kernel.now.next_number }) c.args.caller (call.Settle c.args.key) (noted.Settle c.args.key) c.logged-in_default-found.result reply.Absent told.Absent c.logged-in_default-found.ensures ((plain c.in-Some.kept.now), may) refl refl
    (known_after _ (knows (state_of c.args.kernel.now makers) (dismissed (known_of c.args.kernel.now) c.args.key)) (ap (λ (s : Seen). s.aside) c.forget-in_default-found.ensures) known refl refl refl refl refl
    (subst (λ t. AreAlike t c.remove-in_default-found.new.self makers) (sym known) (subst (λ m. AreAlike (dismissed (known_of c.args.kernel.now) c.args.key) m makers) (sym c.remove-in_default-found.ensures) (dismissed_alike (known_of c.args.kernel.now) c.args.kernel.now.makers makers own c.args.key))))

pub returns-clause-served : goal.returns-clause-served
returns-clause-served g c = λ makers own.
    let prepared = ok_fact c.prepare.result _ c.if-is_err.ensures.value c.prepare.ensures.ok in
    let may : MaySettle (state_of c.args.kernel.now makers) c.args.key (plain c.in-Some.kept.now) = record { here = c.in-Some.ensures.0; absent = c.in-Some.ensures.1 } in
    let v : c.accept.new.self.view ≡ map.insert c.args.kernel.now.catalog.view c.args.key (plain c.in-Some.kept.now) = ap (λ (s : Seen). s.view) c.accept.ensures ∙ ap (λ (s : Seen). with_key s.aside s.view) prepared ∙ ap (map.insert c.args.kernel.now.catalog.view c.args.key) c.in-Ok-Ok.ensures in
    let known : known_of (record { catalog = c.accept.new.self; doubts = c.remove-2.new.self; makers = c.end_maker.new.makers; leases = c.args.kernel.now.leases; sessions = c.end_maker.new.sessions; next_lease = c.args.kernel.now.next_lease; next_session = c.args.kernel.now.next_session; next_number = c.args.kernel.now.next_number }) ≡ (accepted (known_of c.args.kernel.now) c.args.key (plain c.in-Some.kept.now)) = λ i. record { view = v i; doubts = c.remove-2.ensures i } in
    let rest = found_rest (state_of c.args.kernel.now makers) c.args.key (plain c.in-Some.kept.now) in
    moves_logged (state_of c.args.kernel.now makers) (record { catalog = c.accept.new.self; doubts = c.remove-2.new.self; makers = c.end_maker.new.makers; leases = c.args.kernel.now.leases; sessions = c.end_maker.new.sessions; next_lease = c.args.kernel.now.next_lease; next_session = c.args.kernel.now.next_session; next_number = c.args.kernel.now.next_number }) c.args.caller (call.Settle c.args.key) (noted.Settle c.args.key) c.logged-2.result reply.There told.There c.logged-2.ensures ((plain c.in-Some.kept.now), may) refl refl
    (subst (IsOf (record { catalog = c.accept.new.self; doubts = c.remove-2.new.self; makers = c.end_maker.new.makers; leases = c.args.kernel.now.leases; sessions = c.end_maker.new.sessions; next_lease = c.args.kernel.now.next_lease; next_session = c.args.kernel.now.next_session; next_number = c.args.kernel.now.next_number })) (sym (found_after (state_of c.args.kernel.now makers) c.args.caller c.args.key (plain c.in-Some.kept.now) may.here))
    (known_after _ (settled_there (state_of c.args.kernel.now makers) c.args.key (plain c.in-Some.kept.now)) (ap (λ (s : Seen). s.aside) c.accept.ensures) (known ∙ sym (found_known (state_of c.args.kernel.now makers) c.args.key (plain c.in-Some.kept.now)))
    (ap (λ (d : Desk). d.leases) (sym rest))
    (c.end_maker.ensures.sessions ∙ settled_sessions (state_of c.args.kernel.now makers) c.args.key (plain c.in-Some.kept.now) (map.get c.args.kernel.now.makers c.args.key) (doubt_fits (state_of c.args.kernel.now c.requires.ready.makers) c.requires.ready.safe c.args.key (plain c.in-Some.kept.now) may.here)
    (λ r image is. subst (λ k. Has c.args.kernel.now.doubts k → Lacks c.args.kernel.now.catalog.view k → map.get c.args.kernel.now.makers k ≡ map.get makers k) (sym is) (own r image) (is_some _ (plain c.in-Some.kept.now) may.here) may.absent))
    (ap (λ (d : Desk). d.next_lease) (sym rest)) (ap (λ (d : Desk). d.next_session) (sym rest)) (ap (λ (d : Desk). d.next_number) (sym rest))
    (subst (λ t. AreAlike t c.end_maker.new.makers (settled_there (state_of c.args.kernel.now makers) c.args.key (plain c.in-Some.kept.now)).desk.makers) (sym known)
    (subst (λ (d : Desk). AreAlike (accepted (known_of c.args.kernel.now) c.args.key (plain c.in-Some.kept.now)) c.end_maker.new.makers d.makers) (sym rest)
    (subst (λ m. AreAlike (accepted (known_of c.args.kernel.now) c.args.key (plain c.in-Some.kept.now)) m makers) (sym c.end_maker.ensures.makers) (settled_alike (known_of c.args.kernel.now) c.args.kernel.now.makers makers own c.args.key (plain c.in-Some.kept.now)))))))

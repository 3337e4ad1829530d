use Rattle.std.proofs.Common.{◌≡◌, None, refl, sym, ap, subst, ◌∙◌}
use Rattle.std.specs.Arc.{arc_value}
use Rattle.std.specs.FinMap as map
use Rattle.lr_manifest.specs.Manifest.{spelling}
use Rattle.lr_origin.specs.declared.key.KeyKind.TheVariants.{Manifest}
use Rattle.lr_roots.specs.View.{manifest, Lacks}
use Rattle.lr_roots.specs.Roots.{IsHome, IsComplete}
use Rattle.lr_rules.specs.Known.{accepted, doubting}
use Rattle.lr_rules.specs.State.{Moves}
use Rattle.lr_rules.specs.Calls.{MayMove, made, making}
use Rattle.lr_rules.proofs.Keys.{no_some}
use Rattle.lr_rules.proofs.Outcomes.{is_some}
use Rattle.lr_rules.proofs.Serving.{move_serves}
use Rattle.lr_rules.proofs.Manifests.{none_yet}
use Rattle.lr_depot.specs.declared.call.DepotCall.TheVariants as call
use Rattle.lr_depot.specs.declared.call.DepotNoted.TheVariants as noted
use Rattle.lr_depot.specs.declared.call.DepotReply.TheVariants as reply
use Rattle.lr_depot.specs.declared.call.DepotTold.TheVariants as told
use Rattle.lr_depot.specs.declared.put.PutEnd.TheVariants.{Kept as Done, Fault as Failed}
use Rattle.lr_depot.specs.Kernel.{state_of, IsOf}
use Rattle.lr_depot.specs.Store.{Puts, StoreStep}
use Rattle.lr_depot.proofs.Making.{noted_failed, noted_done, noted_same}
use Rattle.lr_depot.proofs.Puts.{ok_fact}
use Rattle.lr_depot.proofs.Ready.{target_root, is_sure, moves_logged, moves_unlogged, known_after}
use Rattle.lr_depot.proofs.Served.{moved_few, moved_after, unmoved_after}
use Rattle.lr_depot.proofs.copying.finish_migrate.Goals as goal

pub unreachable-requires : goal.unreachable-requires
unreachable-requires g c =
    let w = move_serves (state_of c.args.kernel.now c.requires.ready.makers) c.requires.ready.safe c.args.session c.args.caller c.in-Some.route.image c.in-Some.route.from c.in-Some.route.to (arc_value c.in-Some.manifest.now) c.in-Some.ensures in
    no_some _ (c.in_default-home.ensures c.in-Some.route.from (w.0.0, w.0.1)) (is_some _ (manifest (arc_value c.in-Some.manifest.now)) w.2)

pub of-key-requires : goal.of-key-requires
of-key-requires g c = record { root = target_root c.args.kernel.now c.requires.ready c.args.session c.args.caller (Moves c.in-Some.route.image c.in-Some.route.from c.in-Some.route.to (arc_value c.in-Some.manifest.now)) c.in-Some.ensures }

pub put_key-end-requires-clause-absent : goal.put_key-end-requires-clause-absent
put_key-end-requires-clause-absent g c =
    let may : MayMove (state_of c.args.kernel.now c.requires.ready.makers) c.args.session c.args.caller c.in-Some.route.image c.in-Some.route.from c.in-Some.route.to (arc_value c.in-Some.manifest.now) = record {
      session = c.in-Some.ensures;
      home = subst (IsHome c.args.kernel.now.catalog.view c.in-Some.route.image) c.if-home-from.false c.in-Some-home.ensures;
      sure = subst (λ k. map.get c.args.kernel.now.doubts k ≡ None) c.of-key.ensures (is_sure c.args.kernel.now c.requires.ready c.of-key.result c.is_in_doubt.ensures c.if-is_in_doubt.false);
      whole = subst (IsComplete c.args.kernel.now.catalog.view c.in-Some.route.to) c.deref.ensures c.in_default-missing.ensures;
    } in
    subst (Lacks c.args.kernel.now.catalog.view) (sym c.of-key.ensures) (none_yet (state_of c.args.kernel.now c.requires.ready.makers) c.requires.ready.safe c.args.session c.args.caller c.in-Some.route.image c.in-Some.route.from c.in-Some.route.to (arc_value c.in-Some.manifest.now) may)

pub put_key-end-requires-clause-few : goal.put_key-end-requires-clause-few
put_key-end-requires-clause-few g c = moved_few c.args.kernel.now c.requires.ready c.args.session c.args.caller c.in-Some.route.image c.in-Some.route.from c.in-Some.route.to (arc_value c.in-Some.manifest.now) c.of-key.result _ c.in-Some.ensures c.of-key.ensures

pub returns-in-Kept-clause-served : goal.returns-in-Kept-clause-served
returns-in-Kept-clause-served g c = λ makers own.
    let may : MayMove (state_of c.args.kernel.now makers) c.args.session c.args.caller c.in-Some.route.image c.in-Some.route.from c.in-Some.route.to (arc_value c.in-Some.manifest.now) = record {
      session = c.in-Some.ensures;
      home = subst (IsHome c.args.kernel.now.catalog.view c.in-Some.route.image) c.if-home-from.false c.in-Some-home.ensures;
      sure = subst (λ k. map.get c.args.kernel.now.doubts k ≡ None) c.of-key.ensures (is_sure c.args.kernel.now c.requires.ready c.of-key.result c.is_in_doubt.ensures c.if-is_in_doubt.false);
      whole = subst (IsComplete c.args.kernel.now.catalog.view c.in-Some.route.to) c.deref.ensures c.in_default-missing.ensures;
    } in
    moves_logged (state_of c.args.kernel.now makers) (record { catalog = c.put_key-end.new.catalog; doubts = c.put_key-end.new.doubts; makers = c.remove.new.self; leases = c.args.kernel.now.leases; sessions = c.remove-in-Kept.new.self; next_lease = c.args.kernel.now.next_lease; next_session = c.args.kernel.now.next_session; next_number = c.args.kernel.now.next_number }) c.args.caller (call.FinishMigrate c.args.session) (noted.FinishMigrate c.args.session) c.logged-in-Kept.result
    (reply.Moved c.in-Some.route.from c.in-Some.route.to) (told.Moved c.in-Some.route.from c.in-Some.route.to) c.logged-in-Kept.ensures (c.in-Some.route.image, (arc_value c.in-Some.manifest.now), may) refl refl
    (subst (IsOf (record { catalog = c.put_key-end.new.catalog; doubts = c.put_key-end.new.doubts; makers = c.remove.new.self; leases = c.args.kernel.now.leases; sessions = c.remove-in-Kept.new.self; next_lease = c.args.kernel.now.next_lease; next_session = c.args.kernel.now.next_session; next_number = c.args.kernel.now.next_number })) (sym (moved_after (state_of c.args.kernel.now makers) c.args.caller c.args.session c.in-Some.route.image c.in-Some.route.from c.in-Some.route.to (arc_value c.in-Some.manifest.now) c.in-Some.ensures))
    (known_after _ (made (state_of c.args.kernel.now makers) c.args.session c.in-Some.route.image c.in-Some.route.to (arc_value c.in-Some.manifest.now)) c.put_key-end.ensures.aside
    (c.in-Kept.ensures.known ∙ ap (λ k. accepted (record { view = c.args.kernel.now.catalog.view; doubts = c.args.kernel.now.doubts }) k (manifest (arc_value c.in-Ok-Ok.handle))) c.of-key.ensures ∙ ap (λ m. accepted (record { view = c.args.kernel.now.catalog.view; doubts = c.args.kernel.now.doubts }) (Manifest c.in-Some.route.to c.in-Some.route.image) (manifest m)) c.in-Ok-Ok.ensures) refl c.remove-in-Kept.ensures refl refl refl
    (noted_done (record { view = c.args.kernel.now.catalog.view; doubts = c.args.kernel.now.doubts }) c.args.kernel.now.makers makers own c.of-key.result (Manifest c.in-Some.route.to c.in-Some.route.image) (manifest (arc_value c.in-Ok-Ok.handle)) c.args.session (is_sure c.args.kernel.now c.requires.ready c.of-key.result c.is_in_doubt.ensures c.if-is_in_doubt.false) c.of-key.ensures c.insert.new.self (ok_fact c.insert.result _ c.if-is_err.ensures.value c.insert.ensures.ok) _ c.remove.new.self c.in-Kept.ensures.known c.remove.ensures)))

pub returns-in-Kept-clause-store : goal.returns-in-Kept-clause-store
returns-in-Kept-clause-store g c = λ makers m told.
    let may : MayMove (state_of c.args.kernel.now makers) c.args.session c.args.caller c.in-Some.route.image c.in-Some.route.from c.in-Some.route.to (arc_value c.in-Some.manifest.now) = record {
      session = c.in-Some.ensures;
      home = subst (IsHome c.args.kernel.now.catalog.view c.in-Some.route.image) c.if-home-from.false c.in-Some-home.ensures;
      sure = subst (λ k. map.get c.args.kernel.now.doubts k ≡ None) c.of-key.ensures (is_sure c.args.kernel.now c.requires.ready c.of-key.result c.is_in_doubt.ensures c.if-is_in_doubt.false);
      whole = subst (IsComplete c.args.kernel.now.catalog.view c.in-Some.route.to) c.deref.ensures c.in_default-missing.ensures;
    } in
    subst (λ a. StoreStep (state_of c.args.kernel.now makers) c.args.caller (call.FinishMigrate c.args.session) a m (g.O.Origin.objects c.put_key-end.new.origin)) (sym c.logged-in-Kept.ensures.0)
    (c.in-Some.route.image, (arc_value c.in-Some.manifest.now), may, subst (λ k. Puts (state_of c.args.kernel.now makers) k (spelling (arc_value c.in-Some.manifest.now)) Done m (g.O.Origin.objects c.put_key-end.new.origin)) c.of-key.ensures (subst (λ b. Puts (state_of c.args.kernel.now makers) c.of-key.result b Done m (g.O.Origin.objects c.put_key-end.new.origin)) (c.as_slice.ensures.value ∙ c.in-Ok.ensures.1 ∙ ap spelling c.deref-2.ensures) (c.in-Kept.ensures.store m told)))

pub returns-in-Fault-clause-served : goal.returns-in-Fault-clause-served
returns-in-Fault-clause-served g c = λ makers own.
    let may : MayMove (state_of c.args.kernel.now makers) c.args.session c.args.caller c.in-Some.route.image c.in-Some.route.from c.in-Some.route.to (arc_value c.in-Some.manifest.now) = record {
      session = c.in-Some.ensures;
      home = subst (IsHome c.args.kernel.now.catalog.view c.in-Some.route.image) c.if-home-from.false c.in-Some-home.ensures;
      sure = subst (λ k. map.get c.args.kernel.now.doubts k ≡ None) c.of-key.ensures (is_sure c.args.kernel.now c.requires.ready c.of-key.result c.is_in_doubt.ensures c.if-is_in_doubt.false);
      whole = subst (IsComplete c.args.kernel.now.catalog.view c.in-Some.route.to) c.deref.ensures c.in_default-missing.ensures;
    } in
    moves_logged (state_of c.args.kernel.now makers) (record { catalog = c.put_key-end.new.catalog; doubts = c.put_key-end.new.doubts; makers = c.insert.new.self; leases = c.args.kernel.now.leases; sessions = c.args.kernel.now.sessions; next_lease = c.args.kernel.now.next_lease; next_session = c.args.kernel.now.next_session; next_number = c.args.kernel.now.next_number }) c.args.caller (call.FinishMigrate c.args.session) (noted.FinishMigrate c.args.session) c.logged-in-Fault.result
    (reply.Fault c.of-key.result) (told.Fault c.of-key.result) c.logged-in-Fault.ensures (c.in-Some.route.image, c.in-Some.route.from, c.in-Some.route.to, (arc_value c.in-Some.manifest.now), may, c.of-key.ensures) refl refl
    (subst (IsOf (record { catalog = c.put_key-end.new.catalog; doubts = c.put_key-end.new.doubts; makers = c.insert.new.self; leases = c.args.kernel.now.leases; sessions = c.args.kernel.now.sessions; next_lease = c.args.kernel.now.next_lease; next_session = c.args.kernel.now.next_session; next_number = c.args.kernel.now.next_number })) (sym (unmoved_after (state_of c.args.kernel.now makers) c.args.caller c.args.session c.in-Some.route.image c.in-Some.route.from c.in-Some.route.to (arc_value c.in-Some.manifest.now) c.of-key.result c.in-Some.ensures))
    (known_after _ (making (state_of c.args.kernel.now makers) c.args.session c.in-Some.route.image c.in-Some.route.to (arc_value c.in-Some.manifest.now)) c.put_key-end.ensures.aside
    (c.in-Fault.ensures.known ∙ ap (λ k. doubting (record { view = c.args.kernel.now.catalog.view; doubts = c.args.kernel.now.doubts }) k (manifest (arc_value c.in-Ok-Ok.handle))) c.of-key.ensures ∙ ap (λ m. doubting (record { view = c.args.kernel.now.catalog.view; doubts = c.args.kernel.now.doubts }) (Manifest c.in-Some.route.to c.in-Some.route.image) (manifest m)) c.in-Ok-Ok.ensures) refl refl refl refl refl
    (noted_failed (record { view = c.args.kernel.now.catalog.view; doubts = c.args.kernel.now.doubts }) c.args.kernel.now.makers makers own c.of-key.result (Manifest c.in-Some.route.to c.in-Some.route.image) (manifest (arc_value c.in-Ok-Ok.handle)) c.args.session (is_sure c.args.kernel.now c.requires.ready c.of-key.result c.is_in_doubt.ensures c.if-is_in_doubt.false) c.of-key.ensures c.insert.new.self (ok_fact c.insert.result _ c.if-is_err.ensures.value c.insert.ensures.ok) _ c.in-Fault.ensures.known)))

pub returns-in-Fault-clause-store : goal.returns-in-Fault-clause-store
returns-in-Fault-clause-store g c = λ makers m told.
    let may : MayMove (state_of c.args.kernel.now makers) c.args.session c.args.caller c.in-Some.route.image c.in-Some.route.from c.in-Some.route.to (arc_value c.in-Some.manifest.now) = record {
      session = c.in-Some.ensures;
      home = subst (IsHome c.args.kernel.now.catalog.view c.in-Some.route.image) c.if-home-from.false c.in-Some-home.ensures;
      sure = subst (λ k. map.get c.args.kernel.now.doubts k ≡ None) c.of-key.ensures (is_sure c.args.kernel.now c.requires.ready c.of-key.result c.is_in_doubt.ensures c.if-is_in_doubt.false);
      whole = subst (IsComplete c.args.kernel.now.catalog.view c.in-Some.route.to) c.deref.ensures c.in_default-missing.ensures;
    } in
    subst (λ a. StoreStep (state_of c.args.kernel.now makers) c.args.caller (call.FinishMigrate c.args.session) a m (g.O.Origin.objects c.put_key-end.new.origin)) (sym c.logged-in-Fault.ensures.0)
    (c.in-Some.route.image, c.in-Some.route.from, c.in-Some.route.to, (arc_value c.in-Some.manifest.now), may, c.of-key.ensures, subst (λ b. Puts (state_of c.args.kernel.now makers) c.of-key.result b Failed m (g.O.Origin.objects c.put_key-end.new.origin)) (c.as_slice.ensures.value ∙ c.in-Ok.ensures.1 ∙ ap spelling c.deref-2.ensures) (c.in-Fault.ensures.store m told))

pub returns-in-Spoiled-clause-served : goal.returns-in-Spoiled-clause-served
returns-in-Spoiled-clause-served g c = λ makers own.
    let may : MayMove (state_of c.args.kernel.now makers) c.args.session c.args.caller c.in-Some.route.image c.in-Some.route.from c.in-Some.route.to (arc_value c.in-Some.manifest.now) = record {
      session = c.in-Some.ensures;
      home = subst (IsHome c.args.kernel.now.catalog.view c.in-Some.route.image) c.if-home-from.false c.in-Some-home.ensures;
      sure = subst (λ k. map.get c.args.kernel.now.doubts k ≡ None) c.of-key.ensures (is_sure c.args.kernel.now c.requires.ready c.of-key.result c.is_in_doubt.ensures c.if-is_in_doubt.false);
      whole = subst (IsComplete c.args.kernel.now.catalog.view c.in-Some.route.to) c.deref.ensures c.in_default-missing.ensures;
    } in
    moves_logged (state_of c.args.kernel.now makers) (record { catalog = c.put_key-end.new.catalog; doubts = c.put_key-end.new.doubts; makers = c.remove-in-Spoiled.new.self; leases = c.args.kernel.now.leases; sessions = c.args.kernel.now.sessions; next_lease = c.args.kernel.now.next_lease; next_session = c.args.kernel.now.next_session; next_number = c.args.kernel.now.next_number }) c.args.caller (call.FinishMigrate c.args.session) (noted.FinishMigrate c.args.session) c.logged-in-Spoiled.result
    (reply.Spoiled c.of-key.result) (told.Spoiled c.of-key.result) c.logged-in-Spoiled.ensures (c.in-Some.route.image, c.in-Some.route.from, c.in-Some.route.to, (arc_value c.in-Some.manifest.now), may, c.of-key.ensures) refl refl
    (known_after _ (state_of c.args.kernel.now makers) c.put_key-end.ensures.aside c.in-Spoiled.ensures.known.0 refl refl refl refl refl
    (noted_same (record { view = c.args.kernel.now.catalog.view; doubts = c.args.kernel.now.doubts }) c.args.kernel.now.makers makers own c.of-key.result (Manifest c.in-Some.route.to c.in-Some.route.image) (manifest (arc_value c.in-Ok-Ok.handle)) c.args.session (is_sure c.args.kernel.now c.requires.ready c.of-key.result c.is_in_doubt.ensures c.if-is_in_doubt.false) c.of-key.ensures c.insert.new.self (ok_fact c.insert.result _ c.if-is_err.ensures.value c.insert.ensures.ok) _ c.remove-in-Spoiled.new.self c.in-Spoiled.ensures.known.0 c.remove-in-Spoiled.ensures))

pub returns-clause-served : goal.returns-clause-served
returns-clause-served g c = λ makers own.
    moves_unlogged (state_of c.args.kernel.now makers) (record { catalog = c.put_key-end.new.catalog; doubts = c.put_key-end.new.doubts; makers = c.remove-in-OutOfMemory.new.self; leases = c.args.kernel.now.leases; sessions = c.args.kernel.now.sessions; next_lease = c.args.kernel.now.next_lease; next_session = c.args.kernel.now.next_session; next_number = c.args.kernel.now.next_number }) c.args.caller (call.FinishMigrate c.args.session) (noted.FinishMigrate c.args.session) c.no_memory-in-OutOfMemory.result
    reply.OutOfMemory c.no_memory-in-OutOfMemory.ensures tt refl
    (known_after _ (state_of c.args.kernel.now makers) c.put_key-end.ensures.aside c.in-OutOfMemory.ensures.known refl refl refl refl refl
    (noted_same (record { view = c.args.kernel.now.catalog.view; doubts = c.args.kernel.now.doubts }) c.args.kernel.now.makers makers own c.of-key.result (Manifest c.in-Some.route.to c.in-Some.route.image) (manifest (arc_value c.in-Ok-Ok.handle)) c.args.session (is_sure c.args.kernel.now c.requires.ready c.of-key.result c.is_in_doubt.ensures c.if-is_in_doubt.false) c.of-key.ensures c.insert.new.self (ok_fact c.insert.result _ c.if-is_err.ensures.value c.insert.ensures.ok) _ c.remove-in-OutOfMemory.new.self c.in-OutOfMemory.ensures.known c.remove-in-OutOfMemory.ensures))

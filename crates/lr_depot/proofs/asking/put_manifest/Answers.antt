use Rattle.std.proofs.Common.{◌≡◌, Some, None, refl, sym, ap, subst, ◌∙◌}
use Rattle.std.specs.Arc.{arc_value}
use Rattle.std.specs.FinMap as map
use Rattle.lr_manifest.specs.Manifest.{spelling, IsManifest}
use Rattle.lr_origin.specs.declared.key.KeyKind.TheVariants.{Manifest}
use Rattle.lr_roots.specs.View.{manifest}
use Rattle.lr_roots.specs.Roots.{IsComplete}
use Rattle.lr_roots.specs.Names.{number_of}
use Rattle.lr_roots.specs.Sound.{maker_of}
use Rattle.lr_rules.specs.Known.{Known, accepted, doubting}
use Rattle.lr_rules.specs.Calls.{MayMake, made}
use Rattle.lr_depot.specs.declared.call.DepotCall.TheVariants.{PutManifest}
use Rattle.lr_depot.specs.declared.call.DepotNoted.TheVariants as noted
use Rattle.lr_depot.specs.declared.call.DepotReply.TheVariants as reply
use Rattle.lr_depot.specs.declared.call.DepotTold.TheVariants as told
use Rattle.lr_depot.specs.Machine.{state_after}
use Rattle.lr_depot.specs.Kernel.{state_of, IsOf}
use Rattle.lr_depot.proofs.Bodies.{made_store}
use Rattle.lr_depot.proofs.Ready.{creation_root, manifest_few, is_sure, moves_logged, moves_unlogged, known_after}
use Rattle.lr_depot.proofs.Making.{noted_failed, noted_done, noted_same}
use Rattle.lr_depot.proofs.Served.{made_after}
use Rattle.lr_depot.proofs.Puts.{ok_fact}
use Rattle.lr_depot.proofs.asking.put_manifest.Goals as goal

pub of-key-requires : goal.of-key-requires
of-key-requires g c = record {
  root = creation_root c.args.kernel.now c.requires.ready c.args.session c.args.caller c.in-Some.creation.image c.in-Some.creation.root c.in-Some.creation.number c.in-Some.ensures;
}

pub put_key-end-requires-clause-few : goal.put_key-end-requires-clause-few
put_key-end-requires-clause-few g c =
    manifest_few c.args.kernel.now c.requires.ready c.args.session c.args.caller c.in-Some.creation.image c.in-Some.creation.root c.in-Some.creation.number _ _ c.in-Some.ensures c.of-key.ensures

pub returns-in-Kept-clause-store : goal.returns-in-Kept-clause-store
returns-in-Kept-clause-store g c = λ makers m told.
    made_store (state_of c.args.kernel.now makers) c.args.caller c.args.session c.args.manifest.now c.logged-in-Kept.result.reply c.in-Some.creation.image c.in-Some.creation.root c.in-Some.creation.number
    c.of-key.result c.as_slice.result.now m _ c.logged-in-Kept.ensures.0 c.in-Some.ensures
    (ap maker_of (sym c.deref.ensures) ∙ sym c.root.ensures ∙ c.if-root-creation.false)
    (ap number_of (sym c.deref-else-root-creation.ensures) ∙ sym c.number.ensures ∙ c.if-number-creation.false)
    c.of-key.ensures (c.as_slice.ensures.value ∙ c.in-Ok.ensures.1 ∙ ap spelling c.deref-3.ensures) (c.in-Kept.ensures.store m told)

pub returns-in-Fault-clause-served : goal.returns-in-Fault-clause-served
returns-in-Fault-clause-served g c = λ makers own.
    let known : Known = record { view = c.args.kernel.now.catalog.view; doubts = c.args.kernel.now.doubts } in
    let may : MayMake (state_of c.args.kernel.now makers) c.args.session c.args.caller c.in-Some.creation.image c.in-Some.creation.root c.in-Some.creation.number (arc_value c.args.manifest.now) = record {
      session = c.in-Some.ensures;
      kind = subst IsManifest c.deref-3.ensures c.in-Ok.ensures.0;
      root = ap maker_of (sym c.deref.ensures) ∙ sym c.root.ensures ∙ c.if-root-creation.false;
      number = ap number_of (sym c.deref-else-root-creation.ensures) ∙ sym c.number.ensures ∙ c.if-number-creation.false;
      sure = subst (λ k. map.get c.args.kernel.now.doubts k ≡ None) c.of-key.ensures (is_sure c.args.kernel.now c.requires.ready c.of-key.result c.is_in_doubt.ensures c.if-is_in_doubt.false);
      whole = subst (IsComplete c.args.kernel.now.catalog.view c.in-Some.creation.root) c.deref-2.ensures c.in_default-missing.ensures;
    } in
    moves_logged (state_of c.args.kernel.now makers)
    (record { catalog = c.put_key-end.new.catalog; doubts = c.put_key-end.new.doubts; makers = c.insert.new.self; leases = c.args.kernel.now.leases; sessions = c.args.kernel.now.sessions; next_lease = c.args.kernel.now.next_lease; next_session = c.args.kernel.now.next_session; next_number = c.args.kernel.now.next_number })
    c.args.caller (PutManifest c.args.session c.args.manifest.now) (noted.PutManifest c.args.session c.args.manifest.now) c.logged-in-Fault.result
    (reply.Fault (Manifest c.in-Some.creation.root c.in-Some.creation.image)) (told.Fault (Manifest c.in-Some.creation.root c.in-Some.creation.image))
    (c.logged-in-Fault.ensures.0 ∙ ap reply.Fault c.of-key.ensures, c.logged-in-Fault.ensures.1 ∙ ap (λ k. Some (told.Fault k)) c.of-key.ensures)
    (c.in-Some.creation.image, c.in-Some.creation.root, c.in-Some.creation.number, may, refl) refl refl
    (known_after _ (state_after (state_of c.args.kernel.now makers) c.args.caller (noted.PutManifest c.args.session c.args.manifest.now) (told.Fault (Manifest c.in-Some.creation.root c.in-Some.creation.image)))
    c.put_key-end.ensures.aside
    (c.in-Fault.ensures.known ∙ ap (λ k. doubting known k (manifest (arc_value c.in-Ok-Ok.handle))) c.of-key.ensures ∙ ap (λ m. doubting known (Manifest c.in-Some.creation.root c.in-Some.creation.image) (manifest m)) c.in-Ok-Ok.ensures)
    refl refl refl refl refl
    (noted_failed known c.args.kernel.now.makers makers own c.of-key.result (Manifest c.in-Some.creation.root c.in-Some.creation.image) (manifest (arc_value c.in-Ok-Ok.handle)) c.args.session
    (is_sure c.args.kernel.now c.requires.ready c.of-key.result c.is_in_doubt.ensures c.if-is_in_doubt.false) c.of-key.ensures c.insert.new.self
    (ok_fact c.insert.result _ c.if-is_err.ensures.value c.insert.ensures.ok) _ c.in-Fault.ensures.known))

pub returns-in-Kept-clause-served : goal.returns-in-Kept-clause-served
returns-in-Kept-clause-served g c = λ makers own.
    let known : Known = record { view = c.args.kernel.now.catalog.view; doubts = c.args.kernel.now.doubts } in
    let may : MayMake (state_of c.args.kernel.now makers) c.args.session c.args.caller c.in-Some.creation.image c.in-Some.creation.root c.in-Some.creation.number (arc_value c.args.manifest.now) = record {
      session = c.in-Some.ensures;
      kind = subst IsManifest c.deref-3.ensures c.in-Ok.ensures.0;
      root = ap maker_of (sym c.deref.ensures) ∙ sym c.root.ensures ∙ c.if-root-creation.false;
      number = ap number_of (sym c.deref-else-root-creation.ensures) ∙ sym c.number.ensures ∙ c.if-number-creation.false;
      sure = subst (λ k. map.get c.args.kernel.now.doubts k ≡ None) c.of-key.ensures (is_sure c.args.kernel.now c.requires.ready c.of-key.result c.is_in_doubt.ensures c.if-is_in_doubt.false);
      whole = subst (IsComplete c.args.kernel.now.catalog.view c.in-Some.creation.root) c.deref-2.ensures c.in_default-missing.ensures;
    } in
    moves_logged (state_of c.args.kernel.now makers) (record { catalog = c.put_key-end.new.catalog; doubts = c.put_key-end.new.doubts; makers = c.remove.new.self; leases = c.args.kernel.now.leases; sessions = c.remove-in-Kept.new.self; next_lease = c.args.kernel.now.next_lease; next_session = c.args.kernel.now.next_session; next_number = c.args.kernel.now.next_number }) c.args.caller (PutManifest c.args.session c.args.manifest.now) (noted.PutManifest c.args.session c.args.manifest.now) c.logged-in-Kept.result
    (reply.Made c.in-Some.creation.root) (told.Made c.in-Some.creation.root) c.logged-in-Kept.ensures (c.in-Some.creation.image, c.in-Some.creation.number, may) refl refl
    (subst (IsOf (record { catalog = c.put_key-end.new.catalog; doubts = c.put_key-end.new.doubts; makers = c.remove.new.self; leases = c.args.kernel.now.leases; sessions = c.remove-in-Kept.new.self; next_lease = c.args.kernel.now.next_lease; next_session = c.args.kernel.now.next_session; next_number = c.args.kernel.now.next_number })) (sym (made_after (state_of c.args.kernel.now makers) c.args.caller c.args.session c.in-Some.creation.image c.in-Some.creation.root c.in-Some.creation.number c.args.manifest.now c.in-Some.ensures))
    (known_after _ (made (state_of c.args.kernel.now makers) c.args.session c.in-Some.creation.image c.in-Some.creation.root (arc_value c.args.manifest.now)) c.put_key-end.ensures.aside
    (c.in-Kept.ensures.known ∙ ap (λ k. accepted known k (manifest (arc_value c.in-Ok-Ok.handle))) c.of-key.ensures ∙ ap (λ m. accepted known (Manifest c.in-Some.creation.root c.in-Some.creation.image) (manifest m)) c.in-Ok-Ok.ensures) refl c.remove-in-Kept.ensures refl refl refl
    (noted_done known c.args.kernel.now.makers makers own c.of-key.result (Manifest c.in-Some.creation.root c.in-Some.creation.image) (manifest (arc_value c.in-Ok-Ok.handle)) c.args.session (is_sure c.args.kernel.now c.requires.ready c.of-key.result c.is_in_doubt.ensures c.if-is_in_doubt.false) c.of-key.ensures c.insert.new.self (ok_fact c.insert.result _ c.if-is_err.ensures.value c.insert.ensures.ok) _ c.remove.new.self c.in-Kept.ensures.known c.remove.ensures)))

pub returns-in-Spoiled-clause-served : goal.returns-in-Spoiled-clause-served
returns-in-Spoiled-clause-served g c = λ makers own.
    let known : Known = record { view = c.args.kernel.now.catalog.view; doubts = c.args.kernel.now.doubts } in
    let may : MayMake (state_of c.args.kernel.now makers) c.args.session c.args.caller c.in-Some.creation.image c.in-Some.creation.root c.in-Some.creation.number (arc_value c.args.manifest.now) = record {
      session = c.in-Some.ensures;
      kind = subst IsManifest c.deref-3.ensures c.in-Ok.ensures.0;
      root = ap maker_of (sym c.deref.ensures) ∙ sym c.root.ensures ∙ c.if-root-creation.false;
      number = ap number_of (sym c.deref-else-root-creation.ensures) ∙ sym c.number.ensures ∙ c.if-number-creation.false;
      sure = subst (λ k. map.get c.args.kernel.now.doubts k ≡ None) c.of-key.ensures (is_sure c.args.kernel.now c.requires.ready c.of-key.result c.is_in_doubt.ensures c.if-is_in_doubt.false);
      whole = subst (IsComplete c.args.kernel.now.catalog.view c.in-Some.creation.root) c.deref-2.ensures c.in_default-missing.ensures;
    } in
    moves_logged (state_of c.args.kernel.now makers) (record { catalog = c.put_key-end.new.catalog; doubts = c.put_key-end.new.doubts; makers = c.remove-in-Spoiled.new.self; leases = c.args.kernel.now.leases; sessions = c.args.kernel.now.sessions; next_lease = c.args.kernel.now.next_lease; next_session = c.args.kernel.now.next_session; next_number = c.args.kernel.now.next_number }) c.args.caller (PutManifest c.args.session c.args.manifest.now) (noted.PutManifest c.args.session c.args.manifest.now) c.logged-in-Spoiled.result
    (reply.Spoiled c.of-key.result) (told.Spoiled c.of-key.result) c.logged-in-Spoiled.ensures (c.in-Some.creation.image, c.in-Some.creation.root, c.in-Some.creation.number, may, c.of-key.ensures) refl refl
    (known_after _ (state_of c.args.kernel.now makers) c.put_key-end.ensures.aside c.in-Spoiled.ensures.known.0 refl refl refl refl refl
    (noted_same known c.args.kernel.now.makers makers own c.of-key.result (Manifest c.in-Some.creation.root c.in-Some.creation.image) (manifest (arc_value c.in-Ok-Ok.handle)) c.args.session (is_sure c.args.kernel.now c.requires.ready c.of-key.result c.is_in_doubt.ensures c.if-is_in_doubt.false) c.of-key.ensures c.insert.new.self (ok_fact c.insert.result _ c.if-is_err.ensures.value c.insert.ensures.ok) _ c.remove-in-Spoiled.new.self c.in-Spoiled.ensures.known.0 c.remove-in-Spoiled.ensures))

pub returns-clause-served : goal.returns-clause-served
returns-clause-served g c = λ makers own.
    moves_unlogged (state_of c.args.kernel.now makers) (record { catalog = c.put_key-end.new.catalog; doubts = c.put_key-end.new.doubts; makers = c.remove-in-OutOfMemory.new.self; leases = c.args.kernel.now.leases; sessions = c.args.kernel.now.sessions; next_lease = c.args.kernel.now.next_lease; next_session = c.args.kernel.now.next_session; next_number = c.args.kernel.now.next_number }) c.args.caller (PutManifest c.args.session c.args.manifest.now) (noted.PutManifest c.args.session c.args.manifest.now) c.no_memory-in-OutOfMemory.result
    reply.OutOfMemory c.no_memory-in-OutOfMemory.ensures tt refl
    (known_after _ (state_of c.args.kernel.now makers) c.put_key-end.ensures.aside c.in-OutOfMemory.ensures.known refl refl refl refl refl
    (noted_same (record { view = c.args.kernel.now.catalog.view; doubts = c.args.kernel.now.doubts }) c.args.kernel.now.makers makers own c.of-key.result (Manifest c.in-Some.creation.root c.in-Some.creation.image) (manifest (arc_value c.in-Ok-Ok.handle)) c.args.session (is_sure c.args.kernel.now c.requires.ready c.of-key.result c.is_in_doubt.ensures c.if-is_in_doubt.false) c.of-key.ensures c.insert.new.self (ok_fact c.insert.result _ c.if-is_err.ensures.value c.insert.ensures.ok) _ c.remove-in-OutOfMemory.new.self c.in-OutOfMemory.ensures.known c.remove-in-OutOfMemory.ensures))

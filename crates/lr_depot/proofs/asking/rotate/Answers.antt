use Rattle.std.proofs.Common.{◌+◌, length, refl, sym, ap, ◌∙◌, arith}
use Rattle.lr_roots.specs.View.{salt}
use Rattle.lr_rules.specs.Known.{accepted}
use Rattle.lr_rules.specs.Calls.{MayRotate}
use Rattle.lr_depot.specs.declared.call.DepotCall.TheVariants.{Rotate}
use Rattle.lr_depot.specs.declared.call.DepotNoted.TheVariants as noted
use Rattle.lr_depot.specs.declared.call.DepotReply.TheVariants as reply
use Rattle.lr_depot.specs.declared.call.DepotTold.TheVariants as told
use Rattle.lr_depot.specs.Machine.{state_after}
use Rattle.lr_depot.specs.Kernel.{state_of}
use Rattle.lr_depot.proofs.Ready.{root_few, no_root_past, moves_logged, known_after, may_rotate}
use Rattle.lr_depot.specs.declared.put.PutEnd.TheVariants as ends
use Rattle.lr_depot.proofs.Making.{plain_put, other_root}
use Rattle.lr_depot.proofs.asking.rotate.Goals as goal

pub put_key-end-requires-clause-few : goal.put_key-end-requires-clause-few
put_key-end-requires-clause-few g c = root_few c.args.kernel.now c.requires.ready _ _ _ c.of-key.ensures

pub returns-then-last-ge-ROOTS_MAX-clause-served : goal.returns-then-last-ge-ROOTS_MAX-clause-served
returns-then-last-ge-ROOTS_MAX-clause-served g c = λ makers own.
    moves_logged (state_of c.args.kernel.now makers) c.args.kernel.now c.args.caller (Rotate c.args.salt) (noted.Rotate c.args.salt) c.logged.result reply.RootsEnd told.RootsEnd c.logged.ensures
    (c.roots-last.result, c.roots-last.ensures, no_root_past c.args.kernel.now c.requires.ready c.roots-last.result (omega (arith, c.if-last-ge-ROOTS_MAX.true)), omega (arith, c.if-last-ge-ROOTS_MAX.true)) refl refl
    (record { aside = c.requires.ready.aside; view = refl; doubts = refl; leases = refl; sessions = refl; next_lease = refl; next_session = refl; next_number = refl; makers = own })

pub returns-in-Kept-clause-served : goal.returns-in-Kept-clause-served
returns-in-Kept-clause-served g c = λ makers own.
    let may : MayRotate (state_of c.args.kernel.now makers) c.roots-last.result c.args.salt =
    may_rotate c.args.kernel.now c.requires.ready makers c.roots-last.result c.args.salt c.of-key.result c.roots-last.ensures (omega (arith, c.if-last-ge-ROOTS_MAX.false)) c.of-key.ensures c.is_in_doubt.ensures c.if-is_in_doubt.false (ap length (sym c.salt_bytes-body.ensures.same) ∙ c.salt_bytes-body.ensures.long) in
    moves_logged (state_of c.args.kernel.now makers)
    (record { catalog = c.put_key-end.new.catalog; doubts = c.put_key-end.new.doubts; makers = c.args.kernel.now.makers; leases = c.args.kernel.now.leases; sessions = c.args.kernel.now.sessions; next_lease = c.args.kernel.now.next_lease; next_session = c.args.kernel.now.next_session; next_number = c.args.kernel.now.next_number })
    c.args.caller (Rotate c.args.salt) (noted.Rotate c.args.salt) c.logged-in-Kept.result (reply.Rotated (c.roots-last.result + 1)) (told.Rotated (c.roots-last.result + 1)) c.logged-in-Kept.ensures
    (c.roots-last.result, may, refl) refl refl
    (known_after _ (state_after (state_of c.args.kernel.now makers) c.args.caller (noted.Rotate c.args.salt) (told.Rotated (c.roots-last.result + 1))) c.put_key-end.ensures.aside (c.in-Kept.ensures.known ∙ ap (λ k. accepted (record { view = c.args.kernel.now.catalog.view; doubts = c.args.kernel.now.doubts }) k (salt c.args.salt)) c.of-key.ensures) refl refl refl refl refl
    (plain_put (record { view = c.args.kernel.now.catalog.view; doubts = c.args.kernel.now.doubts }) c.args.kernel.now.makers makers own c.of-key.result (salt c.args.salt) (other_root c.of-key.result (c.roots-last.result + 1) c.of-key.ensures) ends.Kept _ c.in-Kept.ensures.known))

pub returns-in-Fault-clause-served : goal.returns-in-Fault-clause-served
returns-in-Fault-clause-served g c = λ makers own.
    let may : MayRotate (state_of c.args.kernel.now makers) c.roots-last.result c.args.salt =
    may_rotate c.args.kernel.now c.requires.ready makers c.roots-last.result c.args.salt c.of-key.result c.roots-last.ensures (omega (arith, c.if-last-ge-ROOTS_MAX.false)) c.of-key.ensures c.is_in_doubt.ensures c.if-is_in_doubt.false (ap length (sym c.salt_bytes-body.ensures.same) ∙ c.salt_bytes-body.ensures.long) in
    moves_logged (state_of c.args.kernel.now makers)
    (record { catalog = c.put_key-end.new.catalog; doubts = c.put_key-end.new.doubts; makers = c.args.kernel.now.makers; leases = c.args.kernel.now.leases; sessions = c.args.kernel.now.sessions; next_lease = c.args.kernel.now.next_lease; next_session = c.args.kernel.now.next_session; next_number = c.args.kernel.now.next_number })
    c.args.caller (Rotate c.args.salt) (noted.Rotate c.args.salt) c.logged-in-Fault.result (reply.Fault c.of-key.result) (told.Fault c.of-key.result) c.logged-in-Fault.ensures
    (c.roots-last.result, may, c.of-key.ensures) refl refl
    (known_after _ (state_after (state_of c.args.kernel.now makers) c.args.caller (noted.Rotate c.args.salt) (told.Fault c.of-key.result)) c.put_key-end.ensures.aside (c.in-Fault.ensures.known) refl refl refl refl refl
    (plain_put (record { view = c.args.kernel.now.catalog.view; doubts = c.args.kernel.now.doubts }) c.args.kernel.now.makers makers own c.of-key.result (salt c.args.salt) (other_root c.of-key.result (c.roots-last.result + 1) c.of-key.ensures) ends.Fault _ c.in-Fault.ensures.known))

pub returns-in-Spoiled-clause-served : goal.returns-in-Spoiled-clause-served
returns-in-Spoiled-clause-served g c = λ makers own.
    let may : MayRotate (state_of c.args.kernel.now makers) c.roots-last.result c.args.salt =
    may_rotate c.args.kernel.now c.requires.ready makers c.roots-last.result c.args.salt c.of-key.result c.roots-last.ensures (omega (arith, c.if-last-ge-ROOTS_MAX.false)) c.of-key.ensures c.is_in_doubt.ensures c.if-is_in_doubt.false (ap length (sym c.salt_bytes-body.ensures.same) ∙ c.salt_bytes-body.ensures.long) in
    moves_logged (state_of c.args.kernel.now makers)
    (record { catalog = c.put_key-end.new.catalog; doubts = c.put_key-end.new.doubts; makers = c.args.kernel.now.makers; leases = c.args.kernel.now.leases; sessions = c.args.kernel.now.sessions; next_lease = c.args.kernel.now.next_lease; next_session = c.args.kernel.now.next_session; next_number = c.args.kernel.now.next_number })
    c.args.caller (Rotate c.args.salt) (noted.Rotate c.args.salt) c.logged-in-Spoiled.result (reply.Spoiled c.of-key.result) (told.Spoiled c.of-key.result) c.logged-in-Spoiled.ensures
    (c.roots-last.result, may, c.of-key.ensures) refl refl
    (known_after _ (state_after (state_of c.args.kernel.now makers) c.args.caller (noted.Rotate c.args.salt) (told.Spoiled c.of-key.result)) c.put_key-end.ensures.aside (c.in-Spoiled.ensures.known.0) refl refl refl refl refl
    (plain_put (record { view = c.args.kernel.now.catalog.view; doubts = c.args.kernel.now.doubts }) c.args.kernel.now.makers makers own c.of-key.result (salt c.args.salt) (other_root c.of-key.result (c.roots-last.result + 1) c.of-key.ensures) ends.Spoiled _ c.in-Spoiled.ensures.known))

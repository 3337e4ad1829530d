use Rattle.std.proofs.Common.{refl, sym, subst}
use Rattle.lr_origin.specs.declared.key.KeyKind.TheVariants as kind
use Rattle.lr_roots.specs.View.{bare}
use Rattle.lr_rules.specs.Calls.{MayExpire}
use Rattle.lr_depot.specs.declared.call.DepotCall.TheVariants as call
use Rattle.lr_depot.specs.declared.call.DepotNoted.TheVariants as noted
use Rattle.lr_depot.specs.declared.call.DepotReply.TheVariants as reply
use Rattle.lr_depot.specs.declared.call.DepotTold.TheVariants as told
use Rattle.lr_depot.specs.Kernel.{state_of}
use Rattle.lr_depot.specs.Machine.{IsRetired}
use Rattle.lr_depot.proofs.Cases.{IsBare}
use Rattle.lr_depot.proofs.Making.{other_expired}
use Rattle.lr_depot.proofs.Ready.{ready_sound, moves_logged}
use Rattle.lr_depot.proofs.Served.{put_kept, put_failed, put_spoiled, doubted_bare, expired_few, may_expire}
use Rattle.lr_depot.proofs.collecting.expire.Goals as goal

pub returns-in-Some-clause-served : goal.returns-in-Some-clause-served
returns-in-Some-clause-served g c = λ makers own.
    let retired : IsRetired (state_of c.args.kernel.now makers) c.args.root = c.is_in_state.ensures.0 c.if-not-is_in_state.false in
    moves_logged (state_of c.args.kernel.now makers) c.args.kernel.now c.args.caller (call.Expire c.args.root) (noted.Expire c.args.root) c.logged-in-Some.result (reply.Serves c.in-Some.image) (told.Serves c.in-Some.image) c.logged-in-Some.ensures (retired, c.in-Some.ensures makers) refl refl
    (record { aside = c.requires.ready.aside; view = refl; doubts = refl; leases = refl; sessions = refl; next_lease = refl; next_session = refl; next_number = refl; makers = own })

pub returns-in-Some-first_user-clause-served : goal.returns-in-Some-first_user-clause-served
returns-in-Some-first_user-clause-served g c = λ makers own.
    let retired : IsRetired (state_of c.args.kernel.now makers) c.args.root = c.is_in_state.ensures.0 c.if-not-is_in_state.false in
    moves_logged (state_of c.args.kernel.now makers) c.args.kernel.now c.args.caller (call.Expire c.args.root) (noted.Expire c.args.root) c.logged-in-Some-first_user.result (reply.Session c.in-Some-first_user.session) (told.Session c.in-Some-first_user.session) c.logged-in-Some-first_user.ensures
    (record { retired = retired; unowed = c.in_default.ensures makers }, c.in-Some-first_user.ensures) refl refl
    (record { aside = c.requires.ready.aside; view = refl; doubts = refl; leases = refl; sessions = refl; next_lease = refl; next_session = refl; next_number = refl; makers = own })

pub returns-in-Some-first_unsure-clause-served : goal.returns-in-Some-first_unsure-clause-served
returns-in-Some-first_unsure-clause-served g c = λ makers own.
    let retired : IsRetired (state_of c.args.kernel.now makers) c.args.root = c.is_in_state.ensures.0 c.if-not-is_in_state.false in
    moves_logged (state_of c.args.kernel.now makers) c.args.kernel.now c.args.caller (call.Expire c.args.root) (noted.Expire c.args.root) c.logged-in-Some-first_unsure.result (reply.Doubt c.in-Some-first_unsure.key.now) (told.Doubt c.in-Some-first_unsure.key.now) c.logged-in-Some-first_unsure.ensures
    (record { unowed = record { retired = retired; unowed = c.in_default.ensures makers }; unused = c.in_default-first_user.ensures }, c.in-Some-first_unsure.ensures) refl refl
    (record { aside = c.requires.ready.aside; view = refl; doubts = refl; leases = refl; sessions = refl; next_lease = refl; next_session = refl; next_number = refl; makers = own })

pub of-key-requires : goal.of-key-requires
of-key-requires g c =
    let retired : IsRetired (state_of c.args.kernel.now c.requires.ready.makers) c.args.root = c.is_in_state.ensures.0 c.if-not-is_in_state.false in
    record { root = (ready_sound c.args.kernel.now c.requires.ready).keys (kind.Root c.args.root) retired.0.0 }

pub put_bare-end-requires-clause-few : goal.put_bare-end-requires-clause-few
put_bare-end-requires-clause-few g c = expired_few c.args.kernel.now c.requires.ready c.args.root c.of-key.result bare c.of-key.ensures

pub put_bare-end-requires-clause-again : goal.put_bare-end-requires-clause-again
put_bare-end-requires-clause-again g c = λ x here. doubted_bare c.args.kernel.now c.requires.ready c.of-key.result (subst IsBare (sym c.of-key.ensures) tt) x here

pub returns-in-Kept-clause-served : goal.returns-in-Kept-clause-served
returns-in-Kept-clause-served g c = λ makers own.
    let retired : IsRetired (state_of c.args.kernel.now makers) c.args.root = c.is_in_state.ensures.0 c.if-not-is_in_state.false in
    let may : MayExpire (state_of c.args.kernel.now makers) c.args.root = may_expire (state_of c.args.kernel.now makers) c.args.root (ready_sound c.args.kernel.now c.requires.ready) retired (c.in_default.ensures makers) c.in_default-first_user.ensures c.in_default-first_unsure.ensures in
    put_kept c.args.kernel.now makers own c.put_bare-end.new.catalog c.put_bare-end.new.doubts c.put_bare-end.ensures.aside c.args.caller (call.Expire c.args.root) (noted.Expire c.args.root) c.logged-in-Kept.result
    c.of-key.result (kind.Expired c.args.root) bare c.of-key.ensures (other_expired c.of-key.result c.args.root c.of-key.ensures) c.in-Kept.ensures.known reply.Expired told.Expired c.logged-in-Kept.ensures may refl refl refl

pub returns-in-Fault-clause-served : goal.returns-in-Fault-clause-served
returns-in-Fault-clause-served g c = λ makers own.
    let retired : IsRetired (state_of c.args.kernel.now makers) c.args.root = c.is_in_state.ensures.0 c.if-not-is_in_state.false in
    let may : MayExpire (state_of c.args.kernel.now makers) c.args.root = may_expire (state_of c.args.kernel.now makers) c.args.root (ready_sound c.args.kernel.now c.requires.ready) retired (c.in_default.ensures makers) c.in_default-first_user.ensures c.in_default-first_unsure.ensures in
    put_failed c.args.kernel.now makers own c.put_bare-end.new.catalog c.put_bare-end.new.doubts c.put_bare-end.ensures.aside c.args.caller (call.Expire c.args.root) (noted.Expire c.args.root) c.logged-in-Fault.result
    c.of-key.result (kind.Expired c.args.root) bare c.of-key.ensures (other_expired c.of-key.result c.args.root c.of-key.ensures) c.in-Fault.ensures.known c.logged-in-Fault.ensures (may, c.of-key.ensures) refl

pub returns-in-Spoiled-clause-served : goal.returns-in-Spoiled-clause-served
returns-in-Spoiled-clause-served g c = λ makers own.
    let retired : IsRetired (state_of c.args.kernel.now makers) c.args.root = c.is_in_state.ensures.0 c.if-not-is_in_state.false in
    let may : MayExpire (state_of c.args.kernel.now makers) c.args.root = may_expire (state_of c.args.kernel.now makers) c.args.root (ready_sound c.args.kernel.now c.requires.ready) retired (c.in_default.ensures makers) c.in_default-first_user.ensures c.in_default-first_unsure.ensures in
    put_spoiled c.args.kernel.now makers own c.put_bare-end.new.catalog c.put_bare-end.new.doubts c.put_bare-end.ensures.aside c.args.caller (call.Expire c.args.root) (noted.Expire c.args.root) c.logged-in-Spoiled.result
    c.of-key.result (kind.Expired c.args.root) bare c.of-key.ensures (other_expired c.of-key.result c.args.root c.of-key.ensures) c.in-Spoiled.ensures.known c.logged-in-Spoiled.ensures (may, c.of-key.ensures, c.in-Spoiled.ensures.known.1) refl

use Rattle.std.proofs.Common.{refl, sym, subst}
use Rattle.lr_origin.specs.declared.key.KeyKind.TheVariants as kind
use Rattle.lr_roots.specs.View.{bare}
use Rattle.lr_roots.specs.Roots.{IsRootState}
use Rattle.lr_roots.specs.declared.state.RootState.TheVariants as state
use Rattle.std.proofs.Common.{Some}
use Rattle.lr_rules.specs.Calls.{MayDelete}
use Rattle.lr_depot.specs.declared.call.DepotCall.TheVariants as call
use Rattle.lr_depot.specs.declared.call.DepotNoted.TheVariants as noted
use Rattle.lr_depot.specs.declared.call.DepotReply.TheVariants as reply
use Rattle.lr_depot.specs.declared.call.DepotTold.TheVariants as told
use Rattle.lr_depot.specs.Kernel.{state_of}
use Rattle.lr_depot.proofs.Cases.{IsBare}
use Rattle.lr_depot.proofs.Making.{other_deleted}
use Rattle.lr_depot.proofs.Ready.{ready_sound}
use Rattle.lr_depot.proofs.Served.{put_kept, put_failed, doubted_bare, deleted_few}
use Rattle.lr_depot.proofs.collecting.delete.Goals as goal

pub of-key-requires : goal.of-key-requires
of-key-requires g c =
    let now : IsRootState c.args.kernel.now.catalog.view c.args.root (Some state.Expired) = c.is_in_state.ensures.0 c.if-not-is_in_state.false in
    record { root = (ready_sound c.args.kernel.now c.requires.ready).keys (kind.Root c.args.root) now.0.0 }

pub put_bare-end-requires-clause-few : goal.put_bare-end-requires-clause-few
put_bare-end-requires-clause-few g c = deleted_few c.args.kernel.now c.requires.ready c.args.root c.of-key.result bare c.of-key.ensures

pub put_bare-end-requires-clause-again : goal.put_bare-end-requires-clause-again
put_bare-end-requires-clause-again g c = λ x here. doubted_bare c.args.kernel.now c.requires.ready c.of-key.result (subst IsBare (sym c.of-key.ensures) tt) x here

pub returns-in-Kept-clause-served : goal.returns-in-Kept-clause-served
returns-in-Kept-clause-served g c = λ makers own.
    let now : IsRootState c.args.kernel.now.catalog.view c.args.root (Some state.Expired) = c.is_in_state.ensures.0 c.if-not-is_in_state.false in
    let may : MayDelete (state_of c.args.kernel.now makers) c.args.root = record { root = now.0.0; expired = now.1; live = now.0.1 } in
    put_kept c.args.kernel.now makers own c.put_bare-end.new.catalog c.put_bare-end.new.doubts c.put_bare-end.ensures.aside c.args.caller (call.Delete c.args.root) (noted.Delete c.args.root) c.logged-in-Kept.result
    c.of-key.result (kind.Deleted c.args.root) bare c.of-key.ensures (other_deleted c.of-key.result c.args.root c.of-key.ensures) c.in-Kept.ensures.known reply.Deleted told.Deleted c.logged-in-Kept.ensures may refl refl refl

pub returns-in-Fault-clause-served : goal.returns-in-Fault-clause-served
returns-in-Fault-clause-served g c = λ makers own.
    let now : IsRootState c.args.kernel.now.catalog.view c.args.root (Some state.Expired) = c.is_in_state.ensures.0 c.if-not-is_in_state.false in
    let may : MayDelete (state_of c.args.kernel.now makers) c.args.root = record { root = now.0.0; expired = now.1; live = now.0.1 } in
    put_failed c.args.kernel.now makers own c.put_bare-end.new.catalog c.put_bare-end.new.doubts c.put_bare-end.ensures.aside c.args.caller (call.Delete c.args.root) (noted.Delete c.args.root) c.logged-in-Fault.result
    c.of-key.result (kind.Deleted c.args.root) bare c.of-key.ensures (other_deleted c.of-key.result c.args.root c.of-key.ensures) c.in-Fault.ensures.known c.logged-in-Fault.ensures (may, c.of-key.ensures) refl

use Rattle.std.proofs.Common.{Some, None, refl, sym, subst, ◌∙◌}
use Rattle.lr_roots.specs.View.{Has}
use Rattle.lr_roots.specs.Keys.{plain}
use Rattle.lr_roots.specs.Names.{IsFirst, IsListed}
use Rattle.lr_roots.specs.Roots.{IsRootState}
use Rattle.lr_roots.specs.declared.state.RootState.TheVariants as state
use Rattle.lr_rules.specs.Known.{removed, doubting}
use Rattle.lr_rules.specs.Calls.{knows}
use Rattle.lr_depot.specs.declared.deletion.DeletionEnd.TheVariants as ends
use Rattle.lr_depot.specs.Kernel.{IsOf}
use Rattle.lr_depot.specs.Machine.{IsItemIn, IsNextItem}
use Rattle.lr_depot.specs.declared.call.DepotCall.TheVariants as call
use Rattle.lr_depot.specs.declared.call.DepotNoted.TheVariants as noted
use Rattle.lr_depot.specs.declared.call.DepotReply.TheVariants as reply
use Rattle.lr_depot.specs.declared.call.DepotTold.TheVariants as told
use Rattle.lr_depot.specs.Kernel.{state_of}
use Rattle.lr_depot.proofs.Making.{deleted_alike}
use Rattle.lr_depot.proofs.Ready.{ready_fits, moves_logged, known_after}
use Rattle.lr_depot.proofs.Served.{copied_key, first_item, swept_after, with_known, known_of}
use Rattle.lr_depot.proofs.collecting.sweep.Goals as goal

pub item_kept-requires-clause-item : goal.item_kept-requires-clause-item
item_kept-requires-clause-item g c =
    let least : IsFirst (IsItemIn (state_of c.args.kernel.now c.requires.ready.makers) c.args.root) (Some c.in-Some.key) =
    first_item (state_of c.args.kernel.now c.requires.ready.makers) c.args.root c.in-Some.key
    (subst (IsFirst (λ key. Has c.args.kernel.now.catalog.view key × IsListed c.args.root None key)) (sym (copied_key c.next_key.result) ∙ sym c.copied.ensures ∙ c.in-Some.is) c.next_key.ensures) in
    (c.args.root, least.0.1)

pub item_kept-requires-clause-fits : goal.item_kept-requires-clause-fits
item_kept-requires-clause-fits g c = ready_fits c.args.kernel.now c.requires.ready

pub returns-in-Removed-clause-served : goal.returns-in-Removed-clause-served
returns-in-Removed-clause-served g c = λ makers own.
    let now : IsRootState c.args.kernel.now.catalog.view c.args.root (Some state.Deleted) = c.is_in_state.ensures.0 c.if-not-is_in_state.false in
    let least : IsFirst (IsItemIn (state_of c.args.kernel.now makers) c.args.root) (Some c.in-Some.key) =
    first_item (state_of c.args.kernel.now makers) c.args.root c.in-Some.key
    (subst (IsFirst (λ key. Has c.args.kernel.now.catalog.view key × IsListed c.args.root None key)) (sym (copied_key c.next_key.result) ∙ sym c.copied.ensures ∙ c.in-Some.is) c.next_key.ensures) in
    let next : IsNextItem (state_of c.args.kernel.now makers) c.args.root c.in-Some.key = record { held = plain c.in-Ok.doubt; may = record { dead = now.1; item = least.0.1; here = c.in-Ok.ensures }; least = least } in
    moves_logged (state_of c.args.kernel.now makers) (with_known c.args.kernel.now c.delete_key.new.catalog c.delete_key.new.doubts) c.args.caller (call.Sweep c.args.root) (noted.Sweep c.args.root) c.logged-in-Removed.result
    (reply.Removed c.in-Some.key) (told.Removed c.in-Some.key) c.logged-in-Removed.ensures next refl refl
    (known_after _ (knows (state_of c.args.kernel.now makers) (removed (known_of c.args.kernel.now) c.in-Some.key)) c.delete_key.ensures.aside c.in-Removed.ensures.known refl refl refl refl refl
    (deleted_alike (known_of c.args.kernel.now) c.args.kernel.now.makers makers own c.in-Some.key (plain c.in-Ok.doubt) least.0.0 ends.Removed _ c.in-Removed.ensures.known))

pub returns-in-Fault-clause-served : goal.returns-in-Fault-clause-served
returns-in-Fault-clause-served g c = λ makers own.
    let now : IsRootState c.args.kernel.now.catalog.view c.args.root (Some state.Deleted) = c.is_in_state.ensures.0 c.if-not-is_in_state.false in
    let least : IsFirst (IsItemIn (state_of c.args.kernel.now makers) c.args.root) (Some c.in-Some.key) =
    first_item (state_of c.args.kernel.now makers) c.args.root c.in-Some.key
    (subst (IsFirst (λ key. Has c.args.kernel.now.catalog.view key × IsListed c.args.root None key)) (sym (copied_key c.next_key.result) ∙ sym c.copied.ensures ∙ c.in-Some.is) c.next_key.ensures) in
    let next : IsNextItem (state_of c.args.kernel.now makers) c.args.root c.in-Some.key = record { held = plain c.in-Ok.doubt; may = record { dead = now.1; item = least.0.1; here = c.in-Ok.ensures }; least = least } in
    moves_logged (state_of c.args.kernel.now makers) (with_known c.args.kernel.now c.delete_key.new.catalog c.delete_key.new.doubts) c.args.caller (call.Sweep c.args.root) (noted.Sweep c.args.root) c.logged-in-Fault.result
    (reply.Fault c.in-Some.key) (told.Fault c.in-Some.key) c.logged-in-Fault.ensures next refl refl
    (subst (IsOf (with_known c.args.kernel.now c.delete_key.new.catalog c.delete_key.new.doubts)) (sym (swept_after (state_of c.args.kernel.now makers) c.args.caller c.args.root c.in-Some.key (plain c.in-Ok.doubt) c.in-Ok.ensures))
    (known_after _ (knows (state_of c.args.kernel.now makers) (doubting (known_of c.args.kernel.now) c.in-Some.key (plain c.in-Ok.doubt))) c.delete_key.ensures.aside c.in-Fault.ensures.known refl refl refl refl refl
    (deleted_alike (known_of c.args.kernel.now) c.args.kernel.now.makers makers own c.in-Some.key (plain c.in-Ok.doubt) least.0.0 ends.Fault _ c.in-Fault.ensures.known)))

use Rattle.std.proofs.Common.{refl, sym, subst}
use Rattle.lr_origin.specs.declared.key.KeyKind.TheVariants as kind
use Rattle.lr_roots.specs.View.{bare}
use Rattle.lr_rules.specs.Calls.{MayWithdraw}
use Rattle.lr_rules.proofs.Outcomes.{is_none}
use Rattle.lr_depot.specs.declared.call.DepotCall.TheVariants as call
use Rattle.lr_depot.specs.declared.call.DepotNoted.TheVariants as noted
use Rattle.lr_depot.specs.declared.call.DepotReply.TheVariants as reply
use Rattle.lr_depot.specs.declared.call.DepotTold.TheVariants as told
use Rattle.lr_depot.specs.Kernel.{state_of}
use Rattle.lr_depot.proofs.Cases.{IsBare}
use Rattle.lr_depot.proofs.Making.{other_withdrawn}
use Rattle.lr_depot.proofs.Ready.{is_not}
use Rattle.lr_depot.proofs.Served.{put_kept, put_failed, doubted_bare, withdrawn_few}
use Rattle.lr_depot.proofs.collecting.withdraw.Goals as goal

pub put_bare-end-requires-clause-few : goal.put_bare-end-requires-clause-few
put_bare-end-requires-clause-few g c = withdrawn_few c.args.kernel.now c.requires.ready c.args.image c.in-Some._home c.of-key.result bare c.in-Some.ensures.listed c.of-key.ensures

pub put_bare-end-requires-clause-again : goal.put_bare-end-requires-clause-again
put_bare-end-requires-clause-again g c = λ x here. doubted_bare c.args.kernel.now c.requires.ready c.of-key.result (subst IsBare (sym c.of-key.ensures) tt) x here

pub returns-in-Kept-clause-served : goal.returns-in-Kept-clause-served
returns-in-Kept-clause-served g c = λ makers own.
    let may : MayWithdraw (state_of c.args.kernel.now makers) c.args.image = record { kept = is_none _ (is_not c.withdrawn.ensures c.if-withdrawn.false); listed = (c.in-Some._home, c.in-Some.ensures.live, c.in-Some.ensures.listed) } in
    put_kept c.args.kernel.now makers own c.put_bare-end.new.catalog c.put_bare-end.new.doubts c.put_bare-end.ensures.aside c.args.caller (call.Withdraw c.args.image) (noted.Withdraw c.args.image) c.logged-in-Kept.result
    c.of-key.result (kind.Withdrawn c.args.image) bare c.of-key.ensures (other_withdrawn c.of-key.result c.args.image c.of-key.ensures) c.in-Kept.ensures.known reply.Withdrawn told.Withdrawn c.logged-in-Kept.ensures may refl refl refl

pub returns-in-Fault-clause-served : goal.returns-in-Fault-clause-served
returns-in-Fault-clause-served g c = λ makers own.
    let may : MayWithdraw (state_of c.args.kernel.now makers) c.args.image = record { kept = is_none _ (is_not c.withdrawn.ensures c.if-withdrawn.false); listed = (c.in-Some._home, c.in-Some.ensures.live, c.in-Some.ensures.listed) } in
    put_failed c.args.kernel.now makers own c.put_bare-end.new.catalog c.put_bare-end.new.doubts c.put_bare-end.ensures.aside c.args.caller (call.Withdraw c.args.image) (noted.Withdraw c.args.image) c.logged-in-Fault.result
    c.of-key.result (kind.Withdrawn c.args.image) bare c.of-key.ensures (other_withdrawn c.of-key.result c.args.image c.of-key.ensures) c.in-Fault.ensures.known c.logged-in-Fault.ensures (may, c.of-key.ensures) refl

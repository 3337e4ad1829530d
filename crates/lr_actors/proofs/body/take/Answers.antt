use Rattle.std.proofs.Common.{sym, subst}
use Rattle.lr_actors.specs.declared.body.Stage.{Stage}
use Rattle.lr_actors.specs.declared.body.Stage.TheVariants.{Works, Reaps}
use Rattle.lr_actors.specs.Asked.{seen_reply}
use Rattle.lr_actors.specs.Actor.{Admits, Took}
use Rattle.lr_actors.specs.Body.{seen_with, IsWhole, context_of, hosts_of, after_reap}
use Rattle.lr_actors.proofs.Whole.{whole_has, whole_crash, took_job, took_reap, reaped_whole}
use Rattle.lr_actors.proofs.body.take.Goals as goal

pub take_reply-stage-requires : goal.take_reply-stage-requires
take_reply-stage-requires c =
    let s = c.args.body.now.setting in
    let b = c.args.body.now.book in
    let e = sym c.in-Works.ensures.value in
    let w : IsWhole s b (Works c.in-Works.working) = subst (λ (st : Stage). IsWhole s b st) e c.requires.whole in
    record {
      setting = w.setting;
      has = whole_has s b (Works c.in-Works.working) w w.now.0;
      crash = whole_crash s b (Works c.in-Works.working) w w.now.0;
      under = w.now.1;
      working = w.stage;
      admitted = subst (λ (st : Stage). Admits (seen_with s b st) (seen_reply c.args.reply)) e c.requires.admitted;
    }

pub returns-in-Works-clause-took : goal.returns-in-Works-clause-took
returns-in-Works-clause-took c =
    let s = c.args.body.now.setting in
    let b = c.args.body.now.book in
    let w : IsWhole s b (Works c.in-Works.working) = subst (λ (st : Stage). IsWhole s b st) (sym c.in-Works.ensures.value) c.requires.whole in
    rw c.put.ensures (subst (λ (st : Stage). Took (seen_with s b st) (seen_reply c.args.reply) (seen_with s c.take_reply-stage.new.book c.take_reply-stage.result)) c.in-Works.ensures.value
    (took_job s b c.take_reply-stage.new.book c.in-Works.working c.take_reply-stage.result (seen_reply c.args.reply) w c.take_reply-stage.ensures))

pub returns-in-Works-clause-whole : goal.returns-in-Works-clause-whole
returns-in-Works-clause-whole c = rw c.put.ensures c.take_reply-stage.ensures.whole

pub returns-in-Reaps-clause-whole : goal.returns-in-Reaps-clause-whole
returns-in-Reaps-clause-whole c =
    let s = c.args.body.now.setting in
    let b = c.args.body.now.book in
    let w : IsWhole s b (Reaps c.in-Reaps.made c.in-Reaps.field-1) = subst (λ (st : Stage). IsWhole s b st) (sym c.in-Reaps.ensures.value) c.requires.whole in
    rw (c.put-in-Reaps.ensures, c.reaped-stage.ensures) (reaped_whole s b c.in-Reaps.made c.in-Reaps.field-1 w)

pub returns-in-Reaps-clause-took : goal.returns-in-Reaps-clause-took
returns-in-Reaps-clause-took c =
    let s = c.args.body.now.setting in
    let b = c.args.body.now.book in
    let w : IsWhole s b (Reaps c.in-Reaps.made c.in-Reaps.field-1) = subst (λ (st : Stage). IsWhole s b st) (sym c.in-Reaps.ensures.value) c.requires.whole in
    rw (c.put-in-Reaps.ensures, c.reaped-stage.ensures) (subst (λ (st : Stage). Took (seen_with s b st) (seen_reply c.args.reply) (seen_with s b (after_reap (context_of s) (hosts_of s) c.in-Reaps.made))) c.in-Reaps.ensures.value
    (took_reap s b c.in-Reaps.made c.in-Reaps.field-1 (seen_reply c.args.reply) w))

use Rattle.std.proofs.Common.{◌∙◌, sym, subst}
use Rattle.lr_actors.specs.Body.{IsSweep}
use Rattle.lr_actors.specs.Running.{Task}
use Rattle.lr_actors.proofs.Taking.{may_crash, going_after, removed_sweeps, taken}
use Rattle.lr_actors.proofs.body.take_reply.Goals as goal

pub go_on-requires : goal.go_on-requires
go_on-requires c =
    let k = c.step-job.ensures in
    record {
      setting = c.requires.setting;
      has = k.has;
      crash = may_crash c.args.setting.now.crash c.args.book.now.made c.step-job.new.book.made _ c.requires.crash k.made;
      going = going_after c.args.setting.now c.args.book.now c.step-job.new.book c.args.working c.step-job.result _ c.requires.under k;
      ready = k.went.ready;
      some = k.some;
      sweeps = λ e. subst (λ (t : Task). IsSweep t) (sym k.went.task) (removed_sweeps c.args.working.job _ c.requires.admitted (sym c.answers_removed-removed.ensures ∙ e));
      room = λ e. k.room (sym c.answers_removed-removed.ensures ∙ e);
    }

pub returns : goal.returns
returns c = taken c.args.setting.now c.args.book.now c.step-job.new.book c.go_on.new.book c.args.working.job c.step-job.result _ c.go_on.result c.step-job.ensures c.go_on.ensures

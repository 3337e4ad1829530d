use Rattle.std.proofs.Common.{sym, subst}
use Rattle.lr_actors.specs.declared.body.Stage.{Stage}
use Rattle.lr_actors.specs.declared.body.Stage.TheVariants.{Idles}
use Rattle.lr_actors.specs.Actor.{Passed}
use Rattle.lr_actors.specs.Body.{seen_with, IsWhole}
use Rattle.lr_actors.proofs.Going.{before_crash, next_lt}
use Rattle.lr_actors.proofs.Whole.{whole_has, whole_crash, counted_has, passed}
use Rattle.lr_actors.proofs.body.pass.Goals as goal

pub end-stage-requires : goal.end-stage-requires
end-stage-requires c =
    let s = c.args.body.now.setting in
    let b = c.args.body.now.book in
    let w : IsWhole s b Idles = subst (λ (st : Stage). IsWhole s b st) c.requires.idles c.requires.whole in
    record {
      setting = w.setting;
      has = counted_has s b c.one_more-body.result (whole_has s b Idles w w.now.0);
      more = next_lt s b w.now.3.0 w.now.3.1;
      crash = before_crash s.crash b.made (whole_crash s b Idles w w.now.0);
      end = tt;
    }

pub returns-clause-passed : goal.returns-clause-passed
returns-clause-passed c =
    let s = c.args.body.now.setting in
    let b = c.args.body.now.book in
    let w : IsWhole s b Idles = subst (λ (st : Stage). IsWhole s b st) c.requires.idles c.requires.whole in
    rw c.put.ensures (subst (λ (st : Stage). Passed (seen_with s b st) (seen_with s c.end-stage.new.book c.end-stage.result)) (sym c.requires.idles)
    (passed s b c.end-stage.new.book c.one_more-body.result c.end-stage.result w c.one_more-body.ensures c.end-stage.ensures))

use Rattle.lr_actors.specs.Jobs.{Job}
use Rattle.lr_actors.specs.Body.{context_of, IsGoing}
use Rattle.lr_actors.proofs.Taking.{next_call, out_goes, end_answer, end_goes, going_lt}
use Rattle.lr_actors.proofs.body.go_on.Goals as goal

pub stay-requires : goal.stay-requires
stay-requires c =
    let e = c.in-Goes.ensures in
    record {
      setting = c.requires.setting;
      has = c.requires.has;
      crash = c.requires.crash;
      next = next_call c.args.setting.now c.args.book.now c.args.job c.in-Goes.job c.in-Goes.call c.args.removed c.requires.setting c.requires.going c.requires.sweeps e.0 e.1 e.2;
      some = (c.requires.some.0, e.0.stands c.requires.some.0 c.requires.some.1);
      room = λ f. rw e.0.left (c.requires.room f);
    }

pub returns-in-Goes : goal.returns-in-Goes
returns-in-Goes c = out_goes c.args.setting.now c.args.book.now c.stay.new.book c.args.job c.in-Goes.job c.stay.result c.in-Goes.ensures.0 c.stay.ensures

pub end-requires : goal.end-requires
end-requires c = record {
  setting = c.requires.setting;
  has = c.requires.has;
  more = going_lt c.args.setting.now c.args.book.now (λ (j : Job). IsGoing (context_of c.args.setting.now) j c.args.job) c.requires.going;
  crash = c.requires.crash;
  end = end_answer c.args.setting.now c.args.book.now c.args.job c.in-Ends.answer c.requires.going c.requires.some c.in-Ends.ensures;
}

pub returns-in-Ends : goal.returns-in-Ends
returns-in-Ends c = end_goes c.args.setting.now c.args.book.now c.end.new.book c.args.job c.in-Ends.answer c.end.result c.requires.going c.in-Ends.ensures c.end.ensures

use Rattle.std.proofs.Common.{◌≡◌, [], ◌∙◌, ap, refl}
use Rattle.lr_walk.specs.declared.trail.JobResult.{JobResult}
use Rattle.lr_actors.proofs.Keeping.{book_finished}
use Rattle.lr_actors.proofs.book.finish.Goals as goal

pub returns : goal.returns
returns c =
    let r : JobResult = record { answer = c.args.answer; path = c.shrink_to_fit.new.self } in
    let walked : r.path.items ≡ c.args.book.now.path.items = c.shrink_to_fit.ensures.items ∙ ap (λ (v : _). v.items) c.replace-path.ensures.value in
    let path : c.replace-path.new.dest.items ≡ [] = ap (λ (v : _). v.items) c.replace-path.ensures.after ∙ c.new.ensures.items in
    record {
      is = book_finished c.args.book.now _ r c.requires.is c.push_reserved.ensures.items walked path refl refl;
      result = r;
      answer = refl;
      walked = walked;
      results = c.push_reserved.ensures.items;
      path = path;
      room = c.push_reserved.ensures.capacity;
      state = refl;
      steps = refl;
      made = refl;
      tally = refl;
    }

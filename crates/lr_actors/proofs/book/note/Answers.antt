use Rattle.std.proofs.Common.{◌≡◌, refl, ap, ◌∙◌, arith, ℕ, [], ◌∷◌, ◌++◌}
use Rattle.lr_actors.specs.Book.{account_of, did_at}
use Rattle.lr_actors.proofs.Keeping.{few_places, book_noted, place_taken, place_is}
use Rattle.lr_actors.proofs.book.note.Goals as goal

pub next_place-place-requires-clause-few : goal.next_place-place-requires-clause-few
next_place-place-requires-clause-few c = omega (arith, c.requires.is.counted c.args.object, few_places c.args.object c.args.book.now c.requires.is)

pub returns : goal.returns
returns c =
    let taken = place_taken c.args.book.now c.args.object c.args.memory c.next_place-place.result c.next_place-place.new.tally c.requires.is c.next_place-place.ensures in
    let is = place_is c.args.book.now c.args.object c.args.memory c.next_place-place.result c.next_place-place.new.tally c.requires.is c.next_place-place.ensures in
    let path : c.push_reserved.new.self.items ≡ c.args.book.now.path.items ++ did_at (account_of c.args.book.now) c.args.object c.args.memory ∷ [] = c.push_reserved.ensures.items ∙ ap (λ (n : ℕ). c.args.book.now.path.items ++ record { object = c.args.object; place = n; memory = c.args.memory } ∷ []) is in
    record {
      is = book_noted c.args.book.now _ c.args.object c.args.memory c.requires.is refl path taken refl;
      path = path;
      len = c.push_reserved.ensures.len;
      capacity = c.push_reserved.ensures.capacity;
      trail = refl;
      made = refl;
      sized = c.next_place-place.ensures.sized;
    }

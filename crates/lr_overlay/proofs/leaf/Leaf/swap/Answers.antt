use Rattle.std.proofs.Common.{◌≡◌, ◌<◌, length, map, get_or, List, sym, ap, ◌∙◌}
use Rattle.std.proofs.lemmas.List.{map-set}
use Rattle.lr_overlay.specs.Places.{page_seen}
use Rattle.lr_overlay.proofs.Seen.{Place, read_seen, seen_within}
use Rattle.lr_overlay.proofs.leaf.Leaf.swap.Goals as goal

pub returns-clause-was : goal.returns-clause-was
returns-clause-was c =
    let places : List Place = c.in-Some.places.value.all in
    let view : map page_seen places ≡ c.args.self.now = rw c.in-Some.is at c.self.view_is in
    let read : c.at_mut.result.now ≡ get_or places c.args.at c.at_mut.result.now = rw c.deref_mut.ensures.value at c.at_mut.ensures.value in
    rw (← view) (read_seen places c.args.at c.at_mut.result.now (seen_within places c.args.self.now c.args.at view c.requires) read ∙ ap page_seen (sym c.replace.ensures.value))

pub returns-clause-left : goal.returns-clause-left
returns-clause-left c =
    rw (c.replace.ensures.after, c.deref_mut.ensures.value, ← c.self.view_is, c.in-Some.is) (map-set page_seen c.in-Some.places.value.all c.args.at c.args.place)

use Rattle.std.proofs.Common.{◌≡◌, ◌<◌, ◌/◌, length, [], sym, ap, ◌∙◌, Some, get_or, arith}
use Rattle.lr_overlay.specs.Pages.{Pages}
use Rattle.lr_overlay.specs.Directory.{shown, place_of, pages_of}
use Rattle.lr_overlay.proofs.Places.{chunk_of_page, page_is, read_or, shown_of}
use Rattle.lr_overlay.proofs.Overlay.page.Goals as goal

pub index-requires : goal.index-requires
index-requires c =
    let within : c.args.page < length (pages_of c.self.inside.chunks.items c.self.inside.count) = rw (← c.self.view_is) at c.requires in
    let n = chunk_of_page c.self.inside.chunks.items c.self.inside.count c.args.page within c.self.invariant.0 in
    omega arith

pub returns-clause-got : goal.returns-clause-got
returns-clause-got c =
    let within : c.args.page < length (pages_of c.self.inside.chunks.items c.self.inside.count) = rw (← c.self.view_is) at c.requires in
    let n = chunk_of_page c.self.inside.chunks.items c.self.inside.count c.args.page within c.self.invariant.0 in
    let leaf : get_or c.self.inside.chunks.items (c.args.page / 128) [] ≡ c.index.result.now = read_or c.self.inside.chunks.items (c.args.page / 128) c.index.result.now [] n c.index.ensures in
    rw (← c.self.view_is)
    (page_is c.self.inside.chunks.items c.self.inside.count c.args.page within
    ∙ ap Some (shown_of c.self.inside.chunks.items c.args.page c.index.result.now _ leaf c.page.ensures.got c.page.ensures.length))

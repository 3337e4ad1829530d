use Rattle.std.proofs.Common.{◌≡◌, ◌<◌, ◌/◌, ◌%◌, ℕ, List, length, [], set, ap, ◌∙◌, Some, None, get_or, true}
use Rattle.lr_overlay.specs.Pages.{Pages, is_placed}
use Rattle.lr_overlay.specs.Directory.{leaves_of, pages_of, table}
use Rattle.lr_overlay.proofs.Places.{placed_in, read_or, table_put, page_is, shown_box}
use Rattle.lr_overlay.proofs.Overlay.take_page.Goals as goal

pub returns-clause-got : goal.returns-clause-got
returns-clause-got c =
    let within : c.args.page < length (pages_of c.self.inside.chunks.items c.self.inside.count) = rw (← c.self.view_is) at c.requires.within in
    let placed : is_placed (leaves_of c.self.inside.chunks.items) c.args.page ≡ true = rw (← c.self.view_is) at c.requires.placed in
    let there = placed_in c.self.inside.chunks.items c.args.page placed in
    let leaf : get_or c.self.inside.chunks.items (c.args.page / 128) [] ≡ c.index_mut.result.now = read_or c.self.inside.chunks.items (c.args.page / 128) c.index_mut.result.now [] there.0 c.index_mut.ensures.value in
    rw (← c.self.view_is)
    (page_is c.self.inside.chunks.items c.self.inside.count c.args.page within
    ∙ ap Some (shown_box c.self.inside.chunks.items c.args.page c.index_mut.result.now _ leaf c.take.ensures.got c.take.ensures.length))

pub returns-clause-left : goal.returns-clause-left
returns-clause-left c =
    let placed : is_placed (leaves_of c.self.inside.chunks.items) c.args.page ≡ true = rw (← c.self.view_is) at c.requires.placed in
    let there = placed_in c.self.inside.chunks.items c.args.page placed in
    let leaf : get_or c.self.inside.chunks.items (c.args.page / 128) [] ≡ c.index_mut.result.now = read_or c.self.inside.chunks.items (c.args.page / 128) c.index_mut.result.now [] there.0 c.index_mut.ensures.value in
    let small : c.args.page % 128 < length c.index_mut.result.now = rw leaf at there.1 in
    rw (← c.self.view_is)
    (ap (λ (l : Pages). table (set c.self.inside.chunks.items (c.args.page / 128) l) c.self.inside.count) c.take.ensures.left
    ∙ table_put c.self.inside.chunks.items c.args.page c.index_mut.result.now None there.0 leaf small c.self.inside.count)

use Rattle.std.proofs.Common.{◌≡◌, ◌<◌, ◌/◌, ◌%◌, ℕ, List, length, [], set, ap, ◌∙◌, Some, get_or, true}
use Rattle.lr_overlay.specs.Pages.{Pages, is_placed}
use Rattle.lr_overlay.specs.Directory.{leaves_of, pages_of, table}
use Rattle.lr_overlay.proofs.Over.{fitted_same}
use Rattle.lr_overlay.proofs.Places.{placed_in, read_or, table_put}
use Rattle.lr_overlay.proofs.Overlay.place.Goals as goal

pub returns : goal.returns
returns c =
    let placed : is_placed (leaves_of c.self.inside.chunks.items) c.args.page ≡ true = rw (← c.self.view_is) at c.requires in
    let there = placed_in c.self.inside.chunks.items c.args.page placed in
    let leaf : get_or c.self.inside.chunks.items (c.args.page / 128) [] ≡ c.index_mut.result.now = read_or c.self.inside.chunks.items (c.args.page / 128) c.index_mut.result.now [] there.0 c.index_mut.ensures.value in
    let long : length c.args.bytes.value ≡ 4096 = rw c.deref.ensures at c.has_all.ensures in
    let small : c.args.page % 128 < length c.index_mut.result.now = rw leaf at there.1 in
    rw (← c.self.view_is)
    (ap (λ (l : Pages). table (set c.self.inside.chunks.items (c.args.page / 128) l) c.self.inside.count) c.place.ensures
    ∙ table_put c.self.inside.chunks.items c.args.page c.index_mut.result.now (Some c.args.bytes.value) there.0 leaf small c.self.inside.count
    ∙ ap (λ (l : List ℕ). record { pages = set (pages_of c.self.inside.chunks.items c.self.inside.count) c.args.page (Some l); leaves = leaves_of c.self.inside.chunks.items }) (fitted_same 4096 c.args.bytes.value long))

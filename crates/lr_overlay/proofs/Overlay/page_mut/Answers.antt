use Rattle.std.proofs.Common.{◌≡◌, ◌<◌, ◌≤◌, ◌/◌, ◌%◌, ℕ, List, [], length, set, get_or, Option, Some, None, inr, sym, ap, ◌∙◌, arith}
use Rattle.std.specs.Option.{ghost_name_of}
use Rattle.std.proofs.lemmas.List.{get_or_past, set-get_or}
use borrow.Follows.Closed.{read_of}
use Rattle.lr_overlay.specs.Pages.{OverlaySeen, Pages, fitted}
use Rattle.lr_overlay.specs.Directory.{Directory, table, shown, place_of, pages_of}
use Rattle.lr_overlay.proofs.Places.{chunk_of_page, read_or, page_is, table_put, fitted_twice, shown_lent}
use Rattle.lr_overlay.proofs.Overlay.page_mut.Goals as goal

pub index_mut-leaf-requires : goal.index_mut-leaf-requires
index_mut-leaf-requires c =
    let within : c.args.page < length (pages_of c.self.inside.chunks.items c.self.inside.count) = rw (← c.self.view_is) at c.requires in
    let n = chunk_of_page c.self.inside.chunks.items c.self.inside.count c.args.page within c.self.invariant.0 in
    omega arith

pub index-requires : goal.index-requires
index-requires c =
    let within : c.args.page < length (pages_of c.self.inside.chunks.items c.self.inside.count) = rw (← c.self.view_is) at c.requires in
    let n = chunk_of_page c.self.inside.chunks.items c.self.inside.count c.args.page within c.self.invariant.0 in
    omega arith

pub returns-then-count-page : goal.returns-then-count-page
returns-then-count-page c =
    let within : c.args.page < length (pages_of c.self.inside.chunks.items c.self.inside.count) = rw (← c.self.view_is) at c.requires in
    let n = chunk_of_page c.self.inside.chunks.items c.self.inside.count c.args.page within c.self.invariant.0 in
    let leaf : get_or c.self.inside.chunks.items (c.args.page / 128) [] ≡ c.index.result.now = read_or c.self.inside.chunks.items (c.args.page / 128) c.index.result.now [] n c.index.ensures in
    let past : length c.index.result.now ≤ c.args.page % 128 = omega (arith, c.count.ensures, c.if-count-page.true) in
    let none : place_of c.self.inside.chunks.items c.args.page ≡ None = ap (λ (l : Pages). get_or l (c.args.page % 128) None) leaf ∙ get_or_past c.index.result.now (c.args.page % 128) None past in (
      ap inr c.self.view_is,
      record { writes_back = tt; got = rw (← c.self.view_is) (page_is c.self.inside.chunks.items c.self.inside.count c.args.page within ∙ ap (λ p. Some (shown p)) none) },
    )

pub returns : goal.returns
returns c =
    let within : c.args.page < length (pages_of c.self.inside.chunks.items c.self.inside.count) = rw (← c.self.view_is) at c.requires in
    let n = chunk_of_page c.self.inside.chunks.items c.self.inside.count c.args.page within c.self.invariant.0 in
    let leaf : get_or c.self.inside.chunks.items (c.args.page / 128) [] ≡ c.index_mut-leaf.result.now = read_or c.self.inside.chunks.items (c.args.page / 128) c.index_mut-leaf.result.now [] n c.index_mut-leaf.ensures.value in
    let seen : get_or c.self.inside.chunks.items (c.args.page / 128) [] ≡ c.index.result.now = read_or c.self.inside.chunks.items (c.args.page / 128) c.index.result.now [] n c.index.ensures in
    let same : length c.index_mut-leaf.result.now ≡ length c.index.result.now = ap length (sym leaf ∙ seen) in
    let small : c.args.page % 128 < length c.index_mut-leaf.result.now = omega (arith, same, c.count.ensures, c.if-count-page.false) in
    let each : (w : List ℕ) → table (set c.self.inside.chunks.items (c.args.page / 128) (set c.index_mut-leaf.result.now (c.args.page % 128) (Some (fitted 4096 w)))) c.self.inside.count
    ≡ record { pages = set c.args.self.now.pages c.args.page (Some (fitted 4096 w)); leaves = c.args.self.now.leaves } = λ w.
    table_put c.self.inside.chunks.items c.args.page c.index_mut-leaf.result.now (Some (fitted 4096 w)) n leaf small c.self.inside.count
    ∙ (λ i. record { pages = set (c.self.view_is i).pages c.args.page (Some (fitted_twice w i)); leaves = (c.self.view_is i).leaves }) in
    let none : table (set c.self.inside.chunks.items (c.args.page / 128) c.index_mut-leaf.result.now) c.self.inside.count ≡ c.args.self.now =
    ap (λ (l : Directory). table l c.self.inside.count)
    (ap (λ (l : Pages). set c.self.inside.chunks.items (c.args.page / 128) l) (sym leaf) ∙ set-get_or c.self.inside.chunks.items (c.args.page / 128) []) ∙ c.self.view_is in (
      λ i. read_of (ghost_name_of c.page_mut.result) (λ w. each w i) (none i),
      record {
        writes_back = tt;
        got = rw (← c.self.view_is)
            (page_is c.self.inside.chunks.items c.self.inside.count c.args.page within ∙ ap Some (shown_lent c.self.inside.chunks.items c.args.page c.index_mut-leaf.result.now c.page_mut.result leaf c.page_mut.ensures.got));
      },
    )

use Rattle.std.proofs.Common.{◌≡◌, length, get_or, List, ℕ, Some, sym, ap, ◌∙◌}
use Rattle.lr_overlay.specs.Places.{page_seen}
use Rattle.lr_overlay.proofs.Over.{fitted_same}
use Rattle.lr_overlay.proofs.Seen.{Place, read_seen}
use Rattle.lr_overlay.proofs.leaf.Leaf.page.Goals as goal

pub returns-in-Some-all-clause-got : goal.returns-in-Some-all-clause-got
returns-in-Some-all-clause-got c =
    let places : List Place = c.in-Some.places.value.all in
    let all : c.as_slice-all.result.now ≡ places = rw c.deref.ensures at c.as_slice-all.ensures in
    let read : c.index-all-at.result ≡ get_or places c.args.at c.index-all-at.result = rw all at c.index-all-at.is in
    let long : length c.in-Some-all.bytes.value ≡ 4096 = rw c.deref-page.ensures at c.has_all.ensures in
    rw (← c.self.view_is, c.in-Some.is)
    (read_seen places c.args.at c.index-all-at.result (rw all at c.if-at-all.false) read ∙ ap page_seen c.in-Some-all.is
    ∙ ap (λ (l : List ℕ). Some l) (fitted_same 4096 c.in-Some-all.bytes.value long ∙ sym c.deref-page.ensures))

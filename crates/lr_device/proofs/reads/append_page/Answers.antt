use Rattle.std.proofs.Common.{◌≡◌, ◌+◌, ◌-◌, ◌*◌, ◌++◌, ap, sym, ◌∙◌, ℕ, List, Option, Some, None, get_or, take, drop, unwrap_or, arith}
use Rattle.std.specs.Option.{is_some}
use Rattle.std.proofs.lemmas.Option.{get_or_from_slice_get}
use Rattle.lr_overlay.specs.Pages.{over}
use Rattle.lr_overlay.proofs.Over.{over_page}
use Rattle.lr_device.proofs.reads.append_page.Goals as goal

pub returns-in-Some-clause-items : goal.returns-in-Some-clause-items
returns-in-Some-clause-items c = λ base agrees fits.
    let there : get_or c.args.pages.now.pages c.args.page None ≡ Some c.in-Some.bytes.now = get_or_from_slice_get c.args.pages.now.pages c.args.page (Some c.in-Some.bytes.now) None c.in-Some.ensures.got in
    let page : c.in-Some.bytes.now ≡ take 4096 (drop (4096 * c.args.page) (over 4096 c.args.pages.now.pages base)) =
    sym (over_page 4096 c.args.pages.now.pages base c.args.page c.requires.page c.is_whole.ensures fits ∙ ap (λ (o : Option (List ℕ)). unwrap_or o (take 4096 (drop (4096 * c.args.page) base))) there) in
    let count : c.args.from + c.args.count - c.args.from ≡ c.args.count = omega arith in
    c.append.ensures.items
    ∙ ap (λ (l : List ℕ). c.args.out.now.items ++ take (c.args.from + c.args.count - c.args.from) (drop c.args.from l)) (c.as_slice.ensures ∙ page)
    ∙ ap (λ (n : ℕ). c.args.out.now.items ++ take n (drop c.args.from (take 4096 (drop (4096 * c.args.page) (over 4096 c.args.pages.now.pages base))))) count

pub append_base-requires-clause-piece : goal.append_base-requires-clause-piece
append_base-requires-clause-piece c = c.requires.piece (ap is_some (get_or_from_slice_get c.args.pages.now.pages c.args.page None None c.in_default.ensures.got))

pub returns-clause-items : goal.returns-clause-items
returns-clause-items c = λ base agrees fits.
    let none : get_or c.args.pages.now.pages c.args.page None ≡ None = get_or_from_slice_get c.args.pages.now.pages c.args.page None None c.in_default.ensures.got in
    c.append_base.ensures.items base (agrees (ap is_some none)) (omega arith)
    ∙ ap (λ (l : List ℕ). c.args.out.now.items ++ take c.args.count (drop c.args.from l))
    (sym (over_page 4096 c.args.pages.now.pages base c.args.page c.requires.page c.is_whole.ensures fits ∙ ap (λ (o : Option (List ℕ)). unwrap_or o (take 4096 (drop (4096 * c.args.page) base))) none))

use Rattle.std.proofs.Common.{◌≡◌, ◌*◌, ◌/◌, ◌%◌, ℕ, List, Some, find, sym, ap, ◌∙◌, arith, take, drop, length, subst}
use Rattle.std.proofs.lemmas.List.{drop-drop}
use Rattle.lr_device.specs.Base.{is_at, part_of}
use Rattle.lr_convergent.specs.Pieces.{plain_of}
use Rattle.lr_device.proofs.Parts.{found_index, page_in_chunk, window}
use Rattle.lr_device.proofs.writes.read_base.Goals as goal

pub returns : goal.returns
returns c = λ base agrees fits.
    let n : ℕ = length c.args.into.now in
    let o : ℕ = c.args.page % 128 * 4096 in
    let plain : List ℕ = plain_of c.in-Some.piece.now in
    let found : find (is_at (c.args.page / 128)) c.args.pieces.now ≡ Some c.in-Some.piece.now = sym c.in-Some.ensures in
    let at : c.in-Some.piece.now.index ≡ c.args.page / 128 = found_index (c.args.page / 128) c.args.pieces.now c.in-Some.piece.now found in
    let there : part_of base (c.args.page / 128) ≡ take (length (part_of base (c.args.page / 128))) plain =
    subst (λ (i : ℕ). part_of base i ≡ take (length (part_of base i)) plain) at (agrees c.in-Some.piece.now found) in
    c.read.ensures
    ∙ ap (take n) (sym (drop-drop c.args.from o plain))
    ∙ sym (window (drop o plain) 4096 c.args.from n (omega arith))
    ∙ ap (λ (l : List ℕ). take n (drop c.args.from l)) (page_in_chunk base plain c.args.page there fits)

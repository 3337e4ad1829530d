use Rattle.std.proofs.Common.{◌≡◌, ◌≤◌, ℕ, ◌+◌, ◌-◌, ◌*◌, List, [], ◌∷◌, ◌++◌, length, length-append, length-take-le, length-drop, take, take_all, drop, sym, ap, subst, ◌∙◌, arith}
use Rattle.std.specs.List.{flat_map, AllByRecursion}
use Rattle.lr_manifest.proofs.Pieces.{row_more, all_more}
use Rattle.lr_manifest.proofs.row.cut_rows.Goals as goal

whole : (b : List ℕ) (k : ℕ) → take (length b - k) (drop k b) ≡ drop k b
whole b k = take_all (length b - k) (drop k b) (omega (arith, length-drop k b))

pub loop-i-preserved : goal.loop-i-preserved
loop-i-preserved g c =
    let b : List ℕ = c.args.bytes.now in
    let i : ℕ = c.loop-i.i in
    let row = g.T.Row.row_bytes in
    let here : row c.of_row.result ≡ take 32 (drop (32 * i) b) = c.of_row.ensures ∙ c.front.ensures ∙ ap (take 32) (whole b (32 * i)) in
    let room : 32 ≤ length (drop (32 * i) b) = omega (arith, length-drop (32 * i) b, c.requires) in
    let long : length (row c.of_row.result) ≡ 32 = ap (λ (l : List ℕ). length l) here ∙ length-take-le 32 (drop (32 * i) b) room in
    let items = c.in_ok-push.ensures.items in (
      ap (flat_map row) items ∙ row_more row c.loop-i.rows.items c.of_row.result i b c.loop-i.invariant.0 here,
      ap (λ l. length l) items ∙ omega (arith, length-append c.loop-i.rows.items (c.of_row.result ∷ []), c.loop-i.invariant.1),
      subst (AllByRecursion (λ x. length (row x) ≡ 32)) (sym items) (all_more (λ x. length (row x) ≡ 32) c.loop-i.rows.items c.of_row.result c.loop-i.invariant.2 long),
    )

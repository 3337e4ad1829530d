-- A part put behind the bytes that stand in an array of zeros.
use Rattle.std.proofs.Common.{◌≡◌, ℕ, ◌+◌, ◌-◌, ◌≤◌, List, ◌++◌, length, take, drop, refl, sym, ap, subst, ◌∙◌, arith, append_assoc, length-append}
use Rattle.std.proofs.lemmas.List.{drop-replicate, take_at, drop_at}
use borrow.Rule.Slice.PartMut.{put_mid}
use lib.ListN.{replicate}
use Rattle.lr_text.specs.Name.{padded}

zeros_left : (n : ℕ) (xs part : List ℕ) → drop (length part) (replicate {A = ℕ} (n - length xs) 0) ≡ replicate (n - length (xs ++ part)) 0
zeros_left n xs part =
    let fewer : n - length xs - length part ≡ n - length (xs ++ part) = omega (arith, length-append xs part) in
    drop-replicate {X = ℕ} (length part) (n - length xs) 0 ∙ ap (λ k. replicate k 0) fewer

pub put_behind : (n at k : ℕ) (xs part old : List ℕ) → length xs ≡ at → k ≡ length part → old ≡ padded n xs → put_mid at k old part ≡ padded n (xs ++ part)
put_behind n at k xs part old long wide e =
    let zeros : List ℕ = replicate (n - length xs) 0 in
    let front : take at (xs ++ zeros) ≡ xs = take_at xs zeros at long in
    let rest : drop at (xs ++ zeros) ≡ zeros = drop_at xs zeros at long in
    let at_padded : put_mid at k (xs ++ zeros) part ≡ xs ++ (part ++ replicate (n - length (xs ++ part)) 0) =
    (λ i. front i ++ (part ++ drop k (rest i))) ∙ ap (λ j. xs ++ (part ++ drop j zeros)) wide ∙ ap (λ ys. xs ++ (part ++ ys)) (zeros_left n xs part) in
    ap (λ o. put_mid at k o part) e ∙ at_padded ∙ sym (append_assoc xs part (replicate (n - length (xs ++ part)) 0))

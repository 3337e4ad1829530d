use Rattle.std.proofs.Common.{◌≡◌, ℕ, ◌+◌, ◌-◌, ◌*◌, ◌<◌, ◌≤◌, List, ◌++◌, length, take, drop, refl, sym, ap, ◌∙◌, arith}
use Rattle.std.proofs.lemmas.List.{take-append-le, take-replicate}
use Rattle.std.proofs.Math.Seq.{take-append-add}
use lib.ListN.{replicate}
use Rattle.lr_aes.proofs.ghash.front_block.Goals as goal

filled : (r : List ℕ) → length r ≤ 16 → take 16 (r ++ replicate 16 0) ≡ r ++ replicate (16 - length r) 0
filled r le =
    let whole : 16 ≡ length r + (16 - length r) = omega arith in
    ap (λ (n : ℕ). take n (r ++ replicate 16 0)) whole ∙ take-append-add r (replicate 16 0) (16 - length r)
    ∙ ap (λ (l : List ℕ). r ++ l) (take-replicate {X = ℕ} (16 - length r) 16 0 (omega arith))

pub returns-then-rest-lt16 : goal.returns-then-rest-lt16
returns-then-rest-lt16 c = c.filled.ensures ∙ sym (filled c.args.rest.now (omega arith))

pub returns : goal.returns
returns c = c.copy_from_slice.ensures.after ∙ sym (take-append-le 16 c.args.rest.now (replicate 16 0) (omega arith))

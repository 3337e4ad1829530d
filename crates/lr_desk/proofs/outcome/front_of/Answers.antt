use Rattle.std.proofs.Common.{◌≡◌, ◌≤◌, ◌<◌, ℕ, ◌⊎◌, List, length, take, take_all, min, sym, ◌∙◌, ap, arith, inl, inr}
use Rattle.std.proofs.lemmas.Bool.{cases_lt}
use Rattle.lr_desk.proofs.outcome.front_of.Goals as goal

by : (n : ℕ) (xs : List ℕ) → n ≡ min (length xs) 128 → (128 < length xs) ⊎ (length xs ≤ 128) → take n xs ≡ take 128 xs
by n xs e (inl more) = let s : n ≡ 128 = omega (arith, e, more) in ap (λ (k : ℕ). take k xs) s
by n xs e (inr less) = let s : length xs ≤ n = omega (arith, e, less) in take_all n xs s ∙ sym (take_all 128 xs less)

pub returns-clause-front : goal.returns-clause-front
returns-clause-front c =
    by c.min.result c.args.key.now c.min.ensures (cases_lt 128 (length c.args.key.now))

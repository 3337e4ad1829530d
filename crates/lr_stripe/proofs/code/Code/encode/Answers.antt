use Rattle.std.proofs.Common.{◌≡◌, ℕ, ◌*◌, List, length, sym, ap, subst, ◌∙◌, arith}
use Rattle.lr_field.specs.Polynomial.{GivesValue, IsDistinct, weighted}
use Rattle.lr_stripe.specs.Code.{column}
use Rattle.lr_stripe.proofs.Columns.{IsDistinct-points, is_stripe}
use Rattle.lr_stripe.proofs.Rebuilt.{part_is_stripe}
use Rattle.lr_stripe.proofs.code.Code.encode.Goals as goal

pub weights-w-requires : goal.weights-w-requires
weights-w-requires g c = (omega arith, subst (λ (ps : List ℕ). IsDistinct ps) (sym c.first_points.ensures) (IsDistinct-points g.row.K))

pub returns : goal.returns
returns g c =
    let w : List ℕ = c.weights-w.result in
    let out : List ℕ = c.mix.new.out in
    let chunk : List ℕ = c.args.chunk.now in
    let long : length c.as_slice.result.now ≡ g.row.K = ap (λ (l : List ℕ). length l) c.as_slice.ensures ∙ omega arith in
    let same : length c.args.out.now ≡ length out = omega arith in
    is_stripe g.row.K c.args.j w chunk out (omega arith) (c.requires.parts ∙ ap (λ (n : ℕ). g.row.K * n) same) (λ i. omega (arith, c.type_inv.chunk i))
    (subst (λ (ps : List ℕ). GivesValue w ps c.args.j) c.first_points.ensures c.weights-w.ensures)
    (λ t lt. c.mix.ensures t lt ∙ (λ k. weighted (c.as_slice.ensures k) (column (long k) (length out) t chunk)))

pub returns-then-j : goal.returns-then-j
returns-then-j g c =
    let out : List ℕ = c.copy_part.new.out in
    let chunk : List ℕ = c.args.chunk.now in
    let same : length c.args.out.now ≡ length out = omega arith in
    part_is_stripe g.row.K c.args.j chunk out (omega arith) (omega arith) (c.requires.parts ∙ ap (λ (n : ℕ). g.row.K * n) same) (λ i. omega (arith, c.type_inv.chunk i)) c.copy_part.ensures

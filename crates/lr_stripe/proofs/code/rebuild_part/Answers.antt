use Rattle.std.proofs.Common.{◌≡◌, ℕ, ◌*◌, ◌<◌, slice_index, List, length, sym, ap, ◌∙◌, arith}
use Rattle.lr_field.specs.Polynomial.{weighted}
use Rattle.lr_stripe.specs.Code.{column}
use Rattle.lr_stripe.proofs.Columns.{get_or-part_of}
use Rattle.lr_stripe.proofs.Rebuilt.{rebuilt_at, given_at}
use Rattle.lr_stripe.proofs.code.rebuild_part.Goals as goal

pub returns : goal.returns
returns g c = λ chunk are t lt.
    let out : List ℕ = c.mix.new.out in
    let stripes : List ℕ = c.args.stripes.now in
    let long : length c.as_slice-2.result.now ≡ g.row.K = ap (λ (l : List ℕ). length l) c.as_slice-2.ensures ∙ omega arith in
    let same : length c.args.out.now ≡ length out = omega arith in
    c.mix.ensures t lt ∙ (λ k. weighted (c.as_slice-2.ensures k) (column (long k) (length out) t stripes))
    ∙ rebuilt_at g.row.K (length out) c.args.j c.weights-w.result c.args.indices.now stripes chunk (omega arith) are (omega arith) c.requires.index
    (c.requires.parts ∙ ap (λ (n : ℕ). g.row.K * n) same) c.weights-w.ensures t lt

pub returns-in-Some : goal.returns-in-Some
returns-in-Some g c = λ chunk are t lt.
    let k : ℕ = g.row.K in
    let out : List ℕ = c.copy_part.new.out in
    let stripes : List ℕ = c.args.stripes.now in
    let indices : List ℕ = c.args.indices.now in
    let same : length c.args.out.now ≡ length out = omega arith in
    let within : c.in-Some.i < k = omega (arith, ap (λ (l : List ℕ). length l) c.as_slice.ensures) in
    let there : slice_index indices c.in-Some.i ≡ c.args.j = ap (λ (l : List ℕ). slice_index l c.in-Some.i) (sym c.as_slice.ensures) ∙ c.in-Some.ensures.there in
    ap (λ (l : List ℕ). slice_index l t) c.copy_part.ensures ∙ get_or-part_of stripes (length out) c.in-Some.i t lt
    ∙ given_at k (length out) c.in-Some.i c.args.j indices stripes chunk are within there c.requires.index (c.requires.parts ∙ ap (λ (n : ℕ). k * n) same) t lt

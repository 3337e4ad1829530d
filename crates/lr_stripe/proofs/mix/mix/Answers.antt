use Rattle.std.proofs.Common.{◌≡◌, ℕ, ◌+◌, ◌*◌, List, length, slice_index, bit_xor, take, sym, ap, ◌∙◌, arith}
use Rattle.std.specs.Prelude.{replicate}
use Rattle.std.proofs.lemmas.List.{get_or-replicate, get_or-take, get_or-drop}
use Rattle.lr_field.specs.Field.{product}
use Rattle.lr_field.specs.Polynomial.{weighted}
use Rattle.lr_stripe.specs.Code.{column}
use Rattle.lr_stripe.proofs.Columns.{weighted-more}
use Rattle.lr_stripe.proofs.mix.mix.Goals as goal

pub loop-i-init : goal.loop-i-init
unfolding weighted
loop-i-init c = λ t lt.
    let zeros : c.fill.new.self ≡ replicate (length c.args.out.now) 0 = c.fill.ensures.after (λ y h. h) in
    ap (λ (l : List ℕ). slice_index l t) zeros ∙ get_or-replicate (length c.args.out.now) t 0 0 (omega arith)

pub loop-i-preserved : goal.loop-i-preserved
loop-i-preserved c = λ t lt.
    let ws : List ℕ = c.args.weights.now in
    let parts : List ℕ = c.args.parts.now in
    let i : ℕ = c.loop-i.i in
    let len : ℕ = length c.add_part.new.out in
    let w : ℕ = slice_index ws i in
    let same : length c.loop-i.out ≡ len = omega arith in
    let first : length c.args.out.now ≡ len = omega (arith, c.fill.ensures.len) in
    let sum : slice_index c.loop-i.out t ≡ weighted (take i ws) (column i len t parts) =
    c.loop-i.invariant t (omega arith) ∙ ap (λ (n : ℕ). weighted (take i ws) (column i n t parts)) same in
    c.add_part.ensures t lt ∙ ap (λ (v : ℕ). bit_xor (slice_index c.loop-i.out t) (product w v))
    (get_or-take _ _ t 0 (omega arith) ∙ get_or-drop _ parts t 0 ∙ ap (λ (n : ℕ). slice_index parts (n * i + t)) first)
    ∙ ap (λ (x : ℕ). bit_xor x (product w (slice_index parts (len * i + t)))) sum ∙ sym (weighted-more ws parts i len t (omega arith))

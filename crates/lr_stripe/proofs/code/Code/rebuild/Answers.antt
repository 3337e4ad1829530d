use Rattle.std.proofs.Common.{◌≡◌, ℕ, ◌+◌, ◌-◌, ◌*◌, ◌/◌, ◌≤◌, List, length, slice_index, sym, ap, subst, ◌∙◌, arith, mul_comm}
use Rattle.std.proofs.lemmas.Grind.{same_number_lists}
use Rattle.lr_stripe.specs.Code.{AreStripes}
use Rattle.lr_stripe.proofs.Columns.{part_within, length-part_of}
use Rattle.lr_stripe.proofs.Rebuilt.{put_mid_at}
use Rattle.lr_stripe.proofs.code.Code.rebuild.Goals as goal

pub loop-j-preserved : goal.loop-j-preserved
loop-j-preserved g c = λ chunk are i lt.
    let k : ℕ = g.row.K in
    let j : ℕ = c.loop-j.j in
    let stripes : List ℕ = c.args.stripes.now in
    let len : ℕ = length stripes / k in
    let new : List ℕ = c.rebuild_part.new.out in
    let within : len * j + len ≤ k * len = part_within k j len (omega arith) in
    let whole : length stripes ≡ k * len = omega arith in
    let more : len * (j + 1) ≡ len * j + len = omega arith in
    let long : length new ≡ len = omega arith in
    put_mid_at (len * j) (len * j + len - len * j) c.loop-j.out new i (slice_index chunk i) (omega arith) (omega arith) (λ low. c.loop-j.invariant chunk are i low)
    (λ high. c.rebuild_part.ensures chunk (subst (λ (n : ℕ). AreStripes k n chunk c.args.indices.now stripes) (sym long) are) (i - len * j) (omega arith)
    ∙ ap (λ (n : ℕ). slice_index chunk (n * j + (i - len * j))) long ∙ ap (slice_index chunk) (let back : len * j + (i - len * j) ≡ i = omega arith in back))
    (omega arith)

pub returns : goal.returns
returns g c = λ chunk are.
    let k : ℕ = g.row.K in
    let stripes : List ℕ = c.args.stripes.now in
    let len : ℕ = length stripes / k in
    let whole : length stripes ≡ k * len = omega arith in
    let last : c.loop-j.j ≡ k = omega arith in
    let all : len * c.loop-j.j ≡ k * len = ap (λ (n : ℕ). len * n) last ∙ mul_comm len k in
    let long : length chunk ≡ k * len = (are.each 0 c.requires.some).parts ∙ ap (λ (n : ℕ). k * n) (length-part_of stripes k len 0 whole c.requires.some) in
    same_number_lists c.loop-j.out chunk (omega arith) (λ i lt. c.loop-j.invariant chunk are i (omega arith))

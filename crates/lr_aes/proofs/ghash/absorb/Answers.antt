use Rattle.std.proofs.Common.{◌≡◌, ℕ, suc, ◌+◌, ◌-◌, ◌*◌, ◌/◌, ◌%◌, ◌<◌, ◌^◌, List, [], ◌∷◌, ◌++◌, length, map, bit_xor, slice_index, refl, sym, ap, ◌∙◌, arith}
use Rattle.std.specs.List.{range_with_len}
use Rattle.std.proofs.lemmas.List.FromFn.{map-range_with_len_more}
use Rattle.lr_aes.specs.Ghash.{block_product}
use Rattle.lr_aes.specs.Products.{running}
use Rattle.lr_aes.specs.Gcm.{block_at}
use Rattle.lr_aes.proofs.Hash.{running-more}
use Rattle.lr_aes.proofs.ghash.absorb.Goals as goal

pub loop-i-init : goal.loop-i-init
unfolding running
loop-i-init c = λ h has lh. refl

pub loop-i-preserved : goal.loop-i-preserved
loop-i-preserved c = λ h has lh.
    let f : ℕ → ℕ = block_at c.args.bytes.now in
    let i : ℕ = c.loop-i.i in
    c.times_key-next.ensures h has lh
    ∙ ap (λ (x : ℕ). block_product x h) (λ k. bit_xor (c.loop-i.invariant h has lh k) (c.block_at.ensures k))
    ∙ sym (ap (running h c.args.y) (map-range_with_len_more f 0 i i (omega arith)) ∙ running-more h c.args.y (f i) (map f (range_with_len 0 i)))

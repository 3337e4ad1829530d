use Rattle.std.proofs.Common.{◌≡◌, ℕ, suc, ◌+◌, ◌-◌, ◌*◌, ◌/◌, ◌%◌, ◌<◌, ◌^◌, bit_xor, slice_index, refl, sym, ap, ◌∙◌, arith}
use Rattle.lr_field.proofs.Linear.{additive-zero}
use Rattle.lr_aes.specs.Ghash.{shifted, block_product}
use Rattle.lr_aes.proofs.Blocks.{block_product-xor_l}
use Rattle.lr_aes.specs.Products.{gathered}
use Rattle.lr_aes.proofs.Hash.{product_step, rest_step, gathered_all}
use Rattle.lr_aes.proofs.ghash.times_key.Goals as goal

pub loop-n-init : goal.loop-n-init
unfolding gathered
loop-n-init c = (λ h has lh. sym (additive-zero (λ x. block_product x h) (λ a b. block_product-xor_l a b h)), omega arith)

pub loop-n-preserved : goal.loop-n-preserved
loop-n-preserved c = (
  λ h has lh.
      (λ i. bit_xor (c.eight_turns-turned.ensures i) (c.entry.ensures i))
      ∙ product_step h c.args.x c.loop-n._n c.loop-n.z c.loop-n.rest c.args.table.now has lh (c.loop-n.invariant.0 h has lh) c.loop-n.invariant.1,
  rest_step c.args.x c.loop-n._n c.loop-n.rest c.loop-n.invariant.1,
)

pub returns : goal.returns
returns c = λ h has lh.
    let end : c.loop-n._n ≡ 16 = omega arith in
    c.loop-n.invariant.0 h has lh ∙ ap (λ (x : ℕ). block_product x h) (ap (gathered c.args.x) end ∙ gathered_all c.args.x (omega arith))

use Rattle.std.proofs.Common.{◌≡◌, ℕ, suc, ◌+◌, ◌-◌, ◌*◌, ◌/◌, ◌%◌, ◌<◌, ◌^◌, List, [], ◌∷◌, ◌++◌, length, map, bit_xor, slice_index, refl, sym, ap, ◌∙◌, arith}
use lib.Bits.{xor_shifted}
use Rattle.lr_aes.specs.Ghash.{block_product, ghash}
use Rattle.lr_aes.specs.Products.{running}
use Rattle.lr_aes.proofs.Blocks.{running_is_ghash}
use Rattle.lr_aes.specs.Gcm.{blocks, lengths_block, hash_input}
use Rattle.lr_aes.specs.Products.{HasProducts}
use Rattle.lr_aes.proofs.Hash.{running-append, running-more}
use Rattle.lr_aes.proofs.ghash.ghash_of.Goals as goal

whole : (h first second : ℕ) (aad text : List ℕ) → h < 2 ^ 128 → first ≡ running h 0 (blocks aad) → second ≡ running h first (blocks text)
    → block_product (bit_xor second (lengths_block (length aad) (length text))) h ≡ ghash h (hash_input aad text)
whole h first second aad text lh e1 e2 =
    let last : List ℕ = lengths_block (length aad) (length text) ∷ [] in
    ap (λ (s : ℕ). block_product (bit_xor s (lengths_block (length aad) (length text))) h) (e2 ∙ ap (λ (y : ℕ). running h y (blocks text)) e1)
    ∙ sym (running-more h (running h 0 (blocks aad)) (lengths_block (length aad) (length text)) (blocks text))
    ∙ sym (running-append h 0 (blocks aad) (blocks text ++ last))
    ∙ running_is_ghash h (hash_input aad text) lh

pub returns : goal.returns
returns c =
    let h : ℕ = c.args.h in
    let lh : h < 2 ^ 128 = omega arith in
    let has : HasProducts h c.products-table.result = c.products-table.ensures in
    let high : 8 * length c.args.aad.now < 2 ^ 64 = omega arith in
    let low : 8 * length c.args.text.now < 2 ^ 64 = omega arith in
    let shift : 8 * length c.args.aad.now * 2 ^ 64 % 2 ^ 128 ≡ 8 * length c.args.aad.now * 2 ^ 64 = omega arith in
    let joined : bit_xor (8 * length c.args.aad.now * 2 ^ 64 % 2 ^ 128) (8 * length c.args.text.now) ≡ lengths_block (length c.args.aad.now) (length c.args.text.now) =
    ap (λ (u : ℕ). bit_xor u (8 * length c.args.text.now)) shift ∙ xor_shifted (8 * length c.args.aad.now) 64 (8 * length c.args.text.now) low in
    c.times_key.ensures h has lh ∙ ap (λ (u : ℕ). block_product (bit_xor c.absorb-second.result u) h) joined
    ∙ whole h c.absorb-first.result c.absorb-second.result c.args.aad.now c.args.text.now lh (c.absorb-first.ensures h has lh) (c.absorb-second.ensures h has lh)

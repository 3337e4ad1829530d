use Rattle.std.proofs.Common.{◌≡◌, ℕ, ◌+◌, ◌-◌, ◌*◌, ◌<◌, ◌≤◌, List, ◌++◌, length, take, drop, refl, sym, ap, ◌∙◌, arith, take_all, length-drop}
use Rattle.std.specs.Int.{w128, from_be_bytes}
use lib.ListN.{replicate}
use Rattle.lr_aes.proofs.ghash.block_at.Goals as goal

number : (b r : List ℕ) (n : ℕ) → n ≡ from_be_bytes w128 b → b ≡ r → n ≡ from_be_bytes w128 r
number b r n e same = e ∙ ap (from_be_bytes w128) same

pub returns : goal.returns
returns c =
    let r : List ℕ = drop (16 * c.args.i) c.args.bytes.now in
    number c.front_block.result (take 16 (r ++ replicate 16 0)) c.from_be_bytes.result c.from_be_bytes.ensures
    (c.front_block.ensures ∙ ap (λ (x : List ℕ). take 16 (x ++ replicate 16 0)) (take_all (length c.args.bytes.now - 16 * c.args.i) r (omega (arith, length-drop (16 * c.args.i) c.args.bytes.now))))

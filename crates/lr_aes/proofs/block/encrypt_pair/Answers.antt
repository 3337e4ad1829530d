use Rattle.std.proofs.Common.{ℕ, List, get_or, [], ap, ◌∙◌, arith, lit<}
use Rattle.lr_aes.specs.Cipher.{round}
use Rattle.lr_aes.proofs.StateFacts.{start, one_more}
use Rattle.lr_aes.proofs.block.encrypt_pair.Goals as goal

pub loop-n-init : goal.loop-n-init
loop-n-init c =
    let w : List ℕ = c.args.keys.now in
    let key : List ℕ = get_or c.args.lanes.now 0 [] in
    let first_key = c.requires.lanes 0 (lit< tt) in record {
      left = start c.args.first w c.in_basis.result key c.fits-first.0 c.in_basis.ensures first_key;
      right = start c.args.second w c.in_basis-2.result key c.fits-second.0 c.in_basis-2.ensures first_key;
    }

pub loop-n-preserved : goal.loop-n-preserved
loop-n-preserved c =
    let w : List ℕ = c.args.keys.now in
    let n : ℕ = c.loop-n.n in
    let key = c.requires.lanes n (omega arith) in record {
      left = c.whole_round-next_left.ensures w n key ∙ ap (round w n) c.loop-n.invariant.left ∙ one_more w c.args.first n (omega arith);
      right = c.whole_round-next_right.ensures w n key ∙ ap (round w n) c.loop-n.invariant.right ∙ one_more w c.args.second n (omega arith);
    }

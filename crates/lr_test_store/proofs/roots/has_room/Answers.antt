use Rattle.std.proofs.Common.{◌≤◌, ◌^◌, arith, rules}
use Rattle.lr_roots.proofs.Fewer.{few_with}
use Rattle.lr_test_store.proofs.roots.has_room.Goals as goal

pub returns : goal.returns
returns c =
    let small : c.names.result ≤ 1000 = search rules in
    λ _ key held. few_with c.args.catalog.now.view key held c.names.result (2 ^ 32) c.names.ensures (omega (arith, small))

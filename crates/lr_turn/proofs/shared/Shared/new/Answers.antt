use Rattle.std.proofs.Common.{rules, refl}
use Rattle.lr_turn.proofs.Ends.{open_at}
use Rattle.lr_turn.proofs.shared.Shared.new.Goals as goal

pub new-requires : goal.new-requires
new-requires g c = let o = g.S.Object in
    open_at o.log o.fixed o.shares o.answers o.enters (o.fixed c.args.state) (o.log c.args.state) c.args.state c.of-key.result.value c.entries.result c.push_reserved.new.self.items c.of-key.ensures c.entries.ensures
    (search rules) refl refl

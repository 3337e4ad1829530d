use Rattle.std.proofs.Common.{None, sym, ap, subst, ◌∙◌, ◌≡◌}
use Rattle.std.specs.FinMap as map
use Rattle.lr_origin.specs.declared.key.KeyKind.{KeyKind}
use Rattle.lr_roots.specs.View.{View, Lacks}
use Rattle.lr_roots.specs.Keys.{plain}
use Rattle.lr_roots.specs.Index.{IsIndex}
use Rattle.lr_roots.proofs.Aside.{shadow, nothing_gone}
use Rattle.lr_roots.proofs.indexed.Indexed.insert.Goals as goal

pub invariant_of-self : goal.invariant_of-self
invariant_of-self c = c.in_err-enter.ensures.err c.self.inside.keys c.self.invariant

pub invariant_of-self-in-Ok : goal.invariant_of-self-in-Ok
invariant_of-self-in-Ok c =
    subst (λ (v : View). IsIndex v c.enter.new.self) (sym c.in-Ok.ensures.ok)
    (subst (λ (k : KeyKind). IsIndex (map.insert c.self.inside.keys k (plain c.args.body)) c.enter.new.self) c.kind-kind.ensures.same (c.in_ok-enter.ensures.ok c.self.inside.keys (plain c.args.body) c.self.invariant))

pub invariant_of-self-in-Err : goal.invariant_of-self-in-Err
invariant_of-self-in-Err c =
    let all : View = c.self.inside.keys in
    let k : KeyKind = c.kind-kind.result in
    let lacks : Lacks all k = subst (λ (q : KeyKind). Lacks all q) (sym c.kind-kind.ensures.same) c.in-Err.ensures.absent in
    let same : map.remove (map.insert all k (plain c.args.body)) k ≡ c.insert.new.self = shadow all k (plain c.args.body) ∙ nothing_gone all k lacks ∙ sym c.in-Err.ensures.err in
    subst (λ (v : View). IsIndex v c.leave.new.self) same (c.leave.ensures (map.insert all k (plain c.args.body)) (c.in_ok-enter.ensures.ok all (plain c.args.body) c.self.invariant))

use Rattle.std.proofs.Common.{Some, None, ℕ, List, Vec, refl, sym, ap, subst, ◌∙◌, arith}
use Rattle.std.specs.declared.alloc.Global.{Global}
use Rattle.lr_origin.specs.Objects.{IsNext, pointed}
use Rattle.lr_opening.specs.Listing.{Lists, last_of, bytes_of}
use Rattle.lr_opening.proofs.Listed.{lists_none, lists_all, lists_more}
use Rattle.lr_opening.proofs.listing.list.Goals as goal

pub loop-turn-init : goal.loop-turn-init
loop-turn-init g c = record {
  listed = λ m told. lists_none m c.new-keys.result.items c.new-keys.ensures.items;
  many = c.new-keys.ensures.len;
  same = refl;
  never_falls = omega arith;
}

pub returns-in-Ok-None-clause-all : goal.returns-in-Ok-None-clause-all
returns-in-Ok-None-clause-all g c = λ m told.
    let ks = bytes_of c.loop-turn.keys.items in
    let next : IsNext (pointed c.last_key.result) m None = (rw c.in-Ok-None.field-0-is at c.in-Ok-None.ensures.next) m (c.loop-turn.invariant.same ∙ told) in
    lists_all m ks (c.loop-turn.invariant.listed m told) (subst (λ a. IsNext a m None) (c.last_key.ensures ∙ ap (λ (l : List (Vec ℕ Global)). last_of (bytes_of l)) c.deref.ensures.value) next)

pub loop-turn-preserved : goal.loop-turn-preserved
loop-turn-preserved g c =
    let ks = bytes_of c.loop-turn.keys.items in
    let k = c.in-Ok-Some.key.items in
    record {
      listed = λ m told.
          let next : IsNext (pointed c.last_key.result) m (Some k) = (rw c.in-Ok-Some.field-0-is at c.in-Ok-Some.ensures.next) m (c.loop-turn.invariant.same ∙ told) in
          subst (λ l. Lists m l) (sym c.in_ok-push_key-in-Ok-Some.ensures.bytes) (lists_more m ks k (c.loop-turn.invariant.listed m told) (subst (λ a. IsNext a m (Some k)) (c.last_key.ensures ∙ ap (λ (l : List (Vec ℕ Global)). last_of (bytes_of l)) c.deref.ensures.value) next));
      many = omega (arith, c.in_ok-push_key-in-Ok-Some.ensures.count, c.loop-turn.invariant.many);
      same = c.next_key.ensures.same ∙ c.loop-turn.invariant.same;
      never_falls = omega (arith, c.loop-turn.invariant.never_falls, c.next_key.ensures.never_falls);
    }

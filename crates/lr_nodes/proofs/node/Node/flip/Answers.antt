use Rattle.std.proofs.Common.{◌≡◌, ◌<◌, ℕ, List, [], ◌∷◌, ◌++◌, length, map, find, Some, get_or, refl, sym, ap, subst, ◌∙◌, arith, rules}
use Rattle.std.specs.Prelude.{IsSome, Option}
use Rattle.std.specs.Arc.{arc_value}
use Rattle.std.specs.List.{position_or_len}
use Rattle.std.proofs.lemmas.List.{length-map, get_or-map}
use Rattle.std.proofs.lemmas.List.Sums.{fold-append}
use Rattle.lr_stripe.specs.declared.stripe.Stripe.{Stripe}
use Rattle.lr_object.specs.Finds.{IsFirst}
use Rattle.lr_object.proofs.Found.{found_there}
use Rattle.lr_nodes.specs.declared.call.NodeCall.TheVariants.{Flip}
use Rattle.lr_nodes.specs.declared.call.NodeReply.TheVariants.{Flipped}
use Rattle.lr_nodes.specs.Stripes.{is_at, flipped_at, with_first}
use Rattle.lr_nodes.specs.Machine.{LogEntry, run, after_entry}
use Rattle.lr_nodes.proofs.Lists.{with_first-set}
use Rattle.lr_nodes.proofs.node.Node.flip.Goals as goal

pub found_in : (c : goal.After-push_reserved) → find (is_at c.args.name c.args.index) (map arc_value c.self.inside.stripes.items) ≡ Some (arc_value c.index.result.now)
found_in c =
    let first : IsFirst (is_at c.args.name c.args.index) (map arc_value c.self.inside.stripes.items) c.in-Some.place = rw c.as_slice.ensures.value at c.in-Some.ensures.found in
    let lt : c.in-Some.place < length c.self.inside.stripes.items = rw length-map at first.within in
    found_there first (ap arc_value c.index.ensures ∙ sym (get_or-map arc_value c.self.inside.stripes.items c.in-Some.place c.index.result.now (arc_value c.index.result.now) lt))

pub returns-clause-kept : goal.returns-clause-kept
returns-clause-kept c = record {
  fixed = rw (← c.self.view_is) refl;
  logged = rw (← c.self.view_is) (record { caller = c.args.caller; call = Flip c.args.name c.args.index c.args.at; reply = Flipped }, (cc), refl, record { logged = refl; noted = refl; told = refl }, λ u. u);
  unlogged = tt;
}

pub invariant_of-self-2 : goal.invariant_of-self-2
invariant_of-self-2 c =
    let olds : List Stripe = map arc_value c.self.inside.stripes.items in
    let first : IsFirst (is_at c.args.name c.args.index) olds c.in-Some.place = rw c.as_slice.ensures.value at c.in-Some.ensures.found in
    let place : c.in-Some.place ≡ position_or_len (is_at c.args.name c.args.index) olds = rw c.as_slice.ensures.value at c.in-Some.ensures.first in
    let is : arc_value c.in-Ok.changed ≡ flipped_at c.args.at (arc_value c.index.result.now) = cc (c.in-Ok.ensures, c.deref.ensures) in
    let put : map arc_value c.put_at.new.stripes.items ≡ with_first (is_at c.args.name c.args.index) (flipped_at c.args.at) olds =
    c.put_at.ensures.stripes ∙ with_first-set (is_at c.args.name c.args.index) (flipped_at c.args.at) olds c.in-Some.place (arc_value c.index.result.now) (arc_value c.in-Ok.changed) place first.within (found_in c) is in
    let e : LogEntry = record { caller = c.args.caller; call = Flip c.args.name c.args.index c.args.at; reply = Flipped } in
    let log : c.push_reserved.new.self.items ≡ c.self.inside.log.items ++ e ∷ [] = c.push_reserved.ensures.items ∙ ap (λ (l : List LogEntry). l ++ e ∷ []) c.reserve.ensures.items in (
      c.self.invariant.0,
      omega arith,
      put ∙ ap (with_first (is_at c.args.name c.args.index) (flipped_at c.args.at)) c.self.invariant.2
          ∙ sym (ap (run c.self.inside.capacity) log ∙ fold-append (after_entry c.self.inside.capacity) [] c.self.inside.log.items (e ∷ [])),
    )

pub returns-clause-answered : goal.returns-clause-answered
returns-clause-answered c = rw (← c.self.view_is) (rw (← c.self.invariant.2) (subst (λ (o : Option Stripe). IsSome o) (sym (found_in c)) (search rules)))

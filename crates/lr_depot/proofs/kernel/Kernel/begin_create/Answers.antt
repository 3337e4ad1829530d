use Rattle.std.proofs.Common.{IsTrue, refl, subst, inl, inr, arith}
use Rattle.lr_text.specs.Name.{is_name}
use Rattle.lr_rules.specs.Names.{IsImage}
use Rattle.lr_depot.specs.declared.call.DepotCall.TheVariants.{BeginCreate}
use Rattle.lr_depot.specs.declared.call.DepotNoted.TheVariants as noted
use Rattle.lr_depot.specs.declared.call.DepotReply.TheVariants as reply
use Rattle.lr_depot.specs.declared.call.DepotTold.TheVariants as told
use Rattle.lr_depot.specs.Kernel.{state_of}
use Rattle.lr_depot.proofs.Counted.{fewer_of_many, enough_of_many}
use Rattle.lr_depot.proofs.Ready.{ready_roots, is_not, is_new, moves_logged}
use Rattle.lr_depot.proofs.kernel.Kernel.begin_create.Goals as goal

pub returns-then-count : goal.returns-then-count
returns-then-count c = record {
  served = λ makers own. moves_logged (state_of c.args.self.now makers) c.args.self.now c.args.caller (BeginCreate c.args.image) (noted.BeginCreate c.args.image) c.logged-then-count.result reply.Full told.Full c.logged-then-count.ensures (
    record {
      root = (c.roots-root.result, omega (arith, c.if-root-eq0.false), c.roots-root.ensures);
      free = λ taken. elim taken [ inl named ↦ is_not c.is_named.ensures c.if-is_named.false named | inr begun ↦ is_not c.is_begun.ensures c.if-is_begun.false begun ];
    },
    c.in_default.ensures,
    inl (enough_of_many (IsImage (state_of c.args.self.now makers)) c.in-Ok.count 1024 (c.in-Ok.ensures (state_of c.args.self.now makers) refl refl refl) (omega (arith, c.if-count.true))),
  ) refl refl
      (record { aside = c.requires.ready.aside; view = refl; doubts = refl; leases = refl; sessions = refl; next_lease = refl; next_session = refl; next_number = refl; makers = own });
}

pub begin-requires-clause-begins : goal.begin-requires-clause-begins
begin-requires-clause-begins c = λ makers. record {
  named = subst (λ i. IsTrue (is_name i)) c.as_bytes-name.ensures.bytes c.as_bytes-name.ensures.name;
  roots = ready_roots c.args.self.now c.requires.ready c.roots-root.result c.roots-root.ensures;
  some = omega (arith, c.if-root-eq0.false);
  new = is_new c.args.self.now c.requires.ready makers c.args.image (is_not c.is_named.ensures c.if-is_named.false) (is_not c.is_begun.ensures c.if-is_begun.false) c.in_default.ensures;
  few = fewer_of_many (IsImage (state_of c.args.self.now makers)) c.in-Ok.count 1024 (c.in-Ok.ensures (state_of c.args.self.now makers) refl refl refl) c.if-count.false;
  left = c.if-self-gt-NUMBER_MAX.false;
}

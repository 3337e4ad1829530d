use Rattle.std.proofs.Common.{sym, ap, refl, ◌∙◌, inl, inr}
use Rattle.lr_turn.specs.Views.{leaving}
use Rattle.lr_turn.proofs.Turns.{noted, called}
use Rattle.lr_turn.proofs.shared.Shared.call.Goals.{then-before-after, else-before-after}
use Rattle.lr_turn.proofs.shared.Shared.call.Goals as goal

pub note-requires-clause-held : goal.note-requires-clause-held
note-requires-clause-held g c = let o = g.S.Object in let t = c.take.ensures.took in
    noted o.log o.fixed o.opens o.shares o.logged o.answers o.enters c.args.pass.now.place.me.0 t.0 c.take.new.place.me c.run-reply.new.place.me c.args.pass.now.number c.args.call c.run-reply.result.0 c.run-reply.result.1 c.run-reply.result.2
    t.1 t.2 (sym c.args.pass.now.number_is) c.requires.opens c.run-reply.ensures.applied c.if-before-after.true (o.logged c.run-reply.result.0) refl

pub returns-clause-called : goal.returns-clause-called
returns-clause-called g c = let o = g.S.Object in let t = c.take.ensures.took in
    called o.log o.fixed o.opens o.shares o.logged o.answers o.enters c.args.pass.now.place.me.0 c.leave.new.place.me.0 t.0 c.take.new.place.me c.run-reply.new.place.me c.args.pass.now.number c.args.call c.run-reply.result.0 c.run-reply.result.1 c.run-reply.result.2
    t.1 t.2 t.3 c.args.pass.now.idle.2 c.requires.opens c.run-reply.ensures.applied
    (elim c.if-before-after.branch [
      | then-before-after w ↦ let n = w.note.ensures.noted in inl (
        w.if-before-after.true,
        (n.0, n.1, n.2, n.3, ap (λ m. m.0) c.leave.ensures.left ∙ (ap (λ p. leaving p.1.0.me.0) w.pass-is ∙ ap (λ m. leaving m.0) n.4)),
      )
      | else-before-after w ↦ inr (w.if-before-after.false, ap (λ m. m.0) c.leave.ensures.left ∙ ap (λ p. leaving p.1.0.me.0) w.pass-is)
    ])
    (o.logged c.run-reply.result.0) refl

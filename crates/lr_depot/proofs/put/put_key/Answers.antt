use Rattle.std.proofs.Common.{sym, refl, ◌∙◌, inl, inr}
use Rattle.std.proofs.lemmas.Bool.{false≢true}
use Rattle.lr_origin.specs.Text.{key_text}
use Rattle.lr_roots.specs.Keys.{plain}
use Rattle.lr_roots.proofs.Aside.{is_none}
use Rattle.lr_depot.proofs.Puts.{ok_fact, again_same, known_kept, known_spoiled, known_again, store_stored, store_present, store_failed, store_same}
use Rattle.lr_depot.proofs.put.put_key.Goals as goal

pub returns-in-Ok-Stored-clause-known : goal.returns-in-Ok-Stored-clause-known
returns-in-Ok-Stored-clause-known g c =
    known_kept c.args.catalog.now c.begin.new.catalog c.args.doubts.now c.begin.new.doubts c.args.key (plain c.args.kept)
    (ok_fact c.begin.result _ c.if-is_err.ensures.value c.begin.ensures.aside)
    (ok_fact c.begin.result _ c.if-is_err.ensures.value c.begin.ensures.noted)
    c.accept.new.self c.remove.new.self c.accept.ensures c.remove.ensures

pub returns-in-Ok-Stored-clause-store : goal.returns-in-Ok-Stored-clause-store
returns-in-Ok-Stored-clause-store g c = λ m told. inl (store_stored c.as_bytes.result.now (key_text c.args.key) c.args.body.now m _ c.as_bytes.ensures.text c.in-Ok-Stored.field-0 c.in-Ok-Stored.field-0-is (c.in-Ok-Stored.ensures.change m told))

pub returns-then-again-clause-known : goal.returns-then-again-clause-known
returns-then-again-clause-known g c =
    known_kept c.args.catalog.now c.begin.new.catalog c.args.doubts.now c.begin.new.doubts c.args.key (plain c.args.kept)
    (ok_fact c.begin.result _ c.if-is_err.ensures.value c.begin.ensures.aside)
    (ok_fact c.begin.result _ c.if-is_err.ensures.value c.begin.ensures.noted)
    c.accept-then-again.new.self c.remove-in-Ok-Present.new.self c.accept-then-again.ensures c.remove-in-Ok-Present.ensures

pub returns-then-again-clause-store : goal.returns-then-again-clause-store
returns-then-again-clause-store g c = λ m told. let h = store_present c.as_bytes.result.now (key_text c.args.key) c.args.body.now m _ c.as_bytes.ensures.text c.in-Ok-Present.field-0 c.in-Ok-Present.field-0-is (c.in-Ok-Present.ensures.change m told) in inr (h.0, c.is_in_doubt-again.ensures.0 c.if-again.true, h.1)

pub returns-else-again-clause-known : goal.returns-else-again-clause-known
returns-else-again-clause-known g c =
    let none = (is_none _ (λ has. false≢true (sym c.if-again.false ∙ c.is_in_doubt-again.ensures.1 has))) in (
      known_spoiled c.args.catalog.now c.begin.new.catalog c.args.doubts.now c.begin.new.doubts c.args.key (plain c.args.kept)
          (ok_fact c.begin.result _ c.if-is_err.ensures.value c.begin.ensures.aside)
          (ok_fact c.begin.result _ c.if-is_err.ensures.value c.begin.ensures.noted)
          c.forget.new.self c.remove-in-Ok-Present.new.self c.forget.ensures c.remove-in-Ok-Present.ensures none,
      none,
    )

pub returns-else-again-clause-store : goal.returns-else-again-clause-store
returns-else-again-clause-store g c = λ m told. store_present c.as_bytes.result.now (key_text c.args.key) c.args.body.now m _ c.as_bytes.ensures.text c.in-Ok-Present.field-0 c.in-Ok-Present.field-0-is (c.in-Ok-Present.ensures.change m told)

pub returns-in-Err-Failed-clause-store : goal.returns-in-Err-Failed-clause-store
returns-in-Err-Failed-clause-store g c = λ m told. store_failed c.as_bytes.result.now (key_text c.args.key) c.args.body.now m _ c.as_bytes.ensures.text c.in-Err-Failed.field-0 c.in-Err-Failed.field-0-is (c.in-Err-Failed.ensures.change m told)

pub returns-then-not-again-clause-known : goal.returns-then-not-again-clause-known
returns-then-not-again-clause-known g c =
    known_spoiled c.args.catalog.now c.begin.new.catalog c.args.doubts.now c.begin.new.doubts c.args.key (plain c.args.kept)
    (ok_fact c.begin.result _ c.if-is_err.ensures.value c.begin.ensures.aside)
    (ok_fact c.begin.result _ c.if-is_err.ensures.value c.begin.ensures.noted)
    c.forget-in-Err-OutOfMemory.new.self c.remove-then-not-again.new.self c.forget-in-Err-OutOfMemory.ensures c.remove-then-not-again.ensures (is_none _ (λ has. false≢true (sym c.if-not-again.true ∙ c.is_in_doubt-again.ensures.1 has)))

pub returns-else-not-again-clause-known : goal.returns-else-not-again-clause-known
returns-else-not-again-clause-known g c =
    known_again c.args.catalog.now c.begin.new.catalog c.args.doubts.now c.begin.new.doubts c.args.key (plain c.args.kept)
    (ok_fact c.begin.result _ c.if-is_err.ensures.value c.begin.ensures.aside)
    (ok_fact c.begin.result _ c.if-is_err.ensures.value c.begin.ensures.noted)
    c.forget-in-Err-OutOfMemory.new.self _ c.forget-in-Err-OutOfMemory.ensures refl (again_same c.args.doubts.now c.args.key (plain c.args.kept) (c.is_in_doubt-again.ensures.0 c.if-not-again.false) c.requires.again)

pub returns-then-not-again-clause-store : goal.returns-then-not-again-clause-store
returns-then-not-again-clause-store g c = λ m told. store_same c.as_bytes.result.now (key_text c.args.key) c.args.body.now m _ c.as_bytes.ensures.text c.in-Err-OutOfMemory.field-0 c.in-Err-OutOfMemory.field-0-is (c.in-Err-OutOfMemory.ensures.change m told)

pub returns-else-not-again-clause-store : goal.returns-else-not-again-clause-store
returns-else-not-again-clause-store g c = λ m told. store_same c.as_bytes.result.now (key_text c.args.key) c.args.body.now m _ c.as_bytes.ensures.text c.in-Err-OutOfMemory.field-0 c.in-Err-OutOfMemory.field-0-is (c.in-Err-OutOfMemory.ensures.change m told)

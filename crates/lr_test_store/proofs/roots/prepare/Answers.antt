use Rattle.lr_test_store.proofs.roots.prepare.Goals as goal

pub prepare-requires-clause-few : goal.prepare-requires-clause-few
prepare-requires-clause-few c = c.has_room.ensures c.if-not-has_room.false _ _

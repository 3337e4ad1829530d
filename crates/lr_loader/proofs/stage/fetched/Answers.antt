use Rattle.lr_loader.proofs.stage.fetched.Goals as goal

pub returns-in-Depot-Fetched-clause-next : goal.returns-in-Depot-Fetched-clause-next
returns-in-Depot-Fetched-clause-next c = rw (c.in-Depot-Fetched.is, c.in-Depot-Fetched.field-0-is) c.to_put_back.ensures.next

use Rattle.lr_actors.proofs.running.hand_out.Goals as goal

pub returns-in-Serves : goal.returns-in-Serves
returns-in-Serves c = rw c.in-Serves.is c.hand_serving.ensures

pub returns-in-Makes : goal.returns-in-Makes
returns-in-Makes c = rw c.in-Makes.is c.hand_single.ensures

pub returns-in-Forges : goal.returns-in-Forges
returns-in-Forges c = rw c.in-Forges.is c.hand_forge.ensures

pub returns-in-Collects : goal.returns-in-Collects
returns-in-Collects c = rw c.in-Collects.is c.hand_collecting.ensures

pub returns-in-Migrates : goal.returns-in-Migrates
returns-in-Migrates c = rw c.in-Migrates.is c.hand_migrating.ensures

pub returns-in-Creates : goal.returns-in-Creates
returns-in-Creates c = rw c.in-Creates.is c.hand_creating.ensures

use Rattle.lr_collector.specs.Seen.{seen_end}
use Rattle.lr_desk.proofs.Walking.{collection_fault, collection_read, collected_of}
use Rattle.lr_desk.proofs.running.collected.Goals as goal

pub returns-clause-walk : goal.returns-clause-walk
returns-clause-walk g c =
    collected_of c.args.job c.args.depot.now.log c.collect-end.new.depot.log (seen_end c.collect-end.result) c.of_collection.result c.requires.fresh c.collect-end.ensures.walk c.of_collection.ensures

pub returns-clause-cause : goal.returns-clause-cause
returns-clause-cause g c =
    collection_fault (seen_end c.collect-end.result) c.of_collection.result (g.O.Origin.faults c.args.depot.now.origin) (g.O.Origin.faults c.collect-end.new.depot.origin) c.of_collection.ensures c.collect-end.ensures.cause

pub returns-clause-read : goal.returns-clause-read
returns-clause-read g c = λ e. collection_read (seen_end c.collect-end.result) c.of_collection.result c.of_collection.ensures e

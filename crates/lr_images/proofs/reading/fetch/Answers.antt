use Rattle.std.proofs.Common.{refl, [], ◌∷◌}
use Rattle.std.specs.Arc.{arc_value}
use Rattle.sha2.specs.Sha256.{sha256}
use Rattle.lr_depot.specs.declared.call.DepotCall.TheVariants.{Fetch}
use Rattle.lr_depot.specs.declared.call.DepotReply.TheVariants.{Fetched, OutOfMemory}
use Rattle.lr_depot.specs.Depot.{state}
use Rattle.lr_walk.specs.Depot.{step, fetches, fetched, memory, seen_reply}
use Rattle.lr_images.proofs.Calling.{calls_one}
use Rattle.lr_images.proofs.Readings.{fetch_keeps, is_fetched, not_given, fetch_ends, fetch_memory, fetch_answer, store_fault}
use Rattle.lr_images.proofs.reading.fetch.Goals as goal

pub returns-in-Fetched-clause-walk : goal.returns-in-Fetched-clause-walk
returns-in-Fetched-clause-walk g c = (
  step (fetches c.args.lease c.args.index) (fetched (sha256 (arc_value c.in-Fetched.chunk))) ∷ [],
  calls_one g.O.Origin.faults c.args.depot.now c.apply.new.self (Fetch c.args.lease c.args.index) (Fetched c.in-Fetched.chunk) c.in-Fetched.ensures.fixed c.in-Fetched.ensures.answers c.in-Fetched.ensures.logged c.in-Fetched.ensures.never_falls,
  refl,
)

pub returns-in-Fetched-clause-keeps : goal.returns-in-Fetched-clause-keeps
returns-in-Fetched-clause-keeps g c = fetch_keeps g.O.Origin.objects c.args.depot.now c.apply.new.self c.args.lease c.args.index (Fetched c.in-Fetched.chunk) c.in-Fetched.ensures.fixed c.in-Fetched.ensures.logged c.in-Fetched.ensures.store

pub returns-in-Fetched-clause-fetched : goal.returns-in-Fetched-clause-fetched
returns-in-Fetched-clause-fetched g c =
    is_fetched (g.O.Origin.objects c.args.depot.now.origin) (state c.args.depot.now.start c.args.depot.now.log) c.args.lease c.args.index c.in-Fetched.chunk (g.O.Origin.objects c.apply.new.self.origin) c.in-Fetched.ensures.answers c.in-Fetched.ensures.store

pub returns-in-OutOfMemory-clause-walk : goal.returns-in-OutOfMemory-clause-walk
returns-in-OutOfMemory-clause-walk g c = (
  step (fetches c.args.lease c.args.index) memory ∷ [],
  calls_one g.O.Origin.faults c.args.depot.now c.apply.new.self (Fetch c.args.lease c.args.index) OutOfMemory c.in-OutOfMemory.ensures.fixed c.in-OutOfMemory.ensures.answers c.in-OutOfMemory.ensures.logged c.in-OutOfMemory.ensures.never_falls,
  fetch_memory c.args.lease c.args.index,
)

pub returns-in-OutOfMemory-clause-keeps : goal.returns-in-OutOfMemory-clause-keeps
returns-in-OutOfMemory-clause-keeps g c = fetch_keeps g.O.Origin.objects c.args.depot.now c.apply.new.self c.args.lease c.args.index OutOfMemory c.in-OutOfMemory.ensures.fixed c.in-OutOfMemory.ensures.logged c.in-OutOfMemory.ensures.store

pub returns-in_default-clause-walk : goal.returns-in_default-clause-walk
returns-in_default-clause-walk g c = (
  step (fetches c.args.lease c.args.index) (seen_reply c.apply.result) ∷ [],
  calls_one g.O.Origin.faults c.args.depot.now c.apply.new.self (Fetch c.args.lease c.args.index) c.apply.result c.apply.ensures.fixed c.apply.ensures.answers c.apply.ensures.logged c.apply.ensures.never_falls,
  fetch_ends (state c.args.depot.now.start c.args.depot.now.log) c.args.lease c.args.index c.apply.result c.apply.ensures.answers (not_given c.apply.result c.in_default.not-Fetched c.in_default.not-OutOfMemory),
)

pub returns-in_default-clause-keeps : goal.returns-in_default-clause-keeps
returns-in_default-clause-keeps g c = fetch_keeps g.O.Origin.objects c.args.depot.now c.apply.new.self c.args.lease c.args.index c.apply.result c.apply.ensures.fixed c.apply.ensures.logged c.apply.ensures.store

pub returns-in_default-clause-answer : goal.returns-in_default-clause-answer
returns-in_default-clause-answer g c = fetch_answer (state c.args.depot.now.start c.args.depot.now.log) c.args.lease c.args.index c.apply.result c.apply.ensures.answers (not_given c.apply.result c.in_default.not-Fetched c.in_default.not-OutOfMemory)

pub returns-in_default-clause-fault : goal.returns-in_default-clause-fault
returns-in_default-clause-fault g c = λ h. c.apply.ensures.cause (store_fault c.apply.result h)

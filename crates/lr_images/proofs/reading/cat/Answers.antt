use Rattle.std.proofs.Common.{[], ◌∷◌, Vec, Global, ℕ}
use Rattle.lr_depot.specs.declared.call.DepotCall.TheVariants.{OpenImage}
use Rattle.lr_depot.specs.declared.call.DepotReply.TheVariants.{Opened, OutOfMemory}
use Rattle.lr_depot.specs.Depot.{state}
use Rattle.lr_walk.specs.Depot.{step, opens, memory, seen_reply}
use Rattle.lr_images.proofs.Calling.{calls_one, rose_before}
use Rattle.lr_images.proofs.Readings.{cat_walk, cat_answer, if_err, open_store, open_memory, open_ends, open_refusal, not_opened, store_fault}
use Rattle.lr_images.proofs.reading.cat.Goals as goal

pub returns-in-Opened-clause-walk : goal.returns-in-Opened-clause-walk
returns-in-Opened-clause-walk g c =
    cat_walk g.O.Origin.objects g.O.Origin.faults c.args.depot.now c.apply.new.self c.args.image c.args.tenant.now.bytes c.in-Opened.lease c.in-Opened.manifest c.in-Opened.ensures.fixed c.in-Opened.ensures.logged c.in-Opened.ensures.answers
    c.in-Opened.ensures.never_falls (λ o told. open_store (state c.args.depot.now.start c.args.depot.now.log) c.args.image (Opened c.in-Opened.lease c.in-Opened.manifest) o (g.O.Origin.objects c.apply.new.self.origin) (c.in-Opened.ensures.store o told))
    (λ (v : Vec ℕ Global). v.items) c.read_and_close.new.depot c.deref.result.now c.read_and_close.result c.deref.ensures c.read_and_close.ensures.walk c.read_and_close.ensures.read

pub returns-in-Opened-clause-kept : goal.returns-in-Opened-clause-kept
returns-in-Opened-clause-kept g c = λ o told.
    c.read_and_close.ensures.kept o (open_store (state c.args.depot.now.start c.args.depot.now.log) c.args.image (Opened c.in-Opened.lease c.in-Opened.manifest) o (g.O.Origin.objects c.apply.new.self.origin) (c.in-Opened.ensures.store o told))

pub returns-in-Opened-clause-refusal : goal.returns-in-Opened-clause-refusal
returns-in-Opened-clause-refusal g c =
    cat_answer g.O.Origin.objects g.O.Origin.faults c.args.depot.now c.apply.new.self c.args.image c.args.tenant.now.bytes c.in-Opened.lease c.in-Opened.manifest c.in-Opened.ensures.fixed c.in-Opened.ensures.logged c.in-Opened.ensures.answers
    c.deref.result.now c.read_and_close.result c.deref.ensures c.read_and_close.ensures.answer

pub returns-in-Opened-clause-fault : goal.returns-in-Opened-clause-fault
returns-in-Opened-clause-fault g c = if_err _ _ c.read_and_close.result
    (λ e f h. rose_before (g.O.Origin.faults c.args.depot.now.origin) (g.O.Origin.faults c.apply.new.self.origin) (g.O.Origin.faults c.read_and_close.new.depot.origin) c.in-Opened.ensures.never_falls (f h))
    c.read_and_close.ensures.fault

pub returns-in-OutOfMemory-clause-walk : goal.returns-in-OutOfMemory-clause-walk
returns-in-OutOfMemory-clause-walk g c = (
  step (opens c.args.image) memory ∷ [],
  calls_one g.O.Origin.faults c.args.depot.now c.apply.new.self (OpenImage c.args.image) OutOfMemory c.in-OutOfMemory.ensures.fixed c.in-OutOfMemory.ensures.answers c.in-OutOfMemory.ensures.logged c.in-OutOfMemory.ensures.never_falls,
  open_memory c.args.image c.args.tenant.now.bytes,
  tt,
)

pub returns-in-OutOfMemory-clause-kept : goal.returns-in-OutOfMemory-clause-kept
returns-in-OutOfMemory-clause-kept g c = λ o told. open_store (state c.args.depot.now.start c.args.depot.now.log) c.args.image OutOfMemory o (g.O.Origin.objects c.apply.new.self.origin) (c.in-OutOfMemory.ensures.store o told)

pub returns-in_default-clause-walk : goal.returns-in_default-clause-walk
returns-in_default-clause-walk g c = (
  step (opens c.args.image) (seen_reply c.apply.result) ∷ [],
  calls_one g.O.Origin.faults c.args.depot.now c.apply.new.self (OpenImage c.args.image) c.apply.result c.apply.ensures.fixed c.apply.ensures.answers c.apply.ensures.logged c.apply.ensures.never_falls,
  open_ends (state c.args.depot.now.start c.args.depot.now.log) c.args.image c.args.tenant.now.bytes c.apply.result c.apply.ensures.answers (not_opened c.apply.result c.in_default.not-Opened c.in_default.not-OutOfMemory),
  tt,
)

pub returns-in_default-clause-kept : goal.returns-in_default-clause-kept
returns-in_default-clause-kept g c = λ o told. open_store (state c.args.depot.now.start c.args.depot.now.log) c.args.image c.apply.result o (g.O.Origin.objects c.apply.new.self.origin) (c.apply.ensures.store o told)

pub returns-in_default-clause-refusal : goal.returns-in_default-clause-refusal
returns-in_default-clause-refusal g c =
    open_refusal (state c.args.depot.now.start c.args.depot.now.log) c.args.image c.apply.result c.apply.ensures.answers (not_opened c.apply.result c.in_default.not-Opened c.in_default.not-OutOfMemory)

pub returns-in_default-clause-fault : goal.returns-in_default-clause-fault
returns-in_default-clause-fault g c = λ h. c.apply.ensures.cause (store_fault c.apply.result h)

use Rattle.std.proofs.Common.{ap, ◌∙◌}
use Rattle.sha2.specs.Sha256.{sha256}
use Rattle.lr_depot.specs.declared.call.DepotCall.TheVariants as call
use Rattle.lr_depot.specs.declared.call.DepotNoted.TheVariants as noted
use Rattle.lr_depot.proofs.Ready.{never_fault}
use Rattle.lr_depot.proofs.serving.serve.Goals as goal

pub returns-in-OpenImage-clause-served : goal.returns-in-OpenImage-clause-served
returns-in-OpenImage-clause-served g c = rw c.in-OpenImage.is (c.open_image-answer.ensures.served)

pub returns-in-OpenImage-clause-cause : goal.returns-in-OpenImage-clause-cause
returns-in-OpenImage-clause-cause g c = λ f. absurd (never_fault c.args.kernel.now c.open_image-answer.new.self c.args.caller (call.OpenImage c.in-OpenImage.image) (noted.OpenImage c.in-OpenImage.image) c.open_image-answer.result c.requires.ready.makers c.requires.ready.own c.open_image-answer.ensures.served (λ s k step. step) f)

pub returns-in-Fetch-clause-served : goal.returns-in-Fetch-clause-served
returns-in-Fetch-clause-served g c = rw c.in-Fetch.is (c.fetch-answer.ensures.served)

pub returns-in-Fetch-clause-unasked : goal.returns-in-Fetch-clause-unasked
returns-in-Fetch-clause-unasked g c = rw c.in-Fetch.is (c.fetch-answer.ensures.unasked)

pub returns-in-Close-clause-served : goal.returns-in-Close-clause-served
returns-in-Close-clause-served g c = rw c.in-Close.is (c.close-answer.ensures.served)

pub returns-in-Close-clause-cause : goal.returns-in-Close-clause-cause
returns-in-Close-clause-cause g c = λ f. absurd (never_fault c.args.kernel.now c.close-answer.new.self c.args.caller (call.Close c.in-Close.lease) (noted.Close c.in-Close.lease) c.close-answer.result c.requires.ready.makers c.requires.ready.own c.close-answer.ensures.served (λ s k step. step) f)

pub returns-in-BeginCreate-clause-served : goal.returns-in-BeginCreate-clause-served
returns-in-BeginCreate-clause-served g c = rw c.in-BeginCreate.is (c.begin_create-answer.ensures.served)

pub returns-in-BeginCreate-clause-cause : goal.returns-in-BeginCreate-clause-cause
returns-in-BeginCreate-clause-cause g c = λ f. absurd (never_fault c.args.kernel.now c.begin_create-answer.new.self c.args.caller (call.BeginCreate c.in-BeginCreate.image) (noted.BeginCreate c.in-BeginCreate.image) c.begin_create-answer.result c.requires.ready.makers c.requires.ready.own c.begin_create-answer.ensures.served (λ s k step. step) f)

pub returns-in-PutChunk-clause-served : goal.returns-in-PutChunk-clause-served
returns-in-PutChunk-clause-served g c = rw c.in-PutChunk.is (c.put_chunk-answer.ensures.served c.name-name.result.now (c.name-name.ensures ∙ ap sha256 c.deref.ensures))

pub returns-in-PutChunk-clause-unasked : goal.returns-in-PutChunk-clause-unasked
returns-in-PutChunk-clause-unasked g c = rw c.in-PutChunk.is (c.put_chunk-answer.ensures.unasked)

pub returns-in-PutManifest-clause-served : goal.returns-in-PutManifest-clause-served
returns-in-PutManifest-clause-served g c = rw c.in-PutManifest.is (c.put_manifest-answer.ensures.served)

pub returns-in-PutManifest-clause-unasked : goal.returns-in-PutManifest-clause-unasked
returns-in-PutManifest-clause-unasked g c = rw c.in-PutManifest.is (c.put_manifest-answer.ensures.unasked)

pub returns-in-Abandon-clause-served : goal.returns-in-Abandon-clause-served
returns-in-Abandon-clause-served g c = rw c.in-Abandon.is (c.abandon-answer.ensures.served)

pub returns-in-Abandon-clause-cause : goal.returns-in-Abandon-clause-cause
returns-in-Abandon-clause-cause g c = λ f. absurd (never_fault c.args.kernel.now c.abandon-answer.new.self c.args.caller (call.Abandon c.in-Abandon.session) (noted.Abandon c.in-Abandon.session) c.abandon-answer.result c.requires.ready.makers c.requires.ready.own c.abandon-answer.ensures.served (λ s k step. step) f)

pub returns-in-Rotate-clause-served : goal.returns-in-Rotate-clause-served
returns-in-Rotate-clause-served g c = rw c.in-Rotate.is (c.rotate-answer.ensures.served)

pub returns-in-Rotate-clause-unasked : goal.returns-in-Rotate-clause-unasked
returns-in-Rotate-clause-unasked g c = rw c.in-Rotate.is (c.rotate-answer.ensures.unasked)

pub returns-in-Reap-clause-served : goal.returns-in-Reap-clause-served
returns-in-Reap-clause-served g c = rw c.in-Reap.is (c.reap-answer.ensures.served)

pub returns-in-Reap-clause-cause : goal.returns-in-Reap-clause-cause
returns-in-Reap-clause-cause g c = λ f. absurd (never_fault c.args.kernel.now c.reap-answer.new.self c.args.caller call.Reap noted.Reap c.reap-answer.result c.requires.ready.makers c.requires.ready.own c.reap-answer.ensures.served (λ s k step. step) f)

pub returns-in-BeginMigrate-clause-served : goal.returns-in-BeginMigrate-clause-served
returns-in-BeginMigrate-clause-served g c = rw c.in-BeginMigrate.is (c.begin_migrate-answer.ensures.served)

pub returns-in-BeginMigrate-clause-cause : goal.returns-in-BeginMigrate-clause-cause
returns-in-BeginMigrate-clause-cause g c = λ f. absurd (never_fault c.args.kernel.now c.begin_migrate-answer.new.self c.args.caller (call.BeginMigrate c.in-BeginMigrate.image) (noted.BeginMigrate c.in-BeginMigrate.image) c.begin_migrate-answer.result c.requires.ready.makers c.requires.ready.own c.begin_migrate-answer.ensures.served (λ s k step. step) f)

pub returns-in-CopyRead-clause-served : goal.returns-in-CopyRead-clause-served
returns-in-CopyRead-clause-served g c = rw c.in-CopyRead.is (c.copy_read-answer.ensures.served)

pub returns-in-CopyRead-clause-unasked : goal.returns-in-CopyRead-clause-unasked
returns-in-CopyRead-clause-unasked g c = rw c.in-CopyRead.is (c.copy_read-answer.ensures.unasked)

pub returns-in-FinishMigrate-clause-served : goal.returns-in-FinishMigrate-clause-served
returns-in-FinishMigrate-clause-served g c = rw c.in-FinishMigrate.is (c.finish_migrate-answer.ensures.served)

pub returns-in-FinishMigrate-clause-unasked : goal.returns-in-FinishMigrate-clause-unasked
returns-in-FinishMigrate-clause-unasked g c = rw c.in-FinishMigrate.is (c.finish_migrate-answer.ensures.unasked)

pub returns-in-Withdraw-clause-served : goal.returns-in-Withdraw-clause-served
returns-in-Withdraw-clause-served g c = rw c.in-Withdraw.is (c.withdraw-answer.ensures.served)

pub returns-in-Withdraw-clause-unasked : goal.returns-in-Withdraw-clause-unasked
returns-in-Withdraw-clause-unasked g c = rw c.in-Withdraw.is (c.withdraw-answer.ensures.unasked)

pub returns-in-Expire-clause-served : goal.returns-in-Expire-clause-served
returns-in-Expire-clause-served g c = rw c.in-Expire.is (c.expire-answer.ensures.served)

pub returns-in-Expire-clause-unasked : goal.returns-in-Expire-clause-unasked
returns-in-Expire-clause-unasked g c = rw c.in-Expire.is (c.expire-answer.ensures.unasked)

pub returns-in-Delete-clause-served : goal.returns-in-Delete-clause-served
returns-in-Delete-clause-served g c = rw c.in-Delete.is (c.delete-answer.ensures.served)

pub returns-in-Delete-clause-unasked : goal.returns-in-Delete-clause-unasked
returns-in-Delete-clause-unasked g c = rw c.in-Delete.is (c.delete-answer.ensures.unasked)

pub returns-in-Sweep-clause-served : goal.returns-in-Sweep-clause-served
returns-in-Sweep-clause-served g c = rw c.in-Sweep.is (c.sweep-answer.ensures.served)

pub returns-in-Sweep-clause-store : goal.returns-in-Sweep-clause-store
returns-in-Sweep-clause-store g c = rw c.in-Sweep.is (c.sweep-answer.ensures.store)

pub returns-in-Sweep-clause-unasked : goal.returns-in-Sweep-clause-unasked
returns-in-Sweep-clause-unasked g c = rw c.in-Sweep.is (c.sweep-answer.ensures.unasked)

pub returns-in-Settle-clause-served : goal.returns-in-Settle-clause-served
returns-in-Settle-clause-served g c = rw c.in-Settle.is (c.settle-answer.ensures.served)

pub returns-in-Settle-clause-unasked : goal.returns-in-Settle-clause-unasked
returns-in-Settle-clause-unasked g c = rw c.in-Settle.is (c.settle-answer.ensures.unasked)

use Rattle.std.proofs.Common.{◌≡◌, ◌∙◌, ap, sym, length, take, []}
use Rattle.lr_depot.specs.Depot.{state}
use Rattle.lr_images.specs.Cat.{end_of}
use Rattle.lr_images.proofs.Calling.{calls_none}
use Rattle.lr_images.proofs.Readings.{if_ok, if_err, key_count, is_read_of, keeps_none, store_lease, reads_keys, unsealed_walk, unsealed_answer, unsealed_fault}
use Rattle.lr_images.proofs.reading.read_leased.Goals as goal

pub fetch_all-requires : goal.fetch_all-requires
fetch_all-requires g c =
    let count : length c.in-Ok.keys ≡ length c.args.manifest.now.names = ap length c.in-Ok.ensures.1 ∙ key_count c.args.manifest.now c.args.tenant.now.bytes c.names.ensures.whole in
    record { count = ap length c.names.ensures.names ∙ sym count }

pub returns-in-Ok-clause-walk : goal.returns-in-Ok-clause-walk
returns-in-Ok-clause-walk g c =
    let count : length c.in-Ok.keys ≡ length c.args.manifest.now.names = ap length c.in-Ok.ensures.1 ∙ key_count c.args.manifest.now c.args.tenant.now.bytes c.names.ensures.whole in (
      c.fetch_all.ensures.walk.0,
      c.fetch_all.ensures.walk.1,
      reads_keys c.args.tenant.now.bytes c.args.lease (length c.in-Ok.keys) c.args.manifest.now c.fetch_all.ensures.walk.0 (end_of c.fetch_all.result) c.in-Ok.ensures.0 count c.fetch_all.ensures.walk.2,
    )

pub returns-in-Ok-clause-read : goal.returns-in-Ok-clause-read
returns-in-Ok-clause-read g c =
    let count : length c.in-Ok.keys ≡ length c.args.manifest.now.names = ap length c.in-Ok.ensures.1 ∙ key_count c.args.manifest.now c.args.tenant.now.bytes c.names.ensures.whole in
    if_ok _ _ c.fetch_all.result
    (λ v h image out.
    is_read_of (g.O.Origin.objects c.args.depot.now.origin) (state c.args.depot.now.start c.args.depot.now.log) c.args.lease image c.args.manifest.now c.args.tenant.now.bytes c.in-Ok.keys h.0 v.items c.is_denoted_by_tag.ensures
    c.in-Ok.ensures.0 c.in-Ok.ensures.1 count h.1 (h.2 ∙ ap (λ n. take n h.0) c.raw_len-len.ensures.value) out)
    c.fetch_all.ensures.texts

pub returns-in-Ok-clause-answer : goal.returns-in-Ok-clause-answer
returns-in-Ok-clause-answer g c =
    let count : length c.in-Ok.keys ≡ length c.args.manifest.now.names = ap length c.in-Ok.ensures.1 ∙ key_count c.args.manifest.now c.args.tenant.now.bytes c.names.ensures.whole in
    if_err _ _ c.fetch_all.result (λ e h image out. store_lease e (h image c.args.manifest.now out count)) c.fetch_all.ensures.answer

pub returns-in-Err-clause-walk : goal.returns-in-Err-clause-walk
returns-in-Err-clause-walk g c = ([], calls_none g.O.Origin.faults c.args.depot.now, unsealed_walk c.args.tenant.now.bytes c.args.lease c.args.manifest.now c.in-Err.error c.in-Err.ensures)

pub returns-in-Err-clause-keeps : goal.returns-in-Err-clause-keeps
returns-in-Err-clause-keeps g c = keeps_none g.O.Origin.objects c.args.depot.now

pub returns-in-Err-clause-answer : goal.returns-in-Err-clause-answer
returns-in-Err-clause-answer g c = λ image out. unsealed_answer c.args.manifest.now c.args.tenant.now.bytes c.in-Err.error c.in-Err.ensures

pub returns-in-Err-clause-fault : goal.returns-in-Err-clause-fault
returns-in-Err-clause-fault g c = λ h. unsealed_fault c.args.manifest.now c.args.tenant.now.bytes c.in-Err.error _ c.in-Err.ensures h

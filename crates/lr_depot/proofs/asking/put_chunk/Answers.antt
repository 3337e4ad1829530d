use Rattle.std.proofs.Common.{length, refl, sym, ap, subst, ◌∙◌}
use Rattle.sha2.specs.Sha256.{sha256}
use Rattle.lr_origin.specs.Text.{IsRoot}
use Rattle.lr_origin.specs.declared.key.KeyKind.TheVariants.{Chunk}
use Rattle.std.proofs.Common.{◌≡◌, None}
use Rattle.std.specs.Arc.{arc_value}
use Rattle.std.specs.FinMap as map
use Rattle.lr_roots.specs.View.{bare}
use Rattle.lr_rules.specs.State.{target}
use Rattle.lr_rules.proofs.Outcomes.{is_none}
use Rattle.lr_depot.specs.declared.call.DepotCall.TheVariants as call
use Rattle.lr_depot.specs.declared.call.DepotNoted.TheVariants as noted
use Rattle.lr_depot.specs.declared.call.DepotReply.TheVariants as reply
use Rattle.lr_depot.specs.declared.call.DepotTold.TheVariants as told
use Rattle.lr_depot.specs.Kernel.{state_of}
use Rattle.lr_depot.proofs.Bodies.{kept_there}
use Rattle.lr_depot.proofs.Ready.{target_root, doubted_chunk, chunk_few, is_not}
use Rattle.lr_depot.proofs.Making.{other_chunk}
use Rattle.lr_depot.proofs.Served.{put_kept, put_failed, chunk_after}
use Rattle.lr_depot.proofs.asking.put_chunk.Goals as goal

pub of-key-requires : goal.of-key-requires
of-key-requires g c = record { root = subst IsRoot c.in-Some.ensures.2 (target_root c.args.kernel.now c.requires.ready c.args.session c.args.caller c.in-Some.ensures.0 c.in-Some.ensures.1) }

pub returns-then-has-clause-store : goal.returns-then-has-clause-store
returns-then-has-clause-store g c = λ makers m told.
    kept_there (state_of c.args.kernel.now makers) c.args.caller c.args.session c.args.chunk c.logged-then-has.result.reply
    c.in-Some.ensures.0 c.of-key.result c.name.result.now.bytes m _
    c.logged-then-has.ensures.0 c.in-Some.ensures.1 (c.of-key.ensures ∙ ap (λ r. Chunk r c.name.result.now.bytes) (sym c.in-Some.ensures.2)) (c.name.ensures ∙ ap sha256 c.deref-2.ensures)
    (ap length (sym (c.bytes-body.ensures.bytes ∙ c.deref.ensures)) ∙ c.bytes-body.ensures.length) (c.has.ensures.0 c.if-has.true) told

pub put_key-end-requires-clause-few : goal.put_key-end-requires-clause-few
put_key-end-requires-clause-few g c = chunk_few c.args.kernel.now c.requires.ready _ _ _ _ c.of-key.ensures

pub put_key-end-requires-clause-again : goal.put_key-end-requires-clause-again
put_key-end-requires-clause-again g c = λ x here. doubted_chunk c.args.kernel.now c.requires.ready _ _ _ x c.of-key.ensures here

pub returns-in-Kept-clause-served : goal.returns-in-Kept-clause-served
returns-in-Kept-clause-served g c = λ name is makers own.
    let key : c.of-key.result ≡ Chunk (target c.in-Some.ensures.0) name.bytes =
    c.of-key.ensures ∙ ap (λ r. Chunk r c.name.result.now.bytes) (sym c.in-Some.ensures.2) ∙ ap (Chunk (target c.in-Some.ensures.0)) (c.name.ensures ∙ ap sha256 c.deref-2.ensures ∙ sym is) in
    let away : map.get c.args.kernel.now.catalog.view c.of-key.result ≡ None = is_none _ (is_not c.has.ensures c.if-has.false) in
    put_kept c.args.kernel.now makers own c.put_key-end.new.catalog c.put_key-end.new.doubts c.put_key-end.ensures.aside c.args.caller (call.PutChunk c.args.session c.args.chunk) (noted.PutChunk c.args.session name) c.logged-in-Kept.result
    c.of-key.result (Chunk (target c.in-Some.ensures.0) name.bytes) bare key (other_chunk c.of-key.result c.in-Some.root c.name.result.now.bytes c.of-key.ensures) c.in-Kept.ensures.known reply.Kept told.Kept c.logged-in-Kept.ensures
    (c.in-Some.ensures.0, c.in-Some.ensures.1) refl refl
    (chunk_after (state_of c.args.kernel.now makers) c.args.caller c.args.session c.in-Some.ensures.0 name c.in-Some.ensures.1 (ap (map.get c.args.kernel.now.catalog.view) (sym key) ∙ away))

pub returns-in-Fault-clause-served : goal.returns-in-Fault-clause-served
returns-in-Fault-clause-served g c = λ name is makers own.
    let key : c.of-key.result ≡ Chunk (target c.in-Some.ensures.0) (sha256 (arc_value c.args.chunk)) =
    c.of-key.ensures ∙ ap (λ r. Chunk r c.name.result.now.bytes) (sym c.in-Some.ensures.2) ∙ ap (Chunk (target c.in-Some.ensures.0)) (c.name.ensures ∙ ap sha256 c.deref-2.ensures) in
    put_failed c.args.kernel.now makers own c.put_key-end.new.catalog c.put_key-end.new.doubts c.put_key-end.ensures.aside c.args.caller (call.PutChunk c.args.session c.args.chunk) (noted.PutChunk c.args.session name) c.logged-in-Fault.result
    c.of-key.result (Chunk (target c.in-Some.ensures.0) (sha256 (arc_value c.args.chunk))) bare key (other_chunk c.of-key.result c.in-Some.root c.name.result.now.bytes c.of-key.ensures) c.in-Fault.ensures.known c.logged-in-Fault.ensures
    ((c.in-Some.ensures.0, c.in-Some.ensures.1, key), is_none _ (is_not c.has.ensures c.if-has.false)) refl

use Rattle.std.proofs.Common.{◌≡◌, ◌≤◌, ℕ, ◌+◌, ◌-◌, ◌*◌, List, [], ◌∷◌, ◌++◌, length, take, drop, refl, sym, ap, subst, ◌∙◌, arith}
use Rattle.lr_aes.specs.Key.{encrypted}
use Rattle.lr_aes.specs.Gcm.{gcm_text, gcm_tag}
use Rattle.lr_manifest.specs.Manifest.{IsManifest, clear_text}
use Rattle.lr_seal.specs.Table.{rows_of, joined_keys, HasTag, key_list}
use Rattle.lr_seal.proofs.Pieces.{clear_long, joined_long, length-joined, length-gcm_text, keys_is, keys_long}
use Rattle.lr_seal.proofs.table.KeyTable.unseal.Goals as goal

pub open_text-requires-clause-aad : goal.open_text-requires-clause-aad
open_text-requires-clause-aad c =
    let m = c.args.manifest.now in
    let whole : IsManifest m = c.sealed.ensures.whole in
    let clear : c.deref.result.now ≡ clear_text m.raw_len m.names = c.deref.ensures.value ∙ c.in_ok-clear.ensures in
    subst (λ (l : List ℕ). length l ≤ 4294967296) (sym clear) (clear_long m.raw_len m.names whole.raw_len whole.count)

pub open_text-requires-clause-text : goal.open_text-requires-clause-text
open_text-requires-clause-text c =
    let m = c.args.manifest.now in
    let whole : IsManifest m = c.sealed.ensures.whole in
    let keys : c.in_ok-keys.keys.items ≡ joined_keys m.sealed = c.in_ok-keys.ensures ∙ ap joined_keys c.sealed.ensures.sealed in
    subst (λ (l : List ℕ). length l ≤ 4294967296) (sym keys) (joined_long m.raw_len m.sealed whole.raw_len (whole.keys ∙ whole.count) whole.keys32)

pub returns-in-Err : goal.returns-in-Err
unfolding HasTag
returns-in-Err c = λ h.
    let m = c.args.manifest.now in
    let clear : c.deref.result.now ≡ clear_text m.raw_len m.names = c.deref.ensures.value ∙ c.in_ok-clear.ensures in
    let keys : c.in_ok-keys.keys.items ≡ joined_keys m.sealed = c.in_ok-keys.ensures ∙ ap joined_keys c.sealed.ensures.sealed in
    c.in-Err.ensures (c.tag.ensures ∙ h ∙ sym (λ i. gcm_tag (encrypted (c.new256-key.ensures i)) (c.nonce.ensures i) (clear i) (keys i)))

pub cut_rows-requires : goal.cut_rows-requires
cut_rows-requires c =
    let m = c.args.manifest.now in
    let whole : IsManifest m = c.sealed.ensures.whole in
    let keys : c.in_ok-keys.keys.items ≡ joined_keys m.sealed = c.in_ok-keys.ensures ∙ ap joined_keys c.sealed.ensures.sealed in
    let all : c.deref-in-Ok.result.now ≡ gcm_text (encrypted c.new256-key.result) c.nonce.result.now c.in_ok-keys.keys.items = c.deref-in-Ok.ensures.value ∙ c.in-Ok.ensures.1 in
    ap (λ (l : List ℕ). length l) all ∙ length-gcm_text (encrypted c.new256-key.result) c.nonce.result.now c.in_ok-keys.keys.items
    ∙ ap (λ (l : List ℕ). length l) keys ∙ length-joined m.sealed whole.keys32 ∙ ap (λ (l : List (List ℕ)). 32 * length l) (sym c.sealed-in-Ok.ensures.sealed)

pub returns : goal.returns
unfolding HasTag key_list
returns c =
    let m = c.args.manifest.now in
    let clear : c.deref.result.now ≡ clear_text m.raw_len m.names = c.deref.ensures.value ∙ c.in_ok-clear.ensures in
    let keys : c.in_ok-keys.keys.items ≡ joined_keys m.sealed = c.in_ok-keys.ensures ∙ ap joined_keys c.sealed.ensures.sealed in (
      sym c.tag.ensures ∙ c.in-Ok.ensures.0 ∙ (λ i. gcm_tag (encrypted (c.new256-key.ensures i)) (c.nonce.ensures i) (clear i) (keys i)),
      keys_is c.in_ok-cut_rows-in-Ok.field-0.items (length c.sealed-in-Ok.result.now) c.deref-in-Ok.result.now c.in_ok-cut_rows-in-Ok.ensures.joined c.in_ok-cut_rows-in-Ok.ensures.count c.in_ok-cut_rows-in-Ok.ensures.long
          ∙ ap (rows_of (length c.sealed-in-Ok.result.now)) (c.deref-in-Ok.ensures.value ∙ c.in-Ok.ensures.1)
          ∙ (λ i. rows_of (length (c.sealed-in-Ok.ensures.sealed i)) (gcm_text (encrypted (c.new256-key.ensures i)) (c.nonce.ensures i) (keys i))),
    )

pub invariant_of-result : goal.invariant_of-result
invariant_of-result c = keys_long c.in_ok-cut_rows-in-Ok.field-0.items c.in_ok-cut_rows-in-Ok.ensures.long

use Rattle.std.proofs.Common.{◌≡◌, ◌≤◌, ℕ, ◌+◌, ◌-◌, ◌*◌, List, [], ◌∷◌, ◌++◌, length, take, drop, refl, sym, ap, subst, ◌∙◌, arith}
use Rattle.lr_aes.specs.Key.{encrypted}
use Rattle.lr_aes.specs.Gcm.{gcm_text, gcm_tag}
use Rattle.lr_manifest.specs.Manifest.{ManifestFields, IsManifest, AreKeys, clear_text}
use Rattle.lr_seal.specs.Table.{rows_of, joined_keys, HasTag, key_list, made}
use Rattle.lr_seal.proofs.Pieces.{clear_long, joined_long, length-joined, length-gcm_text, length-rows_of, AreKeys-rows_of, made_tag, made_keys, cut_is}
use Rattle.lr_seal.proofs.make.make_manifest.Goals as goal

pub seal_text-tag-requires-clause-aad : goal.seal_text-tag-requires-clause-aad
seal_text-tag-requires-clause-aad c =
    let clear : c.deref-2.result.now ≡ clear_text c.args.raw_len c.args.names.items = c.deref-2.ensures.value ∙ c.in_ok-clear.ensures ∙ ap (clear_text c.args.raw_len) c.deref.ensures.value in
    subst (λ (l : List ℕ). length l ≤ 4294967296) (sym clear) (clear_long c.args.raw_len c.args.names.items c.requires.raw c.requires.names)

pub seal_text-tag-requires-clause-text : goal.seal_text-tag-requires-clause-text
seal_text-tag-requires-clause-text c =
    let keys : c.in_ok-text.text.items ≡ joined_keys c.args.keys.now = c.in_ok-text.ensures in
    subst (λ (l : List ℕ). length l ≤ 4294967296) (sym keys) (joined_long c.args.raw_len c.args.keys.now c.requires.raw c.requires.keys c.count-count.ensures.rows)

pub cut_rows-requires : goal.cut_rows-requires
cut_rows-requires c =
    let sealed : List ℕ = gcm_text (encrypted c.args.tenant.now.bytes) c.args.nonce (joined_keys c.args.keys.now) in
    let full : c.deref-3.result.now ≡ sealed = c.deref-3.ensures.value ∙ c.seal_text-tag.ensures.text ∙ (λ i. gcm_text (encrypted (c.new256-key.ensures i)) c.args.nonce (c.in_ok-text.ensures i)) in
    let long : length sealed ≡ 32 * length c.args.keys.now = length-gcm_text (encrypted c.args.tenant.now.bytes) c.args.nonce (joined_keys c.args.keys.now) ∙ length-joined c.args.keys.now c.count-count.ensures.rows in
    ap (λ (l : List ℕ). length l) full ∙ long ∙ ap (λ (n : ℕ). 32 * n) (sym c.count-count.ensures.count)

pub of-requires : goal.of-requires
of-requires c =
    let sealed : List ℕ = gcm_text (encrypted c.args.tenant.now.bytes) c.args.nonce (joined_keys c.args.keys.now) in
    let full : c.deref-3.result.now ≡ sealed = c.deref-3.ensures.value ∙ c.seal_text-tag.ensures.text ∙ (λ i. gcm_text (encrypted (c.new256-key.ensures i)) c.args.nonce (c.in_ok-text.ensures i)) in
    let long : length sealed ≡ 32 * length c.args.keys.now = length-gcm_text (encrypted c.args.tenant.now.bytes) c.args.nonce (joined_keys c.args.keys.now) ∙ length-joined c.args.keys.now c.count-count.ensures.rows in
    let rows_is : c.in_ok-sealed.sealed.items ≡ rows_of (length c.args.keys.now) sealed =
    cut_is c.in_ok-sealed.sealed.items (length c.args.keys.now) sealed (c.in_ok-sealed.ensures.joined ∙ full) (c.in_ok-sealed.ensures.count ∙ c.count-count.ensures.count) c.in_ok-sealed.ensures.long in
    record {
      raw_len = c.requires.raw;
      count = c.requires.names;
      keys = ap (λ (l : List (List ℕ)). length l) rows_is ∙ length-rows_of (length c.args.keys.now) sealed ∙ c.requires.keys ∙ sym c.requires.names;
      keys32 = subst AreKeys (sym rows_is) (AreKeys-rows_of (length c.args.keys.now) sealed long);
      nonce12 = omega arith;
      tag16 = omega arith;
    }

pub returns-clause-made : goal.returns-clause-made
unfolding made
returns-clause-made c =
    let sealed : List ℕ = gcm_text (encrypted c.args.tenant.now.bytes) c.args.nonce (joined_keys c.args.keys.now) in
    let full : c.deref-3.result.now ≡ sealed = c.deref-3.ensures.value ∙ c.seal_text-tag.ensures.text ∙ (λ i. gcm_text (encrypted (c.new256-key.ensures i)) c.args.nonce (c.in_ok-text.ensures i)) in
    let long : length sealed ≡ 32 * length c.args.keys.now = length-gcm_text (encrypted c.args.tenant.now.bytes) c.args.nonce (joined_keys c.args.keys.now) ∙ length-joined c.args.keys.now c.count-count.ensures.rows in
    let rows_is : c.in_ok-sealed.sealed.items ≡ rows_of (length c.args.keys.now) sealed =
    cut_is c.in_ok-sealed.sealed.items (length c.args.keys.now) sealed (c.in_ok-sealed.ensures.joined ∙ full) (c.in_ok-sealed.ensures.count ∙ c.count-count.ensures.count) c.in_ok-sealed.ensures.long in
    let clear : c.deref-2.result.now ≡ clear_text c.args.raw_len c.args.names.items = c.deref-2.ensures.value ∙ c.in_ok-clear.ensures ∙ ap (clear_text c.args.raw_len) c.deref.ensures.value in
    let text : c.seal_text-tag.new.text.items ≡ sealed = sym c.deref-3.ensures.value ∙ full in
    let tag : c.seal_text-tag.result ≡ gcm_tag (encrypted c.args.tenant.now.bytes) c.args.nonce (clear_text c.args.raw_len c.args.names.items) sealed =
    c.seal_text-tag.ensures.tag ∙ (λ i. gcm_tag (encrypted (c.new256-key.ensures i)) c.args.nonce (clear i) (text i)) in
    c.of.ensures.fields ∙ (λ i. record { raw_len = c.args.raw_len; names = c.args.names.items; nonce = c.args.nonce; sealed = rows_is i; tag = tag i })

pub returns-clause-restores : goal.returns-clause-restores
returns-clause-restores c =
    let t : List ℕ = c.args.tenant.now.bytes in
    let e : c.of.result ≡ made c.args.raw_len c.args.names.items c.args.keys.now c.args.nonce t = returns-clause-made c in (
      subst (λ (m : ManifestFields). HasTag m t) (sym e) (made_tag c.args.raw_len c.args.names.items c.args.keys.now c.args.nonce t c.count-count.ensures.rows),
      ap (λ (m : ManifestFields). key_list m t) e ∙ made_keys c.args.raw_len c.args.names.items c.args.keys.now c.args.nonce t c.count-count.ensures.rows,
    )

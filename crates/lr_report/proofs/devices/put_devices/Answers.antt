use Rattle.std.proofs.Common.{◌≡◌, ◌<◌, ◌≤◌, ℕ, List, length, min, get_or, sym, subst, ◌∙◌, arith}
use Rattle.std.specs.List.{zip}
use Rattle.std.proofs.lemmas.Slice.Zip.{length-zip, get_or-zip}
use Rattle.lr_device.specs.Held.{Seen}
use Rattle.lr_report.specs.declared.run.OpenDevice.{OpenDevice}
use Rattle.lr_report.specs.Report.{device_part, devices_part}
use Rattle.lr_report.proofs.Zipped.{pair_more, pairs_all}
use Rattle.lr_report.proofs.devices.put_devices.Goals as goal

-- the pair at a place of both lists
beside : (os : List OpenDevice) (ds : List Seen) (at : ℕ) (o : OpenDevice) (d : Seen) → at < length os → at < length ds → o ≡ get_or os at o → d ≡ get_or ds at d → (o, d) ≡ get_or (zip os ds) at (o, d)
beside os ds at o d first second iso isd = (λ i. (iso i, isd i)) ∙ sym (get_or-zip os ds at (o, d) first second)

shorter : (os : List OpenDevice) (ds : List Seen) (at : ℕ) → at < length os → at < length ds → at < length (zip os ds)
shorter os ds at first second = subst (λ (n : ℕ). at < n) (sym (length-zip os ds)) (omega arith)

past : (names : List (List ℕ)) (os : List OpenDevice) (ds : List Seen) (at : ℕ) → min (length names) (min (length os) (length ds)) ≤ at → min (length names) (length (zip os ds)) ≤ at
past names os ds at h = subst (λ (n : ℕ). min (length names) n ≤ at) (sym (length-zip os ds)) h

pub returns-in_default : goal.returns-in_default
unfolding devices_part
returns-in_default c =
    pairs_all (device_part c.args.callers.now) c.args.out.now.items c.loop-at.out.items c.args.names.now (zip c.args.opened.now c.args.devices.now) c.loop-at.at
    (past c.args.names.now c.args.opened.now c.args.devices.now c.loop-at.at (let h = c.in_default.ensures.lookup.3 in omega arith)) c.loop-at.invariant

pub returns-in_default-get : goal.returns-in_default-get
unfolding devices_part
returns-in_default-get c =
    pairs_all (device_part c.args.callers.now) c.args.out.now.items c.loop-at.out.items c.args.names.now (zip c.args.opened.now c.args.devices.now) c.loop-at.at
    (past c.args.names.now c.args.opened.now c.args.devices.now c.loop-at.at (let h = c.in_default-get.ensures.lookup.3 in omega arith)) c.loop-at.invariant

pub loop-at-preserved : goal.loop-at-preserved
loop-at-preserved c =
    let os = c.args.opened.now in
    let ds = c.args.devices.now in
    let first : c.loop-at.at < length os = c.in-Some.ensures.lookup.3.0 in
    let second : c.loop-at.at < length ds = c.in-Some-get.ensures.lookup.3.0 in
    pair_more (device_part c.args.callers.now) c.args.out.now.items c.loop-at.out.items c.args.names.now (zip os ds) c.loop-at.at c.put_device.new.out.items c.index-names-at.result (c.in-Some.open.now, c.in-Some-get.device.now)
    c.loop-at-test.true (shorter os ds c.loop-at.at first second) c.index-names-at.is
    (beside os ds c.loop-at.at c.in-Some.open.now c.in-Some-get.device.now first second (c.in-Some.ensures.lookup.3.1 c.in-Some.open.now) (c.in-Some-get.ensures.lookup.3.1 c.in-Some-get.device.now))
    c.loop-at.invariant c.in_ok-put_device.ensures

pub returns : goal.returns
unfolding devices_part
returns c =
    pairs_all (device_part c.args.callers.now) c.args.out.now.items c.loop-at.out.items c.args.names.now (zip c.args.opened.now c.args.devices.now) c.loop-at.at
    (omega arith) c.loop-at.invariant

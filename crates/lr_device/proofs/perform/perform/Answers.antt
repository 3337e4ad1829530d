use Rattle.std.proofs.Common.{◌≡◌, ◌*◌, ◌++◌, ap, sym, ◌∙◌, ℕ, List, [], length, true, false, take, drop, arith}
use Rattle.std.proofs.lemmas.List.{nil_from_length}
use Rattle.lr_overlay.specs.Pages.{over, is_written}
use Rattle.lr_overlay.proofs.Over.{length-over}
use Rattle.lr_device.specs.declared.call.DeviceReply.TheVariants.{Got}
use Rattle.lr_device.specs.PlainDevice.{is_in_range, is_read, size_of, offset_of}
use Rattle.lr_device.proofs.Calls.{reply_out, after_out, reply_in, after_in, answer_read, change_read, answer_change, change_change, marks_read, buffers_change}
use Rattle.lr_device.proofs.perform.perform.Goals as goal
use Rattle.lr_device.proofs.perform.perform.Goals.{After-is_read}

pub returns-then-not-is_in_range-clause-reply : goal.returns-then-not-is_in_range-clause-reply
returns-then-not-is_in_range-clause-reply c = λ base agrees fits.
    let out : is_in_range (4096 * length c.args.pages.now.pages) c.args.call.now ≡ false = ap (λ n. is_in_range n c.args.call.now) (sym c.size_of_pages.ensures.size) ∙ sym c.is_in_range.ensures ∙ c.if-not-is_in_range.true in
    reply_out (over 4096 c.args.pages.now.pages base) _ c.args.call.now (length-over 4096 c.args.pages.now.pages base c.is_whole.ensures fits) out

pub returns-then-not-is_in_range-clause-after : goal.returns-then-not-is_in_range-clause-after
returns-then-not-is_in_range-clause-after c = λ base agrees fits.
    let out : is_in_range (4096 * length c.args.pages.now.pages) c.args.call.now ≡ false = ap (λ n. is_in_range n c.args.call.now) (sym c.size_of_pages.ensures.size) ∙ sym c.is_in_range.ensures ∙ c.if-not-is_in_range.true in
    after_out (over 4096 c.args.pages.now.pages base) _ c.args.call.now (length-over 4096 c.args.pages.now.pages base c.is_whole.ensures fits) out

pub within_range : (c : After-is_read) → is_in_range (4096 * length c.args.pages.now.pages) c.args.call.now ≡ true
within_range c = ap (λ n. is_in_range n c.args.call.now) (sym c.size_of_pages.ensures.size) ∙ sym c.is_in_range.ensures ∙ c.if-not-is_in_range.false

pub returns-then-is_read-clause-marks : goal.returns-then-is_read-clause-marks
returns-then-is_read-clause-marks c = λ page.
    let read : is_read c.args.call.now ≡ true = sym c.is_read.ensures ∙ c.if-is_read.true in
    sym (marks_read (4096 * length c.args.pages.now.pages) (is_written c.args.pages.now.pages) c.args.call.now page read)

pub returns-then-is_read-clause-reply : goal.returns-then-is_read-clause-reply
returns-then-is_read-clause-reply c = λ base agrees fits.
    let read : is_read c.args.call.now ≡ true = sym c.is_read.ensures ∙ c.if-is_read.true in
    let inside = within_range (goal.at.returns-then-is_read-clause-reply c).After-is_read in
    let shown : List ℕ = over 4096 c.args.pages.now.pages base in
    let nothing : c.args.out.items ≡ [] = nil_from_length c.args.out.items (omega arith) in
    let got : c.of.result ≡ take (size_of c.args.call.now) (drop (offset_of c.args.call.now) shown) =
    c.of.ensures ∙ c.read_over.ensures.read base (agrees inside) fits ∙ ap (λ (l : List ℕ). l ++ take (size_of c.args.call.now) (drop (offset_of c.args.call.now) shown)) nothing in
    ap (λ (l : List ℕ). Got l) got ∙ sym (answer_read shown c.args.call.now read) ∙ sym (reply_in shown _ c.args.call.now (length-over 4096 c.args.pages.now.pages base c.is_whole.ensures fits) inside)

pub returns-then-is_read-clause-after : goal.returns-then-is_read-clause-after
returns-then-is_read-clause-after c = λ base agrees fits.
    let read : is_read c.args.call.now ≡ true = sym c.is_read.ensures ∙ c.if-is_read.true in
    let inside = within_range (goal.at.returns-then-is_read-clause-after c).After-is_read in
    let shown : List ℕ = over 4096 c.args.pages.now.pages base in
    sym (after_in shown _ c.args.call.now (length-over 4096 c.args.pages.now.pages base c.is_whole.ensures fits) inside ∙ change_read shown c.args.call.now read)

pub write_over-requires-clause-room : goal.write_over-requires-clause-room
write_over-requires-clause-room c =
    let change : is_read c.args.call.now ≡ false = sym c.is_read.ensures ∙ c.if-is_read.false in
    let inside = within_range (goal.at.write_over-requires-clause-room c).After-is_read in
    rw (← buffers_change (4096 * length c.args.pages.now.pages) (is_written c.args.pages.now.pages) c.args.call.now inside change) c.requires.room

pub returns-clause-reply : goal.returns-clause-reply
returns-clause-reply c = λ base agrees fits.
    let change : is_read c.args.call.now ≡ false = sym c.is_read.ensures ∙ c.if-is_read.false in
    let inside = within_range (goal.at.returns-clause-reply c).After-is_read in
    let shown : List ℕ = over 4096 c.args.pages.now.pages base in
    sym (reply_in shown _ c.args.call.now (length-over 4096 c.args.pages.now.pages base c.is_whole.ensures fits) inside ∙ answer_change shown c.args.call.now change)

pub returns-clause-after : goal.returns-clause-after
returns-clause-after c = λ base agrees fits.
    let change : is_read c.args.call.now ≡ false = sym c.is_read.ensures ∙ c.if-is_read.false in
    let inside = within_range (goal.at.returns-clause-after c).After-is_read in
    let shown : List ℕ = over 4096 c.args.pages.now.pages base in
    c.write_over.ensures.written base (agrees inside) fits ∙ sym (after_in shown _ c.args.call.now (length-over 4096 c.args.pages.now.pages base c.is_whole.ensures fits) inside ∙ change_change shown c.args.call.now change)

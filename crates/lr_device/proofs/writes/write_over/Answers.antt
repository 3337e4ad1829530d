use Rattle.std.proofs.Common.{◌≡◌, ℕ, ◌+◌, ◌-◌, ◌*◌, ◌<◌, ◌≤◌, List, length, take, drop, get_or, None, false, ap, sym, ◌∙◌, arith}
use Rattle.std.specs.Prelude.{not}
use Rattle.std.specs.Option.{is_some}
use Rattle.std.proofs.lemmas.List.{take_all, length-set}
use Rattle.lr_overlay.specs.Pages.{put, over, is_written, Pages}
use Rattle.lr_overlay.proofs.Over.{length-over}
use Rattle.lr_device.specs.Base.{HasHere}
use Rattle.lr_device.specs.PlainDevice.{offset_of, size_of}
use Rattle.lr_device.specs.Demand.{Wants, bytes_of, part_start, part_count}
use Rattle.lr_device.proofs.Ranges.{count_from}
use Rattle.lr_device.proofs.Marks.{others_stay, marks_more, room_more}
use Rattle.lr_device.proofs.Parts.{put_more, length_bytes_of, wants_later}
use Rattle.lr_device.proofs.writes.write_over.Goals as goal

pub write_page-requires-clause-room : goal.write_page-requires-clause-room
write_page-requires-clause-room c = λ bare.
    let was : is_written c.args.pages.now.pages c.loop-page.page ≡ false = sym (ap is_some (c.loop-page.invariant.later c.loop-page.page (omega arith))) ∙ bare in
    let count = count_from (λ p. not (is_written c.args.pages.now.pages p)) c.loop-page.page c.div_ceil-end.result (omega arith) in
    omega (arith, rw was at count, c.loop-page.invariant.room)

pub loop-page-preserved : goal.loop-page-preserved
loop-page-preserved c =
    let was : is_written c.loop-page.pages.pages c.loop-page.page ≡ is_written c.args.pages.now.pages c.loop-page.page = ap is_some (c.loop-page.invariant.later c.loop-page.page (omega arith)) in
    let within : c.loop-page.page < length c.loop-page.pages.pages = omega arith in
    let new = c.write_page.ensures.new in
    record {
      place = c.write_page.ensures.place ∙ c.loop-page.invariant.place;
      count = ap length new.1 ∙ simp length-set c.loop-page.invariant.count;
      room =
          room_more (is_written c.args.pages.now.pages c.loop-page.page) _ _ _ _ (count_from (λ p. not (is_written c.args.pages.now.pages p)) c.loop-page.page c.div_ceil-end.result (omega arith)) c.loop-page.invariant.room (rw was at c.write_page.ensures.room);
      later = λ p h. ap (λ (l : Pages). get_or l p None) new.1 ∙ others_stay c.loop-page.pages.pages c.loop-page.page p new.0 (omega arith) ∙ c.loop-page.invariant.later p (omega arith);
      marks = λ p. ap (λ (l : Pages). is_written l p) new.1 ∙ marks_more c.loop-page.pages.pages c.loop-page.page p _ new.0 (is_written c.args.pages.now.pages p) within (omega arith) (c.loop-page.invariant.marks p);
      written = λ base agrees fits.
          let now : length base ≡ 4096 * length c.loop-page.pages.pages = omega arith in
          let here : Wants (is_written c.loop-page.pages.pages) c.args.call.now c.loop-page.page → HasHere base c.args.pieces.now c.loop-page.page = λ w. agrees c.loop-page.page (wants_later _ _ c.args.call.now c.loop-page.page was w) in
          c.write_page.ensures.written base here now
          ∙ ap (λ (l : List ℕ). put l (offset_of c.args.call.now + part_start c.args.call.now c.loop-page.page) (take (part_count c.args.call.now c.loop-page.page) (drop (part_start c.args.call.now c.loop-page.page) (bytes_of c.args.call.now)))) (c.loop-page.invariant.written base agrees fits)
          ∙ put_more (over 4096 c.args.pages.now.pages base) (bytes_of c.args.call.now) (offset_of c.args.call.now) (size_of c.args.call.now) c.loop-page.page (omega arith) (omega arith) (length_bytes_of c.args.call.now c.requires.change) (omega (arith, length-over 4096 c.args.pages.now.pages base c.is_whole.ensures fits));
    }

pub returns-clause-written : goal.returns-clause-written
returns-clause-written c = λ base agrees fits.
    let long : length (bytes_of c.args.call.now) ≡ size_of c.args.call.now = length_bytes_of c.args.call.now c.requires.change in
    let past : length (bytes_of c.args.call.now) ≤ 4096 * c.loop-page.page - offset_of c.args.call.now = omega arith in
    c.loop-page.invariant.written base agrees fits ∙ ap (λ (b : List ℕ). put (over 4096 c.args.pages.now.pages base) (offset_of c.args.call.now) b) (take_all _ (bytes_of c.args.call.now) past)

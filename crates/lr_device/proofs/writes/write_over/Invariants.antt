use Rattle.std.proofs.Common.{◌≡◌, ℕ, ◌-◌, ◌*◌, ◌≤◌, List, length, take, vec_len, get_or, None}
use Rattle.std.specs.Prelude.{◌||◌, ◌&&◌, nat_le, nat_lt}
use Rattle.lr_overlay.specs.Pages.{put, over, is_written}
use Rattle.lr_device.specs.PlainDevice.{offset_of}
use Rattle.lr_device.specs.Demand.{AgreesFor, bytes_of, unwritten}
use Rattle.lr_device.proofs.writes.write_over.Given as goal

abbrev pub invariant-loop-page : goal.invariant-loop-page
invariant-loop-page l = record {
  place : l.pages.leaves ≡ l.initial.pages.leaves;
  count : length l.pages.pages ≡ length l.initial.pages.pages;
  room : unwritten (is_written l.initial.pages.pages) l.page (l.end - l.page) ≤ vec_len l.spare;
  later : (p : ℕ) → l.page ≤ p → get_or l.pages.pages p None ≡ get_or l.initial.pages.pages p None;
  marks : (p : ℕ) → is_written l.pages.pages p ≡ (is_written l.initial.pages.pages p || (nat_le l.first p && nat_lt p l.page));
  written : (base : List ℕ) → AgreesFor base l.pieces (is_written l.initial.pages.pages) l.call → length base ≡ 4096 * length l.initial.pages.pages
      → over 4096 l.pages.pages base ≡ put (over 4096 l.initial.pages.pages base) (offset_of l.call) (take (4096 * l.page - offset_of l.call) (bytes_of l.call));
}

use Rattle.std.proofs.Common.{◌≡◌, ℕ, ◌/◌, ◌<◌, ◌≤◌, length, true}
use Rattle.std.specs.Vec.{vec_len}
use Rattle.lr_overlay.specs.Pages.{is_placed, KeepsPlaces}
use Rattle.lr_overlay.specs.Directory.{place_of, leaves_of}
use Rattle.lr_overlay.proofs.add_leaves.Given as goal

abbrev pub invariant-loop-chunk : goal.invariant-loop-chunk
invariant-loop-chunk l = record {
  len : vec_len l.chunks ≡ vec_len l.initial.chunks;
  kept : (page : ℕ) → place_of l.chunks.items page ≡ place_of l.initial.chunks.items page;
  grows : KeepsPlaces (leaves_of l.initial.chunks.items) (leaves_of l.chunks.items);
  done : (page : ℕ) → l.from ≤ page / 128 → page / 128 < l.chunk → is_placed (leaves_of l.chunks.items) page ≡ true;
}

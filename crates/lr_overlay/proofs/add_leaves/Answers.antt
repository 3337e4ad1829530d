use Rattle.std.proofs.Common.{◌≡◌, ℕ, ◌<◌, ◌≤◌, ◌/◌, [], length, get_or, ◌∙◌, arith, true, inl, inr, ◌⊎◌}
use Rattle.std.proofs.lemmas.Bool.{cases_lt}
use Rattle.lr_overlay.specs.Pages.{is_placed, KeepsPlaces}
use Rattle.lr_overlay.specs.Directory.{leaves_of, Directory}
use Rattle.lr_overlay.proofs.Places.{leaf_kept, leaf_has, leaf_grows, read_or}
use Rattle.lr_overlay.proofs.add_leaves.Goals as goal
use Rattle.lr_overlay.proofs.add_leaves.Goals.{After-fill}

pub leaf : (c : After-fill) → (c.loop-chunk.chunk < length c.loop-chunk.chunks.items) × (get_or c.loop-chunk.chunks.items c.loop-chunk.chunk [] ≡ c.index_mut.result.now)
leaf c =
    let within : c.loop-chunk.chunk < length c.loop-chunk.chunks.items = omega (arith, c.loop-chunk.invariant.len) in
    (within, read_or c.loop-chunk.chunks.items c.loop-chunk.chunk c.index_mut.result.now [] within c.index_mut.ensures.value)

pub returns-in_err-fill-clause-grows : goal.returns-in_err-fill-clause-grows
returns-in_err-fill-clause-grows c = λ page has.
    let there = leaf (goal.at.returns-in_err-fill-clause-grows c).After-fill in
    leaf_grows c.loop-chunk.chunks.items c.loop-chunk.chunk c.index_mut.result.now c.fill.new.self there.0 there.1 c.fill.ensures.grows page (c.loop-chunk.invariant.grows page has)

pub loop-chunk-preserved : goal.loop-chunk-preserved
loop-chunk-preserved c =
    let there = leaf (goal.at.loop-chunk-preserved c).After-fill in
    let long : 128 ≤ length c.fill.new.self = c.in_ok-fill.ensures.ok in
    let grows : KeepsPlaces (leaves_of c.loop-chunk.chunks.items) (leaves_of _) = leaf_grows c.loop-chunk.chunks.items c.loop-chunk.chunk c.index_mut.result.now c.fill.new.self there.0 there.1 c.fill.ensures.grows in
    record {
      len = c.loop-chunk.invariant.len;
      kept = λ page. leaf_kept c.loop-chunk.chunks.items c.loop-chunk.chunk c.index_mut.result.now c.fill.new.self there.0 there.1 c.fill.ensures.kept page ∙ c.loop-chunk.invariant.kept page;
      grows = λ page has. grows page (c.loop-chunk.invariant.grows page has);
      done = λ page low high. elim (cases_lt (page / 128) c.loop-chunk.chunk) [
        | inl before ↦ grows page (c.loop-chunk.invariant.done page low before)
        | inr after ↦ leaf_has c.loop-chunk.chunks.items c.loop-chunk.chunk c.index_mut.result.now c.fill.new.self there.0 there.1 long page (omega arith)
      ];
    }

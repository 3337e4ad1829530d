use Rattle.std.proofs.Common.{◌≡◌, ◌<◌, length, map, get_or, List, ℕ, Some, sym, ap, ◌∙◌, refl, arith}
use Rattle.lr_overlay.specs.Pages.{Pages, fitted}
use Rattle.lr_overlay.specs.Places.{page_seen}
use Rattle.lr_overlay.proofs.Seen.{Place, read_seen, seen_within, lent_place}
use Rattle.lr_overlay.proofs.leaf.Leaf.page_mut.Goals as goal

pub returns-in-Some-at_mut : goal.returns-in-Some-at_mut
returns-in-Some-at_mut c =
    let places : List Place = c.in-Some.places.value.all in
    let view : map page_seen places ≡ c.args.self.now = rw c.in-Some.is at c.self.view_is in
    let within : c.args.at < length places = seen_within places c.args.self.now c.args.at view (omega (arith, ap (λ (l : Pages). length l) c.self.view_is)) in
    let lent : c.deref_mut.result.now ≡ c.in-Some.places.value = rw c.in-Some.places-is at c.deref_mut.ensures.value in
    let read : c.at_mut.result.now ≡ get_or places c.args.at c.at_mut.result.now = rw lent at c.at_mut.ensures.value in (
      rw (c.in-Some-at_mut.bytes-is, c.in-Some-at_mut.is, lent, c.in-Some.places-is, c.in-Some.is) (lent_place c.deref_mut-in-Some-at_mut.result.ghost_name places c.args.at c.args.self.now _ view (λ w. refl)),
      record {
        writes_back = tt;
        got = rw (← view)
            (read_seen places c.args.at c.at_mut.result.now within read ∙ ap page_seen c.in-Some-at_mut.is
            ∙ ap (λ (l : List ℕ). Some (fitted 4096 l)) (sym (rw c.in-Some-at_mut.bytes-is at c.deref_mut-in-Some-at_mut.ensures.value)));
      },
    )

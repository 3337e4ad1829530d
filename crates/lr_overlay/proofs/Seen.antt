-- The places of a chunk.
use Rattle.std.proofs.Common.{◌≡◌, ℕ, ◌<◌, List, [], ◌∷◌, length, set, map, get_or, Option, Some, None, Box, Global, ap, sym, ◌∙◌, inl, inr, ◌⊎◌}
use Rattle.std.proofs.lemmas.Bool.{cases_lt}
use Rattle.std.proofs.lemmas.List.{map-set, get_or-map, get_or_past, length-map}
use Rattle.lr_overlay.specs.Pages.{Pages, fitted}
use Rattle.lr_overlay.specs.Places.{page_seen}

-- a place: a page's buffer, where the page is written
abbrev pub Place : Type 0
Place = Option (Box (List ℕ) Global)

pub read_seen : (places : List Place) (at : ℕ) (x : Place) → at < length places → x ≡ get_or places at x → get_or (map page_seen places) at None ≡ page_seen x
read_seen places at x within read = get_or-map page_seen places at x None within ∙ ap page_seen (sym read)

-- there are as many places as pages are seen
pub seen_within : (places : List Place) (seen : Pages) (at : ℕ) → map page_seen places ≡ seen → at < length seen → at < length places
seen_within places seen at view h = rw (← view, length-map) at h

-- where each place is empty, no page is seen
pub none_seen : (places : List Place) → ((at : ℕ) → get_or places at None ≡ None) → (at : ℕ) → get_or (map page_seen places) at None ≡ None
none_seen places empty at = elim (cases_lt at (length places)) [
  | inl within ↦ get_or-map page_seen places at None None within ∙ ap page_seen (empty at)
  | inr past ↦ get_or_past (map page_seen places) at None (rw length-map past)
]

-- a page that is lent: whatever is left in its buffer is what is seen
pub lent_place : {N : Type 0} (name : N) (places : List Place) (at : ℕ) (seen : Pages) (f : List ℕ → Place) → map page_seen places ≡ seen → ((w : List ℕ) → page_seen (f w) ≡ Some (fitted 4096 w))
    → ◌≡◌ {A = (N × (List ℕ → Pages)) ⊎ Pages} (inl (name, λ w. map page_seen (set places at (f w)))) (inl (name, λ w. set seen at (Some (fitted 4096 w))))
lent_place name places at seen f view is =
    let each : (w : List ℕ) → map page_seen (set places at (f w)) ≡ set seen at (Some (fitted 4096 w)) = λ w. map-set page_seen places at (f w) ∙ (λ i. set (view i) at (is w i)) in
    (λ i. inl (name, λ w. each w i))

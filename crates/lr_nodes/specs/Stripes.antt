-- Lists of stripes.
use Rattle.std.specs.Prelude.{ℕ, List, ◌++◌, Bool, ◌==◌, ◌&&◌, bit_xor, slice_index, slice_set, find, option_map}
use Rattle.std.specs.List.{before_first, after_first}
use Rattle.std.specs.Option.{option_to_list}
use Rattle.std.specs.Str.{bytes_eq}
use Rattle.lr_manifest.specs.declared.name.Name.{Name}
use Rattle.lr_stripe.specs.declared.stripe.Stripe.{Stripe}

-- whether the stripe is of this name and index
abbrev pub is_at : Name → ℕ → Stripe → Bool
is_at name index s = bytes_eq s.name.bytes name.bytes && s.index == index

-- the stripe with the lowest bit of the byte at this place changed, where it has a byte there
abbrev pub flipped_at : ℕ → Stripe → Stripe
flipped_at at s =
    record { name = s.name; index = s.index; bytes = slice_set s.bytes at (bit_xor (slice_index s.bytes at) 1); digest = s.digest }

-- the list with the first element that passes changed in its place
abbrev pub with_first : {X : Type 0} → (X → Bool) → (X → X) → List X → List X
with_first p f xs = before_first p xs ++ (option_to_list (option_map f (find p xs)) ++ after_first p xs)

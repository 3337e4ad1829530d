-- A code of k of n stripes, by polynomials over the field of 256 elements.
use Rattle.std.specs.Prelude.{◌≡◌, ℕ, ◌+◌, ◌*◌, ◌<◌, ◌≤◌, List, length, map, slice_index, slice_index_or, take, drop, []}
use Rattle.std.specs.List.{range_with_len}
use Rattle.lr_field.specs.Polynomial.{AreBytes, IsDistinct, IsOnPolynomial, value_at}

-- the points 0, 1, .. of the first n values: a point is the byte of this number
abbrev pub points : ℕ → List ℕ
points n = range_with_len 0 n

-- The values are those at 0, 1, .. of one polynomial with k coefficients.
abbrev pub IsCodeword : ℕ → List ℕ → Type 0
IsCodeword k values = IsOnPolynomial k (points (length values)) values

-- part i of bytes that lie in parts of this length
abbrev pub part_of : ℕ → ℕ → List ℕ → List ℕ
part_of len i bytes = take len (drop (len * i) bytes)

-- the bytes at place t of the first n parts of this length
abbrev pub column : ℕ → ℕ → ℕ → List ℕ → List ℕ
column n len t bytes = map (λ i. slice_index bytes (len * i + t)) (points n)

-- Stripe j of a chunk of k parts: at each place the bytes of the parts are the values at 0 to k-1 of a polynomial
-- with k coefficients, and of each such polynomial the stripe has the value at j.
pub record IsStripe (k : ℕ) (chunk : List ℕ) (j : ℕ) (stripe : List ℕ) : Type 0 where
  pub parts : length chunk ≡ k * length stripe
  pub some : (t : ℕ) → t < length stripe → IsOnPolynomial k (points k) (column k (length stripe) t chunk)
  pub each : (t : ℕ) → t < length stripe → (cs : List ℕ) → AreBytes cs → length cs ≡ k
      → column k (length stripe) t chunk ≡ map (value_at cs) (points k) → slice_index stripe t ≡ value_at cs j

-- These bytes are the chunk's stripes of these indices, in their order, each of this length.
pub record AreStripes (k len : ℕ) (chunk indices stripes : List ℕ) : Type 0 where
  pub bytes : AreBytes chunk
  pub each : (i : ℕ) → i < k → IsStripe k chunk (slice_index indices i) (part_of len i stripes)

-- The stripes 0, 1, .. of a chunk are codewords: at each place one polynomial with k coefficients has all their bytes.
abbrev pub StripesAreCodeword : Type 0
StripesAreCodeword = (k len : ℕ) (chunk : List ℕ) (stripes : List (List ℕ)) → 0 < length stripes
    → ((j : ℕ) → j < length stripes → (length (slice_index_or stripes j []) ≡ len) × IsStripe k chunk j (slice_index_or stripes j []))
    → (t : ℕ) → t < len → IsCodeword k (map (λ s. slice_index s t) stripes)

-- Any k stripes of one length, at different indices, are those of exactly one chunk.
abbrev pub StripesAreOfOneChunk : Type 0
StripesAreOfOneChunk = (k len : ℕ) (indices stripes : List ℕ) → 0 < k → k ≤ 32 → 0 < len → AreBytes indices → IsDistinct indices → length indices ≡ k → AreBytes stripes
    → length stripes ≡ k * len → (chunk : List ℕ) × (AreStripes k len chunk indices stripes × ((other : List ℕ) → AreStripes k len other indices stripes → other ≡ chunk))

-- A chunk has one stripe of each index.
abbrev pub ChunkHasOneStripe : Type 0
ChunkHasOneStripe = (k : ℕ) (chunk : List ℕ) (j : ℕ) (a b : List ℕ) → 0 < k → IsStripe k chunk j a → IsStripe k chunk j b → a ≡ b

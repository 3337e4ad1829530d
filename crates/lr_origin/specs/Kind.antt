-- The kinds of keys in their order, which is the byte order of their texts.
use Rattle.std.specs.Prelude.{◌≡◌, ◌≢◌, ◌≤◌, ◌<◌, ℕ, Bool, true, false, List, [], ◌∷◌, length, Option, Some, None, refl}
use Rattle.std.proofs.Common.{ap, sym, ◌∙◌, subst, arith}
use Rattle.std.specs.declared.cmp.Ordering.{Ordering}
use Rattle.std.specs.declared.cmp.Ordering.TheVariants.{Less, Equal, Greater}
use Rattle.std.specs.Ordering.{nat_cmp, eq_by_cmp, is_eq}
use Rattle.std.specs.Cmp.{IsTotalOrder, on_total}
use Rattle.std.specs.Cmp.Lexicographic.{slice_cmp, nat_list_cmp_total}
use Rattle.std.specs.FinMap.{IsAntisymmetric, slice_cmp-IsAntisymmetric, nat_cmp-IsAntisymmetric}
use Rattle.lr_origin.specs.declared.key.KeyKind.{KeyKind}
use Rattle.lr_origin.specs.declared.key.KeyKind.TheVariants.{Root, Expired, Deleted, Chunk, Manifest, Withdrawn}

-- What tells a kind from the others, first what stands first in its text: `r` or `w`, the root, then `a` 97, `c` 99,
-- `d` 100, `e` 101 or `m` 109, then the name.
abbrev pub code : KeyKind → List ℕ
code (Root r) = 0 ∷ r ∷ 97 ∷ []
code (Chunk r h) = 0 ∷ r ∷ 99 ∷ h
code (Deleted r) = 0 ∷ r ∷ 100 ∷ []
code (Expired r) = 0 ∷ r ∷ 101 ∷ []
code (Manifest r n) = 0 ∷ r ∷ 109 ∷ n
code (Withdrawn n) = 1 ∷ n

-- by these numbers, from the first
abbrev pub kind_cmp : KeyKind → KeyKind → Ordering
kind_cmp j k = slice_cmp nat_cmp (code j) (code k)

pub kind_total : IsTotalOrder kind_cmp
kind_total = on_total code nat_list_cmp_total

same_code : (j k : KeyKind) → code j ≡ code k → j ≡ k
same_code (Root r1) (Root r2) e = grind arith
same_code (Root r1) (Expired r2) e = grind arith
same_code (Root r1) (Deleted r2) e = grind arith
same_code (Root r1) (Chunk r2 h2) e = grind arith
same_code (Root r1) (Manifest r2 n2) e = grind arith
same_code (Root r1) (Withdrawn n2) e = grind arith
same_code (Expired r1) (Root r2) e = grind arith
same_code (Expired r1) (Expired r2) e = grind arith
same_code (Expired r1) (Deleted r2) e = grind arith
same_code (Expired r1) (Chunk r2 h2) e = grind arith
same_code (Expired r1) (Manifest r2 n2) e = grind arith
same_code (Expired r1) (Withdrawn n2) e = grind arith
same_code (Deleted r1) (Root r2) e = grind arith
same_code (Deleted r1) (Expired r2) e = grind arith
same_code (Deleted r1) (Deleted r2) e = grind arith
same_code (Deleted r1) (Chunk r2 h2) e = grind arith
same_code (Deleted r1) (Manifest r2 n2) e = grind arith
same_code (Deleted r1) (Withdrawn n2) e = grind arith
same_code (Chunk r1 h1) (Root r2) e = grind arith
same_code (Chunk r1 h1) (Expired r2) e = grind arith
same_code (Chunk r1 h1) (Deleted r2) e = grind arith
same_code (Chunk r1 h1) (Chunk r2 h2) e = grind arith
same_code (Chunk r1 h1) (Manifest r2 n2) e = grind arith
same_code (Chunk r1 h1) (Withdrawn n2) e = grind arith
same_code (Manifest r1 n1) (Root r2) e = grind arith
same_code (Manifest r1 n1) (Expired r2) e = grind arith
same_code (Manifest r1 n1) (Deleted r2) e = grind arith
same_code (Manifest r1 n1) (Chunk r2 h2) e = grind arith
same_code (Manifest r1 n1) (Manifest r2 n2) e = grind arith
same_code (Manifest r1 n1) (Withdrawn n2) e = grind arith
same_code (Withdrawn n1) (Root r2) e = grind arith
same_code (Withdrawn n1) (Expired r2) e = grind arith
same_code (Withdrawn n1) (Deleted r2) e = grind arith
same_code (Withdrawn n1) (Chunk r2 h2) e = grind arith
same_code (Withdrawn n1) (Manifest r2 n2) e = grind arith
same_code (Withdrawn n1) (Withdrawn n2) e = grind arith

pub kind_exact : IsAntisymmetric kind_cmp
kind_exact j k e = same_code j k (slice_cmp-IsAntisymmetric nat_cmp-IsAntisymmetric (code j) (code k) e)

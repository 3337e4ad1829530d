-- A root has one state, and an image one home.
use Rattle.std.proofs.Common.{◌≡◌, ◌≤◌, ◌<◌, ◌+◌, ℕ, List, Option, Some, None, MatchOption, refl, ap, arith}
use Rattle.lr_origin.specs.declared.key.KeyKind.TheVariants.{Root}
use Rattle.lr_roots.specs.declared.state.RootState.{RootState}
use Rattle.lr_roots.specs.declared.state.RootState.TheVariants as state
use Rattle.lr_roots.specs.View.{View, Has}
use Rattle.lr_roots.specs.Roots.{IsHome, IsHomeless, IsRootState}
use Rattle.lr_roots.specs.Sound.{IsSound}
use Rattle.lr_rules.proofs.Keys.{no_some}
use Rattle.lr_rules.proofs.Facts.{home_unique}

-- the states of a root that is there
pub one_state : (v : View) (r : ℕ) (o : Option RootState) (s : RootState) → IsRootState v r o → IsRootState v r (Some s) → o ≡ Some s
one_state v r None state.Deleted a b = absurd (no_some _ a b.0)
one_state v r None state.Expired a b = absurd (no_some _ a b.0.0)
one_state v r None state.Active a b = absurd (no_some _ a b.0.0)
one_state v r None state.Retired a b = absurd (no_some _ a b.0.0)
one_state v r (Some state.Deleted) state.Deleted a b = refl
one_state v r (Some state.Deleted) state.Expired a b = absurd (no_some _ b.0.1 a.1)
one_state v r (Some state.Deleted) state.Active a b = absurd (no_some _ b.0.1 a.1)
one_state v r (Some state.Deleted) state.Retired a b = absurd (no_some _ b.0.1 a.1)
one_state v r (Some state.Expired) state.Deleted a b = absurd (no_some _ a.0.1 b.1)
one_state v r (Some state.Expired) state.Expired a b = refl
one_state v r (Some state.Expired) state.Active a b = absurd (no_some _ b.1 a.1)
one_state v r (Some state.Expired) state.Retired a b = absurd (no_some _ b.1 a.1)
one_state v r (Some state.Active) state.Deleted a b = absurd (no_some _ a.0.1 b.1)
one_state v r (Some state.Active) state.Expired a b = absurd (no_some _ a.1 b.1)
one_state v r (Some state.Active) state.Active a b = refl
one_state v r (Some state.Active) state.Retired a b = absurd (let l : b.2.0 ≤ r = a.2.1 b.2.0 b.2.2 in let m : r < b.2.0 = b.2.1 in omega (arith, l, m))
one_state v r (Some state.Retired) state.Deleted a b = absurd (no_some _ a.0.1 b.1)
one_state v r (Some state.Retired) state.Expired a b = absurd (no_some _ a.1 b.1)
one_state v r (Some state.Retired) state.Active a b = absurd (let l : a.2.0 ≤ r = b.2.1 a.2.0 a.2.2 in let m : r < a.2.0 = a.2.1 in omega (arith, l, m))
one_state v r (Some state.Retired) state.Retired a b = refl

-- the home of an image
pub one_home : (v : View) (image : List ℕ) (o : Option ℕ) (r : ℕ) → MatchOption o (IsHomeless v image) (λ root. IsHome v image root) → IsHome v image r → o ≡ Some r
one_home v image None r none home = absurd (no_some _ (none r home.live) home.listed)
one_home v image (Some q) r own home = ap Some (home_unique v image q r own home)

-- after a retired root comes another
pub next_root : (v : View) (r : ℕ) → IsSound v → IsRootState v r (Some state.Retired) → Has v (Root (r + 1))
next_root v r sound retired =
    let more : r < retired.2.0 = retired.2.1 in
    sound.no_gaps (Root retired.2.0) retired.2.0 (r + 1) retired.2.2 refl (omega arith) (omega (arith, more))

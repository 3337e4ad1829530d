-- a creation that is given its bytes stays steady
use Rattle.std.proofs.Common.{◌≡◌, inl, inr, ℕ, ◌+◌, ◌≤◌, ◌<◌, List, length, true, false, sym, ap, subst, arith}
use Rattle.std.proofs.lemmas.Bool.{false≢true}
use Rattle.lr_walk.specs.Depot.{began, kept, made, memory}
use Rattle.lr_walk.specs.Depot as depots
use Rattle.lr_creator.specs.Creation.{IsPiece}
use Rattle.lr_creator.specs.Progress.{Need, beginning, wanting, putting, finishing, leaving, ended, is_wanting, raw_len_of, advanced}
use Rattle.lr_creator.specs.Seen.{Gave, LeftShort, Finished, FinishedAt}
use Rattle.lr_creator.specs.Progress as creations
use Rattle.lr_actors.specs.Creating.{Knows, IsSteady, Progress}

-- a creation that wants more knows how many bytes it was given
known : (need : Need) (n : ℕ) → is_wanting need ≡ true → Knows need n → raw_len_of need ≡ n
known (wanting place parts) n w k = k
known (beginning image) n w k = absurd (false≢true w)
known (putting place parts name) n w k = absurd (false≢true w)
known (finishing place fields) n w k = absurd (false≢true w)
known (leaving session end) n w k = absurd (false≢true w)
known (ended end) n w k = absurd (false≢true w)

pub is_piece : (p : Progress) (plain : List ℕ) → is_wanting p.create.need ≡ true → IsSteady p → p.given < length p.raw → 1 ≤ length plain → length plain ≤ 524288 → p.given + length plain ≤ length p.raw
    → IsPiece (raw_len_of p.create.need) plain
is_piece p plain w s less some most within =
    let whole = s.whole less in
    let limit = s.most in
    subst (λ n. IsPiece n plain) (sym (known p.create.need p.given w s.knows)) (record { whole = whole; some = some; most = most; within = omega arith })

gave_knows : (need new : Need) (plain : List ℕ) (n : ℕ) → Gave need plain new → is_wanting need ≡ true → Knows need n → Knows new (n + length plain)
gave_knows (wanting place parts) new plain n gave w k = subst (λ (q : Need). Knows q (n + length plain)) (sym gave.2) (ap (λ m. m + length plain) k)
gave_knows need new plain n gave w k = absurd gave

short_knows : (need new : Need) (n : ℕ) → LeftShort need new → Knows new n
short_knows (wanting place parts) new n e = subst (λ (q : Need). Knows q n) (sym e) tt
short_knows need new n e = absurd e

finished_knows : (tenant : List ℕ) (need new : Need) (n : ℕ) → FinishedAt tenant need new → Knows new n
finished_knows tenant (wanting place parts) new n (inl e) = subst (λ (q : Need). Knows q n) (sym e) tt
finished_knows tenant (wanting place parts) new n (inr e) = subst (λ (q : Need). Knows q n) (sym e) tt
finished_knows tenant need new n f = absurd f

-- .. and wants nothing at once
pub gave_fed : (need new : Need) (plain : List ℕ) → Gave need plain new → is_wanting new ≡ false
gave_fed (wanting place parts) new plain gave = ap is_wanting gave.2
gave_fed need new plain gave = absurd gave

pub short_fed : (need new : Need) → LeftShort need new → is_wanting new ≡ false
short_fed (wanting place parts) new e = ap is_wanting e
short_fed need new e = absurd e

finished_fed : (tenant : List ℕ) (need new : Need) → FinishedAt tenant need new → is_wanting new ≡ false
finished_fed tenant (wanting place parts) new (inl e) = ap is_wanting e
finished_fed tenant (wanting place parts) new (inr e) = ap is_wanting e
finished_fed tenant need new f = absurd f

pub last_fed : (old : creations.Progress) (new : Need) → Finished old new → is_wanting new ≡ false
last_fed old new f = finished_fed old.tenant old.need new f

pub gave_steady : (p : Progress) (new : creations.Progress) (plain : List ℕ) (n : ℕ) → Gave p.create.need plain new.need → is_wanting p.create.need ≡ true → IsSteady p → p.given < length p.raw
    → n ≡ p.given + length plain → n ≤ length p.raw → (n < length p.raw → length plain ≡ 524288) → IsSteady (record { create = new; raw = p.raw; given = n })
gave_steady p new plain n gave w s less e within chunk = record {
  within = within;
  most = s.most;
  whole = λ more. let long = chunk more in let whole = s.whole less in omega arith;
  knows = subst (λ m. Knows new.need m) (sym e) (gave_knows p.create.need new.need plain p.given gave w s.knows);
}

pub short_steady : (p : Progress) (new : creations.Progress) → LeftShort p.create.need new.need → IsSteady p → IsSteady (record { create = new; raw = p.raw; given = p.given })
short_steady p new e s = record { within = s.within; most = s.most; whole = s.whole; knows = short_knows p.create.need new.need p.given e }

pub last_steady : (p : Progress) (new : creations.Progress) → Finished p.create new.need → IsSteady p → IsSteady (record { create = new; raw = p.raw; given = p.given })
last_steady p new f s = record { within = s.within; most = s.most; whole = s.whole; knows = finished_knows p.create.tenant p.create.need new.need p.given f }

advanced_knows : (need : Need) (reply : depots.Reply) (n : ℕ) → Knows need n → Knows (advanced need reply) n
advanced_knows (beginning image) (began session root salt number) n k = sym k
advanced_knows (beginning image) memory n k = tt
advanced_knows (beginning image) reply n k = tt
advanced_knows (wanting place parts) reply n k = k
advanced_knows (putting place parts name) kept n k = k
advanced_knows (putting place parts name) memory n k = tt
advanced_knows (putting place parts name) reply n k = tt
advanced_knows (finishing place fields) (made root) n k = tt
advanced_knows (finishing place fields) memory n k = tt
advanced_knows (finishing place fields) reply n k = tt
advanced_knows (leaving session end) reply n k = tt
advanced_knows (ended end) reply n k = tt

-- a step leaves it steady
pub step_steady : (p : Progress) (new : creations.Progress) (reply : depots.Reply) → new.need ≡ advanced p.create.need reply → IsSteady p
    → IsSteady (record { create = new; raw = p.raw; given = p.given })
step_steady p new reply e s = record {
  within = s.within;
  most = s.most;
  whole = s.whole;
  knows = subst (λ (q : Need). Knows q p.given) (sym e) (advanced_knows p.create.need reply p.given s.knows);
}

-- Keys, bodies, runs, keys of objects and schedules are decided.
use Rattle.std.proofs.Common.{◌≡◌, ℕ, zero, suc, ◌+◌, ◌<◌, ◌≤◌, ◌^◌, List, [], ◌∷◌, length, get_or, drop, slice_index, sum_by, Bool, true, false, codes, decimal, refl, ap, sym, subst, arith}
use Rattle.std.specs.List.{AllByRecursion}
use Rattle.std.proofs.lemmas.List.Quantifiers.{position-Some}
use Rattle.std.proofs.lemmas.List.Sums.{sum_by-cons}
use Rattle.std.specs.Prelude.{nat_eq}
use Rattle.std.specs.Cmp.Lexicographic.{pointwise}
use Rattle.lr_text.specs.Name.{is_name, place_of}
use Rattle.lr_text.specs.Words.{IsKey, IsRun, AreRuns, run_sum}
use Rattle.lr_origin.specs.declared.key.KeyKind.{KeyKind}
use Rattle.lr_origin.specs.declared.key.KeyKind.TheVariants.{Root, Expired, Deleted, Chunk, Manifest, Withdrawn}
use Rattle.lr_origin.specs.Text.{key_text, IsRoot, IsKind}
use Rattle.lr_script.specs.Limits.{runs_most, seed_most, pairs_most, counts_most}
use Rattle.lr_script.specs.Seen.{BodySeen, Runs, Seed, ScheduleSeen, Serial, Rounds, Pairs}
use Rattle.lr_script.specs.Lines.{FitsBody, IsPair, PairWords, ScheduleWords}
use Rattle.lr_script.proofs.Sure.{Sure, yes, never, mapped, both, is_true, is_false, is_less, is_most, same_number, same_text, same_texts, same_place, some_place, some_number, some_below, some_list, some_short_list}

-- Keys.

all_bytes : (xs : List ℕ) → Sure (AllByRecursion (λ b. b < 256) xs)
all_bytes [] = yes tt
all_bytes (x ∷ xs) = both (is_less x 256) (all_bytes xs)

each_byte : (xs : List ℕ) → AllByRecursion (λ b. b < 256) xs → (i : ℕ) → slice_index xs i < 256
each_byte [] all i = omega arith
each_byte (x ∷ xs) all zero = all.0
each_byte (x ∷ xs) all (suc i) = each_byte xs all.1 i

bytes_all : (xs : List ℕ) → ((i : ℕ) → slice_index xs i < 256) → AllByRecursion (λ b. b < 256) xs
bytes_all [] each = tt
bytes_all (x ∷ xs) each = (each 0, bytes_all xs (λ i. each (suc i)))

pub key_sure : (key : List ℕ) → Sure (IsKey key)
key_sure key = mapped (both (same_number (length key) 32) (all_bytes key)) (λ p. record { long = p.0; bytes = each_byte key p.1 }) (λ k. (k.long, bytes_all key k.bytes))

pub some_key : {P : List ℕ → Type 0} → ((key : List ℕ) → Sure (P key)) → ((key : List ℕ) → P key → IsKey key) → Sure ((key : List ℕ) × P key)
some_key {P} d is =
    mapped (some_list (λ (b : ℕ). b < 256) (λ Q e. some_below {P = Q} 256 e) 32 P d) (λ q. (q.0, q.3))
    (λ q. let k : IsKey q.0 = is q.0 q.1 in (q.0, k.long, bytes_all q.0 k.bytes, q.1))

-- Runs.

is_run : (r : ℕ × ℕ) → Sure (IsRun r)
is_run r = mapped (both (is_less 0 r.0) (both (is_less r.0 (2 ^ 64)) (is_less r.1 256))) (λ p. record { some = p.0; fits = p.1.0; byte = p.1.1 }) (λ r. (r.some, (r.fits, r.byte)))

all_runs : (rs : List (ℕ × ℕ)) → Sure (AllByRecursion IsRun rs)
all_runs [] = yes tt
all_runs (r ∷ rs) = both (is_run r) (all_runs rs)

pub runs_sure : (rs : List (ℕ × ℕ)) (most : ℕ) → Sure (AreRuns rs most)
runs_sure rs most = mapped (both (all_runs rs) (is_most (run_sum rs) most)) (λ p. record { each = p.0; fit = p.1 }) (λ a. (a.each, a.fit))

some_run : (P : ℕ × ℕ → Type 0) → ((r : ℕ × ℕ) → Sure (P r)) → Sure ((r : ℕ × ℕ) × IsRun r × P r)
some_run P d =
    mapped (some_below {P = λ (c : ℕ). (b : ℕ) × (b < 256) × ((0 < c) × P (c, b))} (2 ^ 64) (λ c. some_below {P = λ (b : ℕ). (0 < c) × P (c, b)} 256 (λ b. both (is_less 0 c) (d (c, b)))))
    (λ q. ((q.0, q.2.0), record { some = q.2.2.0; fits = q.1; byte = q.2.1 }, q.2.2.1))
    (λ q. (q.0.0, q.1.fits, (q.0.1, q.1.byte, (q.1.some, q.2))))

pub some_runs : {P : List (ℕ × ℕ) → Type 0} → ((rs : List (ℕ × ℕ)) → Sure (P rs)) → ((rs : List (ℕ × ℕ)) → P rs → length rs ≤ runs_most) → ((rs : List (ℕ × ℕ)) → P rs → AllByRecursion IsRun rs) → Sure ((rs : List (ℕ × ℕ)) × P rs)
some_runs {P} d few each = some_short_list IsRun some_run (runs_most + 1) P d (λ rs p. let le : length rs ≤ runs_most = few rs p in omega arith) each

-- Bodies.

pub fits_sure : (body : BodySeen) (len : ℕ) → Sure (FitsBody body len)
fits_sure (Runs rs) len = both (is_most (length rs) runs_most) (runs_sure rs len)
fits_sure (Seed n) len = is_most n seed_most

either_body : {P : BodySeen → Type 0} → Sure ((rs : List (ℕ × ℕ)) × P (Runs rs)) → Sure ((n : ℕ) × P (Seed n)) → Sure ((body : BodySeen) × P body)
either_body (yes p) s = yes (Runs p.0, p.1)
either_body (never none) (yes p) = yes (Seed p.0, p.1)
either_body {P} (never none) (never lacks) = never (λ q. by_body q.0 q.1) where
  by_body : (body : BodySeen) → P body → ⊥
  by_body (Runs rs) p = none (rs, p)
  by_body (Seed n) p = lacks (n, p)

pub some_body : {P : BodySeen → Type 0} → (len : ℕ) → ((body : BodySeen) → Sure (P body)) → ((body : BodySeen) → P body → FitsBody body len) → Sure ((body : BodySeen) × P body)
some_body {P} len d fits =
    either_body {P = P} (some_runs {P = λ (rs : List (ℕ × ℕ)). P (Runs rs)} (λ rs. d (Runs rs)) (λ rs p. (fits (Runs rs) p).0) (λ rs p. (fits (Runs rs) p).1.each))
    (some_number {P = λ (n : ℕ). P (Seed n)} (seed_most + 1) (λ n. d (Seed n)) (λ n p. let le : n ≤ seed_most = fits (Seed n) p in omega arith))

-- Keys of objects.

root_sure : (r : ℕ) → Sure (IsRoot r)
root_sure r = both (is_most 1 r) (is_most r 1000)

pub is_kind_sure : (k : KeyKind) → Sure (IsKind k)
is_kind_sure (Root r) = root_sure r
is_kind_sure (Expired r) = root_sure r
is_kind_sure (Deleted r) = root_sure r
is_kind_sure (Chunk r name) = both (root_sure r) (key_sure name)
is_kind_sure (Manifest r image) = both (root_sure r) (is_true (is_name image))
is_kind_sure (Withdrawn image) = is_true (is_name image)

some_root : {P : ℕ → Type 0} → ((r : ℕ) → Sure (P r)) → ((r : ℕ) → P r → IsRoot r) → Sure ((r : ℕ) × P r)
some_root {P} d is = some_number {P = P} 1001 d (λ r p. let le : r ≤ 1000 = (is r p).1 in omega arith)

-- what a text leaves behind its first bytes
some_rest : {P : List ℕ → Type 0} → (rest : List ℕ) → ((x : List ℕ) → Sure (P x)) → ((x : List ℕ) → P x → rest ≡ x) → Sure ((x : List ℕ) × P x)
some_rest {P} rest d is = mapped (d rest) (λ p. (rest, p)) (λ q. subst P (sym (is q.0 q.1)) q.1)

behind_m : (w : List (List ℕ)) (r : ℕ) (image : List ℕ) → w ≡ key_text (Manifest r image) ∷ [] → drop 15 (get_or w 0 []) ≡ image
unfolding key_text
behind_m w r image e = ap (λ (v : List (List ℕ)). drop 15 (get_or v 0 [])) e

behind_w : (w : List (List ℕ)) (image : List ℕ) → w ≡ key_text (Withdrawn image) ∷ [] → drop 2 (get_or w 0 []) ≡ image
unfolding key_text
behind_w w image e = ap (λ (v : List (List ℕ)). drop 2 (get_or v 0 [])) e

record EachKind (P : KeyKind → Type 0) : Type 0 where
  root : Sure ((r : ℕ) × P (Root r))
  expired : Sure ((r : ℕ) × P (Expired r))
  deleted : Sure ((r : ℕ) × P (Deleted r))
  chunk : Sure ((r : ℕ) × ((name : List ℕ) × P (Chunk r name)))
  manifest : Sure ((r : ℕ) × ((image : List ℕ) × P (Manifest r image)))
  withdrawn : Sure ((image : List ℕ) × P (Withdrawn image))

or_else : {P Q : Type 0} → Sure P → (P → Q) → ((P → ⊥) → Sure Q) → Sure Q
or_else (yes p) f g = yes (f p)
or_else (never n) f g = g n

each_kind : {P : KeyKind → Type 0} → EachKind P → Sure ((k : KeyKind) × P k)
each_kind {P} e =
    or_else e.root (λ p. (Root p.0, p.1)) (λ a.
    or_else e.expired (λ p. (Expired p.0, p.1)) (λ b.
    or_else e.deleted (λ p. (Deleted p.0, p.1)) (λ c.
    or_else e.chunk (λ p. (Chunk p.0 p.1.0, p.1.1)) (λ d.
    or_else e.manifest (λ p. (Manifest p.0 p.1.0, p.1.1)) (λ f.
    or_else e.withdrawn (λ p. (Withdrawn p.0, p.1)) (λ g. never (λ q. by_kind a b c d f g q.0 q.1)))))))
  where
    by_kind : ((r : ℕ) × P (Root r) → ⊥) → ((r : ℕ) × P (Expired r) → ⊥) → ((r : ℕ) × P (Deleted r) → ⊥) → ((r : ℕ) × ((name : List ℕ) × P (Chunk r name)) → ⊥) → ((r : ℕ) × ((image : List ℕ) × P (Manifest r image)) → ⊥) → ((image : List ℕ) × P (Withdrawn image) → ⊥) → (k : KeyKind) → P k → ⊥
    by_kind a b c d f g (Root r) p = a (r, p)
    by_kind a b c d f g (Expired r) p = b (r, p)
    by_kind a b c d f g (Deleted r) p = c (r, p)
    by_kind a b c d f g (Chunk r name) p = d (r, (name, p))
    by_kind a b c d f g (Manifest r image) p = f (r, (image, p))
    by_kind a b c d f g (Withdrawn image) p = g (image, p)

pub some_kind : {P : KeyKind → Type 0} → (w : List (List ℕ)) → ((k : KeyKind) → Sure (P k)) → ((k : KeyKind) → P k → IsKind k) → ((k : KeyKind) → P k → w ≡ key_text k ∷ []) → Sure ((k : KeyKind) × P k)
some_kind {P} w d is spelled = each_kind {P = P} (record {
  root = some_root {P = λ (r : ℕ). P (Root r)} (λ r. d (Root r)) (λ r p. is (Root r) p);
  expired = some_root {P = λ (r : ℕ). P (Expired r)} (λ r. d (Expired r)) (λ r p. is (Expired r) p);
  deleted = some_root {P = λ (r : ℕ). P (Deleted r)} (λ r. d (Deleted r)) (λ r p. is (Deleted r) p);
  chunk = some_root {P = λ (r : ℕ). (name : List ℕ) × P (Chunk r name)} (λ r. some_key {P = λ (name : List ℕ). P (Chunk r name)} (λ name. d (Chunk r name)) (λ name p. (is (Chunk r name) p).1)) (λ r p. (is (Chunk r p.0) p.1).0);
  manifest = some_root {P = λ (r : ℕ). (image : List ℕ) × P (Manifest r image)} (λ r. some_rest {P = λ (image : List ℕ). P (Manifest r image)} (drop 15 (get_or w 0 [])) (λ image. d (Manifest r image)) (λ image p. behind_m w r image (spelled (Manifest r image) p))) (λ r p. (is (Manifest r p.0) p.1).0);
  withdrawn = some_rest {P = λ (image : List ℕ). P (Withdrawn image)} (drop 2 (get_or w 0 [])) (λ image. d (Withdrawn image)) (λ image p. behind_w w image (spelled (Withdrawn image) p));
})

-- Schedules.

pair_sure : (names : List (List ℕ)) (name count : List ℕ) (p : ℕ × ℕ) → Sure (IsPair names name count p)
pair_sure names name count p =
    mapped (some_place (place_of names name) (λ (i : ℕ). both (same_place (place_of names name) i) (both (same_number p.0 (i + 1)) (both (same_text count (decimal p.1)) (is_most 1 p.1)))) (λ i q. q.0))
    (λ q. record { actor = q.0; declared = q.1.0; number = q.1.1.0; spelled = q.1.1.1.0; some = q.1.1.1.1 })
    (λ h. (h.actor, (h.declared, (h.number, (h.spelled, h.some)))))

no_pairs_sure : (ps : List (ℕ × ℕ)) → Sure (ps ≡ [])
no_pairs_sure [] = yes refl
no_pairs_sure (p ∷ ps) = never (λ e. cc e)

pair_words_sure : (names words : List (List ℕ)) (ps : List (ℕ × ℕ)) (rounds : Bool) → Sure (PairWords names words ps rounds)
pair_words_sure names [] ps rounds = both (no_pairs_sure ps) (is_false rounds)
pair_words_sure names (word ∷ []) ps rounds = mapped (both (same_text word (codes "rounds")) (both (no_pairs_sure ps) (is_true rounds))) (λ p. (p.0, p.1.0, p.1.1)) (λ p. (p.0, (p.1, p.2)))
pair_words_sure names (name ∷ count ∷ words) [] rounds = never (λ e. e)
pair_words_sure names (name ∷ count ∷ words) (p ∷ ps) rounds = both (pair_sure names name count p) (pair_words_sure names words ps rounds)

pub schedule_words_sure : (names words : List (List ℕ)) (x : ScheduleSeen) → Sure (ScheduleWords names words x)
schedule_words_sure names words Serial = same_texts words (codes "serial" ∷ [])
schedule_words_sure names words Rounds = same_texts words (codes "rounds" ∷ [])
schedule_words_sure names words (Pairs ps rounds) =
    mapped (both (is_most 1 (length ps)) (both (is_most (length ps) pairs_most) (both (is_most (sum_by (λ p. p.1) ps) counts_most) (pair_words_sure names words ps rounds))))
    (λ p. (p.0, p.1.0, p.1.1.0, p.1.1.1)) (λ p. (p.0, (p.1, (p.2, p.3))))

-- a number of an actor, and a count within the limit
abbrev Low : ℕ → ℕ × ℕ → Type 0
Low actors p = (p.0 ≤ actors) × (p.1 ≤ counts_most)

low_pair : (names : List (List ℕ)) (name count : List ℕ) (p : ℕ × ℕ) → IsPair names name count p → p.0 ≤ length names
low_pair names name count p h =
    let lt : h.actor < length names = (position-Some (λ n. pointwise nat_eq n name) names h.actor [] h.declared).0 in
    let e : p.0 ≡ h.actor + 1 = h.number in
    omega arith

low_pairs : (names words : List (List ℕ)) (ps : List (ℕ × ℕ)) (rounds : Bool) → sum_by (λ p. p.1) ps ≤ counts_most → PairWords names words ps rounds → AllByRecursion (Low (length names)) ps
low_pairs names [] [] rounds few h = tt
low_pairs names [] (p ∷ ps) rounds few h = absurd (cc h.0)
low_pairs names (word ∷ []) [] rounds few h = tt
low_pairs names (word ∷ []) (p ∷ ps) rounds few h = absurd (cc h.1)
low_pairs names (name ∷ count ∷ words) [] rounds few h = absurd h
low_pairs names (name ∷ count ∷ words) (p ∷ ps) rounds few h =
    let sum : p.1 + sum_by (λ x. x.1) ps ≤ counts_most = subst (λ n. n ≤ counts_most) (sum_by-cons (λ (x : ℕ × ℕ). x.1) p ps) few in
    ((low_pair names name count p h.0, omega arith), low_pairs names words ps rounds (omega arith) h.1)

some_low : (actors : ℕ) (P : ℕ × ℕ → Type 0) → ((p : ℕ × ℕ) → Sure (P p)) → Sure ((p : ℕ × ℕ) × Low actors p × P p)
some_low actors P d =
    mapped (some_below {P = λ (i : ℕ). (c : ℕ) × (c < counts_most + 1) × P (i, c)} (actors + 1) (λ i. some_below {P = λ (c : ℕ). P (i, c)} (counts_most + 1) (λ c. d (i, c))))
    (λ q. let x : q.0 < actors + 1 = q.1 in let y : q.2.0 < counts_most + 1 = q.2.1 in ((q.0, q.2.0), (omega arith, omega arith), q.2.2))
    (λ q. let x : q.0.0 ≤ actors = q.1.0 in let y : q.0.1 ≤ counts_most = q.1.1 in (q.0.0, omega arith, (q.0.1, omega arith, q.2)))

record EachSchedule (P : ScheduleSeen → Type 0) : Type 0 where
  serial : Sure (P Serial)
  rounds : Sure (P Rounds)
  pairs : Sure ((ps : List (ℕ × ℕ)) × P (Pairs ps false))
  both_parts : Sure ((ps : List (ℕ × ℕ)) × P (Pairs ps true))

each_schedule : {P : ScheduleSeen → Type 0} → EachSchedule P → Sure ((x : ScheduleSeen) × P x)
each_schedule {P} e =
    or_else e.serial (λ p. (Serial, p)) (λ a.
    or_else e.rounds (λ p. (Rounds, p)) (λ b.
    or_else e.pairs (λ p. (Pairs p.0 false, p.1)) (λ c.
    or_else e.both_parts (λ p. (Pairs p.0 true, p.1)) (λ d. never (λ q. by_schedule a b c d q.0 q.1)))))
  where
    by_schedule : (P Serial → ⊥) → (P Rounds → ⊥) → ((ps : List (ℕ × ℕ)) × P (Pairs ps false) → ⊥) → ((ps : List (ℕ × ℕ)) × P (Pairs ps true) → ⊥) → (x : ScheduleSeen) → P x → ⊥
    by_schedule a b c d Serial p = a p
    by_schedule a b c d Rounds p = b p
    by_schedule a b c d (Pairs ps false) p = c (ps, p)
    by_schedule a b c d (Pairs ps true) p = d (ps, p)

pub some_schedule : {P : ScheduleSeen → Type 0} → (names w : List (List ℕ)) → ((x : ScheduleSeen) → Sure (P x)) → ((x : ScheduleSeen) → P x → ScheduleWords names w x) → Sure ((x : ScheduleSeen) × P x)
some_schedule {P} names w d is = each_schedule {P = P} (record {
  serial = d Serial;
  rounds = d Rounds;
  pairs = with_end false;
  both_parts = with_end true;
})
  where
    with_end : (rounds : Bool) → Sure ((ps : List (ℕ × ℕ)) × P (Pairs ps rounds))
    with_end rounds =
        some_short_list (Low (length names)) (some_low (length names)) (pairs_most + 1) (λ (ps : List (ℕ × ℕ)). P (Pairs ps rounds)) (λ ps. d (Pairs ps rounds))
        (λ ps p. let le : length ps ≤ pairs_most = (is (Pairs ps rounds) p).1 in omega arith)
        (λ ps p. let h = is (Pairs ps rounds) p in low_pairs names w ps rounds h.2 h.3)

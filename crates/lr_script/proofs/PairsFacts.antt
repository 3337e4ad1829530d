-- How far the pairs of a schedule were read.
use Rattle.std.proofs.Common.{Bor, ◌≡◌, ◌≢◌, ℕ, ◌+◌, ◌-◌, ◌<◌, ◌≤◌, List, [], ◌∷◌, ◌++◌, length, sum_by, Bool, true, false, Some, None, codes, sym, ap, subst, ◌∙◌, refl, arith, append_assoc, length-append, length-drop, get_or, map, drop, suc, add-one}
use Rattle.std.proofs.lemmas.List.{append-nil, length-map}
use Rattle.std.proofs.Math.Seq.{drop-cons}
use Rattle.std.proofs.lemmas.List.Sums.{sum_by-cons, sum_by-append}
use Rattle.lr_script.specs.Limits.{pairs_most, counts_most}
use Rattle.lr_script.specs.Lines.{PairWords, IsPair, ScheduleWords}
use Rattle.lr_script.specs.Seen.{ScheduleSeen, Serial, Rounds, Pairs}
use Rattle.lr_script.proofs.OneLine.{one_pair}

-- what is behind the pairs
pub record More (names rest : List (List ℕ)) (pairs all : List (ℕ × ℕ)) (left : ℕ) (rounds : Bool) : Type 0 where
  pub more : List (ℕ × ℕ)
  pub whole : all ≡ pairs ++ more
  pub few : sum_by (λ p. p.1) more ≤ left
  pub spelled : PairWords names rest more rounds

pub record PairsReached (names words rest : List (List ℕ)) (pairs : List (ℕ × ℕ)) (left : ℕ) : Type 0 where
  pub sum : sum_by (λ p. p.1) pairs + left ≡ counts_most
  pub long : length pairs ≤ pairs_most
  pub back : (more : List (ℕ × ℕ)) (rounds : Bool) → PairWords names rest more rounds → PairWords names words (pairs ++ more) rounds
  pub forth : (all : List (ℕ × ℕ)) (rounds : Bool) → sum_by (λ p. p.1) all ≤ counts_most → PairWords names words all rounds → More names rest pairs all left rounds

pub at_first : (names words : List (List ℕ)) → PairsReached names words words [] counts_most
at_first names words = record {
  sum = refl;
  long = omega arith;
  back = λ more rounds h. h;
  forth = λ all rounds few h. record { more = all; whole = refl; few = few; spelled = h };
}

-- the first pair of the rest
record FirstPair (names : List (List ℕ)) (name count : List ℕ) (behind : List (List ℕ)) (more : List (ℕ × ℕ)) (left : ℕ) (rounds : Bool) : Type 0 where
  pair : ℕ × ℕ
  others : List (ℕ × ℕ)
  whole : more ≡ pair ∷ others
  is : IsPair names name count pair
  few : pair.1 ≤ left
  fewer : sum_by (λ p. p.1) others ≤ left - pair.1
  spelled : PairWords names behind others rounds

first_of : (names : List (List ℕ)) (name count : List ℕ) (behind : List (List ℕ)) (more : List (ℕ × ℕ)) (left : ℕ) (rounds : Bool) → sum_by (λ p. p.1) more ≤ left → PairWords names (name ∷ count ∷ behind) more rounds → FirstPair names name count behind more left rounds
first_of names name count behind [] left rounds few h = absurd h
first_of names name count behind (p ∷ ps) left rounds few h =
    let a : p.1 + sum_by (λ x. x.1) ps ≤ left = subst (λ n. n ≤ left) (sum_by-cons (λ (x : ℕ × ℕ). x.1) p ps) few in
    record { pair = p; others = ps; whole = refl; is = h.0; few = omega arith; fewer = omega arith; spelled = h.1 }

next_pair : (names words rest : List (List ℕ)) (pairs : List (ℕ × ℕ)) (left : ℕ) (name count : List ℕ) (behind : List (List ℕ)) (all : List (ℕ × ℕ)) (rounds : Bool) → (reached : PairsReached names words rest pairs left) → rest ≡ name ∷ count ∷ behind → (m : More names rest pairs all left rounds) → FirstPair names name count behind m.more left rounds
next_pair names words rest pairs left name count behind all rounds reached e m =
    first_of names name count behind m.more left rounds m.few (subst (λ (r : List (List ℕ)). PairWords names r m.more rounds) e m.spelled)

-- a pair more
pub pair_more : (names words rest : List (List ℕ)) (pairs : List (ℕ × ℕ)) (left : ℕ) (name count : List ℕ) (behind : List (List ℕ)) (p : ℕ × ℕ) → PairsReached names words rest pairs left → rest ≡ name ∷ count ∷ behind → IsPair names name count p → p.1 ≤ left → length pairs < pairs_most → PairsReached names words behind (pairs ++ p ∷ []) (left - p.1)
pair_more names words rest pairs left name count behind p reached e is le room = record {
  sum = let a = sum_by-append (λ (x : ℕ × ℕ). x.1) pairs (p ∷ []) in let b = reached.sum in omega arith;
  long = let a = length-append pairs (p ∷ []) in omega arith;
  back = λ more rounds h. subst (λ (t : List (ℕ × ℕ)). PairWords names words t rounds) (sym (append_assoc pairs (p ∷ []) more))
      (reached.back (p ∷ more) rounds (subst (λ (r : List (List ℕ)). PairWords names r (p ∷ more) rounds) (sym e) (is, h)));
  forth = λ all rounds few h.
      let m = reached.forth all rounds few h in
      let f = next_pair names words rest pairs left name count behind all rounds reached e m in
      let b = reached.sum in
      let fl : f.pair.1 ≤ left = f.few in
      let same : f.pair ≡ p = one_pair names name count f.pair p (omega arith) (omega arith) f.is is in
      record {
        more = f.others;
        whole = m.whole ∙ ap (λ (t : List (ℕ × ℕ)). pairs ++ t) (f.whole ∙ ap (λ (q : ℕ × ℕ). q ∷ f.others) same) ∙ sym (append_assoc pairs (p ∷ []) f.others);
        few = subst (λ (q : ℕ × ℕ). sum_by (λ x. x.1) f.others ≤ left - q.1) same f.fewer;
        spelled = f.spelled;
      };
}

-- Only pairs are spelled by none or several words.
pub only_pairs : (names words : List (List ℕ)) → ((w : List ℕ) → words ≢ w ∷ []) → ((all : List (ℕ × ℕ)) (rounds : Bool) → 1 ≤ length all → length all ≤ pairs_most → sum_by (λ p. p.1) all ≤ counts_most → PairWords names words all rounds → ⊥) → (s : ScheduleSeen) → ScheduleWords names words s → ⊥
only_pairs names words several none Serial h = several (codes "serial") h
only_pairs names words several none Rounds h = several (codes "rounds") h
only_pairs names words several none (Pairs all rounds) h = none all rounds h.0 h.1 h.2 h.3

-- where the next two words are no pair
pub no_pair : (names words rest : List (List ℕ)) (pairs : List (ℕ × ℕ)) (left : ℕ) (name count : List ℕ) (behind : List (List ℕ)) → PairsReached names words rest pairs left → rest ≡ name ∷ count ∷ behind → ((p : ℕ × ℕ) → IsPair names name count p → p.1 ≤ left → ⊥)
    → (all : List (ℕ × ℕ)) (rounds : Bool) → 1 ≤ length all → length all ≤ pairs_most → sum_by (λ p. p.1) all ≤ counts_most → PairWords names words all rounds → ⊥
no_pair names words rest pairs left name count behind reached e none all rounds some long few h =
    let f = next_pair names words rest pairs left name count behind all rounds reached e (reached.forth all rounds few h) in
    none f.pair f.is f.few

-- where there are 64 already
pub full : (names words rest : List (List ℕ)) (pairs : List (ℕ × ℕ)) (left : ℕ) (name count : List ℕ) (behind : List (List ℕ)) → PairsReached names words rest pairs left → rest ≡ name ∷ count ∷ behind → pairs_most ≤ length pairs
    → (all : List (ℕ × ℕ)) (rounds : Bool) → 1 ≤ length all → length all ≤ pairs_most → sum_by (λ p. p.1) all ≤ counts_most → PairWords names words all rounds → ⊥
full names words rest pairs left name count behind reached e room all rounds some long few h =
    let m = reached.forth all rounds few h in
    let f = next_pair names words rest pairs left name count behind all rounds reached e m in
    let a : length all ≡ length (pairs ++ f.pair ∷ f.others) = ap length m.whole ∙ ap (λ (t : List (ℕ × ℕ)). length (pairs ++ t)) f.whole in
    let b = length-append pairs (f.pair ∷ f.others) in
    omega arith

end_more : (names rest : List (List ℕ)) (more : List (ℕ × ℕ)) (rounds : Bool) → length rest < 2 → PairWords names rest more rounds → more ≡ []
end_more names [] more rounds short h = h.0
end_more names (w ∷ []) more rounds short h = h.1
end_more names (w ∷ v ∷ rest) more rounds short h = absurd (omega arith)

-- at the end no pair is behind
pub at_end : (names words rest : List (List ℕ)) (pairs : List (ℕ × ℕ)) (left : ℕ) → PairsReached names words rest pairs left → length rest < 2 → (all : List (ℕ × ℕ)) (rounds : Bool) → sum_by (λ p. p.1) all ≤ counts_most → PairWords names words all rounds → (all ≡ pairs) × PairWords names rest [] rounds
at_end names words rest pairs left reached short all rounds few h =
    let m = reached.forth all rounds few h in
    let e : m.more ≡ [] = end_more names rest m.more rounds short m.spelled in
    (m.whole ∙ ap (λ (t : List (ℕ × ℕ)). pairs ++ t) e ∙ append-nil pairs, subst (λ (t : List (ℕ × ℕ)). PairWords names rest t rounds) e m.spelled)

pub none_read : (names words rest : List (List ℕ)) (pairs : List (ℕ × ℕ)) (left : ℕ) → PairsReached names words rest pairs left → length rest < 2 → length pairs ≡ 0
    → (all : List (ℕ × ℕ)) (rounds : Bool) → 1 ≤ length all → length all ≤ pairs_most → sum_by (λ p. p.1) all ≤ counts_most → PairWords names words all rounds → ⊥
none_read names words rest pairs left reached short empty all rounds some long few h =
    let a = at_end names words rest pairs left reached short all rounds few h in
    let l : length all ≡ length pairs = ap length a.0 in
    omega arith

rounds_alone : (names rest : List (List ℕ)) (w : List ℕ) (rounds : Bool) → length rest ≡ 1 → w ≡ get_or rest 0 w → PairWords names rest [] rounds → w ≡ codes "rounds"
rounds_alone names [] w rounds one e h = absurd (omega arith)
rounds_alone names (v ∷ []) w rounds one e h = e ∙ h.0
rounds_alone names (v ∷ u ∷ us) w rounds one e h = absurd (omega arith)

pub other_word : (names words rest : List (List ℕ)) (pairs : List (ℕ × ℕ)) (left : ℕ) (w : List ℕ) → PairsReached names words rest pairs left → length rest ≡ 1 → w ≡ get_or rest 0 w → w ≢ codes "rounds"
    → (all : List (ℕ × ℕ)) (rounds : Bool) → 1 ≤ length all → length all ≤ pairs_most → sum_by (λ p. p.1) all ≤ counts_most → PairWords names words all rounds → ⊥
other_word names words rest pairs left w reached one e other all rounds some long few h =
    let a = at_end names words rest pairs left reached (omega arith) all rounds few h in
    other (rounds_alone names rest w rounds one e a.1)

-- what was read
pub read_pairs : (names words rest : List (List ℕ)) (pairs : List (ℕ × ℕ)) (left : ℕ) (rounds : Bool) → PairsReached names words rest pairs left → 1 ≤ length pairs → PairWords names rest [] rounds → ScheduleWords names words (Pairs pairs rounds)
read_pairs names words rest pairs left rounds reached some h =
    (some, reached.long, (let s = reached.sum in omega arith), subst (λ (t : List (ℕ × ℕ)). PairWords names words t rounds) (append-nil pairs) (reached.back [] rounds h))

pub ends : (names rest : List (List ℕ)) → length rest ≡ 0 → PairWords names rest [] false
ends names [] e = (refl, refl)
ends names (w ∷ ws) e = absurd (omega arith)

pub ends_rounds : (names rest : List (List ℕ)) (w : List ℕ) → length rest ≡ 1 → w ≡ get_or rest 0 w → w ≡ codes "rounds" → PairWords names rest [] true
ends_rounds names [] w one e r = absurd (omega arith)
ends_rounds names (v ∷ []) w one e r = (sym e ∙ r, refl, refl)
ends_rounds names (v ∷ u ∷ us) w one e r = absurd (omega arith)

-- the element that a read past the end would give
abbrev pub no_ref : Bor (List ℕ)
no_ref = record { ref_ptr = (0, 0); now = [] }

abbrev pub word : List (Bor (List ℕ)) → ℕ → List ℕ
word ws at = (get_or ws at no_ref).now

abbrev pub texts : List (Bor (List ℕ)) → List (List ℕ)
texts ws = map (λ w. w.now) ws

-- the next two of a list
pub two_at : (ws : List (Bor (List ℕ))) (at : ℕ) → at + 2 ≤ length ws → texts (drop at ws) ≡ word ws at ∷ word ws (at + 1) ∷ texts (drop (at + 2) ws)
two_at ws at le =
    let a : drop at ws ≡ get_or ws at no_ref ∷ drop (at + 1) ws = rw add-one (drop-cons ws at no_ref (omega arith)) in
    let n : suc (at + 1) ≡ at + 2 = omega arith in
    let b : drop (at + 1) ws ≡ get_or ws (at + 1) no_ref ∷ drop (at + 2) ws = drop-cons ws (at + 1) no_ref (omega arith) ∙ ap (λ (m : ℕ). get_or ws (at + 1) no_ref ∷ drop m ws) n in
    ap texts a ∙ ap (λ (t : List (Bor (List ℕ))). word ws at ∷ texts t) b

pub length_at : (ws : List (Bor (List ℕ))) (at : ℕ) → length (texts (drop at ws)) ≡ length ws - at
length_at ws at = length-map (drop at ws) (λ w. w.now) ∙ length-drop at ws

pub word_at : (ws : List (Bor (List ℕ))) (at : ℕ) → at < length ws → word ws at ≡ get_or (texts (drop at ws)) 0 (word ws at)
word_at ws at lt = let a : drop at ws ≡ get_or ws at no_ref ∷ drop (suc at) ws = drop-cons ws at no_ref lt in ap (λ (t : List (Bor (List ℕ))). get_or (texts t) 0 (word ws at)) (sym a)

pub not_none : {x : ℕ} → None ≡ Some x → ⊥
not_none e = cc

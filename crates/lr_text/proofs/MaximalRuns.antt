-- The maximal runs of a list of bytes, and their text.
use Rattle.std.proofs.Common.{◌≡◌, ℕ, zero, suc, ◌+◌, ◌<◌, List, [], ◌∷◌, ◌++◌, length, drop, get_or, Bool, true, false, subst, sym, ap, ◌∙◌, refl, arith, append_assoc}
use Rattle.std.specs.Prelude.{◌==◌, take_while, if◌then◌else◌, replicate, nat_le}
use Rattle.std.specs.List.{AllByRecursion}
use Rattle.std.proofs.lemmas.List.{append-nil}
use Rattle.std.proofs.lemmas.List.Sums.{take_while-cons}
use Rattle.std.proofs.lemmas.Bool.{eqb-true, eqb-false, ne_eqb, eq-eqb}
use Rattle.std.proofs.lemmas.Bool.Decides.{nat_tests}
use Rattle.lr_text.specs.Words.{run_word}
use Rattle.lr_text.specs.Bytes.{onto_runs, maximal_runs, runs_text, bytes_of_runs, DifferInTurn, AreMaximal}

-- how many bytes at the front are b
abbrev front : ℕ → List ℕ → ℕ
front b [] = 0
front b (x ∷ xs) = if x == b then suc (front b xs) else 0

front_by_test : (b x : ℕ) (xs : List ℕ) (t : Bool) → (x == b) ≡ t → length (take_while (λ y. y == b) xs) ≡ front b xs → length (take_while (λ y. y == b) (x ∷ xs)) ≡ front b (x ∷ xs)
front_by_test b x xs true e same = ap length (take_while-cons (λ y. y == b) x xs) ∙ rw e (ap suc same)
front_by_test b x xs false e same = ap length (take_while-cons (λ y. y == b) x xs) ∙ rw e refl

front_is : (b : ℕ) (xs : List ℕ) → length (take_while (λ y. y == b) xs) ≡ front b xs
front_is b [] = refl
front_is b (x ∷ xs) = front_by_test b x xs (x == b) refl (front_is b xs)

first_by_test : (b c : ℕ) (cs : List ℕ) (t : Bool) → (c == b) ≡ t → maximal_runs (c ∷ cs) ≡ (suc (front c cs), c) ∷ maximal_runs (drop (front c cs) cs) → maximal_runs (b ∷ c ∷ cs) ≡ (suc (front b (c ∷ cs)), b) ∷ maximal_runs (drop (front b (c ∷ cs)) (c ∷ cs))
first_by_test b c cs true e ih =
    let same : c ≡ b = eqb-true c b e in
    ap (onto_runs b) ih ∙ rw e (subst (λ (d : ℕ). (suc (suc (front c cs)), b) ∷ maximal_runs (drop (front c cs) cs) ≡ (suc (suc (front d cs)), b) ∷ maximal_runs (drop (front d cs) cs)) same refl)
first_by_test b c cs false e ih = ap (onto_runs b) ih ∙ rw e (ap (λ (rs : List (ℕ × ℕ)). (1, b) ∷ rs) (sym ih))

run_in_front : (b : ℕ) (bs : List ℕ) → maximal_runs (b ∷ bs) ≡ (suc (front b bs), b) ∷ maximal_runs (drop (front b bs) bs)
run_in_front b [] = refl
run_in_front b (c ∷ cs) = first_by_test b c cs (c == b) refl (run_in_front c cs)

eqb_same : (x : ℕ) → (x == x) ≡ true
eqb_same x = eq-eqb x x refl

-- the first run, and the runs of the bytes behind it
pub first_run_is : (xs : List ℕ) (b n : ℕ) → 0 < length xs → b ≡ get_or xs 0 0 → n ≡ length (take_while (λ y. y == b) xs) → maximal_runs xs ≡ (n, b) ∷ maximal_runs (drop n xs)
first_run_is [] b n some first count = absurd (omega arith)
first_run_is (x ∷ xs) b n some first count =
    let one : n ≡ suc (front x xs) = count ∙ ap (λ (d : ℕ). length (take_while (λ y. y == d) (x ∷ xs))) first ∙ front_is x (x ∷ xs) ∙ rw (eqb_same x) refl in
    rw (one, first) (run_in_front x xs)

-- there are runs where there are bytes
pub no_runs : (bs : List ℕ) → length bs ≡ 0 → maximal_runs bs ≡ []
no_runs [] none = refl
no_runs (c ∷ cs) none = absurd (omega arith)

-- after the last run
pub last_run : (out new rest : List ℕ) (runs : List (ℕ × ℕ)) (r : ℕ × ℕ) → runs ≡ r ∷ maximal_runs rest → new ≡ out ++ run_word r → length rest ≡ 0 → new ++ runs_text (maximal_runs rest) ≡ out ++ runs_text runs
unfolding runs_text
last_run out new [] runs r is put none = rw (is, put) (append-nil (out ++ run_word r))
last_run out new (c ∷ cs) runs r is put none = absurd (omega arith)

more_runs : (r s : ℕ × ℕ) (rs : List (ℕ × ℕ)) → runs_text (r ∷ s ∷ rs) ≡ run_word r ++ 32 ∷ runs_text (s ∷ rs)
unfolding runs_text
more_runs r s rs = refl

-- after another run and a space
pub run_and_space : (out mid new rest : List ℕ) (runs : List (ℕ × ℕ)) (r : ℕ × ℕ) → runs ≡ r ∷ maximal_runs rest → mid ≡ out ++ run_word r → new ≡ mid ++ 32 ∷ [] → 0 < length rest → new ++ runs_text (maximal_runs rest) ≡ out ++ runs_text runs
run_and_space out mid new [] runs r is put space more = absurd (omega arith)
run_and_space out mid new (c ∷ cs) runs r is put space more =
    let head = run_in_front c cs in
    rw (is, space, put, head, more_runs) (simp append_assoc)

-- at the end
pub no_text : (out rest total : List ℕ) → length rest ≡ 0 → out ++ runs_text (maximal_runs rest) ≡ total → out ≡ total
unfolding runs_text
no_text out [] total none e = sym (append-nil out) ∙ e
no_text out (c ∷ cs) total none e = absurd (omega arith)

some_runs : (bs : List ℕ) → 0 < length bs → 0 < length (maximal_runs bs)
some_runs [] some = absurd (omega arith)
some_runs (c ∷ cs) some = rw (run_in_front c cs) (omega arith)

-- runs are left where 64 were counted
pub too_many : (rest : List ℕ) (k n : ℕ) → 0 < length rest → k + length (maximal_runs rest) ≡ n → k ≡ 64 → false ≡ nat_le n 64
too_many rest k n some count most =
    let more : 64 < n = omega (arith, some_runs rest some) in
    grind (arith, nat_tests)

-- The maximal runs spell the bytes, none is empty, and neighbours differ.

spelled_by_test : (b : ℕ) (r : ℕ × ℕ) (rs : List (ℕ × ℕ)) (t : Bool) → (r.1 == b) ≡ t → bytes_of_runs (onto_runs b (r ∷ rs)) ≡ b ∷ bytes_of_runs (r ∷ rs)
spelled_by_test b r rs true e = let same : r.1 ≡ b = eqb-true r.1 b e in rw e (rw same refl)
spelled_by_test b r rs false e = rw e refl

spelled_onto : (b : ℕ) (rs : List (ℕ × ℕ)) → bytes_of_runs (onto_runs b rs) ≡ b ∷ bytes_of_runs rs
spelled_onto b [] = refl
spelled_onto b (r ∷ rs) = spelled_by_test b r rs (r.1 == b) refl

spelled_back : (bs : List ℕ) → bytes_of_runs (maximal_runs bs) ≡ bs
spelled_back [] = refl
spelled_back (b ∷ bs) = spelled_onto b (maximal_runs bs) ∙ ap (λ (cs : List ℕ). b ∷ cs) (spelled_back bs)

some_by_test : (b : ℕ) (r : ℕ × ℕ) (rs : List (ℕ × ℕ)) (t : Bool) → (r.1 == b) ≡ t → AllByRecursion (λ s. 0 < s.0) (r ∷ rs) → AllByRecursion (λ s. 0 < s.0) (onto_runs b (r ∷ rs))
some_by_test b r rs true e (here, others) = rw e (omega arith, others)
some_by_test b r rs false e all = rw e (omega arith, all)

some_onto : (b : ℕ) (rs : List (ℕ × ℕ)) → AllByRecursion (λ s. 0 < s.0) rs → AllByRecursion (λ s. 0 < s.0) (onto_runs b rs)
some_onto b [] all = (omega arith, tt)
some_onto b (r ∷ rs) all = some_by_test b r rs (r.1 == b) refl all

some_in_all : (bs : List ℕ) → AllByRecursion (λ s. 0 < s.0) (maximal_runs bs)
some_in_all [] = tt
some_in_all (b ∷ bs) = some_onto b (maximal_runs bs) (some_in_all bs)

longer : (m n b : ℕ) (rs : List (ℕ × ℕ)) → DifferInTurn ((m, b) ∷ rs) → DifferInTurn ((n, b) ∷ rs)
longer m n b [] differ = tt
longer m n b (r ∷ rs) differ = differ

differ_by_test : (b : ℕ) (r : ℕ × ℕ) (rs : List (ℕ × ℕ)) (t : Bool) → (r.1 == b) ≡ t → DifferInTurn (r ∷ rs) → DifferInTurn (onto_runs b (r ∷ rs))
differ_by_test b r rs true e differ =
    let same : r.1 ≡ b = eqb-true r.1 b e in
    rw e (longer r.0 (suc r.0) b rs (subst (λ (d : ℕ). DifferInTurn ((r.0, d) ∷ rs)) same differ))
differ_by_test b r rs false e differ = rw e (λ same. eqb-false r.1 b e (sym same), differ)

differ_onto : (b : ℕ) (rs : List (ℕ × ℕ)) → DifferInTurn rs → DifferInTurn (onto_runs b rs)
differ_onto b [] differ = tt
differ_onto b (r ∷ rs) differ = differ_by_test b r rs (r.1 == b) refl differ

differ_in_all : (bs : List ℕ) → DifferInTurn (maximal_runs bs)
differ_in_all [] = tt
differ_in_all (b ∷ bs) = differ_onto b (maximal_runs bs) (differ_in_all bs)

pub are_maximal : (bs : List ℕ) → AreMaximal (maximal_runs bs) bs
are_maximal bs = record { spelled = spelled_back bs; some = some_in_all bs; differ = differ_in_all bs }

-- They are the only such runs.

other_byte : (b n : ℕ) (rs : List (ℕ × ℕ)) → DifferInTurn ((n, b) ∷ rs) → onto_runs b rs ≡ (1, b) ∷ rs
other_byte b n [] differ = refl
other_byte b n (r ∷ rs) (differ, others) = let e : (r.1 == b) ≡ false = ne_eqb r.1 b (λ same. differ (sym same)) in rw e refl

whole_run : (n b : ℕ) (ys : List ℕ) (rs : List (ℕ × ℕ)) → maximal_runs ys ≡ rs → DifferInTurn ((n, b) ∷ rs) → 0 < n → maximal_runs (replicate n b ++ ys) ≡ (n, b) ∷ rs
whole_run zero b ys rs is differ some = absurd (omega arith)
whole_run (suc zero) b ys rs is differ some = ap (onto_runs b) is ∙ other_byte b 1 rs differ
whole_run (suc (suc m)) b ys rs is differ some =
    ap (onto_runs b) (whole_run (suc m) b ys rs is (longer (suc (suc m)) (suc m) b rs differ) (omega arith)) ∙ rw (eqb_same b) refl

tail_differs : (r : ℕ × ℕ) (rs : List (ℕ × ℕ)) → DifferInTurn (r ∷ rs) → DifferInTurn rs
tail_differs r [] differ = tt
tail_differs r (s ∷ rs) differ = differ.1

runs_back : (rs : List (ℕ × ℕ)) → AllByRecursion (λ s. 0 < s.0) rs → DifferInTurn rs → maximal_runs (bytes_of_runs rs) ≡ rs
runs_back [] some differ = refl
runs_back (r ∷ rs) (here, others) differ = whole_run r.0 r.1 (bytes_of_runs rs) rs (runs_back rs others (tail_differs r rs differ)) differ here

pub only_maximal : (bs : List ℕ) (rs : List (ℕ × ℕ)) → AreMaximal rs bs → rs ≡ maximal_runs bs
only_maximal bs rs are = sym (ap maximal_runs (sym are.spelled) ∙ runs_back rs are.some are.differ)

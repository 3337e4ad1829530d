-- What the exact clauses of the source and the sink in memory give of what every source and sink promises.
use Rattle.std.proofs.Common.{◌≡◌, ℕ, ◌<◌, ◌≤◌, min, List, [], ◌∷◌, ◌++◌, length, take, drop, Bool, true, false, Some, Result, Ok, Err, IfOk, OnErr, ap, sym, ◌∙◌, refl, inl, inr, subst, arith, IsErrOf}
use Rattle.std.specs.Prelude.{nat_lt}
use Rattle.std.proofs.Math.Seq.{take-length, take-append_seam}
use Rattle.std.proofs.lemmas.List.{take-append-drop, length-take-le}
use Rattle.std.proofs.lemmas.Bool.Decides.{nat_tests}
use Rattle.lr_spec.specs.Rose.{Rose, next_count, last_count}
use Rattle.lr_io.specs.declared.source.SourceFailed.{SourceFailed}
use Rattle.lr_io.specs.declared.sink.SinkError.{SinkError}
use Rattle.lr_io.specs.declared.sink.SinkError.TheVariants.{Failed, OutOfMemory}
use Rattle.lr_io.specs.Memory.{SourceInMemory, SinkInMemory}
use Rattle.lr_io.specs.Streams.{Takes, IsAtEnd, Appends, Keeps}

count_by_test : (n : ℕ) (t : Bool) → nat_lt n last_count ≡ t → (n ≤ next_count n) × Rose n (next_count n)
count_by_test n true e = rw e (omega arith, inl (omega arith))
count_by_test n false e = let all : last_count ≤ n = grind (arith, nat_tests) in rw e (omega arith, inr all)

count_goes_on : (n : ℕ) → (n ≤ next_count n) × Rose n (next_count n)
count_goes_on n = count_by_test n (nat_lt n last_count) refl

-- The source.

take_front : (n : ℕ) (xs ys : List ℕ) → n ≤ length xs → take n (take n xs ++ ys) ≡ take n xs
take_front n xs ys le =
    let k : length (take n xs) ≡ n = length-take-le n xs le in
    ap (λ (m : ℕ). take m (take n xs ++ ys)) (sym k) ∙ take-append_seam (take n xs) ys

pub source_fits : (r : Result ℕ SourceFailed) (a b : ℕ) → IfOk r (λ n. n ≡ min a b) → IfOk r (λ n. n ≤ a)
source_fits (Ok n) a b e = omega arith
source_fits (Err x) a b e = tt

pub source_takes : (r : Result ℕ SourceFailed) (old new : SourceInMemory) (before after : List ℕ) → IfOk r (λ n. n ≡ min (length before) (length old.left)) → IfOk r (λ n. new ≡ record old { left = drop n old.left; calls = next_count old.calls }) → IfOk r (λ n. after ≡ take n old.left ++ drop n before) → IfOk r (λ n. Takes (Some old.left) (take n after) (Some new.left))
source_takes (Ok n) old new before after count taken given = λ xs e.
    let same : old.left ≡ xs = cc in
    let left : new.left ≡ drop n old.left = ap (λ (s : SourceInMemory). s.left) taken in
    let fits : n ≤ length old.left = omega arith in
    let front : take n after ≡ take n old.left = ap (take n) given ∙ take_front n old.left (drop n before) fits in
    (new.left, rw (front, left, ← same) (sym (take-append-drop n old.left)), refl)
source_takes (Err x) old new before after count taken given = tt

pub source_ends : (r : Result ℕ SourceFailed) (left before : List ℕ) → IfOk r (λ n. n ≡ min (length before) (length left)) → IfOk r (λ n. n ≡ 0 → 0 < length before → IsAtEnd (Some left))
source_ends (Ok n) [] before count = λ none room xs e. let same : [] ≡ xs = cc in sym same
source_ends (Ok n) (x ∷ xs) before count = λ none room. absurd (omega arith)
source_ends (Err x) left before count = tt

pub source_never_falls : (r : Result ℕ SourceFailed) (old new : SourceInMemory) → OnErr r (new ≡ record old { calls = next_count old.calls; faults = next_count old.faults }) → IfOk r (λ n. new ≡ record old { left = drop n old.left; calls = next_count old.calls }) → old.faults ≤ new.faults
source_never_falls (Ok n) old new failed taken = let same : new.faults ≡ old.faults = ap (λ (s : SourceInMemory). s.faults) taken in omega arith
source_never_falls (Err x) old new failed taken = rw (ap (λ (s : SourceInMemory). s.faults) failed) (count_goes_on old.faults).0

pub source_rose : (r : Result ℕ SourceFailed) (old new : SourceInMemory) → OnErr r (new ≡ record old { calls = next_count old.calls; faults = next_count old.faults }) → OnErr r (Rose old.faults new.faults)
source_rose (Ok n) old new failed = tt
source_rose (Err x) old new failed = subst (λ (n : ℕ). Rose old.faults n) (sym (ap (λ (s : SourceInMemory). s.faults) failed)) (count_goes_on old.faults).1

-- The sink.

pub sink_fits : (r : Result ℕ SinkError) (len : ℕ) → IfOk r (λ n. n ≡ len) → IfOk r (λ n. n ≤ len)
sink_fits (Ok n) len whole = omega arith
sink_fits (Err x) len whole = tt

pub sink_some : (r : Result ℕ SinkError) (len : ℕ) → IfOk r (λ n. n ≡ len) → IfOk r (λ n. 0 < len → 0 < n)
sink_some (Ok n) len whole = λ some. omega arith
sink_some (Err x) len whole = tt

pub sink_appends : (r : Result ℕ SinkError) (old new : SinkInMemory) (bytes : List ℕ) → IfOk r (λ n. n ≡ length bytes) → IfOk r (λ n. new ≡ record old { written = old.written ++ bytes; calls = next_count old.calls }) → IfOk r (λ n. Appends (Some old.written) (take n bytes) (Some new.written))
sink_appends (Ok n) old new bytes whole added = λ xs e.
    let same : old.written ≡ xs = cc in
    let all : take n bytes ≡ bytes = ap (λ (k : ℕ). take k bytes) whole ∙ take-length bytes in
    rw (all, ← same) (ap (λ (s : SinkInMemory). Some s.written) added)
sink_appends (Err x) old new bytes whole added = tt

pub sink_kept : (r : Result ℕ SinkError) (old new : SinkInMemory) → (IsErrOf r Failed → new ≡ record old { calls = next_count old.calls; faults = next_count old.faults }) → (IsErrOf r OutOfMemory → new ≡ record old { calls = next_count old.calls }) → OnErr r (Keeps (Some old.written) (Some new.written))
sink_kept (Ok n) old new failed no_memory = tt
sink_kept (Err Failed) old new failed no_memory = λ xs e. ap (λ (s : SinkInMemory). Some s.written) (failed refl) ∙ e
sink_kept (Err OutOfMemory) old new failed no_memory = λ xs e. ap (λ (s : SinkInMemory). Some s.written) (no_memory refl) ∙ e

pub sink_never_falls : (r : Result ℕ SinkError) (old new : SinkInMemory) (bytes : List ℕ) → (IsErrOf r Failed → new ≡ record old { calls = next_count old.calls; faults = next_count old.faults }) → IfOk r (λ n. new ≡ record old { written = old.written ++ bytes; calls = next_count old.calls }) → (IsErrOf r OutOfMemory → new ≡ record old { calls = next_count old.calls }) → old.faults ≤ new.faults
sink_never_falls (Ok n) old new bytes failed added no_memory = let same : new.faults ≡ old.faults = ap (λ (s : SinkInMemory). s.faults) added in omega arith
sink_never_falls (Err Failed) old new bytes failed added no_memory = rw (ap (λ (s : SinkInMemory). s.faults) (failed refl)) (count_goes_on old.faults).0
sink_never_falls (Err OutOfMemory) old new bytes failed added no_memory = let same : new.faults ≡ old.faults = ap (λ (s : SinkInMemory). s.faults) (no_memory refl) in omega arith

pub sink_rose : (r : Result ℕ SinkError) (old new : SinkInMemory) → (IsErrOf r Failed → new ≡ record old { calls = next_count old.calls; faults = next_count old.faults }) → IsErrOf r Failed → Rose old.faults new.faults
sink_rose r old new failed is = subst (λ (n : ℕ). Rose old.faults n) (sym (ap (λ (s : SinkInMemory). s.faults) (failed is))) (count_goes_on old.faults).1

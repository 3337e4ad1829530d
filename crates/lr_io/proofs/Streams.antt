-- Pieces of a stream, one after another.
use Rattle.std.proofs.Common.{◌≡◌, ℕ, ◌+◌, List, [], ◌++◌, take, drop, Option, Some, ap, sym, ◌∙◌, append_assoc}
use Rattle.std.proofs.Math.Seq.{take-add}
use Rattle.std.proofs.lemmas.List.{append-nil}
use Rattle.lr_io.specs.Streams.{Appends, Takes, TakesAll, IsAtEnd}

pub nothing_appended : (written : Option (List ℕ)) (bytes : List ℕ) → Appends written (take 0 bytes) written
nothing_appended written bytes = λ xs e. e ∙ ap Some (sym (append-nil xs))

pub appends_more : (old mid new : Option (List ℕ)) (bytes piece : List ℕ) (d n : ℕ) → piece ≡ drop d bytes → Appends old (take d bytes) mid → Appends mid (take n piece) new → Appends old (take (d + n) bytes) new
appends_more old mid new bytes piece d n is first second = λ xs e.
    second (xs ++ take d bytes) (first xs e) ∙ ap Some (rw (is, take-add d n bytes) (append_assoc xs (take d bytes) (take n (drop d bytes))))

pub takes_more : (old mid new : Option (List ℕ)) (bytes piece : List ℕ) → Takes old bytes mid → Takes mid piece new → Takes old (bytes ++ piece) new
takes_more old mid new bytes piece first second = λ xs e.
    let f = first xs e in
    let s = second f.0 f.2 in
    (s.0, f.1 ∙ ap (λ (ys : List ℕ). bytes ++ ys) s.1 ∙ sym (append_assoc bytes piece s.0), s.2)

pub takes_whole : (old mid new : Option (List ℕ)) (bytes buffer : List ℕ) (n : ℕ) → n ≡ 0 → Takes old bytes mid → IsAtEnd mid → Takes mid (take n buffer) new → TakesAll old bytes new
takes_whole old mid new bytes buffer n none first end second = λ xs e.
    let f = first xs e in
    let s = second f.0 f.2 in
    let nil : f.0 ≡ [] = end f.0 f.2 in
    let left : s.0 ≡ [] = sym (s.1 ∙ ap (λ (k : ℕ). take k buffer ++ s.0) none) ∙ nil in
    (f.1 ∙ rw nil (append-nil bytes), s.2 ∙ ap Some left)

use Rattle.std.proofs.Common.{◌≡◌, ◌≤◌, ℕ, ◌+◌, ◌-◌, List, [], ◌++◌, length, length-append, take, take_all, replicate, refl, sym, ap, ◌∙◌, arith}
use Rattle.std.specs.Vec.{vec_len}
use Rattle.std.proofs.lemmas.List.{length-replicate}
use Rattle.lr_convergent.specs.Sealed.{filled}
use Rattle.lr_convergent.proofs.fill.Goals as goal

pub returns : goal.returns
unfolding filled
returns c =
    let plain : List ℕ = c.args.plain.now in
    let ext : c.extend_from_slice.new.self.items ≡ plain = c.in_ok-extend_from_slice.ensures.items ∙ ap (λ (l : List ℕ). l ++ plain) c.in_ok-buffer.ensures.items in
    let n : vec_len c.extend_from_slice.new.self ≡ length plain = omega (arith, c.in_ok-extend_from_slice.ensures.len, c.in_ok-buffer.ensures.len) in
    let all : c.resize.new.self.items ≡ filled 524288 plain =
    c.in_ok-resize.ensures.items ∙ (λ i. take 524288 (ext i) ++ replicate (524288 - n i) 0)
    ∙ ap (λ (l : List ℕ). l ++ replicate (524288 - length plain) 0) (take_all 524288 plain c.requires) in (
      all,
      ap (λ (l : List ℕ). length l) all ∙ length-append plain (replicate (524288 - length plain) 0)
          ∙ omega (arith, length-replicate {A = ℕ} (524288 - length plain) 0, c.requires),
    )

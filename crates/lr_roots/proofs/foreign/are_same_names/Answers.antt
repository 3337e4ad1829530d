use Rattle.std.proofs.Common.{◌≡◌, ℕ, List, Decides, length, nat_eq, ap, subst}
use Rattle.std.specs.Coded.{Coded-set, coded_ℕ}
use Rattle.std.specs.Cmp.Lexicographic.{pointwise, bytes_decides}
use Rattle.std.proofs.lemmas.Bool.Decides.{Decides-like}
use Rattle.std.proofs.lemmas.Slice.Eq.{slice_eq-Decides}
use Rattle.lr_manifest.specs.declared.name.Name.{Name}
use Rattle.lr_roots.proofs.foreign.are_same_names.Goals as goal

-- names of the same bytes are the same
name_of_bytes : (x y : Name) → x.bytes ≡ y.bytes → x ≡ y
name_of_bytes x y e =
    let P : List ℕ → Type 0 = λ b. (h : length b ≡ 32) → x ≡ record { bytes = b; long = h } in
    subst P e (λ h. ap (λ (q : length x.bytes ≡ 32). record { bytes = x.bytes; long = q }) (Coded-set coded_ℕ _ _ x.long h)) y.long

same_name : (a b : Name) → Decides (pointwise nat_eq a.bytes b.bytes) (a ≡ b)
same_name a b = Decides-like _ (name_of_bytes a b) (λ e. ap (λ (n : Name). n.bytes) e) (bytes_decides a.bytes b.bytes)

pub returns : goal.returns
returns c = slice_eq-Decides same_name _ _ _ c.eq.ensures

-- Bases that agree with pieces.
use Rattle.std.proofs.Common.{◌≡◌, ℕ, ◌-◌, List, [], ◌∷◌, ◌++◌, length, take, Bool, true, false, cond, Option, Some, find, refl, ap, sym, ◌∙◌, replicate}
use Rattle.std.specs.Option.{option_to_list}
use Rattle.std.proofs.lemmas.List.{take_at}
use Rattle.lr_convergent.specs.declared.piece.KeptPiece.{KeptPiece}
use Rattle.lr_convergent.specs.Sealed.{filled}
use Rattle.lr_convergent.specs.Pieces.{plain_of}
use Rattle.lr_device.specs.Base.{part_of, HasPiece, Agrees, is_at}
use Rattle.lr_device.specs.Answers.{used_of}

pub has_filled : (base : List ℕ) (piece : KeptPiece) → plain_of piece ≡ filled 524288 (part_of base piece.index) → HasPiece base piece
unfolding filled
has_filled base piece e =
    let part : List ℕ = part_of base piece.index in
    sym (ap (λ l. take (length (part_of base piece.index)) l) e ∙ take_at (part_of base piece.index) (replicate (524288 - length (part_of base piece.index)) 0) (length (part_of base piece.index)) refl)

pub agrees_join : (base : List ℕ) (xs ys : List KeptPiece) → Agrees base xs → Agrees base ys → Agrees base (xs ++ ys)
agrees_join base [] ys h k = k
agrees_join base (x ∷ xs) ys h k = (h.0, agrees_join base xs ys h.1 k)

one_by : (base : List ℕ) (x : KeptPiece) (o : Option KeptPiece) (b : Bool) → HasPiece base x → Agrees base (option_to_list o) → Agrees base (option_to_list (cond b (Some x) o))
one_by base x o true h k = (h, tt)
one_by base x o false h k = k

agrees_found : (base : List ℕ) (p : KeptPiece → Bool) (pieces : List KeptPiece) → Agrees base pieces → Agrees base (option_to_list (find p pieces))
agrees_found base p [] h = tt
agrees_found base p (x ∷ xs) h = one_by base x (find p xs) (p x) h.0 (agrees_found base p xs h.1)

pub agrees_used : (base : List ℕ) (needs : List ℕ) (pieces : List KeptPiece) → Agrees base pieces → Agrees base (used_of needs pieces)
agrees_used base [] pieces h = tt
agrees_used base (i ∷ needs) pieces h = agrees_join base (option_to_list (find (is_at i) pieces)) (used_of needs pieces) (agrees_found base (is_at i) pieces h) (agrees_used base needs pieces h)

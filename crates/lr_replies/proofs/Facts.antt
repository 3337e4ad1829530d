-- Facts on options.
use Rattle.std.proofs.Common.{◌≡◌, Option, Some, None}

pub same_some : {X : Type 0} (o : Option X) (x y : X) → o ≡ Some x → o ≡ Some y → x ≡ y
same_some o x y e f = cc

pub none_some : {X P : Type 0} (o : Option X) (x : X) → o ≡ None → o ≡ Some x → P
none_some o x e f = absurd (cc)

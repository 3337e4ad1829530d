use Rattle.std.proofs.Common.{◌≡◌, ℕ, List, Err, refl, subst, sym}
use Rattle.lr_origin.specs.declared.key.KeyKind.{KeyKind}
use Rattle.lr_depot.specs.declared.call.DepotReply.{DepotReply}
use Rattle.lr_depot.specs.declared.call.DepotReply.TheVariants.{Rotated, Withdrawn, Expired, Deleted, Fault, Spoiled, NoImage, NoRoot, Taken, Full, RootsEnd, Overtaken, NotRetiredHome, NotRetired, NotExpired, NotDeleted, Serves, Session, Doubt}
use Rattle.lr_walk.specs.Depot.{seen_reply}
use Rattle.lr_desk.specs.declared.outcome.Outcome.TheVariants.{Memory}
use Rattle.lr_desk.specs.Ends.{outcome_of, IsOther}
use Rattle.lr_desk.proofs.ends.of_reply.Goals as goal

other : (r : DepotReply) → ((x : ℕ) → r ≡ Rotated x → ⊥) → (r ≡ Withdrawn → ⊥) → (r ≡ Expired → ⊥) → (r ≡ Deleted → ⊥) → ((k : KeyKind) → r ≡ Fault k → ⊥) → ((k : KeyKind) → r ≡ Spoiled k → ⊥)
    → (r ≡ NoImage → ⊥) → (r ≡ NoRoot → ⊥) → (r ≡ Taken → ⊥) → (r ≡ Full → ⊥) → (r ≡ RootsEnd → ⊥) → ((x : ℕ) → r ≡ Overtaken x → ⊥) → ((x : ℕ) → r ≡ NotRetiredHome x → ⊥)
    → (r ≡ NotRetired → ⊥) → (r ≡ NotExpired → ⊥) → (r ≡ NotDeleted → ⊥) → ((i : List ℕ) → r ≡ Serves i → ⊥) → ((x : ℕ) → r ≡ Session x → ⊥) → ((k : KeyKind) → r ≡ Doubt k → ⊥)
    → IsOther (outcome_of (seen_reply r)) Memory
other (Rotated x) a b c d e f g h i j k l m n o p q s t = absurd (a x refl)
other Withdrawn a b c d e f g h i j k l m n o p q s t = absurd (b refl)
other Expired a b c d e f g h i j k l m n o p q s t = absurd (c refl)
other Deleted a b c d e f g h i j k l m n o p q s t = absurd (d refl)
other (Fault x) a b c d e f g h i j k l m n o p q s t = absurd (e x refl)
other (Spoiled x) a b c d e f g h i j k l m n o p q s t = absurd (f x refl)
other NoImage a b c d e f g h i j k l m n o p q s t = absurd (g refl)
other NoRoot a b c d e f g h i j k l m n o p q s t = absurd (h refl)
other Taken a b c d e f g h i j k l m n o p q s t = absurd (i refl)
other Full a b c d e f g h i j k l m n o p q s t = absurd (j refl)
other RootsEnd a b c d e f g h i j k l m n o p q s t = absurd (k refl)
other (Overtaken x) a b c d e f g h i j k l m n o p q s t = absurd (l x refl)
other (NotRetiredHome x) a b c d e f g h i j k l m n o p q s t = absurd (m x refl)
other NotRetired a b c d e f g h i j k l m n o p q s t = absurd (n refl)
other NotExpired a b c d e f g h i j k l m n o p q s t = absurd (o refl)
other NotDeleted a b c d e f g h i j k l m n o p q s t = absurd (p refl)
other (Serves x) a b c d e f g h i j k l m n o p q s t = absurd (q x refl)
other (Session x) a b c d e f g h i j k l m n o p q s t = absurd (s x refl)
other (Doubt x) a b c d e f g h i j k l m n o p q s t = absurd (t x refl)
other r a b c d e f g h i j k l m n o p q s t = refl

pub returns-in_default : goal.returns-in_default
returns-in_default c =
    other c.args.reply.now c.in_default.not-Rotated c.in_default.not-Withdrawn c.in_default.not-Expired c.in_default.not-Deleted c.in_default.not-Fault c.in_default.not-Spoiled c.in_default.not-NoImage c.in_default.not-NoRoot
    c.in_default.not-Taken c.in_default.not-Full c.in_default.not-RootsEnd c.in_default.not-Overtaken c.in_default.not-NotRetiredHome c.in_default.not-NotRetired c.in_default.not-NotExpired c.in_default.not-NotDeleted
    c.in_default.not-Serves c.in_default.not-Session c.in_default.not-Doubt

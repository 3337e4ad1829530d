-- What two plays left, one after the other.
use Rattle.std.proofs.Common.{◌≡◌, ◌+◌, ℕ, List, [], ◌∷◌, ◌++◌, length, Some, slice_get, ap, ◌∙◌, append_assoc}
use Rattle.std.specs.List.{AllByRecursion}
use Rattle.lr_object.specs.declared.entry.Entry.{Entry}
use Rattle.lr_object.specs.Kept.{Sized}
use Rattle.lr_replies.specs.Objects.{Objects}
use Rattle.lr_world.specs.World.{Part, IsNumber}
use Rattle.lr_world.specs.Runs.{Gained, HaveGained, Grew}
use Rattle.lr_play.proofs.Lists.{all_append, at_front, at_rest}

all_of : {N T : Type 0} (P Q : ℕ → Type 0) → ((n : ℕ) → P n → Q n) → (log : List (Entry N T)) → AllByRecursion (λ (e : Entry N T). P e.caller) log → AllByRecursion (λ (e : Entry N T). Q e.caller) log
all_of P Q f [] h = tt
all_of P Q f (e ∷ log) h = (f e.caller h.0, all_of P Q f log h.1)

module _ (P Q R : ℕ → Type 0) (f : (n : ℕ) → P n → R n) (g : (n : ℕ) → Q n → R n) where
  gained_both : {N T : Type 0} (first mid last : List (Entry N T)) → Gained P first mid → Gained Q mid last → Gained R first last
  gained_both {N} {T} first mid last a b = (
    a.0 ++ b.0,
    b.1 ∙ (ap (λ (log : List (Entry N T)). log ++ b.0) a.1 ∙ append_assoc first a.0 b.0),
    all_append (λ (e : Entry N T). R e.caller) a.0 b.0 (all_of P R f a.0 a.2) (all_of Q R g b.0 b.2),
  )

  have_both : {N T : Type 0} (first mid last : List (Sized N T)) → HaveGained P first mid → HaveGained Q mid last → HaveGained R first last
  have_both {N} {T} first mid last a b = record { many = b.many ∙ a.many; each = λ n s e. by n s (a.each n s e) }
    where
      by : (n : ℕ) (s : Sized N T) → (t : Sized N T) × (slice_get mid n ≡ Some t) × (t.capacity ≡ s.capacity) × Gained P s.log t.log → (t : Sized N T) × (slice_get last n ≡ Some t) × (t.capacity ≡ s.capacity) × Gained R s.log t.log
      by n s x = let y = b.each n x.0 x.1 in (y.0, y.1, y.2 ∙ x.2, gained_both s.log x.0.log y.0.log x.3 y.3)

in_front : (xs ys : List Part) (n : ℕ) → IsNumber xs n → IsNumber (xs ++ ys) n
in_front xs ys n (i, p, at, is) = (i, p, at_front xs ys i p at, is)

in_rest : (xs ys : List Part) (n : ℕ) → IsNumber ys n → IsNumber (xs ++ ys) n
in_rest xs ys n (i, p, at, is) = (length xs + i, p, at_rest xs ys i p at, is)

pub grew_both : (xs ys : List Part) (first mid last : Objects) → Grew xs first mid → Grew ys mid last → Grew (xs ++ ys) first last
grew_both xs ys first mid last a b = record {
  devices = have_both (IsNumber xs) (IsNumber ys) (IsNumber (xs ++ ys)) (in_front xs ys) (in_rest xs ys) first.devices mid.devices last.devices a.devices b.devices;
  caches = have_both (IsNumber xs) (IsNumber ys) (IsNumber (xs ++ ys)) (in_front xs ys) (in_rest xs ys) first.caches mid.caches last.caches a.caches b.caches;
  nodes = have_both (IsNumber xs) (IsNumber ys) (IsNumber (xs ++ ys)) (in_front xs ys) (in_rest xs ys) first.nodes mid.nodes last.nodes a.nodes b.nodes;
  start = b.start ∙ a.start;
  depot = gained_both (IsNumber xs) (IsNumber ys) (IsNumber (xs ++ ys)) (in_front xs ys) (in_rest xs ys) first.depot mid.depot last.depot a.depot b.depot;
}

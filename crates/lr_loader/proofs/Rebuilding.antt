-- What four good stripes are rebuilt to, and one good stripe more in hand.
use Rattle.std.proofs.Common.{◌≡◌, ◌≢◌, ℕ, zero, suc, ◌+◌, ◌-◌, ◌*◌, ◌/◌, ◌^◌, ◌<◌, ◌≤◌, List, [], ◌∷◌, ◌++◌, length, map, slice_index, get_or, take, drop, append-nil, Bool, true, false, ◌&&◌, ◌==◌, ◌⊎◌, inl, inr, refl, sym, ap, subst, ◌∙◌, arith, lit<, lit≤, length-append, eqb-true, Option, Some, None}
use Rattle.std.specs.Prelude.{nat_le, IfSome, IfNone}
use Rattle.std.specs.List.{flat_map, AllByRecursion}
use Rattle.std.specs.Str.{bytes_eq}
use Rattle.std.specs.Bool.{Decides, one_answer}
use Rattle.std.proofs.lemmas.Bool.{and_parts, false_from_ne_true, eq-eqb, cases_lt, le-leb, leb-true}
use Rattle.std.proofs.lemmas.Slice.Eq.{bytes_eq-Decides}
use Rattle.std.proofs.lemmas.List.{length-map, map-append, get_or_append_left, get_or-append_right, drop_all}
use Rattle.std.proofs.Math.Seq.{take-length}
use Rattle.sha2.specs.Sha256.{sha256}
use Rattle.lr_field.specs.Polynomial.{AreBytes, IsDistinct}
use Rattle.lr_manifest.specs.declared.name.Name.{Name}
use Rattle.lr_manifest.specs.Chunk.{is_named}
use Rattle.lr_stripe.specs.declared.stripe.Stripe.{Stripe}
use Rattle.lr_stripe.specs.Code.{AreStripes}
use Rattle.lr_stripe.specs.Good.{IsGood}
use Rattle.lr_stripe.proofs.Public.{one_chunk}
use Rattle.lr_walk.specs.Stripes.{is_good, indices_of, joined, IsRebuilt}
use Rattle.lr_walk.specs.declared.place.LoadPlace.{LoadPlace}
use Rattle.lr_loader.specs.Progress.{Need, asking, Rebuilt, AfterGet}
use Rattle.lr_loader.specs.Held.{IsGoodBelow, AreHeld, AreWhole, IsRebuiltTo}

-- a good stripe has 131072 bytes
good_long : (name : Name) (index : ℕ) (s : Stripe) → is_good name index s ≡ true → length s.bytes ≡ 131072
good_long name index s h =
    let more = and_parts (bytes_eq s.name.bytes name.bytes) (s.index == index && (length s.bytes == 131072 && bytes_eq s.digest (sha256 s.bytes))) h in
    let last = and_parts (s.index == index) (length s.bytes == 131072 && bytes_eq s.digest (sha256 s.bytes)) more.1 in
    eqb-true (length s.bytes) 131072 (and_parts (length s.bytes == 131072) (bytes_eq s.digest (sha256 s.bytes)) last.1).0

-- good stripes of indices below 5 are such that a chunk can be rebuilt of four
whole_each : (name : Name) (held : List Stripe) → AllByRecursion (IsGoodBelow name 5) held → AllByRecursion (λ (s : Stripe). (s.index < 5) × (length s.bytes ≡ 131072)) held
whole_each name [] h = tt
whole_each name (s ∷ held) h = ((h.0.1, good_long name s.index s h.0.0), whole_each name held h.1)

pub are_whole : (name : Name) (held : List Stripe) → AreHeld name 5 held → AreWhole held
are_whole name held h = record { each = whole_each name held h.good; apart = h.apart }

pub length-joined : (held : List Stripe) → AllByRecursion (λ (s : Stripe). (s.index < 5) × (length s.bytes ≡ 131072)) held → length (joined held) ≡ length held * 131072
length-joined [] h = refl
length-joined (s ∷ held) h =
    let first : length s.bytes ≡ 131072 = h.0.1 in
    let rest : length (joined held) ≡ length held * 131072 = length-joined held h.1 in
    let both : length (s.bytes ++ joined held) ≡ length s.bytes + length (joined held) = length-append s.bytes (joined held) in
    let more : suc (length held) * 131072 ≡ 131072 + length held * 131072 = omega arith in
    both ∙ ap (λ (n : ℕ). n + length (joined held)) first ∙ ap (λ (n : ℕ). 131072 + n) rest ∙ sym more

pub within_five : (held : List Stripe) → AllByRecursion (λ (s : Stripe). (s.index < 5) × (length s.bytes ≡ 131072)) held → AllByRecursion (λ (s : Stripe). s.index < 5) held
within_five [] h = tt
within_five (s ∷ held) h = (h.0.0, within_five held h.1)

pub byte_indices : (held : List Stripe) → AllByRecursion (λ (s : Stripe). s.index < 5) held → AreBytes (indices_of held)
byte_indices [] h = tt
byte_indices (s ∷ held) h = (omega (arith, h.0), byte_indices held h.1)

-- four of them have so many bytes
pub whole : (held : List Stripe) → AreWhole held → length held ≡ 4 → length (joined held) ≡ 4 * 131072
whole held h four = length-joined held h.each ∙ ap (λ (n : ℕ). n * 131072) four

quarter : (held : List Stripe) → AreWhole held → length held ≡ 4 → length (joined held) / 4 ≡ 131072
quarter held h four = ap (λ (n : ℕ). n / 4) (whole held h four)

pub index_at : (a b c d : Stripe) → AreWhole (a ∷ b ∷ c ∷ d ∷ []) → (k n : ℕ) → k < 4 → get_or (a.index ∷ b.index ∷ c.index ∷ d.index ∷ []) k n < 5
index_at a b c d h zero n lt = h.each.0.0
index_at a b c d h (suc zero) n lt = h.each.1.0.0
index_at a b c d h (suc (suc zero)) n lt = h.each.1.1.0.0
index_at a b c d h (suc (suc (suc zero))) n lt = h.each.1.1.1.0.0
index_at a b c d h (suc (suc (suc (suc k)))) n lt = absurd (omega arith)

-- what is written where four are in hand: it is every chunk that has these stripes
abbrev pub Writes : List Stripe → List ℕ → List ℕ → Type 0
Writes held stripes out = (chunk : List ℕ) → AreStripes 4 (length stripes / 4) chunk (indices_of held) stripes → out ≡ chunk

pub rebuilt : (held : List Stripe) (stripes out : List ℕ) → stripes ≡ joined held → AreWhole held → length held ≡ 4 → AreBytes stripes → Writes held stripes out → IsRebuilt held out
rebuilt held stripes out same h four small writes =
    let within = within_five held h.each in
    let bytes : AreBytes (joined held) = subst (λ (l : List ℕ). AreBytes l) same small in
    let one = one_chunk 4 131072 (indices_of held) (joined held) (lit< tt) (lit≤ tt) (lit< tt) (byte_indices held within) h.apart (length-map held (λ (s : Stripe). s.index) ∙ four) bytes (whole held h four) in
    let here : AreStripes 4 (length stripes / 4) one.0 (indices_of held) stripes =
    subst (λ (l : List ℕ). AreStripes 4 (length l / 4) one.0 (indices_of held) l) (sym same) (subst (λ (n : ℕ). AreStripes 4 n one.0 (indices_of held) (joined held)) (sym (quarter held h four)) one.1.0) in
    let e : out ≡ one.0 = writes one.0 here in
    record {
      four = four;
      each = h.each;
      apart = h.apart;
      stripes = subst (λ (c : List ℕ). AreStripes 4 131072 c (indices_of held) (joined held)) (sym e) one.1.0;
    }

-- and no other chunk has these stripes
pub only : (held : List Stripe) (stripes out : List ℕ) → stripes ≡ joined held → AreWhole held → length held ≡ 4 → Writes held stripes out → (chunk : List ℕ) → IsRebuilt held chunk → out ≡ chunk
only held stripes out same h four writes chunk is =
    writes chunk (subst (λ (l : List ℕ). AreStripes 4 (length l / 4) chunk (indices_of held) l) (sym same) (subst (λ (n : ℕ). AreStripes 4 n chunk (indices_of held) (joined held)) (sym (quarter held h four)) is.stripes))

-- the chunk that they are rebuilt to, or none of the name
pub rebuilt_to : (name : Name) (held : List Stripe) (bytes : List ℕ) → IsRebuilt held bytes → ((chunk : List ℕ) → IsRebuilt held chunk → bytes ≡ chunk) → (r : Option (List ℕ))
    → IfSome r (λ c. (c ≡ bytes) × (is_named name c ≡ true)) → IfNone r (is_named name bytes ≡ false) → IsRebuiltTo name held r
rebuilt_to name held bytes is alone (Some c) some none = (subst (λ (l : List ℕ). IsRebuilt held l) (sym some.0) is, some.1)
rebuilt_to name held bytes is alone None some none = λ chunk same. subst (λ (l : List ℕ). is_named name l ≡ false) (alone chunk same) none

-- a vector that was written from end to end
pub written : (out items : List ℕ) (n : ℕ) → length out ≡ n → length items ≡ n → take n (out ++ drop (length out) items) ≡ out
written out items n e f =
    let none : drop (length out) items ≡ [] = drop_all (length out) items (omega arith) in
    ap (λ (l : List ℕ). take n (out ++ l)) none ∙ ap (take n) (append-nil out) ∙ ap (λ (k : ℕ). take k out) (sym e) ∙ take-length out

-- ---- one good stripe more

good_from : (name : Name) (index : ℕ) (s : Stripe) → IsGood s name index → is_good name index s ≡ true
good_from name index s h =
    rw ((bytes_eq-Decides s.name.bytes name.bytes).1 h.its_name, eq-eqb s.index index h.its_index, eq-eqb (length s.bytes) 131072 h.long, (bytes_eq-Decides s.digest (sha256 s.bytes)).1 h.its_digest) refl

good_to : (name : Name) (index : ℕ) (s : Stripe) → is_good name index s ≡ true → IsGood s name index
good_to name index s h =
    let more = and_parts (bytes_eq s.name.bytes name.bytes) (s.index == index && (length s.bytes == 131072 && bytes_eq s.digest (sha256 s.bytes))) h in
    let last = and_parts (s.index == index) (length s.bytes == 131072 && bytes_eq s.digest (sha256 s.bytes)) more.1 in
    let end = and_parts (length s.bytes == 131072) (bytes_eq s.digest (sha256 s.bytes)) last.1 in
    record {
      its_name = (bytes_eq-Decides s.name.bytes name.bytes).0 more.0;
      its_index = eqb-true s.index index last.0;
      long = eqb-true (length s.bytes) 131072 end.0;
      its_digest = (bytes_eq-Decides s.digest (sha256 s.bytes)).0 end.1;
    }

-- the test of a stripe, as the walk has it
pub good_is : (name : Name) (index : ℕ) (s : Stripe) (r : Bool) → Decides r (IsGood s name index) → r ≡ is_good name index s
good_is name index s r d = one_answer r (is_good name index s) d (good_to name index s, good_from name index s)

distinct_more : (ps : List ℕ) (x : ℕ) → IsDistinct ps → ((i : ℕ) → i < length ps → slice_index ps i ≢ x) → IsDistinct (ps ++ x ∷ [])
distinct_more ps x apart new i j lt within e =
    let long : length (ps ++ x ∷ []) ≡ length ps + 1 = length-append ps (x ∷ []) in
    elim (cases_lt j (length ps)) [
      | inl low ↦
          apart i j lt low (sym (get_or_append_left ps (x ∷ []) 0 i (omega arith)) ∙ e ∙ get_or_append_left ps (x ∷ []) 0 j low)
      | inr high ↦
          let last : j - length ps ≡ 0 = omega arith in
          let below : i < length ps = omega arith in
          new i below
          (sym (get_or_append_left ps (x ∷ []) 0 i below) ∙ e ∙ get_or-append_right ps (x ∷ []) (length ps) j 0 refl high ∙ ap (slice_index (x ∷ [])) last)
    ]

below_at : (name : Name) (n : ℕ) (held : List Stripe) (i : ℕ) → AllByRecursion (IsGoodBelow name n) held → i < length (indices_of held) → slice_index (indices_of held) i < n
below_at name n [] i h lt = absurd (omega arith)
below_at name n (s ∷ held) zero h lt = h.0.1
below_at name n (s ∷ held) (suc i) h lt = below_at name n held i h.1 (omega arith)

all_more : (name : Name) (n m : ℕ) (held : List Stripe) (s : Stripe) → n ≤ m → AllByRecursion (IsGoodBelow name n) held → IsGoodBelow name m s
    → AllByRecursion (IsGoodBelow name m) (held ++ s ∷ [])
all_more name n m [] s le h g = (g, tt)
all_more name n m (t ∷ held) s le h g = ((h.0.0, omega (arith, h.0.1)), all_more name n m held s le h.1 g)

pub held_more : (name : Name) (n : ℕ) (held : List Stripe) (s : Stripe) → AreHeld name n held → is_good name n s ≡ true → AreHeld name (n + 1) (held ++ s ∷ [])
held_more name n held s h good =
    let at : s.index ≡ n = (good_to name n s good).its_index in
    record {
      good = all_more name n (n + 1) held s (omega arith) h.good (subst (λ (i : ℕ). is_good name i s ≡ true) (sym at) good, omega arith);
      apart = subst (λ (ps : List ℕ). IsDistinct ps) (sym (map-append (λ (t : Stripe). t.index) held (s ∷ [])))
          (distinct_more (indices_of held) s.index h.apart (λ i lt e. let below = below_at name n held i h.good lt in absurd (omega arith)));
    }

all_later : (name : Name) (n m : ℕ) (held : List Stripe) → n ≤ m → AllByRecursion (IsGoodBelow name n) held → AllByRecursion (IsGoodBelow name m) held
all_later name n m [] le h = tt
all_later name n m (t ∷ held) le h = ((h.0.0, omega (arith, h.0.1)), all_later name n m held le h.1)

-- with no stripe more
pub held_later : (name : Name) (n m : ℕ) (held : List Stripe) → n ≤ m → AreHeld name n held → AreHeld name m held
held_later name n m held le h = record { good = all_later name n m held le h.good; apart = h.apart }

-- ---- after a Get

pub after_last : (place : LoadPlace) (left : ℕ) (held : List Stripe) (new : Need) → (left ≡ 0) ⊎ (4 ≤ length held) → Rebuilt place held new → AfterGet place left held new
after_last place zero held new c r = r
after_last place (suc left) held new (inl e) r = absurd (omega arith)
after_last place (suc left) held new (inr h) r = rw (le-leb 4 (length held) h) r

pub after_more : (place : LoadPlace) (left : ℕ) (held : List Stripe) (new : Need) → 0 < left → length held < 4 → new ≡ asking (left - 1) held → AfterGet place left held new
after_more place zero held new some few e = absurd (omega arith)
after_more place (suc left) held new some few e =
    rw (false_from_ne_true (nat_le 4 (length held)) (λ (t : nat_le 4 (length held) ≡ true). let h : 4 ≤ length held = leb-true 4 (length held) t in absurd (omega arith))) (let one : suc left - 1 ≡ left = omega arith in subst (λ (n : ℕ). new ≡ asking n held) one e)

-- A depot has few image names: a start tells how many, only a creation's beginning adds one.
use Rattle.std.proofs.Common.{◌≡◌, ◌≢◌, ◌<◌, ◌≤◌, ◌+◌, ◌^◌, ℕ, arith, List, [], ◌∷◌, length, Some, IsSome, refl, sym, subst, ◌∙◌, inl, inr}
use mathlib.Core.Logic.{◌⊎◌}
use Rattle.std.specs.Ordering.{nat_cmp}
use Rattle.std.specs.FinMap as fin
use Rattle.std.specs.FinMap.{get-empty}
use Rattle.lr_manifest.specs.Manifest.{ManifestFields}
use Rattle.lr_origin.specs.Kind.{kind_cmp}
use Rattle.lr_origin.specs.declared.key.KeyKind.{KeyKind}
use Rattle.lr_origin.specs.declared.key.KeyKind.TheVariants.{Root, Expired, Deleted, Chunk, Manifest, Withdrawn}
use Rattle.lr_roots.specs.View.{View, Held, salt, manifest, bare, Has}
use Rattle.lr_roots.specs.Names.{IsOneOf, AreApart, AreFewer, Names, IsNamed}
use Rattle.lr_rules.specs.Known.{accepted, doubting, removed, dismissed}
use Rattle.lr_rules.specs.State.{Creates, Moves, Session, State, Holds, target}
use Rattle.lr_rules.specs.Names.{IsUnsure, IsImage, HasRoom}
use Rattle.lr_rules.specs.Safe.{Works, IsSafe}
use Rattle.lr_rules.specs.Calls.{knows, began, settled_there}
use Rattle.lr_rules.specs.Start.{started}
use Rattle.lr_rules.specs.Steps as steps
use Rattle.lr_rules.specs.Steps.{Steps}
use Rattle.lr_rules.proofs.Keys.{no_some, cases_key, cases_image, at_other, was_there}
use Rattle.lr_rules.proofs.Outcomes.{not_both, is_some}
use Rattle.lr_rules.proofs.Sound.{split}
use Rattle.lr_rules.proofs.Calls.{view_good}
use Rattle.lr_rules.proofs.Manifests.{fewer, ended_fewer}
use Rattle.lr_rules.proofs.Keeps.{found_known}
use Rattle.lr_rules.proofs.Sessions.{which, job_is}

-- what only some pass passes for fewer
pub fewer_pass : {A : Type 0} (P Q : A → Type 0) (most : ℕ) → ((x : A) → P x → Q x) → AreFewer Q most → AreFewer P most
fewer_pass P Q most within few some each apart = few some (λ x i. within x (each x i)) apart

-- a list without repeats, without one name
record Without (names : List (List ℕ)) (image : List ℕ) : Type 0 where
  rest : List (List ℕ)
  apart : AreApart rest
  each : (x : List ℕ) → IsOneOf rest x → IsOneOf names x × (x ≢ image)
  long : length names ≤ length rest + 1

without : (names : List (List ℕ)) (image : List ℕ) → AreApart names → Without names image
without [] image apart = record { rest = []; apart = tt; each = λ x i. absurd i; long = omega arith }
without (n ∷ names) image apart = by (cases_image n image) (without names image apart.1)
  where
    by : (n ≡ image) ⊎ (n ≢ image) → Without names image → Without (n ∷ names) image
    by (inl e) w = record {
      rest = names;
      apart = apart.1;
      each = λ x i. (inr i, λ f. apart.0 (subst (IsOneOf names) (f ∙ sym e) i));
      long = omega arith;
    }
    by (inr ne) w = record {
      rest = n ∷ w.rest;
      apart = (λ i. apart.0 (w.each n i).0, w.apart);
      each = each;
      long = omega (arith, w.long);
    }
      where
        each : (x : List ℕ) → IsOneOf (n ∷ w.rest) x → IsOneOf (n ∷ names) x × (x ≢ image)
        each x (inl e) = (inl e, λ f. ne (sym e ∙ f))
        each x (inr i) = (inr (w.each x i).0, (w.each x i).1)

-- one name more
one_more : (P Q : List ℕ → Type 0) (image : List ℕ) → ((x : List ℕ) → P x → (x ≡ image) ⊎ Q x) → AreFewer Q 1024 → AreFewer P (2 ^ 32)
one_more P Q image within few some each apart =
    let w : Without some image = without some image apart in
    let below : length w.rest < 1024 = few w.rest (λ x i. by x (within x (each x (w.each x i).0)) (w.each x i).1) w.apart in
    omega (arith, below, w.long)
  where
    by : (x : List ℕ) → (x ≡ image) ⊎ Q x → x ≢ image → Q x
    by x (inl e) ne = absurd (ne e)
    by x (inr q) ne = q

pub start_room : (v : View) (next : ℕ) → AreFewer (IsNamed v) (2 ^ 32) → HasRoom (started v next)
start_room v next few = fewer_pass (IsImage (started v next)) (IsNamed v) (2 ^ 32) within few
  where
    within : (x : List ℕ) → IsImage (started v next) x → IsNamed v x
    within x (inl named) = named
    within x (inr (inl unsure)) = absurd (no_some _ (get-empty kind_cmp (Manifest unsure.0 x)) unsure.1)
    within x (inr (inr begun)) = absurd (not_both _ _ (get-empty nat_cmp begun.0) begun.4)

module _ (s : State) where
  -- a put of a key of the depot's images
  module _ (k : KeyKind) (x : Held) (own : (image : List ℕ) → Names k image → IsImage s image) where
    named_put : (image : List ℕ) → IsNamed (fin.insert s.known.view k x) image → IsImage s image
    named_put image named = elim (split s.known.view k x named.0 named.1) [
      | inl e ↦ own image (subst (λ q. Names q image) e named.2)
      | inr old ↦ inl (named.0, old, named.2)
    ]

    unsure_put : (image : List ℕ) → (r : ℕ) × IsSome (fin.get (fin.insert s.known.doubts k x) (Manifest r image)) → IsImage s image
    unsure_put image unsure = elim (cases_key (Manifest unsure.0 image) k) [
      | inl e ↦ own image (subst (λ q. Names q image) e refl)
      | inr ne ↦ inr (inl (unsure.0, subst IsSome (at_other s.known.doubts k x (Manifest unsure.0 image) ne) unsure.1))
    ]

  pub insert_room : HasRoom s → (k : KeyKind) (x : Held) → ((image : List ℕ) → Names k image → IsImage s image) → AreFewer (IsNamed (fin.insert s.known.view k x)) (2 ^ 32)
  insert_room room k x own = fewer_pass (IsNamed (fin.insert s.known.view k x)) (IsImage s) (2 ^ 32) (named_put k x own) room

  unsure_less : (k : KeyKind) (image : List ℕ) → (r : ℕ) × IsSome (fin.get (fin.remove s.known.doubts k) (Manifest r image)) → IsImage s image
  unsure_less k image unsure = inr (inl (unsure.0, was_there s.known.doubts k (Manifest unsure.0 image) unsure.1))

  -- no image is new
  room_within : (t : State) → ((image : List ℕ) → IsNamed t.known.view image → IsImage s image) → ((image : List ℕ) → IsUnsure t image → IsImage s image) → ((n : ℕ) (j : Session) → fin.get t.desk.sessions n ≡ Some j → fin.get s.desk.sessions n ≡ Some j) → HasRoom s → HasRoom t
  room_within t named unsure sub = fewer_pass (IsImage t) (IsImage s) (2 ^ 32) within
    where
      within : (image : List ℕ) → IsImage t image → IsImage s image
      within image (inl i) = named image i
      within image (inr (inl i)) = unsure image i
      within image (inr (inr b)) = inr (inr (b.0, b.1, b.2, b.3, sub b.0 _ b.4))

  -- a put of such a key, known or in doubt
  put_room : (k : KeyKind) (x : Held) → ((image : List ℕ) → Names k image → IsImage s image) → (t a b : State)
      → a.known ≡ accepted s.known k x → ((n : ℕ) (j : Session) → fin.get a.desk.sessions n ≡ Some j → fin.get s.desk.sessions n ≡ Some j)
      → b.known ≡ doubting s.known k x → b.desk.sessions ≡ s.desk.sessions
      → (t ≡ a) ⊎ (t ≡ b) → HasRoom s → HasRoom t
  put_room k x own t a b known sub unknown same (inl e) room =
      subst HasRoom (sym e) (room_within a
      (λ i named. named_put k x own i (subst (λ k. IsNamed k.view i) known named))
      (λ i unsure. unsure_less k i (subst (λ k. (r : ℕ) × IsSome (fin.get k.doubts (Manifest r i))) known unsure))
      sub room)
  put_room k x own t a b known sub unknown same (inr e) room =
      subst HasRoom (sym e) (room_within b
      (λ i named. inl (subst (λ k. IsNamed k.view i) unknown named))
      (λ i unsure. unsure_put k x own i (subst (λ k. (r : ℕ) × IsSome (fin.get k.doubts (Manifest r i))) unknown unsure))
      (λ n j f. subst (λ m. fin.get m n ≡ Some j) same f) room)

  -- an image that has a manifest
  pub listed_names : (r : ℕ) (image : List ℕ) → Has s.known.view (Manifest r image) → (i : List ℕ) → Names (Withdrawn image) i → IsImage s i
  listed_names r image has i e = inl (Manifest r image, has, e)

  -- the image of a creation
  pub creation_names : (n c : ℕ) (image : List ℕ) (r d : ℕ) → Holds s n c (Creates image r d) → (i : List ℕ) → Names (Manifest r image) i → IsImage s i
  creation_names n c image r d holds i e = inr (inr (n, c, r, d, subst (λ i. Holds s n c (Creates i r d)) e holds))

  -- a creation begins
  begun_room : (c : ℕ) (image : List ℕ) (r next : ℕ) → AreFewer (IsImage s) 1024 → HasRoom (began s c (Creates image r s.desk.next_number) next)
  begun_room c image r next few = one_more (IsImage (began s c (Creates image r s.desk.next_number) next)) (IsImage s) image within few
    where
      created : (i : List ℕ) (q d : ℕ) → Creates image r s.desk.next_number ≡ Creates i q d → i ≡ image
      created i q d e = cc

      within : (i : List ℕ) → IsImage (began s c (Creates image r s.desk.next_number) next) i → (i ≡ image) ⊎ IsImage s i
      within i (inl named) = inr (inl named)
      within i (inr (inl unsure)) = inr (inr (inl unsure))
      within i (inr (inr b)) = elim (which s c (Creates image r s.desk.next_number) b.0 _ b.4) [
        | inl new ↦ inl (created i b.2 b.3 (job_is s c (Creates image r s.desk.next_number) b.1 (Creates i b.2 b.3) new.1))
        | inr old ↦ inr (inr (inr (b.0, b.1, b.2, b.3, old)))
      ]

  -- a move begins
  moved_room : (c : ℕ) (image : List ℕ) (from to : ℕ) (m : ManifestFields) (next : ℕ) → HasRoom s → HasRoom (began s c (Moves image from to m) next)
  moved_room c image from to m next = fewer_pass (IsImage (began s c (Moves image from to m) next)) (IsImage s) (2 ^ 32) within
    where
      other : (i : List ℕ) (q d : ℕ) → Moves image from to m ≡ Creates i q d → ⊥
      other i q d e = cc

      within : (i : List ℕ) → IsImage (began s c (Moves image from to m) next) i → IsImage s i
      within i (inl named) = inl named
      within i (inr (inl unsure)) = inr (inl unsure)
      within i (inr (inr b)) = elim (which s c (Moves image from to m) b.0 _ b.4) [
        | inl new ↦ absurd (other i b.2 b.3 (job_is s c (Moves image from to m) b.1 (Creates i b.2 b.3) new.1))
        | inr old ↦ inr (inr (b.0, b.1, b.2, b.3, old))
      ]

-- what is in doubt names the depot's images
pub doubt_names : (s : State) → IsSafe s → (k : KeyKind) (x : Held) → fin.get s.known.doubts k ≡ Some x → (image : List ℕ) → Names k image → IsImage s image
doubt_names s h (Manifest r own) x here image e = inr (inl (r, subst (λ i. IsSome (fin.get s.known.doubts (Manifest r i))) e (is_some _ x here)))
doubt_names s h (Withdrawn own) x here image e = let w : (q : ℕ) × Has s.known.view (Manifest q own) = h.withdrawing own (is_some _ x here) in listed_names s w.0 own w.1 image e
doubt_names s h (Root r) x here image e = absurd e
doubt_names s h (Expired r) x here image e = absurd e
doubt_names s h (Deleted r) x here image e = absurd e
doubt_names s h (Chunk r n) x here image e = absurd e

-- no session is new where a settled doubt was there
found_sessions : (s : State) (k : KeyKind) (x : Held) (n : ℕ) (j : Session) → fin.get (settled_there s k x).desk.sessions n ≡ Some j → fin.get s.desk.sessions n ≡ Some j
found_sessions s (Manifest r i) (manifest m) n j e = ended_fewer s.desk.sessions (fin.get s.desk.makers (Manifest r i)) n j e
found_sessions s (Manifest r i) (salt b) n j e = e
found_sessions s (Manifest r i) bare n j e = e
found_sessions s (Root r) x n j e = e
found_sessions s (Expired r) x n j e = e
found_sessions s (Deleted r) x n j e = e
found_sessions s (Chunk r i) x n j e = e
found_sessions s (Withdrawn i) x n j e = e

module _ (s : State) (h : IsSafe s) where
  -- the image of a move
  pub move_names : (n c : ℕ) (image : List ℕ) (from to : ℕ) (m : ManifestFields) → Holds s n c (Moves image from to m) → (i : List ℕ) → Names (Manifest to image) i → IsImage s i
  move_names n c image from to m holds i e = let w : Works s.known.view (Moves image from to m) = (view_good s h).works n _ holds in listed_names s from image (is_some _ (manifest m) w.2) i e

  pub step_room : (t : State) → Steps s t → HasRoom s → HasRoom t
  step_room t (steps.Rotates n bytes may e) room = put_room s (Root (n + 1)) (salt bytes) (λ i f. absurd f) t _ _ refl (λ k j f. f) refl refl e room
  step_room t (steps.PutsChunk n c j name may e) room = put_room s (Chunk (target j) name) bare (λ i f. absurd f) t _ _ refl (λ k j f. f) refl refl e room
  step_room t (steps.Makes n c image r d m may e) room = put_room s (Manifest r image) (manifest m) (creation_names s n c image r d may.session) t _ _ refl (λ k j f. (fewer s.desk.sessions n k j f).1) refl refl e room
  step_room t (steps.FinishesMove n c image from to m may e) room = put_room s (Manifest to image) (manifest m) (move_names n c image from to m may.session) t _ _ refl (λ k j f. (fewer s.desk.sessions n k j f).1) refl refl e room
  step_room t (steps.Withdraws image may e) room = put_room s (Withdrawn image) bare (listed_names s may.listed.0 image may.listed.2) t _ _ refl (λ k j f. f) refl refl e room
  step_room t (steps.Expires r may e) room = put_room s (Expired r) bare (λ i f. absurd f) t _ _ refl (λ k j f. f) refl refl e room
  step_room t (steps.Deletes r may e) room = put_room s (Deleted r) bare (λ i f. absurd f) t _ _ refl (λ k j f. f) refl refl e room
  step_room t (steps.Sweeps r k x may (inl e)) room = subst HasRoom (sym e) (room_within s (knows s (removed s.known k)) (λ i named. inl (named.0, was_there s.known.view k named.0 named.1, named.2)) (unsure_less s k) (λ n j f. f) room)
  step_room t (steps.Sweeps r k x may (inr e)) room = subst HasRoom (sym e) (room_within s (knows s (doubting s.known k x)) (λ i named. inl named) (unsure_put s k x (λ i f. inl (k, is_some _ x may.here, f))) (λ n j f. f) room)
  step_room t (steps.Settles k x may (inl e)) room = put_room s k x (doubt_names s h k x may.here) t (settled_there s k x) (knows s (doubting s.known k x)) (found_known s k x) (found_sessions s k x) refl refl (inl e) room
  step_room t (steps.Settles k x may (inr e)) room = subst HasRoom (sym e) (room_within s (knows s (dismissed s.known k)) (λ i named. inl named) (unsure_less s k) (λ n j f. f) room)
  step_room t (steps.Opens image r m may e) room = subst HasRoom (sym e) room
  step_room t (steps.BeginsCreate c image r may e) room = subst HasRoom (sym e) (begun_room s c image r (s.desk.next_number + 1) may.few)
  step_room t (steps.BeginsMove c image from to m may e) room = subst HasRoom (sym e) (moved_room s c image from to m s.desk.next_number room)
  step_room t (steps.Ends d less e) room = subst HasRoom (sym e) (room_within s (record { known = s.known; desk = d }) (λ i named. inl named) (λ i unsure. inr (inl unsure)) less.sessions room)

-- The calls that begin and end leases and sessions keep the depot safe.
use Rattle.std.proofs.Common.{◌≡◌, ◌≢◌, ◌≤◌, ◌<◌, ◌+◌, ℕ, List, Option, Some, None, IsSome, IsTrue, refl, sym, ap, subst, ◌∙◌, inl, inr, arith}
use mathlib.Core.Logic.{◌⊎◌}
use Rattle.std.specs.FinMap as fin
use Rattle.lr_manifest.specs.Manifest.{ManifestFields}
use Rattle.lr_text.specs.Name.{is_name}
use Rattle.lr_origin.specs.declared.key.KeyKind.TheVariants.{Manifest}
use Rattle.lr_roots.specs.View.{View, manifest, Has, Lacks}
use Rattle.lr_rules.specs.Known.{Settles}
use Rattle.lr_rules.specs.State.{Job, Creates, Moves, Session, Desk, State, Holds, Less}
use Rattle.lr_rules.specs.Names.{IsImage}
use Rattle.lr_rules.specs.Safe.{Works, IsLeased, IsSafe}
use Rattle.lr_rules.specs.Calls.{MayOpen, MayBegin, MayCopy, opened, began}
use Rattle.lr_rules.proofs.Keys.{no_some, cases_n, at_n, other_n}
use Rattle.lr_rules.proofs.Outcomes.{is_none, is_some}
use Rattle.lr_rules.proofs.Sound.{lacks_if}
use Rattle.lr_rules.proofs.Good.{less_good}
use Rattle.lr_rules.proofs.Facts.{manifest_certain, active_serves, home_serves, homed_always}
use Rattle.lr_rules.proofs.Doubts.{same_some}
use Rattle.lr_rules.proofs.Calls.{all_sound}

-- the sessions with one that begins
module _ (s : State) (c : ℕ) (j : Job) where
  abbrev pub new : Session
  new = record { caller = c; job = j }

  pub which : (n : ℕ) (i : Session) → fin.get (fin.insert s.desk.sessions s.desk.next_session new) n ≡ Some i → ((n ≡ s.desk.next_session) × (new ≡ i)) ⊎ (fin.get s.desk.sessions n ≡ Some i)
  which n i e = by (cases_n n s.desk.next_session)
    where
      by : (n ≡ s.desk.next_session) ⊎ (n ≢ s.desk.next_session) → ((n ≡ s.desk.next_session) × (new ≡ i)) ⊎ (fin.get s.desk.sessions n ≡ Some i)
      by (inl f) = inl (f, same_some new i (sym (at_n s.desk.sessions s.desk.next_session new) ∙ ap (fin.get (fin.insert s.desk.sessions s.desk.next_session new)) (sym f) ∙ e))
      by (inr ne) = inr (sym (other_n s.desk.sessions s.desk.next_session new n ne) ∙ e)

  pub job_is : (b : ℕ) (i : Job) → ◌≡◌ {A = Session} new (record { caller = b; job = i }) → j ≡ i
  job_is b i e = ap (λ x. x.job) e

module _ (s : State) (h : IsSafe s) where
  -- leases or sessions end
  pub less_safe : (e : Desk) → Less s.desk e → IsSafe (record { known = s.known; desk = e })
  less_safe e l = record {
    good = λ v t. less_good s.desk e v l (h.good v t);
    agrees = h.agrees;
    doubted = h.doubted;
    withdrawing = h.withdrawing;
    named = λ n c i r d j. h.named n c i r d (l.sessions n _ j);
    fresh = λ n c i r d j. h.fresh n c i r d (l.sessions n _ j);
    alone = λ n m b c i q r d a x y. h.alone n m b c i q r d a (l.sessions n _ x) (l.sessions m _ y);
    lease_numbers = λ n some. subst (λ a. (1 ≤ n) × (n < a)) (sym l.next_lease) (h.lease_numbers n (lease n (fin.get e.leases n) refl some));
    few = subst (λ a. a ≤ 9223372036854775808) (sym l.next_number) h.few;
    first_lease = subst (λ a. 1 ≤ a) (sym l.next_lease) h.first_lease;
    first_session = subst (λ a. 1 ≤ a) (sym l.next_session) h.first_session;
    first_number = subst (λ a. 1 ≤ a) (sym l.next_number) h.first_number;
    session_numbers = λ n some. subst (λ a. (1 ≤ n) × (n < a)) (sym l.next_session) (h.session_numbers n (session n (fin.get e.sessions n) refl some));
    drawn = λ n c i r d j. subst (λ a. (1 ≤ d) × (d < a)) (sym l.next_number) (h.drawn n c i r d (l.sessions n _ j));
    made = λ n c i r d j some. ap (λ m. fin.get m (Manifest r i)) l.makers ∙ h.made n c i r d (l.sessions n _ j) some;
  }
    where
      lease : (n : ℕ) (o : Option (List ℕ × ManifestFields)) → fin.get e.leases n ≡ o → IsSome o → IsSome (fin.get s.desk.leases n)
      lease n None f has = absurd cc
      lease n (Some x) f has = is_some _ x (l.leases n x f)

      session : (n : ℕ) (o : Option Session) → fin.get e.sessions n ≡ o → IsSome o → IsSome (fin.get s.desk.sessions n)
      session n None f has = absurd cc
      session n (Some x) f has = is_some _ x (l.sessions n x f)

  -- a lease begins
  pub open_safe : (image : List ℕ) (r : ℕ) (m : ManifestFields) → MayOpen s image r m → IsSafe (opened s image m)
  open_safe image r m may = record {
    good = λ v t. record {
      sound = (h.good v t).sound;
      leased = λ n i p e. leased v t n i p e (cases_n n s.desk.next_lease);
      works = (h.good v t).works;
      numbered = (h.good v t).numbered;
    };
    agrees = h.agrees;
    doubted = h.doubted;
    withdrawing = h.withdrawing;
    named = h.named;
    fresh = h.fresh;
    alone = h.alone;
    lease_numbers = λ n some. numbers n some (cases_n n s.desk.next_lease);
    session_numbers = h.session_numbers;
    few = h.few;
    drawn = h.drawn;
    made = h.made;
    first_lease = omega arith;
    first_session = h.first_session;
    first_number = h.first_number;
  }
    where
      own : (v : View) → Settles s.known v → IsLeased v image m
      own v t = (
        homed_always s.known h.agrees (all_sound s h) image r may.home.listed may.home.live.1 may.kept v t,
        λ q y e. (h.good v t).sound.one_manifest image q r y (manifest m) e (t.known (Manifest r image) (manifest_certain s.known h.agrees r image may.home.listed may.home.live.1) ∙ may.listed),
      )

      leased : (v : View) → Settles s.known v → (n : ℕ) (i : List ℕ) (p : ManifestFields) → fin.get (fin.insert s.desk.leases s.desk.next_lease (image, m)) n ≡ Some (i, p) → (n ≡ s.desk.next_lease) ⊎ (n ≢ s.desk.next_lease) → IsLeased v i p
      leased v t n i p e (inr ne) = (h.good v t).leased n i p (sym (other_n s.desk.leases s.desk.next_lease (image, m) n ne) ∙ e)
      leased v t n i p e (inl f) =
          let g : (image, m) ≡ (i, p) = same_some (image, m) (i, p) (sym (at_n s.desk.leases s.desk.next_lease (image, m)) ∙ ap (fin.get (fin.insert s.desk.leases s.desk.next_lease (image, m))) (sym f) ∙ e) in
          subst (λ l. IsLeased v l.0 l.1) g (own v t)

      numbers : (n : ℕ) → IsSome (fin.get (fin.insert s.desk.leases s.desk.next_lease (image, m)) n) → (n ≡ s.desk.next_lease) ⊎ (n ≢ s.desk.next_lease) → (1 ≤ n) × (n < s.desk.next_lease + 1)
      numbers n some (inl f) = (omega (arith, f, h.first_lease), omega (arith, f))
      numbers n some (inr ne) = let b : (1 ≤ n) × (n < s.desk.next_lease) = h.lease_numbers n (subst IsSome (other_n s.desk.leases s.desk.next_lease (image, m) n ne) some) in (b.0, omega (arith, b.1))

  -- A session begins. One that creates has an image of its own.
  module _ (c : ℕ) (j : Job) (next : ℕ) (more : s.desk.next_number ≤ next) (few : next ≤ 9223372036854775808)
      (works : (v : View) → Settles s.known v → Works v j)
      (creates : (image : List ℕ) (r d : ℕ) → j ≡ Creates image r d → ¬ (IsImage s image) × IsTrue (is_name image) × ((1 ≤ d) × (d < next))) where
    below_next : (n : ℕ) (o : Option Session) → fin.get (fin.insert s.desk.sessions s.desk.next_session (new s c j)) n ≡ o → IsSome o → (1 ≤ n) × (n < s.desk.next_session + 1)
    below_next n None f has = absurd cc
    below_next n (Some i) f has = elim (which s c j n i f) [
      | inl p ↦ (omega (arith, p.0, h.first_session), omega (arith, p.0))
      | inr o ↦ let b : (1 ≤ n) × (n < s.desk.next_session) = h.session_numbers n (is_some _ i o) in (b.0, omega (arith, b.1))
    ]

    pub begin_safe : IsSafe (began s c j next)
    begin_safe = record {
      good = λ v t. record {
        sound = (h.good v t).sound;
        leased = (h.good v t).leased;
        works = λ n i e. elim (which s c j n i e) [ inl p ↦ subst (λ i. Works v i.job) p.1 (works v t) | inr o ↦ (h.good v t).works n i o ];
        numbered = λ r i m e. omega (arith, (h.good v t).numbered r i m e, more);
      };
      agrees = h.agrees;
      doubted = h.doubted;
      withdrawing = h.withdrawing;
      named = λ n b i r d e. elim (which s c j n _ e) [ inl p ↦ (creates i r d (job_is s c j b (Creates i r d) p.1)).1 | inr o ↦ h.named n b i r d o ];
      fresh = λ n b i r d e. elim (which s c j n _ e) [
        | inl p ↦ lacks_if s.known.view (Manifest r i) (λ has. (creates i r d (job_is s c j b (Creates i r d) p.1)).0 (inl (Manifest r i, has, refl)))
        | inr o ↦ h.fresh n b i r d o
      ];
      alone = λ n k b a i q r d e x y. alone n k b a i q r d e (which s c j n _ x) (which s c j k _ y);
      lease_numbers = h.lease_numbers;
      session_numbers = λ n some. below_next n (fin.get (fin.insert s.desk.sessions s.desk.next_session (new s c j)) n) refl some;
      few = few;
      drawn = λ n b i r d e. elim (which s c j n _ e) [
        | inl p ↦ (creates i r d (job_is s c j b (Creates i r d) p.1)).2
        | inr o ↦ let f : (1 ≤ d) × (d < s.desk.next_number) = h.drawn n b i r d o in (f.0, omega (arith, f.1, more))
      ];
      made = λ n b i r d e some. elim (which s c j n _ e) [
        | inl p ↦ absurd ((creates i r d (job_is s c j b (Creates i r d) p.1)).0 (inr (inl (r, some))))
        | inr o ↦ h.made n b i r d o some
      ];
      first_lease = h.first_lease;
      first_session = omega arith;
      first_number = omega (arith, h.first_number, more);
    }
      where
        alone : (n k b a : ℕ) (i : List ℕ) (q r d e : ℕ) → ((n ≡ s.desk.next_session) × (◌≡◌ {A = Session} (new s c j) (record { caller = b; job = Creates i q d }))) ⊎ Holds s n b (Creates i q d) → ((k ≡ s.desk.next_session) × (◌≡◌ {A = Session} (new s c j) (record { caller = a; job = Creates i r e }))) ⊎ Holds s k a (Creates i r e) → n ≡ k
        alone n k b a i q r d e (inl x) (inl y) = x.0 ∙ sym y.0
        alone n k b a i q r d e (inl x) (inr y) = absurd ((creates i q d (job_is s c j b (Creates i q d) x.1)).0 (inr (inr (k, a, r, e, y))))
        alone n k b a i q r d e (inr x) (inl y) = absurd ((creates i r e (job_is s c j a (Creates i r e) y.1)).0 (inr (inr (n, b, q, d, x))))
        alone n k b a i q r d e (inr x) (inr y) = h.alone n k b a i q r d e x y

  -- a creation begins
  pub begin_create_safe : (c : ℕ) (image : List ℕ) (r : ℕ) → MayBegin s image r → IsSafe (began s c (Creates image r s.desk.next_number) (s.desk.next_number + 1))
  begin_create_safe c image r may = begin_safe c (Creates image r s.desk.next_number) (s.desk.next_number + 1) (omega arith) (omega (arith, may.left))
      (λ v t. (active_serves s.known h.agrees (all_sound s h) r may.some may.roots v t, λ q has. absurd (none v t q has)))
      (λ i q d e. own i q d e)
    where
      view_lacks : (q : ℕ) → Lacks s.known.view (Manifest q image)
      view_lacks q = lacks_if s.known.view (Manifest q image) (λ has. may.new (inl (Manifest q image, has, refl)))

      sure : (q : ℕ) → fin.get s.known.doubts (Manifest q image) ≡ None
      sure q = is_none (fin.get s.known.doubts (Manifest q image)) (λ some. may.new (inr (inl (q, some))))

      none : (v : View) → Settles s.known v → (q : ℕ) → Has v (Manifest q image) → ⊥
      none v t q has = no_some _ (t.known (Manifest q image) (sure q) ∙ view_lacks q) has

      own : (i : List ℕ) (q d : ℕ) → Creates image r s.desk.next_number ≡ Creates i q d → ¬ (IsImage s i) × IsTrue (is_name i) × ((1 ≤ d) × (d < s.desk.next_number + 1))
      own i q d e =
          let f : image ≡ i = cc in let k : s.desk.next_number ≡ d = cc in
          (subst (λ i. ¬ (IsImage s i)) f may.new, subst (λ i. IsTrue (is_name i)) f may.named, (omega (arith, h.first_number, k), omega (arith, k)))

  -- a move begins
  pub begin_move_safe : (c : ℕ) (image : List ℕ) (from to : ℕ) (m : ManifestFields) → MayCopy s image from to m → IsSafe (began s c (Moves image from to m) s.desk.next_number)
  begin_move_safe c image from to m may = begin_safe c (Moves image from to m) s.desk.next_number (omega arith) h.few
      (λ v t. (home_serves s.known h.agrees (all_sound s h) image from may.home may.kept v t, active_serves s.known h.agrees (all_sound s h) to (omega (arith, may.retired)) may.roots v t, t.known (Manifest from image) (manifest_certain s.known h.agrees from image may.home.listed may.home.live.1) ∙ may.listed, may.retired))
      (λ i q d e. absurd (cc))

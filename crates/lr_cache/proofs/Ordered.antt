-- A cache is orderly after every log.
use Rattle.std.proofs.Common.{◌≡◌, ◌≤◌, ℕ, ◌+◌, List, [], ◌∷◌, ◌++◌, length, take, Bool, true, false, nat_eq, Option, Some, None, find, fold, sym, ap, subst, ◌∙◌, arith, length-take, eqb-true}
use Rattle.std.specs.Prelude.{IsNone, IsSome, count_by}
use Rattle.std.specs.Arc.{arc_value}
use Rattle.std.specs.Str.{bytes_eq}
use Rattle.std.proofs.lemmas.Slice.Eq.{bytes_eq-Decides}
use Rattle.std.proofs.lemmas.List.Sums.{fold-append}
use Rattle.sha2.specs.Sha256.{sha256}
use Rattle.lr_manifest.specs.declared.name.Name.{Name}
use Rattle.lr_manifest.specs.Chunk.{is_named}
use Rattle.lr_object.specs.Finds.{without_first}
use Rattle.lr_object.specs.Grown.{Grown, same, more}
use Rattle.lr_object.proofs.Counted.{one_if, hits, hits-count, hits-append, hits-take, hits_none, hits-without_first, hits_all, none_is, some_is}
use Rattle.lr_cache.specs.declared.call.Claim.{Claim}
use Rattle.lr_cache.specs.Claims.{is_of, is_on}
use Rattle.lr_cache.specs.declared.call.CacheCall.{CacheCall}
use Rattle.lr_cache.specs.declared.call.CacheCall.TheVariants.{Look, Fill, GiveUp, Evict, Reap}
use Rattle.lr_cache.specs.declared.call.CacheReply.{CacheReply}
use Rattle.lr_cache.specs.declared.call.CacheReply.TheVariants.{Hit, Lead, Filled, Given, Evicted, Reaped}
use Rattle.lr_cache.specs.Machine.{State, claim_of, claim_gone, state_after, CacheStep, SameReply, LogEntry, empty, after_entry, run}
use Rattle.lr_cache.specs.Orderly.{Answers, MayEnter, IsOrderly, CachesAreOrderly}

abbrev chunk_on : List ℕ → List ℕ → Bool
chunk_on x chunk = bytes_eq (sha256 chunk) x

abbrev claim_on : List ℕ → Claim → Bool
claim_on x claim = bytes_eq claim.name.bytes x

-- the same, counted by recursion
record IsTidy (capacity : ℕ) (st : State) : Type 0 where
  one : (caller : ℕ) → hits (is_of caller) st.claims ≤ 1
  once : (x : List ℕ) → hits (chunk_on x) st.chunks + hits (claim_on x) st.claims ≤ 1
  few : length st.chunks ≤ capacity

module _ (capacity : ℕ) (st : State) (caller : ℕ) (t : IsTidy capacity st) where
  hit : (name : Name) (chunk : List ℕ) → find (is_named name) st.chunks ≡ Some chunk → IsTidy capacity (record { chunks = chunk ∷ without_first (is_named name) st.chunks; claims = st.claims })
  hit name chunk f = record {
    one = t.one;
    once = λ x. omega (arith, hits-without_first (is_named name) (chunk_on x) st.chunks chunk f, t.once x);
    few = omega (arith, hits-without_first (is_named name) (λ (c : List ℕ). true) st.chunks chunk f, hits_all (without_first (is_named name) st.chunks), hits_all st.chunks, t.few);
  }

  -- a claim more, of a caller that has none, on a name that has neither chunk nor claim
  lead : (name : Name) → IsNone (claim_of caller st) → IsNone (find (is_named name) st.chunks) → IsNone (find (is_on name) st.claims)
      → IsTidy capacity (record { chunks = st.chunks; claims = st.claims ++ record { name = name; caller = caller } ∷ [] })
  lead name free no_chunk no_claim = record {
    one = λ c. caller_once c (nat_eq caller c) refl_of;
    once = λ x. name_once x (bytes_eq name.bytes x) refl_of;
    few = t.few;
  }
    where
      new : Claim
      new = record { name = name; caller = caller }

      refl_of : {A : Type 0} {a : A} → a ≡ a
      refl_of {a = a} = λ i. a

      caller_once : (c : ℕ) (b : Bool) → nat_eq caller c ≡ b → hits (is_of c) (st.claims ++ record { name = name; caller = caller } ∷ []) ≤ 1
      caller_once c true e =
          let is : caller ≡ c = eqb-true caller c e in
          let none : hits (is_of c) st.claims ≡ 0 = subst (λ (k : ℕ). hits (is_of k) st.claims ≡ 0) is (hits_none (is_of caller) st.claims (none_is (claim_of caller st) free)) in
          let last : one_if (nat_eq caller c) ≡ 1 = ap one_if e in
          omega (arith, hits-append (is_of c) st.claims (record { name = name; caller = caller } ∷ []))
      caller_once c false e =
          let last : one_if (nat_eq caller c) ≡ 0 = ap one_if e in
          omega (arith, hits-append (is_of c) st.claims (record { name = name; caller = caller } ∷ []), t.one c)

      name_once : (x : List ℕ) (b : Bool) → bytes_eq name.bytes x ≡ b → hits (chunk_on x) st.chunks + hits (claim_on x) (st.claims ++ record { name = name; caller = caller } ∷ []) ≤ 1
      name_once x true e =
          let is : name.bytes ≡ x = (bytes_eq-Decides name.bytes x).0 e in
          let chunks : hits (chunk_on x) st.chunks ≡ 0 = subst (λ (y : List ℕ). hits (chunk_on y) st.chunks ≡ 0) is (hits_none (is_named name) st.chunks (none_is (find (is_named name) st.chunks) no_chunk)) in
          let claims : hits (claim_on x) st.claims ≡ 0 = subst (λ (y : List ℕ). hits (claim_on y) st.claims ≡ 0) is (hits_none (is_on name) st.claims (none_is (find (is_on name) st.claims) no_claim)) in
          let last : one_if (bytes_eq name.bytes x) ≡ 1 = ap one_if e in
          omega (arith, hits-append (claim_on x) st.claims (record { name = name; caller = caller } ∷ []))
      name_once x false e =
          let last : one_if (bytes_eq name.bytes x) ≡ 0 = ap one_if e in
          omega (arith, hits-append (claim_on x) st.claims (record { name = name; caller = caller } ∷ []), t.once x)

  -- the caller's claim ended
  gone : IsSome (claim_of caller st) → IsTidy capacity (claim_gone caller st)
  gone is =
      let f = some_is (claim_of caller st) is in
      record {
        one = λ c. omega (arith, hits-without_first (is_of caller) (is_of c) st.claims f.0 f.1, t.one c);
        once = λ x. omega (arith, hits-without_first (is_of caller) (claim_on x) st.claims f.0 f.1, t.once x);
        few = t.few;
      }

  -- its chunk put in
  filled : (claim : Claim) (chunk : List ℕ) → claim_of caller st ≡ Some claim → is_named claim.name chunk ≡ true
      → IsTidy capacity (record { chunks = take capacity (chunk ∷ st.chunks); claims = without_first (is_of caller) st.claims })
  filled claim chunk f n =
      let same_name : sha256 chunk ≡ claim.name.bytes = (bytes_eq-Decides (sha256 chunk) claim.name.bytes).0 n in
      record {
        one = λ c. omega (arith, hits-without_first (is_of caller) (is_of c) st.claims claim f, t.one c);
        once = λ x.
            let on : one_if (bytes_eq (sha256 chunk) x) ≡ one_if (bytes_eq claim.name.bytes x) = ap (λ (y : List ℕ). one_if (bytes_eq y x)) same_name in
            omega (arith, hits-take (chunk_on x) capacity (chunk ∷ st.chunks), hits-without_first (is_of caller) (claim_on x) st.claims claim f, t.once x);
        few = omega (arith, length-take capacity (chunk ∷ st.chunks));
      }

  evicted : IsTidy capacity (record { chunks = []; claims = st.claims })
  evicted = record { one = t.one; once = λ x. omega (arith, t.once x); few = omega arith }

  tidy_after : (call : CacheCall) (reply : CacheReply) → CacheStep st caller call reply → IsTidy capacity (state_after capacity st caller call reply)
  tidy_after (Look name) (Hit chunk) s = hit name (arc_value chunk) s.1
  tidy_after (Look name) Lead s = lead name s.0 s.1 s.2
  tidy_after (Look name) reply s = t
  tidy_after (Fill chunk) Filled s = filled s.0 (arc_value chunk) s.1 s.2
  tidy_after (Fill chunk) reply s = t
  tidy_after GiveUp Given s = gone s
  tidy_after GiveUp reply s = t
  tidy_after Evict (Evicted n) s = evicted
  tidy_after Evict reply s = t
  tidy_after Reap Reaped s = gone s
  tidy_after Reap reply s = t

-- a hit with the same bytes is given as well
hit_told : (st : State) (caller : ℕ) (call : CacheCall) (told : CacheReply) (chunk : _) → SameReply told (Hit chunk) → CacheStep st caller call (Hit chunk) → CacheStep st caller call told
hit_told st caller (Look name) (Hit a) chunk e s = (s.0, s.1 ∙ ap Some (sym e))
hit_told st caller (Look name) reply chunk e s = absurd (cc)
hit_told st caller (Fill c) reply chunk e s = absurd s
hit_told st caller GiveUp reply chunk e s = absurd s
hit_told st caller Evict reply chunk e s = absurd s
hit_told st caller Reap reply chunk e s = absurd s

-- what the log keeps of a reply, the machine gives as well
pub told_step : (st : State) (caller : ℕ) (call : CacheCall) (told reply : CacheReply) → SameReply told reply → CacheStep st caller call reply → CacheStep st caller call told
told_step st caller call (Hit a) (Hit b) e s = hit_told st caller call (Hit a) b e s
told_step st caller call (Hit a) reply e s = absurd e
told_step st caller call told reply e s = subst (λ (r : CacheReply). CacheStep st caller call r) (sym e) s

from_start : {capacity : ℕ} {start log : List LogEntry} → Grown Answers MayEnter capacity start log → IsTidy capacity (run capacity start) → IsTidy capacity (run capacity log)
from_start same h = h
from_start {capacity} (more {log = log} g call reply e answered entered) h =
    let old : IsTidy capacity (run capacity log) = from_start g h in
    let step : CacheStep (run capacity log) e.caller e.call e.reply =
    told_step (run capacity log) e.caller e.call e.reply reply entered.told (subst (λ (c : CacheCall). CacheStep (run capacity log) e.caller c reply) (sym entered.noted) answered) in
    subst (IsTidy capacity) (sym (fold-append (after_entry capacity) empty log (e ∷ []))) (tidy_after capacity (run capacity log) e.caller old e.call e.reply step)

pub caches_are_orderly : CachesAreOrderly
caches_are_orderly capacity log g =
    let t = from_start g (record { one = λ c. omega arith; once = λ x. omega arith; few = omega arith }) in
    let st : State = run capacity log in
    record {
      callers = λ c. omega (arith, hits-count (is_of c) st.claims, t.one c);
      names = λ x. omega (arith, hits-count (chunk_on x) st.chunks, hits-count (claim_on x) st.claims, t.once x);
      within = t.few;
    }

-- A caller's claim rests on its own entries.
use Rattle.std.proofs.Common.{◌≡◌, ◌≤◌, ℕ, List, [], ◌∷◌, ◌++◌, Bool, true, false, cond, nat_eq, fold, Option, Some, None, find, option_map, refl, sym, ap, subst, ◌∙◌, arith, eqb-true, eq-eqb}
use Rattle.std.specs.Prelude.{◌==◌, IsNone, IsSome}
use Rattle.std.specs.Arc.{arc_value}
use Rattle.lr_manifest.specs.declared.name.Name.{Name}
use Rattle.lr_manifest.specs.Chunk.{is_named}
use Rattle.lr_object.specs.Finds.{without_first}
use Rattle.lr_object.specs.Own.{own_entries}
use Rattle.lr_cache.specs.declared.call.Claim.{Claim}
use Rattle.lr_cache.specs.Claims.{is_of, is_on}
use Rattle.lr_cache.specs.declared.call.CacheCall.{CacheCall}
use Rattle.lr_cache.specs.declared.call.CacheCall.TheVariants.{Look, Fill, GiveUp, Evict, Reap}
use Rattle.lr_cache.specs.declared.call.CacheReply.{CacheReply}
use Rattle.lr_cache.specs.declared.call.CacheReply.TheVariants.{Lead, Filled, Given, Evicted, Reaped}
use Rattle.lr_cache.specs.Machine.{State, claim_of, state_after, CacheStep, LogEntry, empty, after_entry, run}
use Rattle.lr_claims.specs.Logs.{IsLegal}
use Rattle.lr_claims.specs.Leads.{one_if}
use Rattle.lr_claims.specs.Own.{claim_after, claim_then, claimed, ClaimsAreOnesOwn, HeldIsOnesOwn, RefusalsAreOnesOwn, BusyIsAnothers}
use Rattle.lr_object.proofs.Counted.{hits, find_first, find_later, some_same, some_is, none_is, hits-append, hits_none, found_passes, hits-without_first}
use Rattle.lr_claims.proofs.Hits.{some_none, none_found, find_new, find_old, find_beside}

abbrev name_of : Option Claim → Option Name
name_of o = option_map (λ (c : Claim). c.name) o

-- at most one claim a caller
abbrev Single : State → Type 0
Single st = (c : ℕ) → hits (is_of c) st.claims ≤ 1

fewer : (c by : ℕ) (st : State) (claim : Claim) → claim_of by st ≡ Some claim → Single st → hits (is_of c) (without_first (is_of by) st.claims) ≤ 1
fewer c by st claim f s =
    let e = hits-without_first (is_of by) (is_of c) st.claims claim f in
    let one = s c in
    omega arith

gone : (by : ℕ) (st : State) (claim : Claim) → claim_of by st ≡ Some claim → Single st → find (is_of by) (without_first (is_of by) st.claims) ≡ None
gone by st claim f s =
    let e = hits-without_first (is_of by) (is_of by) st.claims claim f in
    let passes : is_of by claim ≡ true = found_passes (is_of by) st.claims claim f in
    let one : one_if (is_of by claim) ≡ 1 = rw passes refl in
    let all = s by in
    none_found (is_of by) (without_first (is_of by) st.claims) (omega arith)

one_more : (c by : ℕ) (st : State) (name : Name) → IsNone (claim_of by st) → Single st → hits (is_of c) (st.claims ++ record { name = name; caller = by } ∷ []) ≤ 1
one_more c by st name n s = at (nat_eq by c) refl
  where
    at : (b : Bool) → nat_eq by c ≡ b → hits (is_of c) (st.claims ++ record { name = name; caller = by } ∷ []) ≤ 1
    at true t =
        let same : by ≡ c = eqb-true by c t in
        let none : hits (is_of c) st.claims ≡ 0 = subst (λ (k : ℕ). hits (is_of k) st.claims ≡ 0) same (hits_none (is_of by) st.claims (none_is (claim_of by st) n)) in
        let all = hits-append (is_of c) st.claims (record { name = name; caller = by } ∷ []) in
        let one : one_if (nat_eq by c) ≡ 1 = rw t refl in
        omega arith
    at false t =
        let all = hits-append (is_of c) st.claims (record { name = name; caller = by } ∷ []) in
        let one : one_if (nat_eq by c) ≡ 0 = rw t refl in
        let old = s c in
        omega arith

single_gone : (by : ℕ) (st : State) → IsSome (claim_of by st) → Single st → (c : ℕ) → hits (is_of c) (without_first (is_of by) st.claims) ≤ 1
single_gone by st is s c = let f = some_is (claim_of by st) is in fewer c by st f.0 f.1 s

single_step : (capacity by : ℕ) (st : State) (call : CacheCall) (reply : CacheReply) → CacheStep st by call reply → Single st → Single (state_after capacity st by call reply)
single_step capacity by st (Look name) Lead h s = λ c. one_more c by st name h.0 s
single_step capacity by st (Look name) reply h s = s
single_step capacity by st (Fill chunk) Filled h s = λ c. fewer c by st h.0 h.1 s
single_step capacity by st (Fill chunk) reply h s = s
single_step capacity by st GiveUp Given h s = single_gone by st h s
single_step capacity by st GiveUp reply h s = s
single_step capacity by st Reap Reaped h s = single_gone by st h s
single_step capacity by st Reap reply h s = s
single_step capacity by st Evict (Evicted n) h s = s
single_step capacity by st Evict reply h s = s

-- ---- an entry of its own

own_gone : (by : ℕ) (st : State) → IsSome (claim_of by st) → Single st → name_of (find (is_of by) (without_first (is_of by) st.claims)) ≡ None
own_gone by st is s = let f = some_is (claim_of by st) is in ap name_of (gone by st f.0 f.1 s)

own_step : (capacity by : ℕ) (st : State) (call : CacheCall) (reply : CacheReply) → CacheStep st by call reply → Single st
    → name_of (claim_of by (state_after capacity st by call reply)) ≡ claim_after (name_of (claim_of by st)) call reply
own_step capacity by st (Look name) Lead h s =
    ap name_of (find_new (is_of by) st.claims (record { name = name; caller = by }) (none_is (claim_of by st) h.0) (eq-eqb by by refl))
own_step capacity by st (Look name) reply h s = refl
own_step capacity by st (Fill chunk) Filled h s = ap name_of (gone by st h.0 h.1 s)
own_step capacity by st (Fill chunk) reply h s = refl
own_step capacity by st GiveUp Given h s = own_gone by st h s
own_step capacity by st GiveUp reply h s = refl
own_step capacity by st Reap Reaped h s = own_gone by st h s
own_step capacity by st Reap reply h s = refl
own_step capacity by st Evict (Evicted n) h s = refl
own_step capacity by st Evict reply h s = refl

-- ---- an entry of another

apart_of : (by c : ℕ) → (by == c) ≡ false → (claim : Claim) → is_of by claim ≡ true → is_of c claim ≡ false
apart_of by c differs claim t =
    let same : claim.caller ≡ by = eqb-true claim.caller by t in
    ap (λ (k : ℕ). nat_eq k c) same ∙ differs

other_step : (capacity by c : ℕ) (st : State) (call : CacheCall) (reply : CacheReply) → (by == c) ≡ false
    → claim_of c (state_after capacity st by call reply) ≡ claim_of c st
other_step capacity by c st (Look name) Lead d = find_old (is_of c) st.claims (record { name = name; caller = by }) d
other_step capacity by c st (Look name) reply d = refl
other_step capacity by c st (Fill chunk) Filled d = find_beside (is_of c) (is_of by) (apart_of by c d) st.claims
other_step capacity by c st (Fill chunk) reply d = refl
other_step capacity by c st GiveUp Given d = find_beside (is_of c) (is_of by) (apart_of by c d) st.claims
other_step capacity by c st GiveUp reply d = refl
other_step capacity by c st Reap Reaped d = find_beside (is_of c) (is_of by) (apart_of by c d) st.claims
other_step capacity by c st Reap reply d = refl
other_step capacity by c st Evict (Evicted n) d = refl
other_step capacity by c st Evict reply d = refl

from_claim : (capacity c : ℕ) (log : List LogEntry) (st : State) → Single st → IsLegal capacity st log
    → name_of (claim_of c (fold (after_entry capacity) st log)) ≡ fold (claim_then c) (name_of (claim_of c st)) (own_entries c log)
from_claim capacity c [] st s h = refl
from_claim capacity c (e ∷ log) st s h =
    by (from_claim capacity c log (after_entry capacity st e) (single_step capacity e.caller st e.call e.reply h.0 s) h.2) (e.caller == c) refl
  where
    by : name_of (claim_of c (fold (after_entry capacity) (after_entry capacity st e) log)) ≡ fold (claim_then c) (name_of (claim_of c (after_entry capacity st e))) (own_entries c log)
        → (b : Bool) → (e.caller == c) ≡ b
        → name_of (claim_of c (fold (after_entry capacity) (after_entry capacity st e) log)) ≡ fold (claim_then c) (name_of (claim_of c st)) (cond b (e ∷ own_entries c log) (own_entries c log))
    by more true t =
        let same : e.caller ≡ c = eqb-true e.caller c t in
        let now : name_of (claim_of c (after_entry capacity st e)) ≡ claim_after (name_of (claim_of c st)) e.call e.reply =
        subst (λ (k : ℕ). name_of (claim_of k (after_entry capacity st e)) ≡ claim_after (name_of (claim_of k st)) e.call e.reply) same (own_step capacity e.caller st e.call e.reply h.0 s) in
        more
        ∙ ap (λ (o : Option Name). fold (claim_then c) o (own_entries c log)) now
        ∙ ap (λ (b : Bool). fold (claim_then c) (cond b (claim_after (name_of (claim_of c st)) e.call e.reply) (name_of (claim_of c st))) (own_entries c log)) (sym t)
    by more false t =
        more ∙ ap (λ (o : Option Claim). fold (claim_then c) (name_of o) (own_entries c log)) (other_step capacity e.caller c st e.call e.reply t)

pub ones_own : ClaimsAreOnesOwn
ones_own capacity caller log h = from_claim capacity caller log empty (λ c. omega arith) h

-- ---- the replies that tell of it

some_named : (o : Option Claim) → IsSome o → IsSome (name_of o)
some_named None s = absurd (cc)
some_named (Some claim) s = refl

pub held_own : HeldIsOnesOwn
held_own capacity caller log name h s = subst (λ (o : Option Name). IsSome o) (ones_own capacity caller log h) (some_named (claim_of caller (run capacity log)) s)

there : (o : Option Claim) (name : Name) → name_of o ≡ Some name → (claim : Claim) × (o ≡ Some claim) × (claim.name ≡ name)
there None name e = absurd (cc)
there (Some claim) name e = (claim, refl, cc)

its_claim : (capacity caller : ℕ) (log : List LogEntry) (name : Name) → IsLegal capacity empty log → claimed caller (own_entries caller log) ≡ Some name
    → (claim : Claim) × (claim_of caller (run capacity log) ≡ Some claim) × (claim.name ≡ name)
its_claim capacity caller log name h e = there (claim_of caller (run capacity log)) name (ones_own capacity caller log h ∙ e)

pub refused_own : RefusalsAreOnesOwn
refused_own = record {
  fills = λ capacity caller log name chunk h e n s.
      let c = its_claim capacity caller log name h e in
      let no = s c.0 c.1 in
      let yes = subst (λ (k : Name). is_named k (arc_value chunk) ≡ true) (sym c.2) n in
      absurd (cc);
  refused = λ capacity caller log name h e s. let c = its_claim capacity caller log name h e in some_none c.0 (claim_of caller (run capacity log)) c.1 s;
  memory = λ capacity caller log name h e s. let c = its_claim capacity caller log name h e in some_none c.0 (claim_of caller (run capacity log)) c.1 s;
  nothing = λ capacity caller log name h e s. let c = its_claim capacity caller log name h e in some_none c.0 (claim_of caller (run capacity log)) c.1 s;
}

-- a caller with a claim on the list
has_one : (claims : List Claim) (name : Name) (claim : Claim) → find (is_on name) claims ≡ Some claim → IsSome (find (is_of claim.caller) claims)
has_one [] name claim f = absurd (cc)
has_one (x ∷ claims) name claim f = by (has_one claims name claim) (nat_eq x.caller claim.caller) (is_on name x) refl refl
  where
    by : (find (is_on name) claims ≡ Some claim → IsSome (find (is_of claim.caller) claims)) → (b c : Bool) → nat_eq x.caller claim.caller ≡ b → is_on name x ≡ c → IsSome (find (is_of claim.caller) (x ∷ claims))
    by more true c t o = subst (λ (z : Option Claim). IsSome z) (sym (find_first (is_of claim.caller) x claims t)) refl
    by more false true t o =
        let same : x ≡ claim = some_same x claim (sym (find_first (is_on name) x claims o) ∙ f) in
        let yes : nat_eq x.caller claim.caller ≡ true = ap (λ (z : Claim). nat_eq z.caller claim.caller) same ∙ eq-eqb claim.caller claim.caller refl in
        absurd (cc)
    by more false false t o =
        subst (λ (z : Option Claim). IsSome z) (sym (find_later (is_of claim.caller) x claims t)) (more (sym (find_later (is_on name) x claims o) ∙ f))

pub busy_own : BusyIsAnothers
busy_own capacity caller holder log name h s =
    let claim = s.2.0 in
    let out : IsSome (claim_of claim.caller (run capacity log)) = has_one (run capacity log).claims name claim s.2.1 in
    let its : IsSome (claim_of holder (run capacity log)) = subst (λ (k : ℕ). IsSome (claim_of k (run capacity log))) s.2.2 out in (
      subst (λ (o : Option Name). IsSome o) (ones_own capacity holder log h) (some_named (claim_of holder (run capacity log)) its),
      λ e.
          let mine = some_is (claim_of caller (run capacity log)) (subst (λ (k : ℕ). IsSome (claim_of k (run capacity log))) e its) in
          some_none mine.0 (claim_of caller (run capacity log)) mine.1 s.0,
    )

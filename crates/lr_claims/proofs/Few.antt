-- A cache that drops nothing: on each name there is a chunk, or a claim, or neither, and so there are few Leads.
use Rattle.std.proofs.Common.{◌≡◌, ◌≤◌, ℕ, suc, ◌+◌, List, [], ◌∷◌, ◌++◌, length, map, take, Bool, true, false, Option, Some, find, refl, sym, ap, subst, arith, length-append}
use Rattle.std.specs.Prelude.{IsNone}
use Rattle.std.specs.List.{AllByRecursion}
use Rattle.std.specs.Arc.{arc_value}
use Rattle.std.specs.Str.{bytes_eq}
use Rattle.std.proofs.lemmas.List.{length-map, take_all}
use Rattle.sha2.specs.Sha256.{sha256}
use Rattle.lr_manifest.specs.declared.name.Name.{Name}
use Rattle.lr_manifest.specs.Chunk.{is_named}
use Rattle.lr_object.specs.Finds.{without_first}
use Rattle.lr_cache.specs.declared.call.Claim.{Claim}
use Rattle.lr_cache.specs.Claims.{is_of, is_on}
use Rattle.lr_cache.specs.declared.call.CacheCall.{CacheCall}
use Rattle.lr_cache.specs.declared.call.CacheCall.TheVariants.{Look, Fill, GiveUp, Evict, Reap}
use Rattle.lr_cache.specs.declared.call.CacheReply.{CacheReply}
use Rattle.lr_cache.specs.declared.call.CacheReply.TheVariants.{Hit, Lead, Filled, Given, Evicted, Reaped}
use Rattle.lr_cache.specs.Machine.{State, claim_of, state_after, CacheStep, LogEntry, empty, after_entry}
use Rattle.lr_claims.specs.Logs.{IsLegal}
use Rattle.lr_claims.specs.Leads.{is_lead_on, claims_name, is_given_on, one_if, leads, givens, Keeps, LeadsAmong, LeadsAreFew}
use Rattle.lr_object.proofs.Counted.{hits, some_is, none_is, hits-append, hits_none, hits-without_first, hits_all}
use Rattle.lr_claims.proofs.Hits.{is_same, found_all, without_all, hits_map, In, in_of, is_one, few}

abbrev chunk_on : List ℕ → List ℕ → Bool
chunk_on x chunk = bytes_eq (sha256 chunk) x

abbrev claim_on : List ℕ → Claim → Bool
claim_on x claim = bytes_eq claim.name.bytes x

-- the chunks and claims of a name
abbrev on : List ℕ → State → ℕ
on x st = hits (chunk_on x) st.chunks + hits (claim_on x) st.claims

-- At most one on each name, and only on these names.
record IsTidy (names : List (List ℕ)) (st : State) : Type 0 where
  once : (x : List ℕ) → on x st ≤ 1
  chunks : AllByRecursion (λ (c : List ℕ). In names (sha256 c)) st.chunks
  claims : AllByRecursion (λ (c : Claim). In names c.name.bytes) st.claims

all_mapped : {X Y : Type 0} (P : Y → Type 0) (f : X → Y) (xs : List X) → AllByRecursion (λ (x : X). P (f x)) xs → AllByRecursion P (map f xs)
all_mapped P f [] h = tt
all_mapped P f (x ∷ xs) h = (h.0, all_mapped P f xs h.1)

all_both : {X : Type 0} (P : X → Type 0) (xs ys : List X) → AllByRecursion P xs → AllByRecursion P ys → AllByRecursion P (xs ++ ys)
all_both P [] ys h k = k
all_both P (x ∷ xs) ys h k = (h.0, all_both P xs ys h.1 k)

-- Chunks and claims are no more than the names.
room : (names : List (List ℕ)) (st : State) → IsTidy names st → length st.chunks + length st.claims ≤ length names
room names st t =
    let held : List (List ℕ) = map sha256 st.chunks in
    let asked : List (List ℕ) = map (λ (c : Claim). c.name.bytes) st.claims in
    let small : length (held ++ asked) ≤ length names =
    few names (held ++ asked)
    (all_both (In names) held asked (all_mapped (In names) sha256 st.chunks t.chunks) (all_mapped (In names) (λ (c : Claim). c.name.bytes) st.claims t.claims))
    (λ x.
    let all = hits-append (is_one x) held asked in
    let a = hits_map (is_one x) sha256 st.chunks in
    let b = hits_map (is_one x) (λ (c : Claim). c.name.bytes) st.claims in
    let one = t.once x in
    omega arith) in
    let long : length (held ++ asked) ≡ length held + length asked = length-append held asked in
    let a : length held ≡ length st.chunks = length-map st.chunks sha256 in
    let b : length asked ≡ length st.claims = length-map st.claims (λ (c : Claim). c.name.bytes) in
    omega arith

-- What one entry does: how many are on a name, and that it stays tidy.
record Goes (capacity : ℕ) (names : List (List ℕ)) (st : State) (caller : ℕ) (call : CacheCall) (reply : CacheReply) : Type 0 where
  counts : (x : List ℕ) → on x (state_after capacity st caller call reply) + one_if (is_given_on x st caller call reply) ≡ on x st + one_if (is_lead_on x call reply)
  tidy : IsTidy names (state_after capacity st caller call reply)

module _ (capacity : ℕ) (names : List (List ℕ)) (st : State) (caller : ℕ) (t : IsTidy names st) where
  stays : (call : CacheCall) (reply : CacheReply) → state_after capacity st caller call reply ≡ st
      → ((x : List ℕ) → is_given_on x st caller call reply ≡ false) → ((x : List ℕ) → is_lead_on x call reply ≡ false) → Goes capacity names st caller call reply
  stays call reply e g l = record {
    counts = λ x. rw (e, g x, l x) refl;
    tidy = rw e t;
  }

  hit : (name : Name) (chunk : _) → find (is_named name) st.chunks ≡ Some (arc_value chunk) → Goes capacity names st caller (Look name) (Hit chunk)
  hit name chunk f =
      let count : (x : List ℕ) → one_if (chunk_on x (arc_value chunk)) + hits (chunk_on x) (without_first (is_named name) st.chunks) ≡ hits (chunk_on x) st.chunks =
      λ x. hits-without_first (is_named name) (chunk_on x) st.chunks (arc_value chunk) f in
      record {
        counts = λ x. let e = count x in omega arith;
        tidy = record {
          once = λ x. let e = count x in let one = t.once x in omega arith;
          chunks = (found_in st.chunks f t.chunks, without_all (is_named name) (λ (c : List ℕ). In names (sha256 c)) st.chunks t.chunks);
          claims = t.claims;
        };
      }
    where
      found_in : (chunks : List (List ℕ)) → find (is_named name) chunks ≡ Some (arc_value chunk) → AllByRecursion (λ (c : List ℕ). In names (sha256 c)) chunks → In names (sha256 (arc_value chunk))
      found_in chunks f h = found_all (is_named name) (λ (c : List ℕ). In names (sha256 c)) chunks (arc_value chunk) f h

  lead : (name : Name) → IsNone (find (is_named name) st.chunks) → IsNone (find (is_on name) st.claims) → In names name.bytes → Goes capacity names st caller (Look name) Lead
  lead name no_chunk no_claim among =
      let new : Claim = record { name = name; caller = caller } in
      let count : (x : List ℕ) → hits (claim_on x) (st.claims ++ new ∷ []) ≡ hits (claim_on x) st.claims + (one_if (bytes_eq name.bytes x) + 0) =
      λ x. hits-append (claim_on x) st.claims (new ∷ []) in
      record {
        counts = λ x. let e = count x in omega arith;
        tidy = record {
          once = λ x. let e = count x in by x (bytes_eq name.bytes x) refl e;
          chunks = t.chunks;
          claims = all_both (λ (c : Claim). In names c.name.bytes) st.claims (new ∷ []) t.claims (among, tt);
        };
      }
    where
      by : (x : List ℕ) (b : Bool) → bytes_eq name.bytes x ≡ b → hits (claim_on x) (st.claims ++ record { name = name; caller = caller } ∷ []) ≡ hits (claim_on x) st.claims + (one_if (bytes_eq name.bytes x) + 0)
          → hits (chunk_on x) st.chunks + hits (claim_on x) (st.claims ++ record { name = name; caller = caller } ∷ []) ≤ 1
      by x true s e =
          let same : name.bytes ≡ x = is_same name.bytes x s in
          let a : hits (chunk_on x) st.chunks ≡ 0 = subst (λ (y : List ℕ). hits (chunk_on y) st.chunks ≡ 0) same (hits_none (is_named name) st.chunks (none_is (find (is_named name) st.chunks) no_chunk)) in
          let b : hits (claim_on x) st.claims ≡ 0 = subst (λ (y : List ℕ). hits (claim_on y) st.claims ≡ 0) same (hits_none (is_on name) st.claims (none_is (find (is_on name) st.claims) no_claim)) in
          let one : one_if (bytes_eq name.bytes x) ≡ 1 = rw s refl in
          omega arith
      by x false s e =
          let one = t.once x in
          let none : one_if (bytes_eq name.bytes x) ≡ 0 = rw s refl in
          omega arith

  claims_gone : (claim : Claim) → claim_of caller st ≡ Some claim → (x : List ℕ) → one_if (claim_on x claim) + hits (claim_on x) (without_first (is_of caller) st.claims) ≡ hits (claim_on x) st.claims
  claims_gone claim f x = hits-without_first (is_of caller) (claim_on x) st.claims claim f

  given : (claim : Claim) → claim_of caller st ≡ Some claim → Goes capacity names st caller GiveUp Given
  given claim f = record {
    counts = λ x.
        let e = claims_gone claim f x in
        let g : one_if (claims_name x (claim_of caller st)) ≡ one_if (claim_on x claim) = ap (λ (o : Option Claim). one_if (claims_name x o)) f in
        omega arith;
    tidy = record {
      once = λ x. let e = claims_gone claim f x in let one = t.once x in omega arith;
      chunks = t.chunks;
      claims = without_all (is_of caller) (λ (c : Claim). In names c.name.bytes) st.claims t.claims;
    };
  }

  filled : (claim : Claim) (chunk : _) → length names ≤ capacity → claim_of caller st ≡ Some claim → is_named claim.name (arc_value chunk) ≡ true → Goes capacity names st caller (Fill chunk) Filled
  filled claim chunk c f n =
      let fits : suc (length st.chunks) ≤ capacity =
      let r = room names st t in
      let a = hits-without_first (is_of caller) (λ (z : Claim). true) st.claims claim f in
      let b = hits_all st.claims in
      omega arith in
      let whole : take capacity (arc_value chunk ∷ st.chunks) ≡ arc_value chunk ∷ st.chunks = take_all capacity (arc_value chunk ∷ st.chunks) fits in
      let same : sha256 (arc_value chunk) ≡ claim.name.bytes = is_same (sha256 (arc_value chunk)) claim.name.bytes n in
      record {
        counts = λ x. rw whole (let e = claims_gone claim f x in let s : one_if (chunk_on x (arc_value chunk)) ≡ one_if (claim_on x claim) = ap (λ (y : List ℕ). one_if (bytes_eq y x)) same in omega arith);
        tidy = rw whole (record {
          once = λ x. let e = claims_gone claim f x in let one = t.once x in let s : one_if (chunk_on x (arc_value chunk)) ≡ one_if (claim_on x claim) = ap (λ (y : List ℕ). one_if (bytes_eq y x)) same in omega arith;
          chunks = (subst (In names) (sym same) (claim_in st.claims f t.claims), t.chunks);
          claims = without_all (is_of caller) (λ (c : Claim). In names c.name.bytes) st.claims t.claims;
        });
      }
    where
      claim_in : (claims : List Claim) → find (is_of caller) claims ≡ Some claim → AllByRecursion (λ (c : Claim). In names c.name.bytes) claims → In names claim.name.bytes
      claim_in claims f h = found_all (is_of caller) (λ (c : Claim). In names c.name.bytes) claims claim f h

  goes : (call : CacheCall) (reply : CacheReply) → length names ≤ capacity → CacheStep st caller call reply → Keeps reply → LeadsAmong names call reply → Goes capacity names st caller call reply
  goes (Look name) (Hit chunk) c s k l = hit name chunk s.1
  goes (Look name) Lead c s k l = lead name s.1 s.2 (in_of names name.bytes l)
  goes (Look name) reply c s k l = stays (Look name) reply refl (λ x. refl) (λ x. refl)
  goes (Fill chunk) Filled c s k l = filled s.0 chunk c s.1 s.2
  goes (Fill chunk) reply c s k l = stays (Fill chunk) reply refl (λ x. refl) (λ x. refl)
  goes GiveUp Given c s k l = let f = some_is (claim_of caller st) s in given f.0 f.1
  goes GiveUp reply c s k l = stays GiveUp reply refl (λ x. refl) (λ x. refl)
  goes Evict (Evicted n) c s k l = absurd k
  goes Evict reply c s k l = stays Evict reply refl (λ x. refl) (λ x. refl)
  goes Reap Reaped c s k l = absurd k
  goes Reap reply c s k l = stays Reap reply refl (λ x. refl) (λ x. refl)

counted : (capacity : ℕ) (names : List (List ℕ)) (log : List LogEntry) (st : State) → IsTidy names st → IsLegal capacity st log → length names ≤ capacity
    → AllByRecursion (λ (e : LogEntry). Keeps e.reply) log → AllByRecursion (λ (e : LogEntry). LeadsAmong names e.call e.reply) log
    → (x : List ℕ) → on x st + leads x log ≤ 1 + givens capacity x st log
counted capacity names [] st t h c k l x = let one = t.once x in omega arith
counted capacity names (e ∷ log) st t h c k l x =
    let g = goes capacity names st e.caller t e.call e.reply c h.0 k.0 l.0 in
    let now = g.counts x in
    let more = counted capacity names log (after_entry capacity st e) g.tidy h.2 c k.1 l.1 x in
    omega arith

pub leads_few : LeadsAreFew
leads_few capacity names log h c k l x =
    let e = counted capacity names log empty (record { once = λ y. omega arith; chunks = tt; claims = tt }) h c k l x in
    omega arith

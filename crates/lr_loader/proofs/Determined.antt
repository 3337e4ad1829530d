-- what a load needs after a reply is determined, unless it finds no memory
use Rattle.std.proofs.Common.{◌≡◌, ◌⊎◌, inl, inr, ℕ, zero, suc, ◌-◌, ◌<◌, ◌*◌, List, [], ◌∷◌, length, map, Bool, true, false, MatchBool, refl, sym, ap, subst, ◌∙◌, arith, lit<, lit≤}
use Rattle.std.specs.Coded.{Coded-set, coded_ℕ}
use Rattle.std.specs.List.{AllZip}
use Rattle.std.proofs.lemmas.Bool.{true≢false}
use Rattle.std.proofs.lemmas.List.{length-map}
use Rattle.sha2.specs.Sha256.{sha256}
use Rattle.lr_manifest.specs.Chunk.{is_named}
use Rattle.lr_manifest.specs.declared.name.Name.{Name}
use Rattle.lr_stripe.specs.declared.stripe.Stripe.{Stripe}
use Rattle.lr_stripe.proofs.Public.{same_chunk, one_stripe}
use Rattle.lr_walk.specs.declared.place.LoadPlace.{LoadPlace}
use Rattle.lr_walk.specs.Steps.{Reply, by_cache, by_node, by_depot}
use Rattle.lr_walk.specs.Stripes.{indices_of, joined, IsRebuilt, IsStripeOf, AreStripesOf}
use Rattle.lr_walk.specs.Load.{with_memory, held_after, is_enough}
use Rattle.lr_walk.specs.Depot as depots
use Rattle.lr_walk.specs.Cache as caches
use Rattle.lr_loader.specs.Progress.{Need, looking, asking, fetching, putting, filling, giving, ended, IsShort, Rebuilt, AfterGet, PutsFirst, Next}
use Rattle.lr_loader.specs.Determined.{LoadsAreDetermined}
use Rattle.lr_loader.proofs.Rebuilding.{length-joined, within_five, byte_indices}

-- four stripes are rebuilt to one chunk
one_rebuilt : (held : List Stripe) (a b : List ℕ) → IsRebuilt held a → IsRebuilt held b → a ≡ b
one_rebuilt held a b x y =
    same_chunk 4 131072 (indices_of held) (joined held) a b (lit< tt) (lit≤ tt) (lit< tt) (byte_indices held (within_five held x.each)) x.apart
    (length-map held (λ (s : Stripe). s.index) ∙ x.four) (length-joined held x.each ∙ ap (λ (n : ℕ). n * 131072) x.four) x.stripes y.stripes

-- names of the same bytes are the same
name_of_bytes : (x y : Name) → x.bytes ≡ y.bytes → x ≡ y
name_of_bytes x y e =
    let P : List ℕ → Type 0 = λ b. (h : length b ≡ 32) → x ≡ record { bytes = b; long = h } in
    subst P e (λ h. ap (λ (q : length x.bytes ≡ 32). record { bytes = x.bytes; long = q }) (Coded-set coded_ℕ _ _ x.long h)) y.long

-- a chunk has one stripe of an index
same_stripe : (a b : Stripe) → a.name.bytes ≡ b.name.bytes → a.index ≡ b.index → a.bytes ≡ b.bytes → a.digest ≡ b.digest → a ≡ b
same_stripe a b n i t d =
    let name : a.name ≡ b.name = name_of_bytes a.name b.name n in
    λ k. record { name = name k; index = i k; bytes = t k; digest = d k }

stripes_agree : (chunk : List ℕ) (index : ℕ) (a b : Stripe) → IsStripeOf chunk index a → IsStripeOf chunk index b → a ≡ b
stripes_agree chunk index a b x y =
    let bytes : a.bytes ≡ b.bytes = one_stripe 4 chunk index a.bytes b.bytes (lit< tt) x.bytes y.bytes in
    same_stripe a b (x.name ∙ sym y.name) (x.good.its_index ∙ sym y.good.its_index) bytes (x.good.its_digest ∙ ap sha256 bytes ∙ sym y.good.its_digest)

zips_agree : (chunk : List ℕ) (indices : List ℕ) (a b : List Stripe) → AllZip (IsStripeOf chunk) indices a → AllZip (IsStripeOf chunk) indices b → a ≡ b
zips_agree chunk [] [] [] x y = refl
zips_agree chunk [] [] (t ∷ b) x y = absurd y
zips_agree chunk [] (s ∷ a) b x y = absurd x
zips_agree chunk (i ∷ indices) [] b x y = absurd x
zips_agree chunk (i ∷ indices) (s ∷ a) [] x y = absurd y
zips_agree chunk (i ∷ indices) (s ∷ a) (t ∷ b) x y =
    let first : s ≡ t = stripes_agree chunk i s t x.0 y.0 in
    let rest : a ≡ b = zips_agree chunk indices a b x.1 y.1 in λ k. first k ∷ rest k

abbrev pub AreSame : Need → Need → Type 0
AreSame a b = (a ≡ b) ⊎ (IsShort a ⊎ IsShort b)

first_agrees : (chunk : List ℕ) (a b : Need) → PutsFirst chunk a → PutsFirst chunk b → a ≡ b
first_agrees chunk a b x y =
    let e : x.0 ∷ x.1 ≡ y.0 ∷ y.1 = zips_agree chunk (0 ∷ 1 ∷ 2 ∷ 3 ∷ 4 ∷ []) (x.0 ∷ x.1) (y.0 ∷ y.1) x.2 y.2 in
    let s : x.0 ≡ y.0 = cc in
    let m : x.1 ≡ y.1 = cc in
    x.3 ∙ (λ k. putting chunk (s k) (m k)) ∙ sym y.3

rebuilt_agree : (place : LoadPlace) (held : List Stripe) (a b : Need) → Rebuilt place held a → Rebuilt place held b → AreSame a b
rebuilt_agree place held a b (inl x) (inl y) = inl (x.3 ∙ ap (λ (c : List ℕ). filling c) (one_rebuilt held x.0 y.0 x.1 y.1) ∙ sym y.3)
rebuilt_agree place held a b (inl x) (inr (inl y)) = absurd (true≢false (sym x.2 ∙ y.0 x.0 x.1))
rebuilt_agree place held a b (inr (inl x)) (inl y) = absurd (true≢false (sym y.2 ∙ x.0 y.0 y.1))
rebuilt_agree place held a b (inr (inl x)) (inr (inl y)) = inl (x.1 ∙ sym y.1)
rebuilt_agree place held a b (inr (inr x)) y = inr (inl x)
rebuilt_agree place held a b x (inr (inr y)) = inr (inr y)

chosen_agree : (place : LoadPlace) (left : ℕ) (held : List Stripe) (a b : Need) (t : Bool) → MatchBool t (Rebuilt place held a) (a ≡ asking left held) → MatchBool t (Rebuilt place held b) (b ≡ asking left held)
    → AreSame a b
chosen_agree place left held a b true x y = rebuilt_agree place held a b x y
chosen_agree place left held a b false x y = inl (x ∙ sym y)

gets_agree : (place : LoadPlace) (left : ℕ) (held : List Stripe) (a b : Need) → AfterGet place left held a → AfterGet place left held b → AreSame a b
gets_agree place zero held a b x y = rebuilt_agree place held a b x y
gets_agree place (suc left) held a b x y = chosen_agree place left held a b (is_enough held) x y

pub determined : LoadsAreDetermined
determined place looking (by_cache (caches.hit chunk)) got a b x y = inl (x ∙ sym y)
determined place looking (by_cache caches.lead) got a b (inl x) (inl y) = inl (x ∙ sym y)
determined place looking (by_cache caches.lead) got a b (inr x) y = inr (inl x)
determined place looking (by_cache caches.lead) got a b x (inr y) = inr (inr y)
determined place looking (by_cache (caches.busy holder)) got a b x y = inl (x ∙ sym y)
determined place looking reply got a b x y = inl (x ∙ sym y)
determined place (asking left held) reply got a b x y = gets_agree place left (held_after place (4 - left) reply held) a b x y
determined place fetching (by_depot (depots.fetched name)) got a b (inl x) (inl y) = inl (first_agrees got a b x y)
determined place fetching (by_depot (depots.fetched name)) got a b (inr x) y = inr (inl x)
determined place fetching (by_depot (depots.fetched name)) got a b x (inr y) = inr (inr y)
determined place fetching (by_depot depots.memory) got a b x y = inl (x ∙ sym y)
determined place fetching (by_depot reply) got a b x y = inl (x ∙ sym y)
determined place fetching reply got a b x y = inl (x ∙ sym y)
determined place (putting chunk stripe []) reply got a b x y = inl (x ∙ sym y)
determined place (putting chunk stripe (following ∷ more)) reply got a b x y = inl (x ∙ sym y)
determined place (filling chunk) (by_cache caches.filled) got a b x y = inl (x ∙ sym y)
determined place (filling chunk) reply got a b x y = inl (x ∙ sym y)
determined place (giving end) reply got a b x y = inl (x ∙ sym y)
determined place (ended end) reply got a b x y = absurd x

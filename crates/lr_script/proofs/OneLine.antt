-- A kind's words lead from a state to one state.
use Rattle.std.proofs.Common.{◌≡◌, ℕ, ◌+◌, ◌<◌, ◌≤◌, ◌^◌, List, [], ◌∷◌, ◌++◌, length, get_or, sum_by, Bool, Some, codes, decimal, sym, ap, ap₂, subst, ◌∙◌, refl, arith}
use Rattle.std.proofs.lemmas.Fmt.{decimal_injective}
use Rattle.std.proofs.lemmas.List.Sums.{sum_by-cons}
use Rattle.lr_text.specs.Name.{place_of}
use Rattle.lr_text.specs.Words.{run_sum}
use Rattle.lr_text.proofs.Public.{one_key, one_runs}
use Rattle.lr_origin.specs.declared.key.KeyKind.{KeyKind}
use Rattle.lr_script.specs.declared.kind.Kind.{Kind}
use Rattle.lr_script.specs.declared.kind.Kind.TheVariants as kind
use Rattle.lr_script.specs.Limits.{cache_most, nodes_most, node_most, image_most, call_most, roots_most, chunk_last, stripe_last, byte_last, crash_most, counts_most}
use Rattle.lr_script.specs.Seen.{BodySeen, Runs, Seed, Read, Zero, Write, Migrate, Withdraw, Rotate, Expire, Delete, Sweep, Settle, Evict, Drop, Flip, Forge, Lose, Close, ScheduleSeen, Serial, Rounds, Pairs}
use Rattle.lr_script.specs.State.{State, with_job, actor_names}
use Rattle.lr_script.specs.Lines.{KindLine, NodesLine, HostLine, RootLine, ImageLine, DeviceLine, ActorLine, ReadLine, ZeroLine, WriteLine, CreateLine, MigrateLine, WithdrawLine, RotateLine, ExpireLine, DeleteLine, SweepLine, SettleLine, EvictLine, DropLine, FlipLine, ForgeLine, LoseLine, CloseLine, CrashLine, ScheduleLine, IsImage, IsRange, IsRootWord, IsPair, body_words, FitsBody, PairWords, ScheduleWords}
use Rattle.lr_script.proofs.OneKey.{one_settled}

one_number : (m n most : ℕ) → most < 2 ^ 64 → m ≤ most → n ≤ most → decimal m ≡ decimal n → m ≡ n
one_number m n most fits a b e = decimal_injective m n (omega arith) (omega arith) e

-- A name has one place.
one_place : (names : List (List ℕ)) (a b : List ℕ) (i j : ℕ) → a ≡ b → place_of names a ≡ Some i → place_of names b ≡ Some j → i ≡ j
one_place names a b i j e p q = let s : Some i ≡ Some j = sym p ∙ ap (place_of names) e ∙ q in cc s

nodes_one : (s : State) (w : List (List ℕ)) (a b : State) → NodesLine s w a → NodesLine s w b → a ≡ b
nodes_one s w a b h k =
    let e = sym h.spelled ∙ k.spelled in
    let n : h.nodes ≡ k.nodes = one_number h.nodes k.nodes nodes_most (omega arith) h.most_nodes k.most_nodes (cc e) in
    let c : h.cap ≡ k.cap = one_number h.cap k.cap node_most (omega arith) h.most_cap k.most_cap (cc e) in
    cc (h.result, k.result)

host_one : (s : State) (w : List (List ℕ)) (a b : State) → HostLine s w a → HostLine s w b → a ≡ b
host_one s w a b h k =
    let e = sym h.spelled ∙ k.spelled in
    let n : h.name ≡ k.name = cc e in
    let c : h.cap ≡ k.cap = one_number h.cap k.cap cache_most (omega arith) h.most k.most (cc e) in
    cc (h.result, k.result)

root_one : (s : State) (w : List (List ℕ)) (a b : State) → RootLine s w a → RootLine s w b → a ≡ b
root_one s w a b h k =
    let e = sym h.spelled ∙ k.spelled in
    let c : h.salt ≡ k.salt = one_key h.salt k.salt h.key k.key (cc e) in
    cc (h.result, k.result)

body_one : (a b : BodySeen) (len : ℕ) → FitsBody a len → FitsBody b len → body_words a ≡ body_words b → a ≡ b
body_one (Runs rs) (Runs ss) len f g e = ap (λ (r : List (ℕ × ℕ)). Runs r) (one_runs rs ss f.1.each g.1.each (cc e))
body_one (Runs rs) (Seed n) len f g e = cc
body_one (Seed n) (Runs rs) len f g e = cc
body_one (Seed m) (Seed n) len f g e = ap (λ (n : ℕ). Seed n) (decimal_injective m n (omega arith) (omega arith) (cc e))

-- `NAME TENANT LENGTH BODY` names one image.
image_words_one : (w : List (List ℕ)) (n t m u : List ℕ) (l r : ℕ) (a b : BodySeen) → IsImage w n t l a → IsImage w m u r b → (n ≡ m) × (t ≡ u) × (l ≡ r) × (a ≡ b)
image_words_one w n t m u l r a b h k =
    let e = sym h.spelled ∙ k.spelled in
    let x : n ≡ m = cc e in
    let y : t ≡ u = one_key t u h.key k.key (cc e) in
    let z : l ≡ r = one_number l r image_most (omega arith) h.most k.most (cc e) in
    let v : a ≡ b = body_one a b l h.fits (subst (FitsBody b) (sym z) k.fits) (cc e) in
    (x, y, z, v)

image_one : (s : State) (w : List (List ℕ)) (a b : State) → ImageLine s w a → ImageLine s w b → a ≡ b
image_one s w a b h k =
    let o = image_words_one w h.name h.tenant k.name k.tenant h.len k.len h.body k.body h.image k.image in
    let n : h.name ≡ k.name = o.0 in
    let t : h.tenant ≡ k.tenant = o.1 in
    let l : h.len ≡ k.len = o.2 in
    let d : h.body ≡ k.body = o.3 in
    cc (h.result, k.result)

create_one : (s : State) (w : List (List ℕ)) (a b : State) → CreateLine s w a → CreateLine s w b → a ≡ b
create_one s w a b h k =
    let o = image_words_one w h.name h.tenant k.name k.tenant h.len k.len h.body k.body h.image k.image in
    let n : h.name ≡ k.name = o.0 in
    let t : h.tenant ≡ k.tenant = o.1 in
    let l : h.len ≡ k.len = o.2 in
    let d : h.body ≡ k.body = o.3 in
    cc (h.result, k.result)

device_one : (s : State) (w : List (List ℕ)) (a b : State) → DeviceLine s w a → DeviceLine s w b → a ≡ b
device_one s w a b h k =
    let e = sym h.spelled ∙ k.spelled in
    let n : h.name ≡ k.name = cc e in
    let m : h.host_name ≡ k.host_name = cc e in
    let i : h.image ≡ k.image = cc e in
    let t : h.tenant ≡ k.tenant = one_key h.tenant k.tenant h.key k.key (cc e) in
    let p : h.host ≡ k.host = one_place s.hosts h.host_name k.host_name h.host k.host m h.declared_host k.declared_host in
    cc (h.result, k.result)

actor_one : (s : State) (w : List (List ℕ)) (a b : State) → ActorLine s w a → ActorLine s w b → a ≡ b
actor_one s w a b h k =
    let e = sym h.spelled ∙ k.spelled in
    let n : h.name ≡ k.name = cc e in
    cc (h.result, k.result)

-- `DEVICE OFFSET LENGTH` names one range.
range_one : (s : State) (w : List (List ℕ)) (d o l e p m : ℕ) → IsRange s w d o l → IsRange s w e p m → (d ≡ e) × (o ≡ p) × (l ≡ m)
range_one s w d o l e p m h k =
    let same = sym h.spelled ∙ k.spelled in
    let n : h.name ≡ k.name = cc same in
    let x : d ≡ e = one_place s.devices h.name k.name d e n h.declared k.declared in
    let y : o ≡ p = decimal_injective o p h.fits k.fits (cc same) in
    let z : l ≡ m = one_number l m call_most (omega arith) h.most k.most (cc same) in
    (x, y, z)

read_one : (s : State) (w : List (List ℕ)) (a b : State) → ReadLine s w a → ReadLine s w b → a ≡ b
read_one s w a b h k =
    let o = range_one s w h.device h.offset h.len k.device k.offset k.len h.range k.range in
    h.result ∙ same o.0 o.1 o.2 ∙ sym k.result
  where
    same : {d d2 o o2 l l2 : ℕ} → d ≡ d2 → o ≡ o2 → l ≡ l2 → with_job (record s { called = s.called + l }) (Read d o l) ≡ with_job (record s { called = s.called + l2 }) (Read d2 o2 l2)
    same {d} {d2} {o} {o2} {l} {l2} e f g = ap₂ (λ (x y : ℕ). with_job (record s { called = s.called + l }) (Read x y l)) e f ∙ ap (λ (z : ℕ). with_job (record s { called = s.called + z }) (Read d2 o2 z)) g

zero_one : (s : State) (w : List (List ℕ)) (a b : State) → ZeroLine s w a → ZeroLine s w b → a ≡ b
zero_one s w a b h k =
    let o = range_one s w h.device h.offset h.len k.device k.offset k.len h.range k.range in
    h.result ∙ same o.0 o.1 o.2 ∙ sym k.result
  where
    same : {d d2 o o2 l l2 : ℕ} → d ≡ d2 → o ≡ o2 → l ≡ l2 → with_job (record s { called = s.called + l }) (Zero d o l) ≡ with_job (record s { called = s.called + l2 }) (Zero d2 o2 l2)
    same {d} {d2} {o} {o2} {l} {l2} e f g = ap₂ (λ (x y : ℕ). with_job (record s { called = s.called + l }) (Zero x y l)) e f ∙ ap (λ (z : ℕ). with_job (record s { called = s.called + z }) (Zero d2 o2 z)) g

write_one : (s : State) (w : List (List ℕ)) (a b : State) → WriteLine s w a → WriteLine s w b → a ≡ b
write_one s w a b h k =
    let e = sym h.spelled ∙ k.spelled in
    let m : h.name ≡ k.name = cc e in
    let d : h.device ≡ k.device = one_place s.devices h.name k.name h.device k.device m h.declared k.declared in
    let o : h.offset ≡ k.offset = decimal_injective h.offset k.offset h.fits k.fits (cc e) in
    let r : h.runs ≡ k.runs = one_runs h.runs k.runs h.are.each k.are.each (cc e) in
    h.result ∙ ap₂ (λ (x y : ℕ). with_job (record s { called = s.called + run_sum h.runs }) (Write x y h.runs)) d o ∙ ap (λ (z : List (ℕ × ℕ)). with_job (record s { called = s.called + run_sum z }) (Write k.device k.offset z)) r ∙ sym k.result

migrate_one : (s : State) (w : List (List ℕ)) (a b : State) → MigrateLine s w a → MigrateLine s w b → a ≡ b
migrate_one s w a b h k =
    let e = sym h.spelled ∙ k.spelled in
    let n : h.image ≡ k.image = cc e in
    h.result ∙ ap (λ (i : List ℕ). with_job s (Migrate i)) n ∙ sym k.result

withdraw_one : (s : State) (w : List (List ℕ)) (a b : State) → WithdrawLine s w a → WithdrawLine s w b → a ≡ b
withdraw_one s w a b h k =
    let e = sym h.spelled ∙ k.spelled in
    let n : h.image ≡ k.image = cc e in
    h.result ∙ ap (λ (i : List ℕ). with_job s (Withdraw i)) n ∙ sym k.result

rotate_one : (s : State) (w : List (List ℕ)) (a b : State) → RotateLine s w a → RotateLine s w b → a ≡ b
rotate_one s w a b h k =
    let e = sym h.spelled ∙ k.spelled in
    let n : h.salt ≡ k.salt = one_key h.salt k.salt h.key k.key (cc e) in
    h.result ∙ ap (λ (i : List ℕ). with_job s (Rotate i)) n ∙ sym k.result

root_word_one : (w : List (List ℕ)) (a b : ℕ) → IsRootWord w a → IsRootWord w b → a ≡ b
root_word_one w a b h k = let e = sym h.spelled ∙ k.spelled in one_number a b roots_most (omega arith) h.most k.most (cc e)

expire_one : (s : State) (w : List (List ℕ)) (a b : State) → ExpireLine s w a → ExpireLine s w b → a ≡ b
expire_one s w a b h k =
    h.result ∙ ap (λ (r : ℕ). with_job s (Expire r)) (root_word_one w h.root k.root h.is k.is) ∙ sym k.result

delete_one : (s : State) (w : List (List ℕ)) (a b : State) → DeleteLine s w a → DeleteLine s w b → a ≡ b
delete_one s w a b h k =
    h.result ∙ ap (λ (r : ℕ). with_job s (Delete r)) (root_word_one w h.root k.root h.is k.is) ∙ sym k.result

sweep_one : (s : State) (w : List (List ℕ)) (a b : State) → SweepLine s w a → SweepLine s w b → a ≡ b
sweep_one s w a b h k =
    h.result ∙ ap (λ (r : ℕ). with_job s (Sweep r)) (root_word_one w h.root k.root h.is k.is) ∙ sym k.result

settle_one : (s : State) (w : List (List ℕ)) (a b : State) → SettleLine s w a → SettleLine s w b → a ≡ b
settle_one s w a b h k =
    let e = sym h.spelled ∙ k.spelled in
    h.result ∙ ap (λ (i : KeyKind). with_job s (Settle i)) (one_settled h.key k.key h.is k.is (cc e)) ∙ sym k.result

evict_one : (s : State) (w : List (List ℕ)) (a b : State) → EvictLine s w a → EvictLine s w b → a ≡ b
evict_one s w a b h k =
    let e = sym h.spelled ∙ k.spelled in
    let m : h.name ≡ k.name = cc e in
    let d : h.host ≡ k.host = one_place s.hosts h.name k.name h.host k.host m h.declared k.declared in
    h.result ∙ ap (λ (x : ℕ). with_job s (Evict x)) d ∙ sym k.result

drop_one : (s : State) (w : List (List ℕ)) (a b : State) → DropLine s w a → DropLine s w b → a ≡ b
drop_one s w a b h k =
    let e = sym h.spelled ∙ k.spelled in
    let m : h.name ≡ k.name = cc e in
    let d : h.device ≡ k.device = one_place s.devices h.name k.name h.device k.device m h.declared k.declared in
    let j : h.stripe ≡ k.stripe = one_number h.stripe k.stripe stripe_last (omega arith) h.most_stripe k.most_stripe (cc e) in
    let x : h.index ≡ k.index = one_number h.index k.index chunk_last (omega arith) h.most_index k.most_index (cc e) in
    h.result ∙ ap₂ (λ (u v : ℕ). with_job s (Drop u v h.index)) j d ∙ ap (λ (u : ℕ). with_job s (Drop k.stripe k.device u)) x ∙ sym k.result

flip_one : (s : State) (w : List (List ℕ)) (a b : State) → FlipLine s w a → FlipLine s w b → a ≡ b
flip_one s w a b h k =
    let e = sym h.spelled ∙ k.spelled in
    let m : h.name ≡ k.name = cc e in
    let d : h.device ≡ k.device = one_place s.devices h.name k.name h.device k.device m h.declared k.declared in
    let j : h.stripe ≡ k.stripe = one_number h.stripe k.stripe stripe_last (omega arith) h.most_stripe k.most_stripe (cc e) in
    let x : h.index ≡ k.index = one_number h.index k.index chunk_last (omega arith) h.most_index k.most_index (cc e) in
    let y : h.at ≡ k.at = one_number h.at k.at byte_last (omega arith) h.most_at k.most_at (cc e) in
    h.result ∙ ap₂ (λ (u v : ℕ). with_job s (Flip u v h.index h.at)) j d ∙ ap₂ (λ (u v : ℕ). with_job s (Flip k.stripe k.device u v)) x y ∙ sym k.result

forge_one : (s : State) (w : List (List ℕ)) (a b : State) → ForgeLine s w a → ForgeLine s w b → a ≡ b
forge_one s w a b h k =
    let e = sym h.spelled ∙ k.spelled in
    let m : h.name ≡ k.name = cc e in
    let d : h.device ≡ k.device = one_place s.devices h.name k.name h.device k.device m h.declared k.declared in
    let x : h.index ≡ k.index = one_number h.index k.index chunk_last (omega arith) h.most k.most (cc e) in
    h.result ∙ ap₂ (λ (u v : ℕ). with_job s (Forge u v)) d x ∙ sym k.result

lose_one : (s : State) (w : List (List ℕ)) (a b : State) → LoseLine s w a → LoseLine s w b → a ≡ b
lose_one s w a b h k =
    let e = sym h.spelled ∙ k.spelled in
    let n : h.node ≡ k.node = decimal_injective h.node k.node h.fits k.fits (cc e) in
    h.result ∙ ap (λ (x : ℕ). with_job s (Lose x)) n ∙ sym k.result

close_one : (s : State) (w : List (List ℕ)) (a b : State) → CloseLine s w a → CloseLine s w b → a ≡ b
close_one s w a b h k =
    let e = sym h.spelled ∙ k.spelled in
    let m : h.name ≡ k.name = cc e in
    let d : h.device ≡ k.device = one_place s.devices h.name k.name h.device k.device m h.declared k.declared in
    h.result ∙ ap (λ (x : ℕ). with_job (record s { closed = s.closed ++ x ∷ [] }) (Close x)) d ∙ sym k.result

crash_one : (s : State) (w : List (List ℕ)) (a b : State) → CrashLine s w a → CrashLine s w b → a ≡ b
crash_one s w a b h k =
    let e = sym h.spelled ∙ k.spelled in
    let m : h.name ≡ k.name = cc e in
    let d : h.actor ≡ k.actor = one_place (actor_names s) h.name k.name h.actor k.actor m h.declared k.declared in
    let l : h.steps ≡ k.steps = one_number h.steps k.steps crash_most (omega arith) h.most k.most (cc e) in
    cc (h.result, k.result)

first_byte : (v w : List (List ℕ)) → v ≡ w → get_or (get_or v 0 []) 0 0 ≡ get_or (get_or w 0 []) 0 0
first_byte v w e = ap (λ (u : List (List ℕ)). get_or (get_or u 0 []) 0 0) e

pub one_pair : (names : List (List ℕ)) (name count : List ℕ) (p q : ℕ × ℕ) → p.1 ≤ counts_most → q.1 ≤ counts_most → IsPair names name count p → IsPair names name count q → p ≡ q
one_pair names name count p q few less h k =
    let a : h.actor ≡ k.actor = cc (sym h.declared ∙ k.declared) in
    let x = h.number in
    let y = k.number in
    let n : p.0 ≡ q.0 = omega arith in
    let c : p.1 ≡ q.1 = one_number p.1 q.1 counts_most (omega arith) few less (sym h.spelled ∙ k.spelled) in
    ap₂ (λ (i j : ℕ). (i, j)) n c

pub one_pairs : (names words : List (List ℕ)) (ps qs : List (ℕ × ℕ)) (r t : Bool) → sum_by (λ p. p.1) ps ≤ counts_most → sum_by (λ p. p.1) qs ≤ counts_most → PairWords names words ps r → PairWords names words qs t → (ps ≡ qs) × (r ≡ t)
one_pairs names [] ps qs r t few less h k = (h.0 ∙ sym k.0, h.1 ∙ sym k.1)
one_pairs names (w ∷ []) ps qs r t few less h k = (h.1 ∙ sym k.1, h.2 ∙ sym k.2)
one_pairs names (w ∷ c ∷ ws) [] qs r t few less h k = absurd h
one_pairs names (w ∷ c ∷ ws) (p ∷ ps) [] r t few less h k = absurd k
one_pairs names (w ∷ c ∷ ws) (p ∷ ps) (q ∷ qs) r t few less h k =
    let a : p.1 + sum_by (λ x. x.1) ps ≤ counts_most = subst (λ n. n ≤ counts_most) (sum_by-cons (λ (x : ℕ × ℕ). x.1) p ps) few in
    let b : q.1 + sum_by (λ x. x.1) qs ≤ counts_most = subst (λ n. n ≤ counts_most) (sum_by-cons (λ (x : ℕ × ℕ). x.1) q qs) less in
    let head : p ≡ q = one_pair names w c p q (omega arith) (omega arith) h.0 k.0 in
    let tail = one_pairs names ws ps qs r t (omega arith) (omega arith) h.1 k.1 in
    (ap₂ (λ (x : ℕ × ℕ) (xs : List (ℕ × ℕ)). x ∷ xs) head tail.0, tail.1)

no_pairs : (names : List (List ℕ)) (w : List ℕ) (words : List (List ℕ)) (ps : List (ℕ × ℕ)) (r : Bool) → words ≡ w ∷ [] → 1 ≤ length ps → PairWords names words ps r → ⊥
no_pairs names w words ps r e some h = let k = subst (λ (x : List (List ℕ)). PairWords names x ps r) e h in let l : length ps ≡ 0 = ap length k.1 in omega arith

schedule_words_one : (names words : List (List ℕ)) (a b : ScheduleSeen) → ScheduleWords names words a → ScheduleWords names words b → a ≡ b
schedule_words_one names words Serial Serial f g = refl
schedule_words_one names words Rounds Rounds f g = refl
schedule_words_one names words Serial Rounds f g = absurd (omega (arith, first_byte (codes "serial" ∷ []) (codes "rounds" ∷ []) (sym f ∙ g)))
schedule_words_one names words Rounds Serial f g = absurd (omega (arith, first_byte (codes "rounds" ∷ []) (codes "serial" ∷ []) (sym f ∙ g)))
schedule_words_one names words (Pairs ps r) Serial f g = absurd (no_pairs names (codes "serial") words ps r g f.0 f.3)
schedule_words_one names words (Pairs ps r) Rounds f g = absurd (no_pairs names (codes "rounds") words ps r g f.0 f.3)
schedule_words_one names words Serial (Pairs ps r) f g = absurd (no_pairs names (codes "serial") words ps r f g.0 g.3)
schedule_words_one names words Rounds (Pairs ps r) f g = absurd (no_pairs names (codes "rounds") words ps r f g.0 g.3)
schedule_words_one names words (Pairs ps r) (Pairs qs t) f g = let p = one_pairs names words ps qs r t f.2 g.2 f.3 g.3 in ap₂ (λ (xs : List (ℕ × ℕ)) (b : Bool). Pairs xs b) p.0 p.1

schedule_one : (s : State) (w : List (List ℕ)) (a b : State) → ScheduleLine s w a → ScheduleLine s w b → a ≡ b
schedule_one s w a b h k =
    let n : h.schedule ≡ k.schedule = schedule_words_one (actor_names s) w h.schedule k.schedule h.spelled k.spelled in
    cc (h.result, k.result)

-- A line of a kind leads from a state to one state.
pub kind_one : (k : Kind) (s : State) (w : List (List ℕ)) (a b : State) → KindLine k s w a → KindLine k s w b → a ≡ b
kind_one kind.Script s w a b h k = h.result ∙ sym k.result
kind_one kind.Nodes s w a b h k = nodes_one s w a b h k
kind_one kind.Host s w a b h k = host_one s w a b h k
kind_one kind.Root s w a b h k = root_one s w a b h k
kind_one kind.Image s w a b h k = image_one s w a b h k
kind_one kind.Device s w a b h k = device_one s w a b h k
kind_one kind.Actor s w a b h k = actor_one s w a b h k
kind_one kind.Read s w a b h k = read_one s w a b h k
kind_one kind.Zero s w a b h k = zero_one s w a b h k
kind_one kind.Write s w a b h k = write_one s w a b h k
kind_one kind.Create s w a b h k = create_one s w a b h k
kind_one kind.Migrate s w a b h k = migrate_one s w a b h k
kind_one kind.Withdraw s w a b h k = withdraw_one s w a b h k
kind_one kind.Rotate s w a b h k = rotate_one s w a b h k
kind_one kind.Expire s w a b h k = expire_one s w a b h k
kind_one kind.Delete s w a b h k = delete_one s w a b h k
kind_one kind.Sweep s w a b h k = sweep_one s w a b h k
kind_one kind.Settle s w a b h k = settle_one s w a b h k
kind_one kind.Evict s w a b h k = evict_one s w a b h k
kind_one kind.Drop s w a b h k = drop_one s w a b h k
kind_one kind.Flip s w a b h k = flip_one s w a b h k
kind_one kind.Forge s w a b h k = forge_one s w a b h k
kind_one kind.Lose s w a b h k = lose_one s w a b h k
kind_one kind.After s w a b h k = h.result ∙ sym k.result
kind_one kind.Close s w a b h k = close_one s w a b h k
kind_one kind.Crash s w a b h k = crash_one s w a b h k
kind_one kind.Schedule s w a b h k = schedule_one s w a b h k
kind_one kind.Other s w a b h k = absurd h

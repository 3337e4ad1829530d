-- which answers never come
use Rattle.std.proofs.Common.{◌≡◌, ℕ, zero, suc, ◌+◌, List, [], ◌∷◌, ◌++◌, map as each, length, Option, Some, refl, sym, ap, subst, ◌∙◌, inl, inr, append_assoc}
use Rattle.std.specs.Prelude.{◌⊎◌}
use Rattle.lr_origin.specs.Objects.{Objects}
use Rattle.lr_origin.specs.declared.key.KeyKind.{KeyKind}
use Rattle.lr_roots.specs.Names.{IsOneOf}
use Rattle.lr_manifest.specs.Manifest.{ManifestFields}
use Rattle.lr_rules.specs.State.{State}
use Rattle.lr_opening.specs.Store.{HasChunks, Mirrors}
use Rattle.lr_depot.specs.declared.call.DepotCall.{DepotCall}
use Rattle.lr_depot.specs.declared.call.DepotTold.{DepotTold}
use Rattle.lr_depot.specs.declared.call.DepotTold.TheVariants as told
use Rattle.lr_depot.specs.declared.call.DepotReply.{DepotReply}
use Rattle.lr_depot.specs.declared.call.DepotReply.TheVariants.{Opened, Fetched, Moving, Copied, Nothing, OutOfMemory, Spoiled}
use Rattle.lr_depot.specs.Begun.{Start}
use Rattle.lr_depot.specs.Machine.{LogEntry, DepotStep, Enters, IsTold, after_entry, run}
use Rattle.lr_depot.specs.Store.{StoreStep, LeadsTo}
use Rattle.lr_depot.specs.Depot.{IsStart, LedTo, first_state, state}
use Rattle.lr_walk.specs.Depot.{Step, Reply, began, kept, made, opened, fetched, memory, nothing, step_of, seen_told, logged, with_logged}
use Rattle.lr_walk.specs.Walk.{Then}
use Rattle.lr_creator.specs.declared.create.Place.{Place}
use Rattle.lr_creator.specs.Creation.{Ending, with_root, with_reply, with_memory, with_stop, Input, piece, last, Parts, no_parts, with_piece, place_of, Leaves, LeavesEarly, Puts, Creates, after_begin, after_manifest, after_chunk}
use Rattle.lr_images.specs.Drive.{GoesOn}
use Rattle.lr_images.specs.Cat as cat
use Rattle.lr_images.specs.Answered.{IsLogged, TellsReply, IsUnspoiled, SoundStoresAreUnspoiled, CreationsTellWhy, ReadingsTellWhy}

-- ---- nothing is spoiled

reply_spoiled : (reply : DepotReply) (k : KeyKind) → IsTold reply (told.Spoiled k) → reply ≡ Spoiled k
reply_spoiled (Spoiled q) k h = let same : q ≡ k = key_of (told.Spoiled k) (told.Spoiled q) h in ap (λ p. Spoiled p) same
  where
    kept : DepotTold → KeyKind → KeyKind
    kept (told.Spoiled p) d = p
    kept t d = d

    key_of : (a b : DepotTold) → told.Spoiled k ≡ told.Spoiled q → q ≡ k
    key_of a b e = sym (ap (λ t. kept t k) e)
reply_spoiled (Opened lease m) k h = absurd h
reply_spoiled (Fetched chunk) k h = absurd h
reply_spoiled (Moving session from to m) k h = absurd h
reply_spoiled (Copied chunk) k h = absurd h
reply_spoiled Nothing k h = absurd h
reply_spoiled OutOfMemory k h = absurd h
reply_spoiled reply k h = absurd (cc)

leads_more : (s : State) (m : Objects) (log : List LogEntry) (mid : Objects) (e : LogEntry) (call : DepotCall) (reply : DepotReply) (n : Objects) → LeadsTo s m log mid → DepotStep (run s log) e.caller call reply → Enters call reply e
    → StoreStep (run s log) e.caller call reply mid (Some n) → LeadsTo s m (log ++ e ∷ []) n
leads_more s m [] mid e call reply n leads d enters stores = (call, reply, n, d, enters, subst (λ q. StoreStep s e.caller call reply q (Some n)) leads stores, refl)
leads_more s m (x ∷ log) mid e call reply n leads d enters stores =
    (leads.0, leads.1, leads.2, leads.3, leads.4, leads.5, leads_more (after_entry s x) leads.2 log mid e call reply n leads.6 d enters stores)

run_one : (s : State) (log : List LogEntry) (e : LogEntry) → run s (log ++ e ∷ []) ≡ after_entry (run s log) e
run_one s [] e = refl
run_one s (x ∷ log) e = run_one (after_entry s x) log e

unspoiled_from : ((start : Start) (m n : Objects) (log : List LogEntry) → LedTo start m log n → HasChunks m → (c : ℕ) (call : DepotCall) (k : KeyKind) (o : Option Objects) → DepotStep (state start log) c call (Spoiled k) → StoreStep (state start log) c call (Spoiled k) n o → ⊥)
    → (start : Start) (m : Objects) → IsStart start → Mirrors m start.view → HasChunks m → (before : List LogEntry) (mid : Objects) (log : List LogEntry) (n : Objects) → LeadsTo (first_state start) m before mid → LeadsTo (run (first_state start) before) mid log n → IsUnspoiled log
unspoiled_from law start m begun mirrors had before mid [] n first rest = λ e one k is. absurd one
unspoiled_from law start m begun mirrors had before mid (x ∷ log) n first rest = λ e one k is. by (λ more after e one k is. unspoiled_from law start m begun mirrors had (before ++ x ∷ []) rest.2 log n more after e one k is) e k is one
  where
    more : LeadsTo (first_state start) m (before ++ x ∷ []) rest.2
    more = leads_more (first_state start) m before mid x rest.0 rest.1 rest.2 first rest.3 rest.4 rest.5

    after : LeadsTo (run (first_state start) (before ++ x ∷ [])) rest.2 log n
    after = subst (λ q. LeadsTo q rest.2 log n) (sym (run_one (first_state start) before x)) rest.6

    by : (LeadsTo (first_state start) m (before ++ x ∷ []) rest.2 → LeadsTo (run (first_state start) (before ++ x ∷ [])) rest.2 log n → IsUnspoiled log) → (e : LogEntry) (k : KeyKind) → e.reply ≡ told.Spoiled k → IsOneOf (x ∷ log) e → ⊥
    by next e k is (inl same) =
        let reply : rest.1 ≡ Spoiled k = reply_spoiled rest.1 k (subst (λ q. IsTold rest.1 q) (ap (λ (q : LogEntry). q.reply) (sym same) ∙ is) rest.4.told) in
        law start m mid before (record { begun = begun; mirrors = mirrors; leads = first }) had x.caller rest.0 k (Some rest.2) (subst (λ q. DepotStep (state start before) x.caller rest.0 q) reply rest.3)
        (subst (λ q. StoreStep (state start before) x.caller rest.0 q mid (Some rest.2)) reply rest.5)
    by next e k is (inr one) = next more after e one k is

pub unspoiled : ((start : Start) (m n : Objects) (log : List LogEntry) → LedTo start m log n → HasChunks m → (c : ℕ) (call : DepotCall) (k : KeyKind) (o : Option Objects) → DepotStep (state start log) c call (Spoiled k) → StoreStep (state start log) c call (Spoiled k) n o → ⊥)
    → SoundStoresAreUnspoiled
unspoiled law start m n log led had = unspoiled_from law start m led.begun led.mirrors had [] m log n refl led.leads

-- ---- the steps of a walk tell what it ended with

-- a step has this reply
HasReply : List Step → Reply → Type 0
HasReply steps reply = (s : Step) × IsOneOf steps s × (s.reply ≡ reply)

first_has : (first : Step) (tail steps : List Step) (reply : Reply) → steps ≡ first ∷ tail → first.reply ≡ reply → HasReply steps reply
unfolding HasReply
first_has first tail steps reply e is = (first, subst (λ l. IsOneOf l first) (sym e) (inl refl), is)

later_has : (first : Step) (tail steps : List Step) (reply : Reply) → steps ≡ first ∷ tail → HasReply tail reply → HasReply steps reply
unfolding HasReply
later_has first tail steps reply e (s, one, is) = (s, subst (λ l. IsOneOf l s) (sym e) (inr one), is)

is_left : (xs ys : List Step) (s : Step) → IsOneOf xs s → IsOneOf (xs ++ ys) s
is_left [] ys s h = absurd h
is_left (x ∷ xs) ys s (inl e) = inl e
is_left (x ∷ xs) ys s (inr h) = inr (is_left xs ys s h)

front_has : (front rest steps : List Step) (reply : Reply) → steps ≡ front ++ rest → HasReply front reply → HasReply steps reply
unfolding HasReply
front_has front rest steps reply e (s, one, is) = (s, subst (λ l. IsOneOf l s) (sym e) (is_left front rest s one), is)

leaves_end : (session : ℕ) (end ending : Ending) (steps : List Step) → Leaves session end steps ending → ending ≡ end
leaves_end session end ending steps (reply, first, tail, e, t, ends) = ends.1

reply_in : (r reply : Reply) → with_reply reply ≡ with_reply r → r ≡ reply
reply_in r reply e = cc

not_early : (session : ℕ) (reply : Reply) (steps : List Step) → LeavesEarly session steps (with_reply reply) → ⊥
not_early session reply steps (inl l) = let e = leaves_end session with_memory (with_reply reply) steps l in cc
not_early session reply steps (inr l) = let e = leaves_end session with_stop (with_reply reply) steps l in cc

at_manifest : (place : Place) (r reply : Reply) (tail : List Step) → after_manifest place r tail (with_reply reply) → r ≡ reply
at_manifest place (made root) reply tail h = absurd (let e : with_reply reply ≡ with_root root = h.1 in cc)
at_manifest place memory reply tail h = absurd (let e = leaves_end place.session with_memory (with_reply reply) tail h in cc)
at_manifest place r reply tail h = reply_in r reply (leaves_end place.session (with_reply r) (with_reply reply) tail h)

at_chunk : (place : Place) (more : List Step → Ending → Type 0) (r reply : Reply) (tail : List Step) → after_chunk place more r tail (with_reply reply) → (r ≡ reply) ⊎ more tail (with_reply reply)
at_chunk place more kept reply tail h = inr h
at_chunk place more memory reply tail h = absurd (let e = leaves_end place.session with_memory (with_reply reply) tail h in cc)
at_chunk place more r reply tail h = inl (reply_in r reply (leaves_end place.session (with_reply r) (with_reply reply) tail h))

puts_tell : (tenant : List ℕ) (place : Place) (parts : Parts) (given : List Input) (steps : List Step) (reply : Reply) → Puts tenant place parts given steps (with_reply reply) → HasReply steps reply
puts_tell tenant place parts [] steps reply h = absurd (not_early place.session reply steps h)
puts_tell tenant place parts (last ∷ given) steps reply (inr early) = absurd (not_early place.session reply steps early)
puts_tell tenant place parts (last ∷ given) steps reply (inl (r, first, tail, are, (is, answers), after)) =
    first_has first tail steps reply are (ap (λ (q : Step). q.reply) is ∙ at_manifest place r reply tail after)
puts_tell tenant place parts (piece plain ∷ given) steps reply (inr early) = absurd (not_early place.session reply steps early)
puts_tell tenant place parts (piece plain ∷ given) steps reply (inl (is_piece, (name, named, (r, first, tail, are, (is, answers), after)))) =
    by (λ more. puts_tell tenant place (with_piece place name plain parts) given tail reply more) (at_chunk place (Puts tenant place (with_piece place name plain parts) given) r reply tail after)
  where
    by : (Puts tenant place (with_piece place name plain parts) given tail (with_reply reply) → HasReply tail reply) → (r ≡ reply) ⊎ Puts tenant place (with_piece place name plain parts) given tail (with_reply reply) → HasReply steps reply
    by next (inl e) = first_has first tail steps reply are (ap (λ (q : Step). q.reply) is ∙ e)
    by next (inr more) = later_has first tail steps reply are (next more)

creates_tell : (image tenant : List ℕ) (given : List Input) (steps : List Step) (reply : Reply) → Creates image tenant given steps (with_reply reply) → HasReply steps reply
creates_tell image tenant given steps reply (r, first, tail, are, (is, answers), after) = by r (ap (λ (q : Step). q.reply) is) after
  where
    by : (r : Reply) → first.reply ≡ r → after_begin tenant r given tail (with_reply reply) → HasReply steps reply
    by (began session root salt number) e h = later_has first tail steps reply are (puts_tell tenant (place_of session root salt number) no_parts given tail reply h)
    by memory e h = absurd (let f : with_reply reply ≡ with_memory = h.1 in cc)
    by r e h = first_has first tail steps reply are (e ∙ reply_in r reply h.1)

cat_reply : (r reply : Reply) → cat.with_reply reply ≡ cat.with_reply r → r ≡ reply
cat_reply r reply e = cc

fetches_tell : (lease left index : ℕ) (steps : List Step) (reply : Reply) → cat.Fetches lease left index steps (cat.with_reply reply) → HasReply steps reply
fetches_tell lease zero index steps reply (inl h) = absurd (let e : cat.with_reply reply ≡ cat.with_bytes = h.1 in cc)
fetches_tell lease zero index steps reply (inr h) = absurd (let e : cat.with_reply reply ≡ cat.with_memory = h.1 in cc)
fetches_tell lease (suc left) index steps reply (inr h) = absurd (let e : cat.with_reply reply ≡ cat.with_memory = h.1 in cc)
fetches_tell lease (suc left) index steps reply (inl (r, first, tail, are, (is, answers), after)) = by (λ more. fetches_tell lease left (index + 1) tail reply more) r (ap (λ (q : Step). q.reply) is) after
  where
    by : (cat.Fetches lease left (index + 1) tail (cat.with_reply reply) → HasReply tail reply) → (r : Reply) → first.reply ≡ r → cat.after_fetch (cat.Fetches lease left (index + 1)) r tail (cat.with_reply reply) → HasReply steps reply
    by next (fetched name) e h = later_has first tail steps reply are (next h)
    by next memory e h = absurd (let f : cat.with_reply reply ≡ cat.with_memory = h.1 in cc)
    by next r e h = first_has first tail steps reply are (e ∙ cat_reply r reply h.1)

lease_tells : (tenant : List ℕ) (lease : ℕ) (m : ManifestFields) (steps : List Step) (reply : Reply) → cat.ReadsLease tenant lease m steps (cat.with_reply reply) → HasReply steps reply
lease_tells tenant lease m steps reply (inl h) = fetches_tell lease (length m.names) 0 steps reply h.1
lease_tells tenant lease m steps reply (inr (inl h)) = absurd (let e : cat.with_reply reply ≡ cat.with_wrong_key = h.1.1 in cc)
lease_tells tenant lease m steps reply (inr (inr h)) = absurd (let e : cat.with_reply reply ≡ cat.with_memory = h.1 in cc)

cats_tell : (image tenant : List ℕ) (steps : List Step) (reply : Reply) → cat.Cats image tenant steps (cat.with_reply reply) → HasReply steps reply
cats_tell image tenant steps reply (r, first, tail, are, (is, answers), after) = by r (ap (λ (q : Step). q.reply) is) after
  where
    by : (r : Reply) → first.reply ≡ r → cat.after_open tenant r tail (cat.with_reply reply) → HasReply steps reply
    by (opened lease m) e (front, rest, end, parts, reads, (r, closing, none, is_closing, told_closing, ends)) =
        let same : cat.with_reply reply ≡ end = ends.1 in
        later_has first tail steps reply are (front_has front rest tail reply parts (lease_tells tenant lease m front reply (subst (λ q. cat.ReadsLease tenant lease m front q) (sym same) reads)))
    by memory e h = absurd (let f : cat.with_reply reply ≡ cat.with_memory = h.1 in cc)
    by r e h = first_has first tail steps reply are (e ∙ cat_reply r reply h.1)

-- ---- and the log has an entry of each step

with_kept : (r : Reply) (s : Step) (rest : List Step) → IsLogged r → with_logged r s rest ≡ s ∷ rest
with_kept memory s rest h = absurd h
with_kept nothing s rest h = absurd h
with_kept r s rest h = refl

with_rest : (r : Reply) (x s : Step) (rest : List Step) → IsOneOf rest s → IsOneOf (with_logged r x rest) s
with_rest memory x s rest h = h
with_rest nothing x s rest h = h
with_rest r x s rest h = inr h

logged_has : (steps : List Step) (s : Step) → IsOneOf steps s → IsLogged s.reply → IsOneOf (logged steps) s
logged_has [] s h k = absurd h
logged_has (x ∷ steps) s (inl e) k = subst (λ l. IsOneOf l s) (sym (with_kept x.reply x (logged steps) (subst (λ (q : Step). IsLogged q.reply) e k))) (inl e)
logged_has (x ∷ steps) s (inr h) k = with_rest x.reply x s (logged steps) (logged_has steps s h k)

entry_of : (own : List LogEntry) (s : Step) → IsOneOf (each step_of own) s → (e : LogEntry) × IsOneOf own e × (step_of e ≡ s)
entry_of [] s h = absurd h
entry_of (x ∷ own) s (inl e) = (x, inl refl, sym e)
entry_of (x ∷ own) s (inr h) = let f = entry_of own s h in (f.0, inr f.1, f.2)

is_right : (xs ys : List LogEntry) (e : LogEntry) → IsOneOf ys e → IsOneOf (xs ++ ys) e
is_right [] ys e h = h
is_right (x ∷ xs) ys e h = inr (is_right xs ys e h)

tells : (before log : List LogEntry) (steps : List Step) (reply : Reply) → IsLogged reply → GoesOn before log steps → HasReply steps reply → TellsReply log reply
unfolding HasReply
tells before log steps reply k g (s, one, is) =
    let f = entry_of g.own s (subst (λ l. IsOneOf l s) (sym g.steps_of) (logged_has steps s one (subst IsLogged (sym is) k))) in
    (f.0, subst (λ l. IsOneOf l f.0) (sym g.after) (is_right before g.own f.0 f.1), ap (λ (q : Step). q.reply) f.2 ∙ is)

pub creations_tell : CreationsTellWhy
creations_tell before log image tenant pieces steps reply k g walk = tells before log steps reply k g (creates_tell image tenant (each piece pieces ++ last ∷ []) steps reply walk)

pub readings_tell : ReadingsTellWhy
readings_tell before log image tenant steps reply k g walk = tells before log steps reply k g (cats_tell image tenant steps reply walk)

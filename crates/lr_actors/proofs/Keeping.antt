-- the book of an actor: a step more, a result more
use Rattle.std.proofs.Common.{◌≡◌, inl, inr, ◌≤◌, ℕ, suc, ◌+◌, List, [], ◌∷◌, ◌++◌, length, map, Bool, true, false, cond, not, ◌&&◌, Some, refl, sym, ap, subst, ◌∙◌, arith, append-nil, length-append}
use Rattle.std.specs.Prelude.{slice_get, if◌then◌else◌}
use Rattle.std.specs.List.{filter}
use Rattle.std.proofs.lemmas.List.{append_assoc, length_push}
use Rattle.lr_object.specs.declared.id.ObjectId.{ObjectId}
use Rattle.lr_walk.specs.declared.trail.Answer.{Answer}
use Rattle.lr_walk.specs.declared.trail.Answer.TheVariants.{Cut, Unbegun}
use Rattle.lr_walk.specs.declared.trail.Did.{Did}
use Rattle.lr_walk.specs.declared.trail.JobResult.{JobResult}
use Rattle.lr_walk.specs.Steps.{on_device, Reply, by_cache, Step, step, object_of, is_memory}
use Rattle.lr_walk.specs.Cache as caches
use Rattle.lr_walk.specs.Device as devices
use Rattle.lr_walk.specs.Jobs.{Context}
use Rattle.lr_walk.specs.Trails.{Lists, is_same, Reads, is_entry_of, places_in, places, AreCounted}
use Rattle.lr_loader.specs.Progress as loads
use Rattle.lr_collector.specs.Progress as collections
use Rattle.lr_migrator.specs.Progress as migrations
use Rattle.lr_creator.specs.Progress as creations
use Rattle.lr_actors.specs.declared.single.Single.{Single}
use Rattle.lr_actors.specs.declared.running.Running.{Running}
use Rattle.lr_actors.specs.declared.running.Running.TheVariants.{Serves, Makes, Forges, Collects, Migrates, Creates}
use Rattle.lr_actors.specs.declared.tally.Tally.{Tally}
use Rattle.lr_actors.specs.declared.book.Book.{Book}
use Rattle.lr_actors.specs.declared.body.Setting.{Setting}
use Rattle.lr_actors.specs.Asked.{Asked, a_call, a_commit, an_end, no_call, Adds}
use Rattle.lr_actors.specs.Serving as serving
use Rattle.lr_actors.specs.Singles as singles
use Rattle.lr_actors.specs.Forging as forging
use Rattle.lr_actors.specs.Collecting as collecting
use Rattle.lr_actors.specs.Migrating as migrating
use Rattle.lr_actors.specs.Creating as creating
use Rattle.lr_actors.specs.Running.{asked, Admits, Went}
use Rattle.lr_actors.specs.Jobs.{Job, WalksJob, IsWalk}
use Rattle.lr_actors.specs.Records.{HasWalk}
use Rattle.lr_actors.specs.Accounts.{Grows, Account, places_of, with_step, with_result, Stands, StandsAt, IsEnd}
use Rattle.lr_actors.specs.Actor.{steps_in, IsCall, GrowsBy}
use Rattle.lr_actors.specs.Book.{account_of, did_at, IsBook, TakesPlace, Finished}
use Rattle.lr_actors.specs.Body.{context_of, jobs_of, is_busy, object_asked, StandsBook, path_after, Writes}
use Rattle.lr_actors.proofs.Accounted.{some_same, slice_get-more, reads_extended, places_end, walk_extended, places_more, stands_more, at_more, at_busy}

-- ---- counts

pub steps_push : (results : List JobResult) (r : JobResult) → steps_in (results ++ r ∷ []) ≡ steps_in results + length r.path.items
steps_push [] r = omega arith
steps_push (q ∷ results) r = omega (arith, steps_push results r)

length_map : {A B : Type 0} (f : A → B) (xs : List A) → length (map f xs) ≡ length xs
length_map f [] = refl
length_map f (x ∷ xs) = omega (arith, length_map f xs)

length_kept : {A : Type 0} (b : Bool) (x : A) (ys : List A) (n : ℕ) → length ys ≤ n → length (cond b (x ∷ ys) ys) ≤ suc n
length_kept true x ys n h = omega arith
length_kept false x ys n h = omega arith

length_filter : {A : Type 0} (p : A → Bool) (xs : List A) → length (filter p xs) ≤ length xs
length_filter p [] = omega arith
length_filter p (x ∷ xs) = length_kept (p x) x (filter p xs) (length xs) (length_filter p xs)

in_path : (o : ObjectId) (path : List Did) → length (places_in o path) ≤ length path
in_path o path = omega (arith, length_map (λ (d : Did). d.place) (filter (is_entry_of o) path), length_filter (is_entry_of o) path)

in_results : (o : ObjectId) (results : List JobResult) → length (places o results) ≤ steps_in results
in_results o [] = omega arith
in_results o (r ∷ results) = omega (arith, length-append (places_in o r.path.items) (places o results), in_path o r.path.items, in_results o results)

-- no object has more entries than there are steps
pub few_places : (o : ObjectId) (b : Book) → IsBook b → length (places_of o (account_of b)) ≤ b.made
few_places o b is = omega (arith, length-append (places o b.trail.results.items) (places_in o b.path.items), in_results o b.trail.results.items, in_path o b.path.items, is.made)

-- ---- a step more

length_cond : (c : Bool) (xs : List ℕ) (n : ℕ) → length (xs ++ cond c (n ∷ []) []) ≡ length xs + cond c 1 0
length_cond true xs n = length-append xs (n ∷ [])
length_cond false xs n = length-append xs []

split_not : (memory same : Bool) → ◌≡◌ {A = ℕ} (cond (not memory && same) 1 0) (cond memory 0 (cond same 1 0))
split_not true same = refl
split_not false same = refl

-- the entries of each object after a step
pub counted_more : (o : ObjectId) (a : Account) (d : Did) → length (places_of o (record { results = a.results; path = a.path ++ d ∷ [] })) ≡ length (places_of o a) + cond d.memory 0 (cond (is_same d.object o) 1 0)
counted_more o a d =
    ap (λ (l : List ℕ). length (places o a.results ++ l)) (places_more o a.path d)
    ∙ (ap length (sym (append_assoc (places o a.results) (places_in o a.path) (cond (is_entry_of o d) (d.place ∷ []) [])))
    ∙ (length_cond (is_entry_of o d) (places_of o a) d.place ∙ ap (λ (n : ℕ). length (places_of o a) + n) (split_not d.memory (is_same d.object o))))

-- ---- a result more

-- for any answer, cut and unbegun ones among them
stands_with : (context : Context) (lists : Lists) (jobs : List Job) (a : Account) (job : Job) (r : JobResult) → Stands context lists jobs a → slice_get jobs (length a.results) ≡ Some job → r.path.items ≡ a.path
    → HasWalk context lists job r.path.items r.answer → Stands context lists jobs (with_result a r)
stands_with context lists jobs a job r stands at e walk = record {
  done = λ i j q ej er. elim (slice_get-more a.results r i q er) [
    | inl h ↦ stands.done i j q ej h
    | inr h ↦
        let is : j ≡ job = some_same j job (sym at ∙ subst (λ (n : ℕ). slice_get jobs n ≡ Some j) h.0 ej) in
        rw (is, h.1) walk
  ];
  counted = λ o. subst AreCounted (sym (places_end o a r e)) (stands.counted o);
  whole = λ o. stands.whole o ∙ ap length (sym (places_end o a r e));
}

pub finished_stands : (s : Setting) (lists : Lists) (old new : Book) (answer : Answer) (job : Job) → Finished old answer new → slice_get (jobs_of s) (length old.trail.results.items) ≡ Some job
    → HasWalk (context_of s) lists job old.path.items answer → StandsBook s lists old → StandsBook s lists new
finished_stands s lists old new answer job f at walk stands =
    let walk2 : HasWalk (context_of s) lists job f.result.path.items f.result.answer = rw (f.walked, f.answer) walk in
    rw (f.results, f.path) (stands_with (context_of s) lists (jobs_of s) (account_of old) job f.result stands at f.walked walk2)

pub ended_walk : (context : Context) (lists : Lists) (job : Job) (path : List Did) (answer : Answer) (steps : List Step) → IsEnd answer → Reads lists path steps → WalksJob context job steps answer → HasWalk context lists job path answer
ended_walk context lists job path answer steps end reads walk = (steps, reads, is_walk context job steps answer end walk)
  where
    is_walk : (context : Context) (job : Job) (steps : List Step) (answer : Answer) → IsEnd answer → WalksJob context job steps answer → IsWalk context job steps answer
    is_walk context job steps Cut p w = absurd p
    is_walk context job steps Unbegun p w = absurd p
    is_walk context job steps answer p w = w

-- ---- the same lists

pub stands_same : (context : Context) (lists after : Lists) (jobs : List Job) (a : Account) → ((o : ObjectId) → after o ≡ lists o) → Stands context lists jobs a → Stands context after jobs a
stands_same context lists after jobs a same stands = record {
  done = λ i job r ej er. walk_extended context lists after job r.path.items r.answer (λ o. ([], same o ∙ sym (append-nil (lists o)))) (stands.done i job r ej er);
  counted = stands.counted;
  whole = λ o. ap length (same o) ∙ stands.whole o;
}

pub at_same : (lists after : Lists) (path : List Did) (r : Running) → ((o : ObjectId) → after o ≡ lists o) → StandsAt lists path r → StandsAt after path r
at_same lists after path r same at = (at.0, reads_extended lists after path at.0 (λ o. ([], same o ∙ sym (append-nil (lists o)))) at.1, at.2, at.3)

-- ---- what a reply adds

abbrev IsNotCommit : Asked → Type 0
IsNotCommit (a_commit device planned pages pieces) = ⊥
IsNotCommit a = Unit {0}

serving_busy : (w : serving.Work) (need : serving.Need) (holder : ℕ) → serving.Admits w need (by_cache (caches.busy holder)) → IsNotCommit (serving.asked w need)
serving_busy w serving.planning holder a = tt
serving_busy w (serving.loading chunk need left) holder a = by (loads.asked chunk.place need)
  where
    by : (q : loads.Asked) → IsNotCommit (serving.asked_by q)
    by (loads.a_call c) = tt
    by (loads.an_end end) = tt
serving_busy w (serving.committing pages pieces) holder a = absurd a
serving_busy w (serving.dropping answer) holder a = tt
serving_busy w (serving.ended answer) holder a = tt

single_busy : (single : Single) (need : singles.Need) → IsNotCommit (singles.asked single need)
single_busy single singles.asking = tt
single_busy single (singles.ended answer) = tt

forge_busy : (t : forging.Target) (need : forging.Need) → IsNotCommit (forging.asked t need)
forge_busy t (forging.putting stripe more answer) = tt
forge_busy t (forging.ended answer) = tt

collect_busy : (a : collections.Asked) → IsNotCommit (collecting.asked_by a)
collect_busy (collections.a_call c) = tt
collect_busy (collections.an_end end) = tt

migrate_busy : (a : migrations.Asked) → IsNotCommit (migrating.asked_by a)
migrate_busy (migrations.a_call c) = tt
migrate_busy (migrations.an_end end) = tt

create_busy : (a : creations.Asked) → IsNotCommit (creating.asked_by a)
create_busy (creations.a_call c) = tt
create_busy (creations.an_end end) = tt
create_busy creations.no_call = tt

busy_free : (r : Running) (holder : ℕ) → Admits r (by_cache (caches.busy holder)) → IsNotCommit (asked r)
busy_free (Serves device p) holder a = serving_busy p.work p.need holder a
busy_free (Makes p) holder a = single_busy p.single p.need
busy_free (Forges p) holder a = forge_busy p.target p.need
busy_free (Collects p) holder a = collect_busy (collections.asked p.job p.need)
busy_free (Migrates p) holder a = migrate_busy (migrations.asked p.image p.need)
busy_free (Creates p) holder a = create_busy (creations.asked p.create.need)

abbrev MayBeBusy : Asked → Reply → Type 0
MayBeBusy a (by_cache (caches.busy holder)) = IsNotCommit a
MayBeBusy a reply = Unit {0}

may_be_busy : (r : Running) (reply : Reply) → Admits r reply → MayBeBusy (asked r) reply
may_be_busy r (by_cache (caches.busy holder)) a = busy_free r holder a
may_be_busy r reply a = tt

-- nothing, where it is Busy, else one step of the object asked
pub record AddsOne (called : ObjectId) (told : Reply) (more : List Step) : Type 0 where
  pub one : Step
  pub is : more ≡ one ∷ []
  pub reply : one.reply ≡ told
  pub object : object_of one.call ≡ called

abbrev AddsBy : Bool → ObjectId → Reply → List Step → Type 0
AddsBy true object reply more = more ≡ []
AddsBy false object reply more = AddsOne object reply more

adds_by : (a : Asked) (reply : Reply) (more : List Step) → MayBeBusy a reply → Adds a reply more → AddsBy (is_busy reply) (object_asked a) reply more
adds_by (a_call c) (by_cache (caches.busy holder)) more m e = e
adds_by (a_call c) reply more m e = record { one = step c reply; is = e; reply = refl; object = refl }
adds_by (a_commit device planned pages pieces) (by_cache (caches.busy holder)) more m e = absurd m
adds_by (a_commit device planned pages pieces) reply more m e = record { one = step (on_device device (devices.commits (Some planned) e.0)) reply; is = e.2; reply = refl; object = refl }
adds_by (an_end answer) reply more m e = absurd e
adds_by no_call reply more m e = absurd e

-- some steps that it adds
pub adds_some : (a : Asked) (reply : Reply) → IsCall a → (more : List Step) × Adds a reply more
adds_some (a_call c) (by_cache (caches.busy holder)) h = ([], refl)
adds_some (a_call c) reply h = (step c reply ∷ [], refl)
adds_some (a_commit device planned pages pieces) reply h = (step (on_device device (devices.commits (Some planned) [])) reply ∷ [], ([], tt, refl))
adds_some (an_end answer) reply h = absurd h
adds_some no_call reply h = absurd h

-- the job under way and the account with what a reply added
abbrev pub Both : Setting → Lists → Account → Running → Type 0
Both s lists a r = Stands (context_of s) lists (jobs_of s) a × StandsAt lists a.path r

both_by : (b : Bool) (s : Setting) (lists later : Lists) (old : Book) (r new : Running) (reply : Reply) (more : List Step) → AddsBy b (object_asked (asked r)) reply more → Went r reply new → Adds (asked r) reply more → GrowsBy more lists later
    → Both s lists (account_of old) r
    → Both s later (record { results = old.trail.results.items; path = if b then old.path.items else (old.path.items ++ did_at (account_of old) (object_asked (asked r)) (is_memory reply) ∷ []) }) new
both_by true s lists later old r new reply more by went adds grows both =
    let same : (o : ObjectId) → later o ≡ lists o = subst (λ (m : List Step). GrowsBy m lists later) by grows in
    let none : Adds (asked r) reply [] = subst (λ (m : List Step). Adds (asked r) reply m) by adds in (
      stands_same (context_of s) lists later (jobs_of s) (account_of old) same both.0,
      at_same lists later old.path.items new same (at_busy lists old.path.items r new reply went none both.1),
    )
both_by false s lists later old r new reply more by went adds grows both =
    let x = by.one in
    let grows1 : Grows (is_memory x.reply) lists later x = subst (λ (m : List Step). GrowsBy m lists later) by.is grows in
    let adds1 : Adds (asked r) reply (x ∷ []) = subst (λ (m : List Step). Adds (asked r) reply m) by.is adds in
    let a1 : Stands (context_of s) later (jobs_of s) (with_step (account_of old) x) = stands_more (context_of s) lists later (jobs_of s) (account_of old) x both.0 grows1 in
    let a2 : StandsAt later (with_step (account_of old) x).path new = at_more (context_of s) lists later (jobs_of s) (account_of old) x r new reply both.0 grows1 went adds1 both.1 in
    let both2 : Both s later (with_step (account_of old) x) new = (a1, a2) in
    rw (← by.object, ← by.reply) both2

pub written_stands : (s : Setting) (lists later : Lists) (old new : Book) (object : ObjectId) (r after : Running) (reply : Reply) (more : List Step) → Writes old object reply new → object ≡ object_asked (asked r) → Admits r reply → Went r reply after
    → Adds (asked r) reply more → GrowsBy more lists later → StandsBook s lists old → StandsAt lists old.path.items r → StandsBook s later new × StandsAt later new.path.items after
written_stands s lists later old new object r after reply more w e a went adds grows stands at =
    let both = both_by (is_busy reply) s lists later old r after reply more (adds_by (asked r) reply more (may_be_busy r reply a) adds) went adds grows (stands, at) in
    let path : new.path.items ≡ path_after old (object_asked (asked r)) reply = w.path ∙ ap (λ (o : ObjectId). path_after old o reply) e in
    rw (ap (λ (v : _). v.items) w.results, path) both

-- ---- the book itself

pub book_finished : (old new : Book) (r : JobResult) → IsBook old → new.trail.results.items ≡ old.trail.results.items ++ r ∷ [] → r.path.items ≡ old.path.items → new.path.items ≡ [] → new.tally ≡ old.tally → new.made ≡ old.made → IsBook new
book_finished old new r is results walked path tally made = record {
  counted = λ o. rw (tally, results, path) (is.counted o ∙ ap length (sym (places_end o (account_of old) r walked)));
  made = rw (results, path, made) (omega (arith, is.made, steps_push old.trail.results.items r, ap length walked));
}

pub book_noted : (old new : Book) (object : ObjectId) (memory : Bool) → IsBook old → new.trail ≡ old.trail → new.path.items ≡ old.path.items ++ did_at (account_of old) object memory ∷ [] → TakesPlace old.tally object memory (did_at (account_of old) object memory).place new.tally
    → new.made ≡ old.made + 1 → IsBook new
book_noted old new object memory is trail path takes made = record {
  counted = λ o. rw (trail, path) (takes.counts o ∙ (ap (λ (n : ℕ). n + cond memory 0 (cond (is_same object o) 1 0)) (is.counted o) ∙ sym (counted_more o (account_of old) (did_at (account_of old) object memory))));
  made = rw (trail, path) (omega (arith, made, is.made, length_push old.path.items (did_at (account_of old) object memory)));
}

pub place_taken : (old : Book) (object : ObjectId) (memory : Bool) (place : ℕ) (tally : Tally) → IsBook old → TakesPlace old.tally object memory place tally → TakesPlace old.tally object memory (did_at (account_of old) object memory).place tally
place_taken old object memory place tally is t = record { place = ap (λ (n : ℕ). cond memory 0 n) (sym (is.counted object)); counts = t.counts; sized = t.sized }

pub place_is : (old : Book) (object : ObjectId) (memory : Bool) (place : ℕ) (tally : Tally) → IsBook old → TakesPlace old.tally object memory place tally → place ≡ (did_at (account_of old) object memory).place
place_is old object memory place tally is t = t.place ∙ ap (λ (n : ℕ). cond memory 0 n) (is.counted object)

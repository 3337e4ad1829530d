-- A creation and a migration end the session that they begin, and each of their calls fits it.
use Rattle.std.proofs.Common.{◌≡◌, ℕ, zero, suc, List, [], ◌∷◌, ◌++◌, length, map, Option, Some, None, refl, ap, sym, subst, ◌∙◌, inl, inr, append_assoc, append-nil}
use Rattle.std.specs.Prelude.{◌⊎◌, ⊤}
use Rattle.std.proofs.lemmas.List.Sums.{fold-append}
use Rattle.lr_manifest.specs.declared.name.Name.{Name}
use Rattle.lr_creator.specs.declared.create.Place.{Place}
use Rattle.lr_creator.specs.Creation as creations
use Rattle.lr_migrator.specs.Migration as migrations
use Rattle.lr_collector.specs.Progress as collecting
use Rattle.lr_collector.specs.declared.collect.CollectJob.{CollectJob}
use Rattle.lr_collector.specs.declared.collect.CollectJob.TheVariants as collect
use Rattle.lr_loader.specs.Progress as loads
use Rattle.lr_walk.specs.declared.trail.Answer.{Answer}
use Rattle.lr_walk.specs.Walk.{Walks, Ends}
use Rattle.lr_walk.specs.Steps.{Call, on_depot, Reply, by_device, by_cache, by_node, by_depot, Step, step, depot_step}
use Rattle.lr_walk.specs.Cache as caches
use Rattle.lr_walk.specs.Depot as depots
use Rattle.lr_walk.specs.Jobs.{Context}
use Rattle.lr_history.specs.Ready.{out_after, Fit}
use Rattle.lr_actors.specs.declared.single.Single.{Single}
use Rattle.lr_actors.specs.declared.single.Single.TheVariants as one
use Rattle.lr_actors.specs.declared.running.Running.{Running}
use Rattle.lr_actors.specs.declared.running.Running.TheVariants as running
use Rattle.lr_actors.specs.Asked.{Asked, a_call, a_commit, an_end, no_call, Adds}
use Rattle.lr_actors.specs.Serving as serving
use Rattle.lr_actors.specs.Singles as singles
use Rattle.lr_actors.specs.Forging as forging
use Rattle.lr_actors.specs.Collecting as gathers
use Rattle.lr_actors.specs.Migrating as moves
use Rattle.lr_actors.specs.Creating as makes
use Rattle.lr_actors.specs.Running as tasks
use Rattle.lr_actors.specs.Running.{Task, Walk, task_of, asked}
use Rattle.lr_actors.specs.Begun.{IsTaskOf}
use Rattle.lr_actors.specs.Jobs.{Job, calls, creates, migrates, collects, closes, evicts, drops_stripe, flips_stripe, forges, loses, WalksJob}
use Rattle.lr_world.specs.World.{session_by, session_after, session_of}
use Rattle.lr_world.proofs.Sessions.{FitsSession}

-- ---- steps that fit the session

abbrev after : Option ℕ → Call → Reply → Option ℕ
after session call reply = session_by session reply call

-- steps that begin with this session fit, and leave none
abbrev FitAll : Option ℕ → List Step → Type 0
FitAll session steps = Fit after FitsSession session steps None

fit_next : (session : Option ℕ) (steps : List Step) (next : Step) (later : List Step) → FitAll session (steps ++ next ∷ later) → FitsSession (out_after after session steps) next.call
fit_next session [] next later h = h.0
fit_next session (s ∷ steps) next later h = fit_next (after session s.call s.reply) steps next later h.1

fit_end : (session : Option ℕ) (steps : List Step) → FitAll session steps → out_after after session steps ≡ None
fit_end session [] h = h
fit_end session (s ∷ steps) h = fit_end (after session s.call s.reply) steps h.1

-- .. of the depot
abbrev FitOwn : Option ℕ → List depots.Step → Type 0
FitOwn session own = FitAll session (map depot_step own)

done : (own : List depots.Step) → own ≡ [] → FitOwn None own
done own e = subst (FitOwn None) (sym e) refl

asks_fit : {E : Type 0} (call : depots.Call) (more : depots.Reply → Walks depots.Step E) (session : Option ℕ) (own : List depots.Step) (end : E) → FitsSession session (on_depot call)
    → ((reply : depots.Reply) (tail : List depots.Step) → more reply tail end → FitOwn (session_by session (by_depot reply) (on_depot call)) tail) → depots.Asks call more own end → FitOwn session own
asks_fit call more session own end fits go w =
    let is : own ≡ depots.step call w.0 ∷ w.2 = w.3 ∙ ap (λ (s : depots.Step). s ∷ w.2) w.4.0 in
    subst (FitOwn session) (sym is) (fits, go w.0 w.2 w.5)

-- ---- a migration

left_fit : (session : ℕ) (end : migrations.Ending) (own : List depots.Step) (ending : migrations.Ending) → migrations.Leaves session end own ending → FitOwn (Some session) own
left_fit session end own ending w = asks_fit (depots.abandons session) (λ _. Ends end) (Some session) own ending refl (λ reply tail r. done tail r.0) w

finish_fit : (session : ℕ) (own : List depots.Step) (end : migrations.Ending) → migrations.Finishes session own end → FitOwn (Some session) own
finish_fit session own end w = asks_fit (depots.finishes_move session) (migrations.after_finish session) (Some session) own end tt by w
  where
    by : (reply : depots.Reply) (tail : List depots.Step) → migrations.after_finish session reply tail end → FitOwn (session_by (Some session) (by_depot reply) (on_depot (depots.finishes_move session))) tail
    by (depots.moved from to) tail r = done tail r.0
    by depots.memory tail r = left_fit session migrations.with_memory tail end r
    by reply tail r = left_fit session (migrations.with_reply reply) tail end r

put_fit : (session : ℕ) (name : List ℕ) (more : Walks depots.Step migrations.Ending) (own : List depots.Step) (end : migrations.Ending) → ((tail : List depots.Step) → more tail end → FitOwn (Some session) tail)
    → migrations.PutsOne session name more own end → FitOwn (Some session) own
put_fit session name more own end go w = asks_fit (depots.puts_chunk session name) (migrations.after_put session more) (Some session) own end tt by w
  where
    by : (reply : depots.Reply) (tail : List depots.Step) → migrations.after_put session more reply tail end → FitOwn (Some session) tail
    by depots.kept tail r = go tail r
    by depots.memory tail r = left_fit session migrations.with_memory tail end r
    by reply tail r = left_fit session (migrations.with_reply reply) tail end r

copy_fit : (session index : ℕ) (more : Walks depots.Step migrations.Ending) (own : List depots.Step) (end : migrations.Ending) → ((tail : List depots.Step) → more tail end → FitOwn (Some session) tail)
    → migrations.CopiesOne session index more own end → FitOwn (Some session) own
copy_fit session index more own end go w = asks_fit (depots.copies session index) (migrations.after_copy session more) (Some session) own end tt by w
  where
    by : (reply : depots.Reply) (tail : List depots.Step) → migrations.after_copy session more reply tail end → FitOwn (Some session) tail
    by (depots.copied name) tail r = put_fit session name more tail end go r
    by depots.memory tail r = left_fit session migrations.with_memory tail end r
    by reply tail r = left_fit session (migrations.with_reply reply) tail end r

copies_fit : (session index left : ℕ) (own : List depots.Step) (end : migrations.Ending) → migrations.Copies session index left own end → FitOwn (Some session) own
copies_fit session index zero own end w = finish_fit session own end w
copies_fit session index (suc left) own end w = copy_fit session index (migrations.Copies session (suc index) left) own end (λ tail r. copies_fit session (suc index) left tail end r) w

move_fit : (image : List ℕ) (own : List depots.Step) (end : migrations.Ending) → migrations.Migrates image own end → FitOwn None own
move_fit image own end w = asks_fit (depots.begins_move image) migrations.after_begin None own end refl by w
  where
    by : (reply : depots.Reply) (tail : List depots.Step) → migrations.after_begin reply tail end → FitOwn (session_by None (by_depot reply) (on_depot (depots.begins_move image))) tail
    by (depots.moving session from to fields) tail r = copies_fit session 0 (length fields.names) tail end r
    by depots.memory tail r = done tail r.0
    by reply tail r = done tail r.0

-- ---- a creation

leave_fit : (session : ℕ) (end : creations.Ending) (own : List depots.Step) (ending : creations.Ending) → creations.Leaves session end own ending → FitOwn (Some session) own
leave_fit session end own ending w = asks_fit (depots.abandons session) (λ _. Ends end) (Some session) own ending refl (λ reply tail r. done tail r.0) w

module _ (tenant : List ℕ) (place : Place) where
  early_fit : (own : List depots.Step) (end : creations.Ending) → creations.LeavesEarly place.session own end → FitOwn (Some place.session) own
  early_fit own end (inl w) = leave_fit place.session creations.with_memory own end w
  early_fit own end (inr w) = leave_fit place.session creations.with_stop own end w

  manifest_fit : (parts : creations.Parts) (own : List depots.Step) (end : creations.Ending) → creations.Finishes place (creations.fields_of tenant place parts) own end → FitOwn (Some place.session) own
  manifest_fit parts own end w =
      asks_fit (depots.puts_manifest place.session (creations.fields_of tenant place parts)) (creations.after_manifest place) (Some place.session) own end tt by w
    where
      by : (reply : depots.Reply) (tail : List depots.Step) → creations.after_manifest place reply tail end
          → FitOwn (session_by (Some place.session) (by_depot reply) (on_depot (depots.puts_manifest place.session (creations.fields_of tenant place parts)))) tail
      by (depots.made root) tail r = done tail r.0
      by depots.memory tail r = leave_fit place.session creations.with_memory tail end r
      by reply tail r = leave_fit place.session (creations.with_reply reply) tail end r

  chunk_fit : (name : Name) (more : Walks depots.Step creations.Ending) (own : List depots.Step) (end : creations.Ending) → ((tail : List depots.Step) → more tail end → FitOwn (Some place.session) tail)
      → creations.PutsOne place name more own end → FitOwn (Some place.session) own
  chunk_fit name more own end go w = asks_fit (depots.puts_chunk place.session name.bytes) (creations.after_chunk place more) (Some place.session) own end tt by w
    where
      by : (reply : depots.Reply) (tail : List depots.Step) → creations.after_chunk place more reply tail end → FitOwn (Some place.session) tail
      by depots.kept tail r = go tail r
      by depots.memory tail r = leave_fit place.session creations.with_memory tail end r
      by reply tail r = leave_fit place.session (creations.with_reply reply) tail end r

  puts_fit : (parts : creations.Parts) (given : List creations.Input) (own : List depots.Step) (end : creations.Ending) → creations.Puts tenant place parts given own end → FitOwn (Some place.session) own
  puts_fit parts [] own end w = early_fit own end w
  puts_fit parts (creations.last ∷ given) own end (inl w) = manifest_fit parts own end w
  puts_fit parts (creations.last ∷ given) own end (inr w) = early_fit own end w
  puts_fit parts (creations.piece plain ∷ given) own end (inl w) =
      chunk_fit w.1.0 (creations.Puts tenant place (creations.with_piece place w.1.0 plain parts) given) own end
      (λ tail r. puts_fit (creations.with_piece place w.1.0 plain parts) given tail end r) w.1.2
  puts_fit parts (creations.piece plain ∷ given) own end (inr w) = early_fit own end w

create_fit : (image tenant : List ℕ) (given : List creations.Input) (own : List depots.Step) (end : creations.Ending) → creations.Creates image tenant given own end → FitOwn None own
create_fit image tenant given own end w = asks_fit (depots.begins image) (λ reply. creations.after_begin tenant reply given) None own end refl by w
  where
    by : (reply : depots.Reply) (tail : List depots.Step) → creations.after_begin tenant reply given tail end → FitOwn (session_by None (by_depot reply) (on_depot (depots.begins image))) tail
    by (depots.began session root salt number) tail r = puts_fit tenant (creations.place_of session root salt number) creations.no_parts given tail end r
    by depots.memory tail r = done tail r.0
    by reply tail r = done tail r.0

-- ---- tasks and jobs

creates_all : (image tenant raw : List ℕ) (steps : List Step) (answer : Answer) → makes.Creating image tenant raw steps answer → FitAll None steps
creates_all image tenant raw steps answer w = subst (FitAll None) (sym w.1.1) (create_fit image tenant w.1.2.0 w.1.0 w.0 w.1.2.2)

moves_all : (image : List ℕ) (steps : List Step) (answer : Answer) → moves.Migrating image steps answer → FitAll None steps
moves_all image steps answer w = subst (FitAll None) (sym w.1.1) (move_fit image w.1.0 w.0 w.1.2)

-- a job that has ended has no session
pub walked_none : (context : Context) (job : Job) (task : Task) (steps : List Step) (answer : Answer) → IsTaskOf context job task → WalksJob context job steps answer → session_of task steps ≡ None
walked_none context (creates image tenant raw) task steps answer is w = rw is (by w)
  where
    by : WalksJob context (creates image tenant raw) steps answer → session_after steps ≡ None
    by (inl v) = fit_end None steps (creates_all image tenant raw steps answer v)
    by (inr v) = ap session_after v.0
walked_none context (migrates image) task steps answer is w = rw is (by w)
  where
    by : WalksJob context (migrates image) steps answer → session_after steps ≡ None
    by (inl v) = fit_end None steps (moves_all image steps answer v)
    by (inr v) = ap session_after v.0
walked_none context (calls device call) task steps answer is w = rw is.2 refl
walked_none context (collects job) task steps answer is w = rw is refl
walked_none context (closes device) task steps answer is w = rw is.2 refl
walked_none context (evicts host) task steps answer is w = rw is refl
walked_none context (drops_stripe index device chunk) task steps answer is w = rw is.2.2 refl
walked_none context (flips_stripe index device chunk at) task steps answer is w = rw is.2.2 refl
walked_none context (forges device chunk) task steps answer is w = rw is.2.2 refl
walked_none context (loses node) task steps answer is w = rw is refl

-- a creation or a migration
abbrev pub Makes : Task → Type 0
Makes (tasks.creates image tenant raw) = ⊤
Makes (tasks.migrates image) = ⊤
Makes task = ⊥

pub makes_or_none : (task : Task) → Makes task ⊎ ((steps : List Step) → session_of task steps ≡ None)
makes_or_none (tasks.creates image tenant raw) = inl tt
makes_or_none (tasks.migrates image) = inl tt
makes_or_none task = inr (λ steps. refl)

-- the next call of one fits its session
pub front_fits : (task : Task) (steps : List Step) (next : Step) (tail : List Step) (answer : Answer) → Makes task → Walk task ((steps ++ next ∷ []) ++ tail) answer → FitsSession (session_of task steps) next.call
front_fits (tasks.creates image tenant raw) steps next tail answer m w =
    fit_next None steps next tail (subst (FitAll None) (append_assoc steps (next ∷ []) tail) (creates_all image tenant raw ((steps ++ next ∷ []) ++ tail) answer w))
front_fits (tasks.migrates image) steps next tail answer m w =
    fit_next None steps next tail (subst (FitAll None) (append_assoc steps (next ∷ []) tail) (moves_all image ((steps ++ next ∷ []) ++ tail) answer w))
front_fits task steps next tail answer m w = absurd m

after_more : (steps : List Step) (s : Step) → session_after (steps ++ s ∷ []) ≡ session_by (session_after steps) s.reply s.call
after_more steps s = fold-append (λ (session : Option ℕ) (s : Step). session_by session s.reply s.call) None steps (s ∷ [])

-- its session after one step more
pub session_more : (task : Task) (steps : List Step) (s : Step) → Makes task → session_of task (steps ++ s ∷ []) ≡ session_by (session_of task steps) s.reply s.call
session_more (tasks.creates image tenant raw) steps s m = after_more steps s
session_more (tasks.migrates image) steps s m = after_more steps s
session_more task steps s m = absurd m

-- a reply of the depot
abbrev pub IsDepots : Reply → Type 0
IsDepots (by_depot reply) = ⊤
IsDepots reply = ⊥

-- the session stays where another object is called
elsewhere : (session : Option ℕ) (call : Call) (reply : Reply) → (IsDepots reply → ⊥) → session_by session reply call ≡ session
elsewhere session call (by_depot reply) n = absurd (n tt)
elsewhere session call (by_device reply) n = refl
elsewhere session call (by_cache reply) n = refl
elsewhere session call (by_node reply) n = refl

step_elsewhere : (task : Task) (steps : List Step) (s : Step) → (IsDepots s.reply → ⊥) → session_of task (steps ++ s ∷ []) ≡ session_of task steps
step_elsewhere task steps s n = by (makes_or_none task)
  where
    by : Makes task ⊎ ((steps : List Step) → session_of task steps ≡ None) → session_of task (steps ++ s ∷ []) ≡ session_of task steps
    by (inl m) = session_more task steps s m ∙ elsewhere (session_of task steps) s.call s.reply n
    by (inr none) = none (steps ++ s ∷ []) ∙ sym (none steps)

no_more : (task : Task) (steps more : List Step) → more ≡ [] → session_of task (steps ++ more) ≡ session_of task steps
no_more task steps more e = ap (session_of task) (ap (λ (l : List Step). steps ++ l) e ∙ append-nil steps)

one_more : (task : Task) (steps more : List Step) (s : Step) → more ≡ s ∷ [] → (IsDepots s.reply → ⊥) → session_of task (steps ++ more) ≡ session_of task steps
one_more task steps more s e n = ap (λ (l : List Step). session_of task (steps ++ l)) e ∙ step_elsewhere task steps s n

pub adds_elsewhere : (task : Task) (steps more : List Step) (a : Asked) (reply : Reply) → (IsDepots reply → ⊥) → Adds a reply more → session_of task (steps ++ more) ≡ session_of task steps
adds_elsewhere task steps more (a_call call) (by_cache (caches.busy holder)) n adds = no_more task steps more adds
adds_elsewhere task steps more (a_call call) reply n adds = one_more task steps more (step call reply) adds n
adds_elsewhere task steps more (a_commit device planned pages pieces) reply n adds = one_more task steps more _ adds.2 n
adds_elsewhere task steps more (an_end answer) reply n adds = absurd adds
adds_elsewhere task steps more no_call reply n adds = absurd adds

-- ---- who begins a session

abbrev pub IsBeginning : Asked → Type 0
IsBeginning (a_call (on_depot (depots.begins image))) = ⊤
IsBeginning (a_call (on_depot (depots.begins_move image))) = ⊤
IsBeginning a = ⊥

no_load : (place : _) (need : loads.Need) → IsBeginning (serving.asked_by (loads.asked place need)) → ⊥
no_load place loads.looking b = b
no_load place (loads.asking left held) b = b
no_load place loads.fetching b = b
no_load place (loads.putting chunk stripe more) b = b
no_load place (loads.filling chunk) b = b
no_load place (loads.giving end) b = b
no_load place (loads.ended end) b = b

no_service : (w : serving.Work) (need : serving.Need) → IsBeginning (serving.asked w need) → ⊥
no_service w serving.planning b = b
no_service w (serving.loading chunk need left) b = no_load chunk.place need b
no_service w (serving.committing pages pieces) b = b
no_service w (serving.dropping answer) b = b
no_service w (serving.ended answer) b = b

no_single : (s : Single) (need : singles.Need) → IsBeginning (singles.asked s need) → ⊥
no_single (one.Evict host) singles.asking b = b
no_single (one.Drop node x index) singles.asking b = b
no_single (one.Flip node x index at) singles.asking b = b
no_single (one.Lose node) singles.asking b = b
no_single (one.Close lease) singles.asking b = b
no_single s (singles.ended answer) b = b

no_forge : (t : forging.Target) (need : forging.Need) → IsBeginning (forging.asked t need) → ⊥
no_forge t (forging.putting stripe more answer) b = b
no_forge t (forging.ended answer) b = b

no_collection : (j : CollectJob) (need : collecting.Need) → IsBeginning (gathers.asked_by (collecting.asked j need)) → ⊥
no_collection (collect.Rotate bytes) (collecting.asking count) b = b
no_collection (collect.Withdraw image) (collecting.asking count) b = b
no_collection (collect.Expire root) (collecting.asking count) b = b
no_collection (collect.Delete root) (collecting.asking count) b = b
no_collection (collect.Sweep root) (collecting.asking count) b = b
no_collection (collect.Settle key) (collecting.asking count) b = b
no_collection j (collecting.ended end) b = b

pub begins_makes : (r : Running) → IsBeginning (asked r) → Makes (task_of r)
begins_makes (running.Serves device p) b = absurd (no_service p.work p.need b)
begins_makes (running.Makes p) b = absurd (no_single p.single p.need b)
begins_makes (running.Forges p) b = absurd (no_forge p.target p.need b)
begins_makes (running.Collects p) b = absurd (no_collection p.job p.need b)
begins_makes (running.Migrates p) b = tt
begins_makes (running.Creates p) b = tt

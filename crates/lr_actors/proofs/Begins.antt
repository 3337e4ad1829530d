-- how jobs begin
use Rattle.std.proofs.Common.{◌≡◌, ◌⊎◌, ◌≤◌, ◌+◌, ◌*◌, ℕ, List, [], ◌∷◌, length, Some, None, arith, refl, sym, ap, ◌∙◌, subst, true, inl, inr}
use Rattle.std.specs.List.{AllZip}
use Rattle.std.specs.Prelude.{slice_get}
use Rattle.lr_manifest.specs.declared.name.Name.{Name}
use Rattle.lr_device.specs.declared.call.DeviceCall.{DeviceCall}
use Rattle.lr_collector.specs.declared.collect.CollectJob.{CollectJob}
use Rattle.lr_collector.specs.Progress as collections
use Rattle.lr_migrator.specs.Progress as migrations
use Rattle.lr_creator.specs.Progress as creations
use Rattle.lr_walk.specs.declared.trail.Answer.{Answer}
use Rattle.lr_walk.specs.declared.trail.Answer.TheVariants.{NoChunk, Memory}
use Rattle.lr_walk.specs.Steps.{Step}
use Rattle.lr_walk.specs.Stripes.{node_at}
use Rattle.lr_walk.specs.Calls.{DevicePlace}
use Rattle.lr_walk.specs.Damage.{IsForged, DropsStripe, FlipsStripe, Forges}
use Rattle.lr_walk.specs.Jobs.{Context}
use Rattle.lr_actors.specs.declared.single.Single.{Single}
use Rattle.lr_actors.specs.declared.single.Single.TheVariants.{Drop, Flip}
use Rattle.lr_actors.specs.declared.running.Running.TheVariants as running
use Rattle.lr_actors.specs.Damaged.{IsDamage}
use Rattle.lr_actors.specs.Bounds.{collects_left, moves_ahead}
use Rattle.lr_actors.specs.Bounds as bounds
use Rattle.lr_actors.specs.Running as tasks
use Rattle.lr_actors.specs.Serving as serving
use Rattle.lr_actors.specs.Singles as singles
use Rattle.lr_actors.specs.Forging as forging
use Rattle.lr_actors.specs.Collecting as collecting
use Rattle.lr_actors.specs.Migrating as migrating
use Rattle.lr_actors.specs.Creating as creating
use Rattle.lr_actors.specs.Jobs.{Job, calls, creates, migrates, collects, drops_stripe, flips_stripe, forges, WalksJob, bound_of}
use Rattle.lr_actors.specs.Begun.{IsTaskOf, IsBegun}
use Rattle.lr_actors.proofs.Knowing.{starts_at, starts_known, starts_within}
use Rattle.lr_actors.proofs.Table.{damages_one, past}

pub begun_call : (context : Context) (device : ℕ) (place : DevicePlace) (call : DeviceCall) (p : serving.Progress) → slice_get context.devices device ≡ Some place
    → p.work ≡ record { nodes = context.nodes; device = device; place = place; call = call } → (p.need ≡ serving.planning) ⊎ (p.need ≡ serving.ended Memory) → p.ready ≡ true → serving.StandsFor p []
    → IsBegun context (calls device call) (running.Serves device p)
begun_call context device place call p at w n r s = record {
  ready = r;
  stands = s;
  knows = starts_known p.work p.need n;
  is = (place, at, ap tasks.serves w);
  task = λ steps answer walk. inl (place, at, subst (λ (k : serving.Work). serving.Serves k steps answer) w walk);
  home = (at ∙ ap (λ (k : serving.Work). Some k.place) (sym w), starts_at p.work p.need n);
  bound = starts_within p.need n;
}

pub begun_single : (context : Context) (job : Job) (single : Single) (p : singles.Progress) → p ≡ record { single = single; need = singles.asking; ready = true } → singles.StandsFor p []
    → IsTaskOf context job (tasks.makes single) → 1 ≤ bound_of job
    → ((steps : List Step) (answer : Answer) → singles.MakesOne single steps answer → WalksJob context job steps answer) → IsBegun context job (running.Makes p)
begun_single context job single p e s is one w = record {
  ready = rw e refl;
  stands = s;
  knows = tt;
  is = subst (λ (q : singles.Progress). IsTaskOf context job (tasks.makes q.single)) (sym e) is;
  task = λ steps answer walk. w steps answer (subst (λ (q : singles.Progress). singles.MakesOne q.single steps answer) e walk);
  home = tt;
  bound = subst (λ (q : singles.Progress). singles.steps_left q.need ≤ bound_of job) (sym e) one;
}

pub begun_drop : (context : Context) (device index chunk : ℕ) (place : DevicePlace) (name : Name) (node : ℕ) → slice_get context.devices device ≡ Some place → Some name ≡ slice_get place.names chunk → node ≡ node_at name index context.nodes
    → (steps : List Step) (answer : Answer) → singles.MakesOne (Drop node name index) steps answer → WalksJob context (drops_stripe index device chunk) steps answer
begun_drop context device index chunk place name node at e n steps answer w =
    inl (place, at, damages_one place chunk (DropsStripe context.nodes index) name steps answer (sym e) (subst (λ (m : ℕ). singles.MakesOne (Drop m name index) steps answer) n w))

pub task_drop : (context : Context) (device index chunk : ℕ) (place : DevicePlace) (name : Name) (node : ℕ) → slice_get context.devices device ≡ Some place → Some name ≡ slice_get place.names chunk → node ≡ node_at name index context.nodes
    → IsTaskOf context (drops_stripe index device chunk) (tasks.makes (Drop node name index))
task_drop context device index chunk place name node at e n = (place, at, (name, sym e, ap (λ (m : ℕ). tasks.makes (Drop m name index)) n))

pub begun_flip : (context : Context) (device index chunk byte : ℕ) (place : DevicePlace) (name : Name) (node : ℕ) → slice_get context.devices device ≡ Some place → Some name ≡ slice_get place.names chunk → node ≡ node_at name index context.nodes
    → (steps : List Step) (answer : Answer) → singles.MakesOne (Flip node name index byte) steps answer → WalksJob context (flips_stripe index device chunk byte) steps answer
begun_flip context device index chunk byte place name node at e n steps answer w =
    inl (place, at, damages_one place chunk (FlipsStripe context.nodes index byte) name steps answer (sym e) (subst (λ (m : ℕ). singles.MakesOne (Flip m name index byte) steps answer) n w))

pub task_flip : (context : Context) (device index chunk byte : ℕ) (place : DevicePlace) (name : Name) (node : ℕ) → slice_get context.devices device ≡ Some place → Some name ≡ slice_get place.names chunk → node ≡ node_at name index context.nodes
    → IsTaskOf context (flips_stripe index device chunk byte) (tasks.makes (Flip node name index byte))
task_flip context device index chunk byte place name node at e n = (place, at, (name, sym e, ap (λ (m : ℕ). tasks.makes (Flip m name index byte)) n))

zip_length : {A B : Type 0} (R : A → B → Type 0) (xs : List A) (ys : List B) → AllZip R xs ys → length ys ≡ length xs
zip_length R [] [] z = refl
zip_length R [] (y ∷ ys) z = absurd z
zip_length R (x ∷ xs) [] z = absurd z
zip_length R (x ∷ xs) (y ∷ ys) z = let h = zip_length R xs ys z.1 in omega arith

-- five stripes are put
forging_within : (t : forging.Target) (need : forging.Need) → forging.Begins t need → forging.steps_left need ≤ 5
forging_within t need (inl b) =
    let h = zip_length (IsForged t.name) (0 ∷ 1 ∷ 2 ∷ 3 ∷ 4 ∷ []) (b.0 ∷ b.1) b.2 in
    subst (λ (q : forging.Need). forging.steps_left q ≤ 5) (sym b.3) (omega arith)
forging_within t need (inr e) = subst (λ (q : forging.Need). forging.steps_left q ≤ 5) (sym e) (omega arith)

pub begun_forging : (context : Context) (device chunk : ℕ) (place : DevicePlace) (name : Name) (p : forging.Progress) → slice_get context.devices device ≡ Some place → Some name ≡ slice_get place.names chunk
    → p.target ≡ record { nodes = context.nodes; name = name } → forging.Begins (record { nodes = context.nodes; name = name }) p.need → p.ready ≡ true → forging.StandsFor p []
    → IsBegun context (forges device chunk) (running.Forges p)
begun_forging context device chunk place name p at e t b r s = record {
  ready = r;
  stands = s;
  knows = tt;
  is = (place, at, (name, sym e, ap tasks.forges t));
  task = λ steps answer walk. inl (place, at, damages_one place chunk (Forges context.nodes) name steps answer (sym e) (subst (λ (k : forging.Target). forging.Forging k steps answer) t walk));
  home = tt;
  bound = forging_within (record { nodes = context.nodes; name = name }) p.need b;
}

pub begun_past : (context : Context) (device chunk : ℕ) (place : DevicePlace) (job : Job) → slice_get context.devices device ≡ Some place → None ≡ slice_get place.names chunk → IsDamage device chunk job
    → WalksJob context job [] NoChunk
begun_past context device chunk place job at e is = past context device chunk place job at (sym e) is

pub begun_collection : (context : Context) (job : CollectJob) (p : collections.Progress) → p ≡ collections.start job → collecting.StandsFor p [] → IsBegun context (collects job) (running.Collects p)
begun_collection context job p e s = record {
  ready = rw e refl;
  stands = s;
  knows = tt;
  is = ap (λ (q : collections.Progress). tasks.collects q.job) e;
  task = λ steps answer walk. inl (subst (λ (q : collections.Progress). collecting.Collecting q.job steps answer) e walk);
  home = tt;
  bound = subst (λ (q : collections.Progress). collects_left q.need ≤ 1) (sym e) (omega arith);
}

pub begun_migration : (context : Context) (image : List ℕ) (p : migrations.Progress) → p ≡ migrations.start image → migrating.StandsFor p [] → IsBegun context (migrates image) (running.Migrates p)
begun_migration context image p e s = record {
  ready = rw e refl;
  stands = s;
  knows = tt;
  is = ap (λ (q : migrations.Progress). tasks.migrates q.image) e;
  task = λ steps answer walk. inl (subst (λ (q : migrations.Progress). migrating.Migrating q.image steps answer) e walk);
  home = tt;
  bound = subst (λ (q : migrations.Progress). moves_ahead q.need ≤ 2 * 20480 + 3) (sym e) (omega arith);
}

creation_within : (image tenant raw whole : List ℕ) → whole ≡ raw → bounds.steps_left (record { create = creations.start image tenant; raw = whole; given = 0 }) ≤ bounds.chunks (length raw) + 3
creation_within image tenant raw whole f = let h = ap length f in omega arith

pub begun_creation : (context : Context) (image tenant raw whole : List ℕ) (p : creating.Progress) → p ≡ record { create = creations.start image tenant; raw = whole; given = 0 } → whole ≡ raw → creating.StandsFor p []
    → IsBegun context (creates image tenant raw) (running.Creates p)
begun_creation context image tenant raw whole p e f s = record {
  ready = rw e refl;
  stands = s;
  knows = tt;
  is = ap (λ (q : creating.Progress). tasks.creates q.create.image q.create.tenant q.raw) e ∙ ap (tasks.creates image tenant) f;
  task = λ steps answer walk. inl (subst (λ (l : List ℕ). creating.Creating image tenant l steps answer) f (subst (λ (q : creating.Progress). creating.Makes q steps answer) e walk));
  home = tt;
  bound = subst (λ (q : creating.Progress). bounds.steps_left q ≤ bounds.chunks (length raw) + 3) (sym e) (creation_within image tenant raw whole f);
}

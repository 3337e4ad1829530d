-- Jobs that call no device take each reply of the called object.
use Rattle.std.proofs.Common.{◌≡◌, ℕ, List, Bool, Some, refl, ap, ◌∙◌, subst}
use Rattle.std.specs.FinMap as map
use Rattle.lr_manifest.specs.Manifest.{ManifestFields}
use Rattle.lr_stripe.specs.declared.stripe.Stripe.{Stripe}
use Rattle.lr_depot.specs.Depot.{state}
use Rattle.lr_depot.specs.declared.call.DepotCall.TheVariants as depot
use Rattle.lr_depot.specs.declared.call.DepotReply.{DepotReply}
use Rattle.lr_walk.specs.declared.trail.Answer.{Answer}
use Rattle.lr_walk.specs.Steps.{on_node, on_depot, Reply, by_device, by_cache, by_node, by_depot, Answers}
use Rattle.lr_walk.specs.Depot as depots
use Rattle.lr_walk.specs.Node as nodes
use Rattle.lr_walk.specs.Stripes.{node_at}
use Rattle.lr_walk.specs.Jobs.{Context}
use Rattle.lr_collector.specs.declared.collect.CollectJob.{CollectJob}
use Rattle.lr_collector.specs.Collection.{call_of}
use Rattle.lr_collector.specs.Progress as collections
use Rattle.lr_migrator.specs.Progress as migrations
use Rattle.lr_creator.specs.Progress as creations
use Rattle.lr_actors.specs.declared.action.ActorCall.{ActorCall}
use Rattle.lr_actors.specs.declared.action.ActorCall.TheVariants as call
use Rattle.lr_actors.specs.declared.action.ActorReply.{ActorReply}
use Rattle.lr_actors.specs.declared.action.ActorReply.TheVariants as by
use Rattle.lr_actors.specs.declared.single.Single.{Single}
use Rattle.lr_actors.specs.declared.single.Single.TheVariants as one
use Rattle.lr_actors.specs.Asked.{a_call, HandsCall, seen_reply}
use Rattle.lr_actors.specs.Singles as singles
use Rattle.lr_actors.specs.Forging as forging
use Rattle.lr_actors.specs.Collecting as collecting
use Rattle.lr_actors.specs.Migrating as migrating
use Rattle.lr_actors.specs.Creating as creating
use Rattle.lr_actors.specs.Running.{makes}
use Rattle.lr_actors.specs.Begun.{IsTaskOf}
use Rattle.lr_actors.specs.Jobs.{Job, calls, creates, migrates, collects, closes, evicts, drops_stripe, flips_stripe, forges, loses}
use Rattle.lr_replies.specs.Objects.{Objects, Replies}
use Rattle.lr_replies.specs.Replies.{HasLease}
use Rattle.lr_replies.proofs.Tables.{answers_call, never_ended, never_uncalled, closed_only}
use Rattle.lr_replies.proofs.Hands.{the_close}

-- ---- the lease of a close

abbrev IsThere : Objects → ℕ → Type 0
IsThere w lease = (image : List ℕ) × (m : ManifestFields) × (map.get (state w.start w.depot).desk.leases lease ≡ Some (image, m))

pub close_home : (w : Objects) (context : Context) (job : Job) (lease : ℕ) → IsTaskOf context job (makes (one.Close lease)) → HasLease w context job → IsThere w lease
close_home w context (closes device) lease t h =
    let out = h t.0 t.1 in
    (out.0, out.1, ap (map.get (state w.start w.depot).desk.leases) (same t.0.lease t.2) ∙ out.2)
  where
    same : (l : ℕ) → makes (one.Close lease) ≡ makes (one.Close l) → lease ≡ l
    same l e = cc
close_home w context (calls device k) lease t h = absurd (let e = t.2 in cc)
close_home w context (creates image tenant raw) lease t h = absurd (cc)
close_home w context (migrates image) lease t h = absurd (cc)
close_home w context (collects job) lease t h = absurd (cc)
close_home w context (evicts host) lease t h = absurd (cc)
close_home w context (drops_stripe index device chunk) lease t h = absurd (let e = t.2.2 in cc)
close_home w context (flips_stripe index device chunk at) lease t h = absurd (let e = t.2.2 in cc)
close_home w context (forges device chunk) lease t h = absurd (let e = t.2.2 in cc)
close_home w context (loses node) lease t h = absurd (cc)

module _ (w : Objects) (caller : ℕ) (asked : ActorCall) (reply : ActorReply) (replies : Replies w caller asked reply) where
  -- ---- jobs of one call

  close_by : (lease : ℕ) (r : Reply) → Answers (on_depot (depots.closes lease)) r → (r ≡ by_depot depots.no_lease → ⊥) → singles.AdmitsOne (one.Close lease) r
  close_by lease (by_depot depots.no_lease) a n = absurd (n refl)
  close_by lease (by_depot x) a n = a
  close_by lease (by_device x) a n = a
  close_by lease (by_cache x) a n = a
  close_by lease (by_node x) a n = a

  close_never : (lease : ℕ) → asked ≡ call.Depot (depot.Close lease) → IsThere w lease → seen_reply reply ≡ by_depot depots.no_lease → ⊥
  close_never lease e there f = told reply (subst (λ (k : ActorCall). Replies w caller k reply) e replies) f
    where
      no_lease : (x : DepotReply) → by_depot (depots.seen_reply x) ≡ by_depot depots.no_lease → depots.seen_reply x ≡ depots.no_lease
      no_lease x e = cc

      told : (r : ActorReply) → Replies w caller (call.Depot (depot.Close lease)) r → seen_reply r ≡ by_depot depots.no_lease → ⊥
      told (by.Depot x) d f = closed_only (state w.start w.depot) caller lease there.0 there.1 x there.2 d (no_lease x f)
      told r d f = absurd d

  one_by : (single : Single) → ((lease : ℕ) → single ≡ one.Close lease → IsThere w lease) → HandsCall asked (a_call (singles.call_of single)) → singles.AdmitsOne single (seen_reply reply)
  one_by (one.Close lease) there h =
      close_by lease (seen_reply reply) (answers_call w caller asked reply (on_depot (depots.closes lease)) h replies) (close_never lease (the_close asked lease h) (there lease refl))
  one_by single there h = answers_call w caller asked reply (singles.call_of single) h replies

  pub makes_takes : (single : Single) (need : singles.Need) → ((lease : ℕ) → single ≡ one.Close lease → IsThere w lease) → HandsCall asked (singles.asked single need) → singles.Admits single need (seen_reply reply)
  makes_takes single singles.asking there h = one_by single there h
  makes_takes single (singles.ended answer) there h = absurd (never_ended asked answer h)

  -- ---- forgings

  put_by : (n : ℕ) (stripe : Stripe) (more : List Stripe) (answer : Answer) (r : Reply) → Answers (on_node n (nodes.puts stripe)) r → forging.Admits (forging.putting stripe more answer) r
  put_by n stripe more answer (by_node nodes.kept) a = tt
  put_by n stripe more answer (by_node nodes.memory) a = tt
  put_by n stripe more answer (by_node x) a = absurd a
  put_by n stripe more answer r a = absurd a

  pub forges_takes : (target : forging.Target) (need : forging.Need) → HandsCall asked (forging.asked target need) → forging.Admits need (seen_reply reply)
  forges_takes target (forging.putting stripe more answer) h = put_by (node_at target.name stripe.index target.nodes) stripe more answer (seen_reply reply) (answers_call w caller asked reply (forging.put_of target stripe) h replies)
  forges_takes target (forging.ended answer) h = absurd (never_ended asked answer h)

  -- ---- jobs of the depot

  -- the reply is one of the depot's, by its table
  of_depot : (P : Reply → Type 0) (c : depots.Call) → ((x : depots.Reply) → depots.Answers c x → P (by_depot x)) → (r : Reply) → Answers (on_depot c) r → P r
  of_depot P c each (by_depot x) a = each x a
  of_depot P c each (by_device x) a = absurd a
  of_depot P c each (by_cache x) a = absurd a
  of_depot P c each (by_node x) a = absurd a

  told_by_depot : (P : Reply → Type 0) (c : depots.Call) → HandsCall asked (a_call (on_depot c)) → ((x : depots.Reply) → depots.Answers c x → P (by_depot x)) → P (seen_reply reply)
  told_by_depot P c h each = of_depot P c each (seen_reply reply) (answers_call w caller asked reply (on_depot c) h replies)

  abbrev collection : CollectJob → Bool → collections.Need → collections.Progress
  collection job ready need = record { job = job; need = need; ready = ready }

  pub collects_takes : (job : CollectJob) (ready : Bool) (need : collections.Need) → HandsCall asked (collecting.asked (collection job ready need)) → collecting.Admits (collection job ready need) (seen_reply reply)
  collects_takes job ready (collections.asking count) h = told_by_depot (collecting.Admits (collection job ready (collections.asking count))) (call_of job) h (λ x a. a)
  collects_takes job ready (collections.ended end) h = absurd (never_ended asked (collecting.collected end) h)

  abbrev migration : List ℕ → Bool → migrations.Need → migrations.Progress
  migration image ready need = record { image = image; need = need; ready = ready }

  pub migrates_takes : (image : List ℕ) (ready : Bool) (need : migrations.Need) → HandsCall asked (migrating.asked (migration image ready need)) → migrating.Admits (migration image ready need) (seen_reply reply)
  migrates_takes image ready (migrations.ended end) h = absurd (never_ended asked (migrating.migrated end) h)
  migrates_takes image ready migrations.beginning h = told_by_depot (migrating.Admits (migration image ready migrations.beginning)) (depots.begins_move image) h (λ x a. a)
  migrates_takes image ready (migrations.copying session index left) h = told_by_depot (migrating.Admits (migration image ready (migrations.copying session index left))) (depots.copies session index) h (λ x a. a)
  migrates_takes image ready (migrations.putting session index left name) h = told_by_depot (migrating.Admits (migration image ready (migrations.putting session index left name))) (depots.puts_chunk session name) h (λ x a. a)
  migrates_takes image ready (migrations.finishing session) h = told_by_depot (migrating.Admits (migration image ready (migrations.finishing session))) (depots.finishes_move session) h (λ x a. a)
  migrates_takes image ready (migrations.leaving session end) h = told_by_depot (migrating.Admits (migration image ready (migrations.leaving session end))) (depots.abandons session) h (λ x a. a)

  abbrev creation : creating.Progress → creations.Need → creating.Progress
  creation p need = record { create = record { image = p.create.image; tenant = p.create.tenant; need = need; ready = p.create.ready }; raw = p.raw; given = p.given }

  pub creates_takes : (p : creating.Progress) (need : creations.Need) → HandsCall asked (creating.asked (creation p need)) → creating.Admits (creation p need) (seen_reply reply)
  creates_takes p (creations.ended end) h = absurd (never_ended asked (creating.created end) h)
  creates_takes p (creations.wanting place parts) h = absurd (never_uncalled asked h)
  creates_takes p (creations.beginning image) h = told_by_depot (creating.Admits (creation p (creations.beginning image))) (depots.begins image) h (λ x a. a)
  creates_takes p (creations.putting place parts name) h = told_by_depot (creating.Admits (creation p (creations.putting place parts name))) (depots.puts_chunk place.session name.bytes) h (λ x a. a)
  creates_takes p (creations.finishing place fields) h = told_by_depot (creating.Admits (creation p (creations.finishing place fields))) (depots.puts_manifest place.session fields) h (λ x a. a)
  creates_takes p (creations.leaving session end) h = told_by_depot (creating.Admits (creation p (creations.leaving session end))) (depots.abandons session) h (λ x a. a)

-- A job other than a device call ends with a spoiled key only where the depot told so.
use Rattle.std.proofs.Common.{◌≡◌, ℕ, zero, suc, List, [], ◌∷◌, length, map, Option, Some, None, slice_get, refl, sym, ap, subst, inl, inr}
use Rattle.std.specs.List.{AllByRecursion}
use Rattle.lr_spec.specs.Rose.{next_count}
use Rattle.lr_manifest.specs.declared.name.Name.{Name}
use Rattle.lr_stripe.specs.declared.stripe.Stripe.{Stripe}
use Rattle.lr_origin.specs.declared.key.KeyKind.{KeyKind}
use Rattle.lr_walk.specs.declared.trail.Answer.{Answer}
use Rattle.lr_walk.specs.declared.trail.Answer.TheVariants.{Dropped, Flipped, Forged, Memory, Spoiled}
use Rattle.lr_walk.specs.Walk.{Walks, Ends}
use Rattle.lr_walk.specs.Steps.{Call, on_cache, on_node, on_depot, Reply, by_cache, by_node, by_depot, Step, Asks, depot_step}
use Rattle.lr_walk.specs.Stripes.{node_at}
use Rattle.lr_walk.specs.Cache as caches
use Rattle.lr_walk.specs.Node as nodes
use Rattle.lr_walk.specs.Depot as depots
use Rattle.lr_walk.specs.Calls.{DevicePlace}
use Rattle.lr_walk.specs.Damage.{after_evict, after_loss, Damages, after_damage, DropsStripe, FlipsStripe, forged_so_far, PutsForged, Forges}
use Rattle.lr_walk.specs.Jobs.{Context, after_depot}
use Rattle.lr_collector.specs.declared.collect.CollectJob.{CollectJob}
use Rattle.lr_collector.specs.declared.collect.CollectJob.TheVariants as collect
use Rattle.lr_collector.specs.Collection as collections
use Rattle.lr_migrator.specs.Migration as migrations
use Rattle.lr_creator.specs.declared.create.Place.{Place}
use Rattle.lr_creator.specs.Creation as creations
use Rattle.lr_history.specs.Jobs.{JobSeen}
use Rattle.lr_actors.specs.Lifted.{OfDepot, answer_to}
use Rattle.lr_actors.specs.Collecting.{collected, Stops}
use Rattle.lr_actors.specs.Migrating.{migrated}
use Rattle.lr_actors.specs.Creating.{created, CreatesAll}
use Rattle.lr_actors.specs.Jobs.{Job, calls, creates, migrates, collects, closes, evicts, drops_stripe, flips_stripe, forges, loses, MakesJob}
use Rattle.lr_replies.specs.Seen.{seen_job}
use Rattle.lr_replies.specs.Unspoiled.{IsClean, IsUnspoiled, SpoiledJobsWereTold}

-- ---- walks of the depot's jobs

abbrev AreClean : List depots.Step → Type 0
AreClean own = AllByRecursion (λ (s : depots.Step). IsClean s.reply) own

not_clean : (r : depots.Reply) (key : KeyKind) → IsClean r → r ≡ depots.spoiled key → ⊥
not_clean r key h e = subst IsClean e h

asks_none : {E : Type 0} (call : depots.Call) (after : depots.Reply → Walks depots.Step E) (own : List depots.Step) (end : E) → AreClean own
    → ((reply : depots.Reply) (tail : List depots.Step) → IsClean reply → AreClean tail → after reply tail end → ⊥) → depots.Asks call after own end → ⊥
asks_none call after own end clean goes w =
    let both = subst AreClean w.3 clean in
    goes w.0 w.2 (subst (λ (s : depots.Step). IsClean s.reply) w.4.0 both.0) both.1 w.5

left_with : {E : Type 0} (session : ℕ) (last : E) (own : List depots.Step) (end : E) → depots.Asks (depots.abandons session) (λ _. Ends last) own end → end ≡ last
left_with session last own end w = w.5.1

module _ (key : KeyKind) where
  abbrev bad : depots.Reply
  bad = depots.spoiled key

  -- ---- collections

  collection_end : (r : depots.Reply) → collections.with_reply bad ≡ collections.end_of r → r ≡ bad
  collection_end depots.memory e = absurd (cc)
  collection_end r e = cc

  sweep_end : (count : ℕ) (r : depots.Reply) → collections.with_reply bad ≡ collections.sweep_end count r → r ≡ bad
  sweep_end count depots.swept e = absurd (cc)
  sweep_end count depots.memory e = absurd (cc)
  sweep_end count r e = cc

  removes_none : (root count left : ℕ) (own : List depots.Step) → AreClean own → collections.Removes root count left own (collections.with_reply bad) → ⊥
  removes_none root count zero own clean w = asks_none (depots.sweeps root) (collections.after_last count) own (collections.with_reply bad) clean by w
    where
      by : (r : depots.Reply) (tail : List depots.Step) → IsClean r → AreClean tail → collections.after_last count r tail (collections.with_reply bad) → ⊥
      by (depots.removed k) tail h t x = x
      by r tail h t x = not_clean r key h (sweep_end count r x.1)
  removes_none root count (suc left) own clean w =
      asks_none (depots.sweeps root) (collections.after_removal (collections.Removes root (next_count count) left)) own (collections.with_reply bad) clean (by (λ tail t x. removes_none root (next_count count) left tail t x)) w
    where
      by : ((tail : List depots.Step) → AreClean tail → collections.Removes root (next_count count) left tail (collections.with_reply bad) → ⊥)
          → (r : depots.Reply) (tail : List depots.Step) → IsClean r → AreClean tail → collections.after_removal (collections.Removes root (next_count count) left) r tail (collections.with_reply bad) → ⊥
      by more (depots.removed k) tail h t x = more tail t x
      by more r tail h t x = x

  one_none : (job : CollectJob) (own : List depots.Step) → AreClean own → depots.Asks (collections.call_of job) (λ reply. Ends (collections.end_of reply)) own (collections.with_reply bad) → ⊥
  one_none job own clean w =
      asks_none (collections.call_of job) (λ reply. Ends (collections.end_of reply)) own (collections.with_reply bad) clean (λ r tail h t x. not_clean r key h (collection_end r x.1)) w

  collects_none : (job : CollectJob) (own : List depots.Step) → AreClean own → collections.Collects job own (collections.with_reply bad) → ⊥
  collects_none (collect.Sweep root) own clean w = removes_none root 0 w.0 own clean w.1
  collects_none (collect.Rotate bytes) own clean w = one_none (collect.Rotate bytes) own clean w
  collects_none (collect.Withdraw image) own clean w = one_none (collect.Withdraw image) own clean w
  collects_none (collect.Expire root) own clean w = one_none (collect.Expire root) own clean w
  collects_none (collect.Delete root) own clean w = one_none (collect.Delete root) own clean w
  collects_none (collect.Settle k) own clean w = one_none (collect.Settle k) own clean w

  -- ---- migrations

  migration_reply : (r : depots.Reply) → migrations.with_reply bad ≡ migrations.with_reply r → r ≡ bad
  migration_reply r e = cc

  migration_memory : migrations.with_reply bad ≡ migrations.with_memory → ⊥
  migration_memory e = absurd (cc)

  module _ (session : ℕ) where
    leaves_memory : (tail : List depots.Step) → migrations.Leaves session migrations.with_memory tail (migrations.with_reply bad) → ⊥
    leaves_memory tail x = migration_memory (left_with session migrations.with_memory tail (migrations.with_reply bad) x)

    leaves_reply : (r : depots.Reply) (tail : List depots.Step) → IsClean r → migrations.Leaves session (migrations.with_reply r) tail (migrations.with_reply bad) → ⊥
    leaves_reply r tail h x = not_clean r key h (migration_reply r (left_with session (migrations.with_reply r) tail (migrations.with_reply bad) x))

    finish_none : (own : List depots.Step) → AreClean own → migrations.Finishes session own (migrations.with_reply bad) → ⊥
    finish_none own clean w = asks_none (depots.finishes_move session) (migrations.after_finish session) own (migrations.with_reply bad) clean by w
      where
        by : (r : depots.Reply) (tail : List depots.Step) → IsClean r → AreClean tail → migrations.after_finish session r tail (migrations.with_reply bad) → ⊥
        by (depots.moved from to) tail h t x = absurd (let e : migrations.with_reply bad ≡ migrations.with_roots from to = x.1 in cc)
        by depots.memory tail h t x = leaves_memory tail x
        by r tail h t x = leaves_reply r tail h x

    put_none : (name : List ℕ) (more : Walks depots.Step migrations.Ending) (own : List depots.Step) → AreClean own
        → ((tail : List depots.Step) → AreClean tail → more tail (migrations.with_reply bad) → ⊥) → migrations.PutsOne session name more own (migrations.with_reply bad) → ⊥
    put_none name more own clean goes w = asks_none (depots.puts_chunk session name) (migrations.after_put session more) own (migrations.with_reply bad) clean by w
      where
        by : (r : depots.Reply) (tail : List depots.Step) → IsClean r → AreClean tail → migrations.after_put session more r tail (migrations.with_reply bad) → ⊥
        by depots.kept tail h t x = goes tail t x
        by depots.memory tail h t x = leaves_memory tail x
        by r tail h t x = leaves_reply r tail h x

    copy_none : (index : ℕ) (more : Walks depots.Step migrations.Ending) (own : List depots.Step) → AreClean own
        → ((tail : List depots.Step) → AreClean tail → more tail (migrations.with_reply bad) → ⊥) → migrations.CopiesOne session index more own (migrations.with_reply bad) → ⊥
    copy_none index more own clean goes w = asks_none (depots.copies session index) (migrations.after_copy session more) own (migrations.with_reply bad) clean by w
      where
        by : (r : depots.Reply) (tail : List depots.Step) → IsClean r → AreClean tail → migrations.after_copy session more r tail (migrations.with_reply bad) → ⊥
        by (depots.copied name) tail h t x = put_none name more tail t goes x
        by depots.memory tail h t x = leaves_memory tail x
        by r tail h t x = leaves_reply r tail h x

    copies_none : (index left : ℕ) (own : List depots.Step) → AreClean own → migrations.Copies session index left own (migrations.with_reply bad) → ⊥
    copies_none index zero own clean w = finish_none own clean w
    copies_none index (suc left) own clean w = copy_none index (migrations.Copies session (suc index) left) own clean (λ tail t x. copies_none (suc index) left tail t x) w

  migrates_none : (image : List ℕ) (own : List depots.Step) → AreClean own → migrations.Migrates image own (migrations.with_reply bad) → ⊥
  migrates_none image own clean w = asks_none (depots.begins_move image) migrations.after_begin own (migrations.with_reply bad) clean by w
    where
      by : (r : depots.Reply) (tail : List depots.Step) → IsClean r → AreClean tail → migrations.after_begin r tail (migrations.with_reply bad) → ⊥
      by (depots.moving session from to fields) tail h t x = copies_none session 0 (length fields.names) tail t x
      by depots.memory tail h t x = migration_memory x.1
      by r tail h t x = not_clean r key h (migration_reply r x.1)

  -- ---- creations

  creation_reply : (r : depots.Reply) → creations.with_reply bad ≡ creations.with_reply r → r ≡ bad
  creation_reply r e = cc

  creation_memory : creations.with_reply bad ≡ creations.with_memory → ⊥
  creation_memory e = absurd (cc)

  module _ (tenant : List ℕ) (place : Place) where
    leaves_early : (own : List depots.Step) → creations.LeavesEarly place.session own (creations.with_reply bad) → ⊥
    leaves_early own (inl w) = creation_memory (left_with place.session creations.with_memory own (creations.with_reply bad) w)
    leaves_early own (inr w) = absurd (let e : creations.with_reply bad ≡ creations.with_stop = left_with place.session creations.with_stop own (creations.with_reply bad) w in cc)

    creation_left : (tail : List depots.Step) → creations.Leaves place.session creations.with_memory tail (creations.with_reply bad) → ⊥
    creation_left tail x = creation_memory (left_with place.session creations.with_memory tail (creations.with_reply bad) x)

    creation_answered : (r : depots.Reply) (tail : List depots.Step) → IsClean r → creations.Leaves place.session (creations.with_reply r) tail (creations.with_reply bad) → ⊥
    creation_answered r tail h x = not_clean r key h (creation_reply r (left_with place.session (creations.with_reply r) tail (creations.with_reply bad) x))

    manifest_none : (parts : creations.Parts) (own : List depots.Step) → AreClean own → creations.Finishes place (creations.fields_of tenant place parts) own (creations.with_reply bad) → ⊥
    manifest_none parts own clean w =
        asks_none (depots.puts_manifest place.session (creations.fields_of tenant place parts)) (creations.after_manifest place) own (creations.with_reply bad) clean by w
      where
        by : (r : depots.Reply) (tail : List depots.Step) → IsClean r → AreClean tail → creations.after_manifest place r tail (creations.with_reply bad) → ⊥
        by (depots.made root) tail h t x = absurd (let e : creations.with_reply bad ≡ creations.with_root root = x.1 in cc)
        by depots.memory tail h t x = creation_left tail x
        by r tail h t x = creation_answered r tail h x

    chunk_none : (name : Name) (more : Walks depots.Step creations.Ending) (own : List depots.Step) → AreClean own
        → ((tail : List depots.Step) → AreClean tail → more tail (creations.with_reply bad) → ⊥) → creations.PutsOne place name more own (creations.with_reply bad) → ⊥
    chunk_none name more own clean goes w = asks_none (depots.puts_chunk place.session name.bytes) (creations.after_chunk place more) own (creations.with_reply bad) clean by w
      where
        by : (r : depots.Reply) (tail : List depots.Step) → IsClean r → AreClean tail → creations.after_chunk place more r tail (creations.with_reply bad) → ⊥
        by depots.kept tail h t x = goes tail t x
        by depots.memory tail h t x = creation_left tail x
        by r tail h t x = creation_answered r tail h x

    puts_none : (parts : creations.Parts) (given : List creations.Input) (own : List depots.Step) → AreClean own → creations.Puts tenant place parts given own (creations.with_reply bad) → ⊥
    puts_none parts [] own clean w = leaves_early own w
    puts_none parts (creations.last ∷ given) own clean (inl w) = manifest_none parts own clean w
    puts_none parts (creations.last ∷ given) own clean (inr w) = leaves_early own w
    puts_none parts (creations.piece plain ∷ given) own clean (inl w) =
        chunk_none w.1.0 (creations.Puts tenant place (creations.with_piece place w.1.0 plain parts) given) own clean
        (λ tail t x. puts_none (creations.with_piece place w.1.0 plain parts) given tail t x) w.1.2
    puts_none parts (creations.piece plain ∷ given) own clean (inr w) = leaves_early own w

  creates_none : (image tenant : List ℕ) (given : List creations.Input) (own : List depots.Step) → AreClean own → creations.Creates image tenant given own (creations.with_reply bad) → ⊥
  creates_none image tenant given own clean w = asks_none (depots.begins image) (λ reply. creations.after_begin tenant reply given) own (creations.with_reply bad) clean by w
    where
      by : (r : depots.Reply) (tail : List depots.Step) → IsClean r → AreClean tail → creations.after_begin tenant r given tail (creations.with_reply bad) → ⊥
      by (depots.began session root salt number) tail h t x = puts_none tenant (creations.place_of session root salt number) creations.no_parts given tail t x
      by depots.memory tail h t x = creation_memory x.1
      by r tail h t x = not_clean r key h (creation_reply r x.1)

  -- ---- endings as answers

  abbrev told_key : Answer → KeyKind
  told_key (Spoiled k) = k
  told_key answer = key

  reply_told : (r : depots.Reply) → Spoiled key ≡ answer_to r → r ≡ bad
  reply_told (depots.made root) e = absurd (cc)
  reply_told (depots.rotated root) e = absurd (cc)
  reply_told (depots.moved from to) e = absurd (cc)
  reply_told depots.withdrawn e = absurd (cc)
  reply_told depots.expired e = absurd (cc)
  reply_told depots.deleted e = absurd (cc)
  reply_told depots.there e = absurd (cc)
  reply_told depots.absent e = absurd (cc)
  reply_told depots.closed e = absurd (cc)
  reply_told depots.no_image e = absurd (cc)
  reply_told depots.no_root e = absurd (cc)
  reply_told depots.taken e = absurd (cc)
  reply_told depots.full e = absurd (cc)
  reply_told depots.roots_end e = absurd (cc)
  reply_told (depots.overtaken home) e = absurd (cc)
  reply_told depots.not_expired e = absurd (cc)
  reply_told depots.not_deleted e = absurd (cc)
  reply_told depots.no_doubt e = absurd (cc)
  reply_told (depots.serves image) e = absurd (cc)
  reply_told (depots.session_on session) e = absurd (cc)
  reply_told (depots.doubt k) e = absurd (cc)
  reply_told (depots.not_retired_home home) e = absurd (cc)
  reply_told depots.not_retired e = absurd (cc)
  reply_told (depots.fault k) e = absurd (cc)
  reply_told (depots.spoiled k) e = ap (λ (q : KeyKind). depots.spoiled q) (sym (ap told_key e))
  reply_told r e = absurd (cc)

  collection_told : (end : collections.Ending) → Spoiled key ≡ collected end → end ≡ collections.with_reply bad
  collection_told (collections.with_reply r) e = ap (λ (q : depots.Reply). collections.with_reply q) (reply_told r e)
  collection_told (collections.with_count count) e = absurd (cc)
  collection_told collections.with_memory e = absurd (cc)

  migration_told : (end : migrations.Ending) → Spoiled key ≡ migrated end → end ≡ migrations.with_reply bad
  migration_told (migrations.with_reply r) e = ap (λ (q : depots.Reply). migrations.with_reply q) (reply_told r e)
  migration_told (migrations.with_roots from to) e = absurd (cc)
  migration_told migrations.with_memory e = absurd (cc)

  creation_told : (end : creations.Ending) → Spoiled key ≡ created end → end ≡ creations.with_reply bad
  creation_told (creations.with_reply r) e = ap (λ (q : depots.Reply). creations.with_reply q) (reply_told r e)
  creation_told (creations.with_root root) e = absurd (cc)
  creation_told creations.with_memory e = absurd (cc)
  creation_told creations.with_stop e = absurd (cc)

  -- ---- the steps of a job

  abbrev AreUnspoiled : List Step → Type 0
  AreUnspoiled steps = AllByRecursion (λ (s : Step). IsUnspoiled s.reply) steps

  lowered : (own : List depots.Step) → AreUnspoiled (map depot_step own) → AreClean own
  lowered [] h = tt
  lowered (s ∷ own) h = (h.0, lowered own h.1)

  of_depot_none : {E : Type 0} (answer_of : E → Answer) (walk : Walks depots.Step E) (with_bad : E) (steps : List Step) → ((end : E) → Spoiled key ≡ answer_of end → end ≡ with_bad)
      → ((own : List depots.Step) → AreClean own → walk own with_bad → ⊥) → AreUnspoiled steps → OfDepot answer_of walk steps (Spoiled key) → ⊥
  of_depot_none answer_of walk with_bad steps ends none clean w =
      let own = w.1.0 in
      none own (lowered own (subst AreUnspoiled w.1.1 clean)) (subst (walk own) (ends w.0 w.2) w.1.2)

  stops_none : (job : CollectJob) (steps : List Step) → Stops job steps (Spoiled key) → ⊥
  stops_none (collect.Sweep root) steps w = absurd (let e : Spoiled key ≡ Memory = w.1 in cc)
  stops_none job steps w = w

  step_none : (call : Call) (after : Reply → Walks Step Answer) (steps : List Step) → AreUnspoiled steps
      → ((reply : Reply) (tail : List Step) → IsUnspoiled reply → after reply tail (Spoiled key) → ⊥) → Asks call after steps (Spoiled key) → ⊥
  step_none call after steps clean ends w =
      let both = subst AreUnspoiled w.3 clean in
      ends w.0 w.2 (subst (λ (s : Step). IsUnspoiled s.reply) w.4.0 both.0) w.5

  evict_ends : (reply : Reply) (tail : List Step) → IsUnspoiled reply → after_evict reply tail (Spoiled key) → ⊥
  evict_ends (by_cache (caches.evicted n)) tail h r = let e = r.1 in absurd (cc)
  evict_ends (by_cache caches.memory) tail h r = let e = r.1 in absurd (cc)
  evict_ends reply tail h r = r

  loss_ends : (reply : Reply) (tail : List Step) → IsUnspoiled reply → after_loss reply tail (Spoiled key) → ⊥
  loss_ends (by_node (nodes.lost n)) tail h r = let e = r.1 in absurd (cc)
  loss_ends (by_node nodes.memory) tail h r = let e = r.1 in absurd (cc)
  loss_ends reply tail h r = r

  damage_ends : (a : Answer) → (Spoiled key ≡ a → ⊥) → (reply : Reply) (tail : List Step) → IsUnspoiled reply → after_damage a reply tail (Spoiled key) → ⊥
  damage_ends a other (by_node nodes.dropped) tail h r = other r.1
  damage_ends a other (by_node nodes.flipped) tail h r = other r.1
  damage_ends a other (by_node nodes.absent) tail h r = let e = r.1 in absurd (cc)
  damage_ends a other (by_node nodes.memory) tail h r = let e = r.1 in absurd (cc)
  damage_ends a other reply tail h r = r

  depot_ends : (reply : Reply) (tail : List Step) → IsUnspoiled reply → after_depot reply tail (Spoiled key) → ⊥
  depot_ends (by_depot (depots.rotated root)) tail h r = let e = r.1 in absurd (cc)
  depot_ends (by_depot depots.roots_end) tail h r = let e = r.1 in absurd (cc)
  depot_ends (by_depot depots.closed) tail h r = let e = r.1 in absurd (cc)
  depot_ends (by_depot (depots.doubt k)) tail h r = let e = r.1 in absurd (cc)
  depot_ends (by_depot (depots.fault k)) tail h r = let e = r.1 in absurd (cc)
  depot_ends (by_depot (depots.spoiled k)) tail h r = h
  depot_ends (by_depot depots.memory) tail h r = let e = r.1 in absurd (cc)
  depot_ends reply tail h r = r

  damages : (place : DevicePlace) (i : ℕ) (more : Name → Walks Step Answer) (steps : List Step) → ((name : Name) → more name steps (Spoiled key) → ⊥) → Damages place i more steps (Spoiled key) → ⊥
  damages place i more steps each w = by (slice_get place.names i) refl
    where
      by : (o : Option Name) → slice_get place.names i ≡ o → ⊥
      by None e = let r = w.1 e in let f = r.1 in absurd (cc)
      by (Some name) e = each name (w.0 name e)

  forged_other : (a : Answer) (reply : Reply) → (Spoiled key ≡ a → ⊥) → Spoiled key ≡ forged_so_far a reply → ⊥
  forged_other a (by_node nodes.kept) other e = other e
  forged_other a reply other e = absurd (cc)

  forged_none : (count : ℕ) (name : Name) (stripes : List Stripe) (a : Answer) (steps : List Step) → (Spoiled key ≡ a → ⊥) → PutsForged count name stripes a steps (Spoiled key) → ⊥
  forged_none count name [] a steps other w = other w.1
  forged_none count name (s ∷ stripes) a steps other w = forged_none count name stripes (forged_so_far a w.0) w.2 (forged_other a w.0 other) w.5

  forges_none : (count : ℕ) (name : Name) (steps : List Step) → Forges count name steps (Spoiled key) → ⊥
  forges_none count name steps (inl w) = forged_none count name w.0 Forged steps (λ e. absurd (cc)) w.2
  forges_none count name steps (inr w) = let e = w.1 in absurd (cc)

  made_none : (context : Context) (job : Job) (steps : List Step) → seen_job job ≡ JobSeen.another → AreUnspoiled steps → MakesJob context job steps (Spoiled key) → ⊥
  made_none context (calls device call) steps e clean w = absurd (cc)
  made_none context (creates image tenant raw) steps e clean w =
      of_depot_none created (CreatesAll image tenant raw) (creations.with_reply bad) steps creation_told (λ own h v. creates_none image tenant v.0 own h v.2) clean w
  made_none context (migrates image) steps e clean w = of_depot_none migrated (migrations.Migrates image) (migrations.with_reply bad) steps migration_told (migrates_none image) clean w
  made_none context (collects job) steps e clean (inl w) = of_depot_none collected (collections.Collects job) (collections.with_reply bad) steps collection_told (collects_none job) clean w
  made_none context (collects job) steps e clean (inr w) = stops_none job steps w
  made_none context (closes device) steps e clean w = step_none (on_depot (depots.closes w.0.lease)) after_depot steps clean depot_ends w.2
  made_none context (evicts host) steps e clean w = step_none (on_cache host caches.evicts) after_evict steps clean evict_ends w
  made_none context (drops_stripe index device chunk) steps e clean w =
      damages w.0 chunk (DropsStripe context.nodes index) steps (λ name x. step_none (on_node (node_at name index context.nodes) (nodes.drops name index)) (after_damage Dropped) steps clean (damage_ends Dropped (λ f. absurd (cc))) x) w.2
  made_none context (flips_stripe index device chunk at) steps e clean w =
      damages w.0 chunk (FlipsStripe context.nodes index at) steps (λ name x. step_none (on_node (node_at name index context.nodes) (nodes.flips name index at)) (after_damage Flipped) steps clean (damage_ends Flipped (λ f. absurd (cc))) x) w.2
  made_none context (forges device chunk) steps e clean w = damages w.0 chunk (Forges context.nodes) steps (λ name x. forges_none context.nodes name steps x) w.2
  made_none context (loses node) steps e clean w = step_none (on_node node nodes.loses) after_loss steps clean loss_ends w

pub jobs_told : SpoiledJobsWereTold
jobs_told context job steps key e (inl w) clean = made_none key context job steps e clean w
jobs_told context job steps key e (inr w) clean = let f = w.1 in absurd (cc)

-- what the entries of a creation and of a reading tell of
use Rattle.std.proofs.Common.{◌≡◌, ◌+◌, ℕ, zero, suc, List, [], ◌∷◌, ◌++◌, map, length, Option, Some, None, refl, ap, subst, sym, ◌∙◌, inl, inr}
use Rattle.std.specs.Prelude.{◌⊎◌}
use Rattle.lr_manifest.specs.Manifest.{ManifestFields}
use Rattle.lr_seal.specs.Table.{HasTag}
use Rattle.lr_roots.specs.Names.{IsOneOf}
use Rattle.lr_depot.specs.Machine.{LogEntry}
use Rattle.lr_depot.specs.declared.call.DepotReply.{DepotReply}
use Rattle.lr_walk.specs.Walk.{Walks}
use Rattle.lr_walk.specs.Depot.{Call, Step, step, Reply, memory, kept, made, began, opened, fetched, no_lease, closed, opens, fetches, closes, abandons, puts_chunk, puts_manifest, begins, seen_reply, Answers, Asks}
use Rattle.lr_creator.specs.declared.create.Place.{Place}
use Rattle.lr_creator.specs.Creation.{Ending, with_root, with_reply, with_memory, with_stop, Input, piece, last, Parts, no_parts, with_piece, place_of, fields_of, Leaves, LeavesEarly, after_manifest, after_chunk, PutsOne, Puts, after_begin, Creates}
use Rattle.lr_images.specs.declared.created.Created.{Created}
use Rattle.lr_images.specs.declared.created.Created.TheVariants as by
use Rattle.lr_images.specs.Created.{IsAnswer}
use Rattle.lr_images.specs.Drive as images
use Rattle.lr_images.specs.Cat as cat
use Rattle.lr_desk.specs.declared.outcome.Refusal.TheVariants as refusal
use Rattle.lr_desk.specs.declared.outcome.Outcome.{Outcome}
use Rattle.lr_desk.specs.declared.outcome.Outcome.TheVariants.{Done, Memory, OriginFault, Refused, Spoiled, ReadFault}
use Rattle.lr_desk.specs.Drive.{GoesOn}
use Rattle.lr_desk.specs.Ends.{outcome_of, failure, outcome_made, outcome_read, Setting, Made, WasRead}
use Rattle.lr_desk.specs.Causes.{IsDepots, Tells}
use Rattle.lr_desk.proofs.Telling.{FindsIn, Finds, Sticks, finds_asks, sticks_asks, not_in, abandon_not, step_tells, tells_step}

pub goes : (log : List LogEntry) (steps : List Step) → images.GoesOn [] log steps → GoesOn [] log steps
goes log steps g = record { own = g.own; after = g.after; steps_of = g.steps_of; callers = g.callers }

-- ---- failures

failure_from : (x : Outcome) → IsDepots (failure x) → x ≡ failure x
failure_from Done b = absurd b
failure_from x b = refl

failure_same : (x : Outcome) → IsDepots x → failure x ≡ x
failure_same Done b = absurd b
failure_same x b = refl

-- ---- creations

abbrev pub made_out : Ending → Outcome
made_out (with_root root) = Done
made_out (with_reply reply) = failure (outcome_of reply)
made_out with_memory = Memory
made_out with_stop = Memory

left_end : (session : ℕ) (end0 end : Ending) (steps : List Step) → Leaves session end0 steps end → end ≡ end0
left_end session end0 end steps w = w.5.1

left_not : (session : ℕ) (end0 end : Ending) (steps : List Step) → Leaves session end0 steps end → (IsDepots (made_out end0) → ⊥) → IsDepots (made_out end) → ⊥
left_not session end0 end steps w never b = never (subst (λ e. IsDepots (made_out e)) (left_end session end0 end steps w) b)

left_sticks : (session : ℕ) (end0 : Ending) → Sticks made_out (Leaves session end0)
left_sticks session end0 =
    sticks_asks made_out (abandons session) _ (λ r tail end a w b. absurd (abandon_not session r a b)) (λ r tail end a w s i b. absurd (not_in tail s w.0 i))

early_finds : (session : ℕ) → Finds made_out (LeavesEarly session)
early_finds session steps end (inl w) b = absurd (left_not session with_memory end steps w (λ q. q) b)
early_finds session steps end (inr w) b = absurd (left_not session with_stop end steps w (λ q. q) b)

early_sticks : (session : ℕ) → Sticks made_out (LeavesEarly session)
early_sticks session steps end (inl w) s i b = left_sticks session with_memory steps end w s i b
early_sticks session steps end (inr w) s i b = left_sticks session with_stop steps end w s i b

ended_by : (r : Reply) (end : Ending) → end ≡ with_reply r → IsDepots (made_out end) → outcome_of r ≡ made_out end
ended_by r end e b = failure_from (outcome_of r) (subst (λ q. IsDepots (made_out q)) e b) ∙ ap made_out (sym e)

ended_at : (r : Reply) (end : Ending) → end ≡ with_reply r → IsDepots (outcome_of r) → made_out end ≡ outcome_of r
ended_at r end e b = ap made_out e ∙ failure_same (outcome_of r) b

module _ (place : Place) where
  manifest_finds : (r : Reply) (tail : List Step) (end : Ending) → after_manifest place r tail end → IsDepots (made_out end) → outcome_of r ≡ made_out end
  manifest_finds (made root) tail end w b = absurd (subst (λ e. IsDepots (made_out e)) w.1 b)
  manifest_finds memory tail end w b = absurd (left_not place.session with_memory end tail w (λ q. q) b)
  manifest_finds r tail end w b = ended_by r end (left_end place.session (with_reply r) end tail w) b

  manifest_one : (r : Reply) (tail : List Step) (end : Ending) → after_manifest place r tail end → IsDepots (outcome_of r) → made_out end ≡ outcome_of r
  manifest_one (made root) tail end w b = absurd b
  manifest_one memory tail end w b = absurd b
  manifest_one r tail end w b = ended_at r end (left_end place.session (with_reply r) end tail w) b

  manifest_rest : (r : Reply) (tail : List Step) (end : Ending) → after_manifest place r tail end → (s : Step) → IsOneOf tail s → IsDepots (outcome_of s.reply) → made_out end ≡ outcome_of s.reply
  manifest_rest (made root) tail end w s i b = absurd (not_in tail s w.0 i)
  manifest_rest memory tail end w s i b = left_sticks place.session with_memory tail end w s i b
  manifest_rest r tail end w s i b = left_sticks place.session (with_reply r) tail end w s i b

  module _ (more : Walks Step Ending) (finds : Finds made_out more) where
    chunk_finds : (r : Reply) (tail : List Step) (end : Ending) → after_chunk place more r tail end → IsDepots (made_out end) → (outcome_of r ≡ made_out end) ⊎ FindsIn made_out tail (made_out end)
    chunk_finds kept tail end w b = inr (finds tail end w b)
    chunk_finds memory tail end w b = absurd (left_not place.session with_memory end tail w (λ q. q) b)
    chunk_finds r tail end w b = inl (ended_by r end (left_end place.session (with_reply r) end tail w) b)

    one_finds : (name : List ℕ) → Finds made_out (Asks (puts_chunk place.session name) (after_chunk place more))
    one_finds name = finds_asks made_out (puts_chunk place.session name) (after_chunk place more) (λ r tail end a w b. chunk_finds r tail end w b)

  module _ (more : Walks Step Ending) (sticks : Sticks made_out more) where
    chunk_one : (r : Reply) (tail : List Step) (end : Ending) → after_chunk place more r tail end → IsDepots (outcome_of r) → made_out end ≡ outcome_of r
    chunk_one kept tail end w b = absurd b
    chunk_one memory tail end w b = absurd b
    chunk_one r tail end w b = ended_at r end (left_end place.session (with_reply r) end tail w) b

    chunk_rest : (r : Reply) (tail : List Step) (end : Ending) → after_chunk place more r tail end → (s : Step) → IsOneOf tail s → IsDepots (outcome_of s.reply) → made_out end ≡ outcome_of s.reply
    chunk_rest kept tail end w s i b = sticks tail end w s i b
    chunk_rest memory tail end w s i b = left_sticks place.session with_memory tail end w s i b
    chunk_rest r tail end w s i b = left_sticks place.session (with_reply r) tail end w s i b

    one_sticks : (name : List ℕ) → Sticks made_out (Asks (puts_chunk place.session name) (after_chunk place more))
    one_sticks name = sticks_asks made_out (puts_chunk place.session name) (after_chunk place more) (λ r tail end a w b. chunk_one r tail end w b) (λ r tail end a w s i b. chunk_rest r tail end w s i b)

puts_finds : (tenant : List ℕ) (given : List Input) (place : Place) (parts : Parts) (steps : List Step) (end : Ending) → Puts tenant place parts given steps end → IsDepots (made_out end) → FindsIn made_out steps (made_out end)
puts_finds tenant [] place parts steps end w b = early_finds place.session steps end w b
puts_finds tenant (last ∷ more) place parts steps end (inr w) b = early_finds place.session steps end w b
puts_finds tenant (last ∷ more) place parts steps end (inl w) b =
    finds_asks made_out (puts_manifest place.session (fields_of tenant place parts)) (after_manifest place) (λ r t e a x c. inl (manifest_finds place r t e x c)) steps end w b
puts_finds tenant (piece plain ∷ more) place parts steps end (inr w) b = early_finds place.session steps end w b
puts_finds tenant (piece plain ∷ more) place parts steps end (inl w) b =
    let name = w.1.0 in
    one_finds place (Puts tenant place (with_piece place name plain parts) more) (puts_finds tenant more place (with_piece place name plain parts)) name.bytes steps end w.1.2 b

puts_sticks : (tenant : List ℕ) (given : List Input) (place : Place) (parts : Parts) (steps : List Step) (end : Ending) → Puts tenant place parts given steps end → (s : Step) → IsOneOf steps s → IsDepots (outcome_of s.reply) → made_out end ≡ outcome_of s.reply
puts_sticks tenant [] place parts steps end w s i b = early_sticks place.session steps end w s i b
puts_sticks tenant (last ∷ more) place parts steps end (inr w) s i b = early_sticks place.session steps end w s i b
puts_sticks tenant (last ∷ more) place parts steps end (inl w) s i b =
    sticks_asks made_out (puts_manifest place.session (fields_of tenant place parts)) (after_manifest place) (λ r t e a x c. manifest_one place r t e x c) (λ r t e a x q j c. manifest_rest place r t e x q j c) steps end w s i b
puts_sticks tenant (piece plain ∷ more) place parts steps end (inr w) s i b = early_sticks place.session steps end w s i b
puts_sticks tenant (piece plain ∷ more) place parts steps end (inl w) s i b =
    let name = w.1.0 in
    one_sticks place (Puts tenant place (with_piece place name plain parts) more) (puts_sticks tenant more place (with_piece place name plain parts)) name.bytes steps end w.1.2 s i b

module _ (tenant : List ℕ) (given : List Input) where
  begin_finds : (r : Reply) (tail : List Step) (end : Ending) → after_begin tenant r given tail end → IsDepots (made_out end) → (outcome_of r ≡ made_out end) ⊎ FindsIn made_out tail (made_out end)
  begin_finds (began session root salt number) tail end w b = inr (puts_finds tenant given (place_of session root salt number) no_parts tail end w b)
  begin_finds memory tail end w b = absurd (subst (λ e. IsDepots (made_out e)) w.1 b)
  begin_finds r tail end w b = inl (ended_by r end w.1 b)

  begin_one : (r : Reply) (tail : List Step) (end : Ending) → after_begin tenant r given tail end → IsDepots (outcome_of r) → made_out end ≡ outcome_of r
  begin_one (began session root salt number) tail end w b = absurd b
  begin_one memory tail end w b = absurd b
  begin_one r tail end w b = ended_at r end w.1 b

  begin_rest : (r : Reply) (tail : List Step) (end : Ending) → after_begin tenant r given tail end → (s : Step) → IsOneOf tail s → IsDepots (outcome_of s.reply) → made_out end ≡ outcome_of s.reply
  begin_rest (began session root salt number) tail end w s i b = puts_sticks tenant given (place_of session root salt number) no_parts tail end w s i b
  begin_rest memory tail end w s i b = absurd (not_in tail s w.0 i)
  begin_rest r tail end w s i b = absurd (not_in tail s w.0 i)

  creates_finds : (image : List ℕ) → Finds made_out (Creates image tenant given)
  creates_finds image = finds_asks made_out (begins image) (λ r. after_begin tenant r given) (λ r tail end a w b. begin_finds r tail end w b)

  creates_sticks : (image : List ℕ) → Sticks made_out (Creates image tenant given)
  creates_sticks image = sticks_asks made_out (begins image) (λ r. after_begin tenant r given) (λ r tail end a w b. begin_one r tail end w b) (λ r tail end a w s i b. begin_rest r tail end w s i b)

answer_out : (c : Created) (end : Ending) → IsAnswer c end → IsDepots (outcome_made c) → made_out end ≡ outcome_made c
answer_out (by.Root root) end a b = absurd b
answer_out (by.Refused reply) end a b = ap made_out a
answer_out by.ReadFault end a b = absurd b
answer_out by.TooLong end a b = absurd b
answer_out by.OutOfMemory end a b = absurd b

answer_in : (c : Created) (end : Ending) → IsAnswer c end → IsDepots (made_out end) → outcome_made c ≡ made_out end
answer_in (by.Root root) end a b = absurd (subst (λ e. IsDepots (made_out e)) a b)
answer_in (by.Refused reply) end a b = sym (ap made_out a)
answer_in by.ReadFault end a b = absurd (subst (λ e. IsDepots (made_out e)) a b)
answer_in by.TooLong end a b = absurd (subst (λ e. IsDepots (made_out e)) a b)
answer_in by.OutOfMemory end (inl a) b = absurd (subst (λ e. IsDepots (made_out e)) a b)
answer_in by.OutOfMemory end (inr a) b = absurd (subst (λ e. IsDepots (made_out e)) a b)

module _ (image tenant : List ℕ) (s : Setting) (log : List LogEntry) (o : Outcome) (text : List ℕ) (w : Made image tenant s log o text) where
  pub made_tells : IsDepots o → Tells log o
  made_tells b =
      let given = map piece w.pieces ++ last ∷ [] in
      let b_made : IsDepots (outcome_made w.created) = subst IsDepots w.ends b in
      let same : made_out w.end ≡ outcome_made w.created = answer_out w.created w.end w.answer b_made in
      let f = creates_finds tenant given image w.steps w.end w.walk (subst IsDepots (sym same) b_made) in
      subst (Tells log) (f.2 ∙ (same ∙ sym w.ends)) (step_tells log w.steps f.0 (goes log w.steps w.goes_on) f.1 (subst IsDepots (sym (f.2 ∙ same)) b_made))

  pub made_is : (e : Outcome) → IsDepots e → Tells log e → o ≡ e
  made_is e b t =
      let given = map piece w.pieces ++ last ∷ [] in
      let f = tells_step log w.steps e (goes log w.steps w.goes_on) t in
      let sticks : made_out w.end ≡ e = creates_sticks tenant given image w.steps w.end w.walk f.0 f.1 (subst IsDepots (sym f.2) b) ∙ f.2 in
      w.ends ∙ (answer_in w.created w.end w.answer (subst IsDepots (sym sticks) b) ∙ sticks)

-- ---- readings

read_by : (r : Reply) (end : cat.Ending) → end ≡ cat.with_reply r → IsDepots (outcome_read end) → outcome_of r ≡ outcome_read end
read_by r end e b = failure_from (outcome_of r) (subst (λ q. IsDepots (outcome_read q)) e b) ∙ ap outcome_read (sym e)

read_at : (r : Reply) (end : cat.Ending) → end ≡ cat.with_reply r → IsDepots (outcome_of r) → outcome_read end ≡ outcome_of r
read_at r end e b = ap outcome_read e ∙ failure_same (outcome_of r) b

none_is : (end0 end : cat.Ending) → end ≡ end0 → (IsDepots (outcome_read end0) → ⊥) → IsDepots (outcome_read end) → ⊥
none_is end0 end e never b = never (subst (λ q. IsDepots (outcome_read q)) e b)

module _ (more : Walks Step cat.Ending) where
  fetch_finds : Finds outcome_read more → (r : Reply) (tail : List Step) (end : cat.Ending) → cat.after_fetch more r tail end → IsDepots (outcome_read end) → (outcome_of r ≡ outcome_read end) ⊎ FindsIn outcome_read tail (outcome_read end)
  fetch_finds finds (fetched name) tail end w b = inr (finds tail end w b)
  fetch_finds finds memory tail end w b = absurd (none_is cat.with_memory end w.1 (λ q. q) b)
  fetch_finds finds r tail end w b = inl (read_by r end w.1 b)

  fetch_one : (r : Reply) (tail : List Step) (end : cat.Ending) → cat.after_fetch more r tail end → IsDepots (outcome_of r) → outcome_read end ≡ outcome_of r
  fetch_one (fetched name) tail end w b = absurd b
  fetch_one memory tail end w b = absurd b
  fetch_one r tail end w b = read_at r end w.1 b

  fetch_rest : Sticks outcome_read more → (r : Reply) (tail : List Step) (end : cat.Ending) → cat.after_fetch more r tail end → (s : Step) → IsOneOf tail s → IsDepots (outcome_of s.reply) → outcome_read end ≡ outcome_of s.reply
  fetch_rest sticks (fetched name) tail end w s i b = sticks tail end w s i b
  fetch_rest sticks memory tail end w s i b = absurd (not_in tail s w.0 i)
  fetch_rest sticks r tail end w s i b = absurd (not_in tail s w.0 i)

fetches_finds : (lease left index : ℕ) (steps : List Step) (end : cat.Ending) → cat.Fetches lease left index steps end → IsDepots (outcome_read end) → FindsIn outcome_read steps (outcome_read end)
fetches_finds lease zero index steps end (inl w) b = absurd (none_is cat.with_bytes end w.1 (λ q. q) b)
fetches_finds lease zero index steps end (inr w) b = absurd (none_is cat.with_memory end w.1 (λ q. q) b)
fetches_finds lease (suc left) index steps end (inr w) b = absurd (none_is cat.with_memory end w.1 (λ q. q) b)
fetches_finds lease (suc left) index steps end (inl w) b =
    finds_asks outcome_read (fetches lease index) (cat.after_fetch (cat.Fetches lease left (index + 1)))
    (λ r t e a x c. fetch_finds (cat.Fetches lease left (index + 1)) (fetches_finds lease left (index + 1)) r t e x c) steps end w b

fetches_sticks : (lease left index : ℕ) (steps : List Step) (end : cat.Ending) → cat.Fetches lease left index steps end → (s : Step) → IsOneOf steps s → IsDepots (outcome_of s.reply) → outcome_read end ≡ outcome_of s.reply
fetches_sticks lease zero index steps end (inl w) s i b = absurd (not_in steps s w.0 i)
fetches_sticks lease zero index steps end (inr w) s i b = absurd (not_in steps s w.0 i)
fetches_sticks lease (suc left) index steps end (inr w) s i b = absurd (not_in steps s w.0 i)
fetches_sticks lease (suc left) index steps end (inl w) s i b =
    sticks_asks outcome_read (fetches lease index) (cat.after_fetch (cat.Fetches lease left (index + 1)))
    (λ r t e a x c. fetch_one (cat.Fetches lease left (index + 1)) r t e x c)
    (λ r t e a x q j c. fetch_rest (cat.Fetches lease left (index + 1)) (fetches_sticks lease left (index + 1)) r t e x q j c) steps end w s i b

module _ (tenant : List ℕ) (lease : ℕ) (m : ManifestFields) where
  lease_finds : (steps : List Step) (end : cat.Ending) → cat.ReadsLease tenant lease m steps end → IsDepots (outcome_read end) → FindsIn outcome_read steps (outcome_read end)
  lease_finds steps end (inl w) b = fetches_finds lease (length m.names) 0 steps end w.1 b
  lease_finds steps end (inr (inl w)) b = absurd (none_is cat.with_wrong_key end w.1.1 (λ q. q) b)
  lease_finds steps end (inr (inr w)) b = absurd (none_is cat.with_memory end w.1 (λ q. q) b)

  lease_sticks : (steps : List Step) (end : cat.Ending) → cat.ReadsLease tenant lease m steps end → (s : Step) → IsOneOf steps s → IsDepots (outcome_of s.reply) → outcome_read end ≡ outcome_of s.reply
  lease_sticks steps end (inl w) s i b = fetches_sticks lease (length m.names) 0 steps end w.1 s i b
  lease_sticks steps end (inr (inl w)) s i b = absurd (not_in steps s w.1.0 i)
  lease_sticks steps end (inr (inr w)) s i b = absurd (not_in steps s w.0 i)

close_not : (lease : ℕ) (r : Reply) → Answers (closes lease) r → IsDepots (outcome_of r) → ⊥
close_not lease no_lease a b = b
close_not lease closed a b = b
close_not lease memory a b = b
close_not lease r a b = a

in_front : (xs ys : List Step) (s : Step) → IsOneOf xs s → IsOneOf (xs ++ ys) s
in_front [] ys s i = absurd i
in_front (x ∷ xs) ys s (inl e) = inl e
in_front (x ∷ xs) ys s (inr i) = inr (in_front xs ys s i)

in_parts : (xs ys : List Step) (s : Step) → IsOneOf (xs ++ ys) s → IsOneOf xs s ⊎ IsOneOf ys s
in_parts [] ys s i = inr i
in_parts (x ∷ xs) ys s (inl e) = inl (inl e)
in_parts (x ∷ xs) ys s (inr i) = elim (in_parts xs ys s i) [ inl a ↦ inl (inr a) | inr c ↦ inr c ]

-- the step that closes a lease, and the ending that stays
closes_sticks : (lease : ℕ) (end0 : cat.Ending) → Sticks outcome_read (cat.Closes lease end0)
closes_sticks lease end0 =
    sticks_asks outcome_read (closes lease) _ (λ r tail end a w b. absurd (close_not lease r a b)) (λ r tail end a w s i b. absurd (not_in tail s w.0 i))

module _ (tenant : List ℕ) where
  open_finds : (r : Reply) (tail : List Step) (end : cat.Ending) → cat.after_open tenant r tail end → IsDepots (outcome_read end) → (outcome_of r ≡ outcome_read end) ⊎ FindsIn outcome_read tail (outcome_read end)
  open_finds (opened lease m) tail end w b =
      let same : end ≡ w.2 = w.5.5.1 in
      let f = lease_finds tenant lease m w.0 w.2 w.4 (subst (λ q. IsDepots (outcome_read q)) same b) in
      inr (f.0, subst (λ (l : List Step). IsOneOf l f.0) (sym w.3) (in_front w.0 w.1 f.0 f.1), f.2 ∙ ap outcome_read (sym same))
  open_finds memory tail end w b = absurd (none_is cat.with_memory end w.1 (λ q. q) b)
  open_finds r tail end w b = inl (read_by r end w.1 b)

  open_one : (r : Reply) (tail : List Step) (end : cat.Ending) → cat.after_open tenant r tail end → IsDepots (outcome_of r) → outcome_read end ≡ outcome_of r
  open_one (opened lease m) tail end w b = absurd b
  open_one memory tail end w b = absurd b
  open_one r tail end w b = read_at r end w.1 b

  open_rest : (r : Reply) (tail : List Step) (end : cat.Ending) → cat.after_open tenant r tail end → (s : Step) → IsOneOf tail s → IsDepots (outcome_of s.reply) → outcome_read end ≡ outcome_of s.reply
  open_rest (opened lease m) tail end w s i b =
      let same : end ≡ w.2 = w.5.5.1 in
      elim (in_parts w.0 w.1 s (subst (λ (l : List Step). IsOneOf l s) w.3 i)) [
        | inl front ↦ ap outcome_read same ∙ lease_sticks tenant lease m w.0 w.2 w.4 s front b
        | inr rest ↦ closes_sticks lease w.2 w.1 end w.5 s rest b
      ]
  open_rest memory tail end w s i b = absurd (not_in tail s w.0 i)
  open_rest r tail end w s i b = absurd (not_in tail s w.0 i)

  cats_finds : (image : List ℕ) → Finds outcome_read (cat.Cats image tenant)
  cats_finds image = finds_asks outcome_read (opens image) (cat.after_open tenant) (λ r tail end a w b. open_finds r tail end w b)

  cats_sticks : (image : List ℕ) → Sticks outcome_read (cat.Cats image tenant)
  cats_sticks image = sticks_asks outcome_read (opens image) (cat.after_open tenant) (λ r tail end a w b. open_one r tail end w b) (λ r tail end a w s i b. open_rest r tail end w s i b)

module _ (image tenant : List ℕ) (s : Setting) (log : List LogEntry) (o : Outcome) (text : List ℕ) (w : WasRead image tenant s log o text) where
  pub read_tells : IsDepots o → Tells log o
  read_tells b =
      let c : IsDepots (outcome_read w.end) = subst IsDepots w.ends b in
      let f = cats_finds tenant image w.steps w.end w.walk c in
      subst (Tells log) (f.2 ∙ sym w.ends) (step_tells log w.steps f.0 (goes log w.steps w.goes_on) f.1 (subst IsDepots (sym f.2) c))

  pub read_is : (e : Outcome) → IsDepots e → Tells log e → o ≡ e
  read_is e b t =
      let f = tells_step log w.steps e (goes log w.steps w.goes_on) t in
      w.ends ∙ (cats_sticks tenant image w.steps w.end w.walk f.0 f.1 (subst IsDepots (sym f.2) b) ∙ f.2)

-- what the log tells of where the setup stopped
use Rattle.std.proofs.Common.{◌≡◌, ℕ, List, [], ◌∷◌, ◌++◌, map, refl, sym, ap, subst, ◌∙◌, inl, inr}
use Rattle.std.specs.Prelude.{◌⊎◌}
use Rattle.std.specs.List.{AllByRecursion, AllZip}
use Rattle.lr_roots.specs.Names.{IsOneOf}
use Rattle.lr_rules.specs.State.{State}
use Rattle.lr_depot.specs.declared.call.DepotNoted.TheVariants as noted
use Rattle.lr_depot.specs.declared.call.DepotTold.TheVariants as told
use Rattle.lr_depot.specs.Depot.{first_state}
use Rattle.lr_depot.specs.Machine.{LogEntry, after_entry, run}
use Rattle.lr_walk.specs.Depot as depots
use Rattle.lr_walk.specs.Depot.{Call, Step, step, step_of, logged, with_logged, Reply, began, kept, made, opened, rotated, memory, nothing, begins, puts_chunk, puts_manifest, abandons, rotates, opens, seen_told, Answers}
use Rattle.lr_creator.specs.declared.create.Place.{Place}
use Rattle.lr_creator.specs.Creation.{Ending, with_root, with_reply, with_memory, with_stop, Input, piece, last, Parts, no_parts, with_piece, fields_of, place_of, Leaves, LeavesEarly, Puts, Creates, after_begin, after_manifest, after_chunk}
use Rattle.lr_images.specs.Drive.{GoesOn, joined}
use Rattle.lr_images.specs.Answered.{IsLogged, CreationsTellWhy}
use Rattle.lr_script.specs.Seen.{SetupSeen, Host, Root, Image, Device}
use Rattle.lr_history.specs.Run.{ImageLine}
use Rattle.lr_actors.specs.Creating.{raw_of}
use Rattle.lr_setup.specs.Setup.{SetupLine, rotates as rotates_line, creates, opens as opens_line, entry, IsKept, IsSetup}
use Rattle.lr_prepare.specs.declared.error.SetupError.{SetupError}
use Rattle.lr_prepare.specs.declared.error.SetupError.TheVariants as error
use Rattle.lr_prepare.specs.Stopped.{IsPlain, Tells, StopsRotation, StopsOpening, StopsCreation, IsUncreated, Stops, StopsFirst}
use Rattle.lr_prepare.specs.Told.{IsOfDepot, Makes, ErrorsAreTold, ToldErrorsCome, DoneSetupsArePlain}

-- ---- logs

one_either : {A : Type 0} (xs ys : List A) (x : A) → IsOneOf (xs ++ ys) x → IsOneOf xs x ⊎ IsOneOf ys x
one_either [] ys x one = inr one
one_either (y ∷ xs) ys x (inl e) = inl (inl e)
one_either (y ∷ xs) ys x (inr one) = by (one_either xs ys x one)
  where
    by : IsOneOf xs x ⊎ IsOneOf ys x → IsOneOf (y ∷ xs) x ⊎ IsOneOf ys x
    by (inl a) = inl (inr a)
    by (inr b) = inr b

one_later : {A : Type 0} (xs ys : List A) (x : A) → IsOneOf ys x → IsOneOf (xs ++ ys) x
one_later [] ys x one = one
one_later (y ∷ xs) ys x one = inr (one_later xs ys x one)

one_step : (own : List LogEntry) (e : LogEntry) → IsOneOf own e → IsOneOf (map step_of own) (step_of e)
one_step [] e one = absurd one
one_step (x ∷ own) e (inl same) = inl (ap step_of same)
one_step (x ∷ own) e (inr one) = inr (one_step own e one)

with_one : (r : Reply) (s x : Step) (steps : List Step) → IsOneOf (with_logged r s steps) x → (x ≡ s) ⊎ IsOneOf steps x
with_one memory s x steps one = inr one
with_one nothing s x steps one = inr one
with_one r s x steps one = one

one_logged : (steps : List Step) (x : Step) → IsOneOf (logged steps) x → IsOneOf steps x
one_logged [] x one = absurd one
one_logged (s ∷ steps) x one = by (one_logged steps x) (with_one s.reply s x (logged steps) one)
  where
    by : (IsOneOf (logged steps) x → IsOneOf steps x) → (x ≡ s) ⊎ IsOneOf (logged steps) x → IsOneOf (s ∷ steps) x
    by more (inl e) = inl e
    by more (inr in_rest) = inr (more in_rest)

all_one : (P : LogEntry → Type 0) (log : List LogEntry) → AllByRecursion P log → (e : LogEntry) → IsOneOf log e → P e
all_one P [] all e one = absurd one
all_one P (x ∷ log) all e (inl same) = subst P (sym same) all.0
all_one P (x ∷ log) all e (inr one) = all_one P log all.1 e one

-- ---- lines that were done

abbrev IsQuiet : LogEntry → Type 0
IsQuiet e = IsPlain (seen_told e.reply)

quiet_puts : (session : ℕ) (puts : List LogEntry) (names : List (List ℕ)) (e : LogEntry) (rest : List LogEntry) → AllZip (IsKept session) puts names → IsQuiet e → AllByRecursion IsQuiet rest → AllByRecursion IsQuiet (puts ++ e ∷ rest)
quiet_puts session [] names e rest zip h all = (h, all)
quiet_puts session (x ∷ puts) [] e rest zip h all = absurd zip
quiet_puts session (x ∷ puts) (name ∷ names) e rest zip h all = (subst IsQuiet (sym zip.0.1) tt, quiet_puts session puts names e rest zip.1 h all)

quiet : (lines : List SetupLine) (s : State) (before : List ImageLine) (log : List LogEntry) → IsSetup s before lines log → AllByRecursion IsQuiet log
quiet [] s before log e = subst (AllByRecursion IsQuiet) (sym e) tt
quiet (rotates_line salt ∷ lines) s before log (r, rest, e, tail) =
    subst (AllByRecursion IsQuiet) (sym e) (tt, quiet lines (after_entry s (entry (noted.Rotate salt) (told.Rotated r))) before rest tail)
quiet (creates line ∷ lines) s before log (session, number, puts, m, rest, e, zip, is_made, tail) =
    let begin : LogEntry = entry (noted.BeginCreate line.image) (told.Began session line.root line.salt number) in
    let end : LogEntry = entry (noted.PutManifest session m) (told.Made line.root) in
    let more = quiet lines (after_entry (run (after_entry s begin) puts) end) (before ++ line ∷ []) rest tail in
    subst (AllByRecursion IsQuiet) (sym e) (tt, quiet_puts session puts _ end rest zip tt more)
quiet (opens_line d ∷ lines) s before log (m, rest, e, manifest, count, home, tag, keys, tail) =
    subst (AllByRecursion IsQuiet) (sym e) (tt, quiet lines (after_entry s (entry (noted.OpenImage d.image) (told.Opened d.lease m))) before rest tail)

pub done_plain : DoneSetupsArePlain
done_plain start lines log w e one = all_one IsQuiet log (quiet lines (first_state start) [] log w) e one

-- ---- the line that was stopped

makes_of : (number : ℕ) (reply : Reply) (e : SetupError) → Tells number reply e → (IsPlain reply → ⊥) → Makes reply e
makes_of number reply (error.Refused line refusal) tells loud = (tells.1, tells.2)
makes_of number reply (error.Sealed line) tells loud = absurd tells
makes_of number reply error.Fault tells loud = tells
makes_of number reply (error.Spoiled key) tells loud = tells
makes_of number reply error.OutOfMemory tells loud = absurd (loud tells)

rotation_makes : (number : ℕ) (reply : Reply) (e : SetupError) → StopsRotation number reply e → (IsPlain reply → ⊥) → Makes reply e
rotation_makes number (rotated root) e stops loud = absurd stops
rotation_makes number reply e stops loud = makes_of number reply e stops loud

opening_makes : (number : ℕ) (tenant : List ℕ) (reply : Reply) (e : SetupError) → StopsOpening number tenant reply e → (IsPlain reply → ⊥) → Makes reply e
opening_makes number tenant (opened lease m) e stops loud = absurd (loud tt)
opening_makes number tenant reply e stops loud = makes_of number reply e stops loud

abandon_plain : (session : ℕ) (reply : Reply) → Answers (abandons session) reply → IsPlain reply
abandon_plain session depots.no_session a = tt
abandon_plain session depots.abandoned a = tt
abandon_plain session memory a = tt
abandon_plain session reply a = absurd a

-- a step that isn't plain is the one that the creation ended with
abbrev AreNamed : List Step → Ending → Type 0
AreNamed steps end = (s : Step) → IsOneOf steps s → (IsPlain s.reply → ⊥) → end ≡ with_reply s.reply

left_named : (session : ℕ) (end ending : Ending) (steps : List Step) → Leaves session end steps ending → AreNamed steps ending
left_named session end ending steps (reply, first, tail, are, (is, answers), (none, ends)) s one loud = by (subst (λ (l : List Step). IsOneOf l s) (are ∙ ap (λ (l : List Step). first ∷ l) none) one)
  where
    by : IsOneOf (first ∷ []) s → ending ≡ with_reply s.reply
    by (inl e) = absurd (loud (subst (λ (x : Step). IsPlain x.reply) (sym (e ∙ is)) (abandon_plain session reply answers)))
    by (inr never) = absurd never

early_named : (session : ℕ) (ending : Ending) (steps : List Step) → LeavesEarly session steps ending → AreNamed steps ending
early_named session ending steps (inl l) = left_named session with_memory ending steps l
early_named session ending steps (inr l) = left_named session with_stop ending steps l

-- a step, and those behind it
first_named : (call : Call) (reply : Reply) (first : Step) (tail steps : List Step) (ending : Ending) → steps ≡ first ∷ tail → first ≡ step call reply → ((IsPlain reply → ⊥) → ending ≡ with_reply reply) → AreNamed tail ending → AreNamed steps ending
first_named call reply first tail steps ending are is here there s one loud = by (subst (λ (l : List Step). IsOneOf l s) are one)
  where
    by : IsOneOf (first ∷ tail) s → ending ≡ with_reply s.reply
    by (inl e) = let same : s.reply ≡ reply = ap (λ (x : Step). x.reply) (e ∙ is) in here (subst (λ (r : Reply). IsPlain r → ⊥) same loud) ∙ ap with_reply (sym same)
    by (inr later) = there s later loud

leaves_ends : (session : ℕ) (end ending : Ending) (steps : List Step) → Leaves session end steps ending → ending ≡ end
leaves_ends session end ending steps (reply, first, tail, are, is, (none, ends)) = ends

nothing_named : (ending : Ending) (steps : List Step) → steps ≡ [] → AreNamed steps ending
nothing_named ending steps none s one loud = absurd (subst (λ (l : List Step). IsOneOf l s) none one)

manifest_here : (place : Place) (reply : Reply) (tail : List Step) (ending : Ending) → after_manifest place reply tail ending → (IsPlain reply → ⊥) → ending ≡ with_reply reply
manifest_here place (made root) tail ending after loud = absurd (loud tt)
manifest_here place memory tail ending after loud = absurd (loud tt)
manifest_here place reply tail ending after loud = leaves_ends place.session (with_reply reply) ending tail after

manifest_there : (place : Place) (reply : Reply) (tail : List Step) (ending : Ending) → after_manifest place reply tail ending → AreNamed tail ending
manifest_there place (made root) tail ending after = nothing_named ending tail after.0
manifest_there place memory tail ending after = left_named place.session with_memory ending tail after
manifest_there place reply tail ending after = left_named place.session (with_reply reply) ending tail after

chunk_here : (place : Place) (more : List Step → Ending → Type 0) (reply : Reply) (tail : List Step) (ending : Ending) → after_chunk place more reply tail ending → (IsPlain reply → ⊥) → ending ≡ with_reply reply
chunk_here place more kept tail ending after loud = absurd (loud tt)
chunk_here place more memory tail ending after loud = absurd (loud tt)
chunk_here place more reply tail ending after loud = leaves_ends place.session (with_reply reply) ending tail after

chunk_there : (place : Place) (more : List Step → Ending → Type 0) (reply : Reply) (tail : List Step) (ending : Ending) → (more tail ending → AreNamed tail ending) → after_chunk place more reply tail ending → AreNamed tail ending
chunk_there place more kept tail ending rest after = rest after
chunk_there place more memory tail ending rest after = left_named place.session with_memory ending tail after
chunk_there place more reply tail ending rest after = left_named place.session (with_reply reply) ending tail after

puts_named : (tenant : List ℕ) (place : Place) (given : List Input) (parts : Parts) (steps : List Step) (ending : Ending) → Puts tenant place parts given steps ending → AreNamed steps ending
puts_named tenant place [] parts steps ending walk = early_named place.session ending steps walk
puts_named tenant place (last ∷ given) parts steps ending (inr early) = early_named place.session ending steps early
puts_named tenant place (last ∷ given) parts steps ending (inl (reply, first, tail, are, (is, answers), after)) =
    first_named (puts_manifest place.session (fields_of tenant place parts)) reply first tail steps ending are is (manifest_here place reply tail ending after) (manifest_there place reply tail ending after)
puts_named tenant place (piece plain ∷ given) parts steps ending (inr early) = early_named place.session ending steps early
puts_named tenant place (piece plain ∷ given) parts steps ending (inl (is_piece, (name, named, (reply, first, tail, are, (is, answers), after)))) =
    first_named (puts_chunk place.session name.bytes) reply first tail steps ending are is (chunk_here place (Puts tenant place (with_piece place name plain parts) given) reply tail ending after)
    (chunk_there place (Puts tenant place (with_piece place name plain parts) given) reply tail ending (puts_named tenant place given (with_piece place name plain parts) tail ending) after)

begin_here : (tenant : List ℕ) (reply : Reply) (given : List Input) (tail : List Step) (ending : Ending) → after_begin tenant reply given tail ending → (IsPlain reply → ⊥) → ending ≡ with_reply reply
begin_here tenant (began session root salt number) given tail ending after loud = absurd (loud tt)
begin_here tenant memory given tail ending after loud = absurd (loud tt)
begin_here tenant reply given tail ending after loud = after.1

begin_there : (tenant : List ℕ) (reply : Reply) (given : List Input) (tail : List Step) (ending : Ending) → after_begin tenant reply given tail ending → AreNamed tail ending
begin_there tenant (began session root salt number) given tail ending after = puts_named tenant (place_of session root salt number) given no_parts tail ending after
begin_there tenant memory given tail ending after = nothing_named ending tail after.0
begin_there tenant reply given tail ending after = nothing_named ending tail after.0

creation_named : (image tenant : List ℕ) (given : List Input) (steps : List Step) (ending : Ending) → Creates image tenant given steps ending → AreNamed steps ending
creation_named image tenant given steps ending (reply, first, tail, are, (is, answers), after) =
    first_named (begins image) reply first tail steps ending are is (begin_here tenant reply given tail ending after) (begin_there tenant reply given tail ending after)

creation_makes : (number : ℕ) (image tenant raw : List ℕ) (steps : List Step) (e : SetupError) → IsUncreated number image tenant raw steps e → (s : Step) → IsOneOf steps s → (IsPlain s.reply → ⊥) → Makes s.reply e
creation_makes number image tenant raw steps e (pieces, end, walk, stops) s one loud =
    let named : end ≡ with_reply s.reply = creation_named image tenant (map piece pieces ++ last ∷ []) steps end walk s one loud in
    makes_of number s.reply e (subst (λ (x : Ending). StopsCreation number raw (joined pieces) x e) named stops).2 loud

-- one step alone
alone : (P : Reply → Type 0) (call : Call) (reply : Reply) (steps : List Step) (s : Step) → steps ≡ step call reply ∷ [] → IsOneOf steps s → P reply → P s.reply
alone P call reply steps s are one h = by (subst (λ (l : List Step). IsOneOf l s) are one)
  where
    by : IsOneOf (step call reply ∷ []) s → P s.reply
    by (inl e) = subst P (sym (ap (λ (x : Step). x.reply) e)) h
    by (inr never) = absurd never

stops_makes : (number : ℕ) (setup : SetupSeen) (steps : List Step) (e : SetupError) → Stops number setup steps e → (s : Step) → IsOneOf steps s → (IsPlain s.reply → ⊥) → Makes s.reply e
stops_makes number (Host name cap) steps e stops s one loud = absurd stops
stops_makes number (Root salt) steps e (reply, are, answers, stops) s one loud =
    alone (λ (r : Reply). (IsPlain r → ⊥) → Makes r e) (rotates salt) reply steps s are one (rotation_makes number reply e stops) loud
stops_makes number (Image name tenant len body) steps e stops s one loud = creation_makes number name tenant (raw_of len body) steps e stops s one loud
stops_makes number (Device name host image tenant) steps e (reply, are, answers, stops) s one loud =
    alone (λ (r : Reply). (IsPlain r → ⊥) → Makes r e) (opens image) reply steps s are one (opening_makes number tenant reply e stops) loud

no_step_makes : (steps : List Step) (e : SetupError) → steps ≡ [] → (s : Step) → IsOneOf steps s → (IsPlain s.reply → ⊥) → Makes s.reply e
no_step_makes steps e none s one loud = absurd (subst (λ (l : List Step). IsOneOf l s) none one)

first_makes : (rest : List (ℕ × SetupSeen)) (steps : List Step) (e : SetupError) → StopsFirst rest steps e → (s : Step) → IsOneOf steps s → (IsPlain s.reply → ⊥) → Makes s.reply e
first_makes [] steps e stops s one loud = no_step_makes steps e stops.0 s one loud
first_makes (line ∷ rest) steps e (inl stops) s one loud = stops_makes line.0 line.1 steps e stops s one loud
first_makes (line ∷ rest) steps e (inr none) s one loud = no_step_makes steps e none.0 s one loud

pub told_come : ToldErrorsCome
told_come start setup log e left entry_of one loud = by (one_either left.done left.goes_on.own entry_of (subst (λ (l : List LogEntry). IsOneOf l entry_of) left.goes_on.after one))
  where
    by : IsOneOf left.done entry_of ⊎ IsOneOf left.goes_on.own entry_of → Makes (seen_told entry_of.reply) e
    by (inl done) = absurd (loud (all_one IsQuiet left.done (quiet left.lines (first_state start) [] left.done left.ran) entry_of done))
    by (inr own) =
        let among : IsOneOf (logged left.steps) (step_of entry_of) = subst (λ (l : List Step). IsOneOf l (step_of entry_of)) left.goes_on.steps_of (one_step left.goes_on.own entry_of own) in
        first_makes left.rest left.steps e left.stopped (step_of entry_of) (one_logged left.steps (step_of entry_of) among) loud

-- ---- an entry has the reply

-- an entry that tells of it
abbrev HasEntry : List LogEntry → Reply → Type 0
HasEntry log reply = (x : LogEntry) × IsOneOf log x × (seen_told x.reply ≡ reply)

made_logged : (number : ℕ) (reply : Reply) (e : SetupError) → Tells number reply e → IsOfDepot e → IsLogged reply
made_logged number memory (error.Refused line refusal) tells of = absurd tells.2
made_logged number memory (error.Sealed line) tells of = absurd of
made_logged number memory error.Fault tells of = absurd tells
made_logged number memory (error.Spoiled key) tells of = absurd (cc)
made_logged number memory error.OutOfMemory tells of = absurd of
made_logged number nothing (error.Refused line refusal) tells of = absurd tells.2
made_logged number nothing (error.Sealed line) tells of = absurd of
made_logged number nothing error.Fault tells of = absurd tells
made_logged number nothing (error.Spoiled key) tells of = absurd (cc)
made_logged number nothing error.OutOfMemory tells of = absurd of
made_logged number reply e tells of = tt

loud_of : (number : ℕ) (reply : Reply) (e : SetupError) → Tells number reply e → IsOfDepot e → Makes reply e
loud_of number reply (error.Refused line refusal) tells of = (tells.1, tells.2)
loud_of number reply (error.Sealed line) tells of = absurd of
loud_of number reply error.Fault tells of = tells
loud_of number reply (error.Spoiled key) tells of = tells
loud_of number reply error.OutOfMemory tells of = absurd of

one_with : (r : Reply) (s : Step) → IsLogged r → with_logged r s [] ≡ s ∷ []
one_with memory s h = absurd h
one_with nothing s h = absurd h
one_with r s h = refl

step_entry : (own : List LogEntry) (s : Step) → map step_of own ≡ s ∷ [] → (x : LogEntry) × IsOneOf own x × (step_of x ≡ s)
step_entry [] s e = absurd (cc)
step_entry (x ∷ own) s e = (x, inl refl, cc)

alone_entry : (done log : List LogEntry) (steps : List Step) (call : Call) (reply : Reply) → GoesOn done log steps → steps ≡ step call reply ∷ [] → IsLogged reply → HasEntry log reply
alone_entry done log steps call reply g are is =
    let f = step_entry g.own (step call reply) (g.steps_of ∙ (ap logged are ∙ one_with reply (step call reply) is)) in
    (f.0, subst (λ (l : List LogEntry). IsOneOf l f.0) (sym g.after) (one_later done g.own f.0 f.1), ap (λ (x : Step). x.reply) f.2)

entry_makes : (log : List LogEntry) (reply : Reply) (e : SetupError) → HasEntry log reply → Makes reply e → (x : LogEntry) × IsOneOf log x × Makes (seen_told x.reply) e
entry_makes log reply e (x, one, same) makes = (x, one, subst (λ (r : Reply). Makes r e) (sym same) makes)

rotation_tells : (number : ℕ) (reply : Reply) (e : SetupError) → StopsRotation number reply e → Tells number reply e
rotation_tells number (rotated root) e stops = absurd stops
rotation_tells number reply e stops = stops

opening_tells : (number : ℕ) (tenant : List ℕ) (reply : Reply) (e : SetupError) → StopsOpening number tenant reply e → IsOfDepot e → Tells number reply e
opening_tells number tenant (opened lease m) (error.Refused line refusal) stops of = absurd stops
opening_tells number tenant (opened lease m) (error.Sealed line) stops of = absurd of
opening_tells number tenant (opened lease m) error.Fault stops of = absurd stops
opening_tells number tenant (opened lease m) (error.Spoiled key) stops of = absurd stops
opening_tells number tenant (opened lease m) error.OutOfMemory stops of = absurd of
opening_tells number tenant reply e stops of = stops

module _ (law : CreationsTellWhy) (done log : List LogEntry) where
  creation_told : (number : ℕ) (image tenant raw given : List ℕ) (pieces : List (List ℕ)) (steps : List Step) (end : Ending) (e : SetupError) → GoesOn done log steps → Creates image tenant (map piece pieces ++ last ∷ []) steps end
      → StopsCreation number raw given end e → IsOfDepot e → (x : LogEntry) × IsOneOf log x × Makes (seen_told x.reply) e
  creation_told number image tenant raw given pieces steps (with_root root) e g walk stops of = absurd stops
  creation_told number image tenant raw given pieces steps (with_reply reply) e g walk stops of =
      entry_makes log reply e (law done log image tenant pieces steps reply (made_logged number reply e stops.2 of) g walk) (loud_of number reply e stops.2 of)
  creation_told number image tenant raw given pieces steps with_memory e g walk stops of = absurd (subst IsOfDepot stops of)
  creation_told number image tenant raw given pieces steps with_stop e g walk stops of = absurd (subst IsOfDepot stops of)

  stop_told : (number : ℕ) (setup : SetupSeen) (steps : List Step) (e : SetupError) → GoesOn done log steps → Stops number setup steps e → IsOfDepot e → (x : LogEntry) × IsOneOf log x × Makes (seen_told x.reply) e
  stop_told number (Host name cap) steps e g stops of = absurd stops
  stop_told number (Root salt) steps e g (reply, are, answers, stops) of =
      let tells : Tells number reply e = rotation_tells number reply e stops in
      entry_makes log reply e (alone_entry done log steps (rotates salt) reply g are (made_logged number reply e tells of)) (loud_of number reply e tells of)
  stop_told number (Image name tenant len body) steps e g (pieces, end, walk, stops) of = creation_told number name tenant (raw_of len body) (joined pieces) pieces steps end e g walk stops of
  stop_told number (Device name host image tenant) steps e g (reply, are, answers, stops) of =
      let tells : Tells number reply e = opening_tells number tenant reply e stops of in
      entry_makes log reply e (alone_entry done log steps (opens image) reply g are (made_logged number reply e tells of)) (loud_of number reply e tells of)

  first_told : (rest : List (ℕ × SetupSeen)) (steps : List Step) (e : SetupError) → GoesOn done log steps → StopsFirst rest steps e → IsOfDepot e → (x : LogEntry) × IsOneOf log x × Makes (seen_told x.reply) e
  first_told [] steps e g stops of = absurd (subst IsOfDepot stops.1 of)
  first_told (line ∷ rest) steps e g (inl stops) of = stop_told line.0 line.1 steps e g stops of
  first_told (line ∷ rest) steps e g (inr none) of = absurd (subst IsOfDepot none.1 of)

pub are_told : CreationsTellWhy → ErrorsAreTold
are_told law start setup log e left of = first_told law left.done log left.rest left.steps e left.goes_on left.stopped of

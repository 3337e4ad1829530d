-- Each script's places are declared, and its numbers are within the limits: an invariant of the lines.
use Rattle.std.proofs.Common.{◌≡◌, ◌≢◌, ◌⊎◌, inl, inr, ℕ, zero, suc, ◌+◌, ◌<◌, ◌≤◌, ◌==◌, List, [], ◌∷◌, ◌++◌, length, length-append, map, Bool, true, false, IsTrue, Option, Some, None, slice_get, sum_by, refl, sym, ap, ◌∙◌, subst, arith, eq-eqb, eqb-true}
use Rattle.std.specs.List.{AllByRecursion, list_any}
use Rattle.std.specs.Cmp.Lexicographic.{pointwise}
use Rattle.std.specs.Prelude.{nat_eq, position, ⊤, ◌||◌, ◌&&◌}
use Rattle.std.proofs.lemmas.List.{length-map}
use Rattle.std.proofs.lemmas.List.Sums.{sum_by-append}
use Rattle.std.proofs.lemmas.List.Quantifiers.{position-Some}
use Rattle.std.proofs.lemmas.Bool.{false≢true}
use Rattle.lr_text.specs.Name.{place_of}
use Rattle.lr_text.specs.Words.{split_at_byte, run_sum}
use Rattle.lr_script.specs.declared.kind.Part.{Part}
use Rattle.lr_script.specs.declared.kind.Part.TheVariants as part
use Rattle.lr_script.specs.declared.kind.Kind.{Kind}
use Rattle.lr_script.specs.declared.kind.Kind.TheVariants as kind
use Rattle.lr_script.specs.Kinds.{kind_of, may_come}
use Rattle.lr_script.specs.Limits.{hosts_most, devices_most, actors_most, nodes_least, nodes_most, node_most, crash_most, counts_most}
use Rattle.lr_script.specs.Lines.{KindLine, IsPair, PairWords, ScheduleWords}
use Rattle.lr_script.specs.Seen.{SetupSeen, Host, Root, Image, Device, JobSeen, Read, Zero, Write, Create, Migrate, Withdraw, Rotate, Expire, Delete, Sweep, Settle, Evict, Drop, Flip, Forge, Lose, Close, ScheduleSeen, Serial, Rounds, Pairs, ScriptSeen}
use Rattle.lr_script.specs.State.{State, start, counted, with_setup, with_job, onto_last, add_job, actor_names}
use Rattle.lr_script.specs.Grammar.{is_passed, WordsLine, CountedLine, Reads, Run, Spells}
use Rattle.lr_script.specs.Within.{host_count, device_count, hosts_in, devices_in, IsSetupWithin, IsJobWithin, IsOfActor, IsOfAfter, ActorJob, AfterJob, AreClosedOnce, AfterWithin, IsActor, CrashOnce, ScheduleWithin, IsWithin}

-- ---- lists

all_push : {X : Type 0} (P : X → Type 0) (xs : List X) (x : X) → AllByRecursion P xs → P x → AllByRecursion P (xs ++ x ∷ [])
all_push P [] x h p = (p, tt)
all_push P (y ∷ xs) x h p = (h.0, all_push P xs x h.1 p)

all_by : {X : Type 0} (P Q : X → Type 0) → ((x : X) → P x → Q x) → (xs : List X) → AllByRecursion P xs → AllByRecursion Q xs
all_by P Q f [] h = tt
all_by P Q f (x ∷ xs) h = (f x h.0, all_by P Q f xs h.1)

length_push : {X : Type 0} (xs : List X) (x : X) → length (xs ++ x ∷ []) ≡ length xs + 1
length_push xs x = length-append xs (x ∷ [])

-- an element of a list with one more
get_push : {X : Type 0} (xs : List X) (y : X) (i : ℕ) (x : X) → slice_get (xs ++ y ∷ []) i ≡ Some x → (slice_get xs i ≡ Some x) ⊎ ((i ≡ length xs) × (y ≡ x))
get_push [] y zero x e = inr (refl, cc)
get_push [] y (suc i) x e = cc
get_push (z ∷ xs) y zero x e = inl e
get_push (z ∷ xs) y (suc i) x e = elim (get_push xs y i x e) [ inl h ↦ inl h | inr h ↦ inr (ap suc h.0, h.1) ]

place_within : (names : List (List ℕ)) (name : List ℕ) (i : ℕ) → place_of names name ≡ Some i → i < length names
place_within names name i e = (position-Some (λ n. pointwise nat_eq n name) names i [] e).0

any_push : {X : Type 0} (p : X → Bool) (xs : List X) (x : X) → p x ≡ true → list_any p (xs ++ x ∷ []) ≡ true
any_push p [] x e = rw e refl
any_push p (y ∷ xs) x e = by (p y) (any_push p xs x e)
  where
    by : (b : Bool) → list_any p (xs ++ x ∷ []) ≡ true → b || list_any p (xs ++ x ∷ []) ≡ true
    by true f = refl
    by false f = f

any_more : {X : Type 0} (p : X → Bool) (xs : List X) (x : X) → list_any p xs ≡ true → list_any p (xs ++ x ∷ []) ≡ true
any_more p [] x e = cc
any_more p (y ∷ xs) x e = by (p y) (any_more p xs x) e
  where
    by : (b : Bool) → (list_any p xs ≡ true → list_any p (xs ++ x ∷ []) ≡ true) → b || list_any p xs ≡ true → b || list_any p (xs ++ x ∷ []) ≡ true
    by true more f = refl
    by false more f = more f

any_at : {X : Type 0} (p : X → Bool) (xs : List X) (i : ℕ) (x : X) → slice_get xs i ≡ Some x → p x ≡ true → list_any p xs ≡ true
any_at p [] i x e t = absurd (cc)
any_at p (y ∷ xs) zero x e t = let s : y ≡ x = cc in rw (s, t) refl
any_at p (y ∷ xs) (suc i) x e t = by (p y) (any_at p xs i x e t)
  where
    by : (b : Bool) → list_any p xs ≡ true → b || list_any p xs ≡ true
    by true f = refl
    by false f = f

-- ---- what holds of a front of a script

-- what may be there in each part
abbrev FitsPart : Part → ScriptSeen → Type 0
FitsPart part.Start script = (script.actors ≡ []) × (script.after ≡ None) × (script.crashes ≡ []) × (script.schedule ≡ Serial)
FitsPart part.Setup script = (script.actors ≡ []) × (script.after ≡ None) × (script.crashes ≡ []) × (script.schedule ≡ Serial)
FitsPart part.Actors script = (script.after ≡ None) × (script.crashes ≡ []) × (script.schedule ≡ Serial)
FitsPart part.After script = ((jobs : List JobSeen) × (script.after ≡ Some jobs)) × (script.crashes ≡ []) × (script.schedule ≡ Serial)
FitsPart part.Crashes script = script.schedule ≡ Serial
FitsPart part.End script = ⊤

-- a device that a job of the after part closes is among those closed
abbrev HasClosed : List ℕ → Option (List JobSeen) → Type 0
HasClosed closed None = ⊤
HasClosed closed (Some jobs) = (i device : ℕ) → slice_get jobs i ≡ Some (Close device) → list_any (λ d. d == device) closed ≡ true

record Keeps (p : Part) (ended : List ℕ) (h d : ℕ) (script : ScriptSeen) : Type 0 where
  within : IsWithin script
  hosts : h ≡ hosts_in script.setup
  devices : d ≡ devices_in script.setup
  fits : FitsPart p script
  closed : HasClosed ended script.after

abbrev IsKept : State → Type 0
IsKept s = Keeps s.part s.closed (length s.hosts) (length s.devices) s.script

-- ---- setup lines

hosts_push : (setup : List (ℕ × SetupSeen)) (n : ℕ) (e : SetupSeen) → hosts_in (setup ++ (n, e) ∷ []) ≡ hosts_in setup + host_count e
hosts_push setup n e = let a = sum_by-append (λ (p : ℕ × SetupSeen). host_count p.1) setup ((n, e) ∷ []) in omega arith

devices_push : (setup : List (ℕ × SetupSeen)) (n : ℕ) (e : SetupSeen) → devices_in (setup ++ (n, e) ∷ []) ≡ devices_in setup + device_count e
devices_push setup n e = let a = sum_by-append (λ (p : ℕ × SetupSeen). device_count p.1) setup ((n, e) ∷ []) in omega arith

setup_more : (a b : ℕ) → a ≤ b → (e : SetupSeen) → IsSetupWithin a e → IsSetupWithin b e
setup_more a b l (Host name cap) h = h
setup_more a b l (Root salt) h = tt
setup_more a b l (Image name tenant len body) h = h
setup_more a b l (Device name host image tenant) h = omega arith

keeps_setup : (closed : List ℕ) (hosts devices : ℕ) (script : ScriptSeen) (n : ℕ) (e : SetupSeen) → Keeps part.Setup closed hosts devices script
    → IsSetupWithin (hosts + host_count e) e → hosts + host_count e ≤ hosts_most → devices + device_count e ≤ devices_most
    → Keeps part.Setup closed (hosts + host_count e) (devices + device_count e) (record script { setup = script.setup ++ (n, e) ∷ [] })
keeps_setup closed hosts devices script n e k is few fewer =
    let h : hosts_in (script.setup ++ (n, e) ∷ []) ≡ hosts + host_count e = rw (k.hosts) (hosts_push script.setup n e) in
    let d : devices_in (script.setup ++ (n, e) ∷ []) ≡ devices + device_count e = rw (k.devices) (devices_push script.setup n e) in
    let w = k.within in
    let more : hosts_in script.setup ≤ hosts_in (script.setup ++ (n, e) ∷ []) = rw (hosts_push script.setup n e) (omega arith) in
    record {
      within = record {
        some_nodes = w.some_nodes;
        most_nodes = w.most_nodes;
        some_cap = w.some_cap;
        most_cap = w.most_cap;
        hosts = rw h few;
        devices = rw d fewer;
        actors_few = w.actors_few;
        setup = all_push (λ (p : ℕ × SetupSeen). IsSetupWithin (hosts_in (script.setup ++ (n, e) ∷ [])) p.1) script.setup (n, e)
            (all_by (λ (p : ℕ × SetupSeen). IsSetupWithin (hosts_in script.setup) p.1) (λ (p : ℕ × SetupSeen). IsSetupWithin (hosts_in (script.setup ++ (n, e) ∷ [])) p.1) (λ p q. setup_more (hosts_in script.setup) (hosts_in (script.setup ++ (n, e) ∷ [])) more p.1 q) script.setup w.setup)
            (rw h is);
        actors = rw (k.fits.0) tt;
        after = rw (k.fits.1) tt;
        crashes = w.crashes;
        once = w.once;
        schedule = rw (k.fits.3) tt;
      };
      hosts = sym h;
      devices = sym d;
      fits = k.fits;
      closed = k.closed;
    }

keeps_nodes : (closed : List ℕ) (hosts devices : ℕ) (script : ScriptSeen) (nodes cap : ℕ) → Keeps part.Setup closed hosts devices script
    → nodes_least ≤ nodes → nodes ≤ nodes_most → 1 ≤ cap → cap ≤ node_most
    → Keeps part.Setup closed hosts devices (record script { nodes = nodes; cap = cap })
keeps_nodes closed hosts devices script nodes cap k a b c d =
    let w = k.within in
    record {
      within = record {
        some_nodes = a;
        most_nodes = b;
        some_cap = c;
        most_cap = d;
        hosts = w.hosts;
        devices = w.devices;
        actors_few = w.actors_few;
        setup = w.setup;
        actors = rw (k.fits.0) tt;
        after = rw (k.fits.1) tt;
        crashes = w.crashes;
        once = w.once;
        schedule = rw (k.fits.3) tt;
      };
      hosts = k.hosts;
      devices = k.devices;
      fits = k.fits;
      closed = k.closed;
    }

-- ---- actors and their jobs

onto_all : (P : JobSeen → Type 0) (job : JobSeen) → P job → (actors : List (List ℕ × List JobSeen)) → AllByRecursion (λ (a : List ℕ × List JobSeen). AllByRecursion P a.1) actors
    → AllByRecursion (λ (a : List ℕ × List JobSeen). AllByRecursion P a.1) (onto_last job actors)
onto_all P job p [] h = tt
onto_all P job p (a ∷ []) h = (all_push P a.1 job h.0 p, tt)
onto_all P job p (a ∷ b ∷ rest) h = (h.0, onto_all P job p (b ∷ rest) h.1)

onto_length : (job : JobSeen) (actors : List (List ℕ × List JobSeen)) → length (onto_last job actors) ≡ length actors
onto_length job [] = refl
onto_length job (a ∷ []) = refl
onto_length job (a ∷ b ∷ rest) = ap suc (onto_length job (b ∷ rest))

-- no actor yet, or one more
keeps_actor : (p : Part) (closed : List ℕ) (hosts devices : ℕ) (script : ScriptSeen) (name : List ℕ) → Keeps p closed hosts devices script
    → script.after ≡ None → script.crashes ≡ [] → script.schedule ≡ Serial → length script.actors < actors_most
    → Keeps part.Actors closed hosts devices (record script { actors = script.actors ++ (name, []) ∷ [] })
keeps_actor p closed hosts devices script name k none free serial room =
    let w = k.within in
    record {
      within = record {
        some_nodes = w.some_nodes;
        most_nodes = w.most_nodes;
        some_cap = w.some_cap;
        most_cap = w.most_cap;
        hosts = w.hosts;
        devices = w.devices;
        actors_few = rw (length_push script.actors (name, [])) (omega arith);
        setup = w.setup;
        actors = all_push (λ (a : List ℕ × List JobSeen). AllByRecursion (ActorJob script) a.1) script.actors (name, []) w.actors tt;
        after = rw none tt;
        crashes = rw free tt;
        once = w.once;
        schedule = rw serial tt;
      };
      hosts = k.hosts;
      devices = k.devices;
      fits = (none, free, serial);
      closed = k.closed;
    }

keeps_actor_job : (closed : List ℕ) (hosts devices : ℕ) (script : ScriptSeen) (job : JobSeen) → Keeps part.Actors closed hosts devices script
    → IsJobWithin hosts devices script.nodes job → IsOfActor job → Keeps part.Actors closed hosts devices (add_job script.after script job)
keeps_actor_job closed hosts devices script job k within of =
    let w = k.within in
    let is : IsJobWithin (hosts_in script.setup) (devices_in script.setup) script.nodes job = rw (sym k.hosts, sym k.devices) within in
    rw (k.fits.0) (record {
      within = record {
        some_nodes = w.some_nodes;
        most_nodes = w.most_nodes;
        some_cap = w.some_cap;
        most_cap = w.most_cap;
        hosts = w.hosts;
        devices = w.devices;
        actors_few = rw (onto_length job script.actors) w.actors_few;
        setup = w.setup;
        actors = onto_all (ActorJob script) job (is, of) script.actors w.actors;
        after = tt;
        crashes = rw (k.fits.1) tt;
        once = w.once;
        schedule = rw (k.fits.2) tt;
      };
      hosts = k.hosts;
      devices = k.devices;
      fits = (refl, k.fits.1, k.fits.2);
      closed = tt;
    })

-- ---- the after part

keeps_after : (p : Part) (closed : List ℕ) (hosts devices : ℕ) (script : ScriptSeen) → Keeps p closed hosts devices script → script.crashes ≡ [] → script.schedule ≡ Serial
    → Keeps part.After closed hosts devices (record script { after = Some [] })
keeps_after p closed hosts devices script k free serial =
    let w = k.within in
    record {
      within = record {
        some_nodes = w.some_nodes;
        most_nodes = w.most_nodes;
        some_cap = w.some_cap;
        most_cap = w.most_cap;
        hosts = w.hosts;
        devices = w.devices;
        actors_few = w.actors_few;
        setup = w.setup;
        actors = w.actors;
        after = (tt, λ i j device e f. absurd (no_get i e));
        crashes = w.crashes;
        once = w.once;
        schedule = rw serial tt;
      };
      hosts = k.hosts;
      devices = k.devices;
      fits = (([], refl), free, serial);
      closed = λ i device e. absurd (no_get i e);
    }
  where
    no_get : {X : Type 0} {x : X} (i : ℕ) → slice_get [] i ≡ Some x → ⊥
    no_get zero e = absurd (cc)
    no_get (suc i) e = absurd (cc)

-- the job closes no device
abbrev ClosesNone : JobSeen → Type 0
ClosesNone job = (device : ℕ) → job ≢ Close device

-- a further job of the after part, with the devices closed then
keeps_after_job : (closed new : List ℕ) (hosts devices : ℕ) (script : ScriptSeen) (job : JobSeen) → Keeps part.After closed hosts devices script
    → IsJobWithin hosts devices script.nodes job → IsOfAfter job
    → ((jobs : List JobSeen) → script.after ≡ Some jobs → AreClosedOnce jobs → HasClosed closed (Some jobs) → AreClosedOnce (jobs ++ job ∷ []) × HasClosed new (Some (jobs ++ job ∷ [])))
    → Keeps part.After new hosts devices (add_job script.after script job)
keeps_after_job closed new hosts devices script job k within of closes =
    let w = k.within in
    let jobs = k.fits.0.0 in
    let e : script.after ≡ Some jobs = k.fits.0.1 in
    let is : IsJobWithin (hosts_in script.setup) (devices_in script.setup) script.nodes job = rw (sym k.hosts, sym k.devices) within in
    let was : AfterWithin script (Some jobs) = subst (AfterWithin script) e w.after in
    let c = closes jobs e was.1 (subst (HasClosed closed) e k.closed) in
    rw e (record {
      within = record {
        some_nodes = w.some_nodes;
        most_nodes = w.most_nodes;
        some_cap = w.some_cap;
        most_cap = w.most_cap;
        hosts = w.hosts;
        devices = w.devices;
        actors_few = w.actors_few;
        setup = w.setup;
        actors = w.actors;
        after = (all_push (AfterJob script) jobs job was.0 (is, of), c.0);
        crashes = w.crashes;
        once = w.once;
        schedule = rw (k.fits.2) tt;
      };
      hosts = k.hosts;
      devices = k.devices;
      fits = ((jobs ++ job ∷ [], refl), k.fits.1, k.fits.2);
      closed = c.1;
    })

closes_none : (closed : List ℕ) (job : JobSeen) → ClosesNone job → (jobs : List JobSeen) → AreClosedOnce jobs → HasClosed closed (Some jobs)
    → AreClosedOnce (jobs ++ job ∷ []) × HasClosed closed (Some (jobs ++ job ∷ []))
closes_none closed job none jobs once has = (
  (λ i j device e f. elim (get_push jobs job i (Close device) e) [
    | inl a ↦ elim (get_push jobs job j (Close device) f) [ inl b ↦ once i j device a b | inr b ↦ absurd (none device b.1) ]
    | inr a ↦ absurd (none device a.1)
  ]),
  (λ i device e. elim (get_push jobs job i (Close device) e) [ inl a ↦ has i device a | inr a ↦ absurd (none device a.1) ]),
)

close_one : (a b : ℕ) → Close a ≡ Close b → a ≡ b
close_one a b e = ap closed_by e
  where
    closed_by : JobSeen → ℕ
    closed_by (Close d) = d
    closed_by job = 0

closes_once : (closed : List ℕ) (closing : ℕ) → list_any (λ d. d == closing) closed ≡ false → (jobs : List JobSeen) → AreClosedOnce jobs → HasClosed closed (Some jobs)
    → AreClosedOnce (jobs ++ Close closing ∷ []) × HasClosed (closed ++ closing ∷ []) (Some (jobs ++ Close closing ∷ []))
closes_once closed closing fresh jobs once has =
    let apart : (i device : ℕ) → slice_get jobs i ≡ Some (Close device) → Close closing ≡ Close device → ⊥ =
    (λ i device a s. let t = close_one closing device s in let h = has i device a in false≢true (sym fresh ∙ rw t h)) in (
      (λ i j device e f. elim (get_push jobs (Close closing) i (Close device) e) [
        | inl a ↦ elim (get_push jobs (Close closing) j (Close device) f) [ inl b ↦ once i j device a b | inr b ↦ absurd (apart i device a b.1) ]
        | inr a ↦ elim (get_push jobs (Close closing) j (Close device) f) [ inl b ↦ absurd (apart j device b a.1) | inr b ↦ a.0 ∙ sym b.0 ]
      ]),
      (λ i device e. elim (get_push jobs (Close closing) i (Close device) e) [
        | inl a ↦ any_more (λ d. d == device) closed closing (has i device a)
        | inr a ↦ any_push (λ d. d == device) closed closing (eq-eqb closing device (close_one closing device a.1))
      ]),
    )

-- ---- crash lines and the schedule

keeps_crash : (p : Part) (closed : List ℕ) (hosts devices : ℕ) (script : ScriptSeen) (actor steps : ℕ) → Keeps p closed hosts devices script → script.schedule ≡ Serial
    → actor < length script.actors → list_any (λ c. c.0 == actor + 1) script.crashes ≡ false → steps ≤ crash_most
    → Keeps part.Crashes closed hosts devices (record script { crashes = script.crashes ++ (actor + 1, steps) ∷ [] })
keeps_crash p closed hosts devices script actor steps k serial there fresh most =
    let w = k.within in
    let apart : (i a : ℕ) → slice_get script.crashes i ≡ Some (actor + 1, a) → ⊥ =
    (λ i a e. false≢true (sym fresh ∙ any_at (λ c. c.0 == actor + 1) script.crashes i (actor + 1, a) e (eq-eqb (actor + 1) (actor + 1) refl))) in
    record {
      within = record {
        some_nodes = w.some_nodes;
        most_nodes = w.most_nodes;
        some_cap = w.some_cap;
        most_cap = w.most_cap;
        hosts = w.hosts;
        devices = w.devices;
        actors_few = w.actors_few;
        setup = w.setup;
        actors = w.actors;
        after = after script.after w.after;
        crashes = all_push (λ (c : ℕ × ℕ). IsActor script c.0 × (c.1 ≤ crash_most)) script.crashes (actor + 1, steps) w.crashes ((omega arith, omega arith), most);
        once = λ i j number a b e f. elim (get_push script.crashes (actor + 1, steps) i (number, a) e) [
          | inl g ↦ elim (get_push script.crashes (actor + 1, steps) j (number, b) f) [
            | inl h ↦ w.once i j number a b g h
            | inr h ↦ absurd (apart i a (rw (ap (λ (c : ℕ × ℕ). c.0) h.1) g))
          ]
          | inr g ↦ elim (get_push script.crashes (actor + 1, steps) j (number, b) f) [
            | inl h ↦ absurd (apart j b (rw (ap (λ (c : ℕ × ℕ). c.0) g.1) h))
            | inr h ↦ g.0 ∙ sym h.0
          ]
        ];
        schedule = rw serial tt;
      };
      hosts = k.hosts;
      devices = k.devices;
      fits = serial;
      closed = k.closed;
    }
  where
    after : (o : Option (List JobSeen)) → AfterWithin script o → AfterWithin (record script { crashes = script.crashes ++ (actor + 1, steps) ∷ [] }) o
    after None h = tt
    after (Some jobs) h = h

pairs_within : (script : ScriptSeen) (names words : List (List ℕ)) (pairs : List (ℕ × ℕ)) (rounds : Bool) → length names ≡ length script.actors → PairWords names words pairs rounds
    → AllByRecursion (λ (p : ℕ × ℕ). IsActor script p.0 × (1 ≤ p.1)) pairs
pairs_within script names [] pairs rounds n h = rw (h.0) tt
pairs_within script names (word ∷ []) pairs rounds n h = rw (h.1) tt
pairs_within script names (name ∷ count ∷ words) [] rounds n h = tt
pairs_within script names (name ∷ count ∷ words) (p ∷ pairs) rounds n h =
    let l = place_within names name h.0.actor h.0.declared in
    let e = h.0.number in
    (((omega arith, omega arith), h.0.some), pairs_within script names words pairs rounds n h.1)

schedule_within : (script : ScriptSeen) (names words : List (List ℕ)) (schedule : ScheduleSeen) → length names ≡ length script.actors → ScheduleWords names words schedule → ScheduleWithin script schedule
schedule_within script names words Serial n h = tt
schedule_within script names words Rounds n h = tt
schedule_within script names words (Pairs pairs rounds) n h = (pairs_within script names words pairs rounds n h.3, h.2)

keeps_schedule : (p : Part) (closed : List ℕ) (hosts devices : ℕ) (script : ScriptSeen) (schedule : ScheduleSeen) → Keeps p closed hosts devices script → ScheduleWithin script schedule
    → Keeps part.End closed hosts devices (record script { schedule = schedule })
keeps_schedule p closed hosts devices script schedule k is =
    let w = k.within in
    record {
      within = record {
        some_nodes = w.some_nodes;
        most_nodes = w.most_nodes;
        some_cap = w.some_cap;
        most_cap = w.most_cap;
        hosts = w.hosts;
        devices = w.devices;
        actors_few = w.actors_few;
        setup = w.setup;
        actors = w.actors;
        after = after script.after w.after;
        crashes = w.crashes;
        once = w.once;
        schedule = scheduled schedule is;
      };
      hosts = k.hosts;
      devices = k.devices;
      fits = tt;
      closed = k.closed;
    }
  where
    after : (o : Option (List JobSeen)) → AfterWithin script o → AfterWithin (record script { schedule = schedule }) o
    after None h = tt
    after (Some jobs) h = h

    scheduled : (x : ScheduleSeen) → ScheduleWithin script x → ScheduleWithin (record script { schedule = schedule }) x
    scheduled Serial h = tt
    scheduled Rounds h = tt
    scheduled (Pairs pairs rounds) h = h

-- ---- a line of each kind

-- jobs come in the actors' part and the after part
job_at : (p : Part) (k : Kind) → IsTrue (may_come p k) → ¬ (IsTrue (may_come part.Start k)) → ¬ (IsTrue (may_come part.Setup k)) → ¬ (IsTrue (may_come part.Crashes k)) → ¬ (IsTrue (may_come part.End k))
    → (p ≡ part.Actors) ⊎ ((p ≡ part.After) × IsTrue (may_come part.After k))
job_at part.Start k m a b c d = absurd (a m)
job_at part.Setup k m a b c d = absurd (b m)
job_at part.Actors k m a b c d = inl refl
job_at part.After k m a b c d = inr (refl, m)
job_at part.Crashes k m a b c d = absurd (c m)
job_at part.End k m a b c d = absurd (d m)

-- setup lines come in the setup part
setup_at : (p : Part) (k : Kind) → IsTrue (may_come p k) → ¬ (IsTrue (may_come part.Start k)) → ¬ (IsTrue (may_come part.Actors k)) → ¬ (IsTrue (may_come part.After k)) → ¬ (IsTrue (may_come part.Crashes k)) → ¬ (IsTrue (may_come part.End k)) → p ≡ part.Setup
setup_at part.Start k m a b c d e = absurd (a m)
setup_at part.Setup k m a b c d e = refl
setup_at part.Actors k m a b c d e = absurd (b m)
setup_at part.After k m a b c d e = absurd (c m)
setup_at part.Crashes k m a b c d e = absurd (d m)
setup_at part.End k m a b c d e = absurd (e m)

-- a setup line
kept_setup : (s : State) (hosts devices : List (List ℕ)) (chunks raw : ℕ) (e : SetupSeen) → IsKept s → s.part ≡ part.Setup
    → length hosts ≡ length s.hosts + host_count e → length devices ≡ length s.devices + device_count e
    → IsSetupWithin (length s.hosts + host_count e) e → length s.hosts + host_count e ≤ hosts_most → length s.devices + device_count e ≤ devices_most
    → IsKept (with_setup (record s { hosts = hosts; devices = devices; chunks = chunks; raw = raw }) e)
kept_setup s hosts devices chunks raw e k p a b is few fewer =
    let now = subst (λ (p : Part). Keeps p s.closed (length s.hosts) (length s.devices) s.script) p k in
    rw (p, a, b) (keeps_setup s.closed (length s.hosts) (length s.devices) s.script s.lines e now is few fewer)

-- a job of an actor
kept_actor_job : (s : State) (raw called : ℕ) (job : JobSeen) → IsKept s → s.part ≡ part.Actors → IsJobWithin (length s.hosts) (length s.devices) s.script.nodes job → IsOfActor job
    → IsKept (with_job (record s { raw = raw; called = called }) job)
kept_actor_job s raw called job k p is of =
    let now = subst (λ (p : Part). Keeps p s.closed (length s.hosts) (length s.devices) s.script) p k in
    rw p (keeps_actor_job s.closed (length s.hosts) (length s.devices) s.script job now is of)

-- a job of either part that closes no device
kept_job : (s : State) (job : JobSeen) → IsKept s → (s.part ≡ part.Actors) ⊎ (s.part ≡ part.After) → IsJobWithin (length s.hosts) (length s.devices) s.script.nodes job → IsOfActor job → IsOfAfter job → ClosesNone job
    → IsKept (with_job s job)
kept_job s job k (inl p) is of after none = kept_actor_job s s.raw s.called job k p is of
kept_job s job k (inr p) is of after none =
    let now = subst (λ (p : Part). Keeps p s.closed (length s.hosts) (length s.devices) s.script) p k in
    rw p (keeps_after_job s.closed s.closed (length s.hosts) (length s.devices) s.script job now is after (λ jobs e once has. closes_none s.closed job none jobs once has))

-- ---- all kinds

never : IsTrue false → ⊥
never e = absurd (cc)

now_in : (s : State) (p : Part) → IsKept s → s.part ≡ p → Keeps p s.closed (length s.hosts) (length s.devices) s.script
now_in s p k e = subst (λ (q : Part). Keeps q s.closed (length s.hosts) (length s.devices) s.script) e k

script_part : (p : Part) (script : ScriptSeen) → IsTrue (may_come p kind.Script) → FitsPart p script → FitsPart part.Setup script
script_part part.Start script m f = f
script_part part.Setup script m f = absurd (never m)
script_part part.Actors script m f = absurd (never m)
script_part part.After script m f = absurd (never m)
script_part part.Crashes script m f = absurd (never m)
script_part part.End script m f = absurd (never m)

actor_part : (p : Part) (script : ScriptSeen) → IsTrue (may_come p kind.Actor) → FitsPart p script → (script.after ≡ None) × (script.crashes ≡ []) × (script.schedule ≡ Serial)
actor_part part.Start script m f = absurd (never m)
actor_part part.Setup script m f = (f.1, f.2, f.3)
actor_part part.Actors script m f = f
actor_part part.After script m f = absurd (never m)
actor_part part.Crashes script m f = absurd (never m)
actor_part part.End script m f = absurd (never m)

after_part : (p : Part) (script : ScriptSeen) → IsTrue (may_come p kind.After) → FitsPart p script → (script.crashes ≡ []) × (script.schedule ≡ Serial)
after_part part.Start script m f = absurd (never m)
after_part part.Setup script m f = (f.2, f.3)
after_part part.Actors script m f = (f.1, f.2)
after_part part.After script m f = absurd (never m)
after_part part.Crashes script m f = absurd (never m)
after_part part.End script m f = absurd (never m)

crash_part : (p : Part) (script : ScriptSeen) → IsTrue (may_come p kind.Crash) → FitsPart p script → script.schedule ≡ Serial
crash_part part.Start script m f = absurd (never m)
crash_part part.Setup script m f = f.3
crash_part part.Actors script m f = f.2
crash_part part.After script m f = f.2
crash_part part.Crashes script m f = f
crash_part part.End script m f = absurd (never m)

-- a job that comes in the actors' part alone
actors_at : (p : Part) (k : Kind) → IsTrue (may_come p k) → ¬ (IsTrue (may_come part.Start k)) → ¬ (IsTrue (may_come part.Setup k)) → ¬ (IsTrue (may_come part.After k)) → ¬ (IsTrue (may_come part.Crashes k)) → ¬ (IsTrue (may_come part.End k)) → p ≡ part.Actors
actors_at p k m a b c d e = elim (job_at p k m a b d e) [ inl h ↦ h | inr h ↦ absurd (c h.1) ]

both_at : (p : Part) (k : Kind) → IsTrue (may_come p k) → ¬ (IsTrue (may_come part.Start k)) → ¬ (IsTrue (may_come part.Setup k)) → ¬ (IsTrue (may_come part.Crashes k)) → ¬ (IsTrue (may_come part.End k)) → (p ≡ part.Actors) ⊎ (p ≡ part.After)
both_at p k m a b c d = elim (job_at p k m a b c d) [ inl h ↦ inl h | inr h ↦ inr h.0 ]

names_many : (s : State) → length (actor_names s) ≡ length s.script.actors
names_many s = length-map s.script.actors (λ (a : List ℕ × List JobSeen). a.0)

-- A line of any kind that may come keeps it.
kept_kind : (k : Kind) (s : State) (words : List (List ℕ)) (after : State) → IsTrue (may_come s.part k) → IsKept s → KindLine k s words after → IsKept after
kept_kind kind.Script s words after m k h = subst IsKept (sym h.result) (record { within = k.within; hosts = k.hosts; devices = k.devices; fits = script_part s.part s.script m k.fits; closed = k.closed })
kept_kind kind.Nodes s words after m k h =
    let p = setup_at s.part kind.Nodes m never never never never never in
    subst IsKept (sym h.result) (rw p (keeps_nodes s.closed (length s.hosts) (length s.devices) s.script h.nodes h.cap (now_in s part.Setup k p) h.some_nodes h.most_nodes h.some_cap h.most_cap))
kept_kind kind.Host s words after m k h =
    let p = setup_at s.part kind.Host m never never never never never in
    let w = k.within.devices in
    let d = k.devices in
    let r = h.room in
    subst IsKept (sym h.result) (kept_setup s (s.hosts ++ h.name ∷ []) s.devices (s.chunks + h.cap) s.raw (Host h.name h.cap) k p (length_push s.hosts h.name) (omega arith) (h.some, h.most) (omega arith) (omega arith))
kept_kind kind.Root s words after m k h =
    let p = setup_at s.part kind.Root m never never never never never in
    let w = k.within.devices in
    let d = k.devices in
    let v = k.within.hosts in
    let c = k.hosts in
    subst IsKept (sym h.result) (kept_setup s s.hosts s.devices s.chunks s.raw (Root h.salt) k p (omega arith) (omega arith) tt (omega arith) (omega arith))
kept_kind kind.Image s words after m k h =
    let p = setup_at s.part kind.Image m never never never never never in
    let w = k.within.devices in
    let d = k.devices in
    let v = k.within.hosts in
    let c = k.hosts in
    subst IsKept (sym h.result) (kept_setup s s.hosts s.devices s.chunks (s.raw + h.len) (Image h.name h.tenant h.len h.body) k p (omega arith) (omega arith) (h.image.most, h.image.fits) (omega arith) (omega arith))
kept_kind kind.Device s words after m k h =
    let p = setup_at s.part kind.Device m never never never never never in
    let v = k.within.hosts in
    let c = k.hosts in
    let r = h.room in
    let l = place_within s.hosts h.host_name h.host h.declared_host in
    subst IsKept (sym h.result) (kept_setup s s.hosts (s.devices ++ h.name ∷ []) s.chunks s.raw (Device h.name h.host h.image h.tenant) k p (omega arith) (length_push s.devices h.name) (omega arith) (omega arith) (omega arith))
kept_kind kind.Actor s words after m k h =
    let f = actor_part s.part s.script m k.fits in
    subst IsKept (sym h.result) (keeps_actor s.part s.closed (length s.hosts) (length s.devices) s.script h.name k f.0 f.1 f.2 h.room)
kept_kind kind.Read s words after m k h =
    subst IsKept (sym h.result) (kept_actor_job s s.raw (s.called + h.len) (Read h.device h.offset h.len) k (actors_at s.part kind.Read m never never never never never) (place_within s.devices h.range.name h.device h.range.declared, h.range.most) tt)
kept_kind kind.Zero s words after m k h =
    subst IsKept (sym h.result) (kept_actor_job s s.raw (s.called + h.len) (Zero h.device h.offset h.len) k (actors_at s.part kind.Zero m never never never never never) (place_within s.devices h.range.name h.device h.range.declared, h.range.most) tt)
kept_kind kind.Write s words after m k h =
    subst IsKept (sym h.result) (kept_actor_job s s.raw (s.called + run_sum h.runs) (Write h.device h.offset h.runs) k (actors_at s.part kind.Write m never never never never never) (place_within s.devices h.name h.device h.declared, h.are.fit) tt)
kept_kind kind.Create s words after m k h =
    subst IsKept (sym h.result) (kept_actor_job s (s.raw + h.len) s.called (Create h.name h.tenant h.len h.body) k (actors_at s.part kind.Create m never never never never never) (h.image.most, h.image.fits) tt)
kept_kind kind.Migrate s words after m k h =
    subst IsKept (sym h.result) (kept_job s (Migrate h.image) k (both_at s.part kind.Migrate m never never never never) tt tt tt (λ d e. absurd (cc)))
kept_kind kind.Withdraw s words after m k h =
    subst IsKept (sym h.result) (kept_job s (Withdraw h.image) k (both_at s.part kind.Withdraw m never never never never) tt tt tt (λ d e. absurd (cc)))
kept_kind kind.Rotate s words after m k h =
    subst IsKept (sym h.result) (kept_job s (Rotate h.salt) k (both_at s.part kind.Rotate m never never never never) tt tt tt (λ d e. absurd (cc)))
kept_kind kind.Expire s words after m k h =
    subst IsKept (sym h.result) (kept_job s (Expire h.root) k (both_at s.part kind.Expire m never never never never) (h.is.some, h.is.most) tt tt (λ d e. absurd (cc)))
kept_kind kind.Delete s words after m k h =
    subst IsKept (sym h.result) (kept_job s (Delete h.root) k (both_at s.part kind.Delete m never never never never) (h.is.some, h.is.most) tt tt (λ d e. absurd (cc)))
kept_kind kind.Sweep s words after m k h =
    subst IsKept (sym h.result) (kept_job s (Sweep h.root) k (both_at s.part kind.Sweep m never never never never) (h.is.some, h.is.most) tt tt (λ d e. absurd (cc)))
kept_kind kind.Settle s words after m k h =
    subst IsKept (sym h.result) (kept_job s (Settle h.key) k (both_at s.part kind.Settle m never never never never) tt tt tt (λ d e. absurd (cc)))
kept_kind kind.Evict s words after m k h =
    subst IsKept (sym h.result) (kept_actor_job s s.raw s.called (Evict h.host) k (actors_at s.part kind.Evict m never never never never never) (place_within s.hosts h.name h.host h.declared) tt)
kept_kind kind.Drop s words after m k h =
    subst IsKept (sym h.result) (kept_actor_job s s.raw s.called (Drop h.stripe h.device h.index) k (actors_at s.part kind.Drop m never never never never never) (h.most_stripe, place_within s.devices h.name h.device h.declared, h.most_index) tt)
kept_kind kind.Flip s words after m k h =
    subst IsKept (sym h.result) (kept_actor_job s s.raw s.called (Flip h.stripe h.device h.index h.at) k (actors_at s.part kind.Flip m never never never never never) (h.most_stripe, place_within s.devices h.name h.device h.declared, h.most_index, h.most_at) tt)
kept_kind kind.Forge s words after m k h =
    subst IsKept (sym h.result) (kept_actor_job s s.raw s.called (Forge h.device h.index) k (actors_at s.part kind.Forge m never never never never never) (place_within s.devices h.name h.device h.declared, h.most) tt)
kept_kind kind.Lose s words after m k h =
    subst IsKept (sym h.result) (kept_actor_job s s.raw s.called (Lose h.node) k (actors_at s.part kind.Lose m never never never never never) h.below tt)
kept_kind kind.After s words after m k h =
    let f = after_part s.part s.script m k.fits in
    subst IsKept (sym h.result) (keeps_after s.part s.closed (length s.hosts) (length s.devices) s.script k f.0 f.1)
kept_kind kind.Close s words after m k h =
    let p = after_at s.part m in
    subst IsKept (sym h.result) (rw p (keeps_after_job s.closed (s.closed ++ h.device ∷ []) (length s.hosts) (length s.devices) s.script (Close h.device) (now_in s part.After k p)
    (place_within s.devices h.name h.device h.declared) tt (λ jobs e once has. closes_once s.closed h.device h.once jobs once has)))
  where
    after_at : (p : Part) → IsTrue (may_come p kind.Close) → p ≡ part.After
    after_at part.Start m = absurd (never m)
    after_at part.Setup m = absurd (never m)
    after_at part.Actors m = absurd (never m)
    after_at part.After m = refl
    after_at part.Crashes m = absurd (never m)
    after_at part.End m = absurd (never m)
kept_kind kind.Crash s words after m k h =
    let l : h.actor < length s.script.actors = rw (names_many s) at (place_within (actor_names s) h.name h.actor h.declared) in
    subst IsKept (sym h.result) (keeps_crash s.part s.closed (length s.hosts) (length s.devices) s.script h.actor h.steps k (crash_part s.part s.script m k.fits) l h.once h.most)
kept_kind kind.Schedule s words after m k h =
    subst IsKept (sym h.result) (keeps_schedule s.part s.closed (length s.hosts) (length s.devices) s.script h.schedule k (schedule_within s.script (actor_names s) words h.schedule (names_many s) h.spelled))
kept_kind kind.Other s words after m k h = absurd h

kept_words : (s : State) (words : List (List ℕ)) (after : State) → IsKept s → WordsLine s words after → IsKept after
kept_words s [] after k h = absurd h
kept_words s (word ∷ words) after k h = kept_kind (kind_of word) s words after h.0 k h.1

kept_counted : (passed : Bool) (s : State) (line : List ℕ) (after : State) → IsKept s → CountedLine passed s line after → IsKept after
kept_counted true s line after k h = subst IsKept (sym h) k
kept_counted false s line after k h = kept_words s (split_at_byte 32 line) after k h

kept_run : (s : State) (lines : List (List ℕ)) (last : State) → IsKept s → Run s lines last → IsKept last
kept_run s [] last k h = subst IsKept h k
kept_run s (line ∷ lines) last k h = kept_run h.0 lines last (kept_counted (is_passed line) (counted s line) line h.0 k h.1.item) h.2

kept_start : IsKept start
kept_start = record {
  within = record {
    some_nodes = omega arith;
    most_nodes = omega arith;
    some_cap = omega arith;
    most_cap = omega arith;
    hosts = omega arith;
    devices = omega arith;
    actors_few = omega arith;
    setup = tt;
    actors = tt;
    after = tt;
    crashes = tt;
    once = λ i j number a b e f. absurd (no_get i e);
    schedule = tt;
  };
  hosts = refl;
  devices = refl;
  fits = (refl, refl, refl, refl);
  closed = tt;
}
  where
    no_get : {X : Type 0} {x : X} (i : ℕ) → slice_get [] i ≡ Some x → ⊥
    no_get zero e = absurd (cc)
    no_get (suc i) e = absurd (cc)

pub scripts_within : (bytes : List ℕ) (script : ScriptSeen) → Spells bytes script → IsWithin script
scripts_within bytes script h = subst IsWithin (sym h.result) (kept_run start h.whole.lines h.last kept_start h.whole.run).within

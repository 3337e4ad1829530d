-- The setup's log, line by line: what each device is opened on.
use Rattle.std.proofs.Common.{◌≡◌, ◌≢◌, ◌<◌, ℕ, zero, suc, List, [], ◌∷◌, ◌++◌, length, take, map, find, get_or, Option, Some, None, IsSome, Bool, true, false, cond, nat_eq, refl, sym, ap, subst, ◌∙◌, inl, inr, append_assoc, eq-eqb, arith}
use Rattle.std.specs.Prelude.{◌&&◌}
use mathlib.Core.Logic.{◌⊎◌}
use Rattle.std.specs.Arc.{arc_value}
use Rattle.std.specs.declared.sync.Arc.{Arc}
use Rattle.std.specs.declared.alloc.Global.{Global}
use Rattle.std.specs.Str.{bytes_eq}
use Rattle.std.proofs.lemmas.Slice.Eq.{bytes_eq-Decides}
use Rattle.std.specs.List.{AllByRecursion, AllZip, Contains}
use Rattle.std.proofs.lemmas.Bool.{cases_order}
use Rattle.std.proofs.lemmas.List.{take_at}
use Rattle.std.proofs.lemmas.List.Elements.{Contains-append_cases, recursion_from_All, All-from_recursion, All-contains}
use Rattle.std.specs.FinMap as finmap
use Rattle.sha2.specs.Sha256.{sha256}
use Rattle.lr_convergent.specs.Sealed.{sealed_bytes, sealed_name}
use Rattle.lr_manifest.specs.declared.name.Name.{Name}
use Rattle.lr_manifest.specs.Manifest.{ManifestFields}
use Rattle.lr_seal.specs.Table.{HasTag, key_list}
use Rattle.lr_origin.specs.Objects.{Objects}
use Rattle.lr_origin.specs.Text.{key_text, IsKind}
use Rattle.lr_origin.specs.declared.key.KeyKind.TheVariants as kind
use Rattle.lr_roots.specs.View.{View, Held, manifest, Has}
use Rattle.lr_roots.specs.Roots.{IsHome, IsComplete}
use Rattle.lr_roots.specs.Sound.{IsSound}
use Rattle.lr_opening.specs.Store.{Mirrors, IsSame}
use Rattle.lr_rules.specs.State.{Creates, State, Holds}
use Rattle.lr_rules.specs.Safe.{IsSafe}
use Rattle.lr_rules.specs.Calls.{MayOpen, MayBegin}
use Rattle.lr_rules.proofs.Calls.{view_good}
use Rattle.lr_rules.proofs.Keys.{no_some}
use Rattle.lr_depot.specs.declared.call.DepotCall.TheVariants.{BeginCreate}
use Rattle.lr_depot.specs.declared.call.DepotReply.TheVariants.{Began}
use Rattle.lr_depot.specs.declared.call.DepotNoted.TheVariants as noted
use Rattle.lr_depot.specs.declared.call.DepotTold.TheVariants as told
use Rattle.lr_depot.specs.Machine.{LogEntry, DepotStep, after_entry, run}
use Rattle.lr_depot.specs.Store.{IsRun}
use Rattle.lr_depot.proofs.Moved.{entry_safe}
use Rattle.lr_history.specs.Run.{ImageLine, creation_of, DeviceLine}
use Rattle.lr_layout.specs.Chunks.{chunks_of}
use Rattle.lr_seal.specs.Made.{IsMadeOf}
use Rattle.lr_history.specs.Strings.{chunks_made}
use Rattle.lr_history.specs.Opened.{is_line_of, or_else, body_made, body_of}
use Rattle.lr_history.specs.Premises.{IsOpened}
use Rattle.lr_history.proofs.Public.{all_append, all_weaker, later, first, find_passes}
use Rattle.lr_setup.specs.Setup.{SetupLine, rotates, creates, opens, images_of, devices_of, entry, IsKept, IsSetup}
use Rattle.lr_setup.proofs.Steps.{began_step, opened_step, KeepsManifests, keeps_then, rotate_keeps, rotate_adds, PutsChunk, put_chunk, MakesManifest, make_manifest, begun_holds}

-- ---- bodies that image lines make

some_else : (o p : Option (List ℕ)) → IsSome p → IsSome (or_else o p)
some_else None p h = h
some_else (Some x) p h = refl

some_first : (o p : Option (List ℕ)) → IsSome o → IsSome (or_else o p)
some_first None p h = absurd (cc)
some_first (Some x) p h = refl

either_else : (o p q : Option (List ℕ)) → (IsSome p → IsSome q) → IsSome (or_else o p) → IsSome (or_else o q)
either_else None p q w h = w h
either_else (Some x) p q w h = refl

pub made_more : (before later : List ImageLine) (root : ℕ) (name : List ℕ) → IsSome (body_made before root name) → IsSome (body_made (before ++ later) root name)
made_more [] later root name h = absurd (cc)
made_more (l ∷ before) later root name h = by (made_more before later root name) (nat_eq l.root root) h
  where
    by : (IsSome (body_made before root name) → IsSome (body_made (before ++ later) root name)) → (b : Bool)
        → IsSome (cond b (or_else (find (λ (body : List ℕ). bytes_eq (sha256 body) name) (chunks_made (creation_of l))) (body_made before root name)) (body_made before root name))
        → IsSome (cond b (or_else (find (λ (body : List ℕ). bytes_eq (sha256 body) name) (chunks_made (creation_of l))) (body_made (before ++ later) root name)) (body_made (before ++ later) root name))
    by more true h = either_else (find (λ (body : List ℕ). bytes_eq (sha256 body) name) (chunks_made (creation_of l))) (body_made before root name) (body_made (before ++ later) root name) more h
    by more false h = more h

pub made_last : (before later : List ImageLine) (root : ℕ) (name : List ℕ) → IsSome (body_made later root name) → IsSome (body_made (before ++ later) root name)
made_last [] later root name h = h
made_last (l ∷ before) later root name h = by (nat_eq l.root root) (made_last before later root name h)
  where
    by : (b : Bool) → IsSome (body_made (before ++ later) root name)
        → IsSome (cond b (or_else (find (λ (body : List ℕ). bytes_eq (sha256 body) name) (chunks_made (creation_of l))) (body_made (before ++ later) root name)) (body_made (before ++ later) root name))
    by true h = some_else (find (λ (body : List ℕ). bytes_eq (sha256 body) name) (chunks_made (creation_of l))) (body_made (before ++ later) root name) h
    by false h = h

-- a sealed chunk of this name is found
found_of : (salt : List ℕ) (chunks : List (List ℕ)) (name : List ℕ) → Contains (map (sealed_name salt) chunks) name
    → IsSome (find (λ (body : List ℕ). bytes_eq (sha256 body) name) (map (sealed_bytes salt) chunks))
found_of salt [] name c = absurd (omega (arith, c.1))
found_of salt (p ∷ chunks) name c = by (found_of salt chunks name) c.0 c.1 c.2
  where
    here : (b : Bool) → IsSome (find (λ (body : List ℕ). bytes_eq (sha256 body) name) (map (sealed_bytes salt) chunks)) → IsSome (cond b (Some (sealed_bytes salt p)) (find (λ (body : List ℕ). bytes_eq (sha256 body) name) (map (sealed_bytes salt) chunks)))
    here true h = refl
    here false h = h

    by : (Contains (map (sealed_name salt) chunks) name → IsSome (find (λ (body : List ℕ). bytes_eq (sha256 body) name) (map (sealed_bytes salt) chunks)))
        → (k : ℕ) → k < length (map (sealed_name salt) (p ∷ chunks)) → get_or (map (sealed_name salt) (p ∷ chunks)) k name ≡ name
        → IsSome (find (λ (body : List ℕ). bytes_eq (sha256 body) name) (map (sealed_bytes salt) (p ∷ chunks)))
    by more zero l e =
        let is : bytes_eq (sha256 (sealed_bytes salt p)) name ≡ true = (bytes_eq-Decides (sha256 (sealed_bytes salt p)) name).1 e in
        rw is refl
    by more (suc k) l e = here (bytes_eq (sha256 (sealed_bytes salt p)) name) (more (k, omega arith, e))

pub made_one : (line : ImageLine) (name : List ℕ) → Contains (map (sealed_name line.salt) (chunks_of line.raw)) name → IsSome (body_made (line ∷ []) line.root name)
made_one line name c =
    let here : nat_eq line.root line.root ≡ true = eq-eqb line.root line.root refl in
    rw here (some_first (find (λ (body : List ℕ). bytes_eq (sha256 body) name) (chunks_made (creation_of line))) None (found_of line.salt (chunks_of line.raw) name c))

-- ---- a creation's entries

-- what the puts of these chunks do
pub record Puts (s t : State) (session : ℕ) (image : List ℕ) (root number : ℕ) (names : List (List ℕ)) (rest : List LogEntry) : Type 0 where
  pub safe : IsSafe t
  pub holds : Holds t session 0 (Creates image root number)
  pub keeps : KeepsManifests s t
  pub adds : (r : ℕ) (n : List ℕ) → Has t.known.view (kind.Chunk r n) → Has s.known.view (kind.Chunk r n) ⊎ ((r ≡ root) × Contains names n)
  pub lease : t.desk.next_lease ≡ s.desk.next_lease
  pub runs : IsRun t rest

puts_of : (session : ℕ) (image : List ℕ) (root number : ℕ) (rest : List LogEntry) (puts : List LogEntry) (names : List (List ℕ)) (s : State)
    → IsSafe s → Holds s session 0 (Creates image root number) → AllZip (IsKept session) puts names → IsRun s (puts ++ rest)
    → Puts s (run s puts) session image root number names rest
puts_of session image root number rest [] [] s safe holds z is =
    record { safe = safe; holds = holds; keeps = λ r i x e. e; adds = λ r n h. inl h; lease = refl; runs = is }
puts_of session image root number rest [] (n ∷ names) s safe holds z is = absurd z
puts_of session image root number rest (e ∷ puts) [] s safe holds z is = absurd z
puts_of session image root number rest (e ∷ puts) (name ∷ names) s safe holds z is =
    let n : Name = z.0.0 in
    let t : State = after_entry s e in
    let put : PutsChunk s t root n.bytes =
    subst (λ (x : LogEntry). PutsChunk s (after_entry s x) root n.bytes) (sym z.0.1) (put_chunk s session (Creates image root number) n holds) in
    let safe_t : IsSafe t = entry_safe s safe e is.0 is.1 is.2 is.3 in
    let holds_t : Holds t session 0 (Creates image root number) = ap (λ (d : _). finmap.get d.sessions session) put.desk ∙ holds in
    let more = puts_of session image root number rest puts names t safe_t holds_t z.1 is.4 in
    record {
      safe = more.safe;
      holds = more.holds;
      keeps = keeps_then s t (run t puts) put.keeps more.keeps;
      adds = λ r m h. by put r m (more.adds r m h);
      lease = more.lease ∙ ap (λ (d : _). d.next_lease) put.desk;
      runs = more.runs;
    }
  where
    here : (r : ℕ) (m : List ℕ) → Has s.known.view (kind.Chunk r m) ⊎ ((r ≡ root) × (m ≡ z.0.0.bytes)) → Has s.known.view (kind.Chunk r m) ⊎ ((r ≡ root) × Contains (name ∷ names) m)
    here r m (inl h) = inl h
    here r m (inr h) = inr (h.0, subst (λ (x : List ℕ). Contains (name ∷ names) x) (sym z.0.2 ∙ sym h.1) (first name names))

    by : PutsChunk s (after_entry s e) root z.0.0.bytes → (r : ℕ) (m : List ℕ) → Has (after_entry s e).known.view (kind.Chunk r m) ⊎ ((r ≡ root) × Contains names m) → Has s.known.view (kind.Chunk r m) ⊎ ((r ≡ root) × Contains (name ∷ names) m)
    by put r m (inl h) = here r m (put.adds r m h)
    by put r m (inr h) = inr (h.0, later name names m h.1)

-- ---- a whole creation

-- the names of an image line's chunks
abbrev names_of : ImageLine → List (List ℕ)
names_of line = map (sealed_name line.salt) (chunks_of line.raw)

pub record Created (s t : State) (line : ImageLine) (m : ManifestFields) (rest : List LogEntry) : Type 0 where
  pub safe : IsSafe t
  pub keeps : KeepsManifests s t
  pub adds : (r : ℕ) (n : List ℕ) → Has t.known.view (kind.Chunk r n) → Has s.known.view (kind.Chunk r n) ⊎ ((r ≡ line.root) × Contains (names_of line) n)
  pub there : finmap.get t.known.view (kind.Manifest line.root line.image) ≡ Some (manifest m)
  pub new : (q : ℕ) → Has s.known.view (kind.Manifest q line.image) → ⊥
  pub lease : t.desk.next_lease ≡ s.desk.next_lease
  pub runs : IsRun t rest

abbrev began_entry : ImageLine → ℕ → ℕ → LogEntry
began_entry line session number = entry (noted.BeginCreate line.image) (told.Began session line.root line.salt number)

abbrev made_entry : ImageLine → ℕ → Arc ManifestFields Global → LogEntry
made_entry line session m = entry (noted.PutManifest session m) (told.Made line.root)

-- the state after a creation
abbrev pub created_state : State → ImageLine → ℕ → ℕ → List LogEntry → Arc ManifestFields Global → State
created_state s line session number puts m =
    after_entry (run (after_entry s (began_entry line session number)) puts) (made_entry line session m)

pub created : (s : State) → IsSafe s → (line : ImageLine) (session number : ℕ) (puts : List LogEntry) (m : Arc ManifestFields Global) (rest : List LogEntry)
    → AllZip (IsKept session) puts (names_of line) → IsRun s (began_entry line session number ∷ (puts ++ made_entry line session m ∷ rest))
    → Created s (created_state s line session number puts m) line (arc_value m) rest
created s safe line session number puts m rest z is =
    let e : LogEntry = began_entry line session number in
    let t : State = after_entry s e in
    let step : DepotStep s 0 (BeginCreate line.image) (Began session line.root line.salt number) = began_step s line.image session line.root number line.salt is.0 is.1 is.3.noted is.3.told is.2 in
    let may : MayBegin s line.image line.root = step.0 in
    let safe_t : IsSafe t = entry_safe s safe e is.0 is.1 is.2 is.3 in
    let holds : Holds t session 0 (Creates line.image line.root number) = begun_holds s line.image session line.root number line.salt step.1 in
    let puts_t = puts_of session line.image line.root number (made_entry line session m ∷ rest) puts (names_of line) t safe_t holds z is.4 in
    let u : State = run t puts in
    let runs = puts_t.runs in
    let make : MakesManifest u (after_entry u (made_entry line session m)) line.image line.root (arc_value m) =
    make_manifest u puts_t.safe session line.image line.root number m line.root puts_t.holds in
    record {
      safe = entry_safe u puts_t.safe (made_entry line session m) runs.0 runs.1 runs.2 runs.3;
      keeps = keeps_then s u (after_entry u (made_entry line session m)) puts_t.keeps make.keeps;
      adds = λ r n h. puts_t.adds r n (make.adds r n h);
      there = make.there;
      new = λ q h. may.new (inl (kind.Manifest q line.image, h, refl));
      lease = make.lease ∙ puts_t.lease;
      runs = runs.4;
    }

-- ---- later image lines are of other images

has_some : (o : Option Held) → IsSome o → (x : Held) × (o ≡ Some x)
has_some (Some x) h = (x, refl)
has_some None h = absurd (cc)

kept_has : (s t : State) → KeepsManifests s t → (q : ℕ) (image : List ℕ) → Has s.known.view (kind.Manifest q image) → Has t.known.view (kind.Manifest q image)
kept_has s t keeps q image h =
    let x = has_some (finmap.get s.known.view (kind.Manifest q image)) h in
    subst IsSome (sym (keeps q image x.0 x.1)) refl

later_apart : (lines : List SetupLine) (before : List ImageLine) (s : State) (log : List LogEntry) (q : ℕ) (image : List ℕ)
    → IsSafe s → IsRun s log → IsSetup s before lines log → Has s.known.view (kind.Manifest q image)
    → AllByRecursion (λ (l : ImageLine). l.image ≢ image) (images_of lines)
later_apart [] before s log q image safe is w h = tt
later_apart (rotates salt ∷ lines) before s log q image safe is w h =
    let e : LogEntry = entry (noted.Rotate salt) (told.Rotated w.0) in
    let runs : IsRun s (e ∷ w.1) = subst (IsRun s) w.2 is in
    later_apart lines before (after_entry s e) w.1 q image (entry_safe s safe e runs.0 runs.1 runs.2 runs.3) runs.4 w.3
    (kept_has s (after_entry s e) (rotate_keeps s salt w.0) q image h)
later_apart (creates line ∷ lines) before s log q image safe is w h =
    let runs = subst (IsRun s) w.5 is in
    let c = created s safe line w.0 w.1 w.2 w.3 w.4 w.6 runs in (
      λ same. c.new q (subst (λ (i : List ℕ). Has s.known.view (kind.Manifest q i)) (sym same) h),
      later_apart lines (before ++ line ∷ []) (created_state s line w.0 w.1 w.2 w.3) w.4 q image c.safe c.runs w.8 (kept_has s (created_state s line w.0 w.1 w.2 w.3) c.keeps q image h),
    )
later_apart (opens d ∷ lines) before s log q image safe is w h =
    let e : LogEntry = entry (noted.OpenImage d.image) (told.Opened d.lease w.0) in
    let runs : IsRun s (e ∷ w.1) = subst (IsRun s) w.2 is in
    later_apart lines before (after_entry s e) w.1 q image (entry_safe s safe e runs.0 runs.1 runs.2 runs.3) runs.4 w.8 h

-- ---- one device

home_unique : (v : View) (image : List ℕ) (a b : ℕ) → IsHome v image a → IsHome v image b → a ≡ b
home_unique v image a b h k = by (cases_order a b)
  where
    by : (a ≡ b) ⊎ ((a < b) ⊎ (b < a)) → a ≡ b
    by (inl e) = e
    by (inr (inl l)) = absurd (no_some _ (h.greatest b l k.live) k.listed)
    by (inr (inr l)) = absurd (no_some _ (k.greatest a l h.live) h.listed)

module _ (start : View) (opening : Objects) (mirrors : Mirrors opening start) where
  -- what holds between two lines
  pub record Inv (s : State) (before : List ImageLine) : Type 0 where
    pub safe : IsSafe s
    pub chunks : (r : ℕ) (n : List ℕ) → Has s.known.view (kind.Chunk r n) → Has start (kind.Chunk r n) ⊎ IsSome (body_made before r n)
    pub made : AllByRecursion (λ (l : ImageLine). (m : ManifestFields) × (finmap.get s.known.view (kind.Manifest l.root l.image) ≡ Some (manifest m)) × IsMadeOf l.salt l.tenant l.raw m) before

  object_there : (r : ℕ) (n : List ℕ) → IsKind (kind.Chunk r n) → Has start (kind.Chunk r n) → IsSome (finmap.get opening (key_text (kind.Chunk r n)))
  object_there r n k h = by (finmap.get opening (key_text (kind.Chunk r n))) (finmap.get start (kind.Chunk r n)) (mirrors.each (kind.Chunk r n) k) h
    where
      by : (o : Option (List ℕ)) (p : Option Held) → IsSame (kind.Chunk r n) o p → IsSome p → IsSome o
      by (Some x) p w h = refl
      by None (Some x) w h = absurd w
      by None None w h = absurd (cc)

  body_there : (s : State) (before : List ImageLine) → Inv s before → (r : ℕ) (n : List ℕ) → IsKind (kind.Chunk r n) → Has s.known.view (kind.Chunk r n) → IsSome (body_of opening before r n)
  body_there s before inv r n k h = by (inv.chunks r n h)
    where
      by : Has start (kind.Chunk r n) ⊎ IsSome (body_made before r n) → IsSome (body_of opening before r n)
      by (inl h) = some_first (finmap.get opening (key_text (kind.Chunk r n))) (body_made before r n) (object_there r n k h)
      by (inr h) = some_else (finmap.get opening (key_text (kind.Chunk r n))) (body_made before r n) h

  and_left : (a b : Bool) → (a && b) ≡ true → a ≡ true
  and_left true b e = refl
  and_left false b e = absurd (cc)

  opened : (s : State) (before others : List ImageLine) (d : DeviceLine) (r : ℕ) → Inv s before → MayOpen s d.image r d.manifest → IsHome s.known.view d.image d.root
      → d.before ≡ length before → HasTag d.manifest d.tenant → d.keys ≡ key_list d.manifest d.tenant
      → AllByRecursion (λ (l : ImageLine). l.image ≢ d.image) others → IsOpened opening (before ++ others) d
  opened s before others d r inv may home count tag keys apart =
      let sound : IsSound s.known.view = (view_good s inv.safe).sound in
      let root : r ≡ d.root = home_unique s.known.view d.image r d.root may.home home in
      let listed : finmap.get s.known.view (kind.Manifest d.root d.image) ≡ Some (manifest d.manifest) =
      subst (λ (q : ℕ). finmap.get s.known.view (kind.Manifest q d.image) ≡ Some (manifest d.manifest)) root may.listed in
      let complete : IsComplete s.known.view d.root d.manifest = sound.complete d.image d.root d.manifest home.live listed in
      let has : AllByRecursion (λ (name : Name). Has s.known.view (kind.Chunk d.root name.bytes)) d.manifest.names =
      recursion_from_All (λ (name : Name). Has s.known.view (kind.Chunk d.root name.bytes)) d.manifest.names complete in
      let front : take d.before (before ++ others) ≡ before = take_at before others d.before (sym count) in
      record {
        manifest = (sound.fits (kind.Manifest d.root d.image) (manifest d.manifest) listed).0;
        tag = tag;
        keys = keys;
        lined = λ line f. lined_of sound listed line (find_passes (is_line_of d) (before ++ others) line f);
        kinds = all_weaker (λ (name : Name). Has s.known.view (kind.Chunk d.root name.bytes)) (λ (name : Name). IsKind (kind.Chunk d.root name.bytes))
            (λ name h. sound.keys (kind.Chunk d.root name.bytes) h) d.manifest.names has;
        there = all_weaker (λ (name : Name). Has s.known.view (kind.Chunk d.root name.bytes)) (λ (name : Name). IsSome (body_of opening (take d.before (before ++ others)) d.root name.bytes))
            (λ name h. subst (λ (b : List ImageLine). IsSome (body_of opening b d.root name.bytes)) (sym front)
            (body_there s before inv d.root name.bytes (sound.keys (kind.Chunk d.root name.bytes) h) h)) d.manifest.names has;
      }
    where
      lined_of : IsSound s.known.view → finmap.get s.known.view (kind.Manifest d.root d.image) ≡ Some (manifest d.manifest) → (line : ImageLine)
          → Contains (before ++ others) line × (is_line_of d line ≡ true) → IsMadeOf line.salt line.tenant line.raw d.manifest
      lined_of sound listed line p = by (Contains-append_cases before others line p.0)
        where
          image : line.image ≡ d.image
          image = (bytes_eq-Decides line.image d.image).0 (and_left (bytes_eq line.image d.image) (bytes_eq line.tenant d.tenant) p.1)

          by : Contains before line ⊎ Contains others line → IsMadeOf line.salt line.tenant line.raw d.manifest
          by (inr c) = absurd (All-contains (λ (l : ImageLine). l.image ≢ d.image) others line (All-from_recursion (λ (l : ImageLine). l.image ≢ d.image) others apart) c image)
          by (inl c) =
              let made = All-contains (λ (l : ImageLine). (m : ManifestFields) × (finmap.get s.known.view (kind.Manifest l.root l.image) ≡ Some (manifest m)) × IsMadeOf l.salt l.tenant l.raw m) before line
              (All-from_recursion (λ (l : ImageLine). (m : ManifestFields) × (finmap.get s.known.view (kind.Manifest l.root l.image) ≡ Some (manifest m)) × IsMadeOf l.salt l.tenant l.raw m) before inv.made) c in
              let its : finmap.get s.known.view (kind.Manifest line.root d.image) ≡ Some (manifest made.0) =
              subst (λ (i : List ℕ). finmap.get s.known.view (kind.Manifest line.root i) ≡ Some (manifest made.0)) image made.1 in
              let one : manifest made.0 ≡ manifest d.manifest = sound.one_manifest d.image line.root d.root (manifest made.0) (manifest d.manifest) its listed in
              let same : made.0 ≡ d.manifest = cc in
              subst (λ (m : ManifestFields). IsMadeOf line.salt line.tenant line.raw m) same made.2

  -- ---- all lines

  kept_made : (s t : State) (before : List ImageLine) → KeepsManifests s t
      → AllByRecursion (λ (l : ImageLine). (m : ManifestFields) × (finmap.get s.known.view (kind.Manifest l.root l.image) ≡ Some (manifest m)) × IsMadeOf l.salt l.tenant l.raw m) before
      → AllByRecursion (λ (l : ImageLine). (m : ManifestFields) × (finmap.get t.known.view (kind.Manifest l.root l.image) ≡ Some (manifest m)) × IsMadeOf l.salt l.tenant l.raw m) before
  kept_made s t before keeps h =
      all_weaker (λ (l : ImageLine). (m : ManifestFields) × (finmap.get s.known.view (kind.Manifest l.root l.image) ≡ Some (manifest m)) × IsMadeOf l.salt l.tenant l.raw m)
      (λ (l : ImageLine). (m : ManifestFields) × (finmap.get t.known.view (kind.Manifest l.root l.image) ≡ Some (manifest m)) × IsMadeOf l.salt l.tenant l.raw m)
      (λ l w. (w.0, keeps l.root l.image (manifest w.0) w.1, w.2)) before h

  pub all_opened : (lines : List SetupLine) (before : List ImageLine) (s : State) (log : List LogEntry) → Inv s before → IsRun s log → IsSetup s before lines log
      → AllByRecursion (λ (d : DeviceLine). IsOpened opening (before ++ images_of lines) d) (devices_of lines)
  all_opened [] before s log inv is w = tt
  all_opened (rotates salt ∷ lines) before s log inv is w =
      let e : LogEntry = entry (noted.Rotate salt) (told.Rotated w.0) in
      let runs : IsRun s (e ∷ w.1) = subst (IsRun s) w.2 is in
      all_opened lines before (after_entry s e) w.1 (record {
        safe = entry_safe s inv.safe e runs.0 runs.1 runs.2 runs.3;
        chunks = λ r n h. inv.chunks r n (rotate_adds s salt w.0 r n h);
        made = kept_made s (after_entry s e) before (rotate_keeps s salt w.0) inv.made;
      }) runs.4 w.3
  all_opened (creates line ∷ lines) before s log inv is w =
      let runs = subst (IsRun s) w.5 is in
      let c = created s inv.safe line w.0 w.1 w.2 w.3 w.4 w.6 runs in
      let t : State = created_state s line w.0 w.1 w.2 w.3 in
      let made = all_append (λ (l : ImageLine). (m : ManifestFields) × (finmap.get t.known.view (kind.Manifest l.root l.image) ≡ Some (manifest m)) × IsMadeOf l.salt l.tenant l.raw m) before (line ∷ [])
      (kept_made s t before c.keeps inv.made) ((arc_value w.3, c.there, w.7), tt) in
      subst (λ (l : List ImageLine). AllByRecursion (λ (d : DeviceLine). IsOpened opening l d) (devices_of lines)) (append_assoc before (line ∷ []) (images_of lines))
      (all_opened lines (before ++ line ∷ []) t w.4 (record { safe = c.safe; chunks = λ r n h. by r n (c.adds r n h); made = made }) c.runs w.8)
    where
      old : (r : ℕ) (n : List ℕ) → Has start (kind.Chunk r n) ⊎ IsSome (body_made before r n) → Has start (kind.Chunk r n) ⊎ IsSome (body_made (before ++ line ∷ []) r n)
      old r n (inl h) = inl h
      old r n (inr h) = inr (made_more before (line ∷ []) r n h)

      by : (r : ℕ) (n : List ℕ) → Has s.known.view (kind.Chunk r n) ⊎ ((r ≡ line.root) × Contains (names_of line) n) → Has start (kind.Chunk r n) ⊎ IsSome (body_made (before ++ line ∷ []) r n)
      by r n (inl h) = old r n (inv.chunks r n h)
      by r n (inr h) = inr (made_last before (line ∷ []) r n (subst (λ (q : ℕ). IsSome (body_made (line ∷ []) q n)) (sym h.0) (made_one line n h.1)))
  all_opened (opens d ∷ lines) before s log inv is w =
      let e : LogEntry = entry (noted.OpenImage d.image) (told.Opened d.lease w.0) in
      let runs : IsRun s (e ∷ w.1) = subst (IsRun s) w.2 is in
      let o = opened_step s d.image d.lease w.0 runs.0 runs.1 runs.3.noted runs.3.told runs.2 in
      let may : MayOpen s d.image o.1.0 d.manifest = subst (λ (m : ManifestFields). MayOpen s d.image o.1.0 m) (sym w.3) o.1.1 in
      let t : State = after_entry s e in
      let safe_t : IsSafe t = entry_safe s inv.safe e runs.0 runs.1 runs.2 runs.3 in
      let apart = later_apart lines before t w.1 d.root d.image safe_t runs.4 w.8 w.5.listed in (
        opened s before (images_of lines) d o.1.0 inv may w.5 w.4 w.6 w.7 apart,
        all_opened lines before t w.1 (record { safe = safe_t; chunks = inv.chunks; made = inv.made }) runs.4 w.8,
      )

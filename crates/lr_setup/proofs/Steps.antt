-- What each entry of the setup does to the view.
use Rattle.std.proofs.Common.{◌≡◌, ◌≢◌, ℕ, List, Option, Some, None, IsSome, refl, sym, ap, subst, ◌∙◌, inl, inr}
use mathlib.Core.Logic.{◌⊎◌}
use Rattle.std.specs.Arc.{arc_value}
use Rattle.std.specs.declared.sync.Arc.{Arc}
use Rattle.std.specs.declared.alloc.Global.{Global}
use Rattle.std.specs.FinMap as map
use Rattle.lr_manifest.specs.declared.name.Name.{Name}
use Rattle.lr_manifest.specs.Manifest.{ManifestFields}
use Rattle.lr_origin.specs.declared.key.KeyKind.{KeyKind}
use Rattle.lr_origin.specs.declared.key.KeyKind.TheVariants as kind
use Rattle.lr_roots.specs.View.{Held, salt, manifest, bare, Has}
use Rattle.lr_rules.specs.Known.{Known, accepted}
use Rattle.lr_rules.specs.State.{Job, Creates, State, Holds, target}
use Rattle.lr_rules.specs.Safe.{IsSafe}
use Rattle.lr_rules.specs.Calls.{knows, MayOpen, made}
use Rattle.lr_rules.proofs.Keys.{cases_key, at_key, at_other, at_n}
use Rattle.lr_depot.specs.declared.call.DepotCall.{DepotCall}
use Rattle.lr_depot.specs.declared.call.DepotCall.TheVariants.{OpenImage, BeginCreate, PutChunk, PutManifest}
use Rattle.lr_depot.specs.declared.call.DepotNoted.TheVariants as noted
use Rattle.lr_depot.specs.declared.call.DepotReply.{DepotReply}
use Rattle.lr_depot.specs.declared.call.DepotReply.TheVariants.{Opened, Fetched, Copied, Moving, Began, Nothing, OutOfMemory}
use Rattle.lr_depot.specs.declared.call.DepotTold.TheVariants as told
use Rattle.lr_depot.specs.Machine.{DepotStep, IsNoted, IsTold, after_entry}
use Rattle.lr_setup.specs.Setup.{entry}

-- ---- the machine's reply, read off the entry

began_reply : (s : State) (image i : List ℕ) (session root number : ℕ) (bytes : List ℕ) (reply : DepotReply)
    → noted.BeginCreate image ≡ noted.BeginCreate i → IsTold reply (told.Began session root bytes number) → DepotStep s 0 (BeginCreate i) reply
    → DepotStep s 0 (BeginCreate image) (Began session root bytes number)
began_reply s image i session root number bytes (Began a b c d) n t step =
    let same : i ≡ image = cc in
    let replies : Began a b c d ≡ Began session root bytes number = cc in
    subst (λ (j : List ℕ). DepotStep s 0 (BeginCreate j) (Began session root bytes number)) same (subst (λ (r : DepotReply). DepotStep s 0 (BeginCreate i) r) replies step)
began_reply s image i session root number bytes (Opened l m) n t step = absurd t
began_reply s image i session root number bytes (Fetched chunk) n t step = absurd t
began_reply s image i session root number bytes (Copied chunk) n t step = absurd t
began_reply s image i session root number bytes (Moving a b c m) n t step = absurd t
began_reply s image i session root number bytes Nothing n t step = absurd t
began_reply s image i session root number bytes OutOfMemory n t step = absurd t
began_reply s image i session root number bytes reply n t step = absurd (cc)

pub began_step : (s : State) (image : List ℕ) (session root number : ℕ) (bytes : List ℕ) (call : DepotCall) (reply : DepotReply)
    → IsNoted call (noted.BeginCreate image) → IsTold reply (told.Began session root bytes number) → DepotStep s 0 call reply
    → DepotStep s 0 (BeginCreate image) (Began session root bytes number)
began_step s image session root number bytes (BeginCreate i) reply n t step = began_reply s image i session root number bytes reply n t step
began_step s image session root number bytes (PutChunk k chunk) reply n t step = absurd n
began_step s image session root number bytes (PutManifest k m) reply n t step = absurd n
began_step s image session root number bytes call reply n t step = absurd (cc)

opened_reply : (s : State) (image i : List ℕ) (lease : ℕ) (m : Arc ManifestFields Global) (reply : DepotReply)
    → noted.OpenImage image ≡ noted.OpenImage i → IsTold reply (told.Opened lease m) → DepotStep s 0 (OpenImage i) reply
    → (lease ≡ s.desk.next_lease) × ((r : ℕ) × MayOpen s image r (arc_value m))
opened_reply s image i lease m (Opened l p) n t step =
    let same : i ≡ image = cc in
    (t.0 ∙ step.2, (step.0, subst (λ (j : List ℕ). MayOpen s j step.0 (arc_value m)) same (subst (λ (f : ManifestFields). MayOpen s i step.0 f) (sym t.1) step.1)))
opened_reply s image i lease m (Fetched chunk) n t step = absurd t
opened_reply s image i lease m (Copied chunk) n t step = absurd t
opened_reply s image i lease m (Moving a b c p) n t step = absurd t
opened_reply s image i lease m Nothing n t step = absurd t
opened_reply s image i lease m OutOfMemory n t step = absurd t
opened_reply s image i lease m reply n t step = absurd (cc)

pub opened_step : (s : State) (image : List ℕ) (lease : ℕ) (m : Arc ManifestFields Global) (call : DepotCall) (reply : DepotReply)
    → IsNoted call (noted.OpenImage image) → IsTold reply (told.Opened lease m) → DepotStep s 0 call reply
    → (lease ≡ s.desk.next_lease) × ((r : ℕ) × MayOpen s image r (arc_value m))
opened_step s image lease m (OpenImage i) reply n t step = opened_reply s image i lease m reply n t step
opened_step s image lease m (PutChunk k chunk) reply n t step = absurd n
opened_step s image lease m (PutManifest k p) reply n t step = absurd n
opened_step s image lease m call reply n t step = absurd (cc)

-- ---- views

-- what the view has under the keys of manifests stays
abbrev pub KeepsManifests : State → State → Type 0
KeepsManifests s t =
    (r : ℕ) (image : List ℕ) (x : Held) → map.get s.known.view (kind.Manifest r image) ≡ Some x → map.get t.known.view (kind.Manifest r image) ≡ Some x

-- each key of a chunk was there, but perhaps this one
abbrev pub AddsChunk : State → State → ℕ → List ℕ → Type 0
AddsChunk s t root name =
    (r : ℕ) (n : List ℕ) → Has t.known.view (kind.Chunk r n) → Has s.known.view (kind.Chunk r n) ⊎ ((r ≡ root) × (n ≡ name))

abbrev pub AddsNoChunk : State → State → Type 0
AddsNoChunk s t = (r : ℕ) (n : List ℕ) → Has t.known.view (kind.Chunk r n) → Has s.known.view (kind.Chunk r n)

pub keeps_then : (s t u : State) → KeepsManifests s t → KeepsManifests t u → KeepsManifests s u
keeps_then s t u a b = λ r i x e. b r i x (a r i x e)

-- a put of another key than these
other_manifest : (s : Known) (k : KeyKind) (x : Held) → ((r : ℕ) (i : List ℕ) → kind.Manifest r i ≢ k)
    → (r : ℕ) (i : List ℕ) (y : Held) → map.get s.view (kind.Manifest r i) ≡ Some y → map.get (accepted s k x).view (kind.Manifest r i) ≡ Some y
other_manifest s k x ne r i y e = at_other s.view k x (kind.Manifest r i) (ne r i) ∙ e

other_chunk : (s : Known) (k : KeyKind) (x : Held) → ((r : ℕ) (n : List ℕ) → kind.Chunk r n ≢ k)
    → (r : ℕ) (n : List ℕ) → Has (accepted s k x).view (kind.Chunk r n) → Has s.view (kind.Chunk r n)
other_chunk s k x ne r n has = subst IsSome (at_other s.view k x (kind.Chunk r n) (ne r n)) has

pub rotate_keeps : (s : State) (bytes : List ℕ) (r : ℕ) → KeepsManifests s (after_entry s (entry (noted.Rotate bytes) (told.Rotated r)))
rotate_keeps s bytes r = other_manifest s.known (kind.Root r) (salt bytes) (λ q i e. cc)

pub rotate_adds : (s : State) (bytes : List ℕ) (r : ℕ) → AddsNoChunk s (after_entry s (entry (noted.Rotate bytes) (told.Rotated r)))
rotate_adds s bytes r = other_chunk s.known (kind.Root r) (salt bytes) (λ q n e. cc)

-- ---- a chunk is put

put_there : (s : State) (session : ℕ) (j : Job) (name : Name) (x : Held) → Holds s session 0 j → map.get s.known.view (kind.Chunk (target j) name.bytes) ≡ Some x
    → after_entry s (entry (noted.PutChunk session name) told.Kept) ≡ s
put_there s session j name x holds e = rw holds (rw e refl)

pub put_new : (s : State) (session : ℕ) (j : Job) (name : Name) → Holds s session 0 j → map.get s.known.view (kind.Chunk (target j) name.bytes) ≡ None
    → after_entry s (entry (noted.PutChunk session name) told.Kept) ≡ knows s (accepted s.known (kind.Chunk (target j) name.bytes) bare)
put_new s session j name holds e = rw holds (rw e refl)

-- what a put of a chunk does: manifests, chunks, and leases and sessions
pub record PutsChunk (s t : State) (root : ℕ) (name : List ℕ) : Type 0 where
  pub keeps : KeepsManifests s t
  pub adds : AddsChunk s t root name
  pub desk : t.desk ≡ s.desk

pub put_chunk : (s : State) (session : ℕ) (j : Job) (name : Name) → Holds s session 0 j
    → PutsChunk s (after_entry s (entry (noted.PutChunk session name) told.Kept)) (target j) name.bytes
put_chunk s session j name holds = by (map.get s.known.view (kind.Chunk (target j) name.bytes)) refl
  where
    key : KeyKind
    key = kind.Chunk (target j) name.bytes

    here : (r : ℕ) (n : List ℕ) → (kind.Chunk r n ≡ kind.Chunk (target j) name.bytes) ⊎ (kind.Chunk r n ≢ kind.Chunk (target j) name.bytes)
        → Has (accepted s.known (kind.Chunk (target j) name.bytes) bare).view (kind.Chunk r n)
        → Has s.known.view (kind.Chunk r n) ⊎ ((r ≡ target j) × (n ≡ name.bytes))
    here r n (inl e) has = let root : r ≡ target j = cc in let same : n ≡ name.bytes = cc in inr (root, same)
    here r n (inr ne) has = inl (subst IsSome (at_other s.known.view (kind.Chunk (target j) name.bytes) bare (kind.Chunk r n) ne) has)

    by : (o : Option Held) → map.get s.known.view (kind.Chunk (target j) name.bytes) ≡ o → PutsChunk s (after_entry s (entry (noted.PutChunk session name) told.Kept)) (target j) name.bytes
    by (Some x) e =
        subst (λ (t : State). PutsChunk s t (target j) name.bytes) (sym (put_there s session j name x holds e))
        (record { keeps = λ r i y f. f; adds = λ r n has. inl has; desk = refl })
    by None e =
        subst (λ (t : State). PutsChunk s t (target j) name.bytes) (sym (put_new s session j name holds e))
        (record {
          keeps = other_manifest s.known (kind.Chunk (target j) name.bytes) bare (λ r i e. cc);
          adds = λ r n has. here r n (cases_key (kind.Chunk r n) (kind.Chunk (target j) name.bytes)) has;
          desk = refl;
        })

-- ---- a manifest is made

pub made_state : (s : State) (session : ℕ) (image : List ℕ) (root number : ℕ) (m : Arc ManifestFields Global) (r : ℕ) → Holds s session 0 (Creates image root number)
    → after_entry s (entry (noted.PutManifest session m) (told.Made r)) ≡ made s session image root (arc_value m)
made_state s session image root number m r holds = rw holds refl

pub record MakesManifest (s t : State) (image : List ℕ) (root : ℕ) (m : ManifestFields) : Type 0 where
  pub keeps : KeepsManifests s t
  pub adds : AddsNoChunk s t
  pub there : map.get t.known.view (kind.Manifest root image) ≡ Some (manifest m)
  pub lease : t.desk.next_lease ≡ s.desk.next_lease

pub make_manifest : (s : State) → IsSafe s → (session : ℕ) (image : List ℕ) (root number : ℕ) (m : Arc ManifestFields Global) (r : ℕ) → Holds s session 0 (Creates image root number)
    → MakesManifest s (after_entry s (entry (noted.PutManifest session m) (told.Made r))) image root (arc_value m)
make_manifest s safe session image root number m r holds =
    subst (λ (t : State). MakesManifest s t image root (arc_value m)) (sym (made_state s session image root number m r holds)) (record {
      keeps = λ q i x e. by q i x e (cases_key (kind.Manifest q i) (kind.Manifest root image));
      adds = other_chunk s.known (kind.Manifest root image) (manifest (arc_value m)) (λ q n e. cc);
      there = at_key s.known.view (kind.Manifest root image) (manifest (arc_value m));
      lease = refl;
    })
  where
    by : (q : ℕ) (i : List ℕ) (x : Held) → map.get s.known.view (kind.Manifest q i) ≡ Some x
        → (kind.Manifest q i ≡ kind.Manifest root image) ⊎ (kind.Manifest q i ≢ kind.Manifest root image)
        → map.get (map.insert s.known.view (kind.Manifest root image) (manifest (arc_value m))) (kind.Manifest q i) ≡ Some x
    by q i x e (inl same) =
        let none : map.get s.known.view (kind.Manifest root image) ≡ None = safe.fresh session 0 image root number holds in
        let there : map.get s.known.view (kind.Manifest root image) ≡ Some x = ap (map.get s.known.view) (sym same) ∙ e in
        absurd (cc)
    by q i x e (inr ne) = at_other s.known.view (kind.Manifest root image) (manifest (arc_value m)) (kind.Manifest q i) ne ∙ e

-- ---- a creation begins

pub begun_holds : (s : State) (image : List ℕ) (session root number : ℕ) (bytes : List ℕ) → session ≡ s.desk.next_session
    → Holds (after_entry s (entry (noted.BeginCreate image) (told.Began session root bytes number))) session 0 (Creates image root number)
begun_holds s image session root number bytes e =
    ap (map.get (map.insert s.desk.sessions s.desk.next_session (record { caller = 0; job = Creates image root number }))) e
    ∙ at_n s.desk.sessions s.desk.next_session (record { caller = 0; job = Creates image root number })

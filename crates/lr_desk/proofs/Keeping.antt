-- a session that an only caller has: what it keeps over puts of chunks, and over puts of a manifest that fail
use Rattle.std.proofs.Common.{◌≡◌, ◌<◌, ℕ, List, [], ◌∷◌, Option, Some, None, refl, ap, subst, sym, ◌∙◌, inl, inr}
use mathlib.Core.Logic.{◌⊎◌}
use Rattle.std.specs.List.{slice_get}
use Rattle.std.specs.declared.sync.Arc.{Arc}
use Rattle.std.specs.declared.alloc.Global.{Global}
use Rattle.std.specs.FinMap as fin
use Rattle.lr_manifest.specs.Manifest.{ManifestFields}
use Rattle.lr_manifest.specs.declared.name.Name.{Name}
use Rattle.lr_origin.specs.declared.key.KeyKind.{KeyKind}
use Rattle.lr_origin.specs.declared.key.KeyKind.TheVariants as kind
use Rattle.lr_roots.specs.View.{Held, bare, Has}
use Rattle.lr_rules.specs.Known.{accepted, doubting}
use Rattle.lr_rules.specs.State.{Job, Moves, State, Holds, target}
use Rattle.lr_rules.specs.Calls.{knows}
use Rattle.lr_rules.proofs.Doubts.{still_unsure}
use Rattle.lr_rules.proofs.Keys.{at_key}
use Rattle.lr_rules.proofs.Outcomes.{is_some}
use Rattle.lr_rules.proofs.Sound.{stays}
use Rattle.lr_depot.specs.declared.call.DepotNoted.{DepotNoted}
use Rattle.lr_depot.specs.declared.call.DepotNoted.TheVariants as noted
use Rattle.lr_depot.specs.declared.call.DepotTold.{DepotTold}
use Rattle.lr_depot.specs.declared.call.DepotTold.TheVariants as told
use Rattle.lr_depot.specs.Machine.{LogEntry, state_after, after_entry}
use Rattle.lr_depot.specs.Store.{IsRun}
use Rattle.lr_walk.specs.Walk.{Walks}
use Rattle.lr_walk.specs.Depot.{Call, puts_chunk, copies, fetches, finishes_move, Step, Reply, kept, memory, fault, seen_noted, seen_told, Answers, Asks}
use Rattle.lr_images.proofs.Made.{call_chunk}
use Rattle.lr_desk.specs.Alone.{ComesAlone}
use Rattle.lr_desk.proofs.Meeting.{IsSure, Comes, GoesAlone, alone_asks}

-- A session of this job is held, no put is in doubt, and these chunks are in the job's root.
pub record Works (s : State) (n : ℕ) (j : Job) (Put : List ℕ → Type 0) : Type 0 where
  pub holds : Holds s n 0 j
  pub sure : IsSure s
  pub there : (x : List ℕ) → Put x → Has s.known.view (kind.Chunk (target j) x)

pub works_for : (s : State) (n : ℕ) (j : Job) (Put More : List ℕ → Type 0) → ((x : List ℕ) → More x → Put x) → Works s n j Put → Works s n j More
works_for s n j Put More each w = record { holds = w.holds; sure = w.sure; there = λ x more. w.there x (each x more) }

-- after a chunk was put that was there before, or wasn't
module _ (P : State → Type 0) (s : State) (n : ℕ) (name : Name) (j : Job) (holds : Holds s n 0 j) where
  abbrev key : KeyKind
  key = kind.Chunk (target j) name.bytes

  kept_left : (Has s.known.view key → P s) → P (knows s (accepted s.known key bare)) → (c : ℕ) → P (state_after s c (noted.PutChunk n name) told.Kept)
  kept_left same put c = by (fin.get s.known.view key) refl
    where
      by : (o : Option Held) → fin.get s.known.view (kind.Chunk (target j) name.bytes) ≡ o → P (state_after s c (noted.PutChunk n name) told.Kept)
      by None e = rw holds (rw e put)
      by (Some x) e = rw holds (rw e (same (is_some _ x e)))

abbrev chunk_name : Call → List ℕ
chunk_name (puts_chunk n name) = name
chunk_name call = []

module _ (E : Type 0) (Good : E → Type 0) (s : State) (n : ℕ) (j : Job) (Put : List ℕ → Type 0) (bytes : List ℕ) (after : Reply → Walks Step E) (w : Works s n j Put) where
  -- with the chunk that is put
  abbrev Also : List ℕ → Type 0
  Also x = Put x ⊎ (x ≡ bytes)

  also_there : (Has s.known.view (kind.Chunk (target j) bytes)) → Works s n j Also
  also_there has = record {
    holds = w.holds;
    sure = w.sure;
    there = λ x put. elim put [ inl old ↦ w.there x old | inr new ↦ subst (λ b. Has s.known.view (kind.Chunk (target j) b)) (sym new) has ];
  }

  also_put : Works (knows s (accepted s.known (kind.Chunk (target j) bytes) bare)) n j Also
  also_put =
      let k : KeyKind = kind.Chunk (target j) bytes in
      record {
        holds = w.holds;
        sure = λ q unsure. w.sure q (still_unsure s.known k bare q unsure);
        there = λ x put. elim put [
          | inl old ↦ stays s.known.view k bare (kind.Chunk (target j) x) (w.there x old)
          | inr new ↦ subst (λ b. Has (fin.insert s.known.view k bare) (kind.Chunk (target j) b)) (sym new) (is_some _ bare (at_key s.known.view k bare))
        ];
      }

  pub alone_puts : ((t : State) → Works t n j Also → GoesAlone E Good t (after kept)) → ((t : State) (r : Reply) → (r ≡ kept → ⊥) → Answers (puts_chunk n bytes) r → ComesAlone r → Holds t n 0 j → GoesAlone E Good t (after r)) → GoesAlone E Good s (Asks (puts_chunk n bytes) after)
  alone_puts more left = alone_asks E Good s (puts_chunk n bytes) after (λ a. a) (j, w.holds) (left s memory (λ e. cc) tt tt w.holds) next
    where
      put : (name : Name) → name.bytes ≡ bytes → (c : ℕ) → GoesAlone E Good (state_after s c (noted.PutChunk n name) told.Kept) (after kept)
      put name same c =
          kept_left (λ t. GoesAlone E Good t (after kept)) s n name j w.holds (λ has. more s (also_there (subst (λ b. Has s.known.view (kind.Chunk (target j) b)) same has)))
          (subst (λ b. GoesAlone E Good (knows s (accepted s.known (kind.Chunk (target j) b) bare)) (after kept)) (sym same) (more _ also_put)) c

      at : (name : Name) → name.bytes ≡ bytes → (t : DepotTold) (c : ℕ) → ComesAlone (seen_told t) → Answers (puts_chunk n bytes) (seen_told t) → GoesAlone E Good (state_after s c (noted.PutChunk n name) t) (after (seen_told t))
      at name same told.Kept c come a = put name same c
      at name same (told.Fault k) c come a = left (knows s (doubting s.known k bare)) (fault k) (λ e. cc) a come w.holds
      at name same t c come a = left s (seen_told t) (λ e. cc) a come w.holds

      next : (e : LogEntry) → e.caller ≡ 0 → seen_noted e.call ≡ puts_chunk n bytes → IsRun s (e ∷ []) → Comes e → Answers (puts_chunk n bytes) (seen_told e.reply) → GoesAlone E Good (after_entry s e) (after (seen_told e.reply))
      next e caller is run come a =
          let call = call_chunk e.call n bytes is in
          subst (λ q. GoesAlone E Good (state_after s e.caller q e.reply) (after (seen_told e.reply))) (sym call.1)
          (at call.0 (ap chunk_name (ap seen_noted (sym call.1) ∙ is)) e.reply e.caller come a)

-- ---- what other calls leave

pub fault_holds : (s : State) (c n : ℕ) (j : Job) (m : Arc ManifestFields Global) (k : KeyKind) → Holds s n 0 j → Holds (state_after s c (noted.PutManifest n m) (told.Fault k)) n 0 j
fault_holds s c n j m (kind.Manifest r image) h = h
fault_holds s c n j m k h = h

pub fetch_stays : (s : State) (c lease index : ℕ) (q : DepotNoted) (t : DepotTold) → seen_noted q ≡ fetches lease index → state_after s c q t ≡ s
fetch_stays s c lease index (noted.Fetch l i) t e = refl
fetch_stays s c lease index q t e = absurd (cc)

pub copy_stays : (s : State) (c n index : ℕ) (q : DepotNoted) (t : DepotTold) → seen_noted q ≡ copies n index → state_after s c q t ≡ s
copy_stays s c n index (noted.CopyRead k i) t e = refl
copy_stays s c n index q t e = absurd (cc)

pub call_finish : (q : DepotNoted) (n : ℕ) → seen_noted q ≡ finishes_move n → q ≡ noted.FinishMigrate n
call_finish (noted.FinishMigrate k) n e = let same : k ≡ n = cc in ap noted.FinishMigrate same
call_finish q n e = absurd (cc)

pub move_fault_holds : (s : State) (c n : ℕ) (image : List ℕ) (from to : ℕ) (m : ManifestFields) (k : KeyKind) → Holds s n 0 (Moves image from to m) → Holds (state_after s c (noted.FinishMigrate n) (told.Fault k)) n 0 (Moves image from to m)
move_fault_holds s c n image from to m k h = rw h h

-- ---- names of a manifest

-- the bytes of a name at an index below this one
pub record IsNameBelow (names : List Name) (index : ℕ) (x : List ℕ) : Type 0 where
  pub at : ℕ
  pub name : Name
  pub below : at < index
  pub named : slice_get names at ≡ Some name
  pub is : x ≡ name.bytes

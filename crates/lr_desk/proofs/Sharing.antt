-- creations in one root seal under one salt
use Rattle.std.proofs.Common.{◌≡◌, ℕ, List, [], ◌∷◌, ◌++◌, Option, Some, ap, subst, sym, ◌∙◌}
use Rattle.std.specs.FinMap as fin
use Rattle.lr_convergent.specs.Sealed.{chunk_text}
use Rattle.sha2.specs.Sha256.{sha256}
use Rattle.lr_origin.specs.declared.key.KeyKind.TheVariants as kind
use Rattle.lr_roots.specs.View.{Held, salt as salt_held}
use Rattle.lr_rules.specs.State.{State}
use Rattle.lr_depot.specs.declared.call.DepotCall.{DepotCall}
use Rattle.lr_depot.specs.declared.call.DepotCall.TheVariants.{BeginCreate}
use Rattle.lr_depot.specs.declared.call.DepotReply.{DepotReply}
use Rattle.lr_depot.specs.declared.call.DepotReply.TheVariants.{Began}
use Rattle.lr_depot.specs.Machine.{LogEntry, DepotStep}
use Rattle.lr_depot.specs.Store.{IsRun}
use Rattle.lr_depot.specs.Depot.{first_state}
use Rattle.lr_walk.specs.Depot.{Step, step, logged, Reply, begins, began, seen_call, seen_reply}
use Rattle.lr_walk.proofs.Depot.{entry_step}
use Rattle.lr_images.proofs.Made.{first_entry}
use Rattle.lr_desk.specs.Ends.{Setting}
use Rattle.lr_desk.specs.Shared.{CreatesIn, EqualChunksShareAKey}

abbrev told_salt : Reply → List ℕ
told_salt (began session root salt number) = salt
told_salt reply = []

-- the salt that a creation is told is its root's
begun_salt : (s : State) (c : ℕ) (call : DepotCall) (reply : DepotReply) (image : List ℕ) (session root : ℕ) (salt : List ℕ) (number : ℕ) → DepotStep s c call reply → seen_call call ≡ begins image
    → seen_reply reply ≡ began session root salt number → fin.get s.known.view (kind.Root root) ≡ Some (salt_held salt)
begun_salt s c (BeginCreate i) (Began a b x d) image session root salt number may e f =
    let same : b ≡ root = cc in
    subst (λ r. fin.get s.known.view (kind.Root r) ≡ Some (salt_held salt)) same (may.3 ∙ ap (λ b. Some (salt_held b)) (ap told_salt f))
begun_salt s c (BeginCreate i) reply image session root salt number may e f = absurd (cc)
begun_salt s c call reply image session root salt number may e f = absurd (cc)

root_salt : (s : Setting) (log : List LogEntry) (root : ℕ) (salt : List ℕ) → CreatesIn s log root salt → fin.get s.start.view (kind.Root root) ≡ Some (salt_held salt)
root_salt s log root salt c =
    let g = c.made.goes_on in
    let f = first_entry g.own (step (begins c.image) (began c.session root salt c.number)) (logged c.tail) (g.steps_of ∙ ap logged c.begun) in
    let run : IsRun (first_state s.start) (f.0 ∷ f.1) = subst (IsRun (first_state s.start)) (g.after ∙ f.2) c.legal in
    let both = entry_step run.0 run.1 f.0 run.3 in
    begun_salt (first_state s.start) f.0.caller run.0 run.1 c.image c.session root salt c.number run.2 (sym (ap (λ (q : Step). q.call) both) ∙ ap (λ (q : Step). q.call) f.3) (sym (ap (λ (q : Step). q.reply) both) ∙ ap (λ (q : Step). q.reply) f.3)

abbrev salt_in : Option Held → List ℕ
salt_in (Some (salt_held b)) = b
salt_in held = []

pub equal_share : EqualChunksShareAKey
equal_share s t log more root salt other c d same one two equal =
    let salts : salt ≡ other = ap salt_in (sym (root_salt s log root salt c) ∙ (same ∙ root_salt t more root other d)) in
    (λ i. kind.Chunk root (sha256 (chunk_text (sha256 (salts i ++ equal i)) (equal i))))

-- what a wrong key and too many bytes come from
use Rattle.std.proofs.Common.{◌≡◌, ◌+◌, ◌≤◌, ℕ, zero, suc, List, [], ◌∷◌, ◌++◌, map, length, length-append, Option, Some, refl, ap, subst, sym, ◌∙◌, inl, inr, arith}
use Rattle.lr_manifest.specs.Manifest.{ManifestFields}
use Rattle.lr_seal.specs.Table.{HasTag}
use Rattle.lr_roots.specs.Names.{IsOneOf}
use Rattle.lr_depot.specs.Machine.{LogEntry}
use Rattle.lr_depot.specs.declared.call.DepotReply.{DepotReply}
use Rattle.lr_depot.specs.declared.call.DepotReply.TheVariants as replies
use Rattle.lr_walk.specs.Depot.{Step, step, step_of, Reply, memory, fetched, opened, logged, with_logged, seen_told, seen_reply}
use Rattle.lr_collector.specs.Collection.{Ending, with_reply, with_count, with_memory}
use Rattle.lr_migrator.specs.Migration as moves
use Rattle.lr_images.specs.declared.created.Created.{Created}
use Rattle.lr_images.specs.declared.created.Created.TheVariants as by
use Rattle.lr_images.specs.Drive.{joined}
use Rattle.lr_images.specs.Created.{HasRead}
use Rattle.lr_images.specs.Cat as cat
use Rattle.lr_desk.specs.declared.outcome.Refusal.TheVariants as refusal
use Rattle.lr_desk.specs.declared.outcome.Outcome.{Outcome}
use Rattle.lr_desk.specs.declared.outcome.Outcome.TheVariants.{Done, Memory, Refused}
use Rattle.lr_desk.specs.declared.words.Command.{Command}
use Rattle.lr_desk.specs.declared.words.Command.TheVariants as command
use Rattle.lr_desk.specs.Words.{words_of}
use Rattle.lr_desk.specs.Ends.{outcome_of, outcome_at, outcome_moved, failure, outcome_made, outcome_read, Setting, Made, WasRead, HasWalked}
use Rattle.lr_desk.specs.Causes.{IsSealed, IsTooLong}
use Rattle.lr_desk.proofs.Telling.{kept_rest, in_map}

-- ---- the depot tells of neither

reply_sealed : (r : Reply) → outcome_of r ≡ Refused refusal.Sealed → ⊥
reply_sealed memory e = cc
reply_sealed r e = cc

reply_long : (r : Reply) → outcome_of r ≡ Refused refusal.TooLong → ⊥
reply_long memory e = cc
reply_long r e = cc

end_sealed : (end : Ending) → outcome_at end ≡ Refused refusal.Sealed → ⊥
end_sealed (with_reply r) e = reply_sealed r e
end_sealed (with_count n) e = cc
end_sealed with_memory e = cc

end_long : (end : Ending) → outcome_at end ≡ Refused refusal.TooLong → ⊥
end_long (with_reply r) e = reply_long r e
end_long (with_count n) e = cc
end_long with_memory e = cc

move_sealed : (end : moves.Ending) → outcome_moved end ≡ Refused refusal.Sealed → ⊥
move_sealed (moves.with_roots from to) e = cc
move_sealed (moves.with_reply r) e = reply_sealed r e
move_sealed moves.with_memory e = cc

move_long : (end : moves.Ending) → outcome_moved end ≡ Refused refusal.TooLong → ⊥
move_long (moves.with_roots from to) e = cc
move_long (moves.with_reply r) e = reply_long r e
move_long moves.with_memory e = cc

failed_sealed : (r : Reply) → failure (outcome_of r) ≡ Refused refusal.Sealed → ⊥
failed_sealed memory e = cc
failed_sealed r e = cc

failed_long : (r : Reply) → failure (outcome_of r) ≡ Refused refusal.TooLong → ⊥
failed_long memory e = cc
failed_long r e = cc

made_sealed : (c : Created) → outcome_made c ≡ Refused refusal.Sealed → ⊥
made_sealed (by.Root root) e = cc
made_sealed (by.Refused reply) e = failed_sealed (seen_reply reply) e
made_sealed by.ReadFault e = cc
made_sealed by.TooLong e = cc
made_sealed by.OutOfMemory e = cc

made_long : (c : Created) → outcome_made c ≡ Refused refusal.TooLong → c ≡ by.TooLong
made_long (by.Root root) e = absurd (cc)
made_long (by.Refused reply) e = absurd (failed_long (seen_reply reply) e)
made_long by.ReadFault e = absurd (cc)
made_long by.TooLong e = refl
made_long by.OutOfMemory e = absurd (cc)

read_sealed : (end : cat.Ending) → outcome_read end ≡ Refused refusal.Sealed → end ≡ cat.with_wrong_key
read_sealed cat.with_bytes e = absurd (cc)
read_sealed (cat.with_reply r) e = absurd (failed_sealed r e)
read_sealed cat.with_wrong_key e = refl
read_sealed cat.with_memory e = absurd (cc)

read_long : (end : cat.Ending) → outcome_read end ≡ Refused refusal.TooLong → ⊥
read_long cat.with_bytes e = cc
read_long (cat.with_reply r) e = failed_long r e
read_long cat.with_wrong_key e = cc
read_long cat.with_memory e = cc

-- ---- a wrong key

bytes_not : (end : cat.Ending) → end ≡ cat.with_bytes → end ≡ cat.with_wrong_key → ⊥
bytes_not end e f = let g : cat.with_bytes ≡ cat.with_wrong_key = sym e ∙ f in cc

memory_not : (end : cat.Ending) → end ≡ cat.with_memory → end ≡ cat.with_wrong_key → ⊥
memory_not end e f = let g : cat.with_memory ≡ cat.with_wrong_key = sym e ∙ f in cc

reply_not : (r : Reply) (end : cat.Ending) → end ≡ cat.with_reply r → end ≡ cat.with_wrong_key → ⊥
reply_not r end e f = let g : cat.with_reply r ≡ cat.with_wrong_key = sym e ∙ f in cc

fetches_not : (lease left index : ℕ) (steps : List Step) (end : cat.Ending) → cat.Fetches lease left index steps end → end ≡ cat.with_wrong_key → ⊥
fetches_not lease zero index steps end (inl w) f = bytes_not end w.1 f
fetches_not lease zero index steps end (inr w) f = memory_not end w.1 f
fetches_not lease (suc left) index steps end (inr w) f = memory_not end w.1 f
fetches_not lease (suc left) index steps end (inl w) f = at w.0 w.5 (λ more. fetches_not lease left (index + 1) w.2 end more f)
  where
    at : (r : Reply) → cat.after_fetch (cat.Fetches lease left (index + 1)) r w.2 end → (cat.Fetches lease left (index + 1) w.2 end → ⊥) → ⊥
    at (fetched name) x next = next x
    at memory x next = memory_not end x.1 f
    at r x next = reply_not r end x.1 f

lease_wrong : (tenant : List ℕ) (lease : ℕ) (m : ManifestFields) (steps : List Step) (end : cat.Ending) → cat.ReadsLease tenant lease m steps end → end ≡ cat.with_wrong_key → HasTag m tenant → ⊥
lease_wrong tenant lease m steps end (inl w) f = absurd (fetches_not lease (length m.names) 0 steps end w.1 f)
lease_wrong tenant lease m steps end (inr (inl w)) f = w.0
lease_wrong tenant lease m steps end (inr (inr w)) f = absurd (memory_not end w.1 f)

-- the reply of an opening whose tag was wrong
IsWrong : List ℕ → Reply → Type 0
IsWrong tenant r = (lease : ℕ) × (m : ManifestFields) × (r ≡ opened lease m) × (HasTag m tenant → ⊥)

open_wrong : (tenant : List ℕ) (r : Reply) (tail : List Step) (end : cat.Ending) → cat.after_open tenant r tail end → end ≡ cat.with_wrong_key → IsWrong tenant r
unfolding IsWrong
open_wrong tenant (opened lease m) tail end w f = (lease, m, refl, lease_wrong tenant lease m w.0 w.2 w.4 (sym w.5.5.1 ∙ f))
open_wrong tenant memory tail end w f = absurd (memory_not end w.1 f)
open_wrong tenant r tail end w f = absurd (reply_not r end w.1 f)

opened_one : (r : Reply) (t : Step) (xs : List Step) (lease : ℕ) (m : ManifestFields) → r ≡ opened lease m → IsOneOf (with_logged r t xs) t
opened_one r t xs lease m e = subst (λ q. IsOneOf (with_logged q t xs) t) (sym e) (inl refl)

opened_logged : (steps : List Step) (s : Step) (lease : ℕ) (m : ManifestFields) → IsOneOf steps s → s.reply ≡ opened lease m → IsOneOf (logged steps) s
opened_logged [] s lease m none h = absurd none
opened_logged (t ∷ steps) s lease m (inl e) h =
    subst (λ (q : Step). IsOneOf (with_logged t.reply t (logged steps)) q) (sym e) (opened_one t.reply t (logged steps) lease m (sym (ap (λ (q : Step). q.reply) e) ∙ h))
opened_logged (t ∷ steps) s lease m (inr i) h = kept_rest t.reply t s (logged steps) (opened_logged steps s lease m i h)

was_sealed : (image tenant : List ℕ) (s : Setting) (log : List LogEntry) (o : Outcome) (text : List ℕ) (words : List (List ℕ)) → WasRead image tenant s log o text → words ≡ words_of (command.Cat image tenant) → o ≡ Refused refusal.Sealed → IsSealed words log
unfolding IsWrong
was_sealed image tenant s log o text words w worded is =
    let walk = w.walk in
    let wrong = open_wrong tenant walk.0 walk.2 w.end walk.5 (read_sealed w.end (sym w.ends ∙ is)) in
    let first : walk.1.reply ≡ opened wrong.0 wrong.1 = ap (λ (q : Step). q.reply) walk.4.0 ∙ wrong.2 in
    let among : IsOneOf w.steps walk.1 = subst (λ (l : List Step). IsOneOf l walk.1) (sym walk.3) (inl refl) in
    let found = in_map w.goes_on.own walk.1 (subst (λ (l : List Step). IsOneOf l walk.1) (sym w.goes_on.steps_of) (opened_logged w.steps walk.1 wrong.0 wrong.1 among first)) in
    record {
      image = image;
      tenant = tenant;
      worded = worded;
      entry = found.0;
      among = subst (λ (l : List LogEntry). IsOneOf l found.0) (sym w.goes_on.after) found.1;
      lease = wrong.0;
      manifest = wrong.1;
      opening = sym (ap (λ (q : Step). q.reply) found.2) ∙ first;
      wrong = wrong.3;
    }

pub walked_sealed : (c : Command) (s : Setting) (log : List LogEntry) (o : Outcome) (text : List ℕ) (words : List (List ℕ)) → HasWalked c s log o text → words ≡ words_of c → o ≡ Refused refusal.Sealed → IsSealed words log
walked_sealed (command.Create image tenant) s log o text words w worded is = absurd (made_sealed w.created (sym w.ends ∙ is))
walked_sealed (command.Cat image tenant) s log o text words w worded is = was_sealed image tenant s log o text words w worded is
walked_sealed (command.Rotate bytes) s log o text words w worded is = absurd (end_sealed w.0 (sym w.2 ∙ is))
walked_sealed (command.Migrate image) s log o text words w worded is = absurd (move_sealed w.0 (sym w.2 ∙ is))
walked_sealed (command.Withdraw image) s log o text words w worded is = absurd (end_sealed w.0 (sym w.2 ∙ is))
walked_sealed (command.Expire root) s log o text words w worded is = absurd (end_sealed w.0 (sym w.2 ∙ is))
walked_sealed (command.Delete root) s log o text words w worded is = absurd (end_sealed w.0 (sym w.2 ∙ is))
walked_sealed (command.Sweep root) s log o text words w worded is = absurd (end_sealed w.0 (sym w.2 ∙ is))
walked_sealed command.Roots s log o text words w worded is =
    absurd (elim w.1 [ inl made ↦ (let e : Done ≡ Refused refusal.Sealed = sym made.0 ∙ is in cc) | inr none ↦ (let e : Memory ≡ Refused refusal.Sealed = sym none ∙ is in cc) ])

-- ---- too many bytes

long_read : (left after : Option (List ℕ)) (bytes : List ℕ) → HasRead by.TooLong left bytes after → (xs : List ℕ) → left ≡ Some xs → 67108865 ≤ length xs
long_read left after bytes h xs t =
    let k = h.1 xs t in
    let n : length xs ≡ length bytes + length k.0 = ap length k.1 ∙ length-append bytes k.0 in
    omega (arith, n, h.0)

pub walked_long : (c : Command) (s : Setting) (log : List LogEntry) (o : Outcome) (text : List ℕ) (words : List (List ℕ)) → HasWalked c s log o text → words ≡ words_of c → o ≡ Refused refusal.TooLong → IsTooLong words s.source
walked_long (command.Create image tenant) s log o text words w worded is =
    ((image, tenant, worded), λ xs t. long_read s.source s.left (joined w.pieces) (subst (λ q. HasRead q s.source (joined w.pieces) s.left) (made_long w.created (sym w.ends ∙ is)) w.taken) xs t)
walked_long (command.Cat image tenant) s log o text words w worded is = absurd (read_long w.end (sym w.ends ∙ is))
walked_long (command.Rotate bytes) s log o text words w worded is = absurd (end_long w.0 (sym w.2 ∙ is))
walked_long (command.Migrate image) s log o text words w worded is = absurd (move_long w.0 (sym w.2 ∙ is))
walked_long (command.Withdraw image) s log o text words w worded is = absurd (end_long w.0 (sym w.2 ∙ is))
walked_long (command.Expire root) s log o text words w worded is = absurd (end_long w.0 (sym w.2 ∙ is))
walked_long (command.Delete root) s log o text words w worded is = absurd (end_long w.0 (sym w.2 ∙ is))
walked_long (command.Sweep root) s log o text words w worded is = absurd (end_long w.0 (sym w.2 ∙ is))
walked_long command.Roots s log o text words w worded is =
    absurd (elim w.1 [ inl made ↦ (let e : Done ≡ Refused refusal.TooLong = sym made.0 ∙ is in cc) | inr none ↦ (let e : Memory ≡ Refused refusal.TooLong = sym none ∙ is in cc) ])

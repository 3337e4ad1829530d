-- what the entries of a command's walk tell of
use Rattle.std.proofs.Common.{◌≡◌, ℕ, List, [], subst, inl, inr, sym, ◌∙◌}
use Rattle.lr_roots.specs.Names.{IsOneOf}
use Rattle.lr_depot.specs.Machine.{LogEntry}
use Rattle.lr_collector.specs.declared.collect.CollectJob.TheVariants as job
use Rattle.lr_desk.specs.declared.outcome.Outcome.{Outcome}
use Rattle.lr_desk.specs.declared.words.Command.{Command}
use Rattle.lr_desk.specs.declared.words.Command.TheVariants as command
use Rattle.lr_desk.specs.Ends.{Setting, HasWalked}
use Rattle.lr_desk.specs.Causes.{IsDepots, Tells}
use Rattle.lr_desk.proofs.Telling.{collected_tells, collected_is, moved_tells, moved_is}
use Rattle.lr_desk.proofs.Imaging.{made_tells, made_is, read_tells, read_is}

pub walked_tells : (c : Command) (s : Setting) (log : List LogEntry) (o : Outcome) (text : List ℕ) → HasWalked c s log o text → IsDepots o → Tells log o
walked_tells (command.Create image tenant) s log o text w b = made_tells image tenant s log o text w b
walked_tells (command.Cat image tenant) s log o text w b = read_tells image tenant s log o text w b
walked_tells (command.Rotate bytes) s log o text w b = collected_tells (job.Rotate bytes) log o text w b
walked_tells (command.Migrate image) s log o text w b = moved_tells image log o text w b
walked_tells (command.Withdraw image) s log o text w b = collected_tells (job.Withdraw image) log o text w b
walked_tells (command.Expire root) s log o text w b = collected_tells (job.Expire root) log o text w b
walked_tells (command.Delete root) s log o text w b = collected_tells (job.Delete root) log o text w b
walked_tells (command.Sweep root) s log o text w b = collected_tells (job.Sweep root) log o text w b
walked_tells command.Roots s log o text w b = elim w.1 [ inl made ↦ absurd (subst IsDepots made.0 b) | inr none ↦ absurd (subst IsDepots none b) ]

pub walked_is : (c : Command) (s : Setting) (log : List LogEntry) (o : Outcome) (text : List ℕ) → HasWalked c s log o text → (e : Outcome) → IsDepots e → Tells log e → o ≡ e
walked_is (command.Create image tenant) s log o text w e b t = made_is image tenant s log o text w e b t
walked_is (command.Cat image tenant) s log o text w e b t = read_is image tenant s log o text w e b t
walked_is (command.Rotate bytes) s log o text w e b t = collected_is (job.Rotate bytes) log o text w e b t
walked_is (command.Migrate image) s log o text w e b t = moved_is image log o text w e b t
walked_is (command.Withdraw image) s log o text w e b t = collected_is (job.Withdraw image) log o text w e b t
walked_is (command.Expire root) s log o text w e b t = collected_is (job.Expire root) log o text w e b t
walked_is (command.Delete root) s log o text w e b t = collected_is (job.Delete root) log o text w e b t
walked_is (command.Sweep root) s log o text w e b t = collected_is (job.Sweep root) log o text w e b t
walked_is command.Roots s log o text w e b t = absurd (subst (λ (l : List LogEntry). IsOneOf l t.0) w.0 t.1)

-- The walk of a collection: which lists of depot calls the machine of a job may make, and what it then ends with.
use Rattle.std.specs.Prelude.{ℕ, zero, suc, List}
use Rattle.lr_spec.specs.Rose.{next_count}
use Rattle.lr_walk.specs.Walk.{Walks, Ends, Never}
use Rattle.lr_walk.specs.Depot.{Call, rotates, withdraws, expires, deletes, sweeps, settles, Step, Reply, removed, swept, memory, Asks}
use Rattle.lr_collector.specs.declared.collect.CollectJob.{CollectJob}
use Rattle.lr_collector.specs.declared.collect.CollectJob.TheVariants as job

-- what a collection ends with
pub data Ending : Type 0 where
  with_reply : (reply : Reply) → Ending
  with_count : (count : ℕ) → Ending
  with_memory : Ending

-- the call of a job
abbrev pub call_of : CollectJob → Call
call_of (job.Rotate bytes) = rotates bytes
call_of (job.Withdraw image) = withdraws image
call_of (job.Expire root) = expires root
call_of (job.Delete root) = deletes root
call_of (job.Sweep root) = sweeps root
call_of (job.Settle key) = settles key

-- what a reply ends a job of one call with
abbrev pub end_of : Reply → Ending
end_of memory = with_memory
end_of reply = with_reply reply

-- what a reply ends a sweep with that removed so many keys
abbrev pub sweep_end : ℕ → Reply → Ending
sweep_end count swept = with_count count
sweep_end count memory = with_memory
sweep_end count reply = with_reply reply

abbrev pub after_removal : Walks Step Ending → Reply → Walks Step Ending
after_removal more (removed key) = more
after_removal more reply = Never

abbrev pub after_last : ℕ → Reply → Walks Step Ending
after_last count (removed key) = Never
after_last count reply = Ends (sweep_end count reply)

-- a sweep that removed so many keys, and removes so many more
abbrev pub Removes : ℕ → ℕ → ℕ → Walks Step Ending
Removes root count zero = Asks (sweeps root) (after_last count)
Removes root count (suc left) = Asks (sweeps root) (after_removal (Removes root (next_count count) left))

-- A sweep that removed so many keys: it is repeated as long as a key is removed, however many there are.
abbrev pub Sweeps : ℕ → ℕ → Walks Step Ending
Sweeps root count steps ending = (left : ℕ) × Removes root count left steps ending

-- a sweep, or one call and its answer
abbrev pub Collects : CollectJob → Walks Step Ending
Collects (job.Sweep root) = Sweeps root 0
Collects j = Asks (call_of j) (λ reply. Ends (end_of reply))

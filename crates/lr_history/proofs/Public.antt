-- What the crates above cite: a trail over their table of jobs is one over what a history sees of the jobs, what follows for a
-- run, and facts on lists.
pub use Rattle.lr_history.proofs.Seen.{trail_seen, own_trail_seen}
pub use Rattle.lr_history.proofs.Facts.{all_append, all_weaker}
pub use Rattle.lr_history.proofs.Among.{first, later, find_passes}
pub use Rattle.lr_history.proofs.Entries.{planned_commits}
pub use Rattle.lr_history.proofs.Whole.{loaded, each_base, histories, answered_once, jobs_told, lists_follow}

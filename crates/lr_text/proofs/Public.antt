-- What the crates above cite: a word spells one key, one list of runs, and is cut at one place.
pub use Rattle.lr_text.proofs.Cuts.{cut_one, not_lacks}
pub use Rattle.lr_text.proofs.Keys.{one_key}
pub use Rattle.lr_text.proofs.Padding.{padded_take}
pub use Rattle.lr_text.proofs.RunWords.{one_runs}

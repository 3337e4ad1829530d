-- What the crates above cite: a chunk turned twice under one key is as it was.
pub use Rattle.lr_convergent.proofs.Twice.{chunk_twice}

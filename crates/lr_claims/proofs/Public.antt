-- What the crates above cite: what a cache's log says of claims, and lists in which a test finds elements.
pub use Rattle.lr_claims.proofs.Legal.{legal}
pub use Rattle.lr_claims.proofs.Own.{ones_own, held_own, refused_own, busy_own}
pub use Rattle.lr_claims.proofs.Few.{leads_few}
pub use Rattle.lr_claims.proofs.Hits.{without_all, found_all}

-- What the crates above cite: what is told of a reply, the machine gives as well.
pub use Rattle.lr_nodes.proofs.Ordered.{told_step}

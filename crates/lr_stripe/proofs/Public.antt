-- What the crates above cite: stripes at different indices are those of exactly one chunk, and a chunk has one stripe of each index.
pub use Rattle.lr_stripe.proofs.Chunks.{one_chunk, same_chunk, one_stripe, byte_at}

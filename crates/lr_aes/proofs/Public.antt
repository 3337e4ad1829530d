-- What the crates above cite: a stream that is added twice restores the text, and keeps its length.
pub use Rattle.lr_aes.proofs.Twice.{counter_twice, gcm_twice, length-with_stream}

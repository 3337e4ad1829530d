-- What the crates above cite: histories and logs with one entry more, a call that is planned and made, and pieces that
-- agree with a base.
pub use Rattle.lr_device.proofs.Histories.{history_push, run_push, length-bytes_after}
pub use Rattle.lr_device.proofs.Planned.{IsMade, is_made}
pub use Rattle.lr_device.proofs.Agreeing.{has_filled, agrees_join}

-- What the crates above cite: bytes spell one manifest, and lists of 32-byte rows.
pub use Rattle.lr_manifest.proofs.Unique.{unique, rows_long, long_names, same_rows}
pub use Rattle.lr_manifest.proofs.Unique.{count_small}

-- What the crates above cite: the laws of the field and of its polynomials.
pub use Rattle.lr_field.proofs.FieldLaws.{zero-product}
pub use Rattle.lr_field.proofs.Polynomials.{AreBytes_from, weighted_push}
pub use Rattle.lr_field.proofs.Fixed.{any_values, values_fix, is_field}

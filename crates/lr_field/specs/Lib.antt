pub mod Field
pub mod Polynomial
pub mod Laws
pub mod Weights

pub mod AllBelow
mod Computed
mod FieldLaws
mod Fixed
pub mod Public
pub mod Linear
mod Polynomials

pub mod Table
pub mod Fault
pub mod Denotation
pub mod Made

pub mod Objects
pub mod Table
pub mod Fuse
pub mod One
pub mod Kind
pub mod Text

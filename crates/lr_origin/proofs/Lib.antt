pub mod Tables
pub mod TextOrder
pub mod KeyTexts
pub mod Placed
pub mod Failing

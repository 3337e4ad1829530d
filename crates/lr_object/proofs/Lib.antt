pub mod Growth
pub mod OwnEntries
pub mod Found
pub mod Counted

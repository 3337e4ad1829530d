pub mod Trees
pub mod Aside
pub mod Downward
pub mod Ordered
pub mod Named
pub mod Fewer
pub mod Indexes

pub mod Arguments
pub mod Turns
pub mod Naming
pub mod Replacing
pub mod Tabled
pub mod Linked
pub mod Grouped
pub mod Unnamed

pub mod Statements
pub mod Facts
pub mod Growing
pub mod Turns
pub mod Ordered
pub mod Chains
pub mod Counted

pub mod Bounds
pub mod Chains
pub mod CodeWeight
pub mod Whole

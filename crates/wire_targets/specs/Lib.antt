pub mod Paths
pub mod Next
pub mod Targets

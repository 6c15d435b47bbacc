pub mod Report
pub mod Bare
pub mod Computed
pub mod Rows

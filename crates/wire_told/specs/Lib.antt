pub mod Cuts
pub mod View

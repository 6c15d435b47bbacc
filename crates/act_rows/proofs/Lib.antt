pub mod Formed
pub mod FirstRunFormed

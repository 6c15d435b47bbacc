pub mod Cuts
pub mod Loops
pub mod Refusals
pub mod Scopes

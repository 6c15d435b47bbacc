mod Each
pub mod Found
mod Named
mod Parts
pub mod Refusals
pub mod Told

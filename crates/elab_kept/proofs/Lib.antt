pub mod Steps
pub mod Places
pub mod Parts
pub mod Walk
pub mod Law

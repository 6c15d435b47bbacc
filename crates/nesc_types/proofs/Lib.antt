pub mod Casts
pub mod Found
pub mod Places

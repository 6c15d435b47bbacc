pub mod Needs
pub mod Opened
pub mod Places

pub mod Labels
pub mod Made
pub mod Places
pub mod Good
pub mod Standing

pub mod Offsets
pub mod Typed
pub mod Labels
pub mod Values

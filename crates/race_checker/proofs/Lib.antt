pub mod Keeps
pub mod Places
pub mod Bodies
pub mod Roots
pub mod OfRuns
pub mod Laid
pub mod Computed
pub mod Ordered

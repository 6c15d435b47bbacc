pub mod Lists
pub mod Aligned
pub mod Parts
pub mod Keeps
pub mod Places
pub mod Bodies
pub mod Objects
pub mod Accesses

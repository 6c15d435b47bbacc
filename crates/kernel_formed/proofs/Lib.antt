pub mod Alone
pub mod Formed
pub mod Own
pub mod Typed
